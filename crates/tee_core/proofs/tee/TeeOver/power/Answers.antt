use Rattle.std.proofs.Common.{◌≡◌, ◌∙◌, Bool, true, not, List, Option, Some, refl, sym, ap, subst, arith}
use Rattle.std.specs.List.{position}
use Rattle.std.specs.Prelude.{IfNone, IfSome, slice_get}
use Rattle.app_side.specs.Represents.{has_doubt}
use Rattle.app_side.specs.declared.side.AppSide.{AppSide as Side}
use Rattle.epoch.specs.Mounts.{IsReopened, TakesUp}
use Rattle.epoch.specs.Opening.{found_header}
use Rattle.epoch.specs.declared.header.Header.{Header}
use Rattle.tee_core.specs.Sides.{AreBooted, AreLost, IsNoneInDoubt}
use Rattle.tee_core.proofs.Backs.{order_left, power_reads, power_stands, power_told, shown_kept, tells_found, unread_power}
use Rattle.tee_core.proofs.Counts.{mapped_length}
use Rattle.tee_core.proofs.DirectoryLemmas.{held_none}
use Rattle.tee_core.proofs.Powers.{always_sound, stand_refused, within_power}
use Rattle.tee_core.proofs.SideLemmas.{turns_mapped}
use Rattle.tee_core.proofs.tee.TeeOver.power.Goals as goal

-- ---- the volume is opened again

pub invariant_of-self : goal.invariant_of-self
invariant_of-self g c =
    let tee = c.args.self.now in
    record {
      few = omega (arith, tee.few, mapped_length c.restart_all.new.sides.items tee.sides.items c.restart_all.ensures.turns);
      served = subst (λ (b : Bool). AreLost b c.restart_all.new.sides.items) (sym c.in-Ok.ensures.back.works) c.restart_all.ensures.lost;
      booted = subst (λ n. AreBooted n c.restart_all.new.sides.items) (sym c.restart_all.ensures.boots) c.restart_all.ensures.booted;
    }

pub returns-in-Ok-clause-moments : goal.returns-in-Ok-clause-moments
returns-in-Ok-clause-moments g c = λ world whole.
    let tee = c.args.self.now in
    let after = c.in-Ok.ensures.opened (g.met.V.BoardVolume.honest_board tee.volume whole.stand.honest)
    (always_sound g.V.Volume.keeper g.met.V.Volume.rests g.met.V.Volume.since_earlier g.A.Application.behaviour tee.sides.items world tee.volume c.power.new.self whole.stand
    g.V.BoardVolume.form (g.met.V.BoardVolume.written tee.volume whole.stand.honest)) in
    within_power g.V.Volume.keeper g.met.V.Volume.rests g.met.V.Volume.since_earlier g.A.Application.behaviour tee.sides.items world tee.volume c.power.new.self whole.stand after.again.leaves

pub returns-in-Ok-clause-boots : goal.returns-in-Ok-clause-boots
returns-in-Ok-clause-boots g c = c.restart_all.ensures.boots

-- the volume as it was opened again, and the world behind it
pub returns-in-Ok-clause-restarted : goal.returns-in-Ok-clause-restarted
returns-in-Ok-clause-restarted g c = λ world whole.
    let tee = c.args.self.now in
    let after = c.in-Ok.ensures.opened (g.met.V.BoardVolume.honest_board tee.volume whole.stand.honest)
    (always_sound g.V.Volume.keeper g.met.V.Volume.rests g.met.V.Volume.since_earlier g.A.Application.behaviour tee.sides.items world tee.volume c.power.new.self whole.stand
    g.V.BoardVolume.form (g.met.V.BoardVolume.written tee.volume whole.stand.honest)) in
    let none = subst (λ (ss : List (Side g.row.A.Denot)). IfNone c.owner_of_doubt-owner.result (IsNoneInDoubt ss)) c.as_slice.ensures.value c.owner_of_doubt-owner.ensures.none in
    let some = subst (λ (ss : List (Side g.row.A.Denot)). IfSome c.owner_of_doubt-owner.result (λ o. (side : Side g.row.A.Denot) × (slice_get ss o ≡ Some side) × (has_doubt side ≡ true)))
    c.as_slice.ensures.value c.owner_of_doubt-owner.ensures.some in
    let stands = power_stands g.V.Volume.keeper g.met.V.Volume.rests g.met.V.Volume.since_earlier g.A.Application.behaviour tee.sides.items world tee.volume c.power.new.self whole.stand
    c.owner_of_doubt-owner.result none some
    c.sequence-acknowledged.result c.in-Ok.found c.power_of.result after.again c.sequence-acknowledged.ensures c.in-Ok.ensures.back.sequence c.power_of.ensures
    c.owner_kept-taken.result c.restart_all.new.sides.items c.owner_kept-taken.ensures (c.restart_all.ensures.sides world whole.stand.sides_are) c.in-Ok.ensures.back.works in
    record {
      world = record { stand = stands; held = held_none (g.V.Volume.keeper.held c.power.new.self).leaves c.none.result.places c.none.ensures };
      told = power_told g.V.Volume.keeper g.met.V.Volume.rests g.met.V.Volume.since_earlier g.A.Application.behaviour tee.sides.items world tee.volume c.power.new.self whole.stand
          c.owner_of_doubt-owner.result none some
          c.sequence-acknowledged.result c.in-Ok.found c.power_of.result after.again c.sequence-acknowledged.ensures c.in-Ok.ensures.back.sequence c.power_of.ensures;
      left = order_left g.V.Volume.keeper g.V.BoardVolume.form _ _ c.in-Ok.found tee.volume c.power.new.self after c.restart_all.new.sides.items _ stands;
      unwritten = c.in-Ok.ensures.writes (ap (λ (b : Bool). not b) after.again.kept);
      reads = power_reads _ _ (c.in-Ok.ensures.honest (g.met.V.BoardVolume.honest_board tee.volume whole.stand.honest)).1.begins (ap (λ (b : Bool). not b) after.again.kept);
    }

pub returns-in-Ok-clause-calls : goal.returns-in-Ok-clause-calls
returns-in-Ok-clause-calls g c = c.in-Ok.ensures.calls

pub returns-in-Ok-clause-honest : goal.returns-in-Ok-clause-honest
returns-in-Ok-clause-honest g c = λ honest.
    let is = c.in-Ok.ensures.honest honest in
    let then = g.B.Board.view (g.V.BoardVolume.board_of c.power.new.self) in
    let form = g.V.BoardVolume.form in
    let admitted = is.1.exact.1 in
    let header : Option Header = found_header admitted.0 in
    let takes : IsReopened form c.in-Ok.found (g.V.BoardVolume.root c.power.new.self) header = admitted.2 in
    let first : c.owner_of_doubt-owner.result ≡ position (λ (s : Side g.row.A.Denot). has_doubt s) c.args.self.now.sides.items
    = c.owner_of_doubt-owner.ensures.first ∙ ap (λ (ss : List (Side g.row.A.Denot)). position (λ (s : Side g.row.A.Denot). has_doubt s) ss) c.as_slice.ensures.value in (
      is.0,
      record {
        begins = unread_power _ _ is.1.begins;
        past = is.1.past;
        exact = (
          tt,
          (
            admitted.0,
            admitted.1,
            record {
              taken = subst (λ n. TakesUp form header 0 n (g.V.BoardVolume.root c.power.new.self)) (sym c.in-Ok.ensures.back.sequence) takes.1;
              told = tells_found form.version c.in-Ok.found header c.owner_of_doubt-owner.result _ c.sequence-acknowledged.result _ c.power_of.result takes.0 first
                  c.sequence-acknowledged.ensures c.power_of.ensures;
              unwritten = λ kept. c.in-Ok.ensures.writes (shown_kept form.version c.in-Ok.found header takes.0 kept);
              reads = λ kept. power_reads _ _ is.1.begins (shown_kept form.version c.in-Ok.found header takes.0 kept);
            },
          ),
        );
        holds = λ h held. let keeps = is.1.holds h held in record { made = keeps.made; rests = keeps.rests; leaves = keeps.leaves };
        counter = is.1.counter;
        refusal = tt;
      },
    )

pub returns-in-Ok-clause-kept : goal.returns-in-Ok-clause-kept
returns-in-Ok-clause-kept g c = record {
  apps = mapped_length c.restart_all.new.sides.items c.args.self.now.sides.items c.restart_all.ensures.turns;
  turns = turns_mapped c.restart_all.new.sides.items c.args.self.now.sides.items c.restart_all.ensures.turns;
}

-- ---- it isn't

pub invariant_of-self-in-Err : goal.invariant_of-self-in-Err
invariant_of-self-in-Err g c =
    let tee = c.args.self.now in
    record {
      few = omega (arith, tee.few, mapped_length c.lose_all.new.sides.items tee.sides.items c.lose_all.ensures.turns);
      served = subst (λ (b : Bool). AreLost b c.lose_all.new.sides.items) (sym c.in-Err.ensures.back.lost) c.lose_all.ensures.lost;
      booted = c.lose_all.ensures.boots tee.boots tee.booted;
    }

pub returns-in-Err-clause-moments : goal.returns-in-Err-clause-moments
returns-in-Err-clause-moments g c = λ world whole.
    let tee = c.args.self.now in
    let after = c.in-Err.ensures.opened (g.met.V.BoardVolume.honest_board tee.volume whole.stand.honest)
    (always_sound g.V.Volume.keeper g.met.V.Volume.rests g.met.V.Volume.since_earlier g.A.Application.behaviour tee.sides.items world tee.volume c.power.new.self whole.stand
    g.V.BoardVolume.form (g.met.V.BoardVolume.written tee.volume whole.stand.honest)) in
    within_power g.V.Volume.keeper g.met.V.Volume.rests g.met.V.Volume.since_earlier g.A.Application.behaviour tee.sides.items world tee.volume c.power.new.self whole.stand after.again.leaves

pub returns-in-Err-clause-same_boots : goal.returns-in-Err-clause-same_boots
returns-in-Err-clause-same_boots g c = refl

pub returns-in-Err-clause-calls : goal.returns-in-Err-clause-calls
returns-in-Err-clause-calls g c = c.in-Err.ensures.calls

pub returns-in-Err-clause-honest : goal.returns-in-Err-clause-honest
returns-in-Err-clause-honest g c = λ honest.
    let is = c.in-Err.ensures.honest honest in (
      is.0,
      record {
        begins = is.1.begins;
        past = is.1.past;
        exact = (is.1.exact.0, tt);
        holds = λ h held. let keeps = is.1.holds h held in record { made = tt; rests = tt; leaves = keeps.leaves };
        counter = tt;
        refusal = is.1.refusal;
      },
    )

pub returns-in-Err-clause-refused : goal.returns-in-Err-clause-refused
returns-in-Err-clause-refused g c = λ world whole.
    let tee = c.args.self.now in
    let after = c.in-Err.ensures.opened (g.met.V.BoardVolume.honest_board tee.volume whole.stand.honest)
    (always_sound g.V.Volume.keeper g.met.V.Volume.rests g.met.V.Volume.since_earlier g.A.Application.behaviour tee.sides.items world tee.volume c.power.new.self whole.stand
    g.V.BoardVolume.form (g.met.V.BoardVolume.written tee.volume whole.stand.honest)) in (
      after.again.failed,
      record {
        stand = stand_refused g.V.Volume.keeper g.met.V.Volume.rests g.met.V.Volume.since_earlier g.A.Application.behaviour tee.sides.items world tee.volume c.power.new.self whole.stand
            c.lose_all.new.sides.items (c.lose_all.ensures.sides world whole.stand.sides_are) (after.again.honest whole.stand.honest) (after.again.same whole.stand.honest)
            c.in-Err.ensures.back.lost after.again.leaves;
        held = held_none (g.V.Volume.keeper.held c.power.new.self).leaves c.none.result.places c.none.ensures;
      },
    )

pub returns-in-Err-clause-kept : goal.returns-in-Err-clause-kept
returns-in-Err-clause-kept g c = record {
  apps = mapped_length c.lose_all.new.sides.items c.args.self.now.sides.items c.lose_all.ensures.turns;
  turns = turns_mapped c.lose_all.new.sides.items c.args.self.now.sides.items c.lose_all.ensures.turns;
}
