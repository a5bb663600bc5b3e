use Rattle.std.proofs.Common.{set, refl, ap, ◌∙◌, arith}
use Rattle.app_side.specs.Represents.{is_lost}
use Rattle.app_side.specs.declared.side.AppSide.{AppSide as Side}
use Rattle.tee_core.proofs.Advancing.{change_all, may_all, moved_lost, moved_plain, replies_all, served_lost, served_plain, sound_all, within_all}
use Rattle.tee_core.proofs.DirectoryLemmas.{held_none}
use Rattle.tee_core.proofs.Counts.{booted_kept, mapped_length, set_length, turns_apart, turns_one}
use Rattle.tee_core.proofs.SideLemmas.{lost_at, turns_here}
use Rattle.tee_core.proofs.Turning.{below_kept, counts_kept, damage_met}
use Rattle.tee_core.proofs.tee.TeeOver.advance.Goals as goal

pub turn_over-kind-requires-clause-loss : goal.turn_over-kind-requires-clause-loss
turn_over-kind-requires-clause-loss g c =
    let items = c.args.self.now.sides.items in
    ap (λ (s : Side g.row.A.Denot). is_lost s) c.index_mut.ensures.value ∙ lost_at (g.V.Volume.keeper.condition c.args.self.now.volume).lost items c.args.app _ c.args.self.now.served c.requires.known

-- ---- the storage is lost

pub invariant_of-self-clause-few : goal.invariant_of-self-clause-few
invariant_of-self-clause-few g c =
    let items = c.args.self.now.sides.items in
    omega (
      arith,
      c.args.self.now.few,
      mapped_length c.lose_all.new.sides.items (set items c.args.app c.turn_over-kind.new.side) c.lose_all.ensures.turns,
      set_length items c.args.app c.turn_over-kind.new.side,
    )

pub invariant_of-self-clause-served : goal.invariant_of-self-clause-served
invariant_of-self-clause-served g c =
    let items = c.args.self.now.sides.items in
    served_lost g.V.Volume.keeper g.met.V.Volume.rests g.met.V.Volume.since_earlier g.A.Application.behaviour items c.args.app c.args.instance c.turn_over-kind.result.0
    c.turn_over-kind.new.replies c.args.self.now.kept.places c.put.new.self.places c.take-kept.result c.turn_over-kind.result.1 c.index_mut.result.now _ c.turn_over-kind.new.side
    c.args.self.now.volume c.turn_over-kind.new.volume c.requires.known
    c.index_mut.ensures.value c.take-kept.ensures.taken c.put.ensures.own
    (λ other apart. c.put.ensures.others other apart ∙ c.take-kept.ensures.others other apart) c.turn_over-kind.ensures.turn c.in-Lost.change c.in-Lost.is
    c.lose_all.new.sides.items c.lose_all.ensures.lost

pub invariant_of-self-clause-booted : goal.invariant_of-self-clause-booted
invariant_of-self-clause-booted g c =
    let items = c.args.self.now.sides.items in
    c.lose_all.ensures.boots c.args.self.now.boots (booted_kept c.args.self.now.boots items c.args.app c.index_mut.result.now _ c.turn_over-kind.new.side c.args.self.now.booted
    c.requires.known c.index_mut.ensures.value c.turn_over-kind.ensures.boot)

pub returns-in-Lost-clause-change : goal.returns-in-Lost-clause-change
returns-in-Lost-clause-change g c =
    let items = c.args.self.now.sides.items in
    change_all g.V.Volume.keeper g.met.V.Volume.rests g.met.V.Volume.since_earlier g.A.Application.behaviour items c.args.app c.args.instance c.turn_over-kind.result.0
    c.turn_over-kind.new.replies c.args.self.now.kept.places c.put.new.self.places c.take-kept.result c.turn_over-kind.result.1 c.index_mut.result.now _ c.turn_over-kind.new.side
    c.args.self.now.volume c.turn_over-kind.new.volume c.requires.known
    c.index_mut.ensures.value c.take-kept.ensures.taken c.put.ensures.own
    (λ other apart. c.put.ensures.others other apart ∙ c.take-kept.ensures.others other apart) c.turn_over-kind.ensures.turn

pub returns-in-Lost-clause-turns : goal.returns-in-Lost-clause-turns
returns-in-Lost-clause-turns g c =
    let items = c.args.self.now.sides.items in
    turns_one items c.lose_all.new.sides.items c.args.app c.index_mut.result.now _ c.turn_over-kind.new.side c.requires.known c.index_mut.ensures.value
    c.turn_over-kind.ensures.turns c.lose_all.ensures.turns

pub returns-in-Lost-clause-replies : goal.returns-in-Lost-clause-replies
returns-in-Lost-clause-replies g c =
    let items = c.args.self.now.sides.items in
    replies_all g.V.Volume.keeper g.met.V.Volume.rests g.met.V.Volume.since_earlier g.A.Application.behaviour items c.args.app c.args.instance c.turn_over-kind.result.0
    c.turn_over-kind.new.replies c.args.self.now.kept.places c.put.new.self.places c.take-kept.result c.turn_over-kind.result.1 c.index_mut.result.now _ c.turn_over-kind.new.side
    c.args.self.now.volume c.turn_over-kind.new.volume c.requires.known
    c.index_mut.ensures.value c.take-kept.ensures.taken c.put.ensures.own
    (λ other apart. c.put.ensures.others other apart ∙ c.take-kept.ensures.others other apart) c.turn_over-kind.ensures.turn

-- ---- it isn't

pub invariant_of-self-in_default-clause-served : goal.invariant_of-self-in_default-clause-served
invariant_of-self-in_default-clause-served g c =
    let items = c.args.self.now.sides.items in
    served_plain g.V.Volume.keeper g.met.V.Volume.rests g.met.V.Volume.since_earlier g.A.Application.behaviour items c.args.app c.args.instance c.turn_over-kind.result.0
    c.turn_over-kind.new.replies c.args.self.now.kept.places c.put.new.self.places c.take-kept.result c.turn_over-kind.result.1 c.index_mut.result.now _ c.turn_over-kind.new.side
    c.args.self.now.volume c.turn_over-kind.new.volume c.requires.known
    c.index_mut.ensures.value c.take-kept.ensures.taken c.put.ensures.own
    (λ other apart. c.put.ensures.others other apart ∙ c.take-kept.ensures.others other apart) c.turn_over-kind.ensures.turn c.in_default.not-Lost c.args.self.now.served

pub invariant_of-self-in_default-clause-booted : goal.invariant_of-self-in_default-clause-booted
invariant_of-self-in_default-clause-booted g c =
    let items = c.args.self.now.sides.items in
    booted_kept c.args.self.now.boots items c.args.app c.index_mut.result.now _ c.turn_over-kind.new.side c.args.self.now.booted c.requires.known c.index_mut.ensures.value
    c.turn_over-kind.ensures.boot

pub returns-in_default-clause-change : goal.returns-in_default-clause-change
returns-in_default-clause-change g c =
    let items = c.args.self.now.sides.items in
    change_all g.V.Volume.keeper g.met.V.Volume.rests g.met.V.Volume.since_earlier g.A.Application.behaviour items c.args.app c.args.instance c.turn_over-kind.result.0
    c.turn_over-kind.new.replies c.args.self.now.kept.places c.put.new.self.places c.take-kept.result c.turn_over-kind.result.1 c.index_mut.result.now _ c.turn_over-kind.new.side
    c.args.self.now.volume c.turn_over-kind.new.volume c.requires.known
    c.index_mut.ensures.value c.take-kept.ensures.taken c.put.ensures.own
    (λ other apart. c.put.ensures.others other apart ∙ c.take-kept.ensures.others other apart) c.turn_over-kind.ensures.turn

pub returns-in_default-clause-turns : goal.returns-in_default-clause-turns
returns-in_default-clause-turns g c =
    let items = c.args.self.now.sides.items in
    turns_one items (set items c.args.app c.turn_over-kind.new.side) c.args.app c.index_mut.result.now _ c.turn_over-kind.new.side c.requires.known c.index_mut.ensures.value
    c.turn_over-kind.ensures.turns refl

pub returns-in_default-clause-replies : goal.returns-in_default-clause-replies
returns-in_default-clause-replies g c =
    let items = c.args.self.now.sides.items in
    replies_all g.V.Volume.keeper g.met.V.Volume.rests g.met.V.Volume.since_earlier g.A.Application.behaviour items c.args.app c.args.instance c.turn_over-kind.result.0
    c.turn_over-kind.new.replies c.args.self.now.kept.places c.put.new.self.places c.take-kept.result c.turn_over-kind.result.1 c.index_mut.result.now _ c.turn_over-kind.new.side
    c.args.self.now.volume c.turn_over-kind.new.volume c.requires.known
    c.index_mut.ensures.value c.take-kept.ensures.taken c.put.ensures.own
    (λ other apart. c.put.ensures.others other apart ∙ c.take-kept.ensures.others other apart) c.turn_over-kind.ensures.turn

pub turn_over-kind-requires-clause-few : goal.turn_over-kind-requires-clause-few
turn_over-kind-requires-clause-few g c =
    let here = turns_here c.args.self.now.sides.items c.args.app c.index_mut.result.now _ c.requires.known c.index_mut.ensures.value in
    omega (arith, here, c.requires.room)

pub returns-in-Lost-clause-made : goal.returns-in-Lost-clause-made
returns-in-Lost-clause-made g c =
    let items = c.args.self.now.sides.items in
    record {
      world =
          moved_lost g.V.Volume.keeper g.met.V.Volume.rests g.met.V.Volume.since_earlier g.A.Application.behaviour items c.args.app c.args.instance c.turn_over-kind.result.0
          c.turn_over-kind.new.replies c.args.self.now.kept.places c.put.new.self.places c.take-kept.result c.turn_over-kind.result.1 c.index_mut.result.now _ c.turn_over-kind.new.side
          c.args.self.now.volume c.turn_over-kind.new.volume c.requires.known
          c.index_mut.ensures.value c.take-kept.ensures.taken c.put.ensures.own
          (λ other apart. c.put.ensures.others other apart ∙ c.take-kept.ensures.others other apart) c.turn_over-kind.ensures.turn c.in-Lost.change c.in-Lost.is
          c.lose_all.new.sides.items c.none.result.places
          c.lose_all.ensures.sides (held_none (g.V.Volume.keeper.held c.turn_over-kind.new.volume).leaves c.none.result.places c.none.ensures);
      stands =
          may_all g.V.Volume.keeper g.met.V.Volume.rests g.met.V.Volume.since_earlier g.A.Application.behaviour items c.args.app c.args.instance c.turn_over-kind.result.0
          c.turn_over-kind.new.replies c.args.self.now.kept.places c.put.new.self.places c.take-kept.result c.turn_over-kind.result.1 c.index_mut.result.now _ c.turn_over-kind.new.side
          c.args.self.now.volume c.turn_over-kind.new.volume c.requires.known
          c.index_mut.ensures.value c.take-kept.ensures.taken c.put.ensures.own
          (λ other apart. c.put.ensures.others other apart ∙ c.take-kept.ensures.others other apart) c.turn_over-kind.ensures.turn;
      sound =
          sound_all g.V.Volume.keeper g.met.V.Volume.rests g.met.V.Volume.since_earlier g.A.Application.behaviour items c.args.app c.args.instance c.turn_over-kind.result.0
          c.turn_over-kind.new.replies c.args.self.now.kept.places c.put.new.self.places c.take-kept.result c.turn_over-kind.result.1 c.index_mut.result.now _ c.turn_over-kind.new.side
          c.args.self.now.volume c.turn_over-kind.new.volume c.requires.known
          c.index_mut.ensures.value c.take-kept.ensures.taken c.put.ensures.own
          (λ other apart. c.put.ensures.others other apart ∙ c.take-kept.ensures.others other apart) c.turn_over-kind.ensures.turn;
      moments =
          within_all g.V.Volume.keeper g.met.V.Volume.rests g.met.V.Volume.since_earlier g.A.Application.behaviour items c.args.app c.args.instance c.turn_over-kind.result.0
          c.turn_over-kind.new.replies c.args.self.now.kept.places c.put.new.self.places c.take-kept.result c.turn_over-kind.result.1 c.index_mut.result.now _ c.turn_over-kind.new.side
          c.args.self.now.volume c.turn_over-kind.new.volume c.requires.known
          c.index_mut.ensures.value c.take-kept.ensures.taken c.put.ensures.own
          (λ other apart. c.put.ensures.others other apart ∙ c.take-kept.ensures.others other apart) c.turn_over-kind.ensures.turn;
      damage =
          damage_met g.V.Volume.keeper g.A.Application.behaviour c.args.app c.args.instance c.turn_over-kind.result.0 c.turn_over-kind.new.replies c.index_mut.result.now
          c.turn_over-kind.new.side c.take-kept.result c.turn_over-kind.result.1 c.args.self.now.volume c.turn_over-kind.new.volume c.turn_over-kind.ensures.turn;
      counts =
          counts_kept g.V.Volume.keeper g.A.Application.behaviour c.args.app c.args.instance c.turn_over-kind.result.0 c.turn_over-kind.new.replies c.index_mut.result.now
          c.turn_over-kind.new.side c.take-kept.result c.turn_over-kind.result.1 c.args.self.now.volume c.turn_over-kind.new.volume c.turn_over-kind.ensures.turn;
      below =
          below_kept g.V.Volume.keeper g.A.Application.behaviour c.args.app c.args.instance c.turn_over-kind.result.0 c.turn_over-kind.new.replies c.index_mut.result.now
          c.turn_over-kind.new.side c.take-kept.result c.turn_over-kind.result.1 c.args.self.now.volume c.turn_over-kind.new.volume c.turn_over-kind.ensures.turn;
    }

pub returns-in-Lost-clause-kept : goal.returns-in-Lost-clause-kept
returns-in-Lost-clause-kept g c =
    let items = c.args.self.now.sides.items in
    record {
      apps =
          mapped_length c.lose_all.new.sides.items (set items c.args.app c.turn_over-kind.new.side) c.lose_all.ensures.turns ∙ set_length items c.args.app c.turn_over-kind.new.side;
      others = λ other apart. turns_apart items c.lose_all.new.sides.items c.args.app other c.turn_over-kind.new.side apart c.lose_all.ensures.turns;
      boots = refl;
    }

pub returns-in_default-clause-made : goal.returns-in_default-clause-made
returns-in_default-clause-made g c =
    let items = c.args.self.now.sides.items in
    record {
      world =
          moved_plain g.V.Volume.keeper g.met.V.Volume.rests g.met.V.Volume.since_earlier g.A.Application.behaviour items c.args.app c.args.instance c.turn_over-kind.result.0
          c.turn_over-kind.new.replies c.args.self.now.kept.places c.put.new.self.places c.take-kept.result c.turn_over-kind.result.1 c.index_mut.result.now _ c.turn_over-kind.new.side
          c.args.self.now.volume c.turn_over-kind.new.volume c.requires.known
          c.index_mut.ensures.value c.take-kept.ensures.taken c.put.ensures.own
          (λ other apart. c.put.ensures.others other apart ∙ c.take-kept.ensures.others other apart) c.turn_over-kind.ensures.turn c.in_default.not-Lost;
      stands =
          may_all g.V.Volume.keeper g.met.V.Volume.rests g.met.V.Volume.since_earlier g.A.Application.behaviour items c.args.app c.args.instance c.turn_over-kind.result.0
          c.turn_over-kind.new.replies c.args.self.now.kept.places c.put.new.self.places c.take-kept.result c.turn_over-kind.result.1 c.index_mut.result.now _ c.turn_over-kind.new.side
          c.args.self.now.volume c.turn_over-kind.new.volume c.requires.known
          c.index_mut.ensures.value c.take-kept.ensures.taken c.put.ensures.own
          (λ other apart. c.put.ensures.others other apart ∙ c.take-kept.ensures.others other apart) c.turn_over-kind.ensures.turn;
      sound =
          sound_all g.V.Volume.keeper g.met.V.Volume.rests g.met.V.Volume.since_earlier g.A.Application.behaviour items c.args.app c.args.instance c.turn_over-kind.result.0
          c.turn_over-kind.new.replies c.args.self.now.kept.places c.put.new.self.places c.take-kept.result c.turn_over-kind.result.1 c.index_mut.result.now _ c.turn_over-kind.new.side
          c.args.self.now.volume c.turn_over-kind.new.volume c.requires.known
          c.index_mut.ensures.value c.take-kept.ensures.taken c.put.ensures.own
          (λ other apart. c.put.ensures.others other apart ∙ c.take-kept.ensures.others other apart) c.turn_over-kind.ensures.turn;
      moments =
          within_all g.V.Volume.keeper g.met.V.Volume.rests g.met.V.Volume.since_earlier g.A.Application.behaviour items c.args.app c.args.instance c.turn_over-kind.result.0
          c.turn_over-kind.new.replies c.args.self.now.kept.places c.put.new.self.places c.take-kept.result c.turn_over-kind.result.1 c.index_mut.result.now _ c.turn_over-kind.new.side
          c.args.self.now.volume c.turn_over-kind.new.volume c.requires.known
          c.index_mut.ensures.value c.take-kept.ensures.taken c.put.ensures.own
          (λ other apart. c.put.ensures.others other apart ∙ c.take-kept.ensures.others other apart) c.turn_over-kind.ensures.turn;
      damage =
          damage_met g.V.Volume.keeper g.A.Application.behaviour c.args.app c.args.instance c.turn_over-kind.result.0 c.turn_over-kind.new.replies c.index_mut.result.now
          c.turn_over-kind.new.side c.take-kept.result c.turn_over-kind.result.1 c.args.self.now.volume c.turn_over-kind.new.volume c.turn_over-kind.ensures.turn;
      counts =
          counts_kept g.V.Volume.keeper g.A.Application.behaviour c.args.app c.args.instance c.turn_over-kind.result.0 c.turn_over-kind.new.replies c.index_mut.result.now
          c.turn_over-kind.new.side c.take-kept.result c.turn_over-kind.result.1 c.args.self.now.volume c.turn_over-kind.new.volume c.turn_over-kind.ensures.turn;
      below =
          below_kept g.V.Volume.keeper g.A.Application.behaviour c.args.app c.args.instance c.turn_over-kind.result.0 c.turn_over-kind.new.replies c.index_mut.result.now
          c.turn_over-kind.new.side c.take-kept.result c.turn_over-kind.result.1 c.args.self.now.volume c.turn_over-kind.new.volume c.turn_over-kind.ensures.turn;
    }

pub returns-in_default-clause-kept : goal.returns-in_default-clause-kept
returns-in_default-clause-kept g c =
    let items = c.args.self.now.sides.items in
    record {
      apps =
          set_length c.args.self.now.sides.items c.args.app c.turn_over-kind.new.side;
      others = λ other apart. turns_apart items (set items c.args.app c.turn_over-kind.new.side) c.args.app other c.turn_over-kind.new.side apart refl;
      boots = refl;
    }
