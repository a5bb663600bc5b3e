use Rattle.std.proofs.Common.{◌≡◌, ◌∙◌, true, find, is_some, refl, sym, ap, subst}
use Rattle.tee_base.specs.declared.codes.Origin.TheVariants.{Tee}
use Rattle.tee_base.specs.declared.codes.TheConstants.Code.{OUT_OF_MEMORY}
use Rattle.object_asks.specs.Serving.{CrashTurns, HasStatus, IsUndamaged, SaysChange, ShowsDamage}
use Rattle.object_asks.specs.declared.turn.TurnKind.{TurnKind as StoreKind}
use Rattle.alone.specs.declared.turn.TurnKind.{TurnKind}
use Rattle.alone.specs.Kinds.{kind_by}
use Rattle.alone.specs.Machine.{Machine, is_number}
use Rattle.alone.specs.Step.{Stepped, is_changing, after_starved_turn, step}
use Rattle.app_side.specs.Represents.{event_of, IsStep, Represents, machine_of}
use Rattle.app_side.specs.Serving.{IsTurn}
use Rattle.app_side.proofs.Starving.{starving_crash}
use Rattle.app_side.proofs.Stored.{step_replies, step_stands}
use Rattle.app_side.proofs.TurnLemmas.{kind_back, not_starved, step_represents, step_store, turn_change, turn_may_stand, turn_stands}
use Rattle.app_side.proofs.side.AppSide.take_turn.Goals as goal

pub returns-in-Ok-clause-turn : goal.returns-in-Ok-clause-turn
returns-in-Ok-clause-turn g c =
    let t = g.T.AppStore.keeper in
    let a = g.A.Application.behaviour in
    let old = c.args.store.now in
    let new = c.advance.new.store in
    let kind = c.in-Ok.kind in
    let is = c.in-Ok.ensures.kind in
    let steps = c.in-Ok.ensures.step in
    let each : t.has_model old → (m : Machine g.row.A.Denot) → Represents c.args.self.now m → m.store ≡ (t.contents old).store →
    IsStep c.advance.new.self (t.contents new).store c.advance.new.replies (step a m (event_of (kind_by kind) c.args.instance))
    = λ there m stands kept. turn_stands a c.args.self.now kind c.args.instance (t.contents old).store (IsStep c.advance.new.self (t.contents new).store c.advance.new.replies)
    (steps there c.requires.loss) m stands kept in
    let turn : IsTurn t a c.args.instance (kind_by kind) c.advance.new.replies c.args.self.now c.advance.new.self old new = record {
      step = λ there m stands kept. step_represents c.advance.new.self (t.contents new).store c.advance.new.replies (step a m (event_of (kind_by kind) c.args.instance)) (each there m stands kept);
      store = λ there m stands kept. step_store c.advance.new.self (t.contents new).store c.advance.new.replies (step a m (event_of (kind_by kind) c.args.instance)) (each there m stands kept);
      told = λ there m stands kept. (each there m stands kept).replies;
      stands = λ there m stands kept. turn_may_stand c.args.self.now (t.contents old).store kind c.args.instance _ _ c.requires.loss is.status (is.stands there) m stands kept;
      change = λ m stands. subst (λ (k : StoreKind). SaysChange k (is_changing m c.args.instance)) (kind_back kind) (turn_change c.args.self.now kind c.args.instance is.change m stands);
      status = subst (λ (k : StoreKind). HasStatus k (t.status old) (t.status new)) (kind_back kind) is.status;
      damage = subst (λ (k : StoreKind). ShowsDamage k (t.damage new)) (kind_back kind) is.damage;
      honest = λ h. ((is.honest h).0, subst (λ (k : StoreKind). IsUndamaged k) (kind_back kind) (is.honest h).1);
      lost = is.lost c.requires.loss;
      starved = not_starved kind _;
      keeps = is.keeps;
      crash = λ honest just m stands kept. subst (λ (k : StoreKind). CrashTurns t k (step a m (event_of (kind_by kind) c.args.instance)).machine.in_doubt old new) (kind_back kind)
          (turn_stands a c.args.self.now kind c.args.instance (t.contents old).store (λ s. CrashTurns t kind s.machine.in_doubt old new) (c.in-Ok.ensures.crash honest just) m stands kept);
    } in
    subst (λ (k : TurnKind). IsTurn t a c.args.instance k c.advance.new.replies c.args.self.now c.advance.new.self old new) (sym c.of.ensures) turn

pub returns-in-Err-clause-turn : goal.returns-in-Err-clause-turn
returns-in-Err-clause-turn g c =
    let t = g.T.AppStore.keeper in
    let i = c.args.instance in
    let side = c.args.self.now in
    let new = c.tear_down.new.self in
    let old_store = c.args.store.now in
    let new_store = c.advance.new.store in
    let want = c.in-Err.ensures.want in
    let starves = c.in-Err.ensures.starves in
    let machine : t.has_model old_store → machine_of new ≡ (after_starved_turn (machine_of side) i).machine = λ there.
    c.tear_down.ensures.machine ∙ ap (λ (s : Stepped g.row.A.Denot). s.machine) (starves.alike there c.requires.loss OUT_OF_MEMORY Tee) in
    let replies : t.has_model old_store → c.tear_down.new.replies ≡ (after_starved_turn (machine_of side) i).replies = λ there.
    c.tear_down.ensures.replies ∙ ap (λ (s : Stepped g.row.A.Denot). s.replies) (starves.alike there c.requires.loss OUT_OF_MEMORY Tee) in
    record {
      step = λ there m stands kept. step_stands side new (λ (x : Machine g.row.A.Denot). after_starved_turn x i) (λ s d x. refl) (machine there) m stands;
      store = λ there m stands kept. kept ∙ ap (λ k. k.store) (sym (want.contents there));
      told = λ there m stands kept. replies there ∙ step_replies side (λ (x : Machine g.row.A.Denot). after_starved_turn x i) (λ s d x. refl) m stands;
      stands = λ there m stands kept. subst (λ (x : Machine g.row.A.Denot). is_some (find (is_number i) x.instances) ≡ true) (sym stands.parts) c.in-Err.ensures.there;
      change = λ m stands. tt;
      status = want.status;
      damage = tt;
      honest = λ h. (want.honest h, tt);
      lost = ap (λ (m : Machine g.row.A.Denot). m.lost) c.tear_down.ensures.machine ∙ starves.lost c.requires.loss;
      starved = want;
      keeps = want.keeps;
      crash = λ honest just m stands kept. starving_crash t _ old_store new_store (want.contents (g.met.T.AppStore.honest_model old_store honest)) (want.crash honest just);
    }
