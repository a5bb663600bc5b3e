use Rattle.std.proofs.Common.{◌≡◌, ◌∙◌, refl, sym, subst, ap}
use Rattle.object_asks.specs.Resolutions.{Serves}
use Rattle.object_asks.specs.Serving.{plainly, serving_of}
use Rattle.object_asks.specs.declared.outcome.Outcome.{Outcome as Result_of}
use Rattle.object_asks.specs.declared.outcome.Served.{Served}
use Rattle.object_asks.proofs.Crashes.{idle_crash}
use Rattle.object_asks.proofs.ServingLemmas.{by_nothing, ends_with}
use Rattle.operation_asks.specs.Asks.{CryptoState, Resolution, operation_resolution}
use Rattle.operation_asks.specs.Kept.{state_of}
use Rattle.operation_asks.specs.Represents.{left_by}
use Rattle.operation_asks.proofs.Panics.{resolution_keeps}
use Rattle.alone.specs.Crypto.{crypto_resolution}
use Rattle.alone.specs.Machine.{Machine}
use Rattle.alone.specs.Step.{serve_outcome}
use Rattle.app_side.specs.declared.side.AppSide.{AppSide}
use Rattle.app_side.specs.Crypto.{outcome_of}
use Rattle.app_side.specs.Represents.{IsLeft, machine_over}
use Rattle.app_side.proofs.Carried.{plain_turn_as}
use Rattle.app_side.proofs.CryptoLemmas.{settled_left, wanted_whole, wants_is}
use Rattle.app_side.proofs.side.AppSide.operate.Goals as goal

pub returns-in-Settled : goal.returns-in-Settled
returns-in-Settled g c =
    let t = g.T.AppStore.keeper in
    let old : AppSide g.row.A.Denot = c.args.self.now in
    let before = t.contents c.args.store.now in
    let s : CryptoState = state_of old.operations in
    let done = c.plain.result in
    let told = c.in-Settled.told in
    let new : AppSide g.row.A.Denot = record old { operations = c.serve.new.self } in
    let served_is : done ≡ plainly (outcome_of told) = c.plain.ensures ∙ ap (λ (o : Result_of). plainly o) c.outcome_of.ensures in
    record {
      left = λ tells same doubt.
          let m : Machine g.row.A.Denot = machine_over old before.store doubt in
          subst (λ (d : Served). IsLeft d.outcome (serve_outcome (serving_of d.kind) m c.args.ask (crypto_resolution m c.args.instance c.args.ask)) new before.store doubt m) (sym served_is)
          (settled_left old new before.store doubt Serves c.args.instance c.args.ask (operation_resolution s c.args.instance c.args.ask) told (sym c.in_ok-told.ensures.told ∙ c.in-Settled.is)
          c.in_ok-told.ensures.left refl (resolution_keeps s c.args.instance c.args.ask));
      kind = plain_turn_as t done.kind _ _ _ _ c.args.store.now (ap (λ (d : Served). d.kind) served_is) refl;
      crash = λ honest just doubt. idle_crash t _ _ c.args.store.now just;
      ends = ends_with done.outcome _ (by_nothing t c.args.store.now);
      tried = refl;
      want = tt;
      starves = tt;
      instances = refl;
    }

pub returns-in-WantsKey : goal.returns-in-WantsKey
returns-in-WantsKey g c =
    let s : CryptoState = state_of c.args.self.now.operations in
    let wants = wants_is (operation_resolution s c.args.instance c.args.ask) c.in-WantsKey.op c.in-WantsKey.object (sym c.in_ok-told.ensures.told ∙ c.in-WantsKey.is) in
    wanted_whole g.T.AppStore.keeper c.args.self.now c.give_key.new.self c.serve.new.self c.args.instance c.in-WantsKey.op c.in-WantsKey.object c.args.ask c.give_key.result
    c.args.store.now c.give_key.new.store
    wants c.requires (c.in_ok-told.ensures.left ∙ ap (λ (k : Resolution CryptoState). left_by s k) wants) c.give_key.ensures
