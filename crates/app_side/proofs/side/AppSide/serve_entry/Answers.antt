use Rattle.std.proofs.Common.{cond, true, false, refl, sym, subst}
use Rattle.tee_base.specs.declared.codes.Code.{Code}
use Rattle.app_api.specs.declared.ask.Ask.{Ask}
use Rattle.app_api.specs.declared.out.Outs.{Outs}
use Rattle.object_asks.specs.Resolutions.{Panicked, Returned, Settled}
use Rattle.object_asks.specs.Serving.{plainly}
use Rattle.object_asks.specs.declared.outcome.Outcome.TheVariants as outcomes
use Rattle.object_asks.specs.declared.outcome.Served.{Served}
use Rattle.alone.specs.declared.active_entry.EntryPoint.{EntryPoint}
use Rattle.alone.specs.Asks.{entry_resolution, return_resolution, return_of}
use Rattle.alone.specs.Places.{is_misuse, places_at}
use Rattle.app_side.specs.Asking.{entry_with_ask}
use Rattle.app_side.specs.Represents.{machine_of}
use Rattle.app_side.specs.Serving.{IsEntryServed}
use Rattle.app_side.specs.declared.side.AppSide.{AppSide}
use Rattle.app_side.proofs.side.AppSide.serve_entry.Goals as goal

-- a return that is misuse, or not
return_served : {A : Type 0} (side : AppSide A) (stage : EntryPoint) (code : Code) (outs : Outs) → IsEntryServed (return_of stage code outs) (return_resolution stage code outs) side side
return_served {A} side stage code outs =
    elim (is_misuse (places_at stage) outs) as (λ b. IsEntryServed {A = A} (cond b (plainly outcomes.Panicked) (plainly (outcomes.Returned (record { code = code; outs = outs }))))
    (cond b (Settled Panicked) (Settled (Returned code outs))) side side) [
      | true ↦ record { kind = refl; outcome = (refl, refl); rest = refl }
      | false ↦ record { kind = refl; outcome = (refl, refl); rest = refl }
    ]

pub returns-in-Return : goal.returns-in-Return
returns-in-Return g c =
    let side = c.args.self.now in
    subst (λ (s : Served). IsEntryServed s (entry_resolution (machine_of side) (entry_with_ask c.args.entry.now c.args.ask) c.args.ask) side side) (sym c.returned.ensures)
    (subst (λ (ask : Ask). IsEntryServed (return_of c.args.entry.now.stage c.in-Return.code c.in-Return.outs) (entry_resolution (machine_of side) (entry_with_ask c.args.entry.now ask) ask)
    side side) (sym c.in-Return.is)
    (return_served side c.args.entry.now.stage c.in-Return.code c.in-Return.outs))
