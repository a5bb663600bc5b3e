-- A turn that found no memory leaves the store as a turn does in which it had no part.
use Rattle.std.proofs.Common.{◌≡◌, Option, sym, subst}
use Rattle.tee_base.proofs.Crash.{weaker}
use Rattle.store_api.specs.Keeping.{Contents, CrashLeaves, Keeper, LeavesJust}
use Rattle.store_api.specs.Stores.{Store}
use Rattle.object_asks.specs.Serving.{CrashTurns}
use Rattle.object_asks.specs.declared.turn.TurnKind.TheVariants.{Plain}
use Rattle.object_asks.proofs.Crashes.{only_old}

pub starving_crash : {D : Type 0} (K : Keeper D) (in_doubt : Option Store) (old new : D) → K.contents new ≡ K.contents old → CrashLeaves K (K.contents old) old new →
    CrashTurns K Plain in_doubt old new
starving_crash K in_doubt old new same leaves = record {
  any_moment = weaker K.moment K.left_since old new _ _ (λ o e. only_old Plain in_doubt (K.contents old) (K.contents new) o e) leaves.any_moment;
  afterwards = subst (λ (c : Contents). LeavesJust K new c) (sym same) leaves.afterwards;
}
