-- Events that leave the volume.
use Rattle.std.proofs.Common.{◌≡◌, ◌∙◌, ℕ, List, refl, sym, subst, inl, arith}
use Rattle.alone.specs.declared.turn.TurnKind.TheVariants.{Plain}
use Rattle.app_side.specs.declared.side.AppSide.{AppSide}
use Rattle.store_api.specs.declared.volume.Volume.{Ghosts}
use Rattle.store_api.specs.Volumes.{Condition, VolumeKeeper}
use Rattle.tee_core.specs.Moments.{IsWithin, KeepsCounts}
use Rattle.tee_core.specs.Represents.{StandFor}
use Rattle.tee_core.specs.Stepping.{KeepsOthers}
use Rattle.tee_core.specs.World.{World}
use Rattle.tee_core.specs.declared.tee.TeeOver.{TeeOver}
use Rattle.tee_core.proofs.Stores.{left_has}

module _ {V : Type 0} (K : VolumeKeeper V) where
  -- a crash within it leaves what it left before
  pub moments_still : {A : Type 0} (sides : List (AppSide A)) (old new : V) (before after : World A) → new ≡ old → StandFor K sides old before → IsWithin K before after old new
  moments_still sides old new before after same whole = subst (λ (v : V). IsWithin K before after old v) (sym same) (record {
    later = omega arith;
    each = λ o left. inl (left_has before (K.held old).sequence o (whole.left o left));
  })

-- and the counts stay
pub counts_still : (c : Condition) → KeepsCounts Plain c c
counts_still c = record { faults = omega arith; rose = tt; foundation = refl }

-- events of one application, and then others
pub kept_both : {B V A : Type 0} {G : Ghosts V} (app : ℕ) (one other last : TeeOver B V A G) → KeepsOthers app one other → KeepsOthers app other last → KeepsOthers app one last
kept_both app one other last h k = record { apps = k.apps ∙ h.apps; others = λ i apart. k.others i apart ∙ h.others i apart; boots = k.boots ∙ h.boots }
