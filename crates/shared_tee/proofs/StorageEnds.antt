-- The storage's cell ends: what the logs and the volume are then.
use Rattle.app_api.specs.Behaviours.{Behaviour}
use Rattle.std.proofs.Common.{◌≡◌, ◌<◌, ◌≤◌, ◌-◌, ◌^◌, ℕ, true, false, List, [], ◌∷◌, Some, length, sym, subst, ◌∙◌, ap, inl, inr, ⊎_elim, arith}
use Rattle.std.specs.Prelude.{slice_get}
use mathlib.Core.List.{IsPrefix}
use Rattle.turn_cell.specs.declared.view.SeatView.{SeatView}
use Rattle.tee_base.specs.Faults.{Rose}
use Rattle.store_api.specs.Volumes.{Condition, VolumeKeeper}
use Rattle.alone.specs.Logs.{KeptLog}
use Rattle.tee_core.specs.Moments.{KeepsFoundation}
use Rattle.shared_parts.proofs.HostedLemmas.{first_prefix, lost_prefix}
use Rattle.shared_parts.specs.HostedApps.{HostedView, tells_loss}
use Rattle.shared_parts.specs.InStep.{StoragePart}
use Rattle.shared_parts.specs.StorageParts.{AreLosses, IsMarked, IsStoredFor, KeepsStorage, LostBy, Opened, StorageEntry, StorageView, first_of, is_lost_at}
use Rattle.shared_tee.specs.Ending.{EndForEach, Ends, HaveEnded, parts_ended}
use Rattle.shared_tee.specs.Passes.{PassView}

-- a count that rose, and then didn't fall
rose_further : (first old new : ℕ) → Rose first old → old ≤ new → new < 2 ^ 64 → Rose first new
rose_further first old new rose le fits = ⊎_elim
    (λ (lt : first < old). inl (let e : first < new = omega (arith, lt, le) in e))
    (λ (at : old ≡ 2 ^ 64 - 1). inr (let e : new ≡ 2 ^ 64 - 1 = omega (arith, at, le, fits) in e))
    rose

-- where the trail holds a loss behind the opening, the count rose
rose_lost : {V : Type 0} (losses : List (StorageEntry V)) (opened now : Condition) → AreLosses losses opened now → is_lost_at losses ≡ true → now.faults < 2 ^ 64 → Rose opened.faults now.faults
rose_lost [] opened now are lost fits = absurd (let e : false ≡ true = lost in cc)
rose_lost (LostBy app faults ∷ []) opened now are lost fits = rose_further opened.faults faults now.faults are.1 are.2 fits
rose_lost (LostBy app faults ∷ e ∷ losses) opened now are lost fits = absurd are
rose_lost (Opened apps volume ∷ losses) opened now are lost fits = absurd are

module _ {V A : Type 0} (K : VolumeKeeper V) (behaviour : Behaviour A) (apps : ℕ) (passes : List (PassView V A)) (ends : List (HostedView V A)) (count : length ends ≡ apps) (logs : List KeptLog)
    (v : SeatView StoragePart (StorageEntry V)) (ended : HaveEnded K behaviour passes ends logs v)
    (s : StorageView V) (keeps : KeepsStorage K A s) (parts : s.parts ≡ v.own) (trail : IsPrefix v.trail s.trail)
    (volume : V) (volume_is : volume ≡ s.volume) (fits : (K.condition volume).faults < 2 ^ 64) where
  apps_are : length s.parts ≡ apps
  apps_are = ap (λ (ps : List StoragePart). length ps) parts ∙ ended.size ∙ count

  opened_is : first_of v.trail ≡ Opened apps keeps.opened
  opened_is =
      sym (first_prefix v.trail s.trail ended.began trail)
      ∙ ap (λ (t : List (StorageEntry V)). first_of t) keeps.trail
      ∙ ap (λ (n : ℕ). Opened n keeps.opened) apps_are

  faults_fit : (K.condition s.volume).faults < 2 ^ 64
  faults_fit = subst (λ (x : V). (K.condition x).faults < 2 ^ 64) volume_is fits

  lost_behind : (app : ℕ) (h : HostedView V A) → slice_get ends app ≡ Some h → tells_loss h.log ≡ true → is_lost_at keeps.losses ≡ true
  lost_behind app h there tells =
      let t : is_lost_at s.trail ≡ true = lost_prefix v.trail s.trail trail (ended.told app h there tells) in
      sym (ap (λ (x : List (StorageEntry V)). is_lost_at x) keeps.trail) ∙ t

  pub all_ended : Ends K behaviour apps passes logs volume
  all_ended = record {
    ends = ends;
    count = count;
    logs_are = ended.logs_are;
    began = keeps.opened;
    each = subst (λ (e : StorageEntry V). EndForEach K behaviour e passes ends) opened_is ended.each;
    since = subst (λ (x : V). KeepsFoundation (K.condition keeps.opened) (K.condition x)) (sym volume_is) keeps.since;
    below = λ honest. subst (λ (x : V). K.honest_below x) (sym volume_is) (keeps.below honest);
    rose = λ app h there tells. subst (λ (x : V). Rose (K.condition keeps.opened).faults (K.condition x).faults) (sym volume_is)
        (rose_lost keeps.losses (K.condition keeps.opened) (K.condition s.volume) keeps.lost (lost_behind app h there tells) faults_fit);
    stored = λ marked.
        let same : IsStoredFor K A s.parts s.volume = keeps.kept (subst (λ (n : ℕ). IsMarked K (Opened n keeps.opened)) (sym apps_are) marked) in
        subst (λ (x : V). IsStoredFor K A (parts_ended behaviour ends) x) (sym volume_is)
        (subst (λ (ps : List StoragePart). IsStoredFor K A ps s.volume)
        (parts ∙ ended.parts (subst (λ (e : StorageEntry V). IsMarked K e) (sym opened_is) marked)) same);
  }
