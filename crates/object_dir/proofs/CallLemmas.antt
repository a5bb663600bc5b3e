-- What a call on a region promises as a call of a store.
use Rattle.std.proofs.Common.{◌≡◌, ◌≤◌, ◌<◌, ◌+◌, ℕ, List, true, false, Option, Some, Result, refl, sym, ap, ◌∙◌, subst, inl, arith}
use Rattle.std.specs.Prelude.{IsTrue}
use Rattle.tee_base.specs.Crash.{LeavesOnly}
use Rattle.tee_base.proofs.Crash.{mapped}
use Rattle.store_api.specs.declared.answer.StoreAnswer.{StoreAnswer}
use Rattle.store_api.specs.Keeping.{Contents, HasCause, IsCall, LeavesJust, LeavesNothingNew, Remains, TellsDamage}
use Rattle.store_api.specs.Volumes.{Held, VolumeKeeper}
use Rattle.region_plan.specs.Reading.{IfGarbled, IsBroken, ReadsOnly, leaves_of, refusal_of}
use Rattle.region_plan.specs.Regions.{breaks}
use Rattle.object_dir.specs.Changing.{IsRegionCall}
use Rattle.object_dir.specs.Directories.{damage_of, damage_reports, dir_keeper}
use Rattle.object_dir.specs.Regions.{in_use, HasStore, kept_in, number_of, region_keeper, remains_in, store_in}
use Rattle.object_dir.specs.declared.directory.ObjectDir.{ObjectDir}
use Rattle.object_dir.specs.declared.region.Region.{Region}
use Rattle.object_dir.proofs.AnswerLemmas.{cause_of, corrupt_under, garbled_also, garbled_never, intact_of, reports_of, tells_of, unfailed_of}
use Rattle.object_dir.proofs.FoundLemmas.{IsLawful, broken_never}
use Rattle.object_dir.proofs.HeldLemmas.{kept_limits, still_stands}
use Rattle.object_dir.proofs.PlaceLemmas.{same_number}

module _ {V : Type 0} (K : VolumeKeeper V) where
  module _ (why : Option StoreAnswer) (old new : Region V) (run : ReadsOnly (region_keeper K) number_of why old new) where
    pub reads_go_on : K.honest old.volume.now → K.moment old.volume.now ≤ K.moment new.volume.now
    reads_go_on h =
        elim ((K.condition old.volume.now).lost) as (λ b. (K.condition old.volume.now).lost ≡ b → K.moment old.volume.now ≤ K.moment new.volume.now) [
          | true ↦ λ e. (let same : K.moment new.volume.now ≡ K.moment old.volume.now = (run.quiet e).same in omega arith)
          | false ↦ λ e. (run.crash h e).later
        ] refl

    -- what is found stays
    pub found_still : IsTrue K.tells_reads → leaves_of (region_keeper K) number_of new ≡ leaves_of (region_keeper K) number_of old
    found_still t = ap (λ (text : ℕ → ℕ → List ℕ). text new.number) (run.text t) ∙ ap (λ (r : ℕ). K.text old.volume.now r) run.same_region

    -- reads are a call on a region
    pub from_reads : IfGarbled why (λ leaf. IsBroken (region_keeper K) number_of in_use old leaf) → IsRegionCall K why old new
    from_reads garbled = record {
      cause = run.cause;
      later = run.later;
      unfailed = run.unfailed;
      foundation = run.foundation;
      below = run.below;
      honest = run.honest;
      shows = run.shows;
      garbled = garbled;
      broken = garbled_also why (λ leaf. IsBroken (region_keeper K) number_of in_use old leaf) (λ leaf. IsBroken (region_keeper K) number_of in_use new leaf)
          (λ leaf broken. record {
            below = broken.below;
            breaks = λ t. subst (λ (leaves : ℕ → List ℕ). IsTrue (breaks in_use leaves leaf)) (sym (found_still t)) (broken.breaks t);
          }) garbled;
      quiet = run.quiet;
      past = run.past;
      goes_on = reads_go_on;
    }

    -- and leave the store
    pub reads_stand : HasStore K old → HasStore K new
    reads_stand has = record {
      honest = (run.honest has.honest).0;
      stands = still_stands new.number old.number (K.held new.volume.now) (K.held old.volume.now) run.same_region (run.same has.honest) has.stands;
    }

  module _ {A : Type 0} (result : Result A StoreAnswer) (tried : ℕ) (old new : ObjectDir V) (call : IsRegionCall K (refusal_of result) old.region new.region) where
    -- what a crash might have left is read alike before and after
    same_outcome : (o : Option Held) → remains_in new.region.number o ≡ remains_in old.region.number o
    same_outcome o = ap (λ (k : ℕ). remains_in k o) (same_number K old.region new.region call.foundation)

    -- when it comes, what it tells, and what a crash may leave over a lost volume, whatever the leaves stand for
    pub call_cause : new.damage_reports ≡ old.damage_reports + damage_reports (refusal_of result) → HasCause result ((dir_keeper K).status old) ((dir_keeper K).status new)
    call_cause reports = record {
      cause = cause_of result ((region_keeper K).condition old.region) ((region_keeper K).condition new.region) old.damage_reports old.change_attempts new.damage_reports
          new.change_attempts call.cause;
      later = call.later;
      unfailed = unfailed_of result _ call.unfailed;
      foundation = call.foundation;
      reports = reports ∙ ap (λ (k : ℕ). old.damage_reports + k) (reports_of result);
    }

    pub call_damage : TellsDamage result (damage_of K new.region)
    call_damage =
        tells_of result (damage_of K new.region)
        (corrupt_under (refusal_of result) K.tells_reads (λ tags. (leaf : ℕ) × (leaf < K.leaves) × (K.damage new.region.volume.now new.region.number leaf ≡ Some tags)) call.shows) call.broken

    pub call_quiet : IsTrue (K.condition old.region.volume.now).lost → LeavesNothingNew (dir_keeper K) old new
    call_quiet lost = record { same = (call.quiet lost).same; none = λ t o left. (left.0, (call.quiet lost).none t left.0 left.1, left.2 ∙ same_outcome left.0) }

    -- a call on a region is a call of its store
    pub store_call : IsLawful K → (HasStore K old.region → HasStore K new.region) → (HasStore K old.region → IsTrue (K.condition new.region.volume.now).lost →
        kept_in K new.region ≡ kept_in K old.region)
        → new.damage_reports ≡ old.damage_reports + damage_reports (refusal_of result) → new.change_attempts ≡ old.change_attempts + tried → IsCall (dir_keeper K) tried result old new
    store_call laws stands still reports attempts = record {
      model = stands;
      still = still;
      limits = λ has. (kept_limits K old.region has, kept_limits K new.region (stands has));
      cause = call_cause reports;
      attempts = attempts;
      damage = call_damage;
      below = call.below;
      honest = λ has. (
        stands has,
        intact_of result (call.honest has.honest).1
            (garbled_never (refusal_of result) ((region_keeper K).condition old.region) ((region_keeper K).condition new.region)
            (λ leaf. IsBroken (region_keeper K) number_of in_use old.region leaf) call.cause
            (λ leaf works broken. broken_never K laws old.region has.honest works (store_in old.region.number (K.held old.region.volume.now)) has.stands leaf broken)
            call.garbled),
      );
      quiet = call_quiet;
      past = λ has. record { later = call.goes_on has.honest; past = λ t o le left. (left.0, call.past has.honest t left.0 le left.1, left.2 ∙ sym (same_outcome left.0)) };
    }

    -- over a lost volume a crash leaves what it would have left before
    module _ (lost : IsTrue (K.condition old.region.volume.now).lost) (kept : Contents) (just : LeavesJust (dir_keeper K) old kept) where
      none_new : (t : ℕ) (o : Remains) → (dir_keeper K).left_since new t o → (dir_keeper K).left_since old t o
      none_new t o left = (left.0, (call.quiet lost).none t left.0 left.1, left.2 ∙ same_outcome left.0)

      pub lost_leaves : LeavesOnly (dir_keeper K).moment (dir_keeper K).left_since old new (λ o. o ≡ Some kept)
      lost_leaves = record {
        later = let same : K.moment new.region.volume.now ≡ K.moment old.region.volume.now = (call.quiet lost).same in omega arith;
        each = λ o left. just.only o (none_new (K.moment old.region.volume.now) o left);
        before = λ t o le left. inl (none_new t o left);
      }

      pub lost_just : LeavesJust (dir_keeper K) new kept
      lost_just = record { only = λ o left. just.only o (subst (λ (t : ℕ). (dir_keeper K).left_since old t o) (call.quiet lost).same (none_new (K.moment new.region.volume.now) o left)) }

    -- a run of the volume, as a run of the store
    pub of_store : (P : Remains → Type 0) → LeavesOnly (region_keeper K).moment (region_keeper K).left_since old.region new.region (λ o. P (remains_in new.region.number o))
        → LeavesOnly (dir_keeper K).moment (dir_keeper K).left_since old new P
    of_store P run = mapped (region_keeper K).moment (region_keeper K).left_since (λ (d : ObjectDir V). d.region)
        (λ (d : ObjectDir V) (o : Option Held). remains_in d.region.number o) old new P same_outcome run
