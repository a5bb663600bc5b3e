-- A plan, and behind it reads of the leaves that it names.
use Rattle.std.proofs.Common.{◌≡◌, ◌∙◌, ℕ, true, List, [], Option, None, Some, Ok, refl, sym, ap, subst, arith}
use Rattle.std.specs.Prelude.{IfOk, IfSome, IsTrue}
use Rattle.store_api.specs.Ascending.{is_above_all}
use Rattle.store_api.specs.declared.change.Change.{Change}
use Rattle.store_api.specs.declared.leaves.Leaf.{Leaf}
use Rattle.store_api.specs.Volumes.{VolumeKeeper}
use Rattle.std.proofs.lemmas.List.Elements.{All-nil}
use Rattle.region_plan.specs.Planning.{PlansChange, PlansFrom}
use Rattle.region_plan.specs.Plans.{ChangesMap}
use Rattle.region_plan.specs.Reading.{ReadsOnly, leaves_of}
use Rattle.region_plan.specs.Regions.{region_of}
use Rattle.region_plan.specs.declared.directory.Directory.{Directory}
use Rattle.region_plan.proofs.ReadLemmas.{leaves_stay, reads_joined}
use Rattle.object_dir.specs.Changing.{are_there, planned_leaves}
use Rattle.object_dir.specs.Regions.{in_use, number_of, region_keeper}
use Rattle.object_dir.specs.declared.region.Region.{Region}
use Rattle.object_dir.proofs.IdleLemmas.{there_same}

module _ {V : Type 0} (K : VolumeKeeper V) (c : Change) (named : List Leaf) (old mid : Region V) (plan : PlansChange (region_keeper K) number_of in_use c (Ok named) old mid) where
  -- the leaves before the plan and after it
  pub plan_stays : IsTrue K.tells_reads → leaves_of (region_keeper K) number_of mid ≡ leaves_of (region_keeper K) number_of old
  plan_stays h = leaves_stay (region_keeper K) number_of old mid plan.reads h

  -- all that is planned is there
  pub planned_none : (new : Region V) → (IsTrue K.tells_reads → are_there (leaves_of (region_keeper K) number_of mid) named ≡ true)
      → ReadsOnly (region_keeper K) number_of None mid new → PlansChange (region_keeper K) number_of in_use c (Ok []) old new
  planned_none new there reads = record {
    plans = λ h store is.
        let made = plan.plans h store is in
        let all = subst (λ (l : ℕ → List ℕ). are_there l named ≡ true) (plan_stays h) (there h) in record {
          after = made.after;
          changes = made.changes;
          stands = ap (λ (l : ℕ → List ℕ). region_of in_use l) (sym (there_same named (leaves_of (region_keeper K) number_of old) all)) ∙ made.stands;
          few = omega arith;
          changed = All-nil (λ leaf. ChangesMap in_use (leaves_of (region_keeper K) number_of old) leaf);
          told = λ i below now unnamed. now;
        };
    sound = plan.sound;
    named = refl;
    garbled = tt;
    reads = reads_joined (region_keeper K) number_of None old mid new plan.reads reads;
  }

-- the same of a plan by a directory
module _ {V : Type 0} (K : VolumeKeeper V) (d : Directory) (c : Change) (named : List Leaf) (old mid : Region V) (plan : PlansFrom (region_keeper K) number_of d c (Ok named) old mid) where
  pub from_stays : IsTrue K.tells_reads → leaves_of (region_keeper K) number_of mid ≡ leaves_of (region_keeper K) number_of old
  from_stays h = leaves_stay (region_keeper K) number_of old mid plan.reads h

  pub from_none : (new : Region V) → (IsTrue K.tells_reads → are_there (leaves_of (region_keeper K) number_of mid) named ≡ true)
      → ReadsOnly (region_keeper K) number_of None mid new → PlansFrom (region_keeper K) number_of d c (Ok []) old new
  from_none new there reads = record {
    plans = λ h of store is.
        let made = plan.plans h of store is in
        let all = subst (λ (l : ℕ → List ℕ). are_there l named ≡ true) (from_stays h) (there h) in record {
          after = made.after;
          changes = made.changes;
          stands = ap (λ (l : ℕ → List ℕ). region_of in_use l) (sym (there_same named (leaves_of (region_keeper K) number_of old) all)) ∙ made.stands;
          few = omega arith;
          changed = All-nil (λ leaf. ChangesMap in_use (leaves_of (region_keeper K) number_of old) leaf);
          told = λ i below now unnamed. now;
        };
    named = refl;
    garbled = tt;
    reads = reads_joined (region_keeper K) number_of None old mid new plan.reads reads;
  }

-- planned leaves are the region's
pub named_some : (planned : Option (List Leaf)) → IfOk (planned_leaves (Ok planned)) (λ named. IsTrue (is_above_all named in_use.leaves))
    → IfSome planned (λ named. IsTrue (is_above_all named in_use.leaves))
named_some None below = tt
named_some (Some named) below = below
