-- A region in which no leaf breaks a rule, rule by rule.
use Rattle.std.proofs.Common.{◌≡◌, ◌<◌, ℕ, false, List, Ok}
use Rattle.std.proofs.lemmas.Bool.{eqb-true}
use Rattle.region_plan.specs.Layout.{Layout}
use Rattle.region_plan.specs.Entries.{entry_at, is_inode, is_well_formed}
use Rattle.region_plan.specs.Inodes.{is_inode_leaf}
use Rattle.region_plan.specs.Laws.{KeepRules}
use Rattle.region_plan.specs.Regions.{breaks, has_data, is_doubled, is_padded, region_of, store_of}
use Rattle.region_plan.specs.declared.entry.TheConstants.{DATA}
use Rattle.region_plan.proofs.SoundLemmas.{unbroken_from, unbroken_region}
use Rattle.std.specs.Prelude.{◌==◌}

module _ (L : Layout) (leaves : ℕ → List ℕ) (keeps : KeepRules L leaves) where
  unbroken : (i : ℕ) → i < L.leaves → breaks L leaves i ≡ false
  unfolding breaks
  unbroken i below =
      unbroken_from (is_well_formed L leaves i) (is_inode L leaves i) (is_inode_leaf (leaves i)) (is_doubled L leaves i) (has_data L leaves i) ((entry_at L leaves i).kind == DATA)
      (is_padded L leaves i) (keeps.map i below)
      (λ inode. (let whole = keeps.inode i below inode in (whole.bytes, whole.new, whole.placed))) (λ is. keeps.data' i below (eqb-true _ _ is))

  -- it stands for the store of its inodes
  pub whole_region : region_of L leaves ≡ Ok (store_of L leaves)
  whole_region = unbroken_region L leaves unbroken
