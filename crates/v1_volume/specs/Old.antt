-- What stands under a root of the first version, and what its regions become.
use Rattle.std.specs.Prelude.{◌≡◌, ◌<◌, ◌+◌, ◌*◌, ℕ, zero, suc, nat_lt, if◌then◌else◌, List, [], Option, None, Some, Result, Ok, Err, IsTrue, replicate, slice_index_or}
use Rattle.tee_base.specs.Words.{RegionLeaves}
use Rattle.tee_base.specs.declared.limits.TheConstants.{BLOCK_BYTES, MAX_HOSTS}
use Rattle.store_api.specs.Ascending.{is_above_all}
use Rattle.store_api.specs.declared.answer.Mismatch.{Mismatch}
use Rattle.store_api.specs.declared.leaves.Leaf.{Leaf}
use Rattle.store_api.specs.Stores.{Store}
use Rattle.epoch.specs.declared.answer.OpenAnswer.{OpenAnswer}
use Rattle.epoch.specs.declared.answer.OpenAnswer.TheVariants.{OldGarbled, OldMismatch}
use Rattle.epoch.specs.declared.header.TreeEntry.{TreeEntry}
use Rattle.region_plan.specs.Layout.{layout}
use Rattle.region_plan.specs.Plans.{with_leaves}
use Rattle.region_plan.specs.Regions.{region_of}
use Rattle.region_plan.specs.declared.form.Form.TheVariants.{One}
use Rattle.v1_volume.specs.Checking.{Stand, leaf_in}
use Rattle.v1_volume.specs.Renumbering.{converted_leaf}
use Rattle.tree_paths.specs.Shape.{first_shape}
use Rattle.tree_paths.specs.Tree.{Look, damage_of, text_of}
use Rattle.tree_paths.specs.Walk.{Visit, Wrong, first_children, first_wrong, visits}
use Rattle.tree_paths.specs.declared.first_version.TheConstants.{DEPTH, FIRST_GROUP, REGION_LEAVES}
use Rattle.tree_paths.specs.declared.places.TheConstants as now

-- the place of the node of a group of leaves
abbrev pub group_of : ℕ → ℕ → ℕ
group_of region group = FIRST_GROUP + now.FAN * region + group

module _ (look : Look) (root : TreeEntry) where
  -- the leaves of a region, as the ways to them decrypt them; there is nothing where there is no leaf
  unfoldable pub old_leaves : ℕ → RegionLeaves
  old_leaves region leaf =
      if nat_lt leaf REGION_LEAVES then text_of first_shape look root (first_shape.leaf_place region leaf) else []

  -- the first two tags that differ on the way to a leaf
  unfoldable pub old_damage : ℕ → ℕ → Option Mismatch
  old_damage region leaf =
      if nat_lt leaf REGION_LEAVES then damage_of first_shape look root (first_shape.leaf_place region leaf) else None

  -- so many leaves of a region were read
  abbrev pub AreRead : ℕ → ℕ → List (List ℕ) → Type 0
  AreRead region count leaves = (leaf : ℕ) → leaf < count
      → leaf_in leaves leaf ≡ text_of first_shape look root (first_shape.leaf_place region leaf)

  -- the places that a walk over all regions comes to, in its order
  abbrev pub old_visits : List Visit
  old_visits = visits first_children look DEPTH 0 root

-- the least leaf of a region that breaks a rule of the first form, as a refusal; none where the region stands for a store
abbrev pub garbled_at : ℕ → Result Store ℕ → Option OpenAnswer
garbled_at region (Ok store) = None
garbled_at region (Err leaf) = Some (OldGarbled region leaf)

-- two tags that differ, as a refusal
abbrev pub mismatch_of : Option Wrong → Option OpenAnswer
mismatch_of (Some wrong) = Some (OldMismatch wrong.tags)
mismatch_of None = None

-- the first of two refusals
abbrev pub first_refusal : Option OpenAnswer → Option OpenAnswer → Option OpenAnswer
first_refusal (Some why) rest = Some why
first_refusal None rest = rest

-- the first of so many regions that breaks a rule, with the least leaf that does
unfoldable pub first_garbled : ℕ → (ℕ → RegionLeaves) → Option OpenAnswer
first_garbled zero regions = None
first_garbled (suc n) regions =
    first_refusal (first_garbled n regions) (garbled_at n (region_of (layout One) (regions n)))

-- why a volume of the first version isn't taken over: the first two tags that differ on the walk over all places; where none do, the
-- first region that breaks a rule, with the least leaf that does
unfoldable pub old_refusal : Look → TreeEntry → Option OpenAnswer
old_refusal look root =
    first_refusal (mismatch_of (first_wrong look (old_visits look root))) (first_garbled MAX_HOSTS (old_leaves look root))

-- these leaves of the second form are what a region of the first one becomes, which stands for a store
pub record IsConverted (leaves : RegionLeaves) (named : List Leaf) : Type 0 where
  pub stand : Stand leaves
  -- leaves of zeros with these in place of their own
  pub converted : (i : ℕ) → with_leaves named (λ number. replicate BLOCK_BYTES 0) i ≡ converted_leaf leaves i

-- a region is the first that breaks a rule of its form, and the leaf is the least of it that does
pub record IsFirstBroken (regions : ℕ → RegionLeaves) (region leaf : ℕ) : Type 0 where
  pub below : region < MAX_HOSTS
  pub broken : region_of (layout One) (regions region) ≡ Err leaf
  pub first : (r : ℕ) → r < region → Stand (regions r)

-- what is named of a region, where the regions stand in a list
abbrev pub named_of : List (List Leaf) → ℕ → List Leaf
named_of named region = slice_index_or named region []

-- each region becomes the leaves that are named of it
abbrev pub AreConverted : (ℕ → RegionLeaves) → List (List Leaf) → Type 0
AreConverted regions named = (region : ℕ) → region < MAX_HOSTS → IsConverted (regions region) (named_of named region)

-- and the numbers of these are below those of the leaves of a region
abbrev pub AreNumbered : List (List Leaf) → Type 0
AreNumbered named = (region : ℕ) → region < MAX_HOSTS → IsTrue (is_above_all (named_of named region) now.REGION_LEAVES)
