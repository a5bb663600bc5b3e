-- Which leaf breaks a rule, and what a region is where none does.
use Rattle.std.proofs.Common.{◌≡◌, ℕ, Bool, true, false, not, List, Option, None, Some, Ok, refl, ap}
use Rattle.std.specs.Prelude.{IsTrue, ◌&&◌, ◌||◌, ◌==◌}
use Rattle.store_api.specs.Stores.{Store}
use Rattle.region_plan.specs.Layout.{Layout}
use Rattle.region_plan.specs.Entries.{entry_at, is_inode, is_well_formed}
use Rattle.region_plan.specs.Inodes.{is_inode_leaf}
use Rattle.region_plan.specs.Regions.{breaks, is_doubled, has_data, is_padded, store_of, first_broken, region_of, unless_broken}
use Rattle.region_plan.specs.declared.entry.TheConstants.{DATA}

from_first : (a b : Bool) → a ≡ false → IsTrue (not a || b)
from_first a b is = ap (λ x. not x || b) is

from_second : (a b c d e : Bool) → b ≡ true → c ≡ false → IsTrue (not a || ((b && not (c && d)) || e))
from_second true true false d e is isnt = refl
from_second false b c d e is isnt = refl
from_second true false c d e is isnt = absurd (let f : false ≡ true = is in cc)
from_second true true true d e is isnt = absurd (let f : true ≡ false = isnt in cc)

from_deeper : (a b c d e f : Bool) → b ≡ true → e ≡ false → IsTrue (not a || ((b && not (c && (d && e))) || f))
from_deeper false b c d e f is isnt = refl
from_deeper true false c d e f is isnt = absurd (let g : false ≡ true = is in cc)
from_deeper true true false d e f is isnt = refl
from_deeper true true true false e f is isnt = refl
from_deeper true true true true false f is isnt = refl
from_deeper true true true true true f is isnt = absurd (let g : true ≡ false = isnt in cc)

from_doubled : (a b c d e f : Bool) → b ≡ true → d ≡ true → IsTrue (not a || ((b && not (c && (not d && e))) || f))
from_doubled false b c d e f is twice = refl
from_doubled true false c d e f is twice = absurd (let g : false ≡ true = is in cc)
from_doubled true true false d e f is twice = refl
from_doubled true true true true e f is twice = refl
from_doubled true true true false e f is twice = absurd (let g : false ≡ true = twice in cc)

from_third : (a b c d : Bool) → c ≡ true → d ≡ false → IsTrue (not a || (b || (c && not d)))
from_third true true true false is isnt = refl
from_third true false true false is isnt = refl
from_third false b c d is isnt = refl
from_third true b false d is isnt = absurd (let f : false ≡ true = is in cc)
from_third true b true true is isnt = absurd (let f : true ≡ false = isnt in cc)

module _ (L : Layout) (leaves : ℕ → List ℕ) where
  -- an entry that doesn't follow the rules
  pub entry_breaks : (i : ℕ) → is_well_formed L leaves i ≡ false → IsTrue (breaks L leaves i)
  unfolding breaks
  entry_breaks i is = from_first (is_well_formed L leaves i) _ is

  -- an inode leaf that doesn't
  pub inode_breaks : (i : ℕ) → is_inode L leaves i ≡ true → is_inode_leaf (leaves i) ≡ false → IsTrue (breaks L leaves i)
  unfolding breaks
  inode_breaks i is isnt = from_second (is_well_formed L leaves i) (is_inode L leaves i) (is_inode_leaf (leaves i)) _ _ is isnt

  -- an inode whose identifier one before it has
  pub doubled_breaks : (i : ℕ) → is_inode L leaves i ≡ true → is_doubled L leaves i ≡ true → IsTrue (breaks L leaves i)
  unfolding breaks
  doubled_breaks i is doubled = from_doubled (is_well_formed L leaves i) (is_inode L leaves i) (is_inode_leaf (leaves i)) (is_doubled L leaves i) (has_data L leaves i) _ is doubled

  -- an inode with data at other indexes than it should have
  pub index_breaks : (i : ℕ) → is_inode L leaves i ≡ true → has_data L leaves i ≡ false → IsTrue (breaks L leaves i)
  unfolding breaks
  index_breaks i is isnt = from_deeper (is_well_formed L leaves i) (is_inode L leaves i) (is_inode_leaf (leaves i)) (not (is_doubled L leaves i)) (has_data L leaves i) _ is isnt

  -- data without zeros past the end
  pub data_breaks : (i : ℕ) → (entry_at L leaves i).kind ≡ DATA → is_padded L leaves i ≡ false → IsTrue (breaks L leaves i)
  unfolding breaks
  data_breaks i is isnt = from_third (is_well_formed L leaves i) _ _ (is_padded L leaves i) (ap (λ (k : ℕ). k == DATA) is) isnt

  unbroken : (r : Option ℕ) (store : Store) → unless_broken L leaves r ≡ Ok store → store ≡ store_of L leaves
  unbroken None store is = cc
  unbroken (Some i) store is = cc

  -- the store of a region that stands for one
  pub region_store : (store : Store) → region_of L leaves ≡ Ok store → store ≡ store_of L leaves
  unfolding region_of
  region_store store is = unbroken (first_broken L leaves) store is
