-- The map that is placed anew, entry by entry.
use Rattle.std.proofs.Common.{◌≡◌, ◌≤◌, ◌<◌, ◌+◌, ◌∙◌, ℕ, suc, Bool, true, false, List, refl, sym, ap, arith}
use Rattle.std.specs.Prelude.{◌==◌, ◌&&◌, nat_le, if◌then◌else◌}
use Rattle.std.specs.List.{range_with_len, count_by}
use mir.Val.{bool_byte}
use Rattle.std.proofs.lemmas.Bool.{eqb-true, eqb-false}
use Rattle.region_plan.specs.Places.{entries_in, with_entry, free_before, is_free, place_leaves, placed_entry}
use Rattle.region_plan.specs.declared.entry.Entry.{Entry}
use Rattle.region_plan.specs.declared.entry.TheConstants.{FREE}
use Rattle.region_plan.proofs.Totals.{counted, mark, rank_more}
use Rattle.region_plan.specs.Layout.{Layout}
use Rattle.region_plan.proofs.FormLemmas.{IsLaid}

pub marked : (b : Bool) → mark b ≤ 1
marked true = omega arith
marked false = omega arith

-- a bool as a number
pub byte_mark : (b : Bool) → bool_byte b ≡ mark b
byte_mark true = refl
byte_mark false = refl

module _ (L : Layout) (laid : IsLaid L) where
  -- the entries so far are placed, and the rest are as they were
  pub record SoFar (map after : List Entry) (inode kept blocks index leaf : ℕ) : Type 0 where
    pub counted : index ≡ kept + free_before L (entries_in map) leaf
    pub few : free_before L (entries_in map) leaf ≤ leaf
    pub done : (i : ℕ) → i < leaf → entries_in after i ≡ place_leaves L (entries_in map) inode kept blocks i
    pub rest : (i : ℕ) → leaf ≤ i → i < L.leaves → entries_in after i ≡ entries_in map i

  pub none_before : (entries : ℕ → Entry) → free_before L entries 0 ≡ 0
  unfolding free_before
  none_before entries = refl

  pub one_before : (entries : ℕ → Entry) (leaf : ℕ) → free_before L entries (leaf + 1) ≡ free_before L entries leaf + mark (is_free L entries leaf)
  unfolding free_before
  one_before entries leaf =
      ap (λ (n : ℕ). count_by (λ j. is_free L entries j) (range_with_len 0 n)) (let e : leaf + 1 ≡ suc leaf = omega arith in e)
      ∙ counted (λ j. is_free L entries j) 0 (suc leaf) ∙ rank_more (λ j. is_free L entries j) leaf
      ∙ ap (λ (n : ℕ). n + mark (is_free L entries leaf)) (sym (counted (λ j. is_free L entries j) 0 leaf))

  pub started : (map : List Entry) (inode kept blocks : ℕ) → SoFar map map inode kept blocks kept 0
  started map inode kept blocks = (let none = none_before (entries_in map) in record {
    counted = omega (arith, none);
    few = omega (arith, none);
    done =
        λ i less. absurd (omega (arith, less));
    rest = λ i more less. refl;
  })

  pub stepped : (map after next : List Entry) (inode kept blocks index leaf : ℕ) (entry new : Entry) (free : Bool) (one : ℕ) → SoFar map after inode kept blocks index leaf → leaf < L.leaves →
      entry ≡ entries_in map leaf
      → free ≡ (nat_le L.map_leaves leaf && (entry.kind == FREE)) → new ≡ placed_entry free entry inode index blocks →
      ((i : ℕ) → entries_in next i ≡ with_entry leaf new (entries_in after) i) → one ≡ mark free
      → SoFar map next inode kept blocks (index + one) (leaf + 1)
  stepped map after next inode kept blocks index leaf entry new free one before below is is_free_ is_new set is_one =
      let free_is : free ≡ is_free L (entries_in map) leaf = is_free_ ∙ ap (λ (e : Entry). nat_le L.map_leaves leaf && (e.kind == FREE)) is in
      let more = one_before (entries_in map) leaf in
      let share : one ≡ mark (is_free L (entries_in map) leaf) = is_one ∙ ap mark free_is in
      let most = marked (is_free L (entries_in map) leaf) in
      let now : new ≡ place_leaves L (entries_in map) inode kept blocks leaf =
      is_new ∙ ap (λ (b : Bool). placed_entry b entry inode index blocks) free_is ∙ ap (λ (e : Entry). placed_entry (is_free L (entries_in map) leaf) e inode index blocks) is
      ∙ ap (λ (k : ℕ). placed_entry (is_free L (entries_in map) leaf) (entries_in map leaf) inode k blocks) before.counted in
      record {
        counted = (let was = before.counted in omega (arith, was, more, share));
        few = (let was = before.few in omega (arith, was, more, most));
        done = λ i less. set i ∙ elim (i == leaf) as (λ b. (i == leaf) ≡ b → (if b then new else entries_in after i) ≡ place_leaves L (entries_in map) inode kept blocks i) [
          | true ↦ λ e. now ∙ ap (λ (k : ℕ). place_leaves L (entries_in map) inode kept blocks k) (sym (eqb-true i leaf e))
          | false ↦ λ e. (let other = eqb-false i leaf e in before.done i (omega (arith, less, other)))
        ] refl;
        rest = λ i past less. set i ∙ elim (i == leaf) as (λ b. (i == leaf) ≡ b → (if b then new else entries_in after i) ≡ entries_in map i) [
          | true ↦ λ e. absurd (let same = eqb-true i leaf e in omega (arith, same, past))
          | false ↦ λ e. before.rest i (omega (arith, past)) less
        ] refl;
      }

  -- no leaf so far may be taken
  pub none_more : (entries : ℕ → Entry) (leaf : ℕ) (free : Bool) (e : Entry) → free_before L entries leaf ≡ 0 → e ≡ entries leaf → free ≡ (nat_le L.map_leaves leaf && (e.kind == FREE)) →
      free ≡ false → free_before L entries (leaf + 1) ≡ 0
  none_more entries leaf free e none is told isnt =
      let share : mark (is_free L entries leaf) ≡ 0 = ap mark (sym (told ∙ ap (λ (x : Entry). nat_le L.map_leaves leaf && (x.kind == FREE)) is) ∙ isnt) in
      let more = one_before entries leaf in
      omega (arith, none, more, share)

  pub is_taken : (entries : ℕ → Entry) (leaf : ℕ) (free : Bool) (e : Entry) → e ≡ entries leaf → free ≡ (nat_le L.map_leaves leaf && (e.kind == FREE)) → free ≡ true → is_free L entries leaf ≡ true
  is_taken entries leaf free e is told t = sym (told ∙ ap (λ (x : Entry). nat_le L.map_leaves leaf && (x.kind == FREE)) is) ∙ t
