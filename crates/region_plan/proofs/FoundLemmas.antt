-- An inode that was found by its identifier.
use Rattle.std.proofs.Common.{◌≡◌, ℕ, ◌<◌, ◌≤◌, Bool, true, false, cond, List, [], ◌∷◌, map, Option, None, Some, find, option_map, option_copied, Bor, refl, sym, ◌∙◌, ap, subst, arith}
use Rattle.std.specs.Prelude.{is_some}
use Rattle.std.specs.List.{All}
use Rattle.std.specs.Str.{bytes_eq}
use Rattle.std.proofs.lemmas.List.Elements.{All-head, All-tail}
use Rattle.store_api.specs.Stores.{object_at}
use Rattle.region_plan.specs.Layout.{Layout}
use Rattle.region_plan.specs.Entries.{entry_at, is_inode}
use Rattle.region_plan.specs.Inodes.{length_in, identifier_in, inode_of, is_inode_leaf, IsHead}
use Rattle.region_plan.specs.Regions.{numbers, inode_numbers, inodes_of, object_of, store_of}
use Rattle.region_plan.specs.Tables.{inode_with}
use Rattle.region_plan.specs.declared.inode.Inode.{Inode}
use Rattle.region_plan.proofs.AgreeLemmas.{range_all}
use Rattle.region_plan.proofs.FrameLemmas.{used_inode}
use Rattle.region_plan.proofs.LimitLemmas.{used_later}
use Rattle.region_plan.proofs.SoundLemmas.{Sound}
use Rattle.region_plan.proofs.StoreLemmas.{object_is, found_is_told, found_id, length_told}
use Rattle.region_plan.proofs.FormLemmas.{IsLaid}

told_id : (n : ℕ) (bytes : List ℕ) → (inode_of n bytes).id ≡ identifier_in bytes
unfolding inode_of
told_id n bytes = refl

told_number : (n : ℕ) (bytes : List ℕ) → (inode_of n bytes).number ≡ n
unfolding inode_of
told_number n bytes = refl

-- the same of equal parts
pub head_as : (bytes : List ℕ) (kind kind' usage usage' : ℕ) (id id' secret secret' : List ℕ) (long : ℕ) → kind ≡ kind' → usage ≡ usage' → id ≡ id' → secret ≡ secret' →
    IsHead bytes kind usage id secret long → IsHead bytes kind' usage' id' secret' long
head_as bytes kind kind' usage usage' id id' secret secret' long a b c d head = record {
  rules = head.rules;
  is_kind = head.is_kind ∙ a;
  is_usage = head.is_usage ∙ b;
  is_id = head.is_id ∙ c;
  is_secret = head.is_secret ∙ d;
  is_long = head.is_long;
}

module _ (L : Layout) (laid : IsLaid L) where
  -- an inode of an identifier
  pub record IsFound (leaves : ℕ → List ℕ) (id : List ℕ) (inode : Inode) : Type 0 where
    pub low : L.map_leaves ≤ inode.number
    pub high : inode.number < L.leaves
    pub is : is_inode L leaves inode.number ≡ true
    pub told : inode ≡ inode_of inode.number (leaves inode.number)
    pub named : identifier_in (leaves inode.number) ≡ id
    pub long : inode.length ≡ length_in (leaves inode.number)

  module _ (leaves : ℕ → List ℕ) where
    abbrev told : ℕ → Inode
    told i = inode_of i (leaves i)

    find_all : (Q : ℕ → Type 0) (p : Inode → Bool) (ns : List ℕ) (inode : Inode) → All Q ns → find p (map told ns) ≡ Some inode → Q inode.number
    find_all Q p [] inode all is = cc
    find_all Q p (i ∷ ns) inode all is =
        elim (p (told i)) as (λ b. cond b (Some (told i)) (find p (map told ns)) ≡ Some inode → Q inode.number) [
          | true ↦ λ e.
              let same : told i ≡ inode = cc in
              let number : i ≡ inode.number = sym (told_number i (leaves i)) ∙ ap (λ (x : Inode). x.number) same in
              subst Q number (All-head Q i ns all)
          | false ↦ λ e. find_all Q p ns inode (All-tail Q i ns all) e
        ] is

    found_below : (q : List ℕ) (inode : Inode) → inode_with q (inodes_of L leaves) ≡ Some inode → (inode.number < L.leaves) × (is_inode L leaves inode.number ≡ true)
    unfolding inodes_of inode_numbers numbers
    found_below q inode is =
        find_all (λ i. (i < L.leaves) × (is_inode L leaves i ≡ true)) (λ x. bytes_eq x.id q) (inode_numbers L leaves) inode
        (range_all (λ i. is_inode L leaves i) L.leaves L.leaves 0 (omega arith)) is

    pub found_inode : (q : List ℕ) (inode : Inode) → Sound L leaves → inode_with q (inodes_of L leaves) ≡ Some inode → IsFound leaves q inode
    found_inode q inode sound is =
        let below = found_below q inode is in
        let told' = found_is_told L leaves q inode is in
        record {
          low = used_later L laid leaves sound inode.number (used_inode (entry_at L leaves inode.number) below.1);
          high = below.0;
          is = below.1;
          told = told';
          named = sym (told_id inode.number (leaves inode.number)) ∙ sym (ap (λ (x : Inode). x.id) told') ∙ found_id L leaves q inode is;
          long = length_told L leaves q inode is;
        }

    -- the object of the identifier
    pub object_found : (q : List ℕ) (inode : Inode) → inode_with q (inodes_of L leaves) ≡ Some inode →
        object_at (store_of L leaves) q ≡ Some (object_of L leaves inode.number)
    object_found q inode is = object_is L leaves q ∙ ap (option_map (λ (x : Inode). object_of L leaves x.number)) is

    pub object_absent : (q : List ℕ) → inode_with q (inodes_of L leaves) ≡ None → object_at (store_of L leaves) q ≡ None
    object_absent q is = object_is L leaves q ∙ ap (option_map (λ (x : Inode). object_of L leaves x.number)) is

  -- what the leaf of an inode tells
  pub told_head : (n : ℕ) (bytes : List ℕ) (inode : Inode) (long : ℕ) → inode ≡ inode_of n bytes → is_inode_leaf bytes ≡ true → long ≡ inode.length →
      IsHead bytes inode.kind inode.usage inode.id inode.secret long
  unfolding inode_of
  told_head n bytes inode long told rules same = record {
    rules = rules;
    is_kind = ap (λ (x : Inode). x.kind) (sym told);
    is_usage = ap (λ (x : Inode). x.usage) (sym told);
    is_id = ap (λ (x : Inode). x.id) (sym told);
    is_secret = ap (λ (x : Inode). x.secret) (sym told);
    is_long = ap (λ (x : Inode). x.length) (sym told) ∙ sym same;
  }

  -- what a look-up tells
  pub some_other : (leaves : ℕ → List ℕ) (q : List ℕ) (r : Option (Bor Inode)) (inodes : List Inode) → option_copied r ≡ inode_with q inodes → inodes ≡ inodes_of L leaves →
      is_some r ≡ true → (other : Inode) × (inode_with q (inodes_of L leaves) ≡ Some other)
  some_other leaves q None inodes told all is = absurd (let f : false ≡ true = is in cc)
  some_other leaves q (Some b) inodes told all is = (b.now, ap (λ (l : List Inode). inode_with q l) (sym all) ∙ sym told)

  pub none_other : (leaves : ℕ → List ℕ) (q : List ℕ) (r : Option (Bor Inode)) (inodes : List Inode) → option_copied r ≡ inode_with q inodes → inodes ≡ inodes_of L leaves →
      is_some r ≡ false → inode_with q (inodes_of L leaves) ≡ None
  none_other leaves q None inodes told all isnt = ap (λ (l : List Inode). inode_with q l) (sym all) ∙ sym told
  none_other leaves q (Some b) inodes told all isnt = absurd (let f : true ≡ false = isnt in cc)
