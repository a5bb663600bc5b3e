-- A map of which entries were set, taken or written.
use Rattle.std.proofs.Common.{◌≡◌, ◌≢◌, ◌≤◌, ◌<◌, ◌+◌, ◌*◌, ◌/◌, ◌%◌, ◌^◌, ◌∙◌, ℕ, true, false, List, length, map, replicate, get_or, refl, sym, ap, subst, arith, rules}
use Rattle.std.specs.Prelude.{◌==◌, ◌&&◌, if◌then◌else◌, slice_set}
use Rattle.std.specs.Int.{w32, to_le_bytes, from_le_bytes}
use Rattle.std.proofs.lemmas.Bool.{eqb-true, eqb-false, eq-eqb, ne_eqb, and_from}
use Rattle.std.proofs.lemmas.List.{get_or-set_same, get_or-set_other, length-replicate, same_lists, places}
use Rattle.std.specs.List.{range_with_len}
use Rattle.std.proofs.lemmas.List.FromFn.{get_or-map-range_with_len}
use Rattle.std.proofs.lemmas.Nat.{from_le_bytes-to_le_bytes_4}
use Rattle.region_plan.specs.Layout.{Layout}
use Rattle.region_plan.specs.Parts.{part, with_bytes_at}
use Rattle.region_plan.specs.Entries.{entry_at, number_in}
use Rattle.region_plan.specs.Places.{IsMapOf, entries_in, free_entry, with_entry}
use Rattle.region_plan.specs.Plans.{IsMapLeaf, same_entry}
use Rattle.region_plan.specs.declared.entry.Entry.{Entry}
use Rattle.region_plan.proofs.FormLemmas.{IsLaid}
use Rattle.region_plan.proofs.SoundLemmas.{and_both}

part_here : (at : ℕ) (bytes block : List ℕ) → at + length bytes ≤ length block → part at (length bytes) (with_bytes_at at bytes block) ≡ bytes
part_here at bytes block fits = same_lists _ _ (search (rules, places)) (λ k d h. grind (arith, places))

pub part_before : (at n at' : ℕ) (bytes block : List ℕ) → at + n ≤ at' → at' + length bytes ≤ length block → part at n (with_bytes_at at' bytes block) ≡ part at n block
part_before at n at' bytes block before fits = same_lists _ _ (search (rules, places)) (λ k d h. grind (arith, places))

pub part_after : (at n at' : ℕ) (bytes block : List ℕ) → at' + length bytes ≤ at → at' + length bytes ≤ length block → part at n (with_bytes_at at' bytes block) ≡ part at n block
part_after at n at' bytes block after fits = same_lists _ _ (search (rules, places)) (λ k d h. grind (arith, places))

pub length-patched : (at : ℕ) (bytes block : List ℕ) → at + length bytes ≤ length block → length (with_bytes_at at bytes block) ≡ length block
length-patched at bytes block fits = search (rules, places)

pub part_is : (at n : ℕ) (bytes block : List ℕ) → length bytes ≡ n → at + n ≤ length block → part at n (with_bytes_at at bytes block) ≡ bytes
part_is at n bytes block long fits = subst (λ (k : ℕ). part at k (with_bytes_at at bytes block) ≡ bytes) long (part_here at bytes block (omega (arith, long, fits)))

pub set_is : (map : List Entry) (leaf : ℕ) (e : Entry) (i : ℕ) → leaf < length map → entries_in (slice_set map leaf e) i ≡ with_entry leaf e (entries_in map) i
unfolding entries_in
set_is map leaf e i below =
    elim (i == leaf) as (λ b. (i == leaf) ≡ b → get_or (slice_set map leaf e) i free_entry ≡ (if b then e else get_or map i free_entry)) [
      | true ↦ λ t. ap (λ (k : ℕ). get_or (slice_set map leaf e) k free_entry) (eqb-true i leaf t) ∙ get_or-set_same map leaf e free_entry below
      | false ↦ λ t. get_or-set_other map leaf i e free_entry (eqb-false i leaf t)
    ] refl

pub set_here : (map next : List Entry) (leaf : ℕ) (e : Entry) → ((i : ℕ) → entries_in next i ≡ with_entry leaf e (entries_in map) i) → entries_in next leaf ≡ e
set_here map next leaf e set = set leaf ∙ ap (λ b. if b then e else entries_in map leaf) (eq-eqb leaf leaf refl)

pub set_beside : (map next : List Entry) (leaf : ℕ) (e : Entry) (i : ℕ) → ((i : ℕ) → entries_in next i ≡ with_entry leaf e (entries_in map) i) → i ≢ leaf → entries_in next i ≡ entries_in map i
set_beside map next leaf e i set other = set i ∙ ap (λ b. if b then e else entries_in map i) (ne_eqb i leaf other)

module _ (L : Layout) (laid : IsLaid L) where
  -- the entries of a leaf of the map so far
  pub record TakenSoFar (old map : List Entry) (leaf : ℕ) (block : List ℕ) (place : ℕ) : Type 0 where
    pub taken : (k : ℕ) → k < place → L.entry_of (number_in block k) ≡ entries_in map (256 * leaf + k)
    pub before : (i : ℕ) → i < 256 * leaf → entries_in map i ≡ entries_in old i
    pub behind : (i : ℕ) → 256 * leaf + 256 ≤ i → entries_in map i ≡ entries_in old i
    pub inodes : ((i : ℕ) → (entries_in old i).inode < L.leaves) → (i : ℕ) → (entries_in map i).inode < L.leaves

  pub none_taken : (map : List Entry) (leaf : ℕ) (block : List ℕ) → TakenSoFar map map leaf block 0
  none_taken map leaf block = record {
    taken = λ k less. absurd (omega (arith, less));
    before = λ i less. refl;
    behind = λ i more. refl;
    inodes = λ all. all;
  }

  pub more_taken : (old map next : List Entry) (leaf : ℕ) (block : List ℕ) (place : ℕ) (e : Entry) → place < 256 → TakenSoFar old map leaf block place → e ≡ L.entry_of (number_in block place)
      → ((i : ℕ) → entries_in next i ≡ with_entry (256 * leaf + place) e (entries_in map) i) → TakenSoFar old next leaf block (place + 1)
  more_taken old map next leaf block place e inside so_far is set = record {
    taken = λ k less. elim (k == place) as (λ b. (k == place) ≡ b → L.entry_of (number_in block k) ≡ entries_in next (256 * leaf + k)) [
      | true ↦ λ t. (let same = eqb-true k place t in
          ap (λ (j : ℕ). L.entry_of (number_in block j)) same ∙ sym is ∙ sym (set_here map next (256 * leaf + place) e set) ∙ ap (λ (j : ℕ). entries_in next (256 * leaf + j)) (sym same))
      | false ↦ λ t. (let other = eqb-false k place t in
          so_far.taken k (omega (arith, less, other)) ∙ sym (set_beside map next (256 * leaf + place) e (256 * leaf + k) set (λ same. omega (arith, same, other))))
    ] refl;
    before = λ i less. set_beside map next (256 * leaf + place) e i set (λ same. omega (arith, same, less)) ∙ so_far.before i less;
    behind = λ i more. set_beside map next (256 * leaf + place) e i set (λ same. omega (arith, same, more, inside)) ∙ so_far.behind i more;
    inodes = λ all i. elim (i == 256 * leaf + place) as (λ b. (i == 256 * leaf + place) ≡ b → (entries_in next i).inode < L.leaves) [
      | true ↦ λ t. subst (λ (x : Entry). x.inode < L.leaves) (sym (ap (λ (j : ℕ). entries_in next j) (eqb-true i (256 * leaf + place) t)
          ∙ set_here map next (256 * leaf + place) e set ∙ is)) (laid.inode (number_in block place))
      | false ↦ λ t. subst (λ (x : Entry). x.inode < L.leaves) (sym (set_beside map next (256 * leaf + place) e i set (eqb-false i (256 * leaf + place) t))) (so_far.inodes all i)
    ] refl;
  }

  -- a map that has each leaf of a region's is that of the region
  pub mapped_by : (leaves : ℕ → List ℕ) (map : List Entry) → ((leaf : ℕ) → leaf < L.map_leaves → IsMapLeaf L map leaf (leaves leaf)) → IsMapOf L leaves map
  unfolding entry_at
  mapped_by leaves map each i below =
      let whole = laid.mapped in
      let place : 256 * (i / 256) + i % 256 ≡ i = omega arith in
      sym (each (i / 256) (omega (arith, whole, below)) (i % 256) (omega arith) ∙ ap (λ (k : ℕ). entries_in map k) place)

  -- and one of a region has each of its leaves
  pub mapped_leaf : (leaves : ℕ → List ℕ) (map : List Entry) → IsMapOf L leaves map → (leaf : ℕ) → leaf < L.map_leaves → IsMapLeaf L map leaf (leaves leaf)
  unfolding entry_at
  mapped_leaf leaves map is leaf below place inside =
      let whole = laid.mapped in
      let at : (256 * leaf + place) / 256 ≡ leaf = omega (arith, inside) in
      let rest : (256 * leaf + place) % 256 ≡ place = omega (arith, inside) in
      sym (is (256 * leaf + place) (omega (arith, whole, below, inside))
      ∙ (λ j. L.entry_of (number_in (leaves (at j)) (rest j))))

-- a leaf of the map whose entries differ differs
pub differs_too : (L : Layout) (laid : IsLaid L) (leaves : ℕ → List ℕ) (old map : List Entry) (leaf : ℕ) (bytes : List ℕ) → IsMapOf L leaves old → leaf < L.map_leaves
    → IsMapLeaf L map leaf bytes → (place : ℕ) × (place < 256) × (entries_in map (256 * leaf + place) ≢ entries_in old (256 * leaf + place)) → bytes ≢ leaves leaf
differs_too L laid leaves old map leaf bytes is below now met same =
    met.2 (sym (now met.0 met.1) ∙ ap (λ (b : List ℕ). L.entry_of (number_in b met.0)) same ∙ mapped_leaf L laid leaves old is leaf below met.0 met.1)

-- and one whose entries don't is that of both maps
pub same_too : (L : Layout) (laid : IsLaid L) (leaves : ℕ → List ℕ) (old map : List Entry) (leaf : ℕ) → IsMapOf L leaves old → leaf < L.map_leaves
    → ((place : ℕ) → place < 256 → entries_in map (256 * leaf + place) ≡ entries_in old (256 * leaf + place)) → IsMapLeaf L map leaf (leaves leaf)
same_too L laid leaves old map leaf is below same place inside = mapped_leaf L laid leaves old is leaf below place inside ∙ sym (same place inside)

-- entries whose parts are the same
pub same_is : (e f : Entry) → same_entry e f ≡ true → e ≡ f
same_is e f same =
    let parts = and_both (e.kind == f.kind) ((e.inode == f.inode) && (e.index == f.index)) same in
    let rest = and_both (e.inode == f.inode) (e.index == f.index) parts.1 in
    λ i. record { kind = eqb-true e.kind f.kind parts.0 i; inode = eqb-true e.inode f.inode rest.0 i; index = eqb-true e.index f.index rest.1 i }

pub same_itself : (e f : Entry) → e ≡ f → same_entry e f ≡ true
same_itself e f same =
    ap (λ (x : Entry). same_entry e x) (sym same) ∙ and_from (e.kind == e.kind) ((e.inode == e.inode) && (e.index == e.index)) (eq-eqb e.kind e.kind refl)
    (and_from (e.inode == e.inode) (e.index == e.index) (eq-eqb e.inode e.inode refl) (eq-eqb e.index e.index refl))

-- the map of a region's leaves
abbrev pub map_of : Layout → (ℕ → List ℕ) → List Entry
map_of L leaves = map (λ i. entry_at L leaves i) (range_with_len 0 L.leaves)

pub map_of_is : (L : Layout) (leaves : ℕ → List ℕ) → IsMapOf L leaves (map_of L leaves)
unfolding entries_in
map_of_is L leaves i below = get_or-map-range_with_len (λ k. entry_at L leaves k) 0 L.leaves i i free_entry (omega (arith, below)) (omega arith)

-- the entries of a leaf of the map that are written so far
pub record WrittenSoFar (L : Layout) (map : List Entry) (leaf : ℕ) (block : List ℕ) (place : ℕ) : Type 0 where
  pub long : length block ≡ 1024
  pub written : (k : ℕ) → k < place → L.entry_of (number_in block k) ≡ entries_in map (256 * leaf + k)

pub none_written : (L : Layout) (map : List Entry) (leaf : ℕ) → WrittenSoFar L map leaf (replicate 1024 0) 0
none_written L map leaf = record { long = length-replicate {A = ℕ} 1024 0; written = λ k less. absurd (omega (arith, less)) }

-- one more entry written
pub more_written : (L : Layout) (map : List Entry) (leaf : ℕ) (block next bytes : List ℕ) (place number : ℕ) (e : Entry) → place < 256
    → WrittenSoFar L map leaf block place → e ≡ entries_in map (256 * leaf + place) → L.entry_of number ≡ e → number < 2 ^ 32
    → bytes ≡ to_le_bytes w32 number → next ≡ with_bytes_at (4 * place) bytes block → WrittenSoFar L map leaf next (place + 1)
more_written L map leaf block next bytes place number e below so_far is is_number fits written put =
    let four : length bytes ≡ 4 = ap length written in
    let long = so_far.long in
    record { long = ap length put ∙ length-patched (4 * place) bytes block (omega (arith, four, long, below)) ∙ long; written = λ k less. entry_written four long k less }
  where
    entry_written : length bytes ≡ 4 → length block ≡ 1024 → (k : ℕ) → k < place + 1 → L.entry_of (number_in next k) ≡ entries_in map (256 * leaf + k)
    entry_written four long k less = elim (k == place) as (λ b. (k == place) ≡ b → L.entry_of (number_in next k) ≡ entries_in map (256 * leaf + k)) [
      | true ↦ λ t.
          let same : k ≡ place = eqb-true k place t in
          let read : number_in next place ≡ number = ap (from_le_bytes w32) (ap (part (4 * place) 4) put ∙ part_is (4 * place) 4 bytes block four (omega (arith, long, below)) ∙ written)
          ∙ from_le_bytes-to_le_bytes_4 number fits in
          ap (λ (j : ℕ). L.entry_of (number_in next j)) same ∙ ap (λ (n : ℕ). L.entry_of n) read ∙ is_number ∙ is ∙ ap (λ (j : ℕ). entries_in map (256 * leaf + j)) (sym same)
      | false ↦ λ t.
          let other = eqb-false k place t in
          let early : k < place = omega (arith, less, other) in
          ap (λ (x : List ℕ). L.entry_of (from_le_bytes w32 x)) (ap (part (4 * k) 4) put ∙ part_before (4 * k) 4 (4 * place) bytes block (omega (arith, early)) (omega (arith, four, long, below)))
          ∙ so_far.written k early
    ] refl
