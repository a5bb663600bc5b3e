-- A region whose leaves in use got other numbers stands for the same store.
use Rattle.std.proofs.Common.{◌≡◌, ◌≢◌, ℕ, zero, suc, ◌+◌, ◌-◌, ◌*◌, ◌/◌, ◌%◌, ◌<◌, ◌≤◌, Bool, true, false, cond, List, ◌∷◌, take, drop, map, get_or, Option, None, Some, Ok, find}
use Rattle.std.proofs.Common.{refl, sym, ◌∙◌, ap, subst, arith}
use Rattle.std.specs.Prelude.{◌&&◌, ◌||◌, ◌==◌, if◌then◌else◌, nat_lt}
use Rattle.std.specs.List.{range_with_len}
use Rattle.std.specs.Cmp.Lexicographic.{nat_list_cmp_total}
use Rattle.std.specs.FinMap as finite
use Rattle.std.proofs.lemmas.Bool.{eqb-true, eq-eqb, and_from, lt-ltb, le-ltb}
use Rattle.store_api.specs.declared.object.Object.{Object}
use Rattle.store_api.specs.Stores.{Store, object_at}
use Rattle.store_api.proofs.Costs.{tied_same}
use Rattle.region_plan.specs.Layout.{Layout}
use Rattle.region_plan.specs.Parts.{are_zero}
use Rattle.region_plan.specs.Entries.{entry_at, form_of, is_zero, is_inode, is_data_of, is_data_at, is_used, is_well_formed}
use Rattle.region_plan.specs.Inodes.{four_at, length_in, identifier_in, secret_in, is_inode_leaf}
use Rattle.region_plan.specs.Places.{free_entry}
use Rattle.region_plan.specs.Regions.{numbers, leaf_of, byte_in, byte_at, content_of, object_of, region_of, store_of, data_leaves}
use Rattle.region_plan.specs.declared.entry.Entry.{Entry}
use Rattle.region_plan.proofs.FormLemmas.{IsLaid}
use Rattle.region_plan.proofs.HeldLemmas.{held_at, held_by}
use Rattle.region_plan.proofs.LimitLemmas.{used_later}
use Rattle.region_plan.proofs.SoundLemmas.{Sound, SoundInode, blocks_of, owner_is, owner_below, and_both, sound_region}

-- what alone passes of a range is what is found
find_only : (p : ℕ → Bool) (n a j : ℕ) → a ≤ j → j < a + n → p j ≡ true → ((i : ℕ) → a ≤ i → i < a + n → p i ≡ true → i ≡ j) → find p (range_with_len a n) ≡ Some j
find_only p zero a j low high is only = absurd (omega arith)
find_only p (suc n) a j low high is only =
    elim (p a) as (λ b. p a ≡ b → cond b (Some a) (find p (range_with_len (a + 1) n)) ≡ Some j) [
      | true ↦ λ t. ap (λ (x : ℕ). Some x) (only a (omega arith) (omega arith) t)
      | false ↦ λ t.
          let other : a ≢ j = λ e. (let f : true ≡ false = sym is ∙ ap p (sym e) ∙ t in cc) in
          find_only p n (a + 1) j (omega (arith, other)) (omega arith) is (λ i low' high' passes. only i (omega arith) (omega arith) passes)
    ] refl

map_range : {X : Type 0} (f g : ℕ → X) (n a : ℕ) → ((i : ℕ) → a ≤ i → i < a + n → g i ≡ f i) → map g (range_with_len a n) ≡ map f (range_with_len a n)
map_range f g zero a same = refl
map_range {X = X} f g (suc n) a same =
    ap (λ (x : X). x ∷ map g (range_with_len (a + 1) n)) (same a (omega arith) (omega arith))
    ∙ ap (λ (l : List X). f a ∷ l) (map_range f g n (a + 1) (λ i low high. same i (omega arith) (omega arith)))

or_first : (x y : Bool) → x ≡ true → (x || y) ≡ true
or_first x y is = ap (λ b. b || y) is

or_second : (x y : Bool) → y ≡ true → (x || y) ≡ true
or_second true y e = refl
or_second false y e = e

or_rest : (x y : Bool) → (x || y) ≡ true → x ≡ false → y ≡ true
or_rest true y e isnt = absurd (let f : true ≡ false = isnt in cc)
or_rest false y e isnt = e

abbrev object_with : List ℕ → List ℕ → Object
object_with bytes content = record { kind = four_at 0 bytes; usage = four_at 4 bytes; secret = secret_in bytes; content = content }

-- an entry with another number of its inode
abbrev pub moved_entry : (ℕ → ℕ) → Entry → Entry
moved_entry new e = record { kind = e.kind; inode = new e.inode; index = e.index }

-- the form of an entry that moved, where it is in use
form_moved : (new : ℕ → ℕ) (i k : ℕ) (e : Entry) (b c : Bool) → ((e.kind == 1) || (e.kind == 2)) ≡ true → new k ≡ i → form_of k e b ≡ true
    → (e.kind ≡ 2 → b ≡ true → c ≡ true) → form_of i (moved_entry new e) c ≡ true
form_moved new i k e b c used there formed implies =
    elim (e.kind == 1) as (λ t. (e.kind == 1) ≡ t → form_of i (moved_entry new e) c ≡ true) [
      | true ↦ λ t.
          let kind : e.kind ≡ 1 = eqb-true e.kind 1 t in
          let was : ((e.inode == k) && (e.index == 0)) ≡ true = sym (ap (λ (x : ℕ). form_of k (record { kind = x; inode = e.inode; index = e.index }) b) kind) ∙ formed in
          let parts = and_both (e.inode == k) (e.index == 0) was in
          ap (λ (x : ℕ). form_of i (record { kind = x; inode = new e.inode; index = e.index }) c) kind
          ∙ and_from (new e.inode == i) (e.index == 0) (eq-eqb (new e.inode) i (ap new (eqb-true e.inode k parts.0) ∙ there)) parts.1
      | false ↦ λ t.
          let kind : e.kind ≡ 2 = eqb-true e.kind 2 (or_rest (e.kind == 1) (e.kind == 2) used t) in
          let was : b ≡ true = sym (ap (λ (x : ℕ). form_of k (record { kind = x; inode = e.inode; index = e.index }) b) kind) ∙ formed in
          ap (λ (x : ℕ). form_of i (record { kind = x; inode = new e.inode; index = e.index }) c) kind ∙ implies kind was
    ] refl

module _ (L : Layout) (laid : IsLaid L) (leaves : ℕ → List ℕ) (sound : Sound L leaves) where
  -- the form of an entry in use
  pub form_was : (k : ℕ) → k < L.leaves → is_used L leaves k ≡ true →
      form_of k (entry_at L leaves k) (is_inode L leaves (entry_at L leaves k).inode && nat_lt (entry_at L leaves k).index L.indexes) ≡ true
  unfolding is_well_formed
  form_was k below used =
      sym (ap (λ b. if b then is_zero (entry_at L leaves k) else form_of k (entry_at L leaves k)
      (is_inode L leaves (entry_at L leaves k).inode && nat_lt (entry_at L leaves k).index L.indexes)) (le-ltb k L.map_leaves (used_later L laid leaves sound k used)))
      ∙ sound.formed k below

module _ (L M : Layout) (leaves after : ℕ → List ℕ) (new old : ℕ → ℕ) where
  -- a leaf in use is found under its new number
  pub record IsForth (k : ℕ) : Type 0 where
    pub below : new k < M.leaves
    pub high : M.map_leaves ≤ new k
    pub back : old (new k) ≡ k
    pub entry : entry_at M after (new k) ≡ moved_entry new (entry_at L leaves k)
    pub bytes : after (new k) ≡ leaves k

  -- a leaf in use was in use under its old number
  pub record IsBack (i : ℕ) : Type 0 where
    pub below : old i < L.leaves
    pub used : is_used L leaves (old i) ≡ true
    pub forth : new (old i) ≡ i

  -- the leaves in use moved, and no other is in use
  pub record IsMoved : Type 0 where
    pub forth : (k : ℕ) → k < L.leaves → is_used L leaves k ≡ true → IsForth k
    pub back : (i : ℕ) → i < M.leaves → is_used M after i ≡ true → IsBack i
    pub free : (i : ℕ) → i < M.leaves → is_used M after i ≡ false → entry_at M after i ≡ free_entry
    pub short : (n : ℕ) → n < L.leaves → is_inode L leaves n ≡ true → blocks_of L leaves n ≤ M.indexes

  module _ (laid : IsLaid L) (laid' : IsLaid M) (sound : Sound L leaves) (moved : IsMoved) where
    abbrev E : ℕ → Entry
    E k = entry_at L leaves k

    abbrev F : ℕ → Entry
    F i = entry_at M after i

    entry_back : (i : ℕ) (b : IsBack i) → IsForth (old i) → (F i ≡ moved_entry new (E (old i))) × (after i ≡ leaves (old i))
    entry_back i b f = (ap (λ (j : ℕ). entry_at M after j) (sym b.forth) ∙ f.entry, ap after (sym b.forth) ∙ f.bytes)

    inode_forth : (k : ℕ) → k < L.leaves → is_inode L leaves k ≡ true → is_inode M after (new k) ≡ true
    inode_forth k below is = ap (λ (e : Entry). e.kind == 1) (moved.forth k below (or_first _ _ is)).entry ∙ is

    -- what an inode was
    record InodeBack (i : ℕ) : Type 0 where
      below : old i < L.leaves
      inode : is_inode L leaves (old i) ≡ true
      forth : new (old i) ≡ i
      bytes : after i ≡ leaves (old i)

    inode_back : (i : ℕ) → i < M.leaves → is_inode M after i ≡ true → InodeBack i
    inode_back i below is =
        let b = moved.back i below (or_first _ _ is) in
        let met = entry_back i b (moved.forth (old i) b.below b.used) in
        record { below = b.below; inode = sym (ap (λ (e : Entry). e.kind == 1) met.0) ∙ is; forth = b.forth; bytes = met.1 }

    -- what data was
    record DataBack (m i : ℕ) : Type 0 where
      below : old i < L.leaves
      forth : new (old i) ≡ i
      of : is_data_of L leaves (old m) (old i) ≡ true
      entry : F i ≡ moved_entry new (E (old i))
      bytes : after i ≡ leaves (old i)

    data_back : (m i : ℕ) → i < M.leaves → is_data_of M after m i ≡ true → DataBack m i
    data_back m i below is =
        let parts = and_both ((F i).kind == 2) ((F i).inode == m) is in
        let b = moved.back i below (or_second ((F i).kind == 1) _ parts.0) in
        let met = entry_back i b (moved.forth (old i) b.below b.used) in
        let kind : ((E (old i)).kind == 2) ≡ true = sym (ap (λ (e : Entry). e.kind == 2) met.0) ∙ parts.0 in
        let owner : new (E (old i)).inode ≡ m = sym (ap (λ (e : Entry). e.inode) met.0) ∙ eqb-true (F i).inode m parts.1 in
        let inode = owner_is L leaves (old i) (sound.formed (old i) b.below) kind in
        let own = moved.forth (E (old i)).inode (owner_below L leaves (old i) laid) (or_first _ _ inode) in
        let is_own : (E (old i)).inode ≡ old m = sym own.back ∙ ap old owner in
        record {
          below = b.below;
          forth = b.forth;
          of = and_from ((E (old i)).kind == 2) ((E (old i)).inode == old m) kind (eq-eqb (E (old i)).inode (old m) is_own);
          entry = met.0;
          bytes = met.1;
        }

    at_back : (m x i : ℕ) → i < M.leaves → is_data_at M after m x i ≡ true → (old i < L.leaves) × (is_data_at L leaves (old m) x (old i) ≡ true) × (new (old i) ≡ i)
    at_back m x i below is =
        let parts = and_both (is_data_of M after m i) ((F i).index == x) is in
        let back = data_back m i below parts.0 in
        (back.below, and_from (is_data_of L leaves (old m) (old i)) ((E (old i)).index == x) back.of (sym (ap (λ (e : Entry). e.index == x) back.entry) ∙ parts.1), back.forth)

    at_forth : (n x k : ℕ) → k < L.leaves → is_data_at L leaves n x k ≡ true → IsForth k × (is_data_at M after (new n) x (new k) ≡ true)
    at_forth n x k below is =
        let parts = and_both (is_data_of L leaves n k) ((E k).index == x) is in
        let own = and_both ((E k).kind == 2) ((E k).inode == n) parts.0 in
        let f = moved.forth k below (or_second ((E k).kind == 1) _ own.0) in (
          f,
          ap (λ (e : Entry). ((e.kind == 2) && (e.inode == new n)) && (e.index == x)) f.entry
              ∙ and_from (((E k).kind == 2) && (new (E k).inode == new n)) ((E k).index == x)
              (and_from ((E k).kind == 2) (new (E k).inode == new n) own.0 (eq-eqb (new (E k).inode) (new n) (ap new (eqb-true (E k).inode n own.1)))) parts.1,
        )

    each_inode : (i : ℕ) → i < M.leaves → is_inode M after i ≡ true → SoundInode M after i
    each_inode i below is =
        let back = inode_back i below is in
        let own = sound.inode (old i) back.below back.inode in
        let long : blocks_of M after i ≡ blocks_of L leaves (old i) = ap (λ (b : List ℕ). data_leaves (length_in b)) back.bytes in
        record {
          bytes = ap is_inode_leaf back.bytes ∙ own.bytes;
          present = λ x before.
              let met = own.present x (subst (λ (n : ℕ). x < n) long before) in
              let there = at_forth (old i) x met.0 met.1 met.2 in
              (new met.0, there.0.below, subst (λ (m : ℕ). is_data_at M after m x (new met.0) ≡ true) back.forth there.1);
          single = λ x k j before low high here there.
              let one = at_back i x k low here in
              let two = at_back i x j high there in
              sym one.2 ∙ ap new (own.single x (old k) (old j) (subst (λ (n : ℕ). x < n) long before) one.0 two.0 one.1 two.1) ∙ two.2;
          before = λ k low of.
              let met = data_back i k low of in
              subst (λ (n : ℕ). (F k).index < n) (sym long) (subst (λ (e : Entry). e.index < blocks_of L leaves (old i)) (sym met.entry) (own.before (old k) met.below met.of));
          padded = λ k low of.
              let met = data_back i k low of in
              ap (λ (b : List ℕ). are_zero (drop (length_in b - 1024 * (F k).index) (take 1024 (after k)))) back.bytes
              ∙ ap (λ (e : Entry). are_zero (drop (length_in (leaves (old i)) - 1024 * e.index) (take 1024 (after k)))) met.entry
              ∙ ap (λ (b : List ℕ). are_zero (drop (length_in (leaves (old i)) - 1024 * (E (old k)).index) (take 1024 b))) met.bytes
              ∙ own.padded (old k) met.below met.of;
        }

    free_formed : (i : ℕ) → F i ≡ free_entry → is_well_formed M after i ≡ true
    unfolding is_well_formed
    free_formed i free =
        ap (λ (e : Entry). if nat_lt i M.map_leaves then is_zero e else form_of i e (is_inode M after e.inode && nat_lt e.index M.indexes)) free
        ∙ each (nat_lt i M.map_leaves)
      where
        each : (b : Bool) → (if b then true else true) ≡ true
        each true = refl
        each false = refl

    used_formed : (i : ℕ) → i < M.leaves → is_used M after i ≡ true → is_well_formed M after i ≡ true
    unfolding is_well_formed
    used_formed i below used =
        let b = moved.back i below used in
        let f = moved.forth (old i) b.below b.used in
        let met = entry_back i b f in
        let high : M.map_leaves ≤ i = subst (λ (n : ℕ). M.map_leaves ≤ n) b.forth f.high in
        ap (λ c. if c then is_zero (F i) else form_of i (F i) (is_inode M after (F i).inode && nat_lt (F i).index M.indexes)) (le-ltb i M.map_leaves high)
        ∙ ap (λ (e : Entry). form_of i e (is_inode M after e.inode && nat_lt e.index M.indexes)) met.0
        ∙ form_moved new i (old i) (E (old i)) _ _ b.used b.forth (form_was L laid leaves sound (old i) b.below b.used)
        (λ kind was.
        let inode = (and_both (is_inode L leaves (E (old i)).inode) (nat_lt (E (old i)).index L.indexes) was).0 in
        let owner = owner_below L leaves (old i) laid in
        let of : is_data_of L leaves (E (old i)).inode (old i) ≡ true = and_from ((E (old i)).kind == 2) ((E (old i)).inode == (E (old i)).inode)
        (eq-eqb (E (old i)).kind 2 kind) (eq-eqb (E (old i)).inode (E (old i)).inode refl) in
        let before = (sound.inode (E (old i)).inode owner inode).before (old i) b.below of in
        let short = moved.short (E (old i)).inode owner inode in
        and_from (is_inode M after (new (E (old i)).inode)) (nat_lt (E (old i)).index M.indexes) (inode_forth (E (old i)).inode owner inode)
        (lt-ltb (E (old i)).index M.indexes (omega (arith, before, short))))

    each_formed : (i : ℕ) → i < M.leaves → is_well_formed M after i ≡ true
    each_formed i below = elim (is_used M after i) as (λ b. is_used M after i ≡ b → is_well_formed M after i ≡ true) [
      | true ↦ λ e. used_formed i below e
      | false ↦ λ e. free_formed i (moved.free i below e)
    ] refl

    each_apart : (a b : ℕ) → a < M.leaves → b < M.leaves → is_inode M after a ≡ true → is_inode M after b ≡ true → identifier_in (after a) ≡ identifier_in (after b) → a ≡ b
    each_apart a b low high here there same =
        let one = inode_back a low here in
        let two = inode_back b high there in
        sym one.forth ∙ ap new (sound.apart (old a) (old b) one.below two.below one.inode two.inode (sym (ap identifier_in one.bytes) ∙ same ∙ ap identifier_in two.bytes)) ∙ two.forth

    -- no rule is broken
    pub moved_sound : Sound M after
    moved_sound = record { formed = each_formed; inode = each_inode; apart = each_apart }

    -- each object is as it was
    leaf_was : (n x k : ℕ) → n < L.leaves → is_inode L leaves n ≡ true → x < blocks_of L leaves n → k < L.leaves → is_data_at L leaves n x k ≡ true → leaf_of L leaves n x ≡ Some k
    unfolding leaf_of numbers
    leaf_was n x k here inode before below is =
        find_only (λ i. is_data_at L leaves n x i) L.leaves 0 k (omega arith) (omega arith) is
        (λ i low high passes. (sound.inode n here inode).single x i k before (omega arith) below passes is)

    leaf_now : (n x k : ℕ) → n < L.leaves → is_inode L leaves n ≡ true → x < blocks_of L leaves n → k < L.leaves → is_data_at L leaves n x k ≡ true → leaf_of M after (new n) x ≡ Some (new k)
    unfolding leaf_of numbers
    leaf_now n x k here inode before below is =
        let there = at_forth n x k below is in
        let f = moved.forth n here (or_first _ _ inode) in
        let low = there.0.below in
        find_only (λ i. is_data_at M after (new n) x i) M.leaves 0 (new k) (omega arith) (omega (arith, low)) there.1
        (λ i least high passes.
        let met = at_back (new n) x i (omega arith) passes in
        sym met.2 ∙ ap new ((sound.inode n here inode).single x (old i) k before met.0 below (subst (λ (m : ℕ). is_data_at L leaves m x (old i) ≡ true) f.back met.1) is))

    byte_same : (n at : ℕ) → n < L.leaves → is_inode L leaves n ≡ true → at < length_in (leaves n) → byte_at M after (new n) at ≡ byte_at L leaves n at
    unfolding byte_at
    byte_same n at here inode inside =
        let before : at / 1024 < blocks_of L leaves n = omega (arith, inside) in
        let met = (sound.inode n here inode).present (at / 1024) before in
        let f = (at_forth n (at / 1024) met.0 met.1 met.2).0 in
        ap (λ r. byte_in M after r (at % 1024)) (leaf_now n (at / 1024) met.0 here inode before met.1 met.2)
        ∙ ap (λ (b : List ℕ). get_or b (at % 1024) 0) f.bytes
        ∙ sym (ap (λ r. byte_in L leaves r (at % 1024)) (leaf_was n (at / 1024) met.0 here inode before met.1 met.2))

    object_same : (n : ℕ) → n < L.leaves → is_inode L leaves n ≡ true → object_of M after (new n) ≡ object_of L leaves n
    unfolding object_of content_of
    object_same n here inode =
        let f = moved.forth n here (or_first _ _ inode) in
        ap (λ (b : List ℕ). object_with b (map (λ at. byte_at M after (new n) at) (range_with_len 0 (length_in b)))) f.bytes
        ∙ ap (λ (c : List ℕ). object_with (leaves n) c)
        (map_range (λ at. byte_at L leaves n at) (λ at. byte_at M after (new n) at) (length_in (leaves n)) 0 (λ at low high. byte_same n at here inode (omega arith)))

    abbrev At : List ℕ → Option Object
    At q = object_at (store_of M after) q

    each_at : (q : List ℕ) → At q ≡ object_at (store_of L leaves) q
    each_at q = elim (object_at (store_of L leaves) q) as (λ r. object_at (store_of L leaves) q ≡ r → At q ≡ r) [
      | Some o ↦ λ e.
          let met = held_by L leaves q o e in
          let f = moved.forth met.0 met.1 (or_first _ _ met.2.0) in
          ap At (sym (ap identifier_in f.bytes ∙ met.2.1)) ∙ held_at M after moved_sound (new met.0) f.below (inode_forth met.0 met.1 met.2.0)
          ∙ ap (λ (x : Object). Some x) (object_same met.0 met.1 met.2.0 ∙ met.2.2)
      | None ↦ λ e. elim (At q) as (λ r. At q ≡ r → r ≡ None) [
        | None ↦ λ f. refl
        | Some o ↦ λ f.
            let met = held_by M after q o f in
            let back = inode_back met.0 met.1 met.2.0 in
            let held : object_at (store_of L leaves) q ≡ Some (object_of L leaves (old met.0)) =
            ap (object_at (store_of L leaves)) (sym (sym (ap identifier_in back.bytes) ∙ met.2.1)) ∙ held_at L leaves sound (old met.0) back.below back.inode in
            let never : ◌≡◌ {A = Option Object} None (Some (object_of L leaves (old met.0))) = sym e ∙ held in
            cc
      ] refl
    ] refl

    -- the leaves stand for the same store
    pub moved_region : region_of M after ≡ Ok (store_of L leaves)
    moved_region = sound_region M after laid' moved_sound ∙ ap (λ (s : Store). Ok s) (finite.same_map nat_list_cmp_total tied_same (store_of M after) (store_of L leaves) each_at)
