-- The map after the data of an object was placed anew.
use Rattle.std.proofs.Common.{◌≡◌, ◌≢◌, ◌⊎◌, inl, inr, ℕ, ◌+◌, ◌-◌, ◌<◌, ◌≤◌, Bool, true, false, List, refl, sym, ◌∙◌, ap, subst, arith, nat_le}
use Rattle.std.specs.Prelude.{◌&&◌, ◌||◌, ◌==◌, if◌then◌else◌, nat_lt}
use Rattle.std.proofs.lemmas.Bool.{eqb-true, eqb-false, eq-eqb, ne_eqb, ltb-true, ltb-false, leb-true, leb-false, le-ltb, lt-ltb, and_from}
use Rattle.region_plan.specs.Layout.{Layout}
use Rattle.region_plan.specs.Entries.{entry_at, form_of, is_zero, is_inode, is_data_of, is_data_at, is_used, is_well_formed}
use Rattle.region_plan.specs.Places.{free_entry, data_at, is_of, is_free, free_before, placed_entry, place_leaves}
use Rattle.region_plan.specs.declared.entry.Entry.{Entry}
use Rattle.region_plan.specs.declared.entry.TheConstants.{FREE, INODE, DATA}
use Rattle.region_plan.proofs.LimitLemmas.{used_later}
use Rattle.region_plan.proofs.SoundLemmas.{Sound, and_both}
use Rattle.region_plan.proofs.FrameLemmas.{is_own, Framed, data_entry}
use Rattle.region_plan.proofs.Totals.{total, mark, counted, ranked, rank_only}
use Rattle.region_plan.proofs.FormLemmas.{IsLaid}

-- the three ways in which an entry is placed
pub record IsTaken (free : Bool) (e : Entry) (inode index blocks : ℕ) : Type 0 where
  pub was_free : free ≡ true
  pub inside : index < blocks
  pub is : placed_entry free e inode index blocks ≡ data_at inode index

pub record IsFreed (free : Bool) (e : Entry) (inode index blocks : ℕ) : Type 0 where
  pub own : is_of inode e ≡ true
  pub past : blocks ≤ e.index
  pub is : placed_entry free e inode index blocks ≡ free_entry

pub record IsKept (free : Bool) (e : Entry) (inode index blocks : ℕ) : Type 0 where
  pub untaken : free ≡ true → blocks ≤ index
  pub inside : is_of inode e ≡ true → e.index < blocks
  pub is : placed_entry free e inode index blocks ≡ e

pub ways : (free : Bool) (e : Entry) (inode index blocks : ℕ) → IsTaken free e inode index blocks ⊎ (IsFreed free e inode index blocks ⊎ IsKept free e inode index blocks)
ways free e inode index blocks =
    elim (free && nat_lt index blocks) as (λ b. (free && nat_lt index blocks) ≡ b → IsTaken free e inode index blocks ⊎ (IsFreed free e inode index blocks ⊎ IsKept free e inode index blocks)) [
      | true ↦ λ t. (let parts = and_both free (nat_lt index blocks) t in
          inl (record {
            was_free = parts.0;
            inside = ltb-true index blocks parts.1;
            is = ap (λ b. if b then data_at inode index else if is_of inode e && nat_le blocks e.index
                then free_entry else e) t;
          }))
      | false ↦ λ t. elim (is_of inode e && nat_le blocks e.index) as (λ b. (is_of inode e && nat_le blocks e.index) ≡ b →
          IsTaken free e inode index blocks ⊎ (IsFreed free e inode index blocks ⊎ IsKept free e inode index blocks)) [
            | true ↦ λ f. (let parts = and_both (is_of inode e) (nat_le blocks e.index) f in
                inr (inl (record { own = parts.0; past = leb-true blocks e.index parts.1; is = skipped t ∙ ap (λ b. if b then free_entry else e) f })))
            | false ↦ λ f. inr (inr (record { untaken = λ is. untaken_test t is; inside = λ is. within f is; is = skipped t ∙ ap (λ b. if b then free_entry else e) f }))
          ] refl
    ] refl
  where
    skipped : (free && nat_lt index blocks) ≡ false → placed_entry free e inode index blocks ≡ (if is_of inode e && nat_le blocks e.index then free_entry else e)
    skipped t = ap (λ b. if b then data_at inode index else if is_of inode e && nat_le blocks e.index then free_entry else e) t

    untaken_test : (free && nat_lt index blocks) ≡ false → free ≡ true → blocks ≤ index
    untaken_test t is = ltb-false index blocks (sym (ap (λ b. b && nat_lt index blocks) is) ∙ t)

    within : (is_of inode e && nat_le blocks e.index) ≡ false → is_of inode e ≡ true → e.index < blocks
    within f is = leb-false blocks e.index (sym (ap (λ b. b && nat_le blocks e.index) is) ∙ f)

inode_not_data : (e : Entry) (n m : ℕ) → e ≡ record { kind = INODE; inode = n; index = 0 } → is_of m e ≡ false
inode_not_data e n m is = ap (is_of m) is

data_used : (e : Entry) (m : ℕ) → is_of m e ≡ true → ((e.kind == INODE) || (e.kind == DATA)) ≡ true
data_used e m is = (let kind : e.kind ≡ 2 = (data_entry e m is).0 in rw (kind) refl)

free_unused : (e : Entry) → (e.kind == FREE) ≡ true → ((e.kind == INODE) || (e.kind == DATA)) ≡ false
free_unused e is = (let kind : e.kind ≡ 0 = eqb-true e.kind 0 is in rw (kind) refl)

free_not_data : (e : Entry) (m : ℕ) → (e.kind == FREE) ≡ true → is_of m e ≡ false
free_not_data e m is = (let kind : e.kind ≡ 0 = eqb-true e.kind 0 is in rw (kind) refl)

form_data : (i : ℕ) (e : Entry) (b : Bool) → e.kind ≡ 2 → b ≡ true → form_of i e b ≡ true
form_data i e b kind is = ap (λ (k : ℕ). form_of i (record e { kind = k }) b) kind ∙ is

or_second : (x y : Bool) → y ≡ true → (x || y) ≡ true
or_second true y e = refl
or_second false y e = e

or_none : (x y : Bool) → x ≡ false → (x || y) ≡ y
or_none true y e = absurd (let f : true ≡ false = e in cc)
or_none false y e = refl

true_false : {A : Type 0} {b : Bool} → b ≡ true → b ≡ false → A
true_false is isnt = absurd (let f : true ≡ false = sym is ∙ isnt in cc)

-- ---- numbers

not_both : (a b : ℕ) → a < b → b ≤ a → ⊥
not_both a b less past = omega (arith, less, past)

not_one_and_two : (k : ℕ) → k ≡ 1 → k ≡ 2 → ⊥
not_one_and_two k one two = omega (arith, one, two)

below_too : (x kept had : ℕ) → x < kept → kept ≤ had → x < had
below_too x kept had less most = omega (arith, less, most)

less_than : (a b c : ℕ) → a < b → b ≤ c → a < c
less_than a b c p q = omega (arith, p, q)

not_before : (kept free index : ℕ) → index ≡ kept + free → index < kept → ⊥
not_before kept free index is less = omega (arith, is, less)

-- an index behind the kept ones is that of a free leaf
place_left : (x kept blocks free all : ℕ) → kept ≤ x → free ≡ all → blocks ≤ kept + free → x < blocks → x - kept < all
place_left x kept blocks free all past is enough inside = omega (arith, past, is, enough, inside)

place_of : (x kept free rank : ℕ) → kept ≤ x → free ≡ rank → rank ≡ x - kept → kept + free ≡ x
place_of x kept free rank past is left = omega (arith, past, is, left)

same_place : (x kept one two a b : ℕ) → a ≡ kept + one → b ≡ kept + two → a ≡ x → b ≡ x → one ≡ two
same_place x kept one two a b is too first second = omega (arith, is, too, first, second)

module _ (L : Layout) (laid : IsLaid L) where
  -- an object before its data is placed anew: it is an inode with data at each index below one, once, or its leaf is free
  pub record IsBase (leaves : ℕ → List ℕ) (n had : ℕ) : Type 0 where
    pub low : L.map_leaves ≤ n
    pub high : n < L.leaves
    pub state : (is_inode L leaves n ≡ true) ⊎ (is_used L leaves n ≡ false)
    pub present : (x : ℕ) → x < had → (k : ℕ) × (k < L.leaves) × (is_data_at L leaves n x k ≡ true)
    pub single : (x k j : ℕ) → x < had → k < L.leaves → j < L.leaves → is_data_at L leaves n x k ≡ true → is_data_at L leaves n x j ≡ true → k ≡ j
    pub before : (k : ℕ) → k < L.leaves → is_data_of L leaves n k ≡ true → (entry_at L leaves k).index < had

  -- the entries of a map to which the inode was added
  pub record IsWith (leaves : ℕ → List ℕ) (n : ℕ) (base : ℕ → Entry) : Type 0 where
    pub inode : base n ≡ record { kind = INODE; inode = n; index = 0 }
    pub beside : (i : ℕ) → i < L.leaves → i ≢ n → base i ≡ entry_at L leaves i

  -- the data has each index below one, once
  pub record HasEach (after : ℕ → List ℕ) (n blocks : ℕ) : Type 0 where
    pub present : (x : ℕ) → x < blocks → (k : ℕ) × (k < L.leaves) × (is_data_at L after n x k ≡ true)
    pub single : (x k j : ℕ) → x < blocks → k < L.leaves → j < L.leaves → is_data_at L after n x k ≡ true → is_data_at L after n x j ≡ true → k ≡ j
    pub before : (k : ℕ) → k < L.leaves → is_data_of L after n k ≡ true → (entry_at L after k).index < blocks

  module _ (leaves after : ℕ → List ℕ) (n had kept blocks : ℕ) (base : ℕ → Entry) (sound : Sound L leaves) (is_base : IsBase leaves n had) (is_with : IsWith leaves n base)
      (kept_had : kept ≤ had) (kept_blocks : kept ≤ blocks) (kept_all : (x : ℕ) → x < had → x < blocks → x < kept) (enough : blocks ≤ kept + free_before L base L.leaves)
      (mapped : (i : ℕ) → i < L.leaves → entry_at L after i ≡ place_leaves L base n kept blocks i)
      (short : blocks ≤ L.indexes) (bytes : (i : ℕ) → i < L.leaves → L.map_leaves ≤ i → i ≢ n → is_data_of L after n i ≡ false → after i ≡ leaves i) where
    abbrev E : ℕ → Entry
    E i = entry_at L leaves i

    abbrev F : ℕ → Entry
    F i = entry_at L after i

    abbrev Ways : ℕ → Type 0
    Ways i = IsTaken (is_free L base i) (base i) n (kept + free_before L base i) blocks ⊎ (IsFreed (is_free L base i) (base i) n (kept + free_before L base i) blocks ⊎ IsKept
        (is_free L base i) (base i) n (kept + free_before L base i) blocks)

    way : (i : ℕ) → Ways i
    way i = ways (is_free L base i) (base i) n (kept + free_before L base i) blocks

    free_of : (i : ℕ) → is_free L base i ≡ true → (L.map_leaves ≤ i) × (((base i).kind == FREE) ≡ true)
    free_of i is = (let parts = and_both (nat_le L.map_leaves i) ((base i).kind == FREE) is in (leb-true L.map_leaves i parts.0, parts.1))

    inode_now : F n ≡ record { kind = INODE; inode = n; index = 0 }
    inode_now = mapped n is_base.high ∙ each (way n)
      where
        each : Ways n → place_leaves L base n kept blocks n ≡ record { kind = INODE; inode = n; index = 0 }
        each (inl t) = true_false (free_of n t.was_free).1 (ap (λ (e : Entry). e.kind == FREE) is_with.inode)
        each (inr (inl f)) = true_false f.own (inode_not_data (base n) n n is_with.inode)
        each (inr (inr k)) = k.is ∙ is_with.inode

    pub is_inode_now : is_inode L after n ≡ true
    is_inode_now = ap (λ (e : Entry). e.kind == INODE) inode_now

    own_then : (i : ℕ) → i ≢ n → is_own L laid n leaves i ≡ is_data_of L leaves n i
    own_then i other = ap (λ b. (b && is_inode L leaves i) || is_data_of L leaves n i) (ne_eqb i n other)

    own_now : (i : ℕ) → i ≢ n → is_own L laid n after i ≡ is_data_of L after n i
    own_now i other = ap (λ b. (b && is_inode L after i) || is_data_of L after n i) (ne_eqb i n other)

    own_inode : is_own L laid n after n ≡ true
    own_inode = ap (λ b. (b && is_inode L after n) || is_data_of L after n n) (eq-eqb n n refl) ∙ ap (λ b. b || is_data_of L after n n) is_inode_now

    own_inode_then : is_inode L leaves n ≡ true → is_own L laid n leaves n ≡ true
    own_inode_then is = ap (λ b. (b && is_inode L leaves n) || is_data_of L leaves n n) (eq-eqb n n refl) ∙ ap (λ b. b || is_data_of L leaves n n) is

    -- a leaf that isn't the inode, and what became of it
    pub record Became (i : ℕ) : Type 0 where
      pub taken : (is_data_of L after n i ≡ true) → is_data_of L leaves n i ≡ false → (is_free L base i ≡ true) × ((F i).index ≡ kept + free_before L base i) × ((F i).index < blocks)
      pub freed : is_data_of L leaves n i ≡ true → is_data_of L after n i ≡ false → F i ≡ free_entry
      pub stays : is_data_of L leaves n i ≡ true → is_data_of L after n i ≡ true → (F i ≡ E i) × ((E i).index < blocks)
      pub other : is_data_of L leaves n i ≡ false → is_data_of L after n i ≡ false → F i ≡ E i
      pub held : is_data_of L leaves n i ≡ true → (E i).index < blocks → is_data_of L after n i ≡ true
      pub used : is_free L base i ≡ true → kept + free_before L base i < blocks → F i ≡ data_at n (kept + free_before L base i)

    became : (i : ℕ) → i < L.leaves → i ≢ n → Became i
    became i below other = each (way i)
      where
        same : base i ≡ E i
        same = is_with.beside i below other

        is_then : is_of n (base i) ≡ is_data_of L leaves n i
        is_then = ap (is_of n) same

        each : Ways i → Became i
        each (inl t) =
            let now : F i ≡ data_at n (kept + free_before L base i) = mapped i below ∙ t.is in
            let data' : is_data_of L after n i ≡ true = ap (is_of n) now ∙ eq-eqb n n refl in
            let not_then : is_data_of L leaves n i ≡ false = sym is_then ∙ free_not_data (base i) n (free_of i t.was_free).1 in
            let index : (F i).index ≡ kept + free_before L base i = ap (λ (e : Entry). e.index) now in
            let inside : (F i).index < blocks = subst (λ (k : ℕ). k < blocks) (sym index) t.inside in
            record {
              taken = λ d e. (t.was_free, index, inside);
              freed = λ d e. true_false d not_then;
              stays = λ d e. true_false d not_then;
              other = λ d e. true_false data' e;
              held = λ d e. true_false d not_then;
              used = λ d e. now;
            }
        each (inr (inl f)) =
            let now : F i ≡ free_entry = mapped i below ∙ f.is in
            let not_now : is_data_of L after n i ≡ false = ap (is_of n) now in
            let was : is_data_of L leaves n i ≡ true = sym is_then ∙ f.own in
            let past : blocks ≤ (E i).index = subst (λ (e : Entry). blocks ≤ e.index) same f.past in
            record {
              taken = λ d e. true_false d not_now;
              freed = λ d e. now;
              stays = λ d e. true_false e not_now;
              other = λ d e. true_false was d;
              held = λ d e. absurd (not_both (E i).index blocks e past);
              used = λ d e. true_false f.own (free_not_data (base i) n (free_of i d).1);
            }
        each (inr (inr k)) =
            let now : F i ≡ E i = mapped i below ∙ k.is ∙ same in
            let alike : is_data_of L after n i ≡ is_data_of L leaves n i = ap (is_of n) now in
            record {
              taken = λ d e. true_false (sym alike ∙ d) e;
              freed = λ d e. true_false (alike ∙ d) e;
              stays = λ d e. (now, subst (λ (x : Entry). x.index < blocks) same (k.inside (is_then ∙ d)));
              other = λ d e. now;
              held = λ d e. alike ∙ d;
              used = λ d e. absurd (not_both (kept + free_before L base i) blocks e (k.untaken d));
            }

    not_map : (i : ℕ) → is_used L leaves i ≡ true → L.map_leaves ≤ i
    not_map i used = used_later L laid leaves sound i used

    is_inode_or_not : (i : ℕ) → (b : Bool) → (i == n) ≡ b → (i ≡ n) ⊎ (i ≢ n)
    is_inode_or_not i true e = inl (eqb-true i n e)
    is_inode_or_not i false e = inr (eqb-false i n e)

    others_is : (i : ℕ) → i < L.leaves → is_own L laid n leaves i ≡ false → is_own L laid n after i ≡ false → F i ≡ E i
    others_is i below then' now = each (is_inode_or_not i (i == n) refl)
      where
        each : (i ≡ n) ⊎ (i ≢ n) → F i ≡ E i
        each (inl same) = true_false (ap (λ (k : ℕ). is_own L laid n after k) same ∙ own_inode) now
        each (inr other) = (became i below other).other (sym (own_then i other) ∙ then') (sym (own_now i other) ∙ now)

    taken_is : (i : ℕ) → i < L.leaves → is_own L laid n leaves i ≡ false → is_own L laid n after i ≡ true → is_used L leaves i ≡ false
    taken_is i below then' now = each (is_inode_or_not i (i == n) refl)
      where
        state : (is_inode L leaves n ≡ true) ⊎ (is_used L leaves n ≡ false) → i ≡ n → is_used L leaves i ≡ false
        state (inl is) same = true_false (ap (λ (k : ℕ). is_own L laid n leaves k) same ∙ own_inode_then is) then'
        state (inr is) same = ap (λ (k : ℕ). is_used L leaves k) same ∙ is

        each : (i ≡ n) ⊎ (i ≢ n) → is_used L leaves i ≡ false
        each (inl same) = state is_base.state same
        each (inr other) =
            let free = ((became i below other).taken (sym (own_now i other) ∙ now) (sym (own_then i other) ∙ then')).0 in
            sym (ap (λ (e : Entry). (e.kind == INODE) || (e.kind == DATA)) (is_with.beside i below other)) ∙ free_unused (base i) (free_of i free).1

    freed_is : (i : ℕ) → i < L.leaves → is_own L laid n leaves i ≡ true → is_own L laid n after i ≡ false → F i ≡ free_entry
    freed_is i below then' now = each (is_inode_or_not i (i == n) refl)
      where
        each : (i ≡ n) ⊎ (i ≢ n) → F i ≡ free_entry
        each (inl same) = true_false (ap (λ (k : ℕ). is_own L laid n after k) same ∙ own_inode) now
        each (inr other) = (became i below other).freed (sym (own_then i other) ∙ then') (sym (own_now i other) ∙ now)

    bytes_is : (i : ℕ) → i < L.leaves → is_used L leaves i ≡ true → is_own L laid n leaves i ≡ false → after i ≡ leaves i
    bytes_is i below used then' = each (is_inode_or_not i (i == n) refl)
      where
        state : (is_inode L leaves n ≡ true) ⊎ (is_used L leaves n ≡ false) → i ≡ n → after i ≡ leaves i
        state (inl is) same = true_false (ap (λ (k : ℕ). is_own L laid n leaves k) same ∙ own_inode_then is) then'
        state (inr is) same = true_false used (ap (λ (k : ℕ). is_used L leaves k) same ∙ is)

        each : (i ≡ n) ⊎ (i ≢ n) → after i ≡ leaves i
        each (inl same) = state is_base.state same
        each (inr other) = bytes i below (not_map i used) other
            (elim (is_data_of L after n i) as (λ b. is_data_of L after n i ≡ b → b ≡ false) [
              | true ↦ λ e. true_false used (taken_is i below then' (own_now i other ∙ e))
              | false ↦ λ e. refl
            ] refl)

    -- data is no inode
    pub not_inode : (k : ℕ) → is_data_of L after n k ≡ true → k ≢ n
    not_inode k data' same = true_false data' (ap (is_of n) (ap (λ (i : ℕ). F i) same ∙ inode_now))

    not_inode_then : (k : ℕ) → is_data_of L leaves n k ≡ true → k ≢ n
    not_inode_then k data' same = state is_base.state
      where
        here : is_of n (E n) ≡ true
        here = sym (ap (λ (i : ℕ). is_of n (E i)) same) ∙ data'

        state : (is_inode L leaves n ≡ true) ⊎ (is_used L leaves n ≡ false) → ⊥
        state (inl is) = not_one_and_two (E n).kind (eqb-true (E n).kind 1 is) (data_entry (E n) n here).0
        state (inr is) = true_false (data_used (E n) n here) is

    index_is : (e : Entry) (x : ℕ) → (is_of n e && (e.index == x)) ≡ true → (is_of n e ≡ true) × (e.index ≡ x)
    index_is e x is = (let parts = and_both (is_of n e) (e.index == x) is in (parts.0, eqb-true e.index x parts.1))

    before_is : (k : ℕ) → k < L.leaves → is_data_of L after n k ≡ true → (F k).index < blocks
    before_is k below data' =
        let became' = became k below (not_inode k data') in
        elim (is_data_of L leaves n k) as (λ b. is_data_of L leaves n k ≡ b → (F k).index < blocks) [
          | true ↦ λ e. (let kept' = became'.stays e data' in subst (λ (x : Entry). x.index < blocks) (sym kept'.0) kept'.1)
          | false ↦ λ e. (became'.taken data' e).2
        ] refl

    formed_later : (i : ℕ) → L.map_leaves ≤ i → form_of i (F i) (is_inode L after (F i).inode && nat_lt (F i).index L.indexes) ≡ true → is_well_formed L after i ≡ true
    unfolding is_well_formed
    formed_later i later form = ap (λ b. if b then is_zero (F i) else form_of i (F i) (is_inode L after (F i).inode && nat_lt (F i).index L.indexes))
        (le-ltb i L.map_leaves later) ∙ form

    formed_is : (i : ℕ) → i < L.leaves → is_own L laid n after i ≡ true → is_well_formed L after i ≡ true
    formed_is i below now = each (is_inode_or_not i (i == n) refl)
      where
        later : i ≢ n → is_data_of L after n i ≡ true → L.map_leaves ≤ i
        later other data' =
            elim (is_data_of L leaves n i) as (λ b. is_data_of L leaves n i ≡ b → L.map_leaves ≤ i) [
              | true ↦ λ e. not_map i (data_used (E i) n e)
              | false ↦ λ e. (free_of i ((became i below other).taken data' e).0).0
            ] refl

        each : (i ≡ n) ⊎ (i ≢ n) → is_well_formed L after i ≡ true
        each (inl same) =
            subst (λ (k : ℕ). is_well_formed L after k ≡ true) (sym same)
            (formed_later n is_base.low (ap (λ (e : Entry). form_of n e (is_inode L after e.inode && nat_lt e.index L.indexes)) inode_now
            ∙ ap (λ b. b && true) (eq-eqb n n refl)))
        each (inr other) =
            let data' : is_data_of L after n i ≡ true = sym (own_now i other) ∙ now in
            let parts = data_entry (F i) n data' in
            formed_later i (later other data') (form_data i (F i) (is_inode L after (F i).inode && nat_lt (F i).index L.indexes) parts.0
            (and_from (is_inode L after (F i).inode) (nat_lt (F i).index L.indexes) (ap (λ (k : ℕ). is_inode L after k) parts.1 ∙ is_inode_now)
            (lt-ltb (F i).index L.indexes (less_than (F i).index blocks L.indexes (before_is i below data') short))))

    pub placed_framed : Framed L laid n leaves after
    placed_framed = record { others = others_is; taken = taken_is; freed = freed_is; bytes = bytes_is; formed = formed_is }

    rank_is : (i : ℕ) → free_before L base i ≡ total (λ j. mark (is_free L base j)) 0 i
    unfolding free_before
    rank_is i = counted (λ j. is_free L base j) 0 i

    present_is : (x : ℕ) → x < blocks → (k : ℕ) × (k < L.leaves) × (is_data_at L after n x k ≡ true)
    present_is x inside =
        elim (nat_lt x kept) as (λ b. nat_lt x kept ≡ b → (k : ℕ) × (k < L.leaves) × (is_data_at L after n x k ≡ true)) [
          | true ↦ λ e.
              let less = ltb-true x kept e in
              let met = is_base.present x (below_too x kept had less kept_had) in
              let parts = index_is (E met.0) x met.2 in
              let became' = became met.0 met.1 (not_inode_then met.0 parts.0) in
              let held = became'.held parts.0 (subst (λ (y : ℕ). y < blocks) (sym parts.1) inside) in
              let kept' = became'.stays parts.0 held in
              (met.0, met.1, ap (λ (y : Entry). is_of n y && (y.index == x)) kept'.0 ∙ met.2)
          | false ↦ λ e.
              let past = ltb-false x kept e in
              let met = ranked (λ j. is_free L base j) L.leaves (x - kept) (place_left x kept blocks (free_before L base L.leaves) _ past (rank_is L.leaves) enough inside) in
              let rank : kept + free_before L base met.0 ≡ x = place_of x kept (free_before L base met.0) _ past (rank_is met.0) met.3 in
              let other : met.0 ≢ n = λ same. true_false (free_of met.0 met.2).1 (ap (λ (k : ℕ). (base k).kind == FREE) same ∙ ap (λ (y : Entry). y.kind == FREE) is_with.inode) in
              let now = (became met.0 met.1 other).used met.2 (subst (λ (y : ℕ). y < blocks) (sym rank) inside) in
              (met.0, met.1, ap (λ (y : Entry). is_of n y && (y.index == x)) now ∙ and_from (n == n) ((kept + free_before L base met.0) == x) (eq-eqb n n refl) (eq-eqb _ x rank))
        ] refl

    single_is : (x k j : ℕ) → x < blocks → k < L.leaves → j < L.leaves → is_data_at L after n x k ≡ true → is_data_at L after n x j ≡ true → k ≡ j
    single_is x k j inside low high here there =
        let one = index_is (F k) x here in
        let two = index_is (F j) x there in
        let first = became k low (not_inode k one.0) in
        let second = became j high (not_inode j two.0) in
        elim (is_data_of L leaves n k) as (λ b. is_data_of L leaves n k ≡ b → k ≡ j) [
          | true ↦ λ e. elim (is_data_of L leaves n j) as (λ b. is_data_of L leaves n j ≡ b → k ≡ j) [
            | true ↦ λ f.
                let was = first.stays e one.0 in
                let too = second.stays f two.0 in
                let at : (E k).index ≡ x = sym (ap (λ (y : Entry). y.index) was.0) ∙ one.1 in
                let there' : (E j).index ≡ x = sym (ap (λ (y : Entry). y.index) too.0) ∙ two.1 in
                let early = is_base.before k low e in
                is_base.single x k j (subst (λ (y : ℕ). y < had) at early) low high (and_from _ _ e (eq-eqb _ x at)) (and_from _ _ f (eq-eqb _ x there'))
            | false ↦ λ f. absurd (apart k j low first second one two e f)
          ] refl
          | false ↦ λ e. elim (is_data_of L leaves n j) as (λ b. is_data_of L leaves n j ≡ b → k ≡ j) [
            | true ↦ λ f. absurd (apart j k high second first two one f e)
            | false ↦ λ f.
                let was = first.taken one.0 e in
                let too = second.taken two.0 f in
                let same : free_before L base k ≡ free_before L base j = same_place x kept _ _ (F k).index (F j).index was.1 too.1 one.1 two.1 in
                rank_only (λ i. is_free L base i) k j was.0 too.0 (sym (rank_is k) ∙ same ∙ rank_is j)
          ] refl
        ] refl
      where
        apart : (a b : ℕ) → a < L.leaves → Became a → Became b → (is_of n (F a) ≡ true) × ((F a).index ≡ x) → (is_of n (F b) ≡ true) × ((F b).index ≡ x) →
            is_data_of L leaves n a ≡ true → is_data_of L leaves n b ≡ false → ⊥
        apart a b below first second one two e f =
            let was = first.stays e one.0 in
            let too = second.taken two.0 f in
            let at : (E a).index ≡ x = sym (ap (λ (y : Entry). y.index) was.0) ∙ one.1 in
            let early = is_base.before a below e in
            let less = kept_all x (subst (λ (y : ℕ). y < had) at early) inside in
            not_before kept (free_before L base b) (F b).index too.1 (subst (λ (y : ℕ). y < kept) (sym two.1) less)

    pub placed_each : HasEach after n blocks
    placed_each = record { present = present_is; single = single_is; before = before_is }

    -- data before the kept ones' end was there
    pub old_index : (k : ℕ) → k < L.leaves → is_data_of L after n k ≡ true → (F k).index < kept → (is_data_of L leaves n k ≡ true) × (F k ≡ E k)
    old_index k below data' early =
        let became' = became k below (not_inode k data') in
        elim (is_data_of L leaves n k) as (λ b. is_data_of L leaves n k ≡ b → (is_data_of L leaves n k ≡ true) × (F k ≡ E k)) [
          | true ↦ λ e. (e, (became'.stays e data').0)
          | false ↦ λ e. absurd (not_before kept (free_before L base k) (F k).index (became'.taken data' e).1 early)
        ] refl

    -- the map is no data
    pub data_later : (k : ℕ) → k < L.leaves → is_data_of L after n k ≡ true → L.map_leaves ≤ k
    data_later k below data' =
        elim (is_data_of L leaves n k) as (λ b. is_data_of L leaves n k ≡ b → L.map_leaves ≤ k) [
          | true ↦ λ e. not_map k (data_used (E k) n e)
          | false ↦ λ e. (free_of k ((became k below (not_inode k data')).taken data' e).0).0
        ] refl
