-- The content that the data of an object holds.
use Rattle.std.proofs.Common.{◌≡◌, ◌≢◌, ℕ, zero, suc, ◌+◌, ◌-◌, ◌*◌, ◌/◌, ◌%◌, ◌<◌, ◌≤◌, min, max, Bool, true, false, cond, not, List, [], ◌∷◌}
use Rattle.std.proofs.Common.{length, take, drop, map, get_or, Some, find, refl, sym, ◌∙◌, ap, subst, arith, nat_le}
use Rattle.std.specs.Prelude.{◌&&◌, ◌||◌, ◌==◌, if◌then◌else◌, nat_lt}
use Rattle.std.specs.List.{range_with_len}
use Rattle.std.proofs.lemmas.Bool.{eqb-true, eq-eqb, ltb-true, ltb-false, leb-true, leb-false, lt-ltb, le-ltb, and_from}
use Rattle.std.proofs.lemmas.Grind.{same_number_lists}
use Rattle.std.proofs.lemmas.List.FromFn.{get_or-map-range_with_len, length-map-range_with_len}
use Rattle.region_plan.specs.Layout.{Layout}
use Rattle.region_plan.specs.Parts.{are_zero}
use Rattle.region_plan.specs.Edits.{byte_after, content_after, is_touched, is_left, IsEditedLeaf}
use Rattle.region_plan.specs.Entries.{entry_at, is_data_of, is_data_at}
use Rattle.region_plan.specs.Inodes.{length_in}
use Rattle.region_plan.specs.Regions.{numbers, leaf_of, byte_in, byte_at, content_of, data_leaves}
use Rattle.region_plan.specs.declared.edit.Edit.{Edit}
use Rattle.region_plan.proofs.SoundLemmas.{and_both}
use Rattle.region_plan.proofs.PlaceLemmas.{HasEach}
use Rattle.region_plan.proofs.FormLemmas.{IsLaid}

-- zeros behind a place
pub zeros_from : (m u : ℕ) (b : List ℕ) → ((j : ℕ) → u ≤ j → j < m → get_or b j 0 ≡ 0) → are_zero (drop u (take m b)) ≡ true
zeros_from zero zero b none = refl
zeros_from zero (suc u) b none = refl
zeros_from (suc m) zero [] none = refl
zeros_from (suc m) (suc u) [] none = refl
zeros_from (suc m) zero (y ∷ b) none =
    ap (λ (t : Bool). t && are_zero (take m b)) (eq-eqb y 0 (none 0 (omega arith) (omega arith))) ∙ zeros_from m zero b (λ j low high. none (suc j) (omega arith) (omega arith))
zeros_from (suc m) (suc u) (y ∷ b) none = zeros_from m u b (λ j low high. none (suc j) (omega arith) (omega arith))

pub zeros_at : (m u : ℕ) (b : List ℕ) (j : ℕ) → are_zero (drop u (take m b)) ≡ true → u ≤ j → j < m → get_or b j 0 ≡ 0
zeros_at zero u b j zeros low high = absurd (omega arith)
zeros_at (suc m) u [] j zeros low high = refl
zeros_at (suc m) zero (y ∷ b) zero zeros low high = eqb-true y 0 (and_both (y == 0) (are_zero (take m b)) zeros).0
zeros_at (suc m) zero (y ∷ b) (suc j) zeros low high = zeros_at m zero b j (and_both (y == 0) (are_zero (take m b)) zeros).1 (omega arith) (omega arith)
zeros_at (suc m) (suc u) (y ∷ b) zero zeros low high = absurd (omega arith)
zeros_at (suc m) (suc u) (y ∷ b) (suc j) zeros low high = zeros_at m u b j zeros (omega arith) (omega arith)

-- behind the end of a list its default is met
pub past_end : (b : List ℕ) (j : ℕ) → length b ≤ j → get_or b j 0 ≡ 0
past_end [] j le = refl
past_end (y ∷ b) zero le = absurd (omega arith)
past_end (y ∷ b) (suc j) le = past_end b j (omega arith)

pub map_range : {X : Type 0} (f g : ℕ → X) (n a : ℕ) → ((p : ℕ) → a ≤ p → p < a + n → f p ≡ g p) → map f (range_with_len a n) ≡ map g (range_with_len a n)
map_range f g zero a same = refl
map_range {X = X} f g (suc n) a same =
    ap (λ (x : X). x ∷ map f (range_with_len (a + 1) n)) (same a (omega arith) (omega arith)) ∙ ap (λ (l : List X). g a ∷ l)
    (map_range f g n (a + 1) (λ p low high. same p (omega arith) (omega arith)))

pub only_found : (p : ℕ → Bool) (n a k : ℕ) → a ≤ k → k < a + n → p k ≡ true → ((j : ℕ) → a ≤ j → j < a + n → p j ≡ true → j ≡ k) → find p (range_with_len a n) ≡ Some k
only_found p zero a k low high is only = absurd (omega arith)
only_found p (suc n) a k low high is only =
    elim (p a) as (λ b. p a ≡ b → cond b (Some a) (find p (range_with_len (a + 1) n)) ≡ Some k) [
      | true ↦ λ e. ap (λ (x : ℕ). Some x) (only a (omega arith) (omega arith) e)
      | false ↦ λ e.
          let other : a ≢ k = λ same. (let f : true ≡ false = sym is ∙ ap p (sym same) ∙ e in cc) in
          only_found p n (a + 1) k (omega (arith, other)) (omega arith) is (λ j lower higher t. only j (omega arith) (omega arith) t)
    ] refl

-- a leaf of a content at an index: its bytes, and zeros behind
abbrev pub IsLeafOf : List ℕ → ℕ → List ℕ → Type 0
IsLeafOf content x b = (j : ℕ) → j < 1024 → get_or b j 0 ≡ get_or content (1024 * x + j) 0

true_not_false : {A : Type 0} {b : Bool} → b ≡ true → b ≡ false → A
true_not_false is isnt = absurd (let f : true ≡ false = sym is ∙ isnt in cc)

-- a leaf that was there, and is written
pub touched_leaf : (edit : Edit) (index blocks : ℕ) (block old new : List ℕ) (touched : Bool) → blocks ≡ data_leaves edit.kept → index < blocks → touched ≡ is_touched edit index →
    touched ≡ true → block ≡ old
    → ((k : ℕ) → k < 1024 → get_or new k 0 ≡ byte_after edit (1024 * index + k) (get_or block k 0)) → IsEditedLeaf edit index old new
touched_leaf edit index blocks block old new touched many inside told is same written =
    let there : nat_lt index (data_leaves edit.kept) ≡ true = lt-ltb index (data_leaves edit.kept) (omega (arith, inside, many)) in
    let not_left : is_left edit index ≡ false = ap (λ b. b && not (is_touched edit index)) there ∙ ap not (sym told ∙ is) in
    record {
      left = λ e. true_not_false e not_left;
      changed = λ e k less. written k less ∙ ap (λ (x : List ℕ). byte_after edit (1024 * index + k) (get_or x k 0)) same
          ∙ sym (ap (λ b. byte_after edit (1024 * index + k) (cond b (get_or old k 0) 0)) there);
    }

-- a leaf that wasn't there
pub fresh_leaf : (edit : Edit) (index blocks : ℕ) (block old new : List ℕ) → blocks ≡ data_leaves edit.kept → blocks ≤ index → ((k : ℕ) → k < 1024 → get_or block k 0 ≡ 0)
    → ((k : ℕ) → k < 1024 → get_or new k 0 ≡ byte_after edit (1024 * index + k) (get_or block k 0)) → IsEditedLeaf edit index old new
fresh_leaf edit index blocks block old new many past zeros written =
    let absent : nat_lt index (data_leaves edit.kept) ≡ false = le-ltb index (data_leaves edit.kept) (omega (arith, past, many)) in
    let not_left : is_left edit index ≡ false = ap (λ b. b && not (is_touched edit index)) absent in
    record {
      left = λ e. true_not_false e not_left;
      changed = λ e k less. written k less ∙ ap (λ (x : ℕ). byte_after edit (1024 * index + k) x) (zeros k less)
          ∙ sym (ap (λ b. byte_after edit (1024 * index + k) (cond b (get_or old k 0) 0)) absent);
    }

-- a leaf of an edited content
module _ (edit : Edit) (old : List ℕ) (long : length old ≡ edit.kept) where
  -- a byte that is neither cut off nor written to
  byte_stays : (x j : ℕ) → j < 1024 → is_touched edit x ≡ false → byte_after edit (1024 * x + j) (get_or old (1024 * x + j) 0) ≡ get_or old (1024 * x + j) 0
  byte_stays x j less untouched =
      let parts = or_none (nat_lt edit.length edit.kept && nat_lt edit.length (1024 * x + 1024)) _ untouched in
      let unwritten = ltb-false (max edit.at (1024 * x)) (min (1024 * x + 1024) (edit.at + length edit.bytes.now)) parts.1 in
      elim (nat_le edit.length (1024 * x + j)) as (λ b. nat_le edit.length (1024 * x + j) ≡ b
      → (if b then 0 else if nat_le edit.at (1024 * x + j) && nat_lt (1024 * x + j - edit.at) (length edit.bytes.now) then get_or edit.bytes.now (1024 * x + j - edit.at) 0 else
      get_or old (1024 * x + j) 0) ≡ get_or old (1024 * x + j) 0) [
        | true ↦ λ e.
            let short : edit.length ≤ 1024 * x + j = leb-true _ _ e in
            let uncut : edit.kept ≤ edit.length = not_cut short parts.0 in
            sym (past_end old (1024 * x + j) (omega (arith, long, short, uncut)))
        | false ↦ λ e. ap (λ b. if b then get_or edit.bytes.now (1024 * x + j - edit.at) 0 else get_or old (1024 * x + j) 0) (outside unwritten)
      ] refl
    where
      or_none : (a b : Bool) → (a || b) ≡ false → (a ≡ false) × (b ≡ false)
      or_none true b e = absurd (let f : true ≡ false = e in cc)
      or_none false b e = (refl, e)

      not_cut : edit.length ≤ 1024 * x + j → (nat_lt edit.length edit.kept && nat_lt edit.length (1024 * x + 1024)) ≡ false → edit.kept ≤ edit.length
      not_cut short cut = ltb-false edit.length edit.kept (first (nat_lt edit.length edit.kept) (nat_lt edit.length (1024 * x + 1024))
          (lt-ltb edit.length (1024 * x + 1024) (omega (arith, short, less))) cut)
        where
          first : (a b : Bool) → b ≡ true → (a && b) ≡ false → a ≡ false
          first true b is e = absurd (let f : true ≡ false = sym is ∙ e in cc)
          first false b is e = refl

      outside : min (1024 * x + 1024) (edit.at + length edit.bytes.now) ≤ max edit.at (1024 * x) → (nat_le edit.at (1024 * x + j) && nat_lt (1024 * x + j - edit.at) (length edit.bytes.now)) ≡ false
      outside apart = each (nat_le edit.at (1024 * x + j)) (nat_lt (1024 * x + j - edit.at) (length edit.bytes.now)) refl refl
        where
          each : (a b : Bool) → nat_le edit.at (1024 * x + j) ≡ a → nat_lt (1024 * x + j - edit.at) (length edit.bytes.now) ≡ b → (a && b) ≡ false
          each false b e f = refl
          each true false e f = refl
          each true true e f = absurd (let one = leb-true _ _ e in let two = ltb-true _ _ f in omega (arith, one, two, apart, less))

  -- the leaf of what was kept becomes the leaf of what it becomes
  pub leaf_edited : (x : ℕ) (b new : List ℕ) → (x < data_leaves edit.kept → IsLeafOf old x b) → IsEditedLeaf edit x b new → (j : ℕ) → j < 1024 →
      get_or new j 0 ≡ byte_after edit (1024 * x + j) (get_or old (1024 * x + j) 0)
  leaf_edited x b new was edited j less =
      elim (nat_lt x (data_leaves edit.kept)) as (λ t. nat_lt x (data_leaves edit.kept) ≡ t → get_or new j 0 ≡ byte_after edit (1024 * x + j) (get_or old (1024 * x + j) 0)) [
        | true ↦ λ t.
            let here : get_or b j 0 ≡ get_or old (1024 * x + j) 0 = was (ltb-true x (data_leaves edit.kept) t) j less in
            elim (is_touched edit x) as (λ s. is_touched edit x ≡ s → get_or new j 0 ≡ byte_after edit (1024 * x + j) (get_or old (1024 * x + j) 0)) [
              | true ↦ λ s.
                  edited.changed (ap (λ c. c && not (is_touched edit x)) t ∙ ap not s) j less
                  ∙ ap (λ c. byte_after edit (1024 * x + j) (cond c (get_or b j 0) 0)) t
                  ∙ ap (λ (v : ℕ). byte_after edit (1024 * x + j) v) here
              | false ↦ λ s.
                  ap (λ (l : List ℕ). get_or l j 0) (edited.left (ap (λ c. c && not (is_touched edit x)) t ∙ ap not s)) ∙ here ∙ sym (byte_stays x j less s)
            ] refl
        | false ↦ λ t.
            let past : data_leaves edit.kept ≤ x = ltb-false x (data_leaves edit.kept) t in
            edited.changed (ap (λ c. c && not (is_touched edit x)) t) j less
            ∙ ap (λ c. byte_after edit (1024 * x + j) (cond c (get_or b j 0) 0)) t
            ∙ ap (λ (v : ℕ). byte_after edit (1024 * x + j) v) (sym (past_end old (1024 * x + j) (omega (arith, long, past))))
      ] refl

  after_at : (p : ℕ) → p < edit.length → get_or (content_after edit old) p 0 ≡ byte_after edit p (get_or old p 0)
  unfolding content_after
  after_at p inside = get_or-map-range_with_len (λ q. byte_after edit q (get_or old q 0)) 0 edit.length p p 0 inside (omega arith)

  pub after_long : length (content_after edit old) ≡ edit.length
  unfolding content_after
  after_long = length-map-range_with_len (λ q. byte_after edit q (get_or old q 0)) 0 edit.length

  pub after_byte : (p : ℕ) → byte_after edit p (get_or old p 0) ≡ get_or (content_after edit old) p 0
  after_byte p =
      elim (nat_le edit.length p) as (λ b. nat_le edit.length p ≡ b → byte_after edit p (get_or old p 0) ≡ get_or (content_after edit old) p 0) [
        | true ↦ λ e.
            ap (λ b. if b then 0 else if nat_le edit.at p && nat_lt (p - edit.at) (length edit.bytes.now) then get_or edit.bytes.now (p - edit.at) 0 else get_or old p 0) e
            ∙ sym (past_end (content_after edit old) p (let short = leb-true edit.length p e in omega (arith, short, after_long)))
        | false ↦ λ e. sym (after_at p (leb-false edit.length p e))
      ] refl

  -- the list of a content's bytes is the content
  listed_again : (content : List ℕ) (m : ℕ) → length content ≡ m → map (λ p. get_or content p 0) (range_with_len 0 m) ≡ content
  listed_again content m is =
      same_number_lists _ _ (length-map-range_with_len (λ p. get_or content p 0) 0 m ∙ sym is)
      (λ k less. get_or-map-range_with_len (λ p. get_or content p 0) 0 m k k 0 (omega (arith, less, length-map-range_with_len (λ p. get_or content p 0) 0 m)) (omega arith))

module _ (L : Layout) (laid : IsLaid L) where
  -- where an inode has each index of its data, its content is what its leaves hold
  module _ (leaves : ℕ → List ℕ) (n : ℕ) (each : HasEach L laid leaves n (data_leaves (length_in (leaves n)))) where
    pub leaf_is : (x k : ℕ) → x < data_leaves (length_in (leaves n)) → k < L.leaves → is_data_at L leaves n x k ≡ true → leaf_of L leaves n x ≡ Some k
    unfolding leaf_of numbers
    leaf_is x k inside below is = only_found (λ i. is_data_at L leaves n x i) L.leaves 0 k (omega arith) (omega arith) is (λ j low high t. each.single x j k inside (omega arith) below t is)

    byte_is : (x k p : ℕ) → p / 1024 ≡ x → x < data_leaves (length_in (leaves n)) → k < L.leaves → is_data_at L leaves n x k ≡ true → byte_at L leaves n p ≡ get_or (leaves k) (p % 1024) 0
    unfolding byte_at
    byte_is x k p at inside below is = ap (λ (y : ℕ). byte_in L leaves (leaf_of L leaves n y) (p % 1024)) at
        ∙ ap (λ r. byte_in L leaves r (p % 1024)) (leaf_is x k inside below is)

    -- the content is another one of that length whose leaves these are
    pub content_is : (content : List ℕ) → length content ≡ length_in (leaves n) → ((k : ℕ) → k < L.leaves → is_data_of L leaves n k ≡ true →
        IsLeafOf content (entry_at L leaves k).index (leaves k))
        → content_of L leaves n ≡ map (λ p. get_or content p 0) (range_with_len 0 (length_in (leaves n)))
    unfolding content_of
    content_is content long held = map_range (λ at. byte_at L leaves n at) (λ p. get_or content p 0) (length_in (leaves n)) 0 (λ p low high.
        let inside : p / 1024 < data_leaves (length_in (leaves n)) = omega (arith, high) in
        let met = each.present (p / 1024) inside in
        let parts = and_both _ _ met.2 in
        let index : (entry_at L leaves met.0).index ≡ p / 1024 = eqb-true _ _ parts.1 in
        let place : 1024 * (entry_at L leaves met.0).index + p % 1024 ≡ p = omega (arith, index) in
        byte_is (p / 1024) met.0 p refl inside met.1 met.2 ∙ held met.0 met.1 parts.0 (p % 1024) (omega arith) ∙ ap (λ (q : ℕ). get_or content q 0) place)

    -- the leaves of data are the content's
    pub leaves_held : ((k : ℕ) → k < L.leaves → is_data_of L leaves n k ≡ true → are_zero (drop (length_in (leaves n) - 1024 * (entry_at L leaves k).index) (take 1024 (leaves k))) ≡ true)
        → (k : ℕ) → k < L.leaves → is_data_of L leaves n k ≡ true → IsLeafOf (content_of L leaves n) (entry_at L leaves k).index (leaves k)
    unfolding content_of
    leaves_held padded k below is j less =
        let x : ℕ = (entry_at L leaves k).index in
        elim (nat_lt (1024 * (entry_at L leaves k).index + j) (length_in (leaves n))) as (λ b. nat_lt (1024 * (entry_at L leaves k).index + j) (length_in (leaves n)) ≡ b
        → get_or (leaves k) j 0 ≡ get_or (map (λ at. byte_at L leaves n at) (range_with_len 0 (length_in (leaves n)))) (1024 * (entry_at L leaves k).index + j) 0) [
          | true ↦ λ e.
              let inside : 1024 * (entry_at L leaves k).index + j < length_in (leaves n) = ltb-true _ _ e in
              let at : (1024 * (entry_at L leaves k).index + j) / 1024 ≡ (entry_at L leaves k).index = omega arith in
              let rest : (1024 * (entry_at L leaves k).index + j) % 1024 ≡ j = omega arith in
              let byte = byte_is (entry_at L leaves k).index k (1024 * (entry_at L leaves k).index + j) at (each.before k below is) below (and_from _ _ is (eq-eqb _ _ refl)) in
              sym (get_or-map-range_with_len (λ p. byte_at L leaves n p) 0 (length_in (leaves n)) (1024 * (entry_at L leaves k).index + j)
              (1024 * (entry_at L leaves k).index + j) 0 inside (omega arith)
              ∙ byte ∙ ap (λ (q : ℕ). get_or (leaves k) q 0) rest)
          | false ↦ λ e.
              let past : length_in (leaves n) ≤ 1024 * (entry_at L leaves k).index + j = ltb-false _ _ e in
              zeros_at 1024 (length_in (leaves n) - 1024 * (entry_at L leaves k).index) (leaves k) j (padded k below is) (omega (arith, past)) less
              ∙ sym (past_end (map (λ at. byte_at L leaves n at) (range_with_len 0 (length_in (leaves n)))) (1024 * (entry_at L leaves k).index + j)
              (omega (arith, past, length-map-range_with_len (λ at. byte_at L leaves n at) 0 (length_in (leaves n)))))
        ] refl

  -- an edited content
  module _ (edit : Edit) (old : List ℕ) (long : length old ≡ edit.kept) where
    -- an object whose leaves were edited has the edited content
    module _ (leaves after : ℕ → List ℕ) (n : ℕ) (length_is : length_in (after n) ≡ edit.length) (each : HasEach L laid after n (data_leaves edit.length))
        (was : (k : ℕ) → k < L.leaves → is_data_of L after n k ≡ true → (entry_at L after k).index < data_leaves edit.kept → IsLeafOf old (entry_at L after k).index (leaves k))
        (edited : (k : ℕ) → k < L.leaves → is_data_of L after n k ≡ true → IsEditedLeaf edit (entry_at L after k).index (leaves k) (after k)) where
      leaf_now : (k : ℕ) → k < L.leaves → is_data_of L after n k ≡ true → IsLeafOf (content_after edit old) (entry_at L after k).index (after k)
      leaf_now k below is j less =
          leaf_edited edit old long (entry_at L after k).index (leaves k) (after k) (was k below is) (edited k below is) j less ∙ after_byte edit old long (1024 * (entry_at L after k).index + j)

      pub edited_content : content_of L after n ≡ content_after edit old
      edited_content =
          content_is after n (subst (λ (m : ℕ). HasEach L laid after n (data_leaves m)) (sym length_is) each) (content_after edit old) (after_long edit old long ∙ sym length_is) leaf_now
          ∙ listed_again edit old long (content_after edit old) (length_in (after n)) (after_long edit old long ∙ sym length_is)

      pub edited_padded : (k : ℕ) → k < L.leaves → is_data_of L after n k ≡ true → are_zero (drop (length_in (after n) - 1024 * (entry_at L after k).index) (take 1024 (after k))) ≡ true
      edited_padded k below is =
          zeros_from 1024 (length_in (after n) - 1024 * (entry_at L after k).index) (after k) (λ j low high.
          leaf_now k below is j high ∙ past_end (content_after edit old) (1024 * (entry_at L after k).index + j) (omega (arith, low, after_long edit old long, length_is)))
