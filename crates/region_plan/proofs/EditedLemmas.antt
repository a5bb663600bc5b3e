-- What an edited content is.
use Rattle.std.proofs.Common.{◌≡◌, ◌≢◌, ◌⊎◌, inl, inr, ℕ, ◌+◌, ◌-◌, ◌*◌, ◌/◌, ◌<◌, ◌≤◌, min, max, Bool, true, false, not, List, ◌++◌, length}
use Rattle.std.proofs.Common.{take, drop, get_or, replicate, length-append, length-drop, refl, sym, ◌∙◌, ap, arith, nat_le}
use Rattle.std.specs.Prelude.{◌&&◌, ◌||◌, if◌then◌else◌, nat_lt}
use Rattle.std.proofs.lemmas.Bool.{ltb-true, ltb-false, leb-true, leb-false, lt-ltb, le-ltb, le-leb, lt-leb, and_from, ne_eqb}
use Rattle.std.proofs.lemmas.Grind.{same_number_lists}
use Rattle.std.proofs.lemmas.List.{get_or_append_left, get_or-append_right, get_or-take, get_or-drop, get_or-replicate, length-take, length-replicate, places}
use Rattle.store_api.specs.Stores.{resize, write_at}
use Rattle.region_plan.specs.Edits.{byte_after, content_after, is_touched, is_left}
use Rattle.region_plan.specs.Regions.{data_leaves}
use Rattle.region_plan.specs.declared.edit.Edit.{Edit}
use Rattle.region_plan.proofs.BlockLemmas.{past_end, after_byte, after_long}

resized_long : (n : ℕ) (c : List ℕ) → length (resize n c) ≡ n
resized_long n c = (let one = length-append (take n c) (replicate (n - length c) 0) in let two = length-take n c in let three = length-replicate {A = ℕ} (n - length c) 0 in
    omega (arith, one, two, three))

resized_at : (n : ℕ) (c : List ℕ) (k : ℕ) → k < n → get_or (resize n c) k 0 ≡ get_or c k 0
resized_at n c k less =
    let long = length-take n c in
    elim (nat_lt k (length c)) as (λ b. nat_lt k (length c) ≡ b → get_or (resize n c) k 0 ≡ get_or c k 0) [
      | true ↦ λ e. (let inside = ltb-true k (length c) e in get_or_append_left (take n c) (replicate (n - length c) 0) 0 k (omega (arith, long, inside, less)) ∙ get_or-take n c k 0 less)
      | false ↦ λ e.
          let past = ltb-false k (length c) e in
          get_or-append_right (take n c) (replicate (n - length c) 0) (length c) k 0 (omega (arith, long, past, less)) past
          ∙ get_or-replicate (n - length c) (k - length c) 0 0 (omega (arith, past, less)) ∙ sym (past_end c k past)
    ] refl

module _ (edit : Edit) (old : List ℕ) (long : length old ≡ edit.kept) where
  inside_is : (p : ℕ) → p < edit.length → byte_after edit p (get_or old p 0) ≡ (if nat_le edit.at p && nat_lt (p - edit.at) (length edit.bytes.now) then get_or edit.bytes.now
      (p - edit.at) 0 else get_or old p 0)
  inside_is p less = ap (λ b. if b then 0 else if nat_le edit.at p && nat_lt (p - edit.at) (length edit.bytes.now) then get_or edit.bytes.now (p - edit.at) 0 else get_or old p 0)
      (lt-leb edit.length p less)

  at_is : (p : ℕ) → p < edit.length → get_or (content_after edit old) p 0 ≡ (if nat_le edit.at p && nat_lt (p - edit.at) (length edit.bytes.now) then get_or edit.bytes.now
      (p - edit.at) 0 else get_or old p 0)
  at_is p less = sym (after_byte edit old long p) ∙ inside_is p less

  -- a list of this length with these bytes
  alike : (c : List ℕ) → length c ≡ edit.length → ((p : ℕ) → p < edit.length → (if nat_le edit.at p && nat_lt (p - edit.at) (length edit.bytes.now) then get_or edit.bytes.now
      (p - edit.at) 0 else get_or old p 0) ≡ get_or c p 0) → content_after edit old ≡ c
  alike c same each = same_number_lists (content_after edit old) c (after_long edit old long ∙ sym same)
      (λ k less. (let inside : k < edit.length = omega (arith, less, after_long edit old long) in at_is k inside ∙ each k inside))

  outside : (p : ℕ) → length edit.bytes.now ≡ 0 → (nat_le edit.at p && nat_lt (p - edit.at) (length edit.bytes.now)) ≡ false
  outside p none = each (nat_le edit.at p) (le-ltb (p - edit.at) (length edit.bytes.now) (omega (arith, none)))
    where
      each : (a : Bool) {b : Bool} → b ≡ false → (a && b) ≡ false
      each true e = e
      each false e = refl

  -- with no bytes written it is cut or filled up
  pub after_resized : length edit.bytes.now ≡ 0 → content_after edit old ≡ resize edit.length old
  after_resized none = alike (resize edit.length old) (resized_long edit.length old)
      (λ p less. ap (λ b. if b then get_or edit.bytes.now (p - edit.at) 0 else get_or old p 0) (outside p none) ∙ sym (resized_at edit.length old p less))

  pub after_same : length edit.bytes.now ≡ 0 → edit.length ≡ length old → content_after edit old ≡ old
  after_same none same = alike old (sym same) (λ p less. ap (λ b. if b then get_or edit.bytes.now (p - edit.at) 0 else get_or old p 0) (outside p none))

  -- a whole content
  pub after_whole : edit.at ≡ 0 → edit.length ≡ length edit.bytes.now → content_after edit old ≡ edit.bytes.now
  after_whole start same = alike edit.bytes.now (sym same) (λ p less.
      ap (λ b. if b then get_or edit.bytes.now (p - edit.at) 0 else get_or old p 0) (and_from _ _ (le-leb edit.at p (omega (arith, start)))
      (lt-ltb (p - edit.at) (length edit.bytes.now) (omega (arith, start, same, less))))
      ∙ ap (λ (k : ℕ). get_or edit.bytes.now k 0) (let e : p - edit.at ≡ p = omega (arith, start) in e))

  -- bytes written at a place
  pub after_written : length edit.bytes.now ≢ 0 → edit.length ≡ max (length old) (edit.at + length edit.bytes.now) → content_after edit old ≡ write_at old edit.at edit.bytes.now
  after_written some' same =
      alike (resize edit.at old ++ edit.bytes.now ++ drop (edit.at + length edit.bytes.now) old) whole_long each
      ∙ sym (ap (λ b. if b then old else resize edit.at old ++ edit.bytes.now ++ drop (edit.at + length edit.bytes.now) old) (ne_eqb (length edit.bytes.now) 0 some'))
    where
      front_long : length (resize edit.at old) ≡ edit.at
      front_long = resized_long edit.at old

      three_long : (a b c : List ℕ) → length (a ++ b ++ c) ≡ length a + length b + length c
      three_long a b c = search (arith, length-append)

      whole_long : length (resize edit.at old ++ edit.bytes.now ++ drop (edit.at + length edit.bytes.now) old) ≡ edit.length
      whole_long = (let one = three_long (resize edit.at old) edit.bytes.now (drop (edit.at + length edit.bytes.now) old) in let two =
          length-drop (edit.at + length edit.bytes.now) old in omega (arith, one, two, front_long, same))

      first_at : (a b c : List ℕ) (k : ℕ) → k < length a → get_or (a ++ b ++ c) k 0 ≡ get_or a k 0
      first_at a b c k less = grind (arith, places)

      second_at : (a b c : List ℕ) (k : ℕ) → length a ≤ k → k < length a + length b → get_or (a ++ b ++ c) k 0 ≡ get_or b (k - length a) 0
      second_at a b c k more less = grind (arith, places)

      third_at : (a b c : List ℕ) (k : ℕ) → length a + length b ≤ k → get_or (a ++ b ++ c) k 0 ≡ get_or c (k - (length a + length b)) 0
      third_at a b c k more = grind (arith, places)

      each : (p : ℕ) → p < edit.length → (if nat_le edit.at p && nat_lt (p - edit.at) (length edit.bytes.now) then get_or edit.bytes.now (p - edit.at) 0 else get_or old p 0) ≡
          get_or (resize edit.at old ++ edit.bytes.now ++ drop (edit.at + length edit.bytes.now) old) p 0
      each p less =
          elim (nat_le edit.at p) as (λ b. nat_le edit.at p ≡ b → (if b && nat_lt (p - edit.at) (length edit.bytes.now) then get_or edit.bytes.now (p - edit.at) 0 else get_or old p
          0) ≡ get_or (resize edit.at old ++ edit.bytes.now ++ drop (edit.at + length edit.bytes.now) old) p 0) [
            | true ↦ λ e. elim (nat_lt (p - edit.at) (length edit.bytes.now)) as (λ b. nat_lt (p - edit.at) (length edit.bytes.now) ≡ b →
                (if b then get_or edit.bytes.now (p - edit.at) 0 else get_or old p 0) ≡ get_or (resize edit.at old ++ edit.bytes.now ++ drop (edit.at + length edit.bytes.now) old)
                p 0) [
                  | true ↦ λ f.
                      let low = leb-true edit.at p e in
                      let high = ltb-true (p - edit.at) (length edit.bytes.now) f in
                      sym (second_at (resize edit.at old) edit.bytes.now (drop (edit.at + length edit.bytes.now) old) p (omega (arith, low, front_long)) (omega (arith, low, high, front_long))
                      ∙ ap (λ (k : ℕ). get_or edit.bytes.now (p - k) 0) front_long)
                  | false ↦ λ f.
                      let low = leb-true edit.at p e in
                      let past = ltb-false (p - edit.at) (length edit.bytes.now) f in
                      sym (third_at (resize edit.at old) edit.bytes.now (drop (edit.at + length edit.bytes.now) old) p (omega (arith, low, past, front_long))
                      ∙ get_or-drop (edit.at + length edit.bytes.now) old (p - (length (resize edit.at old) + length edit.bytes.now)) 0
                      ∙ ap (λ (k : ℕ). get_or old k 0) (let at : edit.at + length edit.bytes.now + (p - (length (resize edit.at old) + length edit.bytes.now)) ≡ p =
                      omega (arith, low, past, front_long) in at))
                ] refl
            | false ↦ λ e.
                let early = leb-false edit.at p e in
                sym (first_at (resize edit.at old) edit.bytes.now (drop (edit.at + length edit.bytes.now) old) p (omega (arith, early, front_long)) ∙ resized_at edit.at old p early)
          ] refl

-- which leaves an edit writes
module _ (edit : Edit) where
  -- what isn't left as it is was written, cut, or wasn't there
  not_left : (x : ℕ) → is_left edit x ≡ false → (data_leaves edit.kept ≤ x) ⊎ (is_touched edit x ≡ true)
  not_left x isnt = each (nat_lt x (data_leaves edit.kept)) (is_touched edit x) refl refl
    where
      each : (a b : Bool) → nat_lt x (data_leaves edit.kept) ≡ a → is_touched edit x ≡ b → (data_leaves edit.kept ≤ x) ⊎ (is_touched edit x ≡ true)
      each false b e f = inl (ltb-false x (data_leaves edit.kept) e)
      each true true e f = inr f
      each true false e f = absurd (let g : true ≡ false = sym (ap (λ a. a && not (is_touched edit x)) e ∙ ap not f) ∙ isnt in cc)

  touched : (x : ℕ) → is_touched edit x ≡ true → ((edit.length < edit.kept) × (edit.length < 1024 * x + 1024)) ⊎ (max edit.at (1024 * x) < min (1024 * x + 1024) (edit.at + length edit.bytes.now))
  touched x is = each (nat_lt edit.length edit.kept) (nat_lt edit.length (1024 * x + 1024)) (nat_lt (max edit.at (1024 * x))
      (min (1024 * x + 1024) (edit.at + length edit.bytes.now))) refl refl refl is
    where
      each : (a b c : Bool) → nat_lt edit.length edit.kept ≡ a → nat_lt edit.length (1024 * x + 1024) ≡ b →
          nat_lt (max edit.at (1024 * x)) (min (1024 * x + 1024) (edit.at + length edit.bytes.now)) ≡ c → ((a && b) || c) ≡ true
          → ((edit.length < edit.kept) × (edit.length < 1024 * x + 1024)) ⊎ (max edit.at (1024 * x) < min (1024 * x + 1024) (edit.at + length edit.bytes.now))
      each true true c e f g is' = inl (ltb-true edit.length edit.kept e, ltb-true edit.length (1024 * x + 1024) f)
      each true false true e f g is' = inr (ltb-true (max edit.at (1024 * x)) (min (1024 * x + 1024) (edit.at + length edit.bytes.now)) g)
      each false b true e f g is' = inr (ltb-true (max edit.at (1024 * x)) (min (1024 * x + 1024) (edit.at + length edit.bytes.now)) g)
      each true false false e f g is' = absurd (let h : false ≡ true = is' in cc)
      each false b false e f g is' = absurd (let h : false ≡ true = is' in cc)

  -- where it ends with the bytes, or is as long as it was
  pub reach_written : (x : ℕ) → edit.length ≡ max edit.kept (edit.at + length edit.bytes.now) → x < data_leaves edit.length → is_left edit x ≡ false
      → (min edit.at edit.kept / 1024 ≤ x) × (x < data_leaves (edit.at + length edit.bytes.now))
  reach_written x long inside isnt = each (not_left x isnt)
    where
      more : ((edit.length < edit.kept) × (edit.length < 1024 * x + 1024)) ⊎ (max edit.at (1024 * x) < min (1024 * x + 1024) (edit.at + length edit.bytes.now)) →
          (min edit.at edit.kept / 1024 ≤ x) × (x < data_leaves (edit.at + length edit.bytes.now))
      more (inl cut) = absurd (omega (arith, long, cut.0))
      more (inr here) = (omega (arith, here), omega (arith, here))

      each : (data_leaves edit.kept ≤ x) ⊎ (is_touched edit x ≡ true) → (min edit.at edit.kept / 1024 ≤ x) × (x < data_leaves (edit.at + length edit.bytes.now))
      each (inl past) = (omega (arith, past), omega (arith, long, inside, past))
      each (inr is) = more (touched x is)

  pub reach_resized : (x : ℕ) → length edit.bytes.now ≡ 0 → edit.at ≡ edit.length → x < data_leaves edit.length → is_left edit x ≡ false →
      (min edit.length edit.kept / 1024 ≤ x) × (x < data_leaves edit.length)
  reach_resized x none at inside isnt = (each (not_left x isnt), inside)
    where
      more : ((edit.length < edit.kept) × (edit.length < 1024 * x + 1024)) ⊎ (max edit.at (1024 * x) < min (1024 * x + 1024) (edit.at + length edit.bytes.now)) → min edit.length edit.kept / 1024 ≤ x
      more (inl cut) = omega (arith, cut.0, cut.1)
      more (inr here) = absurd (omega (arith, here, none))

      each : (data_leaves edit.kept ≤ x) ⊎ (is_touched edit x ≡ true) → min edit.length edit.kept / 1024 ≤ x
      each (inl past) = omega (arith, past)
      each (inr is) = more (touched x is)

  -- an edit that leaves all as it is
  pub left_all : (x : ℕ) → length edit.bytes.now ≡ 0 → edit.length ≡ edit.kept → x < data_leaves edit.kept → is_left edit x ≡ true
  left_all x none same inside = each (is_left edit x) refl
    where
      untouched : ((edit.length < edit.kept) × (edit.length < 1024 * x + 1024)) ⊎ (max edit.at (1024 * x) < min (1024 * x + 1024) (edit.at + length edit.bytes.now)) → ⊥
      untouched (inl cut) = (let less = cut.0 in omega (arith, less, same))
      untouched (inr here) = omega (arith, here, none)

      never : (data_leaves edit.kept ≤ x) ⊎ (is_touched edit x ≡ true) → ⊥
      never (inl past) = omega (arith, past, inside)
      never (inr is) = untouched (touched x is)

      each : (b : Bool) → is_left edit x ≡ b → b ≡ true
      each true e = refl
      each false e = absurd (never (not_left x e))
