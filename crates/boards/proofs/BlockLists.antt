-- What a list of blocks finds, and what one more block makes of it.
use Rattle.std.proofs.Common.{◌≡◌, ◌≢◌, ◌≤◌, ◌<◌, ◌+◌, ◌==◌, ℕ, List, [], ◌∷◌, ◌++◌, length}
use Rattle.std.proofs.Common.{get_or, set, refl, sym, ap, ⊎_elim, ◌∙◌, arith, length-append, below_more}
use Rattle.std.proofs.lemmas.Bool.{cases_Bool, cases_lt, eq-eqb, ne_eqb}
use Rattle.std.proofs.lemmas.List.{get_or-set_other, get_or-set_same, get_or_append_left, get_or_push}
use Rattle.std.proofs.lemmas.List.Sums.{position_or_len_is}
use Rattle.boards.specs.Places.{is_listed, place_in}
use Rattle.boards.proofs.Places.{AreDistinct-push, block_at_place, distinct_fit, distinct_noted, listed_place, unlisted_place, unplaced_unlisted}

module _ (blocks places : List ℕ) (noted : (i : ℕ) → i < length blocks → get_or places (get_or blocks i 0) 0 ≡ i) (block : ℕ) where
  -- the place that is noted, where the list has the block there
  pub found_place : (place : ℕ) → place < length blocks → get_or blocks place 0 ≡ block → place_in blocks block ≡ place
  found_place place below is =
      position_or_len_is (λ n. n == block) blocks place 0 (omega (arith, below))
      (λ k h. ne_eqb _ _ (λ e. absurd (let one = sym (noted k (omega (arith, h, below))) ∙ ap (λ n. get_or places n 0) (e ∙ sym is) ∙ noted place below in omega (arith, one, h))))
      (λ h. eq-eqb _ _ is)

  -- a block that isn't at the place noted for it isn't listed
  pub unfound_place : (place : ℕ) → place ≡ get_or places block 0 → (place < length blocks → get_or blocks place 0 ≢ block) → length blocks ≤ place_in blocks block
  unfound_place place is none =
      ⊎_elim
      (λ (below : place_in blocks block < length blocks). absurd (let at = block_at_place blocks block below in
      let same : place ≡ place_in blocks block = is ∙ ap (λ n. get_or places n 0) (sym at) ∙ noted (place_in blocks block) below in
      none (omega (arith, same, below)) (ap (λ n. get_or blocks n 0) same ∙ at)))
      (λ past. past)
      (cases_lt (place_in blocks block) (length blocks))

  -- nor is one that has no place
  pub unreached_place : (n : ℕ) → ((i : ℕ) → i < length blocks → get_or blocks i 0 < n) → n ≤ block → length blocks ≤ place_in blocks block
  unreached_place n reached past =
      ⊎_elim (λ (below : place_in blocks block < length blocks). absurd (let at = block_at_place blocks block below in let h = reached (place_in blocks block) below in omega (arith, at, h, past)))
      (λ past. past) (cases_lt (place_in blocks block) (length blocks))

  pub place_in-le : place_in blocks block ≤ length blocks
  place_in-le =
      ⊎_elim (λ listed. let below = listed_place blocks block listed in omega (arith, below)) (λ absent. let is = unlisted_place blocks block absent in omega (arith, is))
      (cases_Bool (is_listed blocks block))

  module _ (absent : place_in blocks block ≡ length blocks) (within : block < length places) where
    others : (i : ℕ) → i < length blocks → get_or blocks i 0 ≢ block
    others i h e = let is = found_place i h e in absurd (omega (arith, is, absent, h))

    -- one block more, whose place is noted
    pub noted_push : (place : ℕ) → place ≡ length blocks → (i : ℕ) → i < length blocks + 1 → get_or (set places block place) (get_or (blocks ++ block ∷ []) i 0) 0 ≡ i
    noted_push place is =
        below_more _ _
        (λ i h. ap (λ n. get_or (set places block place) n 0) (get_or_append_left blocks (block ∷ []) 0 i h) ∙ get_or-set_other places block _ place 0 (others i h) ∙ noted i h)
        (ap (λ n. get_or (set places block place) n 0) (get_or_push blocks block 0 (length blocks) refl) ∙ get_or-set_same places block place 0 within ∙ is)

    pub reached_push : (n : ℕ) → ((i : ℕ) → i < length blocks → get_or blocks i 0 < n) → block < n → (i : ℕ) → i < length blocks + 1 → get_or (blocks ++ block ∷ []) i 0 < n
    reached_push n reached here =
        below_more _ _
        (λ i h. let is = get_or_append_left blocks (block ∷ []) 0 i h in let below = reached i h in omega (arith, is, below))
        (let is = get_or_push blocks block 0 (length blocks) refl in omega (arith, is, here))

    -- so there was room for it
    pub fits_push : (n : ℕ) → ((i : ℕ) → i < length blocks → get_or blocks i 0 < n) → block < n → length blocks < n
    fits_push n reached here =
        let long = length-append blocks (block ∷ []) in
        let fit = distinct_fit (blocks ++ block ∷ []) n (AreDistinct-push blocks block (distinct_noted blocks places noted) (unplaced_unlisted blocks block absent))
        (λ i h. reached_push n reached here i (omega (arith, h, long))) in
        omega (arith, fit, long)
