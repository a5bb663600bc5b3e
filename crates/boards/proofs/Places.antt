-- Places of blocks in a list, and how many listed blocks are below one.
use Rattle.std.proofs.Common.{◌≡◌, ◌≢◌, ◌≤◌, ◌<◌, ◌+◌, ◌/◌, ◌^◌, ◌||◌, ◌==◌, ℕ, zero, suc, Bool, true, false, not, cond, List, [], ◌∷◌, ◌++◌, length}
use Rattle.std.proofs.Common.{drop, get_or, refl, sym, ap, subst, take, ⊎_elim, ◌∙◌, arith, ltb}
use Rattle.std.proofs.Math.Nat.{div-one, div-div-eq-div-mul, pow-suc, zero-div}
use Rattle.std.proofs.lemmas.Bool.{cases_Bool, cases_eq, cases_lt, eqb-true, eqb-false, eq-eqb, ne_eqb, lt-ltb, le-ltb}
use Rattle.std.proofs.lemmas.List.{take-append-drop}
use Rattle.std.proofs.lemmas.List.Folds.{position_or_len_push}
use Rattle.std.proofs.lemmas.List.Sums.{passes_at_first}
use Rattle.std.proofs.lemmas.Nat.{pow-add}
use Rattle.boards.specs.Landing.{count_below}
use Rattle.boards.specs.Places.{is_listed, place_in}

-- no block is listed twice
abbrev pub AreDistinct : List ℕ → Type 0
AreDistinct [] = Unit {0}
AreDistinct (n ∷ blocks) = (is_listed blocks n ≡ false) × AreDistinct blocks

unlisted_step : (here : Bool) (more : Bool) (p l : ℕ) → (here || more) ≡ false → (more ≡ false → p ≡ l) → cond (not here) (1 + p) 0 ≡ suc l
unlisted_step true more p l e next = absurd (cc)
unlisted_step false more p l e next = let is = next e in omega (arith, is)

listed_step : (here : Bool) (more : Bool) (p l : ℕ) → (here || more) ≡ true → (more ≡ true → p < l) → cond (not here) (1 + p) 0 < suc l
listed_step true more p l e next = omega arith
listed_step false more p l e next = let is = next e in omega (arith, is)

-- a block that isn't listed has the place behind the last
pub unlisted_place : (blocks : List ℕ) (k : ℕ) → is_listed blocks k ≡ false → place_in blocks k ≡ length blocks
unlisted_place [] k e = refl
unlisted_place (n ∷ blocks) k e = unlisted_step (n == k) (is_listed blocks k) (place_in blocks k) (length blocks) e (unlisted_place blocks k)

-- one that is listed has a place in the list
pub listed_place : (blocks : List ℕ) (k : ℕ) → is_listed blocks k ≡ true → place_in blocks k < length blocks
listed_place [] k e = absurd (cc)
listed_place (n ∷ blocks) k e = listed_step (n == k) (is_listed blocks k) (place_in blocks k) (length blocks) e (listed_place blocks k)

-- and the other way round
pub placed_listed : (blocks : List ℕ) (k : ℕ) → place_in blocks k < length blocks → is_listed blocks k ≡ true
placed_listed blocks k below =
    ⊎_elim (λ e. e) (λ e. absurd (let is = unlisted_place blocks k e in omega (arith, is))) (cases_Bool (is_listed blocks k))

pub unplaced_unlisted : (blocks : List ℕ) (k : ℕ) → place_in blocks k ≡ length blocks → is_listed blocks k ≡ false
unplaced_unlisted blocks k past =
    ⊎_elim (λ e. absurd (let is = listed_place blocks k e in omega (arith, is))) (λ e. e) (cases_Bool (is_listed blocks k))

-- the block at its place is the block
pub block_at_place : (blocks : List ℕ) (k : ℕ) → place_in blocks k < length blocks → get_or blocks (place_in blocks k) 0 ≡ k
block_at_place blocks k below = eqb-true _ _ (passes_at_first (λ n. n == k) blocks 0 below)

-- two blocks have two places, where one of them is listed
pub places_apart : (blocks : List ℕ) (j k : ℕ) → place_in blocks k < length blocks → j ≢ k → place_in blocks j ≢ place_in blocks k
places_apart blocks j k below apart same =
    apart (sym (block_at_place blocks j (subst (λ n. n < length blocks) (sym same) below)) ∙ ap (λ n. get_or blocks n 0) same ∙ block_at_place blocks k below)

-- one block more
module _ (blocks : List ℕ) (block : ℕ) where
  pub place_in_push_listed : (k : ℕ) → place_in blocks k < length blocks → place_in (blocks ++ block ∷ []) k ≡ place_in blocks k
  place_in_push_listed k below =
      position_or_len_push (λ n. n == k) blocks block ∙ ap (λ b. cond b (length blocks + cond (block == k) 0 1) (place_in blocks k)) (ne_eqb _ _ (λ e. absurd (omega (arith, e, below))))

  pub place_in_push_here : place_in blocks block ≡ length blocks → place_in (blocks ++ block ∷ []) block ≡ length blocks
  place_in_push_here past =
      position_or_len_push (λ n. n == block) blocks block ∙ ap (λ b. cond b (length blocks + cond (block == block) 0 1) (place_in blocks block)) (eq-eqb _ _ past)
      ∙ ap (λ b. length blocks + cond b 0 1) (eq-eqb block block refl) ∙ omega arith

  pub place_in_push_other : (k : ℕ) → block ≢ k → place_in blocks k ≡ length blocks → place_in (blocks ++ block ∷ []) k ≡ length blocks + 1
  place_in_push_other k apart past =
      position_or_len_push (λ n. n == k) blocks block ∙ ap (λ b. cond b (length blocks + cond (block == k) 0 1) (place_in blocks k)) (eq-eqb _ _ past)
      ∙ ap (λ b. length blocks + cond b 0 1) (ne_eqb block k apart)

or_false : (b : Bool) → (b || false) ≡ b
or_false true = refl
or_false false = refl

or_under : (a b c d : Bool) → b ≡ (c || d) → (a || b) ≡ ((a || c) || d)
or_under true b c d e = refl
or_under false b c d e = e

is_listed-push : (blocks : List ℕ) (block k : ℕ) → is_listed (blocks ++ block ∷ []) k ≡ (is_listed blocks k || (block == k))
is_listed-push [] block k = or_false (block == k)
is_listed-push (n ∷ blocks) block k = or_under (n == k) _ _ _ (is_listed-push blocks block k)

pub listed_push_here : (blocks : List ℕ) (block : ℕ) → is_listed (blocks ++ block ∷ []) block ≡ true
listed_push_here [] block = ap (λ b. b || false) (eq-eqb block block refl)
listed_push_here (n ∷ blocks) block = ap (λ b. (n == block) || b) (listed_push_here blocks block) ∙ or_true (n == block) where
  or_true : (b : Bool) → (b || true) ≡ true
  or_true true = refl
  or_true false = refl

pub listed_push_other : (blocks : List ℕ) (block k : ℕ) → block ≢ k → is_listed (blocks ++ block ∷ []) k ≡ is_listed blocks k
listed_push_other blocks block k apart = is_listed-push blocks block k ∙ ap (λ b. is_listed blocks k || b) (ne_eqb block k apart) ∙ or_false (is_listed blocks k)

or_parts : (a b : Bool) → (a || b) ≡ false → (a ≡ false) × (b ≡ false)
or_parts true b e = absurd (cc)
or_parts false b e = (refl, e)

eqb-sym : (a b : ℕ) → (a == b) ≡ false → b ≢ a
eqb-sym a b e same = eqb-false a b e (sym same)

-- a block that isn't listed keeps the list distinct
pub AreDistinct-push : (blocks : List ℕ) (block : ℕ) → AreDistinct blocks → is_listed blocks block ≡ false → AreDistinct (blocks ++ block ∷ [])
AreDistinct-push [] block are new = (refl, tt)
AreDistinct-push (n ∷ blocks) block are new =
    let parts = or_parts (n == block) (is_listed blocks block) new in (
      listed_push_other blocks block n (eqb-sym n block parts.0) ∙ are.0,
      AreDistinct-push blocks block are.1 parts.1,
    )

distinct_from : (blocks : List ℕ) → ((i j : ℕ) → i < length blocks → j < length blocks → get_or blocks i 0 ≡ get_or blocks j 0 → i ≡ j) → AreDistinct blocks
distinct_from [] one = tt
distinct_from (n ∷ blocks) one = (
  ⊎_elim
      (λ listed. let below = listed_place blocks n listed in
      let same = one 0 (suc (place_in blocks n)) (omega arith) (omega (arith, below)) (sym (block_at_place blocks n below)) in
      absurd (omega (arith, same)))
      (λ absent. absent)
      (cases_Bool (is_listed blocks n)),
  distinct_from blocks (λ i j h h' e. let same = one (suc i) (suc j) (omega (arith, h)) (omega (arith, h')) e in omega (arith, same)),
)

-- where the place of each block is noted, none is listed twice
pub distinct_noted : (blocks places : List ℕ) → ((i : ℕ) → i < length blocks → get_or places (get_or blocks i 0) 0 ≡ i) → AreDistinct blocks
distinct_noted blocks places noted = distinct_from blocks (λ i j h h' e. sym (noted i h) ∙ ap (λ n. get_or places n 0) e ∙ noted j h')

-- how many listed blocks are below one
abbrev pub smaller : List ℕ → ℕ → ℕ
smaller [] k = 0
smaller (n ∷ blocks) k = cond (ltb n k) 1 0 + smaller blocks k

count_none : (k : ℕ) → count_below (is_listed []) k ≡ 0
unfolding count_below
count_none zero = refl
count_none (suc k) = omega (arith, count_none k)

-- one more listed block counts where it is below
count_more : (n : ℕ) (blocks : List ℕ) → is_listed blocks n ≡ false → (k : ℕ) → count_below (is_listed (n ∷ blocks)) k ≡ cond (ltb n k) 1 0 + count_below (is_listed blocks) k
unfolding count_below
count_more n blocks new zero = ap (λ b. cond b 1 0 + 0) (sym (le-ltb n 0 (omega arith)))
count_more n blocks new (suc k) =
    ⊎_elim
    (λ (e : n ≡ k). let below : ltb n k ≡ false = le-ltb n k (omega (arith, e)) in
    let upto : ltb n (suc k) ≡ true = lt-ltb n (suc k) (omega (arith, e)) in
    let absent : is_listed blocks k ≡ false = subst (λ m. is_listed blocks m ≡ false) e new in
    let more = count_more n blocks new k in
    rw (upto, absent, eq-eqb n k e) (omega (arith, more ∙ ap (λ b. cond b 1 0 + count_below (is_listed blocks) k) below)))
    (λ (ne : n ≢ k). ⊎_elim
    (λ (h : n < k). let more = count_more n blocks new k in
    rw (ne_eqb n k ne, lt-ltb n (suc k) (omega (arith, h))) (omega (arith, more ∙ ap (λ b. cond b 1 0 + count_below (is_listed blocks) k) (lt-ltb n k h))))
    (λ (h : k ≤ n). let more = count_more n blocks new k in
    rw (ne_eqb n k ne, le-ltb n (suc k) (omega (arith, h, ne))) (omega (arith, more ∙ ap (λ b. cond b 1 0 + count_below (is_listed blocks) k) (le-ltb n k h))))
    (cases_lt n k))
    (cases_eq n k)

-- the listed blocks below one are the blocks below it that are listed
pub smaller_is : (blocks : List ℕ) → AreDistinct blocks → (k : ℕ) → smaller blocks k ≡ count_below (is_listed blocks) k
smaller_is [] are k = sym (count_none k)
smaller_is (n ∷ blocks) are k = ap (λ m. cond (ltb n k) 1 0 + m) (smaller_is blocks are.1 k) ∙ sym (count_more n blocks are.0 k)

count_below-le : (pending : ℕ → Bool) (k : ℕ) → count_below pending k ≤ k
unfolding count_below
count_below-le pending zero = omega arith
count_below-le pending (suc k) = let less = count_below-le pending k in let one = at_most_one (pending k) in omega (arith, less, one) where
  at_most_one : (b : Bool) → cond b 1 0 ≤ 1
  at_most_one true = omega arith
  at_most_one false = omega arith

smaller_all : (blocks : List ℕ) (k : ℕ) → ((i : ℕ) → i < length blocks → get_or blocks i 0 < k) → smaller blocks k ≡ length blocks
smaller_all [] k each = refl
smaller_all (n ∷ blocks) k each =
    let rest = smaller_all blocks k (λ i h. each (suc i) (omega arith)) in
    ap (λ b. cond b 1 0 + smaller blocks k) (lt-ltb n k (each 0 (omega arith))) ∙ omega (arith, rest)

-- distinct blocks below a number are at most so many
pub distinct_fit : (blocks : List ℕ) (k : ℕ) → AreDistinct blocks → ((i : ℕ) → i < length blocks → get_or blocks i 0 < k) → length blocks ≤ k
distinct_fit blocks k are each =
    omega (arith, smaller_all blocks k each, smaller_is blocks are k, count_below-le (is_listed blocks) k)

smaller-push : (blocks : List ℕ) (block k : ℕ) → smaller (blocks ++ block ∷ []) k ≡ smaller blocks k + cond (ltb block k) 1 0
smaller-push [] block k = omega arith
smaller-push (n ∷ blocks) block k = let rest = smaller-push blocks block k in omega (arith, rest)

-- a digit for each listed block below
pub rest_taken : (digits rest n k : ℕ) (blocks : List ℕ) → n < k → rest ≡ digits / 4 ^ smaller blocks k → rest / 4 ≡ digits / 4 ^ smaller (blocks ++ n ∷ []) k
rest_taken digits rest n k blocks h is =
    let one : smaller (blocks ++ n ∷ []) k ≡ suc (smaller blocks k) = omega (arith, smaller-push blocks n k ∙ ap (λ b. smaller blocks k + cond b 1 0) (lt-ltb n k h)) in
    rw (one, is) (div-div-eq-div-mul digits (4 ^ smaller blocks k) 4 ∙ ap (λ n. digits / n) (sym (pow-suc 4 (smaller blocks k))))

pub rest_kept : (digits rest n k : ℕ) (blocks : List ℕ) → k ≤ n → rest ≡ digits / 4 ^ smaller blocks k → rest ≡ digits / 4 ^ smaller (blocks ++ n ∷ []) k
rest_kept digits rest n k blocks h is =
    let none : smaller (blocks ++ n ∷ []) k ≡ smaller blocks k = omega (arith, smaller-push blocks n k ∙ ap (λ b. smaller blocks k + cond b 1 0) (le-ltb n k h)) in
    rw none is

pub rest_start : (digits k : ℕ) → digits ≡ digits / 4 ^ smaller [] k
rest_start digits k = sym (div-one digits)

smaller-append : (xs ys : List ℕ) (k : ℕ) → smaller (xs ++ ys) k ≡ smaller xs k + smaller ys k
smaller-append [] ys k = omega arith
smaller-append (n ∷ xs) ys k = let rest = smaller-append xs ys k in omega (arith, rest)

-- once no digit is left, none comes any more
pub rest_gone : (digits n k : ℕ) (blocks : List ℕ) → digits / 4 ^ smaller (take n blocks) k ≡ 0 → digits / 4 ^ smaller blocks k ≡ 0
rest_gone digits n k blocks gone =
    let a = smaller (take n blocks) k in
    let b = smaller (drop n blocks) k in
    let both : smaller blocks k ≡ a + b = ap (λ (l : List ℕ). smaller l k) (sym (take-append-drop n blocks)) ∙ smaller-append (take n blocks) (drop n blocks) k in
    ap (λ m. digits / 4 ^ m) both
    ∙ ap (λ m. digits / m) (pow-add 4 a b)
    ∙ sym (div-div-eq-div-mul digits (4 ^ a) (4 ^ b))
    ∙ ap (λ m. m / 4 ^ b) gone
    ∙ zero-div (4 ^ b)
