-- The key expansion word by word, and the key at its beginning.
use Rattle.std.proofs.Common.{◌≡◌, ◌≢◌, inl, inr, ℕ, zero, suc, ◌+◌, ◌-◌, ◌*◌, ◌/◌, ◌%◌, ◌<◌, ◌≤◌, List, [], ◌∷◌, ◌++◌, bit_xor, length, take, set, get_or}
use Rattle.std.proofs.Common.{slice_index, eqb, ltb, ◌||◌, IsTrue, true, false, refl, sym, ap, ◌∙◌, arith, add-one, append_assoc}
use Rattle.std.proofs.lemmas.Bool.{eq-eqb, ne_eqb, lt-ltb, le-ltb, or_cases, eqb-true}
use Rattle.std.proofs.lemmas.List.{take_more_set, take_more, get_or-take, length_push, take-append-le, take-take, take_all, flat_map_more}
use Rattle.std.proofs.lemmas.Nat.{be_bytes_4}
use Rattle.std.specs.Int.{w32, rotate_left}
use Rattle.std.specs.List.{flat_map}
use Rattle.aes_core.specs.KeyExpansion.{is_key_length, sub_word, round_constant, key_step, first_words, key_words, round_key_words, key_of_words}
use Rattle.aes_core.specs.Words.{word_bytes, word_at}

-- the lengths of keys, as bounds
pub key_length_bounds : (n : ℕ) → IsTrue (is_key_length n) → (16 ≤ n) × (n ≤ 32) × (n % 4 ≡ 0)
key_length_bounds n h = elim (or_cases (eqb n 16 || eqb n 24) (eqb n 32) h) [
  | inl a ↦ elim (or_cases (eqb n 16) (eqb n 24) a) [
    | inl e ↦ let f : n ≡ 16 = eqb-true n 16 e in (omega arith, omega arith, omega arith)
    | inr e ↦ let f : n ≡ 24 = eqb-true n 24 e in (omega arith, omega arith, omega arith)
  ]
  | inr e ↦ let f : n ≡ 32 = eqb-true n 32 e in (omega arith, omega arith, omega arith)
]

-- ---- what is added to the word nk places before word i
pub key_step_first : (nk i before : ℕ) → i % nk ≡ 0
    → bit_xor (sub_word (rotate_left w32 before 8)) (round_constant (i / nk)) ≡ key_step nk i before
unfolding key_step
key_step_first nk i before e = let t : eqb (i % nk) 0 ≡ true = eq-eqb (i % nk) 0 e in rw t refl

pub key_step_second : (nk i before : ℕ) → 6 < nk → i % nk ≡ 4 → sub_word before ≡ key_step nk i before
unfolding key_step
key_step_second nk i before long e =
    let s : eqb (i % nk) 0 ≡ false = ne_eqb (i % nk) 0 (omega arith) in
    let t : ltb 6 nk ≡ true = lt-ltb 6 nk long in
    let u : eqb (i % nk) 4 ≡ true = eq-eqb (i % nk) 4 e in
    rw (s, t, u) refl

pub key_step_short : (nk i before : ℕ) → i % nk ≢ 0 → nk ≤ 6 → before ≡ key_step nk i before
unfolding key_step
key_step_short nk i before ne short =
    let s : eqb (i % nk) 0 ≡ false = ne_eqb (i % nk) 0 ne in
    let t : ltb 6 nk ≡ false = le-ltb 6 nk short in
    rw (s, t) refl

pub key_step_other : (nk i before : ℕ) → i % nk ≢ 0 → 6 < nk → i % nk ≢ 4 → before ≡ key_step nk i before
unfolding key_step
key_step_other nk i before ne long other =
    let s : eqb (i % nk) 0 ≡ false = ne_eqb (i % nk) 0 ne in
    let t : ltb 6 nk ≡ true = lt-ltb 6 nk long in
    let u : eqb (i % nk) 4 ≡ false = ne_eqb (i % nk) 4 other in
    rw (s, t, u) refl

-- ---- the words
pub first_words_next : (key w : List ℕ) (i x : ℕ) → take i w ≡ first_words key i → i < length w → x ≡ word_at key i
    → take (i + 1) (set w i x) ≡ first_words key (i + 1)
unfolding first_words
first_words_next key w i x held fits e = take_more_set w i x fits ∙ rw (held, e, add-one) refl

pub length-first_words : (key : List ℕ) (n : ℕ) → length (first_words key n) ≡ n
unfolding first_words
length-first_words key zero = refl
length-first_words key (suc n) = omega (arith, length_push (first_words key n) (word_at key n), length-first_words key n)

pub length-key_words : (nk : ℕ) (key : List ℕ) (n : ℕ) → length (key_words nk key n) ≡ nk + n
unfolding key_words
length-key_words nk key zero = omega (arith, length-first_words key nk)
length-key_words nk key (suc n) =
    let w : List ℕ = key_words nk key n in
    omega (arith, length_push w (bit_xor (slice_index w n) (key_step nk (nk + n) (slice_index w (nk + n - 1)))), length-key_words nk key n)

key_words_more : (nk : ℕ) (key w : List ℕ) (n x : ℕ) → w ≡ key_words nk key n
    → x ≡ bit_xor (slice_index w n) (key_step nk (nk + n) (slice_index w (nk + n - 1))) → w ++ x ∷ [] ≡ key_words nk key (n + 1)
unfolding key_words
key_words_more nk key w n x e ex = rw (ex, e, add-one) refl

pub key_words_next : (nk : ℕ) (key w : List ℕ) (i x step : ℕ) → 0 < nk → nk ≤ i → i < length w → take i w ≡ key_words nk key (i - nk)
    → step ≡ key_step nk i (slice_index w (i - 1)) → x ≡ bit_xor (slice_index w (i - nk)) step
    → take (i + 1) (set w i x) ≡ key_words nk key (i + 1 - nk)
key_words_next nk key w i x step some after fits held es ex =
    let n : ℕ = i - nk in
    let at : nk + n ≡ i = omega arith in
    let here : slice_index (take i w) n ≡ slice_index w n = get_or-take i w n 0 (omega arith) in
    let last : slice_index (take i w) (i - 1) ≡ slice_index w (i - 1) = get_or-take i w (i - 1) 0 (omega arith) in
    let value : x ≡ bit_xor (slice_index (take i w) n) (key_step nk (nk + n) (slice_index (take i w) (nk + n - 1))) =
    rw (at, here, last, ex, es) refl in
    let count : n + 1 ≡ i + 1 - nk = omega arith in
    take_more_set w i x fits ∙ key_words_more nk key (take i w) n x held value ∙ ap (key_words nk key) count

pub key_words-take : (nk : ℕ) (key : List ℕ) (n : ℕ) → take nk (key_words nk key n) ≡ first_words key nk
unfolding key_words
key_words-take nk key zero = take_all nk (first_words key nk) (omega (arith, length-first_words key nk))
key_words-take nk key (suc n) =
    take-append-le nk (key_words nk key n) _ (omega (arith, length-key_words nk key n)) ∙ key_words-take nk key n

-- ---- the key is the bytes of its first words
pub four_fit : (a b c d : ℕ) → a < 256 → b < 256 → c < 256 → d < 256 → (k : ℕ) → get_or (a ∷ b ∷ c ∷ d ∷ []) k 0 < 256
four_fit a b c d fa fb fc fd zero = fa
four_fit a b c d fa fb fc fd (suc zero) = fb
four_fit a b c d fa fb fc fd (suc (suc zero)) = fc
four_fit a b c d fa fb fc fd (suc (suc (suc zero))) = fd
four_fit a b c d fa fb fc fd (suc (suc (suc (suc k)))) = omega arith

bytes-word_at : (key : List ℕ) (i : ℕ) → ((k : ℕ) → get_or key k 0 < 256)
    → word_bytes (word_at key i) ≡ get_or key (4 * i) 0 ∷ get_or key (4 * i + 1) 0 ∷ get_or key (4 * i + 2) 0 ∷ get_or key (4 * i + 3) 0 ∷ []
unfolding word_bytes word_at
bytes-word_at key i fits =
    be_bytes_4 _ (word_at key i) refl
    (four_fit (get_or key (4 * i) 0) (get_or key (4 * i + 1) 0) (get_or key (4 * i + 2) 0) (get_or key (4 * i + 3) 0)
    (fits (4 * i)) (fits (4 * i + 1)) (fits (4 * i + 2)) (fits (4 * i + 3))) refl

-- four more elements
take_four : (xs : List ℕ) (i : ℕ) → i + 4 ≤ length xs
    → take (i + 4) xs ≡ take i xs ++ (get_or xs i 0 ∷ get_or xs (i + 1) 0 ∷ get_or xs (i + 2) 0 ∷ get_or xs (i + 3) 0 ∷ [])
take_four xs i long =
    let a : take (i + 1) xs ≡ take i xs ++ get_or xs i 0 ∷ [] = take_more xs i 0 (omega arith) in
    let b : take (i + 2) xs ≡ take (i + 1) xs ++ get_or xs (i + 1) 0 ∷ [] =
    ap (λ (n : ℕ). take n xs) (let e : i + 2 ≡ i + 1 + 1 = omega arith in e) ∙ take_more xs (i + 1) 0 (omega arith) in
    let c : take (i + 3) xs ≡ take (i + 2) xs ++ get_or xs (i + 2) 0 ∷ [] =
    ap (λ (n : ℕ). take n xs) (let e : i + 3 ≡ i + 2 + 1 = omega arith in e) ∙ take_more xs (i + 2) 0 (omega arith) in
    let d : take (i + 4) xs ≡ take (i + 3) xs ++ get_or xs (i + 3) 0 ∷ [] =
    ap (λ (n : ℕ). take n xs) (let e : i + 4 ≡ i + 3 + 1 = omega arith in e) ∙ take_more xs (i + 3) 0 (omega arith) in
    rw (d, c, b, a) (simp append_assoc)

bytes-first_words : (key : List ℕ) (n : ℕ) → ((k : ℕ) → get_or key k 0 < 256) → 4 * n ≤ length key
    → flat_map word_bytes (first_words key n) ≡ take (4 * n) key
unfolding first_words
bytes-first_words key zero fits long = refl
bytes-first_words key (suc n) fits long =
    let before : flat_map word_bytes (first_words key n) ≡ take (4 * n) key = bytes-first_words key n fits (omega arith) in
    let e : 4 * suc n ≡ 4 * n + 4 = omega arith in
    rw e (sym (flat_map_more word_bytes [] (first_words key n) (word_at key n))
    ∙ ap (λ (z : List ℕ). z ++ word_bytes (word_at key n)) before
    ∙ ap (λ (z : List ℕ). take (4 * n) key ++ z) (bytes-word_at key n fits) ∙ sym (take_four key (4 * n) (omega arith)))

-- the words of a key's expansion have that key
pub key_of_words-expanded : (key words : List ℕ) → ((k : ℕ) → get_or key k 0 < 256) → length key % 4 ≡ 0
    → take (4 * (length key / 4 + 7)) words ≡ round_key_words key → key_of_words (length key / 4 + 6) words ≡ key
unfolding key_of_words round_key_words
key_of_words-expanded key words fits whole e =
    let nk : ℕ = length key / 4 in
    let count : nk + 6 - 6 ≡ nk = omega arith in
    let front : take nk words ≡ first_words key nk =
    sym (take-take nk (4 * (nk + 7)) words (omega arith)) ∙ ap (take nk) e ∙ key_words-take nk key (4 * (nk + 6 + 1) - nk) in
    rw (count, front) (bytes-first_words key nk fits (omega arith) ∙ take_all (4 * nk) key (omega arith))
