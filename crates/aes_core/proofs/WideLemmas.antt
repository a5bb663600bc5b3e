-- A block as one number of 128 bits, its words, and its bytes.
use Rattle.std.proofs.Common.{◌≡◌, ℕ, zero, suc, ◌+◌, ◌*◌, ◌/◌, ◌%◌, ◌^◌, ◌<◌, List, [], ◌∷◌, ◌++◌, bit_and, length, get_or, refl, sym, ap, ◌∙◌, arith, append_assoc, append-nil, take, drop}
use Rattle.std.proofs.lemmas.List.{take_at, drop_all, length-drop, length-append}
use borrow.Rule.Slice.PartMut.{put_mid}
use Rattle.std.proofs.lemmas.Nat.{shr-shr, be_bytes_8, and_mask, shr_high, mod_low}
use Rattle.std.specs.Int.{w64, w128, from_be_bytes, to_be_bytes}
use Rattle.aes_core.specs.Words.{word_bytes, block_of}
use Rattle.aes_core.proofs.RoundLemmas.{block_written}

-- the bytes of a number in two halves
low_parts : (n : ℕ) → (n % 2 ^ 64 / 2 ^ 56 % 256 ≡ n / 2 ^ 56 % 256) × (n % 2 ^ 64 / 2 ^ 48 % 256 ≡ n / 2 ^ 48 % 256)
    × (n % 2 ^ 64 / 2 ^ 40 % 256 ≡ n / 2 ^ 40 % 256) × (n % 2 ^ 64 / 2 ^ 32 % 256 ≡ n / 2 ^ 32 % 256)
    × (n % 2 ^ 64 / 2 ^ 24 % 256 ≡ n / 2 ^ 24 % 256) × (n % 2 ^ 64 / 2 ^ 16 % 256 ≡ n / 2 ^ 16 % 256)
    × (n % 2 ^ 64 / 2 ^ 8 % 256 ≡ n / 2 ^ 8 % 256) × (n % 2 ^ 64 % 256 ≡ n % 256)
low_parts n = (omega arith, omega arith, omega arith, omega arith, omega arith, omega arith, omega arith, omega arith)

high_part : (n k : ℕ) → n / 2 ^ 64 / 2 ^ k % 256 ≡ n / 2 ^ (64 + k) % 256
high_part n k = ap (λ (z : ℕ). z % 256) (shr-shr n 64 k)

eight : (a b c d e f g h p q r s t u v w : ℕ) → a ≡ p → b ≡ q → c ≡ r → d ≡ s → e ≡ t → f ≡ u → g ≡ v → h ≡ w
    → a ∷ b ∷ c ∷ d ∷ e ∷ f ∷ g ∷ h ∷ [] ≡ p ∷ q ∷ r ∷ s ∷ t ∷ u ∷ v ∷ w ∷ []
eight a b c d e f g h p q r s t u v w ea eb ec ed ee ef eg eh = cc

high_bytes : (n : ℕ) → to_be_bytes w64 (n / 2 ^ 64)
    ≡ n / 2 ^ 120 % 256 ∷ n / 2 ^ 112 % 256 ∷ n / 2 ^ 104 % 256 ∷ n / 2 ^ 96 % 256 ∷ n / 2 ^ 88 % 256 ∷ n / 2 ^ 80 % 256 ∷ n / 2 ^ 72 % 256 ∷ n / 2 ^ 64 % 256 ∷ []
high_bytes n =
    eight _ _ _ _ _ _ _ _ _ _ _ _ _ _ _ _ (high_part n 56) (high_part n 48) (high_part n 40) (high_part n 32) (high_part n 24) (high_part n 16) (high_part n 8) refl

low_bytes : (n : ℕ) → to_be_bytes w64 (n % 2 ^ 64)
    ≡ n / 2 ^ 56 % 256 ∷ n / 2 ^ 48 % 256 ∷ n / 2 ^ 40 % 256 ∷ n / 2 ^ 32 % 256 ∷ n / 2 ^ 24 % 256 ∷ n / 2 ^ 16 % 256 ∷ n / 2 ^ 8 % 256 ∷ n % 256 ∷ []
low_bytes n =
    let p = low_parts n in eight _ _ _ _ _ _ _ _ _ _ _ _ _ _ _ _ p.0 p.1 p.2 p.3 p.4 p.5 p.6 p.7

pub two_lists : (a b p q : List ℕ) → a ≡ p → b ≡ q → a ++ b ≡ p ++ q
two_lists a b p q ea eb = rw (ea, eb) refl

pub halves : (n : ℕ) → to_be_bytes w64 (n / 2 ^ 64) ++ to_be_bytes w64 (n % 2 ^ 64) ≡ to_be_bytes w128 n
halves n = two_lists _ _ _ _ (high_bytes n) (low_bytes n)

-- the bytes of a half in two words
word_parts : (n : ℕ) → (n / 2 ^ 32 / 2 ^ 24 % 256 ≡ n / 2 ^ 56 % 256) × (n / 2 ^ 32 / 2 ^ 16 % 256 ≡ n / 2 ^ 48 % 256)
    × (n / 2 ^ 32 / 2 ^ 8 % 256 ≡ n / 2 ^ 40 % 256) × (n % 2 ^ 32 / 2 ^ 24 % 256 ≡ n / 2 ^ 24 % 256)
    × (n % 2 ^ 32 / 2 ^ 16 % 256 ≡ n / 2 ^ 16 % 256) × (n % 2 ^ 32 / 2 ^ 8 % 256 ≡ n / 2 ^ 8 % 256) × (n % 2 ^ 32 % 256 ≡ n % 256)
word_parts n = (omega arith, omega arith, omega arith, omega arith, omega arith, omega arith, omega arith)

pub words_of_half : (n : ℕ) → word_bytes (n / 2 ^ 32) ++ word_bytes (n % 2 ^ 32) ≡ to_be_bytes w64 n
unfolding word_bytes
words_of_half n =
    let p = word_parts n in eight _ _ _ _ _ _ _ _ _ _ _ _ _ _ _ _ p.0 p.1 p.2 refl p.3 p.4 p.5 p.6

-- the words of two halves
pub store_is : (a b c d high low : ℕ) (p q : List ℕ) → b < 2 ^ 32 → d < 2 ^ 32 → high ≡ a * 2 ^ 32 + b → low ≡ c * 2 ^ 32 + d
    → p ≡ to_be_bytes w64 high → q ≡ to_be_bytes w64 low → p ++ q ≡ block_of a b c d
store_is a b c d high low p q fb fd eh el ep eq =
    let ha : high / 2 ^ 32 ≡ a = omega arith in
    let hb : high % 2 ^ 32 ≡ b = omega arith in
    let lc : low / 2 ^ 32 ≡ c = omega arith in
    let ld : low % 2 ^ 32 ≡ d = omega arith in
    two_lists _ _ _ _ (ep ∙ sym (words_of_half high)) (eq ∙ sym (words_of_half low))
    ∙ joined (word_bytes (high / 2 ^ 32)) (word_bytes (high % 2 ^ 32)) (word_bytes (low / 2 ^ 32)) (word_bytes (low % 2 ^ 32))
    (word_bytes a) (word_bytes b) (word_bytes c) (word_bytes d) (ap word_bytes ha) (ap word_bytes hb) (ap word_bytes lc) (ap word_bytes ld) where
      joined : (p q r s p' q' r' s' : List ℕ) → p ≡ p' → q ≡ q' → r ≡ r' → s ≡ s' → (p ++ q) ++ (r ++ s) ≡ p' ++ (q' ++ (r' ++ s'))
      joined p q r s p' q' r' s' ep eq er es = rw (ep, eq, er, es) (append_assoc p' q' (r' ++ s'))

-- two halves written into a block
pub halves_written : (zeros p q : List ℕ) → length zeros ≡ 16 → length p ≡ 8 → length q ≡ 8
    → put_mid 8 8 (put_mid 0 8 zeros p) q ≡ p ++ q
halves_written zeros p q lz lp lq =
    let front : take 8 (p ++ drop 8 zeros) ≡ p = take_at p (drop 8 zeros) 8 lp in
    let rest : drop 8 (drop 8 (p ++ drop 8 zeros)) ≡ [] =
    drop_all 8 (drop 8 (p ++ drop 8 zeros)) (omega (arith, length-drop 8 (p ++ drop 8 zeros), length-append p (drop 8 zeros), length-drop 8 zeros)) in
    rw (front, rest, append-nil) refl

-- the words that a number is cut into
pub load_is : (n : ℕ) → block_of (n / 2 ^ 96) (bit_and (n / 2 ^ 64) 0xffffffff) (bit_and (n / 2 ^ 32) 0xffffffff) (bit_and n 0xffffffff) ≡ to_be_bytes w128 n
load_is n =
    let a : n / 2 ^ 96 ≡ n / 2 ^ 64 / 2 ^ 32 = omega arith in
    let c : n / 2 ^ 32 % 2 ^ 32 ≡ n % 2 ^ 64 / 2 ^ 32 = omega arith in
    let d : n % 2 ^ 32 ≡ n % 2 ^ 64 % 2 ^ 32 = omega arith in
    joined (word_bytes (n / 2 ^ 96)) (word_bytes (bit_and (n / 2 ^ 64) 0xffffffff)) (word_bytes (bit_and (n / 2 ^ 32) 0xffffffff)) (word_bytes (bit_and n 0xffffffff))
    (word_bytes (n / 2 ^ 64 / 2 ^ 32)) (word_bytes (n / 2 ^ 64 % 2 ^ 32)) (word_bytes (n % 2 ^ 64 / 2 ^ 32)) (word_bytes (n % 2 ^ 64 % 2 ^ 32))
    (ap word_bytes a) (ap word_bytes (and_mask (n / 2 ^ 64) 32)) (ap word_bytes (and_mask (n / 2 ^ 32) 32 ∙ c)) (ap word_bytes (and_mask n 32 ∙ d))
    ∙ two_lists _ _ _ _ (words_of_half (n / 2 ^ 64)) (words_of_half (n % 2 ^ 64)) ∙ halves n where
      joined : (p q r s p' q' r' s' : List ℕ) → p ≡ p' → q ≡ q' → r ≡ r' → s ≡ s' → p ++ (q ++ (r ++ s)) ≡ (p' ++ q') ++ (r' ++ s')
      joined p q r s p' q' r' s' ep eq er es = rw (ep, eq, er, es) (sym (append_assoc p' q' (r' ++ s')))

eight_fit : (a b c d e f g h : ℕ) → a < 256 → b < 256 → c < 256 → d < 256 → e < 256 → f < 256 → g < 256 → h < 256 → (k : ℕ) → get_or (a ∷ b ∷ c ∷ d ∷ e ∷ f ∷ g ∷ h ∷ []) k 0 < 256
eight_fit a b c d e f g h fa fb fc fd fe ff fg fh zero = fa
eight_fit a b c d e f g h fa fb fc fd fe ff fg fh (suc zero) = fb
eight_fit a b c d e f g h fa fb fc fd fe ff fg fh (suc (suc zero)) = fc
eight_fit a b c d e f g h fa fb fc fd fe ff fg fh (suc (suc (suc zero))) = fd
eight_fit a b c d e f g h fa fb fc fd fe ff fg fh (suc (suc (suc (suc zero)))) = fe
eight_fit a b c d e f g h fa fb fc fd fe ff fg fh (suc (suc (suc (suc (suc zero))))) = ff
eight_fit a b c d e f g h fa fb fc fd fe ff fg fh (suc (suc (suc (suc (suc (suc zero)))))) = fg
eight_fit a b c d e f g h fa fb fc fd fe ff fg fh (suc (suc (suc (suc (suc (suc (suc zero))))))) = fh
eight_fit a b c d e f g h fa fb fc fd fe ff fg fh (suc (suc (suc (suc (suc (suc (suc (suc k)))))))) = omega arith

half_back : (a b c d e f g h : ℕ) → a < 256 → b < 256 → c < 256 → d < 256 → e < 256 → f < 256 → g < 256 → h < 256 →
    to_be_bytes w64 (from_be_bytes w64 (a ∷ b ∷ c ∷ d ∷ e ∷ f ∷ g ∷ h ∷ [])) ≡ a ∷ b ∷ c ∷ d ∷ e ∷ f ∷ g ∷ h ∷ []
half_back a b c d e f g h fa fb fc fd fe ff fg fh = be_bytes_8 (a ∷ b ∷ c ∷ d ∷ e ∷ f ∷ g ∷ h ∷ []) _ refl (eight_fit a b c d e f g h fa fb fc fd fe ff fg fh) refl

number_of_halves : (a b c d e f g h i j k l m n o p : ℕ)
    → from_be_bytes w128 (a ∷ b ∷ c ∷ d ∷ e ∷ f ∷ g ∷ h ∷ i ∷ j ∷ k ∷ l ∷ m ∷ n ∷ o ∷ p ∷ [])
    ≡ from_be_bytes w64 (a ∷ b ∷ c ∷ d ∷ e ∷ f ∷ g ∷ h ∷ []) * 2 ^ 64 + from_be_bytes w64 (i ∷ j ∷ k ∷ l ∷ m ∷ n ∷ o ∷ p ∷ [])
number_of_halves a b c d e f g h i j k l m n o p = omega arith

half_below : (a b c d e f g h : ℕ) → a < 256 → b < 256 → c < 256 → d < 256 → e < 256 → f < 256 → g < 256 → h < 256 → from_be_bytes w64 (a ∷ b ∷ c ∷ d ∷ e ∷ f ∷ g ∷ h ∷ []) < 2 ^ 64
half_below a b c d e f g h fa fb fc fd fe ff fg fh = omega arith

-- the bytes of the number of a block are the block
pub be_bytes_16 : (b : List ℕ) (n : ℕ) → length b ≡ 16 → ((i : ℕ) → get_or b i 0 < 256) → n ≡ from_be_bytes w128 b → to_be_bytes w128 n ≡ b
be_bytes_16 b n long fits e =
    let at : ℕ → ℕ = λ i. get_or b i 0 in
    let high : ℕ = from_be_bytes w64 (at 0 ∷ at 1 ∷ at 2 ∷ at 3 ∷ at 4 ∷ at 5 ∷ at 6 ∷ at 7 ∷ []) in
    let low : ℕ = from_be_bytes w64 (at 8 ∷ at 9 ∷ at 10 ∷ at 11 ∷ at 12 ∷ at 13 ∷ at 14 ∷ at 15 ∷ []) in
    let whole : n ≡ high * 2 ^ 64 + low =
    e ∙ number_of_halves (at 0) (at 1) (at 2) (at 3) (at 4) (at 5) (at 6) (at 7) (at 8) (at 9) (at 10) (at 11) (at 12) (at 13) (at 14) (at 15) in
    let small : low < 2 ^ 64 = half_below (at 8) (at 9) (at 10) (at 11) (at 12) (at 13) (at 14) (at 15) (fits 8) (fits 9) (fits 10) (fits 11) (fits 12) (fits 13) (fits 14) (fits 15) in
    let h : n / 2 ^ 64 ≡ high = ap (λ (z : ℕ). z / 2 ^ 64) whole ∙ shr_high high 64 low small in
    let l : n % 2 ^ 64 ≡ low = ap (λ (z : ℕ). z % 2 ^ 64) whole ∙ mod_low high 64 low small in
    sym (halves n)
    ∙ two_lists _ _ _ _
    (ap (to_be_bytes w64) h ∙ half_back (at 0) (at 1) (at 2) (at 3) (at 4) (at 5) (at 6) (at 7) (fits 0) (fits 1) (fits 2) (fits 3) (fits 4) (fits 5) (fits 6) (fits 7))
    (ap (to_be_bytes w64) l ∙ half_back (at 8) (at 9) (at 10) (at 11) (at 12) (at 13) (at 14) (at 15) (fits 8) (fits 9) (fits 10) (fits 11) (fits 12) (fits 13) (fits 14) (fits 15))
    ∙ sym (block_written b long)
