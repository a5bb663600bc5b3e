-- Decryption undoes encryption.
use Rattle.std.proofs.Common.{◌≡◌, inl, inr, ℕ, zero, suc, ◌+◌, ◌*◌, ◌/◌, ◌%◌, ◌<◌, ◌≤◌, Bool, true, false, not, eqb, List, []}
use Rattle.std.proofs.Common.{◌∷◌, bit_xor, length, take, drop, get_or, All, refl, sym, ap, ◌∙◌, arith}
use Rattle.std.proofs.Math.Seq.{take-add}
use Rattle.std.proofs.lemmas.Bool.{cases_lt, eqb-true}
use Rattle.std.proofs.lemmas.List.{drop_at, take_all, get_or_past, get_or-take, get_or-drop, length-append, length-drop, length-take-le}
use Rattle.std.proofs.lemmas.List.Elements.{All-get_or}
use Rattle.std.proofs.lemmas.Nat.{xor_lt, xor_comm}
use lib.Bits.{xor_assoc, xor_self, xor_zero_r}
use Rattle.aes_core.specs.Cipher.{cipher, inv_cipher}
use Rattle.aes_core.proofs.LawLemmas.{IsState, IsState-cipher, inv_cipher-cipher}
use Rattle.aes_modes.proofs.CounterLemmas.{length-cipher}
use Rattle.aes_modes.proofs.TextLemmas.{block_at-append}
use Rattle.aes_modes.specs.Conversion.{ends_within}
use Rattle.aes_modes.specs.Modes.{block_at, xor_bytes, join_blocks, cbc_block, block_before, number_of, counter_block, ctr_from, mode_text}
use Rattle.aes_modes.specs.declared.modes.Mode.{Mode}
use Rattle.aes_modes.specs.declared.modes.Mode.TheVariants.{Ecb, Cbc, Ctr}
use Rattle.aes_modes.specs.declared.modes.Way.TheVariants.{Encrypt, Decrypt}

-- ---- blocks that are joined
length-joined : (f : ℕ → List ℕ) → ((n : ℕ) → length (f n) ≡ 16) → (k : ℕ) → length (join_blocks f k) ≡ 16 * k
unfolding join_blocks
length-joined f h zero = refl
length-joined f h (suc k) = omega (arith, length-append (join_blocks f k) (f k), length-joined f h k, h k)

block_at-joined : (f : ℕ → List ℕ) → ((n : ℕ) → length (f n) ≡ 16) → (k n : ℕ) → n < k → block_at (join_blocks f k) n ≡ f n
unfolding join_blocks
block_at-joined f h zero n lt = absurd (omega arith)
block_at-joined f h (suc k) n lt =
    let long : length (join_blocks f k) ≡ 16 * k = length-joined f h k in
    elim (cases_lt n k) [
      | inl below ↦ block_at-append (join_blocks f k) (f k) n (omega arith) ∙ block_at-joined f h k n below
      | inr above ↦
          let e : n ≡ k = omega arith in
          rw e (ap (take 16) (drop_at (join_blocks f k) (f k) (16 * k) long) ∙ take_all 16 (f k) (omega (arith, h k)))
    ]

joined-same : (f g : ℕ → List ℕ) (k : ℕ) → ((n : ℕ) → n < k → f n ≡ g n) → join_blocks f k ≡ join_blocks g k
unfolding join_blocks
joined-same f g zero e = refl
joined-same f g (suc k) e = rw (joined-same f g k (λ n h. e n (omega arith)), e k (omega arith)) refl

joined-block_at : (m : List ℕ) (k : ℕ) → join_blocks (block_at m) k ≡ take (16 * k) m
unfolding join_blocks
joined-block_at m zero = refl
joined-block_at m (suc k) =
    let at : 16 * k + 16 ≡ 16 * suc k = omega arith in
    rw (joined-block_at m k) (sym (take-add (16 * k) 16 m) ∙ ap (λ (n : ℕ). take n m) at)

-- ---- sums
xor_twice : (a b : ℕ) → bit_xor (bit_xor a b) a ≡ b
xor_twice a b = ap (λ (z : ℕ). bit_xor z a) (xor_comm a b) ∙ xor_assoc b a a ∙ ap (bit_xor b) (xor_self a) ∙ xor_zero_r b

xor_bytes_twice : (xs ys : List ℕ) → length ys ≡ length xs → xor_bytes (xor_bytes xs ys) xs ≡ ys
unfolding xor_bytes
xor_bytes_twice [] [] h = refl
xor_bytes_twice [] (b ∷ ys) h = absurd (omega arith)
xor_bytes_twice (a ∷ xs) [] h = absurd (omega arith)
xor_bytes_twice (a ∷ xs) (b ∷ ys) h = rw (xor_twice a b, xor_bytes_twice xs ys (omega arith)) refl

length-xor_bytes : (xs ys : List ℕ) → length ys ≡ length xs → length (xor_bytes xs ys) ≡ length xs
unfolding xor_bytes
length-xor_bytes [] ys h = refl
length-xor_bytes (a ∷ xs) [] h = absurd (omega arith)
length-xor_bytes (a ∷ xs) (b ∷ ys) h = let e : length (xor_bytes xs ys) ≡ length xs = length-xor_bytes xs ys (omega arith) in omega arith

xor_bytes_below : (xs ys : List ℕ) → ((i : ℕ) → get_or xs i 0 < 256) → ((i : ℕ) → get_or ys i 0 < 256) → (i : ℕ) → get_or (xor_bytes xs ys) i 0 < 256
unfolding xor_bytes
xor_bytes_below [] ys ha hb i = omega arith
xor_bytes_below (a ∷ xs) [] ha hb i = omega arith
xor_bytes_below (a ∷ xs) (b ∷ ys) ha hb zero = xor_lt 8 a b (ha 0) (hb 0)
xor_bytes_below (a ∷ xs) (b ∷ ys) ha hb (suc i) = xor_bytes_below xs ys (λ k. ha (suc k)) (λ k. hb (suc k)) i

-- ---- bytes and states
bytes_of : (m : List ℕ) → All (λ x. x < 256) m → (i : ℕ) → get_or m i 0 < 256
bytes_of m h i = elim (cases_lt i (length m)) [
  | inl lt ↦ All-get_or (λ x. x < 256) m i 0 lt h
  | inr ge ↦ rw (get_or_past m i 0 ge) (omega arith)
]

block_state : (m : List ℕ) (n : ℕ) → ((i : ℕ) → get_or m i 0 < 256) → 16 * n + 16 ≤ length m → IsState (block_at m n)
block_state m n h fits = record {
  long = length-take-le 16 (drop (16 * n) m) (omega (arith, length-drop (16 * n) m));
  bytes = λ i. elim (cases_lt i 16) [
    | inl lt ↦ rw (get_or-take 16 (drop (16 * n) m) i 0 lt, get_or-drop (16 * n) m i 0) (h (16 * n + i))
    | inr ge ↦ rw (get_or_past (block_at m n) i 0 (omega (arith, length-take-le 16 (drop (16 * n) m) (omega (arith, length-drop (16 * n) m))))) (omega arith)
  ];
}

xor_state : (a b : List ℕ) → IsState a → IsState b → IsState (xor_bytes a b)
xor_state a b ha hb = record { long = length-xor_bytes a b (omega (arith, ha.long, hb.long)) ∙ ha.long; bytes = xor_bytes_below a b ha.bytes hb.bytes }

-- a length that ends with a block
whole_blocks : (n : ℕ) → not (eqb (n % 16) 0) ≡ false → 16 * (n / 16) ≡ n
whole_blocks n h =
    let e : n % 16 ≡ 0 = eqb-true (n % 16) 0 (not_false (eqb (n % 16) 0) h) in omega arith where
      not_false : (b : Bool) → not b ≡ false → b ≡ true
      not_false true e = refl
      not_false false e = absurd (differ e) where
        differ : true ≡ false → ⊥
        differ e = cc

-- ---- the laws, mode by mode
ecb_undone : (key m : List ℕ) → ((i : ℕ) → get_or m i 0 < 256) → 16 * (length m / 16) ≡ length m
    → join_blocks (λ n. inv_cipher key (block_at (join_blocks (λ k. cipher key (block_at m k)) (length m / 16)) n)) (length m / 16) ≡ m
ecb_undone key m bytes e =
    let text : List ℕ = join_blocks (λ k. cipher key (block_at m k)) (length m / 16) in
    joined-same (λ n. inv_cipher key (block_at text n)) (block_at m) (length m / 16)
    (λ n h. ap (inv_cipher key) (block_at-joined (λ k. cipher key (block_at m k)) (λ k. length-cipher key (block_at m k)) (length m / 16) n h)
    ∙ inv_cipher-cipher key (block_at m n) (block_state m n bytes (omega arith)))
    ∙ joined-block_at m (length m / 16) ∙ take_all (16 * (length m / 16)) m (omega arith)

-- the block that CBC adds to block n
added : List ℕ → List ℕ → List ℕ → ℕ → List ℕ
added key iv m zero = iv
added key iv m (suc n) = cbc_block key iv m n

cbc_block_from : (key iv m : List ℕ) (n : ℕ) → cbc_block key iv m n ≡ cipher key (xor_bytes (added key iv m n) (block_at m n))
unfolding cbc_block added
cbc_block_from key iv m zero = refl
cbc_block_from key iv m (suc n) = refl

length-cbc_block : (key iv m : List ℕ) (n : ℕ) → length (cbc_block key iv m n) ≡ 16
length-cbc_block key iv m n = ap length (cbc_block_from key iv m n) ∙ length-cipher key (xor_bytes (added key iv m n) (block_at m n))

cbc_state : (key iv m : List ℕ) → IsState iv → ((i : ℕ) → get_or m i 0 < 256) → (n : ℕ) → 16 * n ≤ length m → IsState (added key iv m n)
unfolding added
cbc_state key iv m hv bytes zero h = hv
cbc_state key iv m hv bytes (suc n) h =
    let before : IsState (added key iv m n) = cbc_state key iv m hv bytes n (omega arith) in
    rw (cbc_block_from key iv m n)
    (IsState-cipher key (xor_bytes (added key iv m n) (block_at m n)) (xor_state (added key iv m n) (block_at m n) before (block_state m n bytes (omega arith))))

before_is : (key iv m : List ℕ) (k n : ℕ) → n < k → block_before iv (join_blocks (cbc_block key iv m) k) n ≡ added key iv m n
unfolding block_before added
before_is key iv m k zero h = refl
before_is key iv m k (suc n) h = block_at-joined (cbc_block key iv m) (length-cbc_block key iv m) k n (omega arith)

cbc_undone : (key iv m : List ℕ) → IsState iv → ((i : ℕ) → get_or m i 0 < 256) → 16 * (length m / 16) ≡ length m
    → join_blocks (λ n. xor_bytes (inv_cipher key (block_at (join_blocks (cbc_block key iv m) (length m / 16)) n)) (block_before iv (join_blocks (cbc_block key iv m) (length m / 16)) n))
    (length m / 16) ≡ m
cbc_undone key iv m hv bytes e =
    let k : ℕ = length m / 16 in
    let text : List ℕ = join_blocks (cbc_block key iv m) k in
    joined-same (λ n. xor_bytes (inv_cipher key (block_at text n)) (block_before iv text n)) (block_at m) k
    (λ n h.
    let before : IsState (added key iv m n) = cbc_state key iv m hv bytes n (omega arith) in
    let block : IsState (block_at m n) = block_state m n bytes (omega arith) in
    let sum : List ℕ = xor_bytes (added key iv m n) (block_at m n) in
    let back : inv_cipher key (block_at text n) ≡ sum =
    ap (inv_cipher key) (block_at-joined (cbc_block key iv m) (length-cbc_block key iv m) k n h ∙ cbc_block_from key iv m n)
    ∙ inv_cipher-cipher key sum (xor_state (added key iv m n) (block_at m n) before block) in
    rw (back, before_is key iv m k n h) (xor_bytes_twice (added key iv m n) (block_at m n) (omega (arith, before.long, block.long))))
    ∙ joined-block_at m k ∙ take_all (16 * k) m (omega arith)

ctr_undone : (key iv : List ℕ) (i : ℕ) (m : List ℕ) → ctr_from key iv i (ctr_from key iv i m) ≡ m
unfolding ctr_from
ctr_undone key iv i [] = refl
ctr_undone key iv i (x ∷ xs) = rw (ctr_undone key iv (suc i) xs) (ap (λ (z : ℕ). z ∷ xs) (xor_back x (get_or (cipher key (counter_block (number_of iv + i / 16))) (i % 16) 0))) where
  xor_back : (a b : ℕ) → bit_xor (bit_xor a b) b ≡ a
  xor_back a b = xor_assoc a b b ∙ ap (bit_xor a) (xor_self b) ∙ xor_zero_r a

pub undone : (mode : Mode) (key iv m : List ℕ) → length iv ≡ 16 → All (λ x. x < 256) iv → All (λ x. x < 256) m → ends_within mode (length m) ≡ false
    → mode_text mode Decrypt key iv (mode_text mode Encrypt key iv m) ≡ m
unfolding mode_text
undone Ecb key iv m long hv hm e =
    let k : ℕ = length m / 16 in
    let count : length (join_blocks (λ n. cipher key (block_at m n)) k) / 16 ≡ k = omega (arith, length-joined (λ n. cipher key (block_at m n)) (λ n. length-cipher key (block_at m n)) k) in
    rw count (ecb_undone key m (bytes_of m hm) (whole_blocks (length m) e))
undone Cbc key iv m long hv hm e =
    let k : ℕ = length m / 16 in
    let count : length (join_blocks (cbc_block key iv m) k) / 16 ≡ k = omega (arith, length-joined (cbc_block key iv m) (length-cbc_block key iv m) k) in
    rw count (cbc_undone key iv m (record { long = long; bytes = bytes_of iv hv }) (bytes_of m hm) (whole_blocks (length m) e))
undone Ctr key iv m long hv hm e = ctr_undone key iv 0 m
