-- A message that grows: its text, and what a stream keeps of it.
use Rattle.std.proofs.Common.{◌≡◌, ◌≢◌, ℕ, zero, suc, ◌+◌, ◌*◌, ◌/◌, ◌%◌, ◌^◌, ◌<◌, ◌≤◌, List, [], ◌++◌, length, take, drop, refl, sym, ap, ◌∙◌, arith, append_assoc, append-nil, zero-add}
use Rattle.std.proofs.lemmas.List.{take-append-le, drop-append-le, drop-drop, length-append, length-drop}
use Rattle.aes_core.specs.Cipher.{cipher, inv_cipher}
use Rattle.aes_core.specs.Key.{key_bytes}
use Rattle.aes_modes.proofs.CounterLemmas.{ctr_from-append}
use Rattle.aes_modes.specs.Conversion.{Conversion, text_of, with_more, begun}
use Rattle.aes_modes.specs.Modes.{block_at, xor_bytes, join_blocks, cbc_block, block_before, number_of, ctr_from, mode_text}
use Rattle.aes_modes.specs.Stream.{step_text, step_vector, vector_after, blocks_text, Keeps, Represents}
use Rattle.aes_modes.specs.declared.modes.Mode.{Mode}
use Rattle.aes_modes.specs.declared.modes.Mode.TheVariants.{Ecb, Cbc, Ctr}
use Rattle.aes_modes.specs.declared.modes.Way.{Way}
use Rattle.aes_modes.specs.declared.modes.Way.TheVariants.{Encrypt, Decrypt}
use Rattle.aes_modes.specs.declared.stream.Stream.{Stream}

-- ---- the text by blocks
cbc_block_is : (key iv m : List ℕ) (n : ℕ) → cbc_block key iv m n ≡ step_text Cbc Encrypt key (vector_after Cbc Encrypt key iv m n) (block_at m n)
unfolding cbc_block step_text step_vector vector_after
cbc_block_is key iv m zero = refl
cbc_block_is key iv m (suc n) = ap (λ (v : List ℕ). cipher key (xor_bytes v (block_at m (suc n)))) (cbc_block_is key iv m n)

block_before_is : (key iv m : List ℕ) (n : ℕ) → block_before iv m n ≡ vector_after Cbc Decrypt key iv m n
unfolding block_before step_vector vector_after
block_before_is key iv m zero = refl
block_before_is key iv m (suc n) = refl

joined_is : (mode : Mode) (way : Way) (key iv m : List ℕ) (block : ℕ → List ℕ)
    → ((n : ℕ) → block n ≡ step_text mode way key (vector_after mode way key iv m n) (block_at m n)) → (n : ℕ) → join_blocks block n ≡ blocks_text mode way key iv m n
unfolding join_blocks blocks_text
joined_is mode way key iv m block e zero = refl
joined_is mode way key iv m block e (suc n) = rw (joined_is mode way key iv m block e n, e n) refl

-- what a mode of whole blocks makes of a message
mode_text_is : (mode : Mode) (way : Way) (key iv m : List ℕ) → mode ≢ Ctr → mode_text mode way key iv m ≡ blocks_text mode way key iv m (length m / 16)
unfolding mode_text step_text
mode_text_is Ecb Encrypt key iv m h = joined_is Ecb Encrypt key iv m (λ n. cipher key (block_at m n)) (λ n. refl) (length m / 16)
mode_text_is Ecb Decrypt key iv m h = joined_is Ecb Decrypt key iv m (λ n. inv_cipher key (block_at m n)) (λ n. refl) (length m / 16)
mode_text_is Cbc Encrypt key iv m h = joined_is Cbc Encrypt key iv m (cbc_block key iv m) (cbc_block_is key iv m) (length m / 16)
mode_text_is Cbc Decrypt key iv m h =
    joined_is Cbc Decrypt key iv m (λ n. xor_bytes (inv_cipher key (block_at m n)) (block_before iv m n))
    (λ n. ap (xor_bytes (inv_cipher key (block_at m n))) (block_before_is key iv m n)) (length m / 16)
mode_text_is Ctr way key iv m h = absurd (h refl)

-- ---- more blocks
pub block_at-append : (m x : List ℕ) (n : ℕ) → 16 * n + 16 ≤ length m → block_at (m ++ x) n ≡ block_at m n
block_at-append m x n h =
    ap (take 16) (drop-append-le (16 * n) m x (omega arith)) ∙ take-append-le 16 (drop (16 * n) m) x (omega (arith, length-drop (16 * n) m))

vector_after-append : (mode : Mode) (way : Way) (key v m x : List ℕ) (n : ℕ) → 16 * n ≤ length m → vector_after mode way key v (m ++ x) n ≡ vector_after mode way key v m n
unfolding vector_after
vector_after-append mode way key v m x zero h = refl
vector_after-append mode way key v m x (suc n) h =
    rw (vector_after-append mode way key v m x n (omega arith), block_at-append m x n (omega arith)) refl

blocks_text-append : (mode : Mode) (way : Way) (key v m x : List ℕ) (n : ℕ) → 16 * n ≤ length m → blocks_text mode way key v (m ++ x) n ≡ blocks_text mode way key v m n
unfolding blocks_text
blocks_text-append mode way key v m x zero h = refl
blocks_text-append mode way key v m x (suc n) h =
    rw (blocks_text-append mode way key v m x n (omega arith), vector_after-append mode way key v m x n (omega arith), block_at-append m x n (omega arith)) refl

block_at-drop : (d : List ℕ) (a n : ℕ) → block_at d (a + n) ≡ block_at (drop (16 * a) d) n
block_at-drop d a n =
    let e : 16 * a + 16 * n ≡ 16 * (a + n) = omega arith in
    ap (take 16) (ap (λ (k : ℕ). drop k d) (sym e) ∙ sym (drop-drop (16 * n) (16 * a) d))

vector_after-add : (mode : Mode) (way : Way) (key v d : List ℕ) (a n : ℕ)
    → vector_after mode way key v d (a + n) ≡ vector_after mode way key (vector_after mode way key v d a) (drop (16 * a) d) n
unfolding vector_after
vector_after-add mode way key v d a zero = let e : a + 0 ≡ a = omega arith in ap (vector_after mode way key v d) e
vector_after-add mode way key v d a (suc n) =
    let e : a + suc n ≡ suc (a + n) = omega arith in
    ap (vector_after mode way key v d) e ∙ rw (vector_after-add mode way key v d a n, block_at-drop d a n) refl

blocks_text-add : (mode : Mode) (way : Way) (key v d : List ℕ) (a n : ℕ)
    → blocks_text mode way key v d (a + n) ≡ blocks_text mode way key v d a ++ blocks_text mode way key (vector_after mode way key v d a) (drop (16 * a) d) n
unfolding blocks_text
blocks_text-add mode way key v d a zero = let e : a + 0 ≡ a = omega arith in ap (blocks_text mode way key v d) e ∙ sym (append-nil (blocks_text mode way key v d a))
blocks_text-add mode way key v d a (suc n) =
    let e : a + suc n ≡ suc (a + n) = omega arith in
    ap (blocks_text mode way key v d) e
    ∙ rw (blocks_text-add mode way key v d a n, vector_after-add mode way key v d a n, block_at-drop d a n)
    (append_assoc (blocks_text mode way key v d a) (blocks_text mode way key (vector_after mode way key v d a) (drop (16 * a) d) n)
    (step_text mode way key (vector_after mode way key (vector_after mode way key v d a) (drop (16 * a) d) n) (block_at (drop (16 * a) d) n)))

-- ---- what a stream keeps
keeps_blocks : (mode : Mode) (s : Stream) (c : Conversion) → mode ≢ Ctr → Keeps mode s c
    → (take s.count s.held ≡ drop (16 * (length c.message / 16)) c.message)
    × (s.vector ≡ vector_after c.mode c.way c.key c.iv c.message (length c.message / 16))
keeps_blocks Ecb s c h k = k
keeps_blocks Cbc s c h k = k
keeps_blocks Ctr s c h k = absurd (h refl)

keeps_from_blocks : (mode : Mode) (s : Stream) (c : Conversion) → mode ≢ Ctr
    → (take s.count s.held ≡ drop (16 * (length c.message / 16)) c.message)
    × (s.vector ≡ vector_after c.mode c.way c.key c.iv c.message (length c.message / 16)) → Keeps mode s c
keeps_from_blocks Ecb s c h k = k
keeps_from_blocks Cbc s c h k = k
keeps_from_blocks Ctr s c h k = absurd (h refl)

keeps_bytes : (mode : Mode) (s : Stream) (c : Conversion) → mode ≡ Ctr → Keeps mode s c → s.counter ≡ (number_of c.iv + length c.message / 16) % 2 ^ 128
keeps_bytes mode s c e k = rw e at k

keeps_from_bytes : (mode : Mode) (s : Stream) (c : Conversion) → mode ≡ Ctr → s.counter ≡ (number_of c.iv + length c.message / 16) % 2 ^ 128 → Keeps mode s c
keeps_from_bytes mode s c e k = rw e k

-- what is held, and more bytes behind it
tail_of : (s : Stream) (c : Conversion) (x : List ℕ) → c.mode ≢ Ctr → Represents s c
    → take s.count s.held ++ x ≡ drop (16 * (length c.message / 16)) (c.message ++ x)
tail_of s c x h r =
    rw (keeps_blocks c.mode s c h r.keeps).0 (sym (drop-append-le (16 * (length c.message / 16)) c.message x (omega arith)))

block_count : (s : Stream) (c : Conversion) (x : List ℕ) → Represents s c → length (c.message ++ x) / 16 ≡ length c.message / 16 + (s.count + length x) / 16
block_count s c x r = omega (arith, length-append c.message x, r.count_is)

not_ctr : (s : Stream) (c : Conversion) → Represents s c → s.mode ≢ Ctr → c.mode ≢ Ctr
not_ctr s c r h = rw r.mode_is at h

vector_so_far : (s : Stream) (c : Conversion) (x : List ℕ) → c.mode ≢ Ctr → Represents s c
    → vector_after c.mode c.way c.key c.iv (c.message ++ x) (length c.message / 16) ≡ s.vector
vector_so_far s c x h r =
    vector_after-append c.mode c.way c.key c.iv c.message x (length c.message / 16) (omega arith) ∙ sym (keeps_blocks c.mode s c h r.keeps).1

-- the text of more bytes, by the blocks that they fill
pub blocks_text_more : (s : Stream) (c : Conversion) (x out : List ℕ) → s.mode ≢ Ctr → Represents s c
    → out ≡ blocks_text s.mode s.way (key_bytes s.key) s.vector (take s.count s.held ++ x) ((s.count + length x) / 16)
    → text_of (with_more c x) ≡ text_of c ++ out
blocks_text_more s c x out hs r e =
    let h : c.mode ≢ Ctr = not_ctr s c r hs in
    let m : List ℕ = c.message in
    let q : ℕ = length m / 16 in
    let b : ℕ = (s.count + length x) / 16 in
    mode_text_is c.mode c.way c.key c.iv (m ++ x) h
    ∙ ap (blocks_text c.mode c.way c.key c.iv (m ++ x)) (block_count s c x r)
    ∙ blocks_text-add c.mode c.way c.key c.iv (m ++ x) q b
    ∙ rw (blocks_text-append c.mode c.way c.key c.iv m x q (omega arith), vector_so_far s c x h r, ← tail_of s c x h r, ← mode_text_is c.mode c.way c.key c.iv m h)
    (ap (λ (z : List ℕ). text_of c ++ z) (rw (← r.mode_is, ← r.way_is, ← r.key_is) (sym e)))

-- the stream after them
pub represents_blocks : (s t : Stream) (c : Conversion) (x : List ℕ) → s.mode ≢ Ctr → Represents s c
    → t.key ≡ s.key → t.mode ≡ s.mode → t.way ≡ s.way → t.iv ≡ s.iv → t.count ≡ (s.count + length x) % 16
    → take t.count t.held ≡ drop (16 * ((s.count + length x) / 16)) (take s.count s.held ++ x)
    → t.vector ≡ vector_after s.mode s.way (key_bytes s.key) s.vector (take s.count s.held ++ x) ((s.count + length x) / 16)
    → Represents t (with_more c x)
represents_blocks s t c x hs r ek em ew ei ec eh ev =
    let h : c.mode ≢ Ctr = not_ctr s c r hs in
    let m : List ℕ = c.message in
    let q : ℕ = length m / 16 in
    let b : ℕ = (s.count + length x) / 16 in
    let at : 16 * q + 16 * b ≡ 16 * (length (m ++ x) / 16) = omega (arith, block_count s c x r) in
    let held : take t.count t.held ≡ drop (16 * (length (m ++ x) / 16)) (m ++ x) =
    eh ∙ ap (drop (16 * b)) (tail_of s c x h r) ∙ drop-drop (16 * b) (16 * q) (m ++ x) ∙ ap (λ (k : ℕ). drop k (m ++ x)) at in
    let vector : t.vector ≡ vector_after c.mode c.way c.key c.iv (m ++ x) (length (m ++ x) / 16) =
    ev ∙ rw (block_count s c x r, vector_after-add c.mode c.way c.key c.iv (m ++ x) q b, vector_so_far s c x h r, ← tail_of s c x h r, r.mode_is, r.way_is, r.key_is) refl in
    record {
      key_is = ap key_bytes ek ∙ r.key_is;
      mode_is = em ∙ r.mode_is;
      way_is = ew ∙ r.way_is;
      iv_is = ei ∙ r.iv_is;
      count_is = ec ∙ omega (arith, length-append m x, r.count_is);
      keeps = keeps_from_blocks c.mode t (with_more c x) h (held, vector);
    }

-- ---- counter mode
ctr_text : (mode : Mode) (way : Way) (key iv m : List ℕ) → mode ≡ Ctr → mode_text mode way key iv m ≡ ctr_from key iv 0 m
unfolding mode_text
ctr_text mode way key iv m e = rw e refl

pub bytes_text_more : (s : Stream) (c : Conversion) (x out : List ℕ) → s.mode ≡ Ctr → Represents s c
    → ((j : ℕ) → s.counter ≡ (number_of s.iv + j) % 2 ^ 128 → out ≡ ctr_from (key_bytes s.key) s.iv (16 * j + s.count) x)
    → text_of (with_more c x) ≡ text_of c ++ out
bytes_text_more s c x out es r e =
    let em : c.mode ≡ Ctr = sym r.mode_is ∙ es in
    let m : List ℕ = c.message in
    let place : 16 * (length m / 16) + s.count ≡ length m = omega (arith, r.count_is) in
    let counter : s.counter ≡ (number_of s.iv + length m / 16) % 2 ^ 128 = rw r.iv_is (keeps_bytes c.mode s c em r.keeps) in
    let written : out ≡ ctr_from c.key c.iv (length m) x = e (length m / 16) counter ∙ rw (place, r.key_is, r.iv_is) refl in
    rw (ctr_text c.mode c.way c.key c.iv (m ++ x) em, ctr_text c.mode c.way c.key c.iv m em, written)
    (ctr_from-append c.key c.iv 0 m x ∙ ap (λ (k : ℕ). ctr_from c.key c.iv 0 m ++ ctr_from c.key c.iv k x) (zero-add (length m)))

pub represents_bytes : (s t : Stream) (c : Conversion) (x : List ℕ) → s.mode ≡ Ctr → Represents s c
    → t.key ≡ s.key → t.mode ≡ s.mode → t.way ≡ s.way → t.iv ≡ s.iv → t.count ≡ (s.count + length x) % 16
    → t.counter ≡ (s.counter + (s.count + length x) / 16) % 2 ^ 128
    → Represents t (with_more c x)
represents_bytes s t c x es r ek em ew ei ec et =
    let m : List ℕ = c.message in
    let mode : c.mode ≡ Ctr = sym r.mode_is ∙ es in
    let before : s.counter ≡ (number_of c.iv + length m / 16) % 2 ^ 128 = keeps_bytes c.mode s c mode r.keeps in
    let count : length (m ++ x) / 16 ≡ length m / 16 + (s.count + length x) / 16 = block_count s c x r in
    let after : t.counter ≡ (number_of c.iv + length (m ++ x) / 16) % 2 ^ 128 = omega arith in
    record {
      key_is = ap key_bytes ek ∙ r.key_is;
      mode_is = em ∙ r.mode_is;
      way_is = ew ∙ r.way_is;
      iv_is = ei ∙ r.iv_is;
      count_is = ec ∙ omega (arith, length-append m x, r.count_is);
      keeps = keeps_from_bytes c.mode t (with_more c x) mode after;
    }

-- ---- the start
keeps_begun : (mode : Mode) (s : Stream) (c : Conversion) → c.message ≡ [] → s.count ≡ 0 → s.vector ≡ c.iv → s.counter ≡ number_of c.iv → s.counter < 2 ^ 128 → Keeps mode s c
unfolding vector_after
keeps_begun Ecb s c em ec ev en fits = (rw (em, ec) refl, rw (em, ev) refl)
keeps_begun Cbc s c em ec ev en fits = (rw (em, ec) refl, rw (em, ev) refl)
keeps_begun Ctr s c em ec ev en fits =
    let none : length c.message ≡ 0 = ap length em in omega arith

pub represents_begun : (s : Stream) (key : List ℕ) (mode : Mode) (way : Way) (iv : List ℕ) → key_bytes s.key ≡ key → s.mode ≡ mode → s.way ≡ way → s.iv ≡ iv
    → s.count ≡ 0 → s.vector ≡ iv → s.counter ≡ number_of iv → s.counter < 2 ^ 128 → Represents s (begun key mode way iv)
represents_begun s key mode way iv ek em ew ei ec ev en fits =
    record {
      key_is = ek;
      mode_is = em;
      way_is = ew;
      iv_is = ei;
      count_is = ec;
      keeps = keeps_begun mode s (begun key mode way iv) refl ec ev en fits;
    }
