-- A message on its way through GCM: what GHASH has taken, and its text.
use Rattle.std.proofs.Common.{◌≡◌, ℕ, ◌+◌, ◌-◌, ◌*◌, ◌%◌, ◌^◌, ◌≤◌, Bool, true, false, cond, eqb, ltb, List, [], ◌∷◌, ◌++◌, length, replicate, refl, sym, ap, ◌∙◌, arith, append_assoc, append-nil}
use Rattle.std.proofs.lemmas.Bool.{false≢true}
use Rattle.std.proofs.lemmas.Bool.Decides.{nat_tests}
use Rattle.std.proofs.lemmas.List.{length-append, length-replicate}
use Rattle.std.specs.Prelude.{◌↔◌, ◌&&◌, IsTrue, Ok, Err}
use Rattle.std.specs.Int.{w64, w128, to_be_bytes}
use Rattle.aes_core.specs.Cipher.{cipher}
use Rattle.aes_modes.specs.Modes.{xor_bytes, counter_block}
use Rattle.ae_modes.proofs.TextLemmas.{text_from-append, length-text_from}
use Rattle.ae_modes.specs.Gcm.{hash_subkey, first_counter, text_from, gcm_text, hash_input, bit_length, whole_tag}
use Rattle.ae_modes.specs.Ghash.{ghash, whole_blocks}
use Rattle.ae_modes.specs.Message.{Message, with_more, cipher_by, cipher_of, text_of, open_answer}
use Rattle.ae_modes.specs.Represents.{hash_so_far}
use Rattle.ae_modes.specs.declared.answers.AeAnswer.TheVariants.{BadTag}
use Rattle.ae_modes.specs.declared.answers.AeWay.{AeWay}
use Rattle.ae_modes.specs.declared.answers.AeWay.TheVariants.{Encrypt, Decrypt}

-- at the start there is no ciphertext
pub cipher_begun : (way : AeWay) (key nonce : List ℕ) → cipher_by way [] (gcm_text key nonce []) ≡ []
unfolding text_from
cipher_begun Encrypt key nonce = refl
cipher_begun Decrypt key nonce = refl

pub hashed_begun : (aad c : List ℕ) → c ≡ [] → hash_so_far aad c ≡ aad
unfolding hash_so_far
hashed_begun aad c e = rw e refl

-- the ciphertext is as long as the message
pub length-cipher_of : (m : Message) → length (cipher_of m) ≡ length m.message
length-cipher_of m = by_way m.way where
  by_way : (way : AeWay) → length (cipher_by way m.message (text_of m)) ≡ length m.message
  by_way Encrypt = length-text_from m.key (first_counter m.key m.nonce) 0 m.message
  by_way Decrypt = refl

no_bytes : (c : List ℕ) → length c ≡ 0 → c ≡ []
no_bytes [] e = refl
no_bytes (x ∷ c) e = absurd (omega arith)

pub cipher_none : (m : Message) → length m.message ≡ 0 → cipher_of m ≡ []
cipher_none m e = no_bytes (cipher_of m) (length-cipher_of m ∙ e)

-- more bytes of the ciphertext
pub hashed_more : (aad c d : List ℕ) (so_far more : ℕ) (begins : Bool) → so_far ≡ length c → more ≡ length d → begins ≡ (eqb so_far 0 && ltb 0 more)
    → cond begins (whole_blocks (hash_so_far aad c)) (hash_so_far aad c) ++ d ≡ hash_so_far aad (c ++ d)
unfolding hash_so_far
hashed_more aad [] [] so_far more begins ec ed eb =
    let no : begins ≡ false = rw (eb, ec, ed) refl in rw no (append-nil aad)
hashed_more aad [] (y ∷ d) so_far more begins ec ed eb =
    let some : ltb 0 more ≡ true = grind (arith, nat_tests) in
    let yes : begins ≡ true = rw (eb, ec, some) refl in rw yes refl
hashed_more aad (x ∷ c) d so_far more begins ec ed eb =
    let none : eqb so_far 0 ≡ false = grind (arith, nat_tests) in
    let no : begins ≡ false = rw (eb, none) refl in rw no (append_assoc (whole_blocks aad) (x ∷ c) d)

-- all of it, filled
filled_whole : (x : List ℕ) → length (whole_blocks x) % 16 ≡ 0
filled_whole x = omega (arith, length-append x (replicate ((16 - length x % 16) % 16) 0), length-replicate {A = ℕ} ((16 - length x % 16) % 16) 0)

filled-append : (x y : List ℕ) → length x % 16 ≡ 0 → whole_blocks (x ++ y) ≡ x ++ whole_blocks y
filled-append x y whole =
    let same : length (x ++ y) % 16 ≡ length y % 16 = omega (arith, length-append x y) in
    ap (λ (n : ℕ). (x ++ y) ++ replicate ((16 - n) % 16) 0) same ∙ append_assoc x y (replicate ((16 - length y % 16) % 16) 0)

pub hashed_filled : (aad c : List ℕ) → whole_blocks (hash_so_far aad c) ≡ whole_blocks aad ++ whole_blocks c
unfolding hash_so_far
hashed_filled aad [] = sym (append-nil (whole_blocks aad))
hashed_filled aad (x ∷ c) = filled-append (whole_blocks aad) (x ∷ c) (filled_whole aad)

-- the text of more bytes
pub text_of-extended : (m : Message) (piece out : List ℕ) (key : List ℕ) (counter place : ℕ) → key ≡ m.key → counter ≡ first_counter m.key m.nonce
    → place ≡ length m.message → out ≡ text_from key counter place piece → text_of (with_more m piece) ≡ text_of m ++ out
text_of-extended m piece out key counter place ek ec ep eo =
    text_from-append m.key (first_counter m.key m.nonce) 0 m.message piece
    ∙ ap (λ (z : List ℕ). text_of m ++ z)
    (ap (λ (n : ℕ). text_from m.key (first_counter m.key m.nonce) n piece) (let e : 0 + length m.message ≡ place = omega arith in e)
    ∙ sym (rw (eo, ek, ec) refl))

-- the ciphertext of more bytes: what was written, or what was given
pub cipher_encrypted : (m : Message) (piece out : List ℕ) → m.way ≡ Encrypt → text_of (with_more m piece) ≡ text_of m ++ out
    → cipher_of (with_more m piece) ≡ cipher_of m ++ out
cipher_encrypted m piece out e t = rw e t

pub cipher_decrypted : (m : Message) (piece : List ℕ) → m.way ≡ Decrypt → cipher_of (with_more m piece) ≡ cipher_of m ++ piece
cipher_decrypted m piece e = rw e refl

-- ---- the tag
-- what GHASH took in all
pub finished_input : (aad c x lengths : List ℕ) (a t : ℕ) → x ≡ whole_blocks (hash_so_far aad c) → lengths ≡ to_be_bytes w64 (8 * a) ++ to_be_bytes w64 (8 * t)
    → a ≡ length aad → t ≡ length c → x ++ lengths ≡ hash_input aad c
finished_input aad c x lengths a t ex el ea et =
    ap (λ (z : List ℕ). z ++ lengths) (ex ∙ hashed_filled aad c)
    ∙ ap (λ (z : List ℕ). (whole_blocks aad ++ whole_blocks c) ++ z)
    (el ∙ ap (λ (n : ℕ). to_be_bytes w64 (8 * n) ++ to_be_bytes w64 (8 * t)) ea ∙ ap (λ (n : ℕ). bit_length aad ++ to_be_bytes w64 (8 * n)) et)
    ∙ append_assoc (whole_blocks aad) (whole_blocks c) (bit_length aad ++ bit_length c)

pub whole_tag_is : (key nonce aad c bytes : List ℕ) (counter sum : ℕ) → bytes ≡ key → counter ≡ first_counter key nonce → sum ≡ ghash (hash_subkey key) (hash_input aad c)
    → xor_bytes (cipher bytes (counter_block counter)) (to_be_bytes w128 sum) ≡ whole_tag key nonce aad c
unfolding whole_tag
whole_tag_is key nonce aad c bytes counter sum eb ec es = rw (eb, ec, es) refl

-- ---- what `open` answers
not_both : (found same : Bool) (tag right : List ℕ) → (IsTrue found ↔ (tag ≡ right)) → (IsTrue same ↔ (tag ≡ right)) → found ≡ same
not_both true true tag right ef es = refl
not_both false false tag right ef es = refl
not_both true false tag right ef es = absurd (false≢true (es.1 (ef.0 refl)))
not_both false true tag right ef es = absurd (false≢true (ef.1 (es.0 refl)))

fits_test : (m : Message) (more so_far : ℕ) → so_far ≡ length m.message → so_far + more ≤ 2 ^ 36 - 32 → ltb (2 ^ 36 - 32) (length m.message + more) ≡ false
fits_test m more so_far e h = grind (arith, nat_tests)

room_test : (more room : ℕ) → more ≤ room → ltb room more ≡ false
room_test more room h = grind (arith, nat_tests)

pub open_answered : (m : Message) (more room so_far : ℕ) (found same : Bool) (tag right : List ℕ) → so_far ≡ length m.message → so_far + more ≤ 2 ^ 36 - 32
    → more ≤ room → (IsTrue found ↔ (tag ≡ right)) → (IsTrue same ↔ (tag ≡ right)) → cond found (Ok more) (Err BadTag) ≡ open_answer m more room same
open_answered m more room so_far found same tag right e fits room_fits ef es =
    rw (fits_test m more so_far e fits, room_test more room room_fits, not_both found same tag right ef es) refl
