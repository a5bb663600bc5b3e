-- Cryptographic operations: what each is, and what each call answers and leaves (TEE Internal Core API 1.3, sections 6.2 to 6.6).
use Rattle.std.specs.Prelude.{ℕ, ◌+◌, ◌==◌, ◌&&◌, ◌||◌, ◌≡◌, ◌≤◌, ◌<◌, not, nat_lt, Bool, true, false, List, [], ◌++◌, length, drop}
use Rattle.std.specs.Prelude.{replicate, bit_and, Option, None, Some, is_none, Result, Ok, Err, is_ok, IsTrue, if◌then◌else◌}
use Rattle.tee_base.specs.declared.limits.TheConstants.{MAX_ASK_BYTES}
use Rattle.std.specs.Str.{bytes_eq}
use Rattle.tee_base.specs.KeySizes.{size_fits}
use Rattle.secret.specs.Bits.{bits_of}
use Rattle.aes_modes.specs.declared.modes.Mode as modes
use Rattle.aes_modes.specs.declared.modes.Mode.TheVariants.{Ecb, Cbc, Ctr}
use Rattle.aes_modes.specs.Conversion.{Conversion, text_of, with_more, needed_of, ends_within}
use Rattle.mac_digest.specs.Hash.{digest_of, digest_len}
use Rattle.ae_modes.specs.Message.{Message, text_of as text_of_ae, with_more as with_more_ae, tag_of, is_tag_bits, aad_answer, update_answer, seal_answer, open_answer}
use Rattle.ae_modes.specs.declared.answers.AeWay.{AeWay}
use Rattle.ae_modes.specs.declared.answers.AeWay.TheVariants as ae_ways
use Rattle.ae_modes.specs.declared.answers.AeAnswer.{AeAnswer}
use Rattle.ae_modes.specs.declared.answers.AeAnswer.TheVariants.{WrongTag, NoNonce, Late, TooLong, ShortBuffer, BadTag}
use Rattle.crypto_ops.specs.Algorithms.{algorithm_at, algorithm_number, mode_number, key_kind, greatest_fits, key_fits, usage_bit}
use Rattle.crypto_ops.specs.Algorithms.{is_cipher, is_ae, is_mac, is_digest, mode_of, way_of, hash_of, ae_way, code_len, code_of}
use Rattle.crypto_ops.specs.declared.algorithm.Algorithm.{Algorithm}
use Rattle.crypto_ops.specs.declared.answer.OpAnswer.{OpAnswer}
use Rattle.crypto_ops.specs.declared.answer.OpAnswer.TheVariants.{NotSupported, Short, MacInvalid, Misuse, NoMemory}
use Rattle.crypto_ops.specs.declared.about.OpAbout.{OpAbout}
use Rattle.crypto_ops.specs.declared.sealed.OpSealed.{OpSealed}
use Rattle.tee_base.specs.Words.{Key}

-- the state of an operation: initial, or active with its vector and the whole message so far. In authenticated encryption the vector
-- is the nonce, the tag has so many bits, and there is the whole associated data so far; elsewhere these are 0 and empty
pub data Progress : Type 0 where
  Initial : Progress
  Active : (vector : List ℕ) (tag_bits : ℕ) (aad message : List ℕ) → Progress

-- an operation: what it computes, the greatest size of its key in bits, its key if it has one, and its state
pub record CryptoOperation : Type 0 where
  pub algorithm : Algorithm
  pub max_bits : ℕ
  pub key : Option (List ℕ)
  pub progress : Progress

-- it is at work on a message
abbrev pub is_active : Progress → Bool
is_active Initial = false
is_active (Active vector tag_bits aad message) = true

-- the vector, where there is one
abbrev pub vector_of : Progress → List ℕ
vector_of Initial = []
vector_of (Active vector tag_bits aad message) = vector

-- the bits of the tag, where there is one
abbrev pub tag_bits_of : Progress → ℕ
tag_bits_of Initial = 0
tag_bits_of (Active vector tag_bits aad message) = tag_bits

-- the associated data so far
abbrev pub aad_of : Progress → List ℕ
aad_of Initial = []
aad_of (Active vector tag_bits aad message) = aad

-- the message so far
abbrev pub message_of : Progress → List ℕ
message_of Initial = []
message_of (Active vector tag_bits aad message) = message

-- the bytes of the key, where there is one
abbrev pub key_bytes : Option (List ℕ) → List ℕ
key_bytes None = []
key_bytes (Some key) = key

-- the size of the key in bits, 0 without one
abbrev pub key_bits : Option (List ℕ) → ℕ
key_bits key = bits_of (key_bytes key)

-- more bytes than a call may bring, or more room than it may offer
abbrev pub is_too_much : ℕ → Bool
is_too_much count = nat_lt MAX_ASK_BYTES count

-- no key, where the algorithm wants one
abbrev pub lacks_key : CryptoOperation → Bool
lacks_key op = not (is_digest op.algorithm) && is_none op.key

-- the operation in its initial state
abbrev pub operation_at_start : CryptoOperation → CryptoOperation
operation_at_start op = record op { progress = Initial }

-- the operation at the start of a message
abbrev pub begun : CryptoOperation → List ℕ → CryptoOperation
begun op vector = record op { progress = Active vector 0 [] [] }

-- the operation with more bytes of its message
abbrev pub with_more_message : CryptoOperation → List ℕ → CryptoOperation
with_more_message op bytes = record op {
  progress = Active (vector_of op.progress) (tag_bits_of op.progress) (aad_of op.progress) (message_of op.progress ++ bytes);
}

-- a new operation (section 6.2.1)
abbrev pub fresh : Algorithm → ℕ → CryptoOperation
fresh algorithm max_bits = record { algorithm = algorithm; max_bits = max_bits; key = None; progress = Initial }

-- a new operation of an algorithm and mode, where the greatest size fits
abbrev pub allocated_of : Option Algorithm → ℕ → Result CryptoOperation OpAnswer
allocated_of None max_bits = Err NotSupported
allocated_of (Some algorithm) max_bits =
    if greatest_fits (key_kind algorithm) max_bits then Ok (fresh algorithm max_bits) else Err NotSupported

-- a new operation of the algorithm and mode of these numbers, or the refusal (section 6.2.1)
abbrev pub allocate_answer : ℕ → ℕ → ℕ → Result CryptoOperation OpAnswer
allocate_answer number mode max_bits = allocated_of (algorithm_at number mode) max_bits

-- what is told of an operation (section 6.2.4)
abbrev pub about_of : CryptoOperation → OpAbout
about_of op = record {
  alg = algorithm_number op.algorithm;
  mode = mode_number op.algorithm;
  max_bits = op.max_bits;
  key_bits = key_bits op.key;
  active = is_active op.progress;
}

-- back to the initial state, with the key (section 6.2.5): not without a key that the algorithm wants
abbrev pub reset_answer : CryptoOperation → Result (Unit {0}) OpAnswer
reset_answer op = if lacks_key op then Err Misuse else Ok tt

-- a key of this kind, usage and secret is set (section 6.2.6): not on a digest, an active operation, by a key of another
-- kind or size or above the greatest, or without the usage
abbrev pub set_key_answer : CryptoOperation → ℕ → ℕ → List ℕ → Result (Unit {0}) OpAnswer
set_key_answer op kind usage secret =
    if is_active op.progress || not (key_fits (key_kind op.algorithm) kind (bits_of secret))
    || nat_lt op.max_bits (bits_of secret) || (bit_and usage (usage_bit op.algorithm) == 0)
    then Err Misuse else Ok tt

-- the operation with this key
abbrev pub with_key : CryptoOperation → List ℕ → CryptoOperation
with_key op secret = record op { key = Some secret }

-- the key is taken away (section 6.2.6): not on a digest or an active operation
abbrev pub clear_key_answer : CryptoOperation → Result (Unit {0}) OpAnswer
clear_key_answer op = if is_digest op.algorithm || is_active op.progress then Err Misuse else Ok tt

-- the operation without a key
abbrev pub without_key : CryptoOperation → CryptoOperation
without_key op = record op { key = None }

-- whether its key may be set or taken away at all, whatever key comes: not of a digest or an active operation
abbrev pub may_change_key : CryptoOperation → Bool
may_change_key op = not (is_digest op.algorithm || is_active op.progress)

-- the two do the same, by their numbers
abbrev pub is_same_algorithm : Algorithm → Algorithm → Bool
is_same_algorithm a b = (algorithm_number a == algorithm_number b) && (mode_number a == mode_number b)

-- key and state of another operation (section 6.2.8): not of another algorithm or mode, or with a key above the greatest size
abbrev pub copy_answer : CryptoOperation → CryptoOperation → Result (Unit {0}) OpAnswer
copy_answer to from =
    if not (is_same_algorithm to.algorithm from.algorithm) || nat_lt to.max_bits (key_bits from.key)
    then Err Misuse else Ok tt

-- the operation with key and state of another
abbrev pub with_copy_of : CryptoOperation → CryptoOperation → CryptoOperation
with_copy_of to from = record to { key = from.key; progress = from.progress }

-- what a cipher converts: its message so far under its key and vector
abbrev pub conversion_of : CryptoOperation → Conversion
conversion_of op = record {
  key = key_bytes op.key;
  mode = mode_of op.algorithm;
  way = way_of op.algorithm;
  iv = vector_of op.progress;
  message = message_of op.progress;
}

-- the bytes are a vector for the mode: none for ECB, a block for the others
abbrev pub is_vector : modes.Mode → List ℕ → Bool
is_vector Ecb iv = length iv == 0
is_vector Cbc iv = length iv == 16
is_vector Ctr iv = length iv == 16

-- the vector that the message begins with; ECB, which uses none, has one of zeros
abbrev pub first_vector : modes.Mode → List ℕ → List ℕ
first_vector Ecb iv = replicate 16 0
first_vector Cbc iv = iv
first_vector Ctr iv = iv

-- a cipher begins a message (section 6.4.1)
abbrev pub cipher_init_answer : CryptoOperation → List ℕ → Result (Unit {0}) OpAnswer
cipher_init_answer op iv =
    if not (is_cipher op.algorithm) || is_none op.key || not (is_vector (mode_of op.algorithm) iv) then Err Misuse
    else Ok tt

-- the cipher at the start of a message, with the vector that its mode begins with
abbrev pub cipher_begun : CryptoOperation → List ℕ → CryptoOperation
cipher_begun op iv = begun op (first_vector (mode_of op.algorithm) iv)

-- how many bytes a cipher gives for more bytes of its message
abbrev pub needed_for : CryptoOperation → List ℕ → ℕ
needed_for op bytes = needed_of (conversion_of op) (length bytes)

-- what a cipher has given so far: what its mode makes of the whole message
abbrev pub text_so_far : CryptoOperation → List ℕ
text_so_far op = text_of (conversion_of op)

-- the next part of a conversion's text, for more bytes of its message
abbrev pub part_of : Conversion → List ℕ → List ℕ
part_of c bytes = drop (length (text_of c)) (text_of (with_more c bytes))

-- the next part of what a cipher gives, for more bytes of its message
abbrev pub next_part : CryptoOperation → List ℕ → List ℕ
next_part op bytes = part_of (conversion_of op) bytes

-- a call on an active operation of the kind that it is for
abbrev pub is_at_work : CryptoOperation → (Algorithm → Bool) → Bool
is_at_work op is_kind = is_kind op.algorithm && is_active op.progress

-- the content, where there is room for so many bytes, else how many they are
abbrev pub content_within : ℕ → ℕ → List ℕ → Result (List ℕ) OpAnswer
content_within room needed content = if nat_lt room needed then Err (Short needed) else Ok content

-- more bytes of a cipher's message (section 6.4.2)
abbrev pub cipher_update_answer : CryptoOperation → List ℕ → ℕ → Result (List ℕ) OpAnswer
cipher_update_answer op bytes room =
    if is_too_much (length bytes) || is_too_much room || not (is_at_work op is_cipher) then Err Misuse
    else content_within room (needed_for op bytes) (next_part op bytes)

-- whether ECB or CBC would be left with part of a block
abbrev pub is_incomplete : CryptoOperation → List ℕ → Bool
is_incomplete op bytes = ends_within (mode_of op.algorithm) (length (message_of op.progress) + length bytes)

-- the last bytes of a cipher's message (section 6.4.3)
abbrev pub cipher_final_answer : CryptoOperation → List ℕ → ℕ → Result (List ℕ) OpAnswer
cipher_final_answer op bytes room =
    if is_too_much (length bytes) || is_too_much room || not (is_at_work op is_cipher) || is_incomplete op bytes
    then Err Misuse
    else content_within room (needed_for op bytes) (next_part op bytes)

-- an authentication code begins a message (section 6.5.1)
abbrev pub mac_init_answer : CryptoOperation → Result (Unit {0}) OpAnswer
mac_init_answer op = if not (is_mac op.algorithm) || is_none op.key then Err Misuse else Ok tt

-- the authentication code at the start of a message
abbrev pub mac_begun : CryptoOperation → CryptoOperation
mac_begun op = begun op []

-- more bytes of its message (section 6.5.2)
abbrev pub mac_update_answer : CryptoOperation → List ℕ → Result (Unit {0}) OpAnswer
mac_update_answer op bytes = if is_too_much (length bytes) || not (is_at_work op is_mac) then Err Misuse else Ok tt

-- the code of the message with these bytes behind it
abbrev pub mac_of : CryptoOperation → List ℕ → List ℕ
mac_of op bytes = code_of op.algorithm (key_bytes op.key) (message_of op.progress ++ bytes)

-- the last bytes of its message, for the code (section 6.5.3)
abbrev pub mac_final_answer : CryptoOperation → List ℕ → ℕ → Result (List ℕ) OpAnswer
mac_final_answer op bytes room =
    if is_too_much (length bytes) || is_too_much room || not (is_at_work op is_mac) then Err Misuse
    else content_within room (code_len op.algorithm) (mac_of op bytes)

-- the last bytes of its message, and a code that may be the right one (section 6.5.4)
abbrev pub mac_compare_answer : CryptoOperation → List ℕ → List ℕ → Result (Unit {0}) OpAnswer
mac_compare_answer op bytes mac =
    if is_too_much (length bytes) || is_too_much (length mac) || not (is_at_work op is_mac) then Err Misuse
    else if bytes_eq mac (mac_of op bytes) then Ok tt else Err MacInvalid

-- ---- authenticated encryption

-- its message so far, with its associated data
abbrev pub ae_message : CryptoOperation → Message
ae_message op = record {
  key = key_bytes op.key;
  way = ae_way (way_of op.algorithm);
  nonce = vector_of op.progress;
  tag_bits = tag_bits_of op.progress;
  aad = aad_of op.progress;
  message = message_of op.progress;
}

-- what authenticated encryption has given so far: what becomes of the whole message
abbrev pub ae_text_so_far : CryptoOperation → List ℕ
ae_text_so_far op = text_of_ae (ae_message op)

-- the operation at the start of a message, under a nonce and with a tag of so many bits
abbrev pub ae_begun : CryptoOperation → List ℕ → ℕ → CryptoOperation
ae_begun op nonce tag_bits = record op { progress = Active nonce tag_bits [] [] }

-- the operation with more associated data
abbrev pub with_more_aad : CryptoOperation → List ℕ → CryptoOperation
with_more_aad op bytes = record op {
  progress = Active (vector_of op.progress) (tag_bits_of op.progress) (aad_of op.progress ++ bytes) (message_of op.progress);
}

-- how an operation tells a refusal of its message: the room that is needed, a tag that has no such length, a tag that is another;
-- all else is misuse
abbrev pub ae_refusal : AeAnswer → OpAnswer
ae_refusal (WrongTag bits) = NotSupported
ae_refusal NoNonce = Misuse
ae_refusal Late = Misuse
ae_refusal TooLong = Misuse
ae_refusal (ShortBuffer needed) = Short needed
ae_refusal BadTag = MacInvalid

-- what is given, where the message answers that it may be
abbrev pub ae_given : {A B : Type 0} → Result A AeAnswer → B → Result B OpAnswer
ae_given (Ok done) given = Ok given
ae_given (Err answer) given = Err (ae_refusal answer)

-- a message begins (section 6.6.1): not of another algorithm, without a key or without a nonce; and only with a tag of 96, 104, 112,
-- 120 or 128 bits
abbrev pub ae_init_answer : CryptoOperation → List ℕ → ℕ → Result (Unit {0}) OpAnswer
ae_init_answer op nonce tag_bits =
    if is_too_much (length nonce) || not (is_ae op.algorithm) || is_none op.key || (length nonce == 0) then Err Misuse
    else if is_tag_bits tag_bits then Ok tt
    else Err NotSupported

-- more associated data (section 6.6.2): not after the first byte of the message, nor more of it than there may be
abbrev pub ae_aad_answer : CryptoOperation → List ℕ → Result (Unit {0}) OpAnswer
ae_aad_answer op bytes =
    if is_too_much (length bytes) || not (is_at_work op is_ae) then Err Misuse
    else ae_given (aad_answer (ae_message op) (length bytes)) tt

-- the next part of a message's text, for more bytes of it
abbrev pub ae_part_of : Message → List ℕ → List ℕ
ae_part_of m bytes = drop (length (text_of_ae m)) (text_of_ae (with_more_ae m bytes))

-- what a message gives for more bytes of it
abbrev pub ae_part_within : Message → List ℕ → ℕ → Result (List ℕ) OpAnswer
ae_part_within m bytes room = ae_given (update_answer m (length bytes) room) (ae_part_of m bytes)

-- more bytes of its message (section 6.6.3)
abbrev pub ae_update_answer : CryptoOperation → List ℕ → ℕ → Result (List ℕ) OpAnswer
ae_update_answer op bytes room =
    if is_too_much (length bytes) || is_too_much room || not (is_at_work op is_ae) then Err Misuse
    else ae_part_within (ae_message op) bytes room

-- a message goes the way of encryption
abbrev pub encrypts : AeWay → Bool
encrypts ae_ways.Encrypt = true
encrypts ae_ways.Decrypt = false

-- the end of a message with its tag
abbrev pub sealed_of : Message → List ℕ → OpSealed
sealed_of m bytes = record { content = ae_part_of m bytes; tag = tag_of (with_more_ae m bytes) }

-- what a message that is encrypted gives at its end
abbrev pub sealed_within : Message → List ℕ → ℕ → ℕ → Result OpSealed OpAnswer
sealed_within m bytes room tag_room = ae_given (seal_answer m (length bytes) room tag_room) (sealed_of m bytes)

-- the last bytes of a message that is encrypted, for the rest of its text and its tag (section 6.6.4)
abbrev pub ae_seal_answer : CryptoOperation → List ℕ → ℕ → ℕ → Result OpSealed OpAnswer
ae_seal_answer op bytes room tag_room =
    if is_too_much (length bytes) || is_too_much room || is_too_much tag_room || not (is_at_work op is_ae)
    || not (encrypts (ae_message op).way)
    then Err Misuse
    else sealed_within (ae_message op) bytes room tag_room

-- the tag is that of the message with these bytes at its end: all of its bytes, and no more
abbrev pub is_tag_of : Message → List ℕ → List ℕ → Bool
is_tag_of m bytes tag = bytes_eq tag (tag_of (with_more_ae m bytes))

-- what a message that is decrypted gives at its end
abbrev pub opened_within : Message → List ℕ → ℕ → List ℕ → Result (List ℕ) OpAnswer
opened_within m bytes room tag =
    ae_given (open_answer m (length bytes) room (is_tag_of m bytes tag)) (ae_part_of m bytes)

-- the last bytes of a message that is decrypted, and a tag that may be the right one, for the rest of its text (section 6.6.5)
abbrev pub ae_open_answer : CryptoOperation → List ℕ → ℕ → List ℕ → Result (List ℕ) OpAnswer
ae_open_answer op bytes room tag =
    if is_too_much (length bytes) || is_too_much room || is_too_much (length tag) || not (is_at_work op is_ae)
    || encrypts (ae_message op).way
    then Err Misuse
    else opened_within (ae_message op) bytes room tag

-- ---- what is left

-- the operation after a comparison of a code or a tag: initial, whatever they were, but not after another refusal
abbrev pub after_comparison : {A : Type 0} → Result A OpAnswer → CryptoOperation → CryptoOperation
after_comparison (Ok done) op = operation_at_start op
after_comparison (Err MacInvalid) op = operation_at_start op
after_comparison (Err NotSupported) op = op
after_comparison (Err (Short needed)) op = op
after_comparison (Err Misuse) op = op
after_comparison (Err NoMemory) op = op

-- more bytes of a digest's message, which makes it active (section 6.3.1)
abbrev pub digest_update_answer : CryptoOperation → List ℕ → Result (Unit {0}) OpAnswer
digest_update_answer op bytes = if is_too_much (length bytes) || not (is_digest op.algorithm) then Err Misuse else Ok tt

-- the digest of the message with these bytes behind it
abbrev pub digest_at_end : CryptoOperation → List ℕ → List ℕ
digest_at_end op bytes = digest_of (hash_of op.algorithm) (message_of op.progress ++ bytes)

-- the last bytes of a digest's message (section 6.3.2)
abbrev pub digest_final_answer : CryptoOperation → List ℕ → ℕ → Result (List ℕ) OpAnswer
digest_final_answer op bytes room =
    if is_too_much (length bytes) || is_too_much room || not (is_digest op.algorithm) then Err Misuse
    else content_within room (digest_len (hash_of op.algorithm)) (digest_at_end op bytes)

-- memory is taken before this is answered: for a content, and before a tag is looked at
abbrev pub wants_memory : {A : Type 0} → Result A OpAnswer → Bool
wants_memory (Ok content) = true
wants_memory (Err NotSupported) = false
wants_memory (Err (Short needed)) = false
wants_memory (Err MacInvalid) = true
wants_memory (Err Misuse) = false
wants_memory (Err NoMemory) = false

-- the answer is the stated one; want of memory comes only where memory is taken before it
abbrev pub Answers : {A : Type 0} → Result A OpAnswer → Result A OpAnswer → Type 0
Answers (Ok content) stated = stated ≡ Ok content
Answers (Err NotSupported) stated = stated ≡ Err NotSupported
Answers (Err (Short needed)) stated = stated ≡ Err (Short needed)
Answers (Err MacInvalid) stated = stated ≡ Err MacInvalid
Answers (Err Misuse) stated = stated ≡ Err Misuse
Answers (Err NoMemory) stated = IsTrue (wants_memory stated)

-- want of memory, or room for fewer bytes than are needed, which are told
abbrev pub IsNoMemoryOrShort : ℕ → ℕ → OpAnswer → Type 0
IsNoMemoryOrShort room needed NotSupported = ⊥
IsNoMemoryOrShort room needed (Short told) = (told ≡ needed) × (room < needed)
IsNoMemoryOrShort room needed MacInvalid = ⊥
IsNoMemoryOrShort room needed Misuse = ⊥
IsNoMemoryOrShort room needed NoMemory = needed ≤ room

-- the operation after a call: as the call leaves it where it answered Ok, else as it was
abbrev pub after_ok : {A : Type 0} → Result A OpAnswer → CryptoOperation → CryptoOperation → CryptoOperation
after_ok result old new = if is_ok result then new else old

-- the kind is one that this key fits; there is none for a digest
abbrev pub KeyOfKind : Option ℕ → ℕ → Key → Type 0
KeyOfKind None max_bits key = ⊥
KeyOfKind (Some kind) max_bits key = IsTrue (size_fits kind (bits_of key)) × (bits_of key ≤ max_bits)

-- a key fits its algorithm and isn't above the greatest size
abbrev pub KeyFits : Algorithm → ℕ → Option (List ℕ) → Type 0
KeyFits algorithm max_bits None = Unit {0}
KeyFits algorithm max_bits (Some key) = KeyOfKind (key_kind algorithm) max_bits key
