-- A message on its way through GCM, and what each call answers.
use Rattle.std.specs.Prelude.{ℕ, ◌+◌, ◌-◌, ◌/◌, ◌^◌, ◌==◌, ◌&&◌, ◌||◌, nat_lt, not, Bool, true, false, List, [], ◌++◌, length, Result, Ok, Err, if◌then◌else◌}
use Rattle.ae_modes.specs.Gcm.{gcm_text, gcm_tag}
use Rattle.ae_modes.specs.declared.answers.AeAnswer.{AeAnswer}
use Rattle.ae_modes.specs.declared.answers.AeAnswer.TheVariants.{WrongTag, NoNonce, Late, TooLong, ShortBuffer, BadTag}
use Rattle.ae_modes.specs.declared.answers.AeWay.{AeWay}
use Rattle.ae_modes.specs.declared.answers.AeWay.TheVariants.{Encrypt, Decrypt}

-- a key, a way, a nonce and the bits of the tag; the associated data so far, and the message so far
pub record Message : Type 0 where
  pub key : List ℕ
  pub way : AeWay
  pub nonce : List ℕ
  pub tag_bits : ℕ
  pub aad : List ℕ
  pub message : List ℕ

-- the start of a message
abbrev pub begun : List ℕ → AeWay → List ℕ → ℕ → Message
begun key way nonce tag_bits =
    record { key = key; way = way; nonce = nonce; tag_bits = tag_bits; aad = []; message = [] }

-- with more associated data
abbrev pub with_aad : Message → List ℕ → Message
with_aad m bytes = record m { aad = m.aad ++ bytes }

-- with more bytes of the message
abbrev pub with_more : Message → List ℕ → Message
with_more m bytes = record m { message = m.message ++ bytes }

-- as at its start
abbrev pub at_start : Message → Message
at_start m = record m { aad = []; message = [] }

-- what becomes of the message so far
abbrev pub text_of : Message → List ℕ
text_of m = gcm_text m.key m.nonce m.message

-- the ciphertext of a message that goes this way, where its text is known
abbrev pub cipher_by : AeWay → List ℕ → List ℕ → List ℕ
cipher_by Encrypt message text = text
cipher_by Decrypt message text = message

-- the ciphertext so far
abbrev pub cipher_of : Message → List ℕ
cipher_of m = cipher_by m.way m.message (text_of m)

-- how many bytes the tag has
abbrev pub tag_len : Message → ℕ
tag_len m = m.tag_bits / 8

-- the tag of the message so far
abbrev pub tag_of : Message → List ℕ
tag_of m = gcm_tag m.key m.nonce m.tag_bits m.aad (cipher_of m)

-- the bits that a tag may have
abbrev pub is_tag_bits : ℕ → Bool
is_tag_bits n = n == 96 || (n == 104 || (n == 112 || (n == 120 || n == 128)))

-- whether a message may begin with this nonce and these bits of its tag
abbrev pub may_begin : List ℕ → ℕ → Bool
may_begin nonce tag_bits = not (length nonce == 0) && is_tag_bits tag_bits

-- why it may not
abbrev pub no_beginning : List ℕ → ℕ → AeAnswer
no_beginning nonce tag_bits = if length nonce == 0 then NoNonce else WrongTag tag_bits

-- what `aad` answers
abbrev pub aad_answer : Message → ℕ → Result (Unit {0}) AeAnswer
aad_answer m more =
    if nat_lt 0 (length m.message) then Err Late
    else if nat_lt (2 ^ 32) (length m.aad + more) then Err TooLong
    else Ok tt

-- what `update` answers: how many bytes it wrote, or why none
abbrev pub update_answer : Message → ℕ → ℕ → Result ℕ AeAnswer
update_answer m more room =
    if nat_lt (2 ^ 36 - 32) (length m.message + more) then Err TooLong
    else if nat_lt room more then Err (ShortBuffer more)
    else Ok more

-- what `seal` answers: the refusals of `update`, then that of a short tag
abbrev pub seal_answer : Message → ℕ → ℕ → ℕ → Result ℕ AeAnswer
seal_answer m more room tag_room =
    if nat_lt (2 ^ 36 - 32) (length m.message + more) then Err TooLong
    else if nat_lt room more then Err (ShortBuffer more)
    else if nat_lt tag_room (tag_len m) then Err (ShortBuffer (tag_len m))
    else Ok more

-- what `open` answers, where it is known whether the tag is that of the message: the refusals of `update`, then BadTag
abbrev pub open_answer : Message → ℕ → ℕ → Bool → Result ℕ AeAnswer
open_answer m more room same =
    if nat_lt (2 ^ 36 - 32) (length m.message + more) then Err TooLong
    else if nat_lt room more then Err (ShortBuffer more)
    else if same then Ok more
    else Err BadTag

-- whether `open` ends the message with this answer
abbrev pub ends_message : Result ℕ AeAnswer → Bool
ends_message (Ok n) = true
ends_message (Err BadTag) = true
ends_message (Err answer) = false
