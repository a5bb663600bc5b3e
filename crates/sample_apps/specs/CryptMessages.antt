-- Commands 2 to 5 of the sample application Crypt: what each asks for first, by the class of the operation, and what follows
-- the answers (TEE Internal Core API 1.3, sections 6.3 to 6.7). Where no operation is set up, or its class has no such ask, the
-- command returns BAD_STATE.
use Rattle.std.specs.Prelude.{ℕ, ◌+◌, ◌-◌, ◌^◌, ◌==◌, min, List, [], ◌++◌, length, Option, None, Some, if◌then◌else◌}
use Rattle.tee_base.specs.declared.codes.Code.{Code}
use Rattle.app_api.specs.declared.ask.Answer.{Answer}
use Rattle.app_api.specs.declared.ask.Answer.TheVariants.{Done, Refused, Content, Short, Sealed}
use Rattle.app_api.specs.declared.ask.Ask.{Ask}
use Rattle.app_api.specs.declared.ask.Ask.TheVariants as asked
use Rattle.app_api.specs.declared.out.Out.TheVariants.{Mem, Size}
use Rattle.app_api.specs.Outs.{no_outs}
use Rattle.app_kit.specs.declared.reaction.Reaction.{Reaction}
use Rattle.sample_apps.specs.declared.crypt.Crypt.{Crypt}
use Rattle.sample_apps.specs.declared.crypt.Class.{Class}
use Rattle.sample_apps.specs.declared.crypt.Class.TheVariants.{Cipher, Ae, Mac, Digest}
use Rattle.sample_apps.specs.declared.crypt.Waiting.TheVariants as waiting
use Rattle.tee_base.specs.declared.codes.TheConstants.Code.{SUCCESS, GENERIC, BAD_STATE, SHORT_BUFFER, MAC_INVALID}
use Rattle.app_kit.specs.Reactions.{return_with, succeed_with, fail_with, at_p1, at_p2}
use Rattle.sample_apps.specs.CryptSetUp.{idle, wait_for, refusal_of}

-- the command returns these bytes
abbrev pub delivery_of : Crypt → List ℕ → Reaction Crypt
delivery_of c bytes = succeed_with (idle c) (at_p1 (Mem bytes))

-- the output needs more room
abbrev pub shortage_of : Crypt → ℕ → Reaction Crypt
shortage_of c size = return_with (idle c) SHORT_BUFFER (at_p1 (Size size))

-- 2: the next bytes of the message
unfoldable pub update : Crypt → Option Class → List ℕ → ℕ → Reaction Crypt
update c None bytes room = fail_with (idle c) BAD_STATE
update c (Some (Cipher iv)) bytes room = wait_for c waiting.Enciphering (asked.CipherUpdate c.op bytes room)
update c (Some (Ae nonce)) bytes room = wait_for c waiting.Enciphering (asked.AeUpdate c.op bytes room)
update c (Some Mac) bytes room = wait_for c waiting.Absorbing (asked.MacUpdate c.op bytes)
update c (Some Digest) bytes room = wait_for c waiting.Absorbing (asked.DigestUpdate c.op bytes)

-- 2: what the cipher gives
unfoldable pub after_cipher_update : Crypt → Answer → Reaction Crypt
after_cipher_update c (Content bytes) = delivery_of c bytes
after_cipher_update c (Short size) = shortage_of c size
after_cipher_update c answer = refusal_of c answer

-- 2: a code and a digest give nothing yet
unfoldable pub after_absorption : Crypt → Answer → Reaction Crypt
after_absorption c Done = delivery_of c []
after_absorption c answer = refusal_of c answer

-- how many bytes a tag has
abbrev pub tag_len : ℕ
tag_len = 16

-- so many bytes with a tag, as a size of 32 bits says it; no memory reference is longer than 524,288 bytes
abbrev pub size_with_tag : List ℕ → ℕ
size_with_tag bytes = min (length bytes + tag_len) (2 ^ 32 - 1)

-- 3: the last bytes of the message. A tag takes the last of the room, and the text the rest
unfoldable pub finish : Crypt → Option Class → List ℕ → ℕ → Reaction Crypt
finish c None bytes room = fail_with (idle c) BAD_STATE
finish c (Some (Cipher iv)) bytes room = wait_for c waiting.Finishing (asked.CipherFinal c.op bytes room)
finish c (Some (Ae nonce)) bytes room =
    wait_for c (waiting.Sealing (size_with_tag bytes)) (asked.AeSeal c.op bytes (room - tag_len) (min room tag_len))
finish c (Some Mac) bytes room = wait_for c waiting.Finishing (asked.MacFinal c.op bytes room)
finish c (Some Digest) bytes room = wait_for c waiting.Finishing (asked.DigestFinal c.op bytes room)

-- 3: the next message begins, where there is an ask for that
abbrev pub next_message : Crypt → Option Ask → List ℕ → Reaction Crypt
next_message c None content = delivery_of c content
next_message c (Some ask) content = wait_for c (waiting.Renewing content) ask

-- 3: what the cipher gives, the code or the digest
unfoldable pub after_final : Crypt → Option Ask → Answer → Reaction Crypt
after_final c beginning (Content bytes) = next_message c beginning bytes
after_final c beginning (Short size) = shortage_of c size
after_final c beginning answer = refusal_of c answer

-- 3: the text with the tag after it, where an answer has both
abbrev pub joined_of : Answer → List ℕ
joined_of (Sealed content tag) = content ++ tag
joined_of answer = []

-- 3: the text with the tag after it; where there is no room for both, their size is told
unfoldable pub after_seal : Crypt → Option Ask → ℕ → Answer → Reaction Crypt
after_seal c beginning size (Sealed content tag) = next_message c beginning (content ++ tag)
after_seal c beginning size (Short needed) = shortage_of c size
after_seal c beginning size answer = refusal_of c answer

-- 3: the next message has begun
unfoldable pub after_next_beginning : Crypt → List ℕ → Answer → Reaction Crypt
after_next_beginning c content Done = delivery_of c content
after_next_beginning c content answer = refusal_of c answer

-- 4: the last bytes of the message, whose code is compared
unfoldable pub compare : Crypt → Option Class → List ℕ → List ℕ → Reaction Crypt
compare c (Some Mac) bytes mac = wait_for c waiting.Comparing (asked.MacCompare c.op bytes mac)
compare c class bytes mac = fail_with (idle c) BAD_STATE

-- 4: the next message begins, whether the codes are equal or not
abbrev pub after_verdict : Crypt → Code → Reaction Crypt
after_verdict c code = wait_for c (waiting.Judging code) (asked.MacInit c.op)

-- 4: whether the codes are equal
unfoldable pub after_mac_compare : Crypt → Answer → Reaction Crypt
after_mac_compare c Done = after_verdict c SUCCESS
after_mac_compare c (Refused code) = if code.0 == MAC_INVALID.0 then after_verdict c code else fail_with (idle c) code
after_mac_compare c answer = fail_with (idle c) GENERIC

-- 4: the next message has begun
unfoldable pub after_compared_beginning : Crypt → Code → Answer → Reaction Crypt
after_compared_beginning c code Done = return_with (idle c) code no_outs
after_compared_beginning c code answer = refusal_of c answer

-- 5: the last bytes of a ciphertext, whose tag is compared
unfoldable pub open_last : Crypt → Option Class → List ℕ → List ℕ → ℕ → Reaction Crypt
open_last c (Some (Ae nonce)) bytes tag room = wait_for c waiting.Opening (asked.AeOpen c.op bytes room tag)
open_last c class bytes tag room = fail_with (idle c) BAD_STATE

-- 5: the command returns these bytes
abbrev pub opened_delivery_of : Crypt → List ℕ → Reaction Crypt
opened_delivery_of c bytes = succeed_with (idle c) (at_p2 (Mem bytes))

-- 5: the next message begins, where there is an ask for that
abbrev pub next_opened : Crypt → Option Ask → List ℕ → Reaction Crypt
next_opened c None content = opened_delivery_of c content
next_opened c (Some ask) content = wait_for c (waiting.Reopening content) ask

-- 5: the same after a tag that was another
abbrev pub next_refused : Crypt → Option Ask → Code → Reaction Crypt
next_refused c None code = fail_with (idle c) code
next_refused c (Some ask) code = wait_for c (waiting.Judging code) ask

-- 5: the text, or that the tag is another
unfoldable pub after_open : Crypt → Option Ask → Answer → Reaction Crypt
after_open c beginning (Content bytes) = next_opened c beginning bytes
after_open c beginning (Short size) = return_with (idle c) SHORT_BUFFER (at_p2 (Size size))
after_open c beginning (Refused code) = if code.0 == MAC_INVALID.0 then next_refused c beginning code else fail_with (idle c) code
after_open c beginning answer = fail_with (idle c) GENERIC

-- 5: the next message has begun
unfoldable pub after_opened_beginning : Crypt → List ℕ → Answer → Reaction Crypt
after_opened_beginning c content Done = opened_delivery_of c content
after_opened_beginning c content answer = refusal_of c answer
