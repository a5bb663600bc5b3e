-- Command 1 of the sample application Crypt: the asks that set up an operation, each after the answer to the one before
-- (TEE Internal Core API 1.3, sections 5.6 and 6.2 to 6.7). A refusal ends the command with its code; an answer that the ask
-- can't give ends it with GENERIC.
use Rattle.std.specs.Prelude.{ℕ, ◌-◌, ◌*◌, ◌^◌, ◌==◌, min, List, length, Option, None, Some, if◌then◌else◌}
use Rattle.tee_base.specs.declared.keys.TheConstants as numbers
use Rattle.app_api.specs.declared.ask.Answer.{Answer}
use Rattle.app_api.specs.declared.ask.Answer.TheVariants.{Done, Refused, Number}
use Rattle.app_api.specs.declared.ask.Ask.{Ask}
use Rattle.app_api.specs.declared.ask.Ask.TheVariants as asked
use Rattle.app_api.specs.Outs.{no_outs}
use Rattle.app_kit.specs.declared.reaction.Reaction.{Reaction}
use Rattle.sample_apps.specs.declared.crypt.Crypt.{Crypt}
use Rattle.sample_apps.specs.declared.crypt.Class.{Class}
use Rattle.sample_apps.specs.declared.crypt.Class.TheVariants.{Cipher, Ae, Mac, Digest}
use Rattle.sample_apps.specs.declared.crypt.commands.Plan.{Plan}
use Rattle.sample_apps.specs.declared.crypt.Waiting.{Waiting}
use Rattle.sample_apps.specs.declared.crypt.Waiting.TheVariants as waiting
use Rattle.tee_base.specs.declared.codes.TheConstants.Code.{GENERIC}
use Rattle.app_kit.specs.Reactions.{ask_for, succeed_with, fail_with}
use Rattle.tee_base.specs.Words.{Key}

-- no operation yet
abbrev pub new_crypt : Crypt
new_crypt = record { op = 0; class = None; waiting = waiting.Nothing }

-- no command waits; the operation stays
abbrev pub idle : Crypt → Crypt
idle c = record c { waiting = waiting.Nothing }

-- asks for this, and waits so for the answer
abbrev pub wait_for : Crypt → Waiting → Ask → Reaction Crypt
wait_for c what ask = ask_for (record c { waiting = what }) ask

-- an answer that isn't the one hoped for
abbrev pub refusal_of : Crypt → Answer → Reaction Crypt
refusal_of c (Refused code) = fail_with (idle c) code
refusal_of c answer = fail_with (idle c) GENERIC

-- the kind of an algorithm's keys; none for a digest and for what is no algorithm (section 6.10.1)
unfoldable pub key_kind : ℕ → Option ℕ
key_kind alg =
    if alg == numbers.AES_ECB then Some numbers.KIND_AES
    else if alg == numbers.AES_CBC then Some numbers.KIND_AES
    else if alg == numbers.AES_CTR then Some numbers.KIND_AES
    else if alg == numbers.AES_GCM then Some numbers.KIND_AES
    else if alg == numbers.AES_CMAC then Some numbers.KIND_AES
    else if alg == numbers.HMAC_SHA256 then Some numbers.KIND_HMAC_SHA256
    else if alg == numbers.HMAC_SHA384 then Some numbers.KIND_HMAC_SHA384
    else if alg == numbers.HMAC_SHA512 then Some numbers.KIND_HMAC_SHA512
    else None

-- the greatest size in bits of such a key
abbrev pub greatest_size : Option ℕ → ℕ
greatest_size None = 0
greatest_size (Some kind) = if kind == numbers.KIND_AES then 256 else 1024

-- what an operation of an algorithm with such a key computes
abbrev pub class_of : ℕ → Option ℕ → List ℕ → Class
class_of alg None iv = Digest
class_of alg (Some kind) iv =
    if alg == numbers.AES_GCM then Ae iv
    else if alg == numbers.AES_CMAC then Mac
    else if kind == numbers.KIND_AES then Cipher iv
    else Mac

-- the size of a key in bits. One that no 32 bits hold fits no kind of key, as the number here doesn't
unfoldable pub bits_of : Key → ℕ
bits_of key = min (8 * length key) (2 ^ 32 - 1)

-- how many bits the tag has of a message that is authenticated and encrypted
abbrev pub tag_bits : ℕ
tag_bits = 128

-- the ask that begins a message; a digest needs none
unfoldable pub beginning_of : ℕ → Class → Option Ask
beginning_of op (Cipher iv) = Some (asked.CipherInit op iv)
beginning_of op (Ae nonce) = Some (asked.AeInit op nonce tag_bits)
beginning_of op Mac = Some (asked.MacInit op)
beginning_of op Digest = None

-- the operation is set up
abbrev pub readiness : Crypt → Class → Reaction Crypt
readiness c class = succeed_with (record { op = c.op; class = Some class; waiting = waiting.Nothing }) no_outs

-- first the operation of before goes. From then on none is kept until there is the next, and none is set up
abbrev pub set_up : Crypt → Plan → Reaction Crypt
set_up c plan = ask_for (record { op = 0; class = None; waiting = waiting.Freeing plan }) (asked.OpFree c.op)

-- the operation of before is gone: the next is allocated
unfoldable pub after_op_free : Crypt → Plan → Answer → Reaction Crypt
after_op_free c plan Done = wait_for c (waiting.Allocating plan) (asked.OpNew plan.alg plan.mode (greatest_size (key_kind plan.alg)))
after_op_free c plan answer = refusal_of c answer

-- an algorithm with a key gets an object for it
abbrev pub key_or_readiness : Crypt → Plan → Option ℕ → Reaction Crypt
key_or_readiness c plan None = readiness c Digest
key_or_readiness c plan (Some kind) = wait_for c (waiting.MakingKey plan.key (class_of plan.alg (Some kind) plan.iv)) (asked.KeyNew kind (bits_of plan.key))

-- the operation is there: an object for its key is next, or it is set up
unfoldable pub after_op_new : Crypt → Plan → Answer → Reaction Crypt
after_op_new c plan (Number op) = key_or_readiness (record c { op = op }) plan (key_kind plan.alg)
after_op_new c plan answer = refusal_of c answer

-- the object for the key is there: it is given the key
unfoldable pub after_key_new : Crypt → Key → Class → Answer → Reaction Crypt
after_key_new c key class (Number object) = wait_for c (waiting.FillingKey object class) (asked.KeyPopulate object key)
after_key_new c key class answer = refusal_of c answer

-- the object has the key: the operation is given it
unfoldable pub after_key_populate : Crypt → ℕ → Class → Answer → Reaction Crypt
after_key_populate c object class Done = wait_for c (waiting.SettingKey object class) (asked.OpSetKey c.op object)
after_key_populate c object class answer = refusal_of c answer

-- the operation has its key: the object is closed
unfoldable pub after_op_set_key : Crypt → ℕ → Class → Answer → Reaction Crypt
after_op_set_key c object class Done = wait_for c (waiting.ClosingKey class) (asked.ObjClose object)
after_op_set_key c object class answer = refusal_of c answer

-- last a message begins, where there is an ask for that
abbrev pub first_message : Crypt → Class → Option Ask → Reaction Crypt
first_message c class None = readiness c class
first_message c class (Some ask) = wait_for c (waiting.Beginning class) ask

-- the object is closed: a first message is next
unfoldable pub after_key_close : Crypt → Class → Option Ask → Answer → Reaction Crypt
after_key_close c class beginning Done = first_message c class beginning
after_key_close c class beginning answer = refusal_of c answer

-- the first message has begun: the operation is set up
unfoldable pub after_first_beginning : Crypt → Class → Answer → Reaction Crypt
after_first_beginning c class Done = readiness c class
after_first_beginning c class answer = refusal_of c answer
