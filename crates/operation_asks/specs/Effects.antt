-- What comes of an ask: what the application is told, and what is left.
use Rattle.std.specs.Prelude.{List, ℕ, Result, Ok, Err}
use Rattle.tee_base.specs.declared.codes.Code.{Code}
use Rattle.tee_base.specs.declared.codes.TheConstants.Code.{NOT_SUPPORTED, MAC_INVALID, OUT_OF_MEMORY}
use Rattle.app_api.specs.declared.ask.Answer.{Answer}
use Rattle.app_api.specs.declared.ask.Answer.TheVariants as answers
use Rattle.crypto_ops.specs.declared.answer.OpAnswer.{OpAnswer}
use Rattle.crypto_ops.specs.declared.answer.OpAnswer.TheVariants.{NotSupported, Short, MacInvalid, Misuse, NoMemory}
use Rattle.crypto_ops.specs.declared.sealed.OpSealed.{OpSealed}
use Rattle.crypto_ops.specs.Operations.{CryptoOperation, after_ok}
use Rattle.operation_asks.specs.declared.outcome.Outcome.{Outcome}
use Rattle.operation_asks.specs.declared.outcome.Outcome.TheVariants.{Answered, Panicked}

-- what comes of an ask: an answer or a panic, and what is left, which after a panic is what there was
pub record Effect (S : Type 0) : Type 0 where
  pub told : Outcome
  pub after : S

-- the application is answered this
abbrev pub answer_effect : {S : Type 0} → S → Answer → Effect S
answer_effect s answer = record { told = Answered answer; after = s }

-- the application is answered Done
abbrev pub done_effect : {S : Type 0} → S → Effect S
done_effect s = answer_effect s answers.Done

-- the application is refused by this code
abbrev pub refusal_effect : {S : Type 0} → S → Code → Effect S
refusal_effect s code = answer_effect s (answers.Refused code)

-- the instance panics, and nothing is changed
abbrev pub panic_effect : {S : Type 0} → S → Effect S
panic_effect s = record { told = Panicked; after = s }

-- the same of a larger whole, whose part this is
abbrev pub effect_in : {S W : Type 0} → (S → W) → Effect S → Effect W
effect_in put e = record { told = e.told; after = put e.after }

-- how an application is told of a refusal; misuse is a panic. Want of memory is no answer that is stated anywhere
abbrev pub told_refusal : OpAnswer → Outcome
told_refusal NotSupported = Answered (answers.Refused NOT_SUPPORTED)
told_refusal (Short needed) = Answered (answers.Short needed)
told_refusal MacInvalid = Answered (answers.Refused MAC_INVALID)
told_refusal Misuse = Panicked
told_refusal NoMemory = Answered (answers.Refused OUT_OF_MEMORY)

-- how it is told of a call without a result, and of one with a content
abbrev pub told_done : Result (Unit {0}) OpAnswer → Outcome
told_done (Ok nothing) = Answered answers.Done
told_done (Err answer) = told_refusal answer

-- how the application is told of a call that gives a content
abbrev pub told_content : Result (List ℕ) OpAnswer → Outcome
told_content (Ok content) = Answered (answers.Content content)
told_content (Err answer) = told_refusal answer

-- how the application is told of a call that gives a content and its tag
abbrev pub told_sealed : Result OpSealed OpAnswer → Outcome
told_sealed (Ok sealed) = Answered (answers.Sealed sealed.content sealed.tag)
told_sealed (Err answer) = told_refusal answer

-- the effect of a call that answers so, and leaves the new operation where it answers Ok, else the old one
abbrev pub done_by : Result (Unit {0}) OpAnswer → CryptoOperation → CryptoOperation → Effect CryptoOperation
done_by answer old new = record { told = told_done answer; after = after_ok answer old new }

-- the effect of a call that gives a content, and leaves the new operation where it answers Ok, else the old one
abbrev pub content_by : Result (List ℕ) OpAnswer → CryptoOperation → CryptoOperation → Effect CryptoOperation
content_by answer old new = record { told = told_content answer; after = after_ok answer old new }
