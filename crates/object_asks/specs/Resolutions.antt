-- How an ask goes, and what comes of it: what the definitions of asks have in common.
use Rattle.std.specs.Prelude.{ℕ, ◌==◌, nat_lt, bit_and, Bool, true, false, not, List, length, if◌then◌else◌}
use Rattle.tee_base.specs.declared.limits.TheConstants.{MAX_ASK_BYTES, MAX_IDENTIFIER_BYTES}
use Rattle.tee_base.specs.declared.codes.Code.{Code}
use Rattle.tee_base.specs.declared.codes.Flags.{Flags}
use Rattle.app_api.specs.declared.ask.Answer.{Answer}
use Rattle.app_api.specs.declared.ask.Answer.TheVariants as answers
use Rattle.app_api.specs.declared.out.Outs.{Outs}
use Rattle.share_rules.specs.Sharing.{has as has_bit}
use Rattle.store_api.specs.declared.answer.StoreAnswer.{StoreAnswer}
use Rattle.store_api.specs.declared.answer.StoreAnswer.TheVariants as stores
use Rattle.store_api.specs.Stores.{Store}
use Rattle.tee_base.specs.declared.codes.TheConstants.Code.{ITEM_NOT_FOUND, ACCESS_CONFLICT, STORAGE_NO_SPACE, STORAGE_NOT_AVAILABLE, CORRUPT_OBJECT, OUT_OF_MEMORY}
use Rattle.object_asks.specs.Held.{Held}
use Rattle.tee_base.specs.Words.{Identifier}

-- what comes of an ask: an answer, with what it leaves; the return of the entry; or a panic
pub data Outcome (S : Type 0) : Type 0 where
  Answered : (after : S) (answer : Answer) → Outcome S
  Returned : (code : Code) (outs : Outs) → Outcome S
  Panicked : Outcome S

-- how an ask goes. Its outcome is settled without the store: misuse, a refusal that stands before the store, an ask that needs
-- none. Or it comes to the store: then it leaves refused where the store doesn't serve it, and if_served is what the store's answer
-- gives
pub data Resolution (S : Type 0) : Type 0 where
  Settled : (outcome : Outcome S) → Resolution S
  ComesToStore : (refused : S) (if_served : Outcome S) → Resolution S

-- the ask is refused with this code, and leaves this
abbrev pub refusal_with : {S : Type 0} → S → Code → Outcome S
refusal_with s code = Answered s (answers.Refused code)

-- the ask is done, and leaves this
abbrev pub success : {S : Type 0} → S → Outcome S
success s = Answered s answers.Done

-- the ask comes to the store
abbrev pub comes_to_store : {S : Type 0} → Resolution S → Bool
comes_to_store (Settled outcome) = false
comes_to_store (ComesToStore refused if_served) = true

-- the same of a larger whole, whose part this is
abbrev pub outcome_in : {S W : Type 0} → (S → W) → Outcome S → Outcome W
outcome_in put (Answered after answer) = Answered (put after) answer
outcome_in put (Returned code outs) = Returned code outs
outcome_in put Panicked = Panicked

-- the same of how an ask goes
abbrev pub resolution_in : {S W : Type 0} → (S → W) → Resolution S → Resolution W
resolution_in put (Settled outcome) = Settled (outcome_in put outcome)
resolution_in put (ComesToStore refused if_served) = ComesToStore (put refused) (outcome_in put if_served)

-- all that an ask about objects touches: the store, and what is held in memory
pub record Objects : Type 0 where
  pub store : Store
  pub held : Held

-- the same store with other things held
abbrev pub with_held : Objects → Held → Objects
with_held o held = record o { held = held }

-- the same things held over another store
abbrev pub over_store : Objects → Store → Objects
over_store o store = record o { store = store }

-- how an ask goes that never needs the store
abbrev pub without_store : Objects → Outcome Held → Resolution Objects
without_store o outcome = Settled (outcome_in (with_held o) outcome)

-- how the store does in a turn: it serves, unless it is lost; a call of it fails; or what it reads is damaged
pub data Serving : Type 0 where
  Serves : Serving
  Fails : Serving
  Damaged : Serving

-- what comes of a resolution
abbrev pub came_of : {S : Type 0} → Serving → Bool → Resolution S → Outcome S
came_of serving lost (Settled outcome) = outcome
came_of Serves lost (ComesToStore refused_ if_served) = if lost then refusal_with refused_ STORAGE_NOT_AVAILABLE else if_served
came_of Fails lost (ComesToStore refused_ if_served) = refusal_with refused_ STORAGE_NOT_AVAILABLE
came_of Damaged lost (ComesToStore refused_ if_served) = refusal_with refused_ CORRUPT_OBJECT

-- ---- limits and flags

-- more than 64 bytes
abbrev pub is_long_identifier : Identifier → Bool
is_long_identifier id = nat_lt MAX_IDENTIFIER_BYTES (length id)

-- more than an ask may bring or want
abbrev pub is_too_much : ℕ → Bool
is_too_much count = nat_lt MAX_ASK_BYTES count

-- the one storage that there is
abbrev pub private_storage : ℕ
private_storage = 1

-- a bit without a meaning is set
abbrev pub has_unknown_bits : ℕ → Bool
has_unknown_bits flags = not (bit_and flags 1079 == flags)

-- OVERWRITE is set
abbrev pub overwrites : ℕ → Bool
overwrites flags = has_bit 1024 (record { 0 = flags })

-- the flags that a handle keeps: the known ones but OVERWRITE
abbrev pub kept_flags : ℕ → Flags
kept_flags flags = record { 0 = bit_and flags 55 }

-- how an application is told what a store answers in place of a result
abbrev pub code_of : StoreAnswer → Code
code_of stores.NotFound = ITEM_NOT_FOUND
code_of stores.Exists = ACCESS_CONFLICT
code_of stores.NoSpace = STORAGE_NO_SPACE
code_of stores.Lost = STORAGE_NOT_AVAILABLE
code_of stores.Failed = STORAGE_NOT_AVAILABLE
code_of (stores.Corrupt tags) = CORRUPT_OBJECT
code_of (stores.Garbled leaf) = CORRUPT_OBJECT
code_of stores.NoMemory = OUT_OF_MEMORY
