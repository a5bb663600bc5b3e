-- What a status of reading says of a check.
use Rattle.std.proofs.Common.{◌≡◌, ◌⊎◌, inl, inr, refl}
use Rattle.run_board.specs.declared.status.Status.{Status}
use Rattle.run_board.specs.declared.status.Status.TheVariants.{Done, BadWords, BadLine, TooLong, StoreRefused, LogFull, NoMemory, ReadFault, WriteFault, BoardFault}
use Rattle.run_board.specs.Reading.{IsOfLines, IsReadStatus}
use Rattle.teectl.specs.Checks.{IsCheckStatus}

-- a status of reading is one of a check
pub read_checks : (status : Status) → IsReadStatus status → IsCheckStatus status
read_checks Done few = tt
read_checks BadWords few = few
read_checks (BadLine n) few = few
read_checks TooLong few = few
read_checks (StoreRefused why) few = few
read_checks (LogFull app) few = few
read_checks NoMemory few = few
read_checks ReadFault few = few
read_checks WriteFault few = few
read_checks BoardFault few = few

-- one of reading that may be one of lines that were read is want of memory
pub unread_memory : (status : Status) → IsReadStatus status → IsOfLines status → (status ≡ Done) ⊎ (status ≡ NoMemory)
unread_memory NoMemory few served = inr refl
unread_memory (BadLine n) few served = absurd served
unread_memory TooLong few served = absurd served
unread_memory ReadFault few served = absurd served
unread_memory Done few served = inl refl
unread_memory BadWords few served = absurd few
unread_memory (StoreRefused why) few served = absurd few
unread_memory (LogFull app) few served = absurd few
unread_memory WriteFault few served = absurd few
unread_memory BoardFault few served = absurd few
