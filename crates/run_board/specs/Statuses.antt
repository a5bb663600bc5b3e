-- The numbers and texts of statuses.
use Rattle.std.specs.Prelude.{ℕ, List, [], ◌++◌, codes, slice_index_or}
use Rattle.std.specs.Fmt.{decimal}
use Rattle.epoch.specs.declared.answer.OpenAnswer.{OpenAnswer}
use Rattle.epoch.specs.declared.answer.OpenAnswer.TheVariants as answers
use Rattle.run_board.specs.declared.lines.Stop.{Stop}
use Rattle.run_board.specs.declared.lines.Stop.TheVariants as stops
use Rattle.run_board.specs.declared.status.Status.{Status}
use Rattle.run_board.specs.declared.status.Status.TheVariants.{Done, BadWords, BadLine, TooLong, StoreRefused, LogFull, NoMemory, ReadFault, WriteFault, BoardFault}

-- the exit status
abbrev pub number_of : Status → ℕ
number_of Done = 0
number_of BadWords = 64
number_of (BadLine n) = 65
number_of TooLong = 66
number_of (StoreRefused why) = 67
number_of (LogFull app) = 68
number_of NoMemory = 71
number_of ReadFault = 73
number_of WriteFault = 74
number_of BoardFault = 75

-- why a store was refused
abbrev pub why_text : OpenAnswer → List ℕ
why_text (answers.TooSmall blocks) = codes "too small " ++ decimal blocks
why_text (answers.NoVolume counter) = codes "no volume at counter " ++ decimal counter
why_text (answers.BadHeader slot found kept) = codes "bad header " ++ decimal slot
why_text (answers.UnknownVersion version) = codes "unknown version " ++ decimal version
why_text (answers.Rollback sequence counter) = codes "rollback " ++ decimal sequence ++ codes " " ++ decimal counter
why_text (answers.Ahead sequence counter) = codes "ahead " ++ decimal sequence ++ codes " " ++ decimal counter
why_text (answers.OldMismatch tags) = codes "old volume mismatch"
why_text (answers.OldGarbled region leaf) = codes "old region " ++ decimal region ++ codes " garbled at " ++ decimal leaf
why_text answers.Failed = codes "failed"
why_text answers.NoMemory = codes "out of memory"

-- the line that main writes to standard error, where the hosts have these names; none under Done
abbrev pub status_text : List (List ℕ) → Status → List ℕ
status_text names Done = []
status_text names BadWords = codes "teectl: usage: teectl run [IMAGE] | race | gen N\n"
status_text names (BadLine n) = codes "teectl: line " ++ decimal n ++ codes " is not a script line\n"
status_text names TooLong = codes "teectl: script too long\n"
status_text names (StoreRefused why) = codes "teectl: store refused: " ++ why_text why ++ codes "\n"
status_text names (LogFull app) = codes "teectl: log of " ++ slice_index_or names app [] ++ codes " is full\n"
status_text names NoMemory = codes "teectl: out of memory\n"
status_text names ReadFault = codes "teectl: cannot read\n"
status_text names WriteFault = codes "teectl: cannot write\n"
status_text names BoardFault = codes "teectl: board failed\n"

-- how a run ends whose board wasn't opened
abbrev pub refusal_of : OpenAnswer → Status
refusal_of (answers.TooSmall blocks) = StoreRefused (answers.TooSmall blocks)
refusal_of (answers.NoVolume counter) = StoreRefused (answers.NoVolume counter)
refusal_of (answers.BadHeader slot found kept) = StoreRefused (answers.BadHeader slot found kept)
refusal_of (answers.UnknownVersion version) = StoreRefused (answers.UnknownVersion version)
refusal_of (answers.Rollback sequence counter) = StoreRefused (answers.Rollback sequence counter)
refusal_of (answers.Ahead sequence counter) = StoreRefused (answers.Ahead sequence counter)
refusal_of (answers.OldMismatch tags) = StoreRefused (answers.OldMismatch tags)
refusal_of (answers.OldGarbled region leaf) = StoreRefused (answers.OldGarbled region leaf)
refusal_of answers.Failed = BoardFault
refusal_of answers.NoMemory = NoMemory

-- how a run ends whose lines stopped
abbrev pub stopped_as : Stop → Status
stopped_as stops.NoMemory = NoMemory
stopped_as stops.WriteFault = WriteFault
stopped_as (stops.Refused why) = refusal_of why
