-- What is told of a volume that was opened again.
use Rattle.std.specs.Prelude.{ℕ, ◌+◌, ◌==◌, not, if◌then◌else◌, Bool, false, Option, None, Some, Result, Ok, Err}
use Rattle.epoch.specs.Opening.{is_no_failure}
use Rattle.epoch.specs.declared.answer.OpenAnswer.{OpenAnswer}
use Rattle.epoch.specs.declared.header.Header.{Header}
use Rattle.epoch.specs.declared.taking.Reopened.{Reopened}
use Rattle.tee_base.specs.Words.{Sequence}

-- what is told of the header that was found, where this version is written: its sequence, 0 where there is none, and whether the
-- volume was then taken over, since the header is of another version
abbrev pub reopened_of : ℕ → Option Header → Reopened
reopened_of version None = record { sequence = 0; rewritten = false }
reopened_of version (Some header) = record { sequence = header.sequence; rewritten = not (header.version == version) }

-- the sequence of a volume that was opened again: the commit that takes a volume over is one more
abbrev pub sequence_after : Reopened → Sequence
sequence_after told = if told.rewritten then told.sequence + 1 else told.sequence

-- the answer shows that nothing was taken over: an Ok that says so, and each error but that a call of the board failed
abbrev pub shows_kept : Result Reopened OpenAnswer → Bool
shows_kept (Ok told) = not told.rewritten
shows_kept (Err why) = is_no_failure why
