-- How a log is kept: its entries without their replies, and beside them one list of all replies.
use Rattle.std.specs.Prelude.{ℕ, ◌≡◌, ◌+◌, ◌≤◌, List, [], ◌∷◌, take, drop, length, max}
use Rattle.tee_base.specs.declared.limits.TheConstants.{MAX_LOG_BYTES}
use Rattle.alone.specs.declared.log_entry.LogEntry.{LogEntry}
use Rattle.alone.specs.declared.log_entry.LogEvent.{LogEvent}
use Rattle.alone.specs.declared.log_entry.LogEvent.TheVariants as events
use Rattle.alone.specs.declared.reply.Reply.{Reply}
use Rattle.alone.specs.Logs.{Logged, entry, bytes_in}
use Rattle.alone.specs.Step.{Event, Called, Cancelled, Turned, TurnLost, Corrupted, Lost, Starved}

-- what an entry of this client tells of
abbrev pub event_by : ℕ → LogEvent → Event
event_by client (events.Call call) = Called client call
event_by client (events.Cancel op) = Cancelled op
event_by client (events.Turn instance) = Turned instance
event_by client (events.TurnLost instance) = TurnLost instance
event_by client (events.Corrupted instance) = Corrupted instance
event_by client events.Lost = Lost
event_by client (events.Starve instance) = Starved instance

-- how many replies these entries have
abbrev pub reply_count : List LogEntry → ℕ
reply_count [] = 0
reply_count (e ∷ entries) = e.replies + reply_count entries

-- the log of these entries, to which these replies belong in order
abbrev pub log_with_replies : List LogEntry → List Reply → List Logged
log_with_replies [] replies = []
log_with_replies (e ∷ entries) replies = entry e.client (event_by e.client e.event) (take e.replies replies) ∷ log_with_replies entries (drop e.replies replies)

-- for each reply the greatest number of an operation that was answered by then, where this was the greatest before them
abbrev pub highs_from : ℕ → List Reply → List ℕ
highs_from high [] = []
highs_from high (reply ∷ replies) = max high reply.op ∷ highs_from (max high reply.op) replies

-- the last of these numbers, and this one where there is none
abbrev pub last_high : ℕ → List ℕ → ℕ
last_high high [] = high
last_high high (next ∷ highs) = last_high next highs

-- each reply belongs to an entry, and has its number beside it; the bytes are counted, and are no more than a log may hold
pub record IsKept (entries : List LogEntry) (replies : List Reply) (highs : List ℕ) (bytes : ℕ) : Type 0 where
  pub counted : reply_count entries ≡ length replies
  pub numbered : highs ≡ highs_from 0 replies
  pub summed : bytes ≡ bytes_in (log_with_replies entries replies)
  pub few : bytes ≤ MAX_LOG_BYTES
