use Rattle.std.proofs.Common.{◌≡◌, ◌≤◌, ◌+◌, ◌++◌, drop}
use Rattle.alone.specs.KeptLogs.{log_with_replies}
use Rattle.report.specs.LogTexts.{log_text}
use Rattle.report.proofs.LogTexts.{text_from}
use Rattle.report.proofs.log.log_lines.Given as goal

-- the text so far, with that of the entries and replies that are left, is that of the log; a number of an operation is used by a
-- call, so by an entry
abbrev pub invariant-loop-entry : goal.invariant-loop-entry
invariant-loop-entry l = record {
  text : l.text ++ text_from l.name l.place l.op (log_with_replies (drop l.entry-index l.entries) l.left) ≡ log_text l.name l.log.entries;
  place : l.place ≡ l.entry-index;
  op : l.op ≤ l.place + 1;
}
