use Rattle.std.proofs.Common.{◌≡◌, ◌++◌}
use Rattle.std.specs.List.{flat_map}
use Rattle.report.specs.Texts.{count_text}
use Rattle.report.proofs.line.LineBuffer.counts.Given as goal

-- the lines so far, with those of the codes that are left, are all of them
abbrev pub invariant-loop-code : goal.invariant-loop-code
invariant-loop-code l = l.self ++ flat_map count_text l.code-iterator ≡ l.initial.self ++ flat_map count_text l.counts.entries
