use Rattle.std.proofs.Common.{◌≡◌, ◌++◌, drop}
use Rattle.script.specs.Canonical.{canonical, canonical_from}
use Rattle.script.proofs.canonical.text_of.Given as goal

-- the text so far, and then the text of the lines from here on, is that of all
abbrev pub invariant-loop-line : goal.invariant-loop-line
invariant-loop-line g l = l.text ++ canonical_from l.hosts l.before (drop l.line-index l.lines) ≡ canonical l.hosts l.lines
