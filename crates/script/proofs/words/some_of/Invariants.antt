use Rattle.std.proofs.Common.{◌≡◌, ◌++◌, drop, map}
use Rattle.std.specs.List.{filter}
use Rattle.script.specs.Lines.{is_some_word}
use Rattle.script.proofs.words.some_of.Given as goal

-- the words so far, and those of the parts from here on, are those of all
abbrev pub invariant-loop-part : goal.invariant-loop-part
invariant-loop-part l = map (λ word. word.now) l.words.items ++ filter is_some_word (map (λ part. part.now) (drop l.part-index l.parts)) ≡ filter is_some_word (map (λ part. part.now) l.parts)
