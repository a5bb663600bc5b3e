use Rattle.std.proofs.Common.{◌≡◌, ◌-◌, ◌<◌, ℕ, Some, false, refl}
use Rattle.boards.proofs.Answered.{handed}
use Rattle.boards.proofs.Counted.{called_err, ended, stopped, writes_same}
use Rattle.boards.proofs.file.FileBoardBoard.advance.Goals as goal

pub returns-in_err-begin-clause-call : goal.returns-in_err-begin-clause-call
returns-in_err-begin-clause-call g c =
    let b = c.in_err-begin.ensures in
    let self = c.args.self.now in
    called_err c.from_residual.result _ _ c.from_residual.ensures.0 (stopped self.blocks self.keys.key _ self.counts c.begin.new.self b.after b.later (b.cause (refl {a = false})))

pub returns-clause-call : goal.returns-clause-call
returns-clause-call g c =
    let b = c.in_ok-begin.ensures in
    let e = c.end.ensures in
    let self = c.args.self.now in
    ended self.blocks self.keys.key _ self.counts c.begin.new.self _ c.end.new.self b.ok b.after e.after e.later e.cause

pub returns-clause-writes : goal.returns-clause-writes
returns-clause-writes g c =
    writes_same _ c.args.self.now.counts c.begin.new.self c.end.new.self _ c.in_ok-begin.ensures.after c.end.ensures.after

pub returns-clause-value : goal.returns-clause-value
returns-clause-value g c =
    handed c.raise-answer.result c.end.result (λ (n : ℕ). (0 < n) × (c.args.self.now.counter.number ≡ Some (n - 1))) c.end.ensures.value c.raise-answer.ensures.raised

pub returns-clause-known : goal.returns-clause-known
returns-clause-known g c =
    handed c.raise-answer.result c.end.result (λ (n : ℕ). c.raise-answer.new.self.number ≡ Some n) c.end.ensures.value c.raise-answer.ensures.known
