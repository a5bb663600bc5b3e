use Rattle.std.proofs.Common.{false, refl}
use Rattle.boards.proofs.Counted.{called_err, ended, stopped}
use Rattle.boards.proofs.file.FileBoardBoard.write.Goals as goal

pub returns-in_err-begin-clause-call : goal.returns-in_err-begin-clause-call
returns-in_err-begin-clause-call g c =
    let b = c.in_err-begin.ensures in
    let self = c.args.self.now in
    called_err c.from_residual.result _ _ c.from_residual.ensures.0 (stopped self.blocks self.keys.key _ self.counts c.begin.new.self b.after b.later (b.cause (refl {a = false})))

pub returns-clause-call : goal.returns-clause-call
returns-clause-call g c =
    let b = c.in_ok-begin.ensures in
    let e = c.end.ensures in
    let self = c.args.self.now in
    ended self.blocks self.keys.key _ self.counts c.begin.new.self _ c.end.new.self b.ok b.after e.after e.later e.cause
