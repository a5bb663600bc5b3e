use Rattle.std.proofs.Common.{inl, refl, subst}
use Rattle.script.specs.declared.dialect.Dialect.TheVariants.{Whole}
use Rattle.run_board.specs.Reading.{IsReadStatus}
use Rattle.run_board.proofs.Ended.{script_told}
use Rattle.teectl.proofs.Checks.{read_checks, unread_memory}
use Rattle.teectl.proofs.check.check_script.Goals as goal

pub returns-in-Ok-clause-read : goal.returns-in-Ok-clause-read
returns-in-Ok-clause-read g c = c.in-Ok.ensures.read

pub returns-in-Ok-clause-script : goal.returns-in-Ok-clause-script
returns-in-Ok-clause-script g c = λ e. (c.in-Ok.lines.items, c.in-Ok.ensures.lines.read)

pub returns-in-Ok-clause-each_script : goal.returns-in-Ok-clause-each_script
returns-in-Ok-clause-each_script g c = λ text script readable good. inl refl

pub returns-in-Ok-clause-few : goal.returns-in-Ok-clause-few
returns-in-Ok-clause-few g c = tt

pub returns-in-Err-clause-read : goal.returns-in-Err-clause-read
returns-in-Err-clause-read g c = c.in-Err.ensures.read

pub returns-in-Err-clause-script : goal.returns-in-Err-clause-script
returns-in-Err-clause-script g c = λ e. absurd (subst IsReadStatus e c.in-Err.ensures.few)

pub returns-in-Err-clause-each_script : goal.returns-in-Err-clause-each_script
returns-in-Err-clause-each_script g c = λ text script readable good.
    unread_memory c.in-Err.status c.in-Err.ensures.few
    (script_told g.S.Source Whole c.args.hosts.now c.args.source.now c.read_lines.new.source c.requires c.in-Err.status c.in-Err.ensures.read.says text script readable good)

pub returns-in-Err-clause-few : goal.returns-in-Err-clause-few
returns-in-Err-clause-few g c = read_checks c.in-Err.status c.in-Err.ensures.few
