use Rattle.std.proofs.Common.{◌≤◌, List, ap, arith, length, subst, sym, Err}
use Rattle.std.specs.List.{AllByRecursion}
use Rattle.script.specs.Grammar.{FirstBad, Reads}
use Rattle.script.specs.declared.line.Line.{Line}
use Rattle.tee_base.specs.declared.limits.TheConstants.{MAX_SCRIPT_BYTES}
use Rattle.run_board.specs.Reading.{IsKnown, ReadsTo}
use Rattle.run_board.specs.declared.status.Status.TheVariants.{BadLine}
use Rattle.run_board.proofs.Ended.{read_told, told_all, unread_told}
use Rattle.run_board.proofs.Known.{few_lines, known_lines}
use Rattle.run_board.proofs.reading.read_lines.Goals as goal

pub returns-in-Ok-parse_in-clause-read : goal.returns-in-Ok-parse_in-clause-read
returns-in-Ok-parse_in-clause-read g c =
    let text = c.in-Ok.text in
    let dialect = c.args.dialect in
    let hosts = c.args.hosts.now in
    let script = c.in-Ok-parse_in.script in
    let whole = c.in-Ok.ensures.whole in
    let end = c.in-Ok.ensures.at_end in
    read_told g.S.Source dialect hosts c.args.source.now c.read_all.new.source c.requires script
    (told_all _ _ text whole end (λ t. Reads dialect hosts t script) (subst (λ t. Reads dialect hosts t script) c.as_slice.ensures c.in-Ok-parse_in.ensures.found))
    (told_all _ _ text whole end (λ t. length t ≤ MAX_SCRIPT_BYTES) c.in-Ok.ensures.within) end (text, omega (arith, c.in-Ok.ensures.within), whole)

pub returns-in-Ok-parse_in-clause-lines : goal.returns-in-Ok-parse_in-clause-lines
returns-in-Ok-parse_in-clause-lines g c =
    let text = c.in-Ok.text in
    let dialect = c.args.dialect in
    let hosts = c.args.hosts.now in
    let script = c.in-Ok-parse_in.script in
    let found : Reads dialect hosts text script = subst (λ t. Reads dialect hosts t script) c.as_slice.ensures c.in-Ok-parse_in.ensures.found in
    let few : length script ≤ MAX_SCRIPT_BYTES = omega (arith, few_lines dialect hosts text script found, c.in-Ok.ensures.within) in
    record {
      read =
          subst (λ (lines : List Line). ReadsTo dialect hosts (g.S.Source.left c.args.source.now) lines) (sym c.into_lines.ensures)
          (told_all _ _ text c.in-Ok.ensures.whole c.in-Ok.ensures.at_end (λ t. Reads dialect hosts t script) found);
      known = subst (λ (lines : List Line). AllByRecursion (IsKnown (length hosts)) lines) (sym c.into_lines.ensures) (known_lines dialect hosts text script found);
      few = subst (λ (lines : List Line). length lines ≤ MAX_SCRIPT_BYTES) (sym c.into_lines.ensures) few;
    }

pub returns-in-Err-BadLine-clause-read : goal.returns-in-Err-BadLine-clause-read
returns-in-Err-BadLine-clause-read g c =
    let text = c.in-Ok.text in
    let dialect = c.args.dialect in
    let hosts = c.args.hosts.now in
    let number = c.in-Err-BadLine.number in
    let whole = c.in-Ok.ensures.whole in
    let end = c.in-Ok.ensures.at_end in
    let bad : FirstBad dialect hosts text number =
    subst (λ t. FirstBad dialect hosts t number) c.as_slice.ensures (c.in-Err-BadLine.ensures.bad_line number (ap (λ why. Err why) c.in-Err-BadLine.field-0-is)) in
    unread_told g.S.Source dialect hosts c.args.source.now c.read_all.new.source c.requires (BadLine number) tt (
      told_all _ _ text whole end (λ t. FirstBad dialect hosts t number) bad,
      told_all _ _ text whole end (λ t. length t ≤ MAX_SCRIPT_BYTES) c.in-Ok.ensures.within,
      end,
    )
    (text, omega (arith, c.in-Ok.ensures.within), whole)
