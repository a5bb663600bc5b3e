use Rattle.script.proofs.ParseLaws.{either}
use Rattle.script.proofs.Places.{not_both, one_line, one_script}
use Rattle.script.proofs.laws.one_reading.Goals as goal

pub returns-clause-script : goal.returns-clause-script
returns-clause-script g c = one_script

pub returns-clause-line : goal.returns-clause-line
returns-clause-line g c = one_line

pub returns-clause-not_both : goal.returns-clause-not_both
returns-clause-not_both g c = not_both

pub returns-clause-either : goal.returns-clause-either
returns-clause-either g c = either
