use Rattle.script.proofs.ParseLaws.{bad_line, complete, first_bad, found}
use Rattle.script.proofs.script.parse_in.Goals as goal

pub returns-clause-found : goal.returns-clause-found
returns-clause-found g c = found c.args.dialect c.args.hosts.now c.args.text.now c.read_script.result c.requires c.read_script.ensures

pub returns-clause-complete : goal.returns-clause-complete
returns-clause-complete g c = complete c.args.dialect c.args.hosts.now c.args.text.now c.read_script.result c.requires c.read_script.ensures

pub returns-clause-bad_line : goal.returns-clause-bad_line
returns-clause-bad_line g c = bad_line c.args.dialect c.args.hosts.now c.args.text.now c.read_script.result c.requires c.read_script.ensures

pub returns-clause-first_bad : goal.returns-clause-first_bad
returns-clause-first_bad g c = first_bad c.args.dialect c.args.hosts.now c.args.text.now c.read_script.result c.requires c.read_script.ensures
