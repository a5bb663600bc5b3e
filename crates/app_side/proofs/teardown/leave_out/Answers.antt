use Rattle.std.proofs.Common.{not, rules}
use Rattle.std.proofs.lemmas.Fn.{filter_same}
use Rattle.alone.specs.declared.active_entry.Instance.{Instance}
use Rattle.alone.specs.Machine.{is_number}
use Rattle.app_side.proofs.teardown.leave_out.Goals as goal

pub returns : goal.returns
returns g c = filter_same _ (λ (other : Instance g.row.A.Denot). not (is_number c.args.number other)) _ (λ x b f h. search (rules, h)) _ _ c.retain.ensures.filtered
