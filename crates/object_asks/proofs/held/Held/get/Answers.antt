use Rattle.std.proofs.Common.{◌≡◌, is_some, subst}
use Rattle.handle_table.specs.Handles.{is_there}
use Rattle.object_asks.specs.Handles.{without_rename}
use Rattle.object_asks.specs.Held.{Held}
use Rattle.object_asks.proofs.HandleLemmas.{result_has, result_there}
use Rattle.object_asks.proofs.held.Held.get.Goals as goal

pub returns-clause-identifier : goal.returns-clause-identifier
returns-clause-identifier c = result_has (λ b. b.now) c.get.result c.self.inside.table.handles c.args.instance c.args.number c.self.invariant.identifiers c.get.ensures

pub returns-clause-there : goal.returns-clause-there
returns-clause-there c =
    subst (λ (h : Held). is_some c.get.result ≡ is_there (without_rename h.handles) c.args.instance c.args.number) c.self.view_is
    (result_there (λ b. b.now) c.get.result c.self.inside.table.handles c.args.instance c.args.number c.get.ensures)
