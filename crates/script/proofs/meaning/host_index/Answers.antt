use Rattle.std.proofs.Common.{◌∙◌, ap, sym}
use Rattle.script.specs.Lines.{id_at, id_of, or_else}
use Rattle.script.proofs.meaning.host_index.Goals as goal

pub returns-in-Some-id_of : goal.returns-in-Some-id_of
returns-in-Some-id_of g c =
    c.index_of_id.ensures
    ∙ ap (id_at c.args.hosts.now) (sym c.in-Some-id_of.is ∙ c.id_of.ensures)
    ∙ ap (λ found. or_else found (id_at c.args.hosts.now (id_of c.args.word.now))) (sym c.in_default.is ∙ c.index_of_name.ensures)
