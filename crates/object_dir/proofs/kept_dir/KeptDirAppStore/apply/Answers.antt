use Rattle.object_dir.proofs.KeptDirLemmas.{kept_applies}
use Rattle.object_dir.proofs.kept_dir.KeptDirAppStore.apply.Goals as goal

pub returns-clause-applies : goal.returns-clause-applies
returns-clause-applies g c = kept_applies g.V.Volume.keeper
    (record { whole = g.met.V.Volume.whole; tells = g.met.V.Volume.honest_tells; found = g.met.V.Volume.found })
    g.met.V.Volume.sound g.met.V.Volume.rests c.args.change.now c.change_in-answer.result c.args.self.now _ c.refusal.result c.refusal.ensures
    c.note.ensures c.one_more.ensures c.change_in-answer.ensures

pub returns-clause-region : goal.returns-clause-region
returns-clause-region g c = c.change_in-answer.ensures
