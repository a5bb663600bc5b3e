use Rattle.std.proofs.Common.{refl}
use Rattle.store_api.specs.Stores.{found}
use Rattle.store_api.specs.Limits.{AreFacts}
use Rattle.object_dir.proofs.DirectoryLemmas.{reads_noted}
use Rattle.object_dir.proofs.UseLemmas.{fits}
use Rattle.object_dir.proofs.directory.ObjectDirAppStore.find.Goals as goal

pub returns-clause-reads : goal.returns-clause-reads
returns-clause-reads g c = reads_noted g.V.Volume.keeper
    (record { whole = g.met.V.Volume.whole; tells = g.met.V.Volume.honest_tells; found = g.met.V.Volume.found })
    g.met.V.Volume.since_earlier (λ store. found store c.args.id.now) AreFacts c.facts-answer.result c.args.self.now _ c.refusal.result
    c.refusal.ensures c.note.ensures refl c.facts-answer.ensures

pub returns-clause-region : goal.returns-clause-region
returns-clause-region g c = c.facts-answer.ensures

pub facts-answer-requires-clause-fits : goal.facts-answer-requires-clause-fits
facts-answer-requires-clause-fits g c = fits _ g.met.V.Volume.whole
