use Rattle.std.proofs.Common.{refl}
use Rattle.store_api.specs.Stores.{read_at}
use Rattle.store_api.specs.Limits.{IsPart}
use Rattle.object_dir.proofs.DirectoryLemmas.{reads_noted}
use Rattle.object_dir.proofs.UseLemmas.{fits}
use Rattle.object_dir.proofs.directory.ObjectDirAppStore.read.Goals as goal

pub returns-clause-reads : goal.returns-clause-reads
returns-clause-reads g c = reads_noted g.V.Volume.keeper
    (record { whole = g.met.V.Volume.whole; tells = g.met.V.Volume.honest_tells; found = g.met.V.Volume.found })
    g.met.V.Volume.since_earlier (λ store. read_at store c.args.id.now c.args.from c.args.count) (IsPart c.args.count) c.content-answer.result
    c.args.self.now _ c.refusal.result c.refusal.ensures c.note.ensures refl c.content-answer.ensures.reads

pub returns-clause-region : goal.returns-clause-region
returns-clause-region g c = c.content-answer.ensures.reads

pub returns-clause-part : goal.returns-clause-part
returns-clause-part g c = c.content-answer.ensures.found

pub content-answer-requires-clause-fits : goal.content-answer-requires-clause-fits
content-answer-requires-clause-fits g c = fits _ g.met.V.Volume.whole
