use Rattle.std.proofs.Common.{refl}
use Rattle.store_api.specs.Stores.{read_at}
use Rattle.store_api.specs.Limits.{IsPart}
use Rattle.object_dir.proofs.KeptDirLemmas.{kept_reads}
use Rattle.object_dir.proofs.kept_dir.KeptDirAppStore.read.Goals as goal

pub returns-clause-reads : goal.returns-clause-reads
returns-clause-reads g c = kept_reads g.V.Volume.keeper
    (record { whole = g.met.V.Volume.whole; tells = g.met.V.Volume.honest_tells; found = g.met.V.Volume.found })
    g.met.V.Volume.sound g.met.V.Volume.since_earlier (λ store. read_at store c.args.id.now c.args.from c.args.count) (IsPart c.args.count) c.read_in-answer.result c.args.self.now _
    c.refusal.result c.refusal.ensures c.note.ensures refl c.read_in-answer.ensures.reads

pub returns-clause-region : goal.returns-clause-region
returns-clause-region g c = c.read_in-answer.ensures.reads

pub returns-clause-part : goal.returns-clause-part
returns-clause-part g c = c.read_in-answer.ensures.part
