use Rattle.std.proofs.Common.{refl}
use Rattle.store_api.specs.Stores.{secret_at}
use Rattle.store_api.specs.Limits.{IsSecret}
use Rattle.object_dir.proofs.DirectoryLemmas.{reads_noted}
use Rattle.object_dir.proofs.UseLemmas.{fits}
use Rattle.object_dir.proofs.directory.ObjectDirAppStore.secret.Goals as goal

pub returns-clause-reads : goal.returns-clause-reads
returns-clause-reads g c = reads_noted g.V.Volume.keeper
    (record { whole = g.met.V.Volume.whole; tells = g.met.V.Volume.honest_tells; found = g.met.V.Volume.found })
    g.met.V.Volume.since_earlier (λ store. secret_at store c.args.id.now) IsSecret c.secret-answer.result c.args.self.now _ c.refusal.result
    c.refusal.ensures c.note.ensures refl c.secret-answer.ensures

pub returns-clause-region : goal.returns-clause-region
returns-clause-region g c = c.secret-answer.ensures

pub secret-answer-requires-clause-fits : goal.secret-answer-requires-clause-fits
secret-answer-requires-clause-fits g c = fits _ g.met.V.Volume.whole
