use Rattle.std.proofs.Common.{refl, option_copied}
use Rattle.store_api.specs.Stores.{next_after}
use Rattle.store_api.specs.Limits.{IsListed}
use Rattle.object_dir.proofs.DirectoryLemmas.{reads_noted}
use Rattle.object_dir.proofs.UseLemmas.{fits}
use Rattle.object_dir.proofs.directory.ObjectDirAppStore.next_after.Goals as goal

pub returns-clause-reads : goal.returns-clause-reads
returns-clause-reads g c = reads_noted g.V.Volume.keeper
    (record { whole = g.met.V.Volume.whole; tells = g.met.V.Volume.honest_tells; found = g.met.V.Volume.found })
    g.met.V.Volume.since_earlier (λ store. next_after store (option_copied c.args.last)) IsListed c.next_after-answer.result c.args.self.now _
    c.refusal.result c.refusal.ensures c.note.ensures refl c.next_after-answer.ensures

pub returns-clause-region : goal.returns-clause-region
returns-clause-region g c = c.next_after-answer.ensures

pub next_after-answer-requires : goal.next_after-answer-requires
next_after-answer-requires g c = fits _ g.met.V.Volume.whole
