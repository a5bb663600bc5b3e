use Rattle.std.proofs.Common.{None, length, subst, sym}
use Rattle.tee_core.proofs.DirectoryLemmas.{held_none}
use Rattle.shared_parts.proofs.OpeningLemmas.{opened_begun, storage_begun}
use Rattle.shared_parts.specs.StorageParts.{IsStorage, parts_by}
use Rattle.shared_parts.proofs.storage.Storage.new.Goals as goal

pub invariant_of-result : goal.invariant_of-result
invariant_of-result g c =
    let seen = c.in-Ok.seen.items in
    subst (λ (o : g.row.V.Denot). IsStorage g.V.Volume.keeper (length seen) c.args.volume o None c.none.result.places (parts_by g.V.Volume.keeper g.A.Application.behaviour None seen))
    (sym c.of-opened.ensures)
    (storage_begun g.V.Volume.keeper g.A.Application.behaviour c.args.volume g.met.V.Volume.rests c.requires.works c.args.sides.now c.requires.some c.requires.calm c.requires.few seen c.in-Ok.ensures
    c.none.result.places (held_none (g.V.Volume.keeper.held c.args.volume).leaves c.none.result.places c.none.ensures))

pub returns-in-Ok-clause-parts : goal.returns-in-Ok-clause-parts
returns-in-Ok-clause-parts g c =
    opened_begun g.V.Volume.keeper g.A.Application.behaviour c.args.volume g.met.V.Volume.rests c.requires.works c.args.sides.now c.requires.some c.requires.calm c.requires.few c.in-Ok.seen.items
    c.in-Ok.ensures c.none.result.places (held_none (g.V.Volume.keeper.held c.args.volume).leaves c.none.result.places c.none.ensures)
