use Rattle.std.proofs.Common.{◌≡◌, ◌∙◌, ℕ, List, sym, ap, subst}
use Rattle.store_api.specs.declared.change.Change.{Change}
use Rattle.store_api.specs.declared.change.Change.TheVariants.{Put, Delete, Rename, Write}
use Rattle.region_plan.specs.Planning.{PlansFrom}
use Rattle.region_plan.specs.Reading.{leaves_of}
use Rattle.region_plan.proofs.DirectoryLemmas.{inodes_by, map_by, within_by, writable_by}
use Rattle.region_plan.proofs.MadeLemmas.{decided_reads, decided_told}
use Rattle.region_plan.proofs.ReadLemmas.{reads_started}
use Rattle.region_plan.proofs.directory.Directory.plan.Goals as goal

pub returns-in-Put : goal.returns-in-Put
returns-in-Put g c =
    let K = g.L.LeafSource.keeper in
    let R = g.L.LeafSource.region in
    let same : Put c.as_slice.result.now c.in-Put.kind c.in-Put.usage c.as_slice-in-Put.result.now c.as_slice-content.result.now c.in-Put.overwrite ≡ c.args.change.now = (λ i. Put
    (c.as_slice.ensures i) c.in-Put.kind c.in-Put.usage (c.as_slice-in-Put.ensures i)
    (c.as_slice-content.ensures i) c.in-Put.overwrite) ∙ sym c.in-Put.is in
    subst (λ (change : Change). PlansFrom K R c.args.self.now change c.plan_put.result c.args.from.now c.plan_put.new.from) same
    (record {
      plans = λ h is store stands. c.plan_put.ensures.plans h
          (map_by c.args.self.now c.requires.form (leaves_of K R c.args.from.now) is)
          (inodes_by c.args.self.now c.requires.form (leaves_of K R c.args.from.now) is) store stands;
      named = c.plan_put.ensures.named;
      garbled = c.plan_put.ensures.garbled;
      reads = c.plan_put.ensures.reads;
    })

pub returns-in-Delete : goal.returns-in-Delete
returns-in-Delete g c =
    let K = g.L.LeafSource.keeper in
    let R = g.L.LeafSource.region in
    subst (λ (change : Change). PlansFrom K R c.args.self.now change c.plan_delete.result c.args.from.now c.args.from.now)
    (ap (λ (id : List ℕ). Delete id) c.as_slice-in-Delete.ensures ∙ sym c.in-Delete.is)
    (record {
      plans = λ h is store stands. c.plan_delete.ensures.plans (leaves_of K R c.args.from.now)
          (map_by c.args.self.now c.requires.form (leaves_of K R c.args.from.now) is)
          (inodes_by c.args.self.now c.requires.form (leaves_of K R c.args.from.now) is) store stands;
      named = c.plan_delete.ensures.named;
      garbled = decided_told _ _ c.plan_delete.ensures.decided;
      reads = decided_reads K R _ c.args.from.now c.args.from.now c.plan_delete.ensures.decided
          (reads_started K R c.args.from.now c.requires.works (g.met.L.LeafSource.rests c.args.from.now));
    })

pub returns-in-Rename : goal.returns-in-Rename
returns-in-Rename g c =
    let K = g.L.LeafSource.keeper in
    let R = g.L.LeafSource.region in
    let same : Rename c.as_slice-in-Rename.result.now c.as_slice-in-Rename-2.result.now ≡ c.args.change.now =
    (λ i. Rename (c.as_slice-in-Rename.ensures i) (c.as_slice-in-Rename-2.ensures i)) ∙ sym c.in-Rename.is in
    subst (λ (change : Change). PlansFrom K R c.args.self.now change c.plan_rename.result c.args.from.now c.args.from.now) same
    (record {
      plans = λ h is store stands. c.plan_rename.ensures.plans (leaves_of K R c.args.from.now) (inodes_by c.args.self.now c.requires.form (leaves_of K R c.args.from.now) is) store stands;
      named = c.plan_rename.ensures.named;
      garbled = decided_told _ _ c.plan_rename.ensures.decided;
      reads = decided_reads K R _ c.args.from.now c.args.from.now c.plan_rename.ensures.decided
          (reads_started K R c.args.from.now c.requires.works (g.met.L.LeafSource.rests c.args.from.now));
    })

pub returns-in-Write : goal.returns-in-Write
returns-in-Write g c =
    let K = g.L.LeafSource.keeper in
    let R = g.L.LeafSource.region in
    let same : Write c.as_slice-in-Write.result.now c.in-Write.at c.as_slice-bytes.result.now ≡ c.args.change.now = (λ i. Write (c.as_slice-in-Write.ensures i) c.in-Write.at
    (c.as_slice-bytes.ensures i)) ∙ sym c.in-Write.is in
    subst (λ (change : Change). PlansFrom K R c.args.self.now change c.plan_write.result c.args.from.now c.plan_write.new.from) same
    (record {
      plans = λ h is store stands. c.plan_write.ensures.plans h
          (map_by c.args.self.now c.requires.form (leaves_of K R c.args.from.now) is)
          (inodes_by c.args.self.now c.requires.form (leaves_of K R c.args.from.now) is) store stands;
      named = c.plan_write.ensures.named;
      garbled = c.plan_write.ensures.garbled;
      reads = c.plan_write.ensures.reads;
    })

pub plan_put-requires-clause-within : goal.plan_put-requires-clause-within
plan_put-requires-clause-within g c = within_by c.args.self.now c.requires.form c.requires.bounded

pub plan_put-requires-clause-writable : goal.plan_put-requires-clause-writable
plan_put-requires-clause-writable g c = writable_by c.args.self.now c.requires.form c.requires.bounded

pub plan_write-requires-clause-within : goal.plan_write-requires-clause-within
plan_write-requires-clause-within g c = within_by c.args.self.now c.requires.form c.requires.bounded

pub plan_write-requires-clause-writable : goal.plan_write-requires-clause-writable
plan_write-requires-clause-writable g c = writable_by c.args.self.now c.requires.form c.requires.bounded

pub plan_truncate-requires-clause-within : goal.plan_truncate-requires-clause-within
plan_truncate-requires-clause-within g c = within_by c.args.self.now c.requires.form c.requires.bounded

pub plan_truncate-requires-clause-writable : goal.plan_truncate-requires-clause-writable
plan_truncate-requires-clause-writable g c = writable_by c.args.self.now c.requires.form c.requires.bounded

pub plan_delete-requires-clause-within : goal.plan_delete-requires-clause-within
plan_delete-requires-clause-within g c = within_by c.args.self.now c.requires.form c.requires.bounded

pub plan_delete-requires-clause-writable : goal.plan_delete-requires-clause-writable
plan_delete-requires-clause-writable g c = writable_by c.args.self.now c.requires.form c.requires.bounded

pub plan_rename-requires-clause-within : goal.plan_rename-requires-clause-within
plan_rename-requires-clause-within g c = within_by c.args.self.now c.requires.form c.requires.bounded
