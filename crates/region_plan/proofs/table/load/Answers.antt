use Rattle.std.proofs.Common.{◌∙◌, ℕ, List, Some, rules, sym, subst}
use Rattle.std.specs.Prelude.{IsTrue}
use Rattle.region_plan.specs.Layout.{layout}
use Rattle.region_plan.specs.Places.{AreWritable, IsMapOf, entries_in}
use Rattle.region_plan.specs.Reading.{AreWhole, IfGarbled, IsBroken, IsSound, leaves_of, refusal_of}
use Rattle.region_plan.specs.Regions.{breaks}
use Rattle.region_plan.specs.declared.inode.Inode.{Inode}
use Rattle.region_plan.proofs.ContentLemmas.{if_ok, on_ok}
use Rattle.region_plan.proofs.EntryLemmas.{follows_is, follows_writable}
use Rattle.region_plan.proofs.FormLemmas.{laid_by}
use Rattle.region_plan.proofs.ReadLemmas.{leaves_stay}
use Rattle.region_plan.proofs.RegionLemmas.{never_told, refused_breaks, told_breaks, sound_from}
use Rattle.region_plan.proofs.table.load.Goals as goal

pub returns-in_err-read_map-clause-garbled : goal.returns-in_err-read_map-clause-garbled
returns-in_err-read_map-clause-garbled g c =
    refused_breaks g.L.LeafSource.keeper g.L.LeafSource.region (layout c.args.form) c.from_residual.result c.in_err-read_map.field-0.0 c.args.from.now (search rules)
    (never_told (Some c.in_err-read_map.field-0.0) (λ n. IsBroken g.L.LeafSource.keeper g.L.LeafSource.region (layout c.args.form) c.args.from.now n) c.in_err-read_map.ensures.garbled)

pub returns-in_err-check_map-clause-garbled : goal.returns-in_err-check_map-clause-garbled
returns-in_err-check_map-clause-garbled g c =
    let K = g.L.LeafSource.keeper in
    let R = g.L.LeafSource.region in
    refused_breaks K R (layout c.args.form) c.from_residual-in_err-check_map.result c.in_err-check_map.field-0.0 c.args.from.now (search rules)
    (told_breaks K R (layout c.args.form) (Some c.in_err-check_map.field-0.0) c.args.from.now c.in_err-check_map.ensures.few
    (λ h. c.in_err-check_map.ensures.garbled (leaves_of K R c.args.from.now) (c.in_ok-read_map.ensures.map h)))

pub returns-clause-garbled : goal.returns-clause-garbled
returns-clause-garbled g c =
    let K = g.L.LeafSource.keeper in
    let R = g.L.LeafSource.region in
    told_breaks K R (layout c.args.form) (refusal_of c.read_inodes.result) c.args.from.now c.read_inodes.ensures.few
    (λ h.
    let same = leaves_stay K R c.args.from.now c.read_map.new.from c.in_ok-read_map.ensures.reads h in
    let first = subst (λ (l : ℕ → List ℕ). IsMapOf (layout c.args.form) l c.read_map.new.map) (sym same) (c.in_ok-read_map.ensures.map h) in
    subst (λ (l : ℕ → List ℕ). IfGarbled (refusal_of c.read_inodes.result) (λ n. IsTrue (breaks (layout c.args.form) l n))) same (c.read_inodes.ensures.garbled h first))

pub returns-clause-sound : goal.returns-clause-sound
returns-clause-sound g c h =
    let K = g.L.LeafSource.keeper in
    let R = g.L.LeafSource.region in
    let same = leaves_stay K R c.args.from.now c.read_map.new.from c.in_ok-read_map.ensures.reads h in
    let first = subst (λ (l : ℕ → List ℕ). IsMapOf (layout c.args.form) l c.read_map.new.map) (sym same) (c.in_ok-read_map.ensures.map h) in
    if_ok c.read_inodes.result (λ (inodes : List Inode). AreWhole K R (layout c.args.form) c.read_map.new.from (layout c.args.form).leaves)
    (λ (inodes : List Inode). IsSound K R (layout c.args.form) c.args.from.now)
    (λ inodes whole. sound_from (layout c.args.form) (laid_by c.args.form) K R c.args.from.now c.read_map.new.from c.in_ok-read_map.ensures.reads h (c.in_ok-read_map.ensures.undamaged h)
    (λ i below. sym (follows_is (layout c.args.form) (laid_by c.args.form) (leaves_of K R c.args.from.now) c.read_map.new.map (c.in_ok-read_map.ensures.map h) i below)
    ∙ c.in_ok-check_map.ensures.formed i below) whole)
    (c.read_inodes.ensures.sound h first)

pub returns-clause-writable : goal.returns-clause-writable
returns-clause-writable g c =
    on_ok c.read_inodes.result (AreWritable (layout c.args.form) c.read_map.new.map)
    (λ i below. follows_writable (layout c.args.form) (laid_by c.args.form) (entries_in c.read_map.new.map) i below (c.in_ok-read_map.ensures.inodes i)
    (c.in_ok-check_map.ensures.formed i below))
