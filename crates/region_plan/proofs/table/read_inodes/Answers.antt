use Rattle.std.proofs.Common.{◌≡◌, ◌<◌, ◌∙◌, ◌+◌, ℕ, false, None, List, length, ◌≤◌, sym, ap, subst, refl, arith}
use Rattle.std.specs.List.{All}
use Rattle.std.proofs.lemmas.List.Elements.{All-nil}
use Rattle.region_plan.specs.Reading.{ReadsOnly, leaves_of}
use Rattle.region_plan.specs.Tables.{IsWithin}
use Rattle.region_plan.specs.declared.inode.Inode.{Inode}
use Rattle.std.specs.Prelude.{◌==◌}
use Rattle.std.proofs.lemmas.Bool.{ne_eqb, true≢false}
use Rattle.region_plan.specs.Entries.{is_inode}
use Rattle.region_plan.specs.Tables.{inodes_below}
use Rattle.region_plan.specs.Reading.{AreWhole, IsWhole}
use Rattle.region_plan.specs.declared.entry.Entry.{Entry}
use Rattle.region_plan.specs.declared.entry.TheConstants.{INODE}
use Rattle.region_plan.proofs.ReadLemmas.{reads_started, reads_joined, leaves_stay}
use Rattle.region_plan.proofs.RegionLemmas.{more_whole, none_whole, undamaged_before}
use Rattle.region_plan.proofs.TableLemmas.{inodes_none, inodes_all, inodes_pushed, inodes_passed}
use Rattle.region_plan.proofs.table.read_inodes.Goals as goal
use Rattle.region_plan.proofs.table.read_inodes.Goals.{then-entry_in-eq-INODE+in_ok-inodes, else-entry_in-eq-INODE}
use Rattle.region_plan.specs.Layout.{layout}
use Rattle.region_plan.specs.Places.{IsMapOf}
use Rattle.region_plan.proofs.FormLemmas.{laid_by}

pub loop-leaf-init : goal.loop-leaf-init
loop-leaf-init g c = record {
  reads = reads_started g.L.LeafSource.keeper g.L.LeafSource.region c.args.from.now c.requires.works (g.met.L.LeafSource.rests c.args.from.now);
  inodes = λ h first. c.none-inodes.ensures ∙ sym (inodes_none (layout c.args.form) (leaves_of g.L.LeafSource.keeper g.L.LeafSource.region c.args.from.now));
  within = subst (λ (l : List Inode). All (IsWithin (layout c.args.form)) l) (sym c.none-inodes.ensures) (All-nil (IsWithin (layout c.args.form)));
  few = subst (λ (l : List Inode). length l ≤ 0) (sym c.none-inodes.ensures) (omega arith);
  sound = λ h first. none_whole g.L.LeafSource.keeper g.L.LeafSource.region (layout c.args.form) c.args.from.now;
}

pub loop-leaf-preserved : goal.loop-leaf-preserved
loop-leaf-preserved g c =
    let K = g.L.LeafSource.keeper in
    let R = g.L.LeafSource.region in
    let kept = c.loop-leaf.invariant in
    let below : c.loop-leaf.leaf < (layout c.args.form).leaves = subst (λ (n : ℕ). c.loop-leaf.leaf < n) c.leaves-leaf-end.ensures.is c.loop-leaf-test.true in
    elim c.if-entry_in-eq-INODE.branch [
      | then-entry_in-eq-INODE+in_ok-inodes w ↦ record {
        reads = subst (λ s. ReadsOnly K R None c.args.from.now s) (sym w.from-is)
            (reads_joined K R None c.args.from.now c.loop-leaf.from w.take_inode.new.from kept.reads w.in_ok-inodes.ensures.reads);
        inodes = λ h first.
            let same = leaves_stay K R c.args.from.now c.loop-leaf.from kept.reads h in
            inodes_pushed (layout c.args.form) (laid_by c.args.form) (leaves_of K R c.args.from.now) (leaves_of K R c.loop-leaf.from) c.loop-leaf.leaf (c.loop-leaf.leaf + 1) c.entry_in.result
            c.loop-leaf.inodes _ _ same refl
            (c.entry_in.ensures ∙ first c.loop-leaf.leaf below) w.if-entry_in-eq-INODE.true (kept.inodes h first) refl
            (w.inodes-is ∙ w.in_ok-inodes.ensures.inodes h);
        few = (let size = ap length w.inodes-is ∙ w.in_ok-inodes.ensures.one in let few = kept.few in omega (arith, size, few));
        within = subst (λ (l : List Inode). All (IsWithin (layout c.args.form)) l) (sym w.inodes-is) (w.in_ok-inodes.ensures.within kept.within);
        sound = λ h first.
            let same = leaves_stay K R c.args.from.now c.loop-leaf.from kept.reads h in
            let before = kept.inodes h first ∙ ap (λ (l : ℕ → List ℕ). inodes_below (layout c.args.form) l c.loop-leaf.leaf) (sym same) in
            more_whole K R (layout c.args.form) c.args.from.now c.loop-leaf.leaf _ refl (kept.sound h first)
            (λ is. undamaged_before K R (layout c.args.form) c.args.from.now c.loop-leaf.from kept.reads h c.loop-leaf.leaf (w.in_ok-inodes.ensures.undamaged h))
            (λ is. subst (λ (l : ℕ → List ℕ). IsWhole (layout c.args.form) l c.loop-leaf.leaf) same
            (w.in_ok-inodes.ensures.whole h (subst (λ (l : ℕ → List ℕ). IsMapOf (layout c.args.form) l c.args.map.now) (sym same) first) before));
      }
      | else-entry_in-eq-INODE w ↦ record {
        reads = subst (λ s. ReadsOnly K R None c.args.from.now s) (sym w.from-is) kept.reads;
        inodes = λ h first.
            inodes_passed (layout c.args.form) (laid_by c.args.form) (leaves_of K R c.args.from.now) c.loop-leaf.leaf (c.loop-leaf.leaf + 1) c.entry_in.result c.loop-leaf.inodes _ refl
            (c.entry_in.ensures ∙ first c.loop-leaf.leaf below) w.if-entry_in-eq-INODE.false (kept.inodes h first) w.inodes-is;
        few = (let size = ap length w.inodes-is in let few = kept.few in omega (arith, size, few));
        within = subst (λ (l : List Inode). All (IsWithin (layout c.args.form)) l) (sym w.inodes-is) kept.within;
        sound = λ h first.
            let other : is_inode (layout c.args.form) (leaves_of K R c.args.from.now) c.loop-leaf.leaf ≡ false =
            ap (λ (e : Entry). e.kind == INODE) (sym (c.entry_in.ensures ∙ first c.loop-leaf.leaf below)) ∙ ne_eqb _ _ w.if-entry_in-eq-INODE.false in
            more_whole K R (layout c.args.form) c.args.from.now c.loop-leaf.leaf _ refl (kept.sound h first)
            (λ is. absurd (true≢false (sym is ∙ other))) (λ is. absurd (true≢false (sym is ∙ other)));
      }
    ]

pub returns-clause-inodes : goal.returns-clause-inodes
returns-clause-inodes g c h first =
    let all : c.loop-leaf.leaf ≡ (layout c.args.form).leaves = omega (arith, c.leaves-leaf-end.ensures.is, c.loop-leaf-test.false, c.loop-leaf.auto.leaf-end) in
    c.loop-leaf.invariant.inodes h first ∙ inodes_all (layout c.args.form) (leaves_of g.L.LeafSource.keeper g.L.LeafSource.region c.args.from.now) c.loop-leaf.leaf all

pub returns-clause-sound : goal.returns-clause-sound
returns-clause-sound g c h first =
    let all : c.loop-leaf.leaf ≡ (layout c.args.form).leaves = omega (arith, c.leaves-leaf-end.ensures.is, c.loop-leaf-test.false, c.loop-leaf.auto.leaf-end) in
    subst (λ (n : ℕ). AreWhole g.L.LeafSource.keeper g.L.LeafSource.region (layout c.args.form) c.args.from.now n) all (c.loop-leaf.invariant.sound h first)
