use Rattle.std.proofs.Common.{◌≡◌, ℕ, List, length, refl, ap, sym, subst, arith, rules}
use Rattle.std.specs.List.{All, filter}
use Rattle.std.proofs.lemmas.List.Elements.{All-filter}
use Rattle.store_api.specs.declared.leaves.Leaf.{Leaf}
use Rattle.region_plan.specs.Layout.{layout}
use Rattle.region_plan.specs.Places.{IsMapOf, entries_in}
use Rattle.region_plan.specs.Plans.{with_leaves}
use Rattle.region_plan.specs.Regions.{inodes_of}
use Rattle.region_plan.specs.Tables.{IsWithin}
use Rattle.region_plan.specs.Written.{AreWritten, stays, unwritten_from}
use Rattle.region_plan.specs.declared.form.Form.TheVariants.{Two}
use Rattle.region_plan.specs.declared.inode.Inode.{Inode}
use Rattle.region_plan.proofs.AfterLemmas.{bounded_two, refused_then, then_directory, then_formed, then_kept, then_map}
use Rattle.region_plan.proofs.DirectoryLemmas.{within_by}
use Rattle.region_plan.proofs.EntryLemmas.{follows_writable}
use Rattle.region_plan.proofs.FormLemmas.{laid_by, most_leaves}
use Rattle.region_plan.proofs.WrittenLemmas.{are_written, kept_few}
use Rattle.region_plan.proofs.directory.Directory.after.Goals as goal

pub kept-inodes-requires : goal.kept-inodes-requires
kept-inodes-requires c = (let few = c.requires.bounded.few in let most = most_leaves c.args.self.form in omega (arith, few, most))

pub grown-requires : goal.grown-requires
grown-requires c = record {
  few =
      let few = c.requires.bounded.few in
      let most = most_leaves c.args.self.form in
      let less = kept_few (λ inode. stays (entries_in c.take_written.new.map) c.as_slice-named.result.now inode.number) c.args.self.inodes in
      let size = ap length c.kept-inodes.ensures in
      omega (arith, few, most, less, size);
}

pub returns-in_err-check_map-clause-told : goal.returns-in_err-check_map-clause-told
returns-in_err-check_map-clause-told c leaves is names store stands =
    let taken = subst (λ (n : List Leaf). (l : ℕ → List ℕ) → IsMapOf (layout Two) l c.args.self.map → IsMapOf (layout Two) (with_leaves n l) c.take_written.new.map) c.as_slice-named.ensures.leaves
    c.take_written.ensures.map in
    then_formed c.args.self c.requires.form leaves is c.args.named.now names store stands c.take_written.new.map taken c.from_residual.result c.in_err-check_map.field-0.0 (search rules)
    c.in_err-check_map.ensures.cause c.in_err-check_map.ensures.few
    (c.in_err-check_map.ensures.garbled (with_leaves c.args.named.now leaves)
    (then_map c.args.self c.requires.form leaves is c.args.named.now names store stands c.take_written.new.map taken))

pub returns-in_err-inodes-clause-told : goal.returns-in_err-inodes-clause-told
returns-in_err-inodes-clause-told c leaves is names store stands =
    let taken = subst (λ (n : List Leaf). (l : ℕ → List ℕ) → IsMapOf (layout Two) l c.args.self.map → IsMapOf (layout Two) (with_leaves n l) c.take_written.new.map) c.as_slice-named.ensures.leaves
    c.take_written.ensures.map in
    let kept = subst (λ (n : List Leaf). c.kept-inodes.result ≡ filter (λ inode. stays (entries_in c.take_written.new.map) n inode.number) c.args.self.inodes) c.as_slice-named.ensures.leaves
    c.kept-inodes.ensures in
    let then_is = then_kept c.args.self c.requires.form leaves is c.args.named.now names store stands c.take_written.new.map taken c.kept-inodes.result kept in
    refused_then (inodes_of (layout Two) (with_leaves c.args.named.now leaves)) (with_leaves c.args.named.now leaves) c.from_residual-in_err-inodes.result c.in_err-inodes.field-0.0 (search rules)
    (c.in_err-inodes.ensures.told (with_leaves c.args.named.now leaves) (then_map c.args.self c.requires.form leaves is c.args.named.now names store stands c.take_written.new.map taken)
    (subst (λ (n : List Leaf). AreWritten n (with_leaves c.args.named.now leaves)) (sym c.as_slice-named.ensures.leaves) (are_written c.args.named.now leaves))
    (subst (λ (n : List Leaf). c.kept-inodes.result ≡ unwritten_from (layout Two) (with_leaves c.args.named.now leaves) n 0) (sym c.as_slice-named.ensures.leaves) then_is) store stands)

pub returns-clause-bounded : goal.returns-clause-bounded
returns-clause-bounded c =
    bounded_two (record { form = c.args.self.form; map = c.take_written.new.map; inodes = c.in_ok-inodes.inodes }) c.requires.form
    (c.in_ok-inodes.ensures.within (subst (λ (l : List Inode). All (IsWithin (layout Two)) l) (sym c.kept-inodes.ensures)
    (All-filter (λ inode. stays (entries_in c.take_written.new.map) c.as_slice-named.result.now inode.number) (IsWithin (layout Two)) c.args.self.inodes
    (within_by c.args.self c.requires.form c.requires.bounded))))
    (λ i below. follows_writable (layout Two) (laid_by Two) (entries_in c.take_written.new.map) i below (c.take_written.ensures.inodes i below) (c.in_ok-check_map.ensures.formed i below))
    c.in_ok-inodes.ensures.bound

pub returns-clause-told : goal.returns-clause-told
returns-clause-told c leaves is names store stands =
    let taken = subst (λ (n : List Leaf). (l : ℕ → List ℕ) → IsMapOf (layout Two) l c.args.self.map → IsMapOf (layout Two) (with_leaves n l) c.take_written.new.map) c.as_slice-named.ensures.leaves
    c.take_written.ensures.map in
    let kept = subst (λ (n : List Leaf). c.kept-inodes.result ≡ filter (λ inode. stays (entries_in c.take_written.new.map) n inode.number) c.args.self.inodes) c.as_slice-named.ensures.leaves
    c.kept-inodes.ensures in
    let then_is = then_kept c.args.self c.requires.form leaves is c.args.named.now names store stands c.take_written.new.map taken c.kept-inodes.result kept in
    then_directory c.args.self c.requires.form leaves is c.args.named.now names store stands c.take_written.new.map taken
    (record { form = c.args.self.form; map = c.take_written.new.map; inodes = c.in_ok-inodes.inodes }) c.requires.form refl
    (c.in_ok-inodes.ensures.told (with_leaves c.args.named.now leaves) (then_map c.args.self c.requires.form leaves is c.args.named.now names store stands c.take_written.new.map taken)
    (subst (λ (n : List Leaf). AreWritten n (with_leaves c.args.named.now leaves)) (sym c.as_slice-named.ensures.leaves) (are_written c.args.named.now leaves))
    (subst (λ (n : List Leaf). c.kept-inodes.result ≡ unwritten_from (layout Two) (with_leaves c.args.named.now leaves) n 0) (sym c.as_slice-named.ensures.leaves) then_is) store stands)
