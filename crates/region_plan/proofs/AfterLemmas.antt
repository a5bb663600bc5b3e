-- The directory after leaves of the region were written.
use Rattle.std.proofs.Common.{◌≡◌, ◌<◌, ◌≤◌, ◌∙◌, ℕ, true, List, Some, Result, Ok, Err, length, refl, sym, ap, subst, arith}
use Rattle.std.specs.Prelude.{IsTrue}
use Rattle.std.specs.List.{All, filter}
use Rattle.std.proofs.lemmas.Bool.{true≢false}
use Rattle.store_api.specs.declared.answer.StoreAnswer.{StoreAnswer}
use Rattle.store_api.specs.declared.answer.StoreAnswer.TheVariants as answers
use Rattle.store_api.specs.declared.leaves.Leaf.{Leaf}
use Rattle.store_api.specs.Stores.{Store}
use Rattle.region_plan.specs.Directories.{IsBounded, IsDirectoryOf}
use Rattle.region_plan.specs.Entries.{is_inode, is_well_formed}
use Rattle.region_plan.specs.Layout.{layout}
use Rattle.region_plan.specs.Places.{AreWritable, IsMapOf, entries_in}
use Rattle.region_plan.specs.Plans.{NamesInodes, with_leaves}
use Rattle.region_plan.specs.Reading.{IfGarbled, IsWhole}
use Rattle.region_plan.specs.Regions.{breaks, inodes_of, region_of}
use Rattle.region_plan.specs.Tables.{IsWithin}
use Rattle.region_plan.specs.Written.{AreInodesThen, IsDirectoryThen, stays, unwritten_from}
use Rattle.region_plan.specs.declared.directory.Directory.{Directory}
use Rattle.region_plan.specs.declared.entry.Entry.{Entry}
use Rattle.region_plan.specs.declared.form.Form.{Form}
use Rattle.region_plan.specs.declared.form.Form.TheVariants.{Two}
use Rattle.region_plan.specs.declared.inode.Inode.{Inode}
use Rattle.region_plan.proofs.DirectoryLemmas.{inodes_by, map_by}
use Rattle.region_plan.proofs.FormLemmas.{laid_by}
use Rattle.region_plan.proofs.SoundLemmas.{Sound, data_has, doubled_not, region_sound, unbroken_of}
use Rattle.region_plan.proofs.WrittenLemmas.{kept_is}

two_leaves : (layout Two).leaves ≡ 1024
unfolding layout
two_leaves = refl

-- what bounds a directory of a region of the second form
pub bounded_two : (d : Directory) → d.form ≡ Two → All (IsWithin (layout Two)) d.inodes → AreWritable (layout Two) d.map → length d.inodes ≤ 1024 → IsBounded d
bounded_two d form within writable few = record {
  inodes = subst (λ (f : Form). All (IsWithin (layout f)) d.inodes) (sym form) within;
  map = subst (λ (f : Form). AreWritable (layout f) d.map) (sym form) writable;
  few = subst (λ (f : Form). length d.inodes ≤ (layout f).leaves) (sym form) (let e = two_leaves in omega (arith, few, e));
}

-- inodes that were refused
pub refused_then : (wanted : List Inode) (leaves : ℕ → List ℕ) (r : Result Directory StoreAnswer) (e : StoreAnswer) → r ≡ Err e → AreInodesThen wanted (Err e) → IsDirectoryThen leaves r
refused_then wanted leaves r e is told = subst (λ (x : Result Directory StoreAnswer). IsDirectoryThen leaves x) (sym is) (each e told)
  where
    each : (e : StoreAnswer) → AreInodesThen wanted (Err e) → IsDirectoryThen leaves (Err e)
    each answers.NotFound h = absurd h
    each answers.Exists h = absurd h
    each answers.NoSpace h = absurd h
    each answers.Lost h = absurd h
    each answers.Failed h = absurd h
    each (answers.Corrupt tags) h = absurd h
    each (answers.Garbled leaf) h = absurd h
    each answers.NoMemory h = tt

module _ (d : Directory) (form : d.form ≡ Two) (leaves : ℕ → List ℕ) (is : IsDirectoryOf leaves d) (named : List Leaf) (names : NamesInodes (layout Two) leaves named) (store : Store)
    (stands : region_of (layout Two) (with_leaves named leaves) ≡ Ok store) (map' : List Entry)
    (taken : (l : ℕ → List ℕ) → IsMapOf (layout Two) l d.map → IsMapOf (layout Two) (with_leaves named l) map') where
  abbrev after : ℕ → List ℕ
  after = with_leaves named leaves

  sound : Sound (layout Two) after
  sound = region_sound (layout Two) after (laid_by Two) store stands

  pub then_map : IsMapOf (layout Two) after map'
  then_map = taken leaves (map_by d form leaves is)

  pub then_kept : (kept : List Inode) → kept ≡ filter (λ inode. stays (entries_in map') named inode.number) d.inodes → kept ≡ unwritten_from (layout Two) after named 0
  then_kept kept told = told ∙ ap (λ (l : List Inode). filter (λ inode. stays (entries_in map') named inode.number) l) (inodes_by d form leaves is)
      ∙ kept_is (layout Two) leaves named (laid_by Two) map' then_map names

  -- no entry of the map breaks a rule
  pub then_formed : (r : Result Directory StoreAnswer) (why : StoreAnswer) → r ≡ Err why → (leaf : ℕ) × (why ≡ answers.Garbled leaf) → IfGarbled (Some why) (λ leaf. leaf < (layout Two).leaves)
      → IfGarbled (Some why) (λ leaf. IsTrue (breaks (layout Two) after leaf)) → IsDirectoryThen after r
  then_formed r why is_r cause few broken =
      let below = subst (λ (w : StoreAnswer). IfGarbled (Some w) (λ leaf. leaf < (layout Two).leaves)) cause.1 few in
      let breaks' = subst (λ (w : StoreAnswer). IfGarbled (Some w) (λ leaf. IsTrue (breaks (layout Two) after leaf))) cause.1 broken in
      absurd (true≢false (sym breaks' ∙ unbroken_of (layout Two) after (laid_by Two) sound cause.0 below))

  pub then_directory : (r : Directory) → r.form ≡ Two → r.map ≡ map' → r.inodes ≡ inodes_of (layout Two) after → IsDirectoryOf after r
  then_directory r is_form is_map is_inodes = record {
    map = subst (λ (f : Form). IsMapOf (layout f) after r.map) (sym is_form) (subst (λ (m : List Entry). IsMapOf (layout Two) after m) (sym is_map) then_map);
    inodes = is_inodes ∙ ap (λ (f : Form). inodes_of (layout f) after) (sym is_form);
    formed = subst (λ (f : Form). (i : ℕ) → i < (layout f).leaves → is_well_formed (layout f) after i ≡ true) (sym is_form) sound.formed;
    whole = subst (λ (f : Form). (i : ℕ) → i < (layout f).leaves → is_inode (layout f) after i ≡ true → IsWhole (layout f) after i) (sym is_form) (λ i low inode. record {
      bytes = (sound.inode i low inode).bytes;
      new = doubled_not (layout Two) after (laid_by Two) sound i low inode;
      placed = data_has (layout Two) after (laid_by Two) sound i low inode;
    });
  }
