-- What a directory has, and what a read by one answers.
use Rattle.std.proofs.Common.{◌≡◌, ℕ, List, Result, Ok, Err, sym, ◌∙◌, subst}
use Rattle.std.specs.Prelude.{IfOk}
use Rattle.std.specs.List.{All}
use Rattle.store_api.specs.declared.answer.StoreAnswer.{StoreAnswer}
use Rattle.store_api.specs.Keeping.{Answers}
use Rattle.region_plan.specs.Directories.{IsBounded, IsDirectoryOf}
use Rattle.region_plan.specs.Laws.{AgreeInUse}
use Rattle.region_plan.specs.Layout.{layout}
use Rattle.region_plan.specs.Places.{AreWritable, IsMapOf}
use Rattle.region_plan.specs.Reading.{IsUnread, refusal_of}
use Rattle.region_plan.specs.Regions.{inodes_of}
use Rattle.region_plan.specs.Tables.{IsWithin}
use Rattle.region_plan.specs.declared.directory.Directory.{Directory}
use Rattle.region_plan.specs.declared.form.Form.{Form}
use Rattle.region_plan.specs.declared.form.Form.TheVariants.{Two}
use Rattle.region_plan.proofs.AgreeLemmas.{entry_same, formed_same, inode_same, inodes_told, whole_same}
use Rattle.region_plan.proofs.FormLemmas.{laid_by}
use Rattle.region_plan.proofs.RegionLemmas.{unread_answers}

-- an answer that holds where there is one, of a call that is kept from it by what it reads alone
pub answers_read : {A : Type 0} (result stated : Result A StoreAnswer) → IfOk result (λ a. stated ≡ Ok a) → IsUnread (refusal_of result) → Answers result stated
answers_read (Ok a) stated told unread = told
answers_read (Err e) stated told unread = unread_answers e stated unread

-- a directory of a region of the second form
module _ (d : Directory) (form : d.form ≡ Two) where
  pub map_by : (leaves : ℕ → List ℕ) → IsDirectoryOf leaves d → IsMapOf (layout Two) leaves d.map
  map_by leaves is = subst (λ (f : Form). IsMapOf (layout f) leaves d.map) form is.map

  pub inodes_by : (leaves : ℕ → List ℕ) → IsDirectoryOf leaves d → d.inodes ≡ inodes_of (layout Two) leaves
  inodes_by leaves is = subst (λ (f : Form). d.inodes ≡ inodes_of (layout f) leaves) form is.inodes

  pub within_by : IsBounded d → All (IsWithin (layout Two)) d.inodes
  within_by bounded = subst (λ (f : Form). All (IsWithin (layout f)) d.inodes) form bounded.inodes

  pub writable_by : IsBounded d → AreWritable (layout Two) d.map
  writable_by bounded = subst (λ (f : Form). AreWritable (layout f) d.map) form bounded.map

-- a directory is told by the leaves in use alone
pub directory_same : (d : Directory) (leaves others : ℕ → List ℕ) → AgreeInUse (layout d.form) leaves others → IsDirectoryOf leaves d → IsDirectoryOf others d
directory_same d leaves others agree is =
    record {
      map = λ i below. is.map i below ∙ sym (entry_same (layout d.form) leaves others agree (laid_by d.form) i below);
      inodes = is.inodes ∙ sym (inodes_told (layout d.form) leaves others agree (laid_by d.form));
      formed = λ i below. formed_same (layout d.form) leaves others agree (laid_by d.form) i below ∙ is.formed i below;
      whole = λ i below inode.
          let was = sym (inode_same (layout d.form) leaves others agree (laid_by d.form) i below) ∙ inode in
          whole_same (layout d.form) leaves others agree (laid_by d.form) i below was (is.whole i below was);
    }
