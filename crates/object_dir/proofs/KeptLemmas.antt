-- What is read by a directory that is kept.
use Rattle.std.proofs.Common.{◌≡◌, ◌∙◌, ℕ, List, true, Option, None, Some, Result, Err, refl, sym, ap, subst, ⊎_elim}
use Rattle.std.specs.Prelude.{◌⊎◌, IsTrue}
use Rattle.store_api.specs.declared.answer.Mismatch.{Mismatch}
use Rattle.store_api.specs.declared.answer.StoreAnswer.{StoreAnswer}
use Rattle.store_api.specs.Keeping.{Answers}
use Rattle.store_api.specs.Stores.{Store}
use Rattle.store_api.specs.Volumes.{VolumeKeeper}
use Rattle.region_plan.specs.Directories.{IsDirectoryOf, LooksUp}
use Rattle.region_plan.specs.Entries.{is_inode, is_well_formed}
use Rattle.region_plan.specs.Layout.{layout}
use Rattle.region_plan.specs.Reading.{IfGarbled, IsBroken, IsSound, IsUnread, IsWhole, ReadsOnly, ReadsRegion, leaves_of, refusal_of}
use Rattle.region_plan.specs.Regions.{store_of}
use Rattle.region_plan.specs.declared.directory.Directory.{Directory}
use Rattle.region_plan.specs.declared.form.Form.{Form}
use Rattle.region_plan.proofs.MadeLemmas.{decided_reads, decided_told}
use Rattle.region_plan.proofs.RegionLemmas.{if_answered, region_unread}
use Rattle.object_dir.specs.Kept.{IsFound, IsKept, ReadsKept}
use Rattle.object_dir.specs.Regions.{in_use, number_of, region_keeper}
use Rattle.object_dir.specs.declared.region.Region.{Region}
use Rattle.object_dir.proofs.AnswerLemmas.{not_both}
use Rattle.object_dir.proofs.CallLemmas.{found_still}

module _ {V : Type 0} (K : VolumeKeeper V) where
  -- a directory of what is found stays one through reads
  pub found_stays : (kept : Option Directory) (why : Option StoreAnswer) (old new : Region V) → ReadsOnly (region_keeper K) number_of why old new → IsTrue K.tells_reads
      → IsFound K kept old → IsFound K kept new
  found_stays None why old new run t found = tt
  found_stays (Some d) why old new run t found =
      let same = found_still K why old new run t in
      let damage : K.damage new.volume.now new.number ≡ K.damage old.volume.now old.number =
      ap (λ (damage : ℕ → ℕ → Option Mismatch). damage new.number) (run.damage t) ∙ ap (λ (r : ℕ). K.damage old.volume.now r) run.same_region in (
        found.0,
        subst (λ (l : ℕ → List ℕ). IsDirectoryOf l d) (sym same) found.1,
        record {
          map = λ i low. ap (λ (f : ℕ → Option Mismatch). f i) damage ∙ found.2.map i low;
          formed = λ i low. subst (λ (l : ℕ → List ℕ). is_well_formed in_use l i ≡ true) (sym same) (found.2.formed i low);
          inodes = record {
            undamaged = λ i low is.
                ap (λ (f : ℕ → Option Mismatch). f i) damage ∙ found.2.inodes.undamaged i low (subst (λ (l : ℕ → List ℕ). is_inode in_use l i ≡ true) same is);
            whole = λ i low is.
                subst (λ (l : ℕ → List ℕ). IsWhole in_use l i) (sym same) (found.2.inodes.whole i low (subst (λ (l : ℕ → List ℕ). is_inode in_use l i ≡ true) same is));
          };
        },
      )

  module _ {A : Type 0} (kept : Option Directory) (stated : Store → Result A StoreAnswer) (Bounds : A → Type 0) (result : Result A StoreAnswer) (old new : Region V) where
    -- a look-up in a directory, which is kept
    pub looked : (d other : Directory) → other ≡ d → IsKept d → (IsTrue K.tells_reads → IsFound K kept old → IsFound K (Some d) old)
        → ReadsOnly (region_keeper K) number_of None old new → LooksUp stated Bounds other result → ReadsKept K kept (Some d) stated Bounds result old new
    looked d other same is found run up =
        let look = subst (λ (x : Directory). LooksUp stated Bounds x result) same up in
        record {
          sound = λ t f. if_answered (refusal_of result) (IsSound (region_keeper K) number_of in_use old) (found t f).2;
          answer = λ t f. subst (λ (form : Form). Answers result (stated (store_of (layout form) (leaves_of (region_keeper K) number_of old)))) is.form
              (look.answer (leaves_of (region_keeper K) number_of old) (found t f).1);
          stays = λ t f. found_stays (Some d) None old new run t (found t f);
          dropped = λ lost. not_both (K.condition new.volume.now).lost lost run.cause.1;
          bounds = look.bounds;
          garbled = decided_told (refusal_of result) (λ leaf. IsBroken (region_keeper K) number_of in_use old leaf) look.decided;
          reads = decided_reads (region_keeper K) number_of (refusal_of result) old new look.decided run;
        }

    -- it was kept from its answer
    pub unlooked : (e : StoreAnswer) (then' : Option Directory) → result ≡ Err e → then' ≡ None → IsUnread (Some e)
        → IfGarbled (Some e) (λ leaf. IsBroken (region_keeper K) number_of in_use old leaf) → ReadsOnly (region_keeper K) number_of (Some e) old new → ReadsKept K kept then' stated
        Bounds result old new
    unlooked e then' is none unread garbled run =
        subst (λ (r : Result A StoreAnswer). ReadsKept K kept then' stated Bounds r old new) (sym is)
        (subst (λ (o : Option Directory). ReadsKept K kept o stated Bounds (Err e) old new) (sym none)
        (let whole : ReadsRegion (region_keeper K) number_of in_use stated Bounds (Err e) old new = region_unread (region_keeper K) number_of in_use stated Bounds e old new unread garbled run in
        record {
          sound = λ t f. whole.sound t;
          answer = λ t f. whole.answer t;
          stays = λ t f. tt;
          dropped = λ lost. refl;
          bounds = whole.bounds;
          garbled = whole.garbled;
          reads = whole.reads;
        }))

    -- an answer of a look anew, with which nothing new is kept
    pub afresh : (then' : Option Directory) → (IsTrue (K.condition new.volume.now).lost → then' ≡ None) → (then' ≡ None) ⊎ (then' ≡ kept)
        → ReadsRegion (region_keeper K) number_of in_use stated Bounds result old new → ReadsKept K kept then' stated Bounds result old new
    afresh then' dropped is whole = record {
      sound = λ t f. whole.sound t;
      answer = λ t f. whole.answer t;
      stays = λ t f. ⊎_elim (λ none. subst (λ (o : Option Directory). IsFound K o new) (sym none) tt)
          (λ same. subst (λ (o : Option Directory). IsFound K o new) (sym same) (found_stays kept (refusal_of result) old new whole.reads t f)) is;
      dropped = dropped;
      bounds = whole.bounds;
      garbled = whole.garbled;
      reads = whole.reads;
    }
