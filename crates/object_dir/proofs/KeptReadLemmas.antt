-- How a read of a content by a directory that is kept ends.
use Rattle.std.proofs.Common.{◌≡◌, ◌⊎◌, ◌+◌, ℕ, true, false, List, Option, None, Some, Result, Ok, Err, sym, subst, inl, ⊎_elim}
use Rattle.std.specs.Prelude.{IfOk, IsTrue, min}
use Rattle.store_api.specs.declared.answer.StoreAnswer.{StoreAnswer}
use Rattle.store_api.specs.declared.answer.StoreAnswer.TheVariants.{NotFound, Exists, NoSpace, Lost, Failed, Corrupt, Garbled, NoMemory}
use Rattle.store_api.specs.Keeping.{Answers}
use Rattle.store_api.specs.Stores.{Store}
use Rattle.store_api.specs.Volumes.{VolumeKeeper}
use Rattle.region_plan.specs.Directories.{IsDirectoryOf, ReadsFrom}
use Rattle.region_plan.specs.Entries.{is_inode, is_well_formed}
use Rattle.region_plan.specs.Inodes.{identifier_in, length_in}
use Rattle.region_plan.specs.Layout.{layout}
use Rattle.region_plan.specs.Reading.{IfAnswered, IfGarbled, IsBroken, IsReadData, IsReadPart, IsSound, ReadsOnly, ReadsRegion, leaves_of, refusal_of}
use Rattle.region_plan.specs.Regions.{breaks, store_of}
use Rattle.region_plan.specs.declared.directory.Directory.{Directory}
use Rattle.region_plan.specs.declared.form.Form.{Form}
use Rattle.region_plan.specs.declared.form.Form.TheVariants.{Two}
use Rattle.region_plan.proofs.ReadLemmas.{leaves_stay, reads_joined}
use Rattle.region_plan.proofs.RegionLemmas.{data_before, if_answered, undamaged_before, whole_before}
use Rattle.object_dir.specs.Kept.{IsFound, IsKept, ReadsKept, tells_garbled}
use Rattle.object_dir.specs.Regions.{in_use, number_of, region_keeper}
use Rattle.object_dir.specs.declared.region.Region.{Region}
use Rattle.object_dir.proofs.AnswerLemmas.{garbled_also}
use Rattle.object_dir.proofs.KeptLemmas.{afresh, found_stays}

answered_also : (why : Option StoreAnswer) (P Q : Type 0) → (P → Q) → IfAnswered why P → IfAnswered why Q
answered_also None P Q so is = so is
answered_also (Some NotFound) P Q so is = so is
answered_also (Some Exists) P Q so is = so is
answered_also (Some NoSpace) P Q so is = so is
answered_also (Some Lost) P Q so is = tt
answered_also (Some Failed) P Q so is = tt
answered_also (Some (Corrupt tags)) P Q so is = tt
answered_also (Some (Garbled leaf)) P Q so is = tt
answered_also (Some NoMemory) P Q so is = tt

-- no leaf is told
none_garbled : (why : Option StoreAnswer) (P : ℕ → Type 0) → tells_garbled why ≡ false → IfGarbled why P
none_garbled None P is = tt
none_garbled (Some NotFound) P is = tt
none_garbled (Some Exists) P is = tt
none_garbled (Some NoSpace) P is = tt
none_garbled (Some Lost) P is = tt
none_garbled (Some Failed) P is = tt
none_garbled (Some (Corrupt tags)) P is = tt
none_garbled (Some (Garbled leaf)) P is = cc
none_garbled (Some NoMemory) P is = tt

ok_also : {A : Type 0} (result : Result A StoreAnswer) (P Q : Type 0) → (P → Q) → IfOk result (λ a. P) → IfOk result (λ a. Q)
ok_also (Ok a) P Q so is = so is
ok_also (Err e) P Q so is = tt

module _ {V : Type 0} (K : VolumeKeeper V) where
  -- a run of reads that ended at a leaf that breaks a rule
  ended_garbled : (why : Option StoreAnswer) (old new : Region V) → tells_garbled why ≡ true → ReadsOnly (region_keeper K) number_of why old new → ReadsOnly (region_keeper K) number_of None old new
  ended_garbled None old new is run = run
  ended_garbled (Some NotFound) old new is run = cc
  ended_garbled (Some Exists) old new is run = cc
  ended_garbled (Some NoSpace) old new is run = cc
  ended_garbled (Some Lost) old new is run = cc
  ended_garbled (Some Failed) old new is run = cc
  ended_garbled (Some (Corrupt tags)) old new is run = cc
  ended_garbled (Some (Garbled leaf)) old new is run = record {
    cause = run.cause;
    later = run.later;
    unfailed = run.unfailed;
    writes = run.writes;
    foundation = run.foundation;
    same_region = run.same_region;
    sequence = run.sequence;
    same = run.same;
    below = run.below;
    honest = run.honest;
    text = run.text;
    damage = run.damage;
    shows = run.shows;
    quiet = run.quiet;
    past = run.past;
    crash = run.crash;
  }
  ended_garbled (Some NoMemory) old new is run = cc

  module _ (old mid : Region V) (run : ReadsOnly (region_keeper K) number_of None old mid) where
    same : IsTrue K.tells_reads → leaves_of (region_keeper K) number_of mid ≡ leaves_of (region_keeper K) number_of old
    same t = leaves_stay (region_keeper K) number_of old mid run t

    sound_before : IsTrue K.tells_reads → IsSound (region_keeper K) number_of in_use mid → IsSound (region_keeper K) number_of in_use old
    sound_before t sound = record {
      map = λ i low. undamaged_before (region_keeper K) number_of in_use old mid run t i (sound.map i low);
      formed = λ i low. subst (λ (l : ℕ → List ℕ). is_well_formed in_use l i ≡ true) (same t) (sound.formed i low);
      inodes = whole_before (region_keeper K) number_of in_use old mid run t in_use.leaves sound.inodes;
    }

    -- a read of the region behind other reads
    region_behind : {A : Type 0} (stated : Store → Result A StoreAnswer) (Bounds : A → Type 0) (result : Result A StoreAnswer) (new : Region V)
        → ReadsRegion (region_keeper K) number_of in_use stated Bounds result mid new → ReadsRegion (region_keeper K) number_of in_use stated Bounds result old new
    region_behind stated Bounds result new whole = record {
      sound = λ t. answered_also (refusal_of result) (IsSound (region_keeper K) number_of in_use mid) (IsSound (region_keeper K) number_of in_use old) (sound_before t) (whole.sound t);
      answer = λ t. subst (λ (l : ℕ → List ℕ). Answers result (stated (store_of in_use l))) (same t) (whole.answer t);
      bounds = whole.bounds;
      garbled = garbled_also (refusal_of result) (λ leaf. IsBroken (region_keeper K) number_of in_use mid leaf) (λ leaf. IsBroken (region_keeper K) number_of in_use old leaf)
          (λ leaf broken. record {
            below = broken.below;
            breaks = λ t. subst (λ (l : ℕ → List ℕ). IsTrue (breaks in_use l leaf)) (same t) (broken.breaks t);
          }) whole.garbled;
      reads = reads_joined (region_keeper K) number_of (refusal_of result) old mid new run whole.reads;
    }

    part_before : IsTrue K.tells_reads → (id : List ℕ) (start count : ℕ) → IsReadPart (region_keeper K) number_of in_use id start count mid
        → IsReadPart (region_keeper K) number_of in_use id start count old
    part_before t id start count part = record {
      inode = part.inode;
      is = subst (λ (l : ℕ → List ℕ). is_inode in_use l part.inode ≡ true) (same t) part.is;
      named = subst (λ (l : ℕ → List ℕ). identifier_in (l part.inode) ≡ id) (same t) part.named;
      found = subst (λ (l : ℕ → List ℕ). IsReadData (region_keeper K) number_of in_use part.inode start (min (start + count) (length_in (l part.inode))) old) (same t)
          (data_before (region_keeper K) number_of in_use old mid run t part.inode start (min (start + count) (length_in (leaves_of (region_keeper K) number_of mid part.inode))) part.found);
    }

  module _ {A : Type 0} (kept then' : Option Directory) (stated : Store → Result A StoreAnswer) (Bounds : A → Type 0) (d other : Directory) (named : other ≡ d) (is : IsKept d) (old mid : Region V)
      (found : IsTrue K.tells_reads → IsFound K kept old → IsFound K (Some d) old) (run : ReadsOnly (region_keeper K) number_of None old mid) where
    -- the directory is of what is found behind other reads
    is_of : IsTrue K.tells_reads → IsFound K kept old → IsDirectoryOf (leaves_of (region_keeper K) number_of mid) other
    is_of t f = subst (λ (x : Directory). IsDirectoryOf (leaves_of (region_keeper K) number_of mid) x) (sym named)
        (subst (λ (l : ℕ → List ℕ). IsDirectoryOf l d) (sym (same old mid run t)) (found t f).1)

    form : other.form ≡ Two
    form = subst (λ (x : Directory). x.form ≡ Two) (sym named) is.form

    -- a read by the directory
    pub read_by : (result : Result A StoreAnswer) (new : Region V) → tells_garbled (refusal_of result) ≡ false → (then' ≡ None) ⊎ (then' ≡ Some d)
        → (IsTrue (K.condition new.volume.now).lost → then' ≡ None) → ReadsFrom (region_keeper K) number_of other stated Bounds result mid new
        → ReadsKept K kept then' stated Bounds result old new
    read_by result new intact end dropped from =
        let reads = reads_joined (region_keeper K) number_of (refusal_of result) old mid new run from.reads in record {
          sound = λ t f. if_answered (refusal_of result) (IsSound (region_keeper K) number_of in_use old) (found t f).2;
          answer = λ t f. subst (λ (l : ℕ → List ℕ). Answers result (stated (store_of in_use l))) (same old mid run t)
              (subst (λ (form : Form). Answers result (stated (store_of (layout form) (leaves_of (region_keeper K) number_of mid)))) form (from.answer t (is_of t f)));
          stays = λ t f.
              ⊎_elim (λ (none : then' ≡ None). subst (λ (o : Option Directory). IsFound K o new) (sym none) tt)
              (λ (same : then' ≡ Some d). subst (λ (o : Option Directory). IsFound K o new) (sym same) (found_stays K (Some d) (refusal_of result) old new reads t (found t f))) end;
          dropped = dropped;
          bounds = from.bounds;
          garbled = none_garbled (refusal_of result) (λ leaf. IsBroken (region_keeper K) number_of in_use old leaf) intact;
          reads = reads;
        }

    pub part_by : (result : Result A StoreAnswer) (id : List ℕ) (start count : ℕ)
        → (IsTrue K.tells_reads → IsDirectoryOf (leaves_of (region_keeper K) number_of mid) other → IfOk result (λ a. IsReadPart (region_keeper K) number_of (layout other.form) id start count mid))
        → IsTrue K.tells_reads → IsFound K kept old → IfOk result (λ a. IsReadPart (region_keeper K) number_of in_use id start count old)
    part_by result id start count part t f =
        ok_also result (IsReadPart (region_keeper K) number_of in_use id start count mid) (IsReadPart (region_keeper K) number_of in_use id start count old) (part_before old mid run t id start count)
        (subst (λ (form : Form). IfOk result (λ a. IsReadPart (region_keeper K) number_of (layout form) id start count mid)) form (part t (is_of t f)))

    -- a read anew, behind one by the directory that met a leaf that breaks a rule
    module _ (result0 result : Result A StoreAnswer) (end new : Region V) (garbled : tells_garbled (refusal_of result0) ≡ true)
        (from : ReadsFrom (region_keeper K) number_of other stated Bounds result0 mid end) where
      run_by : ReadsOnly (region_keeper K) number_of None old end
      run_by = reads_joined (region_keeper K) number_of None old mid end run (ended_garbled (refusal_of result0) mid end garbled from.reads)

      pub anew_by : then' ≡ None → ReadsRegion (region_keeper K) number_of in_use stated Bounds result end new → ReadsKept K kept then' stated Bounds result old new
      anew_by none whole = afresh K kept stated Bounds result old new then' (λ lost. none) (inl none) (region_behind old end run_by stated Bounds result new whole)

      pub anew_part : (id : List ℕ) (start count : ℕ) → (IsTrue K.tells_reads → IfOk result (λ a. IsReadPart (region_keeper K) number_of in_use id start count end))
          → IsTrue K.tells_reads → IfOk result (λ a. IsReadPart (region_keeper K) number_of in_use id start count old)
      anew_part id start count part t =
          ok_also result (IsReadPart (region_keeper K) number_of in_use id start count end) (IsReadPart (region_keeper K) number_of in_use id start count old)
          (part_before old end run_by t id start count) (part t)
