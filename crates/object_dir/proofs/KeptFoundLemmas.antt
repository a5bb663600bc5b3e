-- A directory of the leaves as they are held, and as they are found.
use Rattle.std.proofs.Common.{◌≡◌, ◌<◌, ℕ, true, false, List, Option, None, Some, sym, subst, arith}
use Rattle.tee_base.specs.declared.limits.TheConstants.{MAX_HOSTS}
use Rattle.store_api.specs.Volumes.{VolumeKeeper}
use Rattle.region_plan.specs.Directories.{IsDirectoryOf}
use Rattle.region_plan.specs.Entries.{is_inode, is_well_formed}
use Rattle.region_plan.specs.Laws.{AgreeInUse}
use Rattle.region_plan.specs.Layout.{layout}
use Rattle.region_plan.specs.Reading.{IsWhole}
use Rattle.region_plan.specs.declared.directory.Directory.{Directory}
use Rattle.region_plan.specs.declared.form.Form.{Form}
use Rattle.region_plan.proofs.DirectoryLemmas.{directory_same}
use Rattle.object_dir.specs.Kept.{IsFound, IsHeld}
use Rattle.object_dir.specs.Regions.{in_use}
use Rattle.object_dir.specs.declared.region.Region.{Region}
use Rattle.object_dir.proofs.FoundLemmas.{IsLawful, agrees}
use Rattle.object_dir.proofs.UseLemmas.{laid, leaves_are}

module _ {V : Type 0} (K : VolumeKeeper V) (laws : IsLawful K)
    (intact : (v : V) → K.honest v → (K.condition v).lost ≡ false → (region leaf : ℕ) → region < MAX_HOSTS → leaf < K.leaves → K.damage v region leaf ≡ None) where
  module _ (r : Region V) (h : K.honest r.volume.now) (works : (K.condition r.volume.now).lost ≡ false) where
    abbrev held : ℕ → List ℕ
    held = (K.held r.volume.now).leaves r.number

    abbrev text : ℕ → List ℕ
    text = K.text r.volume.now r.number

    found_agree : AgreeInUse in_use held text
    found_agree = record { map = λ i below. agrees K laws r h works i (let more = laid.more in omega (arith, more, below)); used = λ i below is. agrees K laws r h works i below }

    held_agree : AgreeInUse in_use text held
    held_agree = record {
      map = λ i below. sym (agrees K laws r h works i (let more = laid.more in omega (arith, more, below)));
      used = λ i below is. sym (agrees K laws r h works i below);
    }

    undamaged : (i : ℕ) → i < in_use.leaves → K.damage r.volume.now r.number i ≡ None
    undamaged i below = intact r.volume.now h works r.number i r.fits (omega (arith, below, laws.whole, leaves_are))

    -- a directory of what is held is one of what is found
    pub to_found : (kept : Option Directory) → IsHeld held kept → IsFound K kept r
    to_found None is = tt
    to_found (Some d) is =
        let found : IsDirectoryOf text d = directory_same d held text (subst (λ (f : Form). AgreeInUse (layout f) held text) (sym is.0) found_agree) is.1 in (
          is.0,
          found,
          record {
            map = λ i below. undamaged i (let more = laid.more in omega (arith, more, below));
            formed = subst (λ (f : Form). (i : ℕ) → i < (layout f).leaves → is_well_formed (layout f) text i ≡ true) is.0 found.formed;
            inodes = record {
              undamaged = λ i below inode. undamaged i below;
              whole = subst (λ (f : Form). (i : ℕ) → i < (layout f).leaves → is_inode (layout f) text i ≡ true → IsWhole (layout f) text i) is.0 found.whole;
            };
          },
        )

    pub from_found : (kept : Option Directory) → IsFound K kept r → IsHeld held kept
    from_found None found = tt
    from_found (Some d) found = (
      found.0,
      directory_same d text held (subst (λ (f : Form). AgreeInUse (layout f) text held) (sym found.0) held_agree) found.1,
    )
