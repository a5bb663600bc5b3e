-- A storage over a volume that was just opened: applications without a change in doubt, over the stores of their regions.
use Rattle.app_api.specs.Behaviours.{Behaviour}
use Rattle.std.proofs.Common.{◌≡◌, ◌<◌, ◌≤◌, ◌+◌, ◌++◌, ℕ, zero, suc, true, false, List, [], ◌∷◌, Option, None, Some, is_some, length, map, replicate, refl, sym, subst, ◌∙◌, ap, inl, arith}
use Rattle.std.proofs.lemmas.List.{length-map, length-replicate, map-append, replicate_more}
use Rattle.std.proofs.Math.ListN.{get_or-replicate}
use Rattle.std.specs.Prelude.{slice_get}
use Rattle.std.specs.declared.snapshot.Snapshot.{Snapshot}
use Rattle.tee_base.specs.declared.limits.TheConstants.{MAX_HOSTS}
use Rattle.store_api.specs.Stores.{Store, empty_store}
use Rattle.store_api.specs.Volumes.{Held, RestsAt, VolumeKeeper}
use Rattle.object_dir.specs.Regions.{KeepsStore, store_in}
use Rattle.alone.specs.Machine.{Machine}
use Rattle.app_side.specs.Represents.{Represents, doubtful, has_doubt, machine_of, over}
use Rattle.app_side.specs.declared.side.AppSide.{AppSide}
use Rattle.region_plan.specs.declared.directory.Directory.{Directory}
use Rattle.tee_core.specs.Directories.{AreHeld}
use Rattle.tee_core.specs.Represents.{HasDoubt, IsLeftOf, StandFor, StoresFrom, none_kept}
use Rattle.tee_core.specs.Sides.{AreSides, IsNoneInDoubt}
use Rattle.tee_core.specs.World.{World}
use Rattle.tee_core.proofs.SideLemmas.{get_there}
use Rattle.shared_parts.proofs.StorageLemmas.{parts_length}
use Rattle.shared_parts.proofs.StorageSteps.{part_is}
use Rattle.shared_parts.specs.InStep.{StoragePart, part_of}
use Rattle.shared_parts.specs.StorageParts.{AreOpened, IsMarked, IsStorage, IsStoredFor, Opened, part_at, part_by, parts_by, parts_from}
use Rattle.shared_parts.specs.declared.storage.Loss.{Loss}

-- one more view of the volume
pub views_more : {V : Type 0} (seen new : List (Snapshot V)) (s : Snapshot V) (n : ℕ) (volume : V) → new ≡ seen ++ s ∷ [] → s.value ≡ volume
    → map (λ (x : Snapshot V). x.value) seen ≡ replicate n volume → map (λ (x : Snapshot V). x.value) new ≡ replicate (n + 1) volume
views_more {V} seen new s n volume longer is so_far =
    ap (λ (xs : List (Snapshot V)). map (λ (x : Snapshot V). x.value) xs) longer
    ∙ map-append (λ (x : Snapshot V). x.value) seen (s ∷ [])
    ∙ ap (λ (vs : List V). vs ++ s.value ∷ []) so_far
    ∙ ap (λ (v : V). replicate n volume ++ v ∷ []) is
    ∙ replicate_more n volume

-- an application without a change in doubt represents the machine of its parts, over whatever store
pub begun : {A : Type 0} (side : AppSide A) (store : Store) → has_doubt side ≡ false → Represents side (over store None (machine_of side))
begun side store none = record { doubt = empty_store; parts = ap (λ b. over store (doubtful b empty_store) (machine_of side)) (sym none) }

module _ {V A : Type 0} (K : VolumeKeeper V) (behaviour : Behaviour A) (volume : V) where
  -- the machines of applications, from this index on, each over the store of its region
  abbrev pub begun_world : ℕ → List (AppSide A) → World A
  begun_world app [] = []
  begun_world app (side ∷ sides) = over (store_in app (K.held volume)) None (machine_of side) ∷ begun_world (app + 1) sides

  sides_begun : (app : ℕ) (sides : List (AppSide A)) → IsNoneInDoubt sides → AreSides sides (begun_world app sides)
  sides_begun app [] calm = tt
  sides_begun app (side ∷ sides) calm = (begun side (store_in app (K.held volume)) calm.0, sides_begun (app + 1) sides calm.1)

  stores_begun : (app : ℕ) (sides : List (AppSide A)) → ((i : ℕ) → i < app + length sides → KeepsStore K i volume) → StoresFrom none_kept app (begun_world app sides) (K.held volume)
  stores_begun app [] keeps = tt
  stores_begun app (side ∷ sides) keeps = ((keeps app (omega arith)).stands, stores_begun (app + 1) sides (λ i lt. keeps i (omega (arith, lt))))

  none_begun : (app owner : ℕ) (sides : List (AppSide A)) → HasDoubt owner (begun_world app sides) → ⊥
  none_begun app owner [] has = absurd (let e : None ≡ Some has.machine = has.there in cc)
  none_begun app zero (side ∷ sides) has =
      let is : over (store_in app (K.held volume)) None (machine_of side) ≡ has.machine =
      let e : Some (over (store_in app (K.held volume)) None (machine_of side)) ≡ Some has.machine = has.there in cc in
      absurd (let e : false ≡ true = ap (λ (x : Machine A). is_some x.in_doubt) is ∙ has.doubt in cc)
  none_begun app (suc owner) (side ∷ sides) has = none_begun (app + 1) owner sides (record { machine = has.machine; there = has.there; doubt = has.doubt })

  parts_begun : (app : ℕ) (sides : List (AppSide A))
      → map (λ (m : Machine A). part_of m) (begun_world app sides) ≡ parts_from K behaviour (let n : Option (Loss V A) = None in n) app (replicate (length sides) volume)
  parts_begun app [] = refl
  parts_begun app (side ∷ sides) =
      ap (λ (ps : List StoragePart). part_by K behaviour (let n : Option (Loss V A) = None in n) app volume ∷ ps) (parts_begun (app + 1) sides)

  module _ (rests : (v : V) → K.honest v → (K.condition v).lost ≡ false → RestsAt K v (K.held v)) (works : (K.condition volume).lost ≡ false)
      (sides : List (AppSide A)) (some : 0 < length sides) (calm : IsNoneInDoubt sides) where
    pub stand_begun : IsMarked K (Opened (length sides) volume) → StandFor K sides volume (begun_world 0 sides)
    stand_begun marked =
        let honest : K.honest volume = (marked 0 some).honest in
        let stores : StoresFrom none_kept 0 (begun_world 0 sides) (K.held volume) = stores_begun 0 sides (λ i lt. marked i (omega (arith, lt))) in
        record {
          honest = honest;
          sides_are = sides_begun 0 sides calm;
          stores = stores;
          left = λ o was. subst (λ (x : Option Held). IsLeftOf (begun_world 0 sides) (K.held volume).sequence x) (sym ((rests volume honest works).only o was)) (inl (refl, stores));
          calm = λ _ owner has. none_begun 0 owner sides has;
          single = λ one other first second. absurd (none_begun 0 one sides first);
        }

    module _ (few : length sides ≤ MAX_HOSTS) (seen : List (Snapshot V)) (are : map (λ s. s.value) seen ≡ replicate (length sides) volume)
        (dirs : List (Option Directory)) (none : AreHeld (K.held volume).leaves dirs) where
      seen_length : length seen ≡ length sides
      seen_length = sym (length-map seen (λ (s : Snapshot V). s.value)) ∙ ap (λ (vs : List V). length vs) are ∙ length-replicate (length sides) volume

      parts_are : parts_by K behaviour (let n : Option (Loss V A) = None in n) seen ≡ parts_from K behaviour (let n : Option (Loss V A) = None in n) 0 (replicate (length sides) volume)
      parts_are = ap (λ (vs : List V). parts_from K behaviour (let n : Option (Loss V A) = None in n) 0 vs) are

      stored_begun : IsMarked K (Opened (length sides) volume) → IsStoredFor K A (parts_by K behaviour (let n : Option (Loss V A) = None in n) seen) volume
      stored_begun marked = record { sides = sides; world = begun_world 0 sides; are = parts_begun 0 sides ∙ sym parts_are; stands = stand_begun marked }

      pub storage_begun : IsStorage K (length seen) volume volume (let n : Option (Loss V A) = None in n) dirs (parts_by K behaviour (let n : Option (Loss V A) = None in n) seen)
      storage_begun = record {
        each = parts_length K behaviour (let n : Option (Loss V A) = None in n) 0 (map (λ s. s.value) seen) ∙ length-map seen (λ (s : Snapshot V). s.value);
        some = let n = seen_length in omega (arith, n, some);
        few = let n = seen_length in omega (arith, n, few);
        lost = works;
        since = record { faults = omega arith; foundation = refl };
        below = λ honest. honest;
        kept = λ marked. stored_begun (subst (λ n. IsMarked K (Opened n volume)) seen_length marked);
        held = λ marked. none;
      }

      pub opened_begun : AreOpened K (length sides) volume (parts_by K behaviour (let n : Option (Loss V A) = None in n) seen)
      opened_begun = record {
        each = storage_begun.each ∙ seen_length;
        part = λ app lt.
            let there : slice_get (replicate (length sides) volume) app ≡ Some volume =
            get_there (replicate (length sides) volume) app volume (let n = length-replicate (length sides) volume in omega (arith, n, lt))
            ∙ ap (λ (v : V). Some v) (get_or-replicate (length sides) app volume volume lt) in
            ap (λ (ps : List StoragePart). part_at ps app) parts_are ∙ part_is K behaviour (let n : Option (Loss V A) = None in n) app (replicate (length sides) volume) volume there;
      }
