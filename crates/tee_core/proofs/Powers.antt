-- A loss of power, for the world that stands over the regions of a volume.
use Rattle.app_api.specs.Behaviours.{Behaviour}
use Rattle.std.proofs.Common.{◌≡◌, ◌<◌, ◌≤◌, ◌+◌, ℕ, zero, suc, Bool, true, false, List, [], ◌∷◌, Option, None, Some, is_some, refl, sym, subst, ◌∙◌, ap, inl, ⊎_elim, arith}
use Rattle.std.specs.Prelude.{IfNone, IfSome, slice_get, nat_lt}
use Rattle.std.proofs.lemmas.Bool.{le-ltb, lt-ltb, ltb-false, ltb-true}
use Rattle.alone.specs.Machine.{Machine}
use Rattle.alone.specs.Step.{after_restart}
use Rattle.app_side.proofs.Numbered.{doubt_told}
use Rattle.app_side.specs.Represents.{has_doubt}
use Rattle.app_side.specs.declared.side.AppSide.{AppSide}
use Rattle.epoch.specs.Forms.{Form}
use Rattle.epoch.specs.Mounts.{IsAlwaysSound, IsLeftSound, IsWrittenAnew, LeavesAsBefore}
use Rattle.store_api.specs.Volumes.{Held, RestsAt, VolumeKeeper}
use Rattle.tee_core.specs.Moments.{IsWithin}
use Rattle.tee_core.specs.Powers.{IsTold, after_power, all_lost, kept_by, restarts_from, told_of}
use Rattle.tee_core.specs.Represents.{HasDoubt, HoldsStores, IsLeftOf, StandFor, StoresFrom, kept_of, none_kept}
use Rattle.tee_core.specs.Sides.{AreSides, IsNoneInDoubt}
use Rattle.tee_core.specs.World.{World}
use Rattle.tee_core.proofs.Stores.{doubt_unlost, left_has, left_lost, stores_lost}

-- ---- all machines at once

module _ {A : Type 0} (behaviour : Behaviour A) where
  -- the machines begin anew over the stores that were found, without a change in doubt
  pub stores_restarted : (kept : ℕ → Bool) (r : ℕ) (world : World A) (held : Held) → StoresFrom kept r world held → StoresFrom none_kept r (restarts_from behaviour kept r world) held
  stores_restarted kept r [] held are = tt
  stores_restarted kept r (m ∷ world) held are = (are.0, stores_restarted kept (r + 1) world held are.1)

  pub none_in_doubt : (kept : ℕ → Bool) (r owner : ℕ) (world : World A) → HasDoubt owner (restarts_from behaviour kept r world) → ⊥
  none_in_doubt kept r owner [] has = absurd (let e : None ≡ Some has.machine = has.there in cc)
  none_in_doubt kept r zero (m ∷ world) has =
      let is : after_restart m (kept r) ≡ has.machine = let e : Some (after_restart m (kept r)) ≡ Some has.machine = has.there in cc in
      absurd (let e : false ≡ true = ap (λ (x : Machine A). is_some x.in_doubt) is ∙ has.doubt in cc)
  none_in_doubt kept r (suc owner) (m ∷ world) has = none_in_doubt kept (r + 1) owner world (record { machine = has.machine; there = has.there; doubt = has.doubt })

-- ---- who has a change in doubt

-- the application that says so
pub doubt_at : {A : Type 0} (ss : List (AppSide A)) (world : World A) (owner : ℕ) (side : AppSide A) → AreSides ss world → slice_get ss owner ≡ Some side → has_doubt side ≡ true → HasDoubt owner world
doubt_at [] [] owner side are there doubt = absurd (let e : None ≡ Some side = there in cc)
doubt_at [] (m ∷ world) owner side are there doubt = absurd are
doubt_at (s ∷ ss) [] owner side are there doubt = absurd are
doubt_at {A} (s ∷ ss) (m ∷ world) zero side are there doubt =
    let is : s ≡ side = let e : Some s ≡ Some side = there in cc in
    record { machine = m; there = refl; doubt = sym (doubt_told s m are.0) ∙ ap (λ (x : AppSide A). has_doubt x) is ∙ doubt }
doubt_at (s ∷ ss) (m ∷ world) (suc owner) side are there doubt =
    let rest = doubt_at ss world owner side are.1 there doubt in
    record { machine = rest.machine; there = rest.there; doubt = rest.doubt }

-- where no application says so, no machine has one
pub none_at : {A : Type 0} (ss : List (AppSide A)) (world : World A) (owner : ℕ) → AreSides ss world → IsNoneInDoubt ss → HasDoubt owner world → ⊥
none_at [] [] owner are none has = absurd (let e : None ≡ Some has.machine = has.there in cc)
none_at [] (m ∷ world) owner are none has = absurd are
none_at (s ∷ ss) [] owner are none has = absurd are
none_at {A} (s ∷ ss) (m ∷ world) zero are none has =
    let is : m ≡ has.machine = let e : Some m ≡ Some has.machine = has.there in cc in
    absurd (let e : false ≡ true = sym none.0 ∙ doubt_told s m are.0 ∙ ap (λ (x : Machine A). is_some x.in_doubt) is ∙ has.doubt in cc)
none_at (s ∷ ss) (m ∷ world) (suc owner) are none has = none_at ss world owner are.1 none.1 (record { machine = has.machine; there = has.there; doubt = has.doubt })

-- ---- the power

module _ {V A : Type 0} (K : VolumeKeeper V)
    (rests : (v : V) → K.honest v → (K.condition v).lost ≡ false → RestsAt K v (K.held v))
    (since : (v : V) (t u : ℕ) (o : Option Held) → t ≤ u → K.left_since v u o → K.left_since v t o)
    (behaviour : Behaviour A) (sides : List (AppSide A)) (world : World A) (old new : V) (whole : StandFor K sides old world) where
  is_sound : (o : Option Held) → IsLeftOf world (K.held old).sequence o → IsLeftSound o
  is_sound None left = absurd left
  is_sound (Some held) left = tt

  -- all that a crash may leave is sound
  pub always_sound : (f : Form) → IsWrittenAnew K f old → IsAlwaysSound K f old
  always_sound f written = record { sound = λ o left. is_sound o (whole.left o left); written = written }

  -- the call leaves nothing else
  module _ (as_before : LeavesAsBefore K old new) where
    pub left_before : (o : Option Held) → K.left_since new (K.moment new) o → IsLeftOf world (K.held old).sequence o
    left_before o left = whole.left o (as_before.crash.each o (since new (K.moment old) (K.moment new) o as_before.crash.later left))

    pub within_power : IsWithin K world world old new
    within_power = record {
      later = as_before.crash.later;
      each = λ o left. inl (left_has world (K.held old).sequence o (whole.left o (as_before.crash.each o left)));
    }

  -- an order leaves the world as it is
  pub stand_ordered : K.honest new → K.held new ≡ K.held old → (K.condition new).lost ≡ (K.condition old).lost → LeavesAsBefore K old new → StandFor K sides new world
  stand_ordered honest held lost as_before = record {
    honest = honest;
    sides_are = whole.sides_are;
    stores = subst (λ (h : Held). HoldsStores none_kept world h) (sym held) whole.stores;
    left = λ o left. subst (λ (h : Held). IsLeftOf world h.sequence o) (sym held) (left_before as_before o left);
    calm = λ works. whole.calm (sym lost ∙ works);
    single = whole.single;
  }

  -- a refused power loses all applications, and leaves them otherwise
  pub stand_refused : (left : List (AppSide A)) → AreSides left (all_lost world) → K.honest new → K.held new ≡ K.held old → (K.condition new).lost ≡ true →
      LeavesAsBefore K old new → StandFor K left new (all_lost world)
  stand_refused left are honest held lost as_before = record {
    honest = honest;
    sides_are = are;
    stores = stores_lost none_kept 0 world (K.held new) (subst (λ (h : Held). HoldsStores none_kept world h) (sym held) whole.stores);
    left = λ o was. left_lost world (K.held new).sequence o (subst (λ (h : Held). IsLeftOf world h.sequence o) (sym held) (left_before as_before o was));
    calm = λ works. absurd (let e : true ≡ false = sym lost ∙ works in cc);
    single = λ one other first second. whole.single one other (doubt_unlost one world first) (doubt_unlost other world second);
  }

  -- ---- the power came back: owner is the application that says it has a change in doubt
  module _ (owner : Option ℕ) (none : IfNone owner (IsNoneInDoubt sides)) (some : IfSome owner (λ o. HasDoubt o world))
      (found : IsLeftOf world (K.held old).sequence (Some (K.held new))) where
    abbrev kept : Bool
    kept = nat_lt (K.held old).sequence (K.held new).sequence

    abbrev took : Option ℕ → Bool → ℕ → Bool
    took None b = none_kept
    took (Some o) true = kept_of o
    took (Some o) false = none_kept

    -- the one that has a change in doubt is the one that says so
    owner_is : (o : Option ℕ) → IfNone o (IsNoneInDoubt sides) → IfSome o (λ x. HasDoubt x world) → (other : ℕ) → HasDoubt other world → o ≡ Some other
    owner_is None lacks has other doubt = absurd (none_at sides world other whole.sides_are lacks doubt)
    owner_is (Some o) lacks has other doubt = ap (λ n. Some n) (whole.single o other has doubt)

    not_kept : (o : Option ℕ) → HoldsStores none_kept world (K.held new) → HoldsStores (kept_by (told_of o false)) world (K.held new)
    not_kept None are = are
    not_kept (Some o) are = are

    pub found_stores : HoldsStores (kept_by (told_of owner kept)) world (K.held new)
    found_stores = ⊎_elim
        (λ (now : ((K.held new).sequence ≡ (K.held old).sequence) × HoldsStores none_kept world (K.held new)).
        let b : kept ≡ false = le-ltb (K.held old).sequence (K.held new).sequence (let same = now.0 in omega (arith, same)) in
        subst (λ c. HoldsStores (kept_by (told_of owner c)) world (K.held new)) (sym b) (not_kept owner now.1))
        (λ (has : (other : ℕ) × HasDoubt other world × ((K.held old).sequence < (K.held new).sequence) × HoldsStores (kept_of other) world (K.held new)).
        let b : kept ≡ true = lt-ltb (K.held old).sequence (K.held new).sequence has.2 in
        subst (λ c. HoldsStores (kept_by (told_of owner c)) world (K.held new)) (sym b)
        (subst (λ (o : Option ℕ). HoldsStores (kept_by (told_of o true)) world (K.held new)) (sym (owner_is owner none some has.0 has.1)) has.3)) found

    told_by : (o : Option ℕ) (b : Bool) → IfNone o (IsNoneInDoubt sides) → IfSome o (λ x. HasDoubt x world) → kept ≡ b → IsTold (told_of o b) world (K.held old).sequence (K.held new).sequence
    told_by None b lacks has is = λ other doubt. none_at sides world other whole.sides_are lacks doubt
    told_by (Some o) true lacks has is = (has, ltb-true (K.held old).sequence (K.held new).sequence is)
    told_by (Some o) false lacks has is = (has, ltb-false (K.held old).sequence (K.held new).sequence is)

    pub told_is : IsTold (told_of owner kept) world (K.held old).sequence (K.held new).sequence
    told_is = told_by owner kept none some refl

    pub stand_back : (left : List (AppSide A)) → AreSides left (after_power behaviour world (told_of owner kept)) → K.honest new → (K.condition new).lost ≡ false →
        StandFor K left new (after_power behaviour world (told_of owner kept))
    stand_back left are honest works =
        let stores = stores_restarted behaviour (kept_by (told_of owner kept)) 0 world (K.held new) found_stores in
        record {
          honest = honest;
          sides_are = are;
          stores = stores;
          left = λ o was. subst (λ (x : Option Held). IsLeftOf (after_power behaviour world (told_of owner kept)) (K.held new).sequence x)
              (sym ((rests new honest works).only o was)) (inl (refl, stores));
          calm = λ _ one has. none_in_doubt behaviour (kept_by (told_of owner kept)) 0 one world has;
          single = λ one other first second. absurd (none_in_doubt behaviour (kept_by (told_of owner kept)) 0 one world first);
        }
