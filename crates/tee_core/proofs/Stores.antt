-- The stores that the regions of a volume stand for, and what a change of one region leaves of them.
use Rattle.std.proofs.Common.{◌≡◌, ◌≢◌, ◌<◌, ◌≤◌, ◌+◌, ◌==◌, ℕ, zero, suc, Bool, true, false, cond, List, [], ◌∷◌, Option, None, Some}
use Rattle.std.proofs.Common.{Result, Ok, Err, is_some, set, refl, sym, subst, ◌∙◌, ap, inl, inr, ⊎_elim, arith}
use Rattle.std.specs.Prelude.{slice_get}
use Rattle.std.proofs.lemmas.Bool.{eq-eqb, ne_eqb}
use Rattle.store_api.specs.Keeping.{Contents, Rest}
use Rattle.store_api.specs.Stores.{Store}
use Rattle.store_api.specs.Volumes.{Held}
use Rattle.region_plan.specs.Regions.{region_of}
use Rattle.object_dir.specs.Regions.{beside, in_use, remains_of, others, region_in, remains_in, rest_of}
use Rattle.alone.specs.Machine.{Machine}
use Rattle.alone.specs.Step.{store_found}
use Rattle.tee_core.specs.Powers.{all_lost}
use Rattle.tee_core.specs.Represents.{HasDoubt, HasStoresOf, HoldsStores, IsLeftOf, StoresFrom, kept_of, none_kept}
use Rattle.tee_core.specs.World.{World}

-- without a change that is kept the store is the machine's own
pub own_store : (store : Store) (doubt : Option Store) → store_found false store doubt ≡ store
own_store store None = refl
own_store store (Some doubt) = refl

-- ---- one region

pub others_at : (app other : ℕ) (leaves : ℕ → ℕ → List ℕ) → other ≢ app → others app leaves other ≡ leaves other
others_at app other leaves apart = ap (λ (b : Bool). (λ (l : ℕ). cond b [] (leaves other l))) (ne_eqb other app apart)

-- the regions beside one are the same where the rest is
pub same_region : (app other : ℕ) (held held_then : Held) → rest_of app held_then ≡ rest_of app held → other ≢ app → region_in other held_then ≡ region_in other held
same_region app other held held_then same apart =
    let leaves : others app held_then.leaves other ≡ others app held.leaves other = ap (λ (r : Rest). r.leaves other) same in
    ap (λ (f : ℕ → List ℕ). region_of in_use f) (sym (others_at app other held_then.leaves apart) ∙ leaves ∙ others_at app other held.leaves apart)

-- what a crash left of a region, where it is this
pub record IsRemains (app : ℕ) (o : Option Held) (kept : Contents) : Type 0 where
  pub held : Held
  pub is : o ≡ Some held
  pub store : region_in app held ≡ Ok kept.store
  pub rest : rest_of app held ≡ kept.rest
  pub sequence : held.sequence ≡ kept.number

remains_by : (app : ℕ) (held : Held) (r : Result Store ℕ) (kept : Contents) → region_in app held ≡ r → remains_of app held r ≡ Some kept → IsRemains app (Some held) kept
remains_by app held (Ok store) kept region is =
    let same : beside app held store ≡ kept = let e : Some (beside app held store) ≡ Some kept = is in cc in
    record {
      held = held;
      is = refl;
      store = region ∙ ap (λ (c : Contents). Ok c.store) same;
      rest = ap (λ (c : Contents). c.rest) same;
      sequence = ap (λ (c : Contents). c.number) same;
    }
remains_by app held (Err leaf) kept region is = absurd (let e : None ≡ Some kept = is in cc)

pub remains_is : (app : ℕ) (o : Option Held) (kept : Contents) → remains_in app o ≡ Some kept → IsRemains app o kept
remains_is app None kept is = absurd (let e : None ≡ Some kept = is in cc)
remains_is app (Some held) kept is = remains_by app held (region_in app held) kept refl is

-- ---- all of them

-- a machine before and after, where a change of one of them is in doubt
module _ {A : Type 0} where
  -- the regions from one on stand for the same stores where they are the same
  pub stores_same : (kept : ℕ → Bool) (r : ℕ) (world : World A) (held then : Held) → ((b : ℕ) → r ≤ b → region_in b then ≡ region_in b held) → StoresFrom kept r world held →
      StoresFrom kept r world then
  stores_same kept r [] held then same are = tt
  stores_same kept r (m ∷ world) held then same are = (same r (omega arith) ∙ are.0, stores_same kept (r + 1) world held then (λ b le. same b (omega (arith, le))) are.1)

  -- one of them changes, with its machine
  pub stores_set : (kept : ℕ → Bool) (r i : ℕ) (world : World A) (held then : Held) (m : Machine A) → ((b : ℕ) → b ≢ r + i → region_in b then ≡ region_in b held)
      → region_in (r + i) then ≡ Ok (store_found (kept (r + i)) m.store m.in_doubt) → StoresFrom kept r world held → StoresFrom kept r (set world i m) then
  stores_set kept r i [] held then m same own are = tt
  stores_set kept r zero (n ∷ world) held then m same own are = (
    subst (λ k. region_in k then ≡ Ok (store_found (kept k) m.store m.in_doubt)) (omega arith) own,
    stores_same kept (r + 1) world held then (λ b le. same b (λ is. absurd (omega (arith, le, is)))) are.1,
  )
  stores_set kept r (suc i) (n ∷ world) held then m same own are = (
    same r (λ is. absurd (omega (arith, is))) ∙ are.0,
    stores_set kept (r + 1) i world held then m
        (λ b other. same b (λ is. other (omega (arith, is))))
        (subst (λ k. region_in k then ≡ Ok (store_found (kept k) m.store m.in_doubt)) (omega arith) own) are.1,
  )

  -- the store of one of them
  pub store_at : (kept : ℕ → Bool) (r i : ℕ) (world : World A) (held : Held) (m : Machine A) → slice_get world i ≡ Some m → StoresFrom kept r world held →
      region_in (r + i) held ≡ Ok (store_found (kept (r + i)) m.store m.in_doubt)
  store_at kept r i [] held m here are = absurd (let e : None ≡ Some m = here in cc)
  store_at kept r zero (n ∷ world) held m here are =
      let same : n ≡ m = let e : Some n ≡ Some m = here in cc in
      subst (λ k. region_in k held ≡ Ok (store_found (kept k) m.store m.in_doubt)) (omega arith) (are.0 ∙ ap (λ (x : Machine A). Ok (store_found (kept r) x.store x.in_doubt)) same)
  store_at kept r (suc i) (n ∷ world) held m here are =
      subst (λ k. region_in k held ≡ Ok (store_found (kept k) m.store m.in_doubt)) (omega arith) (store_at kept (r + 1) i world held m here are.1)

  pub own_at : (world : World A) (app : ℕ) (held : Held) (m : Machine A) → slice_get world app ≡ Some m → HoldsStores none_kept world held → region_in app held ≡ Ok m.store
  own_at world app held m here are =
      let at : 0 + app ≡ app = omega arith in
      subst (λ k. region_in k held ≡ Ok (store_found false m.store m.in_doubt)) at (store_at none_kept 0 app world held m here are) ∙ ap (λ (s : Store). Ok s) (own_store m.store m.in_doubt)

  -- those behind the owner have none
  stores_behind : (owner r : ℕ) (world : World A) (held then : Held) → owner < r → ((b : ℕ) → r ≤ b → region_in b then ≡ region_in b held) → StoresFrom none_kept r world held →
      StoresFrom (kept_of owner) r world then
  stores_behind owner r [] held then behind same are = tt
  stores_behind owner r (m ∷ world) held then behind same are = (
    same r (omega arith) ∙ are.0 ∙ ap (λ b. Ok (store_found b m.store m.in_doubt)) (sym (ne_eqb r owner (λ is. absurd (omega (arith, is, behind))))),
    stores_behind owner (r + 1) world held then (omega (arith, behind)) (λ b le. same b (omega (arith, le))) are.1,
  )

  -- where only the one that is set has a change that is kept
  pub stores_kept : (r i : ℕ) (world : World A) (held then : Held) (m : Machine A) → ((b : ℕ) → b ≢ r + i → region_in b then ≡ region_in b held)
      → region_in (r + i) then ≡ Ok (store_found true m.store m.in_doubt) → StoresFrom none_kept r world held → StoresFrom (kept_of (r + i)) r (set world i m) then
  stores_kept r i [] held then m same own are = tt
  stores_kept r zero (n ∷ world) held then m same own are = (
    subst (λ k. region_in k then ≡ Ok (store_found (k == r + 0) m.store m.in_doubt)) (omega arith) (own ∙ ap (λ b. Ok (store_found b m.store m.in_doubt)) (sym (eq-eqb (r + 0) (r + 0) refl))),
    stores_behind (r + 0) (r + 1) world held then (omega arith) (λ b le. same b (λ is. absurd (omega (arith, le, is)))) are.1,
  )
  stores_kept r (suc i) (n ∷ world) held then m same own are =
      let at : r + suc i ≡ r + 1 + i = omega arith in (
        same r (λ is. absurd (omega (arith, is))) ∙ are.0 ∙ ap (λ b. Ok (store_found b n.store n.in_doubt)) (sym (ne_eqb r (r + suc i) (λ is. absurd (omega (arith, is))))),
        subst (λ k. StoresFrom (kept_of k) (r + 1) (set world i m) then) (sym at)
            (stores_kept (r + 1) i world held then m (λ b other. same b (λ is. other (is ∙ at))) (subst (λ k. region_in k then ≡ Ok (store_found true m.store m.in_doubt)) at own) are.1),
      )

  -- the same of the whole world
  pub whole_set : (world : World A) (app : ℕ) (held then : Held) (m : Machine A) → ((b : ℕ) → b ≢ app → region_in b then ≡ region_in b held) → region_in app then ≡ Ok m.store
      → HoldsStores none_kept world held → HoldsStores none_kept (set world app m) then
  whole_set world app held then m same own are =
      let at : 0 + app ≡ app = omega arith in
      stores_set none_kept 0 app world held then m (λ b other. same b (λ is. other (is ∙ sym at)))
      (subst (λ k. region_in k then ≡ Ok (store_found false m.store m.in_doubt)) (sym at) (own ∙ ap (λ (s : Store). Ok s) (sym (own_store m.store m.in_doubt)))) are

  pub whole_kept : (world : World A) (app : ℕ) (held then : Held) (m : Machine A) → ((b : ℕ) → b ≢ app → region_in b then ≡ region_in b held)
      → region_in app then ≡ Ok (store_found true m.store m.in_doubt) → HoldsStores none_kept world held → HoldsStores (kept_of app) (set world app m) then
  whole_kept world app held then m same own are =
      let at : 0 + app ≡ app = omega arith in
      subst (λ k. HoldsStores (kept_of k) (set world app m) then) at
      (stores_kept 0 app world held then m (λ b other. same b (λ is. other (is ∙ sym at))) (subst (λ k. region_in k then ≡ Ok (store_found true m.store m.in_doubt)) (sym at) own) are)

  pub whole_at : (kept : ℕ → Bool) (world : World A) (app : ℕ) (held : Held) (m : Machine A) → slice_get world app ≡ Some m → HoldsStores kept world held →
      region_in app held ≡ Ok (store_found (kept app) m.store m.in_doubt)
  whole_at kept world app held m here are =
      let at : 0 + app ≡ app = omega arith in
      subst (λ k. region_in k held ≡ Ok (store_found (kept k) m.store m.in_doubt)) at (store_at kept 0 app world held m here are)

  -- ---- losses leave stores and changes in doubt

  pub stores_lost : (kept : ℕ → Bool) (r : ℕ) (world : World A) (held : Held) → StoresFrom kept r world held → StoresFrom kept r (all_lost world) held
  stores_lost kept r [] held are = tt
  stores_lost kept r (m ∷ world) held are = (are.0, stores_lost kept (r + 1) world held are.1)

  abbrev lost_option : Option (Machine A) → Option (Machine A)
  lost_option None = None
  lost_option (Some m) = Some (record m { lost = true })

  pub lost_at : (world : World A) (i : ℕ) (m : Machine A) → slice_get world i ≡ Some m → slice_get (all_lost world) i ≡ Some (record m { lost = true })
  lost_at [] i m here = absurd (let e : None ≡ Some m = here in cc)
  lost_at (n ∷ world) zero m here = ap (λ (o : Option (Machine A)). lost_option o) here
  lost_at (n ∷ world) (suc i) m here = lost_at world i m here

  from_lost : (world : World A) (i : ℕ) (m : Machine A) → slice_get (all_lost world) i ≡ Some m → (n : Machine A) × (slice_get world i ≡ Some n) × (m ≡ record n { lost = true })
  from_lost [] i m here = absurd (let e : None ≡ Some m = here in cc)
  from_lost (n ∷ world) zero m here = (n, refl, let e : Some (record n { lost = true }) ≡ Some m = here in cc)
  from_lost (n ∷ world) (suc i) m here = from_lost world i m here

  pub doubt_lost : (owner : ℕ) (world : World A) → HasDoubt owner world → HasDoubt owner (all_lost world)
  doubt_lost owner world has = record { machine = record has.machine { lost = true }; there = lost_at world owner has.machine has.there; doubt = has.doubt }

  pub doubt_unlost : (owner : ℕ) (world : World A) → HasDoubt owner (all_lost world) → HasDoubt owner world
  doubt_unlost owner world has =
      let from = from_lost world owner has.machine has.there in
      record { machine = from.0; there = from.1; doubt = sym (ap (λ (x : Machine A). is_some x.in_doubt) from.2) ∙ has.doubt }

  pub left_lost : (world : World A) (sequence : ℕ) (o : Option Held) → IsLeftOf world sequence o → IsLeftOf (all_lost world) sequence o
  left_lost world sequence None left = absurd left
  left_lost world sequence (Some held) left = ⊎_elim
      (λ (now : (held.sequence ≡ sequence) × HoldsStores none_kept world held). inl (now.0, stores_lost none_kept 0 world held now.1))
      (λ (doubt : (owner : ℕ) × HasDoubt owner world × (sequence < held.sequence) × HoldsStores (kept_of owner) world held).
      inr (doubt.0, doubt_lost doubt.0 world doubt.1, doubt.2, stores_lost (kept_of doubt.0) 0 world held doubt.3)) left

  pub has_lost : (world : World A) (o : Option Held) → HasStoresOf world o → HasStoresOf (all_lost world) o
  has_lost world None has = absurd has
  has_lost world (Some held) has = ⊎_elim
      (λ (now : HoldsStores none_kept world held). inl (stores_lost none_kept 0 world held now))
      (λ (doubt : (owner : ℕ) × HasDoubt owner world × HoldsStores (kept_of owner) world held).
      inr (doubt.0, doubt_lost doubt.0 world doubt.1, stores_lost (kept_of doubt.0) 0 world held doubt.2)) has

  -- what a crash left has the stores of the world
  pub left_has : (world : World A) (sequence : ℕ) (o : Option Held) → IsLeftOf world sequence o → HasStoresOf world o
  left_has world sequence None left = absurd left
  left_has world sequence (Some held) left = ⊎_elim
      (λ (now : (held.sequence ≡ sequence) × HoldsStores none_kept world held). inl now.1)
      (λ (doubt : (owner : ℕ) × HasDoubt owner world × (sequence < held.sequence) × HoldsStores (kept_of owner) world held). inr (doubt.0, doubt.1, doubt.3)) left
