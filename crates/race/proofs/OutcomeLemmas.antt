-- How a race ends, worker by worker.
use Rattle.std.proofs.Common.{ℕ, ◌≡◌, ◌≢◌, ◌<◌, ◌+◌, ◌⊎◌, ◌∙◌, List, Result, Ok, Err, Some, ⊎_elim, ap, refl, subst, sym, arith}
use Rattle.std.specs.Prelude.{slice_get}
use Rattle.race.specs.declared.client.Stopped.{Stopped}
use Rattle.race.specs.declared.client.Stopped.TheVariants as stops
use Rattle.race.specs.Outcomes.{HasFilled, HasStarved, IsOutcome, worse_of}
use Rattle.race.specs.declared.worker.Worker.{Worker}

not_starved : (full : ℕ) → (let r : Result (Unit {0}) Stopped = Err (stops.LogFull full) in r) ≢ Err stops.NoMemory
not_starved full same = absurd (cc (same))

module _ {V A : Type 0} (workers : List (Worker V A)) (k : ℕ) (w : Worker V A) (here : slice_get workers k ≡ Some w) where
  -- this holds of the workers before this one and of this one
  with_this : (P : Worker V A → Type 0) → ((i : ℕ) (v : Worker V A) → i < k → slice_get workers i ≡ Some v → P v) → P w
      → (i : ℕ) (v : Worker V A) → i < k + 1 → slice_get workers i ≡ Some v → P v
  with_this P before this i v lt there = ⊎_elim
      (λ less. before i v less there)
      (λ same. subst P (let e : Some w ≡ Some v = sym here ∙ (ap (λ n. slice_get workers n) (sym same) ∙ there) in cc (e)) this)
      (let cases : (i < k) ⊎ (i ≡ k) = grind (arith, lt) in cases)

  starves : w.ended ≡ Err stops.NoMemory → HasStarved (k + 1) workers
  starves is = record { place = k; one = w; within = omega arith; here = here; ended = is }

  starved_before : HasStarved k workers → HasStarved (k + 1) workers
  starved_before was = record { place = was.place; one = was.one; within = let lt = was.within in omega (arith, lt); here = was.here; ended = was.ended }

  filled_before : (full : ℕ) → w.ended ≢ Err stops.NoMemory → HasFilled k full workers → HasFilled (k + 1) full workers
  filled_before full this was = record {
    place = was.place;
    one = was.one;
    within = let lt = was.within in omega (arith, lt);
    here = was.here;
    ended = was.ended;
    before = was.before;
    served = with_this (λ (v : Worker V A). v.ended ≢ Err stops.NoMemory) was.served this;
  }

  fills : (full : ℕ) → w.ended ≡ Err (stops.LogFull full) → ((i : ℕ) (v : Worker V A) → i < k → slice_get workers i ≡ Some v → v.ended ≡ Ok tt) → HasFilled (k + 1) full workers
  fills full is all = record {
    place = k;
    one = w;
    within = omega arith;
    here = here;
    ended = is;
    before = all;
    served = with_this (λ (v : Worker V A). v.ended ≢ Err stops.NoMemory) (λ i v lt there same. absurd (let e : Ok tt ≡ Err stops.NoMemory = sym (all i v lt there) ∙ same in cc (e)))
        (λ same. not_starved full (sym is ∙ same));
  }

  next : (r e : Result (Unit {0}) Stopped) → w.ended ≡ e → IsOutcome k workers r → IsOutcome (k + 1) workers (worse_of r e)
  next (Ok done) (Ok more) is was = with_this (λ (v : Worker V A). v.ended ≡ Ok more) was is
  next (Ok done) (Err (stops.LogFull full)) is was = fills full is was
  next (Ok done) (Err stops.NoMemory) is was = starves is
  next (Err (stops.LogFull full)) (Ok more) is was = filled_before full (λ same. absurd (let e : Ok more ≡ Err stops.NoMemory = sym is ∙ same in cc (e))) was
  next (Err (stops.LogFull full)) (Err (stops.LogFull other)) is was = filled_before full (λ same. not_starved other (sym is ∙ same)) was
  next (Err (stops.LogFull full)) (Err stops.NoMemory) is was = starves is
  next (Err stops.NoMemory) e is was = starved_before was

  pub outcome_more : (r : Result (Unit {0}) Stopped) → IsOutcome k workers r → IsOutcome (k + 1) workers (worse_of r w.ended)
  outcome_more r was = next r w.ended refl was
