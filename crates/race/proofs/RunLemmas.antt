-- Workers before their lines and after them.
use Rattle.app_api.specs.Behaviours.{Behaviour}
use Rattle.std.proofs.Common.{ℕ, ◌≡◌, ◌++◌, List, [], ◌∷◌, Result, Ok, Err, IfErr, length, subst, sym, arith, append-nil, take, drop, take_all}
use Rattle.std.proofs.lemmas.List.{drop_all}
use Rattle.std.specs.Prelude.{OnOk}
use Rattle.store_api.specs.Volumes.{VolumeKeeper}
use Rattle.shared_tee.specs.Passes.{PassView, Places}
use Rattle.script.specs.declared.line.Line.{Line}
use Rattle.race.specs.declared.client.Stopped.{Stopped}
use Rattle.race.specs.Clients.{AllKnowMore, AllServe, AllServeTill, FindsItFull}
use Rattle.race.specs.Workers.{AllHaveRun, AllMayRun, HasEnded, HasRun, MayRun}
use Rattle.race.specs.declared.worker.Worker.{Worker}

-- a list of the same length in place of another
pub refilled : {X : Type 0} (old new : List X) (count : ℕ) → length new ≡ length old → count ≡ length old → take count (new ++ drop (length new) old) ≡ new
refilled old new count same is = let e = drop_all (length new) old (omega (arith, same)) in rw e (rw (append-nil new) (take_all count new (omega (arith, same, is))))

module _ {V A : Type 0} (K : VolumeKeeper V) (behaviour : Behaviour A) (places : Places) (lines : List Line) where
  pub ended : (client : ℕ) (passes : List (PassView V A)) (r : Result (Unit {0}) Stopped) → OnOk r (AllServe K behaviour places client lines passes)
      → IfErr r (λ why. AllServeTill K behaviour why places client lines passes) → IfErr r (λ why. FindsItFull K behaviour why client lines passes)
      → HasEnded K behaviour places lines client r passes
  ended client passes (Ok done) ok err full = ok
  ended client passes (Err why) ok err full = (err, full)

  pub has_run : (old new : Worker V A) (passes : List (PassView V A)) → new.passes.items ≡ passes → new.client ≡ old.client → AllKnowMore old.passes.items passes
      → OnOk new.ended (AllServe K behaviour places old.client lines passes)
      → IfErr new.ended (λ why. AllServeTill K behaviour why places old.client lines passes) → IfErr new.ended (λ why. FindsItFull K behaviour why old.client lines passes)
      → HasRun K behaviour places lines old new
  has_run old new passes is same known ok err full = record {
    client = same;
    known = subst (λ ps. AllKnowMore old.passes.items ps) (sym is) known;
    ended = subst (λ n. HasEnded K behaviour places lines n new.ended new.passes.items) (sym same)
        (subst (λ ps. HasEnded K behaviour places lines old.client new.ended ps) (sym is) (ended old.client passes new.ended ok err full));
  }

  -- ---- the last of some workers

  pub last_may : (front : List (Worker V A)) (w : Worker V A) → AllMayRun K behaviour places lines (front ++ w ∷ []) → MayRun K behaviour places lines w
  last_may [] w all = all.0
  last_may (v ∷ front) w all = last_may front w all.1

  pub others_may : (front : List (Worker V A)) (w : Worker V A) → AllMayRun K behaviour places lines (front ++ w ∷ []) → AllMayRun K behaviour places lines front
  others_may [] w all = tt
  others_may (v ∷ front) w all = (all.0, others_may front w all.1)

  pub all_have_run : (old new : List (Worker V A)) (v w : Worker V A) → AllHaveRun K behaviour places lines old new → HasRun K behaviour places lines v w
      → AllHaveRun K behaviour places lines (old ++ v ∷ []) (new ++ w ∷ [])
  all_have_run [] [] v w all last = (last, tt)
  all_have_run [] (y ∷ new) v w all last = absurd all
  all_have_run (x ∷ old) [] v w all last = absurd all
  all_have_run (x ∷ old) (y ∷ new) v w all last = (all.0, all_have_run old new v w all.1 last)
