-- What a crash may leave of a store in memory once a change is made.
use Rattle.std.proofs.Common.{◌≡◌, ◌≤◌, ◌+◌, ◌⊎◌, ℕ, List, [], ◌∷◌, Result, Ok, Some, length, inl, inr, ⊎_elim, ap, subst, sym, arith}
use Rattle.store_api.specs.declared.answer.StoreAnswer.{StoreAnswer}
use Rattle.store_api.specs.Stores.{Store}
use Rattle.store_api.specs.Keeping.{Remains, IsBeforeOrAfter, LeavesJust, CrashChanges, KeepsPast}
use Rattle.store_api.specs.MapStores.{MapState, LeftBefore, left_of, moment_of, contents_of, map_keeper}

-- no moment of the past is now
none_now : (past : List Store) (t : ℕ) (o : Remains) → length past ≤ t → LeftBefore past t o → ⊥
none_now [] t o le left = left
none_now (store ∷ past) t o le left =
    ⊎_elim (λ now. let h = now.0 in absurd (omega arith)) (λ was. none_now past t o (omega arith) was) left

module _ (old new : MapState) (stated : Result Store StoreAnswer) (made : stated ≡ Ok new.store) (past : new.past ≡ old.store ∷ old.past) where
  longer : length new.past ≡ length old.past + 1
  longer = let same = ap length past in omega arith

  is_after : (o : Remains) → o ≡ Some (contents_of new) → IsBeforeOrAfter (contents_of old) stated o
  is_after o now = inr (new.store, length new.past, made, omega (arith, longer), now)

  -- the moments of the new past are the old one and those of its past
  split_past : (t : ℕ) (o : Remains) → LeftBefore new.past t o → ((t ≤ length old.past) × (o ≡ Some (contents_of old))) ⊎ LeftBefore old.past t o
  split_past t o was = subst (λ l. LeftBefore l t o) past was

  pub made_crash : LeavesJust map_keeper old (contents_of old) → CrashChanges map_keeper {A = Unit {0}} (Ok tt) stated old new
  made_crash just = record {
    any_moment = record {
      later = omega (arith, longer);
      each = λ o left. ⊎_elim (is_after o) (λ was. ⊎_elim (λ (x : (length old.past ≤ length old.past) × (o ≡ Some (contents_of old))). inl x.1)
          (λ (x : LeftBefore old.past (length old.past) o). absurd (none_now old.past (length old.past) o (omega arith) x)) (split_past (length old.past) o was)) left;
      before = λ t o le left. ⊎_elim (λ now. inr (is_after o now)) (λ was. ⊎_elim (λ (x : (t ≤ length old.past) × (o ≡ Some (contents_of old))). inl (inl x.1))
          (λ (x : LeftBefore old.past t o). inl (inr x)) (split_past t o was)) left;
    };
    afterwards = record { only = λ o left. ⊎_elim (λ now. now) (λ was. absurd (none_now new.past (length new.past) o (omega arith) was)) left };
  }

  -- the moment before the change, and those before it, stay in the past
  pub made_past : KeepsPast map_keeper old new
  made_past = record {
    later = omega (arith, longer);
    past = λ t o le left. subst (λ l. (o ≡ Some (contents_of new)) ⊎ LeftBefore l t o) (sym past)
        (⊎_elim (λ now. inr (inl (le, now))) (λ was. inr (inr was)) left);
  }
