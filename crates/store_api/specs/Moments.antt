-- The moments of a store in memory: what holds of its clock.
use Rattle.std.specs.Prelude.{◌≤◌, ℕ, List, [], ◌∷◌, Some, refl}
use Rattle.std.proofs.Common.{inl, inr, ⊎_elim, arith}
use Rattle.store_api.specs.Keeping.{Remains}
use Rattle.store_api.specs.Stores.{Store}
use Rattle.store_api.specs.MapStores.{MapState, LeftBefore, contents_of, left_of, moment_of}

before_earlier : (past : List Store) (t u : ℕ) (o : Remains) → t ≤ u → LeftBefore past u o → LeftBefore past t o
before_earlier [] t u o le left = left
before_earlier (store ∷ past) t u o le left = ⊎_elim (λ now. inl (let h = now.0 in omega arith, now.1)) (λ was. inr (before_earlier past t u o le was)) left

-- what was left since a later moment was left since an earlier one
pub since_earlier : (s : MapState) (t u : ℕ) (o : Remains) → t ≤ u → left_of s u o → left_of s t o
since_earlier s t u o le left = ⊎_elim (λ now. inl now) (λ was. inr (before_earlier s.past t u o le was)) left

-- what is kept is among what a crash now may leave
pub left_now : (s : MapState) → left_of s (moment_of s) (Some (contents_of s))
left_now s = inl refl
