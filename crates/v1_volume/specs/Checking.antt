-- What a check of all leaves of a region of the first form promises.
use Rattle.std.specs.Prelude.{ℕ, ◌≡◌, ◌<◌, List, [], Option, None, Some, Result, Ok, Err, IfOk, IsTrue, slice_index_or}
use Rattle.store_api.specs.declared.answer.StoreAnswer.{StoreAnswer}
use Rattle.store_api.specs.declared.answer.StoreAnswer.TheVariants.{Garbled}
use Rattle.store_api.specs.Volumes.{VolumeKeeper}
use Rattle.region_plan.specs.Layout.{layout}
use Rattle.region_plan.specs.Reading.{IfGarbled, IsUndamaged, IsUnread, ReadsOnly, leaves_of, refusal_of}
use Rattle.region_plan.specs.Regions.{region_of, store_of}
use Rattle.region_plan.specs.declared.form.Form.TheVariants.{One}
use Rattle.tee_base.specs.Words.{RegionLeaves}

-- the leaf of a number
abbrev pub leaf_in : List (List ℕ) → ℕ → List ℕ
leaf_in leaves i = slice_index_or leaves i []

-- leaves stand for the store of their inodes
abbrev pub Stand : RegionLeaves → Type 0
Stand leaves = region_of (layout One) leaves ≡ Ok (store_of (layout One) leaves)

-- a fact that holds where all leaves were read: they keep the rules, or one of them breaks one
abbrev pub IfRead : Option StoreAnswer → Type 0 → Type 0
IfRead None fact = fact
IfRead (Some (Garbled leaf)) fact = fact
IfRead (Some _) fact = Unit {0}

-- a check of all leaves of a region: they are told where they stand for a store, else the least that breaks a rule
pub record ChecksRegion {S : Type 0} (K : VolumeKeeper S) (region : S → ℕ) (result : Result (List (List ℕ)) StoreAnswer) (old new : S) : Type 0 where
  -- the leaves are those that are found, and none of them is damaged
  pub leaves : IsTrue K.tells_reads → IfOk result (λ leaves. (i : ℕ) → i < 256 → leaf_in leaves i ≡ leaves_of K region old i)
  pub undamaged : IsTrue K.tells_reads → IfRead (refusal_of result) ((i : ℕ) → i < 256 → IsUndamaged K region old i)
  -- they keep the rules of the first form
  pub stand : IfOk result (λ leaves. Stand (leaf_in leaves))
  pub stands : IsTrue K.tells_reads → IfOk result (λ leaves. region_of (layout One) (leaves_of K region old) ≡ Ok (store_of (layout One) (leaf_in leaves)))
  -- a leaf that is told is the least that breaks one
  pub garbled : IsTrue K.tells_reads → IfGarbled (refusal_of result) (λ leaf. region_of (layout One) (leaves_of K region old) ≡ Err leaf)
  pub unread : IsUnread (refusal_of result)
  pub reads : ReadsOnly K region (refusal_of result) old new
