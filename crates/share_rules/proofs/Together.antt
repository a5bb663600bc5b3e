-- What handles do together, with one more.
use Rattle.std.proofs.Common.{◌≡◌, ◌&&◌, ◌||◌, Bool, true, List, [], ◌∷◌}
use Rattle.std.proofs.Common.{◌++◌, length, nat_lt, refl, arith, rules}
use Rattle.std.specs.List.{list_any, list_all}
use Rattle.std.proofs.lemmas.List.Folds.{list_any-append, list_all-append}
use Rattle.std.proofs.lemmas.List.{length_push}
use Rattle.tee_base.specs.declared.codes.Flags.{Flags}
use Rattle.share_rules.specs.Sharing.{has, uses_of, with_handle, access_read, access_write, access_write_meta, share_read, share_write}

any_push : (p : Flags → Bool) (xs : List Flags) (y : Flags) → list_any p (xs ++ y ∷ []) ≡ (list_any p xs || p y)
any_push p xs y = search (rules, list_any-append)

all_push : (p : Flags → Bool) (xs : List Flags) (y : Flags) → list_all p (xs ++ y ∷ []) ≡ (list_all p xs && p y)
all_push p xs y = search (rules, list_all-append)

several : (x : Flags) (xs : List Flags) (y : Flags) → nat_lt 1 (length (x ∷ (xs ++ y ∷ []))) ≡ true
several x xs y = search (rules, arith, length_push)

-- one handle more, on one object
pub uses_of_push : (x : Flags) (xs : List Flags) (y : Flags) → uses_of (x ∷ (xs ++ y ∷ [])) ≡ with_handle (uses_of (x ∷ xs)) y
uses_of_push x xs y = rw (
  several x xs y,
  any_push (has access_write_meta) (x ∷ xs) y,
  any_push (has access_read) (x ∷ xs) y,
  any_push (has access_write) (x ∷ xs) y,
  all_push (has share_read) (x ∷ xs) y,
  all_push (has share_write) (x ∷ xs) y,
) refl
