-- Leaves behind which one of a greater number is put.
use Rattle.std.proofs.Common.{◌≡◌, ◌∙◌, ◌++◌, ℕ, Bool, true, false, List, [], ◌∷◌, nat_lt, refl, sym, ap}
use Rattle.std.specs.Prelude.{◌&&◌}
use Rattle.std.specs.List.{list_all}
use Rattle.std.specs.Cmp.Derive.{both_true}
use Rattle.std.proofs.lemmas.List.Folds.{list_all-append}
use Rattle.store_api.specs.declared.leaves.Leaf.{Leaf}
use Rattle.store_api.specs.Ascending.{is_above_all, is_ascending}

-- each half of what is both
first_true : (a b : Bool) → (a && b) ≡ true → a ≡ true
first_true true b e = refl
first_true false b e = absurd (let f : false ≡ true = e in cc)

second_true : (a b : Bool) → (a && b) ≡ true → b ≡ true
second_true true b e = e
second_true false b e = absurd (let f : false ≡ true = e in cc)

pub ascending-push : (leaves : List Leaf) (last : Leaf) → is_ascending leaves ≡ true → is_above_all leaves last.number ≡ true → is_ascending (leaves ++ last ∷ []) ≡ true
ascending-push [] last ascends above = refl
ascending-push (leaf ∷ leaves) last ascends above =
    let below = λ (later : Leaf). nat_lt leaf.number later.number in
    both_true (list_all-append below leaves (last ∷ []) ∙ both_true (first_true _ _ ascends) (both_true (first_true _ _ above) refl))
    (ascending-push leaves last (second_true _ _ ascends) (second_true _ _ above))
