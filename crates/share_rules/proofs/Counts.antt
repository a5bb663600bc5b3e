-- What is counted is noted.
use Rattle.std.proofs.Common.{◌≡◌, ◌≤◌, ℕ, refl, true, false, cond, List, [], ◌∷◌}
use Rattle.std.proofs.Common.{count_by, IsTrue, ap, ⊎_elim, arith}
use Rattle.std.proofs.lemmas.Bool.{cases_Bool, and_from, eq-eqb}
use Rattle.std.proofs.lemmas.List.Sums.{sum_by-cons}
use Rattle.std.specs.Str.{bytes_eq}
use Rattle.std.proofs.lemmas.Slice.Eq.{bytes_eq-Decides}
use Rattle.tee_base.specs.declared.codes.Flags.{Flags}
use Rattle.share_rules.specs.declared.index.Share.{Share}
use Rattle.share_rules.specs.Sharing.{Gains, is_share, is_noted}

pub noted_from_count : (xs : List Share) (id : List ℕ) (flags : Flags) → 1 ≤ count_by (is_share id flags) xs → IsTrue (is_noted xs id flags)
noted_from_count [] id flags h = absurd (omega (arith, h))
noted_from_count (x ∷ xs) id flags h =
    ⊎_elim
    (λ (yes : is_share id flags x ≡ true). rw yes refl)
    (λ (no : is_share id flags x ≡ false).
    let rest : 1 ≤ count_by (is_share id flags) xs = omega (arith, h, sum_by-cons (λ (s : Share). cond (is_share id flags s) 1 0) x xs, ap {B = ℕ} (λ b. cond b 1 0) no) in
    rw no (noted_from_count xs id flags rest))
    (cases_Bool (is_share id flags x))

pub share_is_self : (id : List ℕ) (flags : Flags) → is_share id flags (record { id = id; flags = flags }) ≡ true
share_is_self id flags = and_from (bytes_eq id id) _ ((bytes_eq-Decides id id).1 refl) (eq-eqb flags.0 flags.0 refl)

pub gained_noted : (xs ys : List Share) (id : List ℕ) (flags : Flags) → Gains xs (record { id = id; flags = flags }) ys → IsTrue (is_noted ys id flags)
gained_noted xs ys id flags gains =
    noted_from_count ys id flags (omega (arith, gains (is_share id flags), ap {B = ℕ} (λ b. cond b 1 0) (share_is_self id flags)))
