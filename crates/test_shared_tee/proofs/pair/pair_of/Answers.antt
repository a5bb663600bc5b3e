use Rattle.std.proofs.Common.{◌≡◌, ◌<◌, ℕ, zero, suc, List, [], ◌∷◌, length, refl, sym, ◌∙◌, ap, arith}
use Rattle.std.proofs.lemmas.List.Edits.{length-remove}
use Rattle.std.specs.List.{remove}
use Rattle.std.specs.Prelude.{slice_get}
use Rattle.shared_tee.proofs.PassLemmas.{cell_at}
use Rattle.test_shared_tee.proofs.pair.pair_of.Goals as goal

-- what stands before a place stays when that is taken out
before_removed : {X : Type 0} (xs : List X) (i j : ℕ) → i < j → j < length xs → slice_get (remove xs j) i ≡ slice_get xs i
before_removed [] i j before there = absurd (omega (arith, there))
before_removed (x ∷ xs) i zero before there = absurd (omega (arith, before))
before_removed (x ∷ xs) zero (suc j) before there = refl
before_removed (x ∷ xs) (suc i) (suc j) before there = before_removed xs i j (omega (arith, before)) (omega (arith, there))

pub returns-clause-second : goal.returns-clause-second
returns-clause-second g c =
    let n = c.args.passes.ok.0 in let lt = c.requires.there in
    cell_at c.args.passes.items c.args.second c.remove-behind.result (omega (arith, n, lt)) c.remove-behind.ensures.value

pub returns-clause-first : goal.returns-clause-first
returns-clause-first g c =
    let all = c.args.passes.items in
    let rest = c.remove-behind.new.self.items in
    let items = c.remove-behind.ensures.items in
    let n = c.args.passes.ok.0 in let order = c.requires.order in let there = c.requires.there in
    let fewer = ap (λ ps. length ps) items in
    let removed = length-remove all c.args.second (omega (arith, n, there)) in
    sym (before_removed all c.args.first c.args.second order (omega (arith, n, there)))
    ∙ ap (λ ps. slice_get ps c.args.first) (sym items)
    ∙ cell_at rest c.args.first c.remove-before.result (omega (arith, n, order, there, fewer, removed)) c.remove-before.ensures.value
