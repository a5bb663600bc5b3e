use Rattle.operation_asks.proofs.AskLemmas.{new_busy, new_made, at_least, fewer}
use Rattle.std.proofs.Common.{◌≡◌, ℕ, List, ap, sym, subst, ◌∙◌, map, filter, count_by, nat_le, true, false}
use Rattle.tee_base.specs.Numbers.{lowest_free}
use Rattle.crypto_ops.specs.Operations.{allocate_answer}
use Rattle.app_api.specs.declared.ask.Answer.TheVariants as answers
use Rattle.operation_asks.specs.declared.table.Entry.{Entry}
use Rattle.operation_asks.specs.declared.outcome.Outcome.{Outcome}
use Rattle.operation_asks.specs.declared.outcome.Outcome.TheVariants.{Answered}
use Rattle.operation_asks.specs.Asks.{new_effect}
use Rattle.operation_asks.specs.Represents.{AreOperations, IsEffect, has_instance}
use Rattle.operation_asks.proofs.table.create.Goals as goal

pub returns-then-count_of-ge-MAX_CRYPTO_OPERATIONS-clause-served : goal.returns-then-count_of-ge-MAX_CRYPTO_OPERATIONS-clause-served
returns-then-count_of-ge-MAX_CRYPTO_OPERATIONS-clause-served c os are =
    let full : nat_le 8 (count_by (has_instance c.args.instance) c.args.entries.now.items) ≡ true =
    ap (nat_le 8) (sym (c.count_of.ensures ∙ ap (count_by (has_instance c.args.instance)) c.as_slice.ensures.value)) ∙ at_least 8 c.count_of.result c.if-count_of-ge-MAX_CRYPTO_OPERATIONS.true in
    subst (λ (told : Outcome). IsEffect AreOperations told (new_effect os c.args.instance c.args.alg c.args.mode c.args.max_bits) c.args.entries.now.items) (sym c.refused.ensures)
    (new_busy (allocate_answer c.args.alg c.args.mode c.args.max_bits) c.in-Ok.operation c.args.instance c.args.entries.now.items os c.in-Ok.ensures are full)

pub returns-clause-served : goal.returns-clause-served
returns-clause-served c os are =
    let room : nat_le 8 (count_by (has_instance c.args.instance) c.args.entries.now.items) ≡ false =
    ap (nat_le 8) (sym (c.count_of.ensures ∙ ap (count_by (has_instance c.args.instance)) c.as_slice.ensures.value)) ∙ fewer 8 c.count_of.result c.if-count_of-ge-MAX_CRYPTO_OPERATIONS.false in
    let lowest : c.free_number-number.result ≡ lowest_free (map (λ e. e.number) (filter (has_instance c.args.instance) c.args.entries.now.items)) =
    c.free_number-number.ensures ∙ ap (λ (es : List Entry). lowest_free (map (λ e. e.number) (filter (has_instance c.args.instance) es))) c.as_slice-2.ensures.value in
    subst (λ (n : ℕ). IsEffect AreOperations (Answered (answers.Number n)) (new_effect os c.args.instance c.args.alg c.args.mode c.args.max_bits) c.push.new.self.items) (sym c.from.ensures)
    (new_made (allocate_answer c.args.alg c.args.mode c.args.max_bits) c.in-Ok.operation c.args.instance c.free_number-number.result
    c.args.entries.now.items c.push.new.self.items os c.in-Ok.ensures are room lowest c.in_ok-push.ensures.items)
