use Rattle.std.proofs.Common.{◌∙◌, ◌==◌, ◌-◌, ◌<◌, ◌≤◌, List, ap, drop, find, get_or, length, subst, sym, arith}
use Rattle.alone.specs.KeptLogs.{highs_from}
use Rattle.alone.specs.declared.reply.Reply.{Reply}
use Rattle.alone.specs.Logs.{replies_in}
use Rattle.alone.proofs.HighLemmas.{highs_count, none_before}
use Rattle.alone.proofs.LogLemmas.{replies_logged}
use Rattle.alone.proofs.log.AppLog.reply_to.Goals as goal

pub find_from-requires : goal.find_from-requires
find_from-requires c =
    let as_many = ap length c.self.invariant.numbered ∙ highs_count 0 c.self.inside.replies.items in
    omega (arith, as_many, c.passed_over-place.ensures.few)

pub returns : goal.returns
returns c =
    let es = c.self.inside.entries.items in
    let rs = c.self.inside.replies.items in
    let place = c.passed_over-place.result in
    let as_many = ap length c.self.invariant.numbered ∙ highs_count 0 rs in
    let within : place ≤ length rs = omega (arith, as_many, c.passed_over-place.ensures.few, c.as_slice.ensures.len) in
    let numbers = c.as_slice.ensures.value ∙ c.self.invariant.numbered in
    let less : 0 < place → get_or (highs_from 0 rs) (place - 1) 0 < c.args.op =
    λ some. subst (λ hs. get_or hs (place - 1) 0 < c.args.op) numbers (c.passed_over-place.ensures.less some) in
    c.find_from.ensures
    ∙ ap (λ (all : List Reply). find (λ r. r.op == c.args.op) (drop place all)) c.as_slice-2.ensures.value
    ∙ none_before 0 c.args.op place rs within less
    ∙ sym (ap (λ (all : List Reply). find (λ r. r.op == c.args.op) all)
    (ap (λ log. replies_in log.entries) (sym c.self.view_is) ∙ replies_logged es rs c.self.invariant.counted))
