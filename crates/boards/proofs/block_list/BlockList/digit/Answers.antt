use Rattle.std.proofs.Common.{◌≡◌, ◌∙◌, ◌/◌, ◌%◌, ◌^◌, ℕ, List, take, ap, arith, sym}
use Rattle.std.proofs.lemmas.List.{take_all, take_more}
use Rattle.boards.proofs.Places.{distinct_noted, rest_gone, rest_kept, rest_start, rest_taken, smaller, smaller_is}
use Rattle.boards.proofs.block_list.BlockList.digit.Goals as goal
use Rattle.boards.proofs.block_list.BlockList.digit.Goals.{then-listed-block, else-listed-block}

pub loop-listed-init : goal.loop-listed-init
loop-listed-init c = rest_start c.args.digits c.args.block

pub loop-listed-preserved : goal.loop-listed-preserved
loop-listed-preserved c =
    let more = take_more c.deref-listed-items.result.now c.loop-listed.listed-index 0 c.loop-listed-test.true in
    elim c.if-listed-block.branch [
      | then-listed-block w ↦ rw (w.rest-is, more) (rest_taken c.args.digits _ _ c.args.block _ (omega (arith, w.if-listed-block.true)) c.loop-listed.invariant)
      | else-listed-block w ↦ rw (w.rest-is, more) (rest_kept c.args.digits _ _ c.args.block _ (omega (arith, w.if-listed-block.false)) c.loop-listed.invariant)
    ]

pub returns-then-rest-eq0 : goal.returns-then-rest-eq0
returns-then-rest-eq0 c =
    let l = c.args.self.now in
    let listed = c.deref-listed-items.result.now in
    let distinct = distinct_noted l.blocks.items l.places.items (λ i h. c.requires.list.noted i (omega (arith, h, l.blocks.ok))) in
    let count = ap (λ (blocks : List ℕ). smaller blocks c.args.block) c.deref-listed-items.ensures.value ∙ smaller_is l.blocks.items distinct c.args.block in
    sym (ap (λ n. n % 4) (ap (λ n. c.args.digits / 4 ^ n) (sym count)
    ∙ rest_gone c.args.digits c.loop-listed.listed-index c.args.block listed (sym c.loop-listed.invariant ∙ c.if-rest-eq0.true)))

pub returns : goal.returns
returns c =
    let l = c.args.self.now in
    let all : take c.loop-listed.listed-index c.deref-listed-items.result.now ≡ l.blocks.items = take_all _ _ c.loop-listed-test.false ∙ c.deref-listed-items.ensures.value in
    let distinct = distinct_noted l.blocks.items l.places.items (λ i h. c.requires.list.noted i (omega (arith, h, l.blocks.ok))) in
    ap (λ n. n % 4) (c.loop-listed.invariant ∙ ap (λ n. c.args.digits / 4 ^ n) (ap (λ (blocks : List ℕ). smaller blocks c.args.block) all ∙ smaller_is l.blocks.items distinct c.args.block))
