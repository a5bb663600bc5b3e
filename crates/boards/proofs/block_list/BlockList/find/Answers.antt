use Rattle.std.proofs.Common.{◌≡◌, ◌≤◌, ◌<◌, ℕ, get_or, length, sym, ◌∙◌, arith}
use Rattle.std.proofs.lemmas.List.{get_or_read}
use Rattle.boards.specs.Places.{place_in}
use Rattle.boards.proofs.BlockLists.{found_place, place_in-le, unfound_place, unreached_place}
use Rattle.boards.proofs.block_list.BlockList.find.Goals as goal
use Rattle.boards.proofs.block_list.BlockList.find.Goals.{then-place-len-via-then-place-len, then-place-len-via-else-place-len+then-index-block}

pub returns-then-block-len-clause-none : goal.returns-then-block-len-clause-none
returns-then-block-len-clause-none c =
    let l = c.args.self.now in
    let most = place_in-le l.blocks.items l.places.items (λ i h. c.requires.noted i (omega (arith, h, l.blocks.ok))) c.args.block in
    let least = unreached_place l.blocks.items l.places.items (λ i h. c.requires.noted i (omega (arith, h, l.blocks.ok))) c.args.block c.len.result
    (λ i h. let below = c.requires.reached i (omega (arith, h, l.blocks.ok)) in omega (arith, below, c.len.ensures)) c.if-block-len.true in
    omega (arith, most, least, l.blocks.ok)

pub returns-then-place-len-clause-none : goal.returns-then-place-len-clause-none
returns-then-place-len-clause-none c =
    let l = c.args.self.now in
    let noted : (i : ℕ) → i < length l.blocks.items → get_or l.places.items (get_or l.blocks.items i 0) 0 ≡ i = λ i h. c.requires.noted i (omega (arith, h, l.blocks.ok)) in
    let most = place_in-le l.blocks.items l.places.items noted c.args.block in
    let reached : c.args.block < length l.places.items = omega (arith, c.if-block-len.false, c.len.ensures, l.places.ok) in
    let place = get_or_read l.places.items _ _ reached c.index-place.ensures 0 in
    let least : length l.blocks.items ≤ place_in l.blocks.items c.args.block = elim c.then-place-len.branch [
      | then-place-len-via-then-place-len w ↦ unfound_place l.blocks.items l.places.items noted c.args.block _ place
          (λ below. absurd (omega (arith, below, w.if-place-len.true, c.len-2.ensures, l.blocks.ok)))
      | then-place-len-via-else-place-len+then-index-block w ↦ unfound_place l.blocks.items l.places.items noted c.args.block _ place
          (λ below is. w.if-index-block.true (get_or_read l.blocks.items _ _ below w.index.ensures 0 ∙ is))
    ] in
    omega (arith, most, least, l.blocks.ok)

pub returns-clause-some : goal.returns-clause-some
returns-clause-some c =
    let l = c.args.self.now in
    let below : c.index-place.result.now < length l.blocks.items = omega (arith, c.if-place-len.false, c.len-2.ensures, l.blocks.ok) in
    sym (found_place l.blocks.items l.places.items (λ i h. c.requires.noted i (omega (arith, h, l.blocks.ok))) c.args.block c.index-place.result.now below
    (sym (get_or_read l.blocks.items _ _ below c.index.ensures 0) ∙ c.if-index-block.false))
