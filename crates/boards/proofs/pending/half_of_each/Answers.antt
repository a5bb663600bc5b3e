-- Half of a block has 512 bytes.
use Rattle.std.proofs.Common.{◌≤◌, length, sym, ◌∙◌, arith}
use Rattle.std.proofs.lemmas.List.{length-take-le}
use Rattle.boards.proofs.pending.half_of_each.Goals as goal

pub slice_bounds-copy_from_slice-end : goal.slice_bounds-copy_from_slice-end
slice_bounds-copy_from_slice-end c = let long : 512 ≤ length c.args.back.now = omega arith in sym (length-take-le 512 _ long)

pub copy_from_slice-requires : goal.copy_from_slice-requires
copy_from_slice-requires c =
    let long : 512 ≤ length c.args.back.now = omega arith in
    let long' : 512 ≤ length c.args.front.now = omega arith in
    length-take-le 512 _ long ∙ sym (length-take-le 512 _ long')
