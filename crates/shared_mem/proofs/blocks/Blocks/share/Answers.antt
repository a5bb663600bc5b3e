use Rattle.std.proofs.Common.{ap, count_by, sym, arith, ◌∙◌}
use Rattle.std.specs.List.{list_any}
use Rattle.shared_mem.specs.Blocks.{is_at, is_of}
use Rattle.shared_mem.proofs.Keeps.{has_room, shared_IsBlocks}
use Rattle.shared_mem.proofs.blocks.Blocks.share.Goals as goal

pub push-requires : goal.push-requires
push-requires c = (
  omega arith,
  has_room c.self.inside.items.items c.args.client c.self.invariant c.requires
      (omega (arith, c.if-count_of-ge-MAX_BLOCKS.false, c.count_of.ensures, ap (count_by (is_of c.args.client)) c.as_slice-2.ensures.value)),
)

pub invariant_of-self : goal.invariant_of-self
invariant_of-self c = shared_IsBlocks c.self.inside.items.items c.push.new.self.items c.in-Ok.zeros c.args.client c.args.block c.in-Some.direction c.args.size c.in-Ok.ensures
    c.push.ensures.items c.self.invariant c.requires (omega (arith, c.if-size-gt-MAX_ASK_BYTES.false))
    (ap (list_any (is_at c.args.client c.args.block)) (sym c.as_slice.ensures.value) ∙ sym c.has.ensures ∙ c.if-has.false)
    (omega (arith, c.if-count_of-ge-MAX_BLOCKS.false, c.count_of.ensures, ap (count_by (is_of c.args.client)) c.as_slice-2.ensures.value))
