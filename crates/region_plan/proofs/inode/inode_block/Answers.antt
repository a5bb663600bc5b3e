use Rattle.std.proofs.Common.{length, replicate, [], ◌∷◌, refl, arith}
use Rattle.region_plan.proofs.HeadLemmas.{head_written}
use Rattle.region_plan.proofs.inode.inode_block.Goals as goal

pub returns : goal.returns
returns c =
    head_written c.args.head.id.now c.args.head.secret.now (replicate 1024 0) c.to_le_bytes.result c.to_le_bytes-2.result c.to_le_bytes-3.result
    (length c.args.head.id.now ∷ length c.args.head.secret.now ∷ []) c.put.new.into c.put-2.new.into c.put-3.new.into c.put-4.new.into c.put-5.new.into c.put-6.new.into
    c.args.head.kind c.args.head.usage c.args.length (omega (arith, c.ranges.head)) (omega (arith, c.ranges.head)) (omega (arith, c.ranges.length)) refl c.to_le_bytes.ensures
    c.to_le_bytes-2.ensures c.to_le_bytes-3.ensures refl
    c.requires.id c.requires.secret c.put.ensures c.put-2.ensures c.put-3.ensures c.put-4.ensures c.put-5.ensures c.put-6.ensures
