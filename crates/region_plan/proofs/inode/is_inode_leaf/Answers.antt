use Rattle.std.proofs.Common.{refl, get_or}
use Rattle.region_plan.proofs.LeafLemmas.{long_identifier, long_secret, leaf_rules}
use Rattle.region_plan.proofs.inode.is_inode_leaf.Goals as goal

pub returns-then-id-gt-MAX_IDENTIFIER_BYTES : goal.returns-then-id-gt-MAX_IDENTIFIER_BYTES
returns-then-id-gt-MAX_IDENTIFIER_BYTES c = long_identifier c.args.leaf.now (get_or c.args.leaf.now 12 0) refl c.if-id-gt-MAX_IDENTIFIER_BYTES.true

pub returns-then-secret-gt-MAX_SECRET_BYTES : goal.returns-then-secret-gt-MAX_SECRET_BYTES
returns-then-secret-gt-MAX_SECRET_BYTES c = long_secret c.args.leaf.now (get_or c.args.leaf.now 13 0) refl c.if-secret-gt-MAX_SECRET_BYTES.true

pub returns : goal.returns
returns c =
    leaf_rules c.args.leaf.now (get_or c.args.leaf.now 12 0) (get_or c.args.leaf.now 13 0) c.all_true.result c.all_zero-reserved.result c.all_zero-behind_id.result
    c.all_zero-behind_secret.result c.all_zero-rest.result
    c.told-leaf refl refl c.if-id-gt-MAX_IDENTIFIER_BYTES.false c.if-secret-gt-MAX_SECRET_BYTES.false
    c.all_zero-reserved.ensures c.all_zero-behind_id.ensures c.all_zero-behind_secret.ensures c.all_zero-rest.ensures c.all_true.ensures
