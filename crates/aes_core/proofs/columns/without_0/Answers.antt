use Rattle.aes_core.proofs.ColumnLemmas.{without_0_is}
use Rattle.aes_core.proofs.columns.without_0.Goals as goal

pub returns : goal.returns
returns c = λ x p e.
    without_0_is _ _ _ _ p c.encrypt_1.result c.encrypt_2.result c.encrypt_3.result c.args.key e c.encrypt_1.ensures c.encrypt_2.ensures c.encrypt_3.ensures
