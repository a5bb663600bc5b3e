use Rattle.aes_core.proofs.ColumnLemmas.{without_1_is}
use Rattle.aes_core.proofs.columns.without_1.Goals as goal

pub returns : goal.returns
returns c = λ x p e.
    without_1_is _ _ _ _ c.encrypt_0.result p c.encrypt_2.result c.encrypt_3.result c.args.key c.encrypt_0.ensures e c.encrypt_2.ensures c.encrypt_3.ensures
