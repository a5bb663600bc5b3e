use Rattle.aes_core.proofs.ColumnLemmas.{without_2_is}
use Rattle.aes_core.proofs.columns.without_2.Goals as goal

pub returns : goal.returns
returns c = λ x p e.
    without_2_is _ _ _ _ c.encrypt_0.result c.encrypt_1.result p c.encrypt_3.result c.args.key c.encrypt_0.ensures c.encrypt_1.ensures e c.encrypt_3.ensures
