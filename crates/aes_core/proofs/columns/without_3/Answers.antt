use Rattle.aes_core.proofs.ColumnLemmas.{without_3_is}
use Rattle.aes_core.proofs.columns.without_3.Goals as goal

pub returns : goal.returns
returns c = λ x p e.
    without_3_is _ _ _ _ c.encrypt_0.result c.encrypt_1.result c.encrypt_2.result p c.args.key c.encrypt_0.ensures c.encrypt_1.ensures c.encrypt_2.ensures e
