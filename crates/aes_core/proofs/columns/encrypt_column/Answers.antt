use Rattle.aes_core.proofs.ColumnLemmas.{encrypt_column_is}
use Rattle.aes_core.proofs.columns.encrypt_column.Goals as goal

pub returns : goal.returns
returns c =
    encrypt_column_is _ _ _ _ c.encrypt_0.result c.encrypt_1.result c.encrypt_2.result c.encrypt_3.result c.args.key
    c.encrypt_0.ensures c.encrypt_1.ensures c.encrypt_2.ensures c.encrypt_3.ensures
