use Rattle.aes_core.proofs.ColumnLemmas.{decrypt_column_is}
use Rattle.aes_core.proofs.columns.decrypt_column.Goals as goal

pub returns : goal.returns
returns c =
    decrypt_column_is _ _ _ _ c.decrypt_0.result c.decrypt_1.result c.decrypt_2.result c.decrypt_3.result c.args.key
    c.decrypt_0.ensures c.decrypt_1.ensures c.decrypt_2.ensures c.decrypt_3.ensures
