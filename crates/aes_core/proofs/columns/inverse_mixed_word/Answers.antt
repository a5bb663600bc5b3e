use Rattle.aes_core.specs.Words.{word_bytes}
use Rattle.aes_core.proofs.ColumnLemmas.{inverse_mixed_word_is}
use Rattle.aes_core.proofs.columns.inverse_mixed_word.Goals as goal

pub returns : goal.returns
unfolding word_bytes
returns c =
    inverse_mixed_word_is c.args.x _ _ _ _ _ _ _ _ _ c.to_be_bytes-b.ensures
    c.substitute.ensures c.substitute-2.ensures c.substitute-3.ensures c.substitute-4.ensures
    c.decrypt_0.ensures c.decrypt_1.ensures c.decrypt_2.ensures c.decrypt_3.ensures
