use Rattle.summary.proofs.ThirdWords.{third_is, word_says}
use Rattle.summary.proofs.laws.codes_are_read.Goals as goal

pub returns : goal.returns
returns c = record { line = third_is; word = word_says }
