-- What a store answers where what it stands on doesn't do what it was asked.
use Rattle.store_api.specs.declared.answer.StoreAnswer.{StoreAnswer}
use Rattle.store_api.specs.declared.answer.StoreAnswer.TheVariants as answers
use Rattle.store_api.specs.declared.leaves.LeafAnswer.{LeafAnswer}
use Rattle.store_api.specs.declared.leaves.LeafAnswer.TheVariants as leaf_answers

-- what a store answers where a leaf wasn't read
abbrev pub store_answer : LeafAnswer → StoreAnswer
store_answer leaf_answers.Lost = answers.Lost
store_answer leaf_answers.Failed = answers.Failed
store_answer (leaf_answers.Mismatch tags) = answers.Corrupt tags
store_answer leaf_answers.NoMemory = answers.NoMemory
