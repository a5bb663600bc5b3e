use Rattle.std.proofs.Common.{◌≡◌, ◌-◌, ◌+◌, ◌*◌, ◌/◌, ◌≤◌, ◌%◌, ℕ, List, length, arith, rules}
use Rattle.aes_core.specs.Key.{key_bytes}
use Rattle.aes_core.specs.KeyExpansion.{key_of_words}
use Rattle.aes_core.proofs.KeyLemmas.{key_of_words-expanded, key_length_bounds}
use Rattle.aes_core.proofs.schedule.expanded.Goals as goal

pub invariant_of-result : goal.invariant_of-result
invariant_of-result c =
    let key : List ℕ = c.args.key.now in
    let words : List ℕ = c.schedule-words.result in
    let bounds : (16 ≤ length key) × (length key ≤ 32) × (length key % 4 ≡ 0) = key_length_bounds (length key) c.requires in
    let same : key_of_words (length key / 4 + 6) words ≡ key =
    key_of_words-expanded key words (search rules) bounds.2 c.schedule-words.ensures in
    let count : 4 * (length key / 4 + 6 - 6) ≡ length key = omega arith in
    let all : 4 * (length key / 4 + 6 + 1) ≡ 4 * (length key / 4 + 7) = omega arith in record {
      expansion = record {
        length_is = rw count c.requires;
        words_are = rw (all, same) c.schedule-words.ensures;
        inverse_are = c.inverse_schedule-inverse_words.ensures;
      };
    }

pub returns : goal.returns
unfolding key_bytes
returns c =
    let key : List ℕ = c.args.key.now in
    let bounds : (16 ≤ length key) × (length key ≤ 32) × (length key % 4 ≡ 0) = key_length_bounds (length key) c.requires in
    key_of_words-expanded key c.schedule-words.result (search rules) bounds.2 c.schedule-words.ensures
