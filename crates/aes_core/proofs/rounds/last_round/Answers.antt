use Rattle.std.proofs.Common.{refl, ℕ, slice_index}
use Rattle.aes_core.specs.Columns.{placed_0, placed_1, placed_2, placed_3}
use Rattle.aes_core.specs.Field.{substitute}
use Rattle.aes_core.specs.Words.{word_bytes, block_bytes}
use Rattle.aes_core.proofs.ColumnLemmas.{placed_sum, column_from_0, column_from_1, column_from_2, column_from_3}
use Rattle.aes_core.proofs.RoundLemmas.{last_encrypt_round_is}
use Rattle.aes_core.proofs.rounds.last_round.Goals as goal

pub returns : goal.returns
unfolding block_bytes
returns c =
    let state = c.args.state in
    let byte = λ (i j : ℕ). substitute (slice_index (word_bytes (slice_index state i)) j) in
    let key = λ (i : ℕ). slice_index c.args.key i in
    let w = λ (i : ℕ). placed_0 (byte i 0) in
    let x = λ (i : ℕ). placed_1 (byte i 1) in
    let y = λ (i : ℕ). placed_2 (byte i 2) in
    let z = λ (i : ℕ). placed_3 (byte i 3) in
    let one = c.with_placed-one in
    let two = c.with_placed-two in
    let three = c.with_placed-three in
    let four = c.with_placed in
    last_encrypt_round_is (slice_index state 0) (slice_index state 1) (slice_index state 2) (slice_index state 3) (key 0) (key 1) (key 2) (key 3)
    (slice_index four.result 0) (slice_index four.result 1) (slice_index four.result 2) (slice_index four.result 3) _ _ _ _ refl refl refl refl
    (column_from_0 (key 0) _ _ _ _ (w 0) (x 1) (y 2) (z 3) _ (placed_sum (byte 0 0) (byte 1 1) (byte 2 2) (byte 3 3))
    one.ensures.first two.ensures.fourth three.ensures.third four.ensures.second)
    (column_from_3 (key 1) _ _ _ _ (w 1) (x 2) (y 3) (z 0) _ (placed_sum (byte 1 0) (byte 2 1) (byte 3 2) (byte 0 3))
    one.ensures.second two.ensures.first three.ensures.fourth four.ensures.third)
    (column_from_2 (key 2) _ _ _ _ (w 2) (x 3) (y 0) (z 1) _ (placed_sum (byte 2 0) (byte 3 1) (byte 0 2) (byte 1 3))
    one.ensures.third two.ensures.second three.ensures.first four.ensures.fourth)
    (column_from_1 (key 3) _ _ _ _ (w 3) (x 0) (y 1) (z 2) _ (placed_sum (byte 3 0) (byte 0 1) (byte 1 2) (byte 2 3))
    one.ensures.fourth two.ensures.third three.ensures.second four.ensures.first)
