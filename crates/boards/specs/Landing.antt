-- What a loss of power leaves in memory, by a number that picks it.
use Rattle.std.specs.Prelude.{ℕ, zero, suc, ◌+◌, ◌-◌, ◌/◌, ◌%◌, ◌^◌, ◌==◌, if◌then◌else◌, Bool, ◌&&◌, nat_lt, List, ◌++◌, take, drop, replicate}
use Rattle.tee_base.specs.declared.limits.TheConstants.{BLOCK_BYTES}
use Rattle.tee_base.specs.Words.{Counter, Image}

-- one pending block, by a digit in base 4: the durable bytes, the last offered, half of each, or all 0xA5
abbrev pub block_after_crash : ℕ → List ℕ → List ℕ → List ℕ
block_after_crash digit durable offered =
    if digit == 0 then durable else if digit == 1 then offered else if digit == 2 then take (BLOCK_BYTES / 2) offered ++ drop (BLOCK_BYTES / 2) durable else replicate BLOCK_BYTES 0xA5

-- how many blocks below are pending
unfoldable pub count_below : (ℕ → Bool) → ℕ → ℕ
count_below pending zero = 0
count_below pending (suc k) = count_below pending k + (if pending k then 1 else 0)

-- the digit of a pending block: the blocks take the digits in ascending order, the least first
abbrev pub digit_at : ℕ → (ℕ → Bool) → ℕ → ℕ
digit_at digits pending k = digits / 4 ^ count_below pending k % 4

-- the image that the digits pick
abbrev pub landed_image : ℕ → (ℕ → Bool) → Image → (ℕ → List ℕ) → ℕ → List ℕ
landed_image digits pending durable offered k = if pending k then block_after_crash (digit_at digits pending k) (durable k) (offered k) else durable k

-- what is left of the number for the blocks: an unsettled advance takes its parity
abbrev pub digits_of : Bool → ℕ → ℕ
digits_of unsettled pick = if unsettled then pick / 2 else pick

-- the counter: an unsettled advance has raised it where the number is odd, but not past its end
abbrev pub landed_counter : Bool → ℕ → Counter → Counter
landed_counter unsettled pick counter = if unsettled && (pick % 2 == 1) && nat_lt counter (2 ^ 64 - 1) then counter + 1 else counter
