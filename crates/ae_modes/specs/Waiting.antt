-- The bytes of a message that wait for more.
use Rattle.std.specs.Prelude.{ℕ, List, take}
use Rattle.ae_modes.specs.declared.waiting.Waiting.{Waiting}

-- the bytes that wait
abbrev pub waiting_bytes : Waiting → List ℕ
waiting_bytes w = take w.count w.bytes
