-- What an entry gives when it returns. An output lies in the buffer that the entry was given, whatever the program wrote over the pointer of its
-- TEE_Param.
use Rattle.std.specs.Prelude.{ℕ, ◌+◌, ◌%◌, ◌^◌, ◌==◌, nat_lt, List, [], Option, None, Some, if◌then◌else◌}
use Rattle.tee_base.specs.declared.limits.TheConstants.{MAX_ASK_BYTES}
use Rattle.app_api.specs.declared.ask.Ask.{Ask}
use Rattle.app_api.specs.declared.ask.Ask.TheVariants.{Return}
use Rattle.app_api.specs.declared.out.Out.{Out}
use Rattle.app_api.specs.declared.out.Out.TheVariants as outs
use Rattle.rv32.specs.Machine.{value_of}
use Rattle.rv32.specs.Memory.{holds, word, slice_at}
use Rattle.rv32.specs.declared.machine.Machine.{Machine}
use Rattle.c_app.specs.Entering.{at_block}
use Rattle.c_app.specs.declared.registers.TheConstants.{A0}
use Rattle.c_app.specs.declared.slots.Slot.{Slot}
use Rattle.c_app.specs.declared.slots.Slot.TheVariants as slots
use Rattle.c_app.specs.declared.slots.Slots.{Slots}

-- so many bytes at an address, where they lie in memory and are no more than an ask may have. No bytes lie at any address
abbrev pub bytes_at : List ℕ → ℕ → ℕ → Option (List ℕ)
bytes_at m a n =
    if n == 0 then Some []
    else if nat_lt MAX_ASK_BYTES n then None
    else if holds m a n then Some (slice_at m a n)
    else None

-- two numbers that were found
unfoldable pub value_out : Option ℕ → Option ℕ → Option Out
value_out (Some a) (Some b) = Some (outs.Value a b)
value_out a b = None

-- bytes that were found
abbrev pub bytes_out : Option (List ℕ) → Option Out
bytes_out None = None
bytes_out (Some bytes) = Some (outs.Mem bytes)

-- a size beyond the buffer is told; else so many of the buffer's bytes are given
abbrev pub memory_out : List ℕ → ℕ → ℕ → Option ℕ → Option Out
memory_out m address room None = None
memory_out m address room (Some size) = if nat_lt room size then Some (outs.Size size) else bytes_out (bytes_at m address size)

-- the output of a place, whose numbers or whose size the TEE_Param at this address says
unfoldable pub out_at : Slot → List ℕ → ℕ → Option Out
out_at slots.Nothing m at = Some outs.Nothing
out_at slots.Value m at = value_out (word m at) (word m ((at + 4) % 2 ^ 32))
out_at (slots.Mem address room) m at = memory_out m address room (word m ((at + 4) % 2 ^ 32))

-- the return of an entry with four outputs that were found
unfoldable pub return_with : ℕ → Option Out → Option Out → Option Out → Option Out → Option Ask
return_with code (Some p0) (Some p1) (Some p2) (Some p3) = Some (Return (record { 0 = code }) (record { p0 = p0; p1 = p1; p2 = p2; p3 = p3 }))
return_with code p0 p1 p2 p3 = None

-- the entry returns with a code in a0
abbrev pub returned : Machine → ℕ → Slots → Option Ask
returned m block s =
    return_with (value_of m A0) (out_at s.p0 m.memory (at_block block 0)) (out_at s.p1 m.memory (at_block block 1))
    (out_at s.p2 m.memory (at_block block 2)) (out_at s.p3 m.memory (at_block block 3))
