-- The memory: bytes that begin at one address, on the circle of 2 ^ 32 addresses (section 1.4). A number of several bytes has its
-- lowest byte first, and may lie at any address: a load or store that is misaligned is served (section 2.6).
use Rattle.std.specs.Prelude.{ℕ, ◌+◌, ◌-◌, ◌*◌, ◌/◌, ◌%◌, ◌^◌, Bool, nat_le, List, length, Option, None, Some, slice_index, slice_set, take, drop, replicate, ◌++◌, if◌then◌else◌}
use Rattle.rv32.specs.declared.memory.TheConstants.{BASE}

-- how far an address lies after the first byte, on the circle
abbrev pub index_of : ℕ → ℕ
index_of address = (address + (2 ^ 32 - BASE)) % 2 ^ 32

-- so many bytes lie at the address
abbrev pub holds : List ℕ → ℕ → ℕ → Bool
holds m address count = nat_le (index_of address + count) (length m)

-- the byte so many after the address
abbrev pub byte_after : List ℕ → ℕ → ℕ → ℕ
byte_after m address k = slice_index m (index_of address + k)

-- the byte at an address, if there is one
abbrev pub byte : List ℕ → ℕ → Option ℕ
byte m a = if holds m a 1 then Some (byte_after m a 0) else None

-- the 16 bits at an address
abbrev pub half : List ℕ → ℕ → Option ℕ
half m a = if holds m a 2 then Some (byte_after m a 0 + byte_after m a 1 * 2 ^ 8) else None

-- the 32 bits at an address
abbrev pub word : List ℕ → ℕ → Option ℕ
word m a =
    if holds m a 4 then
    Some (byte_after m a 0 + byte_after m a 1 * 2 ^ 8 + byte_after m a 2 * 2 ^ 16 + byte_after m a 3 * 2 ^ 24)
    else None

-- the memory with byte k of the value so many after the address
abbrev pub put : ℕ → ℕ → ℕ → List ℕ → List ℕ
put address value k m = slice_set m (index_of address + k) (value / 2 ^ (8 * k) % 2 ^ 8)

-- the memory with the lowest 8 bits of a value at an address, where there is a byte
abbrev pub with_byte : List ℕ → ℕ → ℕ → List ℕ
with_byte m a v = if holds m a 1 then put a v 0 m else m

-- the memory with the lowest 16 bits of a value at an address, where both bytes lie there
abbrev pub with_half : List ℕ → ℕ → ℕ → List ℕ
with_half m a v = if holds m a 2 then put a v 1 (put a v 0 m) else m

-- the memory with a value of 32 bits at an address, where all four bytes lie there
abbrev pub with_word : List ℕ → ℕ → ℕ → List ℕ
with_word m a v = if holds m a 4 then put a v 3 (put a v 2 (put a v 1 (put a v 0 m))) else m

-- so many bytes from an address on
abbrev pub slice_at : List ℕ → ℕ → ℕ → List ℕ
slice_at m a size = take size (drop (index_of a) m)

-- the memory with these bytes from an address on, where they lie there
abbrev pub with_bytes : List ℕ → ℕ → List ℕ → List ℕ
with_bytes m a bytes =
    if holds m a (length bytes) then take (index_of a) m ++ bytes ++ drop (index_of a + length bytes) m else m

-- the memory with so many zeros from an address on, where they lie there
abbrev pub with_zeros : List ℕ → ℕ → ℕ → List ℕ
with_zeros m a size =
    if holds m a size then take (index_of a) m ++ replicate size 0 ++ drop (index_of a + size) m else m
