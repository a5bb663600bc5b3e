-- What two values are combined to, and how they compare (RISC-V Unprivileged ISA, sections 2.4 and 2.5). Values are numbers below 2 ^ 32.
use Rattle.std.specs.Prelude.{ℕ, ◌+◌, ◌-◌, ◌*◌, ◌/◌, ◌%◌, ◌^◌, ◌==◌, Bool, not, nat_lt, int_lt, bit_and, bit_or, bit_xor, if◌then◌else◌}
use Rattle.std.specs.Int.{w32, cast_signed, cast_unsigned, int_shr}
use Rattle.rv32.specs.declared.instruction.Size.{Size}
use Rattle.rv32.specs.declared.instruction.Size.TheVariants.{Byte, Half, Word}
use Rattle.rv32.specs.declared.instruction.Operation.{Operation}
use Rattle.rv32.specs.declared.instruction.Operation.TheVariants.{Add, Subtract, ShiftLeft, SetLess, SetLessUnsigned, Xor, ShiftRight, ShiftRightSigned, Or, And}
use Rattle.rv32.specs.declared.instruction.Comparison.{Comparison}
use Rattle.rv32.specs.declared.instruction.Comparison.TheVariants.{Equal, NotEqual, Less, AtLeast, LessUnsigned, AtLeastUnsigned}

-- the first is less where both are read as signed numbers, in two's complement
abbrev pub signed_lt : ℕ → ℕ → Bool
signed_lt a b = int_lt (cast_signed w32 a) (cast_signed w32 b)

-- 1 where it holds, else 0
abbrev pub flag : Bool → ℕ
flag holds = if holds then 1 else 0

-- two values combined: the instructions of section 2.4, whose second value is a register or an immediate
unfoldable pub operate : Operation → ℕ → ℕ → ℕ
-- ADD, ADDI: the lowest 32 bits of the sum
operate Add a b = (a + b) % 2 ^ 32
-- SUB: the lowest 32 bits of the difference
operate Subtract a b = (a + (2 ^ 32 - b)) % 2 ^ 32
-- SLL, SLLI: zeros come in from below; the lowest five bits of the second value are the places, here and in the other shifts
operate ShiftLeft a b = a * 2 ^ (b % 32) % 2 ^ 32
-- SLT, SLTI: 1 where the first is less, both signed
operate SetLess a b = flag (signed_lt a b)
-- SLTU, SLTIU: the same, both unsigned
operate SetLessUnsigned a b = flag (nat_lt a b)
-- XOR, XORI
operate Xor a b = bit_xor a b
-- SRL, SRLI: zeros come in from above
operate ShiftRight a b = a / 2 ^ (b % 32)
-- SRA, SRAI: the sign comes in from above
operate ShiftRightSigned a b = cast_unsigned w32 (int_shr (cast_signed w32 a) (b % 32))
-- OR, ORI
operate Or a b = bit_or a b
-- AND, ANDI
operate And a b = bit_and a b

-- whether a branch is taken (section 2.5, conditional branches)
unfoldable pub compares : Comparison → ℕ → ℕ → Bool
-- BEQ
compares Equal a b = a == b
-- BNE
compares NotEqual a b = not (a == b)
-- BLT
compares Less a b = signed_lt a b
-- BGE
compares AtLeast a b = not (signed_lt a b)
-- BLTU
compares LessUnsigned a b = nat_lt a b
-- BGEU
compares AtLeastUnsigned a b = not (nat_lt a b)

-- a value of this size, extended by its sign: what LB, LH and LW put into the register (section 2.6)
unfoldable pub extended_by : Size → ℕ → ℕ
extended_by Byte v = if nat_lt v (2 ^ 7) then v else (v + (2 ^ 32 - 2 ^ 8)) % 2 ^ 32
extended_by Half v = if nat_lt v (2 ^ 15) then v else (v + (2 ^ 32 - 2 ^ 16)) % 2 ^ 32
extended_by Word v = v
