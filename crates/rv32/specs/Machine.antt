-- The machine: what one instruction does, and a run of many (RISC-V Unprivileged ISA, chapter 2).
use Rattle.std.specs.Prelude.{◌≡◌, ℕ, zero, suc, ◌+◌, ◌*◌, ◌/◌, ◌%◌, ◌^◌, ◌==◌, Bool, true, false, List, Option, None, Some, slice_index, slice_set, if◌then◌else◌}
use Rattle.rv32.specs.Decode.{decode}
use Rattle.rv32.specs.Operate.{operate as combination, compares, extended_by}
use Rattle.rv32.specs.Memory.{byte, half, word, holds, with_byte, with_half, with_word}
use Rattle.rv32.specs.declared.instruction.Comparison.{Comparison}
use Rattle.rv32.specs.declared.instruction.Size.{Size}
use Rattle.rv32.specs.declared.instruction.Size.TheVariants.{Byte, Half, Word}
use Rattle.rv32.specs.declared.instruction.Instruction.{Instruction}
use Rattle.rv32.specs.declared.instruction.Instruction.TheVariants.{LoadUpper, AddUpper, Jump, JumpTo, Branch, Load, LoadUnsigned, Store, OperateValue, Operate, Fence}
use Rattle.rv32.specs.declared.instruction.Instruction.TheVariants as instructions
use Rattle.rv32.specs.declared.machine.Machine.{Machine}
use Rattle.rv32.specs.declared.machine.Halt.{Halt}
use Rattle.rv32.specs.declared.machine.Halt.TheVariants.{Call, Break, Illegal, NoInstruction, Misaligned, Outside, Budget}

-- the machine after one instruction, and why it stops if it does
pub record Outcome : Type 0 where
  pub machine : Machine
  pub stop : Option Halt

-- the machine where it stopped, and why
pub record RunEnd : Type 0 where
  pub machine : Machine
  pub stop : Halt

-- what a register holds
abbrev pub value_of : Machine → ℕ → ℕ
value_of m r = slice_index m.registers r

-- a register is set; register x0 stays 0 (section 2.1)
abbrev pub with_value : Machine → ℕ → ℕ → Machine
with_value m r v = record m { registers = slice_set (slice_set m.registers r v) 0 0 }

-- it goes on at an address
abbrev pub go_to : Machine → ℕ → Outcome
go_to m address = record { machine = record m { pc = address }; stop = None }

-- the address of the instruction that follows in memory
abbrev pub next_address : Machine → ℕ
next_address m = (m.pc + 4) % 2 ^ 32

-- it goes on with the instruction that follows
abbrev pub go_on : Machine → Outcome
go_on m = go_to m (next_address m)

-- it stops as it is
abbrev pub stop_for : Machine → Halt → Outcome
stop_for m s = record { machine = m; stop = Some s }

-- a register is set, and it goes on
abbrev pub after_put : Machine → ℕ → ℕ → Outcome
after_put m r v = go_on (with_value m r v)

-- a jump, with the next address in a register. One to an address that is no multiple of 4 stops itself, and sets nothing (section 2.5)
abbrev pub after_jump : Machine → ℕ → ℕ → Outcome
after_jump m link address =
    if address % 4 == 0 then go_to (with_value m link (next_address m)) address else stop_for m Misaligned

-- a branch that is taken, which stops for the same reason
abbrev pub after_taken : Machine → ℕ → Outcome
after_taken m address = if address % 4 == 0 then go_to m address else stop_for m Misaligned

-- a branch: where it isn't taken, its address doesn't matter (section 2.5)
abbrev pub after_branch : Machine → Comparison → ℕ → ℕ → ℕ → Outcome
after_branch m when one other offset =
    if compares when (value_of m one) (value_of m other) then after_taken m ((m.pc + offset) % 2 ^ 32) else go_on m

-- an address from a register and an offset, on the circle (section 1.4)
abbrev pub address : Machine → ℕ → ℕ → ℕ
address m base offset = (value_of m base + offset) % 2 ^ 32

-- what lies at an address, by its size
unfoldable pub value_at : List ℕ → Size → ℕ → Option ℕ
value_at memory Byte a = byte memory a
value_at memory Half a = half memory a
value_at memory Word a = word memory a

-- what was found goes into a register, extended by zeros
abbrev pub after_unsigned_load : Machine → ℕ → Option ℕ → Outcome
after_unsigned_load m to (Some v) = after_put m to v
after_unsigned_load m to None = stop_for m Outside

-- what was found goes into a register, extended by its sign
abbrev pub after_load : Machine → Size → ℕ → Option ℕ → Outcome
after_load m size to (Some v) = after_put m to (extended_by size v)
after_load m size to None = stop_for m Outside

-- it goes on where there was memory for what is stored
abbrev pub after_store : Machine → Bool → Outcome
after_store m true = go_on m
after_store m false = stop_for m Outside

-- SB, SH, SW (section 2.6): the lowest bits of a value go to an address
unfoldable pub store : Size → Machine → ℕ → ℕ → Outcome
store Byte m a v = after_store (record m { memory = with_byte m.memory a v }) (holds m.memory a 1)
store Half m a v = after_store (record m { memory = with_half m.memory a v }) (holds m.memory a 2)
store Word m a v = after_store (record m { memory = with_word m.memory a v }) (holds m.memory a 4)

-- one instruction
unfoldable pub execute : Instruction → Machine → Outcome
-- LUI (section 2.4.1)
execute (LoadUpper to value) m = after_put m to value
-- AUIPC (section 2.4.1)
execute (AddUpper to value) m = after_put m to ((m.pc + value) % 2 ^ 32)
-- JAL (section 2.5.1)
execute (Jump link offset) m = after_jump m link ((m.pc + offset) % 2 ^ 32)
-- JALR (section 2.5.1): the lowest bit of the address is set to zero
execute (JumpTo link base offset) m = after_jump m link (address m base offset / 2 * 2)
-- BEQ, BNE, BLT, BGE, BLTU, BGEU (section 2.5.2)
execute (Branch when one other offset) m = after_branch m when one other offset
-- LB, LH, LW (section 2.6)
execute (Load size to base offset) m = after_load m size to (value_at m.memory size (address m base offset))
-- LBU, LHU (section 2.6)
execute (LoadUnsigned size to base offset) m = after_unsigned_load m to (value_at m.memory size (address m base offset))
-- SB, SH, SW (section 2.6)
execute (Store size from base offset) m = store size m (address m base offset) (value_of m from)
-- ADDI, SLTI, SLTIU, ANDI, ORI, XORI, SLLI, SRLI, SRAI (section 2.4.1)
execute (OperateValue by to one value) m = after_put m to (combination by (value_of m one) value)
-- ADD, SUB, SLT, SLTU, AND, OR, XOR, SLL, SRL, SRA (section 2.4.2)
execute (Operate by to one other) m = after_put m to (combination by (value_of m one) (value_of m other))
-- FENCE (section 2.7): one hart sees its own accesses in order
execute Fence m = go_on m
-- ECALL (section 2.8): who runs the machine serves it, and it goes on with the instruction that follows
execute instructions.Call m = record { machine = record m { pc = next_address m }; stop = Some Call }
-- EBREAK (section 2.8)
execute instructions.Break m = stop_for m Break

-- the word of the next instruction, whose address is a multiple of 4 (section 1.5)
abbrev pub next_word : Machine → Option ℕ
next_word m = if m.pc % 4 == 0 then word m.memory m.pc else None

-- an instruction that was decoded, or a word that is none
abbrev pub execute_decoded : Machine → Option Instruction → Outcome
execute_decoded m (Some i) = execute i m
execute_decoded m None = stop_for m Illegal

-- a word that was found, or none
abbrev pub execute_word : Machine → Option ℕ → Outcome
execute_word m (Some w) = execute_decoded m (decode w)
execute_word m None = stop_for m NoInstruction

-- the next instruction
unfoldable pub step : Machine → Outcome
step m = execute_word m (next_word m)

-- it goes on where it did not stop
abbrev pub goes_on : (Machine → RunEnd) → Machine → Option Halt → RunEnd
goes_on go m None = go m
goes_on go m (Some s) = record { machine = m; stop = s }

-- so many instructions, or fewer where one stops the machine
unfoldable pub run : ℕ → Machine → RunEnd
run zero m = record { machine = m; stop = Budget }
run (suc n) m = goes_on (run n) (step m).machine (step m).stop

-- the machine is as it was where it stops, unless it stops for a call
abbrev pub LeavesIt : Option Halt → Machine → Machine → Type 0
LeavesIt None before after = Unit {0}
LeavesIt (Some Call) before after = Unit {0}
LeavesIt (Some stop) before after = after ≡ before
