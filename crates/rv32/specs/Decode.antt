-- Which instruction a word encodes (RISC-V Unprivileged ISA, the table "RV32I Base Instruction Set" of the instruction set listings).
use Rattle.std.specs.Prelude.{ℕ, ◌==◌, Option, None, Some, if◌then◌else◌}
use Rattle.rv32.specs.Fields.{opcode, target, funct3, first_source, second_source, funct7, immediate, store_offset, branch_offset, upper, jump_offset}
use Rattle.rv32.specs.declared.instruction.Instruction.{Instruction}
use Rattle.rv32.specs.declared.instruction.Instruction.TheVariants.{LoadUpper, AddUpper, Jump, JumpTo, Branch, Load, LoadUnsigned, Store, OperateValue, Operate, Fence, Call, Break}
use Rattle.rv32.specs.declared.instruction.Operation.{Operation}
use Rattle.rv32.specs.declared.instruction.Operation.TheVariants.{Add, Subtract, ShiftLeft, SetLess, SetLessUnsigned, Xor, ShiftRight, ShiftRightSigned, Or, And}
use Rattle.rv32.specs.declared.instruction.Comparison.{Comparison}
use Rattle.rv32.specs.declared.instruction.Comparison.TheVariants.{Equal, NotEqual, Less, AtLeast, LessUnsigned, AtLeastUnsigned}
use Rattle.rv32.specs.declared.instruction.Size.{Size}
use Rattle.rv32.specs.declared.instruction.Size.TheVariants.{Byte, Half, Word}

-- a branch: format B (section 2.5.2)
abbrev pub branch : ℕ → Comparison → Option Instruction
branch w when = Some (Branch when (first_source w) (second_source w) (branch_offset w))

-- a load: format I (section 2.6)
abbrev pub load : ℕ → Size → Option Instruction
load w size = Some (Load size (target w) (first_source w) (immediate w))

-- a load that is extended by zeros: format I (section 2.6)
abbrev pub load_unsigned : ℕ → Size → Option Instruction
load_unsigned w size = Some (LoadUnsigned size (target w) (first_source w) (immediate w))

-- a store: format S (section 2.6)
abbrev pub store : ℕ → Size → Option Instruction
store w size = Some (Store size (second_source w) (first_source w) (store_offset w))

-- an operation on a register and a value: format I (section 2.4.1)
abbrev pub operate_value : ℕ → Operation → ℕ → Option Instruction
operate_value w by value = Some (OperateValue by (target w) (first_source w) value)

-- an operation on two registers: format R (section 2.4.2)
abbrev pub operate : ℕ → Operation → Option Instruction
operate w by = Some (Operate by (target w) (first_source w) (second_source w))

-- JALR: funct3 is 0 (section 2.5.1)
abbrev pub jump_to : ℕ → Option Instruction
jump_to w = if funct3 w == 0 then Some (JumpTo (target w) (first_source w) (immediate w)) else None

-- BEQ, BNE, BLT, BGE, BLTU, BGEU, by funct3 (section 2.5.2)
abbrev pub any_branch : ℕ → Option Instruction
any_branch w =
    if funct3 w == 0 then branch w Equal
    else if funct3 w == 1 then branch w NotEqual
    else if funct3 w == 4 then branch w Less
    else if funct3 w == 5 then branch w AtLeast
    else if funct3 w == 6 then branch w LessUnsigned
    else if funct3 w == 7 then branch w AtLeastUnsigned
    else None

-- LB, LH, LW, LBU, LHU, by funct3 (section 2.6)
abbrev pub any_load : ℕ → Option Instruction
any_load w =
    if funct3 w == 0 then load w Byte
    else if funct3 w == 1 then load w Half
    else if funct3 w == 2 then load w Word
    else if funct3 w == 4 then load_unsigned w Byte
    else if funct3 w == 5 then load_unsigned w Half
    else None

-- SB, SH, SW, by funct3 (section 2.6)
abbrev pub any_store : ℕ → Option Instruction
any_store w =
    if funct3 w == 0 then store w Byte
    else if funct3 w == 1 then store w Half
    else if funct3 w == 2 then store w Word
    else None

-- SRLI, SRAI, by funct7: the five bits of rs2 are the number of places (section 2.4.1)
abbrev pub shift_right : ℕ → Option Instruction
shift_right w =
    if funct7 w == 0 then operate_value w ShiftRight (second_source w)
    else if funct7 w == 32 then operate_value w ShiftRightSigned (second_source w)
    else None

-- SLLI: funct7 is 0 (section 2.4.1)
abbrev pub shift_left : ℕ → Option Instruction
shift_left w = if funct7 w == 0 then operate_value w ShiftLeft (second_source w) else None

-- ADDI, SLLI, SLTI, SLTIU, XORI, SRLI or SRAI, ORI, ANDI, by funct3 (section 2.4.1)
abbrev pub any_value : ℕ → Option Instruction
any_value w =
    if funct3 w == 0 then operate_value w Add (immediate w)
    else if funct3 w == 1 then shift_left w
    else if funct3 w == 2 then operate_value w SetLess (immediate w)
    else if funct3 w == 3 then operate_value w SetLessUnsigned (immediate w)
    else if funct3 w == 4 then operate_value w Xor (immediate w)
    else if funct3 w == 5 then shift_right w
    else if funct3 w == 6 then operate_value w Or (immediate w)
    else operate_value w And (immediate w)

-- ADD, SLL, SLT, SLTU, XOR, SRL, OR, AND, by funct3 (section 2.4.2)
abbrev pub plain_operation : ℕ → Option Instruction
plain_operation w =
    if funct3 w == 0 then operate w Add
    else if funct3 w == 1 then operate w ShiftLeft
    else if funct3 w == 2 then operate w SetLess
    else if funct3 w == 3 then operate w SetLessUnsigned
    else if funct3 w == 4 then operate w Xor
    else if funct3 w == 5 then operate w ShiftRight
    else if funct3 w == 6 then operate w Or
    else operate w And

-- SUB, SRA, by funct3 (section 2.4.2)
abbrev pub other_operation : ℕ → Option Instruction
other_operation w =
    if funct3 w == 0 then operate w Subtract
    else if funct3 w == 5 then operate w ShiftRightSigned
    else None

-- an operation on two registers, by funct7: 0, or 32 for SUB and SRA (section 2.4.2)
abbrev pub any_operation : ℕ → Option Instruction
any_operation w =
    if funct7 w == 0 then plain_operation w
    else if funct7 w == 32 then other_operation w
    else None

-- ECALL, EBREAK: whole words, since their other fields are zeros (section 2.8)
abbrev pub any_system : ℕ → Option Instruction
any_system w = if w == 0x73 then Some Call else if w == 0x100073 then Some Break else None

-- FENCE: funct3 is 0, and the other fields are ignored (section 2.7)
abbrev pub any_fence : ℕ → Option Instruction
any_fence w = if funct3 w == 0 then Some Fence else None

-- LUI, AUIPC, JAL, and the others by their opcode
abbrev pub decode : ℕ → Option Instruction
decode w =
    if opcode w == 0x37 then Some (LoadUpper (target w) (upper w))
    else if opcode w == 0x17 then Some (AddUpper (target w) (upper w))
    else if opcode w == 0x6f then Some (Jump (target w) (jump_offset w))
    else if opcode w == 0x67 then jump_to w
    else if opcode w == 0x63 then any_branch w
    else if opcode w == 0x03 then any_load w
    else if opcode w == 0x23 then any_store w
    else if opcode w == 0x13 then any_value w
    else if opcode w == 0x33 then any_operation w
    else if opcode w == 0x0f then any_fence w
    else if opcode w == 0x73 then any_system w
    else None
