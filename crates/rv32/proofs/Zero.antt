-- Register x0 stays 0.
use Rattle.std.proofs.Common.{◌≡◌, ℕ, List, [], ◌∷◌, ◌+◌, ◌*◌, ◌/◌, ◌%◌, ◌^◌, ◌==◌, Bool, true, false, Option, None, Some, refl, slice_index, slice_set, if◌then◌else◌}
use Rattle.rv32.specs.Decode.{decode}
use Rattle.rv32.specs.Operate.{compares, extended_by, operate as combination}
use Rattle.rv32.specs.Memory.{holds}
use Rattle.rv32.specs.Machine.{Outcome, value_of, address, value_at, go_to, go_on, stop_for, with_value, next_address}
use Rattle.rv32.specs.Machine.{after_taken, after_load, after_unsigned_load, after_store, store, execute, next_word, execute_decoded, execute_word, step}
use Rattle.rv32.specs.declared.instruction.Size.{Size}
use Rattle.rv32.specs.declared.instruction.Size.TheVariants.{Byte, Half, Word}
use Rattle.rv32.specs.declared.instruction.Instruction.{Instruction}
use Rattle.rv32.specs.declared.instruction.Instruction.TheVariants.{LoadUpper, AddUpper, Jump, JumpTo, Branch, Load, LoadUnsigned, Store, OperateValue, Operate, Fence}
use Rattle.rv32.specs.declared.instruction.Instruction.TheVariants as instructions
use Rattle.rv32.specs.declared.machine.Machine.{Machine}
use Rattle.rv32.specs.declared.machine.Halt.TheVariants.{Misaligned}

-- x0 is 0 after it
abbrev IsZero : Outcome → Type 0
IsZero o = value_of o.machine 0 ≡ 0

-- x0 is 0
abbrev IsZeroIn : Machine → Type 0
IsZeroIn m = value_of m 0 ≡ 0

first_is : (l : List ℕ) → slice_index (slice_set l 0 0) 0 ≡ 0
first_is [] = refl
first_is (x ∷ xs) = refl

set : (m : Machine) (r v : ℕ) → IsZeroIn (with_value m r v)
set m r v = first_is (slice_set m.registers r v)

jump : (m : Machine) (link to : ℕ) (aligned : Bool) → IsZeroIn m
    → IsZero (if aligned then go_to (with_value m link (next_address m)) to else stop_for m Misaligned)
jump m link to true h = set m link (next_address m)
jump m link to false h = h

taken : (m : Machine) (to : ℕ) (aligned : Bool) → IsZeroIn m → IsZero (if aligned then go_to m to else stop_for m Misaligned)
taken m to true h = h
taken m to false h = h

branch : (m : Machine) (to : ℕ) (is : Bool) → IsZeroIn m → IsZero (if is then after_taken m to else go_on m)
branch m to true h = taken m to (to % 4 == 0) h
branch m to false h = h

load : (m : Machine) (size : Size) (to : ℕ) (found : Option ℕ) → IsZeroIn m → IsZero (after_load m size to found)
load m size to (Some v) h = set m to (extended_by size v)
load m size to None h = h

unsigned : (m : Machine) (to : ℕ) (found : Option ℕ) → IsZeroIn m → IsZero (after_unsigned_load m to found)
unsigned m to (Some v) h = set m to v
unsigned m to None h = h

stored : (m : Machine) (memory : List ℕ) (found : Bool) → IsZeroIn m → IsZero (after_store (record m { memory = memory }) found)
stored m memory true h = h
stored m memory false h = h

stores : (size : Size) (m : Machine) (a v : ℕ) → IsZeroIn m → IsZero (store size m a v)
unfolding store
stores Byte m a v h = stored m _ (holds m.memory a 1) h
stores Half m a v h = stored m _ (holds m.memory a 2) h
stores Word m a v h = stored m _ (holds m.memory a 4) h

executes : (i : Instruction) (m : Machine) → IsZeroIn m → IsZero (execute i m)
unfolding execute
executes (LoadUpper to value) m h = set m to value
executes (AddUpper to value) m h = set m to _
executes (Jump link offset) m h = jump m link _ ((m.pc + offset) % 2 ^ 32 % 4 == 0) h
executes (JumpTo link base offset) m h = jump m link _ (address m base offset / 2 * 2 % 4 == 0) h
executes (Branch when one other offset) m h = branch m _ (compares when (value_of m one) (value_of m other)) h
executes (Load size to base offset) m h = load m size to (value_at m.memory size (address m base offset)) h
executes (LoadUnsigned size to base offset) m h = unsigned m to (value_at m.memory size (address m base offset)) h
executes (Store size from base offset) m h = stores size m (address m base offset) (value_of m from) h
executes (OperateValue by to one value) m h = set m to (combination by (value_of m one) value)
executes (Operate by to one other) m h = set m to (combination by (value_of m one) (value_of m other))
executes Fence m h = h
executes instructions.Call m h = h
executes instructions.Break m h = h

decoded : (m : Machine) (i : Option Instruction) → IsZeroIn m → IsZero (execute_decoded m i)
decoded m (Some i) h = executes i m h
decoded m None h = h

worded : (m : Machine) (w : Option ℕ) → IsZeroIn m → IsZero (execute_word m w)
worded m (Some w) h = decoded m (decode w) h
worded m None h = h

pub step-zero : (m : Machine) → value_of m 0 ≡ 0 → value_of (step m).machine 0 ≡ 0
unfolding step
step-zero m h = worded m (next_word m) h
