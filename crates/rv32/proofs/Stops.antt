-- What a stop leaves: the machine as it was, unless it is one for a call.
use Rattle.std.proofs.Common.{ℕ, List, ◌+◌, ◌*◌, ◌/◌, ◌%◌, ◌^◌, ◌==◌, Bool, true, false, Option, None, Some, refl, if◌then◌else◌}
use Rattle.rv32.specs.Decode.{decode}
use Rattle.rv32.specs.Operate.{compares}
use Rattle.rv32.specs.Memory.{holds}
use Rattle.rv32.specs.Machine.{Outcome, LeavesIt, value_of, address, value_at, go_to, go_on, stop_for, with_value, next_address}
use Rattle.rv32.specs.Machine.{after_taken, after_load, after_unsigned_load, after_store, store, execute, next_word, execute_decoded, execute_word, step}
use Rattle.rv32.specs.declared.instruction.Size.{Size}
use Rattle.rv32.specs.declared.instruction.Size.TheVariants.{Byte, Half, Word}
use Rattle.rv32.specs.declared.instruction.Instruction.{Instruction}
use Rattle.rv32.specs.declared.instruction.Instruction.TheVariants.{LoadUpper, AddUpper, Jump, JumpTo, Branch, Load, LoadUnsigned, Store, OperateValue, Operate, Fence}
use Rattle.rv32.specs.declared.instruction.Instruction.TheVariants as instructions
use Rattle.rv32.specs.declared.machine.Machine.{Machine}
use Rattle.rv32.specs.declared.machine.Halt.TheVariants.{Misaligned}

-- an outcome that leaves the machine so
abbrev Leaves : Machine → Outcome → Type 0
Leaves m o = LeavesIt o.stop m o.machine

jump : (m : Machine) (link to : ℕ) (aligned : Bool)
    → Leaves m (if aligned then go_to (with_value m link (next_address m)) to else stop_for m Misaligned)
jump m link to true = tt
jump m link to false = refl

taken : (m : Machine) (to : ℕ) (aligned : Bool) → Leaves m (if aligned then go_to m to else stop_for m Misaligned)
taken m to true = tt
taken m to false = refl

branch : (m : Machine) (to : ℕ) (is : Bool) → Leaves m (if is then after_taken m to else go_on m)
branch m to true = taken m to (to % 4 == 0)
branch m to false = tt

load : (m : Machine) (size : Size) (to : ℕ) (found : Option ℕ) → Leaves m (after_load m size to found)
load m size to (Some v) = tt
load m size to None = refl

unsigned : (m : Machine) (to : ℕ) (found : Option ℕ) → Leaves m (after_unsigned_load m to found)
unsigned m to (Some v) = tt
unsigned m to None = refl

-- a store that finds no room writes nothing
stored : (m : Machine) (written : List ℕ) (found : Bool)
    → Leaves m (after_store (record m { memory = if found then written else m.memory }) found)
stored m written true = tt
stored m written false = refl

stores : (size : Size) (m : Machine) (a v : ℕ) → Leaves m (store size m a v)
unfolding store
stores Byte m a v = stored m _ (holds m.memory a 1)
stores Half m a v = stored m _ (holds m.memory a 2)
stores Word m a v = stored m _ (holds m.memory a 4)

executes : (i : Instruction) (m : Machine) → Leaves m (execute i m)
unfolding execute
executes (LoadUpper to value) m = tt
executes (AddUpper to value) m = tt
executes (Jump link offset) m = jump m link _ ((m.pc + offset) % 2 ^ 32 % 4 == 0)
executes (JumpTo link base offset) m = jump m link _ (address m base offset / 2 * 2 % 4 == 0)
executes (Branch when one other offset) m = branch m _ (compares when (value_of m one) (value_of m other))
executes (Load size to base offset) m = load m size to (value_at m.memory size (address m base offset))
executes (LoadUnsigned size to base offset) m = unsigned m to (value_at m.memory size (address m base offset))
executes (Store size from base offset) m = stores size m (address m base offset) (value_of m from)
executes (OperateValue by to one value) m = tt
executes (Operate by to one other) m = tt
executes Fence m = tt
executes instructions.Call m = tt
executes instructions.Break m = refl

decoded : (m : Machine) (i : Option Instruction) → Leaves m (execute_decoded m i)
decoded m (Some i) = executes i m
decoded m None = refl

worded : (m : Machine) (w : Option ℕ) → Leaves m (execute_word m w)
worded m (Some w) = decoded m (decode w)
worded m None = refl

pub step-leaves : (m : Machine) → LeavesIt (step m).stop m (step m).machine
unfolding step
step-leaves m = worded m (next_word m)
