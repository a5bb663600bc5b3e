-- A run, one instruction at a time.
use Rattle.std.proofs.Common.{◌≡◌, ℕ, suc, ◌+◌, ◌-◌, ◌<◌, ◌≤◌, Option, None, Some, refl, arith}
use Rattle.rv32.specs.Machine.{run, step}
use Rattle.rv32.specs.declared.machine.Machine.{Machine}
use Rattle.rv32.specs.declared.machine.Halt.{Halt}
use Rattle.rv32.specs.declared.machine.Halt.TheVariants.{Budget}

-- an instruction that does not stop the machine leaves one fewer
pub run-goes_on : (n k : ℕ) (m : Machine) → k < n → (step m).stop ≡ None → run (n - k) m ≡ run (n - (k + 1)) (step m).machine
unfolding run
run-goes_on n k m h e =
    let left : n - k ≡ suc (n - (k + 1)) = omega arith in rw left (rw e refl)

-- an instruction that stops the machine ends the run
pub run-stops : (n k : ℕ) (m : Machine) (s : Halt) → k < n → (step m).stop ≡ Some s
    → run (n - k) m ≡ record { machine = (step m).machine; stop = s }
unfolding run
run-stops n k m s h e =
    let left : n - k ≡ suc (n - (k + 1)) = omega arith in rw left (rw e refl)

-- no instruction is left
pub run-ends : (n k : ℕ) (m : Machine) → n ≤ k → run (n - k) m ≡ record { machine = m; stop = Budget }
unfolding run
run-ends n k m h = let left : n - k ≡ 0 = omega arith in rw left refl

-- the run ended at an instruction that stopped the machine
pub run-stopped : (n k : ℕ) (m after start : Machine) (s : Halt) (told : Option Halt) → k < n → run (n - k) m ≡ run n start
    → after ≡ (step m).machine → told ≡ (step m).stop → told ≡ Some s
    → (after ≡ (run n start).machine) × (s ≡ (run n start).stop)
run-stopped n k m after start s told h invariant machine stop is =
    let stops : (step m).stop ≡ Some s = cc in
    let ends : run n start ≡ record { machine = (step m).machine; stop = s } = cc (run-stops n k m s h stops) in
    (rw ends machine, rw ends refl)

-- the run ended since no instruction was left
pub run-ended : (n k : ℕ) (m start : Machine) → n ≤ k → run (n - k) m ≡ run n start
    → (m ≡ (run n start).machine) × (Budget ≡ (run n start).stop)
run-ended n k m start h invariant =
    let ends : run n start ≡ record { machine = m; stop = Budget } = cc (run-ends n k m h) in
    (rw ends refl, rw ends refl)
