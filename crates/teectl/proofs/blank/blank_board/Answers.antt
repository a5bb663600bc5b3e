use Rattle.std.proofs.Common.{◌≡◌, ◌≤◌, ◌<◌, ℕ, List, Result, Ok, Err, IfOk, replicate, arith}
use Rattle.tee_base.specs.declared.limits.TheConstants.{BLOCK_BYTES, BOARD_BLOCKS, MAX_HOSTS}
use Rattle.tee_base.specs.declared.bytes.NoMemory.{NoMemory}
use Rattle.board.specs.Moment.{View}
use Rattle.board.specs.Runs.{Rests}
use Rattle.boards.specs.Memory.{IsNew}
use Rattle.boards.specs.MemoryBoard.{memory_of, view_of}
use Rattle.boards.specs.declared.memory.MemBoard.{MemBoard}
use Rattle.store_api.specs.Stores.{empty_store}
use Rattle.tee_core.specs.InUse.{form_in_use}
use Rattle.run_board.specs.Boards.{BeginsWith}
use Rattle.teectl.proofs.blank.blank_board.Goals as goal

abbrev Law : Type 0
Law = (view : View) (hosts : ℕ) → Rests 0 view.state → BOARD_BLOCKS ≤ view.size → ((k : ℕ) → k < BOARD_BLOCKS → view.state.reads k ≡ replicate BLOCK_BYTES 0)
    → hosts ≤ MAX_HOSTS → BeginsWith form_in_use view hosts (λ app. empty_store)

blank_begins : (r : Result MemBoard NoMemory) (key : List ℕ) → Law → IfOk r (λ b. IsNew key BOARD_BLOCKS 0 (memory_of b))
    → IfOk r (λ b. (k : ℕ) → k < BOARD_BLOCKS → (view_of b).state.reads k ≡ replicate BLOCK_BYTES 0)
    → IfOk r (λ b. (hosts : ℕ) → hosts ≤ MAX_HOSTS → BeginsWith form_in_use (view_of b) hosts (λ app. empty_store))
blank_begins (Ok b) key law new zero = λ hosts few.
    law (view_of b) hosts
    (record { as_read = λ k. b.whole.as_read k (new.settled.pending k); pending = new.settled.pending; counter = new.its_counter; slack = new.settled.slack })
    (omega (arith, new.its_size)) zero few
blank_begins (Err e) key law new zero = tt

pub returns-clause-begins : goal.returns-clause-begins
returns-clause-begins c = blank_begins c.blank.result _ c.blank_boards_begin.ensures c.blank.ensures.new c.blank.ensures.zero
