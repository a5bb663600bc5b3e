use Rattle.std.proofs.Common.{◌≡◌, ◌∙◌, ℕ, subst}
use Rattle.std.specs.Prelude.{IfOk}
use Rattle.std.proofs.lemmas.Result.{IfOk-weaker}
use Rattle.boards.specs.Memory.{IsNew}
use Rattle.boards.specs.MemoryBoard.{memory_of, view_of}
use Rattle.boards.specs.Row.{block_of}
use Rattle.boards.specs.declared.memory.MemBoard.{MemBoard}
use Rattle.boards.proofs.memory.MemBoard.blank.Goals as goal

pub returns-clause-new : goal.returns-clause-new
returns-clause-new c =
    subst (λ n. IfOk c.of_row.result (λ (b : MemBoard). IsNew c.args.key n 0 (memory_of b))) c.in_ok-zeros.ensures.count c.of_row.ensures.new

pub returns-clause-zero : goal.returns-clause-zero
returns-clause-zero c =
    IfOk-weaker c.of_row.result (λ (b : MemBoard). (k : ℕ) → (view_of b).state.reads k ≡ block_of c.in_ok-zeros.zeros k) _
    (λ b reads k h. reads k ∙ c.in_ok-zeros.ensures.blocks k) c.of_row.ensures.blocks
