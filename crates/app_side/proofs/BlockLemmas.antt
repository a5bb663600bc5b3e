-- A call about shared memory is answered as the machine answers it, and bytes are delivered as it says.
use Rattle.std.proofs.Common.{◌≡◌, ◌∙◌, List, Option, None, Some, Result, Ok, Err, OnOk, OnErr, option_map, refl, sym, ap}
use Rattle.std.specs.Prelude.{◌↔◌, ⊤}
use Rattle.tee_base.specs.declared.codes.Code.{Code}
use Rattle.tee_base.specs.declared.codes.Origin.TheVariants.{Api}
use Rattle.tee_base.specs.declared.codes.TheConstants.Code.{SUCCESS}
use Rattle.op_queue.specs.declared.operation.OpFacts.{OpFacts}
use Rattle.op_queue.specs.declared.operation.Operation.{Operation}
use Rattle.op_queue.specs.Queue.{facts_of}
use Rattle.shared_mem.specs.declared.answer.BlockAnswer.{BlockAnswer}
use Rattle.shared_mem.specs.declared.answer.BlockAnswer.TheVariants.{Refused, NoMemory}
use Rattle.shared_mem.specs.declared.block.Block.{Block}
use Rattle.shared_mem.specs.Blocks.{answer_of, left_by}
use Rattle.alone.specs.declared.reply.Outputs.{Outputs}
use Rattle.alone.specs.Blocks.{all_delivered, delivered_for}
use Rattle.alone.specs.Machine.{Machine}
use Rattle.alone.specs.Step.{answered_at_once, memory_done}
use Rattle.app_side.specs.Represents.{code_told}

-- the machine with other blocks
abbrev pub with_blocks : {A : Type 0} → Machine A → List Block → Machine A
with_blocks m blocks = record m { blocks = blocks }

-- a share, which may find no memory
pub shared : {A : Type 0} (m : Machine A) (stated : Result (List Block) Code) (answer : Result ⊤ BlockAnswer) (after : List Block) (code : Code) → OnOk answer (stated ≡ Ok after)
    → ((c : Code) → (answer ≡ Err (Refused c)) ↔ (stated ≡ Err c)) → OnErr answer (after ≡ m.blocks) → code_told answer ≡ Some code
    → answered_at_once (with_blocks m after) code Api ≡ memory_done m stated
shared {A} m stated (Ok done) after code leaves refused same told =
    let is : SUCCESS ≡ code = (let e : Some SUCCESS ≡ Some code = told in cc) in
    ap (λ (c : Code). answered_at_once (with_blocks m after) c Api) (sym is) ∙ ap (memory_done m) (sym leaves)
shared {A} m stated (Err (Refused refusal)) after code leaves refused same told =
    let is : refusal ≡ code = (let e : Some refusal ≡ Some code = told in cc) in
    ap (λ (bs : List Block). answered_at_once (with_blocks m bs) code Api) same ∙ ap (λ (c : Code). answered_at_once m c Api) (sym is)
    ∙ ap (memory_done m) (sym ((refused refusal).0 refl))
shared m stated (Err NoMemory) after code leaves refused same told = absurd (let e : None ≡ Some code = told in cc)

-- where it finds none, what holds of a refusal
pub none_told : {P : Type 0} (answer : Result ⊤ BlockAnswer) → OnErr answer P → code_told answer ≡ None → P
none_told (Ok done) holds told = absurd (let e : Some SUCCESS ≡ None = told in cc)
none_told (Err (Refused refusal)) holds told = holds
none_told (Err NoMemory) holds told = holds

-- a call that takes none
pub changed : {A : Type 0} (m : Machine A) (stated : Result (List Block) Code) (answer : Result ⊤ BlockAnswer) (after : List Block) (code : Code) → answer ≡ answer_of stated
    → after ≡ left_by stated m.blocks → code_told answer ≡ Some code → answered_at_once (with_blocks m after) code Api ≡ memory_done m stated
changed {A} m (Ok blocks) answer after code is left told =
    let same : SUCCESS ≡ code = (let e : Some SUCCESS ≡ Some code = sym (ap code_told is) ∙ told in cc) in
    ap (λ (bs : List Block). answered_at_once (with_blocks m bs) code Api) left ∙ ap (λ (c : Code). answered_at_once (with_blocks m blocks) c Api) (sym same)
changed {A} m (Err refusal) answer after code is left told =
    let same : refusal ≡ code = (let e : Some refusal ≡ Some code = sym (ap code_told is) ∙ told in cc) in
    ap (λ (bs : List Block). answered_at_once (with_blocks m bs) code Api) left ∙ ap (λ (c : Code). answered_at_once m c Api) (sym same)

pub takes_none : (stated : Result (List Block) Code) (answer : Result ⊤ BlockAnswer) → answer ≡ answer_of stated → code_told answer ≡ None → ⊥
takes_none (Ok blocks) answer is told = let e : Some SUCCESS ≡ None = sym (ap code_told is) ∙ told in absurd cc
takes_none (Err refusal) answer is told = let e : Some refusal ≡ None = sym (ap code_told is) ∙ told in absurd cc

-- what is told of an operation is all that a delivery needs
pub delivered_by : (o : Option Operation) (facts : OpFacts) (os : Outputs) (blocks : List Block) → option_map facts_of o ≡ Some facts
    → all_delivered facts.client facts.references os blocks ≡ delivered_for o os blocks
delivered_by None facts os blocks is = absurd (let e : None ≡ Some facts = is in cc)
delivered_by (Some o) facts os blocks is =
    let same : facts_of o ≡ facts = (let e : Some (facts_of o) ≡ Some facts = is in cc) in
    ap (λ (f : OpFacts). all_delivered f.client f.references os blocks) (sym same)

pub delivered_none : (o : Option Operation) (os : Outputs) (blocks : List Block) → option_map facts_of o ≡ None → blocks ≡ delivered_for o os blocks
delivered_none None os blocks is = refl
delivered_none (Some o) os blocks is = absurd (let e : Some (facts_of o) ≡ None = is in cc)
