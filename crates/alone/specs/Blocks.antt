-- Shared memory in the machine: why a call's references are refused, what they become when its entry begins, and where what the entry
-- gives is delivered (TEE Client API 1.0, sections 4.3.8 and 4.5.3 to 4.5.6).
use Rattle.std.specs.Prelude.{ℕ, ◌==◌, ◌||◌, Bool, false, List, Option, None, Some, Result, Ok, Err, is_some, if◌then◌else◌}
use Rattle.tee_base.specs.declared.codes.Code.{Code}
use Rattle.tee_base.specs.declared.codes.TheConstants.Code.{BAD_PARAMETERS, ITEM_NOT_FOUND}
use Rattle.app_api.specs.declared.param.Params.{Params}
use Rattle.app_api.specs.declared.reference.Reference.{Reference}
use Rattle.app_api.specs.declared.reference.References.{References}
use Rattle.op_queue.specs.declared.operation.Operation.{Operation}
use Rattle.op_queue.specs.Queue.{Queue, operation_of}
use Rattle.shared_mem.specs.declared.block.Block.{Block}
use Rattle.shared_mem.specs.Blocks.{check_of, given_param, put_of}
use Rattle.alone.specs.declared.reply.Outputs.{Outputs}
use Rattle.alone.specs.declared.reply.Shown.{Shown}
use Rattle.alone.specs.declared.reply.Shown.TheVariants as shown
use Rattle.alone.specs.Places.{size_of_bytes}
use Rattle.alone.specs.Replies.{no_outputs}

-- ---- a call's references

-- the code of a refusal, where there is one
abbrev pub code_in : Result Block Code → Option Code
code_in (Ok block) = None
code_in (Err code) = Some code

-- what a parameter is refused with that is a reference; nothing where it is none
abbrev pub refusal_of : List Block → ℕ → Option Reference → Option Code
refusal_of blocks client None = None
refusal_of blocks client (Some reference) = code_in (check_of blocks client reference)

-- it is refused as it names no block of the client
abbrev pub is_missing : Option Code → Bool
is_missing None = false
is_missing (Some code) = code.0 == ITEM_NOT_FOUND.0

-- what four are refused with: that one of them names no block of the client, and then that one doesn't fit its block
abbrev pub references_refusal : List Block → ℕ → References → Option Code
references_refusal blocks client rs =
    let a = refusal_of blocks client rs.p0 in let b = refusal_of blocks client rs.p1 in
    let c = refusal_of blocks client rs.p2 in let d = refusal_of blocks client rs.p3 in
    if is_missing a || is_missing b || is_missing c || is_missing d then Some ITEM_NOT_FOUND
    else if is_some a || is_some b || is_some c || is_some d then Some BAD_PARAMETERS
    else None

-- ---- an entry begins

-- the four parameters that an entry is given: for references memory with the bytes of their blocks, as they are now
abbrev pub given_params : List Block → ℕ → Params → Params
given_params blocks client ps = record {
  p0 = given_param blocks client ps.p0;
  p1 = given_param blocks client ps.p1;
  p2 = given_param blocks client ps.p2;
  p3 = given_param blocks client ps.p3;
}

-- ---- an entry returns

-- the blocks after what is shown at a position was delivered through its reference, if that is one: bytes alone are
abbrev pub delivered : ℕ → Option Reference → Shown → List Block → List Block
delivered client None shown blocks = blocks
delivered client (Some reference) shown.Nothing blocks = blocks
delivered client (Some reference) (shown.Value a b) blocks = blocks
delivered client (Some reference) (shown.Mem size bytes) blocks = put_of blocks client reference bytes
delivered client (Some reference) (shown.Size size) blocks = blocks

-- the same of the four positions, in order
abbrev pub all_delivered : ℕ → References → Outputs → List Block → List Block
all_delivered client rs os blocks =
    delivered client rs.p3 os.p3 (delivered client rs.p2 os.p2 (delivered client rs.p1 os.p1 (delivered client rs.p0 os.p0 blocks)))

-- the same of the operation that the entry serves
abbrev pub delivered_for : Option Operation → Outputs → List Block → List Block
delivered_for None os blocks = blocks
delivered_for (Some o) os blocks = all_delivered o.client o.references os blocks

-- the operation that an entry serves, if it serves one
abbrev pub served_by : Queue → Option ℕ → Option Operation
served_by q None = None
served_by q (Some op) = operation_of q op

-- ---- a block is shown

-- what a client is shown of a block
abbrev pub block_outputs : List ℕ → Outputs
block_outputs bytes = record no_outputs { p0 = shown.Mem (size_of_bytes bytes) bytes }
