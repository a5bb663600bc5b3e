-- Blocks of memory that clients share with one application (TEE Client API 1.0, section 4.5, `TEEC_RegisterSharedMemory`): a
-- list of them in the order in which they came, each with its client, its number, its direction and its bytes.
use Rattle.std.specs.Prelude.{ℕ, ◌≡◌, ◌≤◌, ◌+◌, ◌==◌, ◌&&◌, nat_le, nat_lt, not, Bool, true, false, if◌then◌else◌, IsTrue}
use Rattle.std.specs.Prelude.{List, [], ◌∷◌, ◌++◌, length, take, drop, replicate, filter, find, count_by}
use Rattle.std.specs.Prelude.{Option, None, Some, Result, Ok, Err, ⊤}
use Rattle.std.specs.List.{list_all, list_any}
use Rattle.tee_base.specs.declared.codes.Code.{Code}
use Rattle.tee_base.specs.declared.codes.TheConstants.Code.{BAD_PARAMETERS, BAD_STATE, BUSY, EXCESS_DATA, ITEM_NOT_FOUND}
use Rattle.tee_base.specs.declared.limits.TheConstants.{MAX_ASK_BYTES, MAX_CLIENTS}
use Rattle.app_api.specs.declared.param.Param.{Param}
use Rattle.app_api.specs.declared.param.Param.TheVariants as params
use Rattle.app_api.specs.declared.param.Param.TheVariants.{Nothing, MemIn, MemOut, MemInOut}
use Rattle.app_api.specs.declared.reference.Direction.{Direction}
use Rattle.app_api.specs.declared.reference.Direction.TheVariants.{Input, Output, Both}
use Rattle.app_api.specs.declared.reference.Reference.{Reference}
use Rattle.app_api.specs.declared.reference.Reference.TheVariants.{Whole, Part}
use Rattle.app_api.specs.References.{allows_way, direction_of, number_of, start_of}
use Rattle.shared_mem.specs.declared.answer.BlockAnswer.{BlockAnswer}
use Rattle.shared_mem.specs.declared.answer.BlockAnswer.TheVariants.{Refused}
use Rattle.shared_mem.specs.declared.block.Block.{Block}
use Rattle.shared_mem.specs.declared.blocks.TheConstants.{MAX_BLOCKS}

-- ---- blocks by client and number

-- the block is of this client
abbrev pub is_of : ℕ → Block → Bool
is_of client block = block.client == client

-- the block is of this client and has this number
abbrev pub is_at : ℕ → ℕ → Block → Bool
is_at client number block = (block.client == client) && (block.number == number)

-- the client's block of this number, where it has one
abbrev pub block_at : List Block → ℕ → ℕ → Option Block
block_at blocks client number = find (is_at client number) blocks

-- the client has as many blocks as it may have
abbrev pub is_full : List Block → ℕ → Bool
is_full blocks client = nat_le MAX_BLOCKS (count_by (is_of client) blocks)

-- the block is of one of the clients, and isn't too large
abbrev pub is_sound : Block → Bool
is_sound block = nat_lt block.client MAX_CLIENTS && nat_le (length block.bytes) MAX_ASK_BYTES

-- what each table keeps: sound blocks, no two of one client under one number, and few of each client
pub record IsBlocks (blocks : List Block) : Type 0 where
  pub sound : list_all is_sound blocks ≡ true
  pub alone : (client number : ℕ) → count_by (is_at client number) blocks ≤ 1
  pub few : (client : ℕ) → count_by (is_of client) blocks ≤ MAX_BLOCKS

-- ---- answers

-- what a call that takes no memory answers, where it leaves something or is refused
abbrev pub answer_of : {X : Type 0} → Result X Code → Result ⊤ BlockAnswer
answer_of (Ok x) = Ok tt
answer_of (Err code) = Err (Refused code)

-- the blocks that a call leaves: a refusal changes nothing
abbrev pub left_by : Result (List Block) Code → List Block → List Block
left_by (Ok after) before = after
left_by (Err code) before = before

-- the block that was sought, or the refusal where there is none
abbrev pub block_or_refusal : Option Block → Result Block Code
block_or_refusal None = Err ITEM_NOT_FOUND
block_or_refusal (Some block) = Ok block

-- ---- Share

-- a new block is all zeros
abbrev pub new_block : ℕ → ℕ → Direction → ℕ → Block
new_block client number direction size = record { client = client; number = number; direction = direction; bytes = replicate size 0 }

-- the blocks with a new one of this client
abbrev pub with_block : List Block → ℕ → ℕ → Direction → ℕ → List Block
with_block blocks client number direction size = blocks ++ new_block client number direction size ∷ []

-- a block is shared in this direction
abbrev pub share_in : List Block → ℕ → ℕ → Option Direction → ℕ → Result (List Block) Code
share_in blocks client number None size = Err BAD_PARAMETERS
share_in blocks client number (Some direction) size =
    if nat_lt MAX_ASK_BYTES size then Err BAD_PARAMETERS
    else if list_any (is_at client number) blocks then Err BAD_STATE
    else if is_full blocks client then Err BUSY
    else Ok (with_block blocks client number direction size)

-- a block is shared
abbrev pub share_of : List Block → ℕ → ℕ → ℕ → ℕ → Result (List Block) Code
share_of blocks client number flags size = share_in blocks client number (direction_of flags) size

-- ---- Fill

-- some bytes with others over those that stood from a place on
abbrev pub bytes_over : ℕ → List ℕ → List ℕ → List ℕ
bytes_over at bytes content = take at content ++ bytes ++ drop (at + length bytes) content

-- the block with bytes written from a place on
abbrev pub block_after_write : ℕ → List ℕ → Block → Block
block_after_write at bytes block = record block { bytes = bytes_over at bytes block.bytes }

-- the first element that passes the test is changed
abbrev pub change_first : {X : Type 0} → (X → Bool) → (X → X) → List X → List X
change_first test change [] = []
change_first test change (x ∷ xs) = if test x then change x ∷ xs else x ∷ change_first test change xs

-- the blocks with bytes written into the client's block of this number, from a place on
abbrev pub with_bytes : List Block → ℕ → ℕ → ℕ → List ℕ → List Block
with_bytes blocks client number at bytes = change_first (is_at client number) (block_after_write at bytes) blocks

-- bytes are filled into the block that was sought
abbrev pub fill_in : List Block → ℕ → ℕ → ℕ → List ℕ → Option Block → Result (List Block) Code
fill_in blocks client number at bytes None = Err ITEM_NOT_FOUND
fill_in blocks client number at bytes (Some block) =
    if nat_le (at + length bytes) (length block.bytes) then Ok (with_bytes blocks client number at bytes) else Err EXCESS_DATA

-- bytes are filled into a block
abbrev pub fill_of : List Block → ℕ → ℕ → ℕ → List ℕ → Result (List Block) Code
fill_of blocks client number at bytes =
    if nat_lt MAX_ASK_BYTES (length bytes) then Err BAD_PARAMETERS
    else fill_in blocks client number at bytes (block_at blocks client number)

-- ---- Show

-- the bytes of the block that was sought
abbrev pub bytes_of : Option Block → Result (List ℕ) Code
bytes_of None = Err ITEM_NOT_FOUND
bytes_of (Some block) = Ok block.bytes

-- a block is shown
abbrev pub show_of : List Block → ℕ → ℕ → Result (List ℕ) Code
show_of blocks client number = bytes_of (block_at blocks client number)

-- ---- Unshare

-- the blocks without the client's block of this number
abbrev pub without_block : List Block → ℕ → ℕ → List Block
without_block blocks client number = filter (λ block. not (is_at client number block)) blocks

-- a block is given up, where no operation names it
abbrev pub unshare_of : List Block → ℕ → ℕ → Bool → Result (List Block) Code
unshare_of blocks client number named =
    if not (list_any (is_at client number) blocks) then Err ITEM_NOT_FOUND
    else if named then Err BUSY
    else Ok (without_block blocks client number)

-- ---- references

-- how many bytes a reference to the block has
abbrev pub length_in : Block → Reference → ℕ
length_in block (Whole number) = length block.bytes
length_in block (Part number way at size) = size

-- the direction of a reference to the block: that of a whole one is the block's own. A way may be none
abbrev pub direction_in : Block → Reference → Option Direction
direction_in block (Whole number) = Some block.direction
direction_in block (Part number way at size) = direction_of way

-- the reference is within the block, and goes in a direction that the block allows
abbrev pub fits : Block → Reference → Bool
fits block (Whole number) = true
fits block (Part number way at size) = nat_le (at + size) (length block.bytes) && allows_way block.direction (direction_of way)

-- the block that was sought, where the reference fits it
abbrev pub check_in : Reference → Option Block → Result Block Code
check_in reference None = Err ITEM_NOT_FOUND
check_in reference (Some block) = if fits block reference then Ok block else Err BAD_PARAMETERS

-- the client's block that the reference names, where it fits
abbrev pub check_of : List Block → ℕ → Reference → Result Block Code
check_of blocks client reference = check_in reference (block_at blocks client (number_of reference))

-- the bytes of the block that a reference to it has
abbrev pub bytes_in : Block → Reference → List ℕ
bytes_in block reference = take (length_in block reference) (drop (start_of reference) block.bytes)

-- a memory parameter of this direction
abbrev pub memory_of : Option Direction → List ℕ → Param
memory_of None bytes = Nothing
memory_of (Some Input) bytes = MemIn bytes
memory_of (Some Output) bytes = MemOut (length bytes)
memory_of (Some Both) bytes = MemInOut bytes

-- the parameter that an application is given for a reference to the block
abbrev pub param_of : Block → Reference → Param
param_of block reference = memory_of (direction_in block reference) (bytes_in block reference)

-- what a reference becomes; none where it was refused, which no reference of an unanswered operation is
abbrev pub given_in : Reference → Result Block Code → Param
given_in reference (Ok block) = param_of block reference
given_in reference (Err code) = Nothing

-- the parameter that an application is given for a reference, with the bytes as they are
abbrev pub given_for : List Block → ℕ → Reference → Param
given_for blocks client reference = given_in reference (check_of blocks client reference)

-- the parameter that an application is given for this one: memory for a reference, and another as it is
abbrev pub given_param : List Block → ℕ → Param → Param
given_param blocks client params.Nothing = params.Nothing
given_param blocks client (params.ValueIn a b) = params.ValueIn a b
given_param blocks client params.ValueOut = params.ValueOut
given_param blocks client (params.ValueInOut a b) = params.ValueInOut a b
given_param blocks client (params.MemIn bytes) = params.MemIn bytes
given_param blocks client (params.MemOut room) = params.MemOut room
given_param blocks client (params.MemInOut bytes) = params.MemInOut bytes
given_param blocks client (params.Whole block) = given_for blocks client (Whole block)
given_param blocks client (params.Part block way at size) = given_for blocks client (Part block way at size)

-- what is answered of a parameter that is this reference; one that is none is right
abbrev pub check_answer : List Block → ℕ → Option Reference → Result ⊤ BlockAnswer
check_answer blocks client None = Ok tt
check_answer blocks client (Some reference) = answer_of (check_of blocks client reference)

-- ---- deliveries

-- bytes may go out in this direction
abbrev pub has_output : Option Direction → Bool
has_output None = false
has_output (Some Input) = false
has_output (Some Output) = true
has_output (Some Both) = true

-- a reference that was checked takes so many bytes as output
abbrev pub takes_bytes : Result Block Code → Reference → List ℕ → Bool
takes_bytes (Ok block) reference bytes = has_output (direction_in block reference) && nat_le (length bytes) (length_in block reference)
takes_bytes (Err code) reference bytes = false

-- what is delivered through a reference that takes it stands in its block, from where the reference begins
abbrev pub put_of : List Block → ℕ → Reference → List ℕ → List Block
put_of blocks client reference bytes =
    if takes_bytes (check_of blocks client reference) reference bytes
    then with_bytes blocks client (number_of reference) (start_of reference) bytes else blocks

-- the same of a parameter that is this reference; through one that is none nothing is delivered
abbrev pub put_in : List Block → ℕ → Option Reference → List ℕ → List Block
put_in blocks client None bytes = blocks
put_in blocks client (Some reference) bytes = put_of blocks client reference bytes
