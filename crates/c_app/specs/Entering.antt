-- How an entry comes to the machine (TEE Internal Core API 1.3, section 4.3): a block of four TEE_Param, and after it the buffers, each at a
-- multiple of 16 from the end of the one before.
use Rattle.std.specs.Prelude.{ℕ, ◌+◌, ◌-◌, ◌*◌, ◌/◌, ◌%◌, ◌^◌, ◌<◌, ◌≤◌, Bool, ◌||◌, nat_lt, List, length, replicate, Option, None, Some, slice_set, if◌then◌else◌}
use Rattle.tee_base.specs.declared.limits.TheConstants.{MAX_ASK_BYTES}
use Rattle.app_api.specs.Params.{size_of, kind_of, is_oversized}
use Rattle.app_api.specs.declared.param.Param.{Param}
use Rattle.app_api.specs.declared.param.Param.TheVariants.{Nothing, ValueIn, ValueOut, ValueInOut, MemIn, MemOut, MemInOut, Whole, Part}
use Rattle.app_api.specs.declared.param.Params.{Params}
use Rattle.rv32.specs.Memory.{with_word, with_bytes, with_zeros}
use Rattle.rv32.specs.declared.machine.Machine.{Machine}
use Rattle.rv32.specs.declared.memory.TheConstants.{BASE}
use Rattle.c_app.specs.declared.registers.TheConstants.{A0, A1, A2, A3, A4}
use Rattle.c_app.specs.declared.slots.Slot.{Slot}
use Rattle.c_app.specs.declared.slots.Slot.TheVariants as slots
use Rattle.c_app.specs.declared.slots.Slots.{Slots}
use Rattle.c_app.specs.declared.places.Places.{Places}
use Rattle.c_app.specs.declared.places.TheConstants.{BLOCK, PARAM, ALIGNMENT}
use Rattle.c_app.specs.declared.entering.Layout.{Layout}
use Rattle.c_app.specs.declared.entering.EntryKind.{EntryKind}
use Rattle.c_app.specs.declared.entering.EntryKind.TheVariants.{Create, Destroy, Start, Stop, Invoke}
use Rattle.c_app.specs.declared.entering.EntryCall.{EntryCall}

-- ---- where the parameters lie

-- the next multiple of 16
abbrev pub rounded : ℕ → ℕ
rounded a = (a + (ALIGNMENT - 1)) / ALIGNMENT * ALIGNMENT

-- the places of the buffers after the block, and the end of the last
abbrev pub places_of : ℕ → Params → Places
places_of block ps =
    let p0 = block + BLOCK in
    let p1 = rounded (p0 + size_of ps.p0) in
    let p2 = rounded (p1 + size_of ps.p1) in
    let p3 = rounded (p2 + size_of ps.p2) in
    record { p0 = p0; p1 = p1; p2 = p2; p3 = p3; end = p3 + size_of ps.p3 }

-- one of the four is larger than a memory reference may be
abbrev pub has_oversized : Params → Bool
has_oversized ps = is_oversized ps.p0 || is_oversized ps.p1 || is_oversized ps.p2 || is_oversized ps.p3

-- the parameters have no place in memory
abbrev pub lacks_room : List ℕ → Places → Bool
lacks_room m places = nat_lt (2 ^ 32 - 1) places.end || nat_lt (length m) (places.end - BASE)

-- the places of the parameters, where they have their place in memory
abbrev pub found_places : List ℕ → ℕ → Params → Option Places
found_places m block ps =
    if has_oversized ps then None
    else if lacks_room m (places_of block ps) then None
    else Some (places_of block ps)

-- parameters and places that fit their types
pub record AreSmall (ps : Params) (places : Places) : Type 0 where
  pub p0 : size_of ps.p0 ≤ MAX_ASK_BYTES
  pub p1 : size_of ps.p1 ≤ MAX_ASK_BYTES
  pub p2 : size_of ps.p2 ≤ MAX_ASK_BYTES
  pub p3 : size_of ps.p3 ≤ MAX_ASK_BYTES
  pub at0 : places.p0 < 2 ^ 32
  pub at1 : places.p1 < 2 ^ 32
  pub at2 : places.p2 < 2 ^ 32
  pub at3 : places.p3 < 2 ^ 32

-- the address of a TEE_Param of the block
abbrev pub at_block : ℕ → ℕ → ℕ
at_block block index = (block + PARAM * index) % 2 ^ 32

-- ---- where the entry gives its outputs

-- the output of one parameter, whose buffer lies at the address. No reference to shared memory comes to an entry
unfoldable pub slot_of : Param → ℕ → Slot
slot_of Nothing address = slots.Nothing
slot_of (ValueIn a b) address = slots.Nothing
slot_of ValueOut address = slots.Value
slot_of (ValueInOut a b) address = slots.Value
slot_of (MemIn bytes) address = slots.Nothing
slot_of (MemOut room) address = slots.Mem address room
slot_of (MemInOut bytes) address = slots.Mem address (length bytes)
slot_of (Whole block) address = slots.Nothing
slot_of (Part block way at size) address = slots.Nothing

-- no output in any of the four places
abbrev pub no_slots : Slots
no_slots = record { p0 = slots.Nothing; p1 = slots.Nothing; p2 = slots.Nothing; p3 = slots.Nothing }

-- those of the four
abbrev pub slots_of : Params → Places → Slots
slots_of ps places =
    record { p0 = slot_of ps.p0 places.p0; p1 = slot_of ps.p1 places.p1; p2 = slot_of ps.p2 places.p2; p3 = slot_of ps.p3 places.p3 }

-- ---- the memory

-- the memory with a TEE_Param of two words
abbrev pub put_words : List ℕ → ℕ → ℕ → ℕ → List ℕ
put_words m at a b = with_word (with_word m at a) ((at + 4) % 2 ^ 32) b

-- the memory with a parameter: its TEE_Param, and its bytes. A buffer that is for output alone is zeros, so nothing of an earlier
-- command is left in it
unfoldable pub put_param : Param → List ℕ → ℕ → ℕ → List ℕ
put_param Nothing m at address = put_words m at 0 0
put_param (ValueIn a b) m at address = put_words m at a b
put_param ValueOut m at address = put_words m at 0 0
put_param (ValueInOut a b) m at address = put_words m at a b
put_param (MemIn bytes) m at address = with_bytes (put_words m at address (length bytes)) address bytes
put_param (MemOut room) m at address = with_zeros (put_words m at address room) address room
put_param (MemInOut bytes) m at address = with_bytes (put_words m at address (length bytes)) address bytes
put_param (Whole block) m at address = put_words m at 0 0
put_param (Part block way from size) m at address = put_words m at 0 0

-- the memory with the four of them
abbrev pub put_params : List ℕ → ℕ → Params → Places → List ℕ
put_params m block ps places =
    put_param ps.p3 (put_param ps.p2 (put_param ps.p1 (put_param ps.p0 m
    (at_block block 0) places.p0) (at_block block 1) places.p1) (at_block block 2) places.p2) (at_block block 3) places.p3

-- ---- the registers

-- the number of an entry
abbrev pub number_of : EntryKind → ℕ
number_of Create = 0
number_of Destroy = 1
number_of Start = 2
number_of Stop = 3
number_of Invoke = 4

-- what TEE_PARAM_TYPES makes of the four kinds
abbrev pub types_of : Params → ℕ
types_of ps = kind_of ps.p0 + kind_of ps.p1 * 2 ^ 4 + kind_of ps.p2 * 2 ^ 8 + kind_of ps.p3 * 2 ^ 12

-- the registers at the first instruction: the number of the entry, its session, its command, the types and the block, and zeros. Nothing is
-- left of the entry before
abbrev pub registers_of : EntryCall → ℕ → Params → List ℕ
registers_of call block ps =
    slice_set (slice_set (slice_set (slice_set (slice_set (replicate 32 0) A0 (number_of call.kind)) A1 call.session) A2 call.command)
    A3 (types_of ps)) A4 block

-- the machine at its first instruction
unfoldable pub begun : Machine → EntryCall → Layout → Params → Places → Machine
begun m call layout ps places =
    record { registers = registers_of call layout.block ps; pc = layout.start; memory = put_params m.memory layout.block ps places }
