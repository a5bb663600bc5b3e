-- Where outputs are delivered, and what a client is shown (TEE Client API 1.0, sections 3.2.3 and 4.5.6; TEE Internal Core API 1.3, section 4.3.6.4).
use Rattle.std.specs.Prelude.{ℕ, min, ◌-◌, ◌^◌, Bool, false, ◌||◌, nat_le, nat_lt, List, [], if◌then◌else◌, length}
use Rattle.tee_base.specs.declared.limits.TheConstants.{MAX_ASK_BYTES}
use Rattle.app_api.specs.declared.param.Param.{Param}
use Rattle.app_api.specs.declared.param.Params.{Params}
use Rattle.app_api.specs.declared.param.Param.TheVariants as params
use Rattle.app_api.specs.declared.out.Out.{Out}
use Rattle.app_api.specs.declared.out.Outs.{Outs}
use Rattle.app_api.specs.declared.out.Out.TheVariants as outs
use Rattle.alone.specs.declared.places.OutputSlot.{OutputSlot}
use Rattle.alone.specs.declared.places.OutputSlot.TheVariants as places
use Rattle.alone.specs.declared.places.Places.{Places}
use Rattle.alone.specs.declared.active_entry.EntryPoint.{EntryPoint}
use Rattle.alone.specs.declared.active_entry.EntryPoint.TheVariants as stages
use Rattle.alone.specs.declared.reply.Shown.{Shown}
use Rattle.alone.specs.declared.reply.Shown.TheVariants as shown
use Rattle.alone.specs.declared.reply.Outputs.{Outputs}

-- the output position that a parameter is. No entry is given a reference
abbrev pub place_of : Param → OutputSlot
place_of params.Nothing = places.Nothing
place_of (params.ValueIn a b) = places.Nothing
place_of params.ValueOut = places.Value
place_of (params.ValueInOut a b) = places.ValueInOut a b
place_of (params.MemIn bytes) = places.Nothing
place_of (params.MemOut room) = places.Mem room
place_of (params.MemInOut bytes) = places.MemInOut bytes
place_of (params.Whole block) = places.Nothing
place_of (params.Part block way at size) = places.Nothing

-- the output positions of a call's four parameters
abbrev pub places_of : Params → Places
places_of ps = record { p0 = place_of ps.p0; p1 = place_of ps.p1; p2 = place_of ps.p2; p3 = place_of ps.p3 }

-- no parameter is an output
abbrev pub no_places : Places
no_places = record { p0 = places.Nothing; p1 = places.Nothing; p2 = places.Nothing; p3 = places.Nothing }

-- a value at a value output; any other output there gives zeros, or leaves what stands there
abbrev pub value_shown : ℕ → ℕ → Out → Shown
value_shown x y outs.Nothing = shown.Value x y
value_shown x y (outs.Value a b) = shown.Value a b
value_shown x y (outs.Mem bytes) = shown.Value x y
value_shown x y (outs.Size n) = shown.Value x y

-- how many bytes there are, as a size of 32 bits says it; no memory reference is longer than 524,288 bytes
abbrev pub size_of_bytes : List ℕ → ℕ
size_of_bytes bytes = min (length bytes) (2 ^ 32 - 1)

-- memory at a memory output: the size, and the bytes where there is room for them; any other output leaves what stands there
abbrev pub memory_shown : List ℕ → ℕ → Out → Shown
memory_shown before room outs.Nothing = shown.Mem (size_of_bytes before) before
memory_shown before room (outs.Value a b) = shown.Mem (size_of_bytes before) before
memory_shown before room (outs.Mem bytes) = if nat_le (length bytes) room then shown.Mem (size_of_bytes bytes) bytes else shown.Size (size_of_bytes bytes)
memory_shown before room (outs.Size n) = shown.Size n

-- what is shown of an output at a position
abbrev pub shown_at : OutputSlot → Out → Shown
shown_at places.Nothing out = shown.Nothing
shown_at places.Value out = value_shown 0 0 out
shown_at (places.ValueInOut a b) out = value_shown a b out
shown_at (places.Mem room) out = memory_shown [] room out
shown_at (places.MemInOut bytes) out = memory_shown bytes (length bytes) out

-- what is shown of the four outputs
abbrev pub shown_outputs : Places → Outs → Outputs
shown_outputs ps os = record { p0 = shown_at ps.p0 os.p0; p1 = shown_at ps.p1 os.p1; p2 = shown_at ps.p2 os.p2; p3 = shown_at ps.p3 os.p3 }

-- a size that isn't above the room of its memory output
abbrev pub is_small_size : ℕ → Out → Bool
is_small_size room outs.Nothing = false
is_small_size room (outs.Value a b) = false
is_small_size room (outs.Mem bytes) = false
is_small_size room (outs.Size n) = nat_le n room

-- the output is misuse at this position: a size for which its memory has the room
abbrev pub is_misused_at : OutputSlot → Out → Bool
is_misused_at places.Nothing out = false
is_misused_at places.Value out = false
is_misused_at (places.ValueInOut a b) out = false
is_misused_at (places.Mem room) out = is_small_size room out
is_misused_at (places.MemInOut bytes) out = is_small_size (length bytes) out

-- more than a memory reference may have
abbrev pub is_too_long : Out → Bool
is_too_long outs.Nothing = false
is_too_long (outs.Value a b) = false
is_too_long (outs.Mem bytes) = nat_lt MAX_ASK_BYTES (length bytes)
is_too_long (outs.Size n) = false

-- the outputs of a return are misuse
abbrev pub is_misuse : Places → Outs → Bool
is_misuse ps os =
    is_too_long os.p0 || is_too_long os.p1 || is_too_long os.p2 || is_too_long os.p3
    || is_misused_at ps.p0 os.p0 || is_misused_at ps.p1 os.p1 || is_misused_at ps.p2 os.p2 || is_misused_at ps.p3 os.p3

-- the output positions of the entry that runs
abbrev pub places_at : EntryPoint → Places
places_at (stages.Create session client ps) = no_places
places_at (stages.Start session ps) = ps
places_at (stages.Invoke session ps) = ps
places_at (stages.Stop session) = no_places
places_at (stages.Destroy reply) = no_places
