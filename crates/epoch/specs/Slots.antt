-- What a slot holds.
use Rattle.std.specs.Prelude.{ℕ, List, take, bytes_eq, if◌then◌else◌}
use Rattle.epoch.specs.Gates.{gate_at, header_at, gate_open}
use Rattle.epoch.specs.Header.{header_of, header_tag}
use Rattle.epoch.specs.Parts.{part}
use Rattle.epoch.specs.declared.header.TheConstants.{TAGGED}
use Rattle.epoch.specs.declared.header.Header.{Header}
use Rattle.epoch.specs.declared.slots.Slot.{Slot}
use Rattle.epoch.specs.declared.slots.Slot.TheVariants.{Shut, Bad, Good}
use Rattle.tee_base.specs.Words.{Image, Key}

-- a header with the tag that was computed and the one that is kept
abbrev pub header_by : List ℕ → List ℕ → Header → Slot
header_by found kept header =
    if bytes_eq found kept then Good header else Bad (record { found = found; kept = kept })

-- the header of a slot, by its block: its tag is of the bytes before the tag
unfoldable pub header_slot : Key → ℕ → List ℕ → Slot
header_slot key slot block =
    header_by (header_tag key slot (take TAGGED block)) (part TAGGED 32 block) (header_of block)

-- a slot of an image: its header counts only where its gate is open
unfoldable pub slot_of : Key → Image → ℕ → Slot
slot_of key image slot =
    if gate_open (image (gate_at slot)) then header_slot key slot (image (header_at slot)) else Shut
