-- What is told of a board before its volume is looked at.
use Rattle.std.specs.Prelude.{◌≡◌, ◌-◌, ◌==◌, ℕ, if◌then◌else◌, None, Result, Ok, Err}
use Rattle.board.specs.Moment.{View, IsCounter}
use Rattle.board.specs.declared.Board.{Ghosts}
use Rattle.epoch.specs.Mounts.{IsKeptFromOpening, IsRefusal}
use Rattle.epoch.specs.Opening.{header_answer, opens_as}
use Rattle.v1_volume.specs.Versions.{volume_form}
use Rattle.tree_volume.specs.Keepers.{tree_keeper}
use Rattle.inspect.specs.declared.opening.Opened.{Opened}
use Rattle.inspect.specs.declared.opening.Unread.{Unread}
use Rattle.inspect.specs.declared.opening.Unread.TheVariants.{Blank, Refused}
use Rattle.tree_paths.specs.declared.places.TheConstants.{TREE_VERSION}
use Rattle.tee_base.specs.Words.{Counter, Sequence}

-- no header counts, at a counter that the board may have
abbrev pub IsBlank : View → Type 0
IsBlank v = (counter : Counter) × IsCounter v.state counter
    × (header_answer (opens_as volume_form.known volume_form.blocks v.size v.key v.state.reads counter) ≡ Ok None)

-- why there is no volume to look at
abbrev pub IsUnread : View → Unread → Type 0
IsUnread v Blank = IsBlank v
IsUnread v (Refused why) = (counter : Counter) × IsRefusal volume_form v v.state.reads counter why

-- the sequence of the header, of this version, by which a volume has this sequence: taking over a volume of an older version is one
-- commit
abbrev pub found_by : ℕ → Sequence → Sequence
found_by version sequence = if version == TREE_VERSION then sequence else sequence - 1

-- a sound image is opened to an honest volume, unless it is blank, a call failed or there was no memory
abbrev pub IsFoundSound : {B : Type 0} {G : Ghosts B} → Result (Opened B G) Unread → Type 0
IsFoundSound (Ok opened) = tree_keeper.honest opened.volume
IsFoundSound (Err Blank) = Unit {0}
IsFoundSound (Err (Refused why)) = IsKeptFromOpening why
