-- What the contracts of a board over files see of it: its counts, and no contents.
use Rattle.std.specs.Prelude.{◌≡◌, ℕ, Bool, List, [], Option, is_some, map}
use Rattle.board.specs.declared.fuse.Fuse.TheVariants.{Unset}
use Rattle.board.specs.Moment.{View}
use Rattle.boards.specs.Device.{files_at, order_of}
use Rattle.boards.specs.declared.file.FileBoard.{FileBoard}

-- the bytes of the blocks and the counter are left out
abbrev pub view_of : {F : Type 0} → FileBoard F → View
view_of b = record {
  size = b.blocks;
  key = b.keys.key;
  writes = b.counts.writes;
  ordered = map order_of b.counts.ordered;
  fuse = b.counts.fuse;
  state = files_at b.counts.faults b.counts.orders;
  past = [];
}

-- a board whose files were just opened: no call was made
pub record IsOpened (v : View) : Type 0 where
  pub writes : v.writes ≡ 0
  pub faults : v.state.faults ≡ 0
  pub orders : v.state.orders ≡ 0
  pub ordered : v.ordered ≡ []
  pub fuse : v.fuse ≡ Unset

-- the random seed
abbrev pub seed_of : {F : Type 0} → FileBoard F → List ℕ
seed_of b = b.keys.seed

-- the number of the counter that the board knows to be on the disk, where it knows one; a missing file counts as 0
abbrev pub number_of : {F : Type 0} → FileBoard F → Option ℕ
number_of b = b.counter.number

-- whether it has a counter file
abbrev pub has_counter : {F : Type 0} → FileBoard F → Bool
has_counter b = is_some b.counter.file

-- all but the counts and the fuse is as it was: the files, what is known of them, and the keys
pub record KeepsFiles {F : Type 0} (old new : FileBoard F) : Type 0 where
  pub image : new.image ≡ old.image
  pub sync_failed : new.sync_failed ≡ old.sync_failed
  pub counter : new.counter ≡ old.counter
  pub keys : new.keys ≡ old.keys
  pub blocks : new.blocks ≡ old.blocks
