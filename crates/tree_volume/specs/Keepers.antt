-- What contracts see of a volume whose entries stand in a tree, as a keeper of leaves.
use Rattle.std.specs.Prelude.{◌≡◌, ◌∷◌, false}
use Rattle.tee_base.specs.Crash.{read_as}
use Rattle.store_api.specs.Volumes.{VolumeKeeper}
use Rattle.board.specs.Moment.{moment, left_since}
use Rattle.board.specs.declared.Board.{Ghosts}
use Rattle.epoch.specs.Commits.{IsSteady}
use Rattle.epoch.specs.Forms.{held_of}
use Rattle.tree_paths.specs.declared.places.TheConstants.{REGION_LEAVES}
use Rattle.tree_paths.specs.Form.{form_root}
use Rattle.v1_volume.specs.Versions.{volume_form}
use Rattle.tree_volume.specs.Keeping.{IsAnew, IsOpen, damage_now, held_now, text_now}
use Rattle.tree_volume.specs.declared.volume.TreeVolume.{TreeVolume}

-- what it holds, finds and leaves to a crash is by its board and its root; of the leaves of a region those are read and written that
-- a region may have
abbrev pub tree_keeper : {B : Type 0} {G : Ghosts B} → VolumeKeeper (TreeVolume B G)
tree_keeper {B} {G} = record {
  tells_reads = G.tells_reads;
  leaves = REGION_LEAVES;
  held = λ v. held_now (G.view v.board) v.root v.sequence;
  condition = λ v. record {
    lost = v.lost;
    faults = (G.view v.board).state.faults;
    writes = (G.view v.board).writes;
    foundation = record {
      place = (G.view v.board).size ∷ (G.view v.board).key;
      orders = (G.view v.board).state.orders;
      ordered = (G.view v.board).ordered;
    };
  };
  honest_below = λ v. G.honest v.board;
  honest = λ v. G.honest v.board
      × (v.lost ≡ false → IsOpen (G.view v.board) v.root v.sequence)
      × IsSteady volume_form (G.view v.board).key (form_root v.root) (G.view v.board).state
      × IsAnew (G.view v.board);
  text = λ v. text_now (G.view v.board) v.root;
  damage = λ v. damage_now (G.view v.board) v.root;
  moment = λ v. moment (G.view v.board);
  left_since = λ v. read_as (held_of volume_form (G.view v.board).key) (left_since (G.view v.board));
}
