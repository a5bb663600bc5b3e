-- What a race came to, of the calls that it is made of.
use Rattle.app_api.specs.Behaviours.{Behaviour}
use Rattle.std.proofs.Common.{◌≡◌, ◌≤◌, ◌<◌, ◌∙◌, ℕ, true, List, Result, length, sym, subst, ap}
use Rattle.std.specs.Prelude.{IfErr, OnOk, slice_get}
use Rattle.app_api.specs.declared.host.Host.{Host}
use Rattle.board.specs.Moment.{View}
use Rattle.board.specs.Runs.{Rests}
use Rattle.epoch.specs.Forms.{Form}
use Rattle.store_api.specs.Stores.{Store}
use Rattle.store_api.specs.Volumes.{Held, VolumeKeeper}
use Rattle.alone.specs.Logs.{KeptLog}
use Rattle.script.specs.declared.line.Line.{Line}
use Rattle.shared_parts.specs.StorageParts.{IsMarked, StorageEntry}
use Rattle.board.specs.Steps.{CallRun}
use Rattle.shared_tee.specs.Ending.{ArePasses, EndsOn}
use Rattle.shared_tee.specs.Making.{BeginsOver, IsOpenedOn}
use Rattle.shared_tee.specs.Passes.{PassView, Places}
use Rattle.tee_core.specs.Moments.{LeavesStoresAt}
use Rattle.tee_core.specs.Opening.{IsSoundFor}
use Rattle.tee_core.specs.World.{World}
use Rattle.race.specs.Clients.{AllKnowMore}
use Rattle.race.specs.declared.client.Stopped.{Stopped}
use Rattle.race.specs.Racing.{AllFollow, AllFollowTill, IsFilled, KnowNone}
use Rattle.race.proofs.BoardLemmas.{board_unordered, rose_if_lost}
use Rattle.race.proofs.CameLemmas.{all_follow, are_logs, full_as, machines_are, stops_as}
use Rattle.race.proofs.EndLemmas.{as_many, one_began, one_opened}
use Rattle.race.proofs.FreshLemmas.{fresh_at}
use Rattle.race.specs.Races.{AllKeep, CameTo, RunsOn, entries_of}

module _ {V A : Type 0} (K : VolumeKeeper V) (hosts : List (Host A)) (seed : List ℕ) (places : Places) (first : List (PassView V A)) (volume : V)
    (begins : BeginsOver K hosts seed places first volume) where
  -- no pass knows of an entry
  pub none_known : KnowNone first
  none_known i p here = (fresh_at K places.storage (length hosts) volume seed 0 places.cells hosts i p (ap (λ (ps : List (PassView V A)). slice_get ps i) (sym begins.passes_are) ∙ here)).none

  module _ {B : Type 0} (behaviour : Behaviour A) (form : Form) (Stays : ℕ → Type 0) (Honest : B → Type 0) (view : B → View) (board_of : V → B) (some : 0 < length hosts)
      (board : B) (opened : IsOpenedOn K form Stays Honest view board_of board (length hosts) volume)
      (lines : List Line) (back : List (PassView V A)) (are : ArePasses places back) (known : AllKnowMore first back) (r : Result (Unit {0}) Stopped)
      (filled : IfErr r (λ why. IsFilled K behaviour why lines back))
      (logs : List KeptLog) (new : B) (e : EndsOn K behaviour form Honest view board_of (length places.cells) back logs new) (keep : AllKeep logs) where
    pub runs_on : RunsOn (length hosts) lines r (entries_of logs) (view board) (view new)
    runs_on =
        let began : e.over.began ≡ volume = one_began K behaviour hosts seed places first back volume begins are known logs e.volume e.over some in
        let calls = subst (λ (v : V). CallRun true (view board) (view (board_of v))) (sym began) opened.calls in
        record {
          as_many = as_many K behaviour hosts seed places first back volume begins are known logs e.volume e.over;
          full = full_as K behaviour hosts seed places first back volume begins are known logs e.volume e.over keep lines r filled;
          board = board_unordered K behaviour form Honest view board_of (length places.cells) back logs board new e calls;
          lost = rose_if_lost K behaviour form Honest view board_of (length places.cells) back logs board new e calls;
        }

    module _ (ok : OnOk r (AllFollow K behaviour lines back)) (err : IfErr r (λ why. AllFollowTill K behaviour why lines back))
        (honest : Honest board) (n : ℕ) (h : Held) (stores : ℕ → Store) (rests : Rests n (view board).state) (size : form.blocks ≤ (view board).size)
        (sound : IsSoundFor form (view board) n h (length hosts) stores) where
      pub came_to : CameTo behaviour hosts seed stores lines form r (entries_of logs) (view new)
      came_to =
          let opens = opened.sound honest n h stores rests size sound in
          let marked = subst (λ (x : StorageEntry V). IsMarked K x) (one_opened K behaviour hosts seed places first back volume begins are known logs e.volume e.over some) opens.0 in
          record {
            are = are_logs K behaviour hosts seed places first back volume begins are known logs e.volume e.over keep stores opens.0 opens.1;
            follow = all_follow K behaviour hosts seed places first back volume begins are known logs e.volume e.over keep stores opens.0 opens.1 lines r ok err;
            stops = stops_as K behaviour hosts seed places first back volume begins are known logs e.volume e.over keep stores opens.0 opens.1 lines r filled;
            left = subst (λ (w : World A). LeavesStoresAt form (view new).key (view new).state w)
                (machines_are K behaviour hosts seed places first back volume begins are known logs e.volume e.over keep stores opens.0 opens.1) (e.left marked);
          }
