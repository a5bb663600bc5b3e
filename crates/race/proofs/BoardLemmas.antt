-- The board of a race: how it is handed back, and what a crash may leave of it.
use Rattle.app_api.specs.Behaviours.{Behaviour}
use Rattle.std.proofs.Common.{◌≡◌, ◌≤◌, ◌<◌, ◌+◌, ◌∙◌, ◌⊎◌, ℕ, Bool, true, List, [], ◌∷◌, None, Some, length, map, refl, sym, subst, ap, inl, inr, ⊎_elim, arith}
use Rattle.std.specs.Prelude.{slice_get}
use Rattle.app_api.specs.declared.host.Host.{Host}
use Rattle.board.specs.Moment.{View}
use Rattle.board.specs.Runs.{Rests}
use Rattle.board.specs.Steps.{CallRun}
use Rattle.epoch.proofs.CallLemmas.{rose_later}
use Rattle.epoch.specs.Forms.{Form, held_of}
use Rattle.epoch.specs.Mounts.{HandsBack, IsKeptFromOpening, IsSeenOn, LeavesOpening}
use Rattle.epoch.specs.declared.answer.OpenAnswer.{OpenAnswer}
use Rattle.epoch.specs.declared.answer.OpenAnswer.TheVariants as answers
use Rattle.store_api.specs.Foundations.{Foundation}
use Rattle.store_api.specs.Stores.{Store}
use Rattle.store_api.specs.Volumes.{Held, VolumeKeeper}
use Rattle.object_dir.specs.Regions.{store_in}
use Rattle.alone.specs.Logs.{KeptLog, Logged}
use Rattle.shared_parts.specs.HostedApps.{HostedView, tells_loss}
use Rattle.shared_parts.specs.InStep.{StoragePart}
use Rattle.shared_tee.proofs.BoardEnds.{left_alike, parts_in}
use Rattle.shared_tee.specs.Ending.{EndsOn}
use Rattle.shared_tee.specs.Making.{ComesOut, opened_parts}
use Rattle.shared_tee.specs.Passes.{PassView}
use Rattle.tee_base.specs.Faults.{Rose}
use Rattle.tee_core.specs.Moments.{KeepsFoundation, LeavesStoresAt}
use Rattle.tee_core.specs.Opening.{IsSoundFor}
use Rattle.tee_core.specs.World.{starts_from, world_of}
use Rattle.race.proofs.LogLemmas.{map_at}
use Rattle.race.specs.Races.{ComesBack, IsUnordered, LeavesBegin, OneTellsLoss, entries_of}

-- ---- no order

pub unordered_run : (ok : Bool) (old new : View) → CallRun ok old new → IsUnordered old new
unordered_run ok old new run = record { size = run.size; key = run.key; orders = run.orders; ordered = run.ordered; later = run.faults }

pub unordered_then : (old mid new : View) → IsUnordered old mid → IsUnordered mid new → IsUnordered old new
unordered_then old mid new f g = record {
  size = g.size ∙ f.size;
  key = g.key ∙ f.key;
  orders = g.orders ∙ f.orders;
  ordered = g.ordered ∙ f.ordered;
  later = let a = f.later in let b = g.later in omega (arith, a, b);
}

-- what a volume on a board stands on
abbrev stands_on : View → Foundation
stands_on view = record { place = view.size ∷ view.key; orders = view.state.orders; ordered = view.ordered }

-- ---- the board was opened, and comes back

-- machines at their start have the parts that were opened
parts_started : {V A : Type 0} (K : VolumeKeeper V) (volume : V) (seed : List ℕ) (stores : ℕ → Store) (app : ℕ) (hosts : List (Host A))
    → ((i : ℕ) → app ≤ i → i < app + length hosts → store_in i (K.held volume) ≡ stores i) → opened_parts K volume app (length hosts) ≡ parts_in (starts_from app hosts seed stores)
parts_started K volume seed stores app [] are = refl
parts_started K volume seed stores app (host ∷ hosts) are =
    ap (λ (s : Store). (let p : StoragePart = record { store = s; in_doubt = None } in p) ∷ opened_parts K volume (app + 1) (length hosts)) (are app (omega arith) (omega arith))
    ∙ ap (λ (ps : List StoragePart). (let p : StoragePart = record { store = stores app; in_doubt = None } in p) ∷ ps)
    (parts_started K volume seed stores (app + 1) hosts (λ i le lt. are i (omega (arith, le)) (omega (arith, lt))))

-- the volume stood where it stands, with no order made
kept_unordered : {B V : Type 0} (K : VolumeKeeper V) (form : Form) (view : B → View) (board_of : V → B) (seen : (v : V) → IsSeenOn K form v (view (board_of v))) (old new : V)
    → KeepsFoundation (K.condition old) (K.condition new) → IsUnordered (view (board_of old)) (view (board_of new))
kept_unordered K form view board_of seen old new since =
    let same : stands_on (view (board_of new)) ≡ stands_on (view (board_of old)) = sym (seen new).foundation ∙ since.foundation ∙ (seen old).foundation in
    record {
      size = let place = ap (λ (f : Foundation). f.place) same in cc (place);
      key = let place = ap (λ (f : Foundation). f.place) same in cc (place);
      orders = ap (λ (f : Foundation). f.orders) same;
      ordered = ap (λ (f : Foundation). f.ordered) same;
      later = let a = since.faults in let b = (seen old).faults in let c = (seen new).faults in omega (arith, a, b, c);
    }

module _ {B V A : Type 0} (K : VolumeKeeper V) (form : Form) (Stays : ℕ → Type 0) (Honest : B → Type 0) (view : B → View) (board_of : V → B)
    (seen : (v : V) → IsSeenOn K form v (view (board_of v))) (board : B) where
  out_unordered : (apps : ℕ) (why : OpenAnswer) (back : B) → ComesOut K form Stays Honest view board_of A board apps why back → IsUnordered (view board) (view back)
  out_unordered apps why back out =
      subst (λ (b : B). IsUnordered (view board) (view b)) out.board_is
      (unordered_then (view board) (view (board_of out.opened)) (view (board_of out.volume)) (unordered_run true (view board) (view (board_of out.opened)) out.on.calls)
      (kept_unordered K form view board_of seen out.opened out.volume out.comes.since))

  pub comes_back : (apps : ℕ) (why : OpenAnswer) (back : B) → HandsBack why (view board) (view back) ⊎ ComesOut K form Stays Honest view board_of A board apps why back
      → ComesBack why (view board) (view back)
  comes_back apps why back r =
      ⊎_elim
      (λ hands. record { board = unordered_run _ (view board) (view back) hands.calls; cause = hands.cause })
      (λ out. record {
        board = out_unordered apps why back out;
        cause = λ failed. absurd (let e : answers.NoMemory ≡ answers.Failed = sym out.why_is ∙ failed in cc (e));
      })
      r

  module _ (hosts : List (Host A)) (seed : List ℕ) (honest : Honest board) (n : ℕ) (h : Held) (stores : ℕ → Store) (rests : Rests n (view board).state)
      (size : form.blocks ≤ (view board).size) (sound : IsSoundFor form (view board) n h (length hosts) stores) where
    left_out : (why : OpenAnswer) (back : B) → ComesOut K form Stays Honest view board_of A board (length hosts) why back
        → LeavesStoresAt form (view back).key (view back).state (world_of hosts seed stores)
    left_out why back out =
        let opens = out.on.sound honest n h stores rests size sound in
        let stored = out.comes.stored opens.0 in
        subst (λ (b : B). LeavesStoresAt form (view b).key (view b).state (world_of hosts seed stores)) out.board_is (λ c left.
        left_alike stored.world (world_of hosts seed stores) (K.held out.volume).sequence (held_of form (view (board_of out.volume)).key c)
        (stored.are ∙ parts_started K out.opened seed stores 0 hosts (λ i le lt. opens.1 i (omega (arith, lt))))
        (stored.stands.left (held_of form (view (board_of out.volume)).key c) ((seen out.volume).left_back (K.moment out.volume) c (inl left))))

    pub leaves_begin : (why : OpenAnswer) (back : B)
        → IsKeptFromOpening why × (LeavesOpening form h (view board) (view back) ⊎ ComesOut K form Stays Honest view board_of A board (length hosts) why back)
        → IsKeptFromOpening why × LeavesBegin form hosts seed stores h (view board) (view back)
    leaves_begin why back r = (r.0, ⊎_elim (λ leaves. inl leaves) (λ out. inr (left_out why back out)) r.1)

-- ---- the race ended

module _ {B V A : Type 0} (K : VolumeKeeper V) (behaviour : Behaviour A) (form : Form) (Honest : B → Type 0) (view : B → View) (board_of : V → B) (apps : ℕ)
    (passes : List (PassView V A)) (logs : List KeptLog) (board back : B) (e : EndsOn K behaviour form Honest view board_of apps passes logs back)
    (calls : CallRun true (view board) (view (board_of e.over.began))) where
  pub board_unordered : IsUnordered (view board) (view back)
  board_unordered =
      unordered_then (view board) (view (board_of e.over.began)) (view back) (unordered_run true (view board) (view (board_of e.over.began)) calls)
      (record { size = e.size; key = e.key; orders = e.orders; ordered = e.ordered; later = e.faults })

  pub rose_if_lost : OneTellsLoss (entries_of logs) → Rose (view board).state.faults (view back).state.faults
  rose_if_lost told =
      let log = told.1 in
      let there : slice_get (map (λ (h : HostedView V A). h.log) e.over.ends) told.0 ≡ Some log =
      ap (λ (ls : List (List Logged)). slice_get ls told.0) e.over.logs_are ∙ told.2 in
      let t = map_at (λ (h : HostedView V A). h.log) e.over.ends told.0 log there in
      rose_later (view board).state.faults (view (board_of e.over.began)).state.faults (view back).state.faults calls.faults
      (e.rose told.0 t.0 t.1 (subst (λ (l : List Logged). tells_loss l ≡ true) (sym t.2) told.3))
