-- A board that was opened, and a volume that comes back since there was no memory for cells.
use Rattle.app_api.specs.Behaviours.{Behaviour}
use Rattle.std.proofs.Common.{◌≡◌, ◌<◌, ◌≤◌, ◌+◌, ℕ, true, false, List, [], ◌∷◌, Result, Some, None, Ok, Err, length, map, refl, sym, subst, ◌∙◌, ap, arith}
use Rattle.std.specs.Prelude.{IfOk}
use mathlib.Core.List.{IsPrefix}
use Rattle.board.specs.Moment.{View}
use Rattle.board.specs.Runs.{Rests}
use Rattle.board.specs.Steps.{CallRun}
use Rattle.epoch.proofs.MountLemmas.{opening_keeps}
use Rattle.epoch.specs.Forms.{Form, held_in}
use Rattle.epoch.specs.Mounts.{IsOpenedTo, LeavesOpening, OpensHonestly}
use Rattle.epoch.specs.Opening.{opening_of}
use Rattle.epoch.specs.declared.answer.OpenAnswer.TheVariants as answers
use Rattle.store_api.specs.Stores.{Store}
use Rattle.store_api.specs.Volumes.{Held, RestsAt, VolumeKeeper}
use Rattle.object_dir.specs.Regions.{region_in, store_in, store_or_empty}
use Rattle.turn_cell.specs.declared.view.SeatView.{SeatView}
use Rattle.alone.specs.Machine.{Machine}
use Rattle.app_side.specs.declared.side.AppSide.{AppSide}
use Rattle.tee_core.specs.Moments.{KeepsFoundation}
use Rattle.tee_core.specs.Opening.{IsSoundFor}
use Rattle.tee_core.specs.Sides.{IsNoneInDoubt}
use Rattle.shared_parts.proofs.HostedLemmas.{first_prefix}
use Rattle.shared_parts.proofs.OpeningLemmas.{begun_world, stand_begun}
use Rattle.shared_parts.specs.InStep.{StoragePart, part_of}
use Rattle.shared_parts.specs.StorageParts.{IsMarked, IsStoredFor, KeepsStorage, Opened, StorageEntry, StorageView, first_of}
use Rattle.shared_tee.specs.Making.{ComesBack, ComesBackOpened, ComesOut, IsOpenedOn, opened_parts}

-- ---- the board

module _ {B V : Type 0} (K : VolumeKeeper V) (form : Form) (Stays : ℕ → Type 0) (Honest : B → Type 0) (view : B → View) (board_of : V → B) (board : B) (apps : ℕ) (volume : V)
    (calls : CallRun true (view board) (view (board_of volume)))
    (honest : Honest board → Honest (board_of volume) × OpensHonestly Stays (K.held volume).sequence (view board) (view (board_of volume)))
    (opened : Honest board → (n : ℕ) (h : Held) → Rests n (view board).state → form.blocks ≤ (view board).size → held_in form (view board).key (view board).state.reads n ≡ Some h
    → K.honest volume × IsOpenedTo form (view board) h (K.held volume) × LeavesOpening form h (view board) (view (board_of volume))) where
  module _ (n : ℕ) (h : Held) (stores : ℕ → Store) (sound : IsSoundFor form (view board) n h apps stores) (makes : IsOpenedTo form (view board) h (K.held volume)) (is : K.honest volume) where
    stands : (app : ℕ) → app < apps → region_in app (K.held volume) ≡ Ok (stores app)
    stands app lt =
        ap (λ (leaves : ℕ → ℕ → List ℕ). region_in app (record h { leaves = leaves }))
        (opening_keeps form (opening_of form.known (view board).key (view board).state.reads (view board).state.counter) h (K.held volume) makes)
        ∙ sound.stand app lt

    store_is : (app : ℕ) → app < apps → store_in app (K.held volume) ≡ stores app
    store_is app lt = ap store_or_empty (stands app lt)

    marked : IsMarked K (Opened apps volume)
    marked app lt = record { honest = is; stands = stands app lt ∙ ap (λ (s : Store). Ok s) (sym (store_is app lt)) }

  pub opened_on : IsOpenedOn K form Stays Honest view board_of board apps volume
  opened_on = record {
    calls = calls;
    honest = honest;
    sound = λ keeps n h stores rests size sound.
        let made = opened keeps n h rests size sound.opens in
        (marked n h stores sound made.1 made.0, store_is n h stores sound made.1 made.0, made.2);
  }

  -- it was opened, and comes back
  pub comes_out : {A : Type 0} (count : ℕ) → count ≡ apps → (last : V) → ComesBackOpened K A count volume last → (back : B) → back ≡ board_of last
      → ComesOut K form Stays Honest view board_of A board apps answers.NoMemory back
  comes_out {A} count same last comes back is = record {
    why_is = refl;
    opened = volume;
    on = opened_on;
    volume = last;
    board_is = sym is;
    comes = subst (λ n. ComesBackOpened K A n volume last) same comes;
  }

-- a result that is an error holds all that is said of an Ok
pub none_ok : {A E : Type 0} (r : Result A E) (e : E) (P : A → Type 0) → r ≡ Err e → IfOk r P
none_ok {A} {E} r e P is = subst (λ (x : Result A E). IfOk x P) (sym is) tt

-- ---- the volume

module _ {V A : Type 0} (K : VolumeKeeper V) (behaviour : Behaviour A) (volume : V) where
  parts_opened : (app : ℕ) (sides : List (AppSide A)) → map (λ (m : Machine A). part_of m) (begun_world K behaviour volume app sides) ≡ opened_parts K volume app (length sides)
  parts_opened app [] = refl
  parts_opened app (side ∷ sides) =
      ap (λ (ps : List StoragePart). (let p : StoragePart = record { store = store_in app (K.held volume); in_doubt = None } in p) ∷ ps) (parts_opened (app + 1) sides)

  -- it comes back as it was opened
  pub just_back : ((v : V) → K.honest v → (K.condition v).lost ≡ false → RestsAt K v (K.held v)) → (K.condition volume).lost ≡ false → (sides : List (AppSide A)) → 0 < length sides
      → IsNoneInDoubt sides → (back : V) → back ≡ volume → ComesBackOpened K A (length sides) volume back
  just_back rests works sides some calm back same = subst (λ (v : V). ComesBackOpened K A (length sides) volume v) (sym same) (record {
    since = record { faults = omega arith; foundation = refl };
    below = λ honest. honest;
    stored = λ marked. record {
      sides = sides;
      world = begun_world K behaviour volume 0 sides;
      are = parts_opened 0 sides;
      stands = stand_begun K behaviour volume rests works sides some calm marked;
    };
  })

-- it comes back out of its cell
pub closed_back : {V A : Type 0} (K : VolumeKeeper V) (apps : ℕ) (volume : V) (s : StorageView V) (v : SeatView StoragePart (StorageEntry V)) → KeepsStorage K A s → ComesBack K apps volume 0 apps v
    → s.parts ≡ v.own → IsPrefix v.trail s.trail → ComesBackOpened K A apps volume s.volume
closed_back {V} {A} K apps volume s v keeps back parts trail =
    let first : Opened (length s.parts) keeps.opened ≡ Opened apps volume =
    ap (λ (t : List (StorageEntry V)). first_of t) (sym keeps.trail) ∙ first_prefix v.trail s.trail back.began trail ∙ back.opened in
    let same : keeps.opened ≡ volume = cc first in
    record {
      since = subst (λ (o : V). KeepsFoundation (K.condition o) (K.condition s.volume)) same keeps.since;
      below = subst (λ (o : V). K.honest_below o → K.honest_below s.volume) same keeps.below;
      stored = λ marked. subst (λ (ps : List StoragePart). IsStoredFor K A ps s.volume) (parts ∙ back.parts marked)
          (keeps.kept (subst (λ (e : StorageEntry V). IsMarked K e) (sym first) marked));
    }
