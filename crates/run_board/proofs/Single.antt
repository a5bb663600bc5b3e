-- One event, and turns one after the other.
use Rattle.app_api.specs.Behaviours.{Behaviour}
use Rattle.std.proofs.Common.{ℕ, suc, ◌≡◌, ◌<◌, ◌≤◌, ◌+◌, ◌-◌, ◌^◌, inl, inr, true, List, [], ◌∷◌, ◌++◌, Option, None, Some, drop, get_or, length, refl, sym, subst, ◌∙◌, ap, append-nil, arith}
use Rattle.std.specs.Prelude.{slice_get, slice_index_or}
use Rattle.std.specs.Io.KnownBytes.{Appends}
use Rattle.tee_base.specs.Transfer.{AppendsFront}
use Rattle.board.specs.Moment.{Moment, View}
use Rattle.epoch.specs.Forms.{Form}
use Rattle.epoch.specs.Mounts.{IsSeenOn}
use Rattle.store_api.specs.Foundations.{Foundation}
use Rattle.store_api.specs.Volumes.{VolumeKeeper}
use Rattle.app_api.specs.declared.call.Call.{Call}
use Rattle.alone.specs.declared.turn.TurnKind.{TurnKind}
use Rattle.alone.specs.declared.turn.TurnKind.TheVariants as kinds
use Rattle.alone.specs.Machine.{Machine}
use Rattle.alone.specs.Marks.{event_at}
use Rattle.alone.specs.Step.{Event, Called, after_call, is_enabled, step}
use Rattle.alone.proofs.Counted.{call_counts_none, cancellation_counts_none}
use Rattle.app_side.specs.Represents.{event_of as turn_of}
use Rattle.tee_core.specs.declared.happened.Event.{Event as TeeEvent}
use Rattle.tee_core.specs.declared.happened.Event.TheVariants as events
use Rattle.tee_core.specs.declared.happened.Happened.{Happened}
use Rattle.tee_core.specs.Happenings.{happened_in}
use Rattle.tee_core.specs.Moments.{IsSound, KeepsCounts, RoseIfLost}
use Rattle.tee_core.specs.Represents.{app_of, event_of, machine_event}
use Rattle.tee_core.specs.World.{World, AppEvent, turn_events, turned_at, world_step}
use Rattle.tee_core.proofs.Turns.{kind_counts}
use Rattle.tee_core.proofs.TurnsMade.{at_step}
use Rattle.run_board.specs.Boards.{GoesAlong, HasOrders, IsSpan, LeavesStores, RoseBy, RunsAlong, losses_of}
use Rattle.run_board.specs.Logs.{AreKnown, Item, OfApp, log_text}
use Rattle.run_board.specs.Parts.{AgreesIn, IsRunOf, IsUndamaged, Point, StopsIn, entry_of, log_of, step_events}
use Rattle.run_board.specs.Transcript.{Weather, Happens, after_events, happened_lines, happens, text_of}
use Rattle.run_board.proofs.Parts.{text_is_log}
use Rattle.run_board.proofs.Turns.{event_as}

-- ---- the application of an event

-- there is such an application and a name for it, and it may make one turn more
pub record IsKnownEvent (names : List (List ℕ)) (count : ℕ) (turns : ℕ → ℕ) (name : List ℕ) (i : ℕ) : Type 0 where
  pub there : i < count
  pub within : i < length names
  pub named : name ≡ get_or names i []
  pub room : turns i < 2 ^ 63

pub event_known : (names : List (List ℕ)) (count : ℕ) (turns : ℕ → ℕ) (name : List ℕ) (i app : ℕ) → i ≡ app → length names ≡ count → app < count
    → name ≡ get_or names app [] → turns app + 1 ≤ 2 ^ 63 → IsKnownEvent names count turns name i
event_known names count turns name i app own many known is fits =
    let within : app < length names = omega (arith, many, known) in
    record {
      there = subst (λ k. k < count) (sym own) known;
      within = subst (λ k. k < length names) (sym own) within;
      named = is ∙ ap (λ k. get_or names k []) (sym own);
      room = subst (λ k. turns k < 2 ^ 63) (sym own) (omega (arith, fits));
    }

-- ---- what an event leaves of the board

-- how often the board failed in an event
losses_rose : (e : TeeEvent) (kind : TurnKind) (old new : ℕ) → old ≤ new → RoseIfLost kind old new → RoseBy (0 + losses_of (machine_event e kind)) old new
losses_rose (events.Call app client call) kind old new later rose = inl (omega (arith, later))
losses_rose (events.Cancel app op) kind old new later rose = inl (omega (arith, later))
losses_rose (events.Turn app instance) kinds.Plain old new later rose = inl (omega (arith, later))
losses_rose (events.Turn app instance) (kinds.Lost change) old new later (inl more) = inl (omega (arith, more))
losses_rose (events.Turn app instance) (kinds.Lost change) old new later (inr most) = inr (omega (arith, most))
losses_rose (events.Turn app instance) kinds.Starved old new later rose = inl (omega (arith, later))
losses_rose (events.Turn app instance) kinds.Corrupted old new later rose = inl (omega (arith, later))

-- it met no damage where its turn didn't
undamaged_as : (e : TeeEvent) (kind : TurnKind) → IsSound kind → IsUndamaged (machine_event e kind)
undamaged_as (events.Call app client call) kind sound = tt
undamaged_as (events.Cancel app op) kind sound = tt
undamaged_as (events.Turn app instance) kinds.Plain sound = tt
undamaged_as (events.Turn app instance) (kinds.Lost change) sound = tt
undamaged_as (events.Turn app instance) kinds.Starved sound = tt
undamaged_as (events.Turn app instance) kinds.Corrupted sound = sound

-- what a volume stands on that is seen on this board
abbrev foundation_of : View → Foundation
foundation_of view = record { place = view.size ∷ view.key; orders = view.state.orders; ordered = view.ordered }

-- lists that are the same begin with the same, and the rest of them is the same
same_place : (x y : ℕ) (xs ys : List ℕ) → x ∷ xs ≡ y ∷ ys → (x ≡ y) × (xs ≡ ys)
same_place x y xs ys e = (ap (λ (zs : List ℕ). get_or zs 0 0) e, ap (λ (zs : List ℕ). drop 1 zs) e)

-- the board along one event
along_one : {A : Type 0} (behaviour : Behaviour A) (form : Form) (key : List ℕ) (w : World A) (e : AppEvent) (old new : Moment) → IsSpan (0 + losses_of e.event) old new
    → GoesAlong behaviour form key old 0 w (Happens e ∷ []) [] new
unfolding GoesAlong
along_one behaviour form key w e old new span = span

-- a volume that is seen on its board, before and after
module _ {V : Type 0} (K : VolumeKeeper V) (form : Form) (old new : V) (view view_then : View) (seen : IsSeenOn K form old view) (seen_then : IsSeenOn K form new view_then) where
  module _ (same : (K.condition new).foundation ≡ (K.condition old).foundation) (later : (K.condition old).faults ≤ (K.condition new).faults) where
    same_foundation : foundation_of view_then ≡ foundation_of view
    same_foundation = sym seen_then.foundation ∙ same ∙ seen.foundation

    same_board : (view_then.size ≡ view.size) × (view_then.key ≡ view.key)
    same_board = same_place view_then.size view.size view_then.key view.key (ap (λ (f : Foundation). f.place) same_foundation)

    same_orders : view_then.state.orders ≡ view.state.orders
    same_orders = ap (λ (f : Foundation). f.orders) same_foundation

    same_ordered : view_then.ordered ≡ view.ordered
    same_ordered = ap (λ (f : Foundation). f.ordered) same_foundation

    later_faults : view.state.faults ≤ view_then.state.faults
    later_faults = omega (arith, later, seen.faults, seen_then.faults)

    -- no order was made
    pub unordered : HasOrders [] view view_then
    unordered = record {
      size = same_board.0;
      key = same_board.1;
      orders = same_orders;
      made = [];
      numbered = refl;
      ordered = same_ordered;
      later = later_faults;
    }

  span_at : (e : TeeEvent) (kind : TurnKind) → KeepsCounts kind (K.condition old) (K.condition new) → IsSpan (0 + losses_of (machine_event e kind)) view.state view_then.state
  span_at e kind counts = record {
    orders = same_orders counts.foundation counts.faults;
    later = later_faults counts.foundation counts.faults;
    faults = subst (λ n. RoseBy (0 + losses_of (machine_event e kind)) n view_then.state.faults) seen.faults
        (subst (λ n. RoseBy (0 + losses_of (machine_event e kind)) (K.condition old).faults n) seen_then.faults
        (losses_rose e kind (K.condition old).faults (K.condition new).faults counts.faults counts.rose));
  }

  -- the board goes along with an event
  pub event_along : {A : Type 0} (behaviour : Behaviour A) (w : World A) (e : TeeEvent) (kind : TurnKind) → KeepsCounts kind (K.condition old) (K.condition new)
      → RunsAlong behaviour form w (Happens (event_of e kind) ∷ []) view view_then
  event_along behaviour w e kind counts = record {
    size = (same_board counts.foundation counts.faults).0;
    key = (same_board counts.foundation counts.faults).1;
    made = [];
    ordered = same_ordered counts.foundation counts.faults;
    along = along_one behaviour form view.key w (event_of e kind) view.state view_then.state (span_at e kind counts);
  }

-- ---- one event

module _ {A : Type 0} (behaviour : Behaviour A) where
  -- one event makes one turn at most
  few_turns : (m : Machine A) (e : TeeEvent) (kind : TurnKind) → m.turns < 2 ^ 63 → (step behaviour m (machine_event e kind)).machine.turns < 2 ^ 64
  few_turns m (events.Call app client call) kind few = omega (arith, few, call_counts_none m client call)
  few_turns m (events.Cancel app op) kind few = omega (arith, few, cancellation_counts_none m op)
  few_turns m (events.Turn app instance) kind few = omega (arith, few, kind_counts behaviour m kind instance)

  -- weather that agrees with an event gives it
  step_is : (weather : Weather) (w : World A) (e : TeeEvent) (kind : TurnKind) (m : Machine A) → slice_get w (app_of e) ≡ Some m → is_enabled m (machine_event e kind) ≡ true
      → AgreesIn (weather.marks (app_of e)) (slice_get w (app_of e)) (machine_event e kind) → step_events behaviour weather w e ≡ Happens (event_of e kind) ∷ []
  step_is weather w (events.Call app client call) kind m here may agree = refl
  step_is weather w (events.Cancel app op) kind m here may agree = refl
  step_is weather w (events.Turn app instance) kind m here may agree =
      ap (λ o. happens (turned_at behaviour (weather.marks app) app instance 1 o)) here
      ∙ ap (λ (x : Event). Happens (record { app = app; event = x }) ∷ [])
      (event_as (weather.marks app) m kind instance may (subst (λ (o : Option (Machine A)). AgreesIn (weather.marks app) o (turn_of kind instance)) here agree))

  -- the number and the instance of a call
  pub call_told : (e : TeeEvent) (h : Happened) (m : Machine A) (app client : ℕ) (call : Call) → h ≡ happened_in behaviour m (machine_event e h.kind) → e ≡ events.Call app client call
      → (h.op ≡ m.queue.next) × (h.instance ≡ (after_call m client call).instance)
  call_told e h m app client call same is =
      let so : h ≡ happened_in behaviour m (Called client call) = same ∙ ap (λ (x : TeeEvent). happened_in behaviour m (machine_event x h.kind)) is in
      (ap (λ (x : Happened). x.op) so, ap (λ (x : Happened). x.instance) so)

  module _ (form : Form) (names : List (List ℕ)) (w : World A) (e : TeeEvent) (h : Happened) (m : Machine A) (here : slice_get w (app_of e) ≡ Some m)
      (same : h ≡ happened_in behaviour m (machine_event e h.kind)) where
    one_log : log_of behaviour w (Happens (event_of e h.kind) ∷ []) ≡ OfApp (record { app = app_of e; told = h }) ∷ []
    one_log =
        ap (λ o. entry_of behaviour (app_of e) (machine_event e h.kind) o ++ []) here
        ∙ ap (λ (x : Happened). OfApp (record { app = app_of e; told = x }) ∷ []) (sym same)

    one_text : text_of behaviour names w (Happens (event_of e h.kind) ∷ []) ≡ happened_lines (slice_index_or names (app_of e) []) h
    one_text =
        text_is_log behaviour names w (Happens (event_of e h.kind) ∷ [])
        ∙ ap (log_text names) one_log
        ∙ append-nil (happened_lines (slice_index_or names (app_of e) []) h)

    one_known : app_of e < length names → m.turns < 2 ^ 63 → AreKnown names (log_of behaviour w (Happens (event_of e h.kind) ∷ []))
    one_known within few =
        let turn : h.turn ≡ (step behaviour m (machine_event e h.kind)).machine.turns = ap (λ (x : Happened). x.turn) same in
        subst (λ (log : List Item). AreKnown names log) (sym one_log)
        (record { known = (within, tt); counted = (omega (arith, turn, few_turns m e h.kind few), tt); owners = tt })

    pub one_whole : (Stands : World A → Type 0) (old new : Point) → app_of e < length names → m.turns < 2 ^ 63 → is_enabled m (machine_event e h.kind) ≡ true → IsSound h.kind → new.powers ≡ old.powers
        → RunsAlong behaviour form w (Happens (event_of e h.kind) ∷ []) old.view new.view → Stands (world_step behaviour w (event_of e h.kind))
        → Appends old.written new.written (happened_lines (slice_index_or names (app_of e) []) h)
        → IsRunOf behaviour form names (λ weather. step_events behaviour weather w e) w Stands old new
    one_whole Stands old new within few may sound powers along stands written = record {
      made = Happens (event_of e h.kind) ∷ [];
      known = one_known within few;
      told = tt;
      undamaged = (undamaged_as e h.kind sound, tt);
      powers = omega (arith, powers);
      stands = stands;
      board = along;
      written = subst (Appends old.written new.written) (sym one_text) written;
      by_weather = λ weather agree. step_is weather w e h.kind m here may agree.0;
    }

    pub one_stops : (old new : Point) → app_of e < length names → m.turns < 2 ^ 63 → is_enabled m (machine_event e h.kind) ≡ true → IsSound h.kind
        → LeavesStores form new.view (world_step behaviour w (event_of e h.kind))
        → AppendsFront (happened_lines (slice_index_or names (app_of e) []) h) old.written new.written
        → StopsIn behaviour form names (λ weather. step_events behaviour weather w e) w old new
    one_stops old new within few may sound left written = record {
      made = Happens (event_of e h.kind) ∷ [];
      known = one_known within few;
      told = tt;
      undamaged = (undamaged_as e h.kind sound, tt);
      left = left;
      text = written.0;
      cut = record {
        done = [];
        last = Happens (event_of e h.kind) ∷ [];
        few = omega arith;
        all = refl;
        cut = written.0;
        rest = written.1;
        piece = one_text ∙ written.2;
        here = refl;
      };
      written = written.3;
      by_weather = λ weather agree. ([], step_is weather w e h.kind m here may agree.0);
    }

  -- ---- turns one after the other

  turns_first : (weather : Weather) (w : World A) (app i j : ℕ) (o : Option (Machine A)) → slice_get w app ≡ o
      → happens (turned_at behaviour (weather.marks app) app i (suc j) o)
      ≡ happens (turned_at behaviour (weather.marks app) app i 1 o)
      ++ happens (turn_events behaviour (weather.marks app) (after_events behaviour w (happens (turned_at behaviour (weather.marks app) app i 1 o))) app i j)
  turns_first weather w app i j None here = sym (ap (λ o. happens (turned_at behaviour (weather.marks app) app i j o)) here)
  turns_first weather w app i j (Some m) here =
      let event : Event = event_at (weather.marks app) m i in
      ap (λ o. Happens (record { app = app; event = event }) ∷ happens (turned_at behaviour (weather.marks app) app i j o)) (sym (at_step behaviour w app m event here))

  -- so many turns are one, and then the others
  pub turns_split : (weather : Weather) (w : World A) (app i count k : ℕ) → k < count
      → happens (turn_events behaviour (weather.marks app) w app i (count - k))
      ≡ step_events behaviour weather w (events.Turn app i)
      ++ happens (turn_events behaviour (weather.marks app) (after_events behaviour w (step_events behaviour weather w (events.Turn app i))) app i (count - (k + 1)))
  turns_split weather w app i count k within =
      let fewer : count - k ≡ suc (count - (k + 1)) = omega (arith, within) in
      ap (λ n. happens (turn_events behaviour (weather.marks app) w app i n)) fewer ∙ turns_first weather w app i (count - (k + 1)) (slice_get w app) refl

  pub turns_all : (weather : Weather) (w : World A) (app i count : ℕ)
      → happens (turn_events behaviour (weather.marks app) w app i count) ≡ happens (turn_events behaviour (weather.marks app) w app i (count - 0))
  turns_all weather w app i count = let same : count ≡ count - 0 = omega arith in ap (λ n. happens (turn_events behaviour (weather.marks app) w app i n)) same

  no_turns : (weather : Weather) (app i : ℕ) (o : Option (Machine A)) → happens (turned_at behaviour (weather.marks app) app i 0 o) ≡ []
  no_turns weather app i None = refl
  no_turns weather app i (Some m) = refl

  pub turns_none : (weather : Weather) (w : World A) (app i count k : ℕ) → count ≤ k → happens (turn_events behaviour (weather.marks app) w app i (count - k)) ≡ []
  turns_none weather w app i count k all =
      let none : count - k ≡ 0 = omega (arith, all) in
      ap (λ n. happens (turn_events behaviour (weather.marks app) w app i n)) none ∙ no_turns weather app i (slice_get w app)
