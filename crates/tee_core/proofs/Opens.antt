-- The world over a board that was opened.
use Rattle.std.proofs.Common.{◌≡◌, ◌<◌, ◌≤◌, ◌+◌, ℕ, zero, suc, true, false, List, [], ◌∷◌, Option, None, Some, Result, Ok, Err}
use Rattle.std.proofs.Common.{drop, is_some, length, refl, sym, subst, ◌∙◌, ap, inl, ⊎_elim, arith}
use Rattle.std.specs.Prelude.{IfErr, slice_get}
use Rattle.app_api.specs.declared.host.Host.{Host}
use Rattle.alone.specs.Machine.{Machine, start}
use Rattle.app_side.specs.declared.side.AppSide.{AppSide}
use Rattle.board.specs.Moment.{IsLeft, Moment, CrashImage, View, WasLeft, left_since, moment}
use Rattle.board.specs.Runs.{Rests}
use Rattle.board.specs.Steps.{CallRun}
use Rattle.epoch.specs.Forms.{Form, held_in}
use Rattle.epoch.specs.Mounts.{IsOpenedTo, LeavesOpening, LeftByOpening}
use Rattle.epoch.proofs.MountLemmas.{opening_keeps}
use Rattle.epoch.specs.Opening.{opening_of}
use Rattle.object_dir.specs.Regions.{in_use, region_in}
use Rattle.region_plan.specs.Regions.{region_of}
use Rattle.store_api.specs.Stores.{Store}
use Rattle.store_api.specs.Volumes.{Held, RestsAt, VolumeKeeper}
use Rattle.tee_base.proofs.Crash.{started}
use Rattle.tee_core.specs.Opening.{IsSoundFor}
use Rattle.tee_core.specs.Represents.{HasDoubt, HoldsStores, IsLeftOf, StandFor, StoresFrom, none_kept}
use Rattle.tee_core.specs.Sides.{AreSides, turns_in}
use Rattle.tee_core.specs.World.{starts_from, world_of}

-- ---- machines at their start

-- the regions stand for the stores over which they begin
pub stores_started : {A : Type 0} (r : ℕ) (hosts : List (Host A)) (seed : List ℕ) (stores : ℕ → Store) (held : Held) →
    ((app : ℕ) → app < r + length hosts → region_in app held ≡ Ok (stores app)) → StoresFrom none_kept r (starts_from r hosts seed stores) held
stores_started r [] seed stores held stand = tt
stores_started r (host ∷ hosts) seed stores held stand = (stand r (omega arith), stores_started (r + 1) hosts seed stores held (λ app lt. stand app (omega (arith, lt))))

-- none has a change in doubt
pub none_started : {A : Type 0} (r owner : ℕ) (hosts : List (Host A)) (seed : List ℕ) (stores : ℕ → Store) → HasDoubt owner (starts_from r hosts seed stores) → ⊥
none_started r owner [] seed stores has = absurd (let e : None ≡ Some has.machine = has.there in cc)
none_started {A} r zero (host ∷ hosts) seed stores has =
    let is : start host r seed (stores r) ≡ has.machine = let e : Some (start host r seed (stores r)) ≡ Some has.machine = has.there in cc in
    absurd (let e : false ≡ true = ap (λ (x : Machine A). is_some x.in_doubt) is ∙ has.doubt in cc)
none_started r (suc owner) (host ∷ hosts) seed stores has = none_started (r + 1) owner hosts seed stores (record { machine = has.machine; there = has.there; doubt = has.doubt })

-- none has made a turn
pub turns_started : {A : Type 0} (r : ℕ) (hosts : List (Host A)) (seed : List ℕ) (stores : ℕ → Store) (ss : List (AppSide A)) → AreSides ss (starts_from r hosts seed stores) →
    (app : ℕ) → turns_in (slice_get ss app) ≡ 0
turns_started r [] seed stores [] are app = refl
turns_started r [] seed stores (s ∷ ss) are app = absurd are
turns_started r (host ∷ hosts) seed stores [] are app = absurd are
turns_started {A} r (host ∷ hosts) seed stores (s ∷ ss) are zero = sym (ap (λ (x : Machine A). x.turns) are.0.parts)
turns_started r (host ∷ hosts) seed stores (s ∷ ss) are (suc app) = turns_started (r + 1) hosts seed stores ss are.1 app

-- ---- what is held then

module _ {V A : Type 0} (K : VolumeKeeper V) (rests : (v : V) → K.honest v → (K.condition v).lost ≡ false → RestsAt K v (K.held v))
    (f : Form) (view : View) (n : ℕ) (h : Held) (hosts : List (Host A)) (seed : List ℕ) (stores : ℕ → Store)
    (sound : IsSoundFor f view n h (length hosts) stores) (after : Held) (makes : IsOpenedTo f view h after) where
  same_region : (app : ℕ) → region_in app after ≡ region_in app h
  same_region app = ap (λ (leaves : ℕ → ℕ → List ℕ). region_of in_use (leaves app)) (opening_keeps f (opening_of f.known view.key view.state.reads view.state.counter) h after makes)

  stores_after : HoldsStores none_kept (world_of hosts seed stores) after
  stores_after = stores_started 0 hosts seed stores after (λ app lt. same_region app ∙ sound.stand app (omega (arith, lt)))

  -- the world begins over what was opened
  pub stand_opened : (sides : List (AppSide A)) (volume : V) → AreSides sides (world_of hosts seed stores) → K.honest volume → K.held volume ≡ after →
      (K.condition volume).lost ≡ false
      → StandFor K sides volume (world_of hosts seed stores)
  stand_opened sides volume are honest held works =
      let whole = subst (λ (x : Held). HoldsStores none_kept (world_of hosts seed stores) x) (sym held) stores_after in
      record {
        honest = honest;
        sides_are = are;
        stores = whole;
        left = λ o was. subst (λ (x : Option Held). IsLeftOf (world_of hosts seed stores) (K.held volume).sequence x) (sym ((rests volume honest works).only o was)) (inl (refl, whole));
        calm = λ _ one has. none_started 0 one hosts seed stores has;
        single = λ one other first second. absurd (none_started 0 one hosts seed stores first);
      }

-- ---- a board that is handed back as it was

-- no crash before now was at this moment or later
none_now : (past : List Moment) (t : ℕ) (c : CrashImage) → length past ≤ t → WasLeft past t c → ⊥
none_now [] t c late was = was
none_now (m ∷ past) t c late was =
    ⊎_elim (λ (h : (t ≤ length past) × IsLeft m c). absurd (let x = h.0 in omega arith)) (λ (w : WasLeft past t c). none_now past t c (omega arith) w) was

-- no call of it was made
pub run_of_none : (view : View) → CallRun true view view
run_of_none view = record {
  size = refl;
  key = refl;
  orders = refl;
  ordered = refl;
  faults = omega arith;
  cause = λ fails. absurd (let e : true ≡ false = fails in cc);
  steady = λ made. refl;
  unset = λ none. none;
}

-- a crash leaves what it holds
pub leaves_resting : (f : Form) (view : View) (n : ℕ) (h : Held) → Rests n view.state → held_in f view.key view.state.reads n ≡ Some h → LeavesOpening f h view view
leaves_resting f view n h rests is =
    started moment left_since view (LeftByOpening f h view) (λ c was.
    let left : IsLeft view.state c = ⊎_elim (λ (x : IsLeft view.state c). x) (λ (w : WasLeft view.past (moment view) c). absurd (none_now view.past (moment view) c (omega arith) w)) was in
    let image : (k : ℕ) → c.image k ≡ view.state.reads k = λ k. left.kept k (rests.pending k) ∙ sym (rests.as_read k) in
    let whole : c.image ≡ view.state.reads = λ i k. image k i in
    let counter : c.counter ≡ n = omega (arith, left.counter.least, left.counter.greatest, rests.counter, rests.slack) in
    inl (ap (held_in f view.key c.image) counter ∙ ap (λ (g : ℕ → List ℕ). held_in f view.key g n) whole ∙ is))

-- ---- lists and results

-- a list that loses nothing with its first element has none
pub none_left : {X : Type 0} (xs : List X) → xs ≡ drop 1 xs → xs ≡ []
none_left [] same = refl
none_left {X} (x ∷ xs) same =
    let fewer : length (x ∷ xs) ≡ length xs = ap (λ (ys : List X). length ys) same in
    absurd (omega (arith, fewer))

-- what is known of an error is so of what ends in it
pub told_err : {A E : Type 0} (r : Result A E) (e : E) (P : E → Type 0) → r ≡ Err e → P e → IfErr r P
told_err {A} {E} r e P is known = subst (λ (x : Result A E). IfErr x P) (sym is) known
