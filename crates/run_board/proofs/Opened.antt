-- The board at the beginning of a run: before it is opened, and as its opening leaves it.
use Rattle.app_api.specs.Behaviours.{Behaviour}
use Rattle.std.proofs.Common.{ℕ, ◌≡◌, ◌<◌, Bool, List, [], Some, Ok, inl, inr, length, refl, sym, subst, ◌∙◌, ap, arith}
use Rattle.app_api.specs.declared.host.Host.{Host}
use Rattle.board.specs.Moment.{CrashImage, Moment, View}
use Rattle.board.specs.Steps.{CallRun}
use Rattle.epoch.specs.Forms.{Form, held_in, held_of}
use Rattle.epoch.specs.Mounts.{IsOpenedTo, LeavesOpening, LeftByOpening}
use Rattle.epoch.proofs.MountLemmas.{opening_keeps}
use Rattle.epoch.specs.Opening.{opening_of}
use Rattle.object_dir.specs.Regions.{in_use, region_in}
use Rattle.region_plan.specs.Regions.{region_of}
use Rattle.store_api.specs.Stores.{Store}
use Rattle.store_api.specs.Volumes.{Held}
use Rattle.tee_core.specs.Represents.{HasStoresOf, HoldsStores, none_kept}
use Rattle.tee_core.specs.World.{World, world_of}
use Rattle.tee_core.proofs.Opens.{stores_started}
use Rattle.run_board.specs.Boards.{BeginsWith, GoesAlong, HasFirstOrders, HasOrders, IsSpan, LeavesStores, RunsAlong, orders_of}
use Rattle.run_board.specs.Parts.{IsRefusedIn, IsRunOf, Point, point}
use Rattle.run_board.specs.Transcript.{Weather, WorldEvent, events_of}
use Rattle.run_board.proofs.Parts.{board_both}
use Rattle.script.specs.declared.line.Line.{Line}

along_calls : {A : Type 0} (behaviour : Behaviour A) (form : Form) (key : List ℕ) (w : World A) (old new : Moment) → IsSpan 0 old new
    → GoesAlong behaviour form key old 0 w [] [] new
unfolding GoesAlong
along_calls behaviour form key w old new span = span

-- calls of an opening have no order among them, and no event
pub along_opened : {A : Type 0} (behaviour : Behaviour A) (form : Form) (w : World A) (ok : Bool) (old new : View) → CallRun ok old new → RunsAlong behaviour form w [] old new
along_opened behaviour form w ok old new run = record {
  size = run.size;
  key = run.key;
  made = [];
  ordered = run.ordered;
  along = along_calls behaviour form old.key w old.state new.state (record { orders = run.orders; later = run.faults; faults = inl (omega (arith, run.faults)) });
}

pub orders_opened : (ok : Bool) (old new : View) → CallRun ok old new → HasOrders [] old new
orders_opened ok old new run = record {
  size = run.size;
  key = run.key;
  orders = run.orders;
  made = [];
  numbered = refl;
  ordered = run.ordered;
  later = run.faults;
}

-- none of the lines was run
pub first_orders_none : (script : List Line) (old new : View) → HasOrders [] old new → HasFirstOrders script old new
first_orders_none script old new h = ([], orders_of script, refl, h)

-- what is held has the stores of the machines at their start
pub starts_over : {A : Type 0} (hosts : List (Host A)) (seed : List ℕ) (stores : ℕ → Store) (h : Held) → ((app : ℕ) → app < length hosts → region_in app h ≡ Ok (stores app)) →
    HoldsStores none_kept (world_of hosts seed stores) h
starts_over hosts seed stores h stand = stores_started 0 hosts seed stores h (λ app lt. stand app (omega (arith, lt)))

module _ {A : Type 0} (form : Form) (hosts : List (Host A)) (seed : List ℕ) (stores : ℕ → Store) (old : View) (begins : BeginsWith form old (length hosts) stores) where
  abbrev begin : World A
  begin = world_of hosts seed stores

  -- a board at rest leaves what it holds
  pub begin_leaves : LeavesStores form old begin
  begin_leaves = λ c left.
      let rests = begins.rests in
      let image : (k : ℕ) → c.image k ≡ old.state.reads k = λ k. left.kept k (rests.pending k) ∙ sym (rests.as_read k) in
      let whole : c.image ≡ old.state.reads = λ i k. image k i in
      let counter : c.counter ≡ begins.counter = omega (arith, left.counter.least, left.counter.greatest, rests.counter, rests.slack) in
      let holds : held_of form old.key c ≡ Some begins.held = ap (held_in form old.key c.image) counter ∙ ap (λ (g : ℕ → List ℕ). held_in form old.key g begins.counter) whole ∙ begins.sound.opens in
      subst (HasStoresOf begin) (sym holds) (inl (starts_over hosts seed stores begins.held begins.sound.stand))

  -- what an opening makes of it has the same stores
  made_stores : (after : Held) → IsOpenedTo form old begins.held after → HasStoresOf begin (Some after)
  made_stores after makes =
      let leaves = opening_keeps form (opening_of form.known old.key old.state.reads old.state.counter) begins.held after makes in
      inl (starts_over hosts seed stores after (λ app lt. ap (λ (l : ℕ → ℕ → List ℕ). region_of in_use (l app)) leaves ∙ begins.sound.stand app lt))

  held_stores : (c : CrashImage) → LeftByOpening form begins.held old c → HasStoresOf begin (held_of form old.key c)
  held_stores c (inl is) = subst (HasStoresOf begin) (sym is) (inl (starts_over hosts seed stores begins.held begins.sound.stand))
  held_stores c (inr made) = subst (HasStoresOf begin) (sym made.1) (made_stores made.0 made.2)

  -- within an opening a crash leaves what was held, or that once it is formatted
  pub opening_leaves : (new : View) → new.key ≡ old.key → LeavesOpening form begins.held old new → LeavesStores form new begin
  opening_leaves new key leaves = λ c left.
      subst (λ k. HasStoresOf begin (held_of form k c)) (sym key) (held_stores c (leaves.each c (inl left)))

-- a run after calls of the board without an order
module _ {A : Type 0} (behaviour : Behaviour A) (form : Form) (names : List (List ℕ)) where
  pub run_behind : (events : Weather → List WorldEvent) (world : World A) (Stands : World A → Type 0) (start : View) (old new : Point) → RunsAlong behaviour form world [] start old.view
      → IsRunOf behaviour form names events world Stands old new → IsRunOf behaviour form names events world Stands (point old.powers start old.written) new
  run_behind events world Stands start old new opened run = record {
    made = run.made;
    known = run.known;
    told = run.told;
    undamaged = run.undamaged;
    powers = run.powers;
    stands = run.stands;
    board = board_both behaviour form world start old.view [] run.made new.view opened run.board;
    written = run.written;
    by_weather = run.by_weather;
  }

  pub refused_behind : (script : List Line) (world : World A) (start : View) (old new : Point) → RunsAlong behaviour form world [] start old.view
      → IsRefusedIn behaviour form names script world old new → IsRefusedIn behaviour form names script world (point old.powers start old.written) new
  refused_behind script world start old new opened part = record {
    front = part.front;
    pick = part.pick;
    behind = part.behind;
    split = part.split;
    between = part.between;
    run = run_behind (λ weather. events_of behaviour weather world part.front) world (LeavesStores form new.view) start old part.between opened part.run;
    order = part.order;
    failed = part.failed;
    written = part.written;
  }
