-- A board of zeros begins with empty stores.
use Rattle.std.proofs.Common.{◌≡◌, ◌≤◌, ◌<◌, ◌∙◌, ℕ, true, false, List, nat_lt, refl, ap, ap₂, Ok, Some, replicate, subst, arith}
use Rattle.std.proofs.lemmas.Bool.Decides.{nat_tests}
use Rattle.tee_base.specs.declared.limits.TheConstants.{BLOCK_BYTES, BOARD_BLOCKS, LEAVES, MAX_HOSTS}
use Rattle.board.specs.Moment.{View}
use Rattle.board.specs.Runs.{Rests}
use Rattle.epoch.specs.Forms.{Form, blank_leaves, held_in, held_by}
use Rattle.epoch.specs.Gates.{gate_at, gate_open}
use Rattle.epoch.specs.Opening.{opening_by, opening_of}
use Rattle.epoch.specs.Slots.{slot_of}
use Rattle.epoch.specs.declared.slots.Slot.{Slot}
use Rattle.epoch.specs.declared.slots.Slot.TheVariants.{Shut}
use Rattle.region_plan.specs.Laws.{IsBlank}
use Rattle.object_dir.specs.Regions.{in_use}
use Rattle.object_dir.proofs.UseLemmas.{leaves_are}
use Rattle.region_plan.specs.Regions.{region_of}
use Rattle.store_api.specs.Stores.{empty_store}
use Rattle.tee_core.specs.InUse.{form_in_use}
use Rattle.run_board.specs.Boards.{BeginsWith}

not_open : gate_open (replicate BLOCK_BYTES 0) ≡ false
unfolding gate_open
not_open = refl

shut : (key : List ℕ) (image : ℕ → List ℕ) (slot : ℕ) → image (gate_at slot) ≡ replicate BLOCK_BYTES 0 → slot_of key image slot ≡ Shut
unfolding slot_of
shut key image slot zero = let closed : gate_open (image (gate_at slot)) ≡ false = ap gate_open zero ∙ not_open in rw closed refl

opens : (f : Form) (key : List ℕ) (image : ℕ → List ℕ) → image 0 ≡ replicate BLOCK_BYTES 0 → image 2 ≡ replicate BLOCK_BYTES 0
    → held_in f key image 0 ≡ Some (record { leaves = blank_leaves f.leaves; sequence = 0; version = f.version })
unfolding held_in opening_of
opens f key image first second =
    let one : slot_of key image 0 ≡ Shut = shut key image 0 first in
    let two : slot_of key image 1 ≡ Shut = shut key image 1 second in
    ap (held_by f key image) (ap₂ (λ (a b : Slot). opening_by f.known a b 0) one two)

blank : (app : ℕ) → app < MAX_HOSTS → IsBlank in_use (blank_leaves LEAVES app)
unfolding blank_leaves
blank app low i few =
    let one : nat_lt app MAX_HOSTS ≡ true = grind (arith, nat_tests) in
    let below : i < LEAVES = subst (λ (n : ℕ). i < n) leaves_are few in
    let two : nat_lt i LEAVES ≡ true = grind (arith, nat_tests, below) in
    rw (one, two) refl

pub begins : ((leaves : ℕ → List ℕ) → IsBlank in_use leaves → region_of in_use leaves ≡ Ok empty_store) → (view : View) (hosts : ℕ) → Rests 0 view.state → BOARD_BLOCKS ≤ view.size
    → ((k : ℕ) → k < BOARD_BLOCKS → view.state.reads k ≡ replicate BLOCK_BYTES 0) → hosts ≤ MAX_HOSTS → BeginsWith form_in_use view hosts (λ app. empty_store)
begins law view hosts rests size zero few = record {
  counter = 0;
  rests = rests;
  size = size;
  held = record { leaves = blank_leaves form_in_use.leaves; sequence = 0; version = form_in_use.version };
  sound = record {
    opens = opens form_in_use view.key view.state.reads (zero 0 (omega arith)) (zero 2 (omega arith));
    stand = λ app below. law (blank_leaves LEAVES app) (blank app (omega (arith, below, few)));
  };
}
