-- What a call of the board in memory makes of its view, by what its schedule and its disk did.
use Rattle.std.proofs.Common.{◌≡◌, ◌≤◌, ◌<◌, ◌+◌, ◌-◌, ◌^◌, ◌&&◌, ℕ, Bool, true, false, cond, List, ◌∷◌, map, Result, Ok, Err, is_ok}
use Rattle.std.proofs.Common.{inl, inr, ⊎_elim, refl, sym, ap, subst, ◌∙◌, arith}
use Rattle.std.proofs.lemmas.Bool.{cases_lt}
use Rattle.tee_base.specs.Faults.{Rose}
use Rattle.board.specs.declared.BoardFailed.{BoardFailed}
use Rattle.board.specs.declared.fuse.Fate.{Fate}
use Rattle.board.specs.declared.fuse.Fate.TheVariants.{Pass, Interrupt, Refuse}
use Rattle.board.specs.Fuse.{fuse_after_call, fate_by, passes, is_refused}
use Rattle.board.specs.Moment.{Moment, View}
use Rattle.board.specs.Steps.{up_to_limit, Called, Answered, Unchanged, Counted, Synced, Powered}
use Rattle.boards.specs.Disk.{state_of}
use Rattle.boards.specs.Memory.{Memory, IsExact, fate_of, next_fate}
use Rattle.boards.specs.declared.disk.Disk.{Disk}

-- a call that the fuse stops stays stopped, whether it is named or not
stays_stopped : (named : Bool) (f : Fate) → passes f ≡ false → passes (fate_of named f) ≡ false
stays_stopped named Pass e = absurd (cc)
stays_stopped named Interrupt e = refl
stays_stopped named Refuse e = refl

stays_refused : (named : Bool) (f : Fate) → is_refused f ≡ true → is_refused (fate_of named f) ≡ true
stays_refused named Pass e = absurd (cc)
stays_refused named Interrupt e = absurd (cc)
stays_refused named Refuse e = refl

-- what is refused doesn't pass
pub refused_stops : (f : Fate) → is_refused f ≡ true → passes f ≡ false
refused_stops Pass e = absurd (cc)
refused_stops Interrupt e = absurd (cc)
refused_stops Refuse e = refl

-- the count of faults after a call
later : (ok : Bool) (n m : ℕ) → n < 2 ^ 64 → m ≡ cond ok n (up_to_limit (n + 1)) → n ≤ m
later true n m small is = omega arith
later false n m small is = omega arith

rose : (n m : ℕ) → m ≡ up_to_limit (n + 1) → Rose n m
rose n m is = ⊎_elim (λ (h : n < 2 ^ 64 - 1). inl (omega arith)) (λ (h : 2 ^ 64 - 1 ≤ n). inr (omega arith)) (cases_lt n (2 ^ 64 - 1))

-- the same count, where the call is Ok exactly where it passes
pub counted_so : (ok passed : Bool) (n m k : ℕ) → ok ≡ passed → m ≡ cond passed n k → m ≡ cond ok n k
counted_so ok passed n m k same is = is ∙ ap (λ b. cond b n k) (sym same)

pub called : (ok named : Bool) (fate : Fate) (old new : View) → fate ≡ fate_of named (fate_by old.fuse) → (passes fate ≡ false → ok ≡ false) → old.state.faults < 2 ^ 64
    → new.size ≡ old.size → new.key ≡ old.key → new.state.orders ≡ old.state.orders → new.ordered ≡ old.ordered
    → new.state.faults ≡ cond ok old.state.faults (up_to_limit (old.state.faults + 1)) → new.fuse ≡ fuse_after_call old.fuse → Called ok old new
called ok named fate old new decided stops small size key orders ordered faults fuse = record {
  size = size;
  key = key;
  orders = orders;
  ordered = ordered;
  faults = later ok old.state.faults new.state.faults small faults;
  cause = λ failed. rose old.state.faults new.state.faults (faults ∙ ap (λ b. cond b old.state.faults (up_to_limit (old.state.faults + 1))) failed);
  steady = λ made. faults ∙ ap (λ b. cond b old.state.faults (up_to_limit (old.state.faults + 1))) made;
  fuse = fuse;
  stopped = λ blown. stops (ap passes decided ∙ stays_stopped named (fate_by old.fuse) blown);
}

pub answered : (named : Bool) (fate : Fate) (old new : View) → fate ≡ fate_of named (fate_by old.fuse) → new.past ≡ old.state ∷ old.past
    → (is_refused fate ≡ true → Unchanged old.state new.state) → Answered old new
answered named fate old new decided past refused = record {
  time = record { past = past };
  refused = λ blown. refused (ap is_refused decided ∙ stays_refused named (fate_by old.fuse) blown);
}

-- the moments after one more disk
pub one_more : (disks disks' : List Disk) (d : Disk) → disks' ≡ d ∷ disks → map state_of disks' ≡ state_of d ∷ map state_of disks
one_more disks disks' d is = ap (λ (ds : List Disk). map state_of ds) is

-- a call that didn't pass leaves the disk as it is
pub counted_stopped : (result : Result ℕ BoardFailed) (old new : Moment) → is_ok result ≡ false → Counted result old new → Unchanged old new
counted_stopped (Ok n) old new e counted = absurd (cc)
counted_stopped (Err _) old new e counted = record {
  reads = counted.blocks.reads;
  durable = counted.blocks.durable;
  pending = counted.blocks.pending;
  counter = counted.counter.0;
  slack = counted.counter.1;
}

pub synced_stopped : (ok : Bool) (old new : Moment) → ok ≡ false → Synced ok old new → Unchanged old new
synced_stopped ok old new e synced = record {
  reads = synced.reads;
  durable = synced.failed_durable e;
  pending = synced.failed_pending e;
  counter = synced.counter;
  slack = synced.slack;
}

and_true : (b : Bool) → b ≡ (b && true)
and_true true = refl
and_true false = refl

pub exact : (possible ok : Bool) (fate : Fate) (old new : Memory) → fate ≡ next_fate old → ok ≡ (passes fate && possible)
    → new.view.state.faults ≡ cond ok old.view.state.faults (up_to_limit (old.view.state.faults + 1)) → new.calls ≡ up_to_limit (old.calls + 1)
    → new.failing ≡ old.failing → IsExact possible ok old new
exact possible ok fate old new decided told faults calls failing = record {
  passed = told ∙ ap (λ (f : Fate). passes f && possible) decided;
  faults = faults;
  calls = calls;
  failing = failing;
}

-- the same where each call is possible
pub exact_always : (ok : Bool) (fate : Fate) (old new : Memory) → fate ≡ next_fate old → ok ≡ passes fate
    → new.view.state.faults ≡ cond ok old.view.state.faults (up_to_limit (old.view.state.faults + 1)) → new.calls ≡ up_to_limit (old.calls + 1)
    → new.failing ≡ old.failing → IsExact true ok old new
exact_always ok fate old new decided told = exact true ok fate old new decided (told ∙ and_true (passes fate))

-- an order is no call: it counts itself, and leaves the disk as it is
module _ (n : ℕ) (old new : Disk) (is : new ≡ record old { orders = n }) where
  pub order_unchanged : Unchanged (state_of old) (state_of new)
  order_unchanged = subst (λ (d : Disk). Unchanged (state_of old) (state_of d)) (sym is) (record { reads = refl; durable = refl; pending = refl; counter = refl; slack = refl })

  pub order_powered : (first : Moment) → Powered first (state_of old) → Powered first (state_of new)
  order_powered first powered = subst (λ (d : Disk). Powered first (state_of d)) (sym is) (record {
    left = powered.left;
    may = powered.may;
    reads = powered.reads;
    durable = powered.durable;
    pending = powered.pending;
    counter = powered.counter;
    slack = powered.slack;
  })
