-- What calls that write no block leave of what no crash could change, and what that makes of the leaves of a root.
use Rattle.std.proofs.Common.{◌≡◌, ◌≢◌, ◌+◌, ◌∙◌, ℕ, Bool, true, false, List, refl, sym, ap, arith}
use Rattle.board.specs.Moment.{IsConsistent, Moment, View}
use Rattle.board.specs.Steps.{Powered, SameBlocks, Synced, Unchanged, Wrote}
use Rattle.board.specs.Runs.{RunsOver}
use Rattle.board.proofs.Runs.{run_starts}
use Rattle.epoch.specs.Commits.{IsSteady, StaysSettled}
use Rattle.epoch.specs.Finding.{IsSettledAt}
use Rattle.epoch.specs.Forms.{Form, IsFramed, Root, leaves_of}
use Rattle.epoch.specs.Steps.{IsFlipped, SyncedBut}
use Rattle.epoch.proofs.CommitLemmas.{leaves_same}

at : {A : Type 0} {f g : ℕ → A} → f ≡ g → (k : ℕ) → f k ≡ g k
at {A} same k = ap (λ (h : ℕ → A). h k) same

pub settled_blocks : (old new : Moment) → SameBlocks old new → StaysSettled old new
settled_blocks old new same k was = (at same.reads k, at same.pending k ∙ was)

pub settled_unchanged : (old new : Moment) → Unchanged old new → StaysSettled old new
settled_unchanged old new same k was = (at same.reads k, at same.pending k ∙ was)

pub settled_sync : (ok : Bool) (old new : Moment) → Synced ok old new → StaysSettled old new
settled_sync true old new synced k was = (at synced.reads k, synced.settled refl k)
settled_sync false old new synced k was = (at synced.reads k, at (synced.failed_pending refl) k ∙ was)

-- a power chooses only among what is pending
pub settled_power : (old : View) (new : Moment) → IsConsistent old → Powered old.state new → StaysSettled old.state new
settled_power old new is powered k was = (powered.reads k ∙ powered.may.kept k was ∙ sym (is.as_read k was), powered.pending k)

-- one call after another
pub settled_on : (first mid last : Moment) → StaysSettled first mid → StaysSettled mid last → StaysSettled first last
settled_on first mid last one two k was =
    let x = one k was in
    let y = two k x.1 in
    (y.0 ∙ x.0, y.1)

-- a write leaves the other blocks
pub settled_wrote : (block place : ℕ) (bytes : List ℕ) (ok : Bool) (old new : Moment) → block ≡ place → Wrote block bytes ok old new
    → (k : ℕ) → k ≢ place → old.pending k ≡ false → new.pending k ≡ false
settled_wrote block place bytes ok old new is wrote k ne was = wrote.pending k (λ e. ne (e ∙ is)) ∙ was

module _ (f : Form) (key : List ℕ) (root : Root) where
  -- where nothing is pending
  pub steady_rests : (m : Moment) → ((k : ℕ) → m.pending k ≡ false) → IsSteady f key root m
  steady_rests m pending = record { base = m.reads; same = λ k used. refl; pending = λ k used. pending k }

  pub steady_stays : (old new : Moment) → StaysSettled old new → IsSteady f key root old → IsSteady f key root new
  steady_stays old new stays is = record {
    base = is.base;
    same = λ k used. (stays k (is.pending k used)).0 ∙ is.same k used;
    pending = λ k used. (stays k (is.pending k used)).1;
  }

  -- the leaves are the same
  pub steady_leaves : IsFramed f → (old new : Moment) → StaysSettled old new → IsSteady f key root old → leaves_of f key new.reads root ≡ leaves_of f key old.reads root
  unfolding steady_stays
  steady_leaves framed old new stays is =
      leaves_same f framed key root is.base new.reads (steady_stays old new stays is).same ∙ sym (leaves_same f framed key root is.base old.reads is.same)

-- a counter that is settled, over a run that may write each block
pub settled_starts : (n : ℕ) (v : View) → IsSettledAt n v.state → RunsOver (λ k. true) v.state.reads n n v v
settled_starts n v settled = run_starts (λ k. true) v.state.reads n n v (record {
  reads = λ k shut. refl;
  durable = λ k shut. absurd (let f : true ≡ false = shut in cc);
  pending = λ k shut. absurd (let f : true ≡ false = shut in cc);
  least = omega (arith, settled.counter);
  greatest = omega (arith, settled.counter, settled.slack);
})

pub settled_run : (n : ℕ) (base : ℕ → List ℕ) (first v : View) → RunsOver (λ k. true) base n n first v → IsSettledAt n v.state
settled_run n base first v run = record {
  counter = omega (arith, run.now.least, run.now.greatest);
  slack = omega (arith, run.now.least, run.now.greatest);
}

-- over the steps of a commit
pub settled_synced : (n block : ℕ) (old new : Moment) → SyncedBut block old new → IsSettledAt n old → IsSettledAt n new
settled_synced n block old new synced settled = record { counter = synced.counter ∙ settled.counter; slack = synced.slack ∙ settled.slack }

pub settled_flipped : (n slot m : ℕ) (old new : Moment) → IsFlipped slot m old new → IsSettledAt n old → IsSettledAt (n + 1) new
settled_flipped n slot m old new flipped settled = record {
  counter = omega (arith, flipped.positive, flipped.among.least, flipped.among.greatest, flipped.rests.counter, settled.counter, settled.slack);
  slack = flipped.rests.slack;
}
