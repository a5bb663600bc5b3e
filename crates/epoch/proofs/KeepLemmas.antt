-- What a volume that is open keeps while its board is read, over the form of its leaves, and what its calls answer.
use Rattle.std.proofs.Common.{◌≡◌, ◌≢◌, ◌≤◌, ◌<◌, ◌-◌, ◌^◌, ◌⊎◌, ◌∙◌, not, ℕ, Bool, true, false, List, ◌∷◌, Option, Some, None}
use Rattle.std.proofs.Common.{Result, Ok, Err, nat_lt, refl, sym, ap, subst, inl, ⊎_elim, arith}
use Rattle.std.proofs.lemmas.Bool.Decides.{nat_tests}
use Rattle.tee_base.specs.Crash.{LeavesOnly, read_as}
use Rattle.tee_base.specs.Faults.{Rose}
use Rattle.tee_base.specs.declared.limits.TheConstants.{MAX_HOSTS}
use Rattle.tee_base.proofs.Crash.{joined, weaker}
use Rattle.store_api.specs.declared.answer.Mismatch.{Mismatch}
use Rattle.store_api.specs.declared.leaves.Leaf.{Leaf}
use Rattle.store_api.specs.declared.leaves.LeafAnswer.{LeafAnswer}
use Rattle.store_api.specs.declared.leaves.LeafAnswer.TheVariants as answers
use Rattle.store_api.specs.Foundations.{Foundation}
use Rattle.store_api.specs.Volumes.{Condition, Held, IfMismatch, IfUnwritten, IsUndamaged, IsVolumeCall, LeafCause, LeftByCommit, ShowsLeaf, UnlessFailed, VolumeKeeper, after_commit}
use Rattle.board.specs.Moment.{Moment, CrashImage, View, IsLeft, moment, left_since}
use Rattle.board.specs.declared.BoardFailed.{BoardFailed}
use Rattle.board.specs.Runs.{LeavesBase, Rests}
use Rattle.board.specs.Steps.{Advanced, CallRun, Passes, SameBlocks, Unchanged}
use Rattle.board.proofs.Runs.{goes_on, starts}
use Rattle.epoch.specs.Commits.{BeforeOrAfter, IsMounted, IsSteady, StaysSettled}
use Rattle.epoch.specs.Forms.{Form, IsFramed, Root, held_of, is_leaf, leaves_of}
use Rattle.epoch.specs.Keeping.{Exhausts, IsInUse, held_now}
use Rattle.epoch.specs.Opening.{opening_of}
use Rattle.epoch.specs.Past.{KeepsPast}
use Rattle.epoch.specs.Reading.{OnlyReads, is_failure}
use Rattle.epoch.proofs.CommitLemmas.{held_before}
use Rattle.epoch.proofs.RunLemmas.{rest_starts}
use Rattle.epoch.proofs.SettledLemmas.{settled_blocks, settled_unchanged, steady_leaves, steady_rests, steady_stays}

at : {A : Type 0} {f g : ℕ → A} → f ≡ g → (k : ℕ) → f k ≡ g k
at {A} same k = ap (λ (h : ℕ → A). h k) same

-- there is a leaf of these numbers
pub leaf_is : (leaves region leaf : ℕ) → region < MAX_HOSTS → leaf < leaves → is_leaf leaves region leaf ≡ true
leaf_is leaves region leaf r l =
    let one : nat_lt region MAX_HOSTS ≡ true = grind (arith, nat_tests) in
    let two : nat_lt leaf leaves ≡ true = grind (arith, nat_tests) in
    rw (one, two) refl

module _ (f : Form) (framed : IsFramed f) where
  -- the same key and the same reads hold the same
  pub held_same : (old new : View) (root : Root) (sequence : ℕ) → new.key ≡ old.key → new.state.reads ≡ old.state.reads
      → held_now f new root sequence ≡ held_now f old root sequence
  held_same old new root sequence key reads =
      let leaves : leaves_of f new.key new.state.reads root ≡ leaves_of f old.key old.state.reads root = rw (key, reads) refl in
      λ i. record { leaves = leaves i; sequence = sequence; version = root.version }

  -- a board that is only read stays mounted
  pub in_use_same : (old new : View) (root : Root) (sequence : ℕ) → new.key ≡ old.key → Unchanged old.state new.state → IsInUse f old root sequence → IsInUse f new root sequence
  in_use_same old new root sequence key same is =
      let rests = is.rests in
      let reads = same.reads in
      record {
        rests = record {
          as_read = λ k. at reads k ∙ rests.as_read k ∙ sym (at same.durable k);
          pending = λ k. at same.pending k ∙ rests.pending k;
          counter = same.counter ∙ rests.counter;
          slack = same.slack ∙ rests.slack;
        };
        opens = rw (key, reads) is.opens;
        sealed = rw (key, reads) is.sealed;
        leaves = refl;
        version = refl;
      }

  -- a root stays steady while no block that no crash could change is written
  pub steady_same : (old new : View) (root : Root) → new.key ≡ old.key → StaysSettled old.state new.state → IsSteady f old.key root old.state → IsSteady f new.key root new.state
  steady_same old new root key stays is =
      subst (λ (k : List ℕ). IsSteady f k root new.state) (sym key) (steady_stays f old.key root old.state new.state stays is)

  -- and holds the same
  pub held_steady : (old new : View) (root : Root) (sequence : ℕ) → new.key ≡ old.key → StaysSettled old.state new.state → IsSteady f old.key root old.state
      → held_now f new root sequence ≡ held_now f old root sequence
  held_steady old new root sequence key stays is =
      let leaves : leaves_of f new.key new.state.reads root ≡ leaves_of f old.key old.state.reads root
      = ap (λ (k : List ℕ). leaves_of f k new.state.reads root) key ∙ steady_leaves f old.key root framed old.state new.state stays is in
      λ i. record { leaves = leaves i; sequence = sequence; version = root.version }

  -- the root of a volume that is open is steady
  pub steady_in_use : (view : View) (root : Root) (sequence : ℕ) → IsInUse f view root sequence → IsSteady f view.key root view.state
  steady_in_use view root sequence is = steady_rests f view.key root view.state is.rests.pending

  pub steady_read : (old new : View) (root : Root) → new.key ≡ old.key → Unchanged old.state new.state → IsSteady f old.key root old.state → IsSteady f new.key root new.state
  steady_read old new root key same is = steady_same old new root key (settled_unchanged old.state new.state same) is

  -- what a crash leaves while the board is only read
  pub reads_crash : (old new : View) (root : Root) (sequence : ℕ) → IsInUse f old root sequence → OnlyReads old new
      → LeavesOnly moment left_since old new (λ c. held_of f old.key c ≡ Some (held_now f old root sequence))
  reads_crash old new root sequence is only =
      let rests = is.rests in
      let run = only.run (λ k. false) old.state.reads sequence sequence old (rest_starts sequence old rests (λ k. false)) in
      weaker moment left_since old new (LeavesBase (λ k. false) old.state.reads sequence sequence) (λ c. held_of f old.key c ≡ Some (held_now f old root sequence))
      (λ c left.
      let image : c.image ≡ old.state.reads = λ i k. left.image k refl i in
      let counter : c.counter ≡ sequence = omega (arith, left.least, left.greatest) in
      held_before f framed old.key root (held_now f old root sequence) old.state c.image c.counter is
      (ap (opening_of f.known old.key c.image) counter ∙ ap (λ (g : ℕ → List ℕ). opening_of f.known old.key g sequence) image)
      (λ k used. left.image k refl))
      run.leaves

  -- the same under the key after it
  pub crash_read : (old new : View) (root : Root) (sequence : ℕ) → IsInUse f old root sequence → new.key ≡ old.key → OnlyReads old new
      → LeavesOnly moment left_since old new (λ c. held_of f new.key c ≡ Some (held_now f old root sequence))
  crash_read old new root sequence is key only =
      subst (λ (k : List ℕ). LeavesOnly moment left_since old new (λ c. held_of f k c ≡ Some (held_now f old root sequence))) (sym key)
      (reads_crash old new root sequence is only)

  -- a board that is mounted holds this under its root
  pub leaves_held : (view : View) (key : List ℕ) (root : Root) (h : Held) → view.key ≡ key → leaves_of f key view.state.reads root ≡ h.leaves → h.version ≡ root.version
      → held_now f view root h.sequence ≡ h
  leaves_held view key root h same leaves version =
      let now : leaves_of f view.key view.state.reads root ≡ h.leaves = rw same leaves in
      λ i. record { leaves = now i; sequence = h.sequence; version = (sym version) i }

  pub mounted_held : (view : View) (key : List ℕ) (root : Root) (h : Held) → view.key ≡ key → IsMounted f key root h view.state → held_now f view root h.sequence ≡ h
  mounted_held view key root h same mounted = leaves_held view key root h same (sym mounted.leaves) mounted.version

  pub mounted_in_use : (view : View) (key : List ℕ) (root : Root) (h : Held) → view.key ≡ key → IsMounted f key root h view.state → IsInUse f view root h.sequence
  mounted_in_use view key root h same mounted = record {
    rests = mounted.rests;
    opens = rw same mounted.opens;
    sealed = rw same mounted.sealed;
    leaves = refl;
    version = refl;
  }

  -- what a crash leaves whose blocks are those of an open volume, and whose counter is its sequence
  left_holds : (view : View) (m : Moment) (root : Root) (sequence : ℕ) (c : CrashImage) → IsInUse f view root sequence → SameBlocks view.state m
      → IsLeft m c → c.counter ≡ sequence → held_of f view.key c ≡ Some (held_now f view root sequence)
  left_holds view m root sequence c is same left counter =
      let rests = is.rests in
      let each : (k : ℕ) → c.image k ≡ view.state.reads k
      = λ k. left.kept k (at same.pending k ∙ rests.pending k) ∙ at same.durable k ∙ sym (rests.as_read k) in
      let image : c.image ≡ view.state.reads = λ i k. each k i in
      held_before f framed view.key root (held_now f view root sequence) view.state c.image c.counter is
      (ap (opening_of f.known view.key c.image) counter ∙ ap (λ (g : ℕ → List ℕ). opening_of f.known view.key g sequence) image)
      (λ k used. each k)

  -- an advance past the last sequence fails, and nothing else may be left
  pub exhausted : (old new : View) (root : Root) (e : BoardFailed) → IsInUse f old root (2 ^ 64 - 1) → new.key ≡ old.key → Passes old new
      → Advanced (Err e) old.state new.state → Exhausts f root answers.Failed old new
  exhausted old new root e is key time advanced =
      let rests = is.rests in
      let failed = advanced.counter in
      record {
        failed = refl;
        held = held_same old new root (2 ^ 64 - 1) key advanced.blocks.reads;
        steady = steady_same old new root key (settled_blocks old.state new.state advanced.blocks) (steady_in_use old root (2 ^ 64 - 1) is);
        crash = goes_on old old new (λ c. held_of f old.key c ≡ Some (held_now f old root (2 ^ 64 - 1)))
            (starts old (λ c. held_of f old.key c ≡ Some (held_now f old root (2 ^ 64 - 1)))
            (λ c left. left_holds old old.state root (2 ^ 64 - 1) c is (record { reads = refl; durable = refl; pending = refl }) left
            (omega (arith, left.counter.least, left.counter.greatest, rests.counter, rests.slack))))
            time
            (λ c left. left_holds old new.state root (2 ^ 64 - 1) c is advanced.blocks left
            (omega (arith, left.counter.least, left.counter.fits, rests.counter, failed.0)));
      }

  -- a reading, and then a commit
  pub commit_crash : (old mid new : View) (root : Root) (sequence : ℕ) (region : ℕ) (named : List Leaf) → IsInUse f old root sequence
      → mid.key ≡ old.key → OnlyReads old mid
      → LeavesOnly moment left_since mid new (BeforeOrAfter f mid.key (held_now f mid root sequence) (after_commit region named (held_now f mid root sequence)))
      → LeavesOnly moment left_since old new (BeforeOrAfter f old.key (held_now f old root sequence) (after_commit region named (held_now f old root sequence)))
  commit_crash old mid new root sequence region named is key only run =
      let before : Held = held_now f old root sequence in
      let after : Held = after_commit region named before in
      let held : held_now f mid root sequence ≡ before = held_same old mid root sequence key only.state.reads in
      joined moment left_since old mid new (BeforeOrAfter f old.key before after)
      (weaker moment left_since old mid (λ c. held_of f old.key c ≡ Some before) (BeforeOrAfter f old.key before after) (λ c e. inl e)
      (reads_crash old mid root sequence is only))
      (subst (λ (h : Held). LeavesOnly moment left_since mid new (BeforeOrAfter f old.key h (after_commit region named h))) held
      (subst (λ (k : List ℕ). LeavesOnly moment left_since mid new (BeforeOrAfter f k (held_now f mid root sequence) (after_commit region named (held_now f mid root sequence)))) key run))

-- an advance past the last sequence: no counter is its answer
pub no_counter : (n : ℕ) (old new : Moment) → Rests (2 ^ 64 - 1) old → Advanced (Ok n) old new → n < 2 ^ 64 → ⊥
no_counter n old new rests advanced fits =
    let raised = advanced.counter in
    absurd (omega (arith, raised.positive, raised.among.least, rests.counter, fits))

-- what a crash since some moment might have left, as the volume reads it
pub past_read : (f : Form) (old new : View) → new.key ≡ old.key → KeepsPast old new → (t : ℕ) (o : Option Held) → t ≤ moment old
    → read_as (held_of f old.key) (left_since old) t o → read_as (held_of f new.key) (left_since new) t o
past_read f old new key keeps t o le left =
    (left.0, keeps.past t left.0 le left.1, left.2 ∙ ap (λ (k : List ℕ). held_of f k left.0) (sym key))

-- an answer that shows what is no damage is none of damage
pub err_undamaged : (A B : Type 0) (e : LeafAnswer) (damage : Option Mismatch) → ShowsLeaf {A = A} (Err e) damage → damage ≡ None → IsUndamaged {A = B} (Err e)
err_undamaged A B (answers.Mismatch tags) damage shows none = absurd (let e : Some tags ≡ None = sym shows ∙ none in cc)
err_undamaged A B answers.Lost damage shows none = tt
err_undamaged A B answers.Failed damage shows none = tt
err_undamaged A B answers.NoMemory damage shows none = tt

-- what was held before is what each commit may leave
pub left_before : (r : Result ℕ LeafAnswer) (before after : Held) (o : Option Held) → o ≡ Some before → LeftByCommit r before after o
left_before (Ok n) before after o e = inl e
left_before (Err answers.Failed) before after o e = inl e
left_before (Err answers.Lost) before after o e = e
left_before (Err (answers.Mismatch tags)) before after o e = e
left_before (Err answers.NoMemory) before after o e = e

-- when an answer other than Ok comes
pub err_cause : (A : Type 0) (e : LeafAnswer) (old new : Condition) → old.lost ≡ false → new.lost ≡ is_failure e → (e ≡ answers.Failed → Rose old.faults new.faults) → e ≢ answers.Lost
    → IfMismatch {A = A} (Err e) (λ tags. tags.found ≢ tags.kept) → LeafCause {A = A} (Err e) old new
err_cause A answers.Lost old new live lost rose other tags = absurd (other refl)
err_cause A answers.Failed old new live lost rose other tags = (live, lost, rose refl)
err_cause A (answers.Mismatch m) old new live lost rose other tags = (live, lost, tags)
err_cause A answers.NoMemory old new live lost rose other tags = (live, lost)

-- a call of a lost volume, which does nothing
pub lost_call : (V A : Type 0) (K : VolumeKeeper V) (v : V) → (K.condition v).lost ≡ true → IsVolumeCall K {A = A} (Err answers.Lost) v v
lost_call V A K v lost = record {
  cause = record { cause = (lost, lost); later = omega arith; unfailed = refl; foundation = refl };
  below = λ b. b;
  honest = λ h. (h, tt);
  quiet = λ told. record { same = refl; none = λ t o left. left };
  past = λ h t o le left. left;
}

-- a run of calls keeps what the volume stands on: a board of this size and key, and its orders
pub foundation_same : {ok : Bool} (old new : View) → CallRun ok old new
    → ◌≡◌ {A = Foundation} (record { place = new.size ∷ new.key; orders = new.state.orders; ordered = new.ordered })
    (record { place = old.size ∷ old.key; orders = old.state.orders; ordered = old.ordered })
foundation_same {ok} old new run = λ i. record { place = run.size i ∷ run.key i; orders = run.orders i; ordered = run.ordered i }

-- what holds of the tags of an answer, of whatever call
pub still_tags : (A B : Type 0) (P : Mismatch → Type 0) (e : LeafAnswer) → IfMismatch {A = A} (Err e) P → IfMismatch {A = B} (Err e) P
still_tags A B P answers.Lost tags = tt
still_tags A B P answers.Failed tags = tt
still_tags A B P (answers.Mismatch m) tags = tags
still_tags A B P answers.NoMemory tags = tt

-- what holds unless the call failed, of a call that didn't
pub unless_failed : (A : Type 0) (e : LeafAnswer) (P : Type 0) → (not (is_failure e) ≡ true → P) → UnlessFailed {A = A} (Err e) P
unless_failed A answers.Lost P is = is refl
unless_failed A answers.Failed P is = tt
unless_failed A (answers.Mismatch tags) P is = is refl
unless_failed A answers.NoMemory P is = is refl

-- a commit that is refused before anything is written
pub if_unwritten : (e : LeafAnswer) (P : Type 0) → (not (is_failure e) ≡ true → P) → IfUnwritten (Err e) P
if_unwritten answers.Lost P is = is refl
if_unwritten answers.Failed P is = tt
if_unwritten (answers.Mismatch tags) P is = is refl
if_unwritten answers.NoMemory P is = is refl

-- an answer that is a failure or want of memory is neither of damage nor of a volume that is lost
pub no_mismatch : (A : Type 0) (e : LeafAnswer) (P : Mismatch → Type 0) → (e ≡ answers.Failed) ⊎ (e ≡ answers.NoMemory) → IfMismatch {A = A} (Err e) P
no_mismatch A e P is =
    ⊎_elim
    (λ (f : e ≡ answers.Failed). subst (λ (x : LeafAnswer). IfMismatch {A = A} (Err x) P) (sym f) tt)
    (λ (n : e ≡ answers.NoMemory). subst (λ (x : LeafAnswer). IfMismatch {A = A} (Err x) P) (sym n) tt)
    is

pub not_lost : (e : LeafAnswer) → (e ≡ answers.Failed) ⊎ (e ≡ answers.NoMemory) → e ≡ answers.Lost → ⊥
not_lost e is lost =
    ⊎_elim
    (λ (f : e ≡ answers.Failed). let x : answers.Failed ≡ answers.Lost = sym f ∙ lost in cc)
    (λ (n : e ≡ answers.NoMemory). let x : answers.NoMemory ≡ answers.Lost = sym n ∙ lost in cc)
    is

pub still_failed : (e : LeafAnswer) → e ≡ answers.Failed → is_failure e ≡ false → ⊥
still_failed e failed live = let x : true ≡ false = sym (ap is_failure failed) ∙ live in cc

-- what a commit at the last sequence leaves, by the sequence that is kept
pub record ExhaustsAt (f : Form) (root : Root) (sequence : ℕ) (answer : LeafAnswer) (old new : View) : Type 0 where
  pub failed : answer ≡ answers.Failed
  pub held : held_now f new root sequence ≡ held_now f old root sequence
  pub steady : IsSteady f new.key root new.state
  pub crash : LeavesOnly moment left_since old new (λ c. held_of f old.key c ≡ Some (held_now f old root sequence))

pub exhausts_at : (f : Form) (root : Root) (sequence : ℕ) (answer : LeafAnswer) (old new : View) → sequence ≡ 2 ^ 64 - 1
    → (IsInUse f old root (2 ^ 64 - 1) → Exhausts f root answer old new) → IsInUse f old root sequence → ExhaustsAt f root sequence answer old new
exhausts_at f root sequence answer old new last does is =
    let gone = does (subst (IsInUse f old root) last is) in
    record {
      failed = gone.failed;
      held = subst (λ (n : ℕ). held_now f new root n ≡ held_now f old root n) (sym last) gone.held;
      steady = gone.steady;
      crash = subst (λ (n : ℕ). LeavesOnly moment left_since old new (λ c. held_of f old.key c ≡ Some (held_now f old root n))) (sym last) gone.crash;
    }
