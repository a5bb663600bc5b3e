-- What the opening of a tree leaves, over what was found on its board.
use Rattle.std.proofs.Common.{◌≡◌, ◌<◌, ◌≤◌, ◌+◌, ◌⊎◌, ◌==◌, ◌||◌, ◌∙◌, not, ℕ, Bool, true, false, nat_lt, List}
use Rattle.std.proofs.Common.{[], Option, Some, None, Result, Ok, Err, IfOk, refl, sym, ap, subst, inl, inr, ⊎_elim, arith}
use Rattle.std.proofs.lemmas.Bool.{cases_lt, false≢true, lt-ltb}
use Rattle.tee_base.specs.Crash.{LeavesOnly}
use Rattle.store_api.specs.Volumes.{Held, with_named_leaves}
use Rattle.board.specs.Moment.{View, left_since, moment}
use Rattle.board.specs.Runs.{Rests}
use Rattle.board.proofs.Runs.{starts}
use Rattle.epoch.specs.Commits.{BeforeOrAfter, IsMounted, next_held}
use Rattle.epoch.specs.Formats.{accepts}
use Rattle.epoch.specs.Forms.{Form, Root, held_in, root_of}
use Rattle.epoch.specs.Mounting.{MountsTo, after_found}
use Rattle.epoch.specs.Mounts.{IsKeptFromOpening, LeavesOpening, LeftByOpening, TakesUp, refusal_of}
use Rattle.epoch.specs.declared.answer.OpenAnswer.{OpenAnswer}
use Rattle.epoch.specs.declared.header.Header.{Header}
use Rattle.epoch.specs.declared.header.TreeEntry.{TreeEntry}
use Rattle.epoch.specs.declared.taking.TheConstants.{NO_ROOT}
use Rattle.epoch.proofs.OpenLemmas.{after_other, after_written, blank_root, formatted, in_use_with, leaves_format, mounted_written, rests_so}
use Rattle.v1_volume.specs.Migrating.{Migrates, taken_over}
use Rattle.tree_paths.specs.Form.{form_root}
use Rattle.tree_paths.specs.Shape.{first_shape}
use Rattle.tree_paths.specs.Tree.{on_image}
use Rattle.v1_volume.specs.Answers.{open_answer}
use Rattle.v1_volume.specs.Old.{old_refusal}
use Rattle.v1_volume.specs.Versions.{old_root, volume_form}
use Rattle.v1_volume.specs.declared.answer.OldAnswer.{OldAnswer}
use Rattle.v1_volume.specs.declared.answer.OldAnswer.TheVariants as old_answers
use Rattle.v1_volume.specs.declared.versions.TheConstants.{VERSIONS}
use Rattle.v1_volume.specs.Frame.{volume_framed}
use Rattle.tree_volume.specs.Keeping.{IsOpen, held_now}
use Rattle.tree_volume.specs.Opens.{Opens}
use Rattle.tree_volume.specs.declared.volume.Opened.{Opened}

-- a board is open where a header of the version that is written is taken up
pub open_written : (view : View) (header : Header) (h : Held) → (header.version == 2) ≡ true → MountsTo volume_form view.key h view.state (Some header)
    → IsOpen view header.root header.sequence × (held_now view header.root header.sequence ≡ h)
open_written view header h written mounts =
    in_use_with volume_form view (form_root header.root) header.sequence h (mounted_written volume_form view h header written mounts) (sym mounts.0)

pub opens_written : (view : View) (header : Header) (h : Held) → (header.version == 2) ≡ true → MountsTo volume_form view.key h view.state (Some header)
    → Opens h (after_found volume_form (Some header) h) (Ok (record { root = header.root; sequence = header.sequence })) view view
opens_written view header h written mounts =
    let open_so = open_written view header h written mounts in
    record {
      opened = (open_so.0, open_so.1 ∙ sym (after_written volume_form header h written));
      failed = tt;
      leaves = rests_so volume_form volume_framed view (form_root header.root) h (after_found volume_form (Some header) h) (mounted_written volume_form view h header written mounts);
    }

-- a blank board is empty at the sequence 0, and nothing is written
pub opens_blank : (view : View) (h : Held) → MountsTo volume_form view.key h view.state None → Opens h h (Ok (record { root = NO_ROOT; sequence = 0 })) view view
opens_blank view h mounts =
    let mounted = mounts.1 (form_root NO_ROOT) (blank_root volume_form) in
    record {
      opened = in_use_with volume_form view (form_root NO_ROOT) 0 h mounted (sym mounts.0);
      failed = tt;
      leaves = rests_so volume_form volume_framed view (form_root NO_ROOT) h h mounted;
    }

-- of the accepted versions the one that isn't written is the first
known_old : (v : ℕ) → not (nat_lt v 1 || nat_lt 2 v) ≡ true → (v == 2) ≡ false → v ≡ 1
known_old v known other =
    ⊎_elim
    (λ (low : v < 1). absurd (false≢true (subst (λ (b : Bool). not (b || nat_lt 2 v) ≡ true) (lt-ltb v 1 low) known)))
    (λ (some : 1 ≤ v).
    ⊎_elim
    (λ (less : v < 2). let is : v ≡ 1 = omega (arith, some, less) in is)
    (λ (more : 2 ≤ v).
    ⊎_elim
    (λ (high : 2 < v). absurd (false≢true (subst (λ (b : Bool). not (b || nat_lt v 1) ≡ true) (lt-ltb 2 v high) (subst (λ (b : Bool). not b ≡ true) (or_flip (nat_lt v 1) (nat_lt 2 v)) known))))
    (λ (same : v ≤ 2). let is : v ≡ 2 = omega (arith, more, same) in absurd (false≢true (sym other ∙ ap (λ (n : ℕ). n == 2) is)))
    (cases_lt 2 v))
    (cases_lt v 2))
    (cases_lt v 1)
  where
    or_flip : (a b : Bool) → (a || b) ≡ (b || a)
    or_flip true true = refl
    or_flip true false = refl
    or_flip false true = refl
    or_flip false false = refl

module _ (header : Header) (accepted : accepts VERSIONS header.version ≡ true) (other : (header.version == 2) ≡ false) where
  pub old_header : root_of header ≡ old_root header.root
  old_header = ap (λ (v : ℕ). let root : Root = record { version = v; entry = header.root } in root) (known_old header.version accepted other)

  -- why its image is refused
  pub refusal_old : (key : List ℕ) (image : ℕ → List ℕ) → refusal_of volume_form key image (Some header) ≡ old_refusal (on_image first_shape key image) header.root
  refusal_old key image = ap (volume_form.refuses key image) old_header

  pub mounted_old : (view : View) (h : Held) → MountsTo volume_form view.key h view.state (Some header) → IsMounted volume_form view.key (old_root header.root) h view.state
  mounted_old view h mounts = subst (λ (r : Root). IsMounted volume_form view.key r h view.state) old_header mounts.1

  leaves_old : (old new : View) (h : Held) (result : Result TreeEntry OldAnswer) → Migrates h result old new
      → LeavesOnly moment left_since old new (BeforeOrAfter volume_form old.key h (after_found volume_form (Some header) h))
  leaves_old old new h result migrates =
      subst (λ (after : Held). LeavesOnly moment left_since old new (BeforeOrAfter volume_form old.key h after)) (sym (after_other volume_form header h other)) migrates.leaves

  -- it was taken over
  pub opens_old : (old new : View) (h : Held) (entry : TreeEntry) → Migrates h (Ok entry) old new → new.key ≡ old.key → entry.sequence ≡ header.sequence + 1
      → MountsTo volume_form old.key h old.state (Some header)
      → Opens h (after_found volume_form (Some header) h) (Ok (record { root = entry; sequence = entry.sequence })) old new
  opens_old old new h entry migrates key next mounts =
      let mounted : IsMounted volume_form new.key (form_root entry) (taken_over h) new.state
      = subst (λ (k : List ℕ). IsMounted volume_form k (form_root entry) (taken_over h) new.state) (sym key) migrates.mounted in
      let open_so = in_use_with volume_form new (form_root entry) entry.sequence (taken_over h) mounted (next ∙ ap (λ (n : ℕ). n + 1) (sym mounts.0)) in
      record {
        opened = (open_so.0, open_so.1 ∙ sym (after_other volume_form header h other));
        failed = tt;
        leaves = leaves_old old new h (Ok entry) migrates;
      }

  kept_old : (why : OldAnswer) → (why ≡ old_answers.Failed) ⊎ (why ≡ old_answers.NoMemory) → IsKeptFromOpening (open_answer why)
  kept_old why is =
      ⊎_elim
      (λ (e : why ≡ old_answers.Failed). inl (ap open_answer e))
      (λ (e : why ≡ old_answers.NoMemory). inr (ap open_answer e))
      is

  -- or not
  pub not_old : (old new : View) (h : Held) (why : OldAnswer) (told : OpenAnswer) → told ≡ open_answer why → Migrates h (Err why) old new
      → Opens h (after_found volume_form (Some header) h) (Err told) old new
  not_old old new h why told is migrates = record {
    opened = tt;
    failed = subst IsKeptFromOpening (sym is) (kept_old why migrates.failed);
    leaves = leaves_old old new h (Err why) migrates;
  }

pub format_done : (old new : View) (root : TreeEntry) (h : Held) → h.sequence ≡ 0 → new.key ≡ old.key
    → LeavesOnly moment left_since old new (BeforeOrAfter volume_form old.key h (next_held volume_form (with_named_leaves 0 [] h.leaves) h.sequence))
    → IsMounted volume_form old.key (form_root root) (next_held volume_form (with_named_leaves 0 [] h.leaves) h.sequence) new.state
    → Opens h (after_found volume_form None h) (Ok (record { root = root; sequence = 1 })) old new
format_done old new root h zero key run mounted =
    let mounted' : IsMounted volume_form new.key (form_root root) (after_found volume_form None h) new.state
    = subst (λ (k : List ℕ). IsMounted volume_form k (form_root root) (after_found volume_form None h) new.state) (sym key)
    (subst (λ (x : Held). IsMounted volume_form old.key (form_root root) x new.state) (formatted volume_form h) mounted) in
    record {
      opened = in_use_with volume_form new (form_root root) 1 (after_found volume_form None h) mounted' (ap (λ (n : ℕ). n + 1) (sym zero));
      failed = tt;
      leaves = leaves_format volume_form old new h run;
    }

-- what is taken up of a blank board
pub takes_none : (found : Option Header) (result : Result Opened OpenAnswer) (blank : ℕ) → found ≡ None → IfOk result (λ o. (o.sequence ≡ blank) × (o.root.sequence ≡ blank))
    → IfOk result (λ o. TakesUp volume_form found blank o.sequence (form_root o.root))
takes_none None (Ok o) blank is both = (both.0, refl, both.1)
takes_none (Some header) (Ok o) blank is both = absurd (cc)
takes_none found (Err why) blank is both = tt

-- a board at rest leaves what it holds
pub leaves_resting : (f : Form) (view : View) (n : ℕ) (h : Held) → Rests n view.state → held_in f view.key view.state.reads n ≡ Some h → LeavesOpening f h view view
leaves_resting f view n h rests is =
    starts view (LeftByOpening f h view)
    (λ c left. inl (
    let image : (k : ℕ) → c.image k ≡ view.state.reads k = λ k. left.kept k (rests.pending k) ∙ sym (rests.as_read k) in
    let whole : c.image ≡ view.state.reads = λ i k. image k i in
    let counter : c.counter ≡ n = omega (arith, left.counter.least, left.counter.greatest, rests.counter, rests.slack) in
    ap (held_in f view.key c.image) counter ∙ ap (λ (g : ℕ → List ℕ). held_in f view.key g n) whole ∙ is
    ))
