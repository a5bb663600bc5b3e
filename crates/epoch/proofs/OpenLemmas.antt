-- What the opening of a volume leaves, over what was found on its board, whatever the form.
use Rattle.std.proofs.Common.{◌≡◌, ◌+◌, ◌⊎◌, ◌==◌, ◌∙◌, not, if◌then◌else◌, ℕ, Bool, true, false, List, [], Option, Some, None, Result}
use Rattle.std.proofs.Common.{Ok, Err, IfErr, IfOk, refl, sym, ap, subst, inl, arith, ⊎_elim}
use Rattle.std.specs.Result.{IsErr}
use Rattle.std.proofs.lemmas.Bool.{false≢true}
use Rattle.std.proofs.lemmas.Bool.Decides.{nat_tests}
use Rattle.tee_base.specs.Crash.{LeavesOnly}
use Rattle.tee_base.proofs.Crash.{joined, weaker}
use Rattle.store_api.specs.Volumes.{Held, leaf_after, with_named_leaves}
use Rattle.board.specs.Moment.{Moment, View, left_since, moment}
use Rattle.board.specs.Steps.{SameBlocks}
use Rattle.board.proofs.Runs.{starts}
use Rattle.epoch.specs.Commits.{BeforeOrAfter, IsMounted, next_held}
use Rattle.epoch.specs.Reopening.{reopened_of, sequence_after}
use Rattle.epoch.specs.Forms.{Form, IsBlankRoot, IsFramed, Root, held_of, root_of, root_written}
use Rattle.epoch.specs.Keeping.{IsInUse, held_now}
use Rattle.epoch.specs.Mounting.{MountsTo, after_found, after_opening, after_version}
use Rattle.epoch.specs.Mounts.{IsAdmittedTo, IsKeptFromOpening, IsRefusal, IsRuledBy, RefusesBy, TakesHeader, TakesUp, admission_over, refusal_of}
use Rattle.epoch.specs.Opens.{Opens}
use Rattle.epoch.specs.declared.answer.OpenAnswer.{OpenAnswer}
use Rattle.epoch.specs.declared.answer.OpenAnswer.TheVariants.{Failed, NoMemory}
use Rattle.epoch.specs.declared.rule.Found.{Found}
use Rattle.epoch.specs.declared.header.Header.{Header}
use Rattle.epoch.specs.declared.header.TreeEntry.{TreeEntry}
use Rattle.epoch.specs.declared.taking.TheConstants.{NO_ROOT}
use Rattle.epoch.proofs.AdmitLemmas.{admitted_by, refused_over}
use Rattle.epoch.proofs.MountLemmas.{mounted_left}

-- what is told of an answer is told of the result
pub told_so : {A : Type 0} (result : Result A OpenAnswer) (why : OpenAnswer) (P : OpenAnswer → Type 0) → result ≡ Err why → P why → IfErr result P
told_so {A} result why P is fact = subst (λ (r : Result A OpenAnswer). IfErr r P) (sym is) fact

-- of a result that is no error, or is one
pub not_ok : {A : Type 0} (result : Result A OpenAnswer) (P : A → Type 0) → IsErr result → IfOk result P
not_ok (Ok x) P fails = absurd (false≢true fails)
not_ok (Err why) P fails = tt

-- what is told of a refusal goes on to what follows from it
pub err_so : {A : Type 0} (result : Result A OpenAnswer) (P Q : OpenAnswer → Type 0) → ((why : OpenAnswer) → P why → Q why) → IfErr result P → IfErr result Q
err_so (Ok x) P Q goes is = tt
err_so (Err why) P Q goes is = goes why is

-- one call that leaves the blocks behind another
pub blocks_more : (first mid last : Moment) → SameBlocks first mid → SameBlocks mid last → SameBlocks first last
blocks_more first mid last one two = record {
  reads = two.reads ∙ one.reads;
  durable = two.durable ∙ one.durable;
  pending = two.pending ∙ one.pending;
}

-- before the first of them
pub blocks_none : (m : Moment) → SameBlocks m m
blocks_none m = record { reads = refl; durable = refl; pending = refl }

-- no leaf is replaced by a commit of none
same_leaf : (b : Bool) (l : ℕ) (bytes : List ℕ) → (if b then leaf_after [] l bytes else bytes) ≡ bytes
same_leaf true l bytes = refl
same_leaf false l bytes = refl

same_leaves : (leaves : ℕ → ℕ → List ℕ) → with_named_leaves 0 [] leaves ≡ leaves
same_leaves leaves = λ i r l. same_leaf (r == 0) l (leaves r l) i

module _ (f : Form) where
  -- what is held under a root that a board is mounted with
  pub held_is : (view : View) (root : Root) (sequence : ℕ) (h : Held) → IsMounted f view.key root h view.state → sequence ≡ h.sequence → held_now f view root sequence ≡ h
  held_is view root sequence h mounted e = λ i. record { leaves = (sym mounted.leaves) i; sequence = e i; version = (sym mounted.version) i }

  -- such a board is in use
  pub in_use_with : (view : View) (root : Root) (sequence : ℕ) (h : Held) → IsMounted f view.key root h view.state → sequence ≡ h.sequence
      → IsInUse f view root sequence × (held_now f view root sequence ≡ h)
  in_use_with view root sequence h mounted e =
      let same = held_is view root sequence h mounted e in
      (subst (λ (x : Held). IsMounted f view.key root x view.state) (sym same) mounted, same)

  -- and nothing else is left of it
  pub rests_so : IsFramed f → (view : View) (root : Root) (h after : Held) → IsMounted f view.key root h view.state
      → LeavesOnly moment left_since view view (λ c. (held_of f view.key c ≡ Some h) ⊎ (held_of f view.key c ≡ Some after))
  rests_so framed view root h after mounted =
      starts view (λ c. (held_of f view.key c ≡ Some h) ⊎ (held_of f view.key c ≡ Some after)) (λ c left. inl (mounted_left f framed root h view mounted c left))

  -- what a commit of no leaf makes of a blank board
  pub formatted : (h : Held) → next_held f (with_named_leaves 0 [] h.leaves) h.sequence ≡ after_found f None h
  formatted h = ap (λ (leaves : ℕ → ℕ → List ℕ). next_held f leaves h.sequence) (same_leaves h.leaves)

  -- what a crash leaves within the formatting
  pub leaves_format : (old new : View) (h : Held)
      → LeavesOnly moment left_since old new (BeforeOrAfter f old.key h (next_held f (with_named_leaves 0 [] h.leaves) h.sequence))
      → LeavesOnly moment left_since old new (λ c. (held_of f old.key c ≡ Some h) ⊎ (held_of f old.key c ≡ Some (after_found f None h)))
  leaves_format old new h run =
      subst (λ (after : Held). LeavesOnly moment left_since old new (λ c. (held_of f old.key c ≡ Some h) ⊎ (held_of f old.key c ≡ Some after))) (formatted h) run

  module _ {A : Type 0} (IsOpenAs : A → View → Type 0) (holding : A → View → Held) where
    -- a blank board that wasn't formatted, since there was no memory
    pub opens_without : IsFramed f → (view : View) (root : Root) (result : Result A OpenAnswer) (h after : Held) → IsMounted f view.key root h view.state
        → IsErr result → IfErr result (λ why. IsKeptFromOpening why) → Opens f IsOpenAs holding h after result view view
    opens_without framed view root (Ok o) h after mounted fails kept = absurd (false≢true fails)
    opens_without framed view root (Err why) h after mounted fails kept = record { opened = tt; failed = kept; leaves = rests_so framed view root h after mounted }

    -- a blank board that was to be formatted
    pub opens_none : (old new : View) (result : Result A OpenAnswer) (found : Option Header) (h : Held) → found ≡ None
        → (MountsTo f old.key h old.state None → Opens f IsOpenAs holding h (after_found f None h) result old new) → MountsTo f old.key h old.state found
        → Opens f IsOpenAs holding h (after_found f found h) result old new
    opens_none old new result found h is opens mounts =
        subst (λ (x : Option Header). Opens f IsOpenAs holding h (after_found f x h) result old new) (sym is) (opens (subst (MountsTo f old.key h old.state) is mounts))

    pub format_failed : (old new : View) (result : Result A OpenAnswer) (h : Held) → IsErr result → IfErr result (λ why. IsKeptFromOpening why)
        → LeavesOnly moment left_since old new (BeforeOrAfter f old.key h (next_held f (with_named_leaves 0 [] h.leaves) h.sequence))
        → Opens f IsOpenAs holding h (after_found f None h) result old new
    format_failed old new (Ok o) h fails kept run = absurd (false≢true fails)
    format_failed old new (Err why) h fails kept run = record { opened = tt; failed = kept; leaves = leaves_format old new h run }

    -- a search and what is then made of what it found
    pub opens_joined : (old mid new : View) (found : Option Header) (result : Result A OpenAnswer) (h : Held) → mid.key ≡ old.key
        → MountsTo f old.key h mid.state found × (after_found f found h ≡ after_opening f old h)
        → LeavesOnly moment left_since old mid (λ c. held_of f old.key c ≡ Some h)
        → (MountsTo f mid.key h mid.state found → Opens f IsOpenAs holding h (after_found f found h) result mid new) → Opens f IsOpenAs holding h (after_opening f old h) result old new
    opens_joined old mid new found result h key mounts run opens =
        let last = opens (subst (λ (k : List ℕ). MountsTo f k h mid.state found) (sym key) mounts.0) in
        let last' : Opens f IsOpenAs holding h (after_opening f old h) result mid new = subst (λ (x : Held). Opens f IsOpenAs holding h x result mid new) mounts.1 last in
        record {
          opened = last'.opened;
          failed = last'.failed;
          leaves = joined moment left_since old mid new (λ c. (held_of f old.key c ≡ Some h) ⊎ (held_of f old.key c ≡ Some (after_opening f old h)))
              (weaker moment left_since old mid (λ c. held_of f old.key c ≡ Some h) (λ c. (held_of f old.key c ≡ Some h) ⊎
              (held_of f old.key c ≡ Some (after_opening f old h))) (λ c e. inl e) run)
              (subst (λ (k : List ℕ). LeavesOnly moment left_since mid new (λ c. (held_of f k c ≡ Some h) ⊎ (held_of f k c ≡ Some (after_opening f old h)))) key last'.leaves);
        }

    -- a search that failed
    pub opens_failed : (old new : View) (why : OpenAnswer) (result : Result A OpenAnswer) (h after : Held) → result ≡ Err why → why ≡ Failed
        → LeavesOnly moment left_since old new (λ c. held_of f old.key c ≡ Some h) → Opens f IsOpenAs holding h after result old new
    opens_failed old new why result h after is failed run =
        subst (λ (r : Result A OpenAnswer). Opens f IsOpenAs holding h after r old new) (sym is) (record {
          opened = tt;
          failed = inl failed;
          leaves = weaker moment left_since old new (λ c. held_of f old.key c ≡ Some h) (λ c. (held_of f old.key c ≡ Some h) ⊎ (held_of f old.key c ≡ Some after)) (λ c e. inl e) run;
        })

  -- why a board isn't opened once the rule of the header opens it: what keeps it from that, or what the form refuses
  kept_refusal : (rule : Result (Option Found) OpenAnswer) (why : OpenAnswer) → IsKeptFromOpening why → RefusesBy rule why
  kept_refusal rule why kept =
      ⊎_elim
      (λ (e : why ≡ Failed). subst (RefusesBy rule) (sym e) tt)
      (λ (e : why ≡ NoMemory). subst (RefusesBy rule) (sym e) tt)
      kept

  pub refused_or_kept : (view : View) (image walked : ℕ → List ℕ) (n : ℕ) (found : Option Header) (why : OpenAnswer) → IsRuledBy f view image n (Ok found)
      → IsKeptFromOpening why ⊎ (refusal_of f view.key walked found ≡ Some why) → RefusesBy (admission_over f view image walked n) why
  refused_or_kept view image walked n found why ruled is =
      ⊎_elim
      (λ (kept : IsKeptFromOpening why). kept_refusal (admission_over f view image walked n) why kept)
      (λ (some : refusal_of f view.key walked found ≡ Some why). refused_over f view image walked n found why ruled.1 some)
      is

  -- what was found by the rule of the header, and then taken up or not, is so by the whole rule
  module _ {A : Type 0} (view : View) (image : ℕ → List ℕ) (n : ℕ) (found : Option Header) (Takes : A → Option Header → Type 0) where
    pub ruled_found : (result : Result A OpenAnswer) → IsRuledBy f view image n (Ok found)
        → IfErr result (λ why. IsKeptFromOpening why ⊎ (refusal_of f view.key image found ≡ Some why))
        → IfOk result (λ o. refusal_of f view.key image found ≡ None) → IfOk result (λ o. Takes o found)
        → IfErr result (λ why. IsRefusal f view image n why) × IfOk result (λ o. IsAdmittedTo f view image n (Takes o))
    ruled_found (Ok o) ruled refused admitted takes = (tt, admitted_by f view image n (Takes o) found ruled.1 admitted takes)
    ruled_found (Err why) ruled refused admitted takes = (refused_or_kept view image image n found why ruled refused, tt)

-- a header of the version that is written is taken up as it is
module _ (f : Form) where
  pub blank_root : IsBlankRoot f (root_written f NO_ROOT)
  blank_root = record { version = refl; sequence = refl }

  pub root_is : (header : Header) → (header.version == f.version) ≡ true → root_of header ≡ root_written f header.root
  root_is header written =
      let is : header.version ≡ f.version = grind (arith, nat_tests, written) in
      λ i. record { version = is i; entry = header.root }

  pub takes_written : (header : Header) → (header.version == f.version) ≡ true → (blank : ℕ) → TakesUp f (Some header) blank header.sequence (root_written f header.root)
  takes_written header written blank =
      subst (λ (b : Bool). TakesHeader f b header header.sequence (root_written f header.root)) (sym written) (refl, root_is header written)

  -- and one of another version anew
  pub takes_other : (header : Header) → (header.version == f.version) ≡ false → (blank : ℕ) (entry : TreeEntry) → entry.sequence ≡ header.sequence + 1
      → TakesUp f (Some header) blank entry.sequence (root_written f entry)
  takes_other header other blank entry next =
      subst (λ (b : Bool). TakesHeader f b header entry.sequence (root_written f entry)) (sym other) (next, refl, refl)

  -- a board is mounted with the root of such a header, and with its sequence
  pub mounted_written : (view : View) (h : Held) (header : Header) → (header.version == f.version) ≡ true → MountsTo f view.key h view.state (Some header)
      → IsMounted f view.key (root_written f header.root) h view.state
  mounted_written view h header written mounts = subst (λ (r : Root). IsMounted f view.key r h view.state) (root_is header written) mounts.1

  -- what is held once it was taken up
  pub after_written : (header : Header) (h : Held) → (header.version == f.version) ≡ true → after_found f (Some header) h ≡ h
  after_written header h written = ap (λ (b : Bool). after_version f b h) written

  pub after_other : (header : Header) (h : Held) → (header.version == f.version) ≡ false → after_found f (Some header) h ≡ next_held f h.leaves h.sequence
  after_other header h other = ap (λ (b : Bool). after_version f b h) other

  -- what is told of it, and the sequence then
  pub told_written : (header : Header) → (header.version == f.version) ≡ true → sequence_after (reopened_of f.version (Some header)) ≡ header.sequence
  told_written header written = ap (λ (b : Bool). if not b then header.sequence + 1 else header.sequence) written

  pub told_other : (header : Header) → (header.version == f.version) ≡ false → sequence_after (reopened_of f.version (Some header)) ≡ header.sequence + 1
  told_other header other = ap (λ (b : Bool). if not b then header.sequence + 1 else header.sequence) other
