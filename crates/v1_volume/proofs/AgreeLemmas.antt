-- Under a root of the second version the form of both versions is mounted with, holds and leaves what the form of the tree does.
use Rattle.std.proofs.Common.{◌≡◌, ◌==◌, ◌&&◌, ◌%◌, ◌∙◌, if◌then◌else◌, not, ℕ, Bool, true, false, List, Option, Some, None, Result, Ok, Err}
use Rattle.std.proofs.Common.{nat_lt, IfOk, OnErr, refl, sym, ap, subst, inl, inr, ⊎_elim, arith}
use Rattle.std.proofs.lemmas.Bool.Decides.{nat_tests}
use Rattle.tee_base.specs.Words.{Counter, Image, Key}
use Rattle.tee_base.proofs.Crash.{weaker}
use Rattle.store_api.specs.Volumes.{Held}
use Rattle.board.specs.Moment.{CrashImage, Moment, View, left_since, moment}
use Rattle.board.specs.declared.BoardFailed.{BoardFailed}
use Rattle.epoch.specs.Commits.{BeforeOrAfter, CommitsOver, IsMounted, IsSteady, OpensTo}
use Rattle.epoch.specs.Forms.{Root, held_by, held_in, held_of, is_sealed, leaves_of, root_of}
use Rattle.epoch.specs.Opening.{answer_at, opening_by, opening_of}
use Rattle.epoch.specs.Slots.{slot_of}
use Rattle.epoch.specs.declared.answer.OpenAnswer.{OpenAnswer}
use Rattle.epoch.specs.declared.header.Header.{Header}
use Rattle.epoch.specs.declared.header.TreeEntry.{TreeEntry}
use Rattle.epoch.specs.declared.rule.Found.{Found}
use Rattle.epoch.specs.declared.slots.Slot.{Slot}
use Rattle.epoch.specs.declared.slots.Slot.TheVariants.{Shut, Bad, Good}
use Rattle.epoch.proofs.RuleLemmas.{Counts, asked, counts}
use Rattle.epoch.proofs.StageLemmas.{blank_first}
use Rattle.tree_paths.specs.Form.{form_root, tree_form}
use Rattle.v1_volume.specs.Versions.{volume_form}
use Rattle.v1_volume.proofs.NewLemmas.{new_leaves, new_sealed}

-- a header that counts where some versions are known counts where others are that accept its own
answer_too : (knows others : ℕ → Bool) (slot : ℕ) (h : Header) (n : ℕ) (found : Found) → answer_at knows slot h n ≡ Ok (Some found) → others found.header.version ≡ true
    → answer_at others slot h n ≡ Ok (Some found)
answer_too knows others slot h n found e accepts =
    let c : Counts knows slot h n found = counts knows slot h n found e in
    let version : others h.version ≡ true = ap (λ (f : Found). others f.header.version) (sym c.is) ∙ accepts in
    let known : not (others h.version) ≡ false = ap not version in
    let least = c.least in
    let most = c.most in
    rw (known, least, most) (ap (λ (f : Found). let some : Result (Option Found) OpenAnswer = Ok (Some f) in some) (sym c.is))

counts_too : (knows others : ℕ → Bool) (first second : Slot) (n : ℕ) (found : Found) → opening_by knows first second n ≡ Ok (Some found) → others found.header.version ≡ true
    → opening_by others first second n ≡ Ok (Some found)
counts_too knows others (Bad t) second n found e accepts = absurd cc
counts_too knows others Shut (Bad t) n found e accepts = absurd cc
counts_too knows others Shut Shut n found e accepts = e
counts_too knows others Shut (Good h) n found e accepts = answer_too knows others 1 h n found e accepts
counts_too knows others (Good h) (Bad t) n found e accepts = absurd cc
counts_too knows others (Good h) Shut n found e accepts = answer_too knows others 0 h n found e accepts
counts_too knows others (Good h) (Good h') n found e accepts =
    elim (nat_lt h.sequence h'.sequence) as (λ b. (if b then answer_at knows 1 h' n else answer_at knows 0 h n) ≡ Ok (Some found)
    → (if b then answer_at others 1 h' n else answer_at others 0 h n) ≡ Ok (Some found)) [
      | true ↦ λ w. answer_too knows others 1 h' n found w accepts
      | false ↦ λ w. answer_too knows others 0 h n found w accepts
    ] e

opens_too : (knows others : ℕ → Bool) (key : Key) (image : Image) (n : ℕ) (found : Found) → opening_of knows key image n ≡ Ok (Some found) → others found.header.version ≡ true
    → opening_of others key image n ≡ Ok (Some found)
unfolding opening_of
opens_too knows others key image n found e accepts = counts_too knows others (slot_of key image 0) (slot_of key image 1) n found e accepts

-- and what is blank is blank
blank_too : (knows others : ℕ → Bool) (first second : Slot) (n : ℕ)
    → (let none : Result (Option Found) OpenAnswer = Ok None in opening_by knows first second n ≡ none → opening_by others first second n ≡ none)
blank_too knows others first second n e =
    let none : Result (Option Found) OpenAnswer = Ok None in
    let shut = blank_first knows first second n e in
    let one : opening_by knows Shut second n ≡ none = subst (λ (s : Slot). opening_by knows s second n ≡ none) shut.0 e in
    let both : opening_by knows Shut Shut n ≡ none = subst (λ (s : Slot). opening_by knows Shut s n ≡ none) shut.1 one in
    subst (λ (s : Slot). opening_by others s second n ≡ none) (sym shut.0) (subst (λ (s : Slot). opening_by others Shut s n ≡ none) (sym shut.1) both)

blank_opens : (knows others : ℕ → Bool) (key : Key) (image : Image) (n : ℕ)
    → (let none : Result (Option Found) OpenAnswer = Ok None in opening_of knows key image n ≡ none → opening_of others key image n ≡ none)
unfolding opening_of
blank_opens knows others key image n e = blank_too knows others (slot_of key image 0) (slot_of key image 1) n e

known_is : (b : Bool) → not b ≡ false → b ≡ true
known_is true e = refl
known_is false e = absurd (cc)

is_two : (v : ℕ) → (v == 2) ≡ true → v ≡ 2
is_two v e = grind (arith, nat_tests, e)

-- a header that the tree's form knows is of the second version
version_two : (key : Key) (image : Image) (n : ℕ) (found : Found) → opening_of tree_form.known key image n ≡ Ok (Some found) → found.header.version ≡ 2
unfolding opening_of
version_two key image n found e =
    is_two found.header.version (known_is (tree_form.known found.header.version) (asked tree_form.known (slot_of key image 0) (slot_of key image 1) n found e).counts.known)

-- under such a header both forms hold the same
same_found : (key : Key) (image : Image) (found : Found) → found.header.version ≡ 2 → held_by volume_form key image (Ok (Some found)) ≡ held_by tree_form key image (Ok (Some found))
same_found key image found version =
    let none : Option Held = None in
    let at : root_of found.header ≡ form_root found.header.root = ap (λ (v : ℕ). let r : Root = record { version = v; entry = found.header.root } in r) version in
    let sealed : is_sealed volume_form key image (root_of found.header) ≡ is_sealed tree_form key image (root_of found.header)
    = ap (is_sealed volume_form key image) at ∙ new_sealed key image found.header.root ∙ ap (is_sealed tree_form key image) (sym at) in
    let leaves : leaves_of volume_form key image (root_of found.header) ≡ leaves_of tree_form key image (root_of found.header)
    = ap (leaves_of volume_form key image) at ∙ new_leaves key image found.header.root ∙ ap (leaves_of tree_form key image) (sym at) in
    λ i. if (found.slot == found.header.sequence % 2) && sealed i
    then Some (record { leaves = leaves i; sequence = found.header.sequence; version = found.header.version }) else none

held_too : (key : Key) (image : Image) (n : Counter) (h : Held) (o : Result (Option Found) OpenAnswer) → opening_of tree_form.known key image n ≡ o → held_by tree_form key image o ≡ Some h
    → held_by volume_form key image (opening_of volume_form.known key image n) ≡ Some h
held_too key image n h (Ok None) opens e = ap (held_by volume_form key image) (blank_opens tree_form.known volume_form.known key image n opens) ∙ e
held_too key image n h (Ok (Some found)) opens e =
    let version : found.header.version ≡ 2 = version_two key image n found opens in
    ap (held_by volume_form key image) (opens_too tree_form.known volume_form.known key image n found opens (ap volume_form.known version))
    ∙ same_found key image found version ∙ e
held_too key image n h (Err answer) opens e = absurd (cc)

-- what the tree's form finds in what a crash left, the form of both versions finds
pub holds_too : (key : Key) (c : CrashImage) (h : Held) → held_of tree_form key c ≡ Some h → held_of volume_form key c ≡ Some h
unfolding held_in
holds_too key c h e = held_too key c.image c.counter h (opening_of tree_form.known key c.image c.counter) refl e

tree_opens : (root : TreeEntry) (n : ℕ) (key : Key) (image : Image) (o : Result (Option Found) OpenAnswer) → opening_of volume_form.known key image n ≡ o
    → OpensTo volume_form n (form_root root) o → OpensTo tree_form n (form_root root) (opening_of tree_form.known key image n)
tree_opens root n key image (Ok None) e is =
    subst (OpensTo tree_form n (form_root root)) (sym (blank_opens volume_form.known tree_form.known key image n e)) (is.0, record { version = is.1.version; sequence = is.1.sequence })
tree_opens root n key image (Ok (Some found)) e is =
    let version : found.header.version ≡ 2 = ap (λ (r : Root). r.version) is.2 in
    subst (OpensTo tree_form n (form_root root)) (sym (opens_too volume_form.known tree_form.known key image n found e (ap tree_form.known version))) is
tree_opens root n key image (Err answer) e is = absurd is

both_opens : (root : TreeEntry) (n : ℕ) (key : Key) (image : Image) (o : Result (Option Found) OpenAnswer) → opening_of tree_form.known key image n ≡ o
    → OpensTo tree_form n (form_root root) o → OpensTo volume_form n (form_root root) (opening_of volume_form.known key image n)
both_opens root n key image (Ok None) e is =
    subst (OpensTo volume_form n (form_root root)) (sym (blank_opens tree_form.known volume_form.known key image n e)) (is.0, record { version = is.1.version; sequence = is.1.sequence })
both_opens root n key image (Ok (Some found)) e is =
    let version : found.header.version ≡ 2 = ap (λ (r : Root). r.version) is.2 in
    subst (OpensTo volume_form n (form_root root)) (sym (opens_too tree_form.known volume_form.known key image n found e (ap volume_form.known version))) is
both_opens root n key image (Err answer) e is = absurd is

-- a board that is mounted so by one form is so by the other
pub tree_mounted : (key : Key) (root : TreeEntry) (h : Held) (m : Moment) → IsMounted volume_form key (form_root root) h m → IsMounted tree_form key (form_root root) h m
tree_mounted key root h m is = record {
  rests = is.rests;
  opens = tree_opens root h.sequence key m.reads (opening_of volume_form.known key m.reads h.sequence) refl is.opens;
  sealed = sym (new_sealed key m.reads root) ∙ is.sealed;
  leaves = is.leaves ∙ new_leaves key m.reads root;
  version = is.version;
}

pub both_mounted : (key : Key) (root : TreeEntry) (h : Held) (m : Moment) → IsMounted tree_form key (form_root root) h m → IsMounted volume_form key (form_root root) h m
both_mounted key root h m is = record {
  rests = is.rests;
  opens = both_opens root h.sequence key m.reads (opening_of tree_form.known key m.reads h.sequence) refl is.opens;
  sealed = new_sealed key m.reads root ∙ is.sealed;
  leaves = is.leaves ∙ sym (new_leaves key m.reads root);
  version = is.version;
}

both_done : (Keeps : List ℕ → (ℕ → List ℕ) → Type 0) (after : Held) (result : Result TreeEntry BoardFailed) (key : Key) (m : Moment)
    → IfOk result (λ entry. IsMounted tree_form key (form_root entry) after m × Keeps key m.reads)
    → IfOk result (λ entry. IsMounted volume_form key (form_root entry) after m × Keeps key m.reads)
both_done Keeps after (Ok entry) key m is = (both_mounted key entry after m is.0, is.1)
both_done Keeps after (Err e) key m is = tt

both_kept : (root : TreeEntry) (leaves : ℕ → ℕ → List ℕ) (result : Result TreeEntry BoardFailed) (key : Key) (image : Image) → OnErr result (leaves_of tree_form key image (form_root root) ≡ leaves)
    → OnErr result (leaves_of volume_form key image (form_root root) ≡ leaves)
both_kept root leaves (Ok entry) key image is = tt
both_kept root leaves (Err e) key image is = new_leaves key image root ∙ is

both_steady : (root : TreeEntry) (result : Result TreeEntry BoardFailed) (key : Key) (m : Moment) → OnErr result (IsSteady tree_form key (form_root root) m)
    → OnErr result (IsSteady volume_form key (form_root root) m)
both_steady root (Ok entry) key m is = tt
both_steady root (Err e) key m is = record { base = is.base; same = is.same; pending = is.pending }

-- a commit of the tree's form is one of the form of both versions
pub both_commits : (Keeps : List ℕ → (ℕ → List ℕ) → Type 0) (root : TreeEntry) (before after : Held) (result : Result TreeEntry BoardFailed) (old new : View)
    → CommitsOver tree_form Keeps (form_root root) before after result old new → CommitsOver volume_form Keeps (form_root root) before after result old new
both_commits Keeps root before after result old new is = record {
  crash = weaker moment left_since old new (BeforeOrAfter tree_form old.key before after) (BeforeOrAfter volume_form old.key before after)
      (λ c either. ⊎_elim (λ (e : held_of tree_form old.key c ≡ Some before). inl (holds_too old.key c before e))
      (λ (e : held_of tree_form old.key c ≡ Some after). inr (holds_too old.key c after e)) either) is.crash;
  done = both_done Keeps after result old.key new.state is.done;
  kept = both_kept root before.leaves result old.key new.state.reads is.kept;
  steady = both_steady root result old.key new.state is.steady;
}
