-- What a crash may leave of a volume is of the version that is written.
use Rattle.std.proofs.Common.{◌≡◌, ◌∙◌, ℕ, List, Option, None, Some, Err, sym, ap, subst, inl, ⊎_elim}
use Rattle.tee_base.specs.Crash.{LeavesOnly}
use Rattle.store_api.specs.Volumes.{Held, LeftByCommit, after_commit}
use Rattle.store_api.specs.declared.leaves.Leaf.{Leaf}
use Rattle.store_api.specs.declared.leaves.LeafAnswer.{LeafAnswer}
use Rattle.store_api.specs.declared.leaves.LeafAnswer.TheVariants as answers
use Rattle.board.specs.Moment.{CrashImage, View, left_since, moment}
use Rattle.epoch.specs.Forms.{held_of}
use Rattle.epoch.specs.Mounts.{MightBe}
use Rattle.epoch.specs.declared.header.TreeEntry.{TreeEntry}
use Rattle.epoch.proofs.LeftLemmas.{rests_in_use, since_earlier}
use Rattle.tree_paths.specs.Form.{form_root}
use Rattle.v1_volume.specs.Versions.{volume_form}
use Rattle.v1_volume.specs.Frame.{volume_framed}
use Rattle.tree_volume.specs.Keeping.{IsAnew, IsOpen, held_now}

version_in : Option Held → ℕ
version_in None = 0
version_in (Some held) = held.version

same_version : (a b : Held) → (let one : Option Held = Some a in one ≡ Some b) → a.version ≡ b.version
unfolding version_in
same_version a b e = ap version_in e

-- an open volume leaves what it holds
pub anew_open : (view : View) (root : TreeEntry) (sequence : ℕ) → IsOpen view root sequence → IsAnew view
anew_open view root sequence is held left =
    same_version held (held_now view root sequence) (rests_in_use volume_form volume_framed view (form_root root) sequence is (Some held) left)

-- a run of calls that leaves nothing of another version
pub anew_after : (old new : View) (P : CrashImage → Type 0) → new.key ≡ old.key → LeavesOnly moment left_since old new P
    → ((c : CrashImage) → P c → (held : Held) → held_of volume_form old.key c ≡ Some held → held.version ≡ 2) → IsAnew new
anew_after old new P key run fact held left =
    let early = since_earlier volume_form new (moment old) (moment new) (Some held) run.later left in
    fact early.0 (run.each early.0 early.1) held (ap (λ (k : List ℕ). held_of volume_form k early.0) (sym key) ∙ sym early.2)

-- one that leaves what was left before
pub anew_before : (old new : View) → new.key ≡ old.key → LeavesOnly moment left_since old new (MightBe volume_form old.key old.state) → IsAnew old → IsAnew new
anew_before old new key run anew =
    anew_after old new (MightBe volume_form old.key old.state) key run
    (λ c might held is. anew held (might.0, inl might.1, sym is ∙ might.2))

-- a commit that isn't made leaves what was held before or after it
left_version : (e : LeafAnswer) (before after : Held) (held : Held) → before.version ≡ 2 → after.version ≡ 2 → LeftByCommit (Err e) before after (Some held) → held.version ≡ 2
left_version answers.Failed before after held one two left =
    ⊎_elim
    (λ (e : Some held ≡ Some before). same_version held before e ∙ one)
    (λ (e : Some held ≡ Some after). same_version held after e ∙ two)
    left
left_version answers.Lost before after held one two left = same_version held before left ∙ one
left_version (answers.Mismatch tags) before after held one two left = same_version held before left ∙ one
left_version answers.NoMemory before after held one two left = same_version held before left ∙ one

pub anew_commit : (e : LeafAnswer) (before : Held) (region : ℕ) (named : List Leaf) (old new : View) → before.version ≡ 2 → new.key ≡ old.key
    → LeavesOnly moment left_since old new (λ c. LeftByCommit (Err e) before (after_commit region named before) (held_of volume_form old.key c)) → IsAnew new
anew_commit e before region named old new is key run =
    anew_after old new (λ c. LeftByCommit (Err e) before (after_commit region named before) (held_of volume_form old.key c)) key run
    (λ c left held same. left_version e before (after_commit region named before) held is is
    (subst (LeftByCommit (Err e) before (after_commit region named before)) same left))

pub anew_exhausted : (before : Held) (old new : View) → before.version ≡ 2 → new.key ≡ old.key
    → LeavesOnly moment left_since old new (λ c. held_of volume_form old.key c ≡ Some before) → IsAnew new
anew_exhausted before old new is key run =
    anew_after old new (λ c. held_of volume_form old.key c ≡ Some before) key run
    (λ c left held same. same_version held before (sym same ∙ left) ∙ is)
