-- What a volume holds and answers, and what a crash may leave of it.
use Rattle.std.specs.Prelude.{ℕ, ◌≡◌, ◌≢◌, ◌+◌, ◌<◌, ◌≤◌, ◌⊎◌, ◌==◌, Bool, true, false, List, [], ◌∷◌, Option, None, Some, Result, Ok, Err, IsTrue, OnOk, if◌then◌else◌}
use Rattle.tee_base.specs.Crash.{LeavesOnly}
use Rattle.tee_base.specs.Faults.{Rose}
use Rattle.store_api.specs.declared.answer.Mismatch.{Mismatch}
use Rattle.store_api.specs.declared.leaves.Leaf.{Leaf}
use Rattle.store_api.specs.declared.leaves.LeafAnswer.{LeafAnswer}
use Rattle.store_api.specs.declared.leaves.LeafAnswer.TheVariants as answers
use Rattle.store_api.specs.Foundations.{Foundation}
use Rattle.tee_base.specs.Words.{Leaves, Sequence}

-- what a volume holds: the bytes of each leaf by region and leaf number, the sequence of the last acknowledged commit, and the version
-- of the format, which says what the leaves of a region stand for
pub record Held : Type 0 where
  pub leaves : Leaves
  pub sequence : Sequence
  pub version : ℕ

-- what is known of a volume whatever it stands on: whether it is lost, how often what it stands on failed, how many writes were made to
-- that, both as far as their type goes, and that thing
pub record Condition : Type 0 where
  pub lost : Bool
  pub faults : ℕ
  pub writes : ℕ
  pub foundation : Foundation

-- what contracts see of a volume
pub record VolumeKeeper (V : Type 0) : Type 1 where
  -- what reads of it give is known
  pub tells_reads : Bool
  -- how many leaves a region has
  pub leaves : ℕ
  pub held : V → Held
  pub condition : V → Condition
  -- what it stands on keeps to its rules
  pub honest_below : V → Type 0
  -- so it does, and what is kept there is well formed
  pub honest : V → Type 0
  -- a leaf as what is found on the way to it decrypts it, by region and leaf number
  pub text : V → ℕ → ℕ → List ℕ
  -- the first two tags that differ on the way to a leaf, by region and leaf number
  pub damage : V → ℕ → ℕ → Option Mismatch
  -- a clock that never falls
  pub moment : V → ℕ
  -- what a crash at some moment since the given one may have left: nothing that can be opened, or this
  pub left_since : V → ℕ → Option Held → Type 0

-- when each answer comes, and whether the volume is lost afterwards
abbrev pub LeafCause : {A : Type 0} → Result A LeafAnswer → Condition → Condition → Type 0
LeafCause (Err answers.Lost) old new = (old.lost ≡ true) × (new.lost ≡ true)
LeafCause (Err answers.Failed) old new = (old.lost ≡ false) × (new.lost ≡ true) × Rose old.faults new.faults
LeafCause (Err (answers.Mismatch tags)) old new = (old.lost ≡ false) × (new.lost ≡ false) × (tags.found ≢ tags.kept)
LeafCause _ old new = (old.lost ≡ false) × (new.lost ≡ false)

-- a fact that holds unless the call failed
abbrev pub UnlessFailed : {A : Type 0} → Result A LeafAnswer → Type 0 → Type 0
UnlessFailed (Err answers.Failed) fact = Unit {0}
UnlessFailed _ fact = fact

-- the count of faults doesn't fall, and the volume stands where it stood, with no order made
pub record HasLeafCause {A : Type 0} (result : Result A LeafAnswer) (old new : Condition) : Type 0 where
  pub cause : LeafCause result old new
  pub later : old.faults ≤ new.faults
  -- nothing fails in a call that has another answer
  pub unfailed : UnlessFailed result (new.faults ≡ old.faults)
  pub foundation : new.foundation ≡ old.foundation

-- an answer of damage, if it is one, is of tags that meet this
abbrev pub IfMismatch : {A : Type 0} → Result A LeafAnswer → (Mismatch → Type 0) → Type 0
IfMismatch (Err (answers.Mismatch tags)) fact = fact tags
IfMismatch _ fact = Unit {0}

-- no two tags were found to differ
abbrev pub IsUndamaged : {A : Type 0} → Result A LeafAnswer → Type 0
IsUndamaged result = IfMismatch result (λ tags. ⊥)

-- a leaf that was read, or not, with this damage
abbrev pub ShowsLeaf : {A : Type 0} → Result A LeafAnswer → Option Mismatch → Type 0
ShowsLeaf (Ok done) damage = damage ≡ None
ShowsLeaf (Err (answers.Mismatch tags)) damage = damage ≡ Some tags
ShowsLeaf _ damage = Unit {0}

-- the bytes that a commit gives a leaf, if it names the leaf, else those that it had
abbrev pub leaf_after : List Leaf → ℕ → List ℕ → List ℕ
leaf_after [] number old = old
leaf_after (leaf ∷ leaves) number old = if leaf.number == number then leaf.bytes else leaf_after leaves number old

-- just the named leaves of a region replaced
abbrev pub with_named_leaves : ℕ → List Leaf → Leaves → ℕ → ℕ → List ℕ
with_named_leaves region named leaves r l = if r == region then leaf_after named l (leaves r l) else leaves r l

-- what a volume holds after a commit: the version stays
abbrev pub after_commit : ℕ → List Leaf → Held → Held
after_commit region named held = record { leaves = with_named_leaves region named held.leaves; sequence = held.sequence + 1; version = held.version }

-- what a commit answers and leaves
abbrev pub Commits : Result ℕ LeafAnswer → ℕ → List Leaf → Held → Held → Type 0
Commits (Ok sequence) region named old new = (new ≡ after_commit region named old) × (sequence ≡ old.sequence + 1)
Commits (Err answer) region named old new = new ≡ old

-- the sequence rises with an acknowledged commit, which answers it, and at nothing else
abbrev pub IsNumbered : Result ℕ LeafAnswer → ℕ → ℕ → Type 0
IsNumbered (Ok sequence) old new = (sequence ≡ old + 1) × (new ≡ old + 1)
IsNumbered (Err answer) old new = new ≡ old

-- a fact that holds where a commit is refused before it writes anything
abbrev pub IfUnwritten : Result ℕ LeafAnswer → Type 0 → Type 0
IfUnwritten (Ok sequence) fact = Unit {0}
IfUnwritten (Err answers.Failed) fact = Unit {0}
IfUnwritten (Err _) fact = fact

-- what a crash within a commit may leave, or after it failed
abbrev pub LeftByCommit : Result ℕ LeafAnswer → Held → Held → Option Held → Type 0
LeftByCommit (Ok sequence) before after o = (o ≡ Some before) ⊎ (o ≡ Some after)
LeftByCommit (Err answers.Failed) before after o = (o ≡ Some before) ⊎ (o ≡ Some after)
LeftByCommit _ before after o = o ≡ Some before

module _ {V : Type 0} (K : VolumeKeeper V) where
  -- a crash now leaves just this
  pub record RestsAt (volume : V) (held : Held) : Type 0 where
    pub only : (o : Option Held) → K.left_since volume (K.moment volume) o → o ≡ Some held

  -- the call adds nothing to what a crash may leave, and takes no time
  pub record AddsNothing (old new : V) : Type 0 where
    pub same : K.moment new ≡ K.moment old
    pub none : (t : ℕ) (o : Option Held) → K.left_since new t o → K.left_since old t o

  -- what every call of a volume promises
  pub record IsVolumeCall {A : Type 0} (result : Result A LeafAnswer) (old new : V) : Type 0 where
    pub cause : HasLeafCause result (K.condition old) (K.condition new)
    pub below : K.honest_below old → K.honest_below new
    pub honest : K.honest old → K.honest new × IsUndamaged result
    -- of a crash: over a lost volume nothing new may be left, and nothing of the past is forgotten
    pub quiet : IsTrue (K.condition old).lost → AddsNothing old new
    pub past : K.honest old → (t : ℕ) (o : Option Held) → t ≤ K.moment old → K.left_since old t o → K.left_since new t o

  -- a leaf is read into these bytes
  pub record ReadsLeaf {A : Type 0} (region number : ℕ) (bytes : List ℕ) (result : Result A LeafAnswer) (old new : V) : Type 0 where
    -- the leaf is what is found, and what is found stays
    pub leaf : IsTrue K.tells_reads → OnOk result (bytes ≡ K.text old region number)
    pub text : IsTrue K.tells_reads → K.text new ≡ K.text old
    pub same : K.honest old → K.held new ≡ K.held old
    pub sequence : (K.held new).sequence ≡ (K.held old).sequence
    pub writes : (K.condition new).writes ≡ (K.condition old).writes
    -- Mismatch comes exactly where tags on the way to the leaf differ, with the first two, which differ afterwards too
    pub shows : IsTrue K.tells_reads → ShowsLeaf result (K.damage old region number)
    pub damage : IsTrue K.tells_reads → K.damage new ≡ K.damage old
    pub call : IsVolumeCall result old new
    -- a crash leaves what is held
    pub crash : K.honest old → (K.condition old).lost ≡ false → LeavesOnly K.moment K.left_since old new (λ o. o ≡ Some (K.held old))

  -- these leaves of a region are replaced, all or none
  pub record CommitsLeaves (region : ℕ) (named : List Leaf) (result : Result ℕ LeafAnswer) (old new : V) : Type 0 where
    pub committed : K.honest old → Commits result region named (K.held old) (K.held new)
    pub sequence : IsNumbered result (K.held old).sequence (K.held new).sequence
    -- Mismatch and want of memory come before anything is written
    pub unwritten : IfUnwritten result ((K.condition new).writes ≡ (K.condition old).writes)
    -- Mismatch tells of the damage of some leaf of the region
    pub shows : IsTrue K.tells_reads → IfMismatch result (λ tags. (number : ℕ) × (number < K.leaves) × (K.damage new region number ≡ Some tags))
    pub call : IsVolumeCall result old new
    -- a crash leaves what was held before, or that with the leaves replaced
    pub crash : K.honest old → (K.condition old).lost ≡ false → LeavesOnly K.moment K.left_since old new (LeftByCommit result (K.held old) (after_commit region named (K.held old)))
