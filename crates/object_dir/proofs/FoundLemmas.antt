-- The leaves of an honest volume as they are found, and the store that they stand for.
use Rattle.std.proofs.Common.{◌≡◌, ◌≤◌, ◌<◌, ℕ, true, false, nat_lt, List, [], ◌∷◌, Result, Ok, Err, refl, sym, ap, ◌∙◌, arith}
use Rattle.std.specs.Prelude.{◌&&◌, bytes_eq, IsTrue}
use Rattle.std.proofs.lemmas.Bool.{ltb-true}
use Rattle.std.proofs.lemmas.Bool.Decides.{nat_tests}
use Rattle.tee_base.specs.declared.limits.TheConstants.{LEAVES, MAX_HOSTS}
use Rattle.std.proofs.lemmas.List.Elements.{All-cons, All-head, All-nil, All-tail}
use Rattle.store_api.specs.Ascending.{is_above_all}
use Rattle.store_api.specs.declared.answer.StoreAnswer.{StoreAnswer}
use Rattle.store_api.specs.declared.answer.StoreAnswer.TheVariants.{NotFound, Exists, NoSpace, Lost, Failed, Corrupt, Garbled, NoMemory}
use Rattle.store_api.specs.declared.change.Change.{Change}
use Rattle.store_api.specs.declared.leaves.Leaf.{Leaf}
use Rattle.store_api.specs.Keeping.{Answers}
use Rattle.store_api.specs.Stores.{Store}
use Rattle.store_api.specs.Volumes.{Condition, VolumeKeeper, leaf_after}
use Rattle.region_plan.specs.Entries.{is_inode}
use Rattle.region_plan.specs.Planning.{IsPlanOf}
use Rattle.region_plan.specs.Plans.{ChangeMap, ChangesMap, with_leaves}
use Rattle.region_plan.specs.Reading.{IsBroken, ReadCause, refusal_of}
use Rattle.region_plan.specs.Regions.{region_of, store_of}
use Rattle.region_plan.proofs.AgreeLemmas.{inode_same, region_same}
use Rattle.region_plan.proofs.RuleLemmas.{region_store}
use Rattle.region_plan.proofs.SoundLemmas.{and_both}
use Rattle.object_dir.specs.Changing.{are_there}
use Rattle.object_dir.specs.Regions.{in_use, number_of, region_in, region_keeper}
use Rattle.object_dir.specs.declared.region.Region.{Region}
use Rattle.object_dir.proofs.UseLemmas.{laid, leaves_are}
use Rattle.object_dir.proofs.HeldLemmas.{never_breaks}

-- what is known of each volume of a kind
pub record IsLawful {V : Type 0} (K : VolumeKeeper V) : Type 0 where
  pub whole : LEAVES ≤ K.leaves
  pub tells : (v : V) → K.honest v → IsTrue K.tells_reads
  pub found : (v : V) → K.honest v → (K.condition v).lost ≡ false → (region leaf : ℕ) → region < MAX_HOSTS → leaf < K.leaves → K.text v region leaf ≡ (K.held v).leaves region leaf

-- leaves that agree stand for the same
alike : (one two : ℕ → List ℕ) → ((i : ℕ) → i < in_use.leaves → one i ≡ two i) → region_of in_use one ≡ region_of in_use two
alike one two same = region_same in_use two one (record { map = λ i below. same i (let more = laid.more in omega (arith, more, below)); used = λ i below is. same i below }) laid

-- and have the same inodes
inode_alike : (one two : ℕ → List ℕ) → ((i : ℕ) → i < in_use.leaves → one i ≡ two i) → (i : ℕ) → i < in_use.leaves → is_inode in_use one i ≡ is_inode in_use two i
inode_alike one two same = inode_same in_use two one (record { map = λ i below. same i (let more = laid.more in omega (arith, more, below)); used = λ i below is. same i below }) laid

-- an answer of a volume that isn't lost
pub answers_working : {A : Type 0} (result stated : Result A StoreAnswer) (old new : Condition) → ReadCause (refusal_of result) old new
    → (old.lost ≡ false → Answers result stated) → Answers result stated
answers_working (Ok a) stated old new cause told = told cause.0
answers_working (Err NotFound) stated old new cause told = told cause.0
answers_working (Err Exists) stated old new cause told = told cause.0
answers_working (Err NoSpace) stated old new cause told = told cause.0
answers_working (Err Lost) stated old new cause told = tt
answers_working (Err Failed) stated old new cause told = tt
answers_working (Err (Corrupt tags)) stated old new cause told = tt
answers_working (Err (Garbled leaf)) stated old new cause told = tt
answers_working (Err NoMemory) stated old new cause told = tt

-- a number above all of them, and a greater one
pub above_more : (named : List Leaf) (n m : ℕ) → n ≤ m → is_above_all named n ≡ true → is_above_all named m ≡ true
above_more [] n m le above = refl
above_more (leaf ∷ named) n m le above =
    let parts = and_both (nat_lt leaf.number n) (is_above_all named n) above in
    let here : nat_lt leaf.number m ≡ true = (let x = ltb-true leaf.number n parts.0 in grind (arith, nat_tests)) in
    rw here (above_more named n m le parts.1)

-- leaves that are there, where others agree with them
pub there_alike : (named : List Leaf) (one two : ℕ → List ℕ) → is_above_all named in_use.leaves ≡ true → ((i : ℕ) → i < in_use.leaves → one i ≡ two i) → are_there one named ≡ are_there two named
there_alike [] one two below same = refl
there_alike (leaf ∷ named) one two below same =
    let parts = and_both (nat_lt leaf.number in_use.leaves) (is_above_all named in_use.leaves) below in
    ap (λ (x : List ℕ). bytes_eq x leaf.bytes && are_there one named) (same leaf.number (ltb-true leaf.number in_use.leaves parts.0))
    ∙ ap (λ b. bytes_eq (two leaf.number) leaf.bytes && b) (there_alike named one two parts.1 same)

module _ {V : Type 0} (K : VolumeKeeper V) (laws : IsLawful K) (r : Region V) (h : K.honest r.volume.now) (works : (K.condition r.volume.now).lost ≡ false) where
  abbrev text : ℕ → List ℕ
  text = K.text r.volume.now r.number

  abbrev held : ℕ → List ℕ
  held = (K.held r.volume.now).leaves r.number

  -- each leaf is found as it is held
  pub agrees : (i : ℕ) → i < in_use.leaves → text i ≡ held i
  agrees i below = laws.found r.volume.now h works r.number i r.fits (omega (arith, below, laws.whole, leaves_are))

  -- so what is found stands for what is held
  pub stands_found : (store : Store) → region_in r.number (K.held r.volume.now) ≡ Ok store → region_of in_use text ≡ Ok store
  stands_found store is = alike text held agrees ∙ is

  after_alike : (named : List Leaf) → region_of in_use (with_leaves named held) ≡ region_of in_use (with_leaves named text)
  after_alike named = alike (with_leaves named held) (with_leaves named text) (λ i below. ap (λ (old : List ℕ). leaf_after named i old) (sym (agrees i below)))

  changes_alike : (named : List Leaf) → ChangeMap in_use text named → ChangeMap in_use held named
  changes_alike [] all = All-nil (λ leaf. ChangesMap in_use held leaf)
  changes_alike (leaf ∷ named) all =
      All-cons (λ leaf. ChangesMap in_use held leaf) leaf named
      (λ low same. All-head (λ leaf. ChangesMap in_use text leaf) leaf named all low (same ∙ sym (agrees leaf.number (let more = laid.more in omega (arith, more, low)))))
      (changes_alike named (All-tail (λ leaf. ChangesMap in_use text leaf) leaf named all))

  -- a plan for the leaves that are found is one for those that are held
  pub plan_held : (c : Change) (store : Store) (named : List Leaf) → IsPlanOf in_use text store c named → IsPlanOf in_use held store c named
  plan_held c store named plan = record {
    after = plan.after;
    changes = plan.changes;
    stands = after_alike named ∙ plan.stands;
    few = plan.few;
    changed = changes_alike named plan.changed;
    told = λ i below now unnamed.
        sym (inode_alike text held agrees i below) ∙ plan.told i below
        (sym (inode_alike (with_leaves named held) (with_leaves named text) (λ j low. ap (λ (old : List ℕ). leaf_after named j old) (sym (agrees j low))) i below) ∙ now) unnamed;
  }

  pub store_found : (store : Store) → region_in r.number (K.held r.volume.now) ≡ Ok store → store_of in_use text ≡ store
  store_found store is = sym (region_store in_use text store (stands_found store is))

  -- no leaf of a region that stands for a store breaks a rule
  pub broken_never : (store : Store) → region_in r.number (K.held r.volume.now) ≡ Ok store → (leaf : ℕ) → IsBroken (region_keeper K) number_of in_use r leaf → ⊥
  broken_never store is leaf broken = never_breaks text store (stands_found store is) leaf broken.below (broken.breaks (laws.tells r.volume.now h))
