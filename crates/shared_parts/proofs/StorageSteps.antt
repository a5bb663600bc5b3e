-- The value of the storage before a turn and after it.
use Rattle.app_api.specs.Behaviours.{Behaviour}
use Rattle.std.proofs.Common.{◌≡◌, ◌≢◌, ◌<◌, ◌≤◌, ◌-◌, ◌^◌, ◌++◌, ℕ, Bool, true, false, List, [], ◌∷◌, Option, None, Some, length, map, set, get_or, refl}
use Rattle.std.proofs.Common.{sym, subst, ◌∙◌, ap, inl, inr, ⊎_elim, append-nil, arith}
use Rattle.std.specs.Prelude.{slice_get}
use Rattle.std.specs.declared.snapshot.Snapshot.{Snapshot}
use Rattle.tee_base.specs.Faults.{Rose}
use Rattle.store_api.specs.Keeping.{Keeper}
use Rattle.store_api.specs.Volumes.{Condition, Held, RestsAt, VolumeKeeper}
use Rattle.object_dir.specs.Kept.{IsHeld}
use Rattle.object_dir.specs.KeptDirs.{kept_keeper}
use Rattle.object_dir.specs.declared.kept_dir.KeptDir.{KeptDir}
use Rattle.region_plan.specs.declared.directory.Directory.{Directory}
use Rattle.alone.specs.declared.reply.Reply.{Reply}
use Rattle.alone.specs.declared.turn.TurnKind.{TurnKind}
use Rattle.alone.specs.declared.turn.TurnKind.TheVariants as kinds
use Rattle.alone.specs.Logs.{KeptLog, machine_by}
use Rattle.alone.specs.Machine.{Machine}
use Rattle.alone.specs.Step.{step}
use Rattle.app_side.specs.Represents.{Represents, event_of, is_lost}
use Rattle.app_side.specs.declared.side.AppSide.{AppSide}
use Rattle.tee_core.proofs.SideLemmas.{get_there, map_set, set_there}
use Rattle.tee_core.proofs.Turning.{below_kept, counts_kept}
use Rattle.tee_core.specs.Directories.{AreHeld, kept_at}
use Rattle.tee_core.specs.Turning.{TurnsOver}
use Rattle.shared_parts.proofs.StepLemmas.{MakesStep, born_few, born_spare, entry_made}
use Rattle.shared_parts.proofs.StorageLemmas.{part_here, part_lost, part_plain, parts_lost_set, parts_set, stored_lost, stored_plain, turn_held, turn_may, turn_stands, turn_told}
use Rattle.shared_parts.specs.InStep.{HasPart, IsKeptBy, IsReserved, StoragePart, part_of}
use Rattle.shared_parts.specs.StorageParts.{AreLosses, IsMarked, IsStorage, IsStoredFor, KeepsStorage, LostBy, Opened, StorageEntry, StorageView, first_of, is_lost_at, loss_after}
use Rattle.shared_parts.specs.StorageParts.{losses_by, losses_in, no_part, part_at, part_by, parts_by, parts_from, trail_by}
use Rattle.shared_parts.specs.StorageTurns.{TurnsLogged}
use Rattle.shared_parts.specs.declared.storage.Loss.{Loss}
use Rattle.std.proofs.lemmas.List.{length-map, length-set}
use Rattle.std.proofs.lemmas.Option.{get_or_from_slice_get}

-- ---- losses

-- the trail holds a loss exactly where the volume is lost
pub lost_is : {V A : Type 0} (known : Option (Loss V A)) (opened now : Condition) → AreLosses (losses_in known) opened now → is_lost_at (losses_in known) ≡ now.lost
lost_is None opened now are = sym are
lost_is (Some loss) opened now are = sym are.0

-- a count that is greater than a later one is greater than an earlier one
rose_since : (first old new : ℕ) → first ≤ old → Rose old new → Rose first new
rose_since first old new le rose = ⊎_elim (λ (lt : old < new). inl (omega (arith, le, lt))) (λ (at : new ≡ 2 ^ 64 - 1). inr at) rose

module _ {V A : Type 0} (K : VolumeKeeper V) (behaviour : Behaviour A) (app i : ℕ) (replies : List Reply) (before after : AppSide A) (taken kept : Option Directory) (old new : V) where
  abbrev Turns : TurnKind → Type 0
  Turns kind = TurnsOver K behaviour app i kind replies before after taken kept old new

  abbrev D : Keeper (KeptDir V)
  D = kept_keeper K

  lost_before : (kind : TurnKind) (t : Turns kind) → (D.status t.dir_before).lost ≡ (K.condition old).lost
  lost_before kind t = ap (λ (v : V). (K.condition v).lost) t.over_old.same_volume

  lost_after : (kind : TurnKind) (t : Turns kind) → (D.status t.dir_after).lost ≡ (K.condition new).lost
  lost_after kind t = ap (λ (v : V). (K.condition v).lost) t.over_new.same_volume

  -- a turn that didn't lose the storage leaves whether it is lost
  pub works_alike : (kind : TurnKind) → ((changes : Bool) → kind ≢ kinds.Lost changes) → Turns kind → (K.condition new).lost ≡ (K.condition old).lost
  works_alike kinds.Plain served t = sym (lost_after kinds.Plain t) ∙ t.turn.status.cause ∙ lost_before kinds.Plain t
  works_alike (kinds.Lost changes) served t = absurd (served changes refl)
  works_alike kinds.Starved served t = sym (lost_after kinds.Starved t) ∙ t.turn.status.cause ∙ lost_before kinds.Starved t
  works_alike kinds.Corrupted served t = sym (lost_after kinds.Corrupted t) ∙ t.turn.status.cause.1 ∙ sym t.turn.status.cause.0 ∙ lost_before kinds.Corrupted t

  -- one that lost it found it there
  pub was_there : (changes : Bool) → Turns (kinds.Lost changes) → (K.condition old).lost ≡ false
  was_there changes t = sym (lost_before (kinds.Lost changes) t) ∙ t.turn.status.cause.0

  pub is_gone : (changes : Bool) → Turns (kinds.Lost changes) → (K.condition new).lost ≡ true
  is_gone changes t = sym (lost_after (kinds.Lost changes) t) ∙ t.turn.status.cause.1

  pub told_lost : (kind : TurnKind) (t : Turns kind) → is_lost after ≡ (K.condition new).lost
  told_lost kind t = t.turn.lost ∙ lost_after kind t

-- ---- the parts

-- the part at a place is that of the volume there
pub part_is : {V A : Type 0} (K : VolumeKeeper V) (behaviour : Behaviour A) (loss : Option (Loss V A)) (app : ℕ) (values : List V) (v : V) → slice_get values app ≡ Some v
    → part_at (parts_from K behaviour loss 0 values) app ≡ part_by K behaviour loss app v
part_is K behaviour loss app values v there =
    get_or_from_slice_get (parts_from K behaviour loss 0 values) app (part_by K behaviour loss app v) no_part (part_here K behaviour loss 0 app app values v (omega arith) there)

module _ {V A : Type 0} (K : VolumeKeeper V) (behaviour : Behaviour A) (app : ℕ) (values : List V) (new : V) (found : Loss V A) (named : found.app ≡ app) where
  -- one part changes
  pub parts_after : (known : Option (Loss V A)) (kind : TurnKind) → ((changes : Bool) → kind ≡ kinds.Lost changes → known ≡ None)
      → parts_from K behaviour (loss_after known kind found) 0 (set values app new)
      ≡ set (parts_from K behaviour known 0 values) app (part_by K behaviour (loss_after known kind found) app new)
  parts_after known kinds.Plain none = parts_set K behaviour known 0 app app values new (omega arith)
  parts_after None (kinds.Lost changes) none =
      parts_lost_set K behaviour found 0 app values new (let e = named in omega (arith, e))
      ∙ ap (λ j. set (parts_from K behaviour (let n : Option (Loss V A) = None in n) 0 values) app (part_by K behaviour (Some found) j new)) named
  parts_after (Some loss) (kinds.Lost changes) none = absurd (let e : Some loss ≡ None = none changes refl in cc)
  parts_after known kinds.Starved none = parts_set K behaviour known 0 app app values new (omega arith)
  parts_after known kinds.Corrupted none = parts_set K behaviour known 0 app app values new (omega arith)

-- what a turn leaves of an application that has its part
pub record Leaves {V A : Type 0} (K : VolumeKeeper V) (behaviour : Behaviour A) (app i : ℕ) (kind : TurnKind) (known : Option (Loss V A)) (values : List V) (new : V)
    (m : Machine A) : Type 0 where
  pub stored : IsStoredFor K A (parts_from K behaviour known 0 (set values app new)) new
  pub part : part_by K behaviour known app new ≡ part_of (step behaviour m (event_of kind i)).machine

module _ {V A : Type 0} (K : VolumeKeeper V)
    (rests : (v : V) → K.honest v → (K.condition v).lost ≡ false → RestsAt K v (K.held v))
    (since : (v : V) (t u : ℕ) (o : Option Held) → t ≤ u → K.left_since v u o → K.left_since v t o)
    (behaviour : Behaviour A) (values : List V) (app i : ℕ) (replies : List Reply) (before after : AppSide A)
    (taken kept : Option Directory) (old new : V) (m : Machine A) (stands : Represents before m) (right : IsHeld ((K.held old).leaves app) taken)
    (v : V) (there : slice_get values app ≡ Some v) (found : Loss V A) (named : found.app ≡ app) (at : found.instance ≡ i) (side_is : found.side.value ≡ before)
    (volume_is : found.volume.value ≡ old) where
  left_plain : (known : Option (Loss V A)) (kind : TurnKind) → ((changes : Bool) → kind ≢ kinds.Lost changes) → part_by K behaviour known app v ≡ part_of m
      → IsStoredFor K A (parts_from K behaviour known 0 values) old → TurnsOver K behaviour app i kind replies before after taken kept old new → Leaves K behaviour app i kind known values new m
  left_plain known kind served own was t = record {
    stored = stored_plain K rests since behaviour values app i kind replies before after taken kept old new m stands right t known v there own was served;
    part = part_plain K rests since behaviour values app i kind replies before after taken kept old new m stands right t known v there own was served;
  }

  pub leaves : (known : Option (Loss V A)) (kind : TurnKind) → ((changes : Bool) → kind ≡ kinds.Lost changes → known ≡ None) → part_by K behaviour known app v ≡ part_of m
      → IsStoredFor K A (parts_from K behaviour known 0 values) old → TurnsOver K behaviour app i kind replies before after taken kept old new
      → Leaves K behaviour app i kind (loss_after known kind found) values new m
  leaves known kinds.Plain none own was t = left_plain known kinds.Plain (λ changes is. absurd (let e : kinds.Plain ≡ kinds.Lost changes = is in cc)) own was t
  leaves None (kinds.Lost changes) none own was t = record {
    stored = stored_lost K rests since behaviour values app i (kinds.Lost changes) replies before after taken kept old new m stands right t changes refl
        found v there own was named at side_is volume_is;
    part = part_lost K rests since behaviour values app i (kinds.Lost changes) replies before after taken kept old new m stands right t changes refl found v there own was named at side_is volume_is;
  }
  leaves (Some loss) (kinds.Lost changes) none own was t = absurd (let e : Some loss ≡ None = none changes refl in cc)
  leaves known kinds.Starved none own was t = left_plain known kinds.Starved (λ changes is. absurd (let e : kinds.Starved ≡ kinds.Lost changes = is in cc)) own was t
  leaves known kinds.Corrupted none own was t = left_plain known kinds.Corrupted (λ changes is. absurd (let e : kinds.Corrupted ≡ kinds.Lost changes = is in cc)) own was t

-- ---- the loss

module _ {V A : Type 0} (K : VolumeKeeper V) (behaviour : Behaviour A) (app i : ℕ) (replies : List Reply) (before after : AppSide A) (taken kept : Option Directory) (opened old new : V)
    (found : Loss V A)
    (faults_are : found.faults ≡ (K.condition new).faults) where
  -- a turn that lost the storage found no loss
  pub none_known : (known : Option (Loss V A)) (kind : TurnKind) → AreLosses (losses_in known) (K.condition opened) (K.condition old)
      → TurnsOver K behaviour app i kind replies before after taken kept old new → (changes : Bool) → kind ≡ kinds.Lost changes → known ≡ None
  none_known None kind lost t changes is = refl
  none_known (Some loss) kind lost t changes is =
      let there = was_there K behaviour app i replies before after taken kept old new changes (subst (λ (k : TurnKind). TurnsOver K behaviour app i k replies before after taken kept old new) is t) in
      absurd (let e : true ≡ false = sym lost.0 ∙ there in cc)

  -- the losses go on
  still : (known : Option (Loss V A)) → (K.condition new).lost ≡ (K.condition old).lost → (K.condition old).faults ≤ (K.condition new).faults
      → AreLosses (losses_in known) (K.condition opened) (K.condition old) → AreLosses (losses_in known) (K.condition opened) (K.condition new)
  still None same later lost = same ∙ lost
  still (Some loss) same later lost = (same ∙ lost.0, lost.1, let le = lost.2 in omega (arith, le, later))

  pub losses_after : (known : Option (Loss V A)) (kind : TurnKind) → (K.condition opened).faults ≤ (K.condition old).faults → AreLosses (losses_in known) (K.condition opened) (K.condition old)
      → TurnsOver K behaviour app i kind replies before after taken kept old new → AreLosses (losses_in (loss_after known kind found)) (K.condition opened) (K.condition new)
  losses_after known kinds.Plain first lost t =
      still known (works_alike K behaviour app i replies before after taken kept old new kinds.Plain (λ changes is. absurd (let e : kinds.Plain ≡ kinds.Lost changes = is in cc)) t)
      (counts_kept K behaviour app i kinds.Plain replies before after taken kept old new t).faults lost
  losses_after known (kinds.Lost changes) first lost t =
      let counts = counts_kept K behaviour app i (kinds.Lost changes) replies before after taken kept old new t in
      let rose : Rose (K.condition opened).faults (K.condition new).faults = rose_since (K.condition opened).faults (K.condition old).faults (K.condition new).faults first counts.rose in (
        is_gone K behaviour app i replies before after taken kept old new changes t,
        subst (λ n. Rose (K.condition opened).faults n) (sym faults_are) rose,
        omega (arith, faults_are),
      )
  losses_after known kinds.Starved first lost t =
      still known (works_alike K behaviour app i replies before after taken kept old new kinds.Starved (λ changes is. absurd (let e : kinds.Starved ≡ kinds.Lost changes = is in cc)) t)
      (counts_kept K behaviour app i kinds.Starved replies before after taken kept old new t).faults lost
  losses_after known kinds.Corrupted first lost t =
      still known (works_alike K behaviour app i replies before after taken kept old new kinds.Corrupted (λ changes is. absurd (let e : kinds.Corrupted ≡ kinds.Lost changes = is in cc)) t)
      (counts_kept K behaviour app i kinds.Corrupted replies before after taken kept old new t).faults lost

-- what stands in the trail behind the opening
losses_more : {V A : Type 0} (known : Option (Loss V A)) (kind : TurnKind) (found : Loss V A) (app faults : ℕ) → found.app ≡ app → found.faults ≡ faults
    → ((changes : Bool) → kind ≡ kinds.Lost changes → known ≡ None) → losses_in (loss_after known kind found) ≡ losses_in known ++ losses_by app faults kind
losses_more known kinds.Plain found app faults named counted none = sym (append-nil (losses_in known))
losses_more {V} None (kinds.Lost changes) found app faults named counted none =
    ap (λ k. (let e : StorageEntry V = LostBy k found.faults in e) ∷ []) named ∙ ap (λ n. (let e : StorageEntry V = LostBy app n in e) ∷ []) counted
losses_more (Some loss) (kinds.Lost changes) found app faults named counted none = absurd (let e : Some loss ≡ None = none changes refl in cc)
losses_more known kinds.Starved found app faults named counted none = sym (append-nil (losses_in known))
losses_more known kinds.Corrupted found app faults named counted none = sym (append-nil (losses_in known))

-- ---- the value

-- a turn as the storage's method makes it: what it found, and what it left
pub record IsMade {V A : Type 0} (K : VolumeKeeper V) (behaviour : Behaviour A) (app client i : ℕ) (kind : TurnKind) (known : Option (Loss V A)) (found : Loss V A)
    (seen : List (Snapshot V)) (last : Snapshot V) (dirs then_dirs : List (Option Directory)) (taken kept : Option Directory) (opened old new : V) (before after : AppSide A)
    (log more : KeptLog) : Type 0 where
  pub there : app < length seen
  pub last_is : last.value ≡ new
  pub app_is : found.app ≡ app
  pub instance_is : found.instance ≡ i
  pub faults_are : found.faults ≡ (K.condition new).faults
  pub side_is : found.side.value ≡ before
  pub volume_is : found.volume.value ≡ old
  pub reserved : IsReserved 3 before log
  pub taken_is : taken ≡ kept_at dirs app
  pub kept_is : kept_at then_dirs app ≡ kept
  pub others_are : (other : ℕ) → other ≢ app → kept_at then_dirs other ≡ kept_at dirs other
  pub was : IsStorage K (length seen) old opened known dirs (parts_by K behaviour known seen)
  pub turn : TurnsLogged K behaviour app client i kind before after log more taken kept old new
  pub part : IsMarked K (Opened (length seen) opened) → HasPart before (part_at (parts_by K behaviour known seen) app)

module _ {V A : Type 0} (K : VolumeKeeper V)
    (rests : (v : V) → K.honest v → (K.condition v).lost ≡ false → RestsAt K v (K.held v))
    (since : (v : V) (t u : ℕ) (o : Option Held) → t ≤ u → K.left_since v u o → K.left_since v t o)
    (behaviour : Behaviour A) (app client i : ℕ) (kind : TurnKind) (known : Option (Loss V A)) (found : Loss V A) (seen : List (Snapshot V)) (last : Snapshot V)
    (dirs then_dirs : List (Option Directory)) (taken kept : Option Directory) (opened old new : V) (before after : AppSide A) (log more : KeptLog)
    (made : IsMade K behaviour app client i kind known found seen last dirs then_dirs taken kept opened old new before after log more) where
  abbrev values : List V
  values = map (λ s. s.value) seen

  abbrev then : Option (Loss V A)
  then = loss_after known kind found

  abbrev t : TurnsOver K behaviour app i kind made.turn.replies before after taken kept old new
  t = made.turn.turn

  values_are : map (λ s. s.value) (set seen app last) ≡ set values app new
  values_are = map_set (λ s. s.value) seen app last ∙ ap (λ (w : V). set values app w) made.last_is

  within : app < length values
  within = let lt = made.there in let same = length-map seen (λ (s : Snapshot V). s.value) in omega (arith, lt, same)

  abbrev was_seen : V
  was_seen = get_or values app old

  seen_there : slice_get values app ≡ Some was_seen
  seen_there = get_there values app old within

  none : (changes : Bool) → kind ≡ kinds.Lost changes → known ≡ None
  none = none_known K behaviour app i made.turn.replies before after taken kept opened old new found made.faults_are known kind made.was.lost t

  parts_then : parts_by K behaviour then (set seen app last) ≡ set (parts_by K behaviour known seen) app (part_by K behaviour then app new)
  parts_then = ap (λ (vs : List V). parts_from K behaviour then 0 vs) values_are ∙ parts_after K behaviour app values new found made.app_is known kind none

  part_then : part_at (parts_by K behaviour then (set seen app last)) app ≡ part_by K behaviour then app new
  part_then =
      ap (λ (vs : List V). part_at (parts_from K behaviour then 0 vs) app) values_are
      ∙ part_is K behaviour then app (set values app new) new (set_there values app new within)

  part_before : part_at (parts_by K behaviour known seen) app ≡ part_by K behaviour known app was_seen
  part_before = part_is K behaviour known app values was_seen seen_there

  -- one part changes
  pub others_then : parts_by K behaviour then (set seen app last) ≡ set (parts_by K behaviour known seen) app (part_at (parts_by K behaviour then (set seen app last)) app)
  others_then = parts_then ∙ ap (λ (p : StoragePart). set (parts_by K behaviour known seen) app p) (sym part_then)

  length_then : length (set seen app last) ≡ length seen
  length_then = length-set seen app last

  -- the trail goes on
  pub trail_then : trail_by (length (set seen app last)) opened then ≡ trail_by (length seen) opened known ++ losses_by app (K.condition new).faults kind
  trail_then =
      ap (λ n. trail_by n opened then) length_then
      ∙ ap (λ (ls : List (StorageEntry V)). Opened (length seen) opened ∷ ls) (losses_more known kind found app (K.condition new).faults made.app_is made.faults_are none)

  module _ (marked : IsMarked K (Opened (length seen) opened)) (m : Machine A) (stands : Represents before m) (own : part_at (parts_by K behaviour known seen) app ≡ part_of m) where
    own_was : part_by K behaviour known app was_seen ≡ part_of m
    own_was = sym part_before ∙ own

    right : IsHeld ((K.held old).leaves app) taken
    right = subst (λ (o : Option Directory). IsHeld ((K.held old).leaves app) o) (sym made.taken_is) (made.was.held marked app)

    left : Leaves K behaviour app i kind then values new m
    left = leaves K rests since behaviour values app i made.turn.replies before after taken kept old new m stands right was_seen seen_there found
        made.app_is made.instance_is made.side_is made.volume_is
        known kind none own_was (made.was.kept marked) t

    step_made : MakesStep behaviour m (event_of kind i) made.turn.replies after
    step_made = record {
      may = turn_may K rests since behaviour values app i kind made.turn.replies before after taken kept old new m stands right t known was_seen seen_there own_was (made.was.kept marked);
      told = turn_told K rests since behaviour values app i kind made.turn.replies before after taken kept old new m stands right t known was_seen seen_there own_was (made.was.kept marked);
      stands = turn_stands K rests since behaviour values app i kind made.turn.replies before after taken kept old new m stands right t known was_seen seen_there own_was (made.was.kept marked);
    }

    part_left : part_of (step behaviour m (event_of kind i)).machine ≡ part_at (parts_by K behaviour then (set seen app last)) app
    part_left = sym left.part ∙ sym part_then

    stored_then : IsStoredFor K A (parts_by K behaviour then (set seen app last)) new
    stored_then = subst (λ (vs : List V). IsStoredFor K A (parts_from K behaviour then 0 vs) new) (sym values_are) left.stored

    dirs_then : AreHeld (K.held new).leaves then_dirs
    dirs_then = turn_held K rests since behaviour values app i kind made.turn.replies before after taken kept old new m stands right t known was_seen seen_there own_was
        (made.was.kept marked) dirs then_dirs made.kept_is made.others_are (made.was.held marked)

  -- what the type keeps
  pub storage_then : IsStorage K (length (set seen app last)) new opened then then_dirs (parts_by K behaviour then (set seen app last))
  storage_then =
      let counts = counts_kept K behaviour app i kind made.turn.replies before after taken kept old new t in
      subst (λ n. IsStorage K n new opened then then_dirs (parts_by K behaviour then (set seen app last))) (sym length_then) (record {
        each = ap (λ (ps : List StoragePart). length ps) parts_then ∙ length-set (parts_by K behaviour known seen) app (part_by K behaviour then app new) ∙ made.was.each;
        some = made.was.some;
        few = made.was.few;
        lost = losses_after K behaviour app i made.turn.replies before after taken kept opened old new found made.faults_are known kind made.was.since.faults made.was.lost t;
        since = record {
          faults = let first = made.was.since.faults in let later = counts.faults in omega (arith, first, later);
          foundation = counts.foundation ∙ made.was.since.foundation;
        };
        below = λ honest. below_kept K behaviour app i kind made.turn.replies before after taken kept old new t (made.was.below honest);
        kept = λ marked. let has = made.part marked in stored_then marked has.machine has.stands has.part;
        held = λ marked. let has = made.part marked in dirs_then marked has.machine has.stands has.part;
      })

  -- the application stays in step with its part
  pub kept_then : IsMarked K (Opened (length seen) opened) → (origin : Machine A) → IsKeptBy behaviour origin before log (part_at (parts_by K behaviour known seen) app)
      → IsKeptBy behaviour origin after more (part_at (parts_by K behaviour then (set seen app last)) app)
  kept_then marked origin kept =
      let m : Machine A = machine_by behaviour origin log.entries in
      let one = step_made marked m kept.in_step.stands kept.part in
      subst (λ (p : StoragePart). IsKeptBy behaviour origin after more p) (part_left marked m kept.in_step.stands kept.part)
      (entry_made behaviour client (event_of kind i) made.turn.replies 3 before after log more made.reserved (born_spare kind i 3 (omega arith)) (born_few kind i) made.turn.few
      made.turn.logged.more made.turn.logged.room made.turn.logged.reply_room origin one kept.in_step)

  -- it knows whether the storage is lost
  pub known_then : is_lost after ≡ is_lost_at (losses_in then)
  known_then =
      told_lost K behaviour app i made.turn.replies before after taken kept old new kind t
      ∙ sym (lost_is then (K.condition opened) (K.condition new) storage_then.lost)

-- the same of what is seen of the storage
module _ {V A : Type 0} (K : VolumeKeeper V)
    (rests : (v : V) → K.honest v → (K.condition v).lost ≡ false → RestsAt K v (K.held v))
    (since : (v : V) (t u : ℕ) (o : Option Held) → t ≤ u → K.left_since v u o → K.left_since v t o)
    (behaviour : Behaviour A) (app client i : ℕ) (kind : TurnKind) (known then : Option (Loss V A)) (found : Loss V A) (seen : List (Snapshot V)) (last : Snapshot V)
    (dirs then_dirs : List (Option Directory)) (taken kept : Option Directory) (opened old new : V) (before after : AppSide A) (log more : KeptLog) (x : StorageView V)
    (view_is : (let v : StorageView V = record { volume = old; parts = parts_by K behaviour known seen; trail = trail_by (length seen) opened known } in v) ≡ x)
    (then_is : then ≡ loss_after known kind found) (there : app < length x.parts) (last_is : last.value ≡ new) (app_is : found.app ≡ app) (instance_is : found.instance ≡ i)
    (faults_are : found.faults ≡ (K.condition new).faults) (side_is : found.side.value ≡ before) (volume_is : found.volume.value ≡ old) (reserved : IsReserved 3 before log)
    (taken_is : taken ≡ kept_at dirs app) (kept_is : kept_at then_dirs app ≡ kept) (others_are : (other : ℕ) → other ≢ app → kept_at then_dirs other ≡ kept_at dirs other)
    (was : IsStorage K (length seen) old opened known dirs (parts_by K behaviour known seen))
    (turn : TurnsLogged K behaviour app client i kind before after log more taken kept old new)
    (part : IsMarked K (first_of x.trail) → HasPart before (part_at x.parts app)) where
  made : IsMade K behaviour app client i kind known found seen last dirs then_dirs taken kept opened old new before after log more
  made = record {
    there =
        let n : length (parts_by K behaviour known seen) ≡ length x.parts = ap (λ (v : StorageView V). length v.parts) view_is in
        let m = was.each in
        omega (arith, n, m, there);
    last_is = last_is;
    app_is = app_is;
    instance_is = instance_is;
    faults_are = faults_are;
    side_is = side_is;
    volume_is = volume_is;
    reserved = reserved;
    taken_is = taken_is;
    kept_is = kept_is;
    others_are = others_are;
    was = was;
    turn = turn;
    part = subst (λ (v : StorageView V). IsMarked K (first_of v.trail) → HasPart before (part_at v.parts app)) (sym view_is) part;
  }

  abbrev next : List (Snapshot V)
  next = set seen app last

  pub value_storage : IsStorage K (length next) new opened then then_dirs (parts_by K behaviour then next)
  value_storage =
      subst (λ (loss : Option (Loss V A)). IsStorage K (length next) new opened loss then_dirs (parts_by K behaviour loss next)) (sym then_is)
      (storage_then K rests since behaviour app client i kind known found seen last dirs then_dirs taken kept opened old new before after log more made)

  pub value_kept : IsMarked K (first_of x.trail) → (origin : Machine A) → IsKeptBy behaviour origin before log (part_at x.parts app)
      → IsKeptBy behaviour origin after more (part_at (parts_by K behaviour then next) app)
  value_kept =
      subst (λ (loss : Option (Loss V A)). IsMarked K (first_of x.trail) → (origin : Machine A) → IsKeptBy behaviour origin before log (part_at x.parts app)
      → IsKeptBy behaviour origin after more (part_at (parts_by K behaviour loss next) app)) (sym then_is)
      (subst (λ (v : StorageView V). IsMarked K (first_of v.trail) → (origin : Machine A) → IsKeptBy behaviour origin before log (part_at v.parts app)
      → IsKeptBy behaviour origin after more (part_at (parts_by K behaviour (loss_after known kind found) next) app)) view_is
      (kept_then K rests since behaviour app client i kind known found seen last dirs then_dirs taken kept opened old new before after log more made))

  pub value_others : parts_by K behaviour then next ≡ set x.parts app (part_at (parts_by K behaviour then next) app)
  value_others =
      subst (λ (loss : Option (Loss V A)). parts_by K behaviour loss next ≡ set x.parts app (part_at (parts_by K behaviour loss next) app)) (sym then_is)
      (subst (λ (v : StorageView V). parts_by K behaviour (loss_after known kind found) next ≡ set v.parts app (part_at (parts_by K behaviour (loss_after known kind found) next) app)) view_is
      (others_then K rests since behaviour app client i kind known found seen last dirs then_dirs taken kept opened old new before after log more made))

  pub value_trail : trail_by (length next) opened then ≡ x.trail ++ losses_by app (K.condition new).faults kind
  value_trail =
      subst (λ (loss : Option (Loss V A)). trail_by (length next) opened loss ≡ x.trail ++ losses_by app (K.condition new).faults kind) (sym then_is)
      (subst (λ (v : StorageView V). trail_by (length next) opened (loss_after known kind found) ≡ v.trail ++ losses_by app (K.condition new).faults kind) view_is
      (trail_then K rests since behaviour app client i kind known found seen last dirs then_dirs taken kept opened old new before after log more made))

  pub value_lost : is_lost after ≡ is_lost_at (trail_by (length next) opened then)
  value_lost =
      subst (λ (loss : Option (Loss V A)). is_lost after ≡ is_lost_at (trail_by (length next) opened loss)) (sym then_is)
      (known_then K rests since behaviour app client i kind known found seen last dirs then_dirs taken kept opened old new before after log more made)

-- what is told of every storage
pub storage_kept : {V A : Type 0} (K : VolumeKeeper V) (apps : ℕ) (volume opened : V) (loss : Option (Loss V A)) (dirs : List (Option Directory)) (parts : List StoragePart)
    → IsStorage K apps volume opened loss dirs parts
    → KeepsStorage K A (record { volume = volume; parts = parts; trail = trail_by apps opened loss })
storage_kept {V} K apps volume opened loss dirs parts was = record {
  some = let n = was.each in let lt = was.some in omega (arith, n, lt);
  few = let n = was.each in let le = was.few in omega (arith, n, le);
  opened = opened;
  losses = losses_in loss;
  trail = ap (λ n. (let e : StorageEntry V = Opened n opened in e) ∷ losses_in loss) (sym was.each);
  lost = was.lost;
  since = was.since;
  below = was.below;
  kept = λ marked. was.kept (subst (λ n. IsMarked K (Opened n opened)) was.each marked);
}
