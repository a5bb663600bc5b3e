-- What turns behind a call leave of the counts of what a volume stands on.
use Rattle.std.proofs.Common.{◌≡◌, ◌≤◌, ◌<◌, ◌-◌, ◌^◌, ℕ, true, false, List, [], ◌∷◌, refl, sym, subst, ◌∙◌, ap, append-nil, inl, inr, ⊎_elim, arith}
use Rattle.std.specs.Prelude.{◌||◌, ◌&&◌, ◌==◌, ◌++◌, Bool, filter, nat_lt}
use Rattle.alone.specs.Marks.{no_marks}
use Rattle.std.proofs.Math.Bool.{or-false}
use Rattle.std.proofs.lemmas.Bool.{cond_both, ltb-false, ltb-true}
use Rattle.std.proofs.lemmas.List.Folds.{list_any-append}
use Rattle.tee_base.specs.Faults.{Rose}
use Rattle.alone.specs.declared.turn.TurnKind.{TurnKind}
use Rattle.alone.specs.declared.turn.TurnKind.TheVariants as kinds
use Rattle.store_api.specs.Volumes.{Condition, VolumeKeeper}
use Rattle.tee_core.specs.declared.happened.Happened.{Happened}
use Rattle.tee_core.specs.Happenings.{has_told, is_corrupt_turn, is_lost_turn, is_told, append_if_told, marks_of}
use Rattle.tee_core.specs.Moments.{AreMarkedSoundly, HasRun, HasRunBehind, IsSound, KeepsCounts, KeepsFoundation, RoseIfLost, StaysOn, TellsNoDamage, tells_loss}

-- ---- a count that rose

rose_later : (a b c : ℕ) → a ≤ b → Rose b c → Rose a c
rose_later a b c le rose = ⊎_elim (λ (lt : b < c). inl (omega (arith, le, lt))) (λ (end : c ≡ 2 ^ 64 - 1). inr end) rose

-- a count that rose at some time rose until later
rose_longer : (a b c : ℕ) → a ≤ b → b ≤ c → Rose a b → Rose a c
rose_longer a b c le further rose = ⊎_elim (λ (lt : a < b). inl (omega (arith, lt, further)))
    (λ (end : b ≡ 2 ^ 64 - 1).
    elim (nat_lt a c) as (λ t. nat_lt a c ≡ t → Rose a c) [
      | true ↦ λ is. inl (ltb-true a c is)
      | false ↦ λ is. let last = ltb-false a c is in inr (omega (arith, le, further, last, end))
    ] refl) rose

-- ---- what is told

-- one more told tells a loss where it is one, or one was told before
told_more : (told : List Happened) (h : Happened) → tells_loss (append_if_told told h) ≡ true → tells_loss told ≡ false → is_lost_turn h.kind ≡ true
told_more told h =
    cond_both (is_told h) (h ∷ []) [] (λ hs. tells_loss (told ++ hs) ≡ true → tells_loss told ≡ false → is_lost_turn h.kind ≡ true)
    (λ _ lost none. sym (or-false (is_lost_turn h.kind)) ∙ ap (λ b. b || (is_lost_turn h.kind || false)) (sym none) ∙ sym (list_any-append (λ x. is_lost_turn x.kind) told (h ∷ [])) ∙ lost)
    (λ _ lost none. absurd (let e : false ≡ true = sym none ∙ ap tells_loss (sym (append-nil told)) ∙ lost in cc))

-- a turn that lost the storage did so by a failure
rose_so : (kind : TurnKind) (old new : ℕ) → is_lost_turn kind ≡ true → RoseIfLost kind old new → Rose old new
rose_so kinds.Plain old new is rose = absurd (let e : false ≡ true = is in cc)
rose_so (kinds.Lost change) old new is rose = rose
rose_so kinds.Starved old new is rose = absurd (let e : false ≡ true = is in cc)
rose_so kinds.Corrupted old new is rose = absurd (let e : false ≡ true = is in cc)

-- ---- turns, one after the other

-- before the first
pub run_begun : (told : List Happened) (old : Condition) → HasRunBehind told told old old
run_begun told old none some = absurd (let e : false ≡ true = sym none ∙ some in cc)

pub kept_begun : (old : Condition) → KeepsFoundation old old
kept_begun old = record { faults = omega arith; foundation = refl }

-- one more
pub run_further : (before told : List Happened) (h : Happened) (first old new : Condition) → HasRunBehind before told first old → KeepsFoundation first old → KeepsCounts h.kind old new
    → HasRunBehind before (append_if_told told h) first new
run_further before told h first old new run kept counts none some =
    elim (tells_loss told) as (λ b. tells_loss told ≡ b → Rose first.faults new.faults) [
      | true ↦ λ was. rose_longer first.faults old.faults new.faults kept.faults counts.faults (run none was)
      | false ↦ λ was. rose_later first.faults old.faults new.faults kept.faults (rose_so h.kind old.faults new.faults (told_more told h some was) counts.rose)
    ] refl

pub kept_further : (kind : TurnKind) (first old new : Condition) → KeepsFoundation first old → KeepsCounts kind old new → KeepsFoundation first new
kept_further kind first old new kept counts = record {
  faults = omega (arith, kept.faults, counts.faults);
  foundation = counts.foundation ∙ kept.foundation;
}

-- ---- a call, and the turns behind it

pub call_tells_none : (h : Happened) → h.kind ≡ kinds.Plain → tells_loss (h ∷ []) ≡ false
call_tells_none h plain = ap (λ k. is_lost_turn k || false) plain

pub run_counted : (h : Happened) (before told : List Happened) (first old new : Condition) → h.kind ≡ kinds.Plain → before ≡ h ∷ [] → old ≡ first →
    HasRunBehind before told old new → HasRun told first new
run_counted h before told first old new plain alone same run some =
    subst (λ (c : Condition). Rose c.faults new.faults) same (run (ap tells_loss alone ∙ call_tells_none h plain) some)

pub stays_from : {V : Type 0} (K : VolumeKeeper V) (first old new : V) → old ≡ first → StaysOn K old new → StaysOn K first new
stays_from K first old new same kept = subst (λ v. StaysOn K v new) same kept

pub stays_still : {V : Type 0} (K : VolumeKeeper V) (first old : V) → old ≡ first → StaysOn K first old
stays_still K first old same = subst (λ v. StaysOn K first v) (sym same) (record { foundation = kept_begun (K.condition first); below = λ below. below })

-- ---- what is told of damage, and the marks by what is told

pub sound_more : (told : List Happened) (h : Happened) → TellsNoDamage told → IsSound h.kind → TellsNoDamage (append_if_told told h)
sound_more told h sound here =
    all_told told (filter is_told (h ∷ [])) sound (cond_both (is_told h) (h ∷ []) [] TellsNoDamage (λ _. (here, tt)) (λ _. tt))
  where
    all_told : (xs ys : List Happened) → TellsNoDamage xs → TellsNoDamage ys → TellsNoDamage (xs ++ ys)
    all_told [] ys h k = k
    all_told (x ∷ xs) ys h k = (h.0, all_told xs ys h.1 k)

-- no turn is marked
pub none_marked : (old new : Condition) → AreMarkedSoundly no_marks old new
none_marked old new = record { sound = λ turn. refl; rose = λ turn lost. absurd (let e : false ≡ true = lost in cc) }

sound_mark : (kind : TurnKind) (b : Bool) → IsSound kind → (is_corrupt_turn kind && b) ≡ false
sound_mark kinds.Plain b sound = refl
sound_mark (kinds.Lost change) b sound = refl
sound_mark kinds.Starved b sound = refl
sound_mark kinds.Corrupted b sound = absurd sound

none_corrupt : (told : List Happened) (turn : ℕ) → TellsNoDamage told → has_told is_corrupt_turn told turn ≡ false
none_corrupt [] turn sound = refl
none_corrupt (h ∷ told) turn sound =
    ap (λ b. b || has_told is_corrupt_turn told turn) (sound_mark h.kind (h.turn == turn) sound.0) ∙ none_corrupt told turn sound.1

lost_so : (a b c d : Bool) → ((a && b) || c) ≡ true → (c ≡ true → d ≡ true) → (a || d) ≡ true
lost_so true b c d some later = refl
lost_so false b c d some later = later some

lost_told : (told : List Happened) (turn : ℕ) → has_told is_lost_turn told turn ≡ true → tells_loss told ≡ true
lost_told [] turn some = some
lost_told (h ∷ told) turn some = lost_so (is_lost_turn h.kind) (h.turn == turn) (has_told is_lost_turn told turn) (tells_loss told) some (lost_told told turn)

-- the marks of what was told
pub told_marked : (told : List Happened) (old new : Condition) → TellsNoDamage told → (tells_loss told ≡ true → Rose old.faults new.faults) → AreMarkedSoundly (marks_of told) old new
told_marked told old new sound rose = record { sound = λ turn. none_corrupt told turn sound; rose = λ turn lost. rose (lost_told told turn lost) }

-- a call alone tells of no loss and of no damage
pub call_lossless : (h : Happened) (told : List Happened) → h.kind ≡ kinds.Plain → told ≡ h ∷ [] → tells_loss told ≡ false
call_lossless h told plain alone = ap tells_loss alone ∙ call_tells_none h plain

pub call_sound : (h : Happened) (told : List Happened) → h.kind ≡ kinds.Plain → told ≡ h ∷ [] → TellsNoDamage told
call_sound h told plain alone = subst TellsNoDamage (sym alone) (subst IsSound (sym plain) tt, tt)
