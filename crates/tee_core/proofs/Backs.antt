-- A loss of power of all applications, put together of its parts.
use Rattle.app_api.specs.Behaviours.{Behaviour}
use Rattle.std.proofs.Common.{◌≡◌, ◌≤◌, ◌+◌, not, ℕ, Bool, true, false, List, ◌∷◌, Option, None, Some, Ok, inl, sym, subst, ◌∙◌, ap}
use Rattle.std.proofs.lemmas.Bool.{false≢true}
use Rattle.std.specs.Prelude.{IfNone, IfSome, if◌then◌else◌, nat_lt, slice_get}
use Rattle.alone.specs.declared.power.Power.{Power}
use Rattle.app_side.specs.Represents.{has_doubt}
use Rattle.app_side.specs.declared.side.AppSide.{AppSide}
use Rattle.board.specs.Moment.{Order, View}
use Rattle.epoch.specs.Forms.{Form, held_of}
use Rattle.epoch.specs.Finding.{sequence_of}
use Rattle.epoch.specs.Mounts.{OpensAfterPower, OpensAgain, PowerFirst}
use Rattle.epoch.specs.Reopening.{reopened_of, sequence_after}
use Rattle.epoch.specs.declared.header.Header.{Header}
use Rattle.epoch.specs.declared.taking.Reopened.{Reopened}
use Rattle.store_api.specs.Volumes.{Held, RestsAt, VolumeKeeper}
use Rattle.tee_core.specs.Powers.{IsTold, after_power, kept_by, kept_one, restarts_from, told_of}
use Rattle.tee_core.specs.Moments.{OrderLeavesStores}
use Rattle.tee_core.specs.Represents.{HasDoubt, HasStoresOf, IsLeftOf, StandFor}
use Rattle.tee_core.specs.Sides.{AreSides, IsNoneInDoubt}
use Rattle.tee_core.specs.World.{World}
use Rattle.tee_core.proofs.Powers.{doubt_at, stand_back, told_is}

-- the one that says so has a change in doubt
pub owner_doubt : {A : Type 0} (ss : List (AppSide A)) (world : World A) (o : Option ℕ) → AreSides ss world
    → IfSome o (λ owner. (side : AppSide A) × (slice_get ss owner ≡ Some side) × (has_doubt side ≡ true)) → IfSome o (λ owner. HasDoubt owner world)
owner_doubt ss world None are some = tt
owner_doubt ss world (Some owner) are some = doubt_at ss world owner some.0 are some.1 some.2

-- what the order of a power left is what was opened, whose regions have the stores of the world
pub order_left : {V A : Type 0} (K : VolumeKeeper V) (form : Form) (before after : View) (opened : Reopened) (old new : V) → OpensAfterPower K form before after (Ok opened) old new
    → (sides : List (AppSide A)) (world : World A) → StandFor K sides new world → OrderLeavesStores form before after world
order_left K form before after opened old new opens sides world stands order last c left =
    let held : held_of form before.key c ≡ Some (K.held new) = opens.ordered order last c left ∙ ap (λ (h : Held). Some h) (sym opens.opened) in
    subst (λ (o : Option Held). HasStoresOf world o) (sym held) (inl stands.stores)

module _ {V A : Type 0} (K : VolumeKeeper V)
    (rests : (v : V) → K.honest v → (K.condition v).lost ≡ false → RestsAt K v (K.held v))
    (since : (v : V) (t u : ℕ) (o : Option Held) → t ≤ u → K.left_since v u o → K.left_since v t o)
    (behaviour : Behaviour A) (sides : List (AppSide A)) (world : World A) (old new : V) (whole : StandFor K sides old world)
    (owner : Option ℕ) (none : IfNone owner (IsNoneInDoubt sides))
    (some : IfSome owner (λ o. (side : AppSide A) × (slice_get sides o ≡ Some side) × (has_doubt side ≡ true)))
    (acknowledged : ℕ) (opened : Reopened) (told : Power) (again : OpensAgain K (Ok opened) old new)
    (was : acknowledged ≡ (K.held old).sequence) (is : (K.held new).sequence ≡ sequence_after opened) (tells : told ≡ told_of owner (nat_lt acknowledged opened.sequence)) where
  found : IsLeftOf world (K.held old).sequence (Some (K.held new))
  found = whole.left (Some (K.held new)) again.opened

  doubt : IfSome owner (λ o. HasDoubt o world)
  doubt = owner_doubt sides world owner whole.sides_are some

  -- nothing was taken over, so the sequence that was found is that of the volume
  found_is : (K.held new).sequence ≡ opened.sequence
  found_is = is ∙ ap (λ b. if b then opened.sequence + 1 else opened.sequence) again.kept

  same : nat_lt acknowledged opened.sequence ≡ nat_lt (K.held old).sequence (K.held new).sequence
  same = ap (λ n. nat_lt n opened.sequence) was ∙ ap (λ n. nat_lt (K.held old).sequence n) (sym found_is)

  tells_so : told ≡ told_of owner (nat_lt (K.held old).sequence (K.held new).sequence)
  tells_so = tells ∙ ap (λ b. told_of owner b) same

  -- the applications stand for the world after the power came back
  pub power_stands : (taken : Option ℕ) (left : List (AppSide A)) → kept_one taken ≡ kept_by (told_of owner (nat_lt acknowledged opened.sequence)) →
      AreSides left (restarts_from behaviour (kept_one taken) 0 world)
      → (K.condition new).lost ≡ false → StandFor K left new (after_power behaviour world told)
  power_stands taken left takes are works =
      subst (λ (x : Power). StandFor K left new (after_power behaviour world x)) (sym tells_so)
      (stand_back K rests since behaviour sides world old new whole owner none doubt found left
      (subst (λ (f : ℕ → Bool). AreSides left (restarts_from behaviour f 0 world)) (takes ∙ ap (λ b. kept_by (told_of owner b)) same) are) again.fresh works)

  -- what is told of it
  pub power_told : IsTold told world (K.held old).sequence (K.held new).sequence
  power_told = subst (λ (x : Power). IsTold x world (K.held old).sequence (K.held new).sequence) (sym tells_so)
      (told_is K rests since behaviour sides world old new whole owner none doubt found)

-- a loss of power of which nothing is said of what is read behind it
abbrev pub unread_power : {pick : ℕ} {kept : Bool} {Stays : ℕ → Type 0} (old new : View) → PowerFirst pick kept Stays old new → PowerFirst pick false Stays old new
unread_power old new first = record {
  between = first.between;
  ordered = first.ordered;
  time = first.time;
  powered = first.powered;
  alone = first.alone;
  reads = λ so. absurd (false≢true so);
  behind = first.behind;
}

-- where nothing was taken over, the board reads as the order left it
pub power_reads : {pick : ℕ} {kept : Bool} {Stays : ℕ → Type 0} (old new : View) → PowerFirst pick kept Stays old new → kept ≡ true → (order : Order) → new.ordered ≡ order ∷ old.ordered
    → new.state.reads ≡ order.after.reads
power_reads {pick} old new first shown order last =
    let made : Order = record { number = pick; before = old.state; after = first.between.state } in
    let is : made ≡ order = let e : made ∷ old.ordered ≡ order ∷ old.ordered = sym first.ordered ∙ last in cc in
    first.reads shown ∙ ap (λ (o : Order). o.after.reads) is

-- the sequence that was found is that of the header
pub found_sequence : (version : ℕ) (told : Reopened) (header : Option Header) → told ≡ reopened_of version header → told.sequence ≡ sequence_of header
found_sequence version told None is = ap (λ (r : Reopened). r.sequence) is
found_sequence version told (Some header) is = ap (λ (r : Reopened). r.sequence) is

-- what is told by it
pub tells_found : (version : ℕ) (told : Reopened) (header : Option Header) (owner first : Option ℕ) (acknowledged sequence : ℕ) (power : Power) → told ≡ reopened_of version header
    → owner ≡ first → acknowledged ≡ sequence → power ≡ told_of owner (nat_lt acknowledged told.sequence) → power ≡ told_of first (nat_lt sequence (sequence_of header))
tells_found version told header owner first acknowledged sequence power is one two tells =
    let at = found_sequence version told header is in
    tells ∙ (λ i. told_of (one i) (nat_lt (two i) (at i)))

-- nothing was taken over, and the answer shows it
pub shown_kept : (version : ℕ) (told : Reopened) (header : Option Header) → told ≡ reopened_of version header → (reopened_of version header).rewritten ≡ false → not told.rewritten ≡ true
shown_kept version told header is kept = ap (λ (r : Reopened). not r.rewritten) is ∙ ap not kept
