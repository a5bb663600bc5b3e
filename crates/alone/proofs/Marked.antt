-- What the marks of a turn make of it.
use Rattle.std.proofs.Common.{ℕ, ◌≡◌, ◌+◌, ◌&&◌, true, false, cond, refl, ◌∙◌, ap}
use Rattle.alone.specs.Machine.{Machine}
use Rattle.alone.specs.Marks.{Marks, event_at}
use Rattle.alone.specs.Step.{Event, Turned, TurnLost, Corrupted, Starved, is_enabled}

module _ {A : Type 0} (marks : Marks) (m : Machine A) (i : ℕ) where
  abbrev if_starved : Event
  if_starved = cond (marks.starved (m.turns + 1) && is_enabled m (Starved i)) (Starved i) (Turned i)

  abbrev if_corrupt : Event
  if_corrupt = cond (marks.corrupt (m.turns + 1) && is_enabled m (Corrupted i)) (Corrupted i) if_starved

  event_is : event_at marks m i ≡ cond (marks.lost (m.turns + 1) && is_enabled m (TurnLost i)) (TurnLost i) if_corrupt
  unfolding event_at
  event_is = refl

  not_lost : marks.lost (m.turns + 1) ≡ false → event_at marks m i ≡ if_corrupt
  not_lost l = event_is ∙ ap (λ b. cond (b && is_enabled m (TurnLost i)) (TurnLost i) if_corrupt) l

  not_corrupt : marks.lost (m.turns + 1) ≡ false → marks.corrupt (m.turns + 1) ≡ false → event_at marks m i ≡ if_starved
  not_corrupt l c = not_lost l ∙ ap (λ b. cond (b && is_enabled m (Corrupted i)) (Corrupted i) if_starved) c

  pub marked_lost : marks.lost (m.turns + 1) ≡ true → is_enabled m (TurnLost i) ≡ true → event_at marks m i ≡ TurnLost i
  marked_lost l may =
      event_is ∙ ap (λ b. cond (b && is_enabled m (TurnLost i)) (TurnLost i) if_corrupt) l ∙ ap (λ b. cond b (TurnLost i) if_corrupt) may

  pub marked_corrupt : marks.lost (m.turns + 1) ≡ false → marks.corrupt (m.turns + 1) ≡ true → is_enabled m (Corrupted i) ≡ true → event_at marks m i ≡ Corrupted i
  marked_corrupt l c may =
      not_lost l ∙ ap (λ b. cond (b && is_enabled m (Corrupted i)) (Corrupted i) if_starved) c ∙ ap (λ b. cond b (Corrupted i) if_starved) may

  pub marked_starved : marks.lost (m.turns + 1) ≡ false → marks.corrupt (m.turns + 1) ≡ false → marks.starved (m.turns + 1) ≡ true
      → is_enabled m (Starved i) ≡ true → event_at marks m i ≡ Starved i
  marked_starved l c s may =
      not_corrupt l c ∙ ap (λ b. cond (b && is_enabled m (Starved i)) (Starved i) (Turned i)) s ∙ ap (λ b. cond b (Starved i) (Turned i)) may

  pub marked_plain : marks.lost (m.turns + 1) ≡ false → marks.corrupt (m.turns + 1) ≡ false → marks.starved (m.turns + 1) ≡ false
      → event_at marks m i ≡ Turned i
  marked_plain l c s = not_corrupt l c ∙ ap (λ b. cond (b && is_enabled m (Starved i)) (Starved i) (Turned i)) s
