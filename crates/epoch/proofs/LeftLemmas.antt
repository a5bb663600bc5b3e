-- What a crash leaves of a board that is at rest with a sound image, over the form of the leaves.
use Rattle.std.proofs.Common.{◌≡◌, ◌≤◌, ◌∙◌, ℕ, List, [], ◌∷◌, Option, Some, length, refl, sym, ap, inl, inr, ⊎_elim, arith}
use Rattle.tee_base.specs.Crash.{read_as}
use Rattle.store_api.specs.Volumes.{Held}
use Rattle.board.specs.Moment.{IsConsistent, IsCounter, CrashImage, Moment, View, IsLeft, WasLeft, moment, left_since}
use Rattle.epoch.specs.Forms.{Form, IsFramed, Root, held_of}
use Rattle.epoch.specs.Keeping.{IsInUse, held_now}
use Rattle.epoch.specs.Opening.{opening_of}
use Rattle.epoch.proofs.CommitLemmas.{held_before, mounted_holds}

was_earlier : (past : List Moment) (t u : ℕ) (c : CrashImage) → t ≤ u → WasLeft past u c → WasLeft past t c
was_earlier [] t u c le was = was
was_earlier (m ∷ past) t u c le was =
    ⊎_elim (λ (h : (u ≤ length past) × IsLeft m c). inl (let x = h.0 in omega arith, h.1)) (λ (w : WasLeft past u c). inr (was_earlier past t u c le w)) was

none_now : (past : List Moment) (t : ℕ) (c : CrashImage) → length past ≤ t → WasLeft past t c → ⊥
none_now [] t c late was = was
none_now (m ∷ past) t c late was =
    ⊎_elim (λ (h : (t ≤ length past) × IsLeft m c). absurd (let x = h.0 in omega arith)) (λ (w : WasLeft past t c). none_now past t c (omega arith) w) was

-- what a crash since a later moment may have left, it may have left since an earlier one
pub since_earlier : (f : Form) (view : View) (t u : ℕ) (o : Option Held) → t ≤ u → read_as (held_of f view.key) (left_since view) u o → read_as (held_of f view.key) (left_since view) t o
since_earlier f view t u o le left =
    (left.0, ⊎_elim (λ (now : IsLeft view.state left.0). inl now) (λ (was : WasLeft view.past u left.0). inr (was_earlier view.past t u left.0 le was)) left.1, left.2)

module _ (f : Form) (framed : IsFramed f) (view : View) (root : Root) (sequence : ℕ) (is : IsInUse f view root sequence) where
  -- what a crash now leaves
  pub rests_in_use : (o : Option Held) → read_as (held_of f view.key) (left_since view) (moment view) o → o ≡ Some (held_now f view root sequence)
  rests_in_use o left =
      let now : IsLeft view.state left.0 = ⊎_elim (λ (now : IsLeft view.state left.0). now) (λ (was : WasLeft view.past (moment view) left.0). absurd
      (none_now view.past (moment view) left.0 (omega arith) was)) left.1 in
      let rests = is.rests in
      let image : (k : ℕ) → left.0.image k ≡ view.state.reads k = λ k. now.kept k (rests.pending k) ∙ sym (rests.as_read k) in
      let whole : left.0.image ≡ view.state.reads = λ i k. image k i in
      let counter : left.0.counter ≡ sequence = omega (arith, now.counter.least, now.counter.greatest, rests.counter, rests.slack) in
      left.2 ∙ held_before f framed view.key root (held_now f view root sequence) view.state left.0.image left.0.counter is
      (ap (opening_of f.known view.key left.0.image) counter ∙ ap (λ (g : ℕ → List ℕ). opening_of f.known view.key g sequence) whole)
      (λ k used. image k)

  -- what is held is among what a crash now may leave
  pub left_in_use : IsConsistent view → read_as (held_of f view.key) (left_since view) (moment view) (Some (held_now f view root sequence))
  left_in_use whole =
      let rests = is.rests in
      let among : IsCounter view.state sequence = record {
        least = omega (arith, rests.counter);
        greatest = omega (arith, rests.counter, rests.slack);
        fits = (let c = whole.counter in omega (arith, rests.counter, c));
      } in (
        record { image = view.state.reads; counter = sequence; faults = view.state.faults; orders = view.state.orders },
        inl (record {
          kept = λ k shut. whole.as_read k shut;
          any = λ k pending. whole.whole k (whole.within k pending);
          counter = among;
          faults = refl;
          orders = refl;
        }),
        sym (mounted_holds f framed view.key root (held_now f view root sequence) view.state is),
      )
