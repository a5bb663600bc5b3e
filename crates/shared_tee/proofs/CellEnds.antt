-- The passes of an application join, and its cell ends.
use Rattle.app_api.specs.Behaviours.{Behaviour}
use Rattle.std.proofs.Common.{◌≡◌, ◌<◌, ◌≤◌, ◌+◌, ◌++◌, ℕ, true, false, List, [], ◌∷◌, Some, leb, length, get_or, min, drop, refl, sym, subst, ◌∙◌, ap, ⊎_elim, arith}
use Rattle.std.proofs.Common.{append-nil, length-append}
use Rattle.std.proofs.lemmas.Bool.Decides.{leb_tells}
use Rattle.std.proofs.lemmas.Option.{get_or_from_slice_get}
use Rattle.std.specs.Prelude.{slice_get}
use mathlib.Core.List.{IsPrefix}
use Rattle.turn_cell.specs.View.{Adjoin, view_after_join}
use Rattle.turn_cell.specs.Words.{TableId}
use Rattle.turn_cell.specs.declared.view.SeatView.{SeatView}
use Rattle.turn_cell.specs.declared.view.Turn.TheVariants.{Free}
use Rattle.turn_cell.proofs.Segments.{prefix_trans}
use Rattle.store_api.specs.Volumes.{VolumeKeeper}
use Rattle.alone.specs.Logs.{entries_by}
use Rattle.shared_parts.specs.HostedApps.{ClientPart, HostedEvent, HostedView, KeepsHosted, Origin, no_client, none_missed, parts_for, trail_with}
use Rattle.shared_tee.proofs.JoinLemmas.{adjoins, behind_front, get_before, get_last, own_joined}
use Rattle.shared_tee.proofs.PassLemmas.{part_for, trails_apart}
use Rattle.shared_tee.specs.Ending.{AreNext, EndsFor}
use Rattle.shared_tee.specs.Passes.{IsPass, PassView, log_of, origin_in, own_of}

-- a list of one element
pub single : {X : Type 0} (d : X) (xs : List X) → length xs ≡ 1 → xs ≡ get_or xs 0 d ∷ []
single d [] one = absurd (omega (arith, one))
single d (x ∷ []) one = refl
single d (x ∷ y ∷ xs) one = absurd (omega (arith, one))

module _ {V A : Type 0} (K : VolumeKeeper V) (behaviour : Behaviour A) where
  -- a pass brought its part to the seat, at this place, and the seat knows no less than it
  pub record HasBrought (i : ℕ) (p : PassView V A) (v : SeatView ClientPart (HostedEvent V A)) : Type 0 where
    pub is : IsPass K behaviour p
    pub part : slice_get v.own i ≡ Some (own_of p)
    pub trail : IsPrefix p.seat.trail v.trail

  -- the seat has the parts of the first passes, so many
  pub record HasJoined (passes : List (PassView V A)) (count : ℕ) (v : SeatView ClientPart (HostedEvent V A)) : Type 0 where
    pub free : v.turn ≡ Free
    pub first : v.first ≡ 0
    pub size : length v.own ≡ count
    pub each : (i : ℕ) (p : PassView V A) → i < count → slice_get passes i ≡ Some p → HasBrought i p v

module _ {V A : Type 0} (K : VolumeKeeper V) (behaviour : Behaviour A) (cell : TableId) (passes : List (PassView V A)) (next : AreNext cell passes) where
  -- the pass of this place is that client's
  pub client_is : (i : ℕ) (p : PassView V A) → i < 8 → slice_get passes i ≡ Some p → p.client ≡ i
  client_is i p lt there =
      let n = next i lt in
      let same : p ≡ n.0 = let e : Some p ≡ Some n.0 = sym there ∙ n.1 in cc (e) in
      ap (λ (q : PassView V A). q.client) same ∙ n.3

  -- there is a next one, behind so many
  pub next_there : (n : ℕ) (rest : List (PassView V A)) → rest ≡ drop n passes → n < 8
      → (p : PassView V A) × (slice_get rest 0 ≡ Some p) × (slice_get passes n ≡ Some p) × (p.cell ≡ cell)
  next_there n rest is lt =
      let q = next n lt in
      let at : slice_get rest 0 ≡ slice_get passes n =
      ap (λ (ps : List (PassView V A)). slice_get ps 0) is ∙ behind_front n 0 passes ∙ ap (λ (k : ℕ). slice_get passes k) (let e : n + 0 ≡ n = omega arith in e) in
      (q.0, at ∙ q.1, q.1, q.2)

  -- the first seat has its own part
  pub joined_first : (p : PassView V A) → slice_get passes 0 ≡ Some p → IsPass K behaviour p → (v : SeatView ClientPart (HostedEvent V A)) → v ≡ p.seat → HasJoined K behaviour passes 1 v
  joined_first p there is v same = subst (λ (w : SeatView ClientPart (HostedEvent V A)). HasJoined K behaviour passes 1 w) (sym same)
      (record {
        free = is.free;
        first = is.place ∙ client_is 0 p (omega arith) there;
        size = is.one;
        each = λ i q lt at.
            let zero_is : i ≡ 0 = omega (arith, lt) in
            let here : slice_get passes 0 ≡ Some q = ap (λ (k : ℕ). slice_get passes k) (sym zero_is) ∙ at in
            let q_is : p ≡ q = let e : Some p ≡ Some q = sym there ∙ here in cc (e) in
            subst (λ (x : PassView V A). HasBrought K behaviour i x p.seat) q_is
            (record {
              is = is;
              part = ap (λ (k : ℕ). slice_get p.seat.own k) zero_is ∙ ap (λ (ps : List ClientPart). slice_get ps 0) (single no_client p.seat.own is.one);
              trail = ([], append-nil p.seat.trail);
            });
      })

  module _ (n : ℕ) (v : SeatView ClientPart (HostedEvent V A)) (was : HasJoined K behaviour passes n v) (few : n < 8)
      (p : PassView V A) (there : slice_get passes n ≡ Some p) (is : IsPass K behaviour p) (u : SeatView ClientPart (HostedEvent V A)) (same : u ≡ p.seat) where
    pub place_next : u.first ≡ n
    place_next = ap (λ (x : SeatView ClientPart (HostedEvent V A)). x.first) same ∙ is.place ∙ client_is n p few there

    pub free_next : u.turn ≡ Free
    free_next = ap (λ (x : SeatView ClientPart (HostedEvent V A)). x.turn) same ∙ is.free

    pub adjoins_next : Adjoin v u
    adjoins_next = adjoins n v u was.first was.size place_next

    one_next : u.own ≡ own_of p ∷ []
    one_next = ap (λ (x : SeatView ClientPart (HostedEvent V A)). x.own) same ∙ single no_client p.seat.own is.one

    -- one more joins it
    pub joined_more : (w : SeatView ClientPart (HostedEvent V A)) → w.turn ≡ Free → w ≡ view_after_join v u → w.first ≡ min v.first u.first → length w.own ≡ length v.own + length u.own
        → IsPrefix v.trail w.trail → IsPrefix u.trail w.trail → HasJoined K behaviour passes (n + 1) w
    joined_more w free joined first size own_trail other_trail =
        let own : w.own ≡ v.own ++ own_of p ∷ [] = own_joined n v u was.first was.size place_next w joined ∙ ap (λ (ps : List ClientPart). v.own ++ ps) one_next in
        record {
          free = free;
          first = let low = was.first in omega (arith, first, low);
          size = ap (λ (ps : List ClientPart). length ps) own ∙ length-append v.own (own_of p ∷ []) ∙ ap (λ (k : ℕ). k + 1) was.size;
          each = λ i q lt at. ⊎_elim
              (λ (t : (leb n i ≡ true) × (n ≤ i)).
              let le : n ≤ i = t.1 in
              let last : i ≡ n = omega (arith, lt, le) in
              let q_is : p ≡ q = let e : Some p ≡ Some q = sym there ∙ ap (λ (k : ℕ). slice_get passes k) (sym last) ∙ at in cc (e) in
              subst (λ (x : PassView V A). HasBrought K behaviour i x w) q_is
              (record {
                is = is;
                part = ap (λ (ps : List ClientPart). slice_get ps i) own ∙ get_last i v.own (own_of p) (last ∙ sym was.size);
                trail = subst (λ (x : SeatView ClientPart (HostedEvent V A)). IsPrefix x.trail w.trail) same other_trail;
              }))
              (λ (t : (leb n i ≡ false) × (i < n)).
              let b = was.each i q t.1 at in
              record {
                is = b.is;
                part = ap (λ (ps : List ClientPart). slice_get ps i) own ∙ get_before i v.own (own_of p) (subst (λ (k : ℕ). i < k) (sym was.size) t.1) ∙ b.part;
                trail = prefix_trans q.seat.trail v.trail w.trail b.trail own_trail;
              })
              (leb_tells n i);
        }

  -- the application to which all eight brought their parts back
  module _ (v : SeatView ClientPart (HostedEvent V A)) (all : HasJoined K behaviour passes 8 v) (h : HostedView V A) (keeps : KeepsHosted K behaviour h)
      (parts : parts_for h.log 0 h.misses ≡ v.own) (trail : IsPrefix v.trail (trail_with h.origin h.log)) where
    pub ends_for : (i : ℕ) (p : PassView V A) → i < 8 → slice_get passes i ≡ Some p → EndsFor K behaviour h.origin.opened p h
    ends_for i p lt there =
        let b = all.each i p lt there in
        let client : p.client ≡ i = client_is i p lt there in
        let whole : IsPrefix p.seat.trail (trail_with h.origin h.log) = prefix_trans p.seat.trail v.trail (trail_with h.origin h.log) b.trail trail in
        let apart = trails_apart b.is.origin h.origin (log_of p) h.log (subst (λ (t : List (HostedEvent V A)). IsPrefix t (trail_with h.origin h.log)) b.is.trail whole) in
        let eight = keeps.eight in
        let part : own_of p ≡ (let q : ClientPart = record { made = entries_by i h.log; missed = get_or h.misses i none_missed } in q) =
        sym (get_or_from_slice_get v.own i (own_of p) no_client b.part)
        ∙ ap (λ (ps : List ClientPart). get_or ps i no_client) (sym parts)
        ∙ part_for h.log 0 i i h.misses (omega arith) (omega (arith, lt, eight)) in
        let made : (own_of p).made ≡ entries_by p.client h.log =
        ap (λ (q : ClientPart). q.made) part ∙ ap (λ (k : ℕ). entries_by k h.log) (sym client) in
        record {
          origin = ap (λ (t : List (HostedEvent V A)). origin_in t) b.is.trail ∙ ap (λ (o : Origin V A). Some o) (sym apart.0);
          opened_is = refl;
          trail = whole;
          made = made;
          own = sym made ∙ b.is.made;
          clients = keeps.clients;
          legal = keeps.legal;
        }
