-- Cutting a range in two, and joining two ranges, keeps the rule of the cell.
use Rattle.std.proofs.Common.{◌≡◌, ◌≢◌, ℕ, zero, suc, ◌+◌, ◌-◌, ◌≤◌, ◌<◌, ◌⊎◌, inl, inr, ⊎_elim, true, false, eqb, leb, List, [], ◌∷◌, ◌++◌, length, take, drop, set, min}
use Rattle.std.proofs.Common.{slice_index, refl, ap, sym, ◌∙◌, subst, arith, eq-eqb, ne_eqb, length-set, length-append, length-drop, length-take-le}
use Rattle.std.proofs.lemmas.Bool.Decides.{leb_tells}
use mathlib.Core.Option as logic
use mathlib.Core.Logic.{dite}
use native.Mathlib.Decide.{ℕ_discrete, dec_le}
use prog.Atomic.{either}
use lib.ListN.{get_elem?}
use Rattle.atomic_table.specs.Table.{Splits, Joins}
use Rattle.atomic_table.proofs.Lists.{at_set, set_here, set_else, at_longer, at_last}
use Rattle.turn_cell.specs.declared.view.SeatView.{SeatView}
use Rattle.turn_cell.specs.declared.view.Turn.{Turn}
use Rattle.turn_cell.specs.declared.view.Turn.TheVariants.{Free}
use Rattle.turn_cell.specs.View.{segment, left_at, right_at, Adjoin, in_order, combine, spent_view}
use Rattle.turn_cell.specs.Rule.{TurnFits, HasTurn, IsHolder, Owns, ViewFits}
use Rattle.turn_cell.proofs.Segments.{prefix_nil, first_segment, second_segment, two_segments}
use Rattle.turn_cell.proofs.StepLemmas.{at_within, one_view, still, Rule}

-- an element of a longer list is one of the old ones, or the new one at its end
at_end : {V : Type 0} (l : List V) (a b : V) (j : ℕ) → get_elem? (l ++ a ∷ []) j ≡ logic.some b → (get_elem? l j ≡ logic.some b) ⊎ ((j ≡ length l) × (a ≡ b))
at_end [] a b zero e = inr (refl, logic.some-injective a b e)
at_end [] a b (suc j) e = absurd (logic.some-ne-none b (sym e))
at_end (x ∷ xs) a b zero e = inl e
at_end (x ∷ xs) a b (suc j) e = ⊎_elim (λ h. inl h) (λ (t : (j ≡ length xs) × (a ≡ b)). inr (ap suc t.0, t.1)) (at_end xs a b j e)

-- the owners after a cut: the parts of a seat from a place on go to a new one
module _ (owner : ℕ → ℕ) (id new from : ℕ) where
  abbrev cut_owner : ℕ → ℕ
  cut_owner k = either (leb from k) (either (eqb (owner k) id) new (owner k)) (owner k)

  cut_below : (k : ℕ) → k < from → cut_owner k ≡ owner k
  cut_below k h =
      ⊎_elim
      (λ (t : (leb from k ≡ true) × (from ≤ k)). absurd (omega arith))
      (λ (t : (leb from k ≡ false) × (k < from)). rw (t.0))
      (leb_tells from k)

  cut_moved : (k : ℕ) → from ≤ k → owner k ≡ id → cut_owner k ≡ new
  cut_moved k h same =
      ⊎_elim
      (λ (t : (leb from k ≡ true) × (from ≤ k)). rw (t.0, eq-eqb (owner k) id same))
      (λ (t : (leb from k ≡ false) × (k < from)). absurd (omega arith))
      (leb_tells from k)

  cut_kept : (k : ℕ) → owner k ≢ id → cut_owner k ≡ owner k
  cut_kept k ne =
      ⊎_elim
      (λ (t : (leb from k ≡ true) × (from ≤ k)). rw (t.0, ne_eqb (owner k) id ne))
      (λ (t : (leb from k ≡ false) × (k < from)). rw (t.0))
      (leb_tells from k)

-- the owners after a join: the parts of one seat go to another
module _ (owner : ℕ → ℕ) (gone to : ℕ) where
  abbrev joined_owner : ℕ → ℕ
  joined_owner k = either (eqb (owner k) gone) to (owner k)

  joined_moved : (k : ℕ) → owner k ≡ gone → joined_owner k ≡ to
  joined_moved k same = rw (eq-eqb (owner k) gone same)

  joined_kept : (k : ℕ) → owner k ≢ gone → joined_owner k ≡ owner k
  joined_kept k ne = rw (ne_eqb (owner k) gone ne)

module _ {P E : Type 0} where
  -- a free seat's turn fits any cell
  free_fits : (word holder seat first count : ℕ) (parts : List P) (trail : List E) (turn : Turn P E) → turn ≡ Free → TurnFits word holder seat first count parts trail turn
  free_fits word holder seat first count parts trail turn free = rw free tt

  -- a free seat isn't the holder
  free_not_holder : (v : SeatView P E) (word : ℕ) → v.turn ≡ Free → ¬ (IsHolder word v)
  free_not_holder v word free h = subst (λ (z : Turn P E). HasTurn z) free h.0

  -- a view whose range kept its owner fits
  kept_fits : (word holder : ℕ) (owner new_owner : ℕ → ℕ) (made parts : List P) (trail : List E) (seat : ℕ) (v : SeatView P E)
      → ((k : ℕ) → owner k ≡ seat → new_owner k ≡ owner k) → ViewFits word holder owner made parts trail seat v → ViewFits word holder new_owner made parts trail seat v
  kept_fits word holder owner new_owner made parts trail seat v same f = record {
    inside = f.inside;
    owns = λ k low high. let o = f.owns k low high in same k o ∙ o;
    knows = f.knows;
    knew = f.knew;
    behind = f.behind;
    incoming_behind = f.incoming_behind;
    turn_fits = f.turn_fits;
  }

  module _ (word holder : ℕ) (owner : ℕ → ℕ) (made parts : List P) (trail : List E) (id new from : ℕ) (v : SeatView P E) (f : ViewFits word holder owner made parts trail id v)
      (free : v.turn ≡ Free) (low : v.first < from) (high : from < v.first + length v.own) where
    left_fits : ViewFits word holder (cut_owner owner id new from) made parts trail id (left_at from v)
    left_fits =
        let n : ℕ = from - v.first in
        let within : n ≤ length v.own = omega arith in
        let long : length (take n v.own) ≡ n = length-take-le n v.own within in
        record {
          inside = let i = f.inside in omega arith;
          owns = λ k l h. cut_below owner id new from k (omega arith) ∙ f.owns k l (omega arith);
          knows = first_segment v.first (length v.own) n parts v.own f.knows within ∙ ap (λ (k : ℕ). segment v.first k parts) (sym long);
          knew = first_segment v.first (length v.own) n made v.original f.knew within ∙ ap (λ (k : ℕ). segment v.first k made) (sym long);
          behind = f.behind;
          incoming_behind = f.incoming_behind;
          turn_fits = free_fits word holder id v.first (length (take n v.own)) parts trail v.turn free;
        }

    right_fits : ViewFits word holder (cut_owner owner id new from) made parts trail new (right_at from v)
    right_fits =
        let n : ℕ = from - v.first in
        let within : n ≤ length v.own = omega arith in
        let long : length (drop n v.own) ≡ length v.own - n = length-drop n v.own in
        let place : v.first + n ≡ from = omega arith in
        record {
          inside = let i = f.inside in omega arith;
          owns = λ k l h. cut_moved owner id new from k l (f.owns k (omega arith) (omega arith));
          knows = second_segment v.first (length v.own) n from parts v.own f.knows within place ∙ ap (λ (k : ℕ). segment from k parts) (sym long);
          knew = second_segment v.first (length v.own) n from made v.original f.knew within place ∙ ap (λ (k : ℕ). segment from k made) (sym long);
          behind = f.behind;
          incoming_behind = prefix_nil trail;
          turn_fits = tt;
        }

  -- two ranges as one
  record Whole (made parts : List P) (v w : SeatView P E) (first : ℕ) (own original : List P) : Type 0 where
    inside : first + length own ≤ length parts
    knows : own ≡ segment first (length own) parts
    knew : original ≡ segment first (length own) made
    has_one : (k : ℕ) → Owns k v → (first ≤ k) × (k < first + length own)
    has_other : (k : ℕ) → Owns k w → (first ≤ k) × (k < first + length own)
    has_no_more : (k : ℕ) → first ≤ k → k < first + length own → Owns k v ⊎ Owns k w

  -- the seats' ranges side by side, the first one's first
  side_by_side : (word holder : ℕ) (owner : ℕ → ℕ) (made parts : List P) (trail : List E) (i j : ℕ) (v w : SeatView P E)
      → ViewFits word holder owner made parts trail i v → ViewFits word holder owner made parts trail j w → w.first ≡ v.first + length v.own
      → Whole made parts v w v.first (v.own ++ w.own) (v.original ++ w.original)
  side_by_side word holder owner made parts trail i j v w f g next =
      let long : length (v.own ++ w.own) ≡ length v.own + length w.own = length-append v.own w.own in
      record {
        inside = let i = g.inside in omega arith;
        knows = two_segments v.first (length v.own) w.first (length w.own) parts v.own w.own f.knows g.knows next ∙ ap (λ (k : ℕ). segment v.first k parts) (sym long);
        knew = two_segments v.first (length v.own) w.first (length w.own) made v.original w.original f.knew g.knew next ∙ ap (λ (k : ℕ). segment v.first k made) (sym long);
        has_one = λ k o. (o.0, let h = o.1 in omega arith);
        has_other = λ k o. (let l = o.0 in omega arith, let h = o.1 in omega arith);
        has_no_more = λ k l h. dite (dec_le w.first k) (λ (a : w.first ≤ k). inr (a, omega arith)) (λ (n : ¬ (w.first ≤ k)). inl (l, omega arith));
      }

  swapped : (made parts : List P) (v w : SeatView P E) (first : ℕ) (own original : List P) → Whole made parts w v first own original → Whole made parts v w first own original
  swapped made parts v w first own original x = record {
    inside = x.inside;
    knows = x.knows;
    knew = x.knew;
    has_one = x.has_other;
    has_other = x.has_one;
    has_no_more = λ k l h. ⊎_elim (λ o. inr o) (λ o. inl o) (x.has_no_more k l h);
  }

  -- where the first range comes first
  in_order_before : (v w : SeatView P E) (xs ys : List P) → v.first ≤ w.first → in_order v w xs ys ≡ xs ++ ys
  in_order_before v w xs ys h =
      ⊎_elim
      (λ (t : (leb v.first w.first ≡ true) × (v.first ≤ w.first)). rw (t.0))
      (λ (t : (leb v.first w.first ≡ false) × (w.first < v.first)). absurd (omega arith))
      (leb_tells v.first w.first)

  in_order_after : (v w : SeatView P E) (xs ys : List P) → w.first < v.first → in_order v w xs ys ≡ ys ++ xs
  in_order_after v w xs ys h =
      ⊎_elim
      (λ (t : (leb v.first w.first ≡ true) × (v.first ≤ w.first)). absurd (omega arith))
      (λ (t : (leb v.first w.first ≡ false) × (w.first < v.first)). rw (t.0))
      (leb_tells v.first w.first)

  whole : (word holder : ℕ) (owner : ℕ → ℕ) (made parts : List P) (trail : List E) (i j : ℕ) (v w : SeatView P E)
      → ViewFits word holder owner made parts trail i v → ViewFits word holder owner made parts trail j w → 0 < length v.own → 0 < length w.own → Adjoin v w
      → Whole made parts v w (min v.first w.first) (in_order v w v.own w.own) (in_order v w v.original w.original)
  whole word holder owner made parts trail i j v w f g some_v some_w adjoin =
      ⊎_elim
      (λ (next : w.first ≡ v.first + length v.own).
      let low : v.first ≤ w.first = omega arith in
      let least : min v.first w.first ≡ v.first = omega arith in
      rw (least, in_order_before v w v.own w.own low, in_order_before v w v.original w.original low)
      (side_by_side word holder owner made parts trail i j v w f g next))
      (λ (next : v.first ≡ w.first + length w.own).
      let low : w.first < v.first = omega arith in
      let least : min v.first w.first ≡ w.first = omega arith in
      rw (least, in_order_after v w v.own w.own low, in_order_after v w v.original w.original low)
      (swapped made parts v w w.first (w.own ++ v.own) (w.original ++ v.original) (side_by_side word holder owner made parts trail j i w v g f next)))
      adjoin

  combined_fits : (word holder : ℕ) (owner : ℕ → ℕ) (made parts : List P) (trail : List E) (id other : ℕ) (v w : SeatView P E)
      → ViewFits word holder owner made parts trail id v → ViewFits word holder owner made parts trail other w → v.turn ≡ Free → ¬ (other ≡ id)
      → Whole made parts v w (min v.first w.first) (in_order v w v.own w.own) (in_order v w v.original w.original)
      → ViewFits word holder (joined_owner owner other id) made parts trail id (combine v w)
  combined_fits word holder owner made parts trail id other v w f g free ne x = record {
    inside = x.inside;
    owns = λ k l h.
        ⊎_elim
        (λ (o : Owns k v). let mine = f.owns k o.0 o.1 in joined_kept owner other id k (λ same. ne (sym same ∙ mine)) ∙ mine)
        (λ (o : Owns k w). joined_moved owner other id k (g.owns k o.0 o.1))
        (x.has_no_more k l h);
    knows = x.knows;
    knew = x.knew;
    behind = f.behind;
    incoming_behind = g.behind;
    turn_fits = free_fits word holder id (min v.first w.first) (length (in_order v w v.own w.own)) parts trail v.turn free;
  }

  spent_fits : (word holder : ℕ) (owner : ℕ → ℕ) (made parts : List P) (trail : List E) (seat : ℕ) → ViewFits word holder owner made parts trail seat spent_view
  spent_fits word holder owner made parts trail seat = record {
    inside = omega arith;
    owns = λ k l h. absurd (omega arith);
    knows = refl;
    knew = refl;
    behind = prefix_nil trail;
    incoming_behind = prefix_nil trail;
    turn_fits = tt;
  }

module _ {T P E : Type 0} (parts_of : T → List P) (trail_of : T → List E) (made : List P) where
  pub splits : (id : ℕ) (v : SeatView P E) (from : ℕ) → v.turn ≡ Free → v.first < from → from < v.first + length v.own
      → Splits (Rule parts_of trail_of made) id v (left_at from v) (right_at from v)
  splits id v from free low high s r at =
      let word : ℕ = slice_index s.words 0 in
      let new : ℕ = length s.views in
      let left : SeatView P E = left_at from v in
      let right : SeatView P E = right_at from v in
      let views : List (SeatView P E) = set s.views id left ++ right ∷ [] in
      let owner : ℕ → ℕ = cut_owner r.owner id new from in
      let f = r.each id v at in
      let within : id < length s.views = at_within s.views id v at in
      let long : length (set s.views id left) ≡ new = length-set s.views id left in
      let l = left_fits word r.holder r.owner made r.parts r.trail id new from v f free low high in
      let q = right_fits word r.holder r.owner made r.parts r.trail id new from v f free low high in
      record {
        holder = r.holder;
        owner = owner;
        parts = r.parts;
        trail = r.trail;
        one_word = r.one_word;
        one_slot = r.one_slot;
        counted = r.counted;
        home = r.home;
        held = λ out.
            let h = still s.views id v left (IsHolder word) at (λ o. absurd (free_not_holder v word free o)) r.holder (r.held out) in
            (h.0, at_longer (set s.views id left) (right ∷ []) r.holder h.0 h.1, h.2);
        each = λ j u e.
            ⊎_elim
            (λ (old : get_elem? (set s.views id left) j ≡ logic.some u).
            ⊎_elim
            (λ (t : (j ≡ id) × (left ≡ u)).
            subst (λ (z : SeatView P E). ViewFits word r.holder owner made r.parts r.trail j z) t.1
            (subst (λ (i : ℕ). ViewFits word r.holder owner made r.parts r.trail i left) (sym t.0) l))
            (λ (t : (j ≢ id) × (get_elem? s.views j ≡ logic.some u)).
            kept_fits word r.holder r.owner owner made r.parts r.trail j u (λ k same. cut_kept r.owner id new from k (λ mine. t.0 (sym same ∙ mine))) (r.each j u t.1))
            (at_set s.views id j left u old))
            (λ (t : (j ≡ length (set s.views id left)) × (right ≡ u)).
            subst (λ (z : SeatView P E). ViewFits word r.holder owner made r.parts r.trail j z) t.1
            (subst (λ (i : ℕ). ViewFits word r.holder owner made r.parts r.trail i right) (sym (t.0 ∙ long)) q))
            (at_end (set s.views id left) right u j e);
        covered = λ k h.
            let c = r.covered k h in
            let G : ℕ → Type 0 = λ i. (x : SeatView P E) × (get_elem? views i ≡ logic.some x) × Owns k x in
            dite (ℕ_discrete (r.owner k) id)
            (λ (same : r.owner k ≡ id).
            let view : c.0 ≡ v = one_view s.views id c.0 v (rw same at c.1) at in
            let own : Owns k v = subst (λ (z : SeatView P E). Owns k z) view c.2 in
            let least : v.first ≤ k = own.0 in
            let most : k < v.first + length v.own = own.1 in
            dite (dec_le from k)
            (λ (h : from ≤ k).
            let size : length (drop (from - v.first) v.own) ≡ length v.own - (from - v.first) = length-drop (from - v.first) v.own in
            subst G (sym (cut_moved r.owner id new from k h same)) (right, at_last (set s.views id left) right new long, (h, omega arith)))
            (λ (n : ¬ (from ≤ k)).
            let size : length (take (from - v.first) v.own) ≡ from - v.first = length-take-le (from - v.first) v.own (omega arith) in
            let here : get_elem? (set s.views id left) id ≡ logic.some left = set_here s.views id left within in
            subst G (sym (cut_below r.owner id new from k (omega arith) ∙ same)) (left, at_longer (set s.views id left) (right ∷ []) id left here, (least, omega arith))))
            (λ (ne : r.owner k ≢ id).
            subst G (sym (cut_kept r.owner id new from k ne))
            (c.0, at_longer (set s.views id left) (right ∷ []) (r.owner k) c.0 (set_else s.views id (r.owner k) left ne ∙ c.1), c.2));
      }

  pub joins : (id other : ℕ) (v w : SeatView P E) → v.turn ≡ Free → w.turn ≡ Free → 0 < length v.own → 0 < length w.own → Adjoin v w
      → Joins (Rule parts_of trail_of made) id v other w (combine v w) spent_view
  joins id other v w free_v free_w some_v some_w adjoin s r at ne there =
      let word : ℕ = slice_index s.words 0 in
      let both : SeatView P E = combine v w in
      let owner : ℕ → ℕ = joined_owner r.owner other id in
      let views : List (SeatView P E) = set (set s.views id both) other spent_view in
      let apart : ¬ (id ≡ other) = λ e. ne (sym e) in
      let there_before : get_elem? s.views other ≡ logic.some w = sym (set_else s.views id other both ne) ∙ there in
      let f = r.each id v at in
      let g = r.each other w there_before in
      let x = whole word r.holder r.owner made r.parts r.trail id other v w f g some_v some_w adjoin in
      let fits = combined_fits word r.holder r.owner made r.parts r.trail id other v w f g free_v ne x in
      let here : get_elem? views id ≡ logic.some both = set_else (set s.views id both) other id spent_view apart ∙ set_here s.views id both (at_within s.views id v at) in
      record {
        holder = r.holder;
        owner = owner;
        parts = r.parts;
        trail = r.trail;
        one_word = r.one_word;
        one_slot = r.one_slot;
        counted = r.counted;
        home = r.home;
        held = λ out.
            still (set s.views id both) other w spent_view (IsHolder word) there (λ o. absurd (free_not_holder w word free_w o)) r.holder
            (still s.views id v both (IsHolder word) at (λ o. absurd (free_not_holder v word free_v o)) r.holder (r.held out));
        each = λ j u e.
            ⊎_elim
            (λ (t : (j ≡ other) × (spent_view ≡ u)).
            subst (λ (z : SeatView P E). ViewFits word r.holder owner made r.parts r.trail j z) t.1 (spent_fits word r.holder owner made r.parts r.trail j))
            (λ (t : (j ≢ other) × (get_elem? (set s.views id both) j ≡ logic.some u)).
            ⊎_elim
            (λ (m : (j ≡ id) × (both ≡ u)).
            subst (λ (z : SeatView P E). ViewFits word r.holder owner made r.parts r.trail j z) m.1
            (subst (λ (i : ℕ). ViewFits word r.holder owner made r.parts r.trail i both) (sym m.0) fits))
            (λ (m : (j ≢ id) × (get_elem? s.views j ≡ logic.some u)).
            kept_fits word r.holder r.owner owner made r.parts r.trail j u (λ k same. joined_kept r.owner other id k (λ gone. t.0 (sym same ∙ gone))) (r.each j u m.1))
            (at_set s.views id j both u t.1))
            (at_set (set s.views id both) other j spent_view u e);
        covered = λ k h.
            let c = r.covered k h in
            let G : ℕ → Type 0 = λ i. (z : SeatView P E) × (get_elem? views i ≡ logic.some z) × Owns k z in
            dite (ℕ_discrete (r.owner k) other)
            (λ (same : r.owner k ≡ other).
            let view : c.0 ≡ w = one_view s.views other c.0 w (rw same at c.1) there_before in
            subst G (sym (joined_moved r.owner other id k same)) (both, here, x.has_other k (subst (λ (z : SeatView P E). Owns k z) view c.2)))
            (λ (kept : r.owner k ≢ other).
            subst G (sym (joined_kept r.owner other id k kept))
            (dite (ℕ_discrete (r.owner k) id)
            (λ (same : r.owner k ≡ id).
            let view : c.0 ≡ v = one_view s.views id c.0 v (rw same at c.1) at in
            subst G (sym same) (both, here, x.has_one k (subst (λ (z : SeatView P E). Owns k z) view c.2)))
            (λ (n : r.owner k ≢ id).
            (c.0, set_else (set s.views id both) other (r.owner k) spent_view kept ∙ (set_else s.views id (r.owner k) both n ∙ c.1), c.2))));
      }
