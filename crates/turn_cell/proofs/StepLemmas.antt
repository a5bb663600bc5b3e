-- Each atomic step that leaves the ranges alone keeps the rule of the cell.
use Rattle.std.proofs.Common.{◌≡◌, ◌≢◌, ℕ, zero, suc, ◌+◌, ◌≤◌, ◌<◌, ◌⊎◌, inl, inr, ⊎_elim, eqb, List, [], ◌∷◌, length, set, slice_index}
use Rattle.std.proofs.Common.{slice_set, Option, Some, refl, ap, sym, ◌∙◌, subst, ap₂, arith, length-set, le_refl}
use Rattle.std.proofs.lemmas.List.{get_or-set_same}
use mathlib.Core.Option as logic
use mathlib.Core.Logic.{dite}
use mathlib.Core.List.{IsPrefix}
use native.Mathlib.Decide.{ℕ_discrete, dec_le}
use prog.Atomic.{either}
use lib.ListN.{get_elem?}
use Rattle.atomic_table.specs.Table.{State, Me, Act, keeps, takes, gives, Valid, Allows, stepped, homes_after, carried_after, opening, Final, Seen}
use Rattle.atomic_table.proofs.Lists.{at_set, set_here, set_else, exchanged}
use Rattle.turn_cell.specs.declared.view.SeatView.{SeatView}
use Rattle.turn_cell.specs.declared.view.Turn.{Turn}
use Rattle.turn_cell.specs.declared.view.Turn.TheVariants.{Free, Taken, Announced}
use Rattle.turn_cell.specs.View.{segment, ChangesOnlyWithin, opening_view, with_turn, with_word, with_miss, with_wait, with_waits, with_look}
use Rattle.turn_cell.specs.View.{with_offer, view_after_give, settle, taken_parts, taken_trail, announced_parts, announced_trail}
use Rattle.turn_cell.specs.Rule.{TurnFits, HasTurn, IsHolder, Owns, ViewFits, SeatIs, AtHome, IsConsistent}
use Rattle.turn_cell.specs.Steps.{TakesTurn, tries, waits, announces, releases, looks, settles}
use Rattle.turn_cell.proofs.Segments.{prefix_refl, prefix_nil, prefix_trans, prefix_longer, length-segment, segment_whole, all_segment, spared}

-- what is looked up lies within the list
pub at_within : {V : Type 0} (l : List V) (i : ℕ) (v : V) → get_elem? l i ≡ logic.some v → i < length l
at_within [] i v e = absurd (logic.some-ne-none v (sym e))
at_within (x ∷ xs) zero v e = omega arith
at_within (x ∷ xs) (suc i) v e = let h = at_within xs i v e in omega arith

-- one place has one view
pub one_view : {V : Type 0} (l : List V) (i : ℕ) (v w : V) → get_elem? l i ≡ logic.some v → get_elem? l i ≡ logic.some w → v ≡ w
one_view l i v w e f = logic.some-injective v w (sym e ∙ f)

-- what is true of a seat's view stays so when one view changes, if it stays so of that one
pub still : {V : Type 0} (views : List V) (id : ℕ) (v w : V) (F : V → Type 0) → get_elem? views id ≡ logic.some v → (F v → F w) → (i : ℕ)
    → ((u : V) × (get_elem? views i ≡ logic.some u) × F u) → (u : V) × (get_elem? (set views id w) i ≡ logic.some u) × F u
still {V} views id v w F at carry i h =
    dite (ℕ_discrete i id)
    (λ (e : i ≡ id).
    let here : get_elem? (set views id w) i ≡ logic.some w = rw e (set_here views id w (at_within views id v at)) in
    let same : h.0 ≡ v = one_view views id h.0 v (rw e at h.1) at in
    (w, here, carry (subst F same h.2)))
    (λ (ne : i ≢ id). (h.0, set_else views id i w ne ∙ h.1, h.2))

-- two seats' ranges lie one beside the other
pub apart : (owner : ℕ → ℕ) (i j k m first count : ℕ) → i ≢ j → 0 < m → 0 < count
    → ((part : ℕ) → k ≤ part → part < k + m → owner part ≡ i) → ((part : ℕ) → first ≤ part → part < first + count → owner part ≡ j)
    → (k + m ≤ first) ⊎ (first + count ≤ k)
apart owner i j k m first count ne some_left some_right left right =
    dite (dec_le (k + m) first) (λ h. inl h)
    (λ n. dite (dec_le (first + count) k) (λ h. inr h)
    (λ o. dite (dec_le k first)
    (λ (h : k ≤ first). absurd (ne (sym (left first h (omega arith)) ∙ right first (le_refl first) (omega arith))))
    (λ (h : ¬ (k ≤ first)). absurd (ne (sym (left k (le_refl k) (omega arith)) ∙ right k (omega arith) (omega arith))))))

-- another seat's range is the same after a change of the holder's
pub others_spared : {A : Type 0} (owner : ℕ → ℕ) (i j k m first count : ℕ) (old new : List A) → i ≢ j → 0 < count
    → ((part : ℕ) → k ≤ part → part < k + m → owner part ≡ i) → ((part : ℕ) → first ≤ part → part < first + count → owner part ≡ j)
    → ChangesOnlyWithin first count old new → segment k m new ≡ segment k m old
others_spared owner i j k zero first count old new ne some_part left right c = refl
others_spared owner i j k (suc m) first count old new ne some_part left right c =
    spared first count k (suc m) old new c (apart owner i j k (suc m) first count ne (omega arith) some_part left right)

module _ {P E : Type 0} where
  -- nobody has the turn where the word is 0
  pub nobody : (seat holder first count : ℕ) (parts : List P) (trail : List E) (turn : Turn P E) → TurnFits 0 holder seat first count parts trail turn
      → (word' holder' : ℕ) (parts' : List P) (trail' : List E) → TurnFits word' holder' seat first count parts' trail' turn
  nobody seat holder first count parts trail Free h word' holder' parts' trail' = tt
  nobody seat holder first count parts trail (Taken p t) h word' holder' parts' trail' = let e = h.0 in absurd (omega arith)
  nobody seat holder first count parts trail (Announced p t q u) h word' holder' parts' trail' = let e = h.0 in absurd (omega arith)

  -- nobody has it but the holder
  pub nobody_else : (word seat holder first count : ℕ) (parts : List P) (trail : List E) (turn : Turn P E) → seat ≢ holder → TurnFits word holder seat first count parts trail turn
      → (word' holder' : ℕ) (parts' : List P) (trail' : List E) → TurnFits word' holder' seat first count parts' trail' turn
  nobody_else word seat holder first count parts trail Free ne h word' holder' parts' trail' = tt
  nobody_else word seat holder first count parts trail (Taken p t) ne h word' holder' parts' trail' = absurd (ne h.1)
  nobody_else word seat holder first count parts trail (Announced p t q u) ne h word' holder' parts' trail' = absurd (ne h.1)

  -- the view of a seat that gave a value fits that value
  given_fits : (word holder : ℕ) (owner : ℕ → ℕ) (made parts new_parts : List P) (trail new_trail : List E) (seat : ℕ) (v : SeatView P E)
      → ViewFits word holder owner made parts trail seat v → ChangesOnlyWithin v.first (length v.own) parts new_parts → IsPrefix trail new_trail
      → (length (segment v.first (length v.own) new_parts) ≡ length v.own) × ViewFits 0 holder owner made new_parts new_trail seat (view_after_give v new_parts new_trail)
  given_fits word holder owner made parts new_parts trail new_trail seat v f changes grows =
      let long : length new_parts ≡ length parts = changes.0 in
      let within : v.first + length v.own ≤ length new_parts = let i = f.inside in omega arith in
      let same : length (segment v.first (length v.own) new_parts) ≡ length v.own = length-segment v.first (length v.own) new_parts within in (
        same,
        record {
          inside = rw (same) within;
          owns = λ k low high. f.owns k low (omega (arith, same));
          knows = ap (λ (k : ℕ). segment v.first k new_parts) (sym same);
          knew = f.knew ∙ ap (λ (k : ℕ). segment v.first k made) (sym same);
          behind = prefix_refl new_trail;
          incoming_behind = prefix_trans v.incoming trail new_trail f.incoming_behind grows;
          turn_fits = tt;
        },
      )

  -- and so do the views of the other seats
  others_fit : (word : ℕ) (owner : ℕ → ℕ) (made parts new_parts : List P) (trail new_trail : List E) (holder seat : ℕ) (v u : SeatView P E) → seat ≢ holder
      → ViewFits word holder owner made parts trail holder v → 0 < length v.own → ViewFits word holder owner made parts trail seat u
      → ChangesOnlyWithin v.first (length v.own) parts new_parts → IsPrefix trail new_trail → ViewFits 0 holder owner made new_parts new_trail seat u
  others_fit word owner made parts new_parts trail new_trail holder seat v u ne f some_part g changes grows =
      let long : length new_parts ≡ length parts = changes.0 in
      record {
        inside = let i = g.inside in omega arith;
        owns = g.owns;
        knows = g.knows ∙ sym (others_spared owner seat holder u.first (length u.own) v.first (length v.own) parts new_parts ne some_part g.owns f.owns changes);
        knew = g.knew;
        behind = prefix_trans u.trail trail new_trail g.behind grows;
        incoming_behind = prefix_trans u.incoming trail new_trail g.incoming_behind grows;
        turn_fits = nobody_else word seat holder u.first (length u.own) parts trail u.turn ne g.turn_fits 0 holder new_parts new_trail;
      }

module _ {T P E : Type 0} (parts_of : T → List P) (trail_of : T → List E) where
  -- the views of a new cell are its first one
  first_seat : (value : T) (j : ℕ) (u : SeatView P E) → get_elem? (opening_view (parts_of value) (trail_of value) ∷ []) j ≡ logic.some u →
      ViewFits 0 0 (λ k. 0) (parts_of value) (parts_of value) (trail_of value) j u
  first_seat value zero u e =
      let v : SeatView P E = opening_view (parts_of value) (trail_of value) in
      let fits : ViewFits 0 0 (λ k. 0) (parts_of value) (parts_of value) (trail_of value) 0 v = record {
        inside = omega arith;
        owns = λ k low high. refl;
        knows = segment_whole (parts_of value);
        knew = segment_whole (parts_of value);
        behind = prefix_refl (trail_of value);
        incoming_behind = prefix_nil (trail_of value);
        turn_fits = tt;
      } in
      subst (λ (z : SeatView P E). ViewFits 0 0 (λ k. 0) (parts_of value) (parts_of value) (trail_of value) 0 z) (logic.some-injective v u e) fits
  first_seat value (suc j) u e = absurd (logic.some-ne-none u (sym e))

  -- a new cell keeps the rule
  pub opens : (value : T) → IsConsistent parts_of trail_of (parts_of value) (opening (0 ∷ []) (Some value ∷ []) (opening_view (parts_of value) (trail_of value)))
  opens value =
      let v : SeatView P E = opening_view (parts_of value) (trail_of value) in
      record {
        holder = 0;
        owner = λ k. 0;
        parts = parts_of value;
        trail = trail_of value;
        one_word = refl;
        one_slot = refl;
        counted = refl;
        home = λ e. (value, refl, refl, refl);
        held = λ h. absurd (omega arith);
        each = first_seat value;
        covered = λ k h. (v, refl, (omega arith, omega arith));
      }

module _ {T P E : Type 0} (parts_of : T → List P) (trail_of : T → List E) (made : List P) where
  abbrev pub Cell : Type 0
  Cell = State (Option T) (SeatView P E)

  abbrev pub Rule : Cell → Type 0
  Rule = IsConsistent parts_of trail_of made

  -- a step of a seat that owns the same parts afterwards: n is the word after it
  pub renew : (s : Cell) (r : Rule s) (id n : ℕ) (c : List (ℕ × Option T)) (v w : SeatView P E) (a : Act (Option T)) (holder : ℕ) (parts : List P) (trail : List E)
      → get_elem? s.views id ≡ logic.some v → w.first ≡ v.first → length w.own ≡ length v.own
      → length (homes_after s.homes c a) ≡ 1 → length parts ≡ length made
      → (n ≡ 0 → AtHome parts_of trail_of (homes_after s.homes c a) parts trail)
      → (0 < n → SeatIs (stepped s 0 n id c w a) holder (IsHolder n))
      → ViewFits n holder r.owner made parts trail id w
      → ((j : ℕ) (u : SeatView P E) → j ≢ id → get_elem? s.views j ≡ logic.some u → ViewFits n holder r.owner made parts trail j u)
      → Rule (stepped s 0 n id c w a)
  renew s r id n c v w a holder parts trail at first own one counted home held mine others =
      let word : n ≡ slice_index (slice_set s.words 0 n) 0 = sym (get_or-set_same s.words 0 n 0 (omega (arith, r.one_word))) in
      record {
        holder = holder;
        owner = r.owner;
        parts = parts;
        trail = trail;
        one_word = length-set s.words 0 n ∙ r.one_word;
        one_slot = one;
        counted = counted;
        home = λ e. home (word ∙ e);
        held = subst (λ (k : ℕ). 0 < k → SeatIs (stepped s 0 n id c w a) holder (IsHolder k)) word held;
        each = λ j u e. subst (λ (k : ℕ). ViewFits k holder r.owner made parts trail j u) word
            (⊎_elim
            (λ (t : (j ≡ id) × (w ≡ u)).
            subst (λ (z : SeatView P E). ViewFits n holder r.owner made parts trail j z) t.1
            (subst (λ (i : ℕ). ViewFits n holder r.owner made parts trail i w) (sym t.0) mine))
            (λ (t : (j ≢ id) × (get_elem? s.views j ≡ logic.some u)). others j u t.0 t.1)
            (at_set s.views id j w u e));
        covered = λ k h. still s.views id v w (Owns k) at (λ (o : Owns k v). (let p = o.0 in omega arith, let p = o.1 in omega arith)) (r.owner k) (r.covered k h);
      }

  -- a step that changes what its seat knows, and neither the word nor the slot
  pub stays : (s : Cell) (r : Rule s) (id : ℕ) (c : List (ℕ × Option T)) (v w : SeatView P E)
      → get_elem? s.views id ≡ logic.some v → w.first ≡ v.first → length w.own ≡ length v.own
      → (HasTurn v.turn → HasTurn w.turn) → ViewFits (slice_index s.words 0) r.holder r.owner made r.parts r.trail id w
      → Rule (stepped s 0 (slice_index s.words 0) id c w keeps)
  stays s r id c v w at first own turn fits =
      renew s r id (slice_index s.words 0) c v w keeps r.holder r.parts r.trail at first own r.one_slot r.counted r.home
      (λ h. still s.views id v w (IsHolder (slice_index s.words 0)) at (λ (o : IsHolder (slice_index s.words 0) v). (
        turn o.0,
        let p = o.1 in omega arith,
        let p = o.2 in
            omega arith,
      )) r.holder (r.held h))
      fits (λ j u ne e. r.each j u e)

  abbrev counted_view : SeatView P E → ℕ → ℕ → ℕ → ℕ → ℕ → SeatView P E
  counted_view v misses missed_word waiting_tries looks found_word = record v { misses = misses; missed_word = missed_word; waiting_tries = waiting_tries; looks = looks; found_word = found_word }

  -- its counters alone
  pub counts : (s : Cell) (r : Rule s) (id : ℕ) (c : List (ℕ × Option T)) (v : SeatView P E) (misses missed_word waiting_tries looks found_word : ℕ) → get_elem? s.views id ≡ logic.some v
      → Rule (stepped s 0 (slice_index s.words 0) id c (counted_view v misses missed_word waiting_tries looks found_word) keeps)
  counts s r id c v misses missed_word waiting_tries looks found_word at =
      let f = r.each id v at in
      stays s r id c v (counted_view v misses missed_word waiting_tries looks found_word) at refl refl (λ h. h)
      record { inside = f.inside; owns = f.owns; knows = f.knows; knew = f.knew; behind = f.behind; incoming_behind = f.incoming_behind; turn_fits = f.turn_fits }

  -- the load of a look
  pub looks_allowed : (slots id : ℕ) (me : Me (Option T) (SeatView P E)) → Allows Rule slots id me 0 (λ n. n) (looks me)
  looks_allowed slots id me s r h at b =
      let word = slice_index s.words 0 in
      (with_look me.0 word, keeps, tt, counts s r id me.1 me.0 me.0.misses me.0.missed_word me.0.waiting_tries (me.0.looks + 1) word at, refl)

  -- the word is 0, and the seat takes the turn: the value's parts and trail are taken down
  takes_turn : (s : Cell) (r : Rule s) (id n : ℕ) (c : List (ℕ × Option T)) (v : SeatView P E) (tries_made : ℕ) → get_elem? s.views id ≡ logic.some v
      → n ≡ v.first + 1 → 0 < length v.own → slice_index s.words 0 ≡ 0
      → (w : SeatView P E) × (a : Act (Option T)) × Valid s.homes c a × Rule (stepped s 0 n id c w a) × TakesTurn parts_of trail_of (with_waits v tries_made, c) (w, carried_after c a)
  takes_turn s r id n c v tries_made at number some_part free =
      let home = r.home free in
      let x : T = home.0 in
      let f = r.each id v at in
      let w : SeatView P E = with_turn (with_waits v tries_made) (Taken (parts_of x) (trail_of x)) 0 in
      let f' : ViewFits n id r.owner made r.parts r.trail id w = record {
        inside = f.inside;
        owns = f.owns;
        knows = f.knows;
        knew = f.knew;
        behind = f.behind;
        incoming_behind = f.incoming_behind;
        turn_fits = (number, refl, home.2, home.3);
      } in (
        w,
        takes 0 (Some x),
        home.1,
        renew s r id n c v w (takes 0 (Some x)) id r.parts r.trail at refl refl (length-set s.homes 0 logic.none ∙ r.one_slot) r.counted
            (λ e. absurd (omega arith))
            (λ h. (w, set_here s.views id w (at_within s.views id v at), (tt, number, some_part)))
            f'
            (λ j u ne e.
            let g = r.each j u e in
            record {
              inside = g.inside;
              owns = g.owns;
              knows = g.knows;
              knew = g.knew;
              behind = g.behind;
              incoming_behind = g.incoming_behind;
              turn_fits = nobody j r.holder u.first (length u.own) r.parts r.trail u.turn
                  (subst (λ (k : ℕ). TurnFits k r.holder j u.first (length u.own) r.parts r.trail u.turn) free g.turn_fits) n id r.parts r.trail;
            }),
        (x, refl, (rw (home.2) (sym f.knows), rw (home.3) f.behind)),
      )

  -- the step of a try, which counts a miss where the value is out
  pub tries_allowed : (slots id n : ℕ) (me : Me (Option T) (SeatView P E)) → n ≡ me.0.first + 1 → 0 < length me.0.own
      → Allows Rule slots id me 0 (λ word. either (eqb word 0) n word) (tries parts_of trail_of me)
  tries_allowed slots id n me number some_part s r h at b =
      let word = slice_index s.words 0 in
      let v : SeatView P E = me.0 in
      exchanged word 0 n
      (λ (k : ℕ). (w : SeatView P E) × (a : Act (Option T)) × Valid s.homes me.1 a × Rule (stepped s 0 k id me.1 w a) × tries parts_of trail_of me word (w, carried_after me.1 a))
      (λ free. let t = takes_turn s r id n me.1 v v.waiting_tries at number some_part free in (t.0, t.1, t.2, t.3, (λ e. t.4, λ ne. absurd (ne free))))
      (λ out. (with_miss v word, keeps, tt, counts s r id me.1 v (v.misses + 1) word v.waiting_tries v.looks word at, (λ e. absurd (out e), λ ne. refl)))

  -- the step of a seat that waits
  pub waits_allowed : (slots id n : ℕ) (me : Me (Option T) (SeatView P E)) → n ≡ me.0.first + 1 → 0 < length me.0.own
      → Allows Rule slots id me 0 (λ word. either (eqb word 0) n word) (waits parts_of trail_of me)
  waits_allowed slots id n me number some_part s r h at b =
      let word = slice_index s.words 0 in
      let v : SeatView P E = me.0 in
      exchanged word 0 n
      (λ (k : ℕ). (w : SeatView P E) × (a : Act (Option T)) × Valid s.homes me.1 a × Rule (stepped s 0 k id me.1 w a) × waits parts_of trail_of me word (w, carried_after me.1 a))
      (λ free. let t = takes_turn s r id n me.1 v (v.waiting_tries + 1) at number some_part free in (t.0, t.1, t.2, t.3, (λ e. t.4, λ ne. absurd (ne free))))
      (λ out. (with_word (with_wait v) word, keeps, tt, counts s r id me.1 v v.misses v.missed_word (v.waiting_tries + 1) v.looks word at, (λ e. absurd (out e), λ ne. refl)))

  -- the step in which a seat with the turn announces the value that it gives
  pub announces_allowed : (slots id n : ℕ) (me : Me (Option T) (SeatView P E)) (value : T) → n ≡ me.0.first + 1
      → me.0.turn ≡ Taken (taken_parts me.0.turn) (taken_trail me.0.turn)
      → ChangesOnlyWithin me.0.first (length me.0.own) (taken_parts me.0.turn) (parts_of value) → IsPrefix (taken_trail me.0.turn) (trail_of value)
      → Allows Rule slots id me 0 (λ word. either (eqb word n) n word) (λ word. announces parts_of trail_of (logic.some (Some value)) me)
  announces_allowed slots id n me value number taken changes longer_trail s r h at b =
      let word = slice_index s.words 0 in
      let v : SeatView P E = me.0 in
      let p : List P = taken_parts v.turn in
      let t : List E = taken_trail v.turn in
      let f = r.each id v at in
      let has : TurnFits word r.holder id v.first (length v.own) r.parts r.trail (Taken p t) =
      subst (λ (z : Turn P E). TurnFits word r.holder id v.first (length v.own) r.parts r.trail z) taken f.turn_fits in
      let w : SeatView P E = with_offer v (parts_of value) (trail_of value) in
      let f' : ViewFits word r.holder r.owner made r.parts r.trail id w = record {
        inside = f.inside;
        owns = f.owns;
        knows = f.knows;
        knew = f.knew;
        behind = f.behind;
        incoming_behind = f.incoming_behind;
        turn_fits = (has.0, has.1, has.2, has.3, changes, longer_trail);
      } in
      let told : announces parts_of trail_of (logic.some (Some value)) me (w, me.1) =
      λ y e. let same : value ≡ y = cc (e) in ap (λ (z : T). (with_offer v (parts_of z) (trail_of z), me.1)) same in
      let F : ℕ → Type 0 = λ k. (w : SeatView P E) × (a : Act (Option T)) × Valid s.homes me.1 a × Rule (stepped s 0 k id me.1 w a) × announces parts_of trail_of
      (logic.some (Some value)) me (w, carried_after me.1 a) in
      let here : F word = (w, keeps, tt, stays s r id me.1 v w at refl refl (λ o. tt) f', told) in
      exchanged word n n F (λ e. subst F e here) (λ ne. here)

  -- the step in which a seat whose value is home again ends its turn
  pub releases_allowed : (slots id : ℕ) (me : Me (Option T) (SeatView P E)) (value : T) → me.1 ≡ (0, Some value) ∷ []
      → me.0.turn ≡ Announced (taken_parts me.0.turn) (taken_trail me.0.turn) (parts_of value) (trail_of value) → 0 < length me.0.own
      → Allows Rule slots id me 0 (λ _. 0) (λ _. releases me)
  releases_allowed slots id me value hand turn some_part s r h at b =
      let word = slice_index s.words 0 in
      let v : SeatView P E = me.0 in
      let new_parts : List P = parts_of value in
      let new_trail : List E = trail_of value in
      let f = r.each id v at in
      let has : TurnFits word r.holder id v.first (length v.own) r.parts r.trail (Announced (taken_parts v.turn) (taken_trail v.turn) new_parts new_trail) =
      subst (λ (z : Turn P E). TurnFits word r.holder id v.first (length v.own) r.parts r.trail z) turn f.turn_fits in
      let changes : ChangesOnlyWithin v.first (length v.own) r.parts new_parts = subst (λ (z : List P). ChangesOnlyWithin v.first (length v.own) z new_parts) has.2 has.4 in
      let grows : IsPrefix r.trail new_trail = subst (λ (z : List E). IsPrefix z new_trail) has.3 has.5 in
      let fits = given_fits word r.holder r.owner made r.parts new_parts r.trail new_trail id v f changes grows in
      let homes : List (logic.Option (Option T)) = set s.homes 0 (logic.some (Some value)) in
      let homes_are : homes_after s.homes me.1 gives ≡ homes = ap (λ (c : List (ℕ × Option T)). homes_after s.homes c gives) hand in
      let at_home : AtHome parts_of trail_of homes new_parts new_trail = (value, set_here s.homes 0 (logic.some (Some value)) (omega (arith, r.one_slot)), refl, refl) in
      let one : length homes ≡ 1 = length-set s.homes 0 (logic.some (Some value)) ∙ r.one_slot in (
        view_after_give v new_parts new_trail,
        gives,
        tt,
        renew s r id 0 me.1 v (view_after_give v new_parts new_trail) gives r.holder new_parts new_trail at refl fits.0 (rw homes_are one) (changes.0 ∙ r.counted)
            (λ e. rw homes_are at_home)
            (λ k. absurd (omega arith))
            fits.1
            (λ j u ne e.
            others_fit word r.owner made r.parts new_parts r.trail new_trail r.holder j v u (λ same. ne (same ∙ sym has.1))
            (subst (λ (i : ℕ). ViewFits word r.holder r.owner made r.parts r.trail i v) has.1 f) some_part (r.each j u e) changes grows),
        (
          ap₂ (λ (z : SeatView P E) (c : List (ℕ × Option T)). (z, c))
              (ap (λ (z : Turn P E). view_after_give v (announced_parts z) (announced_trail z)) (sym turn))
              (ap (λ (c : List (ℕ × Option T)). carried_after c gives) hand),
          fits.0,
        ),
      )

  -- the load after a join: one of the two trails is kept
  pub settles_allowed : (slots id : ℕ) (me : Me (Option T) (SeatView P E)) → Allows Rule slots id me 0 (λ n. n) (λ word. settles me)
  settles_allowed slots id me s r h at b =
      let v : SeatView P E = me.0 in
      let f = r.each id v at in
      let l = prefix_longer v.trail v.incoming r.trail f.behind f.incoming_behind in
      let f' : ViewFits (slice_index s.words 0) r.holder r.owner made r.parts r.trail id (settle v) = record {
        inside = f.inside;
        owns = f.owns;
        knows = f.knows;
        knew = f.knew;
        behind = l.2;
        incoming_behind = prefix_nil r.trail;
        turn_fits = f.turn_fits;
      } in
      (settle v, keeps, tt, stays s r id me.1 v (settle v) at refl refl (λ o. o) f', (refl, l.0, l.1))

  -- where a free seat owns all parts nobody has the value
  not_out : (s : Cell) (r : Rule s) (id : ℕ) (v : SeatView P E) → get_elem? s.views id ≡ logic.some v → v.turn ≡ Free → v.first ≡ 0 → length v.own ≡ length made
      → ¬ (0 < slice_index s.words 0)
  not_out s r id v at free first all out =
      let f = r.each id v at in
      let h = r.held out in
      let u : SeatView P E = h.0 in
      let g = r.each r.holder u h.1 in
      let begins : u.first < u.first + length u.own = let k = h.2.2 in omega arith in
      let within : u.first < v.first + length v.own = let i = g.inside in omega (arith, r.counted) in
      let same : r.holder ≡ id = sym (g.owns u.first (le_refl u.first) begins) ∙ f.owns u.first (omega arith) within in
      let view : u ≡ v = one_view s.views id u v (rw same at h.1) at in
      subst (λ (z : Turn P E). HasTurn z) (ap (λ (z : SeatView P E). z.turn) view ∙ free) h.2.0

  -- the last value has what a free seat that owns all parts knows
  pub ends : (s : Cell) (r : Rule s) (id : ℕ) (v : SeatView P E) → get_elem? s.views id ≡ logic.some v → v.turn ≡ Free → v.first ≡ 0 → length v.own ≡ length made → 0 < length v.own
      → (x : T) × (get_elem? s.homes 0 ≡ logic.some (logic.some (Some x))) × (parts_of x ≡ v.own) × IsPrefix v.trail (trail_of x) × (v.original ≡ made)
  ends s r id v at free first all some_part =
      let word = slice_index s.words 0 in
      let f = r.each id v at in
      let idle : word ≡ 0 = dite (ℕ_discrete word 0) (λ e. e) (λ ne. absurd (not_out s r id v at free first all (omega arith))) in
      let home = r.home idle in
      let whole : length v.own ≡ length r.parts = all ∙ sym r.counted in
      let known : v.own ≡ r.parts = all_segment v.first (length v.own) r.parts v.own f.knows first whole in
      let knew : v.original ≡ made = all_segment v.first (length v.own) made v.original f.knew first all in
      (home.0, home.1, home.2 ∙ sym known, (rw (home.3) f.behind), knew)

  -- the slot of a closed table has such a value
  pub closing : (words : List ℕ) (slots : List (Option T)) (id : ℕ) (v : SeatView P E) (found : Option T) → Final (Seen Rule id v) words slots
      → v.turn ≡ Free → v.first ≡ 0 → length v.own ≡ length made → 0 < length v.own → get_elem? slots 0 ≡ logic.some found
      → (x : T) × (found ≡ Some x) × (parts_of x ≡ v.own) × IsPrefix v.trail (trail_of x) × (v.original ≡ made)
  closing words slots id v found final free first all some_part at =
      let e = ends final.0 final.1.0 id v final.1.1 free first all some_part in
      (e.0, logic.some-injective found (Some e.0) (sym at ∙ final.4 0 (Some e.0) e.1), e.2, e.3, e.4)
