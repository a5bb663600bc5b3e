-- A fuse and a loss of power in a run.
use Rattle.app_api.specs.Behaviours.{Behaviour}
use Rattle.std.proofs.Common.{ℕ, ◌≡◌, ◌<◌, ◌+◌, inl, Bool, true, false, List, [], ◌∷◌, ◌++◌, Option, None}
use Rattle.std.proofs.Common.{Some, is_some, length, get_or, position, nat_lt, refl, sym, subst, ◌∙◌, ap, append_assoc, append-nil, ⊎_elim, arith}
use Rattle.std.specs.List.{position_or_len}
use Rattle.std.specs.Io.KnownBytes.{Appends}
use Rattle.std.proofs.KnownBytes.{Appends-nil}
use Rattle.std.proofs.lemmas.Bool.{cases_Bool, cond-true, ltb-false}
use Rattle.std.proofs.lemmas.List.Quantifiers.{position-Some}
use Rattle.std.proofs.lemmas.List.Sums.{fails_before_first}
use Rattle.std.proofs.lemmas.Option.{get_or_from_slice_get, slice_get_within}
use Rattle.tee_base.specs.Faults.{Rose}
use Rattle.tee_base.specs.Transfer.{AppendsFront}
use Rattle.alone.specs.declared.power.Power.{Power}
use Rattle.alone.specs.declared.power.Power.TheVariants.{Clean, Kept, Absent}
use Rattle.alone.specs.Machine.{Machine}
use Rattle.app_side.specs.declared.side.AppSide.{AppSide}
use Rattle.board.specs.Moment.{Moment, Order, View}
use Rattle.epoch.specs.Forms.{Form, held_of}
use Rattle.epoch.specs.Mounts.{IsSeenOn, OrderRun}
use Rattle.script.specs.declared.line.Line.{Line}
use Rattle.script.specs.declared.line.Line.TheVariants as lines
use Rattle.store_api.specs.Volumes.{VolumeKeeper}
use Rattle.tee_core.specs.Moments.{IsWithin, LeavesStoresAt, OrderLeavesStores}
use Rattle.tee_core.specs.Powers.{IsTold, after_power}
use Rattle.tee_core.specs.Represents.{HasDoubt, HasStoresOf}
use Rattle.tee_core.specs.Sides.{AreBooted, AreSides}
use Rattle.tee_core.specs.World.{World}
use Rattle.tee_core.proofs.SideLemmas.{get_there}
use Rattle.run_board.specs.BoardLines.{IsOwnerKnown}
use Rattle.run_board.specs.Boards.{FailsAtPower, GoesAlong, HasFirstOrders, HasOrders, IsOrder, IsSpan, LeavesStores, RunsAlong, orders_of}
use Rattle.run_board.specs.Parts.{IsRefusedIn, IsRunOf, Point, StopsIn, owner_told}
use Rattle.run_board.specs.Transcript.{Fused, Powered, events_of, line_events, owner_in_doubt, power_line, powers_in, text_of}
use Rattle.run_board.proofs.Along.{run_none}
use Rattle.run_board.proofs.Parts.{orders_both, orders_of_both, rose_later, span_none}

-- ---- whose change is in doubt

some_none : {X : Type 0} (x : X) → Some x ≡ None → ⊥
some_none x e = cc

all_fail : {X : Type 0} (q : X → Bool) (xs : List X) → position q xs ≡ None → (k : ℕ) (d : X) → k < length xs → q (get_or xs k d) ≡ false
all_fail q xs e k d lt =
    let at : ℕ = position_or_len q xs in
    fails_before_first q xs k d
    (⊎_elim
    (λ (yes : nat_lt at (length xs) ≡ true). let h : Some at ≡ None = sym (cond-true (nat_lt at (length xs)) (Some at) None yes) ∙ e in absurd (some_none at h))
    (λ (no : nat_lt at (length xs) ≡ false). omega (arith, ltb-false at (length xs) no))
    (cases_Bool (nat_lt at (length xs))))

module _ {A : Type 0} where
  -- the first application whose change is in doubt has one
  first_doubt : (w : World A) (i : ℕ) → owner_in_doubt w ≡ Some i → HasDoubt i w
  first_doubt [] i is = absurd (let e : None ≡ Some i = is in cc)
  first_doubt (m ∷ w) i is =
      let found = position-Some (λ (x : Machine A). is_some x.in_doubt) (m ∷ w) i m is in
      record { machine = get_or (m ∷ w) i m; there = get_there (m ∷ w) i m found.0; doubt = found.1 }

  -- where none is found, none has one
  none_found : (w : World A) (owner : ℕ) → owner_in_doubt w ≡ None → HasDoubt owner w → ⊥
  none_found w owner is has =
      let within : owner < length w = slice_get_within w owner has.machine has.there in
      let here : get_or w owner has.machine ≡ has.machine = get_or_from_slice_get w owner has.machine has.machine has.there in
      let fails = all_fail (λ (x : Machine A). is_some x.in_doubt) w is owner has.machine within in
      let e : true ≡ false = sym has.doubt ∙ ap (λ (x : Machine A). is_some x.in_doubt) (sym here) ∙ fails in
      absurd (cc)

  owner_none : (w : World A) (o : Option ℕ) → owner_in_doubt w ≡ o → ((owner : ℕ) → HasDoubt owner w → ⊥) → o ≡ None
  owner_none w None is none = refl
  owner_none w (Some i) is none = absurd (none i (first_doubt w i is))

  owner_some : (w : World A) (o : Option ℕ) (owner : ℕ) → owner_in_doubt w ≡ o → HasDoubt owner w → ((one other : ℕ) → HasDoubt one w → HasDoubt other w → one ≡ other) → o ≡ Some owner
  owner_some w None owner is has single = absurd (none_found w owner is has)
  owner_some w (Some i) owner is has single = ap (λ n. Some n) (single i owner (first_doubt w i is) has)

  -- it is the one that is told of
  pub owner_is : (w : World A) (told : Power) (acknowledged opened : ℕ) → IsTold told w acknowledged opened → ((one other : ℕ) → HasDoubt one w → HasDoubt other w → one ≡ other)
      → owner_in_doubt w ≡ owner_told told
  owner_is w Clean acknowledged opened is single = owner_none w (owner_in_doubt w) refl is
  owner_is w (Kept owner) acknowledged opened is single = owner_some w (owner_in_doubt w) owner refl is.0 single
  owner_is w (Absent owner) acknowledged opened is single = owner_some w (owner_in_doubt w) owner refl is.0 single

  -- it is one of those that there are
  pub owner_known : (w : World A) (told : Power) (acknowledged opened count : ℕ) → IsTold told w acknowledged opened → length w ≡ count → IsOwnerKnown count told
  owner_known w Clean acknowledged opened count is same = tt
  owner_known w (Kept owner) acknowledged opened count is same = let has = is.0 in omega (arith, same, slice_get_within w owner has.machine has.there)
  owner_known w (Absent owner) acknowledged opened count is same = let has = is.0 in omega (arith, same, slice_get_within w owner has.machine has.there)

  -- how often the power was lost
  pub powers_are : (sides : List (AppSide A)) (w : World A) (boots : ℕ) → AreSides sides w → AreBooted boots sides → 0 < length sides → powers_in w ≡ boots
  powers_are [] w boots are booted some = absurd (omega (arith, some))
  powers_are (s ∷ sides) [] boots are booted some = absurd are
  powers_are (s ∷ sides) (m ∷ w) boots are booted some = ap (λ (x : Machine A). x.boot) are.0.parts ∙ booted.0

-- ---- what a crash may leave

-- within a call that leaves the world as it is a crash leaves its stores
pub within_leaves : {A V : Type 0} (K : VolumeKeeper V) (form : Form) (old new : V) (view : View) (w : World A) → IsSeenOn K form new view → IsWithin K w w old new → LeavesStores form view w
within_leaves {A} K form old new view w seen within = λ c left.
    let o = held_of form view.key c in
    ⊎_elim (λ (has : HasStoresOf w o). has) (λ (has : HasStoresOf w o). has) (within.each o (seen.left_back (K.moment old) c (inl left)))

-- ---- orders

-- an order is the one that was made
pub order_made : (number : ℕ) (old new : View) → OrderRun number old new → HasOrders (number ∷ []) old new
order_made number old new order = record {
  size = order.size;
  key = order.key;
  orders = order.orders;
  made = record { number = number; before = old.state; after = order.after } ∷ [];
  numbered = refl;
  ordered = order.ordered;
  later = omega (arith, order.steady, order.later);
}

-- it is counted, and no call failed by it
pub order_is : (number : ℕ) (old new : View) (order : OrderRun number old new) → IsOrder number (record { number = number; before = old.state; after = order.after })
order_is number old new order = record { its_number = refl; counted = order.counted; steady = order.steady }

-- the calls behind it
pub order_behind : (number : ℕ) (old new : View) (order : OrderRun number old new) → IsSpan 0 order.after new.state
order_behind number old new order = record {
  orders = order.orders ∙ sym order.counted;
  later = order.later;
  faults = inl (omega (arith, order.later));
}

-- one of them failed
pub order_failed : (number : ℕ) (old new : View) (order : OrderRun number old new) → Rose old.state.faults new.state.faults → Rose order.after.faults new.state.faults
order_failed number old new order rose = subst (λ n. Rose n new.state.faults) (sym order.steady) rose

-- the orders of lines and of one more
pub orders_more : (front : List Line) (line : Line) (a b c : View) → HasOrders (orders_of front) a b → HasOrders (orders_of (line ∷ [])) b c → HasOrders (orders_of (front ++ line ∷ [])) a c
orders_more front line a b c h k =
    subst (λ zs. HasOrders zs a c) (sym (orders_of_both front (line ∷ []))) (orders_both (orders_of front) (orders_of (line ∷ [])) a b c h k)

-- the orders of the first lines are orders of the first of these and others
pub first_orders_before : (xs ys : List Line) (a b : View) → HasFirstOrders xs a b → HasFirstOrders (xs ++ ys) a b
first_orders_before xs ys a b h =
    (h.0, h.1 ++ orders_of ys, orders_of_both xs ys ∙ ap (λ zs. zs ++ orders_of ys) h.2 ∙ append_assoc h.0 h.1 (orders_of ys), h.3)

-- ---- openings that failed

-- the opening at a line of a power
pub fails_here : (pick : ℕ) (old new : View) → OrderRun pick old new → Rose old.state.faults new.state.faults → FailsAtPower (lines.Power pick ∷ []) old new
fails_here pick old new order failed = record {
  front = [];
  pick = pick;
  rest = [];
  split = refl;
  orders = order_made pick old new order;
  behind = record {
    order = record { number = pick; before = old.state; after = order.after };
    earlier = old.ordered;
    last = order.ordered;
    later = omega arith;
    made = order_is pick old new order;
    behind = order_behind pick old new order;
    failed = order_failed pick old new order failed;
  };
}

-- behind the first lines
pub fails_behind : (front rest : List Line) (a b c : View) → HasOrders (orders_of front) a b → FailsAtPower rest b c → FailsAtPower (front ++ rest) a c
fails_behind front rest a b c h k = record {
  front = front ++ k.front;
  pick = k.pick;
  rest = k.rest;
  split = ap (λ zs. front ++ zs) k.split ∙ sym (append_assoc front k.front (lines.Power k.pick ∷ k.rest));
  orders = subst (λ zs. HasOrders (orders_of zs) a c) (sym (append_assoc front k.front (lines.Power k.pick ∷ [])))
      (subst (λ zs. HasOrders zs a c) (sym (orders_of_both front (k.front ++ lines.Power k.pick ∷ [])))
      (orders_both (orders_of front) (orders_of (k.front ++ lines.Power k.pick ∷ [])) a b c h k.orders));
  behind = record {
    order = k.behind.order;
    earlier = k.behind.earlier;
    last = k.behind.last;
    later = omega (arith, h.later, k.behind.later);
    made = k.behind.made;
    behind = k.behind.behind;
    failed = k.behind.failed;
  };
}

-- before others
pub fails_before : (xs ys : List Line) (a b : View) → FailsAtPower xs a b → FailsAtPower (xs ++ ys) a b
fails_before xs ys a b h = record {
  front = h.front;
  pick = h.pick;
  rest = h.rest ++ ys;
  split = ap (λ zs. zs ++ ys) h.split ∙ append_assoc h.front (lines.Power h.pick ∷ h.rest) ys;
  orders = h.orders;
  behind = h.behind;
}

-- the count rose
pub fails_rose : (script : List Line) (a b : View) → FailsAtPower script a b → Rose a.state.faults b.state.faults
fails_rose script a b h =
    rose_later a.state.faults h.behind.order.after.faults b.state.faults (omega (arith, h.behind.later, h.behind.made.steady)) h.behind.failed

-- ---- the events of orders

module _ {A : Type 0} (behaviour : Behaviour A) (form : Form) where
  along_fused : (key : List ℕ) (w : World A) (calls : ℕ) (order : Order) (end : Moment) → IsOrder calls order → IsSpan 0 order.after end
      → GoesAlong behaviour form key order.before 0 w (Fused calls ∷ []) (order ∷ []) end
  unfolding GoesAlong
  along_fused key w calls order end is span = (span_none order.before, is, span)

  board_fused : (w : World A) (calls : ℕ) (old new : View) → OrderRun calls old new → RunsAlong behaviour form w (Fused calls ∷ []) old new
  board_fused w calls old new order = record {
    size = order.size;
    key = order.key;
    made = record { number = calls; before = old.state; after = order.after } ∷ [];
    ordered = order.ordered;
    along = along_fused old.key w calls (record { number = calls; before = old.state; after = order.after }) new.state (order_is calls old new order) (order_behind calls old new order);
  }

  along_powered : (key : List ℕ) (w : World A) (pick : ℕ) (told : Power) (order : Order) (end : Moment) → IsOrder pick order
      → LeavesStoresAt form key order.after (after_power behaviour w told) → IsSpan 0 order.after end
      → GoesAlong behaviour form key order.before 0 w (Powered pick told ∷ []) (order ∷ []) end
  unfolding GoesAlong
  along_powered key w pick told order end is left span = (span_none order.before, is, left, span)

  board_powered : (w : World A) (pick : ℕ) (told : Power) (old new : View) → OrderRun pick old new → OrderLeavesStores form old new (after_power behaviour w told)
      → RunsAlong behaviour form w (Powered pick told ∷ []) old new
  board_powered w pick told old new order left =
      let made : Order = record { number = pick; before = old.state; after = order.after } in
      record {
        size = order.size;
        key = order.key;
        made = made ∷ [];
        ordered = order.ordered;
        along = along_powered old.key w pick told made new.state (order_is pick old new order) (left made order.ordered) (order_behind pick old new order);
      }

  module _ (names : List (List ℕ)) where
    -- a line of a fuse
    pub fuse_whole : (Stands : World A → Type 0) (w : World A) (calls : ℕ) (old new : Point) → new.powers ≡ old.powers → Stands w → OrderRun calls old.view new.view → new.written ≡ old.written
        → IsRunOf behaviour form names (λ weather. line_events behaviour weather w (lines.Fuse calls)) w Stands old new
    fuse_whole Stands w calls old new powers stands order written = record {
      made = Fused calls ∷ [];
      known = record { known = tt; counted = tt; owners = tt };
      told = tt;
      undamaged = tt;
      powers = omega (arith, powers);
      stands = stands;
      board = board_fused w calls old.view new.view order;
      written = subst (λ (t : Option (List ℕ)). Appends old.written t []) (sym written) (Appends-nil old.written);
      by_weather = λ weather agree. refl;
    }

    module _ (w : World A) (pick : ℕ) (told : Power) (known : IsOwnerKnown (length names) told) where
      power_text : text_of behaviour names w (Powered pick told ∷ []) ≡ power_line names told
      power_text = append-nil (power_line names told)

      -- a loss of power that is written whole
      pub power_whole : (Stands : World A → Type 0) (old new : Point) → powers_in w ≡ old.powers → owner_in_doubt w ≡ owner_told told → new.powers ≡ old.powers + 1
          → OrderRun pick old.view new.view → OrderLeavesStores form old.view new.view (after_power behaviour w told) → Stands (after_power behaviour w told)
          → Appends old.written new.written (power_line names told)
          → IsRunOf behaviour form names (λ weather. line_events behaviour weather w (lines.Power pick)) w Stands old new
      power_whole Stands old new powers owner more order left stands written = record {
        made = Powered pick told ∷ [];
        known = record { known = tt; counted = tt; owners = (known, tt) };
        told = (powers, owner, tt);
        undamaged = tt;
        powers = omega (arith, more);
        stands = stands;
        board = board_powered w pick told old.view new.view order left;
        written = subst (Appends old.written new.written) (sym power_text) written;
        by_weather = λ weather agree. ap (λ t. Powered pick t ∷ []) agree.0;
      }

      -- and one of which only a front is written
      pub power_stops : (old new : Point) → powers_in w ≡ old.powers → owner_in_doubt w ≡ owner_told told → LeavesStores form new.view (after_power behaviour w told)
          → AppendsFront (power_line names told) old.written new.written
          → StopsIn behaviour form names (λ weather. line_events behaviour weather w (lines.Power pick)) w old new
      power_stops old new powers owner left written = record {
        made = Powered pick told ∷ [];
        known = record { known = tt; counted = tt; owners = (known, tt) };
        told = (powers, owner, tt);
        undamaged = tt;
        left = left;
        text = written.0;
        cut = record {
          done = [];
          last = Powered pick told ∷ [];
          few = omega arith;
          all = refl;
          cut = written.0;
          rest = written.1;
          piece = power_text ∙ written.2;
          here = refl;
        };
        written = written.3;
        by_weather = λ weather agree. ([], ap (λ t. Powered pick t ∷ []) agree.0);
      }

    -- a loss of power that was refused: nothing is written of it
    pub power_refused : (w : World A) (pick : ℕ) (old new : Point) → OrderRun pick old.view new.view → Rose old.view.state.faults new.view.state.faults
        → LeavesStores form new.view w → new.written ≡ old.written → IsRefusedIn behaviour form names (lines.Power pick ∷ []) w old new
    power_refused w pick old new order failed left written = record {
      front = [];
      pick = pick;
      behind = [];
      split = refl;
      between = old;
      run = run_none behaviour form names (LeavesStores form new.view) w (λ weather. events_of behaviour weather w []) old left (λ weather. refl);
      order = order;
      failed = order_failed pick old.view new.view order failed;
      written = written;
    }
