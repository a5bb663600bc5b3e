-- What the loop over the pending blocks keeps.
use Rattle.std.proofs.Common.{◌≡◌, ◌<◌, ◌≤◌, ◌+◌, ◌^◌, ℕ, true, false, cond, List, [], length}
use Rattle.std.proofs.Common.{get_or, sym, ap, subst, ⊎_elim, ◌∙◌, refl, arith}
use Rattle.std.proofs.lemmas.Bool.{cases_Bool, cases_lt}
use Rattle.std.proofs.lemmas.List.{get_or_default}
use Rattle.boards.specs.Disk.{HasLanded, IsWhole, durable_of, offered_of, pending_of, reads_of, size_of}
use Rattle.boards.specs.Landing.{digit_at, block_after_crash}
use Rattle.boards.specs.Pending.{IsPending, offered_in}
use Rattle.boards.specs.Places.{is_listed, place_in}
use Rattle.boards.specs.Row.{IsRow, Sets, block_of}
use Rattle.boards.specs.declared.disk.Disk.{Disk}
use Rattle.boards.specs.declared.pending.Pending.{Pending}
use Rattle.boards.specs.declared.row.Row.{Row}
use Rattle.boards.proofs.BlockLists.{found_place}
use Rattle.boards.proofs.Places.{block_at_place, listed_place, unlisted_place}

-- the place of a block in the list of the pending ones
abbrev pub place_of : Disk → ℕ → ℕ
place_of d k = place_in d.pending.listed.blocks.items k

-- the pending blocks at the first places took their digits, and the others are as they were
pub record LandedBelow (at digits : ℕ) (old new : Disk) : Type 0 where
  pub row : IsRow new.seen
  pub size : size_of new ≡ size_of old
  pub done : (k : ℕ) → place_of old k < at → reads_of new k ≡ block_after_crash (digit_at digits (pending_of old) k) (durable_of old k) (offered_in old.pending k)
  pub rest : (k : ℕ) → at ≤ place_of old k → reads_of new k ≡ reads_of old k
  pub pending : new.pending ≡ old.pending
  pub offers : new.offers ≡ old.offers
  pub counter : new.counter ≡ old.counter
  pub unsettled : new.unsettled ≡ old.unsettled
  pub faults : new.faults ≡ old.faults
  pub orders : new.orders ≡ old.orders

-- before the first place
pub landed_none : (digits : ℕ) (old : Disk) → IsWhole old → LandedBelow 0 digits old old
landed_none digits old whole = record {
  row = whole.seen;
  size = refl;
  done = λ k h. absurd (omega arith);
  rest = λ k h. refl;
  pending = refl;
  offers = refl;
  counter = refl;
  unsettled = refl;
  faults = refl;
  orders = refl;
}

landed_same : (x y : ℕ) (a b c d : List ℕ) → x ≡ y → a ≡ b → c ≡ d → block_after_crash x a c ≡ block_after_crash y b d
landed_same x y a b c d p q r = ap (λ n. block_after_crash n a c) p ∙ ap (λ (e : List ℕ). block_after_crash y e c) q ∙ ap (λ (e : List ℕ). block_after_crash y b e) r

-- the block at a place has this place
place_at : (p : Pending) → IsPending p → (at : ℕ) → at < length p.listed.blocks.items → place_in p.listed.blocks.items (get_or p.listed.blocks.items at 0) ≡ at
place_at p is at below = found_place p.listed.blocks.items p.listed.places.items (λ i h. is.listed.noted i (omega (arith, h, p.listed.blocks.ok))) _ at below refl

module _ (at digits : ℕ) (old mid : Disk) (below : LandedBelow at digits old mid) (whole : IsWhole old) (within : at < length old.pending.listed.blocks.items) (block : ℕ)
    (here : block ≡ get_or mid.pending.listed.blocks.items at 0) (bytes : List ℕ)
    (picked : bytes ≡ block_after_crash (digit_at digits (is_listed mid.pending.listed.blocks.items) (get_or mid.pending.listed.blocks.items at 0)) (get_or mid.pending.durable.items at [])
    (get_or mid.pending.offered.items at []))
    (seen : Row) (sets : Sets block bytes mid.seen seen) where
  its_block : block ≡ get_or old.pending.listed.blocks.items at 0
  its_block = here ∙ ap (λ (p : Pending). get_or p.listed.blocks.items at 0) below.pending

  its_place : place_of old block ≡ at
  its_place = ap (λ n. place_of old n) its_block ∙ place_at old.pending whole.pending at within

  its_bytes : bytes ≡ block_after_crash (digit_at digits (pending_of old) block) (durable_of old block) (offered_in old.pending block)
  its_bytes =
      let durable : at < length old.pending.durable.items = omega (arith, within, whole.pending.durable, old.pending.durable.ok, old.pending.listed.blocks.ok) in
      picked
      ∙ ap (λ (p : Pending). block_after_crash (digit_at digits (is_listed p.listed.blocks.items) (get_or p.listed.blocks.items at 0)) (get_or p.durable.items at [])
      (get_or p.offered.items at [])) below.pending
      ∙ landed_same _ _ _ _ _ _ (ap (λ n. digit_at digits (pending_of old) n) (sym its_block))
      (get_or_default old.pending.durable.items at [] (reads_of old block) durable ∙ ap (λ n. get_or old.pending.durable.items n (reads_of old block)) (sym its_place))
      (ap (λ n. get_or old.pending.offered.items n []) (sym its_place))

  -- one place more
  pub landed_more : LandedBelow (at + 1) digits old (record mid { seen = seen })
  landed_more = record {
    row = sets.row;
    size = sets.count ∙ below.size;
    done = λ k h. ⊎_elim
        (λ (low : place_of old k < at). sets.elsewhere k (λ e. let same = ap (λ n. place_of old n) e in absurd (omega (arith, low, same, its_place))) ∙ below.done k low)
        (λ (high : at ≤ place_of old k). let inside : place_of old k < length old.pending.listed.blocks.items = omega (arith, h, within) in
        let last : place_of old k ≡ at = omega (arith, h, high) in
        let same : k ≡ block = sym (block_at_place old.pending.listed.blocks.items k inside) ∙ ap (λ n. get_or old.pending.listed.blocks.items n 0) last ∙ sym its_block in
        subst (λ n. block_of seen n ≡ block_after_crash (digit_at digits (pending_of old) n) (durable_of old n) (offered_in old.pending n)) (sym same) (sets.here ∙ its_bytes))
        (cases_lt (place_of old k) at);
    rest = λ k h. sets.elsewhere k (λ e. let same = ap (λ n. place_of old n) e in absurd (omega (arith, h, same, its_place))) ∙ below.rest k (omega (arith, h));
    pending = below.pending;
    offers = below.offers;
    counter = below.counter;
    unsettled = below.unsettled;
    faults = below.faults;
    orders = below.orders;
  }

-- past the last place, with none pending any more
pub all_landed : (at digits : ℕ) (old mid : Disk) (none : Pending) → LandedBelow at digits old mid → IsWhole old → at ≡ length old.pending.listed.blocks.items
    → IsPending none → none.listed.count ≡ mid.pending.listed.count → none.listed.blocks.items ≡ [] → none.durable.items ≡ []
    → HasLanded digits old (record mid { pending = none })
all_landed at digits old mid none below whole all is count empty durable =
    let unlisted : (k : ℕ) → is_listed none.listed.blocks.items k ≡ false = λ k. ap (λ (l : List ℕ). is_listed l k) empty in
    record {
      whole = record {
        seen = below.row;
        pending = is;
        count = count ∙ ap (λ (p : Pending). p.listed.count) below.pending ∙ whole.count ∙ sym below.size;
        as_read = λ k p. sym (ap (λ (l : List (List ℕ)). get_or l (place_in none.listed.blocks.items k) (reads_of mid k)) durable);
        offers = λ k p. absurd (let e : true ≡ false = sym p ∙ unlisted k in cc);
        counter = subst (λ n. n < 2 ^ 64) (sym below.counter) whole.counter;
        faults = subst (λ n. n < 2 ^ 64) (sym below.faults) whole.faults;
        orders = subst (λ n. n < 2 ^ 64) (sym below.orders) whole.orders;
      };
      size = below.size;
      image = λ k. ⊎_elim
          (λ (p : pending_of old k ≡ true). let place = listed_place old.pending.listed.blocks.items k p in
          below.done k (omega (arith, place, all))
          ∙ ap (λ (b : List ℕ). block_after_crash (digit_at digits (pending_of old) k) (durable_of old k) b) (whole.offers k p)
          ∙ sym (ap (λ b. cond b (block_after_crash (digit_at digits (pending_of old) k) (durable_of old k) (offered_of old k)) (durable_of old k)) p))
          (λ (p : pending_of old k ≡ false). let place = unlisted_place old.pending.listed.blocks.items k p in
          below.rest k (omega (arith, place, all))
          ∙ sym (whole.pending.settled k p (reads_of old k))
          ∙ sym (ap (λ b. cond b (block_after_crash (digit_at digits (pending_of old) k) (durable_of old k) (offered_of old k)) (durable_of old k)) p))
          (cases_Bool (pending_of old k));
      durable = λ k. ap (λ (l : List (List ℕ)). get_or l (place_in none.listed.blocks.items k) (reads_of mid k)) durable;
      pending = unlisted;
      offers = below.offers;
      counter = below.counter;
      unsettled = below.unsettled;
      faults = below.faults;
      orders = below.orders;
    }
