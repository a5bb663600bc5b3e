-- Chains of data leaves through the map.
use Rattle.std.proofs.Common.{◌≡◌, ℕ, zero, suc, ◌+◌, ◌-◌, ◌<◌, ◌≤◌, Bool, true, false, cond, List, None, Some, find, refl, sym, ◌∙◌, ap, subst, arith}
use Rattle.std.specs.Prelude.{◌&&◌, ◌==◌, nat_lt, if◌then◌else◌, replicate}
use Rattle.std.proofs.lemmas.List.{get_or-replicate}
use Rattle.std.specs.List.{range_with_len}
use Rattle.std.proofs.lemmas.Bool.{eqb-true, eqb-false, ltb-true, ltb-false, lt-ltb, and_from}
use Rattle.region_plan.specs.Chains.{AreChains, is_at, leaf_from, link_to, links_in, last_below}
use Rattle.region_plan.specs.Places.{is_of}
use Rattle.region_plan.specs.declared.entry.Entry.{Entry}
use Rattle.region_plan.specs.declared.entry.TheConstants.{DATA}
use Rattle.region_plan.proofs.SoundLemmas.{and_both}

pub not_both : {A : Type 0} (b : Bool) → b ≡ true → b ≡ false → A
not_both b yes' no' = absurd (let e : true ≡ false = sym yes' ∙ no' in cc)

module _ (entries : ℕ → Entry) where
  -- a link leads to a leaf below
  pub below_least : (n i : ℕ) → last_below entries n i ≤ i
  below_least n zero = omega arith
  below_least n (suc i) =
      elim (is_of n (entries i)) as (λ b. (if b then suc i else last_below entries n i) ≤ suc i) [
        | true ↦ omega arith
        | false ↦ (let rest = below_least n i in omega (arith, rest))
      ]

  -- what a link leads to is the last one below itself
  pub below_own : (n i : ℕ) → last_below entries n (last_below entries n i) ≡ last_below entries n i
  below_own n zero = refl
  below_own n (suc i) =
      elim (is_of n (entries i)) as (λ b. is_of n (entries i) ≡ b → last_below entries n (if b then suc i else last_below entries n i) ≡ (if b then suc i else last_below entries n i)) [
        | true ↦ λ e. ap (λ b. if b then suc i else last_below entries n i) e
        | false ↦ λ e. below_own n i
      ] refl

  -- between the leaf of a link and the number there is no data of the inode
  pub below_none : (n i j : ℕ) → last_below entries n i ≤ j → j < i → is_of n (entries j) ≡ false
  below_none n zero j low high = absurd (omega (arith, high))
  below_none n (suc i) j low high =
      elim (is_of n (entries i)) as (λ b. is_of n (entries i) ≡ b → (if b then suc i else last_below entries n i) ≤ j → is_of n (entries j) ≡ false) [
        | true ↦ λ e l. absurd (omega (arith, l, high))
        | false ↦ λ e l. elim (j == i) as (λ b. (j == i) ≡ b → is_of n (entries j) ≡ false) [
          | true ↦ λ s. ap (λ (k : ℕ). is_of n (entries k)) (eqb-true j i s) ∙ e
          | false ↦ λ s. (let other = eqb-false j i s in below_none n i j l (omega (arith, high, other)))
        ] refl
      ] refl low

  -- the leaf of a link is data of the inode
  pub below_is : (n leaf : ℕ) → last_below entries n (suc leaf) ≡ suc leaf → is_of n (entries leaf) ≡ true
  below_is n leaf own =
      elim (is_of n (entries leaf)) as (λ b. (if b then suc leaf else last_below entries n leaf) ≡ suc leaf → b ≡ true) [
        | true ↦ λ e. refl
        | false ↦ λ e. absurd (let least = below_least n leaf in omega (arith, least, e))
      ] own

  module _ (end n index : ℕ) where
    pub from_end : leaf_from entries end n index end ≡ None
    unfolding leaf_from
    from_end = ap (λ (k : ℕ). find (λ i. is_at n index (entries i)) (range_with_len end k)) (let e : end - end ≡ 0 = omega arith in e)

    pub from_here : (lo : ℕ) → lo < end → leaf_from entries end n index lo ≡ cond (is_at n index (entries lo)) (Some lo) (leaf_from entries end n index (lo + 1))
    unfolding leaf_from
    from_here lo below =
        ap (λ (k : ℕ). find (λ i. is_at n index (entries i)) (range_with_len lo k)) (let e : end - lo ≡ suc (end - (lo + 1)) = omega (arith, below) in e)

    -- leaves that aren't data of the inode are passed over
    from_skip : (k lo : ℕ) → lo + k ≤ end → ((j : ℕ) → lo ≤ j → j < lo + k → is_of n (entries j) ≡ false) → leaf_from entries end n index lo ≡ leaf_from entries end n index (lo + k)
    from_skip zero lo inside none = ap (λ (x : ℕ). leaf_from entries end n index x) (let e : lo ≡ lo + 0 = omega arith in e)
    from_skip (suc k) lo inside none =
        from_here lo (omega (arith, inside))
        ∙ ap (λ b. cond (b && ((entries lo).index == index)) (Some lo) (leaf_from entries end n index (lo + 1))) (none lo (omega arith) (omega arith))
        ∙ from_skip k (lo + 1) (omega (arith, inside)) (λ j low high. none j (omega (arith, low)) (omega (arith, high)))
        ∙ ap (λ (x : ℕ). leaf_from entries end n index x) (let e : lo + 1 + k ≡ lo + suc k = omega arith in e)

    pub from_below : (i : ℕ) → i ≤ end → leaf_from entries end n index (last_below entries n i) ≡ leaf_from entries end n index i
    from_below i inside =
        let least = below_least n i in
        let lo : ℕ = last_below entries n i in
        let whole : last_below entries n i + (i - last_below entries n i) ≡ i = omega (arith, least) in
        from_skip (i - last_below entries n i) (last_below entries n i) (omega (arith, whole, inside)) (λ j low high. below_none n i j low (omega (arith, whole, high)))
        ∙ ap (λ (x : ℕ). leaf_from entries end n index x) whole

  -- a walk down a chain of an inode, from a link on
  pub record IsWalk (end n at : ℕ) : Type 0 where
    pub inside : at ≤ end
    pub own : last_below entries n at ≡ at

  pub walk_begins : (end n at : ℕ) → at ≡ last_below entries n end → IsWalk end n at
  walk_begins end n at is = record {
    inside = subst (λ (k : ℕ). k ≤ end) (sym is) (below_least n end);
    own = ap (last_below entries n) is ∙ below_own n end ∙ sym is;
  }

  -- what a link leads to is data of the inode
  pub walk_is : (n at : ℕ) → 0 < at → last_below entries n at ≡ at → is_of n (entries (at - 1)) ≡ true
  walk_is n zero more own = absurd (omega (arith, more))
  walk_is n (suc leaf) more own = ap (λ (k : ℕ). is_of n (entries k)) (let e : suc leaf - 1 ≡ leaf = omega arith in e) ∙ below_is n leaf own

  -- the next link
  pub walk_goes : (end n at next : ℕ) → 0 < at → at ≤ end → next ≡ last_below entries n (at - 1) → IsWalk end n next × (next < at)
  walk_goes end n at next more inside is =
      let least : last_below entries n (at - 1) ≤ at - 1 = below_least n (at - 1) in (
        record {
          inside = omega (arith, least, is, inside, more);
          own = ap (last_below entries n) is ∙ below_own n (at - 1) ∙ sym is;
        },
        omega (arith, least, is, more),
      )

  -- what holds of the leaf of a link, and of the inode's data from the link on, holds from the next link on
  pub walked : (P : ℕ → Type 0) (end n at next : ℕ) → 0 < at → next ≡ last_below entries n (at - 1) → P (at - 1)
      → ((i : ℕ) → at ≤ i → i < end → is_of n (entries i) ≡ true → P i) → (i : ℕ) → next ≤ i → i < end → is_of n (entries i) ≡ true → P i
  walked P end n at next more is here before i low high of =
      elim (nat_lt i (at - 1)) as (λ b. nat_lt i (at - 1) ≡ b → P i) [
        | true ↦ λ e. not_both _ of (below_none n (at - 1) i (subst (λ (k : ℕ). k ≤ i) is low) (ltb-true i (at - 1) e))
        | false ↦ λ e. (let past = ltb-false i (at - 1) e in
            elim (i == (at - 1)) as (λ b. (i == (at - 1)) ≡ b → P i) [
              | true ↦ λ s. subst P (sym (eqb-true i (at - 1) s)) here
              | false ↦ λ s. (let other = eqb-false i (at - 1) s in before i (omega (arith, past, other, more)) high of)
            ] refl)
      ] refl

  -- the first leaf at an index from the next link on
  pub linked : (end n index at next old new : ℕ) → 0 < at → at ≤ end → is_of n (entries (at - 1)) ≡ true → next ≡ last_below entries n (at - 1)
      → old ≡ link_to (leaf_from entries end n index at) → new ≡ (if (entries (at - 1)).index == index then at else old) → new ≡ link_to (leaf_from entries end n index next)
  linked end n index at next old new more inside of is was put =
      let up : at - 1 + 1 ≡ at = omega (arith, more) in
      let step : leaf_from entries end n index next ≡ cond ((entries (at - 1)).index == index) (Some (at - 1)) (leaf_from entries end n index at) =
      ap (λ (k : ℕ). leaf_from entries end n index k) is
      ∙ from_below end n index (at - 1) (omega (arith, inside))
      ∙ from_here end n index (at - 1) (omega (arith, inside, more))
      ∙ ap (λ b. cond (b && ((entries (at - 1)).index == index)) (Some (at - 1)) (leaf_from entries end n index (at - 1 + 1))) of
      ∙ ap (λ (k : ℕ). cond ((entries (at - 1)).index == index) (Some (at - 1)) (leaf_from entries end n index k)) up in
      put ∙ elim ((entries (at - 1)).index == index) as (λ b. (if b then at else old) ≡ link_to (cond b (Some (at - 1)) (leaf_from entries end n index at))) [ true ↦ sym up | false ↦ was ]
      ∙ ap link_to (sym step)

  -- before the first leaf there are no links
  pub chains_none : AreChains entries 0 (replicate 1024 0) (replicate 1024 0)
  chains_none = record {
    lasts = λ inode few. get_or-replicate 1024 inode 0 0 few;
    nexts = λ i inode below few of. absurd (omega (arith, below));
  }

  -- one leaf more, of data of an inode or not
  pub chains_more : (i m owner : ℕ) (e : Entry) (last next last' next' : List ℕ) → m ≡ i + 1 → e ≡ entries i → ((e.kind == DATA) && nat_lt e.inode 1024) ≡ true → owner ≡ e.inode
      → ((n : ℕ) → links_in last' n ≡ (if owner == n then i + 1 else links_in last n)) → ((j : ℕ) → links_in next' j ≡ (if i == j then links_in last owner else links_in next j))
      → AreChains entries i last next → AreChains entries m last' next'
  chains_more i m owner e last next last' next' is_m is owned named lasts nexts before = record {
    lasts = λ n few. lasts n ∙ ap (λ (x : ℕ). if owner == n then i + 1 else x) (before.lasts n few) ∙ up n ∙ ap (last_below entries n) (let k : suc i ≡ m = omega (arith, is_m) in k);
    nexts = λ j n below few of. elim (i == j) as (λ b. (i == j) ≡ b → links_in next' j ≡ last_below entries n j) [
      | true ↦ λ s.
          let same : i ≡ j = eqb-true i j s in
          let mine : owner ≡ n = named ∙ ap (λ (x : Entry). x.inode) is ∙ ap (λ (k : ℕ). (entries k).inode) same ∙ eqb-true _ n (and_both _ _ of).1 in
          nexts j ∙ ap (λ b. if b then links_in last owner else links_in next j) s ∙ ap (links_in last) mine ∙ before.lasts n few ∙ ap (last_below entries n) same
      | false ↦ λ s.
          let other = eqb-false i j s in
          nexts j ∙ ap (λ b. if b then links_in last owner else links_in next j) s ∙ before.nexts j n (omega (arith, below, other, is_m)) few of
    ] refl;
  }
    where
      kind : ((entries i).kind == DATA) ≡ true
      kind = ap (λ (x : Entry). x.kind == DATA) (sym is) ∙ (and_both _ _ owned).0

      mark : (n : ℕ) → (owner == n) ≡ is_of n (entries i)
      mark n = ap (λ (k : ℕ). k == n) (named ∙ ap (λ (x : Entry). x.inode) is) ∙ ap (λ b. b && ((entries i).inode == n)) (sym kind)

      up : (n : ℕ) → (if owner == n then i + 1 else last_below entries n i) ≡ last_below entries n (suc i)
      up n = ap (λ b. if b then i + 1 else last_below entries n i) (mark n) ∙ ap (λ (k : ℕ). if is_of n (entries i) then k else last_below entries n i) (let k : i + 1 ≡ suc i = omega arith in k)

  pub chains_stay : (i m : ℕ) (e : Entry) (last next : List ℕ) → m ≡ i + 1 → e ≡ entries i → ((e.kind == DATA) && nat_lt e.inode 1024) ≡ false → AreChains entries i last next
      → AreChains entries m last next
  chains_stay i m e last next is_m is free before = record {
    lasts = λ n few. before.lasts n few ∙ ap (λ b. if b then suc i else last_below entries n i) (sym (other n few)) ∙ ap (last_below entries n) (let k : suc i ≡ m = omega (arith, is_m) in k);
    nexts = λ j n below few of. elim (i == j) as (λ b. (i == j) ≡ b → links_in next j ≡ last_below entries n j) [
      | true ↦ λ s. not_both _ of (ap (λ (k : ℕ). is_of n (entries k)) (sym (eqb-true i j s)) ∙ other n few)
      | false ↦ λ s. (let apart = eqb-false i j s in before.nexts j n (omega (arith, below, apart, is_m)) few of)
    ] refl;
  }
    where
      other : (n : ℕ) → n < 1024 → is_of n (entries i) ≡ false
      other n few = elim (is_of n (entries i)) as (λ b. is_of n (entries i) ≡ b → b ≡ false) [
        | true ↦ λ t.
            let parts = and_both ((entries i).kind == DATA) ((entries i).inode == n) t in
            let low : (entries i).inode < 1024 = subst (λ (k : ℕ). k < 1024) (sym (eqb-true _ n parts.1)) few in
            not_both _ (ap (λ (x : Entry). (x.kind == DATA) && nat_lt x.inode 1024) is ∙ and_from _ _ parts.0 (lt-ltb _ 1024 low)) free
        | false ↦ λ t. refl
      ] refl
