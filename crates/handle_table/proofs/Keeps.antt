-- Each change of a table keeps what a table keeps.
use Rattle.std.proofs.Common.{◌≡◌, ◌<◌, ◌≤◌, ◌+◌, ◌==◌, ℕ, Bool, true, false, not, cond, List, Option, None, Some, [], ◌∷◌, ◌++◌, filter}
use Rattle.std.proofs.Common.{find, count_by, sum_by, option_map, IsTrue, refl, sym, ap, subst, ◌∙◌, ⊎_elim, arith}
use Rattle.std.specs.Option.{option_to_list, option_and_then}
use Rattle.std.proofs.lemmas.Bool.{cases_Bool, leb-false, eqb-true}
use Rattle.std.proofs.lemmas.List.Sums.{sum_by-cons, sum_by_push}
use Rattle.std.proofs.lemmas.List.Filters.{sum_by-filter_both}
use Rattle.tee_base.specs.declared.codes.Flags.{Flags}
use Rattle.share_rules.specs.declared.index.Share.{Share}
use Rattle.share_rules.specs.Sharing.{Gains, is_noted, conflict}
use Rattle.handle_table.specs.declared.handle.Handle.{Handle}
use Rattle.handle_table.specs.declared.handle.Entry.{Entry}
use Rattle.handle_table.specs.declared.handle.Rename.{Rename}
use Rattle.handle_table.specs.Handles.{Table, IsTable, HoldsFor, all_shares, shares_of, share_of, entry_share, share_at, pending_share}
use Rattle.handle_table.specs.Handles.{is_of, is_at, is_full, may_open, change_first, entry_sought, entry_moved}
use Rattle.handle_table.proofs.Counts.{weight, weight_of, count-shares_of, count_option, noted_from_weight}
use Rattle.handle_table.proofs.Conflicts.{conflict_same}
use Rattle.handle_table.proofs.Changes.{sum_change, sought_weight, sum_moved, on_other}

-- without a pending rename the shares of the handles are noted, and no others
pub bare : (shares : List Share) (handles : List Entry) (pending : Option Rename) → pending ≡ None → HoldsFor shares (all_shares (record { handles = handles; pending = pending })) →
    HoldsFor shares (shares_of handles)
bare shares handles pending none holds p =
    let nothing : weight p (pending_share pending handles) ≡ 0 = ap (λ (o : Option Rename). weight p (pending_share o handles)) none in
    omega (arith, holds p, count_option p (shares_of handles) (pending_share pending handles), nothing)

pub unbare : (shares : List Share) (handles : List Entry) (pending : Option Rename) → pending ≡ None → HoldsFor shares (shares_of handles) →
    HoldsFor shares (all_shares (record { handles = handles; pending = pending }))
unbare shares handles pending none holds p =
    let nothing : weight p (pending_share pending handles) ≡ 0 = ap (λ (o : Option Rename). weight p (pending_share o handles)) none in
    omega (arith, holds p, count_option p (shares_of handles) (pending_share pending handles), nothing)

pub none_pending : (t now : Table) → t ≡ now → now.pending ≡ None → t.pending ≡ None
none_pending t now same none = ap (λ (t : Table). t.pending) same ∙ none

pub may_open_same : (shares : List Share) (t now : Table) (id : List ℕ) (flags : Flags) → t ≡ now → now.pending ≡ None → HoldsFor shares (all_shares t) →
    not (conflict shares id flags) ≡ may_open now id flags
may_open_same shares t now id flags same none holds =
    ap not (conflict_same shares (shares_of t.handles) id flags (bare shares t.handles t.pending (none_pending t now same none) holds)) ∙ ap (λ (t : Table). may_open t id flags) same

-- ---- a position

pub sought_IsTable : (shares : List Share) (t now : Table) (handles : List Entry) (instance number to : ℕ) → t ≡ now → now.pending ≡ None →
    handles ≡ change_first (is_at instance number) (entry_sought to) t.handles → IsTable shares t → IsTable shares (record { handles = handles; pending = t.pending })
sought_IsTable shares t now handles instance number to same none change old = record {
  few = λ i. omega (arith, old.few i, ap (count_by (is_of i)) change, sum_change (is_at instance number) (entry_sought to) (λ (e : Entry). cond (is_of i e) 1 0) (λ e. refl) t.handles);
  noted = unbare shares handles t.pending (none_pending t now same none) (λ p. omega (
    arith,
    bare shares t.handles t.pending (none_pending t now same none) old.noted p,
    count-shares_of p t.handles,
    count-shares_of p handles,
    ap (sum_by (weight_of p)) change,
    sum_change (is_at instance number) (entry_sought to) (weight_of p)
        (sought_weight p to) t.handles,
  ));
}

-- ---- a handle more

abbrev pub entry_of : ℕ → ℕ → Handle → Entry
entry_of instance number handle = record { instance = instance; number = number; handle = handle }

pub one_more : (t now : Table) (handles : List Entry) (instance number : ℕ) (handle : Handle) → t ≡ now → is_full now instance ≡ false →
    handles ≡ t.handles ++ entry_of instance number handle ∷ [] → ((i : ℕ) → count_by (is_of i) t.handles ≤ 16) → (i : ℕ) → count_by (is_of i) handles ≤ 16
one_more t now handles instance number handle same free change few i =
    let e : Entry = entry_of instance number handle in
    let push = sum_by_push (λ (e : Entry). cond (is_of i e) 1 0) t.handles e in
    let room : count_by (is_of instance) t.handles < 16 = leb-false _ _ (ap (λ (t : Table). is_full t instance) same ∙ free) in
    ⊎_elim
    (λ (yes : (instance == i) ≡ true). let at : count_by (is_of instance) t.handles ≡ count_by (is_of i) t.handles =
    ap (λ n. count_by (is_of n) t.handles) (eqb-true instance i yes) in omega (arith, push, ap (count_by (is_of i)) change, ap {B = ℕ} (λ b. cond b 1 0) yes, room, at))
    (λ (no : (instance == i) ≡ false). omega (arith, push, ap (count_by (is_of i)) change, ap {B = ℕ} (λ b. cond b 1 0) no, few i))
    (cases_Bool (instance == i))

pub added_IsTable : (before shares : List Share) (t now : Table) (handles : List Entry) (instance number : ℕ) (handle : Handle) → t ≡ now → now.pending ≡ None →
    is_full now instance ≡ false → handles ≡ t.handles ++ entry_of instance number handle ∷ [] → ((p : Share → Bool) →
    count_by p shares ≡ count_by p before + weight p (share_of handle)) → IsTable before t → IsTable shares (record { handles = handles; pending = t.pending })
added_IsTable before shares t now handles instance number handle same none free change more old = record {
  few = one_more t now handles instance number handle same free change old.few;
  noted = unbare shares handles t.pending (none_pending t now same none) (λ p. omega (
    arith,
    more p,
    bare before t.handles t.pending (none_pending t now same none) old.noted p,
    count-shares_of p t.handles,
    count-shares_of p handles,
    ap (sum_by (weight_of p)) change,
    sum_by_push (weight_of p) t.handles (entry_of instance number handle),
  ));
}

pub gained_noted : (xs ys : List Share) (id : List ℕ) (flags : Flags) → Gains xs (record { id = id; flags = flags }) ys → IsTrue (is_noted ys id flags)
gained_noted xs ys id flags gains = noted_from_weight ys id flags (λ p. omega (arith, gains p))

-- the share that was noted is forgotten again
pub taken_back : (xs ys zs : List Share) (id : List ℕ) (flags : Flags) → Gains xs (record { id = id; flags = flags }) ys → Gains zs (record { id = id; flags = flags }) ys →
    (p : Share → Bool) → count_by p zs ≡ count_by p xs
taken_back xs ys zs id flags more less p = omega (arith, more p, less p)

pub same_IsTable : (before shares : List Share) (t : Table) (handles : List Entry) → ((p : Share → Bool) → count_by p shares ≡ count_by p before) → handles ≡ t.handles →
    IsTable before t → IsTable shares (record { handles = handles; pending = t.pending })
same_IsTable before shares t handles same stays old =
    subst (λ (hs : List Entry). IsTable shares (record { handles = hs; pending = t.pending })) (sym stays) (record { few = old.few; noted = λ p. same p ∙ old.noted p })

-- ---- handles that go

count-filter : (p q : Entry → Bool) (xs : List Entry) → count_by p (filter q xs) ≤ count_by p xs
count-filter p q xs = omega (arith, sum_by-filter_both q (λ (e : Entry). not (q e)) (λ e. refl) (λ (e : Entry). cond (p e) 1 0) xs)

pub closed_IsTable : (before shares : List Share) (t now : Table) (handles : List Entry) (stays : Entry → Bool) → t ≡ now → now.pending ≡ None → handles ≡ filter stays t.handles →
    HoldsFor shares (shares_of (filter stays t.handles)) → IsTable before t → IsTable shares (record { handles = handles; pending = t.pending })
closed_IsTable before shares t now handles stays same none change holds old =
    subst (λ (hs : List Entry). IsTable shares (record { handles = hs; pending = t.pending })) (sym change) (record {
      few = λ i. omega (arith, old.few i, count-filter (is_of i) stays t.handles);
      noted = unbare shares (filter stays t.handles) t.pending (none_pending t now same none) holds;
    })

-- ---- renames

some_none : {X : Type 0} (x : X) → Some x ≡ None → ⊥
some_none x e = cc

pub moved_pending : (to : List ℕ) (flags : Flags) (o : Option Share) → Some flags ≡ option_map (λ s. s.flags) o → option_map (on_other to) o ≡ Some (record { id = to; flags = flags })
moved_pending to flags None e = absurd (some_none flags e)
moved_pending to flags (Some s) e = let same : s.flags ≡ flags = (let both : Some flags ≡ Some s.flags = e in cc) in ap (λ f. Some (on_other to (record { id = to; flags = f }))) same

-- what is noted while the rename is pending
abbrev pub Pending : List Share → List Entry → Rename → Type 0
Pending shares handles r = HoldsFor shares (shares_of handles ++ option_to_list (pending_share (Some r) handles))

pending_count : (shares : List Share) (handles : List Entry) (r : Rename) → Pending shares handles r → (p : Share → Bool) →
    count_by p shares ≡ sum_by (weight_of p) handles + weight p (option_map (on_other r.to) (share_at handles r.instance r.number))
pending_count shares handles r holds p = omega (arith, holds p, count_option p (shares_of handles) (pending_share (Some r) handles), count-shares_of p handles)

share_counts : (p : Share → Bool) (q : Entry → Bool) (xs : List Entry) → weight p (option_and_then entry_share (find q xs)) ≤ sum_by (weight_of p) xs
share_counts p q [] = omega arith
share_counts p q (x ∷ xs) =
    ⊎_elim
    (λ (yes : q x ≡ true). rw yes (omega (arith, sum_by-cons (weight_of p) x xs)))
    (λ (no : q x ≡ false). rw no (omega (arith, sum_by-cons (weight_of p) x xs, share_counts p q xs)))
    (cases_Bool (q x))

pub took_noted : (shares : List Share) (handles : List Entry) (r : Rename) (before : Share) → Pending shares handles r → Some before ≡ share_at handles r.instance r.number →
    IsTrue (is_noted shares before.id before.flags)
took_noted shares handles r before holds at =
    noted_from_weight shares before.id before.flags (λ p. omega (arith, pending_count shares handles r holds p, ap (weight p) at, share_counts p (is_at r.instance r.number) handles))

pub took_holds : (shares ys : List Share) (handles : List Entry) (r : Rename) (before : Share) (after : List Entry) → Pending shares handles r →
    Some before ≡ share_at handles r.instance r.number → after ≡ change_first (is_at r.instance r.number) (entry_moved r.to) handles → Gains ys before shares →
    HoldsFor ys (shares_of after)
took_holds shares ys handles r before after holds at change gains p =
    omega (arith, pending_count shares handles r holds p, ap (weight p) at, gains p, count-shares_of p after, ap (sum_by (weight_of p)) change, sum_moved p (is_at r.instance r.number) r.to handles)

pub took_nothing : (shares : List Share) (handles : List Entry) (r : Rename) (after : List Entry) → Pending shares handles r → None ≡ share_at handles r.instance r.number →
    after ≡ change_first (is_at r.instance r.number) (entry_moved r.to) handles → HoldsFor shares (shares_of after)
took_nothing shares handles r after holds at change p =
    let nothing : weight p (option_map (on_other r.to) (share_at handles r.instance r.number)) ≡ 0 = ap (λ (o : Option Share). weight p (option_map (on_other r.to) o)) (sym at) in
    omega (arith, pending_count shares handles r holds p, ap (weight p) at, nothing, count-shares_of p after, ap (sum_by (weight_of p)) change, sum_moved p (is_at r.instance r.number) r.to handles)

pub back_noted : (shares : List Share) (handles : List Entry) (r : Rename) (flags : Flags) → Pending shares handles r →
    Some flags ≡ option_map (λ s. s.flags) (share_at handles r.instance r.number) → IsTrue (is_noted shares r.to flags)
back_noted shares handles r flags holds at =
    noted_from_weight shares r.to flags (λ p. omega (arith, pending_count shares handles r holds p, ap (weight p) (moved_pending r.to flags (share_at handles r.instance r.number) at)))

pub back_holds : (shares ys : List Share) (handles : List Entry) (r : Rename) (flags : Flags) → Pending shares handles r →
    Some flags ≡ option_map (λ s. s.flags) (share_at handles r.instance r.number) → Gains ys (record { id = r.to; flags = flags }) shares → HoldsFor ys (shares_of handles)
back_holds shares ys handles r flags holds at gains p =
    omega (arith, pending_count shares handles r holds p, ap (weight p) (moved_pending r.to flags (share_at handles r.instance r.number) at), gains p, count-shares_of p handles)

ended_few : (took : Bool) (handles : List Entry) (r : Rename) → ((i : ℕ) → count_by (is_of i) handles ≤ 16) → (i : ℕ) →
    count_by (is_of i) (cond took (change_first (is_at r.instance r.number) (entry_moved r.to) handles) handles) ≤ 16
ended_few true handles r few i = omega (arith, few i, sum_change (is_at r.instance r.number) (entry_moved r.to) (λ (e : Entry). cond (is_of i e) 1 0) (λ e. refl) handles)
ended_few false handles r few i = few i

pub ended_IsTable : (before shares : List Share) (t : Table) (handles : List Entry) (pending : Option Rename) (r : Rename) (took : Bool) → pending ≡ None →
    handles ≡ cond took (change_first (is_at r.instance r.number) (entry_moved r.to) t.handles) t.handles → HoldsFor shares (shares_of handles) → IsTable before t →
    IsTable shares (record { handles = handles; pending = pending })
ended_IsTable before shares t handles pending r took none change holds old = record {
  few = λ i. omega (arith, ended_few took t.handles r old.few i, ap (count_by (is_of i)) change);
  noted = unbare shares handles pending none holds;
}
