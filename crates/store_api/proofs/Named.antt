-- How the entries of an ordered map are those of a store.
use Rattle.std.proofs.Common.{◌≡◌, ℕ, Bool, true, false, cond, not, List, [], ◌∷◌, length, map, Option, None, Some, Bor, IfSome, find, option_map, option_copied, ◌≤◌, refl, sym, ◌∙◌, ap, subst, arith}
use Rattle.std.specs.Prelude.{T, ◌&&◌}
use Rattle.std.specs.declared.cmp.Ordering.{Ordering}
use Rattle.std.specs.declared.cmp.Ordering.TheVariants.{Less, Equal, Greater}
use Rattle.std.specs.Ordering.{is_eq, is_lt}
use Rattle.std.specs.Cmp.{tied_itself}
use Rattle.std.specs.Cmp.Lexicographic.{nat_list_cmp_total}
use Rattle.std.specs.Global.{Vec}
use Rattle.std.specs.List.{sum_by}
use Rattle.std.specs.BTreeMap.{insert_entry, is_at}
use Rattle.std.specs.Ordering.{match_ordering}
use Rattle.std.specs.Map.{lookup, remove_entry}
use Rattle.std.specs.FinMap as finite
use Rattle.std.specs.FinMap.Entries as at_keys
use Rattle.tee_base.specs.declared.limits.TheConstants.{MAX_CONTENT_BYTES}
use Rattle.store_api.specs.declared.object.Object.{Object}
use Rattle.store_api.specs.Stores.{Store, object_at, cost, quota, blocks_for}
use Rattle.store_api.specs.Objects.{by_identifier, store_of, AreKept}
use Rattle.store_api.specs.Limits.{IsIdentifier, IsWithinLimits}
use Rattle.store_api.proofs.Costs.{by_bytes, Entries, others, keeps, below_tied, first, second, equal, entries-remove, blocks, blocks_at_most, limits-insert, limits-remove, limits-moved}

abbrev pub Kept : Type 0
Kept = List (Vec ℕ × Object)

abbrev pub vec_order : Vec ℕ → Vec ℕ → Ordering
vec_order x y = by_bytes x.items y.items

-- whether an identifier of the map is this one
abbrev pub is_here : List ℕ → Vec ℕ → Bool
is_here id = is_at (λ k. by_bytes id k.items)

named-insert : (es : Kept) (k : Vec ℕ) (v : Object) → by_identifier (insert_entry vec_order es k v) ≡ finite.put by_bytes k.items v (by_identifier es)
named-insert [] k v = refl
named-insert (e ∷ es) k v =
    elim (by_bytes k.items e.0.items) as (λ r. by_identifier (match_ordering r ((k, v) ∷ e ∷ es) ((e.0, v) ∷ es) (e ∷ insert_entry vec_order es k v)) ≡ at_keys.by_order r
    ((k.items, v) ∷ by_identifier (e ∷ es)) ((e.0.items, v) ∷ by_identifier es) ((e.0.items, e.1) ∷ finite.put by_bytes k.items v (by_identifier es))) [
      | Less ↦ refl
      | Equal ↦ refl
      | Greater ↦ ap (λ (l : Entries). (e.0.items, e.1) ∷ l) (named-insert es k v)
    ]

named-remove : (es : Kept) (id : List ℕ) → T (finite.is_sorted by_bytes (by_identifier es)) → by_identifier (remove_entry (is_here id) es) ≡ others id (by_identifier es)
named-remove [] id h = refl
named-remove (e ∷ es) id h =
    elim (is_eq (by_bytes id e.0.items)) as (λ b. is_eq (by_bytes id e.0.items) ≡ b → by_identifier (cond b es (e ∷ remove_entry (is_here id) es)) ≡ cond (not b)
    ((e.0.items, e.1) ∷ others id (by_identifier es)) (others id (by_identifier es))) [
      | true ↦ λ t. sym (keeps id (by_identifier es) (below_tied id e.0.items (by_identifier es) (equal _ t) (first _ _ h)))
      | false ↦ λ t. ap (λ (l : Entries). (e.0.items, e.1) ∷ l) (named-remove es id (second _ _ h))
    ] refl

lookup-named : (es : Kept) (id : List ℕ) → lookup (is_here id) es ≡ finite.find by_bytes id (by_identifier es)
lookup-named [] id = refl
lookup-named (e ∷ es) id = ap (cond (is_eq (by_bytes id e.0.items)) (Some e.1)) (lookup-named es id)

-- what the map has at an identifier is what the store has there
pub lookup_is : (es : Kept) (id : List ℕ) → T (finite.is_sorted by_bytes (by_identifier es)) → lookup (is_here id) es ≡ object_at (store_of es) id
lookup_is es id h = lookup-named es id ∙ sym (finite.get-from_sorted by_bytes (by_identifier es) id h)

pub insert_sorted : (es : Kept) (k : Vec ℕ) (v : Object) → T (finite.is_sorted by_bytes (by_identifier es)) → T (finite.is_sorted by_bytes (by_identifier (insert_entry vec_order es k v)))
insert_sorted es k v h = subst (λ l. T (finite.is_sorted by_bytes l)) (sym (named-insert es k v)) (at_keys.is_sorted-put by_bytes nat_list_cmp_total k.items v (by_identifier es) h)

pub remove_sorted : (es : Kept) (id : List ℕ) → T (finite.is_sorted by_bytes (by_identifier es)) → T (finite.is_sorted by_bytes (by_identifier (remove_entry (is_here id) es)))
remove_sorted es id h = subst (λ l. T (finite.is_sorted by_bytes l)) (sym (named-remove es id h)) (at_keys.is_sorted-where_key by_bytes _ (by_identifier es) h)

-- an insertion into the map is one into the store
pub insert_is : (es : Kept) (k : Vec ℕ) (v : Object) → T (finite.is_sorted by_bytes (by_identifier es)) → store_of (insert_entry vec_order es k v) ≡ finite.insert (store_of es) k.items v
insert_is es k v h =
    ap finite.from_sorted (named-insert es k v)
    ∙ finite.same_entries_map (finite.from_sorted (finite.put by_bytes k.items v (by_identifier es))) (finite.insert (store_of es) k.items v)
    (finite.entries-from_sorted by_bytes (finite.put by_bytes k.items v (by_identifier es)) (at_keys.is_sorted-put by_bytes nat_list_cmp_total k.items v (by_identifier es) h)
    ∙ ap (finite.put by_bytes k.items v) (sym (finite.entries-from_sorted by_bytes (by_identifier es) h)) ∙ sym (finite.entries-insert nat_list_cmp_total (store_of es) k.items v))

-- a removal from the map is one from the store
pub remove_is : (es : Kept) (id : List ℕ) → T (finite.is_sorted by_bytes (by_identifier es)) → store_of (remove_entry (is_here id) es) ≡ finite.remove (store_of es) id
remove_is es id h =
    ap finite.from_sorted (named-remove es id h)
    ∙ finite.same_entries_map (finite.from_sorted (others id (by_identifier es))) (finite.remove (store_of es) id)
    (finite.entries-from_sorted by_bytes (others id (by_identifier es)) (at_keys.is_sorted-where_key by_bytes _ (by_identifier es) h)
    ∙ ap (others id) (sym (finite.entries-from_sorted by_bytes (by_identifier es) h)) ∙ sym (entries-remove (store_of es) id))

pub entries_are : (es : Kept) → T (finite.is_sorted by_bytes (by_identifier es)) → finite.entries (store_of es) ≡ by_identifier es
entries_are es h = finite.entries-from_sorted by_bytes (by_identifier es) h

-- with no entries there is nothing
pub nothing_is : store_of [] ≡ finite.empty
nothing_is = finite.empty_of_len (store_of []) (finite.len-entries (store_of []) ∙ ap length (finite.entries-from_sorted by_bytes [] tt))

-- an object that is found has a short secret, and no more content than the quota pays
pub secret_short : (m : Store) (id : List ℕ) (r : Option (Bor Object)) → IsWithinLimits m → option_copied r ≡ object_at m id → IfSome r (λ o. length o.now.secret ≤ 128)
secret_short m id None limits is = tt
secret_short m id (Some o) limits is = limits.secrets id o.now (sym is)

pub content_short : (m : Store) (id : List ℕ) (r : Option (Bor Object)) → IsWithinLimits m → option_copied r ≡ object_at m id → IfSome r (λ o. length o.now.content ≤ MAX_CONTENT_BYTES)
content_short m id None limits is = tt
content_short m id (Some o) limits is = let most : blocks o.now ≤ cost m = blocks_at_most m id o.now (sym is) in omega (arith, most, limits.paid)

-- the entries are kept, and are those of this store
pub record AreOf (es : Kept) (used : ℕ) (m : Store) : Type 0 where
  pub kept : AreKept es used
  pub store : store_of es ≡ m

pub are_none : (es : Kept) → es ≡ [] → AreOf es 0 finite.empty
are_none es none = subst (λ l. AreOf l 0 finite.empty) (sym none) (record {
  kept = record {
    sorted = tt;
    paid = sym (ap (λ (l : Entries). sum_by (λ o. blocks_for (length o.content)) (map (λ e. e.1) l)) (finite.entries-from_sorted by_bytes [] tt));
    limits = record {
      paid = omega (arith, ap (λ (l : Entries). sum_by (λ o. blocks_for (length o.content)) (map (λ e. e.1) l)) (finite.entries-from_sorted by_bytes [] tt));
      identifiers = λ id o is. absurd (nothing_at id o is);
      secrets = λ id o is. absurd (nothing_at id o is);
    };
  };
  store = nothing_is;
})
  where
    nothing_at : (id : List ℕ) (o : Object) → object_at (store_of []) id ≡ Some o → ⊥
    nothing_at id o is = let none : object_at (store_of []) id ≡ None = finite.get-from_sorted by_bytes [] id tt in cc

pub are_inserted : (es new : Kept) (k : Vec ℕ) (id : List ℕ) (v : Object) (m : Store) (used after : ℕ) → AreKept es used → store_of es ≡ m → k.items ≡ id →
    new ≡ insert_entry vec_order es k v → IsIdentifier id → length v.secret ≤ 128 → cost (finite.insert m id v) ≤ quota → after ≡ cost (finite.insert m id v) →
    AreOf new after (finite.insert m id v)
are_inserted es new k id v m used after kept is_m is_id is_new named_so short paid is_after =
    let is : store_of new ≡ finite.insert m id v =
    ap store_of is_new ∙ insert_is es k v kept.sorted ∙ ap (λ s. finite.insert s k.items v) is_m ∙ ap (λ i. finite.insert m i v) is_id in
    let limits = subst IsWithinLimits is_m kept.limits in
    record {
      kept = record {
        sorted = subst (λ (l : Kept). T (finite.is_sorted by_bytes (by_identifier l))) (sym is_new) (insert_sorted es k v kept.sorted);
        paid = is_after ∙ ap cost (sym is);
        limits = subst IsWithinLimits (sym is) (limits-insert m id v limits named_so short paid);
      };
      store = is;
    }

pub are_removed : (es new : Kept) (id : List ℕ) (m : Store) (used after : ℕ) → AreKept es used → store_of es ≡ m → new ≡ remove_entry (is_here id) es →
    after ≡ cost (finite.remove m id) → AreOf new after (finite.remove m id)
are_removed es new id m used after kept is_m is_new is_after =
    let is : store_of new ≡ finite.remove m id = ap store_of is_new ∙ remove_is es id kept.sorted ∙ ap (λ s. finite.remove s id) is_m in
    let limits = subst IsWithinLimits is_m kept.limits in
    record {
      kept = record {
        sorted = subst (λ (l : Kept). T (finite.is_sorted by_bytes (by_identifier l))) (sym is_new) (remove_sorted es id kept.sorted);
        paid = is_after ∙ ap cost (sym is);
        limits = subst IsWithinLimits (sym is) (limits-remove m id limits);
      };
      store = is;
    }

-- the first entry of the map that passes is the first of the store
find-named : (p : List ℕ → Bool) (es : Kept) → option_map (λ (e : Vec ℕ × Object). (e.0.items, e.1)) (find (λ e. p e.0.items) es) ≡ find (λ e. p e.0) (by_identifier es)
find-named p [] = refl
find-named p (e ∷ es) =
    elim (p e.0.items) as (λ b. option_map (λ (e : Vec ℕ × Object). (e.0.items, e.1)) (cond b (Some e) (find (λ e. p e.0.items) es))
    ≡ cond b (Some (e.0.items, e.1)) (find (λ e. p e.0) (by_identifier es))) [
      | true ↦ refl
      | false ↦ find-named p es
    ]

pub are_moved : (es mid new : Kept) (key : Vec ℕ) (id to : List ℕ) (v : Object) (m : Store) (used : ℕ) → AreKept es used → store_of es ≡ m → key.items ≡ to →
    mid ≡ insert_entry vec_order es key v → new ≡ remove_entry (is_here id) mid → IsIdentifier to → object_at m to ≡ None → object_at m id ≡ Some v →
    AreOf new used (finite.remove (finite.insert m to v) id)
are_moved es mid new key id to v m used kept is_m is_to is_mid is_new named_so absent here =
    let is_put : store_of mid ≡ finite.insert m to v =
    ap store_of is_mid ∙ insert_is es key v kept.sorted ∙ ap (λ s. finite.insert s key.items v) is_m ∙ ap (λ i. finite.insert m i v) is_to in
    let mid_sorted = subst (λ (l : Kept). T (finite.is_sorted by_bytes (by_identifier l))) (sym is_mid) (insert_sorted es key v kept.sorted) in
    let is : store_of new ≡ finite.remove (finite.insert m to v) id = ap store_of is_new ∙ remove_is mid id mid_sorted ∙ ap (λ s. finite.remove s id) is_put in
    let limits = limits-moved m id to v (subst IsWithinLimits is_m kept.limits) named_so absent here in
    record {
      kept = record {
        sorted = subst (λ (l : Kept). T (finite.is_sorted by_bytes (by_identifier l))) (sym is_new) (remove_sorted mid id mid_sorted);
        paid = kept.paid ∙ ap cost is_m ∙ sym limits.0 ∙ ap cost (sym is);
        limits = subst IsWithinLimits (sym is) limits.1;
      };
      store = is;
    }

-- the first entry that passes, as the store has it
pub first_is : (es : Kept) (m : Store) (p : List ℕ → Bool) → T (finite.is_sorted by_bytes (by_identifier es)) → store_of es ≡ m →
    option_map (λ (e : Vec ℕ × Object). (e.0.items, e.1)) (find (λ e. p e.0.items) es) ≡ find (λ e. p e.0) (finite.entries m)
first_is es m p sorted is_m = find-named p es ∙ ap (λ (l : Entries). find (λ e. p e.0) l) (sym (entries_are es sorted) ∙ ap finite.entries is_m)

pub bare_and_named : (r : Option (Bor (Vec ℕ) × Bor Object)) → option_map {U = List ℕ × Object} (λ entry. (entry.0.now.items, entry.1.now))
    r ≡ option_map (λ (e : Vec ℕ × Object). (e.0.items, e.1)) (option_map {U = Vec ℕ × Object} (λ entry. (entry.0.now, entry.1.now)) r)
bare_and_named None = refl
bare_and_named (Some entry) = refl

absent_below : (q : List ℕ) (es : Entries) → T (at_keys.below_all by_bytes q es) → finite.find by_bytes q es ≡ None
absent_below q [] h = refl
absent_below q (e ∷ es) h =
    elim (by_bytes q e.0) as (λ r. T (is_lt r && at_keys.below_all by_bytes q es) → cond (is_eq r) (Some e.1) (finite.find by_bytes q es) ≡ None) [
      | Less ↦ λ b. absent_below q es b
      | Equal ↦ λ b. absurd b
      | Greater ↦ λ b. absurd b
    ] h

clash : {A : Type 0} (o : Object) → None ≡ Some o → A
clash o is = cc

-- an entry that is met is what is found at its identifier
found_there : (p : List ℕ → Bool) (es : Entries) (e : List ℕ × Object) → T (finite.is_sorted by_bytes es) → find (λ x. p x.0) es ≡ Some e → finite.find by_bytes e.0 es ≡ Some e.1
found_there p [] e h is = cc
found_there p (f ∷ fs) e h is =
    elim (p f.0) as (λ b. cond b (Some f) (find (λ x. p x.0) fs) ≡ Some e → finite.find by_bytes e.0 (f ∷ fs) ≡ Some e.1) [
      | true ↦ λ i. let same : f ≡ e = cc in subst (λ x. finite.find by_bytes x.0 (f ∷ fs) ≡ Some x.1) same
          (ap (λ r. cond (is_eq r) (Some f.1) (finite.find by_bytes f.0 fs)) (tied_itself nat_list_cmp_total f.0))
      | false ↦ λ i.
          let rest = found_there p fs e (second _ _ h) i in
          elim (is_eq (by_bytes e.0 f.0)) as (λ b. is_eq (by_bytes e.0 f.0) ≡ b → cond b (Some f.1) (finite.find by_bytes e.0 fs) ≡ Some e.1) [
            | true ↦ λ t.
                let none : finite.find by_bytes e.0 fs ≡ None = absent_below e.0 fs (below_tied e.0 f.0 fs (equal _ t) (first _ _ h)) in
                clash e.1 (sym none ∙ rest)
            | false ↦ λ t. rest
          ] refl
    ] is

-- an entry that is met is within the limits
pub met_secret : (m : Store) (p : List ℕ → Bool) (r : Option (Bor (Vec ℕ) × Bor Object)) → IsWithinLimits m →
    option_map {U = List ℕ × Object} (λ entry. (entry.0.now.items, entry.1.now)) r ≡ find (λ e. p e.0) (finite.entries m) → IfSome r (λ entry. length entry.1.now.secret ≤ 128)
met_secret m p None limits is = tt
met_secret m p (Some entry) limits is =
    let e : List ℕ × Object = (entry.0.now.items, entry.1.now) in
    limits.secrets e.0 e.1 (finite.get-entries m e.0 ∙ found_there p (finite.entries m) e (finite.entries_sorted m) (sym is))

pub met_content : (m : Store) (p : List ℕ → Bool) (r : Option (Bor (Vec ℕ) × Bor Object)) → IsWithinLimits m →
    option_map {U = List ℕ × Object} (λ entry. (entry.0.now.items, entry.1.now)) r ≡ find (λ e. p e.0) (finite.entries m) → IfSome r (λ entry. length entry.1.now.content ≤ MAX_CONTENT_BYTES)
met_content m p None limits is = tt
met_content m p (Some entry) limits is =
    let e : List ℕ × Object = (entry.0.now.items, entry.1.now) in
    let most : blocks e.1 ≤ cost m = blocks_at_most m e.0 e.1 (finite.get-entries m e.0 ∙ found_there p (finite.entries m) e (finite.entries_sorted m) (sym is)) in
    omega (arith, most, limits.paid)

pub met_identifier : (m : Store) (p : List ℕ → Bool) (r : Option (Bor (Vec ℕ) × Bor Object)) → IsWithinLimits m →
    option_map {U = List ℕ × Object} (λ entry. (entry.0.now.items, entry.1.now)) r ≡ find (λ e. p e.0) (finite.entries m) → IfSome r (λ entry. IsIdentifier entry.0.now.items)
met_identifier m p None limits is = tt
met_identifier m p (Some entry) limits is =
    let e : List ℕ × Object = (entry.0.now.items, entry.1.now) in
    limits.identifiers e.0 e.1 (finite.get-entries m e.0 ∙ found_there p (finite.entries m) e (finite.entries_sorted m) (sym is))
