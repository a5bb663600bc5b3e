-- What is kept after each call.
use Rattle.std.proofs.Common.{◌≡◌, ◌≢◌, ◌⊎◌, ◌∙◌, ℕ, zero, suc, ◌-◌, Bool, true, false, cond, List, [], ◌∷◌, Option}
use Rattle.std.proofs.Common.{Some, None, Result, Ok, Err, OnOk, OnErr, nat_eq, bytes_eq, if◌then◌else◌, take, refl, sym, ap, subst, inl, inr}
use Rattle.std.proofs.Common.{⊎_elim, arith}
use Rattle.std.specs.Prelude.{option_and_then}
use Rattle.std.specs.Cmp.{nat_eq_equiv}
use Rattle.std.specs.Option.{option_map_or}
use Rattle.std.specs.Map.{lookup, lookup_entry, remove_entry}
use Rattle.std.proofs.lemmas.Bool.{cases_eq, eqb-true}
use Rattle.std.proofs.lemmas.Bool.Decides.{nat_tests}
use Rattle.std.proofs.lemmas.Option.{option_and_then_some}
use Rattle.std.proofs.lemmas.Slice.Eq.{bytes_eq-Decides}
use Rattle.lru.specs.LruCache.{LruCache, promoted, put_entries}
use Rattle.lru.proofs.CallerLemmas.{Contains-lookup_entry, lookup-put_entries}
use Rattle.node_cache.specs.declared.cache.Kept.{Kept}
use Rattle.node_cache.specs.Kept.{HoldsNothing, kept_at, under_tag}

pub nothing_of : (pairs : List (ℕ × Kept)) → pairs ≡ [] → HoldsNothing pairs
unfolding kept_at
nothing_of pairs none = record { nowhere = λ place tag. ap (λ (es : List (ℕ × Kept)). option_and_then (under_tag tag) (lookup (nat_eq place) es)) none }

apart : (a b : ℕ) → a ≢ b → nat_eq a b ≡ false
apart a b ne = grind (arith, nat_tests)

-- the entry that is found is that of the key, with its value
found_key : (place : ℕ) (es : List (ℕ × Kept)) (e : ℕ × Kept) → lookup_entry (nat_eq place) es ≡ Some e → place ≡ e.0
found_key place es e found = eqb-true place e.0 (Contains-lookup_entry (nat_eq place) es e found).1

found_value : (place : ℕ) (es : List (ℕ × Kept)) (e : ℕ × Kept) → lookup_entry (nat_eq place) es ≡ Some e → lookup (nat_eq place) es ≡ Some e.1
found_value place [] e found = absurd (cc)
found_value place (f ∷ es) e found =
    elim (nat_eq place f.0) as (λ b. cond b (Some f) (lookup_entry (nat_eq place) es) ≡ Some e → cond b (Some f.1) (lookup (nat_eq place) es) ≡ Some e.1) [
      | true ↦ λ same. let is : f ≡ e = cc in ap (λ (x : ℕ × Kept). Some x.1) is
      | false ↦ λ later. found_value place es e later
    ] found

module _ (p place : ℕ) (ne : p ≢ place) where
  -- an entry of another key is found as before
  removed_other : (es : List (ℕ × Kept)) → lookup (nat_eq p) (remove_entry (nat_eq place) es) ≡ lookup (nat_eq p) es
  removed_other [] = refl
  removed_other (f ∷ es) =
      elim (nat_eq place f.0) as (λ b. nat_eq place f.0 ≡ b → lookup (nat_eq p) (cond b es (f ∷ remove_entry (nat_eq place) es)) ≡ cond (nat_eq p f.0) (Some f.1) (lookup (nat_eq p) es)) [
        | true ↦ λ same.
            let other : nat_eq p f.0 ≡ false = apart p f.0 (λ e. ne (e ∙ sym (eqb-true place f.0 same))) in
            rw other refl
        | false ↦ λ differs. ap (cond (nat_eq p f.0) (Some f.1)) (removed_other es)
      ] refl

  first_other : (k : ℕ) (v : Kept) (es : List (ℕ × Kept)) → place ≡ k → lookup (nat_eq p) ((k, v) ∷ es) ≡ lookup (nat_eq p) es
  first_other k v es same =
      let other : nat_eq p k ≡ false = apart p k (λ e. ne (e ∙ sym same)) in
      rw other refl

  promoted_other : (es : List (ℕ × Kept)) (o : Option (ℕ × Kept)) → lookup_entry (nat_eq place) es ≡ o
      → lookup (nat_eq p) (option_map_or (λ e. e ∷ remove_entry (nat_eq place) es) o es) ≡ lookup (nat_eq p) es
  promoted_other es None found = refl
  promoted_other es (Some e) found = first_other e.0 e.1 (remove_entry (nat_eq place) es) (found_key place es e found) ∙ removed_other es

promoted_here : (place : ℕ) (es : List (ℕ × Kept)) (o : Option (ℕ × Kept)) → lookup_entry (nat_eq place) es ≡ o
    → lookup (nat_eq place) (option_map_or (λ e. e ∷ remove_entry (nat_eq place) es) o es) ≡ lookup (nat_eq place) es
promoted_here place es None found = refl
promoted_here place es (Some e) found =
    let here : nat_eq place e.0 ≡ true = (Contains-lookup_entry (nat_eq place) es e found).1 in
    rw here (sym (found_value place es e found))

-- what is kept stays where an entry goes first
pub kept_promoted : (place : ℕ) (es : List (ℕ × Kept)) (p : ℕ) (t : List ℕ) → kept_at (promoted (nat_eq place) es) p t ≡ kept_at es p t
unfolding kept_at
kept_promoted place es p t =
    ap (option_and_then (under_tag t))
    (⊎_elim
    (λ (e : p ≡ place). subst (λ (q : ℕ). lookup (nat_eq q) (promoted (nat_eq place) es) ≡ lookup (nat_eq q) es) (sym e) (promoted_here place es (lookup_entry (nat_eq place) es) refl))
    (λ (ne : p ≢ place). promoted_other p place ne es (lookup_entry (nat_eq place) es) refl)
    (cases_eq p place))

-- what is found in the first entries is found in all
found_taken : (test : ℕ → Bool) (n : ℕ) (es : List (ℕ × Kept)) (v : Kept) → lookup test (take n es) ≡ Some v → lookup test es ≡ Some v
found_taken test zero es v found = absurd (cc)
found_taken test (suc n) [] v found = found
found_taken test (suc n) (e ∷ es) v found =
    elim (test e.0) as (λ b. cond b (Some e.1) (lookup test (take n es)) ≡ Some v → cond b (Some e.1) (lookup test es) ≡ Some v) [
      | true ↦ λ here. here
      | false ↦ λ later. found_taken test n es v later
    ] found

module _ (c : LruCache ℕ Kept) (place : ℕ) (v : Kept) where
  abbrev after : Option (ℕ × Kept) → List (ℕ × Kept)
  after o = option_map_or (λ e. (e.0, v) ∷ remove_entry (nat_eq place) c.entries) o ((place, v) ∷ take (c.cap - 1) c.entries)

  put_other : (p : ℕ) (w : Kept) (o : Option (ℕ × Kept)) → p ≢ place → lookup_entry (nat_eq place) c.entries ≡ o → lookup (nat_eq p) (after o) ≡ Some w
      → lookup (nat_eq p) c.entries ≡ Some w
  put_other p w None ne found there =
      found_taken (nat_eq p) (c.cap - 1) c.entries w (sym (first_other p place ne place v (take (c.cap - 1) c.entries) refl) ∙ there)
  put_other p w (Some e) ne found there =
      sym (removed_other p place ne c.entries) ∙ sym (first_other p place ne e.0 v (remove_entry (nat_eq place) c.entries) (found_key place c.entries e found)) ∙ there

  tagged : (t n : List ℕ) → under_tag t v ≡ Some n → (t ≡ v.tag) × (n ≡ v.node)
  tagged t n =
      elim (bytes_eq v.tag t) as (λ b. bytes_eq v.tag t ≡ b → (let none : Option (List ℕ) = None in if b then Some v.node else none) ≡ Some n → (t ≡ v.tag) × (n ≡ v.node)) [
        | true ↦ λ same is. (sym ((bytes_eq-Decides v.tag t).0 same), let e : v.node ≡ n = cc in sym e)
        | false ↦ λ differs is. absurd (cc)
      ] refl

  -- the node that was put is kept
  pub kept_here : kept_at (put_entries nat_eq c place v) place v.tag ≡ Some v.node
  unfolding kept_at
  kept_here =
      let same : bytes_eq v.tag v.tag ≡ true = (bytes_eq-Decides v.tag v.tag).1 refl in
      ap (option_and_then (under_tag v.tag)) (lookup-put_entries nat_eq c place v nat_eq_equiv) ∙ rw same refl

  -- and each other was kept before
  pub kept_others : (p : ℕ) (t n : List ℕ) → kept_at (put_entries nat_eq c place v) p t ≡ Some n
      → (kept_at c.entries p t ≡ Some n) ⊎ ((p ≡ place) × (t ≡ v.tag) × (n ≡ v.node))
  unfolding kept_at
  kept_others p t n is =
      ⊎_elim
      (λ (e : p ≡ place).
      let here : lookup (nat_eq p) (put_entries nat_eq c place v) ≡ Some v
      = subst (λ (q : ℕ). lookup (nat_eq q) (put_entries nat_eq c place v) ≡ Some v) (sym e) (lookup-put_entries nat_eq c place v nat_eq_equiv) in
      let both = tagged t n (sym (ap (option_and_then (under_tag t)) here) ∙ is) in
      inr (e, both.0, both.1))
      (λ (ne : p ≢ place).
      inl (option_and_then_some (under_tag t) (lookup (nat_eq p) (put_entries nat_eq c place v)) n is
      (λ (w : Kept) (there : lookup (nat_eq p) (put_entries nat_eq c place v) ≡ Some w) (under : under_tag t w ≡ Some n).
      ap (option_and_then (under_tag t)) (put_other p w (lookup_entry (nat_eq place) c.entries) ne refl there) ∙ under)))
      (cases_eq p place)

-- a call of `put` of the cache below, which found memory or not
module _ {A E : Type 0} (c new : LruCache ℕ Kept) (place : ℕ) (v : Kept) (r : Result A E)
    (ok : OnOk r (new ≡ record { entries = put_entries nat_eq c place v; cap = c.cap })) (err : OnErr r (new ≡ c)) where
  abbrev Put : Type 0
  Put = (new.entries ≡ c.entries) ⊎ (new.entries ≡ put_entries nat_eq c place v)

  which : (r : Result A E) → OnOk r (new ≡ record { entries = put_entries nat_eq c place v; cap = c.cap }) → OnErr r (new ≡ c) → Put
  which (Ok x) ok err = inr (ap (λ (n : LruCache ℕ Kept). n.entries) ok)
  which (Err e) ok err = inl (ap (λ (n : LruCache ℕ Kept). n.entries) err)

  pub put_or_same : (new.entries ≡ c.entries) ⊎ (kept_at new.entries place v.tag ≡ Some v.node)
  put_or_same =
      ⊎_elim (λ (same : new.entries ≡ c.entries). inl same)
      (λ (put : new.entries ≡ put_entries nat_eq c place v). inr (ap (λ (es : List (ℕ × Kept)). kept_at es place v.tag) put ∙ kept_here c place v)) (which r ok err)

  pub put_others : (p : ℕ) (t n : List ℕ) → kept_at new.entries p t ≡ Some n → (kept_at c.entries p t ≡ Some n) ⊎ ((p ≡ place) × (t ≡ v.tag) × (n ≡ v.node))
  put_others p t n is =
      ⊎_elim (λ (same : new.entries ≡ c.entries). inl (sym (ap (λ (es : List (ℕ × Kept)). kept_at es p t) same) ∙ is))
      (λ (put : new.entries ≡ put_entries nat_eq c place v). kept_others c place v p t n (sym (ap (λ (es : List (ℕ × Kept)). kept_at es p t) put) ∙ is)) (which r ok err)
