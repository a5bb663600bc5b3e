-- The objects of a region in which no rule is broken: those of its inodes, each under its own identifier.
use Rattle.std.proofs.Common.{◌≡◌, ◌≢◌, ℕ, zero, suc, ◌+◌, ◌<◌, ◌≤◌, true, false, cond, List, ◌∷◌, map, Option, None, Some, refl, sym, ◌∙◌, ap, subst, arith}
use Rattle.std.specs.Prelude.{◌==◌}
use Rattle.std.specs.List.{range_with_len, filter}
use Rattle.std.specs.Ordering.{is_eq}
use Rattle.std.specs.Cmp.{tied_itself}
use Rattle.std.specs.Cmp.Lexicographic.{nat_list_cmp_total}
use Rattle.std.specs.FinMap as finite
use Rattle.std.proofs.lemmas.Bool.{eqb-true, eqb-false}
use Rattle.store_api.specs.declared.object.Object.{Object}
use Rattle.store_api.specs.Stores.{object_at}
use Rattle.store_api.proofs.Costs.{by_bytes, tied_same, equal}
use Rattle.region_plan.specs.Layout.{Layout}
use Rattle.region_plan.specs.Entries.{is_inode}
use Rattle.region_plan.specs.Inodes.{identifier_in}
use Rattle.region_plan.specs.Regions.{numbers, inode_numbers, object_of, store_of}
use Rattle.region_plan.proofs.SoundLemmas.{Sound}

module _ (L : Layout) (leaves : ℕ → List ℕ) where
  abbrev pub kept : ℕ → List ℕ × Object
  kept i = (identifier_in (leaves i), object_of L leaves i)

  -- the inodes of a range
  abbrev pub inodes_in : ℕ → ℕ → List ℕ
  inodes_in a n = filter (λ i. is_inode L leaves i) (range_with_len a n)

  -- the object of an identifier among the inodes of a range
  abbrev pub looked : List ℕ → ℕ → ℕ → Option Object
  looked q a n = finite.find by_bytes q (map kept (inodes_in a n))

  -- an object is that of an inode
  abbrev pub IsOf : ℕ → List ℕ → Object → Type 0
  IsOf k q o = (is_inode L leaves k ≡ true) × (identifier_in (leaves k) ≡ q) × (object_of L leaves k ≡ o)

  pub looked_none : (q : List ℕ) (n a : ℕ) → ((j : ℕ) → a ≤ j → j < a + n → is_inode L leaves j ≡ true → identifier_in (leaves j) ≡ q → ⊥) → looked q a n ≡ None
  looked_none q zero a none = refl
  looked_none q (suc n) a none =
      let rest : looked q (a + 1) n ≡ None = looked_none q n (a + 1) (λ j low high inode same. none j (omega arith) (omega arith) inode same) in
      elim (is_inode L leaves a) as (λ b. is_inode L leaves a ≡ b → finite.find by_bytes q (map kept (cond b (a ∷ inodes_in (a + 1) n) (inodes_in (a + 1) n))) ≡ None) [
        | true ↦ λ e. elim (is_eq (by_bytes q (identifier_in (leaves a)))) as (λ t. is_eq (by_bytes q (identifier_in (leaves a))) ≡ t →
            cond t (Some (object_of L leaves a)) (looked q (a + 1) n) ≡ None) [
              | true ↦ λ t. absurd (none a (omega arith) (omega arith) e (sym (tied_same q (identifier_in (leaves a)) (equal _ t))))
              | false ↦ λ t. rest
            ] refl
        | false ↦ λ e. rest
      ] refl

  wider : (a n : ℕ) {q : List ℕ} {o : Object} → (k : ℕ) × (a + 1 ≤ k) × (k < a + 1 + n) × IsOf k q o → (k : ℕ) × (a ≤ k) × (k < a + suc n) × IsOf k q o
  wider a n met = (let low : a ≤ met.0 = omega (arith, met.1) in let high : met.0 < a + suc n = omega (arith, met.2) in (met.0, low, high, met.3))

  pub looked_some : (q : List ℕ) (n a : ℕ) (o : Object) → looked q a n ≡ Some o → (k : ℕ) × (a ≤ k) × (k < a + n) × IsOf k q o
  looked_some q zero a o is = cc
  looked_some q (suc n) a o is =
      let deeper = λ (f : looked q (a + 1) n ≡ Some o). wider a n (looked_some q n (a + 1) o f) in
      elim (is_inode L leaves a) as (λ b. is_inode L leaves a ≡ b → finite.find by_bytes q (map kept (cond b (a ∷ inodes_in (a + 1) n) (inodes_in (a + 1) n))) ≡ Some o →
      (k : ℕ) × (a ≤ k) × (k < a + suc n) × IsOf k q o) [
        | true ↦ λ e f. elim (is_eq (by_bytes q (identifier_in (leaves a)))) as (λ t. is_eq (by_bytes q (identifier_in (leaves a))) ≡ t →
            cond t (Some (object_of L leaves a)) (looked q (a + 1) n) ≡ Some o → (k : ℕ) × (a ≤ k) × (k < a + suc n) × IsOf k q o) [
              | true ↦ λ t g. (let same : object_of L leaves a ≡ o = cc in (a, omega arith, omega arith, (e, sym (tied_same q (identifier_in (leaves a)) (equal _ t)), same)))
              | false ↦ λ t g. deeper g
            ] refl f
        | false ↦ λ e f. deeper f
      ] refl is

  pub looked_at : (k : ℕ) (n a : ℕ) → a ≤ k → k < a + n → is_inode L leaves k ≡ true
      → ((j : ℕ) → a ≤ j → j < a + n → is_inode L leaves j ≡ true → identifier_in (leaves j) ≡ identifier_in (leaves k) → j ≡ k) → looked (identifier_in (leaves k)) a n ≡ Some (object_of L leaves k)
  looked_at k zero a low high inode apart = absurd (omega arith)
  looked_at k (suc n) a low high inode apart =
      elim (a == k) as (λ b. (a == k) ≡ b → looked (identifier_in (leaves k)) a (suc n) ≡ Some (object_of L leaves k)) [
        | true ↦ λ e.
            let same : a ≡ k = eqb-true a k e in
            subst (λ (m : ℕ). looked (identifier_in (leaves m)) a (suc n) ≡ Some (object_of L leaves m)) same
            (ap (λ b. finite.find by_bytes (identifier_in (leaves a)) (map kept (cond b (a ∷ inodes_in (a + 1) n) (inodes_in (a + 1) n))))
            (subst (λ (m : ℕ). is_inode L leaves m ≡ true) (sym same) inode)
            ∙ ap (λ b. cond b (Some (object_of L leaves a)) (looked (identifier_in (leaves a)) (a + 1) n)) (ap is_eq (tied_itself nat_list_cmp_total (identifier_in (leaves a)))))
        | false ↦ λ e.
            let other : a ≢ k = eqb-false a k e in
            let rest = looked_at k n (a + 1) (omega (arith, other)) (omega arith) inode (λ j lower higher is same. apart j (omega arith) (omega arith) is same) in
            elim (is_inode L leaves a) as (λ b. is_inode L leaves a ≡ b → finite.find by_bytes (identifier_in (leaves k))
            (map kept (cond b (a ∷ inodes_in (a + 1) n) (inodes_in (a + 1) n))) ≡ Some (object_of L leaves k)) [
              | true ↦ λ i. elim (is_eq (by_bytes (identifier_in (leaves k)) (identifier_in (leaves a)))) as
                  (λ t. is_eq (by_bytes (identifier_in (leaves k)) (identifier_in (leaves a))) ≡ t →
                  cond t (Some (object_of L leaves a)) (looked (identifier_in (leaves k)) (a + 1) n) ≡ Some (object_of L leaves k)) [
                    | true ↦ λ t. absurd (other (apart a (omega arith) (omega arith) i (sym (tied_same (identifier_in (leaves k)) (identifier_in (leaves a)) (equal _ t)))))
                    | false ↦ λ t. rest
                  ] refl
              | false ↦ λ i. rest
            ] refl
      ] refl

  pub store_looked : (q : List ℕ) → object_at (store_of L leaves) q ≡ looked q 0 L.leaves
  unfolding store_of inode_numbers numbers
  store_looked q = finite.get-from_entries nat_list_cmp_total (map kept (inodes_in 0 L.leaves)) q

  -- the object of an inode stands under its identifier
  pub held_at : Sound L leaves → (k : ℕ) → k < L.leaves → is_inode L leaves k ≡ true → object_at (store_of L leaves) (identifier_in (leaves k)) ≡ Some (object_of L leaves k)
  held_at sound k below inode = store_looked (identifier_in (leaves k)) ∙ looked_at k L.leaves 0 (omega arith) (omega arith) inode
      (λ j low high is same. sound.apart j k (omega arith) below is inode same)

  -- and what stands under an identifier is the object of an inode
  pub held_by : (q : List ℕ) (o : Object) → object_at (store_of L leaves) q ≡ Some o → (k : ℕ) × (k < L.leaves) × IsOf k q o
  held_by q o is = (let met = looked_some q L.leaves 0 o (sym (store_looked q) ∙ is) in let high : met.0 < L.leaves = omega (arith, met.2) in (met.0, high, met.3))
