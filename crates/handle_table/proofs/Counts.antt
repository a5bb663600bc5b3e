-- Shares that are noted, counted by any test.
use Rattle.std.proofs.Common.{◌≡◌, ◌<◌, ◌≤◌, ◌+◌, ℕ, Bool, true, false, not, cond, List, Option, None, Some, [], ◌∷◌, ◌++◌, length, get_or}
use Rattle.std.proofs.Common.{take, filter, position, count_by, sum_by, IsTrue, refl, sym, ap, ◌∙◌, ⊎_elim, arith}
use Rattle.std.specs.List.{cons_option}
use Rattle.std.specs.Option.{option_to_list}
use Rattle.std.proofs.lemmas.Bool.{cases_Bool, and_from, eq-eqb}
use Rattle.std.proofs.lemmas.List.Sums.{sum_by-cons, sum_by-append, sum_by_more, sum_by_more_le_part}
use Rattle.std.proofs.lemmas.List.{take_all}
use Rattle.std.specs.Str.{bytes_eq}
use Rattle.std.proofs.lemmas.Slice.Eq.{bytes_eq-Decides}
use Rattle.tee_base.specs.declared.codes.Flags.{Flags}
use Rattle.share_rules.specs.declared.index.Share.{Share}
use Rattle.share_rules.specs.Sharing.{is_share, is_noted}
use Rattle.handle_table.specs.declared.handle.Handle.{Handle}
use Rattle.handle_table.specs.declared.handle.Handle.TheVariants.{Persistent, Transient}
use Rattle.handle_table.specs.declared.handle.Entry.{Entry}
use Rattle.handle_table.specs.Handles.{share_of, entry_share, shares_of, HoldsFor, Forgets, is_held}

-- 1 where there is a share and it passes
abbrev pub weight : (Share → Bool) → Option Share → ℕ
weight p None = 0
weight p (Some s) = cond (p s) 1 0

abbrev pub weight_of : (Share → Bool) → Entry → ℕ
weight_of p e = weight p (entry_share e)

count_cons : (p : Share → Bool) (o : Option Share) (xs : List Share) → count_by p (cons_option o xs) ≡ weight p o + count_by p xs
count_cons p None xs = omega arith
count_cons p (Some s) xs = sum_by-cons (λ (s : Share). cond (p s) 1 0) s xs

pub count-shares_of : (p : Share → Bool) (es : List Entry) → count_by p (shares_of es) ≡ sum_by (weight_of p) es
count-shares_of p [] = refl
count-shares_of p (e ∷ es) = count_cons p (entry_share e) (shares_of es) ∙ ap (λ n. weight_of p e + n) (count-shares_of p es) ∙ sym (sum_by-cons (weight_of p) e es)

pub count_option : (p : Share → Bool) (xs : List Share) (o : Option Share) → count_by p (xs ++ option_to_list o) ≡ count_by p xs + weight p o
count_option p xs None = sum_by-append (λ (s : Share). cond (p s) 1 0) xs []
count_option p xs (Some s) = omega (arith, sum_by-append (λ (s : Share). cond (p s) 1 0) xs (s ∷ []), sum_by-cons (λ (s : Share). cond (p s) 1 0) s [])

-- ---- a share that is noted

pub noted_from_count : (xs : List Share) (id : List ℕ) (flags : Flags) → 1 ≤ count_by (is_share id flags) xs → IsTrue (is_noted xs id flags)
noted_from_count [] id flags h = absurd (omega (arith, h))
noted_from_count (x ∷ xs) id flags h =
    ⊎_elim
    (λ (yes : is_share id flags x ≡ true). rw yes refl)
    (λ (no : is_share id flags x ≡ false).
    let rest : 1 ≤ count_by (is_share id flags) xs = omega (arith, h, sum_by-cons (λ (s : Share). cond (is_share id flags s) 1 0) x xs, ap {B = ℕ} (λ b. cond b 1 0) no) in
    rw no (noted_from_count xs id flags rest))
    (cases_Bool (is_share id flags x))

share_is_self : (id : List ℕ) (flags : Flags) → is_share id flags (record { id = id; flags = flags }) ≡ true
share_is_self id flags = and_from (bytes_eq id id) _ ((bytes_eq-Decides id id).1 refl) (eq-eqb flags.0 flags.0 refl)

-- a share that is counted by each test is noted
pub noted_from_weight : (xs : List Share) (id : List ℕ) (flags : Flags) → ((p : Share → Bool) → weight p (Some (record { id = id; flags = flags })) ≤ count_by p xs) → IsTrue (is_noted xs id flags)
noted_from_weight xs id flags le =
    noted_from_count xs id flags (omega (arith, le (is_share id flags), ap {B = ℕ} (λ b. cond b 1 0) (share_is_self id flags)))

pub held_from_weight : (xs : List Share) (h : Handle) → ((p : Share → Bool) → weight p (share_of h) ≤ count_by p xs) → IsTrue (is_held xs h)
held_from_weight xs (Persistent id flags position) le = noted_from_weight xs id flags le
held_from_weight xs Transient le = refl

pub count-forgotten : (p : Share → Bool) (xs ys : List Share) (h : Handle) → Forgets xs ys h → count_by p ys + weight p (share_of h) ≡ count_by p xs
count-forgotten p xs ys (Persistent id flags position) gains = sym (gains p)
count-forgotten p xs ys Transient same = omega (arith, ap (count_by p) same)

-- ---- the handles that go, one after the other

abbrev pub weight_gone : (Entry → Bool) → (Share → Bool) → Entry → ℕ
weight_gone gone p e = cond (gone e) (weight_of p e) 0

gone_le : (b : Bool) (n : ℕ) → cond b n 0 ≤ n
gone_le true n = omega arith
gone_le false n = omega arith

-- what is noted with what has gone is what was noted
abbrev pub Remains : (Entry → Bool) → List Share → List Entry → ℕ → Type 0
Remains gone shares handles i = (p : Share → Bool) → count_by p shares + sum_by (weight_gone gone p) (take i handles) ≡ sum_by (weight_of p) handles

pub remains_held : (gone : Entry → Bool) (shares : List Share) (handles : List Entry) (i : ℕ) (x : Entry) → Remains gone shares handles i → i < length handles →
    x ≡ get_or handles i x → IsTrue (is_held shares x.handle)
remains_held gone shares handles i x inv inside read =
    held_from_weight shares x.handle (λ p. omega (
      arith,
      inv p,
      sum_by_more_le_part (weight_gone gone p) (weight_of p) handles i x inside (λ e. gone_le (gone e) (weight_of p e)),
      ap (weight_of p) read,
    ))

pub remains_gone : (gone : Entry → Bool) (shares after : List Share) (handles : List Entry) (i : ℕ) (x : Entry) → Remains gone shares handles i → i < length handles →
    x ≡ get_or handles i x → gone x ≡ true → Forgets shares after x.handle → Remains gone after handles (i + 1)
remains_gone gone shares after handles i x inv inside read test change p =
    omega (
      arith,
      inv p,
      sum_by_more (weight_gone gone p) handles i x inside,
      ap (weight_gone gone p) read,
      ap {B = ℕ} (λ b. cond b (weight_of p x) 0) test,
      count-forgotten p shares after x.handle change,
    )

pub remains_kept : (gone : Entry → Bool) (shares : List Share) (handles : List Entry) (i : ℕ) (x : Entry) → Remains gone shares handles i → i < length handles →
    x ≡ get_or handles i x → gone x ≡ false → Remains gone shares handles (i + 1)
remains_kept gone shares handles i x inv inside read test p =
    omega (arith, inv p, sum_by_more (weight_gone gone p) handles i x inside, ap (weight_gone gone p) read, ap {B = ℕ} (λ b. cond b (weight_of p x) 0) test)

sum_split : (t : Entry → Bool) (w : Entry → ℕ) (xs : List Entry) → sum_by (λ e. cond (t e) (w e) 0) xs + sum_by w (filter (λ e. not (t e)) xs) ≡ sum_by w xs
sum_split t w [] = refl
sum_split t w (x ∷ xs) =
    let f : Entry → ℕ = λ e. cond (t e) (w e) 0 in
    let rest : Entry → Bool = λ e. not (t e) in
    ⊎_elim
    (λ (yes : t x ≡ true).
    let kept : filter rest (x ∷ xs) ≡ filter rest xs = rw yes refl in
    omega (arith, sum_by-cons f x xs, ap {B = ℕ} (λ b. cond b (w x) 0) yes, ap (sum_by w) kept, sum_by-cons w x xs, sum_split t w xs))
    (λ (no : t x ≡ false).
    let kept : filter rest (x ∷ xs) ≡ x ∷ filter rest xs = rw no refl in
    omega (arith, sum_by-cons f x xs, ap {B = ℕ} (λ b. cond b (w x) 0) no, ap (sum_by w) kept, sum_by-cons w x (filter rest xs), sum_by-cons w x xs, sum_split t w xs))
    (cases_Bool (t x))

pub remains_all : (gone : Entry → Bool) (shares : List Share) (handles : List Entry) (i : ℕ) → Remains gone shares handles i → length handles ≤ i →
    HoldsFor shares (shares_of (filter (λ e. not (gone e)) handles))
remains_all gone shares handles i inv past p =
    omega (arith, inv p, ap (sum_by (weight_gone gone p)) (take_all i handles past), sum_split gone (weight_of p) handles, count-shares_of p (filter (λ e. not (gone e)) handles))
