-- The order of the shares makes no difference to a conflict.
use Rattle.std.proofs.Common.{◌≡◌, ◌+◌, ℕ, suc, Bool, true, false, not, cond, ◌&&◌, ◌||◌, List, [], ◌∷◌, length, map, filter, nat_lt, count_by, refl, sym, ap, ◌∙◌, arith}
use Rattle.std.specs.List.{list_any, list_all}
use Rattle.std.proofs.lemmas.Bool.{lt-ltb}
use Rattle.std.proofs.lemmas.List.{length-map}
use Rattle.std.proofs.lemmas.List.Sums.{sum_by-cons, length-filter}
use Rattle.tee_base.specs.declared.codes.Flags.{Flags}
use Rattle.share_rules.specs.declared.index.Share.{Share}
use Rattle.share_rules.specs.declared.uses.Uses.{Uses}
use Rattle.share_rules.specs.Sharing.{is_on, flags_on, conflicts, conflict, has, access_read, access_write, access_write_meta, share_read, share_write}
use Rattle.handle_table.specs.Handles.{HoldsFor}

any_or : (b rest : Bool) (n : ℕ) → rest ≡ nat_lt 0 n → (b || rest) ≡ nat_lt 0 (cond b 1 0 + n)
any_or true rest n e = sym (lt-ltb 0 (cond true 1 0 + n) (omega arith))
any_or false rest n e = let z : n ≡ 0 + n = omega arith in e ∙ ap (λ m. nat_lt 0 m) z

any_cons : (p : Flags → Bool) (on : Bool) (s : Share) (ss : List Share) (n : ℕ) → list_any p (map (λ s. s.flags) ss) ≡ nat_lt 0 n →
    list_any p (map (λ s. s.flags) (cond on (s ∷ ss) ss)) ≡ nat_lt 0 (cond (on && p s.flags) 1 0 + n)
any_cons p true s ss n e = any_or (p s.flags) (list_any p (map (λ s. s.flags) ss)) n e
any_cons p false s ss n e = let z : n ≡ 0 + n = omega arith in e ∙ ap (λ m. nat_lt 0 m) z

any_on : (p : Flags → Bool) (id : List ℕ) (xs : List Share) → list_any p (flags_on xs id) ≡ nat_lt 0 (count_by (λ s. is_on id s && p s.flags) xs)
any_on p id [] = refl
any_on p id (s ∷ xs) =
    any_cons p (is_on id s) s (filter (is_on id) xs) (count_by (λ s. is_on id s && p s.flags) xs) (any_on p id xs)
    ∙ ap (λ n. nat_lt 0 n) (sym (sum_by-cons (λ (s : Share). cond (is_on id s && p s.flags) 1 0) s xs))

any_same : (p : Flags → Bool) (id : List ℕ) (xs ys : List Share) → HoldsFor xs ys → list_any p (flags_on xs id) ≡ list_any p (flags_on ys id)
any_same p id xs ys same = any_on p id xs ∙ ap (λ n. nat_lt 0 n) (same (λ s. is_on id s && p s.flags)) ∙ sym (any_on p id ys)

all_or : (b rest other : Bool) → rest ≡ not other → (b && rest) ≡ not (not b || other)
all_or true rest other e = e
all_or false rest other e = refl

all_by_any : (p : Flags → Bool) (fs : List Flags) → list_all p fs ≡ not (list_any (λ f. not (p f)) fs)
all_by_any p [] = refl
all_by_any p (f ∷ fs) = all_or (p f) (list_all p fs) (list_any (λ f. not (p f)) fs) (all_by_any p fs)

all_same : (p : Flags → Bool) (id : List ℕ) (xs ys : List Share) → HoldsFor xs ys → list_all p (flags_on xs id) ≡ list_all p (flags_on ys id)
all_same p id xs ys same = all_by_any p (flags_on xs id) ∙ ap not (any_same (λ f. not (p f)) id xs ys same) ∙ sym (all_by_any p (flags_on ys id))

length_same : (id : List ℕ) (xs ys : List Share) → HoldsFor xs ys → length (flags_on xs id) ≡ length (flags_on ys id)
length_same id xs ys same =
    length-map (filter (is_on id) xs) (λ s. s.flags) ∙ length-filter (is_on id) xs ∙ same (is_on id) ∙ sym (length-filter (is_on id) ys) ∙ sym (length-map (filter (is_on id) ys) (λ s. s.flags))

-- what handles do, from what is told of them
abbrev uses : ℕ → Bool → Bool → Bool → Bool → Bool → Uses
uses n meta reads writes reading writing = record { several = nat_lt 1 (suc n); writes_meta = meta; reads = reads; writes = writes; share_read = reading; share_write = writing }

uses_same : (n m : ℕ) (a b c d e a2 b2 c2 d2 e2 : Bool) → n ≡ m → a ≡ a2 → b ≡ b2 → c ≡ c2 → d ≡ d2 → e ≡ e2 → uses n a b c d e ≡ uses m a2 b2 c2 d2 e2
uses_same n m a b c d e a2 b2 c2 d2 e2 hn ha hb hc hd he = rw (hn, ha, hb, hc, hd, he) refl

pub conflict_same : (xs ys : List Share) (id : List ℕ) (flags : Flags) → HoldsFor xs ys → conflict xs id flags ≡ conflict ys id flags
conflict_same xs ys id flags same =
    ap conflicts (uses_same _ _ _ _ _ _ _ _ _ _ _ _ (length_same id xs ys same)
    (ap (λ b. has access_write_meta flags || b) (any_same (has access_write_meta) id xs ys same))
    (ap (λ b. has access_read flags || b) (any_same (has access_read) id xs ys same))
    (ap (λ b. has access_write flags || b) (any_same (has access_write) id xs ys same))
    (ap (λ b. has share_read flags && b) (all_same (has share_read) id xs ys same))
    (ap (λ b. has share_write flags && b) (all_same (has share_write) id xs ys same)))
