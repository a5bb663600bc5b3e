-- The handles on one object: one more, one less, and what they do together.
use Rattle.std.proofs.Common.{◌≡◌, ◌≤◌, ◌<◌, ◌+◌, ◌-◌, ◌*◌, ℕ, refl, Bool, true, false, not, cond, List, None, Some, [], ◌∷◌, ◌++◌, length, get_or, set, take, append_assoc, append-nil}
use Rattle.std.proofs.Common.{position, remove, nat_lt, count_by, sum_by, ap, sym, ◌∙◌, ⊎_elim, arith, replicate, ◌==◌, ◌&&◌, ◌||◌, zero, suc}
use Rattle.share_rules.specs.declared.uses.Uses.{Uses}
use Rattle.std.specs.List.{All, list_any, position_or_len}
use Rattle.std.specs.Option.{is_some}
use Rattle.std.proofs.lemmas.List.Elements.{All-head, All-get_or}
use Rattle.std.proofs.lemmas.Bool.{cases_Bool, both_ways, cond-true, ltb-false, eqb-true}
use Rattle.std.proofs.lemmas.List.{replicate_more, take_more}
use Rattle.std.proofs.lemmas.List.Folds.{sum_by-replicate, list_any_none, list_any-append}
use Rattle.std.proofs.lemmas.List.Quantifiers.{position-Some}
use Rattle.std.proofs.lemmas.List.Sums.{sum_by-cons, sum_by-append, sum_by-remove, sum_by_push, sum_by-set, fails_before_first}
use Rattle.tee_base.specs.declared.codes.Flags.{Flags}
use Rattle.share_rules.specs.declared.group.Count.{Count}
use Rattle.share_rules.specs.Groups.{GainsFlags, flags_of, has_some, is_of, is_same}
use Rattle.share_rules.specs.Sharing.{has, uses_of, with_handle, access_read, access_write, access_write_meta, share_read, share_write}
use Rattle.share_rules.proofs.Together.{uses_of_push}

abbrev weight : (Flags → Bool) → Count → ℕ
weight p c = c.handles * cond (p c.flags) 1 0

count-flags : (p : Flags → Bool) (cs : List Count) → count_by p (flags_of cs) ≡ sum_by (weight p) cs
count-flags p [] = refl
count-flags p (c ∷ cs) = sum_by-append (λ (f : Flags). cond (p f) 1 0) (replicate c.handles c.flags) (flags_of cs)
    ∙ ap (λ n. n + count_by p (flags_of cs)) (sum_by-replicate (λ (f : Flags). cond (p f) 1 0) c.handles c.flags)
    ∙ ap (λ n. weight p c + n) (count-flags p cs) ∙ sym (sum_by-cons (weight p) c cs)

one_more : (h : ℕ) (b : Bool) → (h + 1) * cond b 1 0 ≡ h * cond b 1 0 + cond b 1 0
one_more h true = omega arith
one_more h false = omega arith

one_less : (h : ℕ) (b : Bool) → 1 ≤ h → (h - 1) * cond b 1 0 + cond b 1 0 ≡ h * cond b 1 0
one_less h true le = omega (arith, le)
one_less h false le = omega (arith, le)

only_one : (h : ℕ) (b : Bool) → h ≡ 1 → h * cond b 1 0 ≡ cond b 1 0
only_one h true is = omega (arith, is)
only_one h false is = omega (arith, is)

same_flags : (f g : Flags) → f.0 ≡ g.0 → f ≡ g
same_flags f g is = ap (λ n. (let t : Flags = record { 0 = n } in t)) is

-- ---- changes

module _ (xs : List Count) (flags : Flags) (seen : List Flags) (view : flags_of xs ≡ seen) where
  as_seen : (p : Flags → Bool) → count_by p seen ≡ sum_by (weight p) xs
  as_seen p = sym (ap (count_by p) view) ∙ count-flags p xs

  pub gains_pushed : (ys : List Count) → ys ≡ xs ++ (record { flags = flags; handles = 1 }) ∷ [] → GainsFlags seen flags (flags_of ys)
  gains_pushed ys is p =
      let c : Count = record { flags = flags; handles = 1 } in
      omega (arith, ap (λ zs. count_by p (flags_of zs)) is, count-flags p (xs ++ c ∷ []), as_seen p, sum_by_push (weight p) xs c, only_one 1 (p flags) refl)

  module _ (i : ℕ) (c : Count) (found : position (is_of flags) xs ≡ Some i) (read : c ≡ get_or xs i c) where
    its_flags : c.flags ≡ flags
    its_flags = same_flags c.flags flags (ap (λ (d : Count). d.flags.0) read ∙ eqb-true _ _ (position-Some (is_of flags) xs i c found).1)

    passes : (p : Flags → Bool) → cond {A = ℕ} (p c.flags) 1 0 ≡ cond {A = ℕ} (p flags) 1 0
    passes p = ap {B = ℕ} (λ f. cond (p f) 1 0) its_flags

    set_to : (p : Flags → Bool) (n : ℕ) → count_by p (flags_of (set xs i (record { flags = c.flags; handles = n }))) + weight p c ≡ count_by p seen + n * cond (p c.flags) 1 0
    set_to p n =
        let d : Count = record { flags = c.flags; handles = n } in
        omega (
          arith,
          count-flags p (set xs i d),
          as_seen p,
          sum_by-set (weight p) xs i d c (position-Some (is_of flags) xs i c found).0,
          ap (weight p) read,
        )

    pub gains_set : (n : ℕ) → n ≡ c.handles + 1 → GainsFlags seen flags (flags_of (set xs i (record { flags = c.flags; handles = n })))
    gains_set n more p = omega (arith, set_to p n, ap (λ m. m * cond (p c.flags) 1 0) more, one_more c.handles (p c.flags), passes p)

    pub takes_set : 1 ≤ c.handles → GainsFlags (flags_of (set xs i (record { flags = c.flags; handles = c.handles - 1 }))) flags seen
    takes_set some p = omega (arith, set_to p (c.handles - 1), one_less c.handles (p c.flags) some, passes p)

    pub takes_out : (ys : List Count) → 1 ≤ c.handles → c.handles ≤ 1 → ys ≡ remove xs i → GainsFlags (flags_of ys) flags seen
    takes_out ys some few is p =
        omega (
          arith,
          ap (λ zs. count_by p (flags_of zs)) is,
          count-flags p (remove xs i),
          as_seen p,
          sum_by-remove (weight p) xs i c (position-Some (is_of flags) xs i c found).0,
          ap (weight p) read,
          only_one c.handles (p c.flags) (omega (arith, some, few)),
          passes p,
        )

-- ---- what is there has a place

filled : (n : ℕ) (f : Flags) (fs : List Flags) → 1 ≤ n → not (has_some (replicate n f ++ fs)) ≡ false
filled zero f fs some = absurd (omega (arith, some))
filled (suc n) f fs some = refl

any_replicate : (flags g : Flags) (n : ℕ) → (g.0 == flags.0) ≡ false → list_any (is_same flags) (replicate n g) ≡ false
any_replicate flags g zero other = refl
any_replicate flags g (suc n) other = rw other (any_replicate flags g n other)

no_place : (flags : Flags) (cs : List Count) → position (is_of flags) cs ≡ None → list_any (is_of flags) cs ≡ false
no_place flags cs none =
    let q : Count → Bool = is_of flags in
    let at : ℕ = position_or_len q cs in
    ⊎_elim
    (λ (yes : nat_lt at (length cs) ≡ true).
    let there : true ≡ false = ap is_some (sym (cond-true (nat_lt at (length cs)) (Some at) None yes) ∙ none) in
    absurd (both_ways true there refl))
    (λ (past : nat_lt at (length cs) ≡ false). list_any_none q cs (λ k d lt. fails_before_first q cs k d (omega (arith, ltb-false at (length cs) past))))
    (cases_Bool (nat_lt at (length cs)))

none_there : (flags : Flags) (cs : List Count) → list_any (is_of flags) cs ≡ false → list_any (is_same flags) (flags_of cs) ≡ false
none_there flags [] none = refl
none_there flags (c ∷ cs) none =
    ⊎_elim
    (λ (same : is_of flags c ≡ true). absurd (both_ways (list_any (is_of flags) (c ∷ cs)) none (ap (λ b. b || list_any (is_of flags) cs) same)))
    (λ (other : is_of flags c ≡ false).
    let rest : list_any (is_of flags) cs ≡ false = ap (λ b. b || list_any (is_of flags) cs) (sym other) ∙ none in
    list_any-append (is_same flags) (replicate c.handles c.flags) (flags_of cs) ∙ rw (any_replicate flags c.flags c.handles other, none_there flags cs rest) refl)
    (cases_Bool (is_of flags c))

pub absent : (flags : Flags) (cs : List Count) (seen : List Flags) → flags_of cs ≡ seen → position (is_of flags) cs ≡ None → list_any (is_same flags) seen ≡ false
absent flags cs seen view none = ap (list_any (is_same flags)) (sym view) ∙ none_there flags cs (no_place flags cs none)

-- ---- what they do together

or_again : (a b : Bool) → ((a || b) || b) ≡ (a || b)
or_again true b = refl
or_again false true = refl
or_again false false = refl

and_again : (a b : Bool) → ((a && b) && b) ≡ (a && b)
and_again false b = refl
and_again true true = refl
and_again true false = refl

again : (u : Uses) (f : Flags) → with_handle (with_handle u f) f ≡ with_handle u f
again u f = rw (
  or_again u.writes_meta (has access_write_meta f),
  or_again u.reads (has access_read f),
  or_again u.writes (has access_write f),
  and_again u.share_read (has share_read f),
  and_again u.share_write (has share_write f),
) refl

plus_one : (n : ℕ) → n + 1 ≡ suc n
plus_one n = omega arith

many : (f : Flags) (xs : List Flags) (n : ℕ) (y : Flags) → uses_of (f ∷ (xs ++ replicate (suc n) y)) ≡ with_handle (uses_of (f ∷ xs)) y
many f xs zero y = uses_of_push f xs y
many f xs (suc n) y =
    ap (λ ys. uses_of (f ∷ ys)) (ap (λ m. xs ++ replicate m y) (sym (plus_one (suc n))) ∙ ap (λ ys. xs ++ ys) (sym (replicate_more (suc n) y)) ∙ sym (append_assoc xs (replicate (suc n) y) (y ∷ [])))
    ∙ uses_of_push f (xs ++ replicate (suc n) y) y ∙ ap (λ u. with_handle u y) (many f xs n y) ∙ again (uses_of (f ∷ xs)) y

flags_append : (xs ys : List Count) → flags_of (xs ++ ys) ≡ flags_of xs ++ flags_of ys
flags_append [] ys = refl
flags_append (x ∷ xs) ys = ap (λ zs. replicate x.handles x.flags ++ zs) (flags_append xs ys) ∙ sym (append_assoc (replicate x.handles x.flags) (flags_of xs) (flags_of ys))

flags_more : (cs : List Count) (i : ℕ) (d : Count) → i < length cs →
    flags_of (take (i + 1) cs) ≡ flags_of (take i cs) ++ replicate (get_or cs i d).handles (get_or cs i d).flags
flags_more cs i d inside =
    let c = get_or cs i d in
    ap flags_of (take_more cs i d inside) ∙ flags_append (take i cs) (c ∷ []) ∙ ap (λ ys. flags_of (take i cs) ++ ys) (append-nil (replicate c.handles c.flags))

suc_of : (n : ℕ) → 1 ≤ n → n ≡ suc (n - 1)
suc_of n le = omega (arith, le)

pub step : (f : Flags) (cs : List Count) (i : ℕ) (d : Count) (u new : Uses) → new ≡ with_handle u (get_or cs i d).flags → u ≡ uses_of (f ∷ flags_of (take i cs)) → i < length cs →
    All (λ (c : Count). 1 ≤ c.handles) cs → new ≡ uses_of (f ∷ flags_of (take (i + 1) cs))
step f cs i d u new added before inside counted =
    let c = get_or cs i d in
    let some : 1 ≤ c.handles = All-get_or (λ (c : Count). 1 ≤ c.handles) cs i d inside counted in
    added ∙ ap (λ v. with_handle v c.flags) before ∙ sym (many f (flags_of (take i cs)) (c.handles - 1) c.flags)
    ∙ ap (λ n. uses_of (f ∷ (flags_of (take i cs) ++ replicate n c.flags))) (sym (suc_of c.handles some)) ∙ ap (λ fs. uses_of (f ∷ fs)) (sym (flags_more cs i d inside))

not_zero : (n : ℕ) → (suc n == 0) ≡ false
not_zero n = ⊎_elim (λ (yes : (suc n == 0) ≡ true). absurd (omega (arith, eqb-true (suc n) 0 yes))) (λ (other : (suc n == 0) ≡ false). other) (cases_Bool (suc n == 0))

pub not_empty : (cs : List Count) → All (λ (c : Count). 1 ≤ c.handles) cs → not (has_some (flags_of cs)) ≡ (length cs == 0)
not_empty [] counted = refl
not_empty (c ∷ cs) counted = filled c.handles c.flags (flags_of cs) (All-head (λ (c : Count). 1 ≤ c.handles) c cs counted) ∙ sym (not_zero (length cs))
