-- The bytes of a leaf, as the code takes them.
use Rattle.std.proofs.Common.{◌≡◌, ℕ, zero, suc, ◌+◌, ◌-◌, ◌*◌, ◌<◌, ◌≤◌, min, Bool, true, false, List, [], ◌∷◌, length, get_or, take, drop, length-drop, refl, sym, ◌∙◌, ap, subst, arith, nat_le}
use Rattle.std.specs.Prelude.{◌&&◌, ◌==◌}
use Rattle.std.specs.Cmp.{both_ways}
use Rattle.std.specs.Int.Bits.{bit_or}
use Rattle.std.proofs.lemmas.Nat.{le_or_l, le_or_r}
use Rattle.std.proofs.lemmas.List.{drop_all}
use Rattle.std.proofs.lemmas.Bool.{eqb-true, leb-false, leb-true, le-leb, lt-leb, and_left, and_right}
use Rattle.region_plan.specs.Parts.{part, are_zero}
use Rattle.region_plan.specs.Inodes.{is_inode_leaf}

take_all : (n : ℕ) (xs : List ℕ) → length xs ≤ n → take n xs ≡ xs
take_all zero [] le = refl
take_all zero (x ∷ xs) le = absurd (omega arith)
take_all (suc n) [] le = refl
take_all (suc n) (x ∷ xs) le = ap (λ (l : List ℕ). x ∷ l) (take_all n xs (omega arith))

-- all behind a place
pub rest_is : (used : ℕ) (bytes : List ℕ) → length bytes ≡ 1024 → take (1024 - used) (drop used bytes) ≡ drop used bytes
rest_is used bytes long = take_all (1024 - used) (drop used bytes) (omega (arith, length-drop used bytes, long))

-- zeros behind so many bytes, as the code tests them
pub zero_behind : (block : List ℕ) (used from : ℕ) (r : Bool) → length block ≡ 1024 → from ≡ min used 1024 → r ≡ are_zero (take (1024 - from) (drop from block))
    → r ≡ are_zero (drop used (take 1024 block))
zero_behind block used from r long is told =
    told ∙ ap are_zero (rest_is from block long ∙ same) ∙ ap (λ (x : List ℕ). are_zero (drop used x)) (sym (take_all 1024 block (omega (arith, long))))
  where
    same : drop from block ≡ drop used block
    same = elim (nat_le used 1024) as (λ b. nat_le used 1024 ≡ b → drop from block ≡ drop used block) [
      | true ↦ λ e. (let le = leb-true used 1024 e in ap (λ (n : ℕ). drop n block) (let k : from ≡ used = omega (arith, is, le) in k))
      | false ↦ λ e. (let more = leb-false used 1024 e in
          drop_all from block (omega (arith, is, more, long)) ∙ sym (drop_all used block (omega (arith, more, long))))
    ] refl

-- what the code finds of the leaf of a content, of the leaf itself
pub zeros_of : (long index long' : ℕ) (block leaf : List ℕ) (r b : Bool) → long ≡ long' → block ≡ leaf → r ≡ are_zero (drop (long - 1024 * index) (take 1024 block)) → r ≡ b
    → are_zero (drop (long' - 1024 * index) (take 1024 leaf)) ≡ b
zeros_of long index long' block leaf r b is same told yes' =
    ap (λ (n : ℕ). are_zero (drop (n - 1024 * index) (take 1024 leaf))) (sym is) ∙ ap (λ (x : List ℕ). are_zero (drop (long - 1024 * index) (take 1024 x))) (sym same) ∙ sym told ∙ yes'

-- lengths past their limits
pub long_identifier : (bytes : List ℕ) (id : ℕ) → id ≡ get_or bytes 12 0 → 64 < id → false ≡ is_inode_leaf bytes
unfolding is_inode_leaf
long_identifier bytes id is more = sym (and_left (nat_le (get_or bytes 12 0) 64) _ (lt-leb (get_or bytes 12 0) 64 (subst (λ (n : ℕ). 64 < n) is more)))

pub long_secret : (bytes : List ℕ) (secret : ℕ) → secret ≡ get_or bytes 13 0 → 128 < secret → false ≡ is_inode_leaf bytes
unfolding is_inode_leaf
long_secret bytes secret is more = sym (and_right (nat_le (get_or bytes 12 0) 64) _ (and_left (nat_le (get_or bytes 13 0) 128) _ (lt-leb (get_or bytes 13 0) 128 (subst (λ (n : ℕ). 128 < n) is more))))

-- the rules, as the code tests them
pub leaf_rules : (bytes : List ℕ) (id secret : ℕ) (result a b c d : Bool) → length bytes ≡ 1024 → id ≡ get_or bytes 12 0 → secret ≡ get_or bytes 13 0 → id ≤ 64 → secret ≤ 128
    → a ≡ are_zero (take 2 (drop 14 bytes)) → b ≡ are_zero (take (80 - (16 + id)) (drop (16 + id) bytes)) → c ≡ are_zero (take (208 - (80 + secret)) (drop (80 + secret) bytes)) →
    d ≡ are_zero (take (1024 - 208) (drop 208 bytes))
    → result ≡ (a && (b && (c && d))) → result ≡ is_inode_leaf bytes
unfolding is_inode_leaf
leaf_rules bytes id secret result a b c d long is_id is_secret short_id short_secret first second third fourth told =
    let n : 80 - (16 + id) ≡ 64 - id = omega arith in
    let m : 208 - (80 + secret) ≡ 128 - secret = omega arith in
    let b_is : b ≡ are_zero (part (16 + get_or bytes 12 0) (64 - get_or bytes 12 0) bytes) =
    second ∙ ap (λ (k : ℕ). are_zero (take k (drop (16 + id) bytes))) n ∙ ap (λ (k : ℕ). are_zero (part (16 + k) (64 - k) bytes)) is_id in
    let c_is : c ≡ are_zero (part (80 + get_or bytes 13 0) (128 - get_or bytes 13 0) bytes) =
    third ∙ ap (λ (k : ℕ). are_zero (take k (drop (80 + secret) bytes))) m ∙ ap (λ (k : ℕ). are_zero (part (80 + k) (128 - k) bytes)) is_secret in
    let d_is : d ≡ are_zero (drop 208 bytes) = fourth ∙ ap are_zero (rest_is 208 bytes long) in
    let e : nat_le (get_or bytes 12 0) 64 ≡ true = le-leb (get_or bytes 12 0) 64 (subst (λ (k : ℕ). k ≤ 64) is_id short_id) in
    let f : nat_le (get_or bytes 13 0) 128 ≡ true = le-leb (get_or bytes 13 0) 128 (subst (λ (k : ℕ). k ≤ 128) is_secret short_secret) in
    told ∙ ap (λ x. x && (b && (c && d))) first ∙ ap (λ x. are_zero (part 14 2 bytes) && (x && (c && d))) b_is
    ∙ ap (λ x. are_zero (part 14 2 bytes) && (are_zero (part (16 + get_or bytes 12 0) (64 - get_or bytes 12 0) bytes) && (x && d))) c_is
    ∙ ap (λ x. are_zero (part 14 2 bytes) && (are_zero (part (16 + get_or bytes 12 0) (64 - get_or bytes 12 0) bytes) &&
    (are_zero (part (80 + get_or bytes 13 0) (128 - get_or bytes 13 0) bytes) && x))) d_is
    ∙ sym (both_pass _ _ _ e f)
  where
    both_pass : (x y z : Bool) → x ≡ true → y ≡ true → (x && (y && z)) ≡ z
    both_pass x y z p q = ap (λ u. u && (y && z)) p ∙ ap (λ u. u && z) q

-- no bit of either number
pub or_zero : (a b : ℕ) → (bit_or a b == 0) ≡ ((a == 0) && (b == 0))
or_zero a b =
    both_ways (bit_or a b == 0) ((a == 0) && (b == 0))
    (λ none.
    let e : bit_or a b ≡ 0 = eqb-true (bit_or a b) 0 none in
    let left = le_or_l a b in
    let right = le_or_r a b in
    let first : a ≡ 0 = omega (arith, e, left) in
    let second : b ≡ 0 = omega (arith, e, right) in
    ap (λ (n : ℕ). (n == 0) && (b == 0)) first ∙ ap (λ (n : ℕ). n == 0) second)
    (λ both.
    let parts = and_two (a == 0) (b == 0) both in
    let first : a ≡ 0 = eqb-true a 0 parts.0 in
    let second : b ≡ 0 = eqb-true b 0 parts.1 in
    ap (λ (n : ℕ). bit_or n b == 0) first ∙ ap (λ (n : ℕ). bit_or 0 n == 0) second)
  where
    and_two : (x y : Bool) → (x && y) ≡ true → (x ≡ true) × (y ≡ true)
    and_two true y e = (refl, e)
    and_two false y e = absurd (let f : false ≡ true = e in cc)
