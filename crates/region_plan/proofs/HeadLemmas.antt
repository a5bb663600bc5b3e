-- The leaf of an inode, written piece by piece.
use Rattle.std.proofs.Common.{◌≡◌, ◌≤◌, ◌<◌, ◌+◌, ◌-◌, ◌^◌, ◌∙◌, ℕ, zero, suc, true, List, [], ◌∷◌, length, take, drop, get_or, replicate, refl, sym, ap, arith, nat_le}
use Rattle.std.specs.Int.{w32, to_le_bytes, from_le_bytes}
use Rattle.std.specs.List.{slice_index}
use Rattle.std.proofs.lemmas.Bool.{and_from, le-leb}
use Rattle.std.proofs.lemmas.List.{length-replicate, get_or-take, get_or-drop}
use Rattle.std.proofs.lemmas.Nat.{from_le_bytes-to_le_bytes_4}
use Rattle.region_plan.specs.Parts.{part, with_bytes_at, are_zero}
use Rattle.region_plan.specs.Inodes.{four_at, length_in, identifier_in, secret_in, is_inode_leaf, IsHead}
use Rattle.region_plan.specs.declared.inode.TheConstants.{USAGE_AT}
use Rattle.region_plan.proofs.BlankLemmas.{drop_zeros}
use Rattle.region_plan.proofs.LeafLemmas.{rest_is}
use Rattle.region_plan.proofs.MapLemmas.{part_is, part_before, part_after, length-patched}

zeros_taken : (n m : ℕ) → are_zero (take n (replicate m 0)) ≡ true
zeros_taken zero m = refl
zeros_taken (suc n) zero = refl
zeros_taken (suc n) (suc m) = zeros_taken n m

zeros_part : (at n : ℕ) → are_zero (part at n (replicate 1024 0)) ≡ true
zeros_part at n = ap (λ (l : List ℕ). are_zero (take n l)) (drop_zeros at 1024) ∙ zeros_taken n (1024 - at)

module _ (id secret none kind usage long lengths p1 p2 p3 p4 p5 p6 : List ℕ) (k u l : ℕ) (k_fits : k < 2 ^ 32) (u_fits : u < 2 ^ 32) (l_fits : l < 2 ^ 32)
    (is_none : none ≡ replicate 1024 0) (is_kind : kind ≡ to_le_bytes w32 k) (is_usage : usage ≡ to_le_bytes w32 u) (is_long : long ≡ to_le_bytes w32 l)
    (is_lengths : lengths ≡ length id ∷ length secret ∷ []) (short_id : length id ≤ 64) (short_secret : length secret ≤ 128)
    (e1 : p1 ≡ with_bytes_at 0 kind none) (e2 : p2 ≡ with_bytes_at 4 usage p1) (e3 : p3 ≡ with_bytes_at 8 long p2) (e4 : p4 ≡ with_bytes_at 12 lengths p3) (e5 : p5
    ≡ with_bytes_at 16 id p4) (e6 : p6 ≡ with_bytes_at 80 secret p5) where
  kind_long : length kind ≡ 4
  kind_long = ap length is_kind

  usage_long : length usage ≡ 4
  usage_long = ap length is_usage

  long_long : length long ≡ 4
  long_long = ap length is_long

  lengths_long : length lengths ≡ 2
  lengths_long = ap length is_lengths

  l0 : length none ≡ 1024
  l0 = ap length is_none ∙ length-replicate {A = ℕ} 1024 0

  l1 : length p1 ≡ 1024
  l1 = ap length e1 ∙ length-patched 0 kind none (omega (arith, kind_long, l0)) ∙ l0

  l2 : length p2 ≡ 1024
  l2 = ap length e2 ∙ length-patched 4 usage p1 (omega (arith, usage_long, l1)) ∙ l1

  l3 : length p3 ≡ 1024
  l3 = ap length e3 ∙ length-patched 8 long p2 (omega (arith, long_long, l2)) ∙ l2

  l4 : length p4 ≡ 1024
  l4 = ap length e4 ∙ length-patched 12 lengths p3 (omega (arith, lengths_long, l3)) ∙ l3

  l5 : length p5 ≡ 1024
  l5 = ap length e5 ∙ length-patched 16 id p4 (omega (arith, short_id, l4)) ∙ l4

  l6 : length p6 ≡ 1024
  l6 = ap length e6 ∙ length-patched 80 secret p5 (omega (arith, short_secret, l5)) ∙ l5

  past_6 : (at n : ℕ) → at + n ≤ 80 → part at n p6 ≡ part at n p5
  past_6 at n below = ap (part at n) e6 ∙ part_before at n 80 secret p5 below (omega (arith, short_secret, l5))

  past_5 : (at n : ℕ) → at + n ≤ 16 → part at n p5 ≡ part at n p4
  past_5 at n below = ap (part at n) e5 ∙ part_before at n 16 id p4 below (omega (arith, short_id, l4))

  past_4 : (at n : ℕ) → at + n ≤ 12 → part at n p4 ≡ part at n p3
  past_4 at n below = ap (part at n) e4 ∙ part_before at n 12 lengths p3 below (omega (arith, lengths_long, l3))

  past_3 : (at n : ℕ) → at + n ≤ 8 → part at n p3 ≡ part at n p2
  past_3 at n below = ap (part at n) e3 ∙ part_before at n 8 long p2 below (omega (arith, long_long, l2))

  past_2 : (at n : ℕ) → at + n ≤ 4 → part at n p2 ≡ part at n p1
  past_2 at n below = ap (part at n) e2 ∙ part_before at n 4 usage p1 below (omega (arith, usage_long, l1))

  behind_6 : (at n : ℕ) → 80 + length secret ≤ at → part at n p6 ≡ part at n p5
  behind_6 at n above = ap (part at n) e6 ∙ part_after at n 80 secret p5 above (omega (arith, short_secret, l5))

  behind_5 : (at n : ℕ) → 16 + length id ≤ at → part at n p5 ≡ part at n p4
  behind_5 at n above = ap (part at n) e5 ∙ part_after at n 16 id p4 above (omega (arith, short_id, l4))

  -- behind the lengths there are zeros
  zeros_4 : (at n : ℕ) → 14 ≤ at → are_zero (part at n p4) ≡ true
  zeros_4 at n above =
      ap are_zero
      (ap (part at n) e4 ∙ part_after at n 12 lengths p3 (omega (arith, lengths_long, above)) (omega (arith, lengths_long, l3))
      ∙ ap (part at n) e3 ∙ part_after at n 8 long p2 (omega (arith, long_long, above)) (omega (arith, long_long, l2))
      ∙ ap (part at n) e2 ∙ part_after at n 4 usage p1 (omega (arith, usage_long, above)) (omega (arith, usage_long, l1))
      ∙ ap (part at n) e1 ∙ part_after at n 0 kind none (omega (arith, kind_long, above)) (omega (arith, kind_long, l0))
      ∙ ap (part at n) is_none)
      ∙ zeros_part at n

  number_at : (at : ℕ) (bytes : List ℕ) (n : ℕ) → n < 2 ^ 32 → bytes ≡ to_le_bytes w32 n → part at 4 p6 ≡ bytes → from_le_bytes w32 (part at 4 p6) ≡ n
  number_at at bytes n fits is here = ap (from_le_bytes w32) (here ∙ is) ∙ from_le_bytes-to_le_bytes_4 n fits

  kind_at : four_at 0 p6 ≡ k
  kind_at = number_at 0 kind k k_fits is_kind (past_6 0 4 (omega arith) ∙ past_5 0 4 (omega arith) ∙ past_4 0 4 (omega arith) ∙ past_3 0 4 (omega arith) ∙ past_2 0 4 (omega arith)
      ∙ ap (part 0 4) e1 ∙ part_is 0 4 kind none kind_long (omega (arith, l0)))

  usage_at : four_at USAGE_AT p6 ≡ u
  usage_at = number_at 4 usage u u_fits is_usage (past_6 4 4 (omega arith) ∙ past_5 4 4 (omega arith) ∙ past_4 4 4 (omega arith) ∙ past_3 4 4 (omega arith) ∙ ap (part 4 4) e2
      ∙ part_is 4 4 usage p1 usage_long (omega (arith, l1)))

  long_at : length_in p6 ≡ l
  unfolding length_in
  long_at = number_at 8 long l l_fits is_long (past_6 8 4 (omega arith) ∙ past_5 8 4 (omega arith) ∙ past_4 8 4 (omega arith) ∙ ap (part 8 4) e3 ∙ part_is 8 4 long p2 long_long (omega (arith, l2)))

  lengths_at : part 12 2 p6 ≡ length id ∷ length secret ∷ []
  lengths_at = past_6 12 2 (omega arith) ∙ past_5 12 2 (omega arith) ∙ ap (part 12 2) e4 ∙ part_is 12 2 lengths p3 lengths_long (omega (arith, l3)) ∙ is_lengths

  id_length : slice_index p6 12 ≡ length id
  id_length = sym (get_or-drop 12 p6 0 0) ∙ sym (get_or-take 2 (drop 12 p6) 0 0 (omega arith)) ∙ ap (λ (x : List ℕ). get_or x 0 0) lengths_at

  secret_length : slice_index p6 13 ≡ length secret
  secret_length = sym (get_or-drop 12 p6 1 0) ∙ sym (get_or-take 2 (drop 12 p6) 1 0 (omega arith)) ∙ ap (λ (x : List ℕ). get_or x 1 0) lengths_at

  id_at : identifier_in p6 ≡ id
  unfolding identifier_in
  id_at = ap (λ (n : ℕ). part 16 n p6) id_length ∙ past_6 16 (length id) (omega (arith, short_id)) ∙ ap (part 16 (length id)) e5 ∙ part_is 16 (length id) id p4 refl (omega (arith, short_id, l4))

  secret_at : secret_in p6 ≡ secret
  unfolding secret_in
  secret_at = ap (λ (n : ℕ). part 80 n p6) secret_length ∙ ap (part 80 (length secret)) e6 ∙ part_is 80 (length secret) secret p5 refl (omega (arith, short_secret, l5))

  reserved_zero : are_zero (part 14 2 p6) ≡ true
  reserved_zero = ap are_zero (past_6 14 2 (omega arith) ∙ past_5 14 2 (omega arith)) ∙ zeros_4 14 2 (omega arith)

  id_zero : are_zero (part (16 + slice_index p6 12) (64 - slice_index p6 12) p6) ≡ true
  id_zero =
      ap (λ (n : ℕ). are_zero (part (16 + n) (64 - n) p6)) id_length
      ∙ ap are_zero (past_6 (16 + length id) (64 - length id) (omega (arith, short_id)) ∙ behind_5 (16 + length id) (64 - length id) (omega arith))
      ∙ zeros_4 (16 + length id) (64 - length id) (omega arith)

  secret_zero : are_zero (part (80 + slice_index p6 13) (128 - slice_index p6 13) p6) ≡ true
  secret_zero =
      ap (λ (n : ℕ). are_zero (part (80 + n) (128 - n) p6)) secret_length
      ∙ ap are_zero (behind_6 (80 + length secret) (128 - length secret) (omega arith) ∙ behind_5 (80 + length secret) (128 - length secret) (omega (arith, short_id)))
      ∙ zeros_4 (80 + length secret) (128 - length secret) (omega arith)

  rest_zero : are_zero (drop 208 p6) ≡ true
  rest_zero =
      ap are_zero (sym (rest_is 208 p6 l6) ∙ behind_6 208 (1024 - 208) (omega (arith, short_secret)) ∙ behind_5 208 (1024 - 208) (omega (arith, short_id)))
      ∙ zeros_4 208 (1024 - 208) (omega arith)

  rules_kept : is_inode_leaf p6 ≡ true
  unfolding is_inode_leaf
  rules_kept =
      and_from _ _ (ap (λ (n : ℕ). nat_le n 64) id_length ∙ le-leb (length id) 64 short_id)
      (and_from _ _ (ap (λ (n : ℕ). nat_le n 128) secret_length ∙ le-leb (length secret) 128 short_secret)
      (and_from _ _ reserved_zero (and_from _ _ id_zero (and_from _ _ secret_zero rest_zero))))

  pub head_written : IsHead p6 k u id secret l
  head_written = record { rules = rules_kept; is_kind = kind_at; is_usage = usage_at; is_id = id_at; is_secret = secret_at; is_long = long_at }
