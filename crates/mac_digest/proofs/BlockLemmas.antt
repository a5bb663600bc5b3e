-- A key as a block: filled with zeros up to the longest block, and its front taken.
use Rattle.std.proofs.Common.{◌≡◌, ◌<◌, ◌≤◌, ◌+◌, ◌-◌, ◌++◌, ◌∙◌, ℕ, List, [], ◌∷◌, length, take, drop, get_or, arith, ap, sym, true, false, append_assoc}
use Rattle.std.proofs.Math.Seq.{take-append-add}
use Rattle.std.proofs.lemmas.List.{take-replicate, drop_more, map_more, set_at, get_or_at, length-take-le, length-map}
use Rattle.std.proofs.lemmas.Bool.Decides.{nat_tests}
use Rattle.std.specs.Prelude.{replicate, slice_set, bit_xor, nat_lt}
use Rattle.mac_digest.specs.declared.digests.Hash.{Hash}
use Rattle.mac_digest.specs.declared.digests.Hash.TheVariants.{Sha256, Sha384, Sha512}
use Rattle.mac_digest.specs.Hash.{block_len, digest_len, digest_of}
use Rattle.mac_digest.specs.Hmac.{zero_filled, block_key, xor_each}

-- the front of what is filled up to more is what is filled up to less
pub take-zero_filled : (bytes : List ℕ) (short long : ℕ) → length bytes ≤ short → short ≤ long →
    take short (zero_filled long bytes) ≡ zero_filled short bytes
take-zero_filled bytes short long fits within =
    let zeros : List ℕ = replicate (long - length bytes) 0 in
    let rest : ℕ = short - length bytes in
    let split : short ≡ length bytes + rest = omega arith in
    ap (λ n. take n (bytes ++ zeros)) split
    ∙ take-append-add bytes zeros rest
    ∙ ap (λ tail. bytes ++ tail) (take-replicate rest (long - length bytes) 0 (omega arith))

pub block_len-le : (hash : Hash) → block_len hash ≤ 128
block_len-le Sha256 = omega arith
block_len-le Sha384 = omega arith
block_len-le Sha512 = omega arith

pub digest_len-le : (hash : Hash) → digest_len hash ≤ block_len hash
digest_len-le Sha256 = omega arith
digest_len-le Sha384 = omega arith
digest_len-le Sha512 = omega arith

-- a key that is no longer than a block stands as it is
pub short_key_block : (hash : Hash) (key : List ℕ) → length key ≤ block_len hash →
    take (block_len hash) (zero_filled 128 key) ≡ block_key hash key
unfolding block_key
short_key_block hash key fits =
    let is_long : nat_lt (block_len hash) (length key) ≡ false = grind (arith, nat_tests) in
    rw is_long (take-zero_filled key (block_len hash) 128 fits (block_len-le hash))

-- for a longer key its digest stands
pub long_key_block : (hash : Hash) (key digest : List ℕ) → block_len hash < length key →
    digest ≡ digest_of hash key → length digest ≡ digest_len hash →
    take (block_len hash) (zero_filled 128 digest) ≡ block_key hash key
unfolding block_key
long_key_block hash key digest is_longer is_digest has_length =
    let is_long : nat_lt (block_len hash) (length key) ≡ true = grind (arith, nat_tests) in
    let fits : length digest ≤ block_len hash = omega (arith, digest_len-le hash) in
    take-zero_filled digest (block_len hash) 128 fits (block_len-le hash)
    ∙ rw is_long (ap (zero_filled (block_len hash)) is_digest)

-- one more byte of a block is xored in its place
pub xor_next : (pad : ℕ) (block items : List ℕ) (i : ℕ) → i < length block →
    items ≡ xor_each pad (take i block) ++ drop i block →
    slice_set items i (bit_xor (get_or items i 0) pad) ≡ xor_each pad (take (i + 1) block) ++ drop (i + 1) block
xor_next pad block items i within so_far =
    let front : List ℕ = xor_each pad (take i block) in
    let rest : List ℕ = drop (i + 1) block in
    let byte : ℕ = get_or block i 0 in
    let reaches : length front ≡ i = simp length-map (length-take-le i block (omega arith)) in
    let split : items ≡ front ++ byte ∷ rest = so_far ∙ ap (λ tail. front ++ tail) (drop_more block i 0 within) in
    let read : get_or items i 0 ≡ byte = ap (λ s. get_or s i 0) split ∙ get_or_at front byte rest 0 i reaches in
    ap (λ b. slice_set items i (bit_xor b pad)) read
    ∙ ap (λ s. slice_set s i (bit_xor byte pad)) split
    ∙ set_at front byte rest (bit_xor byte pad) i reaches
    ∙ sym (append_assoc front (bit_xor byte pad ∷ []) rest)
    ∙ ap (λ s. s ++ rest) (sym (map_more (λ b. bit_xor b pad) block i 0 within))
