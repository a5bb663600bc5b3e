use Rattle.std.proofs.Common.{ℕ, ◌≡◌, ◌∙◌, ◌*◌, ◌/◌, ◌%◌, ◌≤◌, ◌==◌, ◌||◌, ◌&&◌, nat_le, nat_lt, Bool, true, false, not, cond, List, None, Some, Ok, is_ok, is_some, length, refl, sym, ap, arith}
use Rattle.std.proofs.lemmas.Bool.{both_ways, eqb-true, leb-true, lt-leb, not-true}
use Rattle.tee_base.specs.KeySizes.{aes, are_bytes_in, hmac_sha256, hmac_sha384, hmac_sha512, size_fits}
use Rattle.secret.specs.Bits.{bits_of}
use Rattle.transient_obj.specs.Keys.{Key, populate_answer}
use Rattle.object_asks.specs.Keys.{fits_key, wanted_by}
use Rattle.object_asks.proofs.HandleLemmas.{first_true, second_true}
use Rattle.object_asks.proofs.keys.generate.Goals as goal

-- a size that fits is a number of whole bytes, and no more than 1,024
abbrev IsWhole : ℕ → Type 0
IsWhole bits = (8 * (bits / 8) ≡ bits) × (bits ≤ 1024)

in_range : (least bits : ℕ) → are_bytes_in least 1024 bits ≡ true → IsWhole bits
in_range least bits fits =
    let whole : bits % 8 ≡ 0 = eqb-true (bits % 8) 0 (second_true (nat_le least bits && nat_le bits 1024) ((bits % 8) == 0) fits) in
    let most : bits ≤ 1024 = leb-true bits 1024 (second_true (nat_le least bits) (nat_le bits 1024) (first_true (nat_le least bits && nat_le bits 1024) ((bits % 8) == 0) fits)) in
    (omega arith, most)

one_of : (a b : Bool) (P : Type 0) → (a || b) ≡ true → (a ≡ true → P) → (b ≡ true → P) → P
one_of true b P either here there = here refl
one_of false b P either here there = there either

is_whole : (n bits : ℕ) → bits ≡ n → IsWhole n → IsWhole bits
is_whole n bits same whole = rw same whole

whole_bytes : (kind bits : ℕ) → size_fits kind bits ≡ true → IsWhole bits
unfolding size_fits
whole_bytes kind bits =
    elim (kind == aes) as (λ b. cond b ((bits == 128) || (bits == 192) || (bits == 256)) (cond (kind == hmac_sha256) (are_bytes_in 192 1024 bits)
    (cond ((kind == hmac_sha384) || (kind == hmac_sha512)) (are_bytes_in 256 1024 bits) false)) ≡ true → IsWhole bits) [
      | true ↦ λ fits. one_of ((bits == 128) || (bits == 192)) (bits == 256) (IsWhole bits) fits
          (λ less. one_of (bits == 128) (bits == 192) (IsWhole bits) less (λ e. is_whole 128 bits (eqb-true bits 128 e) (refl, omega arith))
          (λ e. is_whole 192 bits (eqb-true bits 192 e) (refl, omega arith)))
          (λ e. is_whole 256 bits (eqb-true bits 256 e) (refl, omega arith))
      | false ↦ elim (kind == hmac_sha256) as (λ b. cond b (are_bytes_in 192 1024 bits) (cond ((kind == hmac_sha384) || (kind == hmac_sha512)) (are_bytes_in 256 1024 bits) false) ≡
          true → IsWhole bits) [
            | true ↦ λ fits. in_range 192 bits fits
            | false ↦ elim ((kind == hmac_sha384) || (kind == hmac_sha512)) as (λ b. cond b (are_bytes_in 256 1024 bits) false ≡ true → IsWhole bits) [
              | true ↦ λ fits. in_range 256 bits fits
              | false ↦ λ fits. absurd (both_ways _ refl fits)
            ]
          ]
    ]

-- a key takes as many bytes as are wanted for it
taken : (key : Key) (bits : ℕ) (secret : List ℕ) → fits_key key bits ≡ true → bits / 8 ≡ length secret → populate_answer key secret ≡ Ok tt
taken key bits secret fits count =
    let both : (not (is_some key.secret) && size_fits key.kind bits) ≡ true = first_true (not (is_some key.secret) && size_fits key.kind bits) (nat_le bits key.max_bits) fits in
    let empty : is_some key.secret ≡ false = not-true _ (first_true (not (is_some key.secret)) (size_fits key.kind bits) both) in
    let size : size_fits key.kind bits ≡ true = second_true (not (is_some key.secret)) (size_fits key.kind bits) both in
    let most : bits ≤ key.max_bits = leb-true bits key.max_bits (second_true (not (is_some key.secret) && size_fits key.kind bits) (nat_le bits key.max_bits) fits) in
    let whole : IsWhole bits = whole_bytes key.kind bits size in
    let few : bits ≤ 1024 = whole.1 in
    let same : bits_of secret ≡ bits = ap (λ n. 8 * n) (sym count) ∙ whole.0 in
    let short : nat_lt 524288 (length secret) ≡ false = lt-leb _ _ (omega arith) in
    let within : nat_lt key.max_bits (bits_of secret) ≡ false = lt-leb _ _ (omega arith) in
    let fits_too : size_fits key.kind (bits_of secret) ≡ true = ap (size_fits key.kind) same ∙ size in
    rw (empty, short, fits_too, within) refl

wanted : (key : Key) (bits : ℕ) (secret : List ℕ) → wanted_by bits (Some key) ≡ Some (length secret) → populate_answer key secret ≡ Ok tt
wanted key bits secret asked =
    elim (fits_key key bits) as (λ b. fits_key key bits ≡ b → cond b (Some (bits / 8)) None ≡ Some (length secret) → populate_answer key secret ≡ Ok tt) [
      | true ↦ λ fits is. taken key bits secret fits (let same : bits / 8 ≡ length secret = cc in same)
      | false ↦ λ _ is. absurd (let e : None ≡ Some (length secret) = is in cc)
    ] refl asked

pub returns-else-is_ok : goal.returns-else-is_ok
returns-else-is_ok c =
    let here : wanted_by c.requires.0 (Some c.in-Some.key.now) ≡ Some (length c.args.secret.now) = ap (wanted_by c.requires.0) c.in-Some.ensures ∙ c.requires.1 in
    let fine : c.populate.result ≡ Ok tt = c.populate.ensures.answer ∙ ap (λ key. populate_answer key c.args.secret.now) c.copy-key.ensures
    ∙ wanted c.in-Some.key.now c.requires.0 c.args.secret.now here in
    absurd (both_ways _ (sym c.if-is_ok.ensures.value) (ap is_ok fine))
