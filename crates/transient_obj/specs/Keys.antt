-- Keys in memory: transient objects (TEE Internal Core API 1.3, section 5.6).
use Rattle.std.specs.Prelude.{ℕ, ◌≡◌, ◌≤◌, ◌==◌, nat_lt, true, not, ◌||◌, List, length, Option, None, Some, is_some, IfSome, Result, Ok, Err, if◌then◌else◌, bit_and}
use Rattle.secret.specs.Bits.{bits_of}
use Rattle.tee_base.specs.declared.limits.TheConstants.{MAX_ASK_BYTES}
use Rattle.tee_base.specs.KeySizes.{size_fits}
use Rattle.transient_obj.specs.declared.answer.KeyAnswer.{KeyAnswer}
use Rattle.transient_obj.specs.declared.answer.KeyAnswer.TheVariants.{NotSupported, BadParameters, Misuse}

-- a key, which is initialised where it has a secret
pub record Key : Type 0 where
  pub kind : ℕ
  pub max_bits : ℕ
  pub usage : ℕ
  pub secret : Option (List ℕ)

-- all 32 usage bits
abbrev pub every_usage : ℕ
every_usage = 0xFFFFFFFF

-- a key of this kind and greatest size, with all usages and without a secret
abbrev pub new_key : ℕ → ℕ → Key
new_key kind max_bits = record { kind = kind; max_bits = max_bits; usage = every_usage; secret = None }

-- a new key, where the size fits the kind (section 5.6.1)
abbrev pub allocate_answer : ℕ → ℕ → Result Key KeyAnswer
allocate_answer kind max_bits = if size_fits kind max_bits then Ok (new_key kind max_bits) else Err NotSupported

-- whether a key can be populated: not where it is initialised or more bytes come than one call may bring, which is misuse,
-- and only by a secret that fits the kind and isn't above the greatest size (section 5.6.4)
abbrev pub populate_answer : Key → List ℕ → Result (Unit {0}) KeyAnswer
populate_answer key secret =
    if is_some key.secret || nat_lt MAX_ASK_BYTES (length secret) then Err Misuse
    else if not (size_fits key.kind (bits_of secret)) || nat_lt key.max_bits (bits_of secret) then Err BadParameters
    else Ok tt

-- the key with this secret
abbrev pub key_with_secret : Key → List ℕ → Key
key_with_secret key secret = record key { secret = Some secret }

-- without a secret, with all usages (section 5.6.3)
abbrev pub without_secret : Key → Key
without_secret key = record key { usage = every_usage; secret = None }

-- whether a secret of this kind can be copied to a key: not where it is initialised, of another kind or too small (section 5.6.6)
abbrev pub copy_answer : Key → ℕ → List ℕ → Result (Unit {0}) KeyAnswer
copy_answer to kind secret =
    if is_some to.secret || not (to.kind == kind) || nat_lt to.max_bits (bits_of secret) then Err Misuse
    else Ok tt

-- with a copy of the secret, and the usages that both have
abbrev pub with_secret_of : Key → ℕ → List ℕ → Key
with_secret_of to usage secret = record to { usage = bit_and to.usage usage; secret = Some secret }

-- with the usages that it has among these (section 5.5.2)
abbrev pub with_usages : Key → ℕ → Key
with_usages key usage = record key { usage = bit_and key.usage usage }

-- what each key in memory keeps: a greatest size that fits its kind, and a secret that isn't above it
pub record IsKey (key : Key) : Type 0 where
  pub size_fits : size_fits key.kind key.max_bits ≡ true
  pub few_bits : key.max_bits ≤ 1024
  pub secret_fits : IfSome key.secret (λ secret. bits_of secret ≤ key.max_bits)
