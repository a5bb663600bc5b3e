-- What asks about operations and random bytes leave of the random stream: as it was, or moved.
use Rattle.std.proofs.Common.{ℕ, ◌≡◌, ◌⊎◌, inl, inr, List, Option, None, Some, refl}
use Rattle.std.proofs.lemmas.Bool.{cond_both}
use Rattle.app_api.specs.declared.ask.Ask.{Ask}
use Rattle.app_api.specs.declared.ask.Ask.TheVariants as asked
use Rattle.app_api.specs.declared.ask.Answer.TheVariants as answers
use Rattle.rand_chacha.specs.ChaCha.{ChaCha}
use Rattle.crypto_ops.specs.Operations.{is_too_much}
use Rattle.crypto_ops.specs.Random.{stream_after, random_from}
use Rattle.operation_asks.specs.Asks.{CryptoState, Resolution, Settled, WantsKey, resolution_in, operation_resolution, set_key_resolution, with_operations}
use Rattle.operation_asks.specs.Effects.{Effect, answer_effect, panic_effect}
use Rattle.operation_asks.specs.Table.{NumberedOperation}
use Rattle.alone.specs.Crypto.{drawn_for}

-- it is the old stream, or that one moved
abbrev pub IsOfStream : ChaCha → ChaCha → Type 0
IsOfStream old new = (new ≡ old) ⊎ ((count : ℕ) × (new ≡ stream_after old count))

-- where the resolution is settled
abbrev pub LeavesStream : ChaCha → Resolution CryptoState → Type 0
LeavesStream old (Settled effect) = IsOfStream old effect.after.random
LeavesStream old (WantsKey op object) = Unit {0}

-- asks about operations leave it as it is
of_key : (s : CryptoState) (c : Resolution (List NumberedOperation)) → LeavesStream s.random (resolution_in (with_operations s) c)
of_key s (Settled effect) = inl refl
of_key s (WantsKey op object) = tt

-- random bytes move it
of_random : (s : CryptoState) (count : ℕ) → LeavesStream s.random (operation_resolution s 0 (asked.Random count))
unfolding operation_resolution
of_random s count =
    cond_both (is_too_much count) (panic_effect s.random) (answer_effect (stream_after s.random count) (answers.Content (random_from s.random count)))
    (λ (e : Effect ChaCha). IsOfStream s.random e.after) (λ _. inl refl) (λ _. inr (count, refl))

pub resolution_stream : (s : CryptoState) (i : ℕ) (ask : Ask) → LeavesStream s.random (operation_resolution s i ask)
unfolding operation_resolution
resolution_stream s i (asked.Random count) = of_random s count
resolution_stream s i (asked.OpSetKey op object) = of_key s (set_key_resolution s.operations i op object)
resolution_stream s i ask = inl refl

pub drawn_stream : (s : CryptoState) (wanted : Option ℕ) → IsOfStream s.random (drawn_for s wanted).random
drawn_stream s None = inl refl
drawn_stream s (Some count) = inr (count, refl)
