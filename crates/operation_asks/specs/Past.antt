-- The operations and the random stream after all that was done with them.
use Rattle.std.specs.Prelude.{ℕ, List, [], ◌∷◌}
use Rattle.crypto_ops.specs.Random.{stream_after}
use Rattle.operation_asks.specs.declared.past.Did.{Did}
use Rattle.operation_asks.specs.declared.past.Did.TheVariants.{Began, Asked, KeySet, Drew, Ended}
use Rattle.transient_obj.specs.declared.look.KeyLook.{KeyLook}
use Rattle.operation_asks.specs.Represents.{left_by}
use Rattle.operation_asks.specs.Asks.{CryptoState, no_operations, operation_resolution, set_key_effect, with_operations, instance_ended}
use Rattle.operation_asks.specs.Effects.{Effect, effect_in}
use Rattle.tee_base.specs.Words.{InstanceNumber}

-- the rest of an ask for a key, over what the object gives
abbrev pub key_effect : CryptoState → InstanceNumber → ℕ → KeyLook → Effect CryptoState
key_effect s i op given = effect_in (with_operations s) (set_key_effect s.operations i op given)

-- after random bytes were taken
abbrev pub after_draw : CryptoState → ℕ → CryptoState
after_draw s count = record s { random = stream_after s.random count }

-- what one thing that was done leaves
abbrev pub after_one : Did → CryptoState → CryptoState
after_one (Began seed application boot) s = no_operations seed.value application boot
after_one (Asked instance ask) s = left_by s (operation_resolution s instance ask.value)
after_one (KeySet instance op given) s = (key_effect s instance op given.value).after
after_one (Drew count) s = after_draw s count
after_one (Ended instance) s = instance_ended s instance

-- what all of it leaves, the last of it first
abbrev pub state_after : List Did → CryptoState
state_after [] = no_operations [] 0 0
state_after (did ∷ before) = after_one did (state_after before)
