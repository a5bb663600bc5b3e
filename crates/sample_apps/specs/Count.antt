-- The sample application Count.
use Rattle.std.specs.Prelude.{ℕ, ◌+◌, ◌-◌, ◌^◌, ◌==◌, nat_lt, min, if◌then◌else◌}
use Rattle.app_api.specs.declared.ask.Ask.{Ask}
use Rattle.app_api.specs.declared.ask.Given.{Given}
use Rattle.app_api.specs.declared.ask.Given.TheVariants as givens
use Rattle.app_api.specs.declared.ask.Entry.{Entry}
use Rattle.app_api.specs.declared.ask.Entry.TheVariants.{Create, Destroy, Start, Stop, Invoke}
use Rattle.app_api.specs.declared.out.Out.TheVariants.{Value}
use Rattle.app_api.specs.declared.param.Param.{Param}
use Rattle.app_api.specs.declared.param.Param.TheVariants.{Nothing, ValueIn, ValueOut}
use Rattle.app_api.specs.declared.param.Params.{Params}
use Rattle.app_api.specs.Outs.{no_outs}
use Rattle.app_kit.specs.declared.reaction.Reaction.{Reaction}
use Rattle.sample_apps.specs.declared.count.Count.{Count}
use Rattle.tee_base.specs.declared.codes.TheConstants.Code.{GENERIC, BAD_PARAMETERS, OVERFLOW}
use Rattle.app_kit.specs.Reactions.{succeed_with, fail_with, at_p0, at_p1}

-- nothing counted, and no session
abbrev pub new_count : Count
new_count = record { number = 0; sessions = 0 }

-- a number is added where the sum is at most 2^32 - 1
abbrev pub after_add : Count → ℕ → Reaction Count
after_add c a =
    if nat_lt (2 ^ 32 - 1) (c.number + a) then fail_with c OVERFLOW
    else succeed_with (record c { number = c.number + a }) (at_p1 (Value (c.number + a) c.sessions))

-- 1: adds the value's first number
unfoldable pub add : Count → Param → Param → Param → Param → Reaction Count
add c (ValueIn a b) ValueOut Nothing Nothing = after_add c a
add c p0 p1 p2 p3 = fail_with c BAD_PARAMETERS

-- 2: shows the number
unfoldable pub show : Count → Param → Param → Param → Param → Reaction Count
show c ValueOut Nothing Nothing Nothing = succeed_with c (at_p0 (Value c.number c.sessions))
show c p0 p1 p2 p3 = fail_with c BAD_PARAMETERS

-- a command
unfoldable pub command : Count → ℕ → Params → Reaction Count
command c n ps =
    if n == 1 then add c ps.p0 ps.p1 ps.p2 ps.p3
    else if n == 2 then show c ps.p0 ps.p1 ps.p2 ps.p3
    else fail_with c BAD_PARAMETERS

-- an entry. The number of sessions stays at 2^32 - 1 where it would pass it, and at 0 where it would fall below
unfoldable pub after_entry : Count → Entry → Reaction Count
after_entry c Create = succeed_with c no_outs
after_entry c Destroy = succeed_with c no_outs
after_entry c (Start session ps) = succeed_with (record c { sessions = min (c.sessions + 1) (2 ^ 32 - 1) }) no_outs
after_entry c (Stop session) = succeed_with (record c { sessions = c.sessions - 1 }) no_outs
after_entry c (Invoke session n ps) = command c n ps

-- each entry returns at once, so no answer can come
unfoldable pub reaction : Count → Given → Reaction Count
reaction c (givens.Entry entry) = after_entry c entry
reaction c (givens.Answer answer) = fail_with c GENERIC

-- the state after what is given
abbrev pub next_state : Count → Given → Count
next_state c given = (reaction c given).state

-- what is asked for
abbrev pub next_ask : Count → Given → Ask
next_ask c given = (reaction c given).ask
