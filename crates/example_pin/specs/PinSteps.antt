-- The steps of Pin: its two functions, from what is given to the state afterwards and to what is asked for.
use Rattle.app_api.specs.Outs.{no_outs}
use Rattle.app_api.specs.declared.ask.Ask.{Ask}
use Rattle.app_api.specs.declared.ask.Entry.{Entry}
use Rattle.app_api.specs.declared.ask.Entry.TheVariants.{Create, Destroy, Start, Stop, Invoke}
use Rattle.app_api.specs.declared.ask.Given.{Given}
use Rattle.app_api.specs.declared.ask.Given.TheVariants as givens
use Rattle.app_kit.specs.Reactions.{succeed_with}
use Rattle.app_kit.specs.declared.reaction.Reaction.{Reaction}
use Rattle.example_pin.specs.PinAnswers.{after_answer}
use Rattle.example_pin.specs.PinCommands.{begin}
use Rattle.example_pin.specs.declared.pin.Pin.{Pin}
use Rattle.example_pin.specs.declared.pin.Pin.TheVariants.{Idle}

-- an entry begins anew, whatever waited
unfoldable pub after_entry : Entry → Reaction Pin
after_entry (Invoke session command params) = begin command params.p0 params.p1 params.p2 params.p3
after_entry entry = succeed_with Idle no_outs

-- what is given
unfoldable pub reaction : Pin → Given → Reaction Pin
reaction pin (givens.Entry entry) = after_entry entry
reaction pin (givens.Answer answer) = after_answer pin answer

-- the state after what is given
abbrev pub next_state : Pin → Given → Pin
next_state pin given = (reaction pin given).state

-- what is asked for
abbrev pub next_ask : Pin → Given → Ask
next_ask pin given = (reaction pin given).ask
