-- The sample application Store.
use Rattle.app_api.specs.declared.ask.Ask.{Ask}
use Rattle.app_api.specs.declared.ask.Given.{Given}
use Rattle.app_api.specs.declared.ask.Given.TheVariants as givens
use Rattle.app_api.specs.declared.ask.Entry.{Entry}
use Rattle.app_api.specs.declared.ask.Entry.TheVariants.{Create, Destroy, Start, Stop, Invoke}
use Rattle.app_api.specs.Outs.{no_outs}
use Rattle.app_kit.specs.declared.reaction.Reaction.{Reaction}
use Rattle.sample_apps.specs.declared.store.Store.{Store}
use Rattle.sample_apps.specs.declared.store.Store.TheVariants.{Idle}
use Rattle.app_kit.specs.Reactions.{succeed_with}
use Rattle.sample_apps.specs.StoreCommands.{command}
use Rattle.sample_apps.specs.StoreAnswers.{after_answer}

-- an entry begins anew, whatever waited
unfoldable pub after_entry : Entry → Reaction Store
after_entry Create = succeed_with Idle no_outs
after_entry Destroy = succeed_with Idle no_outs
after_entry (Start session ps) = succeed_with Idle no_outs
after_entry (Stop session) = succeed_with Idle no_outs
after_entry (Invoke session number ps) = command number ps

-- what Store does with what it is given
unfoldable pub reaction : Store → Given → Reaction Store
reaction s (givens.Entry entry) = after_entry entry
reaction s (givens.Answer answer) = after_answer s answer

-- the state after what is given
abbrev pub next_state : Store → Given → Store
next_state s given = (reaction s given).state

-- what is asked for
abbrev pub next_ask : Store → Given → Ask
next_ask s given = (reaction s given).ask
