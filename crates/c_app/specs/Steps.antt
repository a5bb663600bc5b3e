-- The application: its state after what is given, and what it asks for, which are the halves of one function.
use Rattle.std.specs.Prelude.{ℕ, List, replicate, Bool, true, false, Option, None, Some}
use Rattle.app_api.specs.declared.ask.Ask.{Ask}
use Rattle.app_api.specs.declared.ask.Ask.TheVariants.{CancelFlag, Panic, Return}
use Rattle.app_api.specs.declared.ask.Answer.{Answer}
use Rattle.app_api.specs.declared.ask.Entry.{Entry}
use Rattle.app_api.specs.declared.ask.Entry.TheVariants as entries
use Rattle.app_api.specs.declared.ask.Given.{Given}
use Rattle.app_api.specs.declared.ask.Given.TheVariants as givens
use Rattle.app_api.specs.declared.param.Params.{Params}
use Rattle.app_api.specs.Outs.{no_outs}
use Rattle.app_api.specs.Params.{no_params}
use Rattle.tee_base.specs.declared.codes.TheConstants.Code.{GENERIC, OUT_OF_MEMORY}
use Rattle.rv32.specs.Machine.{run, RunEnd}
use Rattle.rv32.specs.declared.machine.Halt.{Halt}
use Rattle.rv32.specs.declared.machine.Halt.TheVariants.{Call, Budget}
use Rattle.c_app.specs.Answering.{Delivered, answered}
use Rattle.c_app.specs.Asking.{ask_of}
use Rattle.c_app.specs.Entering.{begun, found_places, no_slots, slots_of}
use Rattle.c_app.specs.declared.app.CApp.{CApp}
use Rattle.c_app.specs.declared.app.Phase.{Phase}
use Rattle.c_app.specs.declared.app.Phase.TheVariants.{Asks, Yields}
use Rattle.c_app.specs.declared.app.TheConstants.{BUDGET}
use Rattle.c_app.specs.declared.entering.EntryCall.{EntryCall}
use Rattle.c_app.specs.declared.entering.EntryKind.{EntryKind}
use Rattle.c_app.specs.declared.entering.EntryKind.TheVariants.{Create, Destroy, Start, Stop, Invoke}
use Rattle.c_app.specs.declared.entering.Layout.{Layout}
use Rattle.c_app.specs.declared.places.Places.{Places}

-- the state afterwards, and what is asked for
pub record Moved : Type 0 where
  pub state : CApp
  pub ask : Ask

-- an application over a memory, before its first entry
abbrev pub at_rest : List ℕ → Layout → CApp
at_rest memory layout =
    record {
      machine = record { registers = replicate 32 0; pc = layout.start; memory = memory };
      layout = layout;
      slots = no_slots;
      phase = Asks;
    }

-- the end of an instance
abbrev pub panic : Ask
panic = Panic GENERIC

-- what no ask is ends as a panic
abbrev pub ask_or_panic : Option Ask → Ask
ask_or_panic None = panic
ask_or_panic (Some ask) = ask

-- what is asked for where the machine stopped so. A yield is an ask that changes nothing, and counts as every ask does
unfoldable pub asked_at : Halt → CApp → Ask
asked_at Call s = ask_or_panic (ask_of s.machine s.layout.block s.slots)
asked_at Budget s = CancelFlag
asked_at stop s = panic

-- a machine that used up its budget yields
unfoldable pub phase_at : Halt → Phase
phase_at Budget = Yields
phase_at stop = Asks

-- the application with its machine where it stopped
abbrev pub stopped : CApp → RunEnd → CApp
stopped s at = record s { machine = at.machine; phase = phase_at at.stop }

-- the machine runs to its next ask
unfoldable pub ran : CApp → Moved
ran s = let at = run BUDGET s.machine in record { state = stopped s at; ask = asked_at at.stop (stopped s at) }

-- the entry of an application whose parameters have these places
abbrev pub begun_at : CApp → EntryCall → Params → Places → CApp
begun_at s call ps places = record s { machine = begun s.machine call s.layout ps places; slots = slots_of ps places }

-- an entry whose parameters have these places, or none
abbrev pub entered_at : CApp → EntryCall → Params → Option Places → Moved
entered_at s call ps None = record { state = s; ask = Return OUT_OF_MEMORY no_outs }
entered_at s call ps (Some places) = ran (begun_at s call ps places)

-- an entry, where its parameters have their place
abbrev pub entered : CApp → EntryCall → Params → Moved
entered s call ps = entered_at s call ps (found_places s.machine.memory s.layout.block ps)

-- an entry without a command and parameters
abbrev pub entered_alone : CApp → EntryKind → ℕ → Moved
entered_alone s kind session = entered s (record { kind = kind; session = session; command = 0 }) no_params

-- each entry
unfoldable pub after_entry : Entry → CApp → Moved
after_entry entries.Create s = entered_alone s Create 0
after_entry entries.Destroy s = entered_alone s Destroy 0
after_entry (entries.Start session ps) s = entered s (record { kind = Start; session = session; command = 0 }) ps
after_entry (entries.Stop session) s = entered_alone s Stop session
after_entry (entries.Invoke session command ps) s = entered s (record { kind = Invoke; session = session; command = command }) ps

-- it goes on where the bytes of the answer lie in memory
abbrev pub after_delivery : CApp → Bool → Moved
after_delivery s true = ran s
after_delivery s false = record { state = s; ask = panic }

-- an answer to what was asked. That to a yield says nothing
unfoldable pub after_answer : Phase → CApp → Answer → Moved
after_answer Yields s answer = ran s
after_answer Asks s answer =
    after_delivery (record s { machine = (answered answer s.machine).machine }) (answered answer s.machine).lies

-- what is given
unfoldable pub moved : Given → CApp → Moved
moved (givens.Entry entry) s = after_entry entry s
moved (givens.Answer answer) s = after_answer s.phase s answer

-- the state after what is given
abbrev pub next_state : CApp → Given → CApp
next_state s given = (moved given s).state

-- what is asked for
abbrev pub next_ask : CApp → Given → Ask
next_ask s given = (moved given s).ask
