-- What a step asks for.
use Rattle.std.proofs.Common.{◌≡◌, ◌≢◌, ◌⊎◌, inl, inr, ℕ, Bool, true, false, Option, None, Some, refl, ap}
use Rattle.app_api.specs.Params.{no_params}
use Rattle.app_api.specs.declared.ask.Ask.{Ask}
use Rattle.app_api.specs.declared.ask.Answer.{Answer}
use Rattle.app_api.specs.declared.ask.Entry.{Entry}
use Rattle.app_api.specs.declared.ask.Entry.TheVariants as entries
use Rattle.app_api.specs.declared.ask.Given.{Given}
use Rattle.app_api.specs.declared.ask.Given.TheVariants as givens
use Rattle.app_api.specs.declared.param.Params.{Params}
use Rattle.rv32.specs.Machine.{run}
use Rattle.rv32.specs.declared.machine.Machine.{Machine}
use Rattle.rv32.specs.declared.machine.Halt.{Halt}
use Rattle.rv32.specs.declared.machine.Halt.TheVariants.{Call, Break, Illegal, NoInstruction, Misaligned, Outside, Budget}
use Rattle.c_app.specs.Answering.{answered}
use Rattle.c_app.specs.Asking.{ask_of}
use Rattle.c_app.specs.Entering.{found_places}
use Rattle.c_app.specs.Laws.{IsSaid}
use Rattle.c_app.specs.Steps.{Moved, panic, ask_or_panic, asked_at, phase_at, stopped, ran, begun_at, entered_at, entered, after_entry, after_delivery, after_answer, moved}
use Rattle.c_app.specs.declared.app.CApp.{CApp}
use Rattle.c_app.specs.declared.app.Phase.{Phase}
use Rattle.c_app.specs.declared.app.Phase.TheVariants.{Asks, Yields}
use Rattle.c_app.specs.declared.app.TheConstants.{BUDGET}
use Rattle.c_app.specs.declared.entering.EntryCall.{EntryCall}
use Rattle.c_app.specs.declared.entering.EntryKind.TheVariants.{Create, Destroy, Start, Stop, Invoke}
use Rattle.c_app.specs.declared.places.Places.{Places}

-- a step whose ask is said
abbrev IsSaidBy : Moved → Type 0
IsSaidBy m = IsSaid m.state m.ask

-- the application with this machine, which stopped so
abbrev at : CApp → Machine → Halt → CApp
at s m stop = stopped s (record { machine = m; stop = stop })

-- what was found is asked for, and else there is a panic
found : (s : CApp) (it : Option Ask) → ask_of s.machine s.layout.block s.slots ≡ it → IsSaid s (ask_or_panic it)
found s None h = inr (inl refl)
found s (Some ask) h = inl h

stop_said : (s : CApp) (m : Machine) (stop : Halt) → IsSaid (at s m stop) (asked_at stop (at s m stop))
unfolding asked_at phase_at
stop_said s m Call = found (at s m Call) (ask_of m s.layout.block s.slots) refl
stop_said s m Break = inr (inl refl)
stop_said s m Illegal = inr (inl refl)
stop_said s m NoInstruction = inr (inl refl)
stop_said s m Misaligned = inr (inl refl)
stop_said s m Outside = inr (inl refl)
stop_said s m Budget = inr (inr (inl (refl, refl)))

ran_said : (s : CApp) → IsSaidBy (ran s)
unfolding ran
ran_said s = stop_said s (run BUDGET s.machine).machine (run BUDGET s.machine).stop

places_said : (s : CApp) (call : EntryCall) (ps : Params) (places : Option Places) → IsSaidBy (entered_at s call ps places)
places_said s call ps None = inr (inr (inr refl))
places_said s call ps (Some places) = ran_said (begun_at s call ps places)

entered_said : (s : CApp) (call : EntryCall) (ps : Params) → IsSaidBy (entered s call ps)
entered_said s call ps = places_said s call ps (found_places s.machine.memory s.layout.block ps)

entry_said : (entry : Entry) (s : CApp) → IsSaidBy (after_entry entry s)
unfolding after_entry
entry_said entries.Create s = entered_said s (record { kind = Create; session = 0; command = 0 }) no_params
entry_said entries.Destroy s = entered_said s (record { kind = Destroy; session = 0; command = 0 }) no_params
entry_said (entries.Start session ps) s = entered_said s (record { kind = Start; session = session; command = 0 }) ps
entry_said (entries.Stop session) s = entered_said s (record { kind = Stop; session = session; command = 0 }) no_params
entry_said (entries.Invoke session command ps) s = entered_said s (record { kind = Invoke; session = session; command = command }) ps

delivery_said : (s : CApp) (lies : Bool) → IsSaidBy (after_delivery s lies)
delivery_said s true = ran_said s
delivery_said s false = inr (inl refl)

answer_said : (phase : Phase) (s : CApp) (answer : Answer) → IsSaidBy (after_answer phase s answer)
unfolding after_answer
answer_said Yields s answer = ran_said s
answer_said Asks s answer = delivery_said (record s { machine = (answered answer s.machine).machine }) (answered answer s.machine).lies

pub step_said : (s : CApp) (given : Given) → IsSaidBy (moved given s)
unfolding moved
step_said s (givens.Entry entry) = entry_said entry s
step_said s (givens.Answer answer) = answer_said s.phase s answer

-- no ask
pub none_panics : (s : CApp) → ask_of s.machine s.layout.block s.slots ≡ None → asked_at Call s ≡ panic
unfolding asked_at
none_panics s h = ap ask_or_panic h

-- no call
pub stop_panics : (s : CApp) (stop : Halt) → stop ≢ Call → stop ≢ Budget → asked_at stop s ≡ panic
unfolding asked_at
stop_panics s Call h k = absurd (h refl)
stop_panics s Break h k = refl
stop_panics s Illegal h k = refl
stop_panics s NoInstruction h k = refl
stop_panics s Misaligned h k = refl
stop_panics s Outside h k = refl
stop_panics s Budget h k = absurd (k refl)
