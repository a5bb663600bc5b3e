-- What each layer of a run leaves of the part that it made: of events, and of lines.
use Rattle.app_api.specs.Behaviours.{Behaviour}
use Rattle.std.specs.Prelude.{ℕ, ◌≡◌, ◌≤◌, List, [], Option, Result, IsErrOf, OnErr, OnOk}
use Rattle.tee_base.specs.Faults.{Rose}
use Rattle.board.specs.Moment.{View}
use Rattle.epoch.specs.Forms.{Form}
use Rattle.epoch.specs.Mounts.{IsRefusedNow}
use Rattle.epoch.specs.declared.answer.OpenAnswer.TheVariants as answers
use Rattle.script.specs.declared.line.Line.{Line}
use Rattle.store_api.specs.declared.volume.Volume.{Ghosts}
use Rattle.tee_core.specs.Represents.{app_count, boots_of, volume_of, Represents}
use Rattle.tee_core.specs.World.{World}
use Rattle.tee_core.specs.declared.tee.TeeOver.{TeeOver}
use Rattle.run_board.specs.Boards.{FailsAtPower, HasFirstOrders, HasOrders, HasPower, WritesLosses, orders_of}
use Rattle.run_board.specs.Parts.{IsRefusedIn, IsRunOf, Point, StopsIn, point}
use Rattle.run_board.specs.Stops.{IfRefused, IsNoRefusal, UnlessRefused}
use Rattle.run_board.specs.Transcript.{Weather, WorldEvent}
use Rattle.run_board.specs.declared.lines.Stop.{Stop}
use Rattle.run_board.specs.declared.lines.Stop.TheVariants as stops

-- where a run stands: its point, for which worlds its value stands, whether its board is honest, how many applications there are, and
-- how often its sink failed
pub record Place (A : Type 0) : Type 1 where
  pub here : Point
  pub Stands : World A → Type 0
  pub Honest : Type 0
  pub apps : ℕ
  pub failures : ℕ

-- the place of a value and its sink, where these tell the board's view and whether it is honest, the board of a volume, and what was
-- written to a sink and how often it failed
abbrev pub point_of : {B V A W : Type 0} {G : Ghosts V} → (B → View) → (B → Type 0) → (V → B) → (W → Option (List ℕ)) → (W → ℕ) → TeeOver B V A G → W → Place A
point_of view honest board_of written failures tee sink = record {
  here = point (boots_of tee) (view (board_of (volume_of tee))) (written sink);
  Stands = λ world. Represents tee world;
  Honest = honest (board_of (volume_of tee));
  apps = app_count tee;
  failures = failures sink;
}

module _ {A : Type 0} (behaviour : Behaviour A) (form : Form) (names : List (List ℕ)) where
  -- the events of a world were made and written, or the first of them; none of them is an order
  pub record MakesEvents {X : Type 0} (events : World A → Weather → List WorldEvent) (result : Result X Stop) (old new : Place A) : Type 0 where
    pub whole : OnOk result ((world : World A) → old.Stands world → IsRunOf behaviour form names (events world) world new.Stands old.here new.here)
    pub stopped : OnErr result ((world : World A) → old.Stands world → StopsIn behaviour form names (events world) world old.here new.here)
    pub served : IsNoRefusal result
    pub orders : HasOrders [] old.here.view new.here.view
    pub losses : OnOk result (WritesLosses old.here.written new.here.written old.here.view new.here.view)
    pub honest : old.Honest → new.Honest
    pub apps : new.apps ≡ old.apps
    pub fault : IsErrOf result stops.WriteFault → Rose old.failures new.failures
    pub later : old.failures ≤ new.failures

  -- lines were run and written, or the first of them: up to some event, or up to a loss of power behind which the board wasn't opened
  -- again; their orders were made, or the first of these
  pub record RunsLines {X : Type 0} (script : List Line) (events : World A → Weather → List WorldEvent) (result : Result X Stop) (old new : Place A) : Type 0 where
    pub whole : OnOk result ((world : World A) → old.Stands world → IsRunOf behaviour form names (events world) world new.Stands old.here new.here)
    pub stopped : UnlessRefused result ((world : World A) → old.Stands world → StopsIn behaviour form names (events world) world old.here new.here)
    pub refused : IfRefused result (λ why. (world : World A) → old.Stands world → IsRefusedIn behaviour form names script world old.here new.here × (why ≡ answers.Failed))
    pub refusal : IfRefused result (λ why. old.Honest → IsRefusedNow form new.here.view why)
    pub cause : IfRefused result (λ why. why ≡ answers.Failed → FailsAtPower script old.here.view new.here.view)
    pub power : IfRefused result (λ why. HasPower script)
    pub orders : OnOk result (HasOrders (orders_of script) old.here.view new.here.view)
    pub first_orders : OnErr result (HasFirstOrders script old.here.view new.here.view)
    pub losses : OnOk result (WritesLosses old.here.written new.here.written old.here.view new.here.view)
    pub honest : old.Honest → new.Honest
    pub apps : new.apps ≡ old.apps
    pub fault : IsErrOf result stops.WriteFault → Rose old.failures new.failures
    pub later : old.failures ≤ new.failures
