-- What follows from the definition of a step.
use Rattle.std.specs.Prelude.{◌≡◌, ◌⊎◌, ◌≤◌, ℕ, List, length, Some}
use Rattle.app_api.specs.Outs.{no_outs}
use Rattle.app_api.specs.declared.ask.Ask.{Ask}
use Rattle.app_api.specs.declared.ask.Ask.TheVariants.{CancelFlag, Return}
use Rattle.tee_base.specs.declared.codes.TheConstants.Code.{OUT_OF_MEMORY}
use Rattle.rv32.specs.Memory.{slice_at}
use Rattle.c_app.specs.Asking.{ask_of}
use Rattle.c_app.specs.Steps.{panic}
use Rattle.c_app.specs.declared.app.CApp.{CApp}
use Rattle.c_app.specs.declared.app.Phase.TheVariants.{Yields}

-- what a step may ask for that left this state: what the registers and the memory say, a panic, a yield of a machine that is to go on, or the
-- end of an entry whose parameters have no place
abbrev pub IsSaid : CApp → Ask → Type 0
IsSaid s ask =
    (ask_of s.machine s.layout.block s.slots ≡ Some ask) ⊎ (ask ≡ panic) ⊎ ((ask ≡ CancelFlag) × (s.phase ≡ Yields))
    ⊎ (ask ≡ Return OUT_OF_MEMORY no_outs)

-- these are bytes of a buffer, from its first on
pub record IsOfBuffer (memory : List ℕ) (address room : ℕ) (bytes : List ℕ) : Type 0 where
  pub few : length bytes ≤ room
  pub same : bytes ≡ slice_at memory address (length bytes)
