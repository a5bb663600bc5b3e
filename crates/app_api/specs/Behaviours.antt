-- What an application is to contracts: a state machine.
use Rattle.app_api.specs.declared.ask.Ask.{Ask}
use Rattle.app_api.specs.declared.ask.Given.{Given}

-- its two stated functions: the state after what is given, and what is asked for
pub record Behaviour (A : Type 0) : Type 0 where
  pub next : A → Given → A
  pub asks : A → Given → Ask
