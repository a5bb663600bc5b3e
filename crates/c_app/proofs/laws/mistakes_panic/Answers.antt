use Rattle.c_app.proofs.Said.{none_panics, stop_panics}
use Rattle.c_app.proofs.laws.mistakes_panic.Goals as goal

pub returns : goal.returns
returns c = record { call = none_panics; stop = stop_panics }
