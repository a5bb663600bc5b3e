use Rattle.alone.proofs.Storage.{call_leaves_storage, cancellation_leaves_storage}
use Rattle.alone.proofs.laws.calls_leave_the_storage.Goals as goal

pub returns-clause-called : goal.returns-clause-called
returns-clause-called g c = λ m client call. call_leaves_storage m client call

pub returns-clause-cancelled : goal.returns-clause-cancelled
returns-clause-cancelled g c = λ m op. cancellation_leaves_storage m op
