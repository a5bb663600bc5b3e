-- Lines that stop, and whether the board wasn't opened again.
use Rattle.std.proofs.Common.{Result, Ok, Err, OnErr, OnOk}
use Rattle.epoch.specs.declared.answer.OpenAnswer.{OpenAnswer}
use Rattle.run_board.specs.Stops.{IfRefused, IsNoRefusal, UnlessRefused}
use Rattle.run_board.specs.declared.lines.Stop.{Stop}
use Rattle.run_board.specs.declared.lines.Stop.TheVariants as stops

-- what holds of each stop holds of one that is no refusal
pub unless_refused : {X : Type 0} (r : Result X Stop) (P Q : Type 0) → (P → Q) → OnErr r P → UnlessRefused r Q
unless_refused (Ok x) P Q f p = tt
unless_refused (Err stops.NoMemory) P Q f p = f p
unless_refused (Err stops.WriteFault) P Q f p = f p
unless_refused (Err (stops.Refused why)) P Q f p = tt

-- the same of one that says more
pub unless_weaker : {X : Type 0} (r : Result X Stop) (P Q : Type 0) → (P → Q) → UnlessRefused r P → UnlessRefused r Q
unless_weaker (Ok x) P Q f p = tt
unless_weaker (Err stops.NoMemory) P Q f p = f p
unless_weaker (Err stops.WriteFault) P Q f p = f p
unless_weaker (Err (stops.Refused why)) P Q f p = tt

-- where there is no refusal, nothing is said of one
pub no_refusal : {X : Type 0} (r : Result X Stop) (fact : OpenAnswer → Type 0) → IsNoRefusal r → IfRefused r fact
no_refusal (Ok x) fact none = tt
no_refusal (Err stops.NoMemory) fact none = tt
no_refusal (Err stops.WriteFault) fact none = tt
no_refusal (Err (stops.Refused why)) fact none = absurd none

-- a refusal of which more is said
pub refused_weaker : {X : Type 0} (r : Result X Stop) (P Q : OpenAnswer → Type 0) → ((why : OpenAnswer) → P why → Q why) → IfRefused r P → IfRefused r Q
refused_weaker (Ok x) P Q f p = tt
refused_weaker (Err stops.NoMemory) P Q f p = tt
refused_weaker (Err stops.WriteFault) P Q f p = tt
refused_weaker (Err (stops.Refused why)) P Q f p = f why p

pub on_ok_known : {X E : Type 0} (r : Result X E) (P : Type 0) → P → OnOk r P
on_ok_known (Ok x) P p = p
on_ok_known (Err e) P p = tt

-- what holds anyway
pub unless_known : {X : Type 0} (r : Result X Stop) (P : Type 0) → P → UnlessRefused r P
unless_known (Ok x) P p = tt
unless_known (Err stops.NoMemory) P p = p
unless_known (Err stops.WriteFault) P p = p
unless_known (Err (stops.Refused why)) P p = tt

-- what holds anyway, whyever
pub refused_known : {X : Type 0} (r : Result X Stop) (P : Type 0) → P → IfRefused r (λ why. P)
refused_known (Ok x) P p = tt
refused_known (Err stops.NoMemory) P p = tt
refused_known (Err stops.WriteFault) P p = tt
refused_known (Err (stops.Refused why)) P p = p
