-- A call is a step of each machine that the value stands for.
use Rattle.std.proofs.Common.{ℕ, ◌≡◌, ◌∙◌, ap, Result, Ok, Err, IfOk, OnErr}
use Rattle.tee_base.specs.declared.bytes.NoMemory.{NoMemory}
use Rattle.app_api.specs.declared.call.Call.{Call}
use Rattle.alone.specs.Machine.{Machine}
use Rattle.alone.specs.Step.{after_call}
use Rattle.app_side.specs.declared.side.AppSide.{AppSide}
use Rattle.app_side.specs.declared.side.Called.{Called}
use Rattle.app_side.specs.declared.side.Taken.{Taken}
use Rattle.app_side.specs.Represents.{called_of, IsCalled, Represents, machine_of}
use Rattle.app_side.proofs.Stored.{called_lost, called_over, step_instance, step_replies, step_stands}

pub call_stands : {A : Type 0} (old new : AppSide A) (made : Called) (number client : ℕ) (call : Call) → IsCalled new made number (after_call (machine_of old) client call) →
    (m : Machine A) → Represents old m → Represents new (after_call m client call).machine
call_stands {A} old new made number client call is m stands = step_stands old new (λ (x : Machine A). after_call x client call) (λ s d x. called_over s d x client call) is.machine m stands

pub call_replies : {A : Type 0} (old new : AppSide A) (made : Called) (number client : ℕ) (call : Call) → IsCalled new made number (after_call (machine_of old) client call) →
    (m : Machine A) → Represents old m → made.replies ≡ (after_call m client call).replies
call_replies {A} old new made number client call is m stands = is.replies ∙ step_replies old (λ (x : Machine A). after_call x client call) (λ s d x. called_over s d x client call) m stands

pub call_instance : {A : Type 0} (old new : AppSide A) (made : Called) (number client : ℕ) (call : Call) → IsCalled new made number (after_call (machine_of old) client call) →
    (m : Machine A) → Represents old m → made.instance ≡ (after_call m client call).instance
call_instance {A} old new made number client call is m stands = is.instance ∙ step_instance old (λ (x : Machine A). after_call x client call) (λ s d x. called_over s d x client call) m stands

pub call_lost : {A : Type 0} (old new : AppSide A) (made : Called) (number client : ℕ) (call : Call) → IsCalled new made number (after_call (machine_of old) client call) → new.lost ≡ old.lost
call_lost {A} old new made number client call is = ap (λ (m : Machine A). m.lost) is.machine ∙ called_lost (machine_of old) client call

-- whether it was answered or not
pub either_lost : {A : Type 0} (old new : AppSide A) (r : Result Taken NoMemory) (number client : ℕ) (call : Call) →
    IfOk r (λ taken. IsCalled new (called_of taken) number (after_call (machine_of old) client call)) → OnErr r (machine_of new ≡ machine_of old) → new.lost ≡ old.lost
either_lost old new (Ok taken) number client call is same = call_lost old new (called_of taken) number client call is
either_lost {A} old new (Err none) number client call is same = ap (λ (m : Machine A). m.lost) same
