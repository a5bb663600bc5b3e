-- What `facts` tells of an operation, as its callers need it: an operation that is told of is there, and one that is told to run runs.
use Rattle.std.proofs.Common.{◌≡◌, ℕ, true, false, Option, None, Some, is_some, option_map, refl, sym, ap, ◌∙◌}
use Rattle.op_queue.specs.declared.operation.Operation.{Operation}
use Rattle.op_queue.specs.declared.operation.OpFacts.{OpFacts}
use Rattle.op_queue.specs.Queue.{Queue, operation_of, facts_of, runs, if_operation, is_running}

pub told_is_there : (q : Queue) (op : ℕ) → is_some (option_map facts_of (operation_of q op)) ≡ true → is_some (operation_of q op) ≡ true
told_is_there q op e =
    let some : (o : Option Operation) → is_some (option_map facts_of o) ≡ is_some o =
    λ o. elim o as (λ v. is_some (option_map facts_of v) ≡ is_some v) [ None ↦ refl | Some x ↦ refl ] in
    sym (some (operation_of q op)) ∙ e

pub running_runs : (q : Queue) (op : ℕ) (facts : OpFacts) → Some facts ≡ option_map facts_of (operation_of q op) → facts.running ≡ true → runs q op ≡ true
running_runs q op facts told running =
    let step : (o : Option Operation) → Some facts ≡ option_map facts_of o → if_operation o false (λ (x : Operation). is_running x.progress) ≡ true =
    λ o. elim o as (λ v. Some facts ≡ option_map facts_of v → if_operation v false (λ (x : Operation). is_running x.progress) ≡ true) [
      | None ↦ λ e. (let never : Some facts ≡ None = e in cc)
      | Some x ↦ λ e. (let both : Some facts ≡ Some (facts_of x) = e in let same : facts ≡ facts_of x = cc in sym (ap (λ (f : OpFacts). f.running) same) ∙ running)
    ] in
    step (operation_of q op) told
