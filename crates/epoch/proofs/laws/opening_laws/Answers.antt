use Rattle.std.proofs.Common.{ℕ, List, ap}
use Rattle.epoch.specs.Opening.{opening_of}
use Rattle.epoch.proofs.MountLemmas.{opening_keeps}
use Rattle.epoch.proofs.RuleLemmas.{refuses_rollback, opens_at_two}
use Rattle.epoch.proofs.laws.opening_laws.Goals as goal

pub returns-clause-rollback : goal.returns-clause-rollback
returns-clause-rollback c = refuses_rollback

pub returns-clause-counters : goal.returns-clause-counters
returns-clause-counters c = opens_at_two

pub returns-clause-leaves : goal.returns-clause-leaves
returns-clause-leaves c f view before after makes region =
    ap (λ (leaves : ℕ → ℕ → List ℕ). leaves region) (opening_keeps f (opening_of f.known view.key view.state.reads view.state.counter) before after makes)
