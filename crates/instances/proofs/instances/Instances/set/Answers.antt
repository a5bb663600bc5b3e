use Rattle.instances.proofs.Changes.{state_set_IsTable}
use Rattle.instances.proofs.instances.Instances.set.Goals as goal

pub invariant_of-self : goal.invariant_of-self
invariant_of-self c = rw (c.with_state-sessions.ensures, c.as_slice.ensures.value) (state_set_IsTable
    (record { properties = c.self.inside.properties; slots = c.self.inside.slots.items; sessions = c.self.inside.sessions.items }) c.args.session c.args.state c.self.invariant)
