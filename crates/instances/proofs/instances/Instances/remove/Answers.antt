use Rattle.instances.proofs.Changes.{removed_IsTable}
use Rattle.instances.proofs.instances.Instances.remove.Goals as goal

pub invariant_of-self : goal.invariant_of-self
invariant_of-self c = rw (c.without_session-sessions.ensures, c.as_slice.ensures.value) (removed_IsTable
    (record { properties = c.self.inside.properties; slots = c.self.inside.slots.items; sessions = c.self.inside.sessions.items }) c.args.session c.self.invariant)
