use Rattle.instances.proofs.Changes.{ended_IsTable}
use Rattle.instances.proofs.instances.Instances.end.Goals as goal

pub invariant_of-self : goal.invariant_of-self
invariant_of-self c = rw (c.without_slot-slots.ensures, c.as_slice.ensures.value, c.after_end-sessions.ensures, c.as_slice-2.ensures.value)
    (ended_IsTable (record { properties = c.self.inside.properties; slots = c.self.inside.slots.items; sessions = c.self.inside.sessions.items }) c.args.instance c.self.invariant)
