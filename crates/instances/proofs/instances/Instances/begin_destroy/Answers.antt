use Rattle.instances.proofs.Changes.{destroy_begun_IsTable}
use Rattle.instances.proofs.instances.Instances.begin_destroy.Goals as goal

pub invariant_of-self : goal.invariant_of-self
invariant_of-self c = rw (c.with_ending-slots.ensures, c.as_slice.ensures.value) (destroy_begun_IsTable
    (record { properties = c.self.inside.properties; slots = c.self.inside.slots.items; sessions = c.self.inside.sessions.items }) c.args.instance c.self.invariant)
