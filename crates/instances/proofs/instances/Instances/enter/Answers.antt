use Rattle.std.proofs.Common.{◌≡◌, ℕ, ap, ◌∙◌, Ok, lit<}
use Rattle.instances.specs.declared.instances.Admission.{Admission}
use Rattle.instances.specs.Instances.{Table, admission_of}
use Rattle.instances.proofs.Changes.{IsAdmitted, admission_IsAdmitted, entered_IsTable}
use Rattle.instances.proofs.instances.Instances.enter.Goals as goal

-- what the admission says of the tables as they are
admitted : (inside : Table) (now : Table) (client label : ℕ) (a : Admission) → inside ≡ now → admission_of now client label ≡ Ok a → IsAdmitted inside a
admitted inside now client label a same e = admission_IsAdmitted inside client label a (ap (λ (t : Table). admission_of t client label) same ∙ e)

pub add_instance-requires : goal.add_instance-requires
add_instance-requires c = (admitted _ _ _ _ _ c.self.view_is c.requires).slots

pub push-requires : goal.push-requires
push-requires c = (lit< tt, (admitted _ _ _ _ _ c.self.view_is c.requires).room)

pub invariant_of-self : goal.invariant_of-self
invariant_of-self c = rw (c.add_instance.ensures, c.push.ensures.items) (entered_IsTable (record {
  properties = c.self.inside.properties;
  slots =
      c.self.inside.slots.items;
  sessions = c.self.inside.sessions.items;
}) c.args.client c.args.label c.args.login.now c.args.admission c.self.invariant
    (admitted _ _ _ _ _ c.self.view_is c.requires))
