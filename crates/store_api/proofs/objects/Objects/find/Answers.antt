use Rattle.std.proofs.Common.{◌∙◌, ap}
use Rattle.store_api.specs.Stores.{object_at}
use Rattle.store_api.specs.Objects.{store_of}
use Rattle.store_api.proofs.Named.{lookup_is, secret_short, content_short}
use Rattle.store_api.proofs.objects.Objects.find.Goals as goal

pub returns-clause-object : goal.returns-clause-object
returns-clause-object c = c.get.ensures.value ∙ lookup_is c.self.inside.map.entries c.args.id.now c.self.invariant.sorted ∙ ap (λ m. object_at m c.args.id.now) c.self.view_is

pub returns-clause-secret : goal.returns-clause-secret
returns-clause-secret c =
    secret_short (store_of c.self.inside.map.entries) c.args.id.now _ c.self.invariant.limits (c.get.ensures.value ∙ lookup_is c.self.inside.map.entries c.args.id.now c.self.invariant.sorted)

pub returns-clause-content : goal.returns-clause-content
returns-clause-content c =
    content_short (store_of c.self.inside.map.entries) c.args.id.now _ c.self.invariant.limits (c.get.ensures.value ∙ lookup_is c.self.inside.map.entries c.args.id.now c.self.invariant.sorted)
