use Rattle.std.proofs.Common.{◌∙◌, None, ap, sym, subst, rules}
use Rattle.store_api.specs.Stores.{Store, next_after}
use Rattle.region_plan.specs.Layout.{layout}
use Rattle.region_plan.specs.Regions.{store_of}
use Rattle.inspect.specs.Listings.{AreNext, last_id}
use Rattle.inspect.proofs.ListingLemmas.{AreNext-snoc}
use Rattle.inspect.proofs.region.listed.Goals as goal

pub loop-init : goal.loop-init
unfolding AreNext
loop-init c = (
  search rules,
  λ leaves is.
      subst (AreNext (store_of (layout c.args.directory.now.form) leaves) None) (sym c.new-objects.ensures.items) tt,
)

pub loop-preserved : goal.loop-preserved
loop-preserved c = (
  search rules,
  λ leaves is.
      let store : Store = store_of (layout c.args.directory.now.form) leaves in
      let behind = c.last_id.ensures ∙ ap (last_id None) c.as_slice.ensures.value in
      subst (AreNext store None) (sym c.in_ok-push-in-Ok.ensures.items)
      (AreNext-snoc store None c.loop.objects.items c.in-Ok.object (c.loop.invariant.1 leaves is)
      (ap (next_after store) (sym behind) ∙ c.in-Ok.ensures.answer leaves is)),
)
