use Rattle.std.proofs.Common.{◌∙◌, Some, ap, sym, arith}
use Rattle.store_api.specs.declared.object.Listed.{Listed}
use Rattle.inspect.proofs.ListingLemmas.{last_id-at, last_id-none}
use Rattle.inspect.proofs.region.last_id.Goals as goal

pub returns-in-empty : goal.returns-in-empty
returns-in-empty c = last_id-none c.args.objects.now c.in-empty.len_below

pub returns-in-len1-up : goal.returns-in-len1-up
returns-in-len1-up c =
    ap Some c.as_slice.ensures ∙ ap (λ (object : Listed). Some object.id) c.last-item.is
    ∙ sym (last_id-at _ c.args.objects.now c.last-item.result (omega (arith, c.in-len1-up.len_at_least)))
