use Rattle.std.proofs.Common.{◌≡◌, ◌∙◌, ap, subst, List, ℕ, find, option_map, option_copied}
use Rattle.std.specs.FinMap as finite
use Rattle.store_api.specs.declared.object.Object.{Object}
use Rattle.store_api.specs.Limits.{IsWithinLimits}
use Rattle.store_api.specs.Stores.{is_after}
use Rattle.store_api.proofs.Named.{first_is, bare_and_named, met_identifier, met_secret, met_content}
use Rattle.store_api.proofs.objects.Objects.next_after.Goals as goal

next_is : (c : goal.After-first_after) → option_map {U = List ℕ × Object} (λ entry. (entry.0.now.items, entry.1.now))
    c.first_after.result ≡ find (λ entry. is_after (option_copied c.args.last) entry.0) (finite.entries c.args.self.now)
next_is c =
    bare_and_named c.first_after.result ∙ ap (option_map (λ e. (e.0.items, e.1))) c.first_after.ensures
    ∙ first_is c.self.inside.map.entries c.args.self.now (λ id. is_after (option_copied c.args.last) id) c.self.invariant.sorted c.self.view_is

pub returns : goal.returns
returns c =
    let limits = subst IsWithinLimits c.self.view_is c.self.invariant.limits in
    record {
      next = next_is c;
      identifier = met_identifier c.args.self.now (λ id. is_after (option_copied c.args.last) id) c.first_after.result limits (next_is c);
      secret = met_secret c.args.self.now (λ id. is_after (option_copied c.args.last) id) c.first_after.result limits (next_is c);
      content = met_content c.args.self.now (λ id. is_after (option_copied c.args.last) id) c.first_after.result limits (next_is c);
    }
