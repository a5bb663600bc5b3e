use Rattle.std.proofs.Common.{◌≡◌, find, option_copied}
use Rattle.store_api.specs.Stores.{is_after}
use Rattle.store_api.proofs.objects.first_after.Given as goal

-- the first of the rest is the first of all
abbrev pub invariant-loop-entry : goal.invariant-loop-entry
invariant-loop-entry l = find (λ entry. is_after (option_copied l.last) entry.0.items) l.entry-iterator ≡ find (λ entry. is_after (option_copied l.last) entry.0.items) l.map.entries
