use Rattle.std.proofs.Common.{[], IsTrue, rules, ap, sym, ◌∙◌, subst, unwrap_or}
use Rattle.std.specs.List.{list_any}
use Rattle.std.proofs.lemmas.Bool.{both_ways}
use Rattle.share_rules.specs.Groups.{is_same}
use Rattle.share_rules.proofs.Entries.{noted_found, grouped_set, released_set, released_last, grouped_last, none_of, some_of}
use Rattle.share_rules.proofs.index.ShareIndex.release.Goals as goal

pub take-requires : goal.take-requires
take-requires c = subst IsTrue
    (noted_found c.args.id.now c.args.flags c.self.inside.groups.entries c.args.self.now c.self.view_is c.self.invariant.sorted
    ∙ ap (λ o. list_any (is_same c.args.flags) (unwrap_or o [])) (sym c.in-Some.ensures.value))
    c.requires

pub invariant_of-self : goal.invariant_of-self
invariant_of-self c = grouped_last c.args.id.now c.self.inside.groups.entries (c.get_mut.follows.lender c.take.new.self).entries c.remove.new.self.entries c.take.new.self
    (c.get_mut.follows.holds c.take.new.self).0 c.remove.ensures.entries c.remove.ensures.ordered c.self.invariant.held

pub invariant_of-self-else-is_empty : goal.invariant_of-self-else-is_empty
invariant_of-self-else-is_empty c =
    let after = c.get_mut.follows.holds c.take.new.self in
    grouped_set c.args.id.now c.self.inside.groups.entries (c.get_mut.follows.lender c.take.new.self).entries c.take.new.self after.0
    (some_of _ (sym c.is_empty.ensures ∙ c.if-is_empty.false)) after.4 c.self.invariant.held

pub returns-then-is_empty : goal.returns-then-is_empty
returns-then-is_empty c = released_last c.args.id.now c.args.flags c.self.inside.groups.entries (c.get_mut.follows.lender c.take.new.self).entries c.remove.new.self.entries c.args.self.now
    c.in-Some.group.now c.take.new.self c.self.view_is (c.get_mut.follows.holds c.take.new.self).0 c.remove.ensures.entries c.in-Some.ensures.value c.take.ensures
    (none_of _ (sym c.is_empty.ensures ∙ c.if-is_empty.true))

pub returns-else-is_empty : goal.returns-else-is_empty
returns-else-is_empty c = released_set c.args.id.now c.args.flags c.self.inside.groups.entries (c.get_mut.follows.lender c.take.new.self).entries c.args.self.now c.in-Some.group.now
    c.take.new.self c.self.view_is (c.get_mut.follows.holds c.take.new.self).0 c.in-Some.ensures.value c.take.ensures

pub returns-in_default : goal.returns-in_default
returns-in_default c = absurd (both_ways _
    (noted_found c.args.id.now c.args.flags c.self.inside.groups.entries c.args.self.now c.self.view_is c.self.invariant.sorted
    ∙ ap (λ o. list_any (is_same c.args.flags) (unwrap_or o [])) (sym c.in_default.ensures.value))
    (search (rules, c.requires)))
