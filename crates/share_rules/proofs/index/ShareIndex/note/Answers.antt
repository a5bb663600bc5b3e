use Rattle.std.proofs.Common.{◌≡◌}
use Rattle.std.specs.BTreeMap.{insert_entry}
use Rattle.share_rules.proofs.Counts.{gained_noted}
use Rattle.share_rules.proofs.Entries.{on_ok, on_err, some_after, grouped_set, noted_set, kept_set, noted_insert, grouped_insert, id_cmp, inserted_in}
use Rattle.share_rules.specs.Groups.{shares_of}
use Rattle.share_rules.proofs.index.ShareIndex.note.Goals as goal

pub invariant_of-self : goal.invariant_of-self
invariant_of-self c =
    let after = c.get_mut.follows.holds c.add.new.self in
    grouped_set c.args.id.now c.self.inside.groups.entries (c.get_mut.follows.lender c.add.new.self).entries c.add.new.self after.0
    (some_after c.add.result c.args.id.now c.self.inside.groups.entries c.in-Some.group.now c.add.new.self c.args.flags c.self.invariant.held c.in-Some.ensures.value c.add.ensures.ok
    c.add.ensures.unchanged)
    after.4 c.self.invariant.held

pub returns-in-Some-clause-noted : goal.returns-in-Some-clause-noted
returns-in-Some-clause-noted c = on_ok c.add.result _ _
    (noted_set c.args.id.now c.args.flags c.self.inside.groups.entries (c.get_mut.follows.lender c.add.new.self).entries c.args.self.now c.in-Some.group.now c.add.new.self c.self.view_is
    (c.get_mut.follows.holds c.add.new.self).0 c.in-Some.ensures.value)
    c.add.ensures.ok

pub returns-in-Some-clause-there : goal.returns-in-Some-clause-there
returns-in-Some-clause-there c = on_ok c.add.result _ _
    (λ gains. gained_noted c.args.self.now (shares_of (c.get_mut.follows.lender c.add.new.self).entries) c.args.id.now c.args.flags
    (noted_set c.args.id.now c.args.flags c.self.inside.groups.entries (c.get_mut.follows.lender c.add.new.self).entries c.args.self.now c.in-Some.group.now c.add.new.self c.self.view_is
    (c.get_mut.follows.holds c.add.new.self).0 c.in-Some.ensures.value gains))
    c.add.ensures.ok

pub returns-in-Some-clause-unchanged : goal.returns-in-Some-clause-unchanged
returns-in-Some-clause-unchanged c = on_err c.add.result _ _
    (kept_set c.args.id.now c.self.inside.groups.entries (c.get_mut.follows.lender c.add.new.self).entries c.args.self.now c.in-Some.group.now c.add.new.self c.self.view_is
    (c.get_mut.follows.holds c.add.new.self).0 c.in-Some.ensures.value)
    c.add.ensures.unchanged

inserted : (c : goal.Joined-branch-4) → c.insert.new.self.entries ≡ insert_entry id_cmp c.self.inside.groups.entries c.in_ok-id.id c.in_ok-group.group
inserted c = inserted_in c.self.inside.groups c.get_mut.follows.lender-at-none c.insert.new.self.entries c.in_ok-id.id c.in_ok-group.group c.get_mut.follows.holds-at-none
    c.in_ok-insert.ensures.entries

pub invariant_of-self-2 : goal.invariant_of-self-2
invariant_of-self-2 c = grouped_insert c.self.inside.groups.entries c.insert.new.self.entries c.in_ok-id.id c.in_ok-group.group c.args.flags
    (inserted c) c.in_ok-group.ensures
    c.insert.ensures.ordered c.self.invariant.held

pub returns-clause-noted : goal.returns-clause-noted
returns-clause-noted c = noted_insert c.args.id.now c.args.flags c.self.inside.groups.entries c.insert.new.self.entries c.args.self.now c.in_ok-id.id c.in_ok-group.group c.self.view_is
    (inserted c)
    c.in_ok-id.ensures.items c.in_ok-group.ensures c.in_default.ensures.value

pub returns-clause-there : goal.returns-clause-there
returns-clause-there c = gained_noted c.args.self.now (shares_of c.insert.new.self.entries) c.args.id.now c.args.flags
    (noted_insert c.args.id.now c.args.flags c.self.inside.groups.entries c.insert.new.self.entries c.args.self.now c.in_ok-id.id c.in_ok-group.group c.self.view_is
    (inserted c)
    c.in_ok-id.ensures.items c.in_ok-group.ensures c.in_default.ensures.value)
