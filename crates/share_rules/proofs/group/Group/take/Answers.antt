use Rattle.std.proofs.Common.{◌≤◌, ap, sym, ◌∙◌, position, arith, rules, subst}
use Rattle.std.specs.List.{list_any}
use Rattle.std.proofs.lemmas.Bool.{both_ways}
use Rattle.std.proofs.lemmas.List.Elements.{All-get_or}
use Rattle.std.proofs.lemmas.List.Quantifiers.{position-Some}
use Rattle.share_rules.specs.declared.group.Count.{Count}
use Rattle.share_rules.specs.Groups.{is_of, is_same}
use Rattle.share_rules.proofs.Groups.{absent, takes_set, takes_out}
use Rattle.share_rules.proofs.group.Group.take.Goals as goal

pub returns-in_default : goal.returns-in_default
returns-in_default c = λ p. absurd (both_ways (list_any (is_same c.args.flags) c.args.self.now)
    (absent c.args.flags c.self.inside.counts.items c.args.self.now c.self.view_is
    (ap (position (is_of c.args.flags)) (sym c.as_slice.ensures.value) ∙ sym c.place_of.ensures ∙ c.in_default.is))
    (search (rules, c.requires)))

pub returns-then-count-gt1 : goal.returns-then-count-gt1
returns-then-count-gt1 c = takes_set c.self.inside.counts.items c.args.flags c.args.self.now c.self.view_is c.in-Some.place c.index-count.result.now
    (sym (c.in-Some.ensures ∙ ap (position (is_of c.args.flags)) c.as_slice.ensures.value)) c.index-count.ensures (omega (arith, c.if-count-gt1.true))

pub returns-else-count-gt1 : goal.returns-else-count-gt1
returns-else-count-gt1 c =
    let found = sym (c.in-Some.ensures ∙ ap (position (is_of c.args.flags)) c.as_slice.ensures.value) in
    let inside = (position-Some (is_of c.args.flags) c.self.inside.counts.items c.in-Some.place c.index-count.result.now found).0 in
    takes_out c.self.inside.counts.items c.args.flags c.args.self.now c.self.view_is c.in-Some.place c.index-count.result.now found c.index-count.ensures c.remove-last.new.self.items
    (subst (λ (d : Count). 1 ≤ d.handles) (sym c.index-count.ensures)
    (All-get_or (λ (d : Count). 1 ≤ d.handles) c.self.inside.counts.items c.in-Some.place c.index-count.result.now inside c.self.invariant))
    (omega (arith, c.if-count-gt1.false)) c.remove-last.ensures.items
