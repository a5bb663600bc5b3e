use Rattle.std.proofs.Common.{IsTrue, ap, sym, subst, ◌∙◌, List, ℕ, option_map}
use Rattle.share_rules.specs.Sharing.{Gains, is_noted}
use Rattle.handle_table.specs.Handles.{share_at}
use Rattle.handle_table.proofs.Keeps.{took_noted, took_holds, took_nothing, back_noted, back_holds}
use Rattle.handle_table.proofs.lists.end_rename.Goals as goal

pub release-requires : goal.release-requires
release-requires c = subst (λ (id : List ℕ). IsTrue (is_noted c.args.shares.now id c.in-Some.before.flags)) (sym c.as_slice.ensures)
    (took_noted c.args.shares.now c.args.handles.now.items c.args.rename c.in-Some.before c.requires c.in-Some.ensures.before)

pub returns-in-Some-clause-shares : goal.returns-in-Some-clause-shares
returns-in-Some-clause-shares c =
    took_holds c.args.shares.now c.release.new.self c.args.handles.now.items c.args.rename c.in-Some.before c.move_to.new.handles.items c.requires c.in-Some.ensures.before c.move_to.ensures.after
    (subst (λ (id : List ℕ). Gains c.release.new.self (record { id = id; flags = c.in-Some.before.flags }) c.args.shares.now) c.as_slice.ensures c.release.ensures)

pub returns-then-took-clause-shares : goal.returns-then-took-clause-shares
returns-then-took-clause-shares c = took_nothing c.args.shares.now c.args.handles.now.items c.args.rename c.move_to.new.handles.items c.requires c.in_default.ensures.before c.move_to.ensures.after

pub release-requires-in-Some-flags_at : goal.release-requires-in-Some-flags_at
release-requires-in-Some-flags_at c = subst (λ (id : List ℕ). IsTrue (is_noted c.args.shares.now id c.in-Some-flags_at.flags)) (sym c.as_slice-in-Some-flags_at.ensures)
    (back_noted c.args.shares.now c.args.handles.now.items c.args.rename c.in-Some-flags_at.flags c.requires
    (c.in-Some-flags_at.ensures ∙ ap (λ hs. option_map (λ s. s.flags) (share_at hs c.args.rename.instance c.args.rename.number)) c.as_slice-else-took.ensures.value))

pub returns-in-Some-flags_at-clause-shares : goal.returns-in-Some-flags_at-clause-shares
returns-in-Some-flags_at-clause-shares c =
    back_holds c.args.shares.now c.release-in-Some-flags_at.new.self c.args.handles.now.items c.args.rename c.in-Some-flags_at.flags c.requires
    (c.in-Some-flags_at.ensures ∙ ap (λ hs. option_map (λ s. s.flags) (share_at hs c.args.rename.instance c.args.rename.number)) c.as_slice-else-took.ensures.value)
    (subst (λ (id : List ℕ). Gains c.release-in-Some-flags_at.new.self (record { id = id; flags = c.in-Some-flags_at.flags }) c.args.shares.now) c.as_slice-in-Some-flags_at.ensures
    c.release-in-Some-flags_at.ensures)
