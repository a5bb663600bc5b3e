use Rattle.std.proofs.Common.{List, arith, sym, subst, ◌∙◌}
use Rattle.share_rules.specs.declared.index.Share.{Share}
use Rattle.handle_table.specs.Handles.{Forgets, goes}
use Rattle.handle_table.proofs.Counts.{count-shares_of, Remains, remains_held, remains_gone, remains_kept, remains_all}
use Rattle.handle_table.proofs.lists.forget_all.Goals as goal
use Rattle.handle_table.proofs.lists.forget_all.Goals.{then-takes, else-takes}

pub loop-entry-init : goal.loop-entry-init
loop-entry-init c = λ p. omega (arith, c.requires p, count-shares_of p c.args.handles.now)

pub forget-requires : goal.forget-requires
forget-requires c = remains_held (goes c.args.closing) c.loop-entry.shares c.args.handles.now c.loop-entry.entry-index c.entry-item.result c.loop-entry.invariant c.loop-entry-test.true c.entry-item.is

pub loop-entry-preserved : goal.loop-entry-preserved
loop-entry-preserved c = elim c.if-takes.branch [
  | then-takes w ↦ remains_gone (goes c.args.closing) c.loop-entry.shares c.if-takes.shares c.args.handles.now c.loop-entry.entry-index c.entry-item.result c.loop-entry.invariant
      c.loop-entry-test.true c.entry-item.is (sym c.takes.ensures ∙ w.if-takes.true) (subst (λ (s : List Share). Forgets c.loop-entry.shares s c.entry-item.result.handle)
      (sym w.shares-is) w.forget.ensures)
  | else-takes w ↦ remains_kept (goes c.args.closing) c.if-takes.shares c.args.handles.now c.loop-entry.entry-index c.entry-item.result
      (subst (λ s. Remains (goes c.args.closing) s c.args.handles.now c.loop-entry.entry-index) (sym w.shares-is) c.loop-entry.invariant) c.loop-entry-test.true c.entry-item.is
      (sym c.takes.ensures ∙ w.if-takes.false)
]

pub returns : goal.returns
returns c = remains_all (goes c.args.closing) c.loop-entry.shares c.args.handles.now c.loop-entry.entry-index c.loop-entry.invariant c.loop-entry-test.false
