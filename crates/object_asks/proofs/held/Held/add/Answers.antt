use Rattle.std.proofs.Common.{ℕ, IsTrue, refl, sym, subst, ap, ◌∙◌}
use Rattle.std.proofs.lemmas.Bool.{le-leb}
use Rattle.handle_table.specs.declared.handle.Handle.TheVariants.{Persistent}
use Rattle.handle_table.specs.Handles.{Table, free_number, may_open}
use Rattle.object_asks.specs.Handles.{without_rename}
use Rattle.object_asks.specs.Held.{Held, handle_closed}
use Rattle.object_asks.proofs.HandleLemmas.{all_added}
use Rattle.object_asks.proofs.HeldLemmas.{closed_added, together_added}
use Rattle.object_asks.proofs.SoundHandles.{added_sole}
use Rattle.object_asks.proofs.held.Held.add.Goals as goal
use Rattle.object_asks.proofs.held.Held.add.Goals.{in-Ok, in-Err-NoMemory}

pub invariant_of-self : goal.invariant_of-self
invariant_of-self c = elim c.match-add.branch [
  | in-Ok w ↦
      let hs = c.self.inside.table.handles in
      let n : ℕ = free_number hs c.args.instance in
      let may : IsTrue (may_open (without_rename hs) c.args.id.now c.args.flags) = subst (λ (h : Held). IsTrue (may_open (without_rename h.handles) c.args.id.now c.args.flags))
      (sym c.self.view_is) c.requires.may_open in
      rw w.in-Ok.ensures.ok (record {
        no_rename = c.self.invariant.no_rename;
        identifiers = all_added hs (record { instance = c.args.instance; number = n; handle = Persistent c.args.id.now c.args.flags 0 }) c.self.invariant.identifiers
            (le-leb _ 64 c.requires.identifier);
        sole = added_sole hs c.args.instance n c.args.id.now c.args.flags 0 may c.self.invariant.sole;
        together = together_added hs c.self.inside.keys.items (record { instance = c.args.instance; number = n; handle = Persistent c.args.id.now c.args.flags 0 }) refl c.self.invariant.together;
        few_lists = c.self.invariant.few_lists;
      })
  | in-Err-NoMemory w ↦ rw w.in-Err-NoMemory.ensures.unchanged c.self.invariant
]

pub returns-clause-undone : goal.returns-clause-undone
returns-clause-undone c = elim c.match-add.branch [
  | in-Ok w ↦
      let before : Held = record { handles = c.self.inside.table.handles; keys = c.self.inside.keys.items; lists = c.self.inside.lists.items } in
      let left : Table → ℕ → Held = λ t n. handle_closed (record before { handles = t.handles }) c.args.instance n in
      rw (w.result-is, w.in-Ok.ensures.number)
      (ap (λ (t : Table). left t (free_number before.handles c.args.instance)) w.in-Ok.ensures.ok
      ∙ closed_added before c.args.instance c.args.id.now c.args.flags c.self.invariant.together ∙ c.self.view_is)
  | in-Err-NoMemory w ↦ rw w.result-is tt
]
