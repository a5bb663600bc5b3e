use Rattle.std.proofs.Common.{ℕ, ◌≡◌, List, refl, ap, ◌∙◌}
use Rattle.handle_table.specs.declared.handle.Handle.TheVariants.{Transient}
use Rattle.handle_table.specs.Handles.{Table, with_handle, without_handle, free_number}
use Rattle.object_asks.specs.Held.{Held, NumberedKey}
use Rattle.object_asks.proofs.HandleLemmas.{all_added, closed_again}
use Rattle.object_asks.proofs.HeldLemmas.{together_more}
use Rattle.object_asks.proofs.SoundHandles.{memory_sole}
use Rattle.object_asks.proofs.held.Held.add_key.Goals as goal

-- added and closed again, the table is as it was
again : (t : Table) (i : ℕ) → without_handle (with_handle t i Transient) i (free_number t.handles i) ≡ t
again t i = ap (λ hs. record t { handles = hs }) (closed_again t.handles i Transient)

pub invariant_of-self-in-Ok-add : goal.invariant_of-self-in-Ok-add
invariant_of-self-in-Ok-add c =
    let hs = c.self.inside.table.handles in
    let n : ℕ = free_number hs c.args.instance in
    rw (c.in-Ok.ensures.ok, c.in-Ok-add.ensures.ok, c.in-Ok.ensures.number) (record {
      no_rename = c.self.invariant.no_rename;
      identifiers = all_added hs (record { instance = c.args.instance; number = n; handle = Transient }) c.self.invariant.identifiers refl;
      sole = memory_sole hs c.args.instance n c.self.invariant.sole;
      together = together_more hs c.self.inside.keys.items c.args.instance n c.args.key c.self.invariant.together;
      few_lists = c.self.invariant.few_lists;
    })

pub invariant_of-self-in_default : goal.invariant_of-self-in_default
invariant_of-self-in_default c =
    let is : c.close.new.self ≡ c.self.inside.table =
    c.close.ensures ∙ ap (λ (t : Table). without_handle t c.args.instance c.in-Ok.number) c.in-Ok.ensures.ok
    ∙ ap (λ (n : ℕ). without_handle (with_handle c.self.inside.table c.args.instance Transient) c.args.instance n) c.in-Ok.ensures.number ∙ again c.self.inside.table c.args.instance in
    rw (is, c.in_default.ensures.unchanged) c.self.invariant

pub returns-in_default-clause-unchanged : goal.returns-in_default-clause-unchanged
returns-in_default-clause-unchanged c =
    let is : c.close.new.self ≡ c.self.inside.table =
    c.close.ensures ∙ ap (λ (t : Table). without_handle t c.args.instance c.in-Ok.number) c.in-Ok.ensures.ok
    ∙ ap (λ (n : ℕ). without_handle (with_handle c.self.inside.table c.args.instance Transient) c.args.instance n) c.in-Ok.ensures.number ∙ again c.self.inside.table c.args.instance in
    let before : Held = record { handles = c.self.inside.table.handles; keys = c.self.inside.keys.items; lists = c.self.inside.lists.items } in
    ap (λ (t : Table). record before { handles = t.handles; keys = c.add.new.keys.items }) is ∙ ap (λ (ks : List NumberedKey). record before { keys = ks })
    c.in_default.ensures.unchanged ∙ c.self.view_is
