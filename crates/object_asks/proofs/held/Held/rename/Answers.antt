use Rattle.std.proofs.Common.{ℕ, ◌≡◌, ◌∙◌, List, IsTrue, true, false, refl, rules, sym, ap, subst}
use Rattle.std.proofs.lemmas.Bool.{le-leb}
use Rattle.handle_table.specs.Handles.{Table, is_at, is_open, rename_ended, rename_started}
use Rattle.object_asks.specs.Handles.{without_rename}
use Rattle.object_asks.specs.Held.{Held, may_rename}
use Rattle.object_asks.proofs.HeldLemmas.{all_moved, together_moved}
use Rattle.object_asks.proofs.Renames.{alone_meta, renamed_sole, writes_of}
use Rattle.app_api.specs.declared.ask.Answer.TheVariants as answers
use Rattle.store_api.specs.declared.change.Change.TheVariants.{Rename}
use Rattle.object_asks.specs.Asks.{renamed_by}
use Rattle.object_asks.specs.Serving.{objects_in}
use Rattle.object_asks.proofs.ChangeLemmas.{given_done}
use Rattle.object_asks.proofs.held.Held.rename.Goals as goal

pub start_rename-requires-clause-alone : goal.start_rename-requires-clause-alone
start_rename-requires-clause-alone g c =
    let hs = c.self.inside.table.handles in
    let may : IsTrue (may_rename (record { handles = hs; keys = c.self.inside.keys.items; lists = c.self.inside.lists.items }) c.args.instance c.args.number c.args.id) =
    subst (λ (h : Held). IsTrue (may_rename h c.args.instance c.args.number c.args.id)) (sym c.self.view_is) c.requires.meta in
    alone_meta hs c.args.instance c.args.number c.args.id (writes_of hs c.args.instance c.args.number c.args.id may) c.self.invariant.sole

pub invariant_of-self-in-Ok : goal.invariant_of-self-in-Ok
invariant_of-self-in-Ok g c =
    let hs = c.self.inside.table.handles in
    let i = c.args.instance in
    let n = c.args.number in
    let may : IsTrue (may_rename (record { handles = hs; keys = c.self.inside.keys.items; lists = c.self.inside.lists.items }) i n c.args.id) =
    subst (λ (h : Held). IsTrue (may_rename h i n c.args.id)) (sym c.self.view_is) c.requires.meta in
    let free : is_open (without_rename hs) c.args.to ≡ false = subst (λ (h : Held). is_open (without_rename h.handles) c.args.to ≡ false) (sym c.self.view_is) c.requires.free in
    let is : c.end_rename.new.self ≡ rename_ended (rename_started c.self.inside.table i n c.args.to) true =
    c.end_rename.ensures ∙ ap (λ (t : Table). rename_ended t true) c.in_ok-start_rename.ensures.ok ∙ ap (λ (to : List ℕ). rename_ended (rename_started c.self.inside.table i n to)
    true) c.as_slice.ensures in
    rw is (record {
      no_rename = refl;
      identifiers = all_moved (is_at i n) c.args.to hs (le-leb _ 64 c.requires.to) c.self.invariant.identifiers;
      sole = renamed_sole hs i n c.args.id c.args.to (writes_of hs i n c.args.id may) free c.self.invariant.sole;
      together = together_moved (is_at i n) c.args.to hs c.self.inside.keys.items c.self.invariant.together;
      few_lists = c.self.invariant.few_lists;
    })

pub invariant_of-self-in-Err : goal.invariant_of-self-in-Err
invariant_of-self-in-Err g c =
    let is : c.end_rename-in-Err.new.self ≡ rename_ended (rename_started c.self.inside.table c.args.instance c.args.number c.args.to) false =
    c.end_rename-in-Err.ensures ∙ ap (λ (t : Table). rename_ended t false) c.in_ok-start_rename.ensures.ok
    ∙ ap (λ (to : List ℕ). rename_ended (rename_started c.self.inside.table c.args.instance c.args.number to) false) c.as_slice.ensures in
    rw is (record { no_rename = refl; identifiers = c.self.invariant.identifiers; sole = c.self.invariant.sole; together = c.self.invariant.together; few_lists = c.self.invariant.few_lists })

pub returns-in-Ok : goal.returns-in-Ok
returns-in-Ok g c =
    let t = g.T.AppStore.keeper in
    let held = c.args.self.now in
    rw c.done.ensures (given_done t g.met.T.AppStore.honest_model (Rename c.args.id c.args.to) c.args.store.now c.apply-answer.new.self c.in-Ok.field-0
    (renamed_by (objects_in held (t.contents c.args.store.now)) c.args.instance c.args.number c.args.to) answers.Done held held _ (search rules) c.in-Ok.ensures)
