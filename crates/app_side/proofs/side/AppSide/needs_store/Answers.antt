use Rattle.std.proofs.Common.{◌≡◌, ◌∙◌, Bool, false, List, Some, None, find, sym, ap, subst}
use Rattle.app_api.specs.declared.ask.Ask.{Ask}
use Rattle.object_asks.specs.Asks.{may_need_store}
use Rattle.alone.specs.InList.{IsPlace}
use Rattle.alone.specs.Machine.{Machine, is_number}
use Rattle.alone.specs.Step.{needs_store, of_instance}
use Rattle.alone.specs.declared.active_entry.ActiveEntry.{ActiveEntry}
use Rattle.alone.specs.declared.active_entry.Instance.{Instance}
use Rattle.app_side.specs.Storeless.{wants_store}
use Rattle.app_side.specs.declared.side.AppSide.{AppSide}
use Rattle.app_side.proofs.side.AppSide.needs_store.Goals as goal

abbrev asks_store : ActiveEntry → Ask → Bool
asks_store r ask = may_need_store ask

pub returns-in-None : goal.returns-in-None
returns-in-None g c =
    let side : AppSide g.row.A.Denot = c.args.self.now in
    let none : find (is_number c.args.instance) side.instances.items ≡ None =
    ap (λ (xs : List (Instance g.row.A.Denot)). find (is_number c.args.instance) xs) (sym c.as_slice.ensures.value) ∙ c.in-None.ensures.none in
    let own : false ≡ wants_store side c.args.instance = sym (ap (of_instance asks_store) none) in
    record { machine = λ m stands. own ∙ sym (ap (λ (x : Machine g.row.A.Denot). needs_store x c.args.instance) stands.parts); own = own }

pub returns-in-Some : goal.returns-in-Some
returns-in-Some g c =
    let side : AppSide g.row.A.Denot = c.args.self.now in
    let place : IsPlace c.args.instance side.instances.items c.in-Some.place =
    subst (λ (xs : List (Instance g.row.A.Denot)). IsPlace c.args.instance xs c.in-Some.place) c.as_slice.ensures.value c.in-Some.ensures.found in
    let there : find (is_number c.args.instance) side.instances.items ≡ Some c.index.result.now = place.found c.index.result.now ∙ ap Some (sym c.index.ensures) in
    let own : c.waits_for_store.result ≡ wants_store side c.args.instance = c.waits_for_store.ensures ∙ sym (ap (of_instance asks_store) there) in
    record { machine = λ m stands. own ∙ sym (ap (λ (x : Machine g.row.A.Denot). needs_store x c.args.instance) stands.parts); own = own }
