-- An instance whose running entry is in hand keeps its place, and its turn is that of an instance with the entry.
use Rattle.app_api.specs.Behaviours.{Behaviour}
use Rattle.std.proofs.Common.{ℕ, ◌≡◌, List, Option, None, Some, find, get_or, get_or-set_same, length-set, set, set-set, sym, subst, ◌∙◌, ap, arith}
use Rattle.object_asks.specs.Asks.{Serving}
use Rattle.alone.specs.declared.active_entry.Instance.{Instance}
use Rattle.alone.specs.declared.active_entry.ActiveEntry.{ActiveEntry}
use Rattle.alone.specs.InList.{IsPlace}
use Rattle.alone.specs.Machine.{Machine, is_number, put_instance}
use Rattle.alone.specs.Step.{Stepped, turned_by, went_on}
use Rattle.alone.proofs.Lists.{find_put, put_put}
use Rattle.app_side.proofs.Placed.{emptied, taken, went_on_taken}

-- an instance that is put where its number is keeps the place
pub place_kept : {A : Type 0} (i : ℕ) (xs : List (Instance A)) (place : ℕ) (new : Instance A) → IsPlace i xs place → new.number ≡ i → IsPlace i (set xs place new) place
place_kept {A} i xs place new old same =
    let at_new : (d : Instance A) → get_or (set xs place new) place d ≡ new = λ d. get_or-set_same xs place new d old.within in
    record {
      within = omega (arith, old.within, length-set xs place new);
      some = (new, ap (find (is_number i)) (sym (old.put new same)) ∙ find_put i new old.some.0 xs same old.some.1);
      found = λ d. ap (find (is_number i)) (sym (old.put new same)) ∙ find_put i new (get_or xs place d) xs same (old.found d) ∙ ap Some (sym (at_new d));
      put = λ x e. ap (put_instance x) (sym (old.put new same)) ∙ put_put x new xs (e ∙ sym same) ∙ old.put x e ∙ sym (set-set xs place new x);
      named = λ d. ap (λ (y : Instance A). y.number) (at_new d) ∙ same;
    }

-- and is found there
pub found_there : {A : Type 0} (i : ℕ) (xs : List (Instance A)) (place : ℕ) (new : Instance A) → IsPlace i xs place → new.number ≡ i → find (is_number i) (set xs place new) ≡ Some new
found_there {A} i xs place new old same = ap (find (is_number i)) (sym (old.put new same)) ∙ find_put i new old.some.0 xs same old.some.1

-- what holds of a turn whose running entry was taken out of its instance first
pub go_on_turned : {A : Type 0} (behaviour : Behaviour A) (serving : Serving) (m : Machine A) (i place : ℕ) (x : Instance A) (left : Option ActiveEntry) (r : ActiveEntry) (P : Stepped A → Type 0)
    → IsPlace i m.instances place → x ≡ get_or m.instances place x → left ≡ None → x.running ≡ Some r
    → P (went_on behaviour serving (record m { instances = set m.instances place (record x { running = left }) }) (record x { running = left }) r r.waits)
    → (inst : Instance A) → find (is_number i) m.instances ≡ Some inst → P (turned_by behaviour serving m inst inst.running)
go_on_turned {A} behaviour serving m i place x left r P at here none runs steps inst found =
    let numbered : x.number ≡ i = ap (λ (y : Instance A). y.number) here ∙ at.named x in
    let there : find (is_number i) m.instances ≡ Some x = at.found x ∙ ap Some (sym here) in
    let both : Some x ≡ Some inst = sym there ∙ found in
    let same : x ≡ inst = cc in
    let at_none : P (went_on behaviour serving (record m { instances = set m.instances place (emptied x) }) (emptied x) r r.waits)
    = subst (λ (o : Option ActiveEntry). P (went_on behaviour serving (record m { instances = set m.instances place (record x { running = o }) }) (record x { running = o }) r r.waits)) none steps in
    let taken_steps : P (went_on behaviour serving (taken m x) (emptied x) r r.waits)
    = subst (λ (xs : List (Instance A)). P (went_on behaviour serving (record m { instances = xs }) (emptied x) r r.waits)) (sym (at.put (emptied x) numbered)) at_none in
    let goes : went_on behaviour serving (taken m x) (emptied x) r r.waits ≡ turned_by behaviour serving m inst inst.running
    = went_on_taken behaviour serving m x r r.waits ∙ ap (turned_by behaviour serving m x) (sym runs) ∙ ap (λ (y : Instance A). turned_by behaviour serving m y y.running) same in
    subst P goes taken_steps
