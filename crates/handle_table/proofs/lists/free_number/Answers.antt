use Rattle.std.proofs.lemmas.Grind.{common_steps}
use Rattle.std.proofs.Common.{◌≡◌, ◌<◌, ◌≤◌, ℕ, true, length, map, filter, take, ap, arith, lit<}
use Rattle.std.specs.List.{count_by}
use Rattle.std.proofs.lemmas.List.{length-map}
use Rattle.std.proofs.lemmas.Bool.{eq-eqb}
use Rattle.std.proofs.lemmas.List.Sums.{length-filter, sum_by_more_le}
use Rattle.std.proofs.Common.{List, get_or, cond, Bool}
use Rattle.handle_table.specs.declared.handle.Entry.{Entry}
use Rattle.handle_table.specs.Handles.{is_of}
use Rattle.handle_table.proofs.lists.free_number.Goals as goal

-- before a handle of the instance fewer than sixteen are taken
room : (instance : ℕ) (xs : List Entry) (i : ℕ) (x : Entry) (taken : List ℕ) → taken ≡ map (λ e. e.number) (filter (is_of instance) (take i xs)) → i < length xs →
    x ≡ get_or xs i x → x.instance ≡ instance → count_by (is_of instance) xs ≤ 16 → length taken < 16
room instance xs i x taken so_far inside read here few =
    let test : is_of instance x ≡ true = eq-eqb x.instance instance here in
    omega (
      arith,
      ap length so_far,
      length-map (filter (is_of instance) (take i xs)) (λ (e : Entry). e.number),
      length-filter (is_of instance) (take i xs),
      sum_by_more_le (λ (e : Entry). cond (is_of instance e) 1 0) xs i x inside,
      ap {B = ℕ} (λ (e : Entry). cond (is_of instance e) 1 0) read,
      ap {B = ℕ} (λ (b : Bool). cond b 1 0) test,
      few,
    )

pub push-requires : goal.push-requires
push-requires c = (
  lit< tt,
  room c.args.instance c.args.handles.now c.loop-entry.entry-index c.entry-item.result c.loop-entry.taken.items c.loop-entry.invariant
      c.loop-entry-test.true c.entry-item.is c.if-entry-instance.true c.requires,
)

pub returns : goal.returns
returns c = grind (arith, common_steps)
