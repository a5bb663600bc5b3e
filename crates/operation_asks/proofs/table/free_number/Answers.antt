use Rattle.std.proofs.Common.{◌≡◌, ◌<◌, ◌≤◌, ℕ, true, length, map, filter, take, ap, arith, lit<, List, get_or, cond, Bool}
use Rattle.std.specs.List.{count_by}
use Rattle.std.proofs.lemmas.List.{length-map}
use Rattle.std.proofs.lemmas.Bool.{eq-eqb}
use Rattle.std.proofs.lemmas.List.Sums.{length-filter, sum_by_more_le}
use Rattle.operation_asks.specs.declared.table.Entry.{Entry}
use Rattle.operation_asks.specs.Represents.{has_instance}
use Rattle.operation_asks.proofs.table.free_number.Goals as goal

-- before an operation of the instance fewer than eight are taken
room : (instance : ℕ) (xs : List Entry) (i : ℕ) (x : Entry) (taken : List ℕ)
    → taken ≡ map (λ e. e.number) (filter (has_instance instance) (take i xs)) → i < length xs
    → x ≡ get_or xs i x → x.instance ≡ instance → count_by (has_instance instance) xs ≤ 8 → length taken < 8
room instance xs i x taken so_far inside read here few =
    let test : has_instance instance x ≡ true = eq-eqb x.instance instance here in
    omega (
      arith,
      ap length so_far,
      length-map (filter (has_instance instance) (take i xs)) (λ (e : Entry). e.number),
      length-filter
          (has_instance instance) (take i xs),
      sum_by_more_le (λ (e : Entry). cond (has_instance instance e) 1 0) xs i x inside,
      ap {B = ℕ}
          (λ (e : Entry). cond (has_instance instance e) 1 0) read,
      ap {B = ℕ} (λ (b : Bool). cond b 1 0) test,
      few,
    )

pub push-requires : goal.push-requires
push-requires c = (
  lit< tt,
  room c.args.instance c.args.entries.now c.loop-entry.entry-index c.entry-item.result c.loop-entry.taken.items
      c.loop-entry.invariant c.loop-entry-test.true c.entry-item.is c.if-entry-instance.true c.requires,
)
