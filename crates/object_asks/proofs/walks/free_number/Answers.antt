use Rattle.std.proofs.Common.{◌≡◌, ◌<◌, ◌≤◌, ℕ, true, length, map, filter, take, ap, arith, lit<}
use Rattle.std.specs.List.{count_by}
use Rattle.std.proofs.lemmas.List.{length-map}
use Rattle.std.proofs.lemmas.Bool.{eq-eqb}
use Rattle.std.proofs.lemmas.List.Sums.{length-filter, sum_by_more_le}
use Rattle.std.proofs.Common.{List, get_or, cond, Bool}
use Rattle.object_asks.specs.Held.{NumberedList, is_list_of}
use Rattle.object_asks.proofs.walks.free_number.Goals as goal

-- before a list of the instance fewer than four are taken
room : (instance : ℕ) (xs : List NumberedList) (i : ℕ) (x : NumberedList) (taken : List ℕ) → taken ≡ map (λ e. e.number) (filter (is_list_of instance) (take i xs)) →
    i < length xs → x ≡ get_or xs i x → x.instance ≡ instance → count_by (is_list_of instance) xs ≤ 4 → length taken < 4
room instance xs i x taken so_far inside read here few =
    let test : is_list_of instance x ≡ true = eq-eqb x.instance instance here in
    omega (
      arith,
      ap length so_far,
      length-map (filter (is_list_of instance) (take i xs)) (λ (e : NumberedList). e.number),
      length-filter (is_list_of instance) (take i xs),
      sum_by_more_le (λ (e : NumberedList). cond (is_list_of instance e) 1 0) xs i x inside,
      ap {B = ℕ} (λ (e : NumberedList). cond (is_list_of instance e) 1 0) read,
      ap {B = ℕ} (λ (b : Bool). cond b 1 0) test,
      few,
    )

pub push-requires : goal.push-requires
push-requires c = (
  lit< tt,
  room c.args.instance c.args.lists.now c.loop-list.list-index c.list-item.result c.loop-list.taken.items c.loop-list.invariant c.loop-list-test.true
      c.list-item.is c.if-list-instance.true c.requires,
)
