use Rattle.std.proofs.Common.{◌≡◌, ◌+◌, ◌++◌, ℕ, List, [], ◌∷◌, false, length, length-append, append-nil, sym, subst, ◌∙◌, ap, arith}
use Rattle.app_api.specs.declared.host.Host.{Host}
use Rattle.app_side.specs.Represents.{Represents as Runs_as}
use Rattle.app_side.specs.declared.side.AppSide.{AppSide as Side}
use Rattle.alone.specs.Machine.{Machine, start}
use Rattle.tee_core.specs.Sides.{AreBooted, AreLost, AreSides}
use Rattle.tee_core.specs.World.{World, starts_from}
use Rattle.tee_core.proofs.Opens.{none_left}
use Rattle.tee_core.proofs.SideLemmas.{booted_more, lost_more, sides_more, starts_one}
use Rattle.tee_core.proofs.power.start_all.Goals as goal

pub loop-host-preserved : goal.loop-host-preserved
loop-host-preserved g c =
    let old = c.loop-host.invariant in
    let items = c.in-Some.ensures.items in
    let pushed = c.in_ok-push.ensures.items in
    let ss = c.loop-host.sides.items in
    let n = length ss in
    let s = c.in_ok-new.field-0 in
    let new = c.in_ok-new.ensures in
    let longer : length c.push.new.self.items ≡ n + 1 = ap (λ (hs : List (Side g.row.A.Denot)). length hs) pushed ∙ length-append ss (s ∷ []) in
    let shorter = ap (λ (hosts : List (Host g.row.A.Denot)). length hosts) items in
    record {
      sides = λ stores.
          let was = old.sides stores in
          let m : Machine g.row.A.Denot = start c.in-Some.host n c.args.seed (stores n) in (
            was.0 ++ m ∷ [],
            subst (λ (hs : List (Side g.row.A.Denot)). AreSides hs (was.0 ++ m ∷ [])) (sym pushed)
                (sides_more ss was.0 s m was.1 (subst (λ (k : ℕ). Runs_as s (start c.in-Some.host k c.args.seed (stores n))) (c.len-index.ensures ∙ c.loop-host.sides.ok.0) (new.start (stores n)))),
            ap (λ (k : ℕ). (was.0 ++ m ∷ []) ++ starts_from k c.pop_front.new.self.items c.args.seed stores) longer
                ∙ starts_one was.0 n c.in-Some.host c.pop_front.new.self.items c.args.seed stores
                ∙ ap (λ (hosts : List (Host g.row.A.Denot)). was.0 ++ starts_from n hosts c.args.seed stores) (sym items)
                ∙ was.2,
          );
      lost = subst (λ (hs : List (Side g.row.A.Denot)). AreLost false hs) (sym pushed) (lost_more false ss s old.lost new.lost);
      booted = subst (λ (hs : List (Side g.row.A.Denot)). AreBooted 0 hs) (sym pushed) (booted_more 0 ss s old.booted new.boot);
      count = omega (arith, longer, shorter, old.count);
    }

pub returns-clause-world : goal.returns-clause-world
returns-clause-world g c = λ stores.
    let was = c.loop-host.invariant.sides stores in
    let none : c.loop-host.rest.items ≡ [] = none_left c.loop-host.rest.items (c.in_default.ensures.items ∙ c.in_default.ensures.rest) in
    subst (λ (w : World g.row.A.Denot). AreSides c.loop-host.sides.items w)
    (sym (append-nil was.0) ∙ ap (λ (hosts : List (Host g.row.A.Denot)). was.0 ++ starts_from (length c.loop-host.sides.items) hosts c.args.seed stores) (sym none) ∙ was.2)
    was.1

pub overflow_cast-index : goal.overflow_cast-index
overflow_cast-index g c = omega (arith, c.len-index.ensures, c.loop-host.sides.ok.0, c.loop-host.invariant.count, c.requires)

pub returns-clause-lost : goal.returns-clause-lost
returns-clause-lost g c = c.loop-host.invariant.lost

pub returns-clause-booted : goal.returns-clause-booted
returns-clause-booted g c = c.loop-host.invariant.booted

pub returns-clause-count : goal.returns-clause-count
returns-clause-count g c =
    let none : c.loop-host.rest.items ≡ [] = none_left c.loop-host.rest.items (c.in_default.ensures.items ∙ c.in_default.ensures.rest) in
    let zero = ap (λ (hosts : List (Host g.row.A.Denot)). length hosts) none in
    omega (arith, zero, c.loop-host.invariant.count)
