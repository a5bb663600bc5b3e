use Rattle.std.proofs.Common.{◌≡◌, ◌+◌, ◌++◌, ℕ, List, [], ◌∷◌, length, append-nil, append_assoc, sym, subst, ◌∙◌, ap, arith}
use Rattle.std.proofs.lemmas.List.{length_push}
use Rattle.app_api.specs.declared.host.Host.{Host}
use Rattle.app_side.specs.Represents.{Represents}
use Rattle.app_side.specs.declared.side.AppSide.{AppSide}
use Rattle.alone.specs.Machine.{start}
use Rattle.tee_core.proofs.Opens.{none_left}
use Rattle.shared_tee.specs.Making.{AreFresh}
use Rattle.shared_tee.proofs.BeginLemmas.{sides_more}
use Rattle.shared_tee.proofs.beginning.begin_sides.Goals as goal

pub loop-host-init : goal.loop-host-init
loop-host-init g c =
    let none = c.new-sides.ensures.items in
    let all = c.from-rest.ensures.0 in
    record {
      sides = ([], all, subst (λ (hs : List (AppSide g.row.A.Denot)). AreFresh c.args.seed 0 [] hs) (sym none) tt);
      count = let no = ap (λ (hs : List (AppSide g.row.A.Denot)). length hs) none in let n = ap (λ (hosts : List (Host g.row.A.Denot)). length hosts) all in omega (arith, no, n);
    }

pub loop-host-preserved : goal.loop-host-preserved
loop-host-preserved g c =
    let old = c.loop-host.invariant in
    let items = c.in-Some.ensures.items in
    let pushed = c.in_ok-push.ensures.items in
    let front = old.sides.0 in
    let host = c.in-Some.host in
    let ss = c.loop-host.sides.items in
    let s = c.in_ok-new.field-0 in
    let longer : length c.push.new.self.items ≡ length ss + 1 = ap (λ (hs : List (AppSide g.row.A.Denot)). length hs) pushed ∙ length_push ss s in
    let shorter = ap (λ (hosts : List (Host g.row.A.Denot)). length hosts) items in
    record {
      sides = (
        front ++ host ∷ [],
        append_assoc front (host ∷ []) c.pop_front.new.self.items ∙ ap (λ (hosts : List (Host g.row.A.Denot)). front ++ hosts) (sym items) ∙ old.sides.1,
        subst (λ (hs : List (AppSide g.row.A.Denot)). AreFresh c.args.seed 0 (front ++ host ∷ []) hs) (sym pushed)
            (sides_more c.args.seed 0 (length ss) front ss host s (omega arith) old.sides.2
            (λ store. subst (λ (k : ℕ). Represents s (start host k c.args.seed store)) (c.len-index.ensures ∙ c.loop-host.sides.ok.0) (c.in_ok-new.ensures.start store)) c.in_ok-new.ensures.lost),
      );
      count = omega (arith, longer, shorter, old.count);
    }

pub overflow_cast-index : goal.overflow_cast-index
overflow_cast-index g c = omega (arith, c.len-index.ensures, c.loop-host.sides.ok.0, c.loop-host.invariant.count, c.requires)

pub returns : goal.returns
returns g c =
    let was = c.loop-host.invariant.sides in
    let none : c.loop-host.rest.items ≡ [] = none_left c.loop-host.rest.items (c.in_default.ensures.items ∙ c.in_default.ensures.rest) in
    subst (λ (hosts : List (Host g.row.A.Denot)). AreFresh c.args.seed 0 hosts c.loop-host.sides.items)
    (sym (append-nil was.0) ∙ ap (λ (hosts : List (Host g.row.A.Denot)). was.0 ++ hosts) (sym none) ∙ was.1) was.2
