use Rattle.std.proofs.Common.{◌≡◌, ◌<◌, ℕ, List, length, length-take, get_or, take, subst, sym, below_more, arith, rules, All}
use Rattle.std.proofs.lemmas.List.{get_or_read, get_or-take}
use Rattle.app_api.specs.Hosts.{IsName, IsApart}
use Rattle.app_api.specs.declared.host.Host.{Host}
use Rattle.app_api.proofs.host.hosts_fit.Goals as goal

-- each host before the place is apart from the one at it
apart_at : {A : Type 0} (hosts : List (Host A)) (j : ℕ) (host : Host A) → j < length hosts → host ≡ get_or hosts j host → All (λ other. IsApart other host) (take j hosts) →
    (i : ℕ) (d : Host A) → i < j → IsApart (get_or hosts i d) (get_or hosts j d)
apart_at {A = A} hosts j host inside here each i d lt =
    let within : i < length (take j hosts) = omega (arith, length-take j hosts) in
    subst (λ (h : Host A). IsApart (get_or hosts i d) h) (get_or_read hosts j host inside here d) (subst (λ (h : Host A). IsApart h host) (get_or-take j hosts i d lt) (each i d within))

pub loop-index-preserved : goal.loop-index-preserved
loop-index-preserved g c = record {
  named = below_more _ _ c.loop-index.invariant.named (λ d. subst (λ (h : Host g.row.A.Denot). IsName h.name)
      (get_or_read c.args.hosts.now c.loop-index.index c.index-hosts-index.result (omega arith) c.index-hosts-index.is d)
      (subst IsName c.as_slice.ensures (c.if-not-is_name.ensures.0 (search rules))));
  apart = below_more _ _ c.loop-index.invariant.apart (λ i d lt. apart_at c.args.hosts.now c.loop-index.index c.index-hosts-index.result (omega arith) c.index-hosts-index.is
      (c.if-not-are_apart.ensures.0 (search rules)) i d lt);
}

pub returns : goal.returns
returns g c = (
  λ _. record {
    some = search (rules, arith);
    few = omega arith;
    named = λ k d lt. c.loop-index.invariant.named k (omega arith) d;
    apart =
        λ i j d lt h. c.loop-index.invariant.apart j (omega arith) i d lt;
  },
  λ _. search rules,
)

pub returns-then-not-are_apart : goal.returns-then-not-are_apart
returns-then-not-are_apart g c = (
  λ h. search rules,
  λ fit. c.if-not-are_apart.ensures.1 (λ i d within.
      let lt : i < c.loop-index.index = omega (arith, length-take c.loop-index.index c.args.hosts.now) in
      subst (λ (h : Host g.row.A.Denot). IsApart h c.index-hosts-index.result) (sym (get_or-take c.loop-index.index c.args.hosts.now i d lt))
      (subst (λ (h : Host g.row.A.Denot). IsApart (get_or c.args.hosts.now i d) h) (sym (get_or_read c.args.hosts.now c.loop-index.index c.index-hosts-index.result (omega arith)
      c.index-hosts-index.is d))
      (fit.apart i c.loop-index.index d lt (omega arith)))),
)
