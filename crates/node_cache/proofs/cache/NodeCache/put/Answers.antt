use Rattle.std.proofs.Common.{subst, ◌≡◌, ◌⊎◌, ℕ, List, Some}
use Rattle.node_cache.specs.declared.cache.Kept.{Kept}
use Rattle.node_cache.specs.Kept.{kept_at}
use Rattle.node_cache.proofs.KeptLemmas.{put_or_same, put_others}
use Rattle.node_cache.proofs.cache.NodeCache.put.Goals as goal

pub returns-clause-put : goal.returns-clause-put
returns-clause-put c =
    let v : Kept = record { tag = c.args.tag.now; node = c.args.node.now } in
    let new : List (ℕ × Kept) = c.put-before.new.self.entries in
    subst (λ (es : List (ℕ × Kept)). (new ≡ es) ⊎ (kept_at new c.args.place v.tag ≡ Some v.node)) c.self.view_is
    (put_or_same c.self.inside.nodes c.put-before.new.self c.args.place v c.put-before.result c.put-before.ensures.entries c.put-before.ensures.err)

pub returns-clause-others : goal.returns-clause-others
returns-clause-others c p t n =
    let v : Kept = record { tag = c.args.tag.now; node = c.args.node.now } in
    let new : List (ℕ × Kept) = c.put-before.new.self.entries in
    subst (λ (es : List (ℕ × Kept)). kept_at new p t ≡ Some n → (kept_at es p t ≡ Some n) ⊎ ((p ≡ c.args.place) × (t ≡ v.tag) × (n ≡ v.node))) c.self.view_is
    (put_others c.self.inside.nodes c.put-before.new.self c.args.place v c.put-before.result c.put-before.ensures.entries c.put-before.ensures.err p t n)
