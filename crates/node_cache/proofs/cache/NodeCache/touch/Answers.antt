use Rattle.std.proofs.Common.{◌∙◌, ℕ, List, ap}
use Rattle.node_cache.specs.declared.cache.Kept.{Kept}
use Rattle.node_cache.specs.Kept.{kept_at}
use Rattle.node_cache.proofs.KeptLemmas.{kept_promoted}
use Rattle.node_cache.proofs.cache.NodeCache.touch.Goals as goal

pub returns : goal.returns
returns c = record {
  same = λ p t.
      ap (λ n. kept_at n.entries p t) c.promote-known.ensures.entries ∙ kept_promoted c.args.place c.self.inside.nodes.entries p t
      ∙ ap (λ (es : List (ℕ × Kept)). kept_at es p t) c.self.view_is;
}
