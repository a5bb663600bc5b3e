use Rattle.std.proofs.Common.{◌++◌, ap, sym, ◌∙◌, subst}
use Rattle.mac_digest.specs.declared.digests.Hash.TheVariants.{Sha256}
use Rattle.mac_digest.specs.Hash.{digest_of}
use Rattle.summary.specs.Summaries.{HasLines, Summing, with_line_feeds}
use Rattle.summary.proofs.sink.Summary.finish.Goals as goal

pub returns : goal.returns
returns c =
    let summed = c.self.invariant in
    let text = ap (λ (s : Summing). s.text) c.self.view_is in
    record {
      lines = summed.lines;
      rest = c.self.inside.line.items;
      has = subst (λ t. HasLines t summed.lines c.self.inside.line.items) text summed.has;
      tally = summed.tally;
      hashed = c.finish.ensures.digest Sha256 (with_line_feeds summed.lines ++ c.as_slice.result.now) (c.update.ensures Sha256 (with_line_feeds summed.lines) summed.hashed)
          ∙ ap (λ line. digest_of Sha256 (with_line_feeds summed.lines ++ line)) c.as_slice.ensures.value ∙ ap (digest_of Sha256) (sym summed.has.all ∙ text);
    }
