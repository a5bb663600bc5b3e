use Rattle.std.proofs.Common.{◌≡◌, ℕ, List, [], ◌∷◌, ◌++◌, None, ap, sym, ◌∙◌, subst}
use Rattle.std.specs.Prelude.{codes}
use Rattle.mac_digest.specs.declared.digests.Hash.TheVariants.{Sha256}
use Rattle.mac_digest.specs.Digester.{HoldsMessage}
use Rattle.summary.specs.Codes.{IsTally, begins_with, codes_in}
use Rattle.summary.specs.Summaries.{IsSummed, Summing}
use Rattle.summary.proofs.LineEnds.{line_ended}
use Rattle.summary.proofs.sink.Summary.end_line.Goals as goal

pub invariant_of-self-2 : goal.invariant_of-self-2
invariant_of-self-2 c =
    let none : c.self.inside.cut ≡ None = ap (λ (s : Summing). s.cut) c.self.view_is ∙ c.requires in
    subst (IsSummed c.then.result c.clear.new.self.items c.count_line.new.self c.update-2.new.self) (sym none)
    (line_ended c.self.inside.text c.self.inside.line.items c.self.inside.codes c.count_line.new.self c.self.inside.digester c.update.new.self c.update-2.new.self c.then.result
    c.clear.new.self.items (subst (IsSummed c.self.inside.text c.self.inside.line.items c.self.inside.codes c.self.inside.digester) none c.self.invariant)
    (ap (begins_with (codes "board ")) (sym c.as_slice-line.ensures.value) ∙ sym c.starts_with.ensures.value ∙ c.if-starts_with.false)
    (subst (λ line. (found : List ℕ) → IsTally found c.self.inside.codes → IsTally (found ++ codes_in (line ∷ [])) c.count_line.new.self)
    c.as_slice-line.ensures.value c.in_ok-count_line.ensures.counted)
    (subst (λ line. (message : List ℕ) → HoldsMessage c.self.inside.digester Sha256 message → HoldsMessage c.update.new.self Sha256 (message ++ line))
    c.as_slice.ensures.value (c.update.ensures Sha256))
    (c.update-2.ensures Sha256) c.then.ensures c.clear.ensures.items)
