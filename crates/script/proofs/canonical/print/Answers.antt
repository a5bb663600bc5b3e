use Rattle.std.proofs.Common.{List, ℕ, sym, subst, ap, ◌∙◌}
use Rattle.script.specs.Canonical.{canonical}
use Rattle.script.specs.Grammar.{Reads}
use Rattle.script.specs.declared.dialect.Dialect.TheVariants.{Whole}
use Rattle.script.proofs.CanonicalTexts.{canonical_reads}
use Rattle.script.proofs.canonical.print.Goals as goal

pub returns-clause-reads : goal.returns-clause-reads
returns-clause-reads g c =
    subst (λ (text : List ℕ). Reads Whole c.args.hosts.now text c.args.script.now) (sym (c.into_bytes.ensures ∙ c.in_ok-text.ensures ∙ ap (canonical c.args.hosts.now) c.as_slice.ensures))
    (canonical_reads c.args.hosts.now c.requires.read.0 c.args.script.now c.requires.fit c.requires.read.1)
