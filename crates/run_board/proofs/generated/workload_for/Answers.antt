use Rattle.std.proofs.Common.{◌++◌, List, [], ap, length, subst, sym, ◌∙◌}
use Rattle.std.specs.List.{AllByRecursion}
use Rattle.mac_digest.specs.Hash.{digest_of}
use Rattle.mac_digest.specs.declared.digests.Hash.TheVariants.{Sha256}
use Rattle.script.specs.Canonical.{canonical}
use Rattle.script.specs.declared.dialect.Dialect.TheVariants.{Whole}
use Rattle.script.specs.declared.line.Line.{Line}
use Rattle.run_board.specs.Reading.{IsKnown}
use Rattle.run_board.proofs.Known.{known_lines}
use Rattle.run_board.proofs.generated.workload_for.Goals as goal

pub returns-clause-hash : goal.returns-clause-hash
returns-clause-hash g c =
    c.finish.ensures.digest Sha256 ([] ++ c.as_slice.result.now) (c.update.ensures Sha256 [] c.digest-digester.ensures)
    ∙ ap (digest_of Sha256) (c.as_slice.ensures ∙ c.in_ok-text.ensures.text ∙ ap (canonical c.args.hosts.now) c.in_ok-script.ensures)

pub returns-clause-known : goal.returns-clause-known
returns-clause-known g c =
    subst (λ (lines : List Line). AllByRecursion (IsKnown (length c.args.hosts.now)) lines) (sym (c.into_lines.ensures ∙ c.in_ok-script.ensures))
    (known_lines Whole c.args.hosts.now _ _ (c.workloads_are_read.ensures c.args.hosts.now c.args.number c.requires))
