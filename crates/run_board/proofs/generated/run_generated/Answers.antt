use Rattle.std.proofs.Common.{◌≡◌, ◌∙◌, List, Some, ap, length, refl, subst, sym}
use Rattle.std.specs.List.{AllByRecursion}
use Rattle.mac_digest.specs.Hash.{digest_of}
use Rattle.mac_digest.specs.declared.digests.Hash.TheVariants.{Sha256}
use Rattle.report.specs.Texts.{summary_text}
use Rattle.script.specs.Canonical.{canonical}
use Rattle.script.specs.Workload.{workload_of}
use Rattle.script.specs.declared.line.Line.{Line}
use Rattle.summary.specs.Summaries.{Summing}
use Rattle.tee_base.specs.Faults.{Rose}
use Rattle.run_board.specs.Boards.{orders_of}
use Rattle.run_board.specs.Generated.{RunsGenerated, WritesAs}
use Rattle.run_board.specs.Reading.{IsKnown}
use Rattle.run_board.proofs.Calm.{workload_orders_none}
use Rattle.run_board.proofs.Summed.{cut_ends, other_ends, summed_ends, unmade_ends}
use Rattle.run_board.proofs.generated.run_generated.Goals as goal

pub returns-in_default : goal.returns-in_default
returns-in_default g c =
    unmade_ends g.A.Application.behaviour g.V.BoardVolume.form c.args.hosts.items c.requires c.args.seed (workload_of c.args.number (length c.args.hosts.items)) g.B.Board g.W.Sink
    c.args.board c.args.sink.now

pub serve-status-requires-clause-known : goal.serve-status-requires-clause-known
serve-status-requires-clause-known g c = subst (λ hosts. AllByRecursion (IsKnown (length hosts)) c.in-Ok.made.lines.items) c.as_slice.ensures.value c.in-Ok.ensures.known

pub returns-in-Done : goal.returns-in-Done
returns-in-Done g c =
    let behaviour = g.A.Application.behaviour in
    let form = g.V.BoardVolume.form in
    let hosts = c.args.hosts.items in
    let seed = c.args.seed in
    let board = c.args.board in
    let left = c.serve-status.result.1 in
    let lines = c.in-Ok.made.lines.items in
    let status = c.write_summary.result in
    let out = c.args.sink.now in
    let told = c.write_summary.new.sink in
    let are : lines ≡ workload_of c.args.number (length hosts) = c.in-Ok.ensures.lines ∙ ap (λ hs. workload_of c.args.number (length hs)) c.as_slice.ensures.value in
    let none = ap orders_of are ∙ workload_orders_none c.args.number (length hosts) in
    let sum = c.write_summary.ensures in
    let hash : c.in-Ok.made.hash ≡ digest_of Sha256 (canonical hosts lines) =
    c.in-Ok.ensures.hash ∙ ap (λ hs. digest_of Sha256 (canonical hs (workload_of c.args.number (length hs)))) c.as_slice.ensures.value
    ∙ ap (λ (ls : List Line). digest_of Sha256 (canonical hosts ls)) (sym are) in
    let writes : WritesAs g.W.Sink (summary_text (length lines) (digest_of Sha256 (canonical hosts lines)) sum.0 sum.1) out told status =
    subst (λ n. WritesAs g.W.Sink (summary_text n (digest_of Sha256 (canonical hosts lines)) sum.0 sum.1) out told status) (c.len-count.ensures ∙ c.in-Ok.made.lines.ok.0)
    (subst (λ h. WritesAs g.W.Sink (summary_text c.len-count.result h sum.0 sum.1) out told status) hash sum.3) in
    subst (λ (ls : List Line). RunsGenerated g.B.Board g.W.Sink behaviour form hosts seed ls board left out told status) are
    (summed_ends behaviour form hosts c.requires seed lines none g.B.Board g.W.Sink board left out _ c.new-summary.result c.serve-status.new.sink c.serve-status.result.0
    c.serve-status.ensures.ends c.serve-status.ensures.written c.serve-status.new.sink.text c.serve-status.new.sink.line (ap (λ (s : Summing). Some s.text) c.new-summary.ensures) refl
    c.in-Done.is told status sum.0 sum.1 sum.2 writes)

pub returns-in-WriteFault : goal.returns-in-WriteFault
returns-in-WriteFault g c =
    let behaviour = g.A.Application.behaviour in
    let form = g.V.BoardVolume.form in
    let hosts = c.args.hosts.items in
    let seed = c.args.seed in
    let board = c.args.board in
    let left = c.serve-status.result.1 in
    let lines = c.in-Ok.made.lines.items in
    let status = c.cut_status.result in
    let out = c.args.sink.now in
    let are : lines ≡ workload_of c.args.number (length hosts) = c.in-Ok.ensures.lines ∙ ap (λ hs. workload_of c.args.number (length hs)) c.as_slice.ensures.value in
    let none = ap orders_of are ∙ workload_orders_none c.args.number (length hosts) in
    let faults = (g.B.Board.view left).state.faults in
    subst (λ (ls : List Line). RunsGenerated g.B.Board g.W.Sink behaviour form hosts seed ls board left out out status) are
    (cut_ends behaviour form hosts c.requires seed lines none g.B.Board g.W.Sink board left out _ c.new-summary.result c.serve-status.new.sink c.serve-status.result.0
    c.serve-status.ensures.ends c.serve-status.ensures.written c.serve-status.new.sink.text c.serve-status.new.sink.line
    (ap (λ (s : Summing). Some s.text) c.new-summary.ensures) refl c.cut-cut.result c.cut-cut.ensures.at
    c.in-WriteFault.is status
    (λ is.
    let why = c.cut_status.ensures.cause.0 is in
    (why.0, subst (λ n. Rose n faults) c.faults-before.ensures (subst (λ n. Rose c.faults-before.result n) c.faults.ensures why.1)))
    c.cut_status.ensures.few)

pub returns-in_default-status : goal.returns-in_default-status
returns-in_default-status g c =
    let behaviour = g.A.Application.behaviour in
    let form = g.V.BoardVolume.form in
    let hosts = c.args.hosts.items in
    let seed = c.args.seed in
    let board = c.args.board in
    let left = c.serve-status.result.1 in
    let lines = c.in-Ok.made.lines.items in
    let status = c.serve-status.result.0 in
    let out = c.args.sink.now in
    let are : lines ≡ workload_of c.args.number (length hosts) = c.in-Ok.ensures.lines ∙ ap (λ hs. workload_of c.args.number (length hs)) c.as_slice.ensures.value in
    let none = ap orders_of are ∙ workload_orders_none c.args.number (length hosts) in
    subst (λ (ls : List Line). RunsGenerated g.B.Board g.W.Sink behaviour form hosts seed ls board left out out status) are
    (other_ends behaviour form hosts c.requires seed lines none g.B.Board g.W.Sink board left out _ c.new-summary.result c.serve-status.new.sink c.serve-status.result.0
    c.serve-status.ensures.ends c.serve-status.ensures.written c.serve-status.new.sink.text c.serve-status.new.sink.line
    (ap (λ (s : Summing). Some s.text) c.new-summary.ensures) refl c.cut-cut.result c.cut-cut.ensures.at
    c.serve-status.ensures.few c.in_default-status.not-Done c.in_default-status.not-WriteFault)
