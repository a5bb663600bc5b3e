use Rattle.std.proofs.Common.{ℕ, Bool, subst}
use Rattle.epoch.specs.Finding.{OpensBelow}
use Rattle.epoch.proofs.AdmitLemmas.{found_refused, ruled_by}
use Rattle.epoch.proofs.MountLemmas.{mounts_found, search_leaves}
use Rattle.epoch.proofs.SettledLemmas.{settled_blocks}
use Rattle.epoch.proofs.mounting.mount.Goals as goal

pub returns-clause-holds : goal.returns-clause-holds
returns-clause-holds g c honest f h framed serves large holding =
    mounts_found f framed c.args.format serves h (g.B.Board.view c.args.board.now) (g.B.Board.view c.find_header.new.board) holding (g.met.B.Board.consistent c.args.board.now honest).counter large
    c.find_header.result (c.find_header.ensures.exact honest) (c.find_header.ensures.honest honest).1.blocks (c.find_header.ensures.honest honest).1.counter (c.find_header.ensures.run honest)

pub returns-clause-rule : goal.returns-clause-rule
returns-clause-rule g c tells =
    let told = c.find_header.ensures.rule tells in
    let v = g.B.Board.view c.args.board.now in
    (told.0, λ f serves. ruled_by f c.args.format serves v v.state.reads told.0 c.find_header.result told.1)

pub returns-clause-exact : goal.returns-clause-exact
returns-clause-exact g c honest =
    let finds = c.find_header.ensures.exact honest in
    let v = g.B.Board.view c.args.board.now in
    (finds.counter, finds.among, λ f serves. ruled_by f c.args.format serves v v.state.reads finds.counter c.find_header.result finds.ruled)

pub returns-clause-refusal : goal.returns-clause-refusal
returns-clause-refusal g c honest =
    let calls = c.find_header.ensures.search.calls in
    found_refused c.args.format (g.B.Board.view c.args.board.now) (g.B.Board.view c.find_header.new.board) c.find_header.result calls.size calls.key
    (c.find_header.ensures.honest honest).1.blocks.reads (c.find_header.ensures.exact honest)

pub returns-clause-settled : goal.returns-clause-settled
returns-clause-settled g c honest =
    settled_blocks (g.B.Board.view c.args.board.now).state (g.B.Board.view c.find_header.new.board).state (c.find_header.ensures.honest honest).1.blocks

pub returns-clause-leaves : goal.returns-clause-leaves
returns-clause-leaves g c honest pending f serves =
    let v = g.B.Board.view c.args.board.now in
    search_leaves f v (g.B.Board.view c.find_header.new.board) (g.met.B.Board.consistent c.args.board.now honest) pending
    (λ open_at base low high first below.
    c.find_header.ensures.run honest open_at base low high first (subst (λ (knows : ℕ → Bool). OpensBelow knows v.key v.state.reads low high) serves.known below))
