use Rattle.std.proofs.Common.{◌≡◌, length, arith}
use Rattle.std.proofs.lemmas.Option.{slice_get_within}
use Rattle.race.proofs.DealLemmas.{found_at}
use Rattle.race.proofs.LogLemmas.{kept_more}
use Rattle.race.proofs.over_board.all_keep.Goals as goal

pub loop-log-init : goal.loop-log-init
loop-log-init c = λ app log lt here. absurd (omega (arith, lt))

pub loop-log-preserved : goal.loop-log-preserved
loop-log-preserved c =
    let here = found_at c.args.logs.now c.loop-log.log-index c.log-item.result c.log-item.is (omega arith) in
    kept_more c.args.logs.now c.loop-log.log-index c.log-item.result here c.loop-log.invariant c.keeps.ensures

pub returns : goal.returns
returns c = λ app log here.
    let lt = slice_get_within c.args.logs.now app log here in
    let all : c.loop-log.log-index ≡ length c.args.logs.now = omega arith in
    c.loop-log.invariant app log (omega (arith, lt, all)) here
