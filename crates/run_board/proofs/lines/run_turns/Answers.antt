use Rattle.std.proofs.Common.{◌+◌, ◌-◌}
use Rattle.std.proofs.lemmas.Result.{err_from_is_err_and}
use Rattle.tee_core.specs.declared.happened.Event.TheVariants as events
use Rattle.tee_core.specs.World.{turn_events}
use Rattle.run_board.specs.Parts.{step_events}
use Rattle.run_board.specs.Transcript.{happens}
use Rattle.run_board.proofs.Layers.{goes_more, goes_start, goes_stopped, goes_whole}
use Rattle.run_board.proofs.Single.{turns_all, turns_none, turns_split}
use Rattle.run_board.proofs.lines.run_turns.Goals as goal

pub loop-init : goal.loop-init
loop-init g c =
    let behaviour = g.A.Application.behaviour in
    let app = c.args.app in
    let instance = c.args.instance in
    let count = c.args.count in
    goes_start behaviour g.V.BoardVolume.form c.args.names.now (λ world weather. happens (turn_events behaviour (weather.marks app) world app instance count))
    (λ weather now. happens (turn_events behaviour (weather.marks app) now app instance (count - 0))) _ (λ world weather. turns_all behaviour weather world app instance count)

pub loop-preserved : goal.loop-preserved
loop-preserved g c =
    let behaviour = g.A.Application.behaviour in
    let app = c.args.app in
    let instance = c.args.instance in
    let count = c.args.count in
    let k = c.loop.counter in
    goes_more behaviour g.V.BoardVolume.form c.args.names.now (λ world weather. happens (turn_events behaviour (weather.marks app) world app instance count))
    (λ weather now. happens (turn_events behaviour (weather.marks app) now app instance (count - k)))
    (λ weather now. happens (turn_events behaviour (weather.marks app) now app instance (count - (k + 1))))
    (λ world weather. step_events behaviour weather world (events.Turn app instance)) _ _ _ _
    c.loop.invariant c.in_ok-run_event.ensures.made (λ now stands weather. turns_split behaviour weather now app instance count k c.loop-test.true)

pub returns-in_err-run_event : goal.returns-in_err-run_event
returns-in_err-run_event g c =
    let behaviour = g.A.Application.behaviour in
    let app = c.args.app in
    let instance = c.args.instance in
    let count = c.args.count in
    let k = c.loop.counter in
    let p = err_from_is_err_and c.from_residual.result c.from_residual.ensures.1 in
    rw (p.1, p.2)
    (goes_stopped behaviour g.V.BoardVolume.form c.args.names.now (λ world weather. happens (turn_events behaviour (weather.marks app) world app instance count))
    (λ weather now. happens (turn_events behaviour (weather.marks app) now app instance (count - k)))
    (λ weather now. happens (turn_events behaviour (weather.marks app) now app instance (count - (k + 1))))
    (λ world weather. step_events behaviour weather world (events.Turn app instance)) _ _ _ _
    c.loop.invariant c.in_err-run_event.ensures.made (λ now stands weather. turns_split behaviour weather now app instance count k c.loop-test.true))

pub returns : goal.returns
returns g c =
    let behaviour = g.A.Application.behaviour in
    let app = c.args.app in
    let instance = c.args.instance in
    let count = c.args.count in
    goes_whole behaviour g.V.BoardVolume.form c.args.names.now (λ world weather. happens (turn_events behaviour (weather.marks app) world app instance count))
    (λ weather now. happens (turn_events behaviour (weather.marks app) now app instance (count - c.loop.counter))) _ _ _
    c.loop.invariant (λ now stands weather. turns_none behaviour weather now app instance count c.loop.counter c.loop-test.false)
