use Rattle.std.proofs.Common.{◌≡◌, ◌∙◌, subst, arith}
use Rattle.tee_base.specs.Faults.{Rose}
use Rattle.epoch.proofs.AdmitLemmas.{ruled_so}
use Rattle.epoch.proofs.MountLemmas.{after_power, leaves_powered, power_sound}
use Rattle.epoch.proofs.SettledLemmas.{settled_on, settled_power}
use Rattle.epoch.proofs.PastLemmas.{followed, passed}
use Rattle.epoch.proofs.mounting.mount_after_power.Goals as goal

pub returns-clause-again : goal.returns-clause-again
returns-clause-again g c h f framed same large sound =
    let step = c.power.ensures.honest h in
    let call = c.power.ensures.ordered in
    after_power f (g.B.Board.view c.args.board.now) (g.B.Board.view c.power.new.self) call.key step.1 step.2 c.args.pick (g.B.Board.view c.mount_again.new.board) c.mount_again.result
    (c.mount_again.ensures.search.calls.ordered ∙ call.ordered)
    (c.mount_again.ensures.again step.0 f framed same (omega (arith, large, call.size))
    (power_sound f (g.B.Board.view c.args.board.now) (g.B.Board.view c.power.new.self) call.key step.1 step.2 sound))
    (c.mount_again.ensures.leaves step.0 f same)

pub returns-clause-settled : goal.returns-clause-settled
returns-clause-settled g c h =
    let step = c.power.ensures.honest h in
    let v = g.B.Board.view c.args.board.now in
    let mid = (g.B.Board.view c.power.new.self).state in
    settled_on v.state mid (g.B.Board.view c.mount_again.new.board).state (settled_power v mid (g.met.B.Board.consistent c.args.board.now h) step.2) (c.mount_again.ensures.settled step.0)

pub returns-clause-calls : goal.returns-clause-calls
returns-clause-calls g c =
    let order = c.power.ensures.ordered in
    let calls = c.mount_again.ensures.search.calls in
    record {
      order = record {
        size = calls.size ∙ order.size;
        key = calls.key ∙ order.key;
        orders = calls.orders ∙ order.orders;
        after = (g.B.Board.view c.power.new.self).state;
        ordered = calls.ordered ∙ order.ordered;
        counted = order.orders;
        steady = order.faults;
        later = calls.faults;
      };
      cause = λ failed. subst (λ n. Rose n (g.B.Board.view c.mount_again.new.board).state.faults) order.faults (calls.cause failed);
      steady = λ made. calls.steady made ∙ order.faults;
      fuse = calls.unset c.power.ensures.fuse;
    }

pub returns-clause-writes : goal.returns-clause-writes
returns-clause-writes g c = c.mount_again.ensures.search.writes ∙ c.power.ensures.ordered.writes

pub returns-clause-memory : goal.returns-clause-memory
returns-clause-memory g c = c.mount_again.ensures.search.memory

pub returns-clause-accepted : goal.returns-clause-accepted
returns-clause-accepted g c = c.mount_again.ensures.search.accepted

pub returns-clause-honest : goal.returns-clause-honest
returns-clause-honest g c h =
    let step = c.power.ensures.honest h in
    let powered = step.2 in
    let call = c.power.ensures.ordered in
    let told = c.mount_again.ensures.exact step.0 in
    let image : (g.B.Board.view c.power.new.self).state.reads ≡ powered.left.image = λ i k. powered.reads k i in
    let counter : told.0 ≡ powered.left.counter = omega (arith, told.1.least, told.1.greatest, powered.counter, powered.slack) in (
      c.mount_again.ensures.honest step.0,
      record {
        begins = record {
          between = g.B.Board.view c.power.new.self;
          ordered = c.mount_again.ensures.search.calls.ordered ∙ call.ordered;
          time = step.1;
          powered = powered;
          alone = c.mount_again.ensures.alone step.0;
          reads = λ kept. c.mount_again.ensures.reads step.0;
          behind = (c.mount_again.ensures.past step.0).behind;
        };
        past = followed _ _ _ (passed _ _ step.1) (c.mount_again.ensures.past step.0);
        reads = c.mount_again.ensures.reads step.0 ∙ image;
        ruled = λ f same.
            ruled_so f (g.B.Board.view c.args.board.now) (g.B.Board.view c.power.new.self) call.size call.key _ _ _ _ image counter c.mount_again.result (told.2 f same);
        rests = c.mount_again.ensures.rests step.0;
        leaves = λ f same.
            leaves_powered f (g.B.Board.view c.args.board.now) (g.B.Board.view c.power.new.self) call.key step.1 powered (g.B.Board.view c.mount_again.new.board)
            (c.mount_again.ensures.leaves step.0 f same);
      },
    )
