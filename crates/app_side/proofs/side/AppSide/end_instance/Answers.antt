use Rattle.app_side.specs.Represents.{machine_of}
use Rattle.app_side.proofs.side.AppSide.end_instance.Goals as goal

pub returns : goal.returns
returns g c = λ i. record (machine_of c.args.self.now) {
  table = c.end.ensures i;
  instances = c.leave_out.ensures i;
  queue = c.clear.ensures i;
  held = c.close_instance.ensures i;
  crypto = c.end_instance.ensures i;
}
