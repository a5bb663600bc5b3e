use Rattle.std.proofs.Common.{◌≡◌, length, refl, rules}
use Rattle.epoch.specs.Gates.{gate_open}
use Rattle.epoch.proofs.gates.is_open.Goals as goal

pub returns : goal.returns
unfolding gate_open
returns c =
    let long : length c.args.gate.now ≡ 1024 = search rules in
    rw (c.all_open.ensures, long) refl
