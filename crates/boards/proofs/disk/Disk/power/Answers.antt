use Rattle.boards.proofs.Power.{picked, powered}
use Rattle.boards.proofs.disk.Disk.power.Goals as goal

pub returns-clause-powered : goal.returns-clause-powered
returns-clause-powered c =
    let s = c.settle-digits.ensures in
    powered c.args.pick c.args.self.now c.land.new.self (picked c.args.pick c.settle-digits.result c.args.self.now c.settle-digits.new.self c.land.new.self s.counter s.digits c.land.ensures)

pub returns-clause-image : goal.returns-clause-image
returns-clause-image c =
    let s = c.settle-digits.ensures in
    (picked c.args.pick c.settle-digits.result c.args.self.now c.settle-digits.new.self c.land.new.self s.counter s.digits c.land.ensures).image
