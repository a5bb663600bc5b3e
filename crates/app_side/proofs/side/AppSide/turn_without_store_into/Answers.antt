use Rattle.app_side.specs.Storeless.{IsStoreless}
use Rattle.app_side.proofs.Storeless.{kind_is, stands_is, step_is, stays_lost, storage_is, told_is}
use Rattle.app_side.proofs.side.AppSide.turn_without_store_into.Goals as goal

pub returns-clause-kind : goal.returns-clause-kind
returns-clause-kind g c = kind_is g.A.Application.behaviour c.args.instance c.turn_into-kind.new.replies c.args.self.now c.turn_into-kind.new.self c.new-store.result
    c.turn_into-kind.new.store c.turn_into-kind.result c.turn_into-kind.ensures.turn c.bounds.ensures.faults c.bounds.ensures.damage

pub returns-clause-step : goal.returns-clause-step
returns-clause-step g c =
    let kind = c.turn_into-kind.result in
    let storeless : IsStoreless kind = kind_is g.A.Application.behaviour c.args.instance c.turn_into-kind.new.replies c.args.self.now c.turn_into-kind.new.self c.new-store.result
    c.turn_into-kind.new.store kind c.turn_into-kind.ensures.turn c.bounds.ensures.faults c.bounds.ensures.damage in
    step_is g.A.Application.behaviour c.args.instance c.turn_into-kind.new.replies c.args.self.now c.turn_into-kind.new.self c.new-store.result c.turn_into-kind.new.store kind
    c.turn_into-kind.ensures.turn storeless c.requires.storeless

pub returns-clause-stands : goal.returns-clause-stands
returns-clause-stands g c =
    let kind = c.turn_into-kind.result in
    let storeless : IsStoreless kind = kind_is g.A.Application.behaviour c.args.instance c.turn_into-kind.new.replies c.args.self.now c.turn_into-kind.new.self c.new-store.result
    c.turn_into-kind.new.store kind c.turn_into-kind.ensures.turn c.bounds.ensures.faults c.bounds.ensures.damage in
    stands_is g.A.Application.behaviour c.args.instance c.turn_into-kind.new.replies c.args.self.now c.turn_into-kind.new.self c.new-store.result c.turn_into-kind.new.store kind
    c.turn_into-kind.ensures.turn storeless

pub returns-clause-told : goal.returns-clause-told
returns-clause-told g c =
    let kind = c.turn_into-kind.result in
    let storeless : IsStoreless kind = kind_is g.A.Application.behaviour c.args.instance c.turn_into-kind.new.replies c.args.self.now c.turn_into-kind.new.self c.new-store.result
    c.turn_into-kind.new.store kind c.turn_into-kind.ensures.turn c.bounds.ensures.faults c.bounds.ensures.damage in
    told_is g.A.Application.behaviour c.args.instance c.turn_into-kind.new.replies c.args.self.now c.turn_into-kind.new.self c.new-store.result c.turn_into-kind.new.store kind
    c.turn_into-kind.ensures.turn storeless c.requires.storeless

pub returns-clause-lost : goal.returns-clause-lost
returns-clause-lost g c =
    let kind = c.turn_into-kind.result in
    let storeless : IsStoreless kind = kind_is g.A.Application.behaviour c.args.instance c.turn_into-kind.new.replies c.args.self.now c.turn_into-kind.new.self c.new-store.result
    c.turn_into-kind.new.store kind c.turn_into-kind.ensures.turn c.bounds.ensures.faults c.bounds.ensures.damage in
    stays_lost g.A.Application.behaviour c.args.instance c.turn_into-kind.new.replies c.args.self.now c.turn_into-kind.new.self c.new-store.result c.turn_into-kind.new.store kind
    c.turn_into-kind.ensures.turn storeless c.new-store.ensures.lost

pub returns-clause-storage : goal.returns-clause-storage
returns-clause-storage g c =
    let kind = c.turn_into-kind.result in
    let storeless : IsStoreless kind = kind_is g.A.Application.behaviour c.args.instance c.turn_into-kind.new.replies c.args.self.now c.turn_into-kind.new.self c.new-store.result
    c.turn_into-kind.new.store kind c.turn_into-kind.ensures.turn c.bounds.ensures.faults c.bounds.ensures.damage in
    storage_is g.A.Application.behaviour c.args.instance c.turn_into-kind.new.replies c.args.self.now c.turn_into-kind.new.self c.new-store.result c.turn_into-kind.new.store kind
    c.turn_into-kind.ensures.turn storeless c.requires.storeless c.new-store.ensures.lost
