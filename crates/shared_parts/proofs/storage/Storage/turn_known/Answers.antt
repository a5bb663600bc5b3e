use Rattle.std.proofs.Common.{refl, ◌∙◌}
use Rattle.shared_parts.proofs.StorageSteps.{value_kept, value_lost, value_others, value_storage, value_trail}
use Rattle.shared_parts.proofs.storage.Storage.turn_known.Goals as goal

pub invariant_of-self : goal.invariant_of-self
invariant_of-self g c =
    let s = c.self.inside in
    value_storage g.V.Volume.keeper g.met.V.Volume.rests g.met.V.Volume.since_earlier g.A.Application.behaviour c.args.app c.args.client c.args.instance c.turn_over-kind.result s.loss
    c.note_loss.new.known _ s.seen.items _ s.kept.places c.put.new.self.places c.take-kept.result c.turn_over-kind.new.kept s.opened.value s.volume c.turn_over-kind.new.volume
    c.args.recorded.now.side c.turn_over-kind.new.recorded.side c.args.recorded.now.log c.turn_over-kind.new.recorded.log _ c.self.view_is c.note_loss.ensures c.requires.there
    c.of.ensures refl refl c.faults.ensures c.of-side.ensures c.of-volume.ensures c.requires.reserved
    c.take-kept.ensures.taken c.put.ensures.own (λ other apart. c.put.ensures.others other apart ∙ c.take-kept.ensures.others other apart) c.self.invariant c.turn_over-kind.ensures c.requires.known

pub returns-clause-kept : goal.returns-clause-kept
returns-clause-kept g c =
    let s = c.self.inside in
    value_kept g.V.Volume.keeper g.met.V.Volume.rests g.met.V.Volume.since_earlier g.A.Application.behaviour c.args.app c.args.client c.args.instance c.turn_over-kind.result s.loss
    c.note_loss.new.known _ s.seen.items _ s.kept.places c.put.new.self.places c.take-kept.result c.turn_over-kind.new.kept s.opened.value s.volume c.turn_over-kind.new.volume
    c.args.recorded.now.side c.turn_over-kind.new.recorded.side c.args.recorded.now.log c.turn_over-kind.new.recorded.log _ c.self.view_is c.note_loss.ensures c.requires.there
    c.of.ensures refl refl c.faults.ensures c.of-side.ensures c.of-volume.ensures c.requires.reserved
    c.take-kept.ensures.taken c.put.ensures.own (λ other apart. c.put.ensures.others other apart ∙ c.take-kept.ensures.others other apart) c.self.invariant c.turn_over-kind.ensures c.requires.known

pub returns-clause-others : goal.returns-clause-others
returns-clause-others g c =
    let s = c.self.inside in
    value_others g.V.Volume.keeper g.met.V.Volume.rests g.met.V.Volume.since_earlier g.A.Application.behaviour c.args.app c.args.client c.args.instance c.turn_over-kind.result s.loss
    c.note_loss.new.known _ s.seen.items _ s.kept.places c.put.new.self.places c.take-kept.result c.turn_over-kind.new.kept s.opened.value s.volume c.turn_over-kind.new.volume
    c.args.recorded.now.side c.turn_over-kind.new.recorded.side c.args.recorded.now.log c.turn_over-kind.new.recorded.log _ c.self.view_is c.note_loss.ensures c.requires.there
    c.of.ensures refl refl c.faults.ensures c.of-side.ensures c.of-volume.ensures c.requires.reserved
    c.take-kept.ensures.taken c.put.ensures.own (λ other apart. c.put.ensures.others other apart ∙ c.take-kept.ensures.others other apart) c.self.invariant c.turn_over-kind.ensures c.requires.known

pub returns-clause-trail : goal.returns-clause-trail
returns-clause-trail g c =
    let s = c.self.inside in
    value_trail g.V.Volume.keeper g.met.V.Volume.rests g.met.V.Volume.since_earlier g.A.Application.behaviour c.args.app c.args.client c.args.instance c.turn_over-kind.result s.loss
    c.note_loss.new.known _ s.seen.items _ s.kept.places c.put.new.self.places c.take-kept.result c.turn_over-kind.new.kept s.opened.value s.volume c.turn_over-kind.new.volume
    c.args.recorded.now.side c.turn_over-kind.new.recorded.side c.args.recorded.now.log c.turn_over-kind.new.recorded.log _ c.self.view_is c.note_loss.ensures c.requires.there
    c.of.ensures refl refl c.faults.ensures c.of-side.ensures c.of-volume.ensures c.requires.reserved
    c.take-kept.ensures.taken c.put.ensures.own (λ other apart. c.put.ensures.others other apart ∙ c.take-kept.ensures.others other apart) c.self.invariant c.turn_over-kind.ensures c.requires.known

pub returns-clause-lost : goal.returns-clause-lost
returns-clause-lost g c =
    let s = c.self.inside in
    value_lost g.V.Volume.keeper g.met.V.Volume.rests g.met.V.Volume.since_earlier g.A.Application.behaviour c.args.app c.args.client c.args.instance c.turn_over-kind.result s.loss
    c.note_loss.new.known _ s.seen.items _ s.kept.places c.put.new.self.places c.take-kept.result c.turn_over-kind.new.kept s.opened.value s.volume c.turn_over-kind.new.volume
    c.args.recorded.now.side c.turn_over-kind.new.recorded.side c.args.recorded.now.log c.turn_over-kind.new.recorded.log _ c.self.view_is c.note_loss.ensures c.requires.there
    c.of.ensures refl refl c.faults.ensures c.of-side.ensures c.of-volume.ensures c.requires.reserved
    c.take-kept.ensures.taken c.put.ensures.own (λ other apart. c.put.ensures.others other apart ∙ c.take-kept.ensures.others other apart) c.self.invariant c.turn_over-kind.ensures c.requires.known
