use Rattle.std.proofs.Common.{◌≡◌, ◌∙◌, true, inr, rules, sym}
use Rattle.alone.specs.Step.{Lost, step}
use Rattle.shared_parts.proofs.StepLemmas.{loss_entry, loss_kept, loss_reserved, loss_turns}
use Rattle.shared_parts.proofs.recorded.Recorded.know_loss.Goals as goal

pub returns-clause-kept : goal.returns-clause-kept
returns-clause-kept g c =
    loss_kept g.A.Application.behaviour c.args.client c.none.result c.args.self.now.side c.lose.new.self c.args.self.now.log c.push.new.self
    (sym c.is_lost.ensures ∙ c.if-is_lost.false) c.lose.ensures.step c.requires.reserved c.none.ensures c.push.ensures.more c.push.ensures.room c.push.ensures.reply_room

pub returns-clause-found : goal.returns-clause-found
returns-clause-found g c =
    let is : c.args.lost ≡ true = search rules in
    inr (
      is,
      loss_entry g.A.Application.behaviour c.args.client c.none.result c.args.self.now.side c.lose.new.self c.args.self.now.log c.push.new.self
          (sym c.is_lost.ensures ∙ c.if-is_lost.false) c.lose.ensures.step c.requires.reserved c.none.ensures c.push.ensures.more c.push.ensures.room c.push.ensures.reply_room,
    )

pub returns-clause-part : goal.returns-clause-part
returns-clause-part g c = λ own has. record {
  machine = (step g.A.Application.behaviour has.machine Lost).machine;
  stands = c.lose.ensures.step has.machine has.stands;
  part = has.part;
}

pub returns-clause-reserved : goal.returns-clause-reserved
returns-clause-reserved g c =
    loss_reserved g.A.Application.behaviour c.args.client c.none.result c.args.self.now.side c.lose.new.self c.args.self.now.log c.push.new.self
    (sym c.is_lost.ensures ∙ c.if-is_lost.false) c.lose.ensures.step c.requires.reserved c.none.ensures c.push.ensures.more c.push.ensures.room c.push.ensures.reply_room

pub returns-clause-state : goal.returns-clause-state
returns-clause-state g c = record {
  lost_is = let is : c.args.lost ≡ true = search rules in c.lose.ensures.lost ∙ sym is;
  turns = loss_turns g.A.Application.behaviour c.args.client c.none.result c.args.self.now.side c.lose.new.self c.args.self.now.log c.push.new.self
      (sym c.is_lost.ensures ∙ c.if-is_lost.false) c.lose.ensures.step c.requires.reserved c.none.ensures c.push.ensures.more c.push.ensures.room c.push.ensures.reply_room;
}
