use Rattle.std.proofs.Common.{arith}
use Rattle.std.proofs.lemmas.Result.{on_err_weaker}
use Rattle.tee_core.proofs.tee.TeeOver.event.Goals as goal

pub returns-in-Call-clause-made : goal.returns-in-Call-clause-made
returns-in-Call-clause-made g c = rw c.in-Call.is c.call.ensures.made

pub returns-in-Call-clause-told : goal.returns-in-Call-clause-told
returns-in-Call-clause-told g c = rw c.in-Call.is c.call.ensures.told

pub returns-in-Call-clause-kept : goal.returns-in-Call-clause-kept
returns-in-Call-clause-kept g c = rw c.in-Call.is c.call.ensures.kept

pub returns-in-Call-clause-turns : goal.returns-in-Call-clause-turns
returns-in-Call-clause-turns g c = rw c.in-Call.is (omega (arith, c.call.ensures.turns))

pub returns-in-Cancel-clause-made : goal.returns-in-Cancel-clause-made
returns-in-Cancel-clause-made g c = rw c.in-Cancel.is c.cancel.ensures.made

pub returns-in-Cancel-clause-told : goal.returns-in-Cancel-clause-told
returns-in-Cancel-clause-told g c = rw c.in-Cancel.is c.cancel.ensures.told

pub returns-in-Cancel-clause-kept : goal.returns-in-Cancel-clause-kept
returns-in-Cancel-clause-kept g c = rw c.in-Cancel.is c.cancel.ensures.kept

pub returns-in-Cancel-clause-turns : goal.returns-in-Cancel-clause-turns
returns-in-Cancel-clause-turns g c = rw c.in-Cancel.is (omega (arith, c.cancel.ensures.turns))

pub returns-in-Turn-clause-made : goal.returns-in-Turn-clause-made
returns-in-Turn-clause-made g c = rw c.in-Turn.is c.turn.ensures.made

pub returns-in-Turn-clause-told : goal.returns-in-Turn-clause-told
returns-in-Turn-clause-told g c = rw c.in-Turn.is c.turn.ensures.told

pub returns-in-Turn-clause-kept : goal.returns-in-Turn-clause-kept
returns-in-Turn-clause-kept g c = rw c.in-Turn.is c.turn.ensures.kept

pub returns-in-Turn-clause-turns : goal.returns-in-Turn-clause-turns
returns-in-Turn-clause-turns g c = rw c.in-Turn.is (omega (arith, c.turn.ensures.turns))

pub returns-in-Cancel-clause-err : goal.returns-in-Cancel-clause-err
returns-in-Cancel-clause-err g c = on_err_weaker c.cancel.result (λ none. absurd none) c.cancel.ensures.never

pub returns-in-Cancel-clause-same : goal.returns-in-Cancel-clause-same
returns-in-Cancel-clause-same g c = on_err_weaker c.cancel.result (λ none. absurd none) c.cancel.ensures.never
