use Rattle.shared_parts.proofs.storage.Storage.turn.Goals as goal

pub turn_known-requires-clause-known : goal.turn_known-requires-clause-known
turn_known-requires-clause-known g c = λ marked. c.know_loss.ensures.part _ (c.requires.known marked)

pub returns-clause-kept : goal.returns-clause-kept
returns-clause-kept g c = λ marked origin kept. c.turn_known.ensures.kept marked origin (c.know_loss.ensures.kept origin _ kept)
