-- Which of a race's values may cross threads.
use denote.RattleType.{RattleType}
use denote.Param.Send.{IsSend, IsSync, sendable, struct_send, enum_send, view_send, recorded_send}
use Rattle.std.proofs.Crossing.{Vec-send}
use Rattle.script.specs.contracts.line.Line as Line
use Rattle.race.specs.contracts.client.Stopped as Stopped
use Rattle.race.specs.contracts.worker.Worker as Worker
use Rattle.shared_tee.proofs.Crosses.{Call-field-sync, Pass-send}
use Rattle.store_api.specs.declared.volume.Volume as volume
use Rattle.app_api.specs.declared.application.Application as application

Line-field-sync : IsSync Line.the_field.row
Line-field-sync = search (Call-field-sync, sendable) depth 60 fits 20000

pub Line-sync : IsSync Line.the_row
Line-sync = search (Line-field-sync, sendable) depth 60

Stopped-send : IsSend Stopped.the_row
Stopped-send = search sendable depth 60

module _ (V A : RattleType) (v : volume.Ghosts V.Denot) (a : application.Ghosts A.Denot) (sv : IsSend V) (sa : IsSend A) where
  pub Worker-field : IsSend (Worker.the_field V A v a).row
  Worker-field = let pass = Pass-send V A v a sv sa in search (Vec-send, Stopped-send, sendable) depth 60 fits 20000

  pub Worker-send : IsSend (Worker.the_row V A v a)
  Worker-send = search (Worker-field, sendable) depth 60
