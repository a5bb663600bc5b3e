use Rattle.object_asks.specs.Asks.{object_resolution}
use Rattle.object_asks.proofs.serving.serve.Goals as goal

pub returns-in-ObjCreate : goal.returns-in-ObjCreate
unfolding object_resolution
returns-in-ObjCreate g c = rw c.in-ObjCreate.is c.create.ensures

pub returns-in-ObjRename : goal.returns-in-ObjRename
unfolding object_resolution
returns-in-ObjRename g c = rw c.in-ObjRename.is c.rename.ensures

pub returns-in-ObjWrite : goal.returns-in-ObjWrite
unfolding object_resolution
returns-in-ObjWrite g c = rw c.in-ObjWrite.is c.write.ensures
