-- What a client's call is, whatever comes of it.
use Rattle.std.specs.Prelude.{Bool, true, false}
use Rattle.app_api.specs.declared.call.Call.{Call}
use Rattle.app_api.specs.declared.call.Call.TheVariants.{Open, Invoke, Close, Share, Fill, Show, Unshare}
use Rattle.app_api.specs.declared.reference.References.{References}
use Rattle.app_api.specs.Params.{references_of}
use Rattle.app_api.specs.References.{no_references}

-- the call is about shared memory
abbrev pub is_memory_call : Call → Bool
is_memory_call (Open label login ps) = false
is_memory_call (Invoke label command ps) = false
is_memory_call (Close label) = false
is_memory_call (Share block flags size) = true
is_memory_call (Fill block at bytes) = true
is_memory_call (Show block) = true
is_memory_call (Unshare block) = true

-- the references of a call's parameters
abbrev pub call_references : Call → References
call_references (Open label login ps) = references_of ps
call_references (Invoke label command ps) = references_of ps
call_references (Close label) = no_references
call_references (Share block flags size) = no_references
call_references (Fill block at bytes) = no_references
call_references (Show block) = no_references
call_references (Unshare block) = no_references
