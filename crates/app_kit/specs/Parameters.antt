-- What the parameters of a call bring in.
use Rattle.std.specs.Prelude.{ℕ, List, Option, None, Some}
use Rattle.app_api.specs.declared.param.Param.{Param}
use Rattle.app_api.specs.declared.param.Param.TheVariants.{MemIn}

-- the bytes of a memory reference that the application reads
abbrev pub bytes_in : Param → Option (List ℕ)
bytes_in (MemIn bytes) = Some bytes
bytes_in p = None
