-- Parameters of a call: their kinds, and the sizes of memory references.
use Rattle.std.specs.Prelude.{ℕ, ◌+◌, ◌%◌, Bool, List, [], ◌∷◌, Option, None, Some, length, position, nat_lt}
use Rattle.tee_base.specs.declared.limits.TheConstants.{MAX_ASK_BYTES}
use Rattle.app_api.specs.declared.param.Param.{Param}
use Rattle.app_api.specs.declared.param.Param.TheVariants.{Nothing, ValueIn, ValueOut, ValueInOut, MemIn, MemOut, MemInOut, Whole, Part}
use Rattle.app_api.specs.declared.param.Params.{Params}
use Rattle.app_api.specs.declared.reference.Reference.{Reference}
use Rattle.app_api.specs.declared.reference.Reference.TheVariants as references
use Rattle.app_api.specs.declared.reference.References.{References}

-- the number of a parameter's type (TEE Internal Core API 1.3, table 4-9; of a reference TEE Client API 1.0, table 4-6): a whole reference
-- is 0xC, and a part 0xC and its way. A way is 1, 2 or 3; a call with another is refused
abbrev pub kind_of : Param → ℕ
kind_of Nothing = 0
kind_of (ValueIn a b) = 1
kind_of ValueOut = 2
kind_of (ValueInOut a b) = 3
kind_of (MemIn bytes) = 5
kind_of (MemOut room) = 6
kind_of (MemInOut bytes) = 7
kind_of (Whole block) = 0xC
kind_of (Part block way at size) = (0xC + way) % 256

-- the bytes of a memory reference, as it says them; a whole block says none
abbrev pub size_of : Param → ℕ
size_of Nothing = 0
size_of (ValueIn a b) = 0
size_of ValueOut = 0
size_of (ValueInOut a b) = 0
size_of (MemIn bytes) = length bytes
size_of (MemOut room) = room
size_of (MemInOut bytes) = length bytes
size_of (Whole block) = 0
size_of (Part block way at size) = size

-- a memory reference of more than an ask may bring
abbrev pub is_oversized : Param → Bool
is_oversized p = nat_lt MAX_ASK_BYTES (size_of p)

-- the four in order
abbrev pub params_of : Params → List Param
params_of ps = ps.p0 ∷ ps.p1 ∷ ps.p2 ∷ ps.p3 ∷ []

-- the index of the first memory reference that is too large
abbrev pub first_oversized : Params → Option ℕ
first_oversized ps = position is_oversized (params_of ps)

-- no parameter in any of the four places
abbrev pub no_params : Params
no_params = record { p0 = Nothing; p1 = Nothing; p2 = Nothing; p3 = Nothing }

-- ---- references to shared memory

-- the reference that a parameter is, if it is one
abbrev pub reference_of : Param → Option Reference
reference_of (Whole block) = Some (references.Whole block)
reference_of (Part block way at size) = Some (references.Part block way at size)
reference_of p = None

-- the parameter that a reference is
abbrev pub param_of_reference : Reference → Param
param_of_reference (references.Whole block) = Whole block
param_of_reference (references.Part block way at size) = Part block way at size

-- the references that four parameters are
abbrev pub references_of : Params → References
references_of ps = record { p0 = reference_of ps.p0; p1 = reference_of ps.p1; p2 = reference_of ps.p2; p3 = reference_of ps.p3 }
