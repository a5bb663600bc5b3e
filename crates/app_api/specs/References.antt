-- References to blocks of shared memory, whole ones and parts (TEE Client API 1.0, sections 4.3.6 and 4.3.8).
use Rattle.std.specs.Prelude.{ℕ, ◌==◌, ◌||◌, Bool, true, false, Option, None, Some, if◌then◌else◌}
use Rattle.app_api.specs.declared.reference.Direction.{Direction}
use Rattle.app_api.specs.declared.reference.Direction.TheVariants.{Input, Output, Both}
use Rattle.app_api.specs.declared.reference.Reference.{Reference}
use Rattle.app_api.specs.declared.reference.Reference.TheVariants.{Whole, Part}
use Rattle.app_api.specs.declared.reference.References.{References}

-- ---- directions

-- the direction of memory flags or of a way, of which 1 is input and 2 is output
abbrev pub direction_of : ℕ → Option Direction
direction_of flags =
    if flags == 1 then Some Input
    else if flags == 2 then Some Output
    else if flags == 3 then Some Both
    else None

-- flags of one direction allow a reference in the other
abbrev pub allows : Direction → Direction → Bool
allows Both direction = true
allows Input Input = true
allows Input Output = false
allows Input Both = false
allows Output Input = false
allows Output Output = true
allows Output Both = false

-- the same of what may be no direction, which no flags allow
abbrev pub allows_way : Direction → Option Direction → Bool
allows_way flags None = false
allows_way flags (Some direction) = allows flags direction

-- ---- one reference

-- the number of the block that a reference names
abbrev pub number_of : Reference → ℕ
number_of (Whole number) = number
number_of (Part number way at size) = number

-- where a reference begins in its block
abbrev pub start_of : Reference → ℕ
start_of (Whole number) = 0
start_of (Part number way at size) = at

-- ---- those of a call

-- no parameter is a reference
abbrev pub no_references : References
no_references = record { p0 = None; p1 = None; p2 = None; p3 = None }

-- it is a reference to this block
abbrev pub names : ℕ → Option Reference → Bool
names block None = false
names block (Some reference) = number_of reference == block

-- one of them is to this block
abbrev pub name_block : ℕ → References → Bool
name_block block rs = names block rs.p0 || names block rs.p1 || names block rs.p2 || names block rs.p3
