-- The numbers of origins.
use Rattle.std.specs.Prelude.{ℕ}
use Rattle.tee_base.specs.declared.codes.Origin.{Origin}
use Rattle.tee_base.specs.declared.codes.Origin.TheVariants.{Api, Comms, Tee, App}

-- the number of an origin (TEE Client API 1.0, section 4.4.3)
abbrev pub number_of : Origin → ℕ
number_of Api = 1
number_of Comms = 2
number_of Tee = 3
number_of App = 4
