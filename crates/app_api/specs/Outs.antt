-- Outputs of an entry.
use Rattle.app_api.specs.declared.out.Out.TheVariants.{Nothing}
use Rattle.app_api.specs.declared.out.Outs.{Outs}

-- no output in any of the four places
abbrev pub no_outs : Outs
no_outs = record { p0 = Nothing; p1 = Nothing; p2 = Nothing; p3 = Nothing }
