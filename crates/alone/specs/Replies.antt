-- Replies to client operations.
use Rattle.alone.specs.declared.reply.Outputs.{Outputs}
use Rattle.alone.specs.declared.reply.Shown.TheVariants.{Nothing}

-- the outputs of a reply that shows none
abbrev pub no_outputs : Outputs
no_outputs = record { p0 = Nothing; p1 = Nothing; p2 = Nothing; p3 = Nothing }
