-- What an application does with what it is given: its state afterwards, and what it asks for.
use Rattle.tee_base.specs.declared.codes.Code.{Code}
use Rattle.app_api.specs.declared.ask.Ask.{Ask}
use Rattle.app_api.specs.declared.ask.Ask.TheVariants.{Return}
use Rattle.app_api.specs.declared.out.Out.{Out}
use Rattle.app_api.specs.declared.out.Outs.{Outs}
use Rattle.app_api.specs.Outs.{no_outs}
use Rattle.app_kit.specs.declared.reaction.Reaction.{Reaction}
use Rattle.tee_base.specs.declared.codes.TheConstants.Code.{SUCCESS}

-- this state afterwards, and this ask
abbrev pub ask_for : {S : Type 0} → S → Ask → Reaction S
ask_for state ask = record { state = state; ask = ask }

-- the entry returns
abbrev pub return_with : {S : Type 0} → S → Code → Outs → Reaction S
return_with state code outs = ask_for state (Return code outs)

-- the entry returns success, with these outputs
abbrev pub succeed_with : {S : Type 0} → S → Outs → Reaction S
succeed_with state outs = return_with state SUCCESS outs

-- the entry returns this code, without outputs
abbrev pub fail_with : {S : Type 0} → S → Code → Reaction S
fail_with state code = return_with state code no_outs

-- this as the first output, and nothing else
abbrev pub at_p0 : Out → Outs
at_p0 out = record no_outs { p0 = out }

-- the same as the second output
abbrev pub at_p1 : Out → Outs
at_p1 out = record no_outs { p1 = out }

-- the same as the third output
abbrev pub at_p2 : Out → Outs
at_p2 out = record no_outs { p2 = out }

-- the same as the fourth output
abbrev pub at_p3 : Out → Outs
at_p3 out = record no_outs { p3 = out }
