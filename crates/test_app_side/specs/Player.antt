-- The application of the tests: it plays asks in turn.
use Rattle.std.specs.Prelude.{◌==◌, [], ◌∷◌, true, if◌then◌else◌}
use Rattle.tee_base.specs.declared.codes.Code.{Code}
use Rattle.tee_base.specs.declared.codes.TheConstants.Code.{SUCCESS, CANCEL}
use Rattle.app_api.specs.declared.ask.Ask.{Ask}
use Rattle.app_api.specs.declared.ask.Ask.TheVariants as asked
use Rattle.app_api.specs.declared.ask.Answer.TheVariants as answers
use Rattle.app_api.specs.declared.ask.Given.{Given}
use Rattle.app_api.specs.declared.ask.Given.TheVariants as givens
use Rattle.app_api.specs.declared.out.Out.TheVariants as outs
use Rattle.app_api.specs.Outs.{no_outs}
use Rattle.test_app_side.specs.declared.player.Play.{Play}
use Rattle.test_app_side.specs.declared.player.Play.TheVariants as plays
use Rattle.test_app_side.specs.declared.player.Player.{Player}

-- what the last answer tells: the code of a refusal, CANCEL for yes, the number of a login for an identity, and else SUCCESS
abbrev pub told_by : Given → Code
told_by (givens.Answer (answers.Refused code)) = code
told_by (givens.Answer (answers.Truth true)) = CANCEL
told_by (givens.Answer (answers.Identity login id)) = record { 0 = login }
told_by given = SUCCESS

-- the return of this code, without outputs
abbrev pub return_with : Code → Ask
return_with code = asked.Return code no_outs

-- the return of this code, with the bytes `xy` for the first parameter
abbrev pub give_with : Code → Ask
give_with code = asked.Return code (record no_outs { p0 = outs.Mem (120 ∷ 121 ∷ []) })

-- the return of SUCCESS where this was told, and else a panic
abbrev pub success_if : Code → Code → Ask
success_if expected told = if told.0 == expected.0 then return_with SUCCESS else asked.Panic told

-- the object `a` is made anew, to be read, written and shared
abbrev pub making : Ask
making = asked.ObjCreate 1 (97 ∷ []) 1075 0 []

-- the object `a` is opened, to be read, written and shared
abbrev pub opening : Ask
opening = asked.ObjOpen 1 (97 ∷ []) 51

-- what a play asks for, where this was told
abbrev pub ask_of : Play → Code → Ask
ask_of (plays.Return code) told = return_with code
ask_of (plays.Give code) told = give_with code
ask_of plays.Told told = return_with told
ask_of (plays.Expect code) told = success_if code told
ask_of plays.Flag told = asked.CancelFlag
ask_of plays.Mask told = asked.CancelMask
ask_of plays.Unmask told = asked.CancelUnmask
ask_of plays.Who told = asked.ClientIdentity
ask_of plays.Create told = making
ask_of plays.Open told = opening

-- what is left to play; then each entry returns SUCCESS
abbrev pub rest : Player → Given → Player
rest a given = record {
  first = a.second;
  second = a.third;
  third = a.fourth;
  fourth = a.fifth;
  fifth = a.sixth;
  sixth = plays.Return SUCCESS;
}
