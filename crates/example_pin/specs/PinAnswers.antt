-- What Pin does with the answers to its asks. A refusal ends the command with its code; an answer that the ask can't give ends it
-- with GENERIC. An object that is open is closed first.
use Rattle.std.specs.Prelude.{ℕ, Bool, ◌+◌, ◌-◌, ◌==◌, nat_lt, if◌then◌else◌, List, [], ◌∷◌, pos}
use Rattle.std.specs.Str.{bytes_eq}
use Rattle.app_api.specs.declared.ask.Answer.{Answer}
use Rattle.app_api.specs.declared.ask.Answer.TheVariants.{Done, Refused, Number, Content}
use Rattle.app_api.specs.declared.ask.Ask.TheVariants.{ObjClose, ObjRead, ObjSeek, ObjWrite}
use Rattle.app_api.specs.declared.out.Out.TheVariants.{Value}
use Rattle.app_kit.specs.Reactions.{ask_for, at_p1, fail_with, return_with}
use Rattle.app_kit.specs.declared.reaction.Reaction.{Reaction}
use Rattle.tee_base.specs.declared.codes.Code.{Code}
use Rattle.tee_base.specs.declared.codes.TheConstants.Code.{ACCESS_DENIED, BAD_STATE, GENERIC, SECURITY, SUCCESS}
use Rattle.example_pin.specs.declared.pin.Attempt.{Attempt}
use Rattle.example_pin.specs.declared.pin.Pin.{Pin}
use Rattle.example_pin.specs.declared.pin.Pin.TheVariants.{Idle, Setting, Opening, Reading, Seeking, Counting, Closing, Leaving}
use Rattle.example_pin.specs.PinCommands.{all_tries, most_bytes}

-- the code of an answer that isn't the one hoped for
unfoldable pub code_of : Answer → Code
code_of (Refused code) = code
code_of answer = GENERIC

-- such an answer ends the command
abbrev pub end_with_refusal : Answer → Reaction Pin
end_with_refusal answer = fail_with Idle (code_of answer)

-- the object is closed, and then the tries are shown
abbrev pub close : ℕ → Code → ℕ → Reaction Pin
close object code tries = ask_for (Closing code tries) (ObjClose object)

-- the object is closed, and then the command ends with a code alone
abbrev pub leave : ℕ → Code → Reaction Pin
leave object code = ask_for (Leaving code) (ObjClose object)

-- the tries are to be kept, at the start of the object
abbrev pub keep_tries : Attempt → Reaction Pin
keep_tries attempt = ask_for (Seeking attempt) (ObjSeek attempt.object (pos 0) 0)

-- 1: the new object
unfoldable pub after_setting : Answer → Reaction Pin
after_setting (Number object) = close object SUCCESS all_tries
after_setting answer = end_with_refusal answer

-- 2: the object, all of which is read
unfoldable pub after_opening : List ℕ → Answer → Reaction Pin
after_opening guess (Number object) = ask_for (Reading object guess) (ObjRead object (most_bytes + 1))
after_opening guess answer = end_with_refusal answer

-- 2: a try is taken, where one is left
abbrev pub take_try : ℕ → ℕ → Bool → Reaction Pin
take_try object tries is_right =
    if tries == 0 then close object ACCESS_DENIED 0
    else keep_tries (record { object = object; tries = tries - 1; is_right = is_right })

-- 2: the object holds the tries that are left, and the PIN
unfoldable pub judge : ℕ → List ℕ → List ℕ → Reaction Pin
judge object [] guess = leave object BAD_STATE
judge object (tries ∷ pin) guess = take_try object tries (bytes_eq pin guess)

-- 2: what the object holds
unfoldable pub after_reading : ℕ → List ℕ → Answer → Reaction Pin
after_reading object guess (Content kept) = judge object kept guess
after_reading object guess answer = leave object (code_of answer)

-- 2: the position, at which the tries are written
unfoldable pub after_seeking : Attempt → Answer → Reaction Pin
after_seeking attempt Done = ask_for (Counting attempt) (ObjWrite attempt.object (attempt.tries ∷ []))
after_seeking attempt answer = leave attempt.object (code_of answer)

-- the tries are kept: a wrong guess is told; a right one gets all tries back, and is told when they are kept too
abbrev pub tell : Attempt → Reaction Pin
tell attempt =
    if attempt.is_right then
    if nat_lt attempt.tries all_tries then keep_tries (record attempt { tries = all_tries })
    else close attempt.object SUCCESS attempt.tries
    else close attempt.object SECURITY attempt.tries

-- 2: the tries are written
unfoldable pub after_counting : Attempt → Answer → Reaction Pin
after_counting attempt Done = tell attempt
after_counting attempt answer = leave attempt.object (code_of answer)

-- the object is closed, and the tries are shown
unfoldable pub after_closing : Code → ℕ → Answer → Reaction Pin
after_closing code tries Done = return_with Idle code (at_p1 (Value tries 0))
after_closing code tries answer = end_with_refusal answer

-- the object is closed, where the command had to end
unfoldable pub after_leaving : Code → Answer → Reaction Pin
after_leaving code Done = fail_with Idle code
after_leaving code answer = end_with_refusal answer

-- an answer, for the command that waits
unfoldable pub after_answer : Pin → Answer → Reaction Pin
after_answer Idle answer = end_with_refusal answer
after_answer Setting answer = after_setting answer
after_answer (Opening guess) answer = after_opening guess answer
after_answer (Reading object guess) answer = after_reading object guess answer
after_answer (Seeking attempt) answer = after_seeking attempt answer
after_answer (Counting attempt) answer = after_counting attempt answer
after_answer (Closing code tries) answer = after_closing code tries answer
after_answer (Leaving code) answer = after_leaving code answer
