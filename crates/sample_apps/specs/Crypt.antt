-- The sample application Crypt.
use Rattle.std.specs.Prelude.{ℕ, Option, None, Some}
use Rattle.app_api.specs.declared.ask.Answer.{Answer}
use Rattle.app_api.specs.declared.ask.Ask.{Ask}
use Rattle.app_api.specs.declared.ask.Given.{Given}
use Rattle.app_api.specs.declared.ask.Given.TheVariants as givens
use Rattle.app_api.specs.declared.ask.Entry.{Entry}
use Rattle.app_api.specs.declared.ask.Entry.TheVariants.{Create, Destroy, Start, Stop, Invoke}
use Rattle.app_api.specs.Outs.{no_outs}
use Rattle.app_kit.specs.declared.reaction.Reaction.{Reaction}
use Rattle.sample_apps.specs.declared.crypt.Crypt.{Crypt}
use Rattle.sample_apps.specs.declared.crypt.Class.{Class}
use Rattle.sample_apps.specs.declared.crypt.Waiting.{Waiting}
use Rattle.sample_apps.specs.declared.crypt.Waiting.TheVariants as waiting
use Rattle.sample_apps.specs.declared.crypt.commands.Command.{Command}
use Rattle.sample_apps.specs.declared.crypt.commands.Command.TheVariants.{SetUp, Update, Finish, Compare, Open}
use Rattle.tee_base.specs.declared.codes.TheConstants.Code.{GENERIC, BAD_PARAMETERS}
use Rattle.app_kit.specs.Reactions.{succeed_with, fail_with}
use Rattle.sample_apps.specs.CryptCommands.{command_of}
use Rattle.sample_apps.specs.CryptSetUp as first
use Rattle.sample_apps.specs.CryptMessages as messages

-- what a command asks for first
unfoldable pub reaction_to_command : Crypt → Command → Reaction Crypt
reaction_to_command c (SetUp plan) = first.set_up c plan
reaction_to_command c (Update bytes room) = messages.update c c.class bytes room
reaction_to_command c (Finish bytes room) = messages.finish c c.class bytes room
reaction_to_command c (Compare bytes mac) = messages.compare c c.class bytes mac
reaction_to_command c (Open bytes tag room) = messages.open_last c c.class bytes tag room

-- an unknown command, or one with parameters of other kinds, is refused before anything else
unfoldable pub reaction_to_invocation : Crypt → Option Command → Reaction Crypt
reaction_to_invocation c None = fail_with (first.idle c) BAD_PARAMETERS
reaction_to_invocation c (Some command) = reaction_to_command c command

-- an entry begins anew, whatever waited
unfoldable pub reaction_to_entry : Crypt → Entry → Reaction Crypt
reaction_to_entry c Create = succeed_with (first.idle c) no_outs
reaction_to_entry c Destroy = succeed_with (first.idle c) no_outs
reaction_to_entry c (Start session ps) = succeed_with (first.idle c) no_outs
reaction_to_entry c (Stop session) = succeed_with (first.idle c) no_outs
reaction_to_entry c (Invoke session n ps) = reaction_to_invocation c (command_of n ps)

-- the ask that begins a message of the operation that is set up
abbrev pub beginning_at : ℕ → Option Class → Option Ask
beginning_at op None = None
beginning_at op (Some class) = first.beginning_of op class

-- the ask that begins a message, where it may come after the next answer
unfoldable pub beginning_while : ℕ → Option Class → Waiting → Option Ask
beginning_while op class (waiting.ClosingKey next) = first.beginning_of op next
beginning_while op class waiting.Finishing = beginning_at op class
beginning_while op class (waiting.Sealing size) = beginning_at op class
beginning_while op class waiting.Opening = beginning_at op class
beginning_while op class what = None

-- an answer comes to command 1, which waits. The beginning is the ask that begins a message
unfoldable pub set_up_while : Crypt → Waiting → Option Ask → Answer → Reaction Crypt
set_up_while c (waiting.Freeing plan) beginning answer = first.after_op_free c plan answer
set_up_while c (waiting.Allocating plan) beginning answer = first.after_op_new c plan answer
set_up_while c (waiting.MakingKey key class) beginning answer = first.after_key_new c key class answer
set_up_while c (waiting.FillingKey object class) beginning answer = first.after_key_populate c object class answer
set_up_while c (waiting.SettingKey object class) beginning answer = first.after_op_set_key c object class answer
set_up_while c (waiting.ClosingKey class) beginning answer = first.after_key_close c class beginning answer
set_up_while c (waiting.Beginning class) beginning answer = first.after_first_beginning c class answer
set_up_while c what beginning answer = fail_with (first.idle c) GENERIC

-- an answer comes to the command that waits; where none waits, none can come
unfoldable pub reaction_while : Crypt → Waiting → Option Ask → Answer → Reaction Crypt
reaction_while c waiting.Enciphering beginning answer = messages.after_cipher_update c answer
reaction_while c waiting.Absorbing beginning answer = messages.after_absorption c answer
reaction_while c waiting.Finishing beginning answer = messages.after_final c beginning answer
reaction_while c (waiting.Sealing size) beginning answer = messages.after_seal c beginning size answer
reaction_while c waiting.Opening beginning answer = messages.after_open c beginning answer
reaction_while c (waiting.Reopening content) beginning answer = messages.after_opened_beginning c content answer
reaction_while c (waiting.Renewing content) beginning answer = messages.after_next_beginning c content answer
reaction_while c waiting.Comparing beginning answer = messages.after_mac_compare c answer
reaction_while c (waiting.Judging code) beginning answer = messages.after_compared_beginning c code answer
reaction_while c what beginning answer = set_up_while c what beginning answer

-- an answer comes
abbrev pub reaction_to_answer : Crypt → Answer → Reaction Crypt
reaction_to_answer c answer = reaction_while (first.idle c) c.waiting (beginning_while c.op c.class c.waiting) answer

-- what Crypt does with what it is given
unfoldable pub reaction : Crypt → Given → Reaction Crypt
reaction c (givens.Entry entry) = reaction_to_entry c entry
reaction c (givens.Answer answer) = reaction_to_answer c answer

-- the state after what is given
abbrev pub next_state : Crypt → Given → Crypt
next_state c given = (reaction c given).state

-- what is asked for
abbrev pub next_ask : Crypt → Given → Ask
next_ask c given = (reaction c given).ask
