-- The commands of the sample application Crypt, by their numbers and the kinds of their parameters.
use Rattle.std.specs.Prelude.{ℕ, ◌==◌, Option, None, Some, if◌then◌else◌}
use Rattle.app_api.specs.declared.param.Param.{Param}
use Rattle.app_api.specs.declared.param.Param.TheVariants.{Nothing, ValueIn, MemIn, MemOut}
use Rattle.app_api.specs.declared.param.Params.{Params}
use Rattle.sample_apps.specs.declared.crypt.commands.Command.{Command}
use Rattle.sample_apps.specs.declared.crypt.commands.Command.TheVariants.{SetUp, Update, Finish, Compare, Open}

-- 1: sets up an operation: its key, its algorithm and mode, its vector
unfoldable pub set_up_of : Param → Param → Param → Param → Option Command
set_up_of (MemIn key) (ValueIn alg mode) (MemIn iv) Nothing = Some (SetUp (record { alg = alg; mode = mode; key = key; iv = iv }))
set_up_of p0 p1 p2 p3 = None

-- 2: the next bytes of the message, and room for what comes of them
unfoldable pub update_of : Param → Param → Param → Param → Option Command
update_of (MemIn bytes) (MemOut room) Nothing Nothing = Some (Update bytes room)
update_of p0 p1 p2 p3 = None

-- 3: the last bytes of the message, and room for what comes of them
unfoldable pub finish_of : Param → Param → Param → Param → Option Command
finish_of (MemIn bytes) (MemOut room) Nothing Nothing = Some (Finish bytes room)
finish_of p0 p1 p2 p3 = None

-- 4: the last bytes of the message, and the code that it may have
unfoldable pub compare_of : Param → Param → Param → Param → Option Command
compare_of (MemIn bytes) (MemIn mac) Nothing Nothing = Some (Compare bytes mac)
compare_of p0 p1 p2 p3 = None

-- 5: the last bytes of a ciphertext, the tag that it may have, and room for what comes of them
unfoldable pub open_of : Param → Param → Param → Param → Option Command
open_of (MemIn bytes) (MemIn tag) (MemOut room) Nothing = Some (Open bytes tag room)
open_of p0 p1 p2 p3 = None

-- the command of a number, or none: the number is unknown, or the parameters are of other kinds
unfoldable pub command_of : ℕ → Params → Option Command
command_of n ps =
    if n == 1 then set_up_of ps.p0 ps.p1 ps.p2 ps.p3
    else if n == 2 then update_of ps.p0 ps.p1 ps.p2 ps.p3
    else if n == 3 then finish_of ps.p0 ps.p1 ps.p2 ps.p3
    else if n == 4 then compare_of ps.p0 ps.p1 ps.p2 ps.p3
    else if n == 5 then open_of ps.p0 ps.p1 ps.p2 ps.p3
    else None
