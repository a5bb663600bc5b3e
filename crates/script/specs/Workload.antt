-- The generated workload of a number: lines that are drawn, one after the other.
use Rattle.std.specs.Prelude.{ℕ, zero, suc, ◌+◌, ◌*◌, ◌/◌, ◌%◌, ◌^◌, ◌==◌, nat_lt, if◌then◌else◌, false, List, [], ◌∷◌, map}
use Rattle.std.specs.List.{range_with_len}
use Rattle.app_api.specs.declared.call.Call.{Call}
use Rattle.app_api.specs.declared.call.Call.TheVariants.{Open, Invoke, Close}
use Rattle.app_api.specs.declared.login.Login.TheVariants.{Public}
use Rattle.app_api.specs.declared.param.Param.{Param}
use Rattle.app_api.specs.declared.param.Param.TheVariants.{Nothing, ValueIn, ValueOut, MemIn}
use Rattle.app_api.specs.declared.param.Params.{Params}
use Rattle.app_api.specs.Params.{no_params}
use Rattle.script.specs.declared.line.Line.{Line}
use Rattle.script.specs.declared.line.Line.TheVariants as lines
use Rattle.script.specs.declared.generated.Drawn.{Drawn}
use Rattle.script.specs.declared.generated.TheConstants.{CLIENT, CREATE, DRAWS_A_LINE, HIDDEN, INCREMENT, LINES, LINE_TURNS, MULTIPLIER, OVERWRITE}

-- what the next number is drawn from
abbrev pub next_state : ℕ → ℕ
next_state state = (state * MULTIPLIER + INCREMENT) % 2 ^ 64

-- the same so many draws behind a number
abbrev pub state_after : ℕ → ℕ → ℕ
state_after number zero = number
state_after number (suc draws) = next_state (state_after number draws)

-- the n-th number that is drawn behind a state, the first being 1: its upper bits
abbrev pub draw_at : ℕ → ℕ → ℕ
draw_at state n = state_after state n / HIDDEN

-- what is drawn for a line, where there are so many hosts
abbrev pub drawn_for : ℕ → ℕ → Drawn
drawn_for hosts state = record {
  app = draw_at state 1 % hosts;
  kind = draw_at state 2 % 8;
  label = 1 + draw_at state 3 % 3;
  command = 1 + draw_at state 4 % 15;
  first = draw_at state 5;
  second = draw_at state 6;
}

-- the parameters of a command
abbrev pub params : Param → Param → Param → Param → Params
params p0 p1 p2 p3 = record { p0 = p0; p1 = p1; p2 = p2; p3 = p3 }

-- a memory input of one byte
abbrev pub byte : ℕ → Param
byte number = MemIn (number % 256 ∷ [])

-- a call that gets turns until it is answered
abbrev pub call_line : ℕ → Call → Line
call_line app call = lines.Call app CLIENT false call

-- the line of what was drawn, by its kind
abbrev pub line_of : Drawn → Line
line_of d =
    if nat_lt d.kind 2 then call_line d.app (Open d.label Public no_params) else
    if nat_lt d.kind 4 then call_line d.app (Invoke d.label d.command
    (params (byte d.first) (ValueIn (d.second % 8) (d.second % 64)) ValueOut Nothing)) else
    if d.kind == 4 then call_line d.app (Invoke d.label d.command
    (params (ValueIn (d.first % 4) (d.second % 64)) ValueOut Nothing Nothing)) else
    if d.kind == 5 then call_line d.app (Invoke d.label CREATE
    (params (byte d.first) (ValueIn (OVERWRITE + d.second % 8) 0) (byte d.first) ValueOut)) else
    if d.kind == 6 then call_line d.app (Close d.label) else
    lines.Turns d.app CLIENT (1 + d.first % 4) LINE_TURNS

-- the line of this index: it is drawn behind those before it
abbrev pub line_at : ℕ → ℕ → ℕ → Line
line_at number hosts index = line_of (drawn_for hosts (state_after number (DRAWS_A_LINE * index)))

-- the workload of a number for so many hosts
unfoldable pub workload_of : ℕ → ℕ → List Line
workload_of number hosts = map (line_at number hosts) (range_with_len 0 LINES)
