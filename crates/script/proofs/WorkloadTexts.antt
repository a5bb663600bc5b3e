-- The canonical text of a workload reads to it.
use Rattle.std.proofs.Common.{ℕ, zero, suc, ◌+◌, ◌*◌, ◌%◌, ◌^◌, ◌<◌, ◌≤◌, Bool, true, false, cond, List, [], ◌∷◌, length, map, refl, arith, inl, inr}
use Rattle.std.specs.Prelude.{codes, nat_lt, ◌==◌}
use Rattle.std.specs.Fmt.{decimal}
use Rattle.std.specs.List.{AllByRecursion, range_with_len}
use Rattle.std.proofs.lemmas.Option.{slice_get_cases}
use Rattle.std.proofs.Math.Nat.{mod-lt}
use Rattle.hex.specs.Hex.{encode_lower, IsBytes}
use Rattle.hex.proofs.HexLemmas.{decode_of-encode_lower}
use Rattle.app_api.specs.declared.call.Call.{Call}
use Rattle.app_api.specs.declared.call.Call.TheVariants as calls
use Rattle.app_api.specs.declared.host.Host.{Host}
use Rattle.app_api.specs.declared.login.Login.TheVariants.{Public}
use Rattle.app_api.specs.declared.param.Param.TheVariants.{Nothing, ValueIn, ValueOut}
use Rattle.app_api.specs.declared.param.Params.{Params}
use Rattle.app_api.specs.Hosts.{HostsFit}
use Rattle.app_api.specs.Params.{no_params, params_of}
use Rattle.script.specs.declared.dialect.Dialect.TheVariants.{Whole}
use Rattle.script.specs.declared.generated.Drawn.{Drawn}
use Rattle.script.specs.declared.generated.TheConstants.{CLIENT, CREATE, DRAWS_A_LINE, LINES, LINE_TURNS, OVERWRITE}
use Rattle.script.specs.declared.line.Line.TheVariants as lines
use Rattle.script.specs.Canonical.{call_words, canonical, name_at, params_words}
use Rattle.script.specs.Grammar.{IsCall, IsHost, IsLine, Reads}
use Rattle.script.specs.Words.{IsNumber32, IsParam}
use Rattle.script.specs.Workload.{byte, call_line, draw_at, drawn_for, line_at, line_of, params, state_after, workload_of}
use Rattle.script.proofs.CanonicalTexts.{CanStand, can_stand, name_is, printed_reads}
use Rattle.script.proofs.Decimals.{decimal_number}
use Rattle.script.proofs.PrintedWords.{CanPrint, none_prints, params_printed}

number32 : (n : ℕ) → n < 2 ^ 32 → IsNumber32 (decimal n) n
number32 n small = (decimal_number n (omega (arith, small)), small)

-- ---- parameters

value_prints : (a b : ℕ) → a < 2 ^ 32 → b < 2 ^ 32 → CanPrint (ValueIn a b)
unfolding IsParam
value_prints a b small other = ((decimal a, decimal b, number32 a small, number32 b other, refl), refl)

room_prints : CanPrint ValueOut
unfolding IsParam
room_prints = (refl, refl)

one_byte : (n : ℕ) → IsBytes (n % 256 ∷ [])
one_byte n zero = omega arith
one_byte n (suc i) = omega arith

byte_prints : (n : ℕ) → CanPrint (byte n)
unfolding IsParam
byte_prints n = inl ((encode_lower (n % 256 ∷ []), decode_of-encode_lower (n % 256 ∷ []) (one_byte n), refl), refl)

-- ---- calls

IsPrintable : Call → Type 0
IsPrintable call = IsCall (call_words call) call 0

opens : (label : ℕ) → label < 2 ^ 32 → IsPrintable (calls.Open label Public no_params)
unfolding IsPrintable IsCall
opens label small = (decimal label, [], [], number32 label small, refl, params_printed (params_of no_params) (none_prints, (none_prints, (none_prints, (none_prints, tt)))), refl)

invokes : (label command : ℕ) (given : Params) → label < 2 ^ 32 → command < 2 ^ 32 → AllByRecursion CanPrint (params_of given) → IsPrintable (calls.Invoke label command given)
unfolding IsPrintable IsCall
invokes label command given small other each =
    (decimal label, decimal command, params_words (params_of given), number32 label small, number32 command other, params_printed (params_of given) each, refl)

closes : (label : ℕ) → label < 2 ^ 32 → IsPrintable (calls.Close label)
unfolding IsPrintable IsCall
closes label small = (decimal label, number32 label small, refl, refl)

-- ---- lines

module _ {A : Type 0} (hosts : List (Host A)) (fit : HostsFit hosts) where
  is_host : (app : ℕ) → app < length hosts → IsHost hosts (name_at hosts app) app
  is_host app known =
      elim ((slice_get_cases hosts app).1) [
        | inl here ↦ (here.0, here.2, inl (name_is hosts app here.0 here.2))
        | inr there ↦ absurd (omega (arith, known, there.0))
      ]

  call_stands : (app : ℕ) (call : Call) → app < length hosts → IsPrintable call → CanStand hosts (call_line app call)
  unfolding IsPrintable IsLine
  call_stands app call known says =
      can_stand hosts CLIENT (name_at hosts app ∷ call_words call) (call_line app call) 0 fit (omega arith)
      (refl, name_at hosts app, call_words call, is_host app known, inl (call_words call, says, refl), refl)

  turns_stand : (app instance : ℕ) → app < length hosts → 1 ≤ instance → instance ≤ 4 → CanStand hosts (lines.Turns app CLIENT instance LINE_TURNS)
  unfolding IsLine
  turns_stand app instance known least most =
      can_stand hosts CLIENT (name_at hosts app ∷ codes "turn" ∷ decimal instance ∷ decimal LINE_TURNS ∷ []) (lines.Turns app CLIENT instance LINE_TURNS) 0 fit (omega arith) (
        refl,
        name_at hosts app,
        decimal instance,
        decimal LINE_TURNS,
        is_host app known,
        decimal_number instance (omega (arith, most)),
        decimal_number LINE_TURNS (omega arith),
        least,
        omega (arith, most),
        omega arith,
        omega arith,
        refl,
        refl,
      )

  -- each kind of line can be printed
  line_stands : (d : Drawn) → d.app < length hosts → d.label < 2 ^ 32 → d.command < 2 ^ 32 → CanStand hosts (line_of d)
  line_stands d known label command = by_open (nat_lt d.kind 2) (nat_lt d.kind 4) (d.kind == 4) (d.kind == 5) (d.kind == 6)
    where
      by_open : (open_ invoke value create close : Bool) → CanStand hosts (cond open_ (call_line d.app (calls.Open d.label Public no_params)) (cond invoke
          (call_line d.app (calls.Invoke d.label d.command (params (byte d.first) (ValueIn (d.second % 8) (d.second % 64)) ValueOut Nothing))) (cond value
          (call_line d.app (calls.Invoke d.label d.command (params (ValueIn (d.first % 4) (d.second % 64)) ValueOut Nothing Nothing))) (cond create
          (call_line d.app (calls.Invoke d.label CREATE (params (byte d.first) (ValueIn (OVERWRITE + d.second % 8) 0) (byte d.first) ValueOut))) (cond close
          (call_line d.app (calls.Close d.label)) (lines.Turns d.app CLIENT (1 + d.first % 4) LINE_TURNS))))))
      by_open true invoke value create close = call_stands d.app _ known (opens d.label label)
      by_open false true value create close =
          call_stands d.app _ known (invokes d.label d.command _ label command
          (byte_prints d.first, (value_prints (d.second % 8) (d.second % 64) (omega arith) (omega arith), (room_prints, (none_prints, tt)))))
      by_open false false true create close =
          call_stands d.app _ known (invokes d.label d.command _ label command
          (value_prints (d.first % 4) (d.second % 64) (omega arith) (omega arith), (room_prints, (none_prints, (none_prints, tt)))))
      by_open false false false true close =
          call_stands d.app _ known (invokes d.label CREATE _ label (omega arith)
          (byte_prints d.first, (value_prints (OVERWRITE + d.second % 8) 0 (omega arith) (omega arith), (byte_prints d.first, (room_prints, tt)))))
      by_open false false false false true = call_stands d.app _ known (closes d.label label)
      by_open false false false false false = turns_stand d.app (1 + d.first % 4) known (omega arith) (omega arith)

  at_stands : (number index : ℕ) → CanStand hosts (line_at number (length hosts) index)
  at_stands number index =
      let state = state_after number (DRAWS_A_LINE * index) in
      let label : 1 + draw_at state 3 % 3 < 2 ^ 32 = omega arith in
      let command : 1 + draw_at state 4 % 15 < 2 ^ 32 = omega arith in
      line_stands (drawn_for (length hosts) state) (mod-lt (draw_at state 1) fit.some) label command

  all_stand : (number start count : ℕ) → AllByRecursion (CanStand hosts) (map (line_at number (length hosts)) (range_with_len start count))
  all_stand number start zero = tt
  all_stand number start (suc count) = (at_stands number start, all_stand number (start + 1) count)

  pub workload_reads : (number : ℕ) → Reads Whole hosts (canonical hosts (workload_of number (length hosts))) (workload_of number (length hosts))
  unfolding workload_of
  workload_reads number = printed_reads hosts (workload_of number (length hosts)) (all_stand number 0 LINES)
