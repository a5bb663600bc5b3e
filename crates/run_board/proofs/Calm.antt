-- The weather of a text without a line of the board, and a workload, which has no orders.
use Rattle.std.proofs.Common.{◌≡◌, ◌<◌, ◌*◌, ◌+◌, ◌%◌, ℕ, zero, suc, true, false, cond, List, [], ◌∷◌, ◌++◌, length, drop, map, refl, sym, ap, subst, ◌∙◌, append_assoc, arith}
use Rattle.std.specs.Prelude.{codes, filter, slice_index_or}
use Rattle.std.specs.List.{AllByRecursion, range_with_len}
use Rattle.std.specs.Fmt.{decimal}
use Rattle.std.specs.Str.{bytes_eq}
use Rattle.std.proofs.lemmas.Bool.{false_from_ne_true}
use Rattle.std.proofs.lemmas.Bool.Decides.{Decides-eqb}
use Rattle.std.proofs.lemmas.Slice.Eq.{bytes_eq-Decides, starts_is}
use Rattle.alone.specs.declared.power.Power.TheVariants.{Kept}
use Rattle.board.specs.Moment.{View}
use Rattle.report.specs.Texts.{mark_text, power_text}
use Rattle.script.specs.Workload.{draw_at, line_at, line_of, state_after, workload_of}
use Rattle.script.specs.declared.line.Line.{Line}
use Rattle.script.specs.declared.line.Line.TheVariants as lines
use Rattle.run_board.specs.BoardLines.{begins_with, has_line, power_lines, says_kept, weather_in, whole_lines}
use Rattle.run_board.specs.Boards.{HasFirstOrders, HasOrders, HasPower, order_of, orders_of}
use Rattle.run_board.specs.Generated.{calm}
use Rattle.run_board.specs.Isolation.{HasNoLine}
use Rattle.run_board.proofs.Parts.{orders_of_both}
use Rattle.run_board.proofs.Texts.{lacks_line}

-- ---- a text without a line of the board

-- the front of every line of the board
abbrev board_front : List ℕ
board_front = codes "board "

mark_is : (front word name digits : List ℕ) → front ++ (word ++ codes " " ++ name ++ codes " " ++ digits) ++ codes "\n" ≡ front ++ word ++ codes " " ++ name ++ codes " " ++ digits ++ codes "\n"
mark_is front word name digits = simp append_assoc

no_mark : (text word name : List ℕ) (turn : ℕ) → HasNoLine board_front text → has_line text (mark_text word name turn) ≡ false
no_mark text word name turn none =
    subst (λ zs. has_line text zs ≡ false) (mark_is board_front word name (decimal turn))
    (lacks_line board_front (word ++ codes " " ++ name ++ codes " " ++ decimal turn) (whole_lines text) none)

-- a line that doesn't begin so doesn't begin with more
longer_none : (front more line : List ℕ) → begins_with front line ≡ false → begins_with (front ++ more) line ≡ false
longer_none front more line none =
    false_from_ne_true (begins_with (front ++ more) line)
    (λ yes.
    let whole : line ≡ (front ++ more) ++ drop (length (front ++ more)) line = (starts_is Decides-eqb line (front ++ more) (begins_with (front ++ more) line) refl).0 yes in
    let begins : begins_with front line ≡ true =
    (starts_is Decides-eqb line front (begins_with front line) refl).1 (more ++ drop (length (front ++ more)) line) (whole ∙ append_assoc front more (drop (length (front ++ more)) line)) in
    let e : false ≡ true = sym none ∙ begins in cc)

none_left : (front more : List ℕ) (text : List (List ℕ)) → AllByRecursion (λ line. begins_with front line ≡ false) text → filter (begins_with (front ++ more)) text ≡ []
none_left front more [] none = refl
none_left front more (line ∷ text) none =
    ap (λ b. cond b (line ∷ filter (begins_with (front ++ more)) text) (filter (begins_with (front ++ more)) text)) (longer_none front more line none.0) ∙ none_left front more text none.1

index_none : (lines : List (List ℕ)) (power : ℕ) → lines ≡ [] → slice_index_or lines power [] ≡ []
index_none [] zero e = refl
index_none [] (suc power) e = refl
index_none (line ∷ lines) power e = absurd (let none : line ∷ lines ≡ [] = e in cc)

no_line : (name : List ℕ) (app : ℕ) → bytes_eq (codes "\n") (power_text name (Kept app)) ≡ false
no_line name app =
    false_from_ne_true (bytes_eq (codes "\n") (power_text name (Kept app)))
    (λ yes.
    let whole : ◌≡◌ {A = List ℕ} (10 ∷ []) (98 ∷ (codes "oard power kept " ++ name ++ codes "\n")) = (bytes_eq-Decides (codes "\n") (power_text name (Kept app))).0 yes in
    let head : ◌≡◌ {A = ℕ} 10 98 = cc in omega (arith, head))

none_kept : (names : List (List ℕ)) (text : List ℕ) (power app : ℕ) → HasNoLine board_front text → says_kept names text power app ≡ false
none_kept names text power app none =
    let lines : power_lines text ≡ [] = none_left board_front (codes "power ") (whole_lines text) none in
    let line : slice_index_or (power_lines text) power [] ≡ [] = index_none (power_lines text) power lines in
    let name : List ℕ = slice_index_or names app [] in
    ap (λ zs. bytes_eq (zs ++ codes "\n") (power_text name (Kept app))) line ∙ no_line name app

-- it tells weather without marks
pub calm_weather : (names : List (List ℕ)) (text : List ℕ) → HasNoLine board_front text → weather_in names text ≡ calm
calm_weather names text none = λ i. record {
  marks = λ app. record {
    lost = λ turn. no_mark text (codes "lost") (slice_index_or names app []) turn none i;
    corrupt = λ turn. no_mark text (codes "corrupt") (slice_index_or names app []) turn none i;
    starved = λ turn. no_mark text (codes "starve") (slice_index_or names app []) turn none i;
  };
  kept = λ power app. none_kept names text power app none i;
}

-- ---- a workload

-- a line that is drawn is a call or one of turns, whatever its kind
by_kind : (kind app label command first second : ℕ) → kind < 8
    → order_of (line_of (record { app = app; kind = kind; label = label; command = command; first = first; second = second })) ≡ []
by_kind zero app label command first second few = refl
by_kind (suc zero) app label command first second few = refl
by_kind (suc (suc zero)) app label command first second few = refl
by_kind (suc (suc (suc zero))) app label command first second few = refl
by_kind (suc (suc (suc (suc zero)))) app label command first second few = refl
by_kind (suc (suc (suc (suc (suc zero))))) app label command first second few = refl
by_kind (suc (suc (suc (suc (suc (suc zero)))))) app label command first second few = refl
by_kind (suc (suc (suc (suc (suc (suc (suc zero))))))) app label command first second few = refl
by_kind (suc (suc (suc (suc (suc (suc (suc (suc kind)))))))) app label command first second few = absurd (omega (arith, few))

no_order : (number hosts index : ℕ) → order_of (line_at number hosts index) ≡ []
no_order number hosts index =
    let state : ℕ = state_after number (6 * index) in
    by_kind (draw_at state 2 % 8) (draw_at state 1 % hosts) (1 + draw_at state 3 % 3) (1 + draw_at state 4 % 15) (draw_at state 5) (draw_at state 6) (omega arith)

no_orders : (number hosts start count : ℕ) → orders_of (map (line_at number hosts) (range_with_len start count)) ≡ []
no_orders number hosts start zero = refl
no_orders number hosts start (suc count) =
    ap (λ zs. zs ++ orders_of (map (line_at number hosts) (range_with_len (start + 1) count))) (no_order number hosts start)
    ∙ no_orders number hosts (start + 1) count

-- it makes no order
pub workload_orders_none : (number hosts : ℕ) → orders_of (workload_of number hosts) ≡ []
unfolding workload_of
workload_orders_none number hosts = no_orders number hosts 0 2000

front_none : (xs ys : List ℕ) → xs ++ ys ≡ [] → xs ≡ []
front_none [] ys e = refl
front_none (x ∷ xs) ys e = absurd (let none : x ∷ (xs ++ ys) ≡ [] = e in cc)

some_there : (xs : List ℕ) (y : ℕ) (ys : List ℕ) → xs ++ y ∷ ys ≡ [] → ⊥
some_there [] y ys e = let none : y ∷ ys ≡ [] = e in cc
some_there (x ∷ xs) y ys e = let none : x ∷ (xs ++ y ∷ ys) ≡ [] = e in cc

-- lines without orders have no loss of power among them, and of them none is made
pub no_power : (script : List Line) → orders_of script ≡ [] → HasPower script → ⊥
no_power script none has =
    some_there (orders_of has.0) has.1 (orders_of has.2) (sym (orders_of_both has.0 (lines.Power has.1 ∷ has.2)) ∙ sym (ap orders_of has.3) ∙ none)

pub none_made : (script : List Line) (old new : View) → orders_of script ≡ [] → HasFirstOrders script old new → HasOrders [] old new
none_made script old new none first = subst (λ numbers. HasOrders numbers old new) (front_none first.0 first.1 (sym first.2 ∙ none)) first.3
