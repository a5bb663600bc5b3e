-- The weather of a log is that which is read back from its text, also from one that was cut.
use Rattle.std.proofs.Common.{◌≡◌, ◌≢◌, ◌≤◌, ◌<◌, ◌^◌, ◌⊎◌, ◌&&◌, ◌||◌, inl, inr, ℕ, List, [], ◌∷◌, ◌++◌, Bool, true, false, eqb, refl, sym, ap, ap₂, subst, ◌∙◌, append_assoc, append-nil, arith}
use Rattle.std.specs.Prelude.{All, codes, cond, length, map, slice_get, slice_index_or}
use Rattle.std.specs.Bool.{Decides}
use Rattle.std.specs.List.{AllByRecursion, filter, flat_map, list_any}
use Rattle.std.specs.Str.{bytes_eq}
use Rattle.std.proofs.Math.Bool.{or-false}
use Rattle.std.proofs.lemmas.Bool.{cases_order, ne_eqb}
use Rattle.std.proofs.lemmas.Bool.Decides.{Decides-eqb, Decides-like}
use Rattle.std.proofs.lemmas.Grind.{flat_map-append}
use Rattle.std.proofs.lemmas.List.Elements.{filter-append, recursion_from_All}
use Rattle.std.proofs.lemmas.List.Folds.{list_any-append}
use Rattle.alone.specs.declared.power.Power.TheVariants.{Kept}
use Rattle.alone.specs.declared.turn.TurnKind.{TurnKind}
use Rattle.alone.specs.declared.turn.TurnKind.TheVariants.{Plain, Lost, Starved, Corrupted}
use Rattle.alone.specs.Marks.{SameAt}
use Rattle.alone.specs.declared.power.Power.{Power}
use Rattle.report.specs.Texts.{power_text}
use Rattle.script.proofs.Cuts.{Lacks, all_append}
use Rattle.tee_core.specs.Happenings.{is_corrupt_turn, is_lost_turn, is_starved_turn, has_told}
use Rattle.run_board.specs.BoardLines.{IsBoardLineOrNone, IsMarkOrNone, IsOwnerKnown, IsPowerLine, marks_in, power_lines, says_kept, weather_in, whole_lines, whole_text}
use Rattle.run_board.specs.Logs.{AreKnown, Entry, IsWrittenOf, Item, OfApp, OfBoard, SameWeather}
use Rattle.run_board.specs.Logs.{entries_in, item_text, kept_at, log_text, log_weather, powers_told, told_of_app}
use Rattle.run_board.specs.Transcript.{happened_lines}
use Rattle.run_board.proofs.MarkLines.{IsReplyLine, IsSaidBy, is_mark, mark_lines, marks_fed, marks_plain, marks_told, replies_are, replies_fed, replies_other, replies_plain, reply_line}
use Rattle.run_board.proofs.MarkLines.{corrupt_said, lost_said, starved_said}
use Rattle.run_board.proofs.Names.{CanName}
use Rattle.run_board.proofs.PowerLines.{is_power, kept_read, marks_begin, none_left, replies_begin, told_begins, told_fed, told_line, told_other, told_plain}
use Rattle.run_board.proofs.WholeLines.{all_parts, all_whole, fed, front_of, whole_lines_are}

-- ---- the lines of a log

-- the lines about the turn of an entry, those of its replies, all that are written of it or of an item, and those of a log, without
-- their line feeds
abbrev turn_lines : List (List ℕ) → Entry → List (List ℕ)
turn_lines names e = mark_lines (slice_index_or names e.app []) e.told.kind e.told.turn

abbrev reply_lines : List (List ℕ) → Entry → List (List ℕ)
reply_lines names e = map (reply_line (slice_index_or names e.app [])) e.told.replies

abbrev entry_lines : List (List ℕ) → Entry → List (List ℕ)
entry_lines names e = turn_lines names e ++ reply_lines names e

abbrev item_lines : List (List ℕ) → Item → List (List ℕ)
item_lines names (OfApp e) = entry_lines names e
item_lines names (OfBoard told) = told_line names told ∷ []

abbrev log_lines : List (List ℕ) → List Item → List (List ℕ)
log_lines names log = flat_map (item_lines names) log

fed_both : (lines more : List (List ℕ)) → fed (lines ++ more) ≡ fed lines ++ fed more
fed_both lines more = flat_map-append (λ (line : List ℕ). line ++ codes "\n") lines more

entry_fed : (names : List (List ℕ)) (e : Entry) → happened_lines (slice_index_or names e.app []) e.told ≡ fed (entry_lines names e)
entry_fed names e =
    let name = slice_index_or names e.app [] in
    ap₂ (λ (xs ys : List ℕ). xs ++ ys) (marks_fed name e.told.kind e.told.turn) (replies_fed name e.told.replies)
    ∙ sym (fed_both (turn_lines names e) (reply_lines names e))

item_fed : (names : List (List ℕ)) (item : Item) → item_text names item ≡ fed (item_lines names item)
item_fed names (OfApp e) = entry_fed names e
item_fed names (OfBoard told) = told_fed names told

-- its text is that of its lines
log_fed : (names : List (List ℕ)) (log : List Item) → log_text names log ≡ fed (log_lines names log)
log_fed names [] = refl
log_fed names (item ∷ log) = ap₂ (λ (xs ys : List ℕ). xs ++ ys) (item_fed names item) (log_fed names log) ∙ sym (fed_both (item_lines names item) (log_lines names log))

-- what was told in two logs, one behind the other
entries_both : (log more : List Item) → entries_in (log ++ more) ≡ entries_in log ++ entries_in more
entries_both [] more = refl
entries_both (OfApp e ∷ log) more = ap (λ (xs : List Entry). e ∷ xs) (entries_both log more)
entries_both (OfBoard told ∷ log) more = entries_both log more

powers_both : (log more : List Item) → powers_told (log ++ more) ≡ powers_told log ++ powers_told more
powers_both [] more = refl
powers_both (OfApp e ∷ log) more = powers_both log more
powers_both (OfBoard told ∷ log) more = ap (λ (xs : List Power). told ∷ xs) (powers_both log more)

-- ---- what they tell

lacks : (b : ℕ) (text : List ℕ) → All (λ c. c ≢ b) text → Lacks b text
lacks b text h = recursion_from_All (λ c. eqb c b ≡ false) text (λ k d below. ne_eqb (slice_index_or text k d) b (h k d below))

-- what one more entry tells of a turn, where it is one of the application or not
one_more : (went : TurnKind → Bool) (e : Entry) (rest : List Entry) (turn : ℕ) (t : Bool)
    → ((t && (went e.told.kind && eqb e.told.turn turn)) || has_told went (map (λ (x : Entry). x.told) rest) turn) ≡ has_told went (map (λ (x : Entry). x.told) (cond t (e ∷ rest) rest)) turn
one_more went e rest turn true = refl
one_more went e rest turn false = refl

-- names of hosts, none of which begins a line of the board
module _ (names : List (List ℕ)) (can : CanName names) (no_board : All (λ name. name ≢ codes "board") names) where
  no_space : (app : ℕ) → app < length names → Lacks 32 (slice_index_or names app [])
  no_space app inside = lacks 32 (slice_index_or names app []) (λ k d below. (can.plain app [] inside k d below).0)

  no_feed : (app : ℕ) → app < length names → Lacks 10 (slice_index_or names app [])
  no_feed app inside = lacks 10 (slice_index_or names app []) (λ k d below. (can.plain app [] inside k d below).1)

  -- two applications of one name are one
  one_index : (one other : ℕ) → one < length names → other < length names → slice_index_or names one [] ≡ slice_index_or names other [] → one ≡ other
  one_index one other inside within same =
      elim (cases_order one other) [
        | inl equal ↦ equal
        | inr apart ↦ elim apart [
          | inl less ↦ absurd (can.apart one other [] less within same)
          | inr more ↦ absurd (can.apart other one [] more inside (sym same))
        ]
      ]

  named_same : (one other : ℕ) → one < length names → other < length names → Decides (eqb one other) (slice_index_or names one [] ≡ slice_index_or names other [])
  named_same one other inside within =
      Decides-like (eqb one other) (λ e. ap (λ (i : ℕ). slice_index_or names i []) e) (λ e. one_index one other inside within e) (Decides-eqb one other)

  -- no line feed is in a line
  entry_plain : (e : Entry) → e.app < length names → AllByRecursion (Lacks 10) (entry_lines names e)
  entry_plain e inside =
      let name = slice_index_or names e.app [] in
      all_append (Lacks 10) (turn_lines names e) (reply_lines names e) (marks_plain name e.told.kind e.told.turn (no_feed e.app inside)) (replies_plain name e.told.replies (no_feed e.app inside))

  lines_plain : (log : List Item) → AllByRecursion (λ e. e.app < length names) (entries_in log) → AllByRecursion (IsOwnerKnown (length names)) (powers_told log)
      → AllByRecursion (Lacks 10) (log_lines names log)
  lines_plain [] known owners = tt
  lines_plain (OfApp e ∷ log) known owners = all_append (Lacks 10) (entry_lines names e) (log_lines names log) (entry_plain e known.0) (lines_plain log known.1 owners)
  lines_plain (OfBoard told ∷ log) known owners = (told_plain names told no_feed owners.0, lines_plain log known owners.1)

  entry_replies : (e : Entry) → e.app < length names → AllByRecursion IsReplyLine (reply_lines names e)
  entry_replies e inside = replies_are (slice_index_or names e.app []) e.told.replies (no_space e.app inside) (no_board e.app [] inside)

  module _ (went : TurnKind → Bool) (said : List ℕ) (says : IsSaidBy went said) (app turn : ℕ) (within : app < length names) (small : turn < 2 ^ 64) where
    -- whether a line says that this turn of this application went so
    abbrev says_so : List ℕ → Bool
    says_so = is_mark said (slice_index_or names app []) turn

    entry_told : (e : Entry) → e.app < length names → e.told.turn < 2 ^ 64 → list_any says_so (entry_lines names e) ≡ (eqb e.app app && (went e.told.kind && eqb e.told.turn turn))
    entry_told e inside few =
        let name = slice_index_or names e.app [] in
        let called = slice_index_or names app [] in
        list_any-append says_so (turn_lines names e) (reply_lines names e)
        ∙ ap₂ (λ (s t : Bool). s || t)
        (marks_told went said says name called (eqb e.app app) e.told.kind e.told.turn turn (no_space e.app inside) (no_space app within) few small (named_same e.app app inside within))
        (replies_other said called turn (reply_lines names e) (entry_replies e inside))
        ∙ or-false (eqb e.app app && (went e.told.kind && eqb e.told.turn turn))

    log_told : (log : List Item) → AllByRecursion (λ e. e.app < length names) (entries_in log) → AllByRecursion (λ e. e.told.turn < 2 ^ 64) (entries_in log)
        → list_any says_so (log_lines names log) ≡ has_told went (told_of_app app (entries_in log)) turn
    log_told [] known counted = refl
    log_told (OfApp e ∷ log) known counted =
        list_any-append says_so (entry_lines names e) (log_lines names log)
        ∙ ap₂ (λ (s t : Bool). s || t) (entry_told e known.0 counted.0) (log_told log known.1 counted.1)
        ∙ one_more went e (filter (λ (x : Entry). eqb x.app app) (entries_in log)) turn (eqb e.app app)
    log_told (OfBoard told ∷ log) known counted =
        ap (λ (t : Bool). t || list_any says_so (log_lines names log)) (told_other names told said (slice_index_or names app []) turn says.no_space says.other)
        ∙ log_told log known counted

    -- lines from which only lines of replies are missing tell the same
    seen_told : (log : List Item) → AreKnown names log → (seen unseen : List (List ℕ)) → log_lines names log ≡ seen ++ unseen → AllByRecursion IsReplyLine unseen
        → list_any says_so (whole_lines (fed seen)) ≡ has_told went (told_of_app app (entries_in log)) turn
    seen_told log known seen unseen all replies =
        let plain = all_parts (Lacks 10) seen unseen (subst (AllByRecursion (Lacks 10)) all (lines_plain log known.known known.owners)) in
        ap (list_any says_so) (all_whole seen plain.0)
        ∙ sym (or-false (list_any says_so seen))
        ∙ ap (λ (t : Bool). list_any says_so seen || t) (sym (replies_other said (slice_index_or names app []) turn unseen replies))
        ∙ sym (list_any-append says_so seen unseen)
        ∙ ap (list_any says_so) (sym all)
        ∙ log_told log known.known known.counted

  -- of the lines of an entry none is about a loss of power
  entry_begins : (e : Entry) → e.app < length names → filter is_power (entry_lines names e) ≡ []
  entry_begins e inside =
      let begins = λ (line : List ℕ). is_power line ≡ false in
      let marks = marks_begin (slice_index_or names e.app []) e.told.kind e.told.turn in
      none_left is_power (entry_lines names e) (all_append begins (turn_lines names e) (reply_lines names e) marks (replies_begin (reply_lines names e) (entry_replies e inside)))

  -- those of a log are the lines of its losses of power
  log_powers : (log : List Item) → AllByRecursion (λ e. e.app < length names) (entries_in log) → filter is_power (log_lines names log) ≡ map (told_line names) (powers_told log)
  log_powers [] known = refl
  log_powers (OfApp e ∷ log) known =
      filter-append is_power (entry_lines names e) (log_lines names log)
      ∙ ap₂ (λ (xs ys : List (List ℕ)). xs ++ ys) (entry_begins e known.0) (log_powers log known.1)
  log_powers (OfBoard told ∷ log) known =
      let more = filter is_power (log_lines names log) in
      ap (λ (t : Bool). cond t (told_line names told ∷ more) more) (told_begins names told)
      ∙ ap (λ (lines : List (List ℕ)). told_line names told ∷ lines) (log_powers log known)

  -- lines from which only lines of replies are missing tell the same
  module _ (log : List Item) (known : AreKnown names log) (seen unseen : List (List ℕ)) (all : log_lines names log ≡ seen ++ unseen) (replies : AllByRecursion IsReplyLine unseen) where
    seen_marks : (app turn : ℕ) → app < length names → turn < 2 ^ 64 → SameAt turn (marks_in names (fed seen) app) ((log_weather log).marks app)
    seen_marks app turn within small =
        record {
          lost = seen_told is_lost_turn (codes "lost") lost_said app turn within small log known seen unseen all replies;
          corrupt = seen_told is_corrupt_turn (codes "corrupt") corrupt_said app turn within small log known seen unseen all replies;
          starved = seen_told is_starved_turn (codes "starve") starved_said app turn within small log known seen unseen all replies;
        }

    -- the lines about losses of power are those of the log's, in order
    seen_powers : power_lines (fed seen) ≡ map (told_line names) (powers_told log)
    seen_powers =
        let plain = all_parts (Lacks 10) seen unseen (subst (AllByRecursion (Lacks 10)) all (lines_plain log known.known known.owners)) in
        ap (filter is_power) (all_whole seen plain.0)
        ∙ sym (append-nil (filter is_power seen))
        ∙ ap (λ (lines : List (List ℕ)). filter is_power seen ++ lines) (sym (none_left is_power unseen (replies_begin unseen replies)))
        ∙ sym (filter-append is_power seen unseen)
        ∙ ap (filter is_power) (sym all)
        ∙ log_powers log known.known

    -- so the line of a number says of an application what was told of the loss of power of that number
    seen_kept : (power app : ℕ) → app < length names → says_kept names (fed seen) power app ≡ kept_at (slice_get (powers_told log) power) app
    seen_kept power app within =
        ap (λ (lines : List (List ℕ)). bytes_eq (slice_index_or lines power [] ++ codes "\n") (power_text (slice_index_or names app []) (Kept app))) seen_powers
        ∙ kept_read names named_same (powers_told log) power app known.owners within

    seen_weather : SameWeather (length names) (weather_in names (fed seen)) (log_weather log)
    seen_weather = record { marks = seen_marks; kept = seen_kept }

  whole_read : (log : List Item) → AreKnown names log → SameWeather (length names) (weather_in names (log_text names log)) (log_weather log)
  whole_read log known =
      subst (λ (text : List ℕ). SameWeather (length names) (weather_in names text) (log_weather log)) (sym (log_fed names log))
      (seen_weather log known (log_lines names log) [] (sym (append-nil (log_lines names log))) tt)

  -- ---- a text that was cut

  -- what is missing from the first lines of an item: at most one line of the board, and lines of replies
  record IsMissing (board lines first : List (List ℕ)) : Type 0 where
    further : List (List ℕ)
    few : (further ≡ []) ⊎ (further ≡ board)
    unseen : List (List ℕ)
    replies : AllByRecursion IsReplyLine unseen
    all : lines ≡ (first ++ further) ++ unseen

  missing : (board replies first more : List (List ℕ)) → length board ≤ 1 → AllByRecursion IsReplyLine replies → board ++ replies ≡ first ++ more → IsMissing board (board ++ replies) first
  missing [] replies first more short are e = record {
    further = [];
    few = inl refl;
    unseen = more;
    replies = (all_parts IsReplyLine first more (subst (AllByRecursion IsReplyLine) e are)).1;
    all = e ∙ ap (λ (zs : List (List ℕ)). zs ++ more) (sym (append-nil first));
  }
  missing (one ∷ []) replies [] more short are e = record { further = one ∷ []; few = inr refl; unseen = replies; replies = are; all = refl }
  missing (one ∷ []) replies (line ∷ first) more short are e =
      let both : one ∷ replies ≡ line ∷ (first ++ more) = e in
      let tails : replies ≡ first ++ more = cc in
      record {
        further = [];
        few = inl refl;
        unseen = more;
        replies = (all_parts IsReplyLine first more (subst (AllByRecursion IsReplyLine) tails are)).1;
        all = e ∙ ap (λ (zs : List (List ℕ)). zs ++ more) (sym (append-nil (line ∷ first)));
      }
  missing (one ∷ next ∷ board) replies first more short are e = absurd (omega arith)

  -- the weather of a log is read from a text and one further line
  abbrev IsReadWith : List Item → List ℕ → Type 0
  IsReadWith log text = (further : List ℕ) × IsBoardLineOrNone names further × SameWeather (length names) (weather_in names (whole_text text ++ further)) (log_weather log)

  -- no line is at most one
  no_further : 0 < length names → IsBoardLineOrNone names []
  no_further some = inl (record { app = 0; known = some; kind = Plain; turn = 0; here = refl })

  -- nothing, or the line of the board, is at most one line of the board
  further_is : (board lines : List (List ℕ)) → 0 < length names → IsBoardLineOrNone names (fed board) → (lines ≡ []) ⊎ (lines ≡ board) → IsBoardLineOrNone names (fed lines)
  further_is board lines some line (inl none) = subst (λ (ls : List (List ℕ)). IsBoardLineOrNone names (fed ls)) (sym none) (no_further some)
  further_is board lines some line (inr one) = subst (λ (ls : List (List ℕ)). IsBoardLineOrNone names (fed ls)) (sym one) line

  marks_few : (name : List ℕ) (kind : TurnKind) (turn : ℕ) → length (mark_lines name kind turn) ≤ 1
  marks_few name Plain turn = omega arith
  marks_few name (Lost change) turn = omega arith
  marks_few name Starved turn = omega arith
  marks_few name Corrupted turn = omega arith

  -- a text of whole lines, of the first of the next ones, and of a piece
  cut_whole : (done first : List (List ℕ)) (text before cut tail : List ℕ) → AllByRecursion (Lacks 10) (done ++ first) → Lacks 10 tail
      → before ≡ fed done → cut ≡ fed first ++ tail → text ≡ before ++ cut → whole_lines text ≡ done ++ first
  cut_whole done first text before cut tail plain tail_plain is_done is_cut here =
      let joined : text ≡ fed done ++ (fed first ++ tail) = here ∙ ap₂ (λ (xs ys : List ℕ). xs ++ ys) is_done is_cut in
      let grouped : fed done ++ (fed first ++ tail) ≡ fed (done ++ first) ++ tail = sym (append_assoc (fed done) (fed first) tail) ∙ ap (λ (zs : List ℕ). zs ++ tail) (sym (fed_both done first)) in
      let is : text ≡ fed (done ++ first) ++ tail = joined ∙ grouped in
      ap whole_lines is ∙ whole_lines_are (done ++ first) tail plain tail_plain

  with_further : (lines further : List (List ℕ)) (text : List ℕ) → whole_lines text ≡ lines → whole_text text ++ fed further ≡ fed (lines ++ further)
  with_further lines further text whole = ap (λ (ls : List (List ℕ)). fed ls ++ fed further) whole ∙ sym (fed_both lines further)

  four_parts : (lines done next first further unseen : List (List ℕ)) → lines ≡ done ++ next → next ≡ (first ++ further) ++ unseen → lines ≡ ((done ++ first) ++ further) ++ unseen
  four_parts lines done next first further unseen all parts =
      let grouped : done ++ ((first ++ further) ++ unseen) ≡ ((done ++ first) ++ further) ++ unseen = simp append_assoc in
      let joined : lines ≡ done ++ ((first ++ further) ++ unseen) = all ∙ ap (λ (zs : List (List ℕ)). done ++ zs) parts in
      joined ∙ grouped

  -- a text that was cut within at most one line of the board and lines of replies
  cut_within : (log done : List Item) (text cut rest : List ℕ) (board replies : List (List ℕ))
      → AreKnown names log → 0 < length names → length board ≤ 1 → IsBoardLineOrNone names (fed board) → AllByRecursion IsReplyLine replies
      → log_lines names log ≡ log_lines names done ++ (board ++ replies) → text ≡ log_text names done ++ cut → fed (board ++ replies) ≡ cut ++ rest → IsReadWith log text
  cut_within log done text cut rest board replies known some short line are all here piece =
      let before = log_lines names done in
      let plain = all_parts (Lacks 10) before (board ++ replies) (subst (AllByRecursion (Lacks 10)) all (lines_plain log known.known known.owners)) in
      let front = front_of (board ++ replies) cut rest plain.1 piece in
      let first_plain = all_parts (Lacks 10) front.first front.more (subst (AllByRecursion (Lacks 10)) front.all plain.1) in
      let lacking = missing board replies front.first front.more short are front.all in
      let both_plain = all_append (Lacks 10) before front.first plain.0 first_plain.0 in
      let whole = cut_whole before front.first text (log_text names done) cut front.tail both_plain front.within (log_fed names done) front.here here in
      let shown = with_further (before ++ front.first) lacking.further text whole in
      let lines = four_parts (log_lines names log) before (board ++ replies) front.first lacking.further lacking.unseen all lacking.all in (
        fed lacking.further,
        further_is board lacking.further some line lacking.few,
        subst (λ (shown_text : List ℕ). SameWeather (length names) (weather_in names shown_text) (log_weather log)) (sym shown)
            (seen_weather log known ((before ++ front.first) ++ lacking.further) lacking.unseen lines lacking.replies),
      )

  -- the lines of a log are those of the items before the last, and then those of the last
  last_lines : (log done : List Item) (item : Item) → log ≡ done ++ item ∷ [] → log_lines names log ≡ log_lines names done ++ item_lines names item
  last_lines log done item all =
      ap (log_lines names) all
      ∙ flat_map-append (item_lines names) done (item ∷ [])
      ∙ ap (λ (zs : List (List ℕ)). log_lines names done ++ zs) (append-nil (item_lines names item))

  last_fed : (item : Item) (cut rest : List ℕ) → log_text names (item ∷ []) ≡ cut ++ rest → fed (item_lines names item) ≡ cut ++ rest
  last_fed item cut rest piece = sym (ap fed (append-nil (item_lines names item))) ∙ sym (log_fed names (item ∷ [])) ∙ piece

  -- the line about the turn of an entry
  turn_line : (e : Entry) → e.app < length names → IsMarkOrNone names (fed (turn_lines names e))
  turn_line e inside =
      record { app = e.app; known = inside; kind = e.told.kind; turn = e.told.turn; here = sym (marks_fed (slice_index_or names e.app []) e.told.kind e.told.turn) }

  -- the line of a loss of power
  board_line : (told : Power) → IsOwnerKnown (length names) told → IsPowerLine names (fed (told_line names told ∷ []))
  board_line told owner = record { told = told; known = owner; here = sym (told_fed names told) }

  cut_read : (log done last : List Item) (text cut rest : List ℕ) → 0 < length names → AreKnown names log → length last ≤ 1
      → log ≡ done ++ last → log_text names last ≡ cut ++ rest → text ≡ log_text names done ++ cut → IsReadWith log text
  cut_read log done [] text cut rest some known few all piece here =
      cut_within log done text cut rest [] [] known some (omega arith) (no_further some) tt (ap (log_lines names) all ∙ flat_map-append (item_lines names) done []) here piece
  cut_read log done (OfApp e ∷ []) text cut rest some known few all piece here =
      let is_inside = λ (x : Entry). x.app < length names in
      let entries = ap entries_in all ∙ entries_both done (OfApp e ∷ []) in
      let inside = (all_parts is_inside (entries_in done) (e ∷ []) (subst (AllByRecursion is_inside) entries known.known)).1.0 in
      cut_within log done text cut rest (turn_lines names e) (reply_lines names e) known some (marks_few (slice_index_or names e.app []) e.told.kind e.told.turn)
      (inl (turn_line e inside)) (entry_replies e inside) (last_lines log done (OfApp e) all) here (last_fed (OfApp e) cut rest piece)
  cut_read log done (OfBoard told ∷ []) text cut rest some known few all piece here =
      let powers = ap powers_told all ∙ powers_both done (OfBoard told ∷ []) in
      let is_known = IsOwnerKnown (length names) in
      let owner = (all_parts is_known (powers_told done) (told ∷ []) (subst (AllByRecursion is_known) powers known.owners)).1.0 in
      cut_within log done text cut rest (told_line names told ∷ []) [] known some (omega arith)
      (inr (board_line told owner)) tt (last_lines log done (OfBoard told) all) here (last_fed (OfBoard told) cut rest piece)
  cut_read log done (item ∷ next ∷ last) text cut rest some known few all piece here = absurd (omega arith)

-- the weather of a log is read back from its text
pub weather_read_back : (names : List (List ℕ)) (log : List Item) → CanName names → All (λ name. name ≢ codes "board") names → AreKnown names log
    → SameWeather (length names) (weather_in names (log_text names log)) (log_weather log)
weather_read_back names log can no_board known = whole_read names can no_board log known

-- from a text whose last item was cut it is read too, with at most one further line behind its whole lines: that about the turn of the
-- last entry or of the last loss of power, where it was cut within that line
pub cut_weather_read_back : (names : List (List ℕ)) (log : List Item) (text : List ℕ) → CanName names → All (λ name. name ≢ codes "board") names → 0 < length names → AreKnown names log
    → IsWrittenOf names log text
    → (further : List ℕ) × IsBoardLineOrNone names further × SameWeather (length names) (weather_in names (whole_text text ++ further)) (log_weather log)
cut_weather_read_back names log text can no_board some known written =
    cut_read names can no_board log written.done written.last text written.cut written.rest some known written.few written.all written.piece written.here
