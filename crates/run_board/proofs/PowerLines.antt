-- The line of a loss of power tells whose change in doubt it kept, if it kept one. No line of a reply and none about a turn begins like it.
use Rattle.std.proofs.Common.{◌≡◌, ◌≢◌, ◌<◌, ℕ, zero, suc, List, [], ◌∷◌, ◌++◌, Bool, true, false, cond, eqb, length, map, refl, sym, ap, ◌∙◌, append-nil, drop}
use Rattle.std.specs.Prelude.{codes, slice_get, slice_index_or}
use Rattle.std.specs.Bool.{Decides}
use Rattle.std.specs.Fmt.{decimal}
use Rattle.std.specs.List.{AllByRecursion, filter, list_any}
use Rattle.std.specs.Str.{bytes_eq}
use Rattle.std.proofs.lemmas.Bool.{false_from_ne_true, or_parts}
use Rattle.std.proofs.lemmas.Bool.Decides.{Decides-eqb, Decides-like, same_from_decides}
use Rattle.std.proofs.lemmas.List.{append_cancel_left, append_cancel_right}
use Rattle.std.proofs.lemmas.Slice.Eq.{bytes_eq-Decides, starts_is}
use Rattle.alone.specs.declared.power.Power.{Power}
use Rattle.alone.specs.declared.power.Power.TheVariants.{Clean, Kept, Absent}
use Rattle.alone.specs.declared.turn.TurnKind.{TurnKind}
use Rattle.alone.specs.declared.turn.TurnKind.TheVariants.{Plain, Lost, Starved, Corrupted}
use Rattle.report.specs.Texts.{mark_text, power_text}
use Rattle.script.proofs.Cuts.{Lacks, all_append}
use Rattle.tee_core.specs.Powers.{kept_by}
use Rattle.run_board.specs.BoardLines.{IsOwnerKnown, begins_with}
use Rattle.run_board.specs.Logs.{kept_at}
use Rattle.run_board.specs.Transcript.{power_line}
use Rattle.run_board.proofs.MarkLines.{IsReplyLine, board_one_word, is_mark, mark_lines, mark_parts, same_parts}
use Rattle.run_board.proofs.WholeLines.{fed}

-- ---- the line

-- the line of a loss of power, without its line feed
abbrev pub told_line : List (List ℕ) → Power → List ℕ
told_line names Clean = codes "board power clean"
told_line names (Kept app) = codes "board power kept " ++ slice_index_or names app []
told_line names (Absent app) = codes "board power absent " ++ slice_index_or names app []

-- its text is the printed one
pub told_fed : (names : List (List ℕ)) (told : Power) → power_line names told ≡ fed (told_line names told ∷ [])
told_fed names Clean = refl
told_fed names (Kept app) = sym (append-nil (told_line names (Kept app) ++ codes "\n"))
told_fed names (Absent app) = sym (append-nil (told_line names (Absent app) ++ codes "\n"))

-- a text in which a search finds no such byte
pub without : (b : ℕ) (text : List ℕ) → list_any (λ c. eqb c b) text ≡ false → Lacks b text
without b [] h = tt
without b (c ∷ text) h = let both = or_parts (eqb c b) (list_any (λ d. eqb d b) text) h in (both.0, without b text both.1)

-- no line feed is in it
pub told_plain : (names : List (List ℕ)) (told : Power) → ((app : ℕ) → app < length names → Lacks 10 (slice_index_or names app [])) → IsOwnerKnown (length names) told
    → Lacks 10 (told_line names told)
told_plain names Clean h known = without 10 (codes "board power clean") refl
told_plain names (Kept app) h known =
    all_append (λ c. eqb c 10 ≡ false) (codes "board power kept ") (slice_index_or names app []) (without 10 (codes "board power kept ") refl) (h app known)
told_plain names (Absent app) h known =
    all_append (λ c. eqb c 10 ≡ false) (codes "board power absent ") (slice_index_or names app []) (without 10 (codes "board power absent ") refl) (h app known)

-- ---- it is none about a turn

-- what stands behind its second word
abbrev behind_power : List (List ℕ) → Power → List ℕ
behind_power names Clean = codes "clean\n"
behind_power names (Kept app) = codes "kept " ++ slice_index_or names app [] ++ codes "\n"
behind_power names (Absent app) = codes "absent " ++ slice_index_or names app [] ++ codes "\n"

told_parts : (names : List (List ℕ)) (told : Power) → told_line names told ++ codes "\n" ≡ codes "board" ++ 32 ∷ (codes "power" ++ 32 ∷ behind_power names told)
told_parts names Clean = refl
told_parts names (Kept app) = refl
told_parts names (Absent app) = refl

told_apart : (names : List (List ℕ)) (told : Power) (said called : List ℕ) (number : ℕ) → Lacks 32 said → said ≢ codes "power"
    → told_line names told ++ codes "\n" ≡ mark_text said called number → ⊥
told_apart names told said called number no_space other alike =
    let behind = behind_power names told in
    let texts = sym (told_parts names told) ∙ alike ∙ mark_parts said called (decimal number) in
    let later = called ++ 32 ∷ (decimal number ++ 10 ∷ []) in
    let words = same_parts 32 (codes "board") (codes "board") (codes "power" ++ 32 ∷ behind) (said ++ 32 ∷ later) board_one_word board_one_word texts in
    other (sym (same_parts 32 (codes "power") said behind later (without 32 (codes "power") refl) no_space words.1).0)

-- its second word is another than that of a line about a turn
pub told_other : (names : List (List ℕ)) (told : Power) (said called : List ℕ) (number : ℕ) → Lacks 32 said → said ≢ codes "power" → is_mark said called number (told_line names told) ≡ false
told_other names told said called number no_space other =
    let same = bytes_eq-Decides (told_line names told ++ codes "\n") (mark_text said called number) in
    false_from_ne_true (is_mark said called number (told_line names told)) (λ yes. told_apart names told said called number no_space other (same.0 yes))

-- ---- how it begins

-- whether a line is one of a loss of power
abbrev pub is_power : List ℕ → Bool
is_power = begins_with (codes "board power ")

-- that of a loss of power is
pub told_begins : (names : List (List ℕ)) (told : Power) → is_power (told_line names told) ≡ true
told_begins names Clean = refl
told_begins names (Kept app) = refl
told_begins names (Absent app) = refl

-- no line about a turn begins so
pub marks_begin : (name : List ℕ) (kind : TurnKind) (turn : ℕ) → AllByRecursion (λ line. is_power line ≡ false) (mark_lines name kind turn)
marks_begin name Plain turn = tt
marks_begin name (Lost change) turn = (refl, tt)
marks_begin name Starved turn = (refl, tt)
marks_begin name Corrupted turn = (refl, tt)

-- nor does a line of a reply
reply_begins : (line : List ℕ) → IsReplyLine line → is_power line ≡ false
reply_begins line h =
    let front = codes "board power " in
    let begun = starts_is Decides-eqb line front (is_power line) refl in
    let behind = codes "power " ++ drop (length front) line in
    let first = λ (yes : is_power line ≡ true). same_parts 32 h.name (codes "board") h.behind behind h.no_space board_one_word (sym h.here ∙ begun.0 yes) in
    false_from_ne_true (is_power line) (λ yes. h.other (first yes).0)

pub replies_begin : (lines : List (List ℕ)) → AllByRecursion IsReplyLine lines → AllByRecursion (λ line. is_power line ≡ false) lines
replies_begin [] h = tt
replies_begin (line ∷ lines) h = (reply_begins line h.0, replies_begin lines h.1)

-- a test that none passes leaves none
pub none_left : (test : List ℕ → Bool) (lines : List (List ℕ)) → AllByRecursion (λ line. test line ≡ false) lines → filter test lines ≡ []
none_left test [] h = refl
none_left test (line ∷ lines) h = ap (λ (t : Bool). cond t (line ∷ filter test lines) (filter test lines)) h.0 ∙ none_left test lines h.1

-- ---- what it tells

-- names that belong to one application each
module _ (names : List (List ℕ))
    (named_same : (one other : ℕ) → one < length names → other < length names → Decides (eqb one other) (slice_index_or names one [] ≡ slice_index_or names other [])) where
  -- it is the printed one that a change is kept where it tells that, of the same application
  kept_told : (told : Power) (app : ℕ) → IsOwnerKnown (length names) told → app < length names
      → bytes_eq (told_line names told ++ codes "\n") (power_text (slice_index_or names app []) (Kept app)) ≡ kept_by told app
  kept_told Clean app known within = refl
  kept_told (Kept owner) app known within =
      let front = codes "board power kept " in
      let name = slice_index_or names app [] in
      let kept = slice_index_or names owner [] in
      let line = front ++ kept ++ codes "\n" in
      let printed = front ++ name ++ codes "\n" in
      let same = λ (e : line ≡ printed). sym (append_cancel_left front kept name (append_cancel_right (front ++ kept) (front ++ name) (codes "\n") e)) in
      let alike = λ (e : name ≡ kept). ap (λ (n : List ℕ). front ++ n ++ codes "\n") (sym e) in
      same_from_decides (bytes_eq line printed) (eqb app owner) (Decides-like (bytes_eq line printed) same alike (bytes_eq-Decides line printed)) (named_same app owner within known)
  kept_told (Absent owner) app known within = refl

  -- the line of a number among them tells so exactly where the loss of power of that number does
  pub kept_read : (powers : List Power) (power app : ℕ) → AllByRecursion (IsOwnerKnown (length names)) powers → app < length names
      → bytes_eq (slice_index_or (map (told_line names) powers) power [] ++ codes "\n") (power_text (slice_index_or names app []) (Kept app)) ≡ kept_at (slice_get powers power) app
  kept_read [] power app known within = refl
  kept_read (told ∷ powers) zero app known within = kept_told told app known.0 within
  kept_read (told ∷ powers) (suc power) app known within = kept_read powers power app known.1 within
