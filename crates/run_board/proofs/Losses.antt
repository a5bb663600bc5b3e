-- The lines of a text that say that a turn lost the storage are at most so many as calls of the board failed.
use Rattle.std.proofs.Common.{◌≡◌, ◌≢◌, ◌<◌, ◌≤◌, ◌+◌, ◌-◌, inl, inr, ℕ, zero, suc, List, [], ◌∷◌, ◌++◌, Bool, true, false, Option}
use Rattle.std.proofs.Common.{drop, eqb, length, length-append, map, take, refl, sym, ap, ap₂, subst, ◌∙◌, arith}
use Rattle.std.specs.Prelude.{All, codes, slice_index_or}
use Rattle.std.specs.Io.KnownBytes.{Appends}
use Rattle.std.specs.List.{AllByRecursion, filter, slice_split}
use Rattle.std.proofs.KnownBytes.{Appends-nil, Appends-trans}
use Rattle.std.proofs.lemmas.Bool.{false_from_ne_true, ne_eqb}
use Rattle.std.proofs.lemmas.Bool.Decides.{Decides-eqb}
use Rattle.std.proofs.lemmas.Grind.{flat_map-append}
use Rattle.std.proofs.lemmas.List.Elements.{filter-append, recursion_from_All}
use Rattle.std.proofs.lemmas.Slice.Eq.{starts_is}
use Rattle.alone.specs.declared.power.Power.{Power}
use Rattle.alone.specs.declared.power.Power.TheVariants.{Clean, Kept, Absent}
use Rattle.alone.specs.declared.turn.TurnKind.{TurnKind}
use Rattle.alone.specs.declared.turn.TurnKind.TheVariants.{Plain, Lost, Starved, Corrupted}
use Rattle.board.specs.Moment.{View}
use Rattle.epoch.specs.Forms.{Form}
use Rattle.epoch.specs.Mounts.{IsSeenOn}
use Rattle.script.proofs.Cuts.{Lacks, all_append, parts_lack}
use Rattle.store_api.specs.Volumes.{VolumeKeeper}
use Rattle.tee_core.specs.declared.happened.Happened.{Happened}
use Rattle.tee_core.specs.Moments.{KeepsCounts, RoseIfLost}
use Rattle.run_board.specs.BoardLines.{AreFirstWords, begins_with, lost_lines, whole_lines, whole_text}
use Rattle.run_board.specs.Boards.{RoseBy, WritesLosses}
use Rattle.run_board.specs.Transcript.{happened_lines, power_line}
use Rattle.run_board.proofs.MarkLines.{IsReplyLine, board_one_word, mark_lines, marks_fed, marks_plain, replies_are, replies_fed, replies_plain, reply_line, same_parts}
use Rattle.run_board.proofs.Parts.{rose_both}
use Rattle.run_board.proofs.PowerLines.{none_left, told_fed, told_line, without}
use Rattle.run_board.proofs.WholeLines.{all_whole, fed}

-- whether a line says that a turn lost the storage
abbrev is_loss : List ℕ → Bool
is_loss = begins_with (codes "board lost ")

-- ---- whole lines

all_taken : {X : Type 0} (P : X → Type 0) (n : ℕ) (xs : List X) → AllByRecursion P xs → AllByRecursion P (take n xs)
all_taken P zero xs h = tt
all_taken P (suc n) [] h = tt
all_taken P (suc n) (x ∷ xs) h = (h.0, all_taken P n xs h.1)

lines_plain : (text : List ℕ) → AllByRecursion (Lacks 10) (whole_lines text)
lines_plain text = let parts = slice_split (λ c. eqb c 10) text in all_taken (Lacks 10) (length parts - 1) parts (parts_lack 10 text)

fed_both : (lines more : List (List ℕ)) → fed (lines ++ more) ≡ fed lines ++ fed more
fed_both lines more = flat_map-append (λ (line : List ℕ). line ++ codes "\n") lines more

-- the whole lines of two texts of whole lines are those of both
whole_both : (one more : List ℕ) → whole_text one ≡ one → whole_text more ≡ more → whole_lines (one ++ more) ≡ whole_lines one ++ whole_lines more
whole_both one more h k =
    let lines = whole_lines one in
    let others = whole_lines more in
    let is : one ++ more ≡ fed (lines ++ others) = ap₂ (λ (xs ys : List ℕ). xs ++ ys) (sym h) (sym k) ∙ sym (fed_both lines others) in
    ap whole_lines is ∙ all_whole (lines ++ others) (all_append (Lacks 10) lines others (lines_plain one) (lines_plain more))

-- ---- parts one behind the other

lost_both : (one more : List ℕ) → whole_text one ≡ one → whole_text more ≡ more → lost_lines (one ++ more) ≡ lost_lines one + lost_lines more
lost_both one more h k =
    ap (λ (lines : List (List ℕ)). length (filter is_loss lines)) (whole_both one more h k)
    ∙ ap (λ (lines : List (List ℕ)). length lines) (filter-append is_loss (whole_lines one) (whole_lines more))
    ∙ length-append (filter is_loss (whole_lines one)) (filter is_loss (whole_lines more))

pub losses_both : (a b c : Option (List ℕ)) (x y z : View) → WritesLosses a b x y → WritesLosses b c y z → WritesLosses a c x z
losses_both a b c x y z h k = record {
  text = h.text ++ k.text;
  appended = Appends-trans a b c h.text k.text h.appended k.appended;
  whole =
      ap fed (whole_both h.text k.text h.whole k.whole)
      ∙ fed_both (whole_lines h.text) (whole_lines k.text)
      ∙ ap₂ (λ (xs ys : List ℕ). xs ++ ys) h.whole k.whole;
  later = omega (arith, h.later, k.later);
  faults =
      subst (λ n. RoseBy n x.state.faults z.state.faults) (sym (lost_both h.text k.text h.whole k.whole))
      (rose_both (lost_lines h.text) (lost_lines k.text) x.state.faults y.state.faults z.state.faults h.later k.later h.faults k.faults);
}

-- lines that are written whole
losses_in : (lines : List (List ℕ)) (a b : Option (List ℕ)) (x y : View) → AllByRecursion (Lacks 10) lines → Appends a b (fed lines) → x.state.faults ≤ y.state.faults
    → RoseBy (length (filter is_loss lines)) x.state.faults y.state.faults → WritesLosses a b x y
losses_in lines a b x y plain appended later rose = record {
  text = fed lines;
  appended = appended;
  whole = ap fed (all_whole lines plain);
  later = later;
  faults = subst (λ (ls : List (List ℕ)). RoseBy (length (filter is_loss ls)) x.state.faults y.state.faults) (sym (all_whole lines plain)) rose;
}

rose_none : (old new : ℕ) → old ≤ new → RoseBy 0 old new
rose_none old new later = inl (omega (arith, later))

-- nothing is written
pub losses_none : (a : Option (List ℕ)) (x y : View) → x.state.faults ≤ y.state.faults → WritesLosses a a x y
losses_none a x y later = losses_in [] a a x y tt (Appends-nil a) later (rose_none x.state.faults y.state.faults later)

-- ---- names

lacks : (b : ℕ) (text : List ℕ) → All (λ c. c ≢ b) text → Lacks b text
lacks b text h = recursion_from_All (λ c. eqb c b ≡ false) text (λ k d below. ne_eqb (slice_index_or text k d) b (h k d below))

-- what holds of each element and of none holds of one that is asked for
at_any : (P : List ℕ → Type 0) (names : List (List ℕ)) (app : ℕ) → P [] → AllByRecursion P names → P (slice_index_or names app [])
at_any P [] app none h = none
at_any P (name ∷ names) zero none h = h.0
at_any P (name ∷ names) (suc app) none h = at_any P names app none h.1

module _ (names : List (List ℕ)) (words : AreFirstWords names) where
  no_feeds : (app : ℕ) → Lacks 10 (slice_index_or names app [])
  no_feeds app =
      at_any (Lacks 10) names app tt
      (recursion_from_All (Lacks 10) names (λ k d below. lacks 10 (slice_index_or names k d) (λ i e within. ((words k d below).0 i e within).1)))

  no_space : (app : ℕ) → app < length names → Lacks 32 (slice_index_or names app [])
  no_space app inside = lacks 32 (slice_index_or names app []) (λ i e within. ((words app [] inside).0 i e within).0)

-- ---- one event

-- how many lines say so of a turn of this kind
abbrev lost_by : TurnKind → ℕ
lost_by Plain = 0
lost_by (Lost change) = 1
lost_by Starved = 0
lost_by Corrupted = 0

marks_lost : (name : List ℕ) (kind : TurnKind) (turn : ℕ) → length (filter is_loss (mark_lines name kind turn)) ≡ lost_by kind
marks_lost name Plain turn = refl
marks_lost name (Lost change) turn = refl
marks_lost name Starved turn = refl
marks_lost name Corrupted turn = refl

-- no line of a reply does
reply_other : (line : List ℕ) → IsReplyLine line → is_loss line ≡ false
reply_other line h =
    let front = codes "board lost " in
    let begun = starts_is Decides-eqb line front (is_loss line) refl in
    let behind = codes "lost " ++ drop (length front) line in
    let first = λ (yes : is_loss line ≡ true). same_parts 32 h.name (codes "board") h.behind behind h.no_space board_one_word (sym h.here ∙ begun.0 yes) in
    false_from_ne_true (is_loss line) (λ yes. h.other (first yes).0)

replies_other : (lines : List (List ℕ)) → AllByRecursion IsReplyLine lines → AllByRecursion (λ line. is_loss line ≡ false) lines
replies_other [] h = tt
replies_other (line ∷ lines) h = (reply_other line h.0, replies_other lines h.1)

rose_lost : (kind : TurnKind) (old new : ℕ) → old ≤ new → RoseIfLost kind old new → RoseBy (lost_by kind) old new
rose_lost Plain old new later rose = rose_none old new later
rose_lost (Lost change) old new later (inl more) = inl (omega (arith, more))
rose_lost (Lost change) old new later (inr most) = inr (omega (arith, most))
rose_lost Starved old new later rose = rose_none old new later
rose_lost Corrupted old new later rose = rose_none old new later

-- the lines of an event, without their line feeds
abbrev lines_of : List ℕ → Happened → List (List ℕ)
lines_of name h = mark_lines name h.kind h.turn ++ map (reply_line name) h.replies

happened_fed : (name : List ℕ) (h : Happened) → happened_lines name h ≡ fed (lines_of name h)
happened_fed name h =
    ap₂ (λ (xs ys : List ℕ). xs ++ ys) (marks_fed name h.kind h.turn) (replies_fed name h.replies)
    ∙ sym (fed_both (mark_lines name h.kind h.turn) (map (reply_line name) h.replies))

sum_none : (sum one other same : ℕ) → sum ≡ one + other → other ≡ 0 → one ≡ same → sum ≡ same
sum_none sum one other same e none is = omega (arith, e, none, is)

lines_lost : (name : List ℕ) (h : Happened) → Lacks 32 name → name ≢ codes "board" → length (filter is_loss (lines_of name h)) ≡ lost_by h.kind
lines_lost name h space other =
    let marks = mark_lines name h.kind h.turn in
    let replies = map (reply_line name) h.replies in
    let none : filter is_loss replies ≡ [] = none_left is_loss replies (replies_other replies (replies_are name h.replies space other)) in
    let parts : length (filter is_loss (marks ++ replies)) ≡ length (filter is_loss marks) + length (filter is_loss replies) =
    ap (λ (lines : List (List ℕ)). length lines) (filter-append is_loss marks replies) ∙ length-append (filter is_loss marks) (filter is_loss replies) in
    let no_more : length (filter is_loss replies) ≡ 0 = ap (λ (lines : List (List ℕ)). length lines) none in
    sum_none (length (filter is_loss (marks ++ replies))) (length (filter is_loss marks)) (length (filter is_loss replies)) (lost_by h.kind) parts no_more (marks_lost name h.kind h.turn)

-- a volume that is seen on its board, before and after
module _ {V : Type 0} (K : VolumeKeeper V) (form : Form) (old new : V) (x y : View) (seen : IsSeenOn K form old x) (seen_then : IsSeenOn K form new y) where
  pub losses_event : (names : List (List ℕ)) (app : ℕ) (h : Happened) (a b : Option (List ℕ)) → AreFirstWords names → app < length names
      → KeepsCounts h.kind (K.condition old) (K.condition new) → Appends a b (happened_lines (slice_index_or names app []) h) → WritesLosses a b x y
  losses_event names app h a b words inside counts written =
      let name = slice_index_or names app [] in
      let space = no_space names words app inside in
      let feed = no_feeds names words app in
      let later : x.state.faults ≤ y.state.faults = omega (arith, counts.faults, seen.faults, seen_then.faults) in
      let rose : RoseIfLost h.kind x.state.faults y.state.faults =
      subst (λ n. RoseIfLost h.kind n y.state.faults) seen.faults (subst (λ n. RoseIfLost h.kind (K.condition old).faults n) seen_then.faults counts.rose) in
      losses_in (lines_of name h) a b x y
      (all_append (Lacks 10) (mark_lines name h.kind h.turn) (map (reply_line name) h.replies) (marks_plain name h.kind h.turn feed) (replies_plain name h.replies feed))
      (subst (Appends a b) (happened_fed name h) written) later
      (subst (λ n. RoseBy n x.state.faults y.state.faults) (sym (lines_lost name h space (words app [] inside).1)) (rose_lost h.kind x.state.faults y.state.faults later rose))

-- ---- a loss of power

power_plain : (names : List (List ℕ)) (told : Power) → ((app : ℕ) → Lacks 10 (slice_index_or names app [])) → Lacks 10 (told_line names told)
power_plain names Clean h = without 10 (codes "board power clean") refl
power_plain names (Kept app) h = all_append (λ c. eqb c 10 ≡ false) (codes "board power kept ") (slice_index_or names app []) (without 10 (codes "board power kept ") refl) (h app)
power_plain names (Absent app) h = all_append (λ c. eqb c 10 ≡ false) (codes "board power absent ") (slice_index_or names app []) (without 10 (codes "board power absent ") refl) (h app)

power_none : (names : List (List ℕ)) (told : Power) → length (filter is_loss (told_line names told ∷ [])) ≡ 0
power_none names Clean = refl
power_none names (Kept app) = refl
power_none names (Absent app) = refl

pub losses_power : (names : List (List ℕ)) (told : Power) (a b : Option (List ℕ)) (x y : View) → AreFirstWords names → x.state.faults ≤ y.state.faults
    → Appends a b (power_line names told) → WritesLosses a b x y
losses_power names told a b x y words later written =
    losses_in (told_line names told ∷ []) a b x y (power_plain names told (no_feeds names words), tt) (subst (Appends a b) (told_fed names told) written) later
    (subst (λ n. RoseBy n x.state.faults y.state.faults) (sym (power_none names told)) (rose_none x.state.faults y.state.faults later))
