-- The line about a turn tells how the turn went, of which application it is and its number. No line of a reply is such a line.
use Rattle.std.proofs.Common.{◌≡◌, ◌≢◌, ◌<◌, ◌^◌, ◌&&◌, ℕ, List, [], ◌∷◌, ◌++◌, Bool, true, false, eqb, map, refl, sym, ap, ap₂, ◌∙◌, append_assoc, append-nil}
use Rattle.std.specs.Prelude.{codes}
use Rattle.std.specs.Bool.{Decides}
use Rattle.std.specs.Fmt.{decimal}
use Rattle.std.specs.List.{AllByRecursion, list_any}
use Rattle.std.specs.Str.{bytes_eq}
use Rattle.std.proofs.Math.Bool.{or-false}
use Rattle.std.proofs.lemmas.Bool.{and_left, and_right, eq-eqb, false_from_ne_true, or_from}
use Rattle.std.proofs.lemmas.Bool.Decides.{Decides-and, Decides-at, Decides-eqb, Decides-like, same_from_decides}
use Rattle.std.proofs.lemmas.Fmt.{decimal_injective}
use Rattle.std.proofs.lemmas.Slice.Eq.{bytes_eq-Decides}
use Rattle.alone.specs.declared.reply.Reply.{Reply}
use Rattle.alone.specs.declared.turn.TurnKind.{TurnKind}
use Rattle.alone.specs.declared.turn.TurnKind.TheVariants.{Plain, Lost, Starved, Corrupted}
use Rattle.report.specs.Texts.{happened_text, mark_text}
use Rattle.script.proofs.Cuts.{Lacks, all_append}
use Rattle.tee_core.specs.Happenings.{is_corrupt_turn, is_lost_turn, is_starved_turn}
use Rattle.run_board.specs.Transcript.{replies_text}
use Rattle.run_board.proofs.LinesFor.{behind_name, decimal_plain, line_plain, reply_is}
use Rattle.run_board.proofs.WholeLines.{fed}

-- ---- first words

-- two texts that are alike begin with the same part before a byte, and go on alike behind it
pub same_parts : (b : ℕ) (one other rest more : List ℕ) → Lacks b one → Lacks b other → one ++ b ∷ rest ≡ other ++ b ∷ more → (one ≡ other) × (rest ≡ more)
same_parts b [] [] rest more h k e =
    let both : b ∷ rest ≡ b ∷ more = e in
    let tails : rest ≡ more = cc in
    (refl, tails)
same_parts b [] (c ∷ other) rest more h k e =
    let both : b ∷ rest ≡ c ∷ (other ++ b ∷ more) = e in
    let head : c ≡ b = cc in
    let yes : eqb c b ≡ true = eq-eqb c b head in
    let no : eqb c b ≡ false = k.0 in
    absurd (cc)
same_parts b (c ∷ one) [] rest more h k e =
    let both : c ∷ (one ++ b ∷ rest) ≡ b ∷ more = e in
    let head : c ≡ b = cc in
    let yes : eqb c b ≡ true = eq-eqb c b head in
    let no : eqb c b ≡ false = h.0 in
    absurd (cc)
same_parts b (c ∷ one) (d ∷ other) rest more h k e =
    let both : c ∷ (one ++ b ∷ rest) ≡ d ∷ (other ++ b ∷ more) = e in
    let head : c ≡ d = cc in
    let tails : one ++ b ∷ rest ≡ other ++ b ∷ more = cc in
    let next = same_parts b one other rest more h.1 k.1 tails in
    (ap₂ (λ (x : ℕ) (xs : List ℕ). x ∷ xs) head next.0, next.1)

-- ---- lines about turns

-- the line about a turn, without its line feed
abbrev pub mark_line : List ℕ → List ℕ → ℕ → List ℕ
mark_line word name turn = codes "board" ++ 32 ∷ (word ++ 32 ∷ (name ++ 32 ∷ decimal turn))

-- the lines about a turn, of which a plain one has none
abbrev pub mark_lines : List ℕ → TurnKind → ℕ → List (List ℕ)
mark_lines name Plain turn = []
mark_lines name (Lost change) turn = mark_line (codes "lost") name turn ∷ []
mark_lines name Starved turn = mark_line (codes "starve") name turn ∷ []
mark_lines name Corrupted turn = mark_line (codes "corrupt") name turn ∷ []

-- the printed text of such a line, by its words
pub mark_parts : (word name digits : List ℕ)
    → codes "board " ++ word ++ codes " " ++ name ++ codes " " ++ digits ++ codes "\n" ≡ codes "board" ++ 32 ∷ (word ++ 32 ∷ (name ++ 32 ∷ (digits ++ 10 ∷ [])))
mark_parts word name digits = simp append_assoc

fed_parts : (word name digits : List ℕ) → (codes "board" ++ 32 ∷ (word ++ 32 ∷ (name ++ 32 ∷ digits))) ++ codes "\n" ≡ codes "board" ++ 32 ∷ (word ++ 32 ∷ (name ++ 32 ∷ (digits ++ 10 ∷ [])))
fed_parts word name digits = simp append_assoc

mark_is : (word name : List ℕ) (turn : ℕ) → mark_text word name turn ≡ fed (mark_line word name turn ∷ [])
mark_is word name turn = mark_parts word name (decimal turn) ∙ sym (fed_parts word name (decimal turn)) ∙ sym (append-nil (mark_line word name turn ++ codes "\n"))

pub marks_fed : (name : List ℕ) (kind : TurnKind) (turn : ℕ) → happened_text name kind turn ≡ fed (mark_lines name kind turn)
marks_fed name Plain turn = refl
marks_fed name (Lost change) turn = mark_is (codes "lost") name turn
marks_fed name Starved turn = mark_is (codes "starve") name turn
marks_fed name Corrupted turn = mark_is (codes "corrupt") name turn

-- no line feed is in them
both : (xs ys : List ℕ) → Lacks 10 xs → Lacks 10 ys → Lacks 10 (xs ++ ys)
both xs ys h k = all_append (λ c. eqb c 10 ≡ false) xs ys h k

mark_plain : (word name : List ℕ) (turn : ℕ) → Lacks 10 word → Lacks 10 name → Lacks 10 (mark_line word name turn)
mark_plain word name turn h k =
    both (codes "board ") (word ++ 32 ∷ (name ++ 32 ∷ decimal turn)) (refl, (refl, (refl, (refl, (refl, (refl, tt))))))
    (both word (32 ∷ (name ++ 32 ∷ decimal turn)) h (refl, both name (32 ∷ decimal turn) k (refl, decimal_plain turn)))

pub marks_plain : (name : List ℕ) (kind : TurnKind) (turn : ℕ) → Lacks 10 name → AllByRecursion (Lacks 10) (mark_lines name kind turn)
marks_plain name Plain turn h = tt
marks_plain name (Lost change) turn h = (mark_plain (codes "lost") name turn (refl, (refl, (refl, (refl, tt)))) h, tt)
marks_plain name Starved turn h = (mark_plain (codes "starve") name turn (refl, (refl, (refl, (refl, (refl, (refl, tt)))))) h, tt)
marks_plain name Corrupted turn h = (mark_plain (codes "corrupt") name turn (refl, (refl, (refl, (refl, (refl, (refl, (refl, tt))))))) h, tt)

-- ---- what it tells

-- whether the line, with a line feed behind it, is that about the turn of this number
abbrev pub is_mark : List ℕ → List ℕ → ℕ → List ℕ → Bool
is_mark word name turn line = bytes_eq (line ++ codes "\n") (mark_text word name turn)

-- the words of these lines have no space
pub board_one_word : Lacks 32 (codes "board")
board_one_word = (refl, (refl, (refl, (refl, (refl, tt)))))

lost_one_word : Lacks 32 (codes "lost")
lost_one_word = (refl, (refl, (refl, (refl, tt))))

starve_one_word : Lacks 32 (codes "starve")
starve_one_word = (refl, (refl, (refl, (refl, (refl, (refl, tt))))))

corrupt_one_word : Lacks 32 (codes "corrupt")
corrupt_one_word = (refl, (refl, (refl, (refl, (refl, (refl, (refl, tt)))))))

-- two lines about turns are alike only where they tell the same
same_told : (word name said called : List ℕ) (turn number : ℕ) → Lacks 32 word → Lacks 32 name → Lacks 32 said → Lacks 32 called → turn < 2 ^ 64 → number < 2 ^ 64
    → mark_line word name turn ++ codes "\n" ≡ mark_text said called number → (name ≡ called) × ((word ≡ said) × (turn ≡ number))
same_told word name said called turn number word_space name_space said_space called_space small few e =
    let lines = sym (fed_parts word name (decimal turn)) ∙ e ∙ mark_parts said called (decimal number) in
    let behind = name ++ 32 ∷ (decimal turn ++ 10 ∷ []) in
    let later = called ++ 32 ∷ (decimal number ++ 10 ∷ []) in
    let words = same_parts 32 (codes "board") (codes "board") (word ++ 32 ∷ behind) (said ++ 32 ∷ later) board_one_word board_one_word lines in
    let names = same_parts 32 word said behind later word_space said_space words.1 in
    let numbers = same_parts 32 name called (decimal turn ++ 10 ∷ []) (decimal number ++ 10 ∷ []) name_space called_space names.1 in
    let digits = same_parts 10 (decimal turn) (decimal number) [] [] (decimal_plain turn) (decimal_plain number) numbers.1 in
    (numbers.0, (names.0, decimal_injective turn number small few digits.0))

told_same : (word name said called : List ℕ) (turn number : ℕ) → (name ≡ called) × ((word ≡ said) × (turn ≡ number)) → mark_line word name turn ++ codes "\n" ≡ mark_text said called number
told_same word name said called turn number h =
    fed_parts word name (decimal turn) ∙ sym (mark_parts word name (decimal turn))
    ∙ ap (λ (w : List ℕ). mark_text w name turn) h.1.0
    ∙ ap (λ (n : List ℕ). mark_text said n turn) h.0
    ∙ ap (λ (t : ℕ). mark_text said called t) h.1.1

mark_decides : (word name said called : List ℕ) (turn number : ℕ) → Lacks 32 word → Lacks 32 name → Lacks 32 said → Lacks 32 called → turn < 2 ^ 64 → number < 2 ^ 64
    → Decides (is_mark said called number (mark_line word name turn)) ((name ≡ called) × ((word ≡ said) × (turn ≡ number)))
mark_decides word name said called turn number word_space name_space said_space called_space small few =
    Decides-like (is_mark said called number (mark_line word name turn))
    (λ e. same_told word name said called turn number word_space name_space said_space called_space small few e)
    (λ h. told_same word name said called turn number h)
    (bytes_eq-Decides (mark_line word name turn ++ codes "\n") (mark_text said called number))

-- the word of a line says that a turn went so, and isn't that of a loss of power
pub record IsSaidBy (went : TurnKind → Bool) (word : List ℕ) : Type 0 where
  pub no_space : Lacks 32 word
  pub other : word ≢ codes "power"
  pub plain : went Plain ≡ false
  pub lost : (change : Bool) → went (Lost change) ≡ bytes_eq (codes "lost") word
  pub starved : went Starved ≡ bytes_eq (codes "starve") word
  pub corrupted : went Corrupted ≡ bytes_eq (codes "corrupt") word

pub lost_said : IsSaidBy is_lost_turn (codes "lost")
lost_said = record { no_space = lost_one_word; other = λ e. cc; plain = refl; lost = λ change. refl; starved = refl; corrupted = refl }

pub corrupt_said : IsSaidBy is_corrupt_turn (codes "corrupt")
corrupt_said = record { no_space = corrupt_one_word; other = λ e. cc; plain = refl; lost = λ change. refl; starved = refl; corrupted = refl }

pub starved_said : IsSaidBy is_starved_turn (codes "starve")
starved_said = record { no_space = starve_one_word; other = λ e. cc; plain = refl; lost = λ change. refl; starved = refl; corrupted = refl }

module _ (went : TurnKind → Bool) (said : List ℕ) (says : IsSaidBy went said) where
  one_told : (word name called : List ℕ) (same went_so : Bool) (turn number : ℕ) → Lacks 32 word → Lacks 32 name → Lacks 32 called → turn < 2 ^ 64 → number < 2 ^ 64
      → Decides same (name ≡ called) → went_so ≡ bytes_eq word said
      → list_any (is_mark said called number) (mark_line word name turn ∷ []) ≡ (same && (went_so && eqb turn number))
  one_told word name called same went_so turn number word_space name_space called_space small few names_same so =
      or-false (is_mark said called number (mark_line word name turn))
      ∙ same_from_decides (is_mark said called number (mark_line word name turn)) (same && (went_so && eqb turn number))
      (mark_decides word name said called turn number word_space name_space says.no_space called_space small few)
      (Decides-and same (went_so && eqb turn number) names_same
      (Decides-and went_so (eqb turn number) (Decides-at went_so (bytes_eq word said) so (bytes_eq-Decides word said)) (Decides-eqb turn number)))

  -- of the lines about a turn one is that of the application and the number that are asked for, where the turn is such a one and went so
  pub marks_told : (name called : List ℕ) (same : Bool) (kind : TurnKind) (turn number : ℕ) → Lacks 32 name → Lacks 32 called → turn < 2 ^ 64 → number < 2 ^ 64 → Decides same (name ≡ called)
      → list_any (is_mark said called number) (mark_lines name kind turn) ≡ (same && (went kind && eqb turn number))
  marks_told name called same Plain turn number h k small few names_same = sym (and_right same (went Plain && eqb turn number) (and_left (went Plain) (eqb turn number) says.plain))
  marks_told name called same (Lost change) turn number h k small few names_same =
      one_told (codes "lost") name called same (went (Lost change)) turn number lost_one_word h k small few names_same (says.lost change)
  marks_told name called same Starved turn number h k small few names_same =
      one_told (codes "starve") name called same (went Starved) turn number starve_one_word h k small few names_same says.starved
  marks_told name called same Corrupted turn number h k small few names_same =
      one_told (codes "corrupt") name called same (went Corrupted) turn number corrupt_one_word h k small few names_same says.corrupted

-- ---- lines of replies

-- a line whose first word isn't that of the lines about turns
pub record IsReplyLine (line : List ℕ) : Type 0 where
  pub name : List ℕ
  pub behind : List ℕ
  pub no_space : Lacks 32 name
  pub other : name ≢ codes "board"
  pub here : line ≡ name ++ 32 ∷ behind

reply_apart : (said called line : List ℕ) (number : ℕ) → IsReplyLine line → line ++ codes "\n" ≡ mark_text said called number → ⊥
reply_apart said called line number h alike =
    let more = said ++ 32 ∷ (called ++ 32 ∷ (decimal number ++ 10 ∷ [])) in
    let regrouped : h.name ++ 32 ∷ (h.behind ++ 10 ∷ []) ≡ line ++ codes "\n" =
    sym (append_assoc h.name (32 ∷ h.behind) (codes "\n")) ∙ ap (λ (l : List ℕ). l ++ codes "\n") (sym h.here) in
    let texts : h.name ++ 32 ∷ (h.behind ++ 10 ∷ []) ≡ codes "board" ++ 32 ∷ more = regrouped ∙ alike ∙ mark_parts said called (decimal number) in
    h.other (same_parts 32 h.name (codes "board") (h.behind ++ 10 ∷ []) more h.no_space board_one_word texts).0

reply_other : (said called line : List ℕ) (number : ℕ) → IsReplyLine line → is_mark said called number line ≡ false
reply_other said called line number h =
    let same = bytes_eq-Decides (line ++ codes "\n") (mark_text said called number) in
    false_from_ne_true (is_mark said called number line) (λ yes. reply_apart said called line number h (same.0 yes))

-- none of them is about a turn
pub replies_other : (said called : List ℕ) (number : ℕ) (lines : List (List ℕ)) → AllByRecursion IsReplyLine lines → list_any (is_mark said called number) lines ≡ false
replies_other said called number [] h = refl
replies_other said called number (line ∷ lines) h =
    or_from (is_mark said called number line) (list_any (is_mark said called number) lines) (reply_other said called line number h.0) (replies_other said called number lines h.1)

-- the line of a reply, without its line feed
abbrev pub reply_line : List ℕ → Reply → List ℕ
reply_line name reply = name ++ 32 ∷ behind_name reply

pub replies_fed : (name : List ℕ) (replies : List Reply) → replies_text name replies ≡ fed (map (reply_line name) replies)
replies_fed name [] = refl
replies_fed name (reply ∷ replies) =
    reply_is name reply (replies_text name replies)
    ∙ ap (λ (zs : List ℕ). reply_line name reply ++ 10 ∷ zs) (replies_fed name replies)
    ∙ sym (append_assoc (reply_line name reply) (codes "\n") (fed (map (reply_line name) replies)))

pub replies_plain : (name : List ℕ) (replies : List Reply) → Lacks 10 name → AllByRecursion (Lacks 10) (map (reply_line name) replies)
replies_plain name [] h = tt
replies_plain name (reply ∷ replies) h = (line_plain name reply h, replies_plain name replies h)

pub replies_are : (name : List ℕ) (replies : List Reply) → Lacks 32 name → name ≢ codes "board" → AllByRecursion IsReplyLine (map (reply_line name) replies)
replies_are name [] h other = tt
replies_are name (reply ∷ replies) h other = (record { name = name; behind = behind_name reply; no_space = h; other = other; here = refl }, replies_are name replies h other)
