-- The lines of a text that are under a name.
use Rattle.std.proofs.Common.{◌≡◌, ◌≢◌, ◌++◌, ◌+◌, ◌/◌, ◌%◌, ◌⊎◌, ◌&&◌, inl, inr, ℕ, zero, suc, List, [], ◌∷◌, Bool, true, false, cond, eqb, ltb, get_or, refl, sym, ◌∙◌, ap, append_assoc, arith}
use Rattle.std.specs.Prelude.{◌||◌, codes}
use Rattle.std.specs.Fmt.{decimal, digit_glyph, digits, digits_onto}
use Rattle.std.specs.Int.{w32, to_be_bytes}
use Rattle.std.specs.List.{filter, flat_map, slice_split}
use Rattle.std.proofs.lemmas.Bool.{eq-eqb, eqb-true, ne_eqb}
use Rattle.hex.specs.Hex.{encode_lower, encode_with, lower_digits}
use Rattle.tee_base.specs.Codes.{number_of}
use Rattle.alone.specs.declared.power.Power.{Power}
use Rattle.alone.specs.declared.power.Power.TheVariants.{Clean, Kept, Absent}
use Rattle.alone.specs.declared.turn.TurnKind.{TurnKind}
use Rattle.alone.specs.declared.turn.TurnKind.TheVariants as kinds
use Rattle.alone.specs.declared.reply.Outputs.{Outputs}
use Rattle.alone.specs.declared.reply.Reply.{Reply}
use Rattle.alone.specs.declared.reply.Shown.{Shown}
use Rattle.alone.specs.declared.reply.Shown.TheVariants.{Nothing, Value, Mem, Size}
use Rattle.report.specs.Texts.{code_text, happened_text, mark_text, outputs_text, parameter_text, power_text, reply_text, shown_text}
use Rattle.script.proofs.Cuts.{Lacks, all_append, cut_at}
use Rattle.tee_core.specs.declared.happened.Happened.{Happened}
use Rattle.run_board.specs.BoardLines.{begins_with}
use Rattle.run_board.specs.Isolation.{is_mark_of, is_under, lines_for, mark_front}
use Rattle.run_board.specs.Transcript.{happened_lines, owner_name, power_line, replies_text}

-- which way a test went
pub which : (t : Bool) → (t ≡ true) ⊎ (t ≡ false)
which true = inl refl
which false = inr refl

or_yes : (b : Bool) → (b || true) ≡ true
or_yes true = refl
or_yes false = refl

-- ---- the first words of a line

-- a line begins with its front
begins_own : (front rest : List ℕ) → begins_with front (front ++ rest) ≡ true
begins_own [] rest = refl
begins_own (c ∷ front) rest = rw (eq-eqb c c refl) (begins_own front rest)

-- a word without a space doesn't begin a line whose first word is another
begins_other : (word other more rest : List ℕ) → Lacks 32 word → Lacks 32 other → other ≢ word → begins_with (word ++ 32 ∷ more) (other ++ 32 ∷ rest) ≡ false
begins_other [] [] more rest h k apart = absurd (apart refl)
begins_other [] (o ∷ other) more rest h k apart = rw (flip o k.0) refl
  where
    flip : (o : ℕ) → eqb o 32 ≡ false → eqb 32 o ≡ false
    flip o e = ne_eqb 32 o (λ same. let t : eqb o 32 ≡ true = eq-eqb o 32 (sym same) in cc)
begins_other (c ∷ word) [] more rest h k apart = rw h.0 refl
begins_other (c ∷ word) (o ∷ other) more rest h k apart =
    elim (which (eqb c o)) [
      | inl e ↦
          ap (λ t. t && begins_with (word ++ 32 ∷ more) (other ++ 32 ∷ rest)) e
          ∙ begins_other word other more rest h.1 k.1 (λ same. apart (ap (λ x. x ∷ other) (sym (eqb-true c o e)) ∙ ap (λ xs. c ∷ xs) same))
      | inr e ↦ ap (λ t. t && begins_with (word ++ 32 ∷ more) (other ++ 32 ∷ rest)) e
    ]

-- the word that begins a line about the board
abbrev board : List ℕ
board = codes "board"

board_plain : Lacks 32 board
board_plain = (refl, (refl, (refl, (refl, (refl, tt)))))

-- a line that begins with none of the three fronts tells of no turn
none_marked : (name line : List ℕ) → begins_with (mark_front (codes "lost") name) line ≡ false → begins_with (mark_front (codes "corrupt") name) line ≡ false
    → begins_with (mark_front (codes "starve") name) line ≡ false → is_mark_of name line ≡ false
none_marked name line e f g =
    ap (λ t. t || begins_with (mark_front (codes "corrupt") name) line || begins_with (mark_front (codes "starve") name) line) e
    ∙ ap (λ t. t || begins_with (mark_front (codes "starve") name) line) f
    ∙ g

-- a line whose first word is another than board tells of no turn
no_mark : (name other rest : List ℕ) → Lacks 32 other → other ≢ codes "board" → is_mark_of name (other ++ 32 ∷ rest) ≡ false
no_mark name other rest k apart =
    let none = λ (more : List ℕ). begins_other board other more rest board_plain k apart in
    none_marked name (other ++ 32 ∷ rest) (none (codes "lost " ++ name ++ codes " ")) (none (codes "corrupt " ++ name ++ codes " ")) (none (codes "starve " ++ name ++ codes " "))

-- a line is under its first word
under_own : (name rest : List ℕ) → is_under name (name ++ 32 ∷ rest) ≡ true
under_own name rest =
    ap (λ t. t || is_mark_of name (name ++ 32 ∷ rest)) (ap (begins_with (name ++ codes " ")) (sym (append_assoc name (codes " ") rest)) ∙ begins_own (name ++ codes " ") rest)

-- and under no other name
under_other : (name other rest : List ℕ) → Lacks 32 name → Lacks 32 other → other ≢ name → other ≢ codes "board" → is_under name (other ++ 32 ∷ rest) ≡ false
under_other name other rest h k apart no_board =
    ap (λ t. t || is_mark_of name (other ++ 32 ∷ rest)) (begins_other name other [] rest h k apart)
    ∙ no_mark name other rest k no_board

-- ---- a line of a text

under_one : (name line : List ℕ) (t : Bool) (parts : List (List ℕ))
    → flat_map (λ (l : List ℕ). l ++ codes "\n") (cond t (line ∷ parts) parts) ≡ cond t (line ++ 10 ∷ []) [] ++ flat_map (λ (l : List ℕ). l ++ codes "\n") parts
under_one name line true parts = refl
under_one name line false parts = refl

first_line : (name line rest : List ℕ) → Lacks 10 line → lines_for name (line ++ 10 ∷ rest) ≡ cond (is_under name line) (line ++ 10 ∷ []) [] ++ lines_for name rest
first_line name line rest h =
    ap (λ (parts : List (List ℕ)). flat_map (λ (l : List ℕ). l ++ codes "\n") (filter (is_under name) parts)) (cut_at 10 line rest h)
    ∙ under_one name line (is_under name line) (filter (is_under name) (slice_split (λ c. eqb c 10) rest))

-- ---- what is written of a reply has one line feed, at its end

both : (xs ys : List ℕ) → Lacks 10 xs → Lacks 10 ys → Lacks 10 (xs ++ ys)
both xs ys h k = all_append (λ c. eqb c 10 ≡ false) xs ys h k

glyph_plain : (d : ℕ) → eqb (digit_glyph false d) 10 ≡ false
glyph_plain d = by (ltb d 10)
  where
    by : (t : Bool) → eqb (cond t (48 + d) (87 + d)) 10 ≡ false
    by true = ne_eqb (48 + d) 10 (λ e. omega arith)
    by false = ne_eqb (87 + d) 10 (λ e. omega arith)

onto_plain : (k n : ℕ) (acc : List ℕ) → Lacks 10 acc → Lacks 10 (digits_onto k 10 false n acc)
onto_plain zero n acc h = h
onto_plain (suc k) n acc h =
    let more : Lacks 10 (digit_glyph false (n % 10) ∷ acc) = (glyph_plain (n % 10), h) in
    elim (eqb (n / 10) 0) as (λ t. Lacks 10 (cond t (digit_glyph false (n % 10) ∷ acc) (digits_onto k 10 false (n / 10) (digit_glyph false (n % 10) ∷ acc)))) [
      | true ↦ more
      | false ↦ onto_plain k (n / 10) (digit_glyph false (n % 10) ∷ acc) more
    ]

pub decimal_plain : (n : ℕ) → Lacks 10 (decimal n)
unfolding digits
decimal_plain n = onto_plain 64 n [] tt

at_plain : (table : List ℕ) (i : ℕ) → Lacks 10 table → eqb (get_or table i 0) 10 ≡ false
at_plain [] i h = refl
at_plain (c ∷ table) zero h = h.0
at_plain (c ∷ table) (suc i) h = at_plain table i h.1

encoded_plain : (table bytes : List ℕ) → Lacks 10 table → Lacks 10 (encode_with table bytes)
unfolding encode_with
encoded_plain table [] h = tt
encoded_plain table (b ∷ bytes) h = (at_plain table (b / 16) h, (at_plain table (b % 16) h, encoded_plain table bytes h))

hex_plain : (bytes : List ℕ) → Lacks 10 (encode_lower bytes)
hex_plain bytes = encoded_plain lower_digits bytes (refl, (refl, (refl, (refl, (refl, (refl, (refl, (refl, (refl, (refl, (refl, (refl, (refl, (refl, (refl, (refl, tt))))))))))))))))

parameter_plain : (index : ℕ) → Lacks 10 (parameter_text index)
parameter_plain index = (refl, (refl, both (decimal index) (codes "=") (decimal_plain index) (refl, tt)))

shown_plain : (index : ℕ) (shown : Shown) → Lacks 10 (shown_text index shown)
shown_plain index Nothing = tt
shown_plain index (Value a b) =
    let first = both (parameter_text index) (decimal a) (parameter_plain index) (decimal_plain a) in
    both (parameter_text index ++ decimal a ++ codes ",") (decimal b) (both (parameter_text index ++ decimal a) (codes ",") first (refl, tt)) (decimal_plain b)
shown_plain index (Mem size bytes) =
    let first = both (parameter_text index) (decimal size) (parameter_plain index) (decimal_plain size) in
    both (parameter_text index ++ decimal size ++ codes ":") (encode_lower bytes) (both (parameter_text index ++ decimal size) (codes ":") first (refl, tt)) (hex_plain bytes)
shown_plain index (Size size) = both (parameter_text index ++ decimal size) (codes "!") (both (parameter_text index) (decimal size) (parameter_plain index) (decimal_plain size)) (refl, tt)

outputs_plain : (outputs : Outputs) → Lacks 10 (outputs_text outputs)
outputs_plain outputs =
    let first_two = both (shown_text 0 outputs.p0) (shown_text 1 outputs.p1) (shown_plain 0 outputs.p0) (shown_plain 1 outputs.p1) in
    let first_three = both (shown_text 0 outputs.p0 ++ shown_text 1 outputs.p1) (shown_text 2 outputs.p2) first_two (shown_plain 2 outputs.p2) in
    both (shown_text 0 outputs.p0 ++ shown_text 1 outputs.p1 ++ shown_text 2 outputs.p2) (shown_text 3 outputs.p3) first_three (shown_plain 3 outputs.p3)

-- what stands behind the name and the space, without the line feed
pub behind_name : Reply → List ℕ
behind_name reply = decimal reply.op ++ 32 ∷ (code_text reply.code ++ 32 ∷ (decimal (number_of reply.origin) ++ outputs_text reply.outputs))

behind_plain : (reply : Reply) → Lacks 10 (behind_name reply)
unfolding behind_name
behind_plain reply =
    let last = decimal (number_of reply.origin) ++ outputs_text reply.outputs in
    both (decimal reply.op) (32 ∷ (code_text reply.code ++ 32 ∷ last)) (decimal_plain reply.op) (
      refl,
      both (code_text reply.code) (32 ∷ last) (hex_plain (to_be_bytes w32 reply.code.0))
          (refl, both (decimal (number_of reply.origin)) (outputs_text reply.outputs) (decimal_plain (number_of reply.origin)) (outputs_plain reply.outputs)),
    )

put_together : (name op code origin outputs rest : List ℕ)
    → (name ++ codes " " ++ op ++ codes " " ++ code ++ codes " " ++ origin ++ outputs ++ codes "\n") ++ rest ≡ (name ++ 32 ∷ (op ++ 32 ∷ (code ++ 32 ∷ (origin ++ outputs)))) ++ 10 ∷ rest
put_together name op code origin outputs rest = simp append_assoc

pub reply_is : (name : List ℕ) (reply : Reply) (rest : List ℕ) → reply_text name reply ++ rest ≡ (name ++ 32 ∷ behind_name reply) ++ 10 ∷ rest
unfolding behind_name
reply_is name reply rest = put_together name (decimal reply.op) (code_text reply.code) (decimal (number_of reply.origin)) (outputs_text reply.outputs) rest

pub line_plain : (name : List ℕ) (reply : Reply) → Lacks 10 name → Lacks 10 (name ++ 32 ∷ behind_name reply)
line_plain name reply h = both name (32 ∷ behind_name reply) h (refl, behind_plain reply)

-- ---- the line of a turn that was lost, damaged or starved

-- its text without the line feed
abbrev mark_line : List ℕ → List ℕ → ℕ → List ℕ
mark_line word name turn = (codes "board " ++ word) ++ 32 ∷ (name ++ 32 ∷ decimal turn)

mark_put : (front word name number rest : List ℕ) → (front ++ word ++ codes " " ++ name ++ codes " " ++ number ++ codes "\n") ++ rest ≡ ((front ++ word) ++ 32 ∷ (name ++ 32 ∷ number)) ++ 10 ∷ rest
mark_put front word name number rest = simp append_assoc

mark_is : (word name : List ℕ) (turn : ℕ) (rest : List ℕ) → mark_text word name turn ++ rest ≡ mark_line word name turn ++ 10 ∷ rest
mark_is word name turn rest = mark_put (codes "board ") word name (decimal turn) rest

front_put : (front word name number : List ℕ) → (front ++ word) ++ 32 ∷ (name ++ 32 ∷ number) ≡ (front ++ word ++ codes " " ++ name ++ codes " ") ++ number
front_put front word name number = simp append_assoc

mark_begins : (word name : List ℕ) (turn : ℕ) → begins_with (mark_front word name) (mark_line word name turn) ≡ true
mark_begins word name turn = ap (begins_with (mark_front word name)) (front_put (codes "board ") word name (decimal turn)) ∙ begins_own (mark_front word name) (decimal turn)

mark_plain : (word name : List ℕ) (turn : ℕ) → Lacks 10 word → Lacks 10 name → Lacks 10 (mark_line word name turn)
mark_plain word name turn h k =
    both (codes "board " ++ word) (32 ∷ (name ++ 32 ∷ decimal turn)) (both (codes "board ") word (refl, (refl, (refl, (refl, (refl, (refl, tt)))))) h)
    (refl, both name (32 ∷ decimal turn) k (refl, decimal_plain turn))

-- the line is under the name
lost_own : (name : List ℕ) (turn : ℕ) → is_under name (mark_line (codes "lost") name turn) ≡ true
lost_own name turn =
    let line = mark_line (codes "lost") name turn in
    let first = begins_with (name ++ codes " ") line in
    ap (λ t. first || (t || begins_with (mark_front (codes "corrupt") name) line || begins_with (mark_front (codes "starve") name) line)) (mark_begins (codes "lost") name turn)
    ∙ or_yes first

corrupt_own : (name : List ℕ) (turn : ℕ) → is_under name (mark_line (codes "corrupt") name turn) ≡ true
corrupt_own name turn =
    let line = mark_line (codes "corrupt") name turn in
    let first = begins_with (name ++ codes " ") line in
    ap (λ t. first || (begins_with (mark_front (codes "lost") name) line || t || begins_with (mark_front (codes "starve") name) line)) (mark_begins (codes "corrupt") name turn)
    ∙ or_yes first

starve_own : (name : List ℕ) (turn : ℕ) → is_under name (mark_line (codes "starve") name turn) ≡ true
starve_own name turn =
    let line = mark_line (codes "starve") name turn in
    let first = begins_with (name ++ codes " ") line in
    ap (λ t. first || (begins_with (mark_front (codes "lost") name) line || begins_with (mark_front (codes "corrupt") name) line || t)) (mark_begins (codes "starve") name turn)
    ∙ or_yes first

-- and under no other name
module _ (name other : List ℕ) (turn : ℕ) (space : Lacks 32 name) (other_space : Lacks 32 other) (apart : other ≢ name) (no_board : name ≢ codes "board") where
  board_apart : (rest : List ℕ) → begins_with (name ++ codes " ") (codes "board" ++ 32 ∷ rest) ≡ false
  board_apart rest = begins_other name board [] rest space board_plain (λ same. no_board (sym same))

  third_apart : begins_with (name ++ codes " ") (other ++ 32 ∷ decimal turn) ≡ false
  third_apart = begins_other name other [] (decimal turn) space other_space apart

  lost_other : is_under name (mark_line (codes "lost") other turn) ≡ false
  lost_other =
      let line = mark_line (codes "lost") other turn in
      ap (λ t. t || is_mark_of name line) (board_apart (codes "lost " ++ other ++ 32 ∷ decimal turn)) ∙ none_marked name line third_apart refl refl

  corrupt_other : is_under name (mark_line (codes "corrupt") other turn) ≡ false
  corrupt_other =
      let line = mark_line (codes "corrupt") other turn in
      ap (λ t. t || is_mark_of name line) (board_apart (codes "corrupt " ++ other ++ 32 ∷ decimal turn)) ∙ none_marked name line refl third_apart refl

  starve_other : is_under name (mark_line (codes "starve") other turn) ≡ false
  starve_other =
      let line = mark_line (codes "starve") other turn in
      ap (λ t. t || is_mark_of name line) (board_apart (codes "starve " ++ other ++ 32 ∷ decimal turn)) ∙ none_marked name line refl refl third_apart

under_is : (name word : List ℕ) (turn : ℕ) (rest : List ℕ) → Lacks 10 word → Lacks 10 name → is_under name (mark_line word name turn) ≡ true
    → lines_for name (mark_text word name turn ++ rest) ≡ mark_text word name turn ++ lines_for name rest
under_is name word turn rest h k under =
    let line = mark_line word name turn in
    ap (lines_for name) (mark_is word name turn rest)
    ∙ first_line name line rest (mark_plain word name turn h k)
    ∙ ap (λ (t : Bool). cond t (line ++ 10 ∷ []) [] ++ lines_for name rest) under
    ∙ append_assoc line (10 ∷ []) (lines_for name rest)
    ∙ sym (mark_is word name turn (lines_for name rest))

under_none : (name other word : List ℕ) (turn : ℕ) (rest : List ℕ) → Lacks 10 word → Lacks 10 other → is_under name (mark_line word other turn) ≡ false
    → lines_for name (mark_text word other turn ++ rest) ≡ lines_for name rest
under_none name other word turn rest h k under =
    let line = mark_line word other turn in
    ap (lines_for name) (mark_is word other turn rest)
    ∙ first_line name line rest (mark_plain word other turn h k)
    ∙ ap (λ (t : Bool). cond t (line ++ 10 ∷ []) [] ++ lines_for name rest) under

lost_plain : Lacks 10 (codes "lost")
lost_plain = (refl, (refl, (refl, (refl, tt))))

corrupt_plain : Lacks 10 (codes "corrupt")
corrupt_plain = (refl, (refl, (refl, (refl, (refl, (refl, (refl, tt)))))))

starve_plain : Lacks 10 (codes "starve")
starve_plain = (refl, (refl, (refl, (refl, (refl, (refl, tt))))))

-- what is written of how a turn went under a name is under it
own_mark : (name : List ℕ) (kind : TurnKind) (turn : ℕ) (rest : List ℕ) → Lacks 10 name → lines_for name (happened_text name kind turn ++ rest) ≡ happened_text name kind turn ++ lines_for name rest
own_mark name kinds.Plain turn rest h = refl
own_mark name (kinds.Lost change) turn rest h = under_is name (codes "lost") turn rest lost_plain h (lost_own name turn)
own_mark name kinds.Starved turn rest h = under_is name (codes "starve") turn rest starve_plain h (starve_own name turn)
own_mark name kinds.Corrupted turn rest h = under_is name (codes "corrupt") turn rest corrupt_plain h (corrupt_own name turn)

-- ---- names

-- two names, each of which has neither a space nor a line feed and isn't the word board, and which differ
pub record AreOther (name other : List ℕ) : Type 0 where
  pub space : Lacks 32 name
  pub other_space : Lacks 32 other
  pub other_feed : Lacks 10 other
  pub apart : other ≢ name
  pub no_board : name ≢ codes "board"
  pub other_no_board : other ≢ codes "board"

other_mark : (name other : List ℕ) (kind : TurnKind) (turn : ℕ) (rest : List ℕ) → AreOther name other → lines_for name (happened_text other kind turn ++ rest) ≡ lines_for name rest
other_mark name other kinds.Plain turn rest o = refl
other_mark name other (kinds.Lost change) turn rest o =
    under_none name other (codes "lost") turn rest lost_plain o.other_feed (lost_other name other turn o.space o.other_space o.apart o.no_board)
other_mark name other kinds.Starved turn rest o =
    under_none name other (codes "starve") turn rest starve_plain o.other_feed (starve_other name other turn o.space o.other_space o.apart o.no_board)
other_mark name other kinds.Corrupted turn rest o =
    under_none name other (codes "corrupt") turn rest corrupt_plain o.other_feed (corrupt_other name other turn o.space o.other_space o.apart o.no_board)

-- ---- the lines of replies

own_reply : (name : List ℕ) (reply : Reply) (rest : List ℕ) → Lacks 10 name → lines_for name (reply_text name reply ++ rest) ≡ reply_text name reply ++ lines_for name rest
own_reply name reply rest h =
    let line = name ++ 32 ∷ behind_name reply in
    ap (lines_for name) (reply_is name reply rest)
    ∙ first_line name line rest (line_plain name reply h)
    ∙ ap (λ (t : Bool). cond t (line ++ 10 ∷ []) [] ++ lines_for name rest) (under_own name (behind_name reply))
    ∙ append_assoc line (10 ∷ []) (lines_for name rest)
    ∙ sym (reply_is name reply (lines_for name rest))

other_reply : (name other : List ℕ) (reply : Reply) (rest : List ℕ) → AreOther name other → lines_for name (reply_text other reply ++ rest) ≡ lines_for name rest
other_reply name other reply rest o =
    let line = other ++ 32 ∷ behind_name reply in
    ap (lines_for name) (reply_is other reply rest)
    ∙ first_line name line rest (line_plain other reply o.other_feed)
    ∙ ap (λ (t : Bool). cond t (line ++ 10 ∷ []) [] ++ lines_for name rest) (under_other name other (behind_name reply) o.space o.other_space o.apart o.other_no_board)

-- the lines of replies under a name are under it
own_replies : (name : List ℕ) (replies : List Reply) (rest : List ℕ) → Lacks 10 name → lines_for name (replies_text name replies ++ rest) ≡ replies_text name replies ++ lines_for name rest
own_replies name [] rest h = refl
own_replies name (reply ∷ replies) rest h =
    ap (lines_for name) (append_assoc (reply_text name reply) (replies_text name replies) rest)
    ∙ own_reply name reply (replies_text name replies ++ rest) h
    ∙ ap (λ zs. reply_text name reply ++ zs) (own_replies name replies rest h)
    ∙ sym (append_assoc (reply_text name reply) (replies_text name replies) (lines_for name rest))

-- those under another name are not
other_replies : (name other : List ℕ) (replies : List Reply) (rest : List ℕ) → AreOther name other → lines_for name (replies_text other replies ++ rest) ≡ lines_for name rest
other_replies name other [] rest o = refl
other_replies name other (reply ∷ replies) rest o =
    ap (lines_for name) (append_assoc (reply_text other reply) (replies_text other replies) rest)
    ∙ other_reply name other reply (replies_text other replies ++ rest) o
    ∙ other_replies name other replies rest o

-- ---- the lines of a happening

-- those under a name are under it
pub own_happened : (name : List ℕ) (h : Happened) (rest : List ℕ) → Lacks 10 name → lines_for name (happened_lines name h ++ rest) ≡ happened_lines name h ++ lines_for name rest
own_happened name h rest feed =
    let mark = happened_text name h.kind h.turn in
    let replies = replies_text name h.replies in
    ap (lines_for name) (append_assoc mark replies rest)
    ∙ own_mark name h.kind h.turn (replies ++ rest) feed
    ∙ ap (λ zs. mark ++ zs) (own_replies name h.replies rest feed)
    ∙ sym (append_assoc mark replies (lines_for name rest))

-- those under another name are not
pub other_happened : (name other : List ℕ) (h : Happened) (rest : List ℕ) → AreOther name other → lines_for name (happened_lines other h ++ rest) ≡ lines_for name rest
other_happened name other h rest o =
    let mark = happened_text other h.kind h.turn in
    let replies = replies_text other h.replies in
    ap (lines_for name) (append_assoc mark replies rest)
    ∙ other_mark name other h.kind h.turn (replies ++ rest) o
    ∙ other_replies name other h.replies rest o

-- ---- the line of a loss of power

-- its text without the line feed, where the change in doubt is that of the application of this name
abbrev power_words : List ℕ → Power → List ℕ
power_words owner Clean = codes "board power clean"
power_words owner (Kept app) = codes "board power kept " ++ owner
power_words owner (Absent app) = codes "board power absent " ++ owner

power_put : (front owner rest : List ℕ) → (front ++ owner ++ codes "\n") ++ rest ≡ (front ++ owner) ++ 10 ∷ rest
power_put front owner rest = simp append_assoc

power_is : (owner : List ℕ) (told : Power) (rest : List ℕ) → power_text owner told ++ rest ≡ power_words owner told ++ 10 ∷ rest
power_is owner Clean rest = refl
power_is owner (Kept app) rest = power_put (codes "board power kept ") owner rest
power_is owner (Absent app) rest = power_put (codes "board power absent ") owner rest

power_plain : (owner : List ℕ) (told : Power) → Lacks 10 owner → Lacks 10 (power_words owner told)
power_plain owner Clean h = (refl, (refl, (refl, (refl, (refl, (refl, (refl, (refl, (refl, (refl, (refl, (refl, (refl, (refl, (refl, (refl, (refl, tt)))))))))))))))))
power_plain owner (Kept app) h =
    both (codes "board power kept ") owner
    (refl, (refl, (refl, (refl, (refl, (refl, (refl, (refl, (refl, (refl, (refl, (refl, (refl, (refl, (refl, (refl, (refl, tt))))))))))))))))) h
power_plain owner (Absent app) h =
    both (codes "board power absent ") owner
    (refl, (refl, (refl, (refl, (refl, (refl, (refl, (refl, (refl, (refl, (refl, (refl, (refl, (refl, (refl, (refl, (refl, (refl, (refl, tt))))))))))))))))))) h

-- it is under no name
power_apart : (name owner : List ℕ) (told : Power) → Lacks 32 name → name ≢ codes "board" → is_under name (power_words owner told) ≡ false
power_apart name owner told space no_board = by told
  where
    first : (rest : List ℕ) → begins_with (name ++ codes " ") (codes "board" ++ 32 ∷ rest) ≡ false
    first rest = begins_other name board [] rest space board_plain (λ same. no_board (sym same))

    by : (told : Power) → is_under name (power_words owner told) ≡ false
    by Clean = ap (λ t. t || is_mark_of name (codes "board power clean")) (first (codes "power clean")) ∙ none_marked name (codes "board power clean") refl refl refl
    by (Kept app) =
        let line = codes "board power kept " ++ owner in
        ap (λ t. t || is_mark_of name line) (first (codes "power kept " ++ owner)) ∙ none_marked name line refl refl refl
    by (Absent app) =
        let line = codes "board power absent " ++ owner in
        ap (λ t. t || is_mark_of name line) (first (codes "power absent " ++ owner)) ∙ none_marked name line refl refl refl

-- what is written of a loss of power is under no name
pub other_power : (name : List ℕ) (names : List (List ℕ)) (told : Power) (rest : List ℕ) → Lacks 32 name → name ≢ codes "board" → Lacks 10 (owner_name names told)
    → lines_for name (power_line names told ++ rest) ≡ lines_for name rest
other_power name names told rest space no_board feed =
    let owner = owner_name names told in
    let line = power_words owner told in
    ap (lines_for name) (power_is owner told rest)
    ∙ first_line name line rest (power_plain owner told feed)
    ∙ ap (λ (t : Bool). cond t (line ++ 10 ∷ []) [] ++ lines_for name rest) (power_apart name owner told space no_board)
