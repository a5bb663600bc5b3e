-- The words of a line, by the grammar and by its parts between spaces.
use Rattle.std.proofs.Common.{◌≡◌, ◌≢◌, ℕ, ◌<◌, Bool, true, false, cond, not, eqb, ltb, List, [], ◌∷◌, ◌++◌, length, refl, sym, ap, subst, ◌∙◌, append_assoc, arith}
use Rattle.std.specs.Prelude.{codes}
use Rattle.std.specs.List.{AllByRecursion, filter, slice_split, onto_first, join_with_byte}
use Rattle.std.specs.Str.{IsAscii}
use Rattle.std.proofs.lemmas.Bool.{and_from, and_parts, cond-true, eq-eqb, eqb-false, lt-ltb, ltb-true, ne_eqb}
use Rattle.std.proofs.lemmas.List.{append-nil}
use Rattle.std.proofs.lemmas.List.Elements.{All-from_recursion, recursion_from_All}
use Rattle.std.proofs.lemmas.List.Splits.{join_with_byte-slice_split, length-slice_split}
use Rattle.std.proofs.lemmas.Str.Ascii.{All-from_ascii, IsAscii-from_all}
use Rattle.script.specs.Lines.{all_ascii, is_some_word, words_of}
use Rattle.script.specs.Words.{AreSpaces, AreWords, IsWord}
use Rattle.script.proofs.Cuts.{Lacks, all_weaker, cut_at, cut_none, parts_lack}

-- ---- words that are kept

some_word : (c : ℕ) (cs : List ℕ) → is_some_word (c ∷ cs) ≡ true
some_word c cs = let some : eqb (length (c ∷ cs)) 0 ≡ false = ne_eqb (length (c ∷ cs)) 0 (λ e. omega (arith, e)) in ap not some

kept_word : (word : List ℕ) (parts : List (List ℕ)) → word ≢ [] → filter is_some_word (word ∷ parts) ≡ word ∷ filter is_some_word parts
kept_word [] parts some = absurd (some refl)
kept_word (c ∷ cs) parts some = cond-true (is_some_word (c ∷ cs)) ((c ∷ cs) ∷ filter is_some_word parts) (filter is_some_word parts) (some_word c cs)

-- ---- what is cut out are words

space_before : (text : List ℕ) (words : List (List ℕ)) → AreWords text words → AreWords (32 ∷ text) words
unfolding AreWords
space_before text [] h = (refl, h)
space_before text (word ∷ []) h = (32 ∷ h.0, h.1, (refl, h.2), h.3, h.4, ap (λ (t : List ℕ). 32 ∷ t) h.5)
space_before text (word ∷ next ∷ words) h = (32 ∷ h.0, h.1, (refl, h.2), h.3, h.4, ap (λ (t : List ℕ). 32 ∷ t) h.5)

pub word_before : (word rest : List ℕ) (words : List (List ℕ)) → IsWord word → AreWords rest words → AreWords (word ++ 32 ∷ rest) (word ∷ words)
unfolding AreWords
word_before word rest [] is h = ([], 32 ∷ rest, tt, is, (refl, h), refl)
word_before word rest (next ∷ words) is h = ([], rest, tt, is, h, sym (append_assoc word (32 ∷ []) rest))

pub word_alone : (word : List ℕ) → IsWord word → AreWords word (word ∷ [])
unfolding AreWords
word_alone word is = ([], [], tt, is, tt, sym (append-nil word))

lacking : (part : List ℕ) → Lacks 32 part → AllByRecursion (λ c. c ≢ 32) part
lacking part lacks = all_weaker (λ c. eqb c 32 ≡ false) (λ c. c ≢ 32) (λ c e. eqb-false c 32 e) part lacks

parts_words : (part : List ℕ) (parts : List (List ℕ)) → AllByRecursion (Lacks 32) (part ∷ parts) → AreWords (join_with_byte 32 (part ∷ parts)) (filter is_some_word (part ∷ parts))
unfolding AreWords
parts_words [] [] lacks = tt
parts_words (c ∷ cs) [] lacks =
    let is : IsWord (c ∷ cs) = ((λ e. cc), lacking (c ∷ cs) lacks.0) in
    subst (AreWords (c ∷ cs)) (sym (kept_word (c ∷ cs) [] is.0)) (word_alone (c ∷ cs) is)
parts_words [] (next ∷ parts) lacks = space_before (join_with_byte 32 (next ∷ parts)) (filter is_some_word (next ∷ parts)) (parts_words next parts lacks.1)
parts_words (c ∷ cs) (next ∷ parts) lacks =
    let is : IsWord (c ∷ cs) = ((λ e. cc), lacking (c ∷ cs) lacks.0) in
    subst (AreWords (join_with_byte 32 ((c ∷ cs) ∷ next ∷ parts))) (sym (kept_word (c ∷ cs) (next ∷ parts) is.0))
    (word_before (c ∷ cs) (join_with_byte 32 (next ∷ parts)) (filter is_some_word (next ∷ parts)) is (parts_words next parts lacks.1))

by_parts : (parts : List (List ℕ)) → 0 < length parts → AllByRecursion (Lacks 32) parts → AreWords (join_with_byte 32 parts) (filter is_some_word parts)
by_parts [] some lacks = absurd (omega arith)
by_parts (part ∷ parts) some lacks = parts_words part parts lacks

-- the words that are computed are those of the grammar
pub words_read : (text : List ℕ) → AreWords text (words_of text)
words_read text =
    let some : 0 < length (slice_split (λ c. eqb c 32) text) = omega (arith, length-slice_split (λ c. eqb c 32) text) in
    subst (λ (t : List ℕ). AreWords t (words_of text)) (join_with_byte-slice_split 32 text) (by_parts (slice_split (λ c. eqb c 32) text) some (parts_lack 32 text))

-- ---- words are cut out

word_lacks : (word : List ℕ) → IsWord word → Lacks 32 word
word_lacks word is = all_weaker (λ c. c ≢ 32) (λ c. eqb c 32 ≡ false) (λ c other. ne_eqb c 32 other) word is.1

skip_spaces : (before text : List ℕ) → AreSpaces before → words_of (before ++ text) ≡ words_of text
skip_spaces [] text h = refl
skip_spaces (c ∷ cs) text h =
    ap (λ (b : Bool). filter is_some_word (cond b ([] ∷ slice_split (λ x. eqb x 32) (cs ++ text)) (onto_first c (slice_split (λ x. eqb x 32) (cs ++ text))))) (eq-eqb c 32 h.0)
    ∙ skip_spaces cs text h.1

only_spaces : (text : List ℕ) → AreSpaces text → words_of text ≡ []
only_spaces text h = ap words_of (sym (append-nil text)) ∙ skip_spaces text [] h

word_then : (word rest : List ℕ) → IsWord word → words_of (word ++ 32 ∷ rest) ≡ word ∷ words_of rest
word_then word rest is = ap (filter is_some_word) (cut_at 32 word rest (word_lacks word is)) ∙ kept_word word (slice_split (λ c. eqb c 32) rest) is.0

word_spaces : (word after : List ℕ) → IsWord word → AreSpaces after → words_of (word ++ after) ≡ word ∷ []
word_spaces word [] is h = ap words_of (append-nil word) ∙ ap (filter is_some_word) (cut_none 32 word (word_lacks word is)) ∙ kept_word word [] is.0
word_spaces word (c ∷ cs) is h =
    ap (λ (x : ℕ). words_of (word ++ x ∷ cs)) h.0 ∙ word_then word cs is ∙ ap (λ (ws : List (List ℕ)). word ∷ ws) (only_spaces cs h.1)

with_space : (before word rest : List ℕ) → before ++ word ++ codes " " ++ rest ≡ before ++ (word ++ 32 ∷ rest)
with_space before word rest = simp append_assoc

-- the words of the grammar are those that are computed
pub words_again : (text : List ℕ) (words : List (List ℕ)) → AreWords text words → words_of text ≡ words
unfolding AreWords
words_again text [] h = only_spaces text h
words_again text (word ∷ []) h = ap words_of (h.5 ∙ append_assoc h.0 word h.1) ∙ skip_spaces h.0 (word ++ h.1) h.2 ∙ word_spaces word h.1 h.3 h.4
words_again text (word ∷ next ∷ words) h =
    ap words_of (h.5 ∙ with_space h.0 word h.1) ∙ skip_spaces h.0 (word ++ 32 ∷ h.1) h.2 ∙ word_then word h.1 h.3 ∙ ap (λ (ws : List (List ℕ)). word ∷ ws) (words_again h.1 (next ∷ words) h.4)

-- ---- bytes below 128

pub all_split : {X : Type 0} (P : X → Type 0) (xs ys : List X) → AllByRecursion P (xs ++ ys) → AllByRecursion P xs × AllByRecursion P ys
all_split P [] ys h = (tt, h)
all_split P (x ∷ xs) ys h = let r = all_split P xs ys h.1 in ((h.0, r.0), r.1)

ascii_each : (text : List ℕ) → all_ascii text ≡ true → AllByRecursion (λ c. c < 128) text
ascii_each [] h = tt
ascii_each (c ∷ cs) h = let p = and_parts (ltb c 128) (all_ascii cs) h in (ltb-true c 128 p.0, ascii_each cs p.1)

each_ascii : (text : List ℕ) → AllByRecursion (λ c. c < 128) text → all_ascii text ≡ true
each_ascii [] h = refl
each_ascii (c ∷ cs) h = and_from (ltb c 128) (all_ascii cs) (lt-ltb c 128 h.0) (each_ascii cs h.1)

pub ascii_reads : (text : List ℕ) → all_ascii text ≡ true → IsAscii text
ascii_reads text h = IsAscii-from_all text (All-from_recursion (λ c. c < 128) text (ascii_each text h))

pub ascii_again : (text : List ℕ) → IsAscii text → all_ascii text ≡ true
ascii_again text h = each_ascii text (recursion_from_All (λ c. c < 128) text (All-from_ascii text h))

-- the first word of an ASCII line is ASCII
pub first_ascii : (text word : List ℕ) (words : List (List ℕ)) → AreWords text (word ∷ words) → all_ascii text ≡ true → all_ascii word ≡ true
unfolding AreWords
first_ascii text word [] h ascii =
    let each = ascii_each (h.0 ++ word ++ h.1) (sym (ap all_ascii h.5) ∙ ascii) in
    each_ascii word (all_split (λ c. c < 128) h.0 word (all_split (λ c. c < 128) (h.0 ++ word) h.1 each).0).1
first_ascii text word (next ∷ words) h ascii =
    let each = ascii_each (h.0 ++ word ++ codes " " ++ h.1) (sym (ap all_ascii h.5) ∙ ascii) in
    let front = (all_split (λ c. c < 128) (h.0 ++ word ++ codes " ") h.1 each).0 in
    each_ascii word (all_split (λ c. c < 128) h.0 word (all_split (λ c. c < 128) (h.0 ++ word) (codes " ") front).0).1

-- the word is ASCII
abbrev pub IsAsciiWord : List ℕ → Type 0
IsAsciiWord word = all_ascii word ≡ true

-- each word of an ASCII line is ASCII
pub words_ascii : (text : List ℕ) (words : List (List ℕ)) → AreWords text words → all_ascii text ≡ true → AllByRecursion IsAsciiWord words
unfolding AreWords
words_ascii text [] h ascii = tt
words_ascii text (word ∷ []) h ascii = (first_ascii text word [] h ascii, tt)
words_ascii text (word ∷ next ∷ words) h ascii =
    let each = ascii_each (h.0 ++ word ++ codes " " ++ h.1) (sym (ap all_ascii h.5) ∙ ascii) in
    let rest = (all_split (λ c. c < 128) (h.0 ++ word ++ codes " ") h.1 each).1 in
    (first_ascii text word (next ∷ words) h ascii, words_ascii h.1 (next ∷ words) h.4 (each_ascii h.1 rest))
