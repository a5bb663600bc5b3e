-- What is computed of a text is what the grammar says of it.
use Rattle.std.proofs.Common.{◌≡◌, ◌≢◌, ℕ, ◌+◌, ◌-◌, ◌<◌, ◌≤◌, Bool, true, false, cond, eqb, ltb, List, [], ◌∷◌, ◌++◌, length, get_or, take}
use Rattle.std.proofs.Common.{Option, Some, None, Result, Ok, Err, refl, sym, ap, subst, ◌∙◌, append_assoc, arith, inl, inr}
use Rattle.std.specs.Prelude.{slice_index}
use Rattle.std.specs.List.{AllByRecursion, flat_map, slice_split, join_with_byte}
use Rattle.std.specs.Str.Lines.{strip_carriage_return}
use Rattle.std.proofs.lemmas.Bool.{both_ways, eqb-false, eqb-true, ltb-false, ltb-true}
use Rattle.std.proofs.lemmas.List.{append-nil, get_or_at, length_push, take_at}
use Rattle.std.proofs.lemmas.List.Splits.{join_with_byte-slice_split, length-slice_split}
use Rattle.std.proofs.lemmas.Option.{none-some, same_Some}
use Rattle.tee_base.specs.declared.limits.TheConstants.{MAX_FILL_BYTES}
use Rattle.app_api.specs.declared.host.Host.{Host}
use Rattle.app_api.specs.Hosts.{HostsFit}
use Rattle.script.specs.declared.dialect.Dialect.{Dialect}
use Rattle.script.specs.declared.line.Line.{Line}
use Rattle.script.specs.declared.line.Meaning.{Meaning}
use Rattle.script.specs.declared.line.Meaning.TheVariants.{Nothing, Client, Script}
use Rattle.script.specs.declared.line.ReadMeaning.{ReadMeaning}
use Rattle.script.specs.Dialects.{Takes, takes}
use Rattle.script.specs.Grammar.{AreNext, FirstBad, HasNoLineFeed, IsFirstLine, IsNext, Place, Reads, client_after, lines_of}
use Rattle.script.specs.Lines.{meaning_of}
use Rattle.script.specs.Scripts.{Reading, after_lines, ended_by, no_reading, onward, read_from, reading_after, script_from, script_of, with_line, with_meaning}
use Rattle.script.proofs.Cuts.{Lacks, all_weaker, parts_lack}
use Rattle.script.proofs.LineMeanings.{meaning_again, meaning_reads}
use Rattle.script.proofs.Places.{Stops, at_feed, first_same}
use Rattle.script.proofs.WordTexts.{all_split}

-- where a text goes on after what was read
abbrev place_of : Reading → List ℕ → Place
place_of r text = record { client = r.client; filled = r.filled; rest = text }

-- ---- one line

-- one more line was read, or no line that the dialect takes stands here
Stepped : {A : Type 0} → Dialect → List (Host A) → Reading → List ℕ → List ℕ → Option Reading → Type 0
Stepped dialect hosts r text rest None = Stops dialect hosts (place_of r text)
Stepped dialect hosts r text rest (Some next) =
    (meaning : Meaning) × IsNext hosts (place_of r text) meaning (place_of next rest) × Takes dialect meaning × (next.lines ≡ r.lines ++ lines_of meaning) × (next.filled ≤ MAX_FILL_BYTES)

-- what the next line means is what is computed of it
next_is : {A : Type 0} (hosts : List (Host A)) (r : Reading) (text line rest : List ℕ) (read : Option ReadMeaning) (meaning : Meaning) (after : Place) → HostsFit hosts
    → IsFirstLine text line rest → meaning_of hosts r.client line ≡ read
    → (next : IsNext hosts (place_of r text) meaning after) → read ≡ Some (record { meaning = meaning; fills = next.fill })
next_is hosts r text line rest read meaning after fit first is next =
    let same = first_same text line rest next.line after.rest first next.first in
    sym is ∙ ap (meaning_of hosts r.client) same.0 ∙ meaning_again hosts r.client next.line meaning next.fill fit next.ascii next.means

-- a line that is read, with not too many bytes filled in, is the next
is_next : {A : Type 0} (hosts : List (Host A)) (r : Reading) (text line rest : List ℕ) (read : ReadMeaning) (client : ℕ) → IsFirstLine text line rest
    → meaning_of hosts r.client line ≡ Some read → client ≡ client_after r.client read.meaning → r.filled + read.fills ≤ MAX_FILL_BYTES
    → IsNext hosts (place_of r text) read.meaning (record { client = client; filled = r.filled + read.fills; rest = rest })
is_next hosts r text line rest read client first is same fits =
    let m = meaning_reads hosts r.client line read is in
    record { line = line; fill = read.fills; first = first; ascii = m.0; means = m.1; client = same; filled = refl; within = fits }

step_script : {A : Type 0} (dialect : Dialect) (hosts : List (Host A)) (r : Reading) (text line rest : List ℕ) (told : Line) (fills : ℕ) (b : Bool) → HostsFit hosts
    → IsFirstLine text line rest → meaning_of hosts r.client line ≡ Some (record { meaning = Script told; fills = fills }) → r.filled + fills ≤ MAX_FILL_BYTES → takes dialect told ≡ b
    → Stepped dialect hosts r text rest (cond b (Some (record { client = r.client; filled = r.filled + fills; lines = r.lines ++ told ∷ [] })) None)
unfolding Stepped
step_script dialect hosts r text line rest told fills true fit first is fits taken = (
  Script told,
  is_next hosts r text line rest (record { meaning = Script told; fills = fills })
      r.client first is refl fits,
  taken,
  refl,
  fits,
)
step_script dialect hosts r text line rest told fills false fit first is fits taken = λ meaning after next takes_it.
    let same = same_Some (record { meaning = Script told; fills = fills }) (record { meaning = meaning; fills = next.fill })
    (next_is hosts r text line rest (Some (record { meaning = Script told; fills = fills })) meaning after fit first is next) in
    let it : Takes dialect (Script told) = subst (Takes dialect) (sym (ap (λ (m : ReadMeaning). m.meaning) same)) takes_it in
    both_ways (takes dialect told) taken it

step_meaning : {A : Type 0} (dialect : Dialect) (hosts : List (Host A)) (r : Reading) (text line rest : List ℕ) (meaning : Meaning) (fills : ℕ) → HostsFit hosts
    → IsFirstLine text line rest → meaning_of hosts r.client line ≡ Some (record { meaning = meaning; fills = fills }) → r.filled + fills ≤ MAX_FILL_BYTES
    → Stepped dialect hosts r text rest (with_meaning dialect r (r.filled + fills) meaning)
unfolding Stepped
step_meaning dialect hosts r text line rest Nothing fills fit first is fits = (
  Nothing,
  is_next hosts r text line rest (record { meaning = Nothing; fills = fills }) r.client first
      is refl fits,
  tt,
  sym (append-nil r.lines),
  fits,
)
step_meaning dialect hosts r text line rest (Client n) fills fit first is fits = (
  Client n,
  is_next hosts r text line rest (record { meaning = Client n; fills = fills }) n first is
      refl fits,
  tt,
  sym (append-nil r.lines),
  fits,
)
step_meaning dialect hosts r text line rest (Script told) fills fit first is fits = step_script dialect hosts r text line rest told fills (takes dialect told) fit first is fits refl

step_fits : {A : Type 0} (dialect : Dialect) (hosts : List (Host A)) (r : Reading) (text line rest : List ℕ) (read : ReadMeaning) (b : Bool) → HostsFit hosts
    → IsFirstLine text line rest → meaning_of hosts r.client line ≡ Some read → ltb MAX_FILL_BYTES (r.filled + read.fills) ≡ b
    → Stepped dialect hosts r text rest (cond b None (with_meaning dialect r (r.filled + read.fills) read.meaning))
unfolding Stepped
step_fits dialect hosts r text line rest read true fit first is over = λ meaning after next takes_it.
    let same = same_Some read (record { meaning = meaning; fills = next.fill }) (next_is hosts r text line rest (Some read) meaning after fit first is next) in
    let fill : read.fills ≡ next.fill = ap (λ (m : ReadMeaning). m.fills) same in
    let above : MAX_FILL_BYTES < r.filled + read.fills = ltb-true MAX_FILL_BYTES (r.filled + read.fills) over in
    let sum : after.filled ≡ r.filled + next.fill = next.filled in
    let most : after.filled ≤ MAX_FILL_BYTES = next.within in
    omega (arith, fill, above, sum, most)
step_fits dialect hosts r text line rest read false fit first is within = step_meaning dialect hosts r text line rest read.meaning read.fills fit first is
    (ltb-false MAX_FILL_BYTES (r.filled + read.fills) within)

step_read : {A : Type 0} (dialect : Dialect) (hosts : List (Host A)) (r : Reading) (text line rest : List ℕ) (read : Option ReadMeaning) → HostsFit hosts
    → IsFirstLine text line rest → meaning_of hosts r.client line ≡ read → Stepped dialect hosts r text rest (with_line dialect r read)
unfolding Stepped
step_read dialect hosts r text line rest None fit first is = λ meaning after next takes_it. none-some (record { meaning = meaning; fills = next.fill })
    (next_is hosts r text line rest None meaning after fit first is next)
step_read dialect hosts r text line rest (Some read) fit first is = step_fits dialect hosts r text line rest read (ltb MAX_FILL_BYTES (r.filled + read.fills)) fit first is refl

step : {A : Type 0} (dialect : Dialect) (hosts : List (Host A)) (r : Reading) (text line rest : List ℕ) → HostsFit hosts → IsFirstLine text line rest
    → Stepped dialect hosts r text rest (reading_after dialect hosts r line)
unfolding reading_after
step dialect hosts r text line rest fit first = step_read dialect hosts r text line rest (meaning_of hosts r.client line) fit first refl

-- ---- the lines of a text

-- a text of these pieces, a line feed behind each but the last
abbrev text_of : List (List ℕ) → List ℕ → List ℕ
text_of [] last = last
text_of (piece ∷ pieces) last = piece ++ 10 ∷ text_of pieces last

-- what is computed from line n on is what stands there
Told : {A : Type 0} → Dialect → List (Host A) → ℕ → Reading → List ℕ → Result (List Line) ℕ → Type 0
Told dialect hosts n r text (Ok script) =
    (meanings : List Meaning) × (after : Place) × AreNext hosts (place_of r text) meanings after × (after.rest ≡ []) × AllByRecursion (Takes dialect) meanings
    × (script ≡ r.lines ++ flat_map lines_of meanings)
Told dialect hosts n r text (Err bad) =
    (meanings : List Meaning) × (at : Place) × AreNext hosts (place_of r text) meanings at × AllByRecursion (Takes dialect) meanings × (bad ≡ n + length meanings) × (at.rest ≢ [])
    × Stops dialect hosts at

stopped : {A : Type 0} (dialect : Dialect) (hosts : List (Host A)) (n : ℕ) (r : Reading) (text : List ℕ) → text ≢ [] → Stops dialect hosts (place_of r text) → Told dialect hosts n r text (Err n)
unfolding Told AreNext
stopped dialect hosts n r text some stops = ([], place_of r text, refl, tt, omega arith, some, stops)

regroup : (a b c d : List Line) → a ≡ b ++ c → a ++ d ≡ b ++ (c ++ d)
regroup a b c d e = ap (λ (xs : List Line). xs ++ d) e ∙ append_assoc b c d

told_behind : {A : Type 0} (dialect : Dialect) (hosts : List (Host A)) (n : ℕ) (r next : Reading) (text rest : List ℕ) (meaning : Meaning) (result : Result (List Line) ℕ)
    → IsNext hosts (place_of r text) meaning (place_of next rest) → Takes dialect meaning → next.lines ≡ r.lines ++ lines_of meaning → Told dialect hosts (n + 1) next rest result →
    Told dialect hosts n r text result
unfolding Told AreNext
told_behind dialect hosts n r next text rest meaning (Ok script) is taken lines told =
    (meaning ∷ told.0, told.1, (place_of next rest, is, told.2), told.3, (taken, told.4), told.5 ∙ regroup next.lines r.lines (lines_of meaning) (flat_map lines_of told.0) lines)
told_behind dialect hosts n r next text rest meaning (Err bad) is taken lines told =
    (meaning ∷ told.0, told.1, (place_of next rest, is, told.2), (taken, told.3), omega (arith, told.4), told.5, told.6)

told_onward : {A : Type 0} (dialect : Dialect) (hosts : List (Host A)) (n : ℕ) (r : Reading) (text rest : List ℕ) (read : Option Reading) (more : Reading → Result (List Line) ℕ)
    → text ≢ [] → Stepped dialect hosts r text rest read
    → ((next : Reading) → next.filled ≤ MAX_FILL_BYTES → Told dialect hosts (n + 1) next rest (more next)) → Told dialect hosts n r text (onward n read more)
unfolding Stepped
told_onward dialect hosts n r text rest None more some stepped later = stopped dialect hosts n r text some stepped
told_onward dialect hosts n r text rest (Some next) more some stepped later = told_behind dialect hosts n r next text rest stepped.0 (more next) stepped.1 stepped.2 stepped.3 (later next stepped.4)

told_nothing : {A : Type 0} (dialect : Dialect) (hosts : List (Host A)) (n : ℕ) (r : Reading) → Told dialect hosts n r [] (Ok r.lines)
unfolding Told AreNext
told_nothing dialect hosts n r = ([], place_of r [], refl, refl, tt, sym (append-nil r.lines))

some_text : (c : ℕ) (cs : List ℕ) → c ∷ cs ≢ []
some_text c cs e = cc

has_none : (text : List ℕ) → Lacks 10 text → HasNoLineFeed text
has_none text h = all_weaker (λ c. eqb c 10 ≡ false) (λ c. c ≢ 10) (λ c e. eqb-false c 10 e) text h

-- a last line without an end that a carriage return ends is no line
return_stops : {A : Type 0} (dialect : Dialect) (hosts : List (Host A)) (r : Reading) (text : List ℕ) → HasNoLineFeed text → slice_index text (length text - 1) ≡ 13
    → Stops dialect hosts (place_of r text)
return_stops dialect hosts r text none ends meaning after next taken = no_line next.first
  where
    no_line : IsFirstLine text next.line after.rest → ⊥
    no_line (inl h) = absurd_feed h.0 after.rest (subst HasNoLineFeed (h.2 ∙ at_feed h.0 after.rest) none)
      where
        absurd_feed : (piece rest : List ℕ) → HasNoLineFeed (piece ++ 10 ∷ rest) → ⊥
        absurd_feed [] rest k = k.0 refl
        absurd_feed (c ∷ cs) rest k = absurd_feed cs rest k.1
    no_line (inr h) = h.2 ends

told_last : {A : Type 0} (dialect : Dialect) (hosts : List (Host A)) (n : ℕ) (r : Reading) (c : ℕ) (cs : List ℕ) (b : Bool) → HostsFit hosts → Lacks 10 (c ∷ cs)
    → eqb (slice_index (c ∷ cs) (length (c ∷ cs) - 1)) 13 ≡ b
    → Told dialect hosts n r (c ∷ cs) (cond b (Err n) (onward n (reading_after dialect hosts r (c ∷ cs)) (λ next. Ok next.lines)))
told_last dialect hosts n r c cs true fit lacks ends = stopped dialect hosts n r (c ∷ cs) (some_text c cs)
    (return_stops dialect hosts r (c ∷ cs) (has_none (c ∷ cs) lacks) (eqb-true (slice_index (c ∷ cs) (length (c ∷ cs) - 1)) 13 ends))
told_last dialect hosts n r c cs false fit lacks ends =
    let first : IsFirstLine (c ∷ cs) (c ∷ cs) [] = inr (has_none (c ∷ cs) lacks, some_text c cs, eqb-false (slice_index (c ∷ cs) (length (c ∷ cs) - 1)) 13 ends, refl, refl) in
    told_onward dialect hosts n r (c ∷ cs) [] (reading_after dialect hosts r (c ∷ cs)) (λ next. Ok next.lines) (some_text c cs)
    (step dialect hosts r (c ∷ cs) (c ∷ cs) [] fit first) (λ next fits. told_nothing dialect hosts (n + 1) next)

told_end : {A : Type 0} (dialect : Dialect) (hosts : List (Host A)) (n : ℕ) (r : Reading) (last : List ℕ) → HostsFit hosts → Lacks 10 last
    → Told dialect hosts n r last (ended_by dialect hosts n r last)
told_end dialect hosts n r [] fit lacks = told_nothing dialect hosts n r
told_end dialect hosts n r (c ∷ cs) fit lacks = told_last dialect hosts n r c cs (eqb (slice_index (c ∷ cs) (length (c ∷ cs) - 1)) 13) fit lacks refl

after_onward : (n : ℕ) (read : Option Reading) (more : Reading → Result Reading ℕ) (last : Reading → Result (List Line) ℕ)
    → after_lines (onward n read more) last ≡ onward n read (λ next. after_lines (more next) last)
after_onward n None more last = refl
after_onward n (Some next) more last = refl

some_piece : (piece rest : List ℕ) → piece ++ 10 ∷ rest ≢ []
some_piece [] rest e = cc
some_piece (c ∷ cs) rest e = cc

told_lines : {A : Type 0} (dialect : Dialect) (hosts : List (Host A)) (n number : ℕ) (r : Reading) (front : List (List ℕ)) (last : List ℕ) → HostsFit hosts
    → AllByRecursion (Lacks 10) front → Lacks 10 last → number ≡ n + length front
    → Told dialect hosts n r (text_of front last) (after_lines (read_from dialect hosts n r front) (λ read. ended_by dialect hosts number read last))
told_lines dialect hosts n number r [] last fit lacks ends e =
    let same : n ≡ number = omega (arith, e) in
    subst (λ (k : ℕ). Told dialect hosts n r last (ended_by dialect hosts k r last)) same (told_end dialect hosts n r last fit ends)
told_lines dialect hosts n number r (piece ∷ front) last fit lacks ends e =
    let rest = text_of front last in
    let first : IsFirstLine (piece ++ 10 ∷ rest) (strip_carriage_return piece) rest = inl (piece, has_none piece lacks.0, sym (at_feed piece rest), refl) in
    subst (Told dialect hosts n r (piece ++ 10 ∷ rest)) (sym (after_onward n (reading_after dialect hosts r (strip_carriage_return piece))
    (λ next. read_from dialect hosts (n + 1) next front) (λ read. ended_by dialect hosts number read last)))
    (told_onward dialect hosts n r (piece ++ 10 ∷ rest) rest (reading_after dialect hosts r (strip_carriage_return piece))
    (λ next. after_lines (read_from dialect hosts (n + 1) next front) (λ read. ended_by dialect hosts number read last)) (some_piece piece rest)
    (step dialect hosts r (piece ++ 10 ∷ rest) (strip_carriage_return piece) rest fit first)
    (λ next fits. told_lines dialect hosts (n + 1) number next front last fit lacks.1 ends (omega (arith, e))))

-- ---- the pieces of a text

last_of : (piece : List ℕ) (pieces : List (List ℕ)) → (front : List (List ℕ)) × (last : List ℕ) × (piece ∷ pieces ≡ front ++ last ∷ [])
last_of piece [] = ([], piece, refl)
last_of piece (next ∷ more) = let r = last_of next more in (piece ∷ r.0, r.1, ap (λ (ps : List (List ℕ)). piece ∷ ps) r.2)

join_front : (front : List (List ℕ)) (last : List ℕ) → join_with_byte 10 (front ++ last ∷ []) ≡ text_of front last
join_front [] last = refl
join_front (piece ∷ []) last = refl
join_front (piece ∷ next ∷ front) last = ap (λ (t : List ℕ). piece ++ 10 ∷ t) (join_front (next ∷ front) last)

pushed : {A : Type 0} (dialect : Dialect) (hosts : List (Host A)) (front : List (List ℕ)) (last : List ℕ)
    → script_from dialect hosts (front ++ last ∷ []) ≡ after_lines (read_from dialect hosts 1 no_reading front) (λ r. ended_by dialect hosts (1 + length front) r last)
pushed dialect hosts front last =
    let long : length (front ++ last ∷ []) ≡ 1 + length front = omega (arith, length_push front last) in
    let before : length (front ++ last ∷ []) - 1 ≡ length front = omega (arith, long) in
    let here : get_or (front ++ last ∷ []) (length (front ++ last ∷ []) - 1) [] ≡ last = rw before (get_or_at front last [] [] (length front) refl) in
    let fronts : take (length (front ++ last ∷ []) - 1) (front ++ last ∷ []) ≡ front = rw before (take_at front (last ∷ []) (length front) refl) in
    ap (λ (x : List ℕ). after_lines (read_from dialect hosts 1 no_reading (take (length (front ++ last ∷ []) - 1) (front ++ last ∷ [])))
    (λ r. ended_by dialect hosts (length (front ++ last ∷ [])) r x)) here
    ∙ ap (λ (ps : List (List ℕ)). after_lines (read_from dialect hosts 1 no_reading ps) (λ r. ended_by dialect hosts (length (front ++ last ∷ [])) r last)) fronts
    ∙ ap (λ (k : ℕ). after_lines (read_from dialect hosts 1 no_reading front) (λ r. ended_by dialect hosts k r last)) long

tell_pushed : {A : Type 0} (dialect : Dialect) (hosts : List (Host A)) (front : List (List ℕ)) (last : List ℕ) → HostsFit hosts → AllByRecursion (Lacks 10) (front ++ last ∷ [])
    → Told dialect hosts 1 no_reading (join_with_byte 10 (front ++ last ∷ [])) (script_from dialect hosts (front ++ last ∷ []))
tell_pushed dialect hosts front last fit lacks =
    let each = all_split (Lacks 10) front (last ∷ []) lacks in
    subst (λ (t : List ℕ). Told dialect hosts 1 no_reading t (script_from dialect hosts (front ++ last ∷ []))) (sym (join_front front last))
    (subst (Told dialect hosts 1 no_reading (text_of front last)) (sym (pushed dialect hosts front last))
    (told_lines dialect hosts 1 (1 + length front) no_reading front last fit each.0 each.1.0 refl))

tell_pieces : {A : Type 0} (dialect : Dialect) (hosts : List (Host A)) (pieces : List (List ℕ)) → HostsFit hosts → 0 < length pieces → AllByRecursion (Lacks 10) pieces
    → Told dialect hosts 1 no_reading (join_with_byte 10 pieces) (script_from dialect hosts pieces)
tell_pieces dialect hosts [] fit some lacks = absurd (omega arith)
tell_pieces dialect hosts (piece ∷ pieces) fit some lacks =
    let r = last_of piece pieces in
    subst (λ (ps : List (List ℕ)). Told dialect hosts 1 no_reading (join_with_byte 10 ps) (script_from dialect hosts ps)) (sym r.2)
    (tell_pushed dialect hosts r.0 r.1 fit (subst (AllByRecursion (Lacks 10)) r.2 lacks))

tell_text : {A : Type 0} (dialect : Dialect) (hosts : List (Host A)) (text : List ℕ) → HostsFit hosts → Told dialect hosts 1 no_reading text (script_of dialect hosts text)
tell_text dialect hosts text fit =
    let some : 0 < length (slice_split (λ c. eqb c 10) text) = omega (arith, length-slice_split (λ c. eqb c 10) text) in
    subst (λ (t : List ℕ). Told dialect hosts 1 no_reading t (script_of dialect hosts text)) (join_with_byte-slice_split 10 text)
    (tell_pieces dialect hosts (slice_split (λ c. eqb c 10) text) fit some (parts_lack 10 text))

-- what is computed is what the grammar reads
pub script_reads : {A : Type 0} (dialect : Dialect) (hosts : List (Host A)) (text : List ℕ) (script : List Line) → HostsFit hosts → script_of dialect hosts text ≡ Ok script
    → Reads dialect hosts text script
unfolding Told
script_reads dialect hosts text script fit e =
    let told : Told dialect hosts 1 no_reading text (Ok script) = subst (Told dialect hosts 1 no_reading text) e (tell_text dialect hosts text fit) in
    record { meanings = told.0; after = told.1; read = told.2; whole = told.3; taken = told.4; told = told.5 }

-- the line that is computed is the first bad one
pub bad_reads : {A : Type 0} (dialect : Dialect) (hosts : List (Host A)) (text : List ℕ) (n : ℕ) → HostsFit hosts → script_of dialect hosts text ≡ Err n → FirstBad dialect hosts text n
unfolding Told
bad_reads dialect hosts text n fit e =
    let told : Told dialect hosts 1 no_reading text (Err n) = subst (Told dialect hosts 1 no_reading text) e (tell_text dialect hosts text fit) in
    record { meanings = told.0; at = told.1; read = told.2; taken = told.3; number = omega (arith, told.4); some = told.5; bad = told.6 }
