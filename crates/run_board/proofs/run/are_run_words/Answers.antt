use Rattle.std.proofs.Common.{◌≡◌, ◌<◌, ◌≤◌, List, [], ◌∷◌, String, get_or, inl, inr, length, codes, sym, ◌∙◌, ap, arith}
use Rattle.std.specs.Prelude.{map, string_bytes}
use Rattle.std.specs.Global.{Global}
use Rattle.std.proofs.lemmas.Slice.Eq.{bytes_eq-Decides}
use Rattle.run_board.specs.Runs.{AreRunWords}
use Rattle.run_board.proofs.run.are_run_words.Goals as goal

-- the words of a run begin with that word
first_run : (words : List (String Global)) (first : String Global) → 0 < length words → length words ≤ 2 → first ≡ get_or words 0 first → string_bytes first ≡ codes "run" → AreRunWords words
first_run [] first some few is run = absurd (omega (arith, some))
first_run (x ∷ []) first some few is run = inl (ap (λ w. w ∷ []) (ap (λ (s : String Global). string_bytes s) (sym is) ∙ run))
first_run (x ∷ y ∷ []) first some few is run = inr (string_bytes y, ap (λ w. w ∷ string_bytes y ∷ []) (ap (λ (s : String Global). string_bytes s) (sym is) ∙ run))
first_run (x ∷ y ∷ z ∷ words) first some few is run = absurd (omega (arith, few))

run_first : (words : List (String Global)) (first : String Global) → first ≡ get_or words 0 first → AreRunWords words → string_bytes first ≡ codes "run"
run_first [] first is (inl h) = absurd (let e : [] ≡ codes "run" ∷ [] = h in cc)
run_first [] first is (inr h) = absurd (let e : [] ≡ codes "run" ∷ h.0 ∷ [] = h.1 in cc)
run_first (x ∷ words) first is (inl h) =
    let e : string_bytes x ∷ map (λ word. string_bytes word) words ≡ codes "run" ∷ [] = h in
    let head : string_bytes x ≡ codes "run" = cc in ap (λ (s : String Global). string_bytes s) is ∙ head
run_first (x ∷ words) first is (inr h) =
    let e : string_bytes x ∷ map (λ word. string_bytes word) words ≡ codes "run" ∷ h.0 ∷ [] = h.1 in
    let head : string_bytes x ≡ codes "run" = cc in ap (λ (s : String Global). string_bytes s) is ∙ head

pub returns-then-words-le2 : goal.returns-then-words-le2
returns-then-words-le2 c =
    let first = c.index-words-0.result in
    let same = bytes_eq-Decides c.as_str.result.now (codes "run") in
    let text : c.as_str.result.now ≡ string_bytes first = c.as_str.ensures.value in
    let some : 0 < length c.args.words.now = (let e = c.is_empty.ensures in let f = c.if-is_empty.false in grind arith) in (
      (λ yes. first_run c.args.words.now first some c.if-words-le2.true c.index-words-0.is (sym text ∙ same.0 (sym c.eq.ensures ∙ yes))),
      (λ are. c.eq.ensures ∙ same.1 (text ∙ run_first c.args.words.now first c.index-words-0.is are)),
    )
