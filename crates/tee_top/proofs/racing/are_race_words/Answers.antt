use Rattle.std.proofs.Common.{◌≡◌, List, [], ◌∷◌, String, get_or, length, codes, refl, sym, ◌∙◌, ap}
use Rattle.std.specs.Prelude.{map, string_bytes}
use Rattle.std.specs.Global.{Global}
use Rattle.std.proofs.lemmas.Bool.{eqb-true}
use Rattle.std.proofs.lemmas.Slice.Eq.{bytes_eq-Decides}
use Rattle.tee_top.specs.Races.{AreRaceWords}
use Rattle.tee_top.proofs.racing.are_race_words.Goals as goal

only_race : (words : List (String Global)) (first : String Global) → length words ≡ 1 → first ≡ get_or words 0 first → string_bytes first ≡ codes "race" → AreRaceWords words
only_race [] first one is race = absurd (cc)
only_race (x ∷ []) first one is race = ap (λ w. w ∷ []) (ap (λ (s : String Global). string_bytes s) (sym is) ∙ race)
only_race (x ∷ y ∷ words) first one is race = absurd (cc)

race_first : (words : List (String Global)) (first : String Global) → first ≡ get_or words 0 first → AreRaceWords words → string_bytes first ≡ codes "race"
race_first [] first is h = absurd (let e : [] ≡ codes "race" ∷ [] = h in cc)
race_first (x ∷ words) first is h =
    let e : string_bytes x ∷ map (λ word. string_bytes word) words ≡ codes "race" ∷ [] = h in
    let head : string_bytes x ≡ codes "race" = cc in ap (λ (s : String Global). string_bytes s) is ∙ head

race_one : (words : List (String Global)) → AreRaceWords words → length words ≡ 1
race_one [] h = absurd (let e : [] ≡ codes "race" ∷ [] = h in cc)
race_one (x ∷ []) h = refl
race_one (x ∷ y ∷ words) h = absurd (let e : string_bytes x ∷ string_bytes y ∷ map (λ word. string_bytes word) words ≡ codes "race" ∷ [] = h in cc)

pub returns-then-words-eq1 : goal.returns-then-words-eq1
returns-then-words-eq1 c =
    let first = c.index-words-0.result in
    let same = bytes_eq-Decides c.as_str.result.now (codes "race") in
    let text : c.as_str.result.now ≡ string_bytes first = c.as_str.ensures.value in (
      (λ yes. only_race c.args.words.now first c.if-words-eq1.true c.index-words-0.is (sym text ∙ same.0 (sym c.eq.ensures ∙ yes))),
      (λ are. c.eq.ensures ∙ same.1 (text ∙ race_first c.args.words.now first c.index-words-0.is are)),
    )

pub returns-else-words-eq1 : goal.returns-else-words-eq1
returns-else-words-eq1 c = (
  (λ yes. absurd (c.if-words-eq1.false (eqb-true (length c.args.words.now) 1 yes))),
  (λ are. absurd (c.if-words-eq1.false (race_one c.args.words.now are))),
)
