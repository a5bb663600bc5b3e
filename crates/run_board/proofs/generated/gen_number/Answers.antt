use Rattle.std.proofs.Common.{◌≡◌, ◌<◌, ◌^◌, ℕ, Bool, true, false, not, List, [], ◌∷◌, String, codes, get_or, length, refl, ap, sym, subst, ◌∙◌, arith}
use Rattle.std.specs.Prelude.{string_bytes}
use Rattle.std.specs.Global.{Global}
use Rattle.std.specs.Str.{bytes_eq}
use Rattle.std.proofs.lemmas.Slice.Eq.{bytes_eq-Decides}
use Rattle.script.specs.Words.{IsNumber}
use Rattle.run_board.specs.Generated.{AreGenWords}
use Rattle.run_board.proofs.generated.gen_number.Goals as goal

yes_not : (b : Bool) → not b ≡ false → b ≡ true
yes_not true e = refl
yes_not false e = absurd (let no : true ≡ false = e in cc)

-- the words ask for the workload of the number that the second is
gen_of : (words : List (String Global)) (first second : String Global) → length words ≡ 2 → first ≡ get_or words 0 first → second ≡ get_or words 1 second → string_bytes first ≡ codes "gen"
    → (number : ℕ) → IsNumber (string_bytes second) number × (number < 2 ^ 64) → AreGenWords words number
gen_of [] first second two one other gen number h = absurd (omega (arith, two))
gen_of (x ∷ []) first second two one other gen number h = absurd (omega (arith, two))
gen_of (x ∷ y ∷ []) first second two one other gen number h = (
  string_bytes y,
  ap (λ w. w ∷ string_bytes y ∷ []) (ap (λ (s : String Global). string_bytes s) (sym one) ∙ gen),
  subst (λ (s : String Global). IsNumber (string_bytes s) number) other h.0,
  h.1,
)
gen_of (x ∷ y ∷ z ∷ words) first second two one other gen number h = absurd (omega (arith, two))

of_gen : (words : List (String Global)) (second : String Global) → length words ≡ 2 → second ≡ get_or words 1 second → (number : ℕ) → AreGenWords words number
    → IsNumber (string_bytes second) number × (number < 2 ^ 64)
of_gen [] second two other number h = absurd (omega (arith, two))
of_gen (x ∷ []) second two other number h = absurd (omega (arith, two))
of_gen (x ∷ y ∷ []) second two other number h =
    let e : string_bytes x ∷ string_bytes y ∷ [] ≡ codes "gen" ∷ h.0 ∷ [] = h.1 in
    let same : string_bytes y ≡ h.0 = cc in
    let digits : string_bytes second ≡ h.0 = ap (λ (s : String Global). string_bytes s) other ∙ same in
    (subst (λ ds. IsNumber ds number) (sym digits) h.2, h.3)
of_gen (x ∷ y ∷ z ∷ words) second two other number h = absurd (omega (arith, two))

pub returns : goal.returns
returns c = λ number.
    let words = c.args.words.now in
    let second = c.index-words-1.result in
    let two : length words ≡ 2 = omega (arith, c.if-words-ne2.false) in
    let same = bytes_eq-Decides c.as_str.result.now (codes "gen") in
    let gen : string_bytes c.index-words-0.result ≡ codes "gen" =
    sym c.as_str.ensures.value ∙ same.0 (yes_not (bytes_eq c.as_str.result.now (codes "gen")) (sym c.ne.ensures ∙ c.if-ne.false)) in
    let read = c.read_number.ensures number in
    let text : c.as_bytes.result.now ≡ string_bytes second = c.as_bytes.ensures.value in (
      (λ e. let is = read.0 e in gen_of words c.index-words-0.result second two c.index-words-0.is c.index-words-1.is gen number (subst (λ ds. IsNumber ds number) text is.0, is.1)),
      (λ h. let is = of_gen words second two c.index-words-1.is number h in read.1 (subst (λ ds. IsNumber ds number) (sym text) is.0, is.1)),
    )
