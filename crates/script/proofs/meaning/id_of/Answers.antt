use Rattle.std.proofs.Common.{◌≡◌, ℕ, List, Option, Some, None, Result, Ok, Err, refl, sym, ap, ◌∙◌}
use Rattle.std.specs.Prelude.{◌↔◌, IfOk}
use Rattle.std.specs.Result.{IsOk, result_ok}
use Rattle.std.proofs.lemmas.Bool.{cond-true}
use Rattle.std.proofs.lemmas.Str.{IsUtf8-from_ascii}
use Rattle.uuid.specs.Text.{parsed}
use Rattle.script.specs.Lines.{all_ascii}
use Rattle.script.proofs.WordTexts.{ascii_reads}
use Rattle.script.proofs.meaning.id_of.Goals as goal

by_value : {E : Type 0} (e : E) (t : List ℕ) (o : Option (List ℕ)) → parsed t ≡ o → (IsOk {T = List ℕ} (Err e) ↔ ((u : List ℕ) × (parsed t ≡ Some u))) → None ≡ o
by_value e t None is both = refl
by_value e t (Some u) is both = let ok = both.1 (u, is) in absurd cc

parse_is : {E : Type 0} (r : Result (List ℕ) E) (t : List ℕ) → (IsOk r ↔ ((u : List ℕ) × (parsed t ≡ Some u))) → IfOk r (λ u. Some u ≡ parsed t) → result_ok r ≡ parsed t
parse_is (Ok u) t both is = is
parse_is (Err e) t both is = by_value e t (parsed t) refl both

pub returns-in_default : goal.returns-in_default
returns-in_default c = absurd (c.in_default.ensures.cases.0 (IsUtf8-from_ascii c.args.word.now (ascii_reads c.args.word.now (sym c.if-not-is_ascii.ensures))))

pub returns : goal.returns
returns c =
    c.ok.ensures.value
    ∙ parse_is c.parse_str.result c.in-Ok.text.now c.parse_str.ensures.ok c.parse_str.ensures.bytes
    ∙ ap parsed c.in-Ok.ensures.cases.0
    ∙ sym (cond-true (all_ascii c.args.word.now) (parsed c.args.word.now) None (sym c.if-not-is_ascii.ensures))
