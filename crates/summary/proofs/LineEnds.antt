-- A line that ends.
use Rattle.std.proofs.Common.{◌≡◌, ◌==◌, ℕ, false, List, [], ◌∷◌, ◌++◌, None, ap, sym, ◌∙◌, subst, append_assoc, append-nil}
use Rattle.std.specs.Prelude.{codes}
use Rattle.std.specs.List.{AllByRecursion}
use Rattle.std.proofs.lemmas.Grind.{flat_map-append}
use Rattle.std.proofs.lemmas.List.Elements.{filter_map-append}
use Rattle.mac_digest.specs.declared.digests.Hash.TheVariants.{Sha256}
use Rattle.mac_digest.specs.declared.digests.Digester.{Digester}
use Rattle.mac_digest.specs.Digester.{HoldsMessage}
use Rattle.summary.specs.Codes.{IsTally, begins_with, code_in, codes_in}
use Rattle.summary.specs.Summaries.{HasLines, IsOneLine, IsSummed, with_line_feeds}

all_push : {X : Type 0} (P : X → Type 0) (xs : List X) (y : X) → AllByRecursion P xs → P y → AllByRecursion P (xs ++ y ∷ [])
all_push P [] y h k = (k, tt)
all_push P (x ∷ xs) y h k = (h.0, all_push P xs y h.1 k)

fed_push : (lines : List (List ℕ)) (line : List ℕ) → with_line_feeds (lines ++ line ∷ []) ≡ (with_line_feeds lines ++ line) ++ codes "\n"
fed_push lines line =
    flat_map-append (λ (l : List ℕ). l ++ codes "\n") lines (line ∷ []) ∙ ap (λ ls. with_line_feeds lines ++ ls) (append-nil (line ++ codes "\n"))
    ∙ sym (append_assoc (with_line_feeds lines) line (codes "\n"))

-- one byte more, which is no line feed
pub goes_on : (text line : List ℕ) (lines : List (List ℕ)) (byte : ℕ) → HasLines text lines line → (byte == 10) ≡ false → HasLines (text ++ byte ∷ []) lines (line ++ byte ∷ [])
goes_on text line lines byte has other = record {
  all = ap (λ t. t ++ byte ∷ []) has.all ∙ append_assoc (with_line_feeds lines) line (byte ∷ []);
  each = has.each;
  last = all_push (λ c. (c == 10) ≡ false) line byte has.last other;
  own = has.own;
}

has_ended : (text line : List ℕ) (lines : List (List ℕ)) → HasLines text lines line → begins_with (codes "board ") line ≡ false → HasLines (text ++ 10 ∷ []) (lines ++ line ∷ []) []
has_ended text line lines has own = record {
  all = ap (λ t. t ++ 10 ∷ []) has.all ∙ sym (fed_push lines line) ∙ sym (append-nil (with_line_feeds (lines ++ line ∷ [])));
  each = all_push IsOneLine lines line has.each has.last;
  last = tt;
  own = all_push (λ l. begins_with (codes "board ") l ≡ false) lines line has.own own;
}

pub line_ended : (text line : List ℕ) (old new : List (ℕ × ℕ)) (before between after : Digester) (then empty : List ℕ) → IsSummed text line old before None
    → begins_with (codes "board ") line ≡ false →
    ((found : List ℕ) → IsTally found old → IsTally (found ++ codes_in (line ∷ [])) new) →
    ((message : List ℕ) → HoldsMessage before Sha256 message → HoldsMessage between Sha256 (message ++ line)) →
    ((message : List ℕ) → HoldsMessage between Sha256 message → HoldsMessage after Sha256 (message ++ codes "\n")) →
    then ≡ text ++ 10 ∷ [] → empty ≡ [] → IsSummed then empty new after None
line_ended text line old new before between after then empty summed own counts first second is none = record {
  lines = summed.lines ++ line ∷ [];
  has = subst (λ t. HasLines t (summed.lines ++ line ∷ []) empty) (sym is)
      (subst (λ e. HasLines (text ++ 10 ∷ []) (summed.lines ++ line ∷ []) e) (sym none) (has_ended text line summed.lines summed.has own));
  by_line = tt;
  tally = subst (λ found. IsTally found new) (sym (filter_map-append code_in summed.lines (line ∷ []))) (counts (codes_in summed.lines) summed.tally);
  hashed = subst (HoldsMessage after Sha256) (sym (fed_push summed.lines line)) (second (with_line_feeds summed.lines ++ line) (first (with_line_feeds summed.lines) summed.hashed));
}
