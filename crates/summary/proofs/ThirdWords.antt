-- The third word of a line.
use Rattle.std.proofs.Common.{◌≡◌, ◌==◌, ℕ, false, List, ◌∷◌, ◌++◌, Some, length, ap, ◌∙◌, refl, append_assoc}
use Rattle.std.specs.Prelude.{codes}
use Rattle.std.specs.Int.{w32, from_be_bytes}
use Rattle.std.specs.List.{slice_split}
use Rattle.std.proofs.lemmas.List.Elements.{All-from_recursion}
use Rattle.std.proofs.lemmas.List.Splits.{slice_split_at}
use Rattle.hex.specs.Hex.{IsBytes, encode_lower}
use Rattle.hex.proofs.HexLemmas.{decode_sized-encode_lower}
use Rattle.summary.specs.Codes.{IsWord, code_in, code_of, number_by, third}

cut : (word rest : List ℕ) → IsWord word → slice_split (λ (c : ℕ). c == 32) (word ++ 32 ∷ rest) ≡ word ∷ slice_split (λ (c : ℕ). c == 32) rest
cut word rest h = slice_split_at (λ (c : ℕ). c == 32) word 32 rest (All-from_recursion (λ (c : ℕ). (c == 32) ≡ false) word h) refl

regroup : (name op word rest : List ℕ) → name ++ codes " " ++ op ++ codes " " ++ word ++ codes " " ++ rest ≡ name ++ 32 ∷ (op ++ 32 ∷ (word ++ 32 ∷ rest))
regroup name op word rest = simp append_assoc

pub third_is : (name op word rest : List ℕ) → IsWord name → IsWord op → IsWord word → code_in (name ++ codes " " ++ op ++ codes " " ++ word ++ codes " " ++ rest) ≡ code_of word
third_is name op word rest a b c =
    let parts : List ℕ → List (List ℕ) = slice_split (λ (c : ℕ). c == 32) in
    let last : List ℕ = word ++ 32 ∷ rest in
    let first : parts (name ++ 32 ∷ (op ++ 32 ∷ last)) ≡ name ∷ parts (op ++ 32 ∷ last) = cut name (op ++ 32 ∷ last) a in
    let second : parts (op ++ 32 ∷ last) ≡ op ∷ parts last = cut op last b in
    let third_one : parts last ≡ word ∷ parts rest = cut word rest c in
    ap code_in (regroup name op word rest) ∙ ap third (first ∙ ap (λ (ws : List (List ℕ)). name ∷ ws) (second ∙ ap (λ (ws : List (List ℕ)). op ∷ ws) third_one))

pub word_says : (bytes : List ℕ) → length bytes ≡ 4 → IsBytes bytes → code_of (encode_lower bytes) ≡ Some (from_be_bytes w32 bytes)
word_says bytes four are = ap number_by (decode_sized-encode_lower bytes 4 four are)
