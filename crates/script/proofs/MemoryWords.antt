-- The words of a call about shared memory: as the grammar has them, and as they are computed.
use Rattle.std.proofs.Common.{◌≡◌, ◌≢◌, ℕ, true, false, eqb, List, [], ◌∷◌, length, Option, Some, None, refl, ap, subst, ◌∙◌, arith, inl, inr}
use Rattle.std.specs.Prelude.{codes}
use Rattle.std.specs.Str.{bytes_eq}
use Rattle.std.proofs.lemmas.Bool.{ne_eqb}
use Rattle.std.proofs.lemmas.Option.{none-some, same_Some}
use Rattle.app_api.specs.declared.call.Call.{Call}
use Rattle.app_api.specs.declared.call.Call.TheVariants as calls
use Rattle.script.specs.declared.line.Line.TheVariants as lines
use Rattle.script.specs.Grammar.{IsMemoryCall}
use Rattle.script.specs.Lines.{app_line, block_in, filled_by, memory_call_of, plain_line, shared_by}
use Rattle.script.specs.Numbers.{number32_of}
use Rattle.script.specs.Parameters.{hex_of}
use Rattle.script.specs.Words.{IsNumber32}
use Rattle.script.proofs.Decimals.{number32_again, number32_reads}
use Rattle.script.proofs.HexDigits.{chosen, hex_again, hex_reads}
use Rattle.script.proofs.ParamWords.{is_word, some_bind}

-- ---- what is read as a call about shared memory is its words

share_reads : (verb : List ℕ) (words : List (List ℕ)) (call : Call) → verb ≡ codes "share" → shared_by words ≡ Some call → IsMemoryCall (verb ∷ words) call
unfolding shared_by IsMemoryCall
share_reads verb [] call v e = absurd (none-some call e)
share_reads verb (a ∷ []) call v e = absurd (none-some call e)
share_reads verb (a ∷ b ∷ []) call v e = absurd (none-some call e)
share_reads verb (a ∷ b ∷ c ∷ []) call v e =
    let block = some_bind (number32_of a) _ call e in
    let flags = some_bind (number32_of b) _ call block.2 in
    let size = some_bind (number32_of c) _ call flags.2 in
    subst (IsMemoryCall (verb ∷ a ∷ b ∷ c ∷ [])) (same_Some (calls.Share block.0 flags.0 size.0) call size.2)
    (a, b, c, number32_reads a block.0 block.1, number32_reads b flags.0 flags.1, number32_reads c size.0 size.1, ap (λ (w : List ℕ). w ∷ a ∷ b ∷ c ∷ []) v)
share_reads verb (a ∷ b ∷ c ∷ d ∷ words) call v e = absurd (none-some call e)

no_length : (bytes : List ℕ) → eqb (length bytes) 0 ≡ false → bytes ≢ []
no_length bytes e none = let some : eqb (length bytes) 0 ≡ true = ap (λ (bs : List ℕ). eqb (length bs) 0) none in cc

fill_reads : (verb : List ℕ) (words : List (List ℕ)) (call : Call) → verb ≡ codes "fill" → filled_by words ≡ Some call → IsMemoryCall (verb ∷ words) call
unfolding filled_by IsMemoryCall
fill_reads verb [] call v e = absurd (none-some call e)
fill_reads verb (a ∷ []) call v e = absurd (none-some call e)
fill_reads verb (a ∷ b ∷ []) call v e = absurd (none-some call e)
fill_reads verb (a ∷ b ∷ c ∷ []) call v e =
    let block = some_bind (number32_of a) _ call e in
    let at = some_bind (number32_of b) _ call block.2 in
    let bytes = some_bind (hex_of c) _ call at.2 in
    elim (chosen (eqb (length bytes.0) 0) _ _ _ bytes.2) [
      | inl none ↦ absurd (none-some call none.1)
      | inr some ↦ subst (IsMemoryCall (verb ∷ a ∷ b ∷ c ∷ [])) (same_Some (calls.Fill block.0 at.0 bytes.0) call some.1) (
        a,
        b,
        c,
        number32_reads a block.0 block.1,
        number32_reads b at.0 at.1,
        hex_reads c bytes.0 bytes.1,
        no_length bytes.0 some.0,
        ap (λ (w : List ℕ). w ∷ a ∷ b ∷ c ∷ []) v,
      )
    ]
fill_reads verb (a ∷ b ∷ c ∷ d ∷ words) call v e = absurd (none-some call e)

block_reads : (words : List (List ℕ)) (block : ℕ) → block_in words ≡ Some block → (x : List ℕ) × IsNumber32 x block × (words ≡ x ∷ [])
unfolding block_in
block_reads [] block e = absurd (none-some block e)
block_reads (a ∷ []) block e = (a, number32_reads a block e, refl)
block_reads (a ∷ b ∷ words) block e = absurd (none-some block e)

-- the call about shared memory that words are, where they are one
abbrev pub AreMemoryCall : List (List ℕ) → Option Call → Type 0
AreMemoryCall words None = Unit {0}
AreMemoryCall words (Some call) = IsMemoryCall words call

verb_and : (verb word : List ℕ) (words others : List (List ℕ)) → verb ≡ word → words ≡ others → verb ∷ words ≡ word ∷ others
verb_and verb word words others v w = rw (v, w) refl

pub memory_reads : (verb : List ℕ) (words : List (List ℕ)) (said : Option Call) → memory_call_of verb words ≡ Some said → AreMemoryCall (verb ∷ words) said
unfolding memory_call_of IsMemoryCall
memory_reads verb words said e =
    elim (chosen (bytes_eq verb (codes "share")) _ _ _ e) [
      | inl h ↦ let c = some_bind (shared_by words) _ said h.1 in
          subst (AreMemoryCall (verb ∷ words)) (same_Some (Some c.0) said c.2) (share_reads verb words c.0 (is_word verb (codes "share") h.0) c.1)
      | inr f ↦ elim (chosen (bytes_eq verb (codes "fill")) _ _ _ f.1) [
        | inl h ↦ let c = some_bind (filled_by words) _ said h.1 in
            subst (AreMemoryCall (verb ∷ words)) (same_Some (Some c.0) said c.2) (fill_reads verb words c.0 (is_word verb (codes "fill") h.0) c.1)
        | inr g ↦ elim (chosen (bytes_eq verb (codes "show")) _ _ _ g.1) [
          | inl h ↦ let c = some_bind (block_in words) _ said h.1 in
              let b = block_reads words c.0 c.1 in
              subst (AreMemoryCall (verb ∷ words)) (same_Some (Some (calls.Show c.0)) said c.2) (b.0, b.1, verb_and verb (codes "show") words (b.0 ∷ []) (is_word verb (codes "show") h.0) b.2)
          | inr i ↦ elim (chosen (bytes_eq verb (codes "unshare")) _ _ _ i.1) [
            | inl h ↦ let c = some_bind (block_in words) _ said h.1 in
                let b = block_reads words c.0 c.1 in
                subst (AreMemoryCall (verb ∷ words)) (same_Some (Some (calls.Unshare c.0)) said c.2)
                (b.0, b.1, verb_and verb (codes "unshare") words (b.0 ∷ []) (is_word verb (codes "unshare") h.0) b.2)
            | inr other ↦ subst (AreMemoryCall (verb ∷ words)) (same_Some None said other.1) tt
          ]
        ]
      ]
    ]

-- ---- its words are read as it

some_length : (bytes : List ℕ) → bytes ≢ [] → eqb (length bytes) 0 ≡ false
some_length [] some = absurd (some refl)
some_length (b ∷ bs) some = ne_eqb (length (b ∷ bs)) 0 (λ e. omega (arith, e))

-- the words of a call about shared memory are read as it
pub memory_again : (client app : ℕ) (words : List (List ℕ)) (call : Call) → IsMemoryCall words call → app_line client app words ≡ Some (plain_line (lines.Call app client false call))
unfolding app_line memory_call_of shared_by filled_by block_in IsMemoryCall
memory_again client app words (calls.Open label login params) h = absurd h
memory_again client app words (calls.Invoke label command params) h = absurd h
memory_again client app words (calls.Close label) h = absurd h
memory_again client app words (calls.Share block flags size) h =
    ap (app_line client app) h.6 ∙ rw (number32_again h.0 block h.3, number32_again h.1 flags h.4, number32_again h.2 size h.5) refl
memory_again client app words (calls.Fill block at bytes) h =
    ap (app_line client app) h.7 ∙ rw (number32_again h.0 block h.3, number32_again h.1 at h.4, hex_again h.2 bytes h.5, some_length bytes h.6) refl
memory_again client app words (calls.Show block) h = ap (app_line client app) h.2 ∙ rw (number32_again h.0 block h.1) refl
memory_again client app words (calls.Unshare block) h = ap (app_line client app) h.2 ∙ rw (number32_again h.0 block h.1) refl
