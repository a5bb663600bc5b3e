-- The words of parameters, and of all parameters of a line.
use Rattle.std.proofs.Common.{◌≡◌, ℕ, zero, suc, ◌+◌, ◌<◌, ◌≤◌, ◌^◌, Bool, true, false, ◌&&◌, not, eqb, leb, ltb, List, [], ◌∷◌, ◌++◌, length, map}
use Rattle.std.proofs.Common.{replicate, Option, Some, None, refl, sym, ap, subst, ◌∙◌, append_assoc, arith, inl, inr, zero-add}
use Rattle.std.specs.Prelude.{codes}
use Rattle.std.specs.List.{AllByRecursion, slice_split, join_with_byte}
use Rattle.std.specs.Option.{option_map}
use Rattle.std.specs.Str.{bytes_eq}
use Rattle.std.proofs.lemmas.Bool.{and_parts, le-leb, leb-true, ltb-false, ltb-true, not-true}
use Rattle.std.proofs.lemmas.List.{append-nil}
use Rattle.std.proofs.lemmas.List.Splits.{join_with_byte-slice_split}
use Rattle.std.proofs.lemmas.Option.{cond_some, none-some, same_Some}
use Rattle.std.proofs.lemmas.Slice.Eq.{bytes_eq-Decides}
use Rattle.tee_base.specs.declared.limits.TheConstants.{MAX_ASK_BYTES}
use Rattle.app_api.specs.declared.param.Param.{Param}
use Rattle.app_api.specs.declared.param.Param.TheVariants.{Nothing, ValueIn, ValueOut, ValueInOut, MemIn, MemOut, MemInOut, Whole, Part}
use Rattle.app_api.specs.declared.param.Params.{Params}
use Rattle.app_api.specs.Params.{params_of}
use Rattle.script.specs.declared.param.Parameter.{Parameter}
use Rattle.script.specs.declared.param.Parameters.{Parameters}
use Rattle.script.specs.Numbers.{number32_of}
use Rattle.script.specs.Parameters.{◌>>=◌, hex_of, plain_parameter, parameter_of_one, parameter_of_two, parameter_of_three, parameter_of_four}
use Rattle.script.specs.Parameters.{parameter_of_parts, parameter_of, parameter_at, parameters_of, part_with, with_numbers, fill_parameter}
use Rattle.script.specs.Words.{AreParams, IsFilled, IsMemory, IsPair, IsParam, IsPart, part_front}
use Rattle.script.proofs.Cuts.{Lacks, all_append, all_weaker, cut_joined, joined}
use Rattle.script.proofs.Decimals.{IsGraphic, IsPartByte, digits_part, number32_again, number32_reads}
use Rattle.script.proofs.HexDigits.{chosen, hex_again, hex_part, hex_reads}

-- ---- steps that gave a value

pub some_bind : {A B : Type 0} (o : Option A) (f : A → Option B) (y : B) → (o >>= f) ≡ Some y → (x : A) × (o ≡ Some x) × (f x ≡ Some y)
some_bind None f y e = absurd (none-some y e)
some_bind (Some x) f y e = (x, refl, e)

pub option_map_some : {A B : Type 0} (f : A → B) (o : Option A) (y : B) → option_map f o ≡ Some y → (x : A) × (o ≡ Some x) × (f x ≡ y)
option_map_some f None y e = absurd (none-some y e)
option_map_some f (Some x) y e = (x, refl, same_Some (f x) y e)

with_numbers_some : (make : ℕ → ℕ → Param) (o q : Option ℕ) (p : Parameter) → with_numbers make o q ≡ Some p → (a b : ℕ) × (o ≡ Some a) × (q ≡ Some b) × (plain_parameter (make a b) ≡ p)
with_numbers_some make None q p e = absurd (none-some p e)
with_numbers_some make (Some a) q p e = let m = option_map_some (λ b. plain_parameter (make a b)) q p e in (a, m.0, refl, m.1, m.2)

filled_some : (o : Option ℕ) (q : Option (List ℕ)) (p : Parameter) → fill_parameter o q ≡ Some p
    → (size byte : ℕ) × (o ≡ Some size) × (q ≡ Some (byte ∷ [])) × (size ≤ MAX_ASK_BYTES) × (record { param = MemIn (replicate size byte); fill = size } ≡ p)
filled_some None q p e = absurd (none-some p e)
filled_some (Some size) None p e = absurd (none-some p e)
filled_some (Some size) (Some []) p e = absurd (none-some p e)
filled_some (Some size) (Some (byte ∷ [])) p e =
    let t = cond_some (leb size MAX_ASK_BYTES) (record { param = MemIn (replicate size byte); fill = size }) p e in
    (size, byte, refl, refl, leb-true size MAX_ASK_BYTES t.0, t.1)
filled_some (Some size) (Some (byte ∷ other ∷ bytes)) p e = absurd (none-some p e)

part_with_some : (way : ℕ) (o q r : Option ℕ) (p : Parameter) → part_with way o q r ≡ Some p
    → (block at size : ℕ) × (o ≡ Some block) × (q ≡ Some at) × (r ≡ Some size) × (plain_parameter (Part block way at size) ≡ p)
part_with_some way None q r p e = absurd (none-some p e)
part_with_some way (Some block) None r p e = absurd (none-some p e)
part_with_some way (Some block) (Some at) None p e = absurd (none-some p e)
part_with_some way (Some block) (Some at) (Some size) p e = (block, at, size, refl, refl, refl, same_Some (plain_parameter (Part block way at size)) p e)

pub is_word : (k w : List ℕ) → bytes_eq k w ≡ true → k ≡ w
is_word k w e = (bytes_eq-Decides k w).0 e

-- ---- what is read as a parameter is its word

two_parts : (k word a : List ℕ) → k ≡ word → k ++ 58 ∷ a ≡ word ++ 58 ∷ a
two_parts k word a e = ap (λ (w : List ℕ). w ++ 58 ∷ a) e

three_parts : (k word a b : List ℕ) → k ≡ word → k ++ 58 ∷ (a ++ 58 ∷ b) ≡ (word ++ 58 ∷ []) ++ a ++ (58 ∷ []) ++ b
three_parts k word a b e = rw e (simp append_assoc)

four_parts : (k word front a b c : List ℕ) → k ≡ word → word ++ 58 ∷ [] ≡ front → k ++ 58 ∷ (a ++ 58 ∷ (b ++ 58 ∷ c)) ≡ front ++ a ++ (58 ∷ []) ++ b ++ (58 ∷ []) ++ c
four_parts k word front a b c e f = rw (e, sym f) (simp append_assoc)

one_reads : (k : List ℕ) (p : Parameter) → parameter_of_one k ≡ Some p → IsParam k p.param p.fill
unfolding parameter_of_one IsParam
one_reads k p e =
    elim (chosen (bytes_eq k (codes "-")) _ _ _ e) [
      | inl h ↦ subst (λ (q : Parameter). IsParam k q.param q.fill) (same_Some _ _ h.1) (is_word k (codes "-") h.0, refl)
      | inr f ↦ elim (chosen (bytes_eq k (codes "vo")) _ _ _ f.1) [
        | inl h ↦ subst (λ (q : Parameter). IsParam k q.param q.fill) (same_Some _ _ h.1) (is_word k (codes "vo") h.0, refl)
        | inr none ↦ absurd (none-some p none.1)
      ]
    ]

two_reads : (k a : List ℕ) (p : Parameter) → parameter_of_two k a ≡ Some p → IsParam (k ++ 58 ∷ a) p.param p.fill
unfolding parameter_of_two IsParam
two_reads k a p e =
    elim (chosen (bytes_eq k (codes "mi")) _ _ _ e) [
      | inl h ↦ let m = option_map_some (λ x. plain_parameter (MemIn x)) (hex_of a) p h.1 in
          subst (λ (q : Parameter). IsParam (k ++ 58 ∷ a) q.param q.fill) m.2 (inl ((a, hex_reads a m.0 m.1, two_parts k (codes "mi") a (is_word k (codes "mi") h.0)), refl))
      | inr f ↦ elim (chosen (bytes_eq k (codes "mio")) _ _ _ f.1) [
        | inl h ↦ let m = option_map_some (λ x. plain_parameter (MemInOut x)) (hex_of a) p h.1 in
            subst (λ (q : Parameter). IsParam (k ++ 58 ∷ a) q.param q.fill) m.2 ((a, hex_reads a m.0 m.1, two_parts k (codes "mio") a (is_word k (codes "mio") h.0)), refl)
        | inr g ↦ elim (chosen (bytes_eq k (codes "mo")) _ _ _ g.1) [
          | inl h ↦ let m = option_map_some (λ x. plain_parameter (MemOut x)) (number32_of a) p h.1 in
              subst (λ (q : Parameter). IsParam (k ++ 58 ∷ a) q.param q.fill) m.2 ((a, number32_reads a m.0 m.1, two_parts k (codes "mo") a (is_word k (codes "mo") h.0)), refl)
          | inr i ↦ elim (chosen (bytes_eq k (codes "sw")) _ _ _ i.1) [
            | inl h ↦ let m = option_map_some (λ x. plain_parameter (Whole x)) (number32_of a) p h.1 in
                subst (λ (q : Parameter). IsParam (k ++ 58 ∷ a) q.param q.fill) m.2 ((a, number32_reads a m.0 m.1, two_parts k (codes "sw") a (is_word k (codes "sw") h.0)), refl)
            | inr none ↦ absurd (none-some p none.1)
          ]
        ]
      ]
    ]

three_reads : (k a b : List ℕ) (p : Parameter) → parameter_of_three k a b ≡ Some p → IsParam (k ++ 58 ∷ (a ++ 58 ∷ b)) p.param p.fill
unfolding parameter_of_three IsParam
three_reads k a b p e =
    elim (chosen (bytes_eq k (codes "vi")) _ _ _ e) [
      | inl h ↦ let m = with_numbers_some ValueIn (number32_of a) (number32_of b) p h.1 in
          subst (λ (q : Parameter). IsParam (k ++ 58 ∷ (a ++ 58 ∷ b)) q.param q.fill) m.4 (
            (
              a,
              b,
              number32_reads a m.0 m.2,
              number32_reads b m.1 m.3,
              three_parts k (codes "vi") a b (is_word k (codes "vi") h.0),
            ),
            refl,
          )
      | inr f ↦ elim (chosen (bytes_eq k (codes "vio")) _ _ _ f.1) [
        | inl h ↦ let m = with_numbers_some ValueInOut (number32_of a) (number32_of b) p h.1 in
            subst (λ (q : Parameter). IsParam (k ++ 58 ∷ (a ++ 58 ∷ b)) q.param q.fill) m.4 (
              (
                a,
                b,
                number32_reads a m.0 m.2,
                number32_reads b m.1 m.3,
                three_parts k (codes "vio") a b (is_word k (codes "vio") h.0),
              ),
              refl,
            )
        | inr g ↦ elim (chosen (bytes_eq k (codes "mf")) _ _ _ g.1) [
          | inl h ↦ let m = filled_some (number32_of a) (hex_of b) p h.1 in
              subst (λ (q : Parameter). IsParam (k ++ 58 ∷ (a ++ 58 ∷ b)) q.param q.fill) m.5
              (inr (m.1, a, b, (number32_reads a m.0 m.2).0, hex_reads b (m.1 ∷ []) m.3, three_parts k (codes "mf") a b (is_word k (codes "mf") h.0), refl, m.4))
          | inr none ↦ absurd (none-some p none.1)
        ]
      ]
    ]

part_reads : (k kind a b c : List ℕ) (way : ℕ) (p : Parameter) → 1 ≤ way → way ≤ 3 → kind ++ 58 ∷ [] ≡ part_front way → k ≡ kind
    → part_with way (number32_of a) (number32_of b) (number32_of c) ≡ Some p → IsParam (k ++ 58 ∷ (a ++ 58 ∷ (b ++ 58 ∷ c))) p.param p.fill
unfolding IsParam
part_reads k kind a b c way p some most front is e =
    let m = part_with_some way (number32_of a) (number32_of b) (number32_of c) p e in
    subst (λ (q : Parameter). IsParam (k ++ 58 ∷ (a ++ 58 ∷ (b ++ 58 ∷ c))) q.param q.fill) m.6
    ((some, most, a, b, c, number32_reads a m.0 m.3, number32_reads b m.1 m.4, number32_reads c m.2 m.5, four_parts k kind (part_front way) a b c is front), refl)

four_reads : (k a b c : List ℕ) (p : Parameter) → parameter_of_four k a b c ≡ Some p → IsParam (k ++ 58 ∷ (a ++ 58 ∷ (b ++ 58 ∷ c))) p.param p.fill
unfolding parameter_of_four
four_reads k a b c p e =
    elim (chosen (bytes_eq k (codes "si")) _ _ _ e) [
      | inl h ↦ part_reads k (codes "si") a b c 1 p (omega arith) (omega arith) refl (is_word k (codes "si") h.0) h.1
      | inr f ↦ elim (chosen (bytes_eq k (codes "so")) _ _ _ f.1) [
        | inl h ↦ part_reads k (codes "so") a b c 2 p (omega arith) (omega arith) refl (is_word k (codes "so") h.0) h.1
        | inr g ↦ elim (chosen (bytes_eq k (codes "sio")) _ _ _ g.1) [
          | inl h ↦ part_reads k (codes "sio") a b c 3 p (omega arith) (omega arith) refl (is_word k (codes "sio") h.0) h.1
          | inr none ↦ absurd (none-some p none.1)
        ]
      ]
    ]

parts_read : (parts : List (List ℕ)) (p : Parameter) → parameter_of_parts parts ≡ Some p → IsParam (join_with_byte 58 parts) p.param p.fill
parts_read [] p e = absurd (none-some p e)
parts_read (k ∷ []) p e = one_reads k p e
parts_read (k ∷ a ∷ []) p e = two_reads k a p e
parts_read (k ∷ a ∷ b ∷ []) p e = three_reads k a b p e
parts_read (k ∷ a ∷ b ∷ c ∷ []) p e = four_reads k a b c p e
parts_read (k ∷ a ∷ b ∷ c ∷ d ∷ more) p e = absurd (none-some p e)

parameter_reads : (word : List ℕ) (p : Parameter) → parameter_of word ≡ Some p → IsParam word p.param p.fill
parameter_reads word p e = subst (λ (w : List ℕ). IsParam w p.param p.fill) (join_with_byte-slice_split 58 word) (parts_read (slice_split (λ c. eqb c 58) word) p e)

-- ---- the word of a parameter is read as it

abbrev is_graphic : ℕ → Bool
is_graphic c = ltb 32 c && ltb c 128

abbrev pub are_graphic : List ℕ → Bool
are_graphic [] = true
are_graphic (c ∷ cs) = is_graphic c && are_graphic cs

graphic_byte : (c : ℕ) → is_graphic c ≡ true → IsGraphic c
graphic_byte c e = let p = and_parts (ltb 32 c) (ltb c 128) e in (ltb-true 32 c p.0, ltb-true c 128 p.1)

pub graphic_word : (cs : List ℕ) → are_graphic cs ≡ true → AllByRecursion IsGraphic cs
graphic_word [] e = tt
graphic_word (c ∷ cs) e = let p = and_parts (is_graphic c) (are_graphic cs) e in (graphic_byte c p.0, graphic_word cs p.1)

abbrev are_parts : List ℕ → Bool
are_parts [] = true
are_parts (c ∷ cs) = (is_graphic c && not (eqb c 58)) && are_parts cs

word_part : (cs : List ℕ) → are_parts cs ≡ true → AllByRecursion IsPartByte cs
word_part [] e = tt
word_part (c ∷ cs) e =
    let p = and_parts (is_graphic c && not (eqb c 58)) (are_parts cs) e in
    let q = and_parts (is_graphic c) (not (eqb c 58)) p.0 in
    ((graphic_byte c q.0, not-true (eqb c 58) q.1), word_part cs p.1)

-- the parts of a parameter's word
record Parted (word : List ℕ) (p : Parameter) : Type 0 where
  kind : List ℕ
  parts : List (List ℕ)
  whole : word ≡ kind ++ joined 58 parts
  kind_part : AllByRecursion IsPartByte kind
  each_part : AllByRecursion (AllByRecursion IsPartByte) parts
  reads : parameter_of_parts (kind ∷ parts) ≡ Some p

one_part : (word a : List ℕ) → (word ++ 58 ∷ []) ++ a ≡ word ++ joined 58 (a ∷ [])
one_part word a = simp (append_assoc, append-nil)

both_parts : (word a b : List ℕ) → (word ++ 58 ∷ []) ++ a ++ (58 ∷ []) ++ b ≡ word ++ joined 58 (a ∷ b ∷ [])
both_parts word a b = simp (append_assoc, append-nil)

three_parts_joined : (word a b c : List ℕ) → (word ++ 58 ∷ []) ++ a ++ (58 ∷ []) ++ b ++ (58 ∷ []) ++ c ≡ word ++ joined 58 (a ∷ b ∷ c ∷ [])
three_parts_joined word a b c = simp (append_assoc, append-nil)

memory_parted : (kind word bytes : List ℕ) (fill : ℕ) (make : List ℕ → Param) (is_part : are_parts kind ≡ true)
    → ((digits : List ℕ) → parameter_of_parts (kind ∷ digits ∷ []) ≡ option_map (λ x. plain_parameter (make x)) (hex_of digits))
    → IsMemory (kind ++ 58 ∷ []) word bytes → fill ≡ 0 → Parted word (record { param = make bytes; fill = fill })
memory_parted kind word bytes fill make is_part reads h none = record {
  kind = kind;
  parts = h.0 ∷ [];
  whole = h.2 ∙ one_part kind h.0;
  kind_part = word_part kind is_part;
  each_part = (hex_part h.0 bytes h.1, tt);
  reads = reads h.0 ∙ rw (hex_again h.0 bytes h.1, none) refl;
}

filled_parted : (word bytes : List ℕ) (fill : ℕ) → IsFilled word bytes fill → Parted word (record { param = MemIn bytes; fill = fill })
unfolding parameter_of_three
filled_parted word bytes fill h =
    let small : fill < 2 ^ 32 = omega (arith, h.7) in
    let test : leb fill MAX_ASK_BYTES ≡ true = le-leb fill MAX_ASK_BYTES h.7 in
    record {
      kind = codes "mf";
      parts = h.1 ∷ h.2 ∷ [];
      whole = h.5 ∙ both_parts (codes "mf") h.1 h.2;
      kind_part = word_part (codes "mf") refl;
      each_part = (digits_part h.1 h.3.0.1, (hex_part h.2 (h.0 ∷ []) h.4, tt));
      reads = rw (number32_again h.1 fill (h.3, small), hex_again h.2 (h.0 ∷ []) h.4, test, h.6) refl;
    }

numbers_parted : (kind word : List ℕ) (a b fill : ℕ) (make : ℕ → ℕ → Param) (is_part : are_parts kind ≡ true)
    → ((x y : List ℕ) → parameter_of_parts (kind ∷ x ∷ y ∷ []) ≡ with_numbers make (number32_of x) (number32_of y))
    → IsPair (kind ++ 58 ∷ []) word a b → fill ≡ 0 → Parted word (record { param = make a b; fill = fill })
numbers_parted kind word a b fill make is_part reads h none = record {
  kind = kind;
  parts = h.0 ∷ h.1 ∷ [];
  whole = h.4 ∙ both_parts kind h.0 h.1;
  kind_part = word_part kind is_part;
  each_part = (digits_part h.0 h.2.0.0.1, (digits_part h.1 h.3.0.0.1, tt));
  reads = reads h.0 h.1 ∙ rw (number32_again h.0 a h.2, number32_again h.1 b h.3, none) refl;
}

-- a way is that of an input, of an output or of both
pub by_way : (P : ℕ → Type 0) (way : ℕ) → 1 ≤ way → way ≤ 3 → P 1 → P 2 → P 3 → P way
by_way P zero some most input output both = absurd (omega (arith, some))
by_way P (suc zero) some most input output both = input
by_way P (suc (suc zero)) some most input output both = output
by_way P (suc (suc (suc zero))) some most input output both = both
by_way P (suc (suc (suc (suc more)))) some most input output both = absurd (omega (arith, most))

part_parted : (kind word : List ℕ) (block way at size fill : ℕ) (is_part : are_parts kind ≡ true)
    → ((x y z : List ℕ) → parameter_of_parts (kind ∷ x ∷ y ∷ z ∷ []) ≡ part_with way (number32_of x) (number32_of y) (number32_of z))
    → part_front way ≡ kind ++ 58 ∷ [] → fill ≡ 0 → IsPart word block way at size → Parted word (record { param = Part block way at size; fill = fill })
part_parted kind word block way at size fill is_part reads front none h = record {
  kind = kind;
  parts = h.2 ∷ h.3 ∷ h.4 ∷ [];
  whole = h.8 ∙ ap (λ (f : List ℕ). f ++ h.2 ++ codes ":" ++ h.3 ++ codes ":" ++ h.4) front ∙ three_parts_joined kind h.2 h.3 h.4;
  kind_part = word_part kind is_part;
  each_part = (digits_part h.2 h.5.0.0.1, (digits_part h.3 h.6.0.0.1, (digits_part h.4 h.7.0.0.1, tt)));
  reads = reads h.2 h.3 h.4 ∙ rw (number32_again h.2 block h.5, number32_again h.3 at h.6, number32_again h.4 size h.7, none) refl;
}

parted : (word : List ℕ) (param : Param) (fill : ℕ) → IsParam word param fill → Parted word (record { param = param; fill = fill })
unfolding IsParam parameter_of_one parameter_of_two parameter_of_three parameter_of_four
parted word Nothing fill h = record { kind = codes "-"; parts = []; whole = h.0; kind_part = word_part (codes "-") refl; each_part = tt; reads = rw h.1 refl }
parted word (ValueIn a b) fill h = numbers_parted (codes "vi") word a b fill ValueIn refl (λ x y. refl) h.0 h.1
parted word ValueOut fill h = record { kind = codes "vo"; parts = []; whole = h.0; kind_part = word_part (codes "vo") refl; each_part = tt; reads = rw h.1 refl }
parted word (ValueInOut a b) fill h = numbers_parted (codes "vio") word a b fill ValueInOut refl (λ x y. refl) h.0 h.1
parted word (MemIn bytes) fill (inl h) = memory_parted (codes "mi") word bytes fill MemIn refl (λ d. refl) h.0 h.1
parted word (MemIn bytes) fill (inr h) = filled_parted word bytes fill h
parted word (MemOut size) fill h = record {
  kind = codes "mo";
  parts = h.0.0 ∷ [];
  whole = h.0.2 ∙ one_part (codes "mo") h.0.0;
  kind_part = word_part (codes "mo") refl;
  each_part = (digits_part h.0.0 h.0.1.0.0.1, tt);
  reads = rw (number32_again h.0.0 size h.0.1, h.1) refl;
}
parted word (MemInOut bytes) fill h = memory_parted (codes "mio") word bytes fill MemInOut refl (λ d. refl) h.0 h.1
parted word (Whole block) fill h = record {
  kind = codes "sw";
  parts = h.0.0 ∷ [];
  whole = h.0.2 ∙ one_part (codes "sw") h.0.0;
  kind_part = word_part (codes "sw") refl;
  each_part = (digits_part h.0.0 h.0.1.0.0.1, tt);
  reads = rw (number32_again h.0.0 block h.0.1, h.1) refl;
}
parted word (Part block way at size) fill h =
    by_way (λ w. IsPart word block w at size → Parted word (record { param = Part block w at size; fill = fill })) way h.0.0 h.0.1
    (part_parted (codes "si") word block 1 at size fill refl (λ x y z. refl) refl h.1)
    (part_parted (codes "so") word block 2 at size fill refl (λ x y z. refl) refl h.1)
    (part_parted (codes "sio") word block 3 at size fill refl (λ x y z. refl) refl h.1) h.0

part_lacks : (xs : List ℕ) → AllByRecursion IsPartByte xs → Lacks 58 xs
part_lacks xs h = all_weaker IsPartByte (λ c. eqb c 58 ≡ false) (λ c p. p.1) xs h

parameter_again : (word : List ℕ) (param : Param) (fill : ℕ) → IsParam word param fill → parameter_of word ≡ Some (record { param = param; fill = fill })
parameter_again word param fill h =
    let p = parted word param fill h in
    ap parameter_of p.whole
    ∙ ap parameter_of_parts (cut_joined 58 p.kind p.parts (part_lacks p.kind p.kind_part) (all_weaker (AllByRecursion IsPartByte) (Lacks 58) part_lacks p.parts p.each_part))
    ∙ p.reads

part_graphic : (xs : List ℕ) → AllByRecursion IsPartByte xs → AllByRecursion IsGraphic xs
part_graphic xs h = all_weaker IsPartByte IsGraphic (λ c p. p.0) xs h

parts_graphic : (parts : List (List ℕ)) → AllByRecursion (AllByRecursion IsPartByte) parts → AllByRecursion IsGraphic (joined 58 parts)
parts_graphic [] h = tt
parts_graphic (part ∷ parts) h = ((omega arith, omega arith), all_append IsGraphic part (joined 58 parts) (part_graphic part h.0) (parts_graphic parts h.1))

-- the word of a parameter is of printed bytes
pub param_graphic : (word : List ℕ) (param : Param) (fill : ℕ) → IsParam word param fill → AllByRecursion IsGraphic word
param_graphic word param fill h =
    let p = parted word param fill h in
    subst (AllByRecursion IsGraphic) (sym p.whole) (all_append IsGraphic p.kind (joined 58 p.parts) (part_graphic p.kind p.kind_part) (parts_graphic p.parts p.each_part))

-- ---- the parameters of a line

-- words and the parameters that they say; those left out are none
abbrev Given : List (List ℕ) → List Parameter → Type 0
Given [] [] = Unit {0}
Given [] (p ∷ ps) = (p ≡ plain_parameter Nothing) × Given [] ps
Given (word ∷ words) [] = ⊥
Given (word ∷ words) (p ∷ ps) = (parameter_of word ≡ Some p) × Given words ps

abbrev fills_of : List Parameter → ℕ
fills_of [] = 0
fills_of (p ∷ ps) = p.fill + fills_of ps

abbrev kinds_of : List Parameter → List Param
kinds_of ps = map (λ p. p.param) ps

given_reads : (words : List (List ℕ)) (ps : List Parameter) → Given words ps → AreParams words (kinds_of ps) (fills_of ps)
unfolding AreParams
given_reads [] [] h = refl
given_reads [] (p ∷ ps) h =
    let none : p.fill + fills_of ps ≡ fills_of ps = ap (λ (q : Parameter). q.fill + fills_of ps) h.0 ∙ zero-add (fills_of ps) in
    (ap (λ (q : Parameter). q.param) h.0, subst (λ (n : ℕ). AreParams [] (kinds_of ps) n) (sym none) (given_reads [] ps h.1))
given_reads (word ∷ words) [] h = h
given_reads (word ∷ words) (p ∷ ps) h = (p.fill, fills_of ps, parameter_reads word p h.0, given_reads words ps h.1, refl)

-- what the words of parameters are read as
record Worded (words : List (List ℕ)) (params : List Param) (fills : ℕ) : Type 0 where
  ps : List Parameter
  given : Given words ps
  kinds : kinds_of ps ≡ params
  total : fills_of ps ≡ fills

worded : (words : List (List ℕ)) (params : List Param) (fills : ℕ) → AreParams words params fills → Worded words params fills
unfolding AreParams
worded [] [] fills h = record { ps = []; given = tt; kinds = refl; total = sym h }
worded [] (param ∷ params) fills h =
    let r = worded [] params fills h.1 in
    let none = h.0 in
    let others = r.kinds in
    record { ps = plain_parameter Nothing ∷ r.ps; given = (refl, r.given); kinds = cc; total = zero-add (fills_of r.ps) ∙ r.total }
worded (word ∷ words) [] fills h = absurd h
worded (word ∷ words) (param ∷ params) fills h =
    let r = worded words params h.1 h.3 in
    record {
      ps = record { param = param; fill = h.0 } ∷ r.ps;
      given = (parameter_again word param h.0 h.2, r.given);
      kinds = ap (λ (xs : List Param). param ∷ xs) r.kinds;
      total = ap (λ (n : ℕ). h.0 + n) r.total ∙ sym h.4;
    }

abbrev four : Parameter → Parameter → Parameter → Parameter → Parameters
four a b c d = record { params = record { p0 = a.param; p1 = b.param; p2 = c.param; p3 = d.param }; fills = a.fill + b.fill + c.fill + d.fill }

given_again : (words : List (List ℕ)) (a b c d : Parameter) → Given words (a ∷ b ∷ c ∷ d ∷ []) → parameters_of words ≡ Some (four a b c d)
unfolding parameters_of
given_again [] a b c d h = rw (h.0, h.1.0, h.1.1.0, h.1.1.1.0) refl
given_again (v ∷ []) a b c d h = rw (h.0, h.1.0, h.1.1.0, h.1.1.1.0) refl
given_again (v ∷ w ∷ []) a b c d h = rw (h.0, h.1.0, h.1.1.0, h.1.1.1.0) refl
given_again (v ∷ w ∷ x ∷ []) a b c d h = rw (h.0, h.1.0, h.1.1.0, h.1.1.1.0) refl
given_again (v ∷ w ∷ x ∷ y ∷ []) a b c d h = rw (h.0, h.1.0, h.1.1.0, h.1.1.1.0) refl
given_again (v ∷ w ∷ x ∷ y ∷ z ∷ more) a b c d h = absurd h.1.1.1.1

left_out : (p : Parameter) → Some (plain_parameter Nothing) ≡ Some p → p ≡ plain_parameter Nothing
left_out p e = sym (same_Some (plain_parameter Nothing) p e)

at_each : (words : List (List ℕ)) (a b c d : Parameter) → length words ≤ 4 → parameter_at words 0 ≡ Some a → parameter_at words 1 ≡ Some b → parameter_at words 2 ≡ Some c
    → parameter_at words 3 ≡ Some d → Given words (a ∷ b ∷ c ∷ d ∷ [])
at_each [] a b c d few e f g h = (left_out a e, (left_out b f, (left_out c g, (left_out d h, tt))))
at_each (v ∷ []) a b c d few e f g h = (e, (left_out b f, (left_out c g, (left_out d h, tt))))
at_each (v ∷ w ∷ []) a b c d few e f g h = (e, (f, (left_out c g, (left_out d h, tt))))
at_each (v ∷ w ∷ x ∷ []) a b c d few e f g h = (e, (f, (g, (left_out d h, tt))))
at_each (v ∷ w ∷ x ∷ y ∷ []) a b c d few e f g h = (e, (f, (g, (h, tt))))
at_each (v ∷ w ∷ x ∷ y ∷ z ∷ more) a b c d few e f g h = absurd (omega arith)

given_from : (words : List (List ℕ)) (all : Parameters) → parameters_of words ≡ Some all → (a b c d : Parameter) × Given words (a ∷ b ∷ c ∷ d ∷ []) × (four a b c d ≡ all)
unfolding parameters_of
given_from words all e =
    elim (chosen (ltb 4 (length words)) _ _ _ e) [
      | inl many ↦ absurd (none-some all many.1)
      | inr f ↦
          let a = some_bind (parameter_at words 0) _ all f.1 in
          let b = some_bind (parameter_at words 1) _ all a.2 in
          let c = some_bind (parameter_at words 2) _ all b.2 in
          let d = some_bind (parameter_at words 3) _ all c.2 in
          (a.0, b.0, c.0, d.0, at_each words a.0 b.0 c.0 d.0 (ltb-false 4 (length words) f.0) a.1 b.1 c.1 d.1, same_Some (four a.0 b.0 c.0 d.0) all d.2)
    ]

-- what is read as parameters is their words
pub parameters_read : (words : List (List ℕ)) (all : Parameters) → parameters_of words ≡ Some all → AreParams words (params_of all.params) all.fills
parameters_read words all e =
    let g = given_from words all e in
    let total : fills_of (g.0 ∷ g.1 ∷ g.2 ∷ g.3 ∷ []) ≡ g.0.fill + g.1.fill + g.2.fill + g.3.fill = omega arith in
    subst (λ (q : Parameters). AreParams words (params_of q.params) q.fills) g.5
    (subst (λ (n : ℕ). AreParams words (kinds_of (g.0 ∷ g.1 ∷ g.2 ∷ g.3 ∷ [])) n) total (given_reads words (g.0 ∷ g.1 ∷ g.2 ∷ g.3 ∷ []) g.4))

four_of : (words : List (List ℕ)) (ps : List Parameter) (params : Params) (fills : ℕ) → Given words ps → kinds_of ps ≡ params_of params → fills_of ps ≡ fills
    → parameters_of words ≡ Some (record { params = params; fills = fills })
four_of words [] params fills g k t = absurd cc
four_of words (a ∷ []) params fills g k t = absurd cc
four_of words (a ∷ b ∷ []) params fills g k t = absurd cc
four_of words (a ∷ b ∷ c ∷ []) params fills g k t = absurd cc
four_of words (a ∷ b ∷ c ∷ d ∷ []) params fills g k t =
    let e0 : a.param ≡ params.p0 = cc in
    let e1 : b.param ≡ params.p1 = cc in
    let e2 : c.param ≡ params.p2 = cc in
    let e3 : d.param ≡ params.p3 = cc in
    let total : a.fill + b.fill + c.fill + d.fill ≡ fills = omega arith in
    given_again words a b c d g ∙ (λ i. Some (record { params = record { p0 = e0 i; p1 = e1 i; p2 = e2 i; p3 = e3 i }; fills = total i }))
four_of words (a ∷ b ∷ c ∷ d ∷ e ∷ more) params fills g k t = absurd cc

-- the words of parameters are read as them
pub parameters_again : (words : List (List ℕ)) (params : Params) (fills : ℕ) → AreParams words (params_of params) fills → parameters_of words ≡ Some (record { params = params; fills = fills })
parameters_again words params fills h =
    let r = worded words (params_of params) fills h in
    four_of words r.ps params fills r.given r.kinds r.total
