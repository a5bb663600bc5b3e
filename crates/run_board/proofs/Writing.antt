-- Texts of which a front was appended.
use Rattle.std.proofs.Common.{◌≡◌, ◌<◌, ◌≤◌, ◌+◌, ◌++◌, ℕ, suc, List, [], ◌∷◌, Option, length, drop, drop-cons, drop_of_length-le, get_or, add-one, refl, sym, ◌∙◌, ap, subst, append_assoc, append-nil}
use Rattle.std.specs.Io.KnownBytes.{Appends}
use Rattle.std.proofs.KnownBytes.{Appends-nil, Appends-trans}
use Rattle.tee_base.specs.Transfer.{AppendsFront}
use Rattle.std.specs.List.{flat_map}

-- nothing is a front of any text
pub front_none : (text : List ℕ) (a : Option (List ℕ)) → AppendsFront text a a
front_none text a = ([], text, refl, Appends-nil a)

pub front_whole : (text : List ℕ) (a b : Option (List ℕ)) → Appends a b text → AppendsFront text a b
front_whole text a b h = (text, [], sym (append-nil text), h)

-- what was appended is the front of a text that goes on
pub front_first : (front behind text : List ℕ) (a b : Option (List ℕ)) → front ++ behind ≡ text → Appends a b front → AppendsFront text a b
front_first front behind text a b e h = (front, behind, sym e, h)

-- a text, and then a front of what follows
pub front_after : (one more : List ℕ) (a b c : Option (List ℕ)) → Appends a b one → AppendsFront more b c → AppendsFront (one ++ more) a c
front_after one more a b c h k = (
  one ++ k.0,
  k.1,
  ap (λ zs. one ++ zs) k.2 ∙ sym (append_assoc one k.0 k.1),
  Appends-trans a b c one k.0 h k.3,
)

-- the front of a text is one of the text that goes on
pub front_longer : (text more : List ℕ) (a b : Option (List ℕ)) → AppendsFront text a b → AppendsFront (text ++ more) a b
front_longer text more a b h = (h.0, h.1 ++ more, ap (λ zs. zs ++ more) h.2 ∙ append_assoc h.0 h.1 more, h.3)

-- ---- pieces one after the other, of which some were written

module _ {X : Type 0} (piece_of : X → List ℕ) where
  -- a front of the text was appended, and the pieces from here on are the rest
  abbrev pub WrittenTo : List X → ℕ → Option (List ℕ) → Option (List ℕ) → Type 0
  WrittenTo xs i old new = (front : List ℕ) × (front ++ flat_map piece_of (drop i xs) ≡ flat_map piece_of xs) × Appends old new front

  pieces_split : (xs : List X) (i : ℕ) (x : X) → i < length xs → x ≡ get_or xs i x → flat_map piece_of (drop i xs) ≡ piece_of x ++ flat_map piece_of (drop (i + 1) xs)
  pieces_split xs i x within here =
      ap (flat_map piece_of) (drop-cons xs i x within ∙ ap (λ y. y ∷ drop (suc i) xs) (sym here))
      ∙ ap (λ k. piece_of x ++ flat_map piece_of (drop k xs)) (sym (add-one i))

  pub pieces_further : (xs : List X) (i : ℕ) (x : X) (piece : List ℕ) (a b c : Option (List ℕ)) → i < length xs → x ≡ get_or xs i x → piece ≡ piece_of x → WrittenTo xs i a b →
      Appends b c piece → WrittenTo xs (i + 1) a c
  pieces_further xs i x piece a b c within here line old new =
      let rest = flat_map piece_of (drop (i + 1) xs) in (
        old.0 ++ piece,
        append_assoc old.0 piece rest ∙ ap (λ zs. old.0 ++ (zs ++ rest)) line ∙ ap (λ zs. old.0 ++ zs) (sym (pieces_split xs i x within here)) ∙ old.1,
        Appends-trans a b c old.0 piece old.2 new,
      )

  -- a front of the next piece was appended
  pub pieces_cut : (xs : List X) (i : ℕ) (x : X) (piece : List ℕ) (a b c : Option (List ℕ)) → i < length xs → x ≡ get_or xs i x → piece ≡ piece_of x → WrittenTo xs i a b →
      AppendsFront piece b c → AppendsFront (flat_map piece_of xs) a c
  pieces_cut xs i x piece a b c within here line old new =
      let rest = flat_map piece_of (drop (i + 1) xs) in
      subst (λ zs. AppendsFront zs a c)
      (ap (λ zs. old.0 ++ (zs ++ rest)) line ∙ ap (λ zs. old.0 ++ zs) (sym (pieces_split xs i x within here)) ∙ old.1)
      (front_after old.0 (piece ++ rest) a b c old.2 (front_longer piece rest b c new))

  -- the first pieces were appended, and then no more
  pub pieces_stopped : (xs : List X) (i : ℕ) (a b : Option (List ℕ)) → WrittenTo xs i a b → AppendsFront (flat_map piece_of xs) a b
  pieces_stopped xs i a b so = (so.0, flat_map piece_of (drop i xs), sym so.1, so.2)

  -- all were
  pub pieces_ended : (xs : List X) (i : ℕ) (a b : Option (List ℕ)) → length xs ≤ i → WrittenTo xs i a b → Appends a b (flat_map piece_of xs)
  pieces_ended xs i a b all so =
      subst (Appends a b) (sym (append-nil so.0) ∙ ap (λ (ys : List X). so.0 ++ flat_map piece_of ys) (sym (drop_of_length-le xs all)) ∙ so.1) so.2
