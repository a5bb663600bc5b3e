-- A text that is cut at a byte, and parts that are put together round it.
use Rattle.std.proofs.Common.{◌≡◌, ℕ, Bool, true, false, cond, eqb, List, [], ◌∷◌, ◌++◌, refl, sym, ap, ◌∙◌}
use Rattle.std.specs.List.{AllByRecursion, slice_split, onto_first, join_with_byte}
use Rattle.std.proofs.lemmas.Bool.{eq-eqb}
use Rattle.std.proofs.lemmas.List.{append-nil}
use Rattle.std.proofs.lemmas.List.Elements.{All-from_recursion}
use Rattle.std.proofs.lemmas.List.Splits.{slice_split_at, slice_split_none}

-- the byte isn't in the text
abbrev pub Lacks : ℕ → List ℕ → Type 0
Lacks b xs = AllByRecursion (λ c. eqb c b ≡ false) xs

-- what holds of each element of two lists
pub all_append : {X : Type 0} (P : X → Type 0) (xs ys : List X) → AllByRecursion P xs → AllByRecursion P ys → AllByRecursion P (xs ++ ys)
all_append P [] ys h k = k
all_append P (x ∷ xs) ys h k = (h.0, all_append P xs ys h.1 k)

pub all_weaker : {X : Type 0} (P Q : X → Type 0) → ((x : X) → P x → Q x) → (xs : List X) → AllByRecursion P xs → AllByRecursion Q xs
all_weaker P Q f [] h = tt
all_weaker P Q f (x ∷ xs) h = (f x h.0, all_weaker P Q f xs h.1)

pub cut_at : (b : ℕ) (xs ys : List ℕ) → Lacks b xs → slice_split (λ c. eqb c b) (xs ++ b ∷ ys) ≡ xs ∷ slice_split (λ c. eqb c b) ys
cut_at b xs ys h = slice_split_at (λ c. eqb c b) xs b ys (All-from_recursion (λ c. eqb c b ≡ false) xs h) (eq-eqb b b refl)

pub cut_none : (b : ℕ) (xs : List ℕ) → Lacks b xs → slice_split (λ c. eqb c b) xs ≡ xs ∷ []
cut_none b xs h = slice_split_none (λ c. eqb c b) xs (All-from_recursion (λ c. eqb c b ≡ false) xs h)

-- parts, each behind the byte
abbrev pub joined : ℕ → List (List ℕ) → List ℕ
joined b [] = []
joined b (part ∷ parts) = b ∷ (part ++ joined b parts)

pub join_is : (b : ℕ) (x : List ℕ) (parts : List (List ℕ)) → join_with_byte b (x ∷ parts) ≡ x ++ joined b parts
join_is b x [] = sym (append-nil x)
join_is b x (part ∷ parts) = ap (λ (t : List ℕ). x ++ b ∷ t) (join_is b part parts)

pub cut_joined : (b : ℕ) (x : List ℕ) (parts : List (List ℕ)) → Lacks b x → AllByRecursion (Lacks b) parts → slice_split (λ c. eqb c b) (x ++ joined b parts) ≡ x ∷ parts
cut_joined b x [] h k = ap (slice_split (λ c. eqb c b)) (append-nil x) ∙ cut_none b x h
cut_joined b x (part ∷ parts) h k = cut_at b x (part ++ joined b parts) h ∙ ap (λ (ps : List (List ℕ)). x ∷ ps) (cut_joined b part parts k.0 k.1)

one_more : (b x : ℕ) (t : Bool) (parts : List (List ℕ)) → eqb x b ≡ t → AllByRecursion (Lacks b) parts → AllByRecursion (Lacks b) (cond t ([] ∷ parts) (onto_first x parts))
one_more b x true parts e h = (tt, h)
one_more b x false [] e h = ((e, tt), tt)
one_more b x false (part ∷ parts) e h = ((e, h.0), h.1)

-- the byte is in no part
pub parts_lack : (b : ℕ) (xs : List ℕ) → AllByRecursion (Lacks b) (slice_split (λ c. eqb c b) xs)
parts_lack b [] = (tt, tt)
parts_lack b (x ∷ xs) = one_more b x (eqb x b) (slice_split (λ c. eqb c b) xs) refl (parts_lack b xs)
