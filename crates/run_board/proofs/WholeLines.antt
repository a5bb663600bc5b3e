-- The whole lines of a text, and those of a front of it.
use Rattle.std.proofs.Common.{◌≡◌, ◌-◌, ◌⊎◌, inl, inr, ℕ, List, [], ◌∷◌, ◌++◌, false, eqb, length, take, refl, sym, ap, subst, ◌∙◌, append_assoc, append-nil, length-append, arith}
use Rattle.std.specs.Prelude.{codes}
use Rattle.std.specs.List.{AllByRecursion, flat_map, slice_split}
use Rattle.std.proofs.Math.Seq.{take-append_seam}
use Rattle.script.proofs.Cuts.{Lacks, cut_at, cut_none}
use Rattle.run_board.specs.BoardLines.{whole_lines}

-- lines, a line feed behind each
abbrev pub fed : List (List ℕ) → List ℕ
fed lines = flat_map (λ line. line ++ codes "\n") lines

-- ---- lists

-- what holds of each element of two lists together holds in each of them
pub all_parts : {X : Type 0} (P : X → Type 0) (xs ys : List X) → AllByRecursion P (xs ++ ys) → AllByRecursion P xs × AllByRecursion P ys
all_parts P [] ys h = (tt, h)
all_parts P (x ∷ xs) ys h = let parts = all_parts P xs ys h.1 in ((h.0, parts.0), parts.1)

-- two halves of one list: the first one of the left pair ends within that of the right pair, or goes on behind it
two_cuts : (xs ys text rest : List ℕ) → xs ++ ys ≡ text ++ rest → ((left : List ℕ) × (xs ≡ text ++ left)) ⊎ ((more : List ℕ) × (text ≡ xs ++ more) × (ys ≡ more ++ rest))
two_cuts [] ys text rest e = inr (text, refl, e)
two_cuts (x ∷ xs) ys [] rest e = inl (x ∷ xs, refl)
two_cuts (x ∷ xs) ys (c ∷ text) rest e =
    let both : x ∷ (xs ++ ys) ≡ c ∷ (text ++ rest) = e in
    let head : x ≡ c = cc in
    let tails : xs ++ ys ≡ text ++ rest = cc in
    elim (two_cuts xs ys text rest tails) [
      | inl h ↦ inl (h.0, ap (λ (zs : List ℕ). x ∷ zs) h.1 ∙ ap (λ (b : ℕ). b ∷ (text ++ h.0)) head)
      | inr h ↦ inr (h.0, ap (λ (zs : List ℕ). c ∷ zs) h.1 ∙ ap (λ (b : ℕ). b ∷ (xs ++ h.0)) (sym head), h.2)
    ]

-- ---- the whole lines of a text

regroup : (line more tail : List ℕ) → ((line ++ codes "\n") ++ more) ++ tail ≡ line ++ 10 ∷ (more ++ tail)
regroup line more tail = simp append_assoc

-- cut at its line feeds, it is its lines, and then what stands behind the last line feed
parts_are : (lines : List (List ℕ)) (tail : List ℕ) → AllByRecursion (Lacks 10) lines → Lacks 10 tail → slice_split (λ c. eqb c 10) (fed lines ++ tail) ≡ lines ++ tail ∷ []
parts_are [] tail h k = cut_none 10 tail k
parts_are (line ∷ lines) tail h k =
    ap (slice_split (λ c. eqb c 10)) (regroup line (fed lines) tail)
    ∙ cut_at 10 line (fed lines ++ tail) h.0
    ∙ ap (λ (parts : List (List ℕ)). line ∷ parts) (parts_are lines tail h.1 k)

all_but_last : (lines : List (List ℕ)) (tail : List ℕ) → take (length (lines ++ tail ∷ []) - 1) (lines ++ tail ∷ []) ≡ lines
all_but_last lines tail =
    let many : length (lines ++ tail ∷ []) - 1 ≡ length lines = omega (arith, length-append lines (tail ∷ [])) in
    ap (λ (n : ℕ). take n (lines ++ tail ∷ [])) many ∙ take-append_seam lines (tail ∷ [])

-- lines are the whole lines of their text, and of one that goes on within a line
pub whole_lines_are : (lines : List (List ℕ)) (tail : List ℕ) → AllByRecursion (Lacks 10) lines → Lacks 10 tail → whole_lines (fed lines ++ tail) ≡ lines
whole_lines_are lines tail h k = ap (λ (parts : List (List ℕ)). take (length parts - 1) parts) (parts_are lines tail h k) ∙ all_but_last lines tail

pub all_whole : (lines : List (List ℕ)) → AllByRecursion (Lacks 10) lines → whole_lines (fed lines) ≡ lines
all_whole lines h = ap whole_lines (sym (append-nil (fed lines))) ∙ whole_lines_are lines [] h tt

-- ---- a front of a text

-- a front of the text of lines: the first of them, and a front of the next one
pub record IsFrontOf (lines : List (List ℕ)) (text : List ℕ) : Type 0 where
  pub first : List (List ℕ)
  pub more : List (List ℕ)
  pub all : lines ≡ first ++ more
  pub tail : List ℕ
  pub within : Lacks 10 tail
  pub here : text ≡ fed first ++ tail

none_whole : (lines : List (List ℕ)) (text : List ℕ) → Lacks 10 text → IsFrontOf lines text
none_whole lines text h = record { first = []; more = lines; all = refl; tail = text; within = h; here = refl }

-- the first line is whole, or the text ends before its line feed
front_behind : (line : List ℕ) (lines : List (List ℕ)) (text rest more : List ℕ) → Lacks 10 line → text ≡ line ++ more → 10 ∷ fed lines ≡ more ++ rest
    → ((next : List ℕ) → fed lines ≡ next ++ rest → IsFrontOf lines next) → IsFrontOf (line ∷ lines) text
front_behind line lines text rest [] h is e go_on = none_whole (line ∷ lines) text (subst (Lacks 10) (sym (is ∙ append-nil line)) h)
front_behind line lines text rest (c ∷ more) h is e go_on =
    let both : 10 ∷ fed lines ≡ c ∷ (more ++ rest) = e in
    let feed : c ≡ 10 = cc in
    let front = go_on more (let tails : fed lines ≡ more ++ rest = cc in tails) in
    record {
      first = line ∷ front.first;
      more = front.more;
      all = ap (λ (ls : List (List ℕ)). line ∷ ls) front.all;
      tail = front.tail;
      within = front.within;
      here = is ∙ ap (λ (b : ℕ). line ++ b ∷ more) feed ∙ ap (λ (zs : List ℕ). line ++ 10 ∷ zs) front.here ∙ sym (regroup line (fed front.first) front.tail);
    }

pub front_of : (lines : List (List ℕ)) (text rest : List ℕ) → AllByRecursion (Lacks 10) lines → fed lines ≡ text ++ rest → IsFrontOf lines text
front_of [] [] rest h e = none_whole [] [] tt
front_of [] (c ∷ text) rest h e = absurd (let none : [] ≡ c ∷ (text ++ rest) = e in cc)
front_of (line ∷ lines) text rest h e =
    elim (two_cuts line (10 ∷ fed lines) text rest (sym (append_assoc line (codes "\n") (fed lines)) ∙ e)) [
      | inl k ↦ none_whole (line ∷ lines) text (all_parts (λ c. eqb c 10 ≡ false) text k.0 (subst (Lacks 10) k.1 h.0)).0
      | inr k ↦ front_behind line lines text rest k.0 h.0 k.1 k.2 (λ next same. front_of lines next rest h.1 same)
    ]
