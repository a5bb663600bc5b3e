-- What is sealed of the nodes of a commit, and what is left of them, one node after another.
use Rattle.std.proofs.Common.{◌≡◌, ◌≢◌, ◌≤◌, ◌<◌, ◌+◌, ◌*◌, ◌^◌, ◌==◌, ◌∙◌, if◌then◌else◌, ℕ, suc, true, false, List, [], ◌∷◌}
use Rattle.std.proofs.Common.{Option, None, Some, IsSome, length, refl, sym, ap, subst, ⊎_elim, arith}
use Rattle.std.proofs.lemmas.Bool.{cases_eq, false≢true}
use Rattle.epoch.specs.Header.{IsEntry, entry_at}
use Rattle.epoch.specs.Parts.{with_bytes_at}
use Rattle.epoch.specs.declared.header.TreeEntry.{TreeEntry}
use Rattle.tree_commits.specs.declared.touched.Node.{Node}
use Rattle.tree_commits.specs.Sealed.{AreSealed, IsSealedFor, entry_by}
use Rattle.tree_paths.specs.Shape.{IsShape, Shape}
use Rattle.tree_commits.specs.Touched.{AreOrdered, all_with_bytes, fresh_of}
use Rattle.epoch.proofs.EntryLemmas.{entry_here}
use Rattle.tree_commits.proofs.TouchedLemmas.{entries_other, fresh_head, fresh_tail, long_of, put_here, put_other, some_kept}
use Rattle.tree_commits.proofs.StartLemmas.{or_else}

-- of the first nodes these are left, and the others are sealed, in bytes that hold their entries
pub record AreSealing (s : Shape) (depth : ℕ) (key : List ℕ) (sequence : ℕ) (first left : List Node) : Type 0 where
  pub texts : ℕ → List ℕ
  pub agree : (p : ℕ) (t : List ℕ) → fresh_of left p ≡ Some t → texts p ≡ t
  pub inside : (p : ℕ) → IsSome (fresh_of left p) → IsSome (fresh_of first p)
  pub sealed : (q : ℕ) → IsSome (fresh_of first q) → fresh_of left q ≡ None
      → (0 < q) × IsSealedFor key q sequence (texts q) (entry_at (64 * s.slot q) (texts (s.parent q)))
  pub leaves : (p : ℕ) (t : List ℕ) → s.level p ≡ depth → fresh_of first p ≡ Some t → texts p ≡ t
  pub others : (p i : ℕ) (t : List ℕ) → fresh_of first p ≡ Some t → ((q : ℕ) → 0 < q → s.parent q ≡ p → s.slot q ≡ i → fresh_of first q ≡ None)
      → entry_at (64 * i) (texts p) ≡ entry_at (64 * i) t

not_both : (o : Option (List ℕ)) → IsSome o → o ≡ None → ⊥
not_both o has none = false≢true (subst (λ (p : Option (List ℕ)). IsSome p) none has)

-- at first all are left
pub sealing_start : (s : Shape) (depth : ℕ) (key : List ℕ) (sequence : ℕ) (nodes : List Node) → AreSealing s depth key sequence nodes nodes
sealing_start s depth key sequence nodes =
    let text : (p : ℕ) (t : List ℕ) → fresh_of nodes p ≡ Some t → or_else (fresh_of nodes p) [] ≡ t = λ p t is. ap (λ (o : Option (List ℕ)). or_else o []) is in
    record {
      texts = λ p. or_else (fresh_of nodes p) [];
      agree = text;
      inside = λ p has. has;
      sealed = λ q has none. absurd (not_both (fresh_of nodes q) has none);
      leaves = λ p t at is. text p t is;
      others = λ p i t is none. ap (entry_at (64 * i)) (text p t is);
    }

value : (o : Option (List ℕ)) → IsSome o → (t : List ℕ) × (o ≡ Some t)
value None has = absurd (false≢true has)
value (Some t) has = (t, refl)

-- the bytes of a place once some are put there
abbrev put_text : ℕ → ℕ → List ℕ → (ℕ → List ℕ) → ℕ → List ℕ
put_text place at bytes texts r = if r == place then with_bytes_at at bytes (texts r) else texts r

text_here : (place at : ℕ) (bytes : List ℕ) (texts : ℕ → List ℕ) → put_text place at bytes texts place ≡ with_bytes_at at bytes (texts place)
text_here place at bytes texts = let t : (place == place) ≡ true = grind arith in rw t refl

text_other : (place at : ℕ) (bytes : List ℕ) (texts : ℕ → List ℕ) (r : ℕ) → r ≢ place → put_text place at bytes texts r ≡ texts r
text_other place at bytes texts r ne = let t : (r == place) ≡ false = grind arith in rw t refl

module _ (s : Shape) (is : IsShape s) (depth : ℕ) (key : List ℕ) (sequence : ℕ) (first : List Node) (node next : Node) (nodes : List Node) (e : TreeEntry) (bytes : List ℕ)
    (ordered : AreOrdered s (node ∷ next ∷ nodes)) (deep : s.level node.place ≤ depth) (entry : IsEntry e bytes) (copy : e.copy < 2 ^ 64) (small : e.sequence < 2 ^ 64)
    (made : IsSealedFor key node.place sequence node.bytes e) (inv : AreSealing s depth key sequence first (node ∷ next ∷ nodes)) where
  abbrev above_place : ℕ
  above_place = s.parent node.place

  abbrev at_byte : ℕ
  at_byte = 64 * s.slot node.place

  abbrev left : List Node
  left = all_with_bytes (s.parent node.place) (64 * s.slot node.place) bytes (next ∷ nodes)

  abbrev texts' : ℕ → List ℕ
  texts' = put_text (s.parent node.place) (64 * s.slot node.place) bytes inv.texts

  apart : node.place ≢ s.parent node.place
  apart = λ same. absurd (let b : s.parent node.place < node.place = is.before node.place ordered.0 in omega arith)

  there : (t : List ℕ) × (fresh_of (next ∷ nodes) (s.parent node.place) ≡ Some t)
  there = value (fresh_of (next ∷ nodes) (s.parent node.place)) ordered.4

  text_above : inv.texts (s.parent node.place) ≡ there.0
  text_above = inv.agree (s.parent node.place) there.0 (fresh_tail node (next ∷ nodes) (s.parent node.place) apart ∙ there.1)

  long_above : length (inv.texts (s.parent node.place)) ≡ 1024
  long_above = ap length text_above ∙ long_of s (next ∷ nodes) (s.parent node.place) there.0 ordered.5 there.1

  fits : 64 * s.slot node.place + 64 ≤ 1024
  fits = let b : s.slot node.place < 16 = is.fits node.place ordered.0 in omega arith

  -- another entry stays
  other_stays : (p i : ℕ) → (p ≡ s.parent node.place → i ≢ s.slot node.place) → entry_at (64 * i) (texts' p) ≡ entry_at (64 * i) (inv.texts p)
  other_stays p i ne =
      ⊎_elim
      (λ (same : p ≡ s.parent node.place).
      ap (λ (r : ℕ). entry_at (64 * i) (texts' r)) same
      ∙ ap (entry_at (64 * i)) (text_here (s.parent node.place) (64 * s.slot node.place) bytes inv.texts)
      ∙ entries_other i (s.slot node.place) bytes (inv.texts (s.parent node.place)) (with_bytes_at (64 * s.slot node.place) bytes (inv.texts (s.parent node.place))) entry.long
      (omega (arith, fits, long_above)) (ne same) refl
      ∙ ap (λ (r : ℕ). entry_at (64 * i) (inv.texts r)) (sym same))
      (λ (other : p ≢ s.parent node.place). ap (entry_at (64 * i)) (text_other (s.parent node.place) (64 * s.slot node.place) bytes inv.texts p other))
      (cases_eq p (s.parent node.place))

  -- and so that of another place
  entry_stays : (q : ℕ) → 0 < q → q ≢ node.place → entry_at (64 * s.slot q) (texts' (s.parent q)) ≡ entry_at (64 * s.slot q) (inv.texts (s.parent q))
  entry_stays q positive ne = other_stays (s.parent q) (s.slot q) (λ same both. ne (is.apart q node.place positive ordered.0 same both))

  entry_put : entry_at (64 * s.slot node.place) (texts' (s.parent node.place)) ≡ e
  entry_put =
      ap (entry_at (64 * s.slot node.place)) (text_here (s.parent node.place) (64 * s.slot node.place) bytes inv.texts)
      ∙ entry_here (64 * s.slot node.place) e bytes (inv.texts (s.parent node.place)) (with_bytes_at (64 * s.slot node.place) bytes (inv.texts (s.parent node.place))) entry
      (omega (arith, fits, long_above)) refl copy small

  agree' : (p : ℕ) (t : List ℕ) → fresh_of left p ≡ Some t → texts' p ≡ t
  agree' p t has =
      ⊎_elim
      (λ (same : p ≡ s.parent node.place).
      (let put : fresh_of left (s.parent node.place) ≡ Some (with_bytes_at (64 * s.slot node.place) bytes there.0)
      = put_here (s.parent node.place) (64 * s.slot node.place) bytes (next ∷ nodes) there.0 there.1 in
      let both : Some (with_bytes_at (64 * s.slot node.place) bytes there.0) ≡ Some t = sym put ∙ ap (fresh_of left) (sym same) ∙ has in
      let text : with_bytes_at (64 * s.slot node.place) bytes there.0 ≡ t = cc in
      ap texts' same ∙ text_here (s.parent node.place) (64 * s.slot node.place) bytes inv.texts ∙ ap (with_bytes_at (64 * s.slot node.place) bytes) text_above ∙ text))
      (λ (ne : p ≢ s.parent node.place).
      let rest : fresh_of (next ∷ nodes) p ≡ Some t = sym (put_other (s.parent node.place) (64 * s.slot node.place) bytes p ne (next ∷ nodes)) ∙ has in
      let other : node.place ≢ p = λ same. not_both (fresh_of (next ∷ nodes) p) (subst (λ (o : Option (List ℕ)). IsSome o) (sym rest) refl) (ap (fresh_of (next ∷ nodes)) (sym same) ∙ ordered.3) in
      text_other (s.parent node.place) (64 * s.slot node.place) bytes inv.texts p ne ∙ inv.agree p t (fresh_tail node (next ∷ nodes) p other ∙ rest))
      (cases_eq p (s.parent node.place))

  -- what is left was left before
  was_left : (p : ℕ) → IsSome (fresh_of left p) → IsSome (fresh_of (node ∷ next ∷ nodes) p)
  was_left p has =
      ⊎_elim
      (λ (same : node.place ≡ p). subst (λ (o : Option (List ℕ)). IsSome o) (sym (fresh_head node (next ∷ nodes) p same)) refl)
      (λ (other : node.place ≢ p).
      ⊎_elim
      (λ (here : p ≡ s.parent node.place). subst (λ (o : Option (List ℕ)). IsSome o) (sym (fresh_tail node (next ∷ nodes) p other))
      (subst (λ (r : ℕ). IsSome (fresh_of (next ∷ nodes) r)) (sym here) ordered.4))
      (λ (ne : p ≢ s.parent node.place). subst (λ (o : Option (List ℕ)). IsSome o)
      (put_other (s.parent node.place) (64 * s.slot node.place) bytes p ne (next ∷ nodes) ∙ sym (fresh_tail node (next ∷ nodes) p other)) has)
      (cases_eq p (s.parent node.place)))
      (cases_eq node.place p)

  -- what isn't left is the node, or wasn't left before
  gone : (q : ℕ) → fresh_of left q ≡ None → q ≢ node.place → (fresh_of (node ∷ next ∷ nodes) q ≡ None) × (q ≢ s.parent node.place)
  gone q none ne =
      let up : q ≢ s.parent node.place = λ same. not_both (fresh_of left q)
      (subst (λ (r : ℕ). IsSome (fresh_of left r)) (sym same) (some_kept (s.parent node.place) (64 * s.slot node.place) bytes (s.parent node.place) (next ∷ nodes) ordered.4)) none in
      (fresh_tail node (next ∷ nodes) q (λ same. ne (sym same)) ∙ sym (put_other (s.parent node.place) (64 * s.slot node.place) bytes q up (next ∷ nodes)) ∙ none, up)

  sealed' : (q : ℕ) → IsSome (fresh_of first q) → fresh_of left q ≡ None → (0 < q) × IsSealedFor key q sequence (texts' q) (entry_at (64 * s.slot q) (texts' (s.parent q)))
  sealed' q has none =
      ⊎_elim
      (λ (same : q ≡ node.place).
      subst (λ (r : ℕ). (0 < r) × IsSealedFor key r sequence (texts' r) (entry_at (64 * s.slot r) (texts' (s.parent r)))) (sym same)
      (let text : texts' node.place ≡ node.bytes = text_other (s.parent node.place) (64 * s.slot node.place) bytes inv.texts node.place apart
      ∙ inv.agree node.place node.bytes (fresh_head node (next ∷ nodes) node.place refl) in (
        ordered.0,
        subst (λ (x : TreeEntry). IsSealedFor key node.place sequence (texts' node.place) x) (sym entry_put)
            (subst (λ (t : List ℕ). IsSealedFor key node.place sequence t e) (sym text) made),
      )))
      (λ (ne : q ≢ node.place).
      let away = gone q none ne in
      let was = inv.sealed q has away.0 in (
        was.0,
        subst (λ (x : TreeEntry). IsSealedFor key q sequence (texts' q) x) (sym (entry_stays q was.0 ne))
            (subst (λ (t : List ℕ). IsSealedFor key q sequence t (entry_at (64 * s.slot q) (inv.texts (s.parent q))))
            (sym (text_other (s.parent node.place) (64 * s.slot node.place) bytes inv.texts q away.1)) was.1),
      ))
      (cases_eq q node.place)

  -- one node more is sealed
  pub sealing_step : AreSealing s depth key sequence first left
  sealing_step = record {
    texts = texts';
    agree = agree';
    inside = λ p has. inv.inside p (was_left p has);
    sealed = sealed';
    leaves = λ p t at has.
        (let ne : p ≢ s.parent node.place = λ same. absurd (
        let up : s.level node.place ≡ suc (s.level (s.parent node.place)) = is.below node.place ordered.0 ordered.2 in
        let level : s.level p ≡ s.level (s.parent node.place) = ap s.level same in
        omega arith
        ) in
        text_other (s.parent node.place) (64 * s.slot node.place) bytes inv.texts p ne ∙ inv.leaves p t at has);
    others = λ p i t has none.
        (let free : p ≡ s.parent node.place → i ≢ s.slot node.place = λ same both. not_both (fresh_of first node.place)
        (inv.inside node.place (subst (λ (o : Option (List ℕ)). IsSome o) (sym (fresh_head node (next ∷ nodes) node.place refl)) refl))
        (none node.place ordered.0 (sym same) (sym both)) in
        other_stays p i free ∙ inv.others p i t has none);
  }

-- the same of a list of which it isn't known how long it is
pub sealing_more : (s : Shape) (is : IsShape s) (depth : ℕ) (key : List ℕ) (sequence : ℕ) (first : List Node) (node : Node) (rest : List Node) (e : TreeEntry) (bytes : List ℕ)
    → AreOrdered s (node ∷ rest) → node.place ≢ 0 → s.level node.place ≤ depth → IsEntry e bytes → e.copy < 2 ^ 64 → e.sequence < 2 ^ 64
    → IsSealedFor key node.place sequence node.bytes e → AreSealing s depth key sequence first (node ∷ rest)
    → AreSealing s depth key sequence first (all_with_bytes (s.parent node.place) (64 * s.slot node.place) bytes rest)
sealing_more s is depth key sequence first node [] e bytes ordered ne deep entry copy small made inv = absurd (ne ordered.0)
sealing_more s is depth key sequence first node (next ∷ nodes) e bytes ordered ne deep entry copy small made inv =
    sealing_step s is depth key sequence first node next nodes e bytes ordered deep entry copy small made inv

-- and the root, which is the last
pub sealing_end : (s : Shape) (depth : ℕ) (key : List ℕ) (sequence : ℕ) (first : List Node) (node : Node) (e : TreeEntry) → node.place ≡ 0
    → IsSealedFor key node.place sequence node.bytes e → AreSealing s depth key sequence first (node ∷ []) → AreSealed s depth key sequence first e
sealing_end s depth key sequence first node e top made inv = record {
  texts = inv.texts;
  sealed = λ p has.
      ⊎_elim
      (λ (same : p ≡ 0).
      subst (λ (r : ℕ). IsSealedFor key r sequence (inv.texts r) (entry_by s inv.texts e r)) (sym same)
      (let text : inv.texts 0 ≡ node.bytes = inv.agree 0 node.bytes (fresh_head node [] 0 top) in
      subst (λ (t : List ℕ). IsSealedFor key 0 sequence t e) (sym text) (subst (λ (r : ℕ). IsSealedFor key r sequence node.bytes e) top made)))
      (λ (ne : p ≢ 0).
      let test : (p == 0) ≡ false = grind arith in
      let was = inv.sealed p has (fresh_tail node [] p (λ same. ne (sym same ∙ top))) in
      rw test was.1)
      (cases_eq p 0);
  leaves = inv.leaves;
  others = inv.others;
}
