-- One node more among those that are gathered.
use Rattle.std.proofs.Common.{nat_lt, drop, ◌≡◌, ◌≢◌, ◌≤◌, ◌<◌, ◌+◌, ◌*◌, ◌==◌, ◌∙◌, if◌then◌else◌, ℕ, zero, suc, Bool, true, false, List, [], ◌∷◌}
use Rattle.std.proofs.Common.{◌++◌, Option, None, Some, Result, Ok, Err, OnOk, IsSome, length, take, get_or, refl, sym, ap, subst}
use Rattle.std.proofs.Common.{⊎_elim, arith}
use Rattle.std.specs.List.{list_all}
use Rattle.std.proofs.lemmas.Bool.Decides.{nat_tests}
use Rattle.epoch.proofs.CommitLemmas.{first_true, second_true}
use Rattle.store_api.specs.Ascending.{is_ascending}
use Rattle.store_api.specs.declared.leaves.Leaf.{Leaf}
use Rattle.tree_paths.specs.Shapes.{level_four}
use Rattle.std.specs.Prelude.{is_some, option_map, reverse}
use Rattle.std.proofs.lemmas.Bool.{cases_eq, false≢true}
use Rattle.std.proofs.lemmas.List.{drop_all, reverse-append, take_more}
use Rattle.store_api.specs.declared.answer.Mismatch.{Mismatch}
use Rattle.store_api.specs.declared.leaves.LeafAnswer.{LeafAnswer}
use Rattle.store_api.specs.declared.leaves.LeafAnswer.TheVariants as answers
use Rattle.store_api.specs.Volumes.{IfMismatch, ShowsLeaf}
use Rattle.epoch.specs.Header.{entry_at}
use Rattle.epoch.specs.declared.header.TreeEntry.{TreeEntry}
use Rattle.tree_commits.specs.declared.touched.Node.{Node}
use Rattle.tree_commits.specs.Gather.{AreGathered, AreInUse, AreTrue, IsPushed, leaf_among}
use Rattle.tree_paths.specs.Shape.{IsShape, Shape, shape}
use Rattle.tree_commits.specs.Touched.{AreOrdered, fresh_of}
use Rattle.epoch.specs.Copies.{first_damage}
use Rattle.tree_paths.specs.Tree.{Look, damage_at, damage_below, damage_of, entry_below, entry_of, text_of}
use Rattle.tree_paths.proofs.ReadLemmas.{damage_split}
use Rattle.tree_commits.proofs.TouchedLemmas.{fresh_head, fresh_tail}
use Rattle.tree_paths.specs.Ways.{above, is_root}

-- one test before or behind the look at an entry
either_way : (at : ℕ) (b : Bool) (bytes : List ℕ) (o : Option (List ℕ)) → (if b then Some (entry_at at bytes) else option_map (entry_at at) o) ≡ option_map (entry_at at) (if b then Some bytes else o)
either_way at true bytes o = refl
either_way at false bytes o = refl

-- the nodes so far, one more
pub newer_step : (items : List Node) (i place slot : ℕ) (found result : Option TreeEntry) (node d : Node) → i < length items → node ≡ get_or items i d
    → found ≡ option_map (entry_at (64 * slot)) (fresh_of (reverse (take i items)) place)
    → result ≡ (if node.place == place then Some (entry_at (64 * slot) node.bytes) else found)
    → result ≡ option_map (entry_at (64 * slot)) (fresh_of (reverse (take (i + 1) items)) place)
newer_step items i place slot found result node d within is so_far step =
    let more : reverse (take (i + 1) items) ≡ node ∷ reverse (take i items)
    = ap reverse (take_more items i d within ∙ ap (λ (n : Node). take i items ++ n ∷ []) (sym is)) ∙ reverse-append (take i items) (node ∷ []) in
    step ∙ ap (λ (o : Option TreeEntry). if node.place == place then Some (entry_at (64 * slot) node.bytes) else o) so_far
    ∙ either_way (64 * slot) (node.place == place) node.bytes (fresh_of (reverse (take i items)) place)
    ∙ ap (λ (l : List Node). option_map (entry_at (64 * slot)) (fresh_of l place)) (sym more)

-- what is there, by a test
pub there : (o : Option (List ℕ)) → is_some o ≡ true → IsSome o
there o is = is

pub absent : (o : Option (List ℕ)) → is_some o ≡ false → o ≡ None
absent None is = refl
absent (Some t) is = absurd (false≢true (sym is))

bytes_of : (o : Option (List ℕ)) → IsSome o → (t : List ℕ) × (o ≡ Some t)
bytes_of None has = absurd (false≢true has)
bytes_of (Some t) has = (t, refl)

pub mapped : (f : List ℕ → TreeEntry) (o : Option (List ℕ)) → IsSome o → IsSome (option_map f o)
mapped f None has = absurd (false≢true has)
mapped f (Some t) has = refl

-- the node of the root is among them, where there are any
root_there : (s : Shape) (nodes : List Node) → AreOrdered s nodes → IsSome (fresh_of nodes 0)
root_there s [] are = absurd are
root_there s (node ∷ []) are = subst (λ (o : Option (List ℕ)). IsSome o) (sym (fresh_head node [] 0 are.0)) refl
root_there s (node ∷ next ∷ nodes) are =
    subst (λ (o : Option (List ℕ)). IsSome o) (sym (fresh_tail node (next ∷ nodes) 0 (λ e. absurd (let b : 0 < node.place = are.0 in omega arith)))) (root_there s (next ∷ nodes) are.5)

module _ (place copy : ℕ) (old new : List Node) (pushed : IsPushed place copy old new) where
  abbrev node_of : Node
  node_of = record { place = place; copy = copy; bytes = pushed.bytes }

  pub pushed_here : fresh_of new place ≡ Some pushed.bytes
  pushed_here = ap (λ (l : List Node). fresh_of l place) pushed.is ∙ fresh_head node_of old place refl

  pub pushed_there : IsSome (fresh_of new place)
  pushed_there = subst (λ (o : Option (List ℕ)). IsSome o) (sym pushed_here) refl

  pub pushed_other : (q : ℕ) → q ≢ place → fresh_of new q ≡ fresh_of old q
  pushed_other q ne = ap (λ (l : List Node). fresh_of l q) pushed.is ∙ fresh_tail node_of old q (λ e. ne (sym e))

  -- the root goes first
  pub root_pushed : (s : Shape) → AreGathered s old → place ≡ 0 → fresh_of old place ≡ None → AreGathered s new
  root_pushed s gathered top none = alone old pushed.is gathered none where
    alone : (l : List Node) → new ≡ node_of ∷ l → AreGathered s l → fresh_of l place ≡ None → AreGathered s new
    alone [] is gathered none = subst (AreGathered s) (sym is) (top, pushed.long)
    alone (node ∷ nodes) is gathered none =
        absurd (false≢true (subst (λ (o : Option (List ℕ)). IsSome o) (ap (fresh_of (node ∷ nodes)) (sym top) ∙ none) (root_there s (node ∷ nodes) gathered)))

  -- and each other place behind the one that it is an entry of
  pub order_pushed : (s : Shape) → AreGathered s old → 0 < place → place < s.places → fresh_of old place ≡ None → IsSome (fresh_of old (s.parent place)) → AreGathered s new
  order_pushed s gathered positive inside none has = behind old pushed.is gathered none has where
    behind : (l : List Node) → new ≡ node_of ∷ l → AreGathered s l → fresh_of l place ≡ None → IsSome (fresh_of l (s.parent place)) → AreGathered s new
    behind [] is gathered none has = absurd (false≢true has)
    behind (node ∷ nodes) is gathered none has = subst (AreGathered s) (sym is) (positive, pushed.long, inside, none, has, gathered)

  -- they are true still
  pub true_pushed : (s : Shape) (look : Look) (root : TreeEntry) (depth : ℕ) (e : TreeEntry) → AreTrue s look root depth old → copy ≡ e.copy → e ≡ entry_of s look root place
      → fresh_of new place ≡ Some (look place e).text → damage_of s look root place ≡ None → AreTrue s look root depth new
  true_pushed s look root depth e are copies is text none = record {
    text = λ p t inside low has.
        ⊎_elim
        (λ (same : p ≡ place).
        (let both : Some (look place e).text ≡ Some t = sym text ∙ ap (fresh_of new) (sym same) ∙ has in
        let here : (look place e).text ≡ t = cc in
        sym here ∙ ap (λ (x : TreeEntry). (look place x).text) is ∙ ap (text_of s look root) (sym same)))
        (λ (ne : p ≢ place). are.text p t inside low (sym (pushed_other p ne) ∙ has))
        (cases_eq p place);
    sound = λ p t inside low has.
        ⊎_elim
        (λ (same : p ≡ place). ap (damage_of s look root) same ∙ none)
        (λ (ne : p ≢ place). are.sound p t inside low (sym (pushed_other p ne) ∙ has))
        (cases_eq p place);
    copies = subst (AreInUse s look root) (sym pushed.is) (copies ∙ ap (λ (x : TreeEntry). x.copy) is, are.copies);
  }

-- the entry of a place, by the bytes of the node above
pub entry_under : (s : Shape) (is : IsShape s) (look : Look) (root : TreeEntry) (depth level place above slot : ℕ) (nodes : List Node) (e : TreeEntry) → AreTrue s look root depth nodes
    → place < s.places → s.level place ≡ suc level → suc level ≤ depth → above ≡ s.parent place → slot ≡ s.slot place → IsSome (fresh_of nodes above)
    → ((bytes : List ℕ) → fresh_of nodes above ≡ Some bytes → e ≡ entry_at (64 * slot) bytes) → e ≡ entry_of s look root place
unfolding entry_below
entry_under s is look root depth level place above_place slot nodes e are inside at low up of_slot has read =
    let parent = above s is level place inside at in
    let here = bytes_of (fresh_of nodes above_place) has in
    let inside_up : above_place < s.places = subst (λ (q : ℕ). q < s.places) (sym up) parent.1 in
    let level_up : s.level above_place ≡ level = ap s.level up ∙ parent.0 in
    let text : here.0 ≡ text_of s look root above_place = are.text above_place here.0 inside_up (omega arith) here.1 in
    read here.0 here.1 ∙ ap (λ (i : ℕ). entry_at (64 * i) here.0) of_slot ∙ ap (entry_at (64 * s.slot place)) text
    ∙ ap (λ (q : ℕ). entry_at (64 * s.slot place) (look q (entry_below s look root (s.level q) q)).text) up
    ∙ ap (λ (l : ℕ). entry_at (64 * s.slot place) (look (s.parent place) (entry_below s look root l (s.parent place))).text) parent.0
    ∙ ap (λ (l : ℕ). entry_below s look root l place) (sym at)

-- the damage on the way to a place
pub way_of : (s : Shape) (look : Look) (root : TreeEntry) (level place above : ℕ) (e : TreeEntry) → s.level place ≡ suc level → s.level (s.parent place) ≡ level → above ≡ s.parent place
    → e ≡ entry_of s look root place → damage_of s look root place ≡ first_damage (damage_of s look root above) (damage_at look place e)
way_of s look root level place above e at up same is =
    ap (λ (l : ℕ). damage_below s look root l place) at ∙ damage_split s look root (suc level) place
    ∙ ap (λ (l : ℕ). first_damage (damage_below s look root l (s.parent place)) (damage_at look place (entry_below s look root (suc level) place))) (sym up)
    ∙ ap (λ (q : ℕ). first_damage (damage_of s look root q) (damage_at look place (entry_below s look root (suc level) place))) (sym same)
    ∙ ap (λ (x : TreeEntry). first_damage (damage_of s look root above) (damage_at look place x)) (ap (λ (l : ℕ). entry_below s look root l place) (sym at) ∙ sym is)

-- at the top
pub top_entry : (s : Shape) (look : Look) (root : TreeEntry) (place : ℕ) → s.level place ≡ 0 → root ≡ entry_of s look root place
unfolding entry_below
top_entry s look root place at = sym (ap (λ (l : ℕ). entry_below s look root l place) at)

pub top_damage : (s : Shape) (look : Look) (root : TreeEntry) (place : ℕ) → s.level place ≡ 0 → damage_of s look root place ≡ damage_at look place root
unfolding damage_below
top_damage s look root place at = ap (λ (l : ℕ). damage_below s look root l place) at

-- what is shown where the place is among them
pub shown_true : (s : Shape) (look : Look) (root : TreeEntry) (depth place : ℕ) (nodes : List Node) → AreTrue s look root depth nodes → place < s.places → s.level place < depth
    → IsSome (fresh_of nodes place) → damage_of s look root place ≡ None
shown_true s look root depth place nodes are inside low has =
    let here = bytes_of (fresh_of nodes place) has in
    are.sound place here.0 inside low here.1

-- what follows from an answer of Ok
pub on_ok : {A E : Type 0} (r : Result A E) (P Q : Type 0) → (P → Q) → OnOk r P → OnOk r Q
on_ok (Ok x) P Q f is = f is
on_ok (Err e) P Q f is = tt

pub taken : {A : Type 0} (r : Result A LeafAnswer) (P T Q : Type 0) (d : Option Mismatch) → OnOk r P → OnOk r T → ShowsLeaf r d → (P → T → d ≡ None → Q) → OnOk r Q
taken (Ok x) P T Q d pushed text shows f = f pushed text shows
taken (Err e) P T Q d pushed text shows f = tt

-- a mismatch on the way to a place is that of the way to each place under it
pub mismatch_way : (A B : Type 0) (e : LeafAnswer) (whole first rest : Option Mismatch) → whole ≡ first_damage first rest → ShowsLeaf {A = A} (Err e) first
    → IfMismatch {A = B} (Err e) (λ tags. whole ≡ Some tags)
mismatch_way A B (answers.Mismatch tags) whole first rest is shows = is ∙ ap (λ (d : Option Mismatch). first_damage d rest) shows
mismatch_way A B answers.Lost whole first rest is shows = tt
mismatch_way A B answers.Failed whole first rest is shows = tt
mismatch_way A B answers.NoMemory whole first rest is shows = tt

-- a damage of the root is that of every way
pub root_damages : (s : Shape) (is : IsShape s) (look : Look) (root : TreeEntry) (tags : Mismatch) → damage_of s look root 0 ≡ Some tags → (level p : ℕ) → s.level p ≡ level → p < s.places
    → damage_below s look root level p ≡ Some tags
unfolding damage_below
root_damages s is look root tags top zero p at inside =
    ap (λ (q : ℕ). damage_at look q root) (is_root s is p inside at) ∙ sym (top_damage s look root 0 is.top) ∙ top
root_damages s is look root tags top (suc level) p at inside =
    let up = above s is level p inside at in
    ap (λ (d : Option Mismatch). first_damage d (damage_at look p (entry_below s look root (suc level) p))) (root_damages s is look root tags top level (s.parent p) up.0 up.1)

-- a leaf goes before the nodes above it
pub leaf_pushed : (s : Shape) (look : Look) (root : TreeEntry) (depth place copy : ℕ) (old new : List Node) (bytes : List ℕ) (e : TreeEntry) → AreTrue s look root depth old
    → new ≡ record { place = place; copy = copy; bytes = bytes } ∷ old → s.level place ≡ depth → copy ≡ e.copy → e ≡ entry_of s look root place → AreTrue s look root depth new
leaf_pushed s look root depth place copy old new bytes e are is at copies same = record {
  text = λ p t inside low has. are.text p t inside low (sym (other p low) ∙ has);
  sound = λ p t inside low has. are.sound p t inside low (sym (other p low) ∙ has);
  copies = subst (AreInUse s look root) (sym is) (copies ∙ ap (λ (x : TreeEntry). x.copy) same, are.copies);
} where
  other : (p : ℕ) → s.level p < depth → fresh_of new p ≡ fresh_of old p
  other p low =
      ap (λ (l : List Node). fresh_of l p) is
      ∙ fresh_tail (record { place = place; copy = copy; bytes = bytes }) old p (λ (here : place ≡ p). absurd (let l : s.level place ≡ s.level p = ap s.level here in omega arith))

-- nodes that are in their order are gathered
pub gathered : (s : Shape) (nodes : List Node) → AreOrdered s nodes → AreGathered s nodes
gathered s [] are = absurd are
gathered s (node ∷ nodes) are = are

pub ordered : (s : Shape) (p : ℕ) (nodes : List Node) → AreGathered s nodes → IsSome (fresh_of nodes p) → AreOrdered s nodes
ordered s p [] are has = absurd (false≢true has)
ordered s p (node ∷ nodes) are has = are

-- the first bytes, where there are any
abbrev pub first_bytes : Option (List ℕ) → Option (List ℕ) → Option (List ℕ)
first_bytes (Some bytes) rest = Some bytes
first_bytes None rest = rest

pub named_here : (leaf : Leaf) (rest : List Leaf) (n : ℕ) → n ≡ leaf.number → leaf_among (leaf ∷ rest) n ≡ Some leaf.bytes
named_here leaf rest n same = let t : (leaf.number == n) ≡ true = grind arith in rw t refl

pub named_other : (leaf : Leaf) (rest : List Leaf) (n : ℕ) → n ≢ leaf.number → leaf_among (leaf ∷ rest) n ≡ leaf_among rest n
named_other leaf rest n ne = let t : (leaf.number == n) ≡ false = grind arith in rw t refl

-- one leaf more: what is gathered, and what is left to gather
pub named_step : (leaf : Leaf) (rest : List Leaf) (n : ℕ) (old new whole : Option (List ℕ)) → (n ≡ leaf.number → (old ≡ None) × (new ≡ Some leaf.bytes)) → (n ≢ leaf.number → new ≡ old)
    → first_bytes old (leaf_among (leaf ∷ rest) n) ≡ whole → first_bytes new (leaf_among rest n) ≡ whole
named_step leaf rest n old new whole here other is =
    ⊎_elim
    (λ (same : n ≡ leaf.number).
    let both = here same in
    ap (λ (o : Option (List ℕ)). first_bytes o (leaf_among rest n)) both.1 ∙ sym (named_here leaf rest n same)
    ∙ sym (ap (λ (o : Option (List ℕ)). first_bytes o (leaf_among (leaf ∷ rest) n)) both.0) ∙ is)
    (λ (ne : n ≢ leaf.number).
    ap (λ (o : Option (List ℕ)). first_bytes o (leaf_among rest n)) (other ne) ∙ ap (first_bytes old) (sym (named_other leaf rest n ne)) ∙ is)
    (cases_eq n leaf.number)

-- the numbers that are gathered are below those that are left
pub below_step : (leaf : Leaf) (rest : List Leaf) (n : ℕ) (old new : Option (List ℕ)) → is_ascending (leaf ∷ rest) ≡ true → (n ≢ leaf.number → new ≡ old)
    → (IsSome old → list_all (λ later. nat_lt n later.number) (leaf ∷ rest) ≡ true) → IsSome new → list_all (λ later. nat_lt n later.number) rest ≡ true
below_step leaf rest n old new ascending other was has =
    ⊎_elim
    (λ (same : n ≡ leaf.number).
    subst (λ (k : ℕ). list_all (λ (later : Leaf). nat_lt k later.number) rest ≡ true) (sym same)
    (first_true (list_all (λ (later : Leaf). nat_lt leaf.number later.number) rest) (is_ascending rest) ascending))
    (λ (ne : n ≢ leaf.number).
    second_true (nat_lt n leaf.number) (list_all (λ (later : Leaf). nat_lt n later.number) rest) (was (subst (λ (o : Option (List ℕ)). IsSome o) (other ne) has)))
    (cases_eq n leaf.number)

pub new_number : (leaf : Leaf) (rest : List Leaf) (old : Option (List ℕ)) → (IsSome old → list_all (λ later. nat_lt leaf.number later.number) (leaf ∷ rest) ≡ true) → old ≡ None
new_number leaf rest None was = refl
new_number leaf rest (Some t) was =
    absurd (false≢true (sym itself ∙ first_true (nat_lt leaf.number leaf.number) (list_all (λ (later : Leaf). nat_lt leaf.number later.number) rest) (was refl)))
  where
    itself : nat_lt leaf.number leaf.number ≡ false
    itself = grind (arith, nat_tests)

pub rest_ascends : (leaf : Leaf) (rest : List Leaf) → is_ascending (leaf ∷ rest) ≡ true → is_ascending rest ≡ true
rest_ascends leaf rest ascending = second_true (list_all (λ (later : Leaf). nat_lt leaf.number later.number) rest) (is_ascending rest) ascending

-- where nothing is left
pub none_left : (leaves : List Leaf) (i n : ℕ) (old whole : Option (List ℕ)) → length leaves ≤ i → first_bytes old (leaf_among (drop i leaves) n) ≡ whole → old ≡ whole
none_left leaves i n old whole all is =
    sym (ap (λ (l : List Leaf). first_bytes old (leaf_among l n)) (drop_all i leaves all) ∙ alone old) ∙ is
  where
    alone : (o : Option (List ℕ)) → first_bytes o None ≡ o
    alone None = refl
    alone (Some t) = refl

-- what is told of a mismatch
pub mismatch_told : (A B : Type 0) (e : LeafAnswer) (P Q : Mismatch → Type 0) → ((tags : Mismatch) → P tags → Q tags) → IfMismatch {A = A} (Err e) P → IfMismatch {A = B} (Err e) Q
mismatch_told A B (answers.Mismatch tags) P Q f is = f tags is
mismatch_told A B answers.Lost P Q f is = tt
mismatch_told A B answers.Failed P Q f is = tt
mismatch_told A B answers.NoMemory P Q f is = tt

pub mismatch_shown : (A B : Type 0) (e : LeafAnswer) (d : Option Mismatch) (Q : Mismatch → Type 0) → ((tags : Mismatch) → d ≡ Some tags → Q tags) → ShowsLeaf {A = A} (Err e) d
    → IfMismatch {A = B} (Err e) Q
mismatch_shown A B (answers.Mismatch tags) d Q f is = f tags is
mismatch_shown A B answers.Lost d Q f is = tt
mismatch_shown A B answers.Failed d Q f is = tt
mismatch_shown A B answers.NoMemory d Q f is = tt

-- a leaf is a place at the depth of leaves
pub leaf_level : (r n : ℕ) → shape.level (shape.leaf_place r n) ≡ 4
leaf_level r n = level_four (1105 + 1024 * r + n) (omega arith)

-- of no node all is true
pub nothing_true : (s : Shape) (look : Look) (root : TreeEntry) (depth : ℕ) (nodes : List Node) → nodes ≡ [] → AreTrue s look root depth nodes
nothing_true s look root depth nodes none = subst (AreTrue s look root depth) (sym none) (record {
  text = λ p t inside low has. absurd (cc);
  sound = λ p t inside low has. absurd (cc);
  copies = tt;
})
