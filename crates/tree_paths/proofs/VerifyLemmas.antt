-- What is answered of a place and of all that is under it, and how many places there can be.
use Rattle.std.proofs.Common.{◌≡◌, ◌≢◌, ◌≤◌, ◌<◌, ◌+◌, ◌*◌, ◌&&◌, ◌∙◌, ◌++◌, ℕ, zero, suc, Bool, true, is_none, IfErr, OnOk}
use Rattle.std.proofs.Common.{List, ◌∷◌, Option, None, Some, Result, Ok, Err, length, refl, sym, ap, subst, arith}
use Rattle.std.proofs.lemmas.List.{length-append}
use Rattle.std.proofs.Math.Nat.{mul-le-mul_right, suc-mul}
use Rattle.tee_base.specs.declared.limits.TheConstants.{MAX_HOSTS}
use Rattle.store_api.specs.declared.answer.Mismatch.{Mismatch}
use Rattle.epoch.specs.Forms.{all_below, is_sealed}
use Rattle.epoch.specs.Header.{entry_at}
use Rattle.epoch.specs.declared.header.TreeEntry.{TreeEntry}
use Rattle.epoch.proofs.CommitLemmas.{all_below_all, sealed_each}
use Rattle.tree_paths.specs.Form.{form_root, tree_form}
use Rattle.tree_paths.specs.Shape.{Shape, shape}
use Rattle.tree_paths.specs.Shapes.{are_children, is_shape}
use Rattle.tree_paths.specs.Tree.{Look, damage_at, damage_of, on_image}
use Rattle.tree_paths.specs.WalkAnswers.{AnswersWalk, ShowsPlace}
use Rattle.tree_paths.specs.Walk.{Children, Visit, Wrong, children, first_wrong, most_visits, one_by_one, visits}
use Rattle.tree_paths.specs.declared.walk.VerifyAnswer.{VerifyAnswer}
use Rattle.tree_paths.specs.declared.walk.VerifyAnswer.TheVariants as answers
use Rattle.tree_paths.proofs.WalkLemmas.{first_among, image_skips, none_more, under, visits_leaf, visits_node, visits_zero, walked_all, walked_right, wrong_here, wrong_under}

-- a place that is wrong
abbrev wrong : ℕ → Mismatch → Option Wrong
wrong place tags = Some (record { place = place; tags = tags })

module _ (c : Children) (look : Look) (p : ℕ) (x : TreeEntry) where
  pub answers_zero : (levels : ℕ) → x.sequence ≡ 0 → AnswersWalk look (visits c look levels p x) (Ok 0)
  answers_zero levels none = subst (λ (v : List Visit). AnswersWalk look v (Ok 0)) (sym (visits_zero c look p x levels none)) (refl, refl)

  pub answers_leaf : (levels : ℕ) → levels ≡ 0 → x.sequence ≢ 0 → damage_at look p x ≡ None → AnswersWalk look (visits c look levels p x) (Ok 1)
  answers_leaf levels deep some none =
      subst (λ (l : ℕ). AnswersWalk look (visits c look l p x) (Ok 1)) (sym deep)
      (subst (λ (v : List Visit). AnswersWalk look v (Ok 1)) (sym (visits_leaf c look p x some)) (rw none refl, refl))

  pub answers_here : (A : Type 0) (levels : ℕ) (e : VerifyAnswer) → x.sequence ≢ 0 → ShowsPlace {A = A} (Err e) p (damage_at look p x)
      → AnswersWalk look (visits c look levels p x) (Err e)
  answers_here A levels (answers.Wrong place tags) some shows = wrong_here c look p x levels tags some shows.1 ∙ ap (λ (q : ℕ). wrong q tags) (sym shows.0)
  answers_here A levels answers.Failed some shows = tt
  answers_here A levels answers.Lost some shows = tt

  module _ (levels k : ℕ) (one : suc k ≡ levels) (some : x.sequence ≢ 0) (right : damage_at look p x ≡ None) where
    -- an answer of what an entry names, where all before it is right
    pub answers_below : (i : ℕ) (e : VerifyAnswer) → i < c.fan p → first_wrong look (one_by_one i (under c look p x k)) ≡ None
        → AnswersWalk look (under c look p x k i) (Err e) → AnswersWalk look (visits c look levels p x) (Err e)
    answers_below i (answers.Wrong place tags) below so_far is =
        subst (λ (l : ℕ). first_wrong look (visits c look l p x) ≡ wrong place tags) one
        (wrong_under c look p x k some right ∙ first_among look (under c look p x k) (record { place = place; tags = tags }) (c.fan p) i below so_far is)
    answers_below i answers.Failed below so_far is = tt
    answers_below i answers.Lost below so_far is = tt

    -- all is right
    pub answers_all : (n count : ℕ) → n ≡ c.fan p → first_wrong look (one_by_one n (under c look p x k)) ≡ None
        → count ≡ 1 + length (one_by_one n (under c look p x k)) → AnswersWalk look (visits c look levels p x) (Ok count)
    answers_all n count all so_far many =
        let so_far' : first_wrong look (one_by_one (c.fan p) (under c look p x k)) ≡ None
        = subst (λ (m : ℕ). first_wrong look (one_by_one m (under c look p x k)) ≡ None) all so_far in
        let many' : count ≡ 1 + length (one_by_one (c.fan p) (under c look p x k))
        = subst (λ (m : ℕ). count ≡ 1 + length (one_by_one m (under c look p x k))) all many in
        let first : Visit = record { place = p; entry = x } in
        let longer : 1 + length (one_by_one (c.fan p) (under c look p x k)) ≡ length (first ∷ one_by_one (c.fan p) (under c look p x k)) = omega arith in
        subst (λ (l : ℕ). AnswersWalk look (visits c look l p x) (Ok count)) one
        (wrong_under c look p x k some right ∙ so_far', many' ∙ longer ∙ sym (ap length (visits_node c look p x k some)))

-- one entry more
pub right_more : (look : Look) (each : ℕ → List Visit) (i : ℕ) → first_wrong look (one_by_one i each) ≡ None → first_wrong look (each i) ≡ None
    → first_wrong look (one_by_one (i + 1) each) ≡ None
right_more look each i so_far here =
    let next : suc i ≡ i + 1 = omega arith in
    subst (λ (n : ℕ). first_wrong look (one_by_one n each) ≡ None) next (none_more look each i so_far here)

pub counts_more : (each : ℕ → List Visit) (i count more : ℕ) → count ≡ 1 + length (one_by_one i each) → more ≡ length (each i)
    → count + more ≡ 1 + length (one_by_one (i + 1) each)
counts_more each i count more many here =
    let next : suc i ≡ i + 1 = omega arith in
    let both : length (one_by_one i each ++ each i) ≡ length (one_by_one i each) + length (each i) = length-append (one_by_one i each) (each i) in
    subst (λ (n : ℕ). count + more ≡ 1 + length (one_by_one n each)) next
    (let sum : count + more ≡ 1 + length (one_by_one i each ++ each i) = omega (arith, many, here, both) in sum)

pub few_more : (i m count more : ℕ) → count ≤ 1 + i * m → more ≤ m → count + more ≤ 1 + (i + 1) * m
few_more i m count more few here =
    let next : (i + 1) * m ≡ i * m + m = ap (λ (n : ℕ). n * m) (let e : i + 1 ≡ suc i = omega arith in e) ∙ suc-mul i m in
    omega (arith, few, here, next)

pub few_all : (i m count : ℕ) → i ≤ 16 → count ≤ 1 + i * m → count ≤ 1 + 16 * m
few_all i m count below few = let most : i * m ≤ 16 * m = mul-le-mul_right m below in omega (arith, few, most)

-- a node with all that is under it
pub few_levels : (levels k count : ℕ) → suc k ≡ levels → count ≤ 1 + 16 * most_visits k → count ≤ most_visits levels
few_levels levels k count one few = subst (λ (l : ℕ). count ≤ most_visits l) one few

-- no count of places passes the end of its type
pub few_fit : (k : ℕ) → k ≤ 3 → 1 + 16 * most_visits k ≤ 69905
few_fit zero low = omega arith
few_fit (suc zero) low = omega arith
few_fit (suc (suc zero)) low = omega arith
few_fit (suc (suc (suc zero))) low = omega arith
few_fit (suc (suc (suc (suc k)))) low = absurd (omega arith)

-- what was answered of the place that an entry names, over the reads at that moment
pub child_answers : (c : Children) (s : Shape) (key : List ℕ) (old new : ℕ → List ℕ) (p : ℕ) (x : TreeEntry) (k i q : ℕ) (node : List ℕ) (below : TreeEntry) (r : Result ℕ VerifyAnswer)
    → new ≡ old → q ≡ c.child p i → node ≡ (on_image s key old p x).text → below ≡ entry_at (64 * i) node
    → AnswersWalk (on_image s key new) (visits c (on_image s key new) k q below) r → AnswersWalk (on_image s key old) (under c (on_image s key old) p x k i) r
child_answers c s key old new p x k i q node below r same child text from told =
    let entry : below ≡ entry_at (64 * i) (on_image s key old p x).text = from ∙ ap (entry_at (64 * i)) text in
    subst (λ (e : TreeEntry). AnswersWalk (on_image s key old) (visits c (on_image s key old) k (c.child p i) e) r) entry
    (subst (λ (o : ℕ). AnswersWalk (on_image s key old) (visits c (on_image s key old) k o below) r) child
    (subst (λ (reads : ℕ → List ℕ). AnswersWalk (on_image s key reads) (visits c (on_image s key reads) k q below) r) same told))

-- the walk over all places of an image, under a root
abbrev pub image_visits : List ℕ → (ℕ → List ℕ) → TreeEntry → List Visit
image_visits key image root = visits children (on_image shape key image) 4 0 root

module _ (key : List ℕ) (image : ℕ → List ℕ) (root : TreeEntry) where
  -- where it finds nothing wrong the root seals its leaves
  pub walk_seals : first_wrong (on_image shape key image) (image_visits key image root) ≡ None → is_sealed tree_form key image (form_root root) ≡ true
  unfolding is_sealed
  walk_seals nothing =
      let damages : ℕ → ℕ → Bool = λ r l. is_none (damage_of shape (on_image shape key image) root (shape.leaf_place r l)) in
      let tags : all_below MAX_HOSTS (λ r. all_below 1024 (λ l. damages r l)) ≡ true
      = all_below_all MAX_HOSTS _ (λ r hr. all_below_all 1024 _ (λ l hl.
      ap is_none (walked_all shape is_shape children 4 are_children (on_image shape key image) (image_skips shape key image) root nothing (shape.leaf_place r l)
      (is_shape.leaf_inside r l hr hl)))) in
      ap (λ (b : Bool). b && true) tags

  -- and where it seals them it finds nothing wrong
  pub seals_walk : is_sealed tree_form key image (form_root root) ≡ true → first_wrong (on_image shape key image) (image_visits key image root) ≡ None
  seals_walk sealed =
      walked_right shape is_shape children 4 are_children (on_image shape key image) (image_skips shape key image) root (omega arith)
      (λ r l hr hl. sealed_each tree_form key (form_root root) image sealed r l hr hl)

  pub answer_sealed : (r : Result ℕ VerifyAnswer) → AnswersWalk (on_image shape key image) (image_visits key image root) r
      → OnOk r (is_sealed tree_form key image (form_root root) ≡ true)
  answer_sealed (Ok count) told = walk_seals told.0
  answer_sealed (Err e) told = tt

  pub answer_sound : (r : Result ℕ VerifyAnswer) → is_sealed tree_form key image (form_root root) ≡ true → r ≢ Err answers.Lost
      → AnswersWalk (on_image shape key image) (image_visits key image root) r → IfErr r (λ why. why ≡ answers.Failed)
  answer_sound (Ok count) sealed live told = tt
  answer_sound (Err answers.Failed) sealed live told = refl
  answer_sound (Err answers.Lost) sealed live told = absurd (live refl)
  answer_sound (Err (answers.Wrong place tags)) sealed live told =
      absurd (let none : Option Wrong = None in let clash : none ≡ wrong place tags = sym (seals_walk sealed) ∙ told in cc)
