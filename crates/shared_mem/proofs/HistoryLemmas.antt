-- A block by all that happened to it.
use Rattle.std.proofs.Common.{ℕ, ◌≡◌, ◌==◌, ◌&&◌, Bool, true, false, not, cond, List, [], ◌∷◌, ◌++◌, Option, None, Some, find, filter, option_map, refl, sym, ap, ◌∙◌, ⊎_elim}
use Rattle.std.specs.Option.{unwrap_or}
use Rattle.std.proofs.lemmas.Bool.{cases_Bool, cond-true, cond-false, and_parts, eqb-true}
use Rattle.shared_mem.specs.declared.block.Block.{Block}
use Rattle.app_api.specs.declared.reference.Direction.{Direction}
use Rattle.shared_mem.specs.Blocks.{block_at, change_first, is_at, new_block, block_after_write}
use Rattle.shared_mem.specs.History.{Happening, Shared, Written, GivenUp, block_by, blocks_after, is_same}

-- ---- where one is found behind a change

push_found : {X : Type 0} (q : X → Bool) (xs : List X) (x : X) → q x ≡ true → find q (xs ++ x ∷ []) ≡ Some (unwrap_or (find q xs) x)
push_found q [] x here = rw here refl
push_found q (y ∷ ys) x here =
    ⊎_elim
    (λ (yes : q y ≡ true). rw yes refl)
    (λ (no : q y ≡ false). rw no (push_found q ys x here))
    (cases_Bool (q y))

push_other : {X : Type 0} (q : X → Bool) (xs : List X) (x : X) → q x ≡ false → find q (xs ++ x ∷ []) ≡ find q xs
push_other q [] x away = rw away refl
push_other q (y ∷ ys) x away =
    ⊎_elim
    (λ (yes : q y ≡ true). rw yes refl)
    (λ (no : q y ≡ false). rw no (push_other q ys x away))
    (cases_Bool (q y))

change_found : {X : Type 0} (q : X → Bool) (f : X → X) → ((x : X) → q (f x) ≡ q x) → (xs : List X) → find q (change_first q f xs) ≡ option_map f (find q xs)
change_found q f same [] = refl
change_found q f same (y ∷ ys) =
    ⊎_elim
    (λ (yes : q y ≡ true). rw yes (cond-true (q (f y)) (Some (f y)) (find q ys) (same y ∙ yes)))
    (λ (no : q y ≡ false). rw no (cond-false (q y) (Some y) (find q (change_first q f ys)) no ∙ change_found q f same ys))
    (cases_Bool (q y))

change_other : {X : Type 0} (p q : X → Bool) (f : X → X) → ((x : X) → q x ≡ true → p x ≡ false) → ((x : X) → p (f x) ≡ p x) → (xs : List X) → find p (change_first q f xs) ≡ find p xs
change_other p q f apart same [] = refl
change_other p q f apart same (y ∷ ys) =
    ⊎_elim
    (λ (yes : q y ≡ true). rw yes (cond-false (p (f y)) (Some (f y)) (find p ys) (same y ∙ apart y yes) ∙ sym (cond-false (p y) (Some y) (find p ys) (apart y yes))))
    (λ (no : q y ≡ false). rw no (ap (λ o. cond (p y) (Some y) o) (change_other p q f apart same ys)))
    (cases_Bool (q y))

out_none : {X : Type 0} (q : X → Bool) (xs : List X) → find q (filter (λ x. not (q x)) xs) ≡ None
out_none q [] = refl
out_none q (y ∷ ys) =
    ⊎_elim
    (λ (yes : q y ≡ true). rw yes (out_none q ys))
    (λ (no : q y ≡ false). rw no (cond-false (q y) (Some y) (find q (filter (λ x. not (q x)) ys)) no ∙ out_none q ys))
    (cases_Bool (q y))

out_other : {X : Type 0} (p q : X → Bool) → ((x : X) → q x ≡ true → p x ≡ false) → (xs : List X) → find p (filter (λ x. not (q x)) xs) ≡ find p xs
out_other p q apart [] = refl
out_other p q apart (y ∷ ys) =
    ⊎_elim
    (λ (yes : q y ≡ true). rw yes (out_other p q apart ys ∙ sym (cond-false (p y) (Some y) (find p ys) (apart y yes))))
    (λ (no : q y ≡ false). rw no (ap (λ o. cond (p y) (Some y) o) (out_other p q apart ys)))
    (cases_Bool (q y))

-- ---- blocks of two numbers, or of two clients

apart : (other its client number : ℕ) → is_same other its client number ≡ false → (x : Block) → is_at other its x ≡ true → is_at client number x ≡ false
apart other its client number differ x here =
    let both = and_parts (x.client == other) (x.number == its) here in
    ap (λ c. (c == client) && (x.number == number)) (eqb-true x.client other both.0) ∙ ap (λ n. (other == client) && (n == number)) (eqb-true x.number its both.1) ∙ differ

-- the same test
same_test : (other its client number : ℕ) → is_same other its client number ≡ true → is_at other its ≡ is_at client number
same_test other its client number agree =
    let both = and_parts (other == client) (its == number) agree in
    ap (λ c. is_at c its) (eqb-true other client both.0) ∙ ap (λ n. is_at client n) (eqb-true its number both.1)

pub block_is : (happened : List Happening) (client number : ℕ) → block_at (blocks_after happened) client number ≡ block_by client number happened
block_is [] client number = refl
block_is (Shared other its direction size ∷ before) client number =
    let test = is_at client number in
    let blocks = blocks_after before in
    let new : Block = new_block other its direction size in
    ⊎_elim
    (λ (yes : is_same other its client number ≡ true).
    push_found test blocks new yes ∙ ap (λ (o : Option Block). Some (unwrap_or o new)) (block_is before client number) ∙ sym (cond-true (is_same other its client number) _ _ yes))
    (λ (no : is_same other its client number ≡ false).
    push_other test blocks new no ∙ block_is before client number ∙ sym (cond-false (is_same other its client number) _ _ no))
    (cases_Bool (is_same other its client number))
block_is (Written other its at bytes ∷ before) client number =
    let test = is_at client number in
    let blocks = blocks_after before in
    ⊎_elim
    (λ (yes : is_same other its client number ≡ true).
    ap (λ (q : Block → Bool). find test (change_first q (block_after_write at bytes) blocks)) (same_test other its client number yes)
    ∙ change_found test (block_after_write at bytes) (λ x. refl) blocks
    ∙ ap (λ (o : Option Block). option_map (block_after_write at bytes) o) (block_is before client number) ∙ sym (cond-true (is_same other its client number) _ _ yes))
    (λ (no : is_same other its client number ≡ false).
    change_other test (is_at other its) (block_after_write at bytes) (apart other its client number no) (λ x. refl) blocks ∙ block_is before client number
    ∙ sym (cond-false (is_same other its client number) _ _ no))
    (cases_Bool (is_same other its client number))
block_is (GivenUp other its ∷ before) client number =
    let test = is_at client number in
    let blocks = blocks_after before in
    ⊎_elim
    (λ (yes : is_same other its client number ≡ true).
    ap (λ (q : Block → Bool). find test (filter (λ b. not (q b)) blocks)) (same_test other its client number yes) ∙ out_none test blocks
    ∙ sym (cond-true (is_same other its client number) _ _ yes))
    (λ (no : is_same other its client number ≡ false).
    out_other test (is_at other its) (apart other its client number no) blocks ∙ block_is before client number ∙ sym (cond-false (is_same other its client number) _ _ no))
    (cases_Bool (is_same other its client number))
