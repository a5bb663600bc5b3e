-- Each change of a table keeps what a table keeps, and there is room where a client has few blocks.
use Rattle.std.proofs.Common.{◌≡◌, ◌<◌, ◌≤◌, ◌+◌, ◌*◌, ◌==◌, ◌&&◌, ℕ, zero, suc, Bool, true, false, not, cond, List, Option, None, Some, [], ◌∷◌, ◌++◌, length, filter}
use Rattle.std.proofs.Common.{find, drop, take, count_by, sum_by, nat_le, nat_lt, IfSome, IsTrue, option_map, replicate, refl, sym, ap, subst, ◌∙◌, ⊎_elim, arith, rules}
use Rattle.std.specs.List.{list_all, list_any, refill}
use Rattle.std.proofs.lemmas.Bool.{cases_Bool, cond-true, cond-false, eqb-true, and_from, and_parts, lt-ltb, le-ltb, le-leb, leb-true, or_parts, cases_order, eq-eqb, ne_eqb}
use Rattle.std.proofs.lemmas.List.{length-append, length-drop, length-replicate, length-take-le, take_at}
use Rattle.std.proofs.lemmas.List.Sums.{sum_by-cons, sum_by_push}
use Rattle.std.proofs.lemmas.List.Filters.{sum_by-filter_both}
use Rattle.shared_mem.specs.declared.block.Block.{Block}
use Rattle.app_api.specs.declared.reference.Direction.{Direction}
use Rattle.app_api.specs.declared.reference.Reference.{Reference}
use Rattle.app_api.specs.declared.reference.Reference.TheVariants.{Whole, Part}
use Rattle.shared_mem.specs.Blocks.{IsBlocks, is_of, is_at, is_sound, block_at, change_first, fits, length_in, new_block, block_after_write, bytes_over, with_bytes}

-- ---- room

-- a client below the next number is below this one, or it is this one
one_client : (client k : ℕ) → cond (nat_lt client (suc k)) 1 0 ≡ cond (nat_lt client k) 1 0 + cond (client == k) 1 0
one_client client k =
    ⊎_elim
    (λ (same : client ≡ k). omega (
      arith,
      ap {B = ℕ} (λ b. cond b 1 0) (lt-ltb client (suc k) (omega (arith, same))),
      ap {B = ℕ} (λ b. cond b 1 0) (le-ltb client k (omega (arith, same))),
      ap {B = ℕ} (λ b. cond b 1 0) (eq-eqb client k same),
    ))
    (⊎_elim
    (λ (below : client < k). omega (
      arith,
      ap {B = ℕ} (λ b. cond b 1 0) (lt-ltb client (suc k) (omega (arith, below))),
      ap {B = ℕ} (λ b. cond b 1 0) (lt-ltb client k below),
      ap {B = ℕ} (λ b. cond b 1 0) (ne_eqb client k (λ e. omega (arith, below, e))),
    ))
    (λ (above : k < client). omega (
      arith,
      ap {B = ℕ} (λ b. cond b 1 0) (le-ltb client (suc k) (omega (arith, above))),
      ap {B = ℕ} (λ b. cond b 1 0) (le-ltb client k (omega (arith, above))),
      ap {B = ℕ} (λ b. cond b 1 0) (ne_eqb client k (λ e. omega (arith, above, e))),
    )))
    (cases_order client k)

next_client : (k : ℕ) (blocks : List Block) → count_by (λ b. nat_lt b.client (suc k)) blocks ≡ count_by (λ b. nat_lt b.client k) blocks + count_by (is_of k) blocks
next_client k [] = refl
next_client k (b ∷ blocks) =
    omega (
      arith,
      sum_by-cons (λ (b : Block). cond (nat_lt b.client (suc k)) 1 0) b blocks,
      sum_by-cons (λ (b : Block). cond (nat_lt b.client k) 1 0) b blocks,
      sum_by-cons (λ (b : Block). cond (is_of k b) 1 0) b blocks,
      one_client b.client k,
      next_client k blocks,
    )

no_client : (blocks : List Block) → count_by (λ b. nat_lt b.client 0) blocks ≡ 0
no_client [] = refl
no_client (b ∷ blocks) =
    omega (arith, sum_by-cons (λ (b : Block). cond (nat_lt b.client 0) 1 0) b blocks, ap {B = ℕ} (λ b. cond b 1 0) (le-ltb b.client 0 (omega arith)), no_client blocks)

-- so many clients have eight each at most, and one of them fewer
few_below : (blocks : List Block) (client : ℕ) → ((c : ℕ) → count_by (is_of c) blocks ≤ 8) → count_by (is_of client) blocks < 8 → (k : ℕ) →
    count_by (λ b. nat_lt b.client k) blocks + cond (nat_lt client k) 1 0 ≤ 8 * k
few_below blocks client few free zero = omega (arith, no_client blocks, ap {B = ℕ} (λ b. cond b 1 0) (le-ltb client 0 (omega arith)))
few_below blocks client few free (suc k) =
    ⊎_elim
    (λ (yes : (client == k) ≡ true). let at : count_by (is_of client) blocks ≡ count_by (is_of k) blocks = ap (λ n. count_by (is_of n) blocks) (eqb-true client k yes) in
    omega (arith, next_client k blocks, one_client client k, few_below blocks client few free k, ap {B = ℕ} (λ b. cond b 1 0) yes, free, at))
    (λ (no : (client == k) ≡ false). omega (arith, next_client k blocks, one_client client k, few_below blocks client few free k, ap {B = ℕ} (λ b. cond b 1 0) no, few k))
    (cases_Bool (client == k))

-- all blocks are of the eight clients
all_clients : (blocks : List Block) → list_all is_sound blocks ≡ true → count_by (λ b. nat_lt b.client 8) blocks ≡ length blocks
all_clients [] sound = refl
all_clients (b ∷ blocks) sound =
    let both = and_parts (is_sound b) (list_all is_sound blocks) sound in
    let client = (and_parts (nat_lt b.client 8) _ both.0).0 in
    omega (arith, sum_by-cons (λ (b : Block). cond (nat_lt b.client 8) 1 0) b blocks, ap {B = ℕ} (λ b. cond b 1 0) client, all_clients blocks both.1)

pub has_room : (blocks : List Block) (client : ℕ) → IsBlocks blocks → client < 8 → count_by (is_of client) blocks < 8 → length blocks < 64
has_room blocks client is within free =
    omega (arith, all_clients blocks is.sound, few_below blocks client is.few free 8, ap {B = ℕ} (λ b. cond b 1 0) (lt-ltb client 8 within))

-- ---- a block more

sound_push : (blocks : List Block) (b : Block) → list_all is_sound blocks ≡ true → is_sound b ≡ true → list_all is_sound (blocks ++ b ∷ []) ≡ true
sound_push [] b sound new = and_from (is_sound b) true new refl
sound_push (x ∷ xs) b sound new =
    let both = and_parts (is_sound x) (list_all is_sound xs) sound in
    and_from (is_sound x) _ both.0 (sound_push xs b both.1 new)

none_counted : (q : Block → Bool) (blocks : List Block) → list_any q blocks ≡ false → count_by q blocks ≡ 0
none_counted q [] none = refl
none_counted q (b ∷ blocks) none =
    let both = or_parts (q b) (list_any q blocks) none in
    omega (arith, sum_by-cons (λ (b : Block). cond (q b) 1 0) b blocks, ap {B = ℕ} (λ b. cond b 1 0) both.0, none_counted q blocks both.1)

pub push_IsBlocks : (blocks : List Block) (b : Block) → IsBlocks blocks → is_sound b ≡ true → list_any (is_at b.client b.number) blocks ≡ false → count_by (is_of b.client) blocks < 8 →
    IsBlocks (blocks ++ b ∷ [])
push_IsBlocks blocks b is new none free = record {
  sound = sound_push blocks b is.sound new;
  alone = λ client number.
      let push = sum_by_push (λ (x : Block). cond (is_at client number x) 1 0) blocks b in
      ⊎_elim
      (λ (yes : is_at client number b ≡ true).
      let both = and_parts (b.client == client) (b.number == number) yes in
      let at : count_by (is_at b.client b.number) blocks ≡ count_by (is_at client number) blocks =
      ap (λ c. count_by (is_at c b.number) blocks) (eqb-true b.client client both.0) ∙ ap (λ n. count_by (is_at client n) blocks) (eqb-true b.number number both.1) in
      omega (arith, push, ap {B = ℕ} (λ b. cond b 1 0) yes, at, none_counted (is_at b.client b.number) blocks none))
      (λ (no : is_at client number b ≡ false). omega (arith, push, ap {B = ℕ} (λ b. cond b 1 0) no, is.alone client number))
      (cases_Bool (is_at client number b));
  few = λ client.
      let push = sum_by_push (λ (x : Block). cond (is_of client x) 1 0) blocks b in
      ⊎_elim
      (λ (yes : (b.client == client) ≡ true).
      let at : count_by (is_of b.client) blocks ≡ count_by (is_of client) blocks = ap (λ c. count_by (is_of c) blocks) (eqb-true b.client client yes) in
      omega (arith, push, ap {B = ℕ} (λ b. cond b 1 0) yes, at, free))
      (λ (no : (b.client == client) ≡ false). omega (arith, push, ap {B = ℕ} (λ b. cond b 1 0) no, is.few client))
      (cases_Bool (b.client == client));
}

pub shared_IsBlocks : (blocks after : List Block) (b : Block) (client number : ℕ) (direction : Direction) (size : ℕ) → b ≡ new_block client number direction size → after ≡ blocks ++ b ∷ [] →
    IsBlocks blocks → client < 8 → size ≤ 524288 → list_any (is_at client number) blocks ≡ false → count_by (is_of client) blocks < 8 → IsBlocks after
shared_IsBlocks blocks after b client number direction size new same is within small none free =
    let block : Block = new_block client number direction size in
    let sound : is_sound block ≡ true = and_from (nat_lt client 8) _ (lt-ltb client 8 within) (le-leb (length (replicate size 0)) 524288 (omega (arith, small, length-replicate {A = ℕ} size 0))) in
    subst IsBlocks (sym (same ∙ ap (λ x. blocks ++ x ∷ []) new)) (push_IsBlocks blocks block is sound none free)

-- ---- a block that was found

some_none : {X : Type 0} (x : X) → Some x ≡ None → ⊥
some_none x e = cc

found_sound : (q : Block → Bool) (blocks : List Block) (b : Block) → Some b ≡ find q blocks → list_all is_sound blocks ≡ true → is_sound b ≡ true
found_sound q [] b at sound = absurd (some_none b at)
found_sound q (x ∷ xs) b at sound =
    let both = and_parts (is_sound x) (list_all is_sound xs) sound in
    ⊎_elim
    (λ (yes : q x ≡ true). let same : x ≡ b = (let here : Some b ≡ Some x = at ∙ cond-true (q x) (Some x) (find q xs) yes in cc) in subst (λ (y : Block). is_sound y ≡ true) same both.0)
    (λ (no : q x ≡ false). found_sound q xs b (at ∙ cond-false (q x) (Some x) (find q xs) no) both.1)
    (cases_Bool (q x))

pub found_small : {X : Type 0} (o : Option X) (now : X → Block) (q : Block → Bool) (blocks : List Block) → option_map now o ≡ find q blocks → list_all is_sound blocks ≡ true →
    IfSome o (λ x. length (now x).bytes ≤ 524288)
found_small None now q blocks at sound = tt
found_small (Some x) now q blocks at sound =
    leb-true _ _ (and_parts (nat_lt (now x).client 8) _ (found_sound q blocks (now x) at sound)).1

pub length_fits : (b : Block) (r : Reference) → IsTrue (fits b r) → length b.bytes ≤ 524288 → length_in b r ≤ 524288
length_fits b (Whole number) fit small = small
length_fits b (Part number way at size) fit small =
    omega (arith, small, leb-true (at + size) (length b.bytes) (and_parts (nat_le (at + size) (length b.bytes)) _ fit).0)

-- ---- blocks that stay

sound_filter : (q : Block → Bool) (blocks : List Block) → list_all is_sound blocks ≡ true → list_all is_sound (filter q blocks) ≡ true
sound_filter q [] sound = refl
sound_filter q (x ∷ xs) sound =
    let both = and_parts (is_sound x) (list_all is_sound xs) sound in
    ⊎_elim
    (λ (yes : q x ≡ true). rw yes (and_from (is_sound x) _ both.0 (sound_filter q xs both.1)))
    (λ (no : q x ≡ false). rw no (sound_filter q xs both.1))
    (cases_Bool (q x))

count-filter : (p q : Block → Bool) (xs : List Block) → count_by p (filter q xs) ≤ count_by p xs
count-filter p q xs = omega (arith, sum_by-filter_both q (λ (e : Block). not (q e)) (λ e. refl) (λ (e : Block). cond (p e) 1 0) xs)

pub filter_IsBlocks : (q : Block → Bool) (blocks : List Block) → IsBlocks blocks → IsBlocks (filter q blocks)
filter_IsBlocks q blocks is = record {
  sound = sound_filter q blocks is.sound;
  alone = λ client number. omega (arith, is.alone client number, count-filter (is_at client number) q blocks);
  few = λ client. omega (arith, is.few client, count-filter (is_of client) q blocks);
}

-- ---- a block that is written

count_change : (q : Block → Bool) (g : Block → Block) (f : Block → Bool) → ((x : Block) → f (g x) ≡ f x) → (xs : List Block) → count_by f (change_first q g xs) ≡ count_by f xs
count_change q g f same [] = refl
count_change q g f same (x ∷ xs) =
    ⊎_elim
    (λ (yes : q x ≡ true). rw yes (omega (arith, sum_by-cons (λ (b : Block). cond (f b) 1 0) (g x) xs, ap {B = ℕ} (λ b. cond b 1 0) (same x), sum_by-cons (λ (b : Block). cond (f b) 1 0) x xs)))
    (λ (no : q x ≡ false). rw no (omega (arith, sum_by-cons (λ (b : Block). cond (f b) 1 0) x (change_first q g xs), sum_by-cons (λ (b : Block). cond (f b) 1 0) x xs, count_change q g f same xs)))
    (cases_Bool (q x))

length-change : {X : Type 0} (q : X → Bool) (g : X → X) (xs : List X) → length (change_first q g xs) ≡ length xs
length-change q g [] = refl
length-change q g (x ∷ xs) =
    ⊎_elim
    (λ (yes : q x ≡ true). rw yes (omega arith))
    (λ (no : q x ≡ false). rw no (omega (arith, length-change q g xs)))
    (cases_Bool (q x))

pub length-overwritten : (at : ℕ) (bytes content : List ℕ) → at + length bytes ≤ length content → length (bytes_over at bytes content) ≡ length content
length-overwritten at bytes content within =
    length-append (take at content ++ bytes) (drop (at + length bytes) content) ∙ omega (
      arith,
      within,
      length-append (take at content) bytes,
      length-take-le at content (omega (arith, within)),
      length-drop (at + length bytes) content,
    )

written_sound : (at : ℕ) (bytes : List ℕ) (b : Block) → at + length bytes ≤ length b.bytes → is_sound b ≡ true → is_sound (block_after_write at bytes b) ≡ true
written_sound at bytes b within sound =
    ap (λ n. nat_lt b.client 8 && nat_le n 524288) (length-overwritten at bytes b.bytes within) ∙ sound

sound_change : (q : Block → Bool) (at : ℕ) (bytes : List ℕ) (blocks : List Block) → IfSome (find q blocks) (λ b. at + length bytes ≤ length b.bytes) → list_all is_sound blocks ≡ true →
    list_all is_sound (change_first q (block_after_write at bytes) blocks) ≡ true
sound_change q at bytes [] within sound = refl
sound_change q at bytes (x ∷ xs) within sound =
    let both = and_parts (is_sound x) (list_all is_sound xs) sound in
    ⊎_elim
    (λ (yes : q x ≡ true).
    let here : at + length bytes ≤ length x.bytes = subst (λ b. IfSome (cond b (Some x) (find q xs)) (λ b. at + length bytes ≤ length b.bytes)) yes within in
    rw yes (and_from (is_sound (block_after_write at bytes x)) _ (written_sound at bytes x here both.0) both.1))
    (λ (no : q x ≡ false).
    let rest : IfSome (find q xs) (λ b. at + length bytes ≤ length b.bytes) = subst (λ b. IfSome (cond b (Some x) (find q xs)) (λ b. at + length bytes ≤ length b.bytes)) no within in
    rw no (and_from (is_sound x) _ both.0 (sound_change q at bytes xs rest both.1)))
    (cases_Bool (q x))

pub write_IsBlocks : (blocks : List Block) (client number at : ℕ) (bytes : List ℕ) → IsBlocks blocks → IfSome (block_at blocks client number) (λ b. at + length bytes ≤ length b.bytes) →
    IsBlocks (with_bytes blocks client number at bytes)
write_IsBlocks blocks client number at bytes is within = record {
  sound = sound_change (is_at client number) at bytes blocks within is.sound;
  alone = λ c n. omega (arith, is.alone c n, count_change (is_at client number) (block_after_write at bytes) (is_at c n) (λ x. refl) blocks);
  few = λ c. omega (arith, is.few c, count_change (is_at client number) (block_after_write at bytes) (is_of c) (λ x. refl) blocks);
}

pub length-with_bytes : (blocks : List Block) (client number at : ℕ) (bytes : List ℕ) → length (with_bytes blocks client number at bytes) ≡ length blocks
length-with_bytes blocks client number at bytes = length-change (is_at client number) (block_after_write at bytes) blocks

refill_same : (xs ws : List Block) → length ws ≡ length xs → refill (length xs) xs ws ≡ ws
refill_same xs ws long = take_at ws (drop (length ws) xs) (length xs) long

-- what was lent out and came back in the same length is what is there
pub refilled_IsBlocks : (blocks lent after : List Block) (client number at : ℕ) (bytes : List ℕ) → lent ≡ blocks → after ≡ with_bytes lent client number at bytes →
    (IsBlocks lent → IsBlocks after) → IsBlocks blocks → IsBlocks (refill (length blocks) blocks after)
refilled_IsBlocks blocks lent after client number at bytes same change keeps is =
    let long : length after ≡ length blocks = ap length change ∙ length-with_bytes lent client number at bytes ∙ ap length same in
    subst IsBlocks (sym (refill_same blocks after long)) (keeps (subst IsBlocks (sym same) is))
