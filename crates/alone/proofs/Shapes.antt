-- Where a change of blocks leaves those that are named as they are but for their bytes, what could be referred to before can be after.
use Rattle.std.proofs.Common.{ℕ, ◌≡◌, ◌+◌, ◌≤◌, ◌==◌, ◌&&◌, ◌||◌, nat_le, nat_lt, Bool, true, false, not, cond, List, [], ◌∷◌, ◌++◌, Option, None, Some}
use Rattle.std.proofs.Common.{Result, Ok, Err, is_some, length, take, drop, find, filter, refl, sym, ap, subst, ◌∙◌, ⊎_elim, arith}
use Rattle.std.specs.List.{list_any}
use Rattle.std.proofs.lemmas.Bool.{cases_Bool, cond-true, cond-false, cond_both, eqb-true, and_parts, leb-true, both_ways}
use Rattle.std.proofs.lemmas.List.{length-append, length-drop, length-take-le}
use Rattle.tee_base.specs.declared.codes.Code.{Code}
use Rattle.tee_base.specs.declared.codes.TheConstants.Code.{BAD_PARAMETERS, BAD_STATE, BUSY, EXCESS_DATA, ITEM_NOT_FOUND}
use Rattle.tee_base.specs.declared.limits.TheConstants.{MAX_ASK_BYTES}
use Rattle.app_api.specs.declared.reference.Direction.{Direction}
use Rattle.app_api.specs.declared.reference.Reference.{Reference}
use Rattle.app_api.specs.declared.reference.Reference.TheVariants.{Whole, Part}
use Rattle.app_api.specs.declared.reference.References.{References}
use Rattle.app_api.specs.References.{allows_way, direction_of, name_block, names, number_of, start_of}
use Rattle.op_queue.specs.declared.operation.Operation.{Operation}
use Rattle.op_queue.specs.Queue.{is_naming}
use Rattle.shared_mem.specs.declared.block.Block.{Block}
use Rattle.shared_mem.specs.Blocks.{block_after_write, block_at, bytes_over, change_first, check_in, check_of, fill_in, fill_of, fits, has_output, is_at, is_full}
use Rattle.shared_mem.specs.Blocks.{new_block, put_of, share_in, share_of, takes_bytes, unshare_of, with_block, with_bytes, without_block}
use Rattle.alone.specs.declared.reply.Outputs.{Outputs}
use Rattle.alone.specs.declared.reply.Shown.{Shown}
use Rattle.alone.specs.declared.reply.Shown.TheVariants as shown
use Rattle.alone.specs.Blocks.{all_delivered, code_in, delivered, delivered_for, is_missing, references_refusal, refusal_of}
use Rattle.alone.proofs.Totals.{found_here, found_later, nothing_found}

-- ---- a block of the same shape

pub record IsAlike (b c : Block) : Type 0 where
  pub direction : c.direction ≡ b.direction
  pub size : length c.bytes ≡ length b.bytes

alike_self : (b : Block) → IsAlike b b
alike_self b = record { direction = refl; size = refl }

-- where the client had a block of this number, it has one of the same shape
abbrev pub Stays : List Block → List Block → ℕ → ℕ → Type 0
Stays before after client number = (b : Block) → block_at before client number ≡ Some b → (c : Block) × (block_at after client number ≡ Some c) × IsAlike b c

pub stays_same : (blocks : List Block) (client number : ℕ) → Stays blocks blocks client number
stays_same blocks client number b e = (b, e, alike_self b)

pub stays_both : (before between after : List Block) (client number : ℕ) → Stays before between client number → Stays between after client number → Stays before after client number
stays_both before between after client number first second b e =
    let x = first b e in
    let y = second x.0 x.1 in
    (y.0, y.1, record { direction = y.2.direction ∙ x.2.direction; size = y.2.size ∙ x.2.size })

-- ---- bytes are written into a block

over_size : (at : ℕ) (bytes content : List ℕ) → at + length bytes ≤ length content → length (bytes_over at bytes content) ≡ length content
over_size at bytes content within =
    length-append (take at content ++ bytes) (drop (at + length bytes) content) ∙ omega (
      arith,
      within,
      length-append (take at content) bytes,
      length-take-le at content (omega (arith, within)),
      length-drop (at + length bytes) content,
    )

changed_stays : (p q : Block → Bool) (f : Block → Block) → ((x : Block) → p (f x) ≡ p x) → (xs : List Block) → ((x : Block) → find q xs ≡ Some x → IsAlike x (f x))
    → (b : Block) → find p xs ≡ Some b → (c : Block) × (find p (change_first q f xs) ≡ Some c) × IsAlike b c
changed_stays p q f same [] alike b e = absurd (nothing_found b e)
changed_stays p q f same (x ∷ xs) alike b e =
    cond_both (q x) (f x ∷ xs) (x ∷ change_first q f xs) (λ ys. (c : Block) × (find p ys ≡ Some c) × IsAlike b c)
    (λ changed. ⊎_elim
    (λ (yes : p x ≡ true).
    let is : x ≡ b = found_here p x b xs e yes in
    (f x, cond-true (p (f x)) (Some (f x)) (find p xs) (same x ∙ yes), subst (λ z. IsAlike z (f x)) is (alike x (cond-true (q x) (Some x) (find q xs) changed))))
    (λ (no : p x ≡ false). (b, cond-false (p (f x)) (Some (f x)) (find p xs) (same x ∙ no) ∙ found_later p x b xs e no, alike_self b))
    (cases_Bool (p x)))
    (λ later. ⊎_elim
    (λ (yes : p x ≡ true). (b, cond-true (p x) (Some x) (find p (change_first q f xs)) yes ∙ ap Some (found_here p x b xs e yes), alike_self b))
    (λ (no : p x ≡ false).
    let rest = changed_stays p q f same xs (λ y found. alike y (cond-false (q x) (Some x) (find q xs) later ∙ found)) b (found_later p x b xs e no) in
    (rest.0, cond-false (p x) (Some x) (find p (change_first q f xs)) no ∙ rest.1, rest.2))
    (cases_Bool (p x)))

written_stays : (blocks : List Block) (client number at : ℕ) (bytes : List ℕ) → ((x : Block) → block_at blocks client number ≡ Some x → at + length bytes ≤ length x.bytes)
    → (k n : ℕ) → Stays blocks (with_bytes blocks client number at bytes) k n
written_stays blocks client number at bytes within k n =
    changed_stays (is_at k n) (is_at client number) (block_after_write at bytes) (λ x. refl) blocks
    (λ x found. record { direction = refl; size = over_size at bytes x.bytes (within x found) })

-- ---- what a call leaves

err_ok : (r : Result (List Block) Code) (code : Code) (blocks : List Block) → r ≡ Err code → r ≡ Ok blocks → ⊥
err_ok r code blocks err ok = cc

ok_is : (r : Result (List Block) Code) (x y : List Block) → r ≡ Ok x → r ≡ Ok y → x ≡ y
ok_is r x y one other = cc

some_is : (o : Option Block) (x y : Block) → o ≡ Some x → o ≡ Some y → x ≡ y
some_is o x y one other = cc

refused : (code : Code) (after : List Block) {X : Type 0} → Err code ≡ Ok after → X
refused code after never = absurd (err_ok (Err code) code after refl never)

found_more : (p : Block → Bool) (xs : List Block) (y b : Block) → find p xs ≡ Some b → find p (xs ++ y ∷ []) ≡ Some b
found_more p [] y b e = absurd (nothing_found b e)
found_more p (x ∷ xs) y b e = ⊎_elim
    (λ (yes : p x ≡ true). cond-true (p x) (Some x) (find p (xs ++ y ∷ [])) yes ∙ ap Some (found_here p x b xs e yes))
    (λ (no : p x ≡ false). cond-false (p x) (Some x) (find p (xs ++ y ∷ [])) no ∙ found_more p xs y b (found_later p x b xs e no))
    (cases_Bool (p x))

shared_in_stays : (blocks : List Block) (client number size : ℕ) (direction : Option Direction) (after : List Block) → share_in blocks client number direction size ≡ Ok after
    → (k n : ℕ) → Stays blocks after k n
shared_in_stays blocks client number size None after e k n = refused BAD_PARAMETERS after e
shared_in_stays blocks client number size (Some direction) after e k n =
    let P : Result (List Block) Code → Type 0 = λ r. r ≡ Ok after → Stays blocks after k n in
    let new : Block = new_block client number direction size in
    let last : Result (List Block) Code = Ok (with_block blocks client number direction size) in
    let third : Result (List Block) Code = cond (is_full blocks client) (Err BUSY) last in
    let second : Result (List Block) Code = cond (list_any (is_at client number) blocks) (Err BAD_STATE) third in
    cond_both (nat_lt MAX_ASK_BYTES size) (Err BAD_PARAMETERS) second P (λ _. refused BAD_PARAMETERS after)
    (λ _. cond_both (list_any (is_at client number) blocks) (Err BAD_STATE) third P (λ _. refused BAD_STATE after)
    (λ _. cond_both (is_full blocks client) (Err BUSY) last P (λ _. refused BUSY after)
    (λ _ ok. subst (λ (bs : List Block). Stays blocks bs k n) (ok_is last (with_block blocks client number direction size) after refl ok)
    (λ b found. (b, found_more (is_at k n) blocks new b found, alike_self b))))) e

pub shared_stays : (blocks : List Block) (client number flags size : ℕ) (after : List Block) → share_of blocks client number flags size ≡ Ok after → (k n : ℕ) → Stays blocks after k n
shared_stays blocks client number flags size after e = shared_in_stays blocks client number size (direction_of flags) after e

filled_in_stays : (blocks : List Block) (client number at : ℕ) (bytes : List ℕ) (o : Option Block) (after : List Block) → block_at blocks client number ≡ o
    → fill_in blocks client number at bytes o ≡ Ok after → (k n : ℕ) → Stays blocks after k n
filled_in_stays blocks client number at bytes None after there e k n = refused ITEM_NOT_FOUND after e
filled_in_stays blocks client number at bytes (Some x) after there e k n =
    let done : Result (List Block) Code = Ok (with_bytes blocks client number at bytes) in
    cond_both (nat_le (at + length bytes) (length x.bytes)) done (Err EXCESS_DATA) (λ (r : Result (List Block) Code). r ≡ Ok after → Stays blocks after k n)
    (λ fit ok. subst (λ (bs : List Block). Stays blocks bs k n) (ok_is done (with_bytes blocks client number at bytes) after refl ok)
    (written_stays blocks client number at bytes
    (λ y found. omega (arith, leb-true (at + length bytes) (length x.bytes) fit, ap (λ (b : Block). length b.bytes) (some_is (block_at blocks client number) x y there found))) k n))
    (λ _. refused EXCESS_DATA after) e

pub filled_stays : (blocks : List Block) (client number at : ℕ) (bytes : List ℕ) (after : List Block) → fill_of blocks client number at bytes ≡ Ok after → (k n : ℕ) → Stays blocks after k n
filled_stays blocks client number at bytes after e k n =
    cond_both (nat_lt MAX_ASK_BYTES (length bytes)) (Err BAD_PARAMETERS) (fill_in blocks client number at bytes (block_at blocks client number))
    (λ (r : Result (List Block) Code). r ≡ Ok after → Stays blocks after k n)
    (λ _. refused BAD_PARAMETERS after)
    (λ _ ok. filled_in_stays blocks client number at bytes (block_at blocks client number) after refl ok k n) e

-- ---- what is delivered

takes_within : (x : Block) (r : Reference) (bytes : List ℕ) → fits x r ≡ true → takes_bytes (Ok x) r bytes ≡ true → start_of r + length bytes ≤ length x.bytes
takes_within x (Whole number) bytes fit takes =
    omega (arith, leb-true (length bytes) (length x.bytes) (and_parts (has_output (Some x.direction)) (nat_le (length bytes) (length x.bytes)) takes).1)
takes_within x (Part number way at size) bytes fit takes =
    omega (
      arith,
      leb-true (at + size) (length x.bytes) (and_parts (nat_le (at + size) (length x.bytes)) (allows_way x.direction (direction_of way)) fit).0,
      leb-true (length bytes) size (and_parts (has_output (direction_of way)) (nat_le (length bytes) size) takes).1,
    )

-- bytes are taken only where the reference fits its block
takes_fit : (x : Block) (r : Reference) (bytes : List ℕ) (fit : Bool) → takes_bytes (cond fit (Ok x) (Err BAD_PARAMETERS)) r bytes ≡ true → fit ≡ true
takes_fit x r bytes true takes = refl
takes_fit x r bytes false takes = absurd (both_ways false refl takes)

takes_found : (x : Block) (r : Reference) (bytes : List ℕ) → takes_bytes (check_in r (Some x)) r bytes ≡ true → (fits x r ≡ true) × (takes_bytes (Ok x) r bytes ≡ true)
takes_found x r bytes takes =
    let fit = takes_fit x r bytes (fits x r) takes in
    (fit, sym (ap (λ b. takes_bytes (cond b (Ok x) (Err BAD_PARAMETERS)) r bytes) fit) ∙ takes)

put_stays : (blocks : List Block) (client : ℕ) (r : Reference) (bytes : List ℕ) (k n : ℕ) → Stays blocks (put_of blocks client r bytes) k n
put_stays blocks client r bytes k n =
    cond_both (takes_bytes (check_of blocks client r) r bytes) (with_bytes blocks client (number_of r) (start_of r) bytes) blocks (λ after. Stays blocks after k n)
    (λ takes. written_stays blocks client (number_of r) (start_of r) bytes
    (λ x found. let taken = takes_found x r bytes (sym (ap (λ o. takes_bytes (check_in r o) r bytes) found) ∙ takes) in takes_within x r bytes taken.0 taken.1) k n)
    (λ _. stays_same blocks k n)

delivered_stays : (client : ℕ) (r : Option Reference) (s : Shown) (blocks : List Block) (k n : ℕ) → Stays blocks (delivered client r s blocks) k n
delivered_stays client None s blocks k n = stays_same blocks k n
delivered_stays client (Some r) shown.Nothing blocks k n = stays_same blocks k n
delivered_stays client (Some r) (shown.Value a b) blocks k n = stays_same blocks k n
delivered_stays client (Some r) (shown.Mem size bytes) blocks k n = put_stays blocks client r bytes k n
delivered_stays client (Some r) (shown.Size size) blocks k n = stays_same blocks k n

all_delivered_stays : (client : ℕ) (rs : References) (os : Outputs) (blocks : List Block) (k n : ℕ) → Stays blocks (all_delivered client rs os blocks) k n
all_delivered_stays client rs os blocks k n =
    let one : List Block = delivered client rs.p0 os.p0 blocks in
    let two : List Block = delivered client rs.p1 os.p1 one in
    let three : List Block = delivered client rs.p2 os.p2 two in
    let four : List Block = delivered client rs.p3 os.p3 three in
    stays_both blocks one four k n (delivered_stays client rs.p0 os.p0 blocks k n)
    (stays_both one two four k n (delivered_stays client rs.p1 os.p1 one k n)
    (stays_both two three four k n (delivered_stays client rs.p2 os.p2 two k n) (delivered_stays client rs.p3 os.p3 three k n)))

pub delivered_for_stays : (o : Option Operation) (os : Outputs) (blocks : List Block) (k n : ℕ) → Stays blocks (delivered_for o os blocks) k n
delivered_for_stays None os blocks k n = stays_same blocks k n
delivered_for_stays (Some o) os blocks k n = all_delivered_stays o.client o.references os blocks k n

-- ---- what references name stays

abbrev pub StaysAt : List Block → List Block → ℕ → Option Reference → Type 0
StaysAt before after client None = Unit {0}
StaysAt before after client (Some r) = Stays before after client (number_of r)

pub record AllStay (before after : List Block) (client : ℕ) (rs : References) : Type 0 where
  pub first : StaysAt before after client rs.p0
  pub second : StaysAt before after client rs.p1
  pub third : StaysAt before after client rs.p2
  pub fourth : StaysAt before after client rs.p3

at_any : (before after : List Block) (client : ℕ) → ((n : ℕ) → Stays before after client n) → (r : Option Reference) → StaysAt before after client r
at_any before after client stay None = tt
at_any before after client stay (Some r) = stay (number_of r)

-- where all stay
pub any_stay : (before after : List Block) (client : ℕ) (rs : References) → ((n : ℕ) → Stays before after client n) → AllStay before after client rs
any_stay before after client rs stay = record {
  first = at_any before after client stay rs.p0;
  second = at_any before after client stay rs.p1;
  third = at_any before after client stay rs.p2;
  fourth = at_any before after client stay rs.p3;
}

-- ---- a block is given up that isn't named

found_kept : (p q : Block → Bool) → ((x : Block) → p x ≡ true → q x ≡ false) → (xs : List Block) (b : Block) → find p xs ≡ Some b → find p (filter (λ x. not (q x)) xs) ≡ Some b
found_kept p q apart [] b e = absurd (nothing_found b e)
found_kept p q apart (x ∷ xs) b e =
    let rest : List Block = filter (λ y. not (q y)) xs in
    cond_both (not (q x)) (x ∷ rest) rest (λ ys. find p ys ≡ Some b)
    (λ _. ⊎_elim
    (λ (yes : p x ≡ true). cond-true (p x) (Some x) (find p rest) yes ∙ ap Some (found_here p x b xs e yes))
    (λ (no : p x ≡ false). cond-false (p x) (Some x) (find p rest) no ∙ found_kept p q apart xs b (found_later p x b xs e no))
    (cases_Bool (p x)))
    (λ goes. ⊎_elim
    (λ (yes : p x ≡ true). absurd (both_ways (not (q x)) goes (ap not (apart x yes))))
    (λ (no : p x ≡ false). found_kept p q apart xs b (found_later p x b xs e no))
    (cases_Bool (p x)))

and_false : (b : Bool) → (b && false) ≡ false
and_false true = refl
and_false false = refl

pub or_false : (a b : Bool) → (a || b) ≡ false → (a ≡ false) × (b ≡ false)
or_false true b e = absurd (both_ways true e refl)
or_false false b e = (refl, e)

-- a block of another number
other_number : (blocks : List Block) (client number k n : ℕ) → (n == number) ≡ false → Stays blocks (without_block blocks client number) k n
other_number blocks client number k n other b found = (
  b,
  found_kept (is_at k n) (is_at client number)
      (λ x here.
      let same : x.number ≡ n = eqb-true x.number n (and_parts (x.client == k) (x.number == n) here).1 in
      ap (λ m. (x.client == client) && (m == number)) same ∙ ap (λ e. (x.client == client) && e) other ∙ and_false (x.client == client))
      blocks b found,
  alike_self b,
)

-- a block of another client
other_client : (blocks : List Block) (client number k n : ℕ) → (k == client) ≡ false → Stays blocks (without_block blocks client number) k n
other_client blocks client number k n other b found = (
  b,
  found_kept (is_at k n) (is_at client number)
      (λ x here.
      let same : x.client ≡ k = eqb-true x.client k (and_parts (x.client == k) (x.number == n) here).0 in
      ap (λ m. (m == client) && (x.number == number)) same ∙ ap (λ e. e && (x.number == number)) other)
      blocks b found,
  alike_self b,
)

unnamed_stays : (blocks : List Block) (client number k : ℕ) (r : Option Reference) → names number r ≡ false → StaysAt blocks (without_block blocks client number) k r
unnamed_stays blocks client number k None e = tt
unnamed_stays blocks client number k (Some r) e = other_number blocks client number k (number_of r) e

unnamed_stay : (blocks : List Block) (client number k : ℕ) (rs : References) → name_block number rs ≡ false → AllStay blocks (without_block blocks client number) k rs
unnamed_stay blocks client number k rs e =
    let one = or_false (names number rs.p0 || names number rs.p1 || names number rs.p2) (names number rs.p3) e in
    let two = or_false (names number rs.p0 || names number rs.p1) (names number rs.p2) one.0 in
    let three = or_false (names number rs.p0) (names number rs.p1) two.0 in
    record {
      first = unnamed_stays blocks client number k rs.p0 three.0;
      second = unnamed_stays blocks client number k rs.p1 three.1;
      third = unnamed_stays blocks client number k rs.p2 two.1;
      fourth = unnamed_stays blocks client number k rs.p3 one.1;
    }

without_stay : (blocks : List Block) (client number : ℕ) (o : Operation) → is_naming client number o ≡ false → AllStay blocks (without_block blocks client number) o.client o.references
without_stay blocks client number o e = ⊎_elim
    (λ (yes : (o.client == client) ≡ true). unnamed_stay blocks client number o.client o.references (sym (ap (λ b. b && name_block number o.references) yes) ∙ e))
    (λ (no : (o.client == client) ≡ false). any_stay blocks (without_block blocks client number) o.client o.references (λ n. other_client blocks client number o.client n no))
    (cases_Bool (o.client == client))

-- of an operation that doesn't name it
pub unshared_stay : (blocks : List Block) (client number : ℕ) (named : Bool) (after : List Block) → unshare_of blocks client number named ≡ Ok after
    → (named ≡ false) × ((o : Operation) → is_naming client number o ≡ false → AllStay blocks after o.client o.references)
unshared_stay blocks client number named after e =
    let Leaves : Type 0 = (named ≡ false) × ((o : Operation) → is_naming client number o ≡ false → AllStay blocks after o.client o.references) in
    let P : Result (List Block) Code → Type 0 = λ r. r ≡ Ok after → Leaves in
    let done : Result (List Block) Code = Ok (without_block blocks client number) in
    cond_both (not (list_any (is_at client number) blocks)) (Err ITEM_NOT_FOUND) (cond named (Err BUSY) done) P (λ _. refused ITEM_NOT_FOUND after)
    (λ _. cond_both named (Err BUSY) done P (λ _. refused BUSY after)
    (λ free ok. (
      free,
      λ o other. subst (λ (bs : List Block). AllStay blocks bs o.client o.references) (ok_is done (without_block blocks client number) after refl ok)
          (without_stay blocks client number o other),
    ))) e

-- ---- what could be referred to can be

fits_alike : (b c : Block) (r : Reference) → IsAlike b c → fits c r ≡ fits b r
fits_alike b c (Whole number) alike = refl
fits_alike b c (Part number way at size) alike = ap (λ n. nat_le (at + size) n && allows_way c.direction (direction_of way)) alike.size
    ∙ ap (λ d. nat_le (at + size) (length b.bytes) && allows_way d (direction_of way)) alike.direction

some_none : (code : Code) → Some code ≡ None → ⊥
some_none code e = cc

fits_checked : (b : Block) (fit : Bool) → code_in (cond fit (Ok b) (Err BAD_PARAMETERS)) ≡ None → fit ≡ true
fits_checked b true e = refl
fits_checked b false e = absurd (some_none BAD_PARAMETERS e)

checked_stays : (before after : List Block) (client : ℕ) (r : Reference) → Stays before after client (number_of r) → (o : Option Block) → block_at before client (number_of r) ≡ o
    → code_in (check_in r o) ≡ None → code_in (check_of after client r) ≡ None
checked_stays before after client r stays None there e = absurd (some_none ITEM_NOT_FOUND e)
checked_stays before after client r stays (Some b) there e =
    let now = stays b there in
    ap (λ o. code_in (check_in r o)) now.1 ∙ ap (λ x. code_in (cond x (Ok now.0) (Err BAD_PARAMETERS))) (fits_alike b now.0 r now.2 ∙ fits_checked b (fits b r) e)

refusal_stays : (before after : List Block) (client : ℕ) (r : Option Reference) → StaysAt before after client r → refusal_of before client r ≡ None → refusal_of after client r ≡ None
refusal_stays before after client None stays e = refl
refusal_stays before after client (Some r) stays e = checked_stays before after client r stays (block_at before client (number_of r)) refl e

-- the refusal of four
abbrev refusal_by : (a b c d : Option Code) → Option Code
refusal_by a b c d =
    cond (is_missing a || is_missing b || is_missing c || is_missing d) (Some ITEM_NOT_FOUND) (cond (is_some a || is_some b || is_some c || is_some d) (Some BAD_PARAMETERS) None)

last_false : (x y : Bool) → cond x (Some ITEM_NOT_FOUND) (cond y (Some BAD_PARAMETERS) None) ≡ None → y ≡ false
last_false true y e = absurd (some_none ITEM_NOT_FOUND e)
last_false false true e = absurd (some_none BAD_PARAMETERS e)
last_false false false e = refl

none_is : (o : Option Code) → is_some o ≡ false → o ≡ None
none_is None e = refl
none_is (Some code) e = absurd (both_ways true e refl)

none_refused : (a b c d : Option Code) → refusal_by a b c d ≡ None → (a ≡ None) × (b ≡ None) × (c ≡ None) × (d ≡ None)
none_refused a b c d e =
    let all = last_false (is_missing a || is_missing b || is_missing c || is_missing d) (is_some a || is_some b || is_some c || is_some d) e in
    let one = or_false (is_some a || is_some b || is_some c) (is_some d) all in
    let two = or_false (is_some a || is_some b) (is_some c) one.0 in
    let three = or_false (is_some a) (is_some b) two.0 in
    (none_is a three.0, none_is b three.1, none_is c two.1, none_is d one.1)

all_none : (a b c d : Option Code) → a ≡ None → b ≡ None → c ≡ None → d ≡ None → refusal_by a b c d ≡ None
all_none a b c d ea eb ec ed = ap (λ x. refusal_by x b c d) ea ∙ ap (λ x. refusal_by None x c d) eb ∙ ap (λ x. refusal_by None None x d) ec ∙ ap (λ x. refusal_by None None None x) ed

pub usable_stays : (before after : List Block) (client : ℕ) (rs : References) → AllStay before after client rs → references_refusal before client rs ≡ None
    → references_refusal after client rs ≡ None
usable_stays before after client rs stay e =
    let each = none_refused (refusal_of before client rs.p0) (refusal_of before client rs.p1) (refusal_of before client rs.p2) (refusal_of before client rs.p3) e in
    all_none (refusal_of after client rs.p0) (refusal_of after client rs.p1) (refusal_of after client rs.p2) (refusal_of after client rs.p3)
    (refusal_stays before after client rs.p0 stay.first each.0)
    (refusal_stays before after client rs.p1 stay.second each.1)
    (refusal_stays before after client rs.p2 stay.third each.2)
    (refusal_stays before after client rs.p3 stay.fourth each.3)

-- ---- what takes bytes takes them

takes_alike : (b c : Block) (r : Reference) (bytes : List ℕ) → IsAlike b c → takes_bytes (Ok c) r bytes ≡ takes_bytes (Ok b) r bytes
takes_alike b c (Whole number) bytes alike = ap (λ d. has_output (Some d) && nat_le (length bytes) (length c.bytes)) alike.direction
    ∙ ap (λ n. has_output (Some b.direction) && nat_le (length bytes) n) alike.size
takes_alike b c (Part number way at size) bytes alike = refl

pub takes_stays : (before after : List Block) (client : ℕ) (r : Reference) (bytes : List ℕ) → Stays before after client (number_of r)
    → takes_bytes (check_of before client r) r bytes ≡ true → takes_bytes (check_of after client r) r bytes ≡ true
takes_stays before after client r bytes stays e = go (block_at before client (number_of r)) refl e
  where
    go : (o : Option Block) → block_at before client (number_of r) ≡ o → takes_bytes (check_in r o) r bytes ≡ true → takes_bytes (check_of after client r) r bytes ≡ true
    go None there takes = absurd (both_ways false refl takes)
    go (Some b) there takes =
        let now = stays b there in
        let taken = takes_found b r bytes takes in
        ap (λ o. takes_bytes (check_in r o) r bytes) now.1
        ∙ ap (λ x. takes_bytes (cond x (Ok now.0) (Err BAD_PARAMETERS)) r bytes) (fits_alike b now.0 r now.2 ∙ taken.0)
        ∙ takes_alike b now.0 r bytes now.2
        ∙ taken.1
