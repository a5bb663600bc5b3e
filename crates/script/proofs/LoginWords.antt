-- The word of a login: as the grammar has it, as it is computed, and as it is printed.
use Rattle.std.proofs.Common.{◌≡◌, ◌≢◌, ℕ, zero, suc, ◌+◌, ◌-◌, ◌*◌, ◌<◌, ◌≤◌, Bool, true, false, cond, ◌&&◌, eqb, ltb, List, [], ◌∷◌, ◌++◌, length, take, drop, get_or, Option, Some, None}
use Rattle.std.proofs.Common.{refl, sym, ap, subst, ◌∙◌, arith, inl, inr}
use Rattle.std.specs.Prelude.{All, codes, if◌then◌else◌}
use Rattle.std.specs.List.{AllByRecursion, list_all}
use Rattle.std.proofs.lemmas.Bool.{and_parts, eqb-true, ltb-false, ltb-true}
use Rattle.std.proofs.lemmas.Bool.Decides.{nat_tests}
use Rattle.std.proofs.lemmas.List.{take-append-drop}
use Rattle.std.proofs.lemmas.List.Elements.{All-from_recursion}
use Rattle.std.proofs.lemmas.Option.{cond_some, none-some, same_Some}
use Rattle.uuid.specs.Text.{by_index, byte_of_digits, digit_place, digits_of, has_hyphens, hex_digit, hyphen, hyphenated_text}
use Rattle.uuid.specs.Text.{is_hex_digit, is_hyphen_place, lower, nibble, parsed, parsed_hyphenated, parsed_simple, value_of}
use Rattle.uuid.proofs.RoundTrips.{parses_hyphenated}
use Rattle.uuid.proofs.TextLemmas.{by_index_length, nibble_small}
use Rattle.app_api.specs.declared.login.Login.{Login}
use Rattle.app_api.specs.declared.login.Login.TheVariants.{User, Group, App}
use Rattle.app_api.specs.declared.param.Param.{Param}
use Rattle.app_api.specs.declared.param.Param.TheVariants.{Nothing, ValueIn, ValueOut, ValueInOut, MemIn, MemOut, MemInOut, Whole, Part}
use Rattle.script.specs.Grammar.{IsLogin}
use Rattle.script.specs.Lines.{all_ascii, begins_with, id_of, login_in, rest_after}
use Rattle.script.specs.Numbers.{number32_of}
use Rattle.script.specs.Words.{IsNumber32, IsParam, part_front}
use Rattle.script.proofs.Cuts.{all_append}
use Rattle.script.proofs.Decimals.{IsGraphic, number32_again, number32_reads}
use Rattle.script.proofs.HexDigits.{chosen}
use Rattle.script.proofs.ParamWords.{by_way, is_word, some_bind}

-- ---- what is read as a login is its word

front_is : (front word : List ℕ) → begins_with front word ≡ true → word ≡ front ++ rest_after front word
front_is front word e = sym (take-append-drop (length front) word) ∙ ap (λ (w : List ℕ). w ++ drop (length front) word) (is_word (take (length front) word) front e)

alone : (word other : List ℕ) → word ≡ other → ◌≡◌ {A = List (List ℕ)} (word ∷ []) (other ∷ [])
alone word other e = ap (λ (w : List ℕ). w ∷ []) e

-- where a test is true, or there is nothing
if_some : {X : Type 0} (b : Bool) (o : Option X) (x : X) → cond b o None ≡ Some x → o ≡ Some x
if_some true o x e = e
if_some false o x e = absurd (none-some x e)

id_said : (word id : List ℕ) → id_of word ≡ Some id → parsed word ≡ Some id
id_said word id e = if_some (all_ascii word) (parsed word) id e

-- the login that a word says, where it says one
abbrev pub Says : List ℕ → Option Login → Type 0
Says word None = Unit {0}
Says word (Some login) = IsLogin (word ∷ []) login

pub login_reads : (word : List ℕ) (said : Option Login) → login_in word ≡ Some said → Says word said
unfolding login_in
login_reads word said e =
    elim (chosen (begins_with (codes "user:") word) _ _ _ e) [
      | inl h ↦ let n = some_bind (number32_of (rest_after (codes "user:") word)) _ said h.1 in
          subst (Says word) (same_Some (Some (User n.0)) said n.2)
          (rest_after (codes "user:") word, number32_reads (rest_after (codes "user:") word) n.0 n.1, alone word _ (front_is (codes "user:") word h.0))
      | inr f ↦ elim (chosen (begins_with (codes "group:") word) _ _ _ f.1) [
        | inl h ↦ let n = some_bind (number32_of (rest_after (codes "group:") word)) _ said h.1 in
            subst (Says word) (same_Some (Some (Group n.0)) said n.2)
            (rest_after (codes "group:") word, number32_reads (rest_after (codes "group:") word) n.0 n.1, alone word _ (front_is (codes "group:") word h.0))
        | inr g ↦ elim (chosen (begins_with (codes "app:") word) _ _ _ g.1) [
          | inl h ↦ let id = some_bind (id_of (rest_after (codes "app:") word)) _ said h.1 in
              subst (Says word) (same_Some (Some (App id.0)) said id.2)
              (rest_after (codes "app:") word, id_said (rest_after (codes "app:") word) id.0 id.1, alone word _ (front_is (codes "app:") word h.0))
          | inr none ↦ subst (Says word) (same_Some None said none.1) tt
        ]
      ]
    ]

-- ---- the word of a login is read as it

pub user_again : (digits : List ℕ) (n : ℕ) → IsNumber32 digits n → login_in (codes "user:" ++ digits) ≡ Some (Some (User n))
unfolding login_in
user_again digits n is = rw (number32_again digits n is) refl

pub group_again : (digits : List ℕ) (n : ℕ) → IsNumber32 digits n → login_in (codes "group:" ++ digits) ≡ Some (Some (Group n))
unfolding login_in
group_again digits n is = rw (number32_again digits n is) refl

pub app_again : (text id : List ℕ) → all_ascii text ≡ true → parsed text ≡ Some id → login_in (codes "app:" ++ text) ≡ Some (Some (App id))
unfolding login_in
app_again text id ascii is = rw (ascii, is) refl

part_again : (x y z : List ℕ) (way : ℕ) → 1 ≤ way → way ≤ 3 → login_in (part_front way ++ x ++ codes ":" ++ y ++ codes ":" ++ z) ≡ Some None
unfolding login_in
part_again x y z way some most = by_way (λ w. login_in (part_front w ++ x ++ codes ":" ++ y ++ codes ":" ++ z) ≡ Some None) way some most refl refl refl

-- the word of a parameter says no login
pub param_again : (word : List ℕ) (param : Param) (fill : ℕ) → IsParam word param fill → login_in word ≡ Some None
unfolding login_in IsParam
param_again word Nothing fill h = ap login_in h.0
param_again word (ValueIn a b) fill h = ap login_in h.0.4
param_again word ValueOut fill h = ap login_in h.0
param_again word (ValueInOut a b) fill h = ap login_in h.0.4
param_again word (MemIn bytes) fill (inl h) = ap login_in h.0.2
param_again word (MemIn bytes) fill (inr h) = ap login_in h.5
param_again word (MemOut size) fill h = ap login_in h.0.2
param_again word (MemInOut bytes) fill h = ap login_in h.0.2
param_again word (Whole block) fill h = ap login_in h.0.2
param_again word (Part block way at size) fill h = ap login_in h.0.8 ∙ part_again h.0.2 h.0.3 h.0.4 way h.0.0 h.0.1

-- ---- an identifier that is read is sixteen bytes

by_index_all : {X : Type 0} (P : X → Type 0) (n : ℕ) (f : ℕ → X) → ((k : ℕ) → k < n → P (f k)) → AllByRecursion P (by_index n f)
unfolding by_index
by_index_all P zero f h = tt
by_index_all P (suc n) f h = all_append P (by_index n f) (f n ∷ []) (by_index_all P n f (λ k below. h k (omega (arith, below)))) (h n (omega arith), tt)

value_small : (c : ℕ) → is_hex_digit c ≡ true → value_of c < 16
value_small c hex = grind (arith, nat_tests)

values_small : (hex : List ℕ) → list_all is_hex_digit hex ≡ true → AllByRecursion (λ c. value_of c < 16) hex
values_small [] e = tt
values_small (c ∷ cs) e = let p = and_parts (is_hex_digit c) (list_all is_hex_digit cs) e in (value_small c p.0, values_small cs p.1)

byte_small : (hex : List ℕ) → length hex ≡ 32 → AllByRecursion (λ c. value_of c < 16) hex → (k : ℕ) → k < 16 → byte_of_digits hex k < 256
byte_small hex len small k below =
    let high : value_of (get_or hex (2 * k) 0) < 16 = All-from_recursion (λ c. value_of c < 16) hex small (2 * k) 0 (omega (arith, len, below)) in
    let low : value_of (get_or hex (2 * k + 1) 0) < 16 = All-from_recursion (λ c. value_of c < 16) hex small (2 * k + 1) 0 (omega (arith, len, below)) in
    omega (arith, high, low)

AreSixteen : List ℕ → Type 0
AreSixteen id = (length id ≡ 16) × All (λ b. b < 256) id

simple_sixteen : (hex id : List ℕ) → parsed_simple hex ≡ Some id → AreSixteen id
unfolding AreSixteen
simple_sixteen hex id e =
    let c = cond_some (eqb (length hex) 32 && list_all is_hex_digit hex) (by_index 16 (byte_of_digits hex)) id e in
    let p = and_parts (eqb (length hex) 32) (list_all is_hex_digit hex) c.0 in
    let each = by_index_all (λ b. b < 256) 16 (byte_of_digits hex) (byte_small hex (eqb-true (length hex) 32 p.0) (values_small hex p.1)) in
    subst (λ (xs : List ℕ). (length xs ≡ 16) × All (λ b. b < 256) xs) c.1
    (by_index_length 16 (byte_of_digits hex), All-from_recursion (λ b. b < 256) (by_index 16 (byte_of_digits hex)) each)

hyphenated_sixteen : (s id : List ℕ) → parsed_hyphenated s ≡ Some id → AreSixteen id
hyphenated_sixteen s id e = simple_sixteen (digits_of s) id (if_some (eqb (length s) 36 && has_hyphens s) (parsed_simple (digits_of s)) id e)

parsed_sixteen : (text id : List ℕ) → parsed text ≡ Some id → AreSixteen id
parsed_sixteen text id e =
    elim (chosen (eqb (length text) 32) _ _ _ e) [
      | inl h ↦ simple_sixteen text id h.1
      | inr f ↦ elim (chosen (eqb (length text) 36) _ _ _ f.1) [
        | inl h ↦ hyphenated_sixteen text id h.1
        | inr g ↦ elim (chosen (eqb (length text) 38) _ _ _ g.1) [
          | inl h ↦ hyphenated_sixteen (take 36 (drop 1 text)) id (if_some _ (parsed_hyphenated (take 36 (drop 1 text))) id h.1)
          | inr i ↦ elim (chosen (eqb (length text) 45) _ _ _ i.1) [
            | inl h ↦ hyphenated_sixteen (drop 9 text) id (if_some _ (parsed_hyphenated (drop 9 text)) id h.1)
            | inr none ↦ absurd (none-some id none.1)
          ]
        ]
      ]
    ]

-- ---- its printed text

-- an identifier that some text says is said by its printed text
pub id_printed : (text id : List ℕ) → parsed text ≡ Some id → parsed (hyphenated_text lower id) ≡ Some id
unfolding AreSixteen
id_printed text id e = let fits = parsed_sixteen text id e in sym (parses_hyphenated lower id (inl refl) fits.0 fits.1)

digit_graphic : (d : ℕ) → d < 16 → IsGraphic (hex_digit lower d)
digit_graphic d small = by_test (ltb d 10) refl
  where
    by_test : (b : Bool) → ltb d 10 ≡ b → IsGraphic (cond b (48 + d) (lower + d - 10))
    by_test true e = let few = ltb-true d 10 e in (omega (arith, few), omega (arith, few))
    by_test false e = let many = ltb-false d 10 e in (omega (arith, many, small), omega (arith, many, small))

-- the byte at a place of it
abbrev printed_byte : List ℕ → ℕ → ℕ
printed_byte id k = if is_hyphen_place k then hyphen else hex_digit lower (nibble id (digit_place k))

id_graphic : (id : List ℕ) → AllByRecursion IsGraphic (hyphenated_text lower id)
id_graphic id = by_index_all IsGraphic 36 (printed_byte id) (λ k below. by_test (is_hyphen_place k) (nibble id (digit_place k)) (nibble_small id (digit_place k)))
  where
    by_test : (b : Bool) (d : ℕ) → d < 16 → IsGraphic (cond b hyphen (hex_digit lower d))
    by_test true d small = (omega arith, omega arith)
    by_test false d small = digit_graphic d small

-- it is a word of printed bytes
pub id_word : (id : List ℕ) → (hyphenated_text lower id ≢ []) × AllByRecursion IsGraphic (hyphenated_text lower id)
id_word id = ((λ none. omega (arith, ap length none, by_index_length 36 (printed_byte id))), id_graphic id)
