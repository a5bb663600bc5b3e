-- The canonical words of a parameter and of a call say it, and are of printed bytes.
use Rattle.std.proofs.Common.{◌≡◌, ◌≢◌, ℕ, zero, suc, ◌^◌, ◌<◌, ◌⊎◌, Bool, true, false, cond, eqb, List, [], ◌∷◌, ◌++◌, length}
use Rattle.std.proofs.Common.{replicate, Result, Ok, refl, sym, ap, subst, ◌∙◌, arith, inl, inr}
use Rattle.std.specs.Prelude.{codes}
use Rattle.std.specs.Fmt.{decimal}
use Rattle.std.specs.List.{AllByRecursion}
use Rattle.std.proofs.lemmas.Bool.{and_parts}
use Rattle.std.proofs.lemmas.Fmt.{decimal_nonempty}
use Rattle.std.proofs.lemmas.List.Elements.{recursion_from_All}
use Rattle.hex.specs.Hex.{decode_of, decode_pairs, encode_lower, IsBytes}
use Rattle.hex.specs.declared.error.FromHexError.{FromHexError}
use Rattle.hex.proofs.HexLemmas.{decode_of-encode_lower, decode_of-ok}
use Rattle.uuid.specs.Text.{hyphenated_text, lower}
use Rattle.app_api.specs.declared.call.Call.{Call}
use Rattle.app_api.specs.declared.call.Call.TheVariants as calls
use Rattle.app_api.specs.declared.login.Login.{Login}
use Rattle.app_api.specs.declared.login.Login.TheVariants.{Public, User, Group, App}
use Rattle.app_api.specs.declared.param.Param.{Param}
use Rattle.app_api.specs.declared.param.Param.TheVariants.{Nothing as NoParam, ValueIn, ValueOut, ValueInOut, MemIn, MemOut, MemInOut, Whole as WholeBlock, Part}
use Rattle.app_api.specs.Hosts.{IsDigit, IsLowercase, IsName}
use Rattle.app_api.specs.Params.{params_of}
use Rattle.script.specs.Canonical.{are_none, call_words, is_none, login_words, param_word, params_words}
use Rattle.script.specs.Grammar.{IsCall, IsCallLine, IsLogin, IsMemoryCall, post_words}
use Rattle.script.specs.Words.{AreParams, IsNumber32, IsParam, IsWord}
use Rattle.script.proofs.Cuts.{all_append, all_weaker}
use Rattle.script.proofs.Decimals.{IsGraphic, IsPartByte, decimal_number, digits_part}
use Rattle.script.proofs.HexDigits.{hex_part}
use Rattle.script.proofs.LoginWords.{id_printed, id_word}
use Rattle.script.proofs.ParamWords.{are_graphic, graphic_word, param_graphic}

-- ---- printed words

-- a word of printed bytes
abbrev pub IsInk : List ℕ → Type 0
IsInk word = (word ≢ []) × AllByRecursion IsGraphic word

pub ink_word : (word : List ℕ) → IsInk word → IsWord word
ink_word word h = (h.0, all_weaker IsGraphic (λ c. c ≢ 32) (λ c p e. omega (arith, p.0)) word h.1)

pub decimal_ink : (n : ℕ) → n < 2 ^ 64 → IsInk (decimal n)
decimal_ink n small =
    ((λ e. omega (arith, ap length e, decimal_nonempty n small)), all_weaker _ IsGraphic (λ c p. p.0) (decimal n) (digits_part (decimal n) (decimal_number n small).0.1))

name_byte : (c : ℕ) → IsLowercase c ⊎ IsDigit c → IsGraphic c
name_byte c (inl h) = (omega (arith, h.0), omega (arith, h.1))
name_byte c (inr h) = (omega (arith, h.0), omega (arith, h.1))

pub name_ink : (name : List ℕ) → IsName name → IsInk name
name_ink name h =
    ((λ e. omega (arith, ap length e, h.some)), all_weaker (λ c. IsLowercase c ⊎ IsDigit c) IsGraphic name_byte name (recursion_from_All (λ c. IsLowercase c ⊎ IsDigit c) name h.each))

-- ---- numbers

number32_fits : (digits : List ℕ) (n : ℕ) → IsNumber32 digits n → n < 2 ^ 64
number32_fits digits n h = omega (arith, h.1)

number32_printed : (digits : List ℕ) (n : ℕ) → IsNumber32 digits n → IsNumber32 (decimal n) n
number32_printed digits n h = (decimal_number n (number32_fits digits n h), h.1)

-- ---- parameters

abbrev pub CanPrint : Param → Type 0
CanPrint param = IsParam (param_word param) param 0

byte_bytes : (digits : List ℕ) (byte : ℕ) → decode_of digits ≡ Ok (byte ∷ []) → byte < 256
byte_bytes digits byte e = (decode_of-ok digits (byte ∷ []) e).3 0

filled_bytes : (n byte : ℕ) → byte < 256 → IsBytes (replicate n byte)
filled_bytes zero byte small i = omega arith
filled_bytes (suc n) byte small zero = small
filled_bytes (suc n) byte small (suc i) = filled_bytes n byte small i

-- what some word says is said by its canonical word, for which nothing is filled in
can_print : (word : List ℕ) (param : Param) (fill : ℕ) → IsParam word param fill → CanPrint param
unfolding IsParam
can_print word NoParam fill h = (refl, refl)
can_print word (ValueIn a b) fill h = ((decimal a, decimal b, number32_printed h.0.0 a h.0.2, number32_printed h.0.1 b h.0.3, refl), refl)
can_print word ValueOut fill h = (refl, refl)
can_print word (ValueInOut a b) fill h = ((decimal a, decimal b, number32_printed h.0.0 a h.0.2, number32_printed h.0.1 b h.0.3, refl), refl)
can_print word (MemIn bytes) fill (inl h) = inl ((encode_lower bytes, decode_of-encode_lower bytes (decode_of-ok h.0.0 bytes h.0.1).3, refl), refl)
can_print word (MemIn bytes) fill (inr h) =
    let all : IsBytes bytes = subst IsBytes (sym h.6) (filled_bytes fill h.0 (byte_bytes h.2 h.0 h.4)) in
    inl ((encode_lower bytes, decode_of-encode_lower bytes all, refl), refl)
can_print word (MemOut size) fill h = ((decimal size, number32_printed h.0.0 size h.0.1, refl), refl)
can_print word (MemInOut bytes) fill h = ((encode_lower bytes, decode_of-encode_lower bytes (decode_of-ok h.0.0 bytes h.0.1).3, refl), refl)
can_print word (WholeBlock block) fill h = ((decimal block, number32_printed h.0.0 block h.0.1, refl), refl)
can_print word (Part block way at size) fill h = (
  (
    h.0.0,
    h.0.1,
    decimal block,
    decimal at,
    decimal size,
    number32_printed h.0.2 block h.0.5,
    number32_printed h.0.3 at h.0.6,
    number32_printed h.0.4 size h.0.7,
    refl,
  ),
  refl,
)

pub none_prints : CanPrint NoParam
unfolding IsParam
none_prints = (refl, refl)

can_print_each : (words : List (List ℕ)) (params : List Param) (fills : ℕ) → AreParams words params fills → AllByRecursion CanPrint params
unfolding AreParams
can_print_each [] [] fills h = tt
can_print_each [] (param ∷ params) fills h = (subst CanPrint (sym h.0) none_prints, can_print_each [] params fills h.1)
can_print_each (word ∷ words) [] fills h = absurd h
can_print_each (word ∷ words) (param ∷ params) fills h = (can_print word param h.0 h.2, can_print_each words params h.1 h.3)

is_nothing : (param : Param) → is_none param ≡ true → param ≡ NoParam
is_nothing NoParam e = refl
is_nothing (ValueIn a b) e = absurd cc
is_nothing ValueOut e = absurd cc
is_nothing (ValueInOut a b) e = absurd cc
is_nothing (MemIn bytes) e = absurd cc
is_nothing (MemOut size) e = absurd cc
is_nothing (MemInOut bytes) e = absurd cc
is_nothing (WholeBlock block) e = absurd cc
is_nothing (Part block way at size) e = absurd cc

all_none : (params : List Param) → are_none params ≡ true → AreParams [] params 0
unfolding AreParams
all_none [] e = refl
all_none (param ∷ params) e = let p = and_parts (is_none param) (are_none params) e in (is_nothing param p.0, all_none params p.1)

pub params_printed : (params : List Param) → AllByRecursion CanPrint params → AreParams (params_words params) params 0
unfolding AreParams
params_printed [] h = refl
params_printed (param ∷ params) h = by_test (are_none (param ∷ params)) refl (params_printed params h.1)
  where
    by_test : (b : Bool) → are_none (param ∷ params) ≡ b → AreParams (params_words params) params 0 → AreParams (cond b [] (param_word param ∷ params_words params)) (param ∷ params) 0
    by_test true e others = all_none (param ∷ params) e
    by_test false e others = (0, 0, h.0, others, refl)

some_part : (input output : Bool) (v w x y z : List ℕ) → cond input (codes "si:") (cond output (codes "so:") (codes "sio:")) ++ v ++ w ++ x ++ y ++ z ≢ []
some_part true output v w x y z e = cc
some_part false true v w x y z e = cc
some_part false false v w x y z e = cc

some_word : (param : Param) → param_word param ≢ []
some_word NoParam e = cc
some_word (ValueIn a b) e = cc
some_word ValueOut e = cc
some_word (ValueInOut a b) e = cc
some_word (MemIn bytes) e = cc
some_word (MemOut size) e = cc
some_word (MemInOut bytes) e = cc
some_word (WholeBlock block) e = cc
some_word (Part block way at size) e = some_part (eqb way 1) (eqb way 2) (decimal block) (codes ":") (decimal at) (codes ":") (decimal size) e

params_ink : (params : List Param) → AllByRecursion CanPrint params → AllByRecursion IsInk (params_words params)
params_ink [] h = tt
params_ink (param ∷ params) h = by_test (are_none (param ∷ params)) (params_ink params h.1)
  where
    by_test : (b : Bool) → AllByRecursion IsInk (params_words params) → AllByRecursion IsInk (cond b [] (param_word param ∷ params_words params))
    by_test true others = tt
    by_test false others = ((some_word param, param_graphic (param_word param) param 0 h.0), others)

-- ---- calls

pub literal : (c : ℕ) (cs : List ℕ) → are_graphic (c ∷ cs) ≡ true → IsInk (c ∷ cs)
literal c cs e = ((λ h. cc), graphic_word (c ∷ cs) e)

front_ink : (front rest : List ℕ) → are_graphic (front) ≡ true → IsInk rest → IsInk (front ++ rest)
front_ink [] rest e h = h
front_ink (c ∷ cs) rest e h = ((λ none. cc), all_append IsGraphic (c ∷ cs) rest (graphic_word (c ∷ cs) e) h.1)

login_printed : (words : List (List ℕ)) (login : Login) → IsLogin words login → IsLogin (login_words login) login × AllByRecursion IsInk (login_words login)
login_printed words Public h = (refl, tt)
login_printed words (User n) h =
    ((decimal n, number32_printed h.0 n h.1, refl), (front_ink (codes "user:") (decimal n) refl (decimal_ink n (number32_fits h.0 n h.1)), tt))
login_printed words (Group n) h =
    ((decimal n, number32_printed h.0 n h.1, refl), (front_ink (codes "group:") (decimal n) refl (decimal_ink n (number32_fits h.0 n h.1)), tt))
login_printed words (App id) h =
    ((hyphenated_text lower id, id_printed h.0 id h.1, refl), (front_ink (codes "app:") (hyphenated_text lower id) refl (id_word id), tt))

call_printed : (words : List (List ℕ)) (call : Call) (fill : ℕ) → IsCall words call fill → IsCall (call_words call) call 0 × AllByRecursion IsInk (call_words call)
unfolding IsCall
call_printed words (calls.Open label login params) fill h =
    let who = login_printed h.1 login h.4 in
    let each = can_print_each h.2 (params_of params) fill h.5 in (
      (decimal label, login_words login, params_words (params_of params), number32_printed h.0 label h.3, who.0, params_printed (params_of params) each, refl),
      (
        literal 111 (codes "pen") refl,
        (
          decimal_ink label (number32_fits h.0 label h.3),
          all_append IsInk (login_words login) (params_words (params_of params)) who.1 (params_ink (params_of params) each),
        ),
      ),
    )
call_printed words (calls.Invoke label command params) fill h =
    let each = can_print_each h.2 (params_of params) fill h.5 in (
      (
        decimal label,
        decimal command,
        params_words (params_of params),
        number32_printed h.0 label h.3,
        number32_printed h.1 command h.4,
        params_printed (params_of params) each,
        refl,
      ),
      (
        literal 105 (codes "nvoke") refl,
        (
          decimal_ink label (number32_fits h.0 label h.3),
          (
            decimal_ink command (number32_fits h.1 command h.4),
            params_ink (params_of params) each,
          ),
        ),
      ),
    )
call_printed words (calls.Close label) fill h = ((decimal label, number32_printed h.0 label h.1, refl, refl), (literal 99 (codes "lose") refl, (decimal_ink label (number32_fits h.0 label h.1), tt)))
call_printed words (calls.Share block flags size) fill h = absurd h
call_printed words (calls.Fill block at bytes) fill h = absurd h
call_printed words (calls.Show block) fill h = absurd h
call_printed words (calls.Unshare block) fill h = absurd h

number32_ink : (digits : List ℕ) (n : ℕ) → IsNumber32 digits n → IsInk (decimal n)
number32_ink digits n h = decimal_ink n (number32_fits digits n h)

hex_ink : (bytes : List ℕ) → decode_of (encode_lower bytes) ≡ Ok bytes → bytes ≢ [] → IsInk (encode_lower bytes)
unfolding decode_pairs
hex_ink bytes e some = (
  (λ none. some (let same : ◌≡◌ {A = Result (List ℕ) FromHexError} (Ok bytes) (Ok []) = sym e ∙ ap decode_of none in cc)),
  all_weaker IsPartByte IsGraphic (λ c p. p.0) (encode_lower bytes) (hex_part (encode_lower bytes) bytes e),
)

memory_printed : (words : List (List ℕ)) (call : Call) → IsMemoryCall words call → IsMemoryCall (call_words call) call × AllByRecursion IsInk (call_words call)
unfolding IsMemoryCall
memory_printed words (calls.Open label login params) h = absurd h
memory_printed words (calls.Invoke label command params) h = absurd h
memory_printed words (calls.Close label) h = absurd h
memory_printed words (calls.Share block flags size) h = (
  (
    decimal block,
    decimal flags,
    decimal size,
    number32_printed h.0 block h.3,
    number32_printed h.1 flags h.4,
    number32_printed h.2 size h.5,
    refl,
  ),
  (literal 115 (codes "hare") refl, (number32_ink h.0 block h.3, (number32_ink h.1 flags h.4, (number32_ink h.2 size h.5, tt)))),
)
memory_printed words (calls.Fill block at bytes) h =
    let again = decode_of-encode_lower bytes (decode_of-ok h.2 bytes h.5).3 in (
      (
        decimal block,
        decimal at,
        encode_lower bytes,
        number32_printed h.0 block h.3,
        number32_printed h.1 at h.4,
        again,
        h.6,
        refl,
      ),
      (literal 102 (codes "ill") refl, (number32_ink h.0 block h.3, (number32_ink h.1 at h.4, (hex_ink bytes again h.6, tt)))),
    )
memory_printed words (calls.Show block) h =
    ((decimal block, number32_printed h.0 block h.1, refl), (literal 115 (codes "how") refl, (number32_ink h.0 block h.1, tt)))
memory_printed words (calls.Unshare block) h =
    ((decimal block, number32_printed h.0 block h.1, refl), (literal 117 (codes "nshare") refl, (number32_ink h.0 block h.1, tt)))

post_ink : (post : Bool) (words : List (List ℕ)) → AllByRecursion IsInk words → AllByRecursion IsInk (post_words post ++ words)
post_ink true words h = (literal 112 (codes "ost") refl, h)
post_ink false words h = h

-- the words of a call after the name of its application are said by its canonical words
pub call_line_printed : (words : List (List ℕ)) (post : Bool) (call : Call) (fill : ℕ) → IsCallLine words post call fill
    → IsCallLine (post_words post ++ call_words call) post call 0 × AllByRecursion IsInk (post_words post ++ call_words call)
call_line_printed words post call fill (inl h) = let c = call_printed h.0 call fill h.1 in (inl (call_words call, c.0, refl), post_ink post (call_words call) c.1)
call_line_printed words true call fill (inr h) = let not : true ≡ false = h.1 in absurd cc
call_line_printed words false call fill (inr h) = let m = memory_printed words call h.0 in (inr (m.0, refl, refl), m.1)
