-- The word by which a line names a host.
use Rattle.std.proofs.Common.{◌≡◌, ◌≢◌, ℕ, zero, suc, ◌+◌, ◌<◌, ◌≤◌, ◌⊎◌, Bool, true, false, cond, eqb, List, [], ◌∷◌, length}
use Rattle.std.proofs.Common.{map, get_or, Option, Some, None, refl, sym, ap, subst, ◌∙◌, arith, inl, inr}
use Rattle.std.specs.Prelude.{codes, slice_get}
use Rattle.std.specs.Option.{option_map}
use Rattle.std.specs.Str.{bytes_eq}
use Rattle.std.proofs.lemmas.Bool.{cond-true, eqb-true, false_from_ne_true}
use Rattle.std.proofs.lemmas.Option.{get_or_from_slice_get, none-some, same_Some, slice_get-map, slice_get_within}
use Rattle.std.proofs.lemmas.Slice.Eq.{bytes_eq-Decides}
use Rattle.uuid.specs.Text.{parsed}
use Rattle.app_api.specs.declared.host.Host.{Host}
use Rattle.app_api.specs.Hosts.{HostsFit, IsApart, IsName}
use Rattle.script.specs.Grammar.{IsHost}
use Rattle.script.specs.Lines.{all_ascii, host_at, id_at, id_of, index_from, or_else}
use Rattle.script.proofs.HexDigits.{chosen}
use Rattle.script.proofs.ParamWords.{is_word, option_map_some}

-- ---- the first that is the word

index_reads : (others : List (List ℕ)) (from app : ℕ) (word : List ℕ) → index_from from others word ≡ Some app → (k : ℕ) × (app ≡ from + k) × (slice_get others k ≡ Some word)
index_reads [] from app word e = absurd (none-some app e)
index_reads (other ∷ others) from app word e =
    elim (chosen (bytes_eq other word) _ _ _ e) [
      | inl here ↦ let same : from ≡ app = same_Some from app here.1 in (0, omega arith, ap Some (is_word other word here.0))
      | inr there ↦ let r = index_reads others (from + 1) app word there.1 in (suc r.0, omega (arith, r.1), r.2)
    ]

first_reads : (others : List (List ℕ)) (app : ℕ) (word : List ℕ) → index_from 0 others word ≡ Some app → slice_get others app ≡ Some word
first_reads others app word e =
    let r = index_reads others 0 app word e in
    let same : r.0 ≡ app = omega (arith, r.1) in
    subst (λ (k : ℕ). slice_get others k ≡ Some word) same r.2

index_again : (others : List (List ℕ)) (from k : ℕ) (word : List ℕ) → slice_get others k ≡ Some word → ((j : ℕ) → j < k → slice_get others j ≢ Some word)
    → index_from from others word ≡ Some (from + k)
index_again [] from k word e before = absurd (none-some word e)
index_again (other ∷ others) from zero word e before =
    let same : bytes_eq other word ≡ true = (bytes_eq-Decides other word).1 (same_Some other word e) in
    let sum : from ≡ from + 0 = omega arith in
    rw same (ap Some sum)
index_again (other ∷ others) from (suc k) word e before =
    let differs : bytes_eq other word ≡ false = false_from_ne_true (bytes_eq other word) (λ t. before 0 (omega arith) (ap Some (is_word other word t))) in
    let sum : from + 1 + k ≡ from + suc k = omega arith in
    rw differs (index_again others (from + 1) k word e (λ j below. before (suc j) (omega arith)) ∙ ap Some sum)

index_none : (others : List (List ℕ)) (from : ℕ) (word : List ℕ) → ((k : ℕ) → slice_get others k ≢ Some word) → index_from from others word ≡ None
index_none [] from word none = refl
index_none (other ∷ others) from word none =
    let differs : bytes_eq other word ≡ false = false_from_ne_true (bytes_eq other word) (λ t. none 0 (ap Some (is_word other word t))) in
    rw differs (index_none others (from + 1) word (λ k. none (suc k)))

-- ---- what is known of a host

get_mapped : {A : Type 0} (f : Host A → List ℕ) (hosts : List (Host A)) (k : ℕ) (word : List ℕ) → slice_get (map f hosts) k ≡ Some word
    → (host : Host A) × (slice_get hosts k ≡ Some host) × (f host ≡ word)
get_mapped f hosts k word e = option_map_some f (slice_get hosts k) word (sym (slice_get-map f hosts k) ∙ e)

pub mapped_get : {A : Type 0} (f : Host A → List ℕ) (hosts : List (Host A)) (k : ℕ) (host : Host A) → slice_get hosts k ≡ Some host → slice_get (map f hosts) k ≡ Some (f host)
mapped_get f hosts k host e = slice_get-map f hosts k ∙ ap (option_map f) e

pub named_at : {A : Type 0} (hosts : List (Host A)) (k : ℕ) (host : Host A) → HostsFit hosts → slice_get hosts k ≡ Some host → IsName host.name
named_at {A} hosts k host fit e = subst (λ (h : Host A). IsName h.name) (get_or_from_slice_get hosts k host host e) (fit.named k host (slice_get_within hosts k host e))

apart_at : {A : Type 0} (hosts : List (Host A)) (i j : ℕ) (a b : Host A) → HostsFit hosts → i < j → slice_get hosts i ≡ Some a → slice_get hosts j ≡ Some b → IsApart a b
apart_at {A} hosts i j a b fit below ea eb =
    subst (λ (h : Host A). IsApart a h) (get_or_from_slice_get hosts j b a eb)
    (subst (λ (h : Host A). IsApart h (get_or hosts j a)) (get_or_from_slice_get hosts i a a ea) (fit.apart i j a below (slice_get_within hosts j b eb)))

first_named : {A : Type 0} (hosts : List (Host A)) (app : ℕ) (host : Host A) → HostsFit hosts → slice_get hosts app ≡ Some host → index_from 0 (map (λ h. h.name) hosts) host.name ≡ Some app
first_named {A} hosts app host fit slot =
    let name : Host A → List ℕ = λ h. h.name in
    let sum : 0 + app ≡ app = omega arith in
    index_again (map name hosts) 0 app host.name (mapped_get name hosts app host slot)
    (λ j below e. let g = get_mapped name hosts j host.name e in (apart_at hosts j app g.0 host fit below g.1 slot).names g.2)
    ∙ ap Some sum

first_identified : {A : Type 0} (hosts : List (Host A)) (app : ℕ) (host : Host A) → HostsFit hosts → slice_get hosts app ≡ Some host → index_from 0 (map (λ h. h.id) hosts) host.id ≡ Some app
first_identified {A} hosts app host fit slot =
    let id : Host A → List ℕ = λ h. h.id in
    let sum : 0 + app ≡ app = omega arith in
    index_again (map id hosts) 0 app host.id (mapped_get id hosts app host slot)
    (λ j below e. let g = get_mapped id hosts j host.id e in (apart_at hosts j app g.0 host fit below g.1 slot).ids g.2)
    ∙ ap Some sum

-- a text that says an identifier is longer than any name
parsed_long : (word id : List ℕ) → parsed word ≡ Some id → 32 ≤ length word
parsed_long word id e =
    elim (chosen (eqb (length word) 32) _ _ _ e) [
      | inl h ↦ omega (arith, eqb-true (length word) 32 h.0)
      | inr f ↦ elim (chosen (eqb (length word) 36) _ _ _ f.1) [
        | inl h ↦ omega (arith, eqb-true (length word) 36 h.0)
        | inr g ↦ elim (chosen (eqb (length word) 38) _ _ _ g.1) [
          | inl h ↦ omega (arith, eqb-true (length word) 38 h.0)
          | inr i ↦ elim (chosen (eqb (length word) 45) _ _ _ i.1) [
            | inl h ↦ omega (arith, eqb-true (length word) 45 h.0)
            | inr none ↦ absurd (none-some id none.1)
          ]
        ]
      ]
    ]

no_name : {A : Type 0} (hosts : List (Host A)) (word : List ℕ) → HostsFit hosts → 32 ≤ length word → (k : ℕ) → slice_get (map (λ h. h.name) hosts) k ≢ Some word
no_name {A} hosts word fit long k e =
    let g = get_mapped {A = A} (λ h. h.name) hosts k word e in
    let short = (named_at hosts k g.0 fit g.1).short in
    omega (arith, short, long, ap length g.2)

-- ---- the word of a host

or_some : {X : Type 0} (o p : Option X) (x : X) → or_else o p ≡ Some x → (o ≡ Some x) ⊎ (p ≡ Some x)
or_some (Some y) p x e = inl e
or_some None p x e = inr e

id_reads : {A : Type 0} (hosts : List (Host A)) (word : List ℕ) (o : Option (List ℕ)) (app : ℕ) → id_of word ≡ o → id_at hosts o ≡ Some app → IsHost hosts word app
id_reads hosts word None app is e = absurd (none-some app e)
id_reads {A} hosts word (Some id) app is e =
    let g = get_mapped {A = A} (λ h. h.id) hosts app id (first_reads (map (λ (h : Host A). h.id) hosts) app id e) in
    let said : parsed word ≡ Some id = by_test (all_ascii word) (parsed word) id is in
    (g.0, g.1, inr (said ∙ ap Some (sym g.2)))
  where
    by_test : (b : Bool) (o : Option (List ℕ)) (id : List ℕ) → cond b o None ≡ Some id → o ≡ Some id
    by_test true o id e = e
    by_test false o id e = absurd (none-some id e)

-- the host that is computed goes by the word
pub host_reads : {A : Type 0} (hosts : List (Host A)) (word : List ℕ) (app : ℕ) → host_at hosts word ≡ Some app → IsHost hosts word app
host_reads {A} hosts word app e =
    elim (or_some (index_from 0 (map (λ h. h.name) hosts) word) (id_at hosts (id_of word)) app e) [
      | inl named ↦ let g = get_mapped {A = A} (λ h. h.name) hosts app word (first_reads (map (λ (h : Host A). h.name) hosts) app word named) in (g.0, g.1, inl (sym g.2))
      | inr identified ↦ id_reads hosts word (id_of word) app refl identified
    ]

host_by : {A : Type 0} (hosts : List (Host A)) (word : List ℕ) (app : ℕ) (host : Host A) → HostsFit hosts → slice_get hosts app ≡ Some host
    → (word ≡ host.name) ⊎ (parsed word ≡ Some host.id) → all_ascii word ≡ true → host_at hosts word ≡ Some app
host_by {A} hosts word app host fit slot (inl named) ascii =
    let by_name : index_from 0 (map (λ h. h.name) hosts) word ≡ Some app = ap (index_from 0 (map (λ (h : Host A). h.name) hosts)) named ∙ first_named hosts app host fit slot in
    ap (λ (o : Option ℕ). or_else o (id_at hosts (id_of word))) by_name
host_by {A} hosts word app host fit slot (inr said) ascii =
    let none : index_from 0 (map (λ h. h.name) hosts) word ≡ None = index_none (map (λ (h : Host A). h.name) hosts) 0 word (no_name hosts word fit (parsed_long word host.id said)) in
    let id : id_of word ≡ Some host.id = cond-true (all_ascii word) (parsed word) None ascii ∙ said in
    ap (λ (o : Option ℕ). or_else o (id_at hosts (id_of word))) none ∙ ap (id_at hosts) id ∙ first_identified hosts app host fit slot

-- the host that goes by the word is computed
pub host_again : {A : Type 0} (hosts : List (Host A)) (word : List ℕ) (app : ℕ) → HostsFit hosts → IsHost hosts word app → all_ascii word ≡ true → host_at hosts word ≡ Some app
host_again hosts word app fit h ascii = host_by hosts word app h.0 fit h.1 h.2 ascii

-- no host goes by a word that begins another line
pub not_client : {A : Type 0} (hosts : List (Host A)) (word : List ℕ) (app : ℕ) → HostsFit hosts → IsHost hosts word app → bytes_eq word (codes "client") ≡ false
not_client hosts word app fit h = false_from_ne_true (bytes_eq word (codes "client")) (λ t. no_client h.2 (is_word word (codes "client") t))
  where
    no_client : (word ≡ h.0.name) ⊎ (parsed word ≡ Some h.0.id) → word ≡ codes "client" → ⊥
    no_client (inl named) is = (named_at hosts app h.0 fit h.1).not_client (sym named ∙ is)
    no_client (inr said) is = none-some h.0.id (sym (ap parsed is) ∙ said)

pub not_board : {A : Type 0} (hosts : List (Host A)) (word : List ℕ) (app : ℕ) → HostsFit hosts → IsHost hosts word app → bytes_eq word (codes "board") ≡ false
not_board hosts word app fit h = false_from_ne_true (bytes_eq word (codes "board")) (λ t. no_board h.2 (is_word word (codes "board") t))
  where
    no_board : (word ≡ h.0.name) ⊎ (parsed word ≡ Some h.0.id) → word ≡ codes "board" → ⊥
    no_board (inl named) is = (named_at hosts app h.0 fit h.1).not_board (sym named ∙ is)
    no_board (inr said) is = none-some h.0.id (sym (ap parsed is) ∙ said)
