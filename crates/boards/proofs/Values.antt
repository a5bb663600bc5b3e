-- Values of the listed blocks, and one for every other block.
use Rattle.std.proofs.Common.{◌≡◌, ◌≢◌, ◌≤◌, ◌<◌, ℕ, List, [], ◌∷◌, ◌++◌, length}
use Rattle.std.proofs.Common.{get_or, set, sym, ap, ⊎_elim, ◌∙◌, arith, length-append}
use Rattle.std.proofs.lemmas.Bool.{cases_Bool}
use Rattle.std.proofs.lemmas.List.{get_or-set_other, get_or-set_same, get_or_append_left, get_or_past, get_or_push}
use Rattle.boards.specs.Places.{is_listed, place_in}
use Rattle.boards.proofs.Places.{listed_place, place_in_push_here, place_in_push_listed, place_in_push_other, places_apart, unlisted_place}

module _ {X : Type 0} (blocks : List ℕ) (values : List X) (block : ℕ) (value : X) (long : length values ≡ length blocks) where
  -- another value of a listed block
  module _ (below : place_in blocks block < length blocks) where
    pub set_here : (d : X) → get_or (set values (place_in blocks block) value) (place_in blocks block) d ≡ value
    set_here d = get_or-set_same values (place_in blocks block) value d (omega (arith, below, long))

    pub set_elsewhere : (k : ℕ) (d : X) → k ≢ block → get_or (set values (place_in blocks block) value) (place_in blocks k) d ≡ get_or values (place_in blocks k) d
    set_elsewhere k d apart = get_or-set_other values (place_in blocks block) (place_in blocks k) value d (places_apart blocks k block below apart)

  -- the value of one block more
  module _ (absent : place_in blocks block ≡ length blocks) where
    pub push_here : (d : X) → get_or (values ++ value ∷ []) (place_in (blocks ++ block ∷ []) block) d ≡ value
    push_here d = get_or_push values value d (place_in (blocks ++ block ∷ []) block) (long ∙ sym (place_in_push_here blocks block absent))

    pub push_elsewhere : (k : ℕ) (d : X) → k ≢ block → get_or (values ++ value ∷ []) (place_in (blocks ++ block ∷ []) k) d ≡ get_or values (place_in blocks k) d
    push_elsewhere k d apart =
        ⊎_elim
        (λ listed. let below = listed_place blocks k listed in
        ap (λ n. get_or (values ++ value ∷ []) n d) (place_in_push_listed blocks block k below) ∙ get_or_append_left values (value ∷ []) d (place_in blocks k) (omega (arith, below, long)))
        (λ none. let past = unlisted_place blocks k none in
        let other : block ≢ k = λ e. apart (sym e) in
        let past' = place_in_push_other blocks block k other past in
        let longer = length-append values (value ∷ []) in
        get_or_past (values ++ value ∷ []) (place_in (blocks ++ block ∷ []) k) d (omega (arith, past', long, longer))
        ∙ sym (get_or_past values (place_in blocks k) d (omega (arith, past, long))))
        (cases_Bool (is_listed blocks k))

-- where the block isn't listed, the value is that of every other block
pub value_past : {X : Type 0} (blocks : List ℕ) (values : List X) (k : ℕ) (d : X) → length values ≡ length blocks → length blocks ≤ place_in blocks k → get_or values (place_in blocks k) d ≡ d
value_past blocks values k d long past = get_or_past values (place_in blocks k) d (omega (arith, past, long))
