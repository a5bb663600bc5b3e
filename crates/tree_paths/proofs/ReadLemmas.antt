-- What is found at a place on an image, and the answers of a read.
use Rattle.std.proofs.Common.{◌≡◌, ◌≢◌, ◌<◌, ◌*◌, ◌∙◌, ℕ, zero, suc, List, Option, None, Some, Result, Ok, Err, refl, sym, ap, subst, arith}
use Rattle.store_api.specs.declared.answer.Mismatch.{Mismatch}
use Rattle.store_api.specs.declared.leaves.LeafAnswer.{LeafAnswer}
use Rattle.store_api.specs.declared.leaves.LeafAnswer.TheVariants as answers
use Rattle.store_api.specs.Volumes.{ShowsLeaf}
use Rattle.seal.specs.Sealing.{ciphertext, plaintext, seal_tag}
use Rattle.seal.proofs.SealLemmas.{reopened}
use Rattle.epoch.specs.Header.{entry_at}
use Rattle.epoch.specs.declared.header.TreeEntry.{TreeEntry}
use Rattle.epoch.proofs.ReadLemmas.{shows_first}
use Rattle.tree_paths.specs.Shape.{Shape}
use Rattle.epoch.specs.Copies.{difference, first_damage}
use Rattle.tree_paths.specs.Tree.{Found, Look, block_at, damage_above, damage_at, damage_below, damage_of, entry_below, entry_of_known, on_image, text_of}
use Rattle.epoch.proofs.EntryLemmas.{differs, no_difference}
use Rattle.tree_paths.specs.Ways.{found_block}

module _ (s : Shape) (key : List ℕ) (image : ℕ → List ℕ) (place : ℕ) (e : TreeEntry) where
  -- the block of an entry as it was read
  module _ (cipher : List ℕ) (some : e.sequence ≢ 0) (here : cipher ≡ image (block_at s place e.copy)) where
    block_tag : (on_image s key image place e).tag ≡ seal_tag key place e.sequence e.iv cipher
    block_tag = ap (λ (f : Found). f.tag) (found_block s key image place e some) ∙ ap (seal_tag key place e.sequence e.iv) (sym here)

    pub block_differs : (found : List ℕ) → found ≡ seal_tag key place e.sequence e.iv cipher → found ≢ e.tag
        → damage_at (on_image s key image) place e ≡ Some (record { found = found; kept = e.tag })
    block_differs found is ne = ap (λ (t : List ℕ). difference t e.tag) (block_tag ∙ sym is) ∙ differs found e.tag ne

    pub block_agrees : seal_tag key place e.sequence e.iv cipher ≡ e.tag → damage_at (on_image s key image) place e ≡ None
    block_agrees is = ap (λ (t : List ℕ). difference t e.tag) (block_tag ∙ is) ∙ no_difference e.tag

    pub block_text : (into : List ℕ) → into ≡ plaintext key e.iv cipher → into ≡ (on_image s key image place e).text
    block_text into is = is ∙ ap (plaintext key e.iv) here ∙ sym (ap (λ (f : Found). f.text) (found_block s key image place e some))

  -- a block that was sealed, and stands where the entry says
  pub found_sealed : (plain cipher : List ℕ) → 0 < e.sequence → image (block_at s place e.copy) ≡ cipher → e.tag ≡ seal_tag key place e.sequence e.iv cipher
      → cipher ≡ ciphertext key e.iv plain → on_image s key image place e ≡ entry_of_known plain e
  unfolding plaintext
  found_sealed plain cipher positive here tag text =
      found_block s key image place e (λ none. absurd (omega arith)) ∙ rw (here, tag, reopened key e.iv plain cipher text) refl

-- the damage on a way is that above the place, and then the place's own
pub damage_split : (s : Shape) (look : Look) (root : TreeEntry) (level place : ℕ)
    → damage_below s look root level place ≡ first_damage (damage_above s look root level place) (damage_at look place (entry_below s look root level place))
unfolding damage_below entry_below
damage_split s look root zero place = refl
damage_split s look root (suc level) place = refl

module _ (s : Shape) (look : Look) (root : TreeEntry) where
  -- the entry at the top is the root
  pub entry_top : (level place : ℕ) → level ≡ 0 → root ≡ entry_below s look root level place
  unfolding entry_below
  entry_top level place top = subst (λ (l : ℕ). root ≡ entry_below s look root l place) (sym top) refl

  module _ (level k place above : ℕ) (one : suc k ≡ level) (up : above ≡ s.parent place) where
    -- the entry of a place stands in the node above
    pub entry_found : (e result : TreeEntry) (node : List ℕ) (slot : ℕ) → e ≡ entry_below s look root k above → node ≡ (look above e).text → slot ≡ s.slot place
        → result ≡ entry_at (64 * slot) node → result ≡ entry_below s look root level place
    unfolding entry_below
    entry_found e result node slot is text at from =
        from ∙ ap (λ (i : ℕ). entry_at (64 * i) node) at ∙ ap (entry_at (64 * s.slot place)) (text ∙ ap (λ (x : TreeEntry). (look above x).text) is)
        ∙ ap (λ (q : ℕ). entry_at (64 * s.slot place) (look q (entry_below s look root k q)).text) up
        ∙ ap (λ (l : ℕ). entry_below s look root l place) one

    -- the damage above a place is that above the node, and then the node's own
    pub way_above : (e : TreeEntry) → e ≡ entry_below s look root k above
        → damage_above s look root level place ≡ first_damage (damage_above s look root k above) (damage_at look above e)
    way_above e is =
        sym (ap (λ (l : ℕ). damage_above s look root l place) one) ∙ ap (damage_below s look root k) (sym up) ∙ damage_split s look root k above
        ∙ ap (λ (x : TreeEntry). first_damage (damage_above s look root k above) (damage_at look above x)) (sym is)

  -- the damage on the way to a leaf
  pub way_to : (level place leaf : ℕ) → place ≡ leaf → s.level place ≡ level → (e : TreeEntry) → e ≡ entry_below s look root level place
      → damage_of s look root leaf ≡ first_damage (damage_above s look root level place) (damage_at look place e)
  way_to level place leaf same at e is =
      ap (damage_of s look root) (sym same) ∙ ap (λ (l : ℕ). damage_below s look root l place) at ∙ damage_split s look root level place
      ∙ ap (λ (x : TreeEntry). first_damage (damage_above s look root level place) (damage_at look place x)) (sym is)

  -- and the bytes of it
  pub text_to : (level place leaf : ℕ) → place ≡ leaf → s.level place ≡ level → (e : TreeEntry) → e ≡ entry_below s look root level place
      → (look place e).text ≡ text_of s look root leaf
  text_to level place leaf same at e is =
      ap (λ (x : TreeEntry). (look place x).text) is ∙ ap (λ (l : ℕ). (look place (entry_below s look root l place)).text) (sym at) ∙ ap (text_of s look root) same

-- what is shown of the first of two damages, or of the second where there is no first
pub shows_way : (A B : Type 0) (e : LeafAnswer) (whole first rest : Option Mismatch) → whole ≡ first_damage first rest → ShowsLeaf {A = A} (Err e) first → ShowsLeaf {A = B} (Err e) whole
shows_way A B e whole first rest is shows = subst (λ (d : Option Mismatch). ShowsLeaf {A = B} (Err e) d) (sym is) (shows_first A B e first rest shows)

pub shows_rest : (A B : Type 0) (e : LeafAnswer) (whole first rest : Option Mismatch) → whole ≡ first_damage first rest → first ≡ None → ShowsLeaf {A = A} (Err e) rest
    → ShowsLeaf {A = B} (Err e) whole
shows_rest A B (answers.Mismatch tags) whole first rest is none shows = is ∙ ap (λ (d : Option Mismatch). first_damage d rest) none ∙ shows
shows_rest A B answers.Lost whole first rest is none shows = tt
shows_rest A B answers.Failed whole first rest is none shows = tt
shows_rest A B answers.NoMemory whole first rest is none shows = tt

pub shows_end : (A : Type 0) (r : Result A LeafAnswer) (whole first rest : Option Mismatch) → whole ≡ first_damage first rest → first ≡ None → ShowsLeaf r rest → ShowsLeaf r whole
shows_end A (Ok x) whole first rest is none shows = is ∙ ap (λ (d : Option Mismatch). first_damage d rest) none ∙ shows
shows_end A (Err e) whole first rest is none shows = shows_rest A A e whole first rest is none shows

pub none_way : (whole first rest : Option Mismatch) → whole ≡ first_damage first rest → first ≡ None → rest ≡ None → whole ≡ None
none_way whole first rest is one two = is ∙ ap (λ (d : Option Mismatch). first_damage d rest) one ∙ two
