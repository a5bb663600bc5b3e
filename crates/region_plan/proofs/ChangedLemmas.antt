-- The store of a region in which one object changed.
use Rattle.std.proofs.Common.{◌≡◌, ◌≢◌, ℕ, ◌<◌, Bool, true, false, List, Option, None, Some, Ok, refl, sym, ◌∙◌, ap, subst}
use Rattle.std.specs.Prelude.{◌&&◌, ◌==◌}
use Rattle.std.specs.Str.{bytes_eq}
use Rattle.std.specs.Cmp.Lexicographic.{nat_list_cmp_total}
use Rattle.std.specs.FinMap as finite
use Rattle.std.proofs.lemmas.Bool.{eqb-true, eqb-false}
use Rattle.std.proofs.lemmas.Slice.Eq.{bytes_eq-Decides}
use Rattle.store_api.specs.declared.object.Object.{Object}
use Rattle.store_api.specs.Stores.{Store, object_at}
use Rattle.store_api.proofs.Costs.{tied_same}
use Rattle.region_plan.specs.Layout.{Layout}
use Rattle.region_plan.specs.Entries.{is_inode}
use Rattle.region_plan.specs.Inodes.{identifier_in}
use Rattle.region_plan.specs.Regions.{object_of, region_of, store_of}
use Rattle.region_plan.proofs.SoundLemmas.{Sound, SoundInode, and_both, sound_region}
use Rattle.region_plan.proofs.HeldLemmas.{held_at, held_by}
use Rattle.region_plan.proofs.FrameLemmas.{Framed, inode_stays, inode_was, object_same, framed_sound}
use Rattle.region_plan.proofs.FormLemmas.{IsLaid}

both_or : (a : Bool) (x y : List ℕ) → (a && bytes_eq x y) ≡ false → a ≡ true → y ≢ x
both_or a x y isnt is same = (let f : true ≡ false = sym ((bytes_eq-Decides x y).1 (sym same)) ∙ sym (ap (λ b. b && bytes_eq x y) is) ∙ isnt in cc)

module _ (L : Layout) (laid : IsLaid L) where
  -- a store is another one but for the objects of a leaf
  pub record IsChanged (leaves after : ℕ → List ℕ) (n : ℕ) (store : Store) : Type 0 where
    pub here : is_inode L after n ≡ true → object_at store (identifier_in (after n)) ≡ Some (object_of L after n)
    pub gone : is_inode L leaves n ≡ true → (is_inode L after n ≡ true → identifier_in (after n) ≢ identifier_in (leaves n)) → object_at store (identifier_in (leaves n)) ≡ None
    pub beside : (q : List ℕ) → (is_inode L after n ≡ true → q ≢ identifier_in (after n)) → (is_inode L leaves n ≡ true → q ≢ identifier_in (leaves n)) →
        object_at store q ≡ object_at (store_of L leaves) q

  module _ (leaves after : ℕ → List ℕ) (n : ℕ) (below : n < L.leaves) (sound : Sound L leaves) (frame : Framed L laid n leaves after)
      (own : is_inode L after n ≡ true → SoundInode L after n)
      (named : is_inode L after n ≡ true → (m : ℕ) → m < L.leaves → m ≢ n → is_inode L leaves m ≡ true → identifier_in (leaves m) ≢ identifier_in (after n)) where
    now : Sound L after
    now = framed_sound L laid leaves after n sound frame own named

    abbrev At : List ℕ → Option Object
    At q = object_at (store_of L after) q

    nothing_at : (q : List ℕ) → ((m : ℕ) → m < L.leaves → is_inode L after m ≡ true → identifier_in (after m) ≡ q → ⊥) → At q ≡ None
    nothing_at q never =
        elim (At q) as (λ r. At q ≡ r → r ≡ None) [
          | None ↦ λ e. refl
          | Some o ↦ λ e. absurd (let met = held_by L after q o e in never met.0 met.1 met.2.0 met.2.1)
        ] refl

    -- what an identifier of neither is of
    same_at : (q : List ℕ) → (is_inode L after n ≡ true → q ≢ identifier_in (after n)) → (is_inode L leaves n ≡ true → q ≢ identifier_in (leaves n)) →
        At q ≡ object_at (store_of L leaves) q
    same_at q not_now not_then =
        elim (object_at (store_of L leaves) q) as (λ r. object_at (store_of L leaves) q ≡ r → At q ≡ r) [
          | Some o ↦ λ e.
              let met = held_by L leaves q o e in
              let other : met.0 ≢ n = λ same. not_then (subst (λ (m : ℕ). is_inode L leaves m ≡ true) same met.2.0) (sym met.2.1 ∙ ap (λ (m : ℕ). identifier_in (leaves m)) same) in
              let stays = inode_stays L laid leaves after n sound frame met.0 met.1 other met.2.0 in
              let id : identifier_in (after met.0) ≡ q = ap identifier_in stays.1 ∙ met.2.1 in
              ap At (sym id) ∙ held_at L after now met.0 met.1 stays.0 ∙ ap (λ (x : Object). Some x) (object_same L laid leaves after n sound frame met.0 met.1 other met.2.0 ∙ met.2.2)
          | None ↦ λ e. nothing_at q (λ m low inode id.
              elim (m == n) as (λ b. (m == n) ≡ b → ⊥) [
                | true ↦ λ t. (let same : m ≡ n = eqb-true m n t in not_now (subst (λ (k : ℕ). is_inode L after k ≡ true) same inode) (sym id ∙ ap (λ (k : ℕ). identifier_in (after k)) same))
                | false ↦ λ t.
                    let other = eqb-false m n t in
                    let was = inode_was L laid leaves after n sound frame m low other inode in
                    let id_was : identifier_in (leaves m) ≡ q = sym (ap identifier_in (inode_stays L laid leaves after n sound frame m low other was).1) ∙ id in
                    let held : object_at (store_of L leaves) q ≡ Some (object_of L leaves m) = ap (object_at (store_of L leaves)) (sym id_was)
                    ∙ held_at L leaves sound m low was in
                    let never : ◌≡◌ {A = Option Object} None (Some (object_of L leaves m)) = sym e ∙ held in
                    cc
              ] refl)
        ] refl

    module _ (store : Store) (changed : IsChanged leaves after n store) where
      each_at : (q : List ℕ) → At q ≡ object_at store q
      each_at q =
          elim (is_inode L after n && bytes_eq (identifier_in (after n)) q) as (λ b. (is_inode L after n && bytes_eq (identifier_in (after n)) q) ≡ b → At q ≡ object_at store q) [
            | true ↦ λ e.
                let parts = and_both _ _ e in
                let id : identifier_in (after n) ≡ q = (bytes_eq-Decides (identifier_in (after n)) q).0 parts.1 in
                subst (λ (x : List ℕ). At x ≡ object_at store x) id (held_at L after now n below parts.0 ∙ sym (changed.here parts.0))
            | false ↦ λ e. elim (is_inode L leaves n && bytes_eq (identifier_in (leaves n)) q) as
                (λ b. (is_inode L leaves n && bytes_eq (identifier_in (leaves n)) q) ≡ b → At q ≡ object_at store q) [
                  | true ↦ λ f.
                      let parts = and_both _ _ f in
                      let id : identifier_in (leaves n) ≡ q = (bytes_eq-Decides (identifier_in (leaves n)) q).0 parts.1 in
                      let not_now = both_or (is_inode L after n) (identifier_in (after n)) q e in
                      nothing_at q (λ m low inode is.
                      elim (m == n) as (λ b. (m == n) ≡ b → ⊥) [
                        | true ↦ λ t. (let same : m ≡ n = eqb-true m n t in not_now (subst (λ (k : ℕ). is_inode L after k ≡ true) same inode)
                            (sym is ∙ ap (λ (k : ℕ). identifier_in (after k)) same))
                        | false ↦ λ t.
                            let other = eqb-false m n t in
                            let was = inode_was L laid leaves after n sound frame m low other inode in
                            other (sound.apart m n low below was parts.0 (sym (ap identifier_in (inode_stays L laid leaves after n sound frame m low other was).1) ∙ is ∙ sym id))
                      ] refl)
                      ∙ sym (ap (object_at store) (sym id) ∙ changed.gone parts.0 (λ inode same. not_now inode (sym id ∙ sym same)))
                  | false ↦ λ f.
                      let not_now = both_or (is_inode L after n) (identifier_in (after n)) q e in
                      let not_then = both_or (is_inode L leaves n) (identifier_in (leaves n)) q f in
                      same_at q not_now not_then ∙ sym (changed.beside q not_now not_then)
                ] refl
          ] refl

      -- the region stands for the changed store
      pub changed_region : region_of L after ≡ Ok store
      changed_region = sound_region L after laid now ∙ ap (λ (s : Store). Ok s) (finite.same_map nat_list_cmp_total tied_same (store_of L after) store each_at)
