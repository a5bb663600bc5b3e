-- Plans: regions that stand for changed stores.
use Rattle.std.proofs.Common.{◌≡◌, ◌≢◌, inr, ℕ, ◌+◌, ◌-◌, ◌<◌, ◌≤◌, Bool, true, false, cond, List, [], length, Option, None, Some, Result, Ok, Err, refl, sym, ◌∙◌, ap, subst, arith}
use Rattle.std.specs.Prelude.{◌&&◌, ◌||◌, ◌==◌, nat_le, nat_lt, if◌then◌else◌}
use Rattle.std.specs.Ordering.{eq_by_cmp, is_eq}
use Rattle.std.specs.Cmp.{tied_itself}
use Rattle.std.specs.Cmp.Lexicographic.{nat_list_cmp_total}
use Rattle.std.specs.FinMap as finite
use Rattle.std.proofs.lemmas.Bool.{eqb-true, eqb-false, eq-eqb, ne_eqb, le-ltb, leb-true, true≢false}
use Rattle.store_api.specs.declared.answer.StoreAnswer.{StoreAnswer}
use Rattle.store_api.specs.declared.answer.StoreAnswer.TheVariants as answers
use Rattle.store_api.specs.declared.change.Change.{Change}
use Rattle.store_api.specs.declared.leaves.Leaf.{Leaf}
use Rattle.store_api.specs.declared.object.Object.{Object}
use Rattle.store_api.specs.Keeping.{Answers}
use Rattle.store_api.specs.Stores.{Store, object_at, after_change}
use Rattle.store_api.proofs.Costs.{by_bytes, tied_same, equal}
use Rattle.region_plan.specs.Layout.{Layout}
use Rattle.region_plan.specs.Edits.{content_after, is_left}
use Rattle.region_plan.specs.Entries.{entry_at, form_of, is_zero, is_inode, is_data_of, is_used, is_well_formed}
use Rattle.region_plan.specs.Inodes.{identifier_in, IsHead}
use Rattle.region_plan.specs.Places.{IsMapOf, entries_in, is_free, with_entry}
use Rattle.region_plan.specs.Planning.{IsPlanOf, most_leaves}
use Rattle.region_plan.specs.Plans.{ChangeMap, NamesInodes, bytes_or, is_named, with_leaves, leaves_to_change, IsEdited, IsPlanned, IsUnreadOrFull}
use Rattle.region_plan.specs.Regions.{data_leaves, object_of, content_of, region_of, store_of}
use Rattle.region_plan.specs.declared.edit.Edit.{Edit}
use Rattle.region_plan.specs.declared.entry.Entry.{Entry}
use Rattle.region_plan.specs.declared.entry.TheConstants.{FREE, INODE, DATA}
use Rattle.region_plan.specs.declared.inode.Inode.{Inode}
use Rattle.region_plan.proofs.BlockLemmas.{IsLeafOf, leaves_held}
use Rattle.region_plan.proofs.ChangedLemmas.{IsChanged, changed_region}
use Rattle.region_plan.proofs.EditLemmas.{in_map, base_of, each_of, edited_framed, edited_inode, edited_object, inode_now, head_now, each_now}
use Rattle.region_plan.proofs.FewLemmas.{changing_few}
use Rattle.region_plan.proofs.FoundLemmas.{IsFound}
use Rattle.region_plan.proofs.FrameLemmas.{Framed, inode_before}
use Rattle.region_plan.proofs.HeldLemmas.{held_at}
use Rattle.region_plan.proofs.LimitLemmas.{within_limits}
use Rattle.region_plan.proofs.PlaceLemmas.{IsBase, IsWith}
use Rattle.region_plan.proofs.RuleLemmas.{region_store}
use Rattle.region_plan.proofs.SoundLemmas.{Sound, SoundInode, and_both, region_sound, owner_is}
use Rattle.region_plan.proofs.SpaceLemmas.{change_fits}
use Rattle.region_plan.proofs.FormLemmas.{IsLaid}

-- look-ups in changed stores
pub apart : (q k : List ℕ) → q ≢ k → eq_by_cmp by_bytes q k ≡ false
apart q k differs =
    elim (eq_by_cmp by_bytes q k) as (λ b. eq_by_cmp by_bytes q k ≡ b → b ≡ false) [ true ↦ λ e. absurd (differs (tied_same q k (equal _ e))) | false ↦ λ e. refl ] refl

pub itself : (q : List ℕ) → eq_by_cmp by_bytes q q ≡ true
itself q = ap is_eq (tied_itself nat_list_cmp_total q)

pub inserted_here : (m : Store) (k : List ℕ) (v : Object) → object_at (finite.insert m k v) k ≡ Some v
inserted_here m k v = finite.get-insert nat_list_cmp_total m k v k ∙ ap (λ b. cond b (Some v) (object_at m k)) (itself k)

pub inserted_beside : (m : Store) (k q : List ℕ) (v : Object) → q ≢ k → object_at (finite.insert m k v) q ≡ object_at m q
inserted_beside m k q v differs = finite.get-insert nat_list_cmp_total m k v q ∙ ap (λ b. cond b (Some v) (object_at m q)) (apart q k differs)

pub removed_here : (m : Store) (k : List ℕ) → object_at (finite.remove m k) k ≡ None
removed_here m k = finite.get-remove nat_list_cmp_total m k k ∙ ap (λ b. cond b None (object_at m k)) (itself k)

pub removed_beside : (m : Store) (k q : List ℕ) → q ≢ k → object_at (finite.remove m k) q ≡ object_at m q
removed_beside m k q differs = finite.get-remove nat_list_cmp_total m k q ∙ ap (λ b. cond b None (object_at m q)) (apart q k differs)

-- a store in which nothing changed
pub inserted_same : (m : Store) (k : List ℕ) (v : Object) → object_at m k ≡ Some v → finite.insert m k v ≡ m
inserted_same m k v is = finite.same_map nat_list_cmp_total tied_same (finite.insert m k v) m (λ q.
    elim (eq_by_cmp by_bytes q k) as (λ b. eq_by_cmp by_bytes q k ≡ b → object_at (finite.insert m k v) q ≡ object_at m q) [
      | true ↦ λ e. (let same : q ≡ k = tied_same q k (equal _ e) in subst (λ (x : List ℕ). object_at (finite.insert m k v) x ≡ object_at m x) (sym same) (inserted_here m k v ∙ sym is))
      | false ↦ λ e. finite.get-insert nat_list_cmp_total m k v q ∙ ap (λ b. cond b (Some v) (object_at m q)) e
    ] refl)

-- what keeps a plan from its answer, but for want of space, is no statement of the store
pub unread_plans : (e : StoreAnswer) (stated : Result Store StoreAnswer) → IsUnreadOrFull (Some e) → (e ≡ answers.NoSpace → stated ≡ Err answers.NoSpace) → Answers (Err e) stated
unread_plans answers.NotFound stated h full = absurd h
unread_plans answers.Exists stated h full = absurd h
unread_plans answers.NoSpace stated h full = full refl
unread_plans answers.Lost stated h full = tt
unread_plans answers.Failed stated h full = tt
unread_plans (answers.Corrupt tags) stated h full = tt
unread_plans (answers.Garbled leaf) stated h full = tt
unread_plans answers.NoMemory stated h full = tt

inode_form : (i : ℕ) (e : Entry) (b : Bool) → e.kind ≡ 1 → form_of i e b ≡ true → (e.inode ≡ i) × (e.index ≡ 0)
inode_form i e b kind formed =
    let both = and_both (e.inode == i) (e.index == 0) (sym (ap (λ (k : ℕ). form_of i (record e { kind = k }) b) kind) ∙ formed) in
    (eqb-true e.inode i both.0, eqb-true e.index 0 both.1)

entry_parts : (e : Entry) (kind inode index : ℕ) → e.kind ≡ kind → e.inode ≡ inode → e.index ≡ index → e ≡ record { kind = kind; inode = inode; index = index }
entry_parts e kind inode index a b c = λ i. record { kind = a i; inode = b i; index = c i }

-- where what changed is of one inode, which is named or was one before, no other inode is new
pub names_framed : (L : Layout) (laid : IsLaid L) (leaves : ℕ → List ℕ) (named : List Leaf) (n : ℕ) → Framed L laid n leaves (with_leaves named leaves)
    → (is_named named n ≡ false → is_inode L leaves n ≡ true) → NamesInodes L leaves named
names_framed L laid leaves named n frame own i below now unnamed =
    elim (i == n) as (λ b. (i == n) ≡ b → is_inode L leaves i ≡ true) [
      | true ↦ λ e. (let same = eqb-true i n e in subst (λ (k : ℕ). is_inode L leaves k ≡ true) (sym same) (own (subst (λ (k : ℕ). is_named named k ≡ false) same unnamed)))
      | false ↦ λ e. inode_before L laid leaves (with_leaves named leaves) n frame i below (eqb-false i n e) now
    ] refl

module _ (L : Layout) (laid : IsLaid L) where
  module _ (leaves : ℕ → List ℕ) (store : Store) (stands : region_of L leaves ≡ Ok store) where
    pub sound : Sound L leaves
    sound = region_sound L leaves laid store stands

    pub same_store : store ≡ store_of L leaves
    same_store = region_store L leaves store stands

    -- leaves after which the region stands for the stated store are a plan
    pub plan_stands : (c : Change) (after : Store) (named : List Leaf) → after_change store c ≡ Ok after → region_of L (with_leaves named leaves) ≡ Ok after →
        length named ≤ most_leaves L store c → ChangeMap L leaves named → NamesInodes L leaves named → IsPlanOf L leaves store c named
    plan_stands c after named is now few changed' told' = record {
      after = after;
      changes = change_fits L laid store after c is (within_limits L laid (with_leaves named leaves) after now).paid;
      stands = now;
      few = few;
      changed = changed';
      told = told';
    }

    form_at : (i : ℕ) → L.map_leaves ≤ i → is_well_formed L leaves i ≡ true
        → form_of i (entry_at L leaves i) (is_inode L leaves (entry_at L leaves i).inode && nat_lt (entry_at L leaves i).index L.indexes) ≡ true
    unfolding is_well_formed
    form_at i later formed = sym (ap (λ b. if b then is_zero (entry_at L leaves i) else form_of i (entry_at L leaves i)
        (is_inode L leaves (entry_at L leaves i).inode && nat_lt (entry_at L leaves i).index L.indexes)) (le-ltb i L.map_leaves later)) ∙ formed

    pub inode_entry : (n : ℕ) → L.map_leaves ≤ n → n < L.leaves → is_inode L leaves n ≡ true → entry_at L leaves n ≡ record { kind = INODE; inode = n; index = 0 }
    inode_entry n low high is =
        let kind : (entry_at L leaves n).kind ≡ 1 = eqb-true (entry_at L leaves n).kind 1 is in
        let parts = inode_form n (entry_at L leaves n) (is_inode L leaves (entry_at L leaves n).inode && nat_lt (entry_at L leaves n).index L.indexes) kind (form_at n low (sound.formed n high)) in
        entry_parts (entry_at L leaves n) INODE n 0 kind parts.0 parts.1

    -- the object of a found inode with another content
    module _ (id : List ℕ) (inode : Inode) (found : IsFound L laid leaves id inode) (base : List Entry) (first : IsMapOf L leaves base) (map : List Entry) (named : List Leaf) (head : Option (List ℕ))
        (edit : Edit)
        (edited : IsEdited L leaves (with_leaves named leaves) base map inode.number edit.had head edit) (kind usage : ℕ) (secret old : List ℕ) (long : length old ≡ edit.kept)
        (had : edit.had ≡ inode.length) (kept : edit.kept ≤ edit.had)
        (was : (k : ℕ) → k < L.leaves → is_data_of L leaves inode.number k ≡ true → (entry_at L leaves k).index < data_leaves edit.kept →
        IsLeafOf old (entry_at L leaves k).index (leaves k))
        (is_head : IsHead (bytes_or head (leaves inode.number)) kind usage id secret edit.length) where
      abbrev n : ℕ
      n = inode.number

      abbrev after : ℕ → List ℕ
      after = with_leaves named leaves

      is_base : IsBase L laid leaves n (data_leaves edit.had)
      is_base = subst (λ (m : ℕ). IsBase L laid leaves n (data_leaves m)) (sym (had ∙ found.long)) (base_of L laid leaves n sound found.low found.high found.is)

      beside : (i : ℕ) → i < L.leaves → entries_in base i ≡ entry_at L leaves i
      beside i below = first i below

      is_with : IsWith L laid leaves n (entries_in base)
      is_with = record { inode = beside n found.high ∙ inode_entry n found.low found.high found.is; beside = λ i below other. beside i below }

      frame : Framed L laid n leaves after
      frame = edited_framed L laid leaves after base map n edit.had head edit sound is_base is_with kept edited

      is_now : is_inode L after n ≡ true
      is_now = inode_now L laid leaves after base map n edit.had head edit sound is_base is_with kept edited

      head_is : IsHead (after n) kind usage id secret edit.length
      head_is = subst (λ (b : List ℕ). IsHead b kind usage id secret edit.length) (sym (head_now L laid leaves after base map n edit.had head edit sound is_base is_with kept edited)) is_head

      own : SoundInode L after n
      own = edited_inode L laid leaves after base map n edit.had head edit sound is_base is_with kept edited old long kind usage id secret was head_is

      abbrev new_object : Object
      new_object = record { kind = kind; usage = usage; secret = secret; content = content_after edit old }

      object : object_of L after n ≡ new_object
      object = edited_object L laid leaves after base map n edit.had head edit sound is_base is_with kept edited old long kind usage id secret was head_is

      named_apart : (m : ℕ) → m < L.leaves → m ≢ n → is_inode L leaves m ≡ true → identifier_in (leaves m) ≢ identifier_in (after n)
      named_apart m below other is same = other (sound.apart m n below found.high is found.is (same ∙ head_is.is_id ∙ sym found.named))

      changed_to : IsChanged L laid leaves after n (finite.insert store id new_object)
      changed_to = record {
        here = λ is. ap (object_at (finite.insert store id new_object)) head_is.is_id ∙ inserted_here store id new_object ∙ ap (λ (o : Object). Some o) (sym object);
        gone = λ is differs. absurd (differs is_now (head_is.is_id ∙ sym found.named));
        beside = λ q not_now not_then. inserted_beside store id q new_object (λ same. not_now is_now (same ∙ sym head_is.is_id)) ∙ ap (λ (s : Store). object_at s q) same_store;
      }

      pub edit_stands : region_of L after ≡ Ok (finite.insert store id new_object)
      edit_stands = changed_region L laid leaves after n found.high sound frame (λ is. own) (λ is. named_apart) (finite.insert store id new_object) changed_to

      pub edit_names : NamesInodes L leaves named
      edit_names = names_framed L laid leaves named n frame (λ unnamed. found.is)

      pub edit_few : length named ≤ leaves_to_change L map n edit L.leaves → (least last : ℕ) → ((x : ℕ) → x < data_leaves edit.length → is_left edit x ≡ false → (least ≤ x) × (x < last)) →
          length named ≤ L.map_leaves + 1 + (last - least)
      edit_few few least last reach =
          joined few (changing_few L laid after map (λ i below. sym (in_map L laid leaves after map n head edit edited.each i below)) n (data_leaves edit.length) least last edit found.high
          (each_now L laid leaves after base map n edit.had head edit sound is_base is_with kept edited) reach)
        where
          joined : {a b c : ℕ} → a ≤ b → b ≤ c → a ≤ c
          joined p q = omega (arith, p, q)

    -- the content of an object is in its leaves
    pub content_held : (n : ℕ) → n < L.leaves → is_inode L leaves n ≡ true → (k : ℕ) → k < L.leaves → is_data_of L leaves n k ≡ true →
        IsLeafOf (content_of L leaves n) (entry_at L leaves k).index (leaves k)
    content_held n below is = (let own' = sound.inode n below is in leaves_held L laid leaves n (each_of L laid leaves n own') own'.padded)

    -- a new object
    module _ (n : ℕ) (map base : List Entry) (block : List ℕ) (first : IsMapOf L leaves map) (high : n < L.leaves) (free : is_free L (entries_in map) n ≡ true)
        (set : (i : ℕ) → i < L.leaves → entries_in base i ≡ with_entry n (record { kind = INODE; inode = n; index = 0 }) (entries_in map) i) (named : List Leaf) (edit : Edit)
        (planned : IsPlanned L leaves base n (Some block) edit named)
        (kind usage : ℕ) (id secret : List ℕ) (is_head : IsHead block kind usage id secret edit.length) (none_had : edit.had ≡ 0) (none_kept : edit.kept ≡ 0) (absent : object_at store id ≡ None) where
      abbrev grown : ℕ → List ℕ
      grown = with_leaves named leaves

      map_at : (i : ℕ) → i < L.leaves → entries_in map i ≡ entry_at L leaves i
      map_at i below = first i below

      free_at : (L.map_leaves ≤ n) × ((entry_at L leaves n).kind ≡ 0)
      free_at = (let parts = and_both (nat_le L.map_leaves n) ((entries_in map n).kind == FREE) free in
          (leb-true L.map_leaves n parts.0, sym (ap (λ (e : Entry). e.kind) (map_at n high)) ∙ eqb-true (entries_in map n).kind 0 parts.1))

      unused : is_used L leaves n ≡ false
      unused = ap (λ (k : ℕ). (k == INODE) || (k == DATA)) free_at.1

      no_inode : is_inode L leaves n ≡ false
      no_inode = ap (λ (k : ℕ). k == INODE) free_at.1

      no_data : {A : Type 0} (k : ℕ) → k < L.leaves → is_data_of L leaves n k ≡ true → A
      no_data k below is =
          let parts = and_both ((entry_at L leaves k).kind == DATA) ((entry_at L leaves k).inode == n) is in
          let owner = owner_is L leaves k (sound.formed k below) parts.0 in
          absurd (let f : true ≡ false = sym owner ∙ ap (λ (m : ℕ). is_inode L leaves m) (eqb-true (entry_at L leaves k).inode n parts.1) ∙ no_inode in cc)

      new_base : IsBase L laid leaves n (data_leaves edit.had)
      new_base = record {
        low = free_at.0;
        high = high;
        state = inr unused;
        present = λ x less. absurd (omega (arith, less, none_had));
        single = λ x k j less low' high' a b. absurd (omega (arith, less, none_had));
        before = λ k below is. no_data k below is;
      }

      new_with : IsWith L laid leaves n (entries_in base)
      new_with = record {
        inode = set n high ∙ ap (λ b. if b then record { kind = INODE; inode = n; index = 0 } else entries_in map n) (eq-eqb n n refl);
        beside = λ i below other. set i below ∙ ap (λ b. if b then record { kind = INODE; inode = n; index = 0 } else entries_in map i) (ne_eqb i n other) ∙ map_at i below;
      }

      few_kept : edit.kept ≤ edit.had
      few_kept = omega (arith, none_had, none_kept)

      new_frame : Framed L laid n leaves grown
      new_frame = edited_framed L laid leaves grown base planned.map n edit.had (Some block) edit sound new_base new_with few_kept planned.edited

      new_now : is_inode L grown n ≡ true
      new_now = inode_now L laid leaves grown base planned.map n edit.had (Some block) edit sound new_base new_with few_kept planned.edited

      new_head : IsHead (grown n) kind usage id secret edit.length
      new_head = subst (λ (b : List ℕ). IsHead b kind usage id secret edit.length) (sym
          (head_now L laid leaves grown base planned.map n edit.had (Some block) edit sound new_base new_with few_kept planned.edited)) is_head

      none_was : (k : ℕ) → k < L.leaves → is_data_of L leaves n k ≡ true → (entry_at L leaves k).index < data_leaves edit.kept →
          IsLeafOf [] (entry_at L leaves k).index (leaves k)
      none_was k below is less = no_data k below is

      new_own : SoundInode L grown n
      new_own = edited_inode L laid leaves grown base planned.map n edit.had (Some block) edit sound new_base new_with few_kept planned.edited [] (sym none_kept) kind usage id secret none_was new_head

      abbrev grown_object : Object
      grown_object = record { kind = kind; usage = usage; secret = secret; content = content_after edit [] }

      grown_is : object_of L grown n ≡ grown_object
      grown_is = edited_object L laid leaves grown base planned.map n edit.had (Some block) edit sound new_base new_with few_kept planned.edited [] (sym none_kept) kind usage id secret none_was
          new_head

      new_apart : (m : ℕ) → m < L.leaves → m ≢ n → is_inode L leaves m ≡ true → identifier_in (leaves m) ≢ identifier_in (grown n)
      new_apart m below other is same =
          let held : object_at store id ≡ Some (object_of L leaves m) = ap (λ (s : Store). object_at s id) same_store
          ∙ ap (object_at (store_of L leaves)) (sym (same ∙ new_head.is_id)) ∙ held_at L leaves sound m below is in
          let never : ◌≡◌ {A = Option Object} None (Some (object_of L leaves m)) = sym absent ∙ held in
          cc

      new_to : IsChanged L laid leaves grown n (finite.insert store id grown_object)
      new_to = record {
        here = λ is. ap (object_at (finite.insert store id grown_object)) new_head.is_id ∙ inserted_here store id grown_object ∙ ap (λ (o : Object). Some o) (sym grown_is);
        gone = λ is differs. absurd (let f : true ≡ false = sym is ∙ no_inode in cc);
        beside = λ q not_now not_then. inserted_beside store id q grown_object (λ same. not_now new_now (same ∙ sym new_head.is_id)) ∙ ap (λ (s : Store). object_at s q) same_store;
      }

      pub new_stands : region_of L grown ≡ Ok (finite.insert store id grown_object)
      new_stands = changed_region L laid leaves grown n high sound new_frame (λ is. new_own) (λ is. new_apart) (finite.insert store id grown_object) new_to

      pub new_names : NamesInodes L leaves named
      new_names = names_framed L laid leaves named n new_frame (λ unnamed. absurd (true≢false (sym (planned.own refl free_at.0) ∙ unnamed)))

      pub new_few : (least last : ℕ) → ((x : ℕ) → x < data_leaves edit.length → is_left edit x ≡ false → (least ≤ x) × (x < last)) → length named ≤ L.map_leaves + 1 + (last - least)
      new_few least last reach =
          joined planned.few (changing_few L laid grown planned.map (λ i below. sym (in_map L laid leaves grown planned.map n (Some block) edit planned.edited.each i below)) n
          (data_leaves edit.length) least last edit high (each_now L laid leaves grown base planned.map n edit.had (Some block) edit sound new_base new_with
          few_kept planned.edited) reach)
        where
          joined : {a b c : ℕ} → a ≤ b → b ≤ c → a ≤ c
          joined p q = omega (arith, p, q)
