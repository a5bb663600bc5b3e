-- What a plan answers, change by change.
use Rattle.std.proofs.Common.{◌≡◌, ◌≢◌, ℕ, ◌+◌, ◌-◌, ◌/◌, ◌<◌, ◌≤◌, min, max, Bool, true, false, not, List, [], ◌∷◌, ◌++◌}
use Rattle.std.proofs.Common.{length, drop, None, Some, Result, Ok, Err, IfOk, Bor, refl, sym, ◌∙◌, ap, subst, arith}
use Rattle.std.specs.Prelude.{◌&&◌, if◌then◌else◌, is_some}
use Rattle.std.specs.FinMap as finite
use Rattle.std.proofs.lemmas.Bool.{ne_eqb, eq-eqb}
use Rattle.std.proofs.lemmas.List.Elements.{All-nil, All-push}
use Rattle.store_api.specs.Ascending.{is_above_all}
use Rattle.store_api.specs.declared.answer.StoreAnswer.{StoreAnswer}
use Rattle.store_api.specs.declared.answer.StoreAnswer.TheVariants as answers
use Rattle.store_api.specs.declared.change.Change.{Change}
use Rattle.store_api.specs.declared.change.Change.TheVariants.{Put, Delete, Rename, Write, Truncate}
use Rattle.store_api.specs.declared.leaves.Leaf.{Leaf}
use Rattle.store_api.specs.declared.object.Object.{Object}
use Rattle.store_api.specs.Stores.{Store, object_at, has, after_change, resize, with_object, write_at}
use Rattle.region_plan.specs.Layout.{Layout, quota_of}
use Rattle.region_plan.specs.Edits.{content_after, is_left}
use Rattle.region_plan.specs.Entries.{entry_at, is_data_of, is_inode}
use Rattle.region_plan.specs.Inodes.{IsHead}
use Rattle.region_plan.specs.Places.{IsMapOf, entries_in, free_entry, place_leaves, with_entry}
use Rattle.region_plan.specs.Planning.{IsPlanOf, Plans, content_length, most_leaves}
use Rattle.region_plan.specs.Plans.{ChangeMap, ChangesMap, IsContentPlan, IsMapLeaf, IsNewPlan, IsPlanned, IsUnreadOrFull, LacksNew, LacksSpace, bytes_or, with_leaves}
use Rattle.region_plan.specs.Quotas.{change_in, within}
use Rattle.region_plan.specs.Reading.{refusal_of}
use Rattle.region_plan.specs.Regions.{data_leaves, inodes_of, object_of, content_of, region_of}
use Rattle.region_plan.specs.Tables.{inode_with}
use Rattle.region_plan.specs.declared.edit.Edit.{Edit}
use Rattle.region_plan.specs.declared.entry.Entry.{Entry}
use Rattle.region_plan.specs.declared.inode.Head.{Head}
use Rattle.region_plan.specs.declared.inode.Inode.{Inode}
use Rattle.region_plan.proofs.BlockLemmas.{IsLeafOf, after_long}
use Rattle.region_plan.proofs.EditedLemmas.{after_resized, after_whole, after_written, reach_written, reach_resized}
use Rattle.region_plan.proofs.FoundLemmas.{IsFound, found_inode, object_found, object_absent, head_as}
use Rattle.region_plan.proofs.LimitLemmas.{costs_leaves}
use Rattle.region_plan.proofs.MoveLemmas.{object_told, object_with, moved_names, moved_stands, left_names, left_stands}
use Rattle.region_plan.proofs.PlanLemmas.{sound, same_store, plan_stands, edit_names, edit_stands, edit_few, new_names, new_stands, new_few, content_held, inserted_same, unread_plans}
use Rattle.region_plan.proofs.SoundLemmas.{Sound}
use Rattle.region_plan.proofs.SpaceLemmas.{change_full, edit_full, new_full, free_same}
use Rattle.region_plan.proofs.StoreLemmas.{length_content, found_id}
use Rattle.region_plan.proofs.FormLemmas.{IsLaid}

-- a change that is refused whatever it costs
pub change_refused : (L : Layout) (store : Store) (c : Change) (e : StoreAnswer) → after_change store c ≡ Err e → change_in L store c ≡ Err e
unfolding change_in
change_refused L store c e is = ap (within (quota_of L)) is

shorter : {a b c : ℕ} → a ≤ b → b ≡ c → a ≤ c
shorter p q = omega (arith, p, q)

one_named : {a : ℕ} → a ≡ 1 → a ≤ 1
one_named e = omega (arith, e)

module _ (L : Layout) (laid : IsLaid L) where
  module _ (leaves : ℕ → List ℕ) (store : Store) (stands : region_of L leaves ≡ Ok store) where
    abbrev whole : Sound L leaves
    whole = sound L laid leaves store stands

    -- where an inode has the identifier
    module _ (id : List ℕ) (inode : Inode) (is : inode_with id (inodes_of L leaves) ≡ Some inode) where
      abbrev found : IsFound L laid leaves id inode
      found = found_inode L laid leaves id inode whole is

      held : object_at store id ≡ Some (object_of L leaves inode.number)
      held = ap (λ (s : Store). object_at s id) (same_store L laid leaves store stands) ∙ object_found L laid leaves id inode is

      abbrev content : List ℕ
      content = content_of L leaves inode.number

      told : object_of L leaves inode.number ≡ object_with inode content
      told = object_told L laid leaves id inode whole found

      content_long : length content ≡ inode.length
      content_long = length_content L leaves inode.number ∙ sym found.long

      length_is : content_length (object_at store id) ≡ inode.length
      length_is = ap content_length (held ∙ ap (λ (o : Object). Some o) told) ∙ content_long

      id_is : inode.id ≡ id
      id_is = found_id L leaves id inode is

      -- the content is edited
      module _ (map : List Entry) (first : IsMapOf L leaves map) (edit : Edit) (had : edit.had ≡ inode.length) (kept : edit.kept ≡ inode.length) (c : Change)
          (stated : after_change store c ≡ Ok (finite.insert store id (object_with inode (content_after edit content))))
          (least last : ℕ) (reach : (x : ℕ) → x < data_leaves edit.length → is_left edit x ≡ false → (least ≤ x) × (x < last)) (most : L.map_leaves + 1 + (last - least) ≡ most_leaves L store c) where
        long : length content ≡ edit.kept
        long = content_long ∙ sym kept

        few_kept : edit.kept ≤ edit.had
        few_kept = omega (arith, had, kept)

        was : (k : ℕ) → k < L.leaves → is_data_of L leaves inode.number k ≡ true → (entry_at L leaves k).index < data_leaves edit.kept →
            IsLeafOf content (entry_at L leaves k).index (leaves k)
        was k below data' early = content_held L laid leaves store stands inode.number found.high found.is k below data'

        done : (named : List Leaf) → IsContentPlan L leaves map inode edit named → IsPlanOf L leaves store c named
        done named plan =
            let head : IsHead (bytes_or plan.head (leaves inode.number)) inode.kind inode.usage id inode.secret edit.length =
            head_as (bytes_or plan.head (leaves inode.number)) inode.kind inode.kind inode.usage inode.usage inode.id id inode.secret inode.secret edit.length refl refl id_is refl
            (plan.says (whole.inode inode.number found.high found.is).bytes found.told) in
            plan_stands L laid leaves store stands c (finite.insert store id (object_with inode (content_after edit content))) named stated
            (edit_stands L laid leaves store stands id inode found map first plan.planned.map named plan.head edit plan.planned.edited inode.kind inode.usage inode.secret content long had few_kept was
            head)
            (shorter (edit_few L laid leaves store stands id inode found map first plan.planned.map named plan.head edit plan.planned.edited inode.kind inode.usage inode.secret content long had
            few_kept was
            head plan.planned.few least last reach) most) plan.planned.changed
            (edit_names L laid leaves store stands id inode found map first plan.planned.map named plan.head edit plan.planned.edited inode.kind inode.usage inode.secret content long had few_kept was
            head)

        full : LacksSpace L map edit → change_in L store c ≡ Err answers.NoSpace
        full lacks =
            change_full L laid store (finite.insert store id (object_with inode (content_after edit content))) c stated
            (edit_full L laid leaves store id (object_of L leaves inode.number) (object_with inode (content_after edit content)) edit whole (costs_leaves L laid leaves store stands) held
            (ap (λ (o : Object). length o.content) told ∙ content_long ∙ sym had) (after_long edit content long) map (free_same L laid leaves map first) lacks)

        pub content_plans : (r : Result (List Leaf) StoreAnswer) → IfOk r (λ named. IsContentPlan L leaves map inode edit named) → (r ≡ Err answers.NoSpace → LacksSpace L map edit) →
            IsUnreadOrFull (refusal_of r) → Plans L leaves store c r
        content_plans (Ok named) plan space refused = done named plan
        content_plans (Err e) plan space refused = unread_plans e (change_in L store c) refused (λ same. full (space (ap (λ (x : StoreAnswer). Err x) same)))

      -- cut, or filled up
      pub truncate_plans : (map : List Entry) (edit : Edit) (n : ℕ) → IsMapOf L leaves map → edit.had ≡ inode.length → edit.kept ≡ inode.length → edit.at ≡ n → edit.length ≡ n →
          length edit.bytes.now ≡ 0 → (r : Result (List Leaf) StoreAnswer)
          → IfOk r (λ named. IsContentPlan L leaves map inode edit named) → (r ≡ Err answers.NoSpace → LacksSpace L map edit) → IsUnreadOrFull (refusal_of r) →
          Plans L leaves store (Truncate id n) r
      truncate_plans map edit n first had kept at long none r plan space refused =
          content_plans map first edit had kept (Truncate id n)
          (ap (λ o. with_object o (λ x. Ok (finite.insert store id (record x { content = resize n x.content })))) (held ∙ ap (λ (o : Object). Some o) told)
          ∙ ap (λ (m : ℕ). Ok (finite.insert store id (object_with inode (resize m content)))) (sym long)
          ∙ ap (λ (b : List ℕ). Ok (finite.insert store id (object_with inode b))) (sym (after_resized edit content (content_long ∙ sym kept) none)))
          (min edit.length edit.kept / 1024) (data_leaves edit.length) (λ x inside isnt. reach_resized edit x none (at ∙ sym long) inside isnt)
          (ap (λ (m : ℕ). L.map_leaves + 1 + (data_leaves m - min m edit.kept / 1024)) long ∙ ap (λ (m : ℕ). L.map_leaves + 1 + (data_leaves n - min n m / 1024)) (kept ∙ sym length_is))
          r plan space refused

      -- bytes are written at a place
      pub write_plans : (map : List Entry) (edit : Edit) (at : ℕ) (bytes : List ℕ) → IsMapOf L leaves map → edit.had ≡ inode.length → edit.kept ≡ inode.length → edit.at ≡ at →
          edit.bytes.now ≡ bytes → length bytes ≢ 0
          → edit.length ≡ max inode.length (at + length bytes) → (r : Result (List Leaf) StoreAnswer)
          → IfOk r (λ named. IsContentPlan L leaves map inode edit named) → (r ≡ Err answers.NoSpace → LacksSpace L map edit) → IsUnreadOrFull (refusal_of r) →
          Plans L leaves store (Write id at bytes) r
      write_plans map edit at bytes first had kept is_at is_bytes some' long r plan space refused =
          let same_length : edit.length ≡ max edit.kept (edit.at + length edit.bytes.now) = long ∙ sym (λ i. max (kept i) (is_at i + length (is_bytes i))) in
          content_plans map first edit had kept (Write id at bytes)
          (ap (λ o. with_object o (λ x. Ok (finite.insert store id (record x { content = write_at x.content at bytes })))) (held ∙ ap (λ (o : Object). Some o) told)
          ∙ ap (λ (b : List ℕ). Ok (finite.insert store id (object_with inode b)))
          (sym (λ i. write_at content (is_at i) (is_bytes i))
          ∙ sym (after_written edit content (content_long ∙ sym kept) (λ none. some' (ap length (sym is_bytes) ∙ none))
          (same_length ∙ ap (λ (m : ℕ). max m (edit.at + length edit.bytes.now)) (kept ∙ sym content_long)))))
          (min edit.at edit.kept / 1024) (data_leaves (edit.at + length edit.bytes.now)) (λ x inside isnt. reach_written edit x same_length inside isnt)
          ((λ i. L.map_leaves + 1 + (data_leaves (is_at i + length (is_bytes i)) - min (is_at i) (kept i) / 1024))
          ∙ ap (λ (m : ℕ). L.map_leaves + 1 + (data_leaves (at + length bytes) - min at m / 1024)) (sym length_is)
          ∙ sym (ap (λ b. if b then 0 else L.map_leaves + 1 + (data_leaves (at + length bytes) - min at (content_length (object_at store id)) / 1024)) (ne_eqb (length bytes) 0 some')))
          r plan space refused

      -- no bytes are written
      pub write_none : (at : ℕ) (bytes : List ℕ) (named : List Leaf) → length bytes ≡ 0 → named ≡ [] → Plans L leaves store (Write id at bytes) (Ok named)
      write_none at bytes named none is = plan_stands L laid leaves store stands (Write id at bytes) store named
          (ap (λ o. with_object o (λ x. Ok (finite.insert store id (record x { content = write_at x.content at bytes })))) held
          ∙ ap (λ (b : List ℕ). Ok (finite.insert store id (record (object_of L leaves inode.number) { content = b })))
          (ap (λ t. if t then (object_of L leaves inode.number).content else resize at (object_of L leaves inode.number).content ++ bytes ++ drop
          (at + length bytes) (object_of L leaves inode.number).content) (eq-eqb (length bytes) 0 none))
          ∙ ap (λ (s : Store). Ok s) (inserted_same store id (object_of L leaves inode.number) held))
          (ap (λ (l : List Leaf). region_of L (with_leaves l leaves)) is ∙ stands)
          (shorter (λ_le (ap length is)) (sym (ap (λ b. if b then 0 else L.map_leaves + 1 + (data_leaves (at + length bytes) - min at (content_length (object_at store id)) / 1024))
          (eq-eqb (length bytes) 0 none))))
          (subst (λ (l : List Leaf). ChangeMap L leaves l) (sym is) (All-nil (λ leaf. ChangesMap L leaves leaf)))
          (λ i below now unnamed. subst (λ (l : List Leaf). is_inode L (with_leaves l leaves) i ≡ true) is now)
        where
          λ_le : {a b : ℕ} → a ≡ b → a ≤ b
          λ_le e = omega (arith, e)

      -- another object is put in its place
      module _ (map : List Entry) (first : IsMapOf L leaves map) (kind usage : ℕ) (secret content' : List ℕ) (edit : Edit) (had : edit.had ≡ inode.length) (kept : edit.kept ≡ 0)
          (start : edit.at ≡ 0) (bytes : edit.bytes.now ≡ content') (long : edit.length ≡ length content')
          (block : List ℕ) (head : IsHead block kind usage id secret edit.length) where
        abbrev put_object : Object
        put_object = record { kind = kind; usage = usage; secret = secret; content = content_after edit [] }

        put_content : content_after edit [] ≡ content'
        put_content = after_whole edit [] (sym kept) start (long ∙ ap length (sym bytes)) ∙ bytes

        and_none : (b : Bool) → (b && false) ≡ false
        and_none true = refl
        and_none false = refl

        put_stated : after_change store (Put id kind usage secret content' true) ≡ Ok (finite.insert store id put_object)
        put_stated =
            ap (λ b. if b then Err answers.Exists else Ok (finite.insert store id (record { kind = kind; usage = usage; secret = secret; content = content' }))) (and_none (has store id))
            ∙ ap (λ (b : List ℕ). Ok (finite.insert store id (record { kind = kind; usage = usage; secret = secret; content = b }))) (sym put_content)

        put_kept : edit.kept ≤ edit.had
        put_kept = omega (arith, kept)

        put_was : (k : ℕ) → k < L.leaves → is_data_of L leaves inode.number k ≡ true → (entry_at L leaves k).index < data_leaves edit.kept →
            IsLeafOf [] (entry_at L leaves k).index (leaves k)
        put_was k below data' early = absurd (omega (arith, early, kept))

        pub put_over_plans : (r : Result (List Leaf) StoreAnswer) → IfOk r (λ named. IsPlanned L leaves map inode.number (Some block) edit named) →
            (r ≡ Err answers.NoSpace → LacksSpace L map edit) → IsUnreadOrFull (refusal_of r)
            → Plans L leaves store (Put id kind usage secret content' true) r
        put_over_plans (Ok named) planned space refused =
            plan_stands L laid leaves store stands (Put id kind usage secret content' true) (finite.insert store id put_object) named put_stated
            (edit_stands L laid leaves store stands id inode found map first planned.map named (Some block) edit planned.edited kind usage secret [] (sym kept) had put_kept put_was head)
            (shorter (edit_few L laid leaves store stands id inode found map first planned.map named (Some block) edit planned.edited kind usage secret [] (sym kept) had put_kept put_was head
            planned.few 0 (data_leaves edit.length) (λ x inside isnt. (omega arith, inside)))
            (let e : L.map_leaves + 1 + (data_leaves edit.length - 0) ≡ L.map_leaves + 1 + data_leaves (length content') = omega (arith, long) in e)) planned.changed
            (edit_names L laid leaves store stands id inode found map first planned.map named (Some block) edit planned.edited kind usage secret [] (sym kept) had put_kept put_was head)
        put_over_plans (Err e) planned space refused =
            unread_plans e (change_in L store (Put id kind usage secret content' true)) refused
            (λ same. change_full L laid store (finite.insert store id put_object) (Put id kind usage secret content' true) put_stated
            (edit_full L laid leaves store id (object_of L leaves inode.number) put_object edit whole (costs_leaves L laid leaves store stands) held
            (ap (λ (o : Object). length o.content) told ∙ content_long ∙ sym had) (after_long edit [] (sym kept)) map (free_same L laid leaves map first)
            (space (ap (λ (x : StoreAnswer). Err x) same))))

      -- an object that may not be replaced
      pub put_exists : (kind usage : ℕ) (secret content' : List ℕ) → change_in L store (Put id kind usage secret content' false) ≡ Err answers.Exists
      put_exists kind usage secret content' =
          change_refused L store (Put id kind usage secret content' false) answers.Exists
          (ap (λ o. if is_some o && true then Err answers.Exists else Ok (finite.insert store id (record { kind = kind; usage = usage; secret = secret; content = content' }))) held)

      -- it is moved to another identifier
      pub rename_plans : (to : List ℕ) (named : List Leaf) (block : List ℕ) (some' : Bor (List ℕ)) → inode_with to (inodes_of L leaves) ≡ None →
          named ≡ record { number = inode.number; bytes = block } ∷ []
          → IsHead block inode.kind inode.usage to inode.secret inode.length → Plans L leaves store (Rename id to) (Ok named)
      rename_plans to named block some' none named_is head =
          let absent : object_at store to ≡ None = ap (λ (s : Store). object_at s to) (same_store L laid leaves store stands) ∙ object_absent L laid leaves to none in
          plan_stands L laid leaves store stands (Rename id to) (finite.remove (finite.insert store to (object_of L leaves inode.number)) id) named
          (ap (λ o. with_object o (λ x. if has store to then Err answers.Exists else Ok (finite.remove (finite.insert store to x) id))) held
          ∙ ap (λ o. if is_some o then Err answers.Exists else Ok (finite.remove (finite.insert store to (object_of L leaves inode.number)) id)) absent)
          (moved_stands L laid leaves store stands id to inode found block named named_is some' head absent)
          (one_named (ap length named_is))
          (subst (λ (l : List Leaf). ChangeMap L leaves l) (sym named_is) (All-push (λ leaf. ChangesMap L leaves leaf) [] (record { number = inode.number; bytes = block })
          (All-nil (λ leaf. ChangesMap L leaves leaf))
          (λ low. absurd (let later = found.low in omega (arith, later, low)))))
          (moved_names L laid leaves store stands id to inode found block named named_is some' head absent)

      pub rename_exists : (to : List ℕ) (other : Inode) → inode_with to (inodes_of L leaves) ≡ Some other → change_in L store (Rename id to) ≡ Err answers.Exists
      rename_exists to other there =
          change_refused L store (Rename id to) answers.Exists
          (ap (λ o. with_object o (λ x. if has store to then Err answers.Exists else Ok (finite.remove (finite.insert store to x) id))) held
          ∙ ap (λ o. if is_some o then Err answers.Exists else Ok (finite.remove (finite.insert store to (object_of L leaves inode.number)) id))
          (ap (λ (s : Store). object_at s to) (same_store L laid leaves store stands) ∙ object_found L laid leaves to other there))

      -- it is taken away
      pub delete_plans : (map mid after : List Entry) (named : List Leaf) → IsMapOf L leaves map → ((i : ℕ) → i < L.map_leaves → IsMapLeaf L after i (with_leaves named leaves i))
          → is_above_all named L.map_leaves ≡ true → ((i : ℕ) → i < L.leaves → entries_in mid i ≡ place_leaves L (entries_in map) inode.number 0 0 i)
          → ((i : ℕ) → entries_in after i ≡ with_entry inode.number free_entry (entries_in mid) i) → length named ≤ L.map_leaves → ChangeMap L leaves named
          → Plans L leaves store (Delete id) (Ok named)
      delete_plans map mid after named first each above placed_is set few changed' =
          plan_stands L laid leaves store stands (Delete id) (finite.remove store id) named (ap (λ o. with_object o (λ x. Ok (finite.remove store id))) held)
          (left_stands L laid leaves store stands id inode found map mid after first named each above placed_is set) few changed'
          (left_names L laid leaves store stands id inode found map mid after first named each above placed_is set)

    -- where none has
    absent_at : (id : List ℕ) → inode_with id (inodes_of L leaves) ≡ None → object_at store id ≡ None
    absent_at id none = ap (λ (s : Store). object_at s id) (same_store L laid leaves store stands) ∙ object_absent L laid leaves id none

    pub delete_none : (id : List ℕ) → inode_with id (inodes_of L leaves) ≡ None → change_in L store (Delete id) ≡ Err answers.NotFound
    delete_none id none = change_refused L store (Delete id) answers.NotFound (ap (λ o. with_object o (λ x. Ok (finite.remove store id))) (absent_at id none))

    pub rename_none : (id to : List ℕ) → inode_with id (inodes_of L leaves) ≡ None → change_in L store (Rename id to) ≡ Err answers.NotFound
    rename_none id to none = change_refused L store (Rename id to) answers.NotFound (ap (λ o. with_object o
        (λ x. if has store to then Err answers.Exists else Ok (finite.remove (finite.insert store to x) id))) (absent_at id none))

    pub write_absent : (id : List ℕ) (at : ℕ) (bytes : List ℕ) → inode_with id (inodes_of L leaves) ≡ None → change_in L store (Write id at bytes) ≡ Err answers.NotFound
    write_absent id at bytes none = change_refused L store (Write id at bytes) answers.NotFound (ap (λ o. with_object o
        (λ x. Ok (finite.insert store id (record x { content = write_at x.content at bytes })))) (absent_at id none))

    pub truncate_none : (id : List ℕ) (n : ℕ) → inode_with id (inodes_of L leaves) ≡ None → change_in L store (Truncate id n) ≡ Err answers.NotFound
    truncate_none id n none = change_refused L store (Truncate id n) answers.NotFound (ap (λ o. with_object o
        (λ x. Ok (finite.insert store id (record x { content = resize n x.content })))) (absent_at id none))

    -- a new object
    module _ (head : Head) (none : inode_with head.id.now (inodes_of L leaves) ≡ None) (map : List Entry) (first : IsMapOf L leaves map) (content' : List ℕ) (overwrite : Bool) (edit : Edit)
        (had : edit.had ≡ 0) (kept : edit.kept ≡ 0) (start : edit.at ≡ 0) (bytes : edit.bytes.now ≡ content') (long : edit.length ≡ length content') where
      abbrev new_object : Object
      new_object = record { kind = head.kind; usage = head.usage; secret = head.secret.now; content = content_after edit [] }

      new_content : content_after edit [] ≡ content'
      new_content = after_whole edit [] (sym kept) start (long ∙ ap length (sym bytes)) ∙ bytes

      new_stated : after_change store (Put head.id.now head.kind head.usage head.secret.now content' overwrite) ≡ Ok (finite.insert store head.id.now new_object)
      new_stated =
          ap (λ o. if is_some o && not overwrite then Err answers.Exists else Ok (finite.insert store head.id.now
          (record { kind = head.kind; usage = head.usage; secret = head.secret.now; content = content' }))) (absent_at head.id.now none)
          ∙ ap (λ (b : List ℕ). Ok (finite.insert store head.id.now (record { kind = head.kind; usage = head.usage; secret = head.secret.now; content = b }))) (sym new_content)

      pub put_new_plans : (r : Result (List Leaf) StoreAnswer) → IfOk r (λ named. IsNewPlan L leaves map head edit named) → (r ≡ Err answers.NoSpace → LacksNew L map edit)
          → IsUnreadOrFull (refusal_of r)
          → Plans L leaves store (Put head.id.now head.kind head.usage head.secret.now content' overwrite) r
      put_new_plans (Ok named) plan space refused =
          plan_stands L laid leaves store stands (Put head.id.now head.kind head.usage head.secret.now content' overwrite) (finite.insert store head.id.now new_object) named new_stated
          (new_stands L laid leaves store stands plan.leaf map plan.base plan.block first plan.new.high plan.new.free plan.new.set named edit plan.planned head.kind head.usage head.id.now
          head.secret.now plan.says had kept (absent_at head.id.now none))
          (shorter (new_few L laid leaves store stands plan.leaf map plan.base plan.block first plan.new.high plan.new.free plan.new.set named edit plan.planned head.kind head.usage
          head.id.now head.secret.now plan.says had kept (absent_at head.id.now none)
          0 (data_leaves edit.length) (λ x inside isnt. (omega arith, inside)))
          (let e : L.map_leaves + 1 + (data_leaves edit.length - 0) ≡ L.map_leaves + 1 + data_leaves (length content') = omega (arith, long) in e)) plan.planned.changed
          (new_names L laid leaves store stands plan.leaf map plan.base plan.block first plan.new.high plan.new.free plan.new.set named edit plan.planned head.kind head.usage head.id.now
          head.secret.now plan.says had kept (absent_at head.id.now none))
      put_new_plans (Err e) plan space refused =
          unread_plans e (change_in L store (Put head.id.now head.kind head.usage head.secret.now content' overwrite)) refused
          (λ same. change_full L laid store (finite.insert store head.id.now new_object) (Put head.id.now head.kind head.usage head.secret.now content' overwrite) new_stated
          (new_full L laid leaves store head.id.now new_object edit map whole (costs_leaves L laid leaves store stands) (absent_at head.id.now none) first (after_long edit [] (sym kept)) had
          (space (ap (λ (x : StoreAnswer). Err x) same))))
