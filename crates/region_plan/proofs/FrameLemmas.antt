-- A region in which the leaves of one object changed: the other objects, and the rules, are as they were.
use Rattle.std.proofs.Common.{◌≡◌, ◌≢◌, ℕ, ◌+◌, ◌-◌, ◌*◌, ◌/◌, ◌%◌, ◌<◌, Bool, true, false, List, take, drop, map, get_or, None, Some, refl, sym, ◌∙◌, ap, subst, arith}
use Rattle.std.specs.Prelude.{◌&&◌, ◌||◌, ◌==◌, if◌then◌else◌, nat_lt}
use Rattle.std.specs.List.{range_with_len}
use Rattle.std.proofs.lemmas.Bool.{eqb-true, eqb-false, eq-eqb, ne_eqb, and_from}
use Rattle.store_api.specs.declared.object.Object.{Object}
use Rattle.region_plan.specs.Layout.{Layout}
use Rattle.region_plan.specs.Parts.{are_zero}
use Rattle.region_plan.specs.Entries.{entry_at, form_of, is_zero, is_inode, is_data_of, is_data_at, is_used, is_well_formed}
use Rattle.region_plan.specs.Inodes.{four_at, length_in, identifier_in, secret_in, is_inode_leaf}
use Rattle.region_plan.specs.Places.{free_entry}
use Rattle.region_plan.specs.Regions.{numbers, leaf_of, byte_in, byte_at, content_of, object_of}
use Rattle.region_plan.specs.declared.entry.Entry.{Entry}
use Rattle.region_plan.specs.declared.entry.TheConstants.{INODE, DATA}
use Rattle.region_plan.specs.declared.inode.TheConstants.{USAGE_AT}
use Rattle.region_plan.proofs.AgreeLemmas.{find_agree, range_met, map_all}
use Rattle.region_plan.proofs.SoundLemmas.{Sound, SoundInode, blocks_of, owner_below, and_both}
use Rattle.region_plan.proofs.FormLemmas.{IsLaid}

-- what kinds say of an entry
pub data_entry : (e : Entry) (m : ℕ) → ((e.kind == DATA) && (e.inode == m)) ≡ true → (e.kind ≡ 2) × (e.inode ≡ m)
data_entry e m is = (let both = and_both (e.kind == DATA) (e.inode == m) is in (eqb-true e.kind 2 both.0, eqb-true e.inode m both.1))

own_inode : (e : Entry) (i n : ℕ) → i ≢ n → (e.kind == INODE) ≡ true → (((i == n) && (e.kind == INODE)) || ((e.kind == DATA) && (e.inode == n))) ≡ false
own_inode e i n other is =
    let kind : e.kind ≡ 1 = eqb-true e.kind 1 is in
    rw (ne_eqb i n other, kind) refl

own_data : (e : Entry) (i n m : ℕ) → m ≢ n → ((e.kind == DATA) && (e.inode == m)) ≡ true → (((i == n) && (e.kind == INODE)) || ((e.kind == DATA) && (e.inode == n))) ≡ false
own_data e i n m other is =
    let parts = data_entry e m is in
    let apart : (e.inode == n) ≡ false = ne_eqb e.inode n (λ same. other (sym parts.1 ∙ same)) in
    rw (parts.0, apart) (neither (i == n))
  where
    neither : (b : Bool) → ((b && false) || false) ≡ false
    neither true = refl
    neither false = refl

unused_free : (e : Entry) → e ≡ free_entry → ((e.kind == INODE) || (e.kind == DATA)) ≡ false
unused_free e is = ap (λ (x : Entry). (x.kind == INODE) || (x.kind == DATA)) is

pub used_inode : (e : Entry) → (e.kind == INODE) ≡ true → ((e.kind == INODE) || (e.kind == DATA)) ≡ true
used_inode e is = ap (λ b. b || (e.kind == DATA)) is

used_data : (e : Entry) (m : ℕ) → ((e.kind == DATA) && (e.inode == m)) ≡ true → ((e.kind == INODE) || (e.kind == DATA)) ≡ true
used_data e m is = (let kind : e.kind ≡ 2 = (data_entry e m is).0 in rw (kind) refl)

-- a form doesn't depend on whether an inode is named, but for data
form_kept : (i : ℕ) (e : Entry) (b c : Bool) → form_of i e b ≡ true → (e.kind ≡ 2 → b ≡ true → c ≡ true) → form_of i e c ≡ true
form_kept i e b c formed implies =
    elim (e.kind == 2) as (λ t. (e.kind == 2) ≡ t → form_of i e c ≡ true) [
      | true ↦ λ t.
          let kind : e.kind ≡ 2 = eqb-true e.kind 2 t in
          let was : b ≡ true = sym (ap (λ (k : ℕ). form_of i (record e { kind = k }) b) kind) ∙ formed in
          ap (λ (k : ℕ). form_of i (record e { kind = k }) c) kind ∙ implies kind was
      | false ↦ λ t. sym (same t b) ∙ formed
    ] refl
  where
    same : (e.kind == 2) ≡ false → (x : Bool) → form_of i e x ≡ form_of i e c
    same t x = ap (λ d. if e.kind == 0 then (e.inode == 0) && (e.index == 0) else if e.kind == 1 then (e.inode == i) && (e.index == 0) else d && x) t
        ∙ sym (ap (λ d. if e.kind == 0 then (e.inode == 0) && (e.index == 0) else if e.kind == 1 then (e.inode == i) && (e.index == 0) else d && c) t)

abbrev object_with : List ℕ → List ℕ → Object
object_with bytes content = record { kind = four_at 0 bytes; usage = four_at USAGE_AT bytes; secret = secret_in bytes; content = content }

module _ (L : Layout) (laid : IsLaid L) where
  module _ (n : ℕ) where
    -- the leaf is the inode, or data of it
    abbrev pub is_own : (ℕ → List ℕ) → ℕ → Bool
    is_own leaves i = ((i == n) && is_inode L leaves i) || is_data_of L leaves n i

    -- what changed is of the inode before or after
    pub record Framed (leaves after : ℕ → List ℕ) : Type 0 where
      pub others : (i : ℕ) → i < L.leaves → is_own leaves i ≡ false → is_own after i ≡ false → entry_at L after i ≡ entry_at L leaves i
      pub taken : (i : ℕ) → i < L.leaves → is_own leaves i ≡ false → is_own after i ≡ true → is_used L leaves i ≡ false
      pub freed : (i : ℕ) → i < L.leaves → is_own leaves i ≡ true → is_own after i ≡ false → entry_at L after i ≡ free_entry
      pub bytes : (i : ℕ) → i < L.leaves → is_used L leaves i ≡ true → is_own leaves i ≡ false → after i ≡ leaves i
      pub formed : (i : ℕ) → i < L.leaves → is_own after i ≡ true → is_well_formed L after i ≡ true

  -- an inode beside the object was one before
  pub inode_before : (leaves after : ℕ → List ℕ) (n : ℕ) → Framed n leaves after → (i : ℕ) → i < L.leaves → i ≢ n → is_inode L after i ≡ true → is_inode L leaves i ≡ true
  inode_before leaves after n frame i below other now =
      let kind : (entry_at L after i).kind ≡ 1 = eqb-true (entry_at L after i).kind 1 now in
      let no_data : is_data_of L after n i ≡ false = ap (λ (k : ℕ). (k == DATA) && ((entry_at L after i).inode == n)) kind in
      let not_own : is_own n after i ≡ false = ap (λ b. (b && is_inode L after i) || is_data_of L after n i) (ne_eqb i n other) ∙ no_data in
      elim (is_own n leaves i) as (λ b. is_own n leaves i ≡ b → is_inode L leaves i ≡ true) [
        | true ↦ λ own. absurd (let f : false ≡ true = sym (ap (λ (e : Entry). e.kind == INODE) (frame.freed i below own not_own)) ∙ now in cc)
        | false ↦ λ own. sym (ap (λ (e : Entry). e.kind == INODE) (frame.others i below own not_own)) ∙ now
      ] refl

  module _ (leaves after : ℕ → List ℕ) (n : ℕ) (sound : Sound L leaves) (frame : Framed n leaves after) where
    abbrev E : ℕ → Entry
    E i = entry_at L leaves i

    abbrev F : ℕ → Entry
    F i = entry_at L after i

    -- what was in use beside the object stays
    kept_entry : (i : ℕ) → i < L.leaves → is_used L leaves i ≡ true → is_own n leaves i ≡ false → F i ≡ E i
    kept_entry i below used other =
        elim (is_own n after i) as (λ b. is_own n after i ≡ b → F i ≡ E i) [
          | true ↦ λ own. absurd (let f : true ≡ false = sym used ∙ frame.taken i below other own in cc)
          | false ↦ λ own. frame.others i below other own
        ] refl

    -- and what is in use beside the object was
    old_entry : (i : ℕ) → i < L.leaves → is_used L after i ≡ true → is_own n after i ≡ false → (F i ≡ E i) × (is_used L leaves i ≡ true) × (is_own n leaves i ≡ false)
    old_entry i below used other =
        elim (is_own n leaves i) as (λ b. is_own n leaves i ≡ b → (F i ≡ E i) × (is_used L leaves i ≡ true) × (is_own n leaves i ≡ false)) [
          | true ↦ λ own. absurd (let f : true ≡ false = sym used ∙ unused_free (F i) (frame.freed i below own other) in cc)
          | false ↦ λ own. (let same = frame.others i below own other in (same, sym (ap (λ (e : Entry). (e.kind == INODE) || (e.kind == DATA)) same) ∙ used, own))
        ] refl

    pub inode_stays : (m : ℕ) → m < L.leaves → m ≢ n → is_inode L leaves m ≡ true → (is_inode L after m ≡ true) × (after m ≡ leaves m)
    inode_stays m below other inode =
        let own = own_inode (E m) m n other inode in
        let used = used_inode (E m) inode in
        (ap (λ (e : Entry). e.kind == INODE) (kept_entry m below used own) ∙ inode, frame.bytes m below used own)

    pub inode_was : (m : ℕ) → m < L.leaves → m ≢ n → is_inode L after m ≡ true → is_inode L leaves m ≡ true
    inode_was m below other inode = sym (ap (λ (e : Entry). e.kind == INODE) (old_entry m below (used_inode (F m) inode) (own_inode (F m) m n other inode)).0) ∙ inode

    data_stays : (m k : ℕ) → k < L.leaves → m ≢ n → is_data_of L leaves m k ≡ true → (F k ≡ E k) × (after k ≡ leaves k)
    data_stays m k below other is =
        let own = own_data (E k) k n m other is in
        let used = used_data (E k) m is in
        (kept_entry k below used own, frame.bytes k below used own)

    data_was : (m k : ℕ) → k < L.leaves → m ≢ n → is_data_of L after m k ≡ true → (F k ≡ E k) × (is_data_of L leaves m k ≡ true)
    data_was m k below other is =
        let same = (old_entry k below (used_data (F k) m is) (own_data (F k) k n m other is)).0 in
        (same, sym (ap (λ (e : Entry). (e.kind == DATA) && (e.inode == m)) same) ∙ is)

    data_same : (m x k : ℕ) → k < L.leaves → m ≢ n → is_data_at L after m x k ≡ is_data_at L leaves m x k
    data_same m x k below other =
        elim (is_data_of L after m k) as (λ b. is_data_of L after m k ≡ b → (b && ((F k).index == x)) ≡ is_data_at L leaves m x k) [
          | true ↦ λ is.
              let was = data_was m k below other is in
              ap (λ (e : Entry). e.index == x) was.0 ∙ sym (ap (λ b. b && ((E k).index == x)) was.1)
          | false ↦ λ isnt. elim (is_data_of L leaves m k) as (λ b. is_data_of L leaves m k ≡ b → false ≡ (b && ((E k).index == x))) [
            | true ↦ λ was. absurd (let f : false ≡ true = sym isnt ∙ ap (λ (e : Entry). (e.kind == DATA) && (e.inode == m)) (data_stays m k below other was).0 ∙ was in cc)
            | false ↦ λ was. refl
          ] refl
        ] refl

    -- the rules of another inode
    other_sound : (m : ℕ) → m < L.leaves → m ≢ n → is_inode L after m ≡ true → SoundInode L after m
    other_sound m below other inode =
        let was = inode_was m below other inode in
        let same : after m ≡ leaves m = (inode_stays m below other was).1 in
        let own = sound.inode m below was in
        let long : blocks_of L after m ≡ blocks_of L leaves m = ap (λ (x : List ℕ). (length_in x + 1023) / 1024) same in
        record {
          bytes = ap is_inode_leaf same ∙ own.bytes;
          present = λ x before. (let met = own.present x (subst (λ (b : ℕ). x < b) long before) in (met.0, met.1, data_same m x met.0 met.1 other ∙ met.2));
          single = λ x k j before low high here there. own.single x k j (subst (λ (b : ℕ). x < b) long before) low high (sym (data_same m x k low other) ∙ here)
              (sym (data_same m x j high other) ∙ there);
          before = λ k low is. (let met = data_was m k low other is in
              subst (λ (b : ℕ). (F k).index < b) (sym long) (subst (λ (e : Entry). e.index < blocks_of L leaves m) (sym met.0) (own.before k low met.1)));
          padded = λ k low is. (let met = data_was m k low other is in
              ap (λ (x : List ℕ). are_zero (drop (length_in x - 1024 * (F k).index) (take 1024 (after k)))) same
              ∙ ap (λ (e : Entry). are_zero (drop (length_in (leaves m) - 1024 * e.index) (take 1024 (after k)))) met.0
              ∙ ap (λ (x : List ℕ). are_zero (drop (length_in (leaves m) - 1024 * (E k).index) (take 1024 x))) (data_stays m k low other met.1).1
              ∙ own.padded k low met.1);
        }

    free_formed : (i : ℕ) → F i ≡ free_entry → is_well_formed L after i ≡ true
    unfolding is_well_formed
    free_formed i free =
        ap (λ (e : Entry). if nat_lt i L.map_leaves then is_zero e else form_of i e (is_inode L after e.inode && nat_lt e.index L.indexes)) free
        ∙ each (nat_lt i L.map_leaves)
      where
        each : (b : Bool) → (if b then true else true) ≡ true
        each true = refl
        each false = refl

    others_formed : (i : ℕ) → i < L.leaves → is_own n leaves i ≡ false → F i ≡ E i → is_well_formed L leaves i ≡ true → is_well_formed L after i ≡ true
    unfolding is_well_formed
    others_formed i below own same formed =
        ap (λ (e : Entry). if nat_lt i L.map_leaves then is_zero e else form_of i e (is_inode L after e.inode && nat_lt e.index L.indexes)) same
        ∙ elim (nat_lt i L.map_leaves) as (λ b. (if b then is_zero (E i) else form_of i (E i) (is_inode L leaves (E i).inode && nat_lt (E i).index L.indexes)) ≡ true →
        (if b then is_zero (E i) else form_of i (E i) (is_inode L after (E i).inode && nat_lt (E i).index L.indexes)) ≡ true) [
          | true ↦ λ e. e
          | false ↦ λ e. form_kept i (E i) (is_inode L leaves (E i).inode && nat_lt (E i).index L.indexes) (is_inode L after (E i).inode && nat_lt (E i).index L.indexes) e
              (λ kind was. (let parts = and_both (is_inode L leaves (E i).inode) (nat_lt (E i).index L.indexes) was in
              and_from (is_inode L after (E i).inode) (nat_lt (E i).index L.indexes) (inode_stays (E i).inode (owner_below L leaves i laid) (not_ours kind) parts.0).0 parts.1))
        ] formed
      where
        not_ours : (E i).kind ≡ 2 → (E i).inode ≢ n
        not_ours kind is = (let data' : is_data_of L leaves n i ≡ true = and_from ((E i).kind == DATA) ((E i).inode == n) (eq-eqb (E i).kind 2 kind) (eq-eqb (E i).inode n is) in
            let f : true ≡ false = sym (or_second ((i == n) && is_inode L leaves i) _ data') ∙ own in cc)
          where
            or_second : (x y : Bool) → y ≡ true → (x || y) ≡ true
            or_second true y e = refl
            or_second false y e = e

    all_formed : (i : ℕ) → i < L.leaves → is_well_formed L after i ≡ true
    all_formed i below =
        elim (is_own n after i) as (λ b. is_own n after i ≡ b → is_well_formed L after i ≡ true) [
          | true ↦ λ own. frame.formed i below own
          | false ↦ λ own. elim (is_own n leaves i) as (λ b. is_own n leaves i ≡ b → is_well_formed L after i ≡ true) [
            | true ↦ λ was. free_formed i (frame.freed i below was own)
            | false ↦ λ was. others_formed i below was (frame.others i below was own) (sound.formed i below)
          ] refl
        ] refl

    -- the object of another inode
    leaf_same : (m x : ℕ) → m ≢ n → leaf_of L after m x ≡ leaf_of L leaves m x
    unfolding leaf_of numbers
    leaf_same m x other = find_agree (λ i. is_data_at L leaves m x i) (λ i. is_data_at L after m x i) L.leaves 0 (λ i low high. data_same m x i (omega arith) other)

    leaf_met : (m x k : ℕ) → leaf_of L leaves m x ≡ Some k → (k < L.leaves) × (is_data_at L leaves m x k ≡ true)
    unfolding leaf_of numbers
    leaf_met m x k is = range_met (λ i. is_data_at L leaves m x i) L.leaves L.leaves 0 k (omega arith) is

    byte_same : (m at : ℕ) → m ≢ n → byte_at L after m at ≡ byte_at L leaves m at
    unfolding byte_at
    byte_same m at other =
        ap (λ r. byte_in L after r (at % 1024)) (leaf_same m (at / 1024) other)
        ∙ elim (leaf_of L leaves m (at / 1024)) as (λ r. leaf_of L leaves m (at / 1024) ≡ r → byte_in L after r (at % 1024) ≡ byte_in L leaves r (at % 1024)) [
          | None ↦ λ e. refl
          | Some k ↦ λ e. (let met = leaf_met m (at / 1024) k e in ap (λ (x : List ℕ). get_or x (at % 1024) 0) (data_stays m k met.0 other (and_both _ _ met.1).0).1)
        ] refl

    pub object_same : (m : ℕ) → m < L.leaves → m ≢ n → is_inode L leaves m ≡ true → object_of L after m ≡ object_of L leaves m
    unfolding object_of content_of
    object_same m below other inode =
        let same = (inode_stays m below other inode).1 in
        ap (λ (x : List ℕ). object_with x (map (λ at. byte_at L after m at) (range_with_len 0 (length_in x)))) same
        ∙ ap (λ (c : List ℕ). object_with (leaves m) c) (map_all (λ at. byte_at L leaves m at) (λ at. byte_at L after m at)
        (range_with_len 0 (length_in (leaves m))) (λ at. byte_same m at other))

    -- the rules hold afterwards, where they hold of the changed object
    module _ (own : is_inode L after n ≡ true → SoundInode L after n)
        (named : is_inode L after n ≡ true → (m : ℕ) → m < L.leaves → m ≢ n → is_inode L leaves m ≡ true → identifier_in (leaves m) ≢ identifier_in (after n)) where
      each_sound : (m : ℕ) → m < L.leaves → is_inode L after m ≡ true → SoundInode L after m
      each_sound m below inode =
          elim (m == n) as (λ b. (m == n) ≡ b → SoundInode L after m) [
            | true ↦ λ e. (let same : m ≡ n = eqb-true m n e in subst (λ (x : ℕ). SoundInode L after x) (sym same) (own (subst (λ (x : ℕ). is_inode L after x ≡ true) same inode)))
            | false ↦ λ e. other_sound m below (eqb-false m n e) inode
          ] refl

      each_apart : (a b : ℕ) → a < L.leaves → b < L.leaves → is_inode L after a ≡ true → is_inode L after b ≡ true → identifier_in (after a) ≡ identifier_in (after b) → a ≡ b
      each_apart a b low high here there same =
          elim (a == n) as (λ t. (a == n) ≡ t → a ≡ b) [
            | true ↦ λ e. elim (b == n) as (λ t. (b == n) ≡ t → a ≡ b) [
              | true ↦ λ f. eqb-true a n e ∙ sym (eqb-true b n f)
              | false ↦ λ f.
                  let is : a ≡ n = eqb-true a n e in
                  let other = eqb-false b n f in
                  let was = inode_was b high other there in
                  absurd (named (subst (λ (x : ℕ). is_inode L after x ≡ true) is here) b high other was (sym (ap identifier_in (inode_stays b high other was).1) ∙ sym same
                  ∙ ap (λ (x : ℕ). identifier_in (after x)) is))
            ] refl
            | false ↦ λ e. elim (b == n) as (λ t. (b == n) ≡ t → a ≡ b) [
              | true ↦ λ f.
                  let is : b ≡ n = eqb-true b n f in
                  let other = eqb-false a n e in
                  let was = inode_was a low other here in
                  absurd (named (subst (λ (x : ℕ). is_inode L after x ≡ true) is there) a low other was (sym (ap identifier_in (inode_stays a low other was).1)
                  ∙ same ∙ ap (λ (x : ℕ). identifier_in (after x)) is))
              | false ↦ λ f.
                  let one = inode_was a low (eqb-false a n e) here in
                  let two = inode_was b high (eqb-false b n f) there in
                  sound.apart a b low high one two (sym (ap identifier_in (inode_stays a low (eqb-false a n e) one).1) ∙ same ∙ ap identifier_in (inode_stays b high (eqb-false b n f) two).1)
            ] refl
          ] refl

      pub framed_sound : Sound L after
      framed_sound = record { formed = all_formed; inode = each_sound; apart = each_apart }
