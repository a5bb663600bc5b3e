-- What a call that only reads promises, by how it ends.
use Rattle.std.proofs.Common.{◌≡◌, ◌<◌, ℕ, true, List, Option, None, Some, Result, Ok, Err, ◌/◌, ◌+◌, ◌*◌, ◌≤◌, false, nat_lt, refl, ap, subst, sym, ◌∙◌, arith}
use Rattle.std.specs.Prelude.{IsTrue, IfOk}
use Rattle.store_api.specs.declared.answer.StoreAnswer.{StoreAnswer}
use Rattle.store_api.specs.declared.answer.StoreAnswer.TheVariants as answers
use Rattle.store_api.specs.Keeping.{Answers}
use Rattle.store_api.specs.Stores.{Store, object_at}
use Rattle.store_api.specs.Volumes.{VolumeKeeper}
use Rattle.region_plan.specs.Layout.{Layout}
use Rattle.region_plan.specs.Locating.{Locates, LocatesInode}
use Rattle.region_plan.specs.Reading.{AreWhole, IsReadData, IsUndamaged, IsWhole, ReadsOnly, ReadsRegion, IfAnswered, IfGarbled, IsBroken, IsSound, IsUnread, leaves_of, refusal_of}
use Rattle.region_plan.specs.Regions.{breaks, is_padded, leaf_of, store_of}
use Rattle.tee_base.specs.declared.limits.TheConstants.{BLOCK_BYTES}
use Rattle.store_api.specs.declared.answer.Mismatch.{Mismatch}
use Rattle.region_plan.specs.Entries.{is_inode, is_well_formed}
use Rattle.std.proofs.lemmas.Bool.{ltb-true, ltb-false}
use Rattle.region_plan.proofs.CompleteLemmas.{each_more}
use Rattle.region_plan.proofs.ReadLemmas.{damage_stays, leaves_stay, reads_joined, reads_not_found, reads_no_memory}
use Rattle.region_plan.proofs.FormLemmas.{IsLaid}

pub unread_answers : {A : Type 0} (e : StoreAnswer) (stated : Result A StoreAnswer) → IsUnread (Some e) → Answers (Err e) stated
unread_answers answers.NotFound stated h = absurd h
unread_answers answers.Exists stated h = absurd h
unread_answers answers.NoSpace stated h = absurd h
unread_answers answers.Lost stated h = tt
unread_answers answers.Failed stated h = tt
unread_answers (answers.Corrupt tags) stated h = tt
unread_answers (answers.Garbled leaf) stated h = tt
unread_answers answers.NoMemory stated h = tt

unread_locates : (e : StoreAnswer) (L : Layout) (leaves : ℕ → List ℕ) (store : Store) (id : List ℕ) → IsUnread (Some e) → Locates L leaves store id (Err e)
unread_locates answers.NotFound L leaves store id h = absurd h
unread_locates answers.Exists L leaves store id h = absurd h
unread_locates answers.NoSpace L leaves store id h = absurd h
unread_locates answers.Lost L leaves store id h = tt
unread_locates answers.Failed L leaves store id h = tt
unread_locates (answers.Corrupt tags) L leaves store id h = tt
unread_locates (answers.Garbled leaf) L leaves store id h = tt
unread_locates answers.NoMemory L leaves store id h = tt

-- what holds anyway holds where there is an answer
pub if_answered : (why : Option StoreAnswer) (fact : Type 0) → fact → IfAnswered why fact
if_answered None fact holds = holds
if_answered (Some answers.NotFound) fact holds = holds
if_answered (Some answers.Exists) fact holds = holds
if_answered (Some answers.NoSpace) fact holds = holds
if_answered (Some answers.Lost) fact holds = tt
if_answered (Some answers.Failed) fact holds = tt
if_answered (Some (answers.Corrupt tags)) fact holds = tt
if_answered (Some (answers.Garbled leaf)) fact holds = tt
if_answered (Some answers.NoMemory) fact holds = tt

-- what was kept from its answer has none
unread_answered : (e : StoreAnswer) (fact : Type 0) → IsUnread (Some e) → IfAnswered (Some e) fact
unread_answered answers.NotFound fact h = absurd h
unread_answered answers.Exists fact h = absurd h
unread_answered answers.NoSpace fact h = absurd h
unread_answered answers.Lost fact h = tt
unread_answered answers.Failed fact h = tt
unread_answered (answers.Corrupt tags) fact h = tt
unread_answered (answers.Garbled leaf) fact h = tt
unread_answered answers.NoMemory fact h = tt

-- no leaf is told
pub never_told : (why : Option StoreAnswer) (P : ℕ → Type 0) → IfGarbled why (λ n. ⊥) → IfGarbled why P
never_told None P told = tt
never_told (Some answers.NotFound) P told = tt
never_told (Some answers.Exists) P told = tt
never_told (Some answers.NoSpace) P told = tt
never_told (Some answers.Lost) P told = tt
never_told (Some answers.Failed) P told = tt
never_told (Some (answers.Corrupt tags)) P told = tt
never_told (Some (answers.Garbled leaf)) P told = absurd told
never_told (Some answers.NoMemory) P told = tt

module _ {S : Type 0} (K : VolumeKeeper S) (region : S → ℕ) (L : Layout) where
  -- a leaf that is told breaks a rule
  abbrev pub ToldBreaks : Option StoreAnswer → S → Type 0
  ToldBreaks why old = IfGarbled why (λ leaf. IsBroken K region L old leaf)

  -- it is one of the region's, and breaks a rule where what reads give is known
  pub told_breaks : (why : Option StoreAnswer) (old : S) → IfGarbled why (λ leaf. leaf < L.leaves)
      → (IsTrue K.tells_reads → IfGarbled why (λ leaf. IsTrue (breaks L (leaves_of K region old) leaf))) → ToldBreaks why old
  told_breaks None old few told = tt
  told_breaks (Some answers.NotFound) old few told = tt
  told_breaks (Some answers.Exists) old few told = tt
  told_breaks (Some answers.NoSpace) old few told = tt
  told_breaks (Some answers.Lost) old few told = tt
  told_breaks (Some answers.Failed) old few told = tt
  told_breaks (Some (answers.Corrupt tags)) old few told = tt
  told_breaks (Some (answers.Garbled leaf)) old few told = record { below = few; breaks = told }
  told_breaks (Some answers.NoMemory) old few told = tt

  -- inodes below a leaf, one more at a time
  pub none_whole : (s : S) → AreWhole K region L s 0
  none_whole s = record { undamaged = λ i below is. absurd (omega (arith, below)); whole = λ i below is. absurd (omega (arith, below)) }

  pub more_whole : (s : S) (n m : ℕ) → m ≡ n + 1 → AreWhole K region L s n → (is_inode L (leaves_of K region s) n ≡ true → IsUndamaged K region s n)
      → (is_inode L (leaves_of K region s) n ≡ true → IsWhole L (leaves_of K region s) n) → AreWhole K region L s m
  more_whole s n m is before undamaged whole = record {
    undamaged = each_more (λ i. is_inode L (leaves_of K region s) i ≡ true → IsUndamaged K region s i) n m is before.undamaged undamaged;
    whole = each_more (λ i. is_inode L (leaves_of K region s) i ≡ true → IsWhole L (leaves_of K region s) i) n m is before.whole whole;
  }

  -- a data leaf that holds all between two places
  pub leaf_read : (s : S) (inode at end leaf : ℕ) → end ≤ 1024 * (at / 1024) + 1024 → leaf_of L (leaves_of K region s) inode (at / 1024) ≡ Some leaf
      → IsUndamaged K region s leaf → is_padded L (leaves_of K region s) leaf ≡ true → IsReadData K region L inode at end s
  leaf_read s inode at end leaf inside found undamaged padded = record {
    undamaged = λ place other low high is. subst (λ (k : ℕ). IsUndamaged K region s k) (same place other low high is) undamaged;
    padded = λ place other low high is. subst (λ (k : ℕ). is_padded L (leaves_of K region s) k ≡ true) (same place other low high is) padded;
  }
    where
      same : (place other : ℕ) → at ≤ place → place < end → leaf_of L (leaves_of K region s) inode (place / 1024) ≡ Some other → leaf ≡ other
      same place other low high is =
          let index : at / 1024 ≡ place / 1024 = omega (arith, inside, low, high) in
          let both : Some leaf ≡ Some other = sym found ∙ ap (λ (x : ℕ). leaf_of L (leaves_of K region s) inode x) index ∙ is in cc

  -- no data between a place and itself, and the data of one part behind those of another
  pub none_read : (s : S) (inode at : ℕ) → IsReadData K region L inode at at s
  none_read s inode at = record { undamaged = λ place leaf low high is. absurd (omega (arith, low, high)); padded = λ place leaf low high is. absurd (omega (arith, low, high)) }

  pub parts_read : (s : S) (inode start at end : ℕ) → IsReadData K region L inode start at s → IsReadData K region L inode at end s → IsReadData K region L inode start end s
  parts_read s inode start at end one two = record {
    undamaged = λ place leaf low high is. elim (nat_lt place at) as (λ b. nat_lt place at ≡ b → IsUndamaged K region s leaf) [
      | true ↦ λ e. one.undamaged place leaf low (ltb-true place at e) is
      | false ↦ λ e. two.undamaged place leaf (ltb-false place at e) high is
    ] refl;
    padded = λ place leaf low high is. elim (nat_lt place at) as (λ b. nat_lt place at ≡ b → is_padded L (leaves_of K region s) leaf ≡ true) [
      | true ↦ λ e. one.padded place leaf low (ltb-true place at e) is
      | false ↦ λ e. two.padded place leaf (ltb-false place at e) high is
    ] refl;
  }

  -- a narrower part
  pub less_read : (s : S) (inode start end from to : ℕ) → ((place : ℕ) → from ≤ place → place < to → (start ≤ place) × (place < end))
      → IsReadData K region L inode start end s → IsReadData K region L inode from to s
  less_read s inode start end from to within read = record {
    undamaged = λ place leaf low high is. (let w = within place low high in read.undamaged place leaf w.0 w.1 is);
    padded = λ place leaf low high is. (let w = within place low high in read.padded place leaf w.0 w.1 is);
  }

  -- what is known of the leaves after a run of reads was known before it
  module _ (old mid : S) (run : ReadsOnly K region None old mid) (t : IsTrue K.tells_reads) where
    pub undamaged_before : (leaf : ℕ) → IsUndamaged K region mid leaf → IsUndamaged K region old leaf
    undamaged_before leaf is = ap (λ (damage : ℕ → Option Mismatch). damage leaf) (sym (damage_stays K region old mid run t)) ∙ is

    pub whole_before : (end : ℕ) → AreWhole K region L mid end → AreWhole K region L old end
    whole_before end inodes = record {
      undamaged = λ i below is. undamaged_before i (inodes.undamaged i below (subst (λ (l : ℕ → List ℕ). is_inode L l i ≡ true) (sym same) is));
      whole = λ i below is. subst (λ (l : ℕ → List ℕ). IsWhole L l i) same (inodes.whole i below (subst (λ (l : ℕ → List ℕ). is_inode L l i ≡ true) (sym same) is));
    }
      where
        same : leaves_of K region mid ≡ leaves_of K region old
        same = leaves_stay K region old mid run t

    pub data_before : (inode start end : ℕ) → IsReadData K region L inode start end mid → IsReadData K region L inode start end old
    data_before inode start end read = record {
      undamaged = λ place leaf low high is. undamaged_before leaf (read.undamaged place leaf low high (subst (λ (l : ℕ → List ℕ). leaf_of L l inode (place / BLOCK_BYTES) ≡ Some leaf) (sym same) is));
      padded = λ place leaf low high is. subst (λ (l : ℕ → List ℕ). is_padded L l leaf ≡ true) same
          (read.padded place leaf low high (subst (λ (l : ℕ → List ℕ). leaf_of L l inode (place / BLOCK_BYTES) ≡ Some leaf) (sym same) is));
    }
      where
        same : leaves_of K region mid ≡ leaves_of K region old
        same = leaves_stay K region old mid run t

  -- the same for a result that is known to be a refusal
  pub refused_breaks : {A : Type 0} (result : Result A StoreAnswer) (e : StoreAnswer) (old : S) → result ≡ Err e → ToldBreaks (Some e) old → ToldBreaks (refusal_of result) old
  refused_breaks {A} result e old is told = subst (λ (r : Result A StoreAnswer). ToldBreaks (refusal_of r) old) (sym is) told

  module _ {A : Type 0} (stated : Store → Result A StoreAnswer) (Bounds : A → Type 0) where
    -- it was kept from its answer
    pub region_unread : (e : StoreAnswer) (old new : S) → IsUnread (Some e) → ToldBreaks (Some e) old → ReadsOnly K region (Some e) old new → ReadsRegion K region L stated Bounds (Err e) old new
    region_unread e old new unread garbled run = record {
      sound = λ h. unread_answered e _ unread;
      answer = λ h. unread_answers e (stated (store_of L (leaves_of K region old))) unread;
      bounds = tt;
      garbled = garbled;
      reads = run;
    }

    pub region_no_memory : (old new : S) → ReadsOnly K region None old new → ReadsRegion K region L stated Bounds (Err answers.NoMemory) old new
    region_no_memory old new run = record { sound = λ h. tt; answer = λ h. tt; bounds = tt; garbled = tt; reads = reads_no_memory K region old new run }

    -- there is none
    pub region_not_found : (old new : S) → (IsTrue K.tells_reads → stated (store_of L (leaves_of K region old)) ≡ Err answers.NotFound)
        → (IsTrue K.tells_reads → IsSound K region L old) → ReadsOnly K region None old new → ReadsRegion K region L stated Bounds (Err answers.NotFound) old new
    region_not_found old new absent sound run = record {
      sound = sound;
      answer = absent;
      bounds = tt;
      garbled = tt;
      reads = reads_not_found K region old new run;
    }

    -- it answers
    pub region_answers : (a : A) (old new : S) → (IsTrue K.tells_reads → stated (store_of L (leaves_of K region old)) ≡ Ok a) → Bounds a
        → (IsTrue K.tells_reads → IsSound K region L old) → ReadsOnly K region None old new → ReadsRegion K region L stated Bounds (Ok a) old new
    region_answers a old new told within sound run = record {
      sound = sound;
      answer = told;
      bounds = within;
      garbled = tt;
      reads = run;
    }

    -- it ends as a part of it ended, behind a run
    pub region_ends : (result : Result A StoreAnswer) (old mid new : S)
        → (IsTrue K.tells_reads → IfOk result (λ a. stated (store_of L (leaves_of K region old)) ≡ Ok a)) → IfOk result (λ a. Bounds a)
        → IsUnread (refusal_of result) → ToldBreaks (refusal_of result) old → (IsTrue K.tells_reads → IsSound K region L old)
        → ReadsOnly K region None old mid → ReadsOnly K region (refusal_of result) mid new → ReadsRegion K region L stated Bounds result old new
    region_ends (Ok a) old mid new told within unread garbled sound one two = region_answers a old new told within sound (reads_joined K region None old mid new one two)
    region_ends (Err e) old mid new told within unread garbled sound one two = region_unread e old new unread garbled (reads_joined K region (Some e) old mid new one two)

  pub located_unread : (id : List ℕ) (e : StoreAnswer) (old new : S) → IsUnread (Some e) → ToldBreaks (Some e) old → ReadsOnly K region (Some e) old new → LocatesInode K region L id (Err e) old new
  located_unread id e old new unread garbled run = record {
    sound = λ h. unread_answered e _ unread;
    answer = λ h. unread_locates e L (leaves_of K region old) (store_of L (leaves_of K region old)) id unread;
    garbled = garbled;
    reads = run;
  }

  pub located_nowhere : (id : List ℕ) (old new : S) → (IsTrue K.tells_reads → object_at (store_of L (leaves_of K region old)) id ≡ None)
      → (IsTrue K.tells_reads → IsSound K region L old) → ReadsOnly K region None old new → LocatesInode K region L id (Err answers.NotFound) old new
  located_nowhere id old new absent sound run = record {
    sound = sound;
    answer = absent;
    garbled = tt;
    reads = reads_not_found K region old new run;
  }

  pub located_at : (id : List ℕ) (n : ℕ) (old new : S) → (IsTrue K.tells_reads → Locates L (leaves_of K region old) (store_of L (leaves_of K region old)) id (Ok n))
      → (IsTrue K.tells_reads → IsSound K region L old) → ReadsOnly K region None old new → LocatesInode K region L id (Ok n) old new
  located_at id n old new told sound run = record {
    sound = sound;
    answer = told;
    garbled = tt;
    reads = run;
  }

module _ (L : Layout) (laid : IsLaid L) where
  -- a map and the inodes, by a read of the first and a run behind it
  pub sound_from : {S : Type 0} (K : VolumeKeeper S) (region : S → ℕ) (old mid : S) → ReadsOnly K region None old mid → IsTrue K.tells_reads
      → ((i : ℕ) → i < L.map_leaves → IsUndamaged K region old i) → ((i : ℕ) → i < L.leaves → is_well_formed L (leaves_of K region old) i ≡ true)
      → AreWhole K region L mid L.leaves → IsSound K region L old
  sound_from K region old mid run t map formed inodes = record {
    map = map;
    formed = formed;
    inodes = whole_before K region L old mid run t L.leaves inodes;
  }
