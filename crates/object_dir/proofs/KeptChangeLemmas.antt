-- How a change by a directory that is kept ends.
use Rattle.std.proofs.Common.{◌≡◌, ◌≢◌, ◌⊎◌, ◌<◌, ◌∙◌, ℕ, false, List, [], Option, None, Some, Result, Ok, Err, refl, sym, ap, subst, ⊎_elim}
use Rattle.std.specs.Prelude.{IfSome, IsTrue}
use Rattle.tee_base.specs.declared.limits.TheConstants.{MAX_HOSTS}
use Rattle.store_api.specs.declared.answer.StoreAnswer.{StoreAnswer}
use Rattle.store_api.specs.declared.change.Change.{Change}
use Rattle.store_api.specs.declared.leaves.Leaf.{Leaf}
use Rattle.store_api.specs.declared.leaves.LeafAnswer.{LeafAnswer}
use Rattle.store_api.specs.Stores.{Store}
use Rattle.store_api.specs.Volumes.{Commits, Held, VolumeKeeper}
use Rattle.region_plan.specs.Directories.{IsDirectoryOf}
use Rattle.region_plan.specs.Planning.{Plans, PlansChange, PlansFrom}
use Rattle.region_plan.specs.Plans.{NamesInodes, with_leaves}
use Rattle.region_plan.specs.Quotas.{change_in}
use Rattle.region_plan.specs.Reading.{IfGarbled, IsBroken, IsSound, IsUnread, ReadsOnly, refusal_of}
use Rattle.region_plan.specs.Regions.{region_of}
use Rattle.region_plan.specs.declared.directory.Directory.{Directory}
use Rattle.region_plan.proofs.ReadLemmas.{leaves_stay, reads_joined}
use Rattle.region_plan.proofs.RegionLemmas.{if_answered, region_unread, unread_answers}
use Rattle.object_dir.specs.Changing.{ChangesLeaves, CommitsOnce, CommitsRegion, done_of, planned_leaves}
use Rattle.object_dir.specs.Kept.{ChangesKept, IsFound, IsHeld}
use Rattle.object_dir.specs.Regions.{HasStore, in_use, number_of, region_keeper}
use Rattle.object_dir.specs.declared.region.Region.{Region}
use Rattle.object_dir.proofs.AnswerLemmas.{garbled_also, not_both}
use Rattle.object_dir.proofs.ChangeLemmas.{change_committed, change_refused_as, committed_once, made, nothing_as, number, plan_for, reads_once}
use Rattle.object_dir.proofs.FoundLemmas.{IsLawful}
use Rattle.object_dir.proofs.HeldLemmas.{own_leaves}
use Rattle.object_dir.proofs.KeptFoundLemmas.{from_found, to_found}

-- what is held of a region after an acknowledged commit
held_then : (named : List Leaf) (n : ℕ) (h : Held) (answer : Result ℕ LeafAnswer) (g : Held) → Ok tt ≡ done_of answer → Commits answer n named h g → g.leaves n ≡ with_leaves named (h.leaves n)
held_then named n h (Ok sequence) g is made = ap (λ (x : Held). x.leaves n) made.0 ∙ own_leaves n named h.leaves
held_then named n h (Err answer) g is made = cc

-- what is planned, by a directory that is another name of the one that is kept
module _ {V : Type 0} (K : VolumeKeeper V) (c : Change) (d other : Directory) (same : other ≡ d) (mid end : Region V) where
  pub plan_as : (planned : Result (List Leaf) StoreAnswer) → PlansFrom (region_keeper K) number_of other c planned mid end → PlansFrom (region_keeper K) number_of d c planned mid end
  plan_as planned plan = subst (λ (x : Directory). PlansFrom (region_keeper K) number_of x c planned mid end) same plan

  pub plan_as_to : (planned to : Option (List Leaf)) → planned ≡ to → PlansFrom (region_keeper K) number_of other c (planned_leaves (Ok planned)) mid end
      → PlansFrom (region_keeper K) number_of d c (planned_leaves (Ok to)) mid end
  plan_as_to planned to is plan =
      plan_as (planned_leaves (Ok to)) (subst (λ (o : Option (List Leaf)). PlansFrom (region_keeper K) number_of other c (planned_leaves (Ok o)) mid end) is plan)

pub changes_as : {V : Type 0} (K : VolumeKeeper V) (mid : Region V) (planned : Option (List Leaf)) (named : List Leaf) → planned ≡ Some named → IfSome planned (λ n. ChangesLeaves K mid n)
    → ChangesLeaves K mid named
changes_as K mid planned named is changes = subst (λ (o : Option (List Leaf)). IfSome o (λ n. ChangesLeaves K mid n)) is changes

module _ {V : Type 0} (K : VolumeKeeper V) (laws : IsLawful K)
    (intact : (v : V) → K.honest v → (K.condition v).lost ≡ false → (region leaf : ℕ) → region < MAX_HOSTS → leaf < K.leaves → K.damage v region leaf ≡ None) (c : Change)
    (kept : Option Directory) where
  abbrev HeldAs : Region V → Option Directory → Type 0
  HeldAs r o = IsHeld ((K.held r.volume.now).leaves r.number) o

  -- where the directory can't be read
  pub change_unread : (e : StoreAnswer) (then' : Option Directory) (result : Result (Unit {0}) StoreAnswer) (old new : Region V) → result ≡ Err e → then' ≡ None → IsUnread (Some e)
      → IfGarbled (Some e) (λ leaf. IsBroken (region_keeper K) number_of in_use old leaf) → ReadsOnly (region_keeper K) number_of (Some e) old new → ChangesKept K kept then' c result old new
  change_unread e then' result old new is none unread garbled run = record {
    once = reads_once K laws c (Some e) result old new (ap (λ (r : Result (Unit {0}) StoreAnswer). refusal_of r) is) garbled run;
    made = λ right. change_refused_as K laws c e result old new is
        (record {
          sound = λ t. (region_unread (region_keeper K) number_of in_use {A = List Leaf} (λ store. Err e) (λ a. Unit {0}) e old new unread garbled run).sound t;
          plans = λ t store stands. unread_answers e (change_in in_use store c) unread;
          named = tt;
          garbled = garbled;
          reads = run;
        });
    right = λ has held. subst (λ (o : Option Directory). HeldAs new o) (sym none) tt;
    dropped = λ lost. none;
  }

  module _ (d : Directory) (old mid : Region V) (found : IsTrue K.tells_reads → IsFound K kept old → IsFound K (Some d) old) (run : ReadsOnly (region_keeper K) number_of None old mid) where
    -- a plan by the directory is a plan
    plan_by : (planned : Result (List Leaf) StoreAnswer) (new : Region V) → PlansFrom (region_keeper K) number_of d c planned mid new
        → (IsTrue K.tells_reads → (K.condition old.volume.now).lost ≡ false → IsFound K kept old) → PlansChange (region_keeper K) number_of in_use c planned old new
    plan_by planned new plan right = record {
      sound = λ t. if_answered (refusal_of planned) (IsSound (region_keeper K) number_of in_use old) (found t (right t run.cause.0)).2;
      plans = λ t store is.
          let same = leaves_stay (region_keeper K) number_of old mid run t in
          subst (λ (l : ℕ → List ℕ). Plans in_use l store c planned) same
          (plan.plans t (subst (λ (l : ℕ → List ℕ). IsDirectoryOf l d) (sym same) (found t (right t run.cause.0)).1) store
          (subst (λ (l : ℕ → List ℕ). region_of in_use l ≡ Ok store) (sym same) is));
      named = plan.named;
      garbled = garbled_also (refusal_of planned) (λ leaf. ⊥) (λ leaf. IsBroken (region_keeper K) number_of in_use old leaf) (λ leaf never. absurd never) plan.garbled;
      reads = reads_joined (region_keeper K) number_of (refusal_of planned) old mid new run plan.reads;
    }

    changes_by : (named : List Leaf) → ChangesLeaves K mid named → ChangesLeaves K old named
    changes_by named changes h works =
        subst (λ (x : Held). with_leaves named (x.leaves old.number) ≢ x.leaves old.number) (run.same h)
        (subst (λ (n : ℕ). with_leaves named ((K.held mid.volume.now).leaves n) ≢ (K.held mid.volume.now).leaves n) run.same_region (changes (run.honest h).0 run.cause.1))

    -- the directory is of what is held
    held_by : HasStore K old → HeldAs old kept → HeldAs old (Some d)
    held_by has is =
        from_found K laws intact old has.honest run.cause.0 (Some d) (found (laws.tells old.volume.now has.honest) (to_found K laws intact old has.honest run.cause.0 kept is))

    stays_by : (why : Option StoreAnswer) (new : Region V) → ReadsOnly (region_keeper K) number_of why old new → HasStore K old → HeldAs old kept → HeldAs new (Some d)
    stays_by why new whole has is =
        subst (λ (x : Held). IsHeld (x.leaves new.number) (Some d)) (sym (whole.same has.honest))
        (subst (λ (n : ℕ). IsHeld ((K.held old.volume.now).leaves n) (Some d)) (sym whole.same_region) (held_by has is))

    -- a change that is refused
    pub refused_by : (why : StoreAnswer) (then' : Option Directory) (new : Region V) → PlansFrom (region_keeper K) number_of d c (Err why) mid new → (then' ≡ None) ⊎ (then' ≡ Some d)
        → (IsTrue (K.condition new.volume.now).lost → then' ≡ None) → ChangesKept K kept then' c (Err why) old new
    refused_by why then' new plan end dropped =
        let reads = reads_joined (region_keeper K) number_of (Some why) old mid new run plan.reads in record {
          once = reads_once K laws c (Some why) (Err why) old new refl
              (garbled_also (Some why) (λ leaf. ⊥) (λ leaf. IsBroken (region_keeper K) number_of in_use old leaf) (λ leaf never. absurd never) plan.garbled) reads;
          made = λ right. change_refused_as K laws c why (Err why) old new refl (plan_by (Err why) new plan right);
          right = λ has held.
              ⊎_elim (λ (none : then' ≡ None). subst (λ (o : Option Directory). HeldAs new o) (sym none) tt)
              (λ (same : then' ≡ Some d). subst (λ (o : Option Directory). HeldAs new o) (sym same) (stays_by (Some why) new reads has held)) end;
          dropped = dropped;
        }

    -- a change that changes no leaf
    pub nothing_by : (new : Region V) → PlansFrom (region_keeper K) number_of d c (Ok []) mid new → ChangesKept K kept (Some d) c (Ok tt) old new
    nothing_by new plan =
        let reads = reads_joined (region_keeper K) number_of None old mid new run plan.reads in record {
          once = reads_once K laws c None (Ok tt) old new refl tt reads;
          made = λ right. nothing_as K laws c None old new refl (plan_by (Ok []) new plan right);
          right = stays_by None new reads;
          dropped = λ lost. not_both (K.condition new.volume.now).lost lost reads.cause.1;
        }

    -- a change that is committed, or not
    module _ (named : List Leaf) (end new : Region V) (plan : PlansFrom (region_keeper K) number_of d c (Ok named) mid end) (changes : ChangesLeaves K mid named) where
      reads_by : ReadsOnly (region_keeper K) number_of None old end
      reads_by = reads_joined (region_keeper K) number_of None old mid end run plan.reads

      once_by : (result : Result (Unit {0}) StoreAnswer) → CommitsRegion K named result end new → CommitsOnce K result old new
      once_by result commit = subst (λ (r : Result (Unit {0}) StoreAnswer). CommitsOnce K r old new) (sym commit.told)
          (committed_once K laws c named commit.answer old end new reads_by commit.commits (changes_by named changes))

      pub uncommitted_by : (why : StoreAnswer) (then' : Option Directory) (result : Result (Unit {0}) StoreAnswer) → result ≡ Err why → then' ≡ None → CommitsRegion K named (Err why) end new
          → ChangesKept K kept then' c result old new
      uncommitted_by why then' result is none commit = subst (λ (r : Result (Unit {0}) StoreAnswer). ChangesKept K kept then' c r old new) (sym is) (record {
        once = once_by (Err why) commit;
        made = λ right. change_committed K laws c named (Err why) old end new (plan_by (Ok named) end plan right) (changes_by named changes) commit;
        right = λ has held. subst (λ (o : Option Directory). HeldAs new o) (sym none) tt;
        dropped = λ lost. none;
      })

      pub committed_by : (then' : Option Directory)
          → ((leaves : ℕ → List ℕ) → IsDirectoryOf leaves d → NamesInodes in_use leaves named → (store : Store) → region_of in_use (with_leaves named leaves) ≡ Ok store
          → IsHeld (with_leaves named leaves) then')
          → CommitsRegion K named (Ok tt) end new → ChangesKept K kept then' c (Ok tt) old new
      committed_by then' after commit = record {
        once = once_by (Ok tt) commit;
        made = λ right. change_committed K laws c named (Ok tt) old end new (plan_by (Ok named) end plan right) (changes_by named changes) commit;
        right = λ has held.
            let plan' = plan_for K laws c named old end (plan_by (Ok named) end plan (λ t works. to_found K laws intact old has.honest works kept held)) has in
            let leaves = (K.held old.volume.now).leaves old.number in
            subst (λ (n : ℕ). IsHeld ((K.held new.volume.now).leaves n) then') (sym (number K laws c named commit.answer old end new reads_by commit.commits))
            (subst (λ (l : ℕ → List ℕ). IsHeld l then')
            (sym (held_then named old.number (K.held old.volume.now) commit.answer (K.held new.volume.now) commit.told
            (made K laws c named commit.answer old end new reads_by commit.commits has.honest)))
            (after leaves (held_by has held).1 plan'.told plan'.after plan'.stands));
        dropped = λ lost. not_both (K.condition new.volume.now).lost lost (once_by (Ok tt) commit).call.cause.1;
      }
