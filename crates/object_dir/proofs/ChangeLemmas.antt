-- How a change of the objects of a region ends: refused, without a leaf that changes, or with one commit.
use Rattle.std.proofs.Common.{◌≡◌, ◌≤◌, ◌<◌, ℕ, false, List, [], Option, None, Some, Result, Ok, Err, refl, sym, ap, ◌∙◌, subst, arith}
use Rattle.std.specs.Prelude.{IfSome, IsTrue}
use Rattle.tee_base.specs.Crash.{LeavesOnly}
use Rattle.tee_base.proofs.Crash.{joined, weaker}
use Rattle.store_api.specs.declared.answer.StoreAnswer.{StoreAnswer}
use Rattle.store_api.specs.declared.change.Change.{Change}
use Rattle.store_api.specs.declared.leaves.Leaf.{Leaf}
use Rattle.store_api.specs.declared.leaves.LeafAnswer.{LeafAnswer}
use Rattle.store_api.specs.Keeping.{Answers, Applied, Contents, LeftByChange}
use Rattle.store_api.specs.Stores.{Store, change}
use Rattle.store_api.specs.Volumes.{Commits, CommitsLeaves, Held, LeftByCommit, VolumeKeeper, after_commit}
use Rattle.region_plan.specs.Planning.{IsPlanOf, PlansChange}
use Rattle.region_plan.specs.Reading.{IfAnswered, IfGarbled, IsBroken, IsSound, ReadsOnly, leaves_of, refusal_of}
use Rattle.region_plan.specs.Regions.{region_of}
use Rattle.region_plan.proofs.RegionLemmas.{if_answered}
use Rattle.object_dir.specs.Changing.{ChangesLeaves, ChangesRegion, CommitsOnce, CommitsRegion, Decides, IsRegionCall, LeftOfRegion, done_of, planned_leaves}
use Rattle.object_dir.specs.Regions.{in_use, HasStore, contents_in, kept_in, number_of, region_in, region_keeper, remains_in, store_in, store_or_empty}
use Rattle.object_dir.specs.declared.region.Region.{Region}
use Rattle.object_dir.proofs.AnswerLemmas.{commit_cause, commit_corrupt, commit_decides, commit_garbled, commit_held, commit_one, commit_unfailed, commit_unwritten}
use Rattle.object_dir.proofs.AnswerLemmas.{adds_none, if_kept, left_before, left_held, not_both}
use Rattle.object_dir.proofs.FoundLemmas.{IsLawful, answers_working, plan_held, stands_found}
use Rattle.object_dir.proofs.CallLemmas.{from_reads, reads_go_on, reads_stand}
use Rattle.object_dir.proofs.CommitLemmas.{commit_applied, commit_idle, commit_kept, commit_left, commit_others, commit_stands}
use Rattle.object_dir.specs.Laws.{reads_back}
use Rattle.object_dir.proofs.HeldLemmas.{same_contents}
use Rattle.object_dir.proofs.UseLemmas.{change_same}
use Rattle.object_dir.proofs.PlaceLemmas.{same_number}

module _ {V : Type 0} (K : VolumeKeeper V) (laws : IsLawful K) (c : Change) where
  -- reads alone, after which nothing is committed
  module _ (why : Option StoreAnswer) (result : Result (Unit {0}) StoreAnswer) (old new : Region V) (is : refusal_of result ≡ why)
      (garbled : IfGarbled why (λ leaf. IsBroken (region_keeper K) number_of in_use old leaf)) (reads : ReadsOnly (region_keeper K) number_of why old new) where
    pub reads_once : CommitsOnce K result old new
    reads_once = record {
      call = subst (λ (r : Option StoreAnswer). IsRegionCall K r old new) (sym is) (from_reads K why old new reads garbled);
      kept = λ h. if_kept result _ (reads.same h);
      unwritten = if_kept result _ reads.writes;
      others = λ h region other. ap (λ (x : Held). x.leaves region) (reads.same h);
      leaves = λ h works.
          weaker (region_keeper K).moment (region_keeper K).left_since old new (λ o. o ≡ Some (K.held old.volume.now)) (LeftOfRegion result old.number (K.held old.volume.now))
          (λ o is. left_held result old.number (K.held old.volume.now) o is) (reads.crash h works);
      one = adds_none result (K.held old.volume.now).sequence (K.held new.volume.now).sequence reads.sequence;
      idle = λ h same. reads.sequence;
    }

  -- a change that a plan refuses, or that has no leaf to change
  module _ (planned : Result (List Leaf) StoreAnswer) (result : Result (Unit {0}) StoreAnswer) (old new : Region V) (why : refusal_of result ≡ refusal_of planned)
      (plan : PlansChange (region_keeper K) number_of in_use c planned old new) where
    pub plan_same : HasStore K old → kept_in K new ≡ kept_in K old
    plan_same has = same_contents new.number old.number (K.held new.volume.now) (K.held old.volume.now) plan.reads.same_region (plan.reads.same has.honest)

    plan_leaves : HasStore K old → (K.condition old.volume.now).lost ≡ false
        → LeavesOnly (region_keeper K).moment (region_keeper K).left_since old new (λ o. LeftByChange result (kept_in K old) (change (kept_in K old).store c) (remains_in new.number o))
    plan_leaves has works =
        weaker (region_keeper K).moment (region_keeper K).left_since old new (λ o. o ≡ Some (K.held old.volume.now))
        (λ o. LeftByChange result (kept_in K old) (change (kept_in K old).store c) (remains_in new.number o))
        (λ o is. left_before result (kept_in K old) (change (kept_in K old).store c) (remains_in new.number o)
        (ap (λ (k : ℕ). remains_in k o) plan.reads.same_region ∙ (ap (λ (x : Option Held). remains_in old.number x) is ∙ reads_back old.number (K.held old.volume.now) has.stands)))
        (plan.reads.crash has.honest works)

    pub ends_with_plan : (IsTrue K.tells_reads → (store : Store) → region_of in_use (leaves_of (region_keeper K) number_of old) ≡ Ok store → Decides result (change store c))
        → (HasStore K old → Applied result (change (kept_in K old).store c) (kept_in K old) (kept_in K new)) → ChangesRegion K c result old new
    ends_with_plan decided applied =
        let once = reads_once (refusal_of planned) result old new why plan.garbled plan.reads in record {
          call = once.call;
          sound = λ t. subst (λ (r : Option StoreAnswer). IfAnswered r (IsSound (region_keeper K) number_of in_use old)) (sym why) (plan.sound t);
          decided = decided;
          kept = once.kept;
          unwritten = once.unwritten;
          others = once.others;
          leaves = once.leaves;
          stands = reads_stand K (refusal_of planned) old new plan.reads;
          applied = applied;
          one = once.one;
          idle = once.idle;
          crash = plan_leaves;
        }

  -- a plan for what is held
  pub plan_for : (named : List Leaf) (old mid : Region V) → PlansChange (region_keeper K) number_of in_use c (Ok named) old mid → (has : HasStore K old)
      → IsPlanOf in_use ((K.held old.volume.now).leaves old.number) (store_in old.number (K.held old.volume.now)) c named
  plan_for named old mid plan has =
      let store = store_in old.number (K.held old.volume.now) in
      plan_held K laws old has.honest plan.reads.cause.0 c store named
      (plan.plans (laws.tells old.volume.now has.honest) store (stands_found K laws old has.honest plan.reads.cause.0 store has.stands))

  pub change_refused : (why : StoreAnswer) (old new : Region V) → PlansChange (region_keeper K) number_of in_use c (Err why) old new → ChangesRegion K c (Err why) old new
  change_refused why old new plan =
      ends_with_plan (Err why) (Err why) old new refl plan
      (λ t store stands. subst (λ r. Answers {A = Store} (Err why) r) (change_same store c) (plan.plans t store stands))
      (λ has. (
        answers_working {A = Store} (Err why) (change (kept_in K old).store c) ((region_keeper K).condition old) ((region_keeper K).condition new) plan.reads.cause
            (λ works. subst (λ r. Answers {A = Store} (Err why) r) (change_same (store_in old.number (K.held old.volume.now)) c)
            (plan.plans (laws.tells old.volume.now has.honest) (store_in old.number (K.held old.volume.now))
            (stands_found K laws old has.honest works (store_in old.number (K.held old.volume.now)) has.stands))),
        plan_same (Err why) (Err why) old new refl plan has,
      ))

  pub change_refused_as : (why : StoreAnswer) (result : Result (Unit {0}) StoreAnswer) (old new : Region V) → result ≡ Err why → PlansChange (region_keeper K) number_of in_use c (Err why)
      old new → ChangesRegion K c result old new
  change_refused_as why result old new is plan = subst (λ (r : Result (Unit {0}) StoreAnswer). ChangesRegion K c r old new) (sym is) (change_refused why old new plan)

  -- a plan of no leaf is one of a change that leaves the store as it was
  same_store : (n : ℕ) (h : Held) → region_in n h ≡ Ok (store_in n h) → IsPlanOf in_use (h.leaves n) (store_in n h) c [] → change (store_in n h) c ≡ Ok (store_in n h)
  same_store n h is plan =
      let same : store_in n h ≡ plan.after = ap (λ (r : Result Store ℕ). store_or_empty r) (sym is ∙ plan.stands) in
      sym (change_same (store_in n h) c) ∙ plan.changes ∙ ap (λ (s : Store). Ok s) (sym same)

  nothing_changes : (old new : Region V) → PlansChange (region_keeper K) number_of in_use c (Ok []) old new → ChangesRegion K c (Ok tt) old new
  nothing_changes old new plan =
      ends_with_plan (Ok []) (Ok tt) old new refl plan (λ t store stands. (let made = plan.plans t store stands in (made.after, sym (change_same store c) ∙ made.changes)))
      (λ has.
      let same : kept_in K new ≡ kept_in K old = plan_same (Ok []) (Ok tt) old new refl plan has in
      let changes = same_store old.number (K.held old.volume.now) has.stands (plan_for [] old new plan has) in (
        changes ∙ ap (λ (x : Contents). Ok x.store) (sym same),
        ap (λ (x : Contents). x.rest) same,
        let e : (kept_in K new).number ≡ (kept_in K old).number = ap (λ (x : Contents). x.number) same
            in omega arith,
      ))

  -- planned leaves, and one commit of them
  module _ (named : List Leaf) (answer : Result ℕ LeafAnswer) (old mid new : Region V) (reads : ReadsOnly (region_keeper K) number_of None old mid)
      (commit : CommitsLeaves (region_keeper K) mid.number named answer mid new) where
    works_then : (K.condition mid.volume.now).lost ≡ false
    works_then = reads.cause.1

    pub number : new.number ≡ old.number
    number = same_number K mid new commit.call.cause.foundation ∙ reads.same_region

    commit_call : IsRegionCall K (refusal_of (done_of answer)) old new
    commit_call = record {
      cause = commit_cause answer ((region_keeper K).condition old) ((region_keeper K).condition mid) ((region_keeper K).condition new) reads.cause reads.later commit.call.cause.cause;
      later = let one : (K.condition old.volume.now).faults ≤ (K.condition mid.volume.now).faults = reads.later in let two : (K.condition mid.volume.now).faults ≤
          (K.condition new.volume.now).faults = commit.call.cause.later in omega arith;
      unfailed = commit_unfailed answer (K.condition old.volume.now).faults (K.condition mid.volume.now).faults (K.condition new.volume.now).faults reads.unfailed commit.call.cause.unfailed;
      foundation = commit.call.cause.foundation ∙ reads.foundation;
      below = λ b. commit.call.below (reads.below b);
      honest = λ h. ((commit.call.honest (reads.honest h).0).0, commit_corrupt answer (λ tags. ⊥) (λ tags. ⊥) (λ tags never. never) (commit.call.honest (reads.honest h).0).1);
      shows = λ t. commit_corrupt answer (λ tags. (leaf : ℕ) × (leaf < K.leaves) × (K.damage new.volume.now mid.number leaf ≡ Some tags))
          (λ tags. (leaf : ℕ) × (leaf < K.leaves) × (K.damage new.volume.now new.number leaf ≡ Some tags))
          (λ tags met. (met.0, met.1, ap (λ (k : ℕ). K.damage new.volume.now k met.0) (same_number K mid new commit.call.cause.foundation) ∙ met.2)) (commit.shows t);
      garbled = commit_garbled answer _;
      broken = commit_garbled answer _;
      quiet = λ lost. not_both (K.condition old.volume.now).lost lost reads.cause.0;
      past = λ h t o le left.
          let first : K.moment old.volume.now ≤ K.moment mid.volume.now = reads_go_on K None old mid reads h in
          commit.call.past (reads.honest h).0 t o (omega arith) (reads.past h t o le left);
      goes_on = λ h.
          let first : K.moment old.volume.now ≤ K.moment mid.volume.now = reads_go_on K None old mid reads h in
          let second : K.moment mid.volume.now ≤ K.moment new.volume.now = (commit.crash (reads.honest h).0 works_then).later in
          omega arith;
    }

    -- the commit, from what was held before the plan
    pub made : K.honest old.volume.now → Commits answer old.number named (K.held old.volume.now) (K.held new.volume.now)
    made h =
        subst (λ (x : Held). Commits answer old.number named x (K.held new.volume.now)) (reads.same h)
        (subst (λ (k : ℕ). Commits answer k named (K.held mid.volume.now) (K.held new.volume.now)) reads.same_region (commit.committed (reads.honest h).0))

    commit_region : K.honest old.volume.now → (K.condition old.volume.now).lost ≡ false
        → LeavesOnly (region_keeper K).moment (region_keeper K).left_since old new (LeftOfRegion (done_of answer) old.number (K.held old.volume.now))
    commit_region h works =
        joined (region_keeper K).moment (region_keeper K).left_since old mid new (LeftOfRegion (done_of answer) old.number (K.held old.volume.now))
        (weaker (region_keeper K).moment (region_keeper K).left_since old mid (λ o. o ≡ Some (K.held old.volume.now)) (LeftOfRegion (done_of answer) old.number (K.held old.volume.now))
        (λ o is. left_held (done_of answer) old.number (K.held old.volume.now) o is) (reads.crash h works))
        (weaker (region_keeper K).moment (region_keeper K).left_since mid new (LeftByCommit answer (K.held mid.volume.now) (after_commit mid.number named (K.held mid.volume.now)))
        (LeftOfRegion (done_of answer) old.number (K.held old.volume.now))
        (λ o left. subst (λ (k : ℕ). LeftOfRegion (done_of answer) k (K.held old.volume.now) o) reads.same_region
        (subst (λ (x : Held). LeftOfRegion (done_of answer) mid.number x o) (reads.same h) (commit_held answer mid.number named (K.held mid.volume.now) o left)))
        (commit.crash (reads.honest h).0 works_then))

    -- whatever the leaves stand for
    pub committed_once : ChangesLeaves K old named → CommitsOnce K (done_of answer) old new
    committed_once changes = record {
      call = commit_call;
      kept = λ h. commit_kept named old.number (K.held old.volume.now) answer (K.held new.volume.now) (made h);
      unwritten = commit_unwritten answer ((region_keeper K).condition old) ((region_keeper K).condition mid) ((region_keeper K).condition new) reads.cause reads.writes
          commit.call.cause.cause commit.unwritten;
      others = λ h. commit_others named old.number (K.held old.volume.now) answer (K.held new.volume.now) (made h);
      leaves = commit_region;
      one = commit_one answer (K.held old.volume.now).sequence (K.held mid.volume.now).sequence (K.held new.volume.now).sequence reads.sequence commit.sequence;
      idle = λ h same. commit_idle named old.number (K.held old.volume.now) answer (K.held new.volume.now) (made h) (changes h reads.cause.0) same;
    }

    module _ (plan : PlansChange (region_keeper K) number_of in_use c (Ok named) old mid) (has : HasStore K old) where
      pub plan_of : IsPlanOf in_use ((K.held old.volume.now).leaves old.number) (store_in old.number (K.held old.volume.now)) c named
      plan_of = plan_for named old mid plan has

      commit_has : HasStore K new
      commit_has = record {
        honest = (commit.call.honest (reads.honest has.honest).0).0;
        stands = subst (λ (k : ℕ). region_in k (K.held new.volume.now) ≡ Ok (store_in k (K.held new.volume.now))) (sym number)
            (commit_stands c named old.number (K.held old.volume.now) has.stands plan_of answer (K.held new.volume.now) (made has.honest));
      }

      commit_applies : Applied (done_of answer) (change (kept_in K old).store c) (kept_in K old) (kept_in K new)
      commit_applies =
          subst (λ (k : ℕ). Applied (done_of answer) (change (kept_in K old).store c) (kept_in K old) (contents_in k (K.held new.volume.now))) (sym number)
          (commit_applied c named old.number (K.held old.volume.now) has.stands plan_of answer (K.held new.volume.now) (made has.honest))

      commit_remains : (o : Option Held) → LeftByCommit answer (K.held mid.volume.now) (after_commit mid.number named (K.held mid.volume.now)) o
          → LeftByChange (done_of answer) (kept_in K old) (change (kept_in K old).store c) (remains_in new.number o)
      commit_remains o left =
          let here : LeftByCommit answer (K.held mid.volume.now) (after_commit old.number named (K.held mid.volume.now)) o =
          subst (λ (k : ℕ). LeftByCommit answer (K.held mid.volume.now) (after_commit k named (K.held mid.volume.now)) o) reads.same_region left in
          let there : LeftByCommit answer (K.held old.volume.now) (after_commit old.number named (K.held old.volume.now)) o =
          subst (λ (x : Held). LeftByCommit answer x (after_commit old.number named x) o) (reads.same has.honest) here in
          subst (λ (k : ℕ). LeftByChange (done_of answer) (kept_in K old) (change (kept_in K old).store c) (remains_in k o)) (sym number)
          (commit_left c named old.number (K.held old.volume.now) has.stands plan_of answer o there)

      commit_leaves : (K.condition old.volume.now).lost ≡ false
          → LeavesOnly (region_keeper K).moment (region_keeper K).left_since old new (λ o. LeftByChange (done_of answer) (kept_in K old) (change (kept_in K old).store c) (remains_in new.number o))
      commit_leaves works =
          joined (region_keeper K).moment (region_keeper K).left_since old mid new (λ o. LeftByChange (done_of answer) (kept_in K old) (change (kept_in K old).store c) (remains_in new.number o))
          (weaker (region_keeper K).moment (region_keeper K).left_since old mid (λ o. o ≡ Some (K.held old.volume.now))
          (λ o. LeftByChange (done_of answer) (kept_in K old) (change (kept_in K old).store c) (remains_in new.number o))
          (λ o is. left_before (done_of answer) (kept_in K old) (change (kept_in K old).store c) (remains_in new.number o)
          (ap (λ (k : ℕ). remains_in k o) number ∙ (ap (λ (x : Option Held). remains_in old.number x) is ∙ reads_back old.number (K.held old.volume.now) has.stands)))
          (reads.crash has.honest works))
          (weaker (region_keeper K).moment (region_keeper K).left_since mid new (LeftByCommit answer (K.held mid.volume.now) (after_commit mid.number named (K.held mid.volume.now)))
          (λ o. LeftByChange (done_of answer) (kept_in K old) (change (kept_in K old).store c) (remains_in new.number o))
          commit_remains (commit.crash (reads.honest has.honest).0 works_then))

    by_answer : PlansChange (region_keeper K) number_of in_use c (Ok named) old mid → ChangesLeaves K old named → ChangesRegion K c (done_of answer) old new
    by_answer plan changes =
        let once = committed_once changes in record {
          call = once.call;
          sound = λ t. if_answered (refusal_of (done_of answer)) (IsSound (region_keeper K) number_of in_use old) (plan.sound t);
          decided = λ t store stands. (let found = plan.plans t store stands in commit_decides answer found.after (change store c) (sym (change_same store c) ∙ found.changes));
          kept = once.kept;
          unwritten = once.unwritten;
          others = once.others;
          leaves = once.leaves;
          stands = commit_has plan;
          applied = commit_applies plan;
          one = once.one;
          idle = once.idle;
          crash = commit_leaves plan;
        }

  -- a change that is committed
  pub change_committed : (named : List Leaf) (result : Result (Unit {0}) StoreAnswer) (old mid new : Region V) → PlansChange (region_keeper K) number_of in_use c (Ok named) old mid
      → ChangesLeaves K old named → CommitsRegion K named result mid new → ChangesRegion K c result old new
  change_committed named result old mid new plan changes commit =
      subst (λ (r : Result (Unit {0}) StoreAnswer). ChangesRegion K c r old new) (sym commit.told)
      (by_answer named commit.answer old mid new plan.reads commit.commits plan changes)

  -- the same by what a plan answered
  pub committed_as : (planned : Option (List Leaf)) (named : List Leaf) (result : Result (Unit {0}) StoreAnswer) (old mid new : Region V) → planned ≡ Some named
      → PlansChange (region_keeper K) number_of in_use c (planned_leaves (Ok planned)) old mid → IfSome planned (λ leaves. ChangesLeaves K old leaves) → CommitsRegion K named result mid new
      → ChangesRegion K c result old new
  committed_as planned named result old mid new is plan changes commit =
      change_committed named result old mid new (subst (λ (o : Option (List Leaf)). PlansChange (region_keeper K) number_of in_use c (planned_leaves (Ok o)) old mid) is plan)
      (subst (λ (o : Option (List Leaf)). IfSome o (λ leaves. ChangesLeaves K old leaves)) is changes) commit

  pub nothing_as : (planned : Option (List Leaf)) (old new : Region V) → planned ≡ None → PlansChange (region_keeper K) number_of in_use c (planned_leaves (Ok planned)) old new
      → ChangesRegion K c (Ok tt) old new
  nothing_as planned old new is plan = nothing_changes old new (subst (λ (o : Option (List Leaf)). PlansChange (region_keeper K) number_of in_use c (planned_leaves (Ok o)) old new) is plan)
