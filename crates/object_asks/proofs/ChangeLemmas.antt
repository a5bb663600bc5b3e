-- From one change of the store to what an ask is given: it is done, or the store refuses it.
use Rattle.std.proofs.Common.{ℕ, ◌≡◌, ◌<◌, ⊎_elim, inl, inr, true, Option, None, Some, Result, Ok, Err, refl, sym, ap, subst, ◌∙◌, ◌+◌, arith}
use Rattle.tee_base.proofs.Crash.{weaker}
use Rattle.app_api.specs.declared.ask.Answer.{Answer}
use Rattle.store_api.specs.declared.answer.StoreAnswer.{StoreAnswer}
use Rattle.store_api.specs.declared.answer.StoreAnswer.TheVariants as stores
use Rattle.store_api.specs.declared.change.Change.{Change}
use Rattle.store_api.specs.Keeping.{Applies, Contents, IsBeforeOrAfter, Keeper, LeavesJust, LeftByChange, Remains, UnlessFailed}
use Rattle.store_api.specs.Stores.{Store, change}
use Rattle.object_asks.specs.declared.outcome.Outcome.{Outcome as Result_of}
use Rattle.object_asks.specs.declared.outcome.Outcome.TheVariants as outcomes
use Rattle.object_asks.specs.declared.turn.TurnKind.TheVariants.{Plain, Lost}
use Rattle.object_asks.specs.Resolutions.{Objects, Outcome, Answered, code_of, refusal_with}
use Rattle.object_asks.specs.Held.{Held}
use Rattle.object_asks.specs.Serving.{EndsUnchanged, IsGiven, IsKept, IsOldOr, LeftByTurn, StaysBeside, UnlessInDoubt, kind_of, left_by, objects_in}
use Rattle.object_asks.proofs.GivenLemmas.{only_want, refusal_given}
use Rattle.object_asks.proofs.ReadingLemmas.{cause_of, damage_of, ok_err, reports_of, unfailed_of}

-- a crash leaves the change, with a greater number
abbrev Later : Contents → Result Store StoreAnswer → Remains → Type 0
Later old stated o = (store : Store) × (n : ℕ) × (stated ≡ Ok store) × (old.number < n) × (o ≡ Some (record { store = store; rest = old.rest; number = n }))

none_some : (store : Store) → (let n : Option Store = None in n ≡ Some store) → ⊥
none_some store e = cc

same_store : (a b : Store) → (let r : Result Store StoreAnswer = Ok a in r ≡ Ok b) → a ≡ b
same_store a b e = cc

same_doubt : (a b : Store) → Some a ≡ Some b → a ≡ b
same_doubt a b e = cc

-- the change that is stated is this one
later_as : (old : Contents) (stated : Result Store StoreAnswer) (store : Store) (o : Remains) (later : Later old stated o) → later.0 ≡ store → IsOldOr old store o
later_as old stated store o later same = inr (later.1, later.3, later.4 ∙ ap (λ (s : Store). Some (record { store = s; rest = old.rest; number = later.1 })) same)

changed_left : (old : Contents) (stated : Result Store StoreAnswer) (store : Store) (o : Remains) → stated ≡ Ok store → IsBeforeOrAfter old stated o → IsOldOr old store o
changed_left old stated store o is left =
    ⊎_elim (λ (e : o ≡ Some old). inl e) (λ (later : Later old stated o). later_as old stated store o later (same_store later.0 store (sym later.2 ∙ is))) left

doubt_left : (in_doubt : Option Store) (old new : Contents) (stated : Result Store StoreAnswer) (o : Remains) → ((store : Store) → stated ≡ Ok store → in_doubt ≡ Some store)
    → IsBeforeOrAfter old stated o → LeftByTurn (Lost true) in_doubt old new o
doubt_left None old new stated o doubt left = ⊎_elim (λ (e : o ≡ Some old). e) (λ (later : Later old stated o). absurd (none_some later.0 (doubt later.0 later.2))) left
doubt_left (Some store) old new stated o doubt left =
    ⊎_elim (λ (e : o ≡ Some old). inl e) (λ (later : Later old stated o). later_as old stated store o later (sym (same_doubt store later.0 (doubt later.0 later.2)))) left

-- what a crash may leave where the store refused, or was kept from its answer
refused_left : (A : Type 0) (e : StoreAnswer) (in_doubt : Option Store) (old new : Contents) (stated : Result Store StoreAnswer) (o : Remains)
    → ((store : Store) → stated ≡ Ok store → in_doubt ≡ Some store) → LeftByChange {A = A} (Err e) old stated o → LeftByTurn (kind_of true e) in_doubt old new o
refused_left A stores.NotFound in_doubt old new stated o doubt left = inl left
refused_left A stores.Exists in_doubt old new stated o doubt left = inl left
refused_left A stores.NoSpace in_doubt old new stated o doubt left = inl left
refused_left A stores.Lost in_doubt old new stated o doubt left = inl left
refused_left A stores.Failed in_doubt old new stated o doubt left = doubt_left in_doubt old new stated o doubt left
refused_left A (stores.Corrupt tags) in_doubt old new stated o doubt left = left
refused_left A (stores.Garbled leaf) in_doubt old new stated o doubt left = left
refused_left A stores.NoMemory in_doubt old new stated o doubt left = inl left

-- a fact that holds unless the call failed holds unless a change is in doubt
unless_in_doubt : (A : Type 0) (e : StoreAnswer) (fact : Type 0) → UnlessFailed {A = A} (Err e) fact → UnlessInDoubt (kind_of true e) fact
unless_in_doubt A stores.NotFound fact holds = holds
unless_in_doubt A stores.Exists fact holds = holds
unless_in_doubt A stores.NoSpace fact holds = holds
unless_in_doubt A stores.Lost fact holds = holds
unless_in_doubt A stores.Failed fact holds = tt
unless_in_doubt A (stores.Corrupt tags) fact holds = holds
unless_in_doubt A (stores.Garbled leaf) fact holds = holds
unless_in_doubt A stores.NoMemory fact holds = holds

-- who is honest has a store to answer from
module _ {D : Type 0} (K : Keeper D) (honest_model : (d : D) → K.honest d → K.has_model d) (c : Change) (old new : D) where
  abbrev stated : Result Store StoreAnswer
  stated = change (K.contents old).store c

  abbrev applies : {A : Type 0} → Result A StoreAnswer → Type 0
  applies result = Applies K c result old new

  -- the store made the change, and this is answered
  pub given_done : {A : Type 0} (a : A) (by : Result Store StoreAnswer → Outcome Objects) (answer : Answer) (held kept left : Held)
      → by (Ok (K.contents new).store) ≡ Answered (objects_in left (K.contents new)) answer → applies (Ok a)
      → IsGiven K (Ok (outcomes.Answered answer)) (by stated) true held kept left old new
  given_done a by answer held kept left done made = record {
    gives = λ t. ap by (made.applied t).0 ∙ done;
    cause = λ no_want. record {
      cause = made.call.cause.cause;
      later = made.call.cause.later;
      unfailed = made.call.cause.unfailed;
      foundation = made.call.cause.foundation;
      reports = made.call.cause.reports;
    };
    tried = (omega (arith, made.call.attempts), omega (arith, made.call.attempts));
    stays = λ e. absurd (ok_err _ _ e);
    want = λ e. absurd (ok_err _ _ e);
    ends = tt;
    damage = tt;
    honest = λ h. ((made.call.honest h).0, tt);
    keeps = record {
      model = made.call.model;
      still = made.call.still;
      beside = λ t. record { rest = (made.applied t).1; number = (made.applied t).2 };
      below = made.call.below;
      quiet = made.call.quiet;
      past = made.call.past;
    };
    crash = λ h just.
        let leaves = made.crash h just in
        record {
          any_moment = weaker K.moment K.left_since old new (LeftByChange (Ok a) (K.contents old) stated) (LeftByTurn Plain (left_by (by stated)) (K.contents old) (K.contents new))
              (λ o left. changed_left (K.contents old) stated (K.contents new).store o (made.applied (honest_model old h)).0 left) leaves.any_moment;
          afterwards = leaves.afterwards;
        };
  }

  kept_by : (A : Type 0) (e : StoreAnswer) → applies {A = A} (Err e) → IsKept K old new
  kept_by A e made = record {
    model = made.call.model;
    still = made.call.still;
    beside = λ t. subst (λ k. StaysBeside (K.contents old) k) (sym (made.applied t).1) (record { rest = refl; number = omega arith });
    below = made.call.below;
    quiet = made.call.quiet;
    past = made.call.past;
  }

  unchanged : (A : Type 0) → applies {A = A} (Err stores.NoMemory) → EndsUnchanged K old new
  unchanged A made = record {
    contents = λ t. (made.applied t).1;
    status = record {
      cause = made.call.cause.cause.1 ∙ sym made.call.cause.cause.0;
      later = made.call.cause.later;
      foundation = made.call.cause.foundation;
      reports = made.call.cause.reports;
    };
    honest = λ h. (made.call.honest h).0;
    keeps = kept_by A stores.NoMemory made;
    crash = λ h just.
        let leaves = made.crash h just in
        record { any_moment = leaves.any_moment; afterwards = subst (λ k. LeavesJust K new k) (made.applied (honest_model old h)).1 leaves.afterwards };
  }

  -- the store refused, or was kept from its answer, and this is left; want of memory leaves what was held
  pub given_refused : {A : Type 0} (e : StoreAnswer) (by : Result Store StoreAnswer → Outcome Objects) (held kept left : Held)
      → by (Err e) ≡ refusal_with (objects_in kept (K.contents old)) (code_of e) → ((store : Store) → left_by (by (Ok store)) ≡ Some store)
      → left ≡ kept → (e ≡ stores.NoMemory → left ≡ held) → applies {A = A} (Err e) → IsGiven K (Err e) (by stated) true held kept left old new
  given_refused {A} e by held kept left refuses doubt left_is stays made = record {
    gives = λ t. refusal_given {A = Store} e stated (by stated) (objects_in held (K.contents old)) (objects_in kept (K.contents old)) (objects_in left (K.contents new))
        (made.applied t).0 (λ is. ap by is ∙ refuses) (ap (objects_in left) (made.applied t).1 ∙ ap (λ (h : Held). objects_in h (K.contents old)) left_is);
    cause = λ no_want. record {
      cause = cause_of A Result_of e (K.status old) (K.status new) made.call.cause.cause;
      later = made.call.cause.later;
      unfailed = unfailed_of A Result_of e _ made.call.cause.unfailed;
      foundation = made.call.cause.foundation;
      reports = made.call.cause.reports ∙ ap (λ n. (K.status old).damage_reports + n) (reports_of A Result_of e);
    };
    tried = (omega (arith, made.call.attempts), omega (arith, made.call.attempts));
    stays = λ is. stays (only_want e is);
    want = λ is. unchanged A (subst (λ (x : StoreAnswer). applies {A = A} (Err x)) (only_want e is) made);
    ends = tt;
    damage = damage_of A Result_of e (K.damage new) made.call.damage;
    honest = λ h. ((made.call.honest h).0, damage_of A Result_of e (λ answer. ⊥) (made.call.honest h).1);
    keeps = kept_by A e made;
    crash = λ h just.
        let leaves = made.crash h just in
        record {
          any_moment = weaker K.moment K.left_since old new (LeftByChange {A = A} (Err e) (K.contents old) stated)
              (LeftByTurn (kind_of true e) (left_by (by stated)) (K.contents old) (K.contents new))
              (λ o left. refused_left A e (left_by (by stated)) (K.contents old) (K.contents new) stated o (λ store is. ap (λ r. left_by (by r)) is ∙ doubt store) left) leaves.any_moment;
          afterwards = unless_in_doubt A e _ leaves.afterwards;
        };
  }

  -- there is no memory for the change
  pub given_no_memory : {A : Type 0} (if_served : Outcome Objects) (held kept : Held) → applies {A = A} (Err stores.NoMemory) → IsGiven K (Err stores.NoMemory) if_served true held kept held old new
  given_no_memory {A} if_served held kept made = record {
    gives = λ t. tt;
    cause = λ no_want. absurd (no_want refl);
    tried = (omega (arith, made.call.attempts), omega (arith, made.call.attempts));
    stays = λ is. refl;
    want = λ is. unchanged A made;
    ends = tt;
    damage = tt;
    honest = λ h. ((made.call.honest h).0, tt);
    keeps = kept_by A stores.NoMemory made;
    crash = λ h just.
        let leaves = made.crash h just in
        record {
          any_moment = weaker K.moment K.left_since old new (λ o. o ≡ Some (K.contents old)) (LeftByTurn Plain (left_by if_served) (K.contents old) (K.contents new)) (λ o e. inl e)
              leaves.any_moment;
          afterwards = leaves.afterwards;
        };
  }
