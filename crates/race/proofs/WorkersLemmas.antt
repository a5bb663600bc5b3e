-- The passes of a race, before it and after it.
use Rattle.app_api.specs.Behaviours.{Behaviour}
use Rattle.std.proofs.Common.{ℕ, ◌≡◌, ◌≢◌, ◌<◌, ◌+◌, ◌*◌, ◌/◌, ◌%◌, ◌∙◌, List, [], ◌∷◌, None, Some, Result, Ok, Err, IfErr, length}
use Rattle.std.proofs.Common.{refl, subst, sym, ap, inl, arith, zero, suc}
use Rattle.std.proofs.lemmas.Option.{slice_get_within}
use Rattle.std.specs.Prelude.{OnOk, slice_get}
use Rattle.std.specs.List.{AllByRecursion}
use Rattle.store_api.specs.Volumes.{VolumeKeeper}
use Rattle.shared_tee.specs.Ending.{ArePasses}
use Rattle.shared_tee.specs.Passes.{IsPassOf, PassView, Places, log_of}
use Rattle.script.specs.declared.line.Line.{Line}
use Rattle.race.specs.declared.client.Stopped.{Stopped}
use Rattle.race.specs.declared.client.Stopped.TheVariants as stops
use Rattle.race.specs.Wishes.{NameApps, wishes_of}
use Rattle.race.specs.Following.{Follows, FollowsFirst, FollowsPart}
use Rattle.race.specs.Clients.{AllKnowMore, AllServe, FindsFull, WhereMarked}
use Rattle.race.specs.Dealing.{AreDealt, StandInOrder}
use Rattle.race.specs.Outcomes.{HasFilled, IsOutcome}
use Rattle.race.specs.Racing.{AllFollow, AllFollowTill, FilledBy, IsFilled, KnowNone}
use Rattle.race.specs.Workers.{AllHaveRun, AllMayRun, HasEnded, HasRun, HaveAll, MayRun}
use Rattle.race.specs.declared.worker.Worker.{Worker}
use Rattle.race.proofs.FirstLemmas.{first_of_part, follows_first, follows_none, follows_part}

-- ---- lists

pub all_by_places : {X : Type 0} (P : X → Type 0) (xs : List X) → ((i : ℕ) (x : X) → slice_get xs i ≡ Some x → P x) → AllByRecursion P xs
all_by_places P [] each = tt
all_by_places P (x ∷ xs) each = (each zero x refl, all_by_places P xs (λ i y here. each (suc i) y here))

-- so many times eight
pub eights : (all found cells : ℕ) → all ≡ 8 * cells → found ≡ all → all ≡ 8 * (found / 8)
eights all found cells size is = omega (arith, size, is)

-- there is one at each place within
pub has_one : {X : Type 0} (xs : List X) (i : ℕ) → i < length xs → (x : X) × (slice_get xs i ≡ Some x)
has_one [] i lt = absurd (omega (arith, lt))
has_one (x ∷ xs) zero lt = (x, refl)
has_one (x ∷ xs) (suc i) lt = has_one xs i (omega (arith, lt))

module _ {V A : Type 0} (K : VolumeKeeper V) (behaviour : Behaviour A) (places : Places) (lines : List Line) where
  -- a worker that ended, and as it began
  pub record Began (old : List (Worker V A)) (i : ℕ) (w : Worker V A) : Type 0 where
    pub worker : Worker V A
    pub here : slice_get old i ≡ Some worker
    pub run : HasRun K behaviour places lines worker w

  pub began : (old new : List (Worker V A)) (i : ℕ) (w : Worker V A) → AllHaveRun K behaviour places lines old new → slice_get new i ≡ Some w → Began old i w
  began [] [] i w all here = absurd (let e : None ≡ Some w = here in cc)
  began [] (y ∷ new) i w all here = absurd all
  began (x ∷ old) [] i w all here = absurd all
  began (x ∷ old) (y ∷ new) zero w all here = record {
    worker = x;
    here = refl;
    run = subst (λ z. HasRun K behaviour places lines x z) (let e : Some y ≡ Some w = here in cc (e)) all.0;
  }
  began (x ∷ old) (y ∷ new) (suc i) w all here = let rest = began old new i w all.1 here in record { worker = rest.worker; here = rest.here; run = rest.run }

  pub as_many : (old new : List (Worker V A)) → AllHaveRun K behaviour places lines old new → length new ≡ length old
  as_many [] [] all = refl
  as_many [] (y ∷ new) all = absurd all
  as_many (x ∷ old) [] all = absurd all
  as_many (x ∷ old) (y ∷ new) all = ap suc (as_many old new all.1)

  -- ---- what one worker's passes made

  -- the pass is the runtime's, of this application and client
  pub record IsOwn (app client : ℕ) (p : PassView V A) : Type 0 where
    pub of : IsPassOf places p
    pub app_is : p.app ≡ app
    pub client_is : p.client ≡ client

  module _ (client : ℕ) (passes : List (PassView V A)) where
    pub finds_it : (full : ℕ) (r : Result (Unit {0}) Stopped) → r ≡ Err (stops.LogFull full) → HasEnded K behaviour places lines client r passes
        → (q : PassView V A) × (slice_get passes full ≡ Some q) × FindsFull K behaviour client (wishes_of full client lines) q
    finds_it full (Ok done) is ended = absurd (let e : Ok done ≡ Err (stops.LogFull full) = is in cc (e))
    finds_it full (Err (stops.LogFull found)) is ended =
        subst (λ n. (q : PassView V A) × (slice_get passes n ≡ Some q) × FindsFull K behaviour client (wishes_of n client lines) q)
        (let e : (let r : Result (Unit {0}) Stopped = Err (stops.LogFull found) in r) ≡ Err (stops.LogFull full) = is in cc (e)) ended.1
    finds_it full (Err stops.NoMemory) is ended = absurd (let e : (let r : Result (Unit {0}) Stopped = Err stops.NoMemory in r) ≡ Err (stops.LogFull full) = is in cc (e))

  module _ (client : ℕ) (passes : List (PassView V A)) (app : ℕ) (p : PassView V A) (here : slice_get passes app ≡ Some p) where
    pub own_ended : (r : Result (Unit {0}) Stopped) → HasEnded K behaviour places lines client r passes → IsOwn app client p
    own_ended (Ok done) ended = let s = ended app p here in record { of = s.of; app_is = s.app_is; client_is = s.client_is }
    own_ended (Err why) ended = let s = ended.0 app p here in record { of = s.of; app_is = s.app_is; client_is = s.client_is }

    pub follows_ok : (r : Result (Unit {0}) Stopped) → r ≡ Ok tt → HasEnded K behaviour places lines client r passes
        → WhereMarked K p (λ m. Follows behaviour m client (log_of p) (wishes_of app client lines))
    follows_ok (Ok done) is ended = (ended app p here).follows
    follows_ok (Err why) is ended = absurd (let e : Err why ≡ Ok tt = is in cc (e))

    pub follows_part_ended : (r : Result (Unit {0}) Stopped) → r ≢ Err stops.NoMemory → HasEnded K behaviour places lines client r passes
        → WhereMarked K p (λ m. FollowsPart behaviour m client (log_of p) (wishes_of app client lines))
    follows_part_ended (Ok done) served ended = λ origin is marked. follows_part behaviour origin.machine client (log_of p) (wishes_of app client lines) ((ended app p here).follows origin is marked)
    follows_part_ended (Err (stops.LogFull full)) served ended = (ended.0 app p here).follows
    follows_part_ended (Err stops.NoMemory) served ended = absurd (served refl)

    pub follows_first_ended : (r : Result (Unit {0}) Stopped) → HasEnded K behaviour places lines client r passes
        → WhereMarked K p (λ m. FollowsFirst behaviour m client (log_of p) (wishes_of app client lines))
    follows_first_ended (Ok done) ended = λ origin is marked. follows_first behaviour origin.machine client (log_of p) (wishes_of app client lines) ((ended app p here).follows origin is marked)
    follows_first_ended (Err (stops.LogFull full)) ended = λ origin is marked.
        first_of_part behaviour origin.machine client (log_of p) (wishes_of app client lines) ((ended.0 app p here).follows origin is marked)
    follows_first_ended (Err stops.NoMemory) ended = (ended.0 app p here).follows

  -- ---- the passes before the race

  module _ (all : List (PassView V A)) (passes : ArePasses places all) where
    pub in_order : StandInOrder all
    in_order i p here = let one = passes.each i p here in (one.1, one.2)

    -- where there is no memory for the workers, nothing was made
    pub none_made : KnowNone all → AllFollowTill K behaviour stops.NoMemory lines all
    none_made none i p here origin is marked =
        subst (λ log. FollowsFirst behaviour origin.machine p.client log (wishes_of p.app p.client lines)) (sym (none i p here))
        (record { first = []; rest = wishes_of p.app p.client lines; wishes_are = refl; follows = inl (follows_none behaviour origin.machine p.client) })

    module _ (count : ℕ) (workers : List (Worker V A)) (dealt : AreDealt count all workers) (named : NameApps (length places.cells) lines) (none : KnowNone all) where
      so_many : count ≡ length places.cells
      so_many = let a = dealt.size in let b = passes.all in omega (arith, a, b)

      serves_none : (client : ℕ) (w : Worker V A) → slice_get workers client ≡ Some w → AllServe K behaviour places w.client [] w.passes.items
      serves_none client w here app p there =
          let own = dealt.each client w here in
          let lt = slice_get_within w.passes.items app p there in
          let size = own.size in
          let at : slice_get all (8 * app + client) ≡ Some p = sym (own.each app (omega (arith, lt, size))) ∙ there in
          let one = passes.each (8 * app + client) p at in
          let small = slice_get_within workers client w here in let e = dealt.eight in
          let place = one.2 in let less = one.1 in
          record {
            of = one.0;
            app_is = omega (arith, place, less, small, e);
            client_is = let mine = own.client_is in omega (arith, place, less, small, e, mine);
            follows = λ origin is marked. subst (λ log. Follows behaviour origin.machine w.client log []) (sym (none (8 * app + client) p at)) (follows_none behaviour origin.machine w.client);
          }

      pub all_may_run : AllMayRun K behaviour places lines workers
      all_may_run = all_by_places (λ (w : Worker V A). MayRun K behaviour places lines w) workers (λ client w here. record {
        named = subst (λ n. NameApps n lines) (sym ((dealt.each client w here).size ∙ so_many)) named;
        begins = serves_none client w here;
      })

  -- ---- the passes after it

  module _ (count : ℕ) (all : List (PassView V A)) (workers : List (Worker V A)) (dealt : AreDealt count all workers) (ended : List (Worker V A))
      (run : AllHaveRun K behaviour places lines workers ended) where
    pub have_all : HaveAll count ended
    have_all = record {
      eight = as_many workers ended run ∙ dealt.eight;
      client = λ client w here. let one = began workers ended client w run here in one.run.client ∙ (dealt.each client one.worker one.here).client_is;
      size = λ client w here. let one = began workers ended client w run here in one.run.known.as_many ∙ (dealt.each client one.worker one.here).size;
    }

    module _ (back : List (PassView V A)) (gathered : AreDealt count back ended) where
      -- the worker that had a pass
      pub record HasCome (i : ℕ) (p : PassView V A) : Type 0 where
        pub app : ℕ
        pub client : ℕ
        pub small : client < 8
        pub within : app < count
        pub place : i ≡ 8 * app + client
        pub worker : Worker V A
        pub here : slice_get ended client ≡ Some worker
        pub own : slice_get worker.passes.items app ≡ Some p
        pub client_is : worker.client ≡ client

      pub has_come : (i : ℕ) (p : PassView V A) → slice_get back i ≡ Some p → HasCome i p
      has_come i p here =
          let lt = slice_get_within back i p here in let size = gathered.size in
          let app = i / 8 in let client = i % 8 in
          let small : client < 8 = omega arith in
          let within : app < count = omega (arith, lt, size) in
          let place : i ≡ 8 * app + client = omega arith in
          let e = have_all.eight in
          let some = has_one ended client (omega (arith, e, small)) in
          record {
            app = app;
            client = client;
            small = small;
            within = within;
            place = place;
            worker = some.0;
            here = some.1;
            own = (gathered.each client some.0 some.1).each app within ∙ (ap (λ n. slice_get back n) (sym place) ∙ here);
            client_is = have_all.client client some.0 some.1;
          }

      own_of : (i : ℕ) (p : PassView V A) (c : HasCome i p) → IsOwn c.app c.client p
      own_of i p c = let one = began workers ended c.client c.worker run c.here in
          subst (λ n. IsOwn c.app n p) c.client_is (own_ended c.worker.client c.worker.passes.items c.app p c.own c.worker.ended one.run.ended)

      pub are_passes : (size : length all ≡ 8 * length places.cells) → ArePasses places back
      are_passes size = record {
        all = gathered.size ∙ (sym dealt.size ∙ size);
        each = λ i p here. let c = has_come i p here in let o = own_of i p c in (
          o.of,
          (let small = c.small in let e = o.client_is in omega (arith, small, e)),
          c.place ∙ (ap (λ n. 8 * n + c.client) (sym o.app_is) ∙ ap (λ n. 8 * p.app + n) (sym o.client_is)),
        );
      }

      pub all_known : AllKnowMore all back
      all_known = record {
        as_many = gathered.size ∙ sym dealt.size;
        each = λ i p here.
            let lt = slice_get_within all i p here in let size = dealt.size in let s = gathered.size in
            let some = has_one back i (omega (arith, lt, size, s)) in
            let c = has_come i some.0 some.1 in
            let one = began workers ended c.client c.worker run c.here in
            let was : slice_get one.worker.passes.items c.app ≡ Some p = (dealt.each c.client one.worker one.here).each c.app c.within ∙ (ap (λ n. slice_get all n) (sym c.place) ∙ here) in
            let more = one.run.known.each c.app p was in
            record { now = more.now; here = some.1 ∙ (sym c.own ∙ more.here); knows = more.knows };
      }

      pub all_follow : IsOutcome (length ended) ended (Ok tt) → AllFollow K behaviour lines back
      all_follow done i p here =
          let c = has_come i p here in let o = own_of i p c in let one = began workers ended c.client c.worker run c.here in
          let whole = follows_ok c.worker.client c.worker.passes.items c.app p c.own c.worker.ended (done c.client c.worker (slice_get_within ended c.client c.worker c.here) c.here) one.run.ended in
          subst (λ n. WhereMarked K p (λ m. Follows behaviour m n (log_of p) (wishes_of p.app n lines))) (c.client_is ∙ sym o.client_is)
          (subst (λ n. WhereMarked K p (λ m. Follows behaviour m c.worker.client (log_of p) (wishes_of n c.worker.client lines))) (sym o.app_is) whole)

      all_part : (full : ℕ) → HasFilled (length ended) full ended → AllFollowTill K behaviour (stops.LogFull full) lines back
      all_part full filled i p here =
          let c = has_come i p here in let o = own_of i p c in let one = began workers ended c.client c.worker run c.here in
          let served = filled.served c.client c.worker (slice_get_within ended c.client c.worker c.here) c.here in
          let part = follows_part_ended c.worker.client c.worker.passes.items c.app p c.own c.worker.ended served one.run.ended in
          subst (λ n. WhereMarked K p (λ m. FollowsPart behaviour m n (log_of p) (wishes_of p.app n lines))) (c.client_is ∙ sym o.client_is)
          (subst (λ n. WhereMarked K p (λ m. FollowsPart behaviour m c.worker.client (log_of p) (wishes_of n c.worker.client lines))) (sym o.app_is) part)

      all_first : AllFollowTill K behaviour stops.NoMemory lines back
      all_first i p here =
          let c = has_come i p here in let o = own_of i p c in let one = began workers ended c.client c.worker run c.here in
          let first = follows_first_ended c.worker.client c.worker.passes.items c.app p c.own c.worker.ended one.run.ended in
          subst (λ n. WhereMarked K p (λ m. FollowsFirst behaviour m n (log_of p) (wishes_of p.app n lines))) (c.client_is ∙ sym o.client_is)
          (subst (λ n. WhereMarked K p (λ m. FollowsFirst behaviour m c.worker.client (log_of p) (wishes_of n c.worker.client lines))) (sym o.app_is) first)

      pub all_follow_till : (why : Stopped) → IsOutcome (length ended) ended (Err why) → AllFollowTill K behaviour why lines back
      all_follow_till (stops.LogFull full) filled = all_part full filled
      all_follow_till stops.NoMemory starved = all_first

      filled_by : (full : ℕ) → HasFilled (length ended) full ended → FilledBy K behaviour full lines back
      filled_by full filled =
          let w = filled.one in
          let one = began workers ended filled.place w run filled.here in
          let found = finds_it w.client w.passes.items full w.ended filled.ended one.run.ended in
          let o = own_ended w.client w.passes.items full found.0 found.1 w.ended one.run.ended in
          let own = gathered.each filled.place w filled.here in
          let lt = slice_get_within w.passes.items full found.0 found.1 in
          let size = own.size in
          record {
            place = 8 * full + filled.place;
            pass = found.0;
            here = sym (own.each full (omega (arith, lt, size))) ∙ found.1;
            app_is = o.app_is;
            finds = subst (λ n. FindsFull K behaviour n (wishes_of full n lines) found.0) (sym o.client_is) found.2;
          }

      -- ---- by how the race ended

      pub ok_clause : (r : Result (Unit {0}) Stopped) → IsOutcome (length ended) ended r → OnOk r (AllFollow K behaviour lines back)
      ok_clause (Ok done) outcome = all_follow outcome
      ok_clause (Err why) outcome = tt

      pub err_clause : (r : Result (Unit {0}) Stopped) → IsOutcome (length ended) ended r → IfErr r (λ why. AllFollowTill K behaviour why lines back)
      err_clause (Ok done) outcome = tt
      err_clause (Err why) outcome = all_follow_till why outcome

      pub full_clause : (r : Result (Unit {0}) Stopped) → IsOutcome (length ended) ended r → IfErr r (λ why. IsFilled K behaviour why lines back)
      full_clause (Ok done) outcome = tt
      full_clause (Err (stops.LogFull full)) outcome = filled_by full outcome
      full_clause (Err stops.NoMemory) outcome = tt
