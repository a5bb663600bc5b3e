-- How the applications of a race ended: each by one of its passes, from the origin with which the runtime began.
use Rattle.app_api.specs.Behaviours.{Behaviour}
use Rattle.std.proofs.Common.{◌≡◌, ◌<◌, ◌+◌, ◌*◌, ◌++◌, ◌∙◌, ℕ, List, [], ◌∷◌, Some, length, refl, sym, ap, arith}
use Rattle.std.proofs.lemmas.List.{length-map}
use Rattle.std.proofs.lemmas.Option.{slice_get_within}
use Rattle.std.specs.Prelude.{slice_get}
use mathlib.Core.List.{IsPrefix}
use Rattle.app_api.specs.declared.host.Host.{Host}
use Rattle.store_api.specs.Volumes.{VolumeKeeper}
use Rattle.object_dir.specs.Regions.{store_in}
use Rattle.alone.specs.Logs.{KeptLog, Logged}
use Rattle.alone.specs.Machine.{start}
use Rattle.shared_parts.specs.HostedApps.{Begins, HostedEvent, HostedView, Made, Origin, trail_with}
use Rattle.shared_parts.specs.StorageParts.{Opened}
use Rattle.shared_tee.proofs.PassLemmas.{log_with}
use Rattle.shared_tee.specs.Ending.{ArePasses, Ends, EndsFor}
use Rattle.shared_tee.specs.Making.{BeginsOver}
use Rattle.shared_tee.specs.Passes.{PassView, Places, log_in, log_of, origin_in}
use Rattle.race.proofs.FollowLemmas.{grows_by_others}
use Rattle.race.proofs.GoLemmas.{origin_later}
use Rattle.race.specs.Following.{Grows}
use Rattle.race.specs.Clients.{AllKnowMore, KnowsMoreAt}
use Rattle.race.proofs.WorkersLemmas.{has_one}
use Rattle.race.proofs.FreshLemmas.{IsFreshOf, fresh_at, origin_at}
use Rattle.race.proofs.LogLemmas.{map_there}
use Rattle.race.specs.Races.{entries_of}

-- ---- what a pass knew of the log

module _ {V A : Type 0} where
  log_append : (xs ys : List (HostedEvent V A)) → log_in (xs ++ ys) ≡ log_in xs ++ log_in ys
  log_append [] ys = refl
  log_append (Begins origin ∷ xs) ys = log_append xs ys
  log_append (Made logged ∷ xs) ys = ap (λ (ls : List Logged). logged ∷ ls) (log_append xs ys)

  -- the log in a trail begins the one to which the trail goes on
  log_goes_on : (t : List (HostedEvent V A)) (origin : Origin V A) (log : List Logged) → IsPrefix t (trail_with origin log) → IsPrefix (log_in t) log
  log_goes_on t origin log p = (log_in p.0, sym (log_append t p.0) ∙ ap (λ (u : List (HostedEvent V A)). log_in u) p.1 ∙ log_with origin log)

-- ---- how each application ended

module _ {V A : Type 0} (K : VolumeKeeper V) (behaviour : Behaviour A) (hosts : List (Host A)) (seed : List ℕ) (places : Places) (first back : List (PassView V A)) (volume : V)
    (begins : BeginsOver K hosts seed places first volume) (are : ArePasses places back) (known : AllKnowMore first back)
    (logs : List KeptLog) (last : V) (over : Ends K behaviour (length places.cells) back logs last) where
  -- where the application of this host and this index began
  abbrev began_at : Host A → ℕ → Origin V A
  began_at host app = origin_at K places.storage (length hosts) volume seed host app

  -- the application of the pass ended so, and this host brought it
  pub record EndedBy (p : PassView V A) : Type 0 where
    pub host : Host A
    pub hosted : slice_get hosts p.app ≡ Some host
    pub h : HostedView V A
    pub there : slice_get over.ends p.app ≡ Some h
    pub ends : EndsFor K behaviour (Opened (length places.cells) over.began) p h
    pub origin_is : h.origin ≡ began_at host p.app

  ended_from : (i : ℕ) (p q : PassView V A) → slice_get back i ≡ Some p → KnowsMoreAt back i q → IsFreshOf K places.storage (length hosts) volume seed 0 hosts q
      → (h : HostedView V A) → slice_get over.ends p.app ≡ Some h → EndsFor K behaviour (Opened (length places.cells) over.began) p h → EndedBy p
  ended_from i p q here k f h there ends =
      let now_is : k.now ≡ p = let e : Some k.now ≡ Some p = sym k.here ∙ here in cc (e) in
      let place : 0 + f.place ≡ f.place = omega arith in
      let app_is : p.app ≡ f.place = ap (λ (x : PassView V A). x.app) (sym now_is) ∙ k.knows.app ∙ f.app_is ∙ place in
      let later : origin_in p.seat.trail ≡ Some (began_at f.host (0 + f.place)) =
      ap (λ (x : PassView V A). origin_in x.seat.trail) (sym now_is) ∙ origin_later q.seat.trail k.now.seat.trail (began_at f.host (0 + f.place)) k.knows.trail f.origin_is in
      let origin : h.origin ≡ began_at f.host (0 + f.place) = let e : Some h.origin ≡ Some (began_at f.host (0 + f.place)) = sym ends.origin ∙ later in cc (e) in
      record {
        host = f.host;
        hosted = ap (λ (n : ℕ). slice_get hosts n) app_is ∙ f.hosted;
        h = h;
        there = there;
        ends = ends;
        origin_is = origin ∙ ap (λ (n : ℕ). began_at f.host n) (place ∙ sym app_is);
      }

  pub ended_by : (i : ℕ) (p : PassView V A) → slice_get back i ≡ Some p → EndedBy p
  ended_by i p here =
      let lt = slice_get_within back i p here in let many = known.as_many in
      let q = has_one first i (omega (arith, lt, many)) in
      let begun = ap (λ (ps : List (PassView V A)). slice_get ps i) (sym begins.passes_are) ∙ q.1 in
      let e = over.each i p here in
      ended_from i p q.0 here (known.each i q.0 q.1) (fresh_at K places.storage (length hosts) volume seed 0 places.cells hosts i q.0 begun) e.0 e.1 e.2

  module _ (p : PassView V A) (e : EndedBy p) where
    -- the application's log goes on from what its pass knew by entries of others
    pub grown : Grows p.client (log_of p) e.h.log []
    grown = grows_by_others p.client (log_of p) e.h.log (log_goes_on p.seat.trail e.h.origin e.h.log e.ends.trail) e.ends.own

    pub machine_is : e.h.origin.machine ≡ start e.host p.app seed (store_in p.app (K.held volume))
    machine_is = ap (λ (o : Origin V A). o.machine) e.origin_is

    opened_is : Opened (length hosts) volume ≡ Opened (length places.cells) over.began
    opened_is = ap (λ (o : Origin V A). o.opened) (sym e.origin_is) ∙ e.ends.opened_is

    pub began_is : over.began ≡ volume
    began_is = let same : Opened (length hosts) volume ≡ Opened (length places.cells) over.began = opened_is in cc (same)

    pub log_there : slice_get (entries_of logs) p.app ≡ Some e.h.log
    log_there = ap (λ (ls : List (List Logged)). slice_get ls p.app) (sym over.logs_are) ∙ map_there (λ (h : HostedView V A). h.log) over.ends p.app e.h e.there

  -- ---- by application and client

  -- the pass of this application and this client, and how it ended
  pub record EndedAt (app client : ℕ) : Type 0 where
    pub p : PassView V A
    pub place : ℕ
    pub here : slice_get back place ≡ Some p
    pub app_is : p.app ≡ app
    pub client_is : p.client ≡ client
    pub ended : EndedBy p

  pub ended_at : (app client : ℕ) → app < length hosts → client < 8 → EndedAt app client
  ended_at app client lt small =
      let cells = begins.cells in let all = are.all in
      let q = has_one back (8 * app + client) (omega (arith, lt, small, cells, all)) in
      let t = are.each (8 * app + client) q.0 q.1 in
      let less = t.1 in let at = t.2 in
      record {
        p = q.0;
        place = 8 * app + client;
        here = q.1;
        app_is = omega (arith, small, less, at);
        client_is = omega (arith, small, less, at);
        ended = ended_by (8 * app + client) q.0 q.1;
      }

  -- an application is opened over this volume
  pub one_began : 0 < length hosts → over.began ≡ volume
  one_began some = let e = ended_at 0 0 some (omega arith) in began_is e.p e.ended

  pub one_opened : 0 < length hosts → Opened (length hosts) volume ≡ Opened (length places.cells) over.began
  one_opened some = let e = ended_at 0 0 some (omega arith) in opened_is e.p e.ended

  -- there is a log for each host
  pub as_many : length (entries_of logs) ≡ length hosts
  as_many = ap (λ (ls : List (List Logged)). length ls) (sym over.logs_are) ∙ length-map over.ends (λ (h : HostedView V A). h.log) ∙ over.count ∙ begins.cells
