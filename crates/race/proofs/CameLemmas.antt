-- What the logs of a race are, over a sound image.
use Rattle.app_api.specs.Behaviours.{Behaviour}
use Rattle.std.proofs.Common.{◌≡◌, ◌≤◌, ◌<◌, ◌+◌, ◌++◌, ◌∙◌, ◌⊎◌, ℕ, true, suc, List, [], ◌∷◌, Some, Result, Ok, Err, length, map, refl, sym, subst, ap, inl, inr, ⊎_elim, arith}
use Rattle.std.proofs.lemmas.Option.{slice_get_within}
use Rattle.std.specs.Prelude.{IfErr, OnOk, slice_get}
use Rattle.app_api.specs.declared.host.Host.{Host}
use Rattle.store_api.specs.Stores.{Store}
use Rattle.store_api.specs.Volumes.{VolumeKeeper}
use Rattle.object_dir.specs.Regions.{store_in}
use Rattle.tee_base.specs.declared.limits.TheConstants.{MAX_LOG_ENTRIES}
use Rattle.alone.specs.Logs.{IsLegal, KeptLog, Logged, is_full, machine_by}
use Rattle.alone.specs.Machine.{Machine, start}
use Rattle.script.specs.declared.line.Line.{Line}
use Rattle.shared_parts.specs.HostedApps.{HostedView, Origin}
use Rattle.shared_parts.specs.StorageParts.{IsMarked, Opened, StorageEntry}
use Rattle.shared_tee.specs.Ending.{ArePasses, Ends, machines_ended}
use Rattle.shared_tee.specs.Making.{BeginsOver}
use Rattle.shared_tee.specs.Passes.{PassView, Places, log_of}
use Rattle.tee_core.specs.World.{World}
use Rattle.race.proofs.FollowLemmas.{cut_on, follows_on}
use Rattle.race.specs.Following.{Follows, FollowsCut, Grows}
use Rattle.race.specs.Wishes.{bytes_of_wish, wishes_of}
use Rattle.race.specs.Clients.{AllKnowMore}
use Rattle.race.specs.declared.client.Stopped.{Stopped}
use Rattle.race.specs.declared.client.Stopped.TheVariants as stops
use Rattle.race.specs.Racing.{AllFollow as PassesFollow, AllFollowTill, FilledBy, IsFilled}
use Rattle.race.proofs.EndLemmas.{EndedAt, EndedBy, as_many, ended_at, ended_by, grown, log_there, machine_is}
use Rattle.race.proofs.BoardLineLemmas.{first_on, part_on}
use Rattle.race.proofs.LogLemmas.{fuller_later, kept_there, many_entries, map_there}
use Rattle.race.specs.Races.{AllFollow, AllKeep, AreLogs, FollowsAs, HasNoPlace, IsFullAs, IsLogOf, StopsAs, StopsAtFull, entries_of, world_from}

-- ---- the machines to which the logs lead

module _ {V A : Type 0} (behaviour : Behaviour A) (all : List (Host A)) (seed : List ℕ) (stores : ℕ → Store) where
  pub world_is : (app : ℕ) (hosts : List (Host A)) (ends : List (HostedView V A)) → length ends ≡ length hosts
      → ((i : ℕ) (host : Host A) (h : HostedView V A) → slice_get hosts i ≡ Some host → slice_get ends i ≡ Some h → h.origin.machine ≡ start host (app + i) seed (stores (app + i)))
      → machines_ended behaviour ends ≡ world_from behaviour all seed stores app hosts (map (λ (h : HostedView V A). h.log) ends)
  world_is app [] [] same each = refl
  world_is app [] (h ∷ ends) same each = absurd (omega (arith, same))
  world_is app (host ∷ hosts) [] same each = absurd (omega (arith, same))
  world_is app (host ∷ hosts) (h ∷ ends) same each =
      let at : app + 0 ≡ app = omega arith in
      let first : h.origin.machine ≡ start host app seed (stores app) = each 0 host h refl refl ∙ ap (λ (n : ℕ). start host n seed (stores n)) at in
      let rest : machines_ended behaviour ends ≡ world_from behaviour all seed stores (app + 1) hosts (map (λ (g : HostedView V A). g.log) ends) =
      world_is (app + 1) hosts ends (omega (arith, same))
      (λ i one g hosted there. each (suc i) one g hosted there ∙ ap (λ (n : ℕ). start one n seed (stores n)) (let e : app + suc i ≡ (app + 1) + i = omega arith in e)) in
      ap (λ (m : Machine A). machine_by behaviour m h.log ∷ machines_ended behaviour ends) first
      ∙ ap (λ (w : World A). machine_by behaviour (start host app seed (stores app)) h.log ∷ w) rest

-- ---- the logs

module _ {V A : Type 0} (K : VolumeKeeper V) (behaviour : Behaviour A) (hosts : List (Host A)) (seed : List ℕ) (places : Places) (first back : List (PassView V A)) (volume : V)
    (begins : BeginsOver K hosts seed places first volume) (are : ArePasses places back) (known : AllKnowMore first back)
    (logs : List KeptLog) (last : V) (over : Ends K behaviour (length places.cells) back logs last) (keep : AllKeep logs) where
  abbrev Ended : PassView V A → Type 0
  Ended p = EndedBy K behaviour hosts seed places first back volume begins are known logs last over p

  abbrev ended : (i : ℕ) (p : PassView V A) → slice_get back i ≡ Some p → Ended p
  ended i p here = ended_by K behaviour hosts seed places first back volume begins are known logs last over i p here

  abbrev log_is : (p : PassView V A) (e : Ended p) → slice_get (entries_of logs) p.app ≡ Some e.h.log
  log_is p e = log_there K behaviour hosts seed places first back volume begins are known logs last over p e

  abbrev grows : (p : PassView V A) (e : Ended p) → Grows p.client (log_of p) e.h.log []
  grows p e = grown K behaviour hosts seed places first back volume begins are known logs last over p e

  -- ---- a log that was full, whatever the board

  -- the log of this application had no place for a line of the pass's client
  abbrev none_at : (lines : List Line) (full : ℕ) (f : FilledBy K behaviour full lines back) (e : Ended f.pass) → HasNoPlace full lines e.h.log
  none_at lines full f e = record {
    client = f.pass.client;
    among = (are.each f.place f.pass f.here).1;
    made = f.finds.made;
    next = f.finds.next;
    rest = f.finds.rest;
    wishes_are = f.finds.wishes_are;
    full = fuller_later (log_of f.pass) e.h.log (bytes_of_wish f.finds.next) (grows f.pass e).goes_on f.finds.full;
  }

  full_of : (lines : List Line) (full : ℕ) → FilledBy K behaviour full lines back → (log : List Logged) × (slice_get (entries_of logs) full ≡ Some log) × HasNoPlace full lines log
  full_of lines full f =
      let e = ended f.place f.pass f.here in
      (e.h.log, ap (λ (n : ℕ). slice_get (entries_of logs) n) (sym f.app_is) ∙ log_is f.pass e, none_at lines full f e)

  pub full_as : (lines : List Line) (r : Result (Unit {0}) Stopped) → IfErr r (λ why. IsFilled K behaviour why lines back) → IsFullAs r lines (entries_of logs)
  full_as lines (Ok done) filled = tt
  full_as lines (Err (stops.LogFull full)) filled = full_of lines full filled
  full_as lines (Err stops.NoMemory) filled = tt

  -- ---- over a sound image

  module _ (stores : ℕ → Store) (marked : IsMarked K (Opened (length hosts) volume)) (stores_are : (app : ℕ) → app < length hosts → store_in app (K.held volume) ≡ stores app) where
    abbrev begin : Host A → ℕ → Machine A
    begin host app = start host app seed (stores app)

    begins_at : (p : PassView V A) (e : Ended p) → e.h.origin.machine ≡ begin e.host p.app
    begins_at p e =
        machine_is K behaviour hosts seed places first back volume begins are known logs last over p e
        ∙ ap (λ (s : Store). start e.host p.app seed s) (stores_are p.app (slice_get_within hosts p.app e.host e.hosted))

    marked_at : (p : PassView V A) (e : Ended p) → IsMarked K e.h.origin.opened
    marked_at p e = subst (λ (x : StorageEntry V). IsMarked K x) (ap (λ (o : Origin V A). o.opened) (sym e.origin_is)) marked

    legal_at : (p : PassView V A) (e : Ended p) → IsLogOf behaviour hosts seed stores p.app e.host e.h.log
    legal_at p e = record {
      legal = subst (λ (m : Machine A). IsLegal behaviour m e.h.log) (begins_at p e)
          (e.ends.legal (subst (λ (x : StorageEntry V). IsMarked K x) e.ends.opened_is (marked_at p e)));
      clients = e.ends.clients;
    }

    -- the log of this place is that of the application of this host
    module _ (app client : ℕ) (host : Host A) (log : List Logged) (hosted : slice_get hosts app ≡ Some host) (here : slice_get (entries_of logs) app ≡ Some log) (small : client < 8) where
      abbrev at : EndedAt K behaviour hosts seed places first back volume begins are known logs last over app client
      at = ended_at K behaviour hosts seed places first back volume begins are known logs last over app client (slice_get_within hosts app host hosted) small

      host_is : at.ended.host ≡ host
      host_is = let e : Some at.ended.host ≡ Some host = sym at.ended.hosted ∙ ap (λ (n : ℕ). slice_get hosts n) at.app_is ∙ hosted in cc (e)

      log_same : at.ended.h.log ≡ log
      log_same = let e : Some at.ended.h.log ≡ Some log = sym (log_is at.p at.ended) ∙ ap (λ (n : ℕ). slice_get (entries_of logs) n) at.app_is ∙ here in cc (e)

      -- what is so of the pass and of its application's log is so of this log
      carried : (P : Host A → ℕ → ℕ → List Logged → Type 0) → P at.ended.host at.p.app at.p.client at.ended.h.log → P host app client log
      carried P is =
          subst (λ (l : List Logged). P host app client l) log_same
          (subst (λ (c : ℕ). P host app c at.ended.h.log) at.client_is
          (subst (λ (n : ℕ). P host n at.p.client at.ended.h.log) at.app_is
          (subst (λ (x : Host A). P x at.p.app at.p.client at.ended.h.log) host_is is)))

    pub are_logs : AreLogs behaviour hosts seed stores (entries_of logs)
    are_logs = record {
      as_many = as_many K behaviour hosts seed places first back volume begins are known logs last over;
      each = λ app host log hosted here.
          let e = at app 0 host log hosted here (omega arith) in
          carried app 0 host log hosted here (omega arith) (λ x n c l. IsLogOf behaviour hosts seed stores n x l) (legal_at e.p e.ended);
    }

    -- ---- lines

    module _ (lines : List Line) where
      many_at : (p : PassView V A) (e : Ended p) → is_full e.h.log 0 ≡ true → MAX_LOG_ENTRIES ≤ length e.h.log
      many_at p e full = many_entries e.h.log (kept_there logs p.app e.h.log keep (log_is p e)) full

      -- each client's entries in the log with which the application of its pass ended
      follow_at : (r : Result (Unit {0}) Stopped) → OnOk r (PassesFollow K behaviour lines back) → IfErr r (λ why. AllFollowTill K behaviour why lines back)
          → (i : ℕ) (p : PassView V A) → slice_get back i ≡ Some p → (e : Ended p) → FollowsAs behaviour e.h.origin.machine p.client r e.h.log (wishes_of p.app p.client lines)
      follow_at (Ok done) ok err i p here e =
          follows_on behaviour e.h.origin.machine p.client (log_of p) e.h.log (wishes_of p.app p.client lines) (ok i p here e.h.origin e.ends.origin (marked_at p e)) (grows p e)
      follow_at (Err (stops.LogFull full)) ok err i p here e =
          part_on behaviour e.h.origin.machine p.client (log_of p) e.h.log (grows p e) (many_at p e) (wishes_of p.app p.client lines) (err i p here e.h.origin e.ends.origin (marked_at p e))
      follow_at (Err stops.NoMemory) ok err i p here e =
          first_on behaviour e.h.origin.machine p.client (log_of p) e.h.log (grows p e) (wishes_of p.app p.client lines) (err i p here e.h.origin e.ends.origin (marked_at p e))

      pub all_follow : (r : Result (Unit {0}) Stopped) → OnOk r (PassesFollow K behaviour lines back) → IfErr r (λ why. AllFollowTill K behaviour why lines back)
          → AllFollow behaviour hosts seed stores lines r (entries_of logs)
      all_follow r ok err app host log client hosted here small =
          let e = at app client host log hosted here small in
          carried app client host log hosted here small (λ x n c l. FollowsAs behaviour (begin x n) c r l (wishes_of n c lines))
          (subst (λ (m : Machine A). FollowsAs behaviour m e.p.client r e.ended.h.log (wishes_of e.p.app e.p.client lines)) (begins_at e.p e.ended)
          (follow_at r ok err e.place e.p e.here e.ended))

      stops_at : (full : ℕ) → FilledBy K behaviour full lines back → StopsAtFull behaviour hosts seed stores lines full (entries_of logs)
      stops_at full f =
          let e = ended f.place f.pass f.here in
          let m = e.h.origin.machine in
          let begun : m ≡ begin e.host full = begins_at f.pass e ∙ ap (λ (n : ℕ). begin e.host n) f.app_is in
          record {
            host = e.host;
            hosted = ap (λ (n : ℕ). slice_get hosts n) (sym f.app_is) ∙ e.hosted;
            log = e.h.log;
            here = ap (λ (n : ℕ). slice_get (entries_of logs) n) (sym f.app_is) ∙ log_is f.pass e;
            none = none_at lines full f e;
            made = subst
                (λ (x : Machine A). Follows behaviour x f.pass.client e.h.log f.finds.made
                ⊎ ((MAX_LOG_ENTRIES ≤ length e.h.log) × FollowsCut behaviour x f.pass.client e.h.log (f.finds.made ++ f.finds.next ∷ [])))
                begun
                (⊎_elim (λ whole. inl (follows_on behaviour m f.pass.client (log_of f.pass) e.h.log f.finds.made whole (grows f.pass e)))
                (λ cut. inr (
                  many_at f.pass e (fuller_later (log_of f.pass) e.h.log 0 (grows f.pass e).goes_on cut.0),
                  cut_on behaviour m f.pass.client (log_of f.pass) e.h.log (f.finds.made ++ f.finds.next ∷ []) cut.1 (grows f.pass e),
                ))
                (f.finds.follows e.h.origin e.ends.origin (marked_at f.pass e)));
          }

      pub stops_as : (r : Result (Unit {0}) Stopped) → IfErr r (λ why. IsFilled K behaviour why lines back) → StopsAs behaviour hosts seed stores lines r (entries_of logs)
      stops_as (Ok done) filled = tt
      stops_as (Err (stops.LogFull full)) filled = stops_at full filled
      stops_as (Err stops.NoMemory) filled = tt

    -- ---- the machines

    pub machines_are : machines_ended behaviour over.ends ≡ world_from behaviour hosts seed stores 0 hosts (entries_of logs)
    machines_are =
        world_is behaviour hosts seed stores 0 hosts over.ends (over.count ∙ begins.cells)
        (λ i host h hosted there.
        let log = map_there (λ (g : HostedView V A). g.log) over.ends i h there in
        let here : slice_get (entries_of logs) i ≡ Some h.log = ap (λ (ls : List (List Logged)). slice_get ls i) (sym over.logs_are) ∙ log in
        let e = at i 0 host h.log hosted here (omega arith) in
        let h_is : e.ended.h ≡ h = let s : Some e.ended.h ≡ Some h = sym e.ended.there ∙ ap (λ (n : ℕ). slice_get over.ends n) e.app_is ∙ there in cc (s) in
        ap (λ (g : HostedView V A). g.origin.machine) (sym h_is)
        ∙ carried i 0 host h.log hosted here (omega arith) (λ x n c l. e.ended.h.origin.machine ≡ begin x n) (begins_at e.p e.ended)
        ∙ ap (λ (n : ℕ). begin host n) (let z : i ≡ 0 + i = omega arith in z))
        ∙ ap (λ (ls : List (List Logged)). world_from behaviour hosts seed stores 0 hosts ls) over.logs_are
