-- An application's value in its cell: what its type keeps after each call.
use Rattle.app_api.specs.Behaviours.{Behaviour}
use Rattle.std.proofs.Common.{◌≡◌, ◌<◌, ◌+◌, ◌++◌, ◌||◌, ℕ, suc, Bool, true, false, List, [], ◌∷◌, Option, Result, Ok, Err, length, set, replicate}
use Rattle.std.proofs.Common.{refl, sym, subst, ◌∙◌, ap, inl, inr, ⊎_elim, arith, length-append, length-set}
use Rattle.std.specs.Prelude.{◌⊎◌, OnOk, IfErr, IfOk, sum_by}
use Rattle.std.proofs.lemmas.List.{length-replicate}
use Rattle.std.proofs.lemmas.List.Folds.{sum_by-replicate}
use Rattle.std.proofs.lemmas.List.Sums.{sum_by-set}
use mathlib.Core.List.{IsPrefix}
use Rattle.turn_cell.specs.Words.{TableId}
use Rattle.turn_cell.specs.declared.view.SeatView.{SeatView}
use Rattle.turn_cell.specs.declared.view.Turn.{Turn}
use Rattle.turn_cell.specs.View.{segment, view_after_give, with_miss, with_turn}
use Rattle.turn_cell.proofs.Segments.{prefix_trans}
use Rattle.store_api.specs.Volumes.{VolumeKeeper}
use Rattle.store_api.specs.Stores.{Store}
use Rattle.app_api.specs.declared.call.Call.{Call}
use Rattle.alone.specs.declared.turn.TurnKind.{TurnKind}
use Rattle.alone.specs.declared.turn.TurnKind.TheVariants as kinds
use Rattle.alone.specs.Logs.{Adds, KeptLog, Logged, entry}
use Rattle.alone.specs.Machine.{Machine}
use Rattle.alone.specs.Step.{Event, Lost}
use Rattle.app_side.specs.Represents.{Represents, event_of, has_doubt, is_lost, machine_of, over}
use Rattle.app_side.specs.Storeless.{IsStoreless}
use Rattle.app_side.specs.declared.side.AppSide.{AppSide}
use Rattle.tee_core.proofs.SideLemmas.{set_there}
use Rattle.shared_parts.proofs.OpeningLemmas.{begun}
use Rattle.shared_parts.proofs.PartLemmas.{found_here, own_after, segment_is}
use Rattle.shared_parts.specs.HostedApps.{AreMisses, IsHosted, IsNewSeat, IsSeatFor, KeepsHosted, Origin, TurnsInStorage}
use Rattle.shared_parts.specs.HostedApps.{AreOfClients, is_loss_event, missed_by, missed_more, none_missed, origin_of, parts_for, tells_loss}
use Rattle.shared_parts.specs.InStep.{GoesInStep, HasGrown, IsKeptBy, IsPosted, StoragePart, part_of}
use Rattle.shared_parts.specs.Seating.{LearnsMore}
use Rattle.shared_parts.specs.StorageParts.{IsMarked, LostBy, Opened, StorageEntry, first_of, is_lost_at, losses_by, no_part, part_at}
use Rattle.shared_parts.specs.StorageTurns.{MakesTurn, MakesTurnOver}
use Rattle.shared_parts.specs.declared.missed.Missed.{Missed}
use Rattle.shared_parts.specs.declared.recorded.Posted.{Posted}
use Rattle.shared_parts.specs.declared.recorded.Recorded.{Recorded}

-- ---- trails of the storage

module _ {V : Type 0} where
  lost_append : (xs ys : List (StorageEntry V)) → is_lost_at xs ≡ true → is_lost_at (xs ++ ys) ≡ true
  lost_append [] ys lost = absurd (let e : false ≡ true = lost in cc)
  lost_append (Opened apps volume ∷ xs) ys lost = lost_append xs ys lost
  lost_append (LostBy app faults ∷ xs) ys lost = refl

  -- a trail that goes on still holds the loss
  pub lost_prefix : (xs ys : List (StorageEntry V)) → IsPrefix xs ys → is_lost_at xs ≡ true → is_lost_at ys ≡ true
  lost_prefix xs ys p lost = subst (λ (zs : List (StorageEntry V)). is_lost_at zs ≡ true) p.1 (lost_append xs p.0 lost)

  lost_end : (xs : List (StorageEntry V)) (app faults : ℕ) → is_lost_at (xs ++ LostBy app faults ∷ []) ≡ true
  lost_end [] app faults = refl
  lost_end (Opened apps volume ∷ xs) app faults = lost_end xs app faults
  lost_end (LostBy a f ∷ xs) app faults = refl

  -- a trail that goes on begins as it did
  pub first_prefix : (xs ys : List (StorageEntry V)) → 0 < length xs → IsPrefix xs ys → first_of ys ≡ first_of xs
  first_prefix [] ys some p = absurd (omega (arith, some))
  first_prefix (x ∷ xs) ys some p = sym (ap (λ (zs : List (StorageEntry V)). first_of zs) p.1)

  pub some_prefix : (xs ys : List (StorageEntry V)) → 0 < length xs → IsPrefix xs ys → 0 < length ys
  some_prefix xs ys some p =
      let long = ap (λ (zs : List (StorageEntry V)). length zs) p.1 in
      let sum = length-append xs p.0 in
      omega (arith, some, long, sum)

  -- a turn that is told as one that lost the storage leaves the loss in the trail
  lost_by : (trail now : List (StorageEntry V)) (kind : TurnKind) (i app faults : ℕ) → now ≡ trail ++ losses_by app faults kind → is_loss_event (event_of kind i) ≡ true → is_lost_at now ≡ true
  lost_by trail now kinds.Plain i app faults is loss = absurd (let e : false ≡ true = loss in cc)
  lost_by trail now (kinds.Lost change) i app faults is loss = subst (λ (zs : List (StorageEntry V)). is_lost_at zs ≡ true) (sym is) (lost_end trail app faults)
  lost_by trail now kinds.Starved i app faults is loss = absurd (let e : false ≡ true = loss in cc)
  lost_by trail now kinds.Corrupted i app faults is loss = absurd (let e : false ≡ true = loss in cc)

-- ---- losses in logs

or_cases : (a b : Bool) → (a || b) ≡ true → (a ≡ true) ⊎ (b ≡ true)
or_cases true b either = inl refl
or_cases false b either = inr either

or_left : (a b : Bool) → a ≡ true → (a || b) ≡ true
or_left true b one = refl
or_left false b one = absurd (let e : false ≡ true = one in cc)

or_right : (a b : Bool) → b ≡ true → (a || b) ≡ true
or_right true b one = refl
or_right false b one = one

tells_end : (log : List Logged) (e : Logged) → tells_loss (log ++ e ∷ []) ≡ true → (tells_loss log ≡ true) ⊎ (is_loss_event e.event ≡ true)
tells_end [] e tells =
    ⊎_elim (λ (p : is_loss_event e.event ≡ true). inr p) (λ (q : false ≡ true). absurd (let f : false ≡ true = q in cc)) (or_cases (is_loss_event e.event) false tells)
tells_end (x ∷ log) e tells =
    ⊎_elim
    (λ (p : is_loss_event x.event ≡ true). inl (or_left (is_loss_event x.event) (tells_loss log) p))
    (λ (q : tells_loss (log ++ e ∷ []) ≡ true).
    ⊎_elim
    (λ (r : tells_loss log ≡ true). inl (or_right (is_loss_event x.event) (tells_loss log) r))
    (λ (s : is_loss_event e.event ≡ true). inr s)
    (tells_end log e q))
    (or_cases (is_loss_event x.event) (tells_loss (log ++ e ∷ [])) tells)

-- an entry that isn't that of a loss tells of none
adds_tells : (client : ℕ) (event : Event) (old new : List Logged) → Adds client event old new → is_loss_event event ≡ false → tells_loss new ≡ true → tells_loss old ≡ true
adds_tells client event old new adds none tells =
    ⊎_elim
    (λ (p : tells_loss old ≡ true). p)
    (λ (q : is_loss_event event ≡ true). absurd (let e : false ≡ true = sym none ∙ q in cc))
    (tells_end old (entry client event adds.replies) (subst (λ (log : List Logged). tells_loss log ≡ true) adds.more tells))

-- ---- clients in logs

clients_end : (log : List Logged) (e : Logged) → AreOfClients log → e.client < 8 → AreOfClients (log ++ e ∷ [])
clients_end [] e were one = (one, tt)
clients_end (x ∷ log) e were one = (were.0, clients_end log e were.1 one)

-- an entry of one of the clients
adds_clients : (client : ℕ) (event : Event) (old new : List Logged) → Adds client event old new → client < 8 → AreOfClients old → AreOfClients new
adds_clients client event old new adds few were = subst (λ (log : List Logged). AreOfClients log) (sym adds.more) (clients_end old (entry client event adds.replies) were few)

pub same_clients : (old new : List Logged) → new ≡ old → AreOfClients old → AreOfClients new
same_clients old new same were = subst (λ (log : List Logged). AreOfClients log) (sym same) were

-- a call that may be refused
pub call_clients : {X E : Type 0} (r : Result X E) (client : ℕ) (event : Event) (old new : KeptLog) (Why : E → Type 0) → OnOk r (Adds client event old.entries new.entries)
    → IfErr r (λ why. HasGrown old new × Why why) → client < 8 → AreOfClients old.entries → AreOfClients new.entries
call_clients (Ok x) client event old new Why adds grown few were = adds_clients client event old.entries new.entries adds few were
call_clients (Err e) client event old new Why adds grown few were = same_clients old.entries new.entries grown.0.entries were

-- a turn
turn_clients : (client : ℕ) (event : Event) (old new : List Logged) → MakesTurn client event old new → client < 8 → AreOfClients old → AreOfClients new
turn_clients client event old new made few were =
    adds_clients client event made.1.before new made.1.adds few
    (⊎_elim
    (λ (same : made.1.before ≡ old). same_clients old made.1.before same were)
    (λ (t : (made.0 ≡ true) × (made.1.before ≡ old ++ entry client Lost [] ∷ [])). adds_clients client Lost old made.1.before (record { replies = []; more = t.1 }) few were)
    made.1.found)

-- a turn without a store
pub storeless_clients : (client : ℕ) (event : Event) (old middle new : List Logged) → middle ≡ old → Adds client event middle new → client < 8 → AreOfClients old → AreOfClients new
storeless_clients client event old middle new same adds few were = adds_clients client event middle new adds few (same_clients old middle same were)

pub same_tells : (old new : List Logged) → new ≡ old → tells_loss new ≡ true → tells_loss old ≡ true
same_tells old new same tells = subst (λ (log : List Logged). tells_loss log ≡ true) same tells

-- so does a call that may be refused
pub call_tells : {X E : Type 0} (r : Result X E) (client : ℕ) (event : Event) (old new : KeptLog) (Why : E → Type 0) → OnOk r (Adds client event old.entries new.entries)
    → IfErr r (λ why. HasGrown old new × Why why) → is_loss_event event ≡ false → tells_loss new.entries ≡ true → tells_loss old.entries ≡ true
call_tells (Ok x) client event old new Why adds grown none tells = adds_tells client event old.entries new.entries adds none tells
call_tells (Err e) client event old new Why adds grown none tells = same_tells old.entries new.entries grown.0.entries tells

-- and a turn that takes no store
pub storeless_tells : (kind : TurnKind) (client i : ℕ) (old new : List Logged) → IsStoreless kind → Adds client (event_of kind i) old new → tells_loss new ≡ true → tells_loss old ≡ true
storeless_tells kinds.Plain client i old new storeless adds tells = adds_tells client (event_of kinds.Plain i) old new adds refl tells
storeless_tells (kinds.Lost change) client i old new storeless adds tells = absurd storeless
storeless_tells kinds.Starved client i old new storeless adds tells = adds_tells client (event_of kinds.Starved i) old new adds refl tells
storeless_tells kinds.Corrupted client i old new storeless adds tells = absurd storeless

-- a turn tells of a loss that the trail holds then
turn_tells : (lost : Bool) (client : ℕ) (event : Event) (old new : List Logged) (Held : Type 0) → MakesTurnOver lost client event old new → (tells_loss old ≡ true → Held) → (lost ≡ true → Held)
    → (is_loss_event event ≡ true → Held) → tells_loss new ≡ true → Held
turn_tells lost client event old new Held made known was found tells =
    ⊎_elim
    (λ (p : tells_loss made.before ≡ true).
    ⊎_elim
    (λ (same : made.before ≡ old). known (subst (λ (log : List Logged). tells_loss log ≡ true) same p))
    (λ (t : (lost ≡ true) × (made.before ≡ old ++ entry client Lost [] ∷ [])). was t.0)
    made.found)
    found
    (tells_end made.before (entry client event made.adds.replies) (subst (λ (log : List Logged). tells_loss log ≡ true) made.adds.more tells))

-- ---- a turn over the storage

module _ {V A : Type 0} (K : VolumeKeeper V) (behaviour : Behaviour A) (app client i faults : ℕ) (kind : TurnKind) (before after : AppSide A) (old new : KeptLog)
    (v : SeatView StoragePart (StorageEntry V)) (seat : IsSeatFor app v) (parts now : List StoragePart) (trail then : List (StorageEntry V))
    (own : segment v.first (length v.own) parts ≡ v.own) (goes_on : IsPrefix v.trail trail)
    (others : now ≡ set parts app (part_at now app)) (longer : then ≡ trail ++ losses_by app faults kind)
    (made : MakesTurnOver (is_lost_at trail) client (event_of kind i) old.entries new.entries) (lost : is_lost after ≡ is_lost_at then)
    (kept : IsMarked K (first_of trail) → (origin : Machine A) → IsKeptBy behaviour origin before old (part_at parts app) → IsKeptBy behaviour origin after new (part_at now app)) where
  abbrev next : Turn StoragePart (StorageEntry V) → SeatView StoragePart (StorageEntry V)
  next turn = view_after_give (with_turn v turn 0) now then

  grown : IsPrefix trail then
  grown = (losses_by app faults kind, sym longer)

  all_grown : IsPrefix v.trail then
  all_grown = prefix_trans v.trail trail then goes_on grown

  within : app < length now
  within =
      let lt = (found_here app v seat.place seat.one no_part parts own).0 in
      let same = ap (λ (ps : List StoragePart). length ps) others in
      let size = length-set parts app (part_at now app) in
      omega (arith, lt, same, size)

  part_then : part_at (segment v.first (length v.own) now) 0 ≡ part_at now app
  part_then = ap (λ (ps : List StoragePart). part_at ps 0) (segment_is app v seat.place seat.one now) ∙ (own_after no_part app now within).1

  pub turned : (turn : Turn StoragePart (StorageEntry V)) → TurnsInStorage K behaviour app client (event_of kind i) before after old new v (next turn)
  turned turn = record {
    made = (is_lost_at trail, made);
    seat = record {
      free = refl;
      place = seat.place;
      one = ap (λ (ps : List StoragePart). length ps) (segment_is app v seat.place seat.one now) ∙ (own_after no_part app now within).0;
      began = some_prefix v.trail then seat.began all_grown;
    };
    original = refl;
    misses = refl;
    missed_word = refl;
    trail = all_grown;
    lost = lost;
    told = λ known tells.
        turn_tells (is_lost_at trail) client (event_of kind i) old.entries new.entries (is_lost_at then ≡ true) made (λ t. lost_prefix v.trail then all_grown (known t))
        (λ was. lost_prefix trail then grown was) (lost_by trail then kind i app faults longer) tells;
    kept = λ marked origin was.
        subst (λ (p : StoragePart). IsKeptBy behaviour origin after new p) (sym part_then)
        (kept (subst (λ (e : StorageEntry V). IsMarked K e) (sym (first_prefix v.trail trail seat.began goes_on)) marked) origin
        (subst (λ (p : StoragePart). IsKeptBy behaviour origin before old p) (sym (found_here app v seat.place seat.one no_part parts own).1) was));
  }

  -- the same of what the seat knows then
  pub turned_then : (u w : SeatView StoragePart (StorageEntry V)) (turn : Turn StoragePart (StorageEntry V)) → u ≡ with_turn v turn 0 → w ≡ view_after_give u now then
      → TurnsInStorage K behaviour app client (event_of kind i) before after old new v w
  turned_then u w turn taken given =
      subst (λ (x : SeatView StoragePart (StorageEntry V)). TurnsInStorage K behaviour app client (event_of kind i) before after old new v x)
      (sym (given ∙ ap (λ (x : SeatView StoragePart (StorageEntry V)). view_after_give x now then) taken)) (turned turn)

-- ---- the value

module _ {V A : Type 0} (K : VolumeKeeper V) (behaviour : Behaviour A) (app : ℕ) (storage : TableId) (start : AppSide A) where
  abbrev Hosted : AppSide A → KeptLog → SeatView StoragePart (StorageEntry V) → List Missed → Type 0
  Hosted side log v misses = IsHosted K behaviour app side log storage v start misses

  -- a seat that knows more of the storage's trail names the same origin
  pub learned_origin : (v w : SeatView StoragePart (StorageEntry V)) → 0 < length v.trail → LearnsMore v w → origin_of storage w start ≡ origin_of storage v start
  learned_origin v w began more =
      ap (λ (e : StorageEntry V). (let o : Origin V A = record { storage = storage; opened = e; machine = (origin_of storage w start).machine } in o))
      (first_prefix v.trail w.trail began more.trail)
      ∙ ap (λ (ps : List StoragePart). (let o : Origin V A = record {
        storage = storage;
        opened = first_of v.trail;
        machine = over (part_at ps 0).store (part_at ps 0).in_doubt
            (machine_of start);
      } in o))
      more.original

  -- what is kept of an application beside its log is kept of one that is the same
  pub hosted_same : (was now : Recorded A) (v : SeatView StoragePart (StorageEntry V)) (misses : List Missed) → now ≡ was → Hosted was.side was.log v misses
      → Hosted now.side now.log v misses
  hosted_same was now v misses same kept = subst (λ (x : Recorded A). Hosted x.side x.log v misses) (sym same) kept

  -- an event that leaves the storage
  pub went_hosted : (side after : AppSide A) (log more : KeptLog) (v : SeatView StoragePart (StorageEntry V)) (misses : List Missed) → Hosted side log v misses
      → GoesInStep behaviour side log after more → (tells_loss more.entries ≡ true → tells_loss log.entries ≡ true) → (AreOfClients log.entries → AreOfClients more.entries)
      → Hosted after more v misses
  went_hosted side after log more v misses was goes tells clients = record {
    seat = was.seat;
    index = was.index;
    misses_are = was.misses_are;
    lost = λ lost. was.lost (sym goes.lost ∙ lost);
    told = λ told. was.told (tells told);
    clients = clients was.clients;
    kept = λ marked. goes.kept (origin_of storage v start).machine (part_at v.own 0) (was.kept marked);
  }

  -- a turn over the storage
  pub turned_hosted : (client : ℕ) (event : Event) (side after : AppSide A) (log middle more : KeptLog) (v w : SeatView StoragePart (StorageEntry V)) (misses : List Missed) → Hosted side log v misses
      → GoesInStep behaviour side log side middle → middle.entries ≡ log.entries → TurnsInStorage K behaviour app client event side after middle more v w → client < 8 → Hosted after more w misses
  turned_hosted client event side after log middle more v w misses was goes same turn few =
      let first : first_of w.trail ≡ first_of v.trail = first_prefix v.trail w.trail was.seat.began turn.trail in
      let origin : (origin_of storage w start).machine ≡ (origin_of storage v start).machine =
      ap (λ (ps : List StoragePart). over (part_at ps 0).store (part_at ps 0).in_doubt (machine_of start)) turn.original in
      record {
        seat = turn.seat;
        index = was.index;
        misses_are = subst (λ n. AreMisses misses n w.missed_word) (sym turn.misses) (subst (λ n. AreMisses misses v.misses n) (sym turn.missed_word) was.misses_are);
        lost = λ lost. sym turn.lost ∙ lost;
        told = turn.told (λ told. was.told (same_tells log.entries middle.entries same told));
        clients = turn_clients client event middle.entries more.entries turn.made few (same_clients log.entries middle.entries same was.clients);
        kept = λ marked.
            let set : IsMarked K (first_of v.trail) = subst (λ (e : StorageEntry V). IsMarked K e) first marked in
            subst (λ (m : Machine A). IsKeptBy behaviour m after more (part_at w.own 0)) (sym origin)
            (turn.kept set (origin_of storage v start).machine (goes.kept (origin_of storage v start).machine (part_at v.own 0) (was.kept set)));
      }

  -- a turn for which the storage was taken
  pub missed_hosted : (side : AppSide A) (log : KeptLog) (v w : SeatView StoragePart (StorageEntry V)) (misses more : List Missed) (client word : ℕ) → Hosted side log v misses → client < 8
      → w ≡ with_miss v word → more ≡ set misses client (missed_more (missed_by misses client) word) → Hosted side log w more
  missed_hosted side log v w misses more client word was few missed counted =
      let lt : client < length misses = let n = was.misses_are.eight in omega (arith, n, few) in
      let sum = sum_by-set (λ (m : Missed). m.count) misses client (missed_more (missed_by misses client) word) none_missed lt in
      let total = was.misses_are.counted in
      subst (λ (x : SeatView StoragePart (StorageEntry V)). Hosted side log x more) (sym missed)
      (subst (λ (ms : List Missed). Hosted side log (with_miss v word) ms) (sym counted) (record {
        seat = record { free = was.seat.free; place = was.seat.place; one = was.seat.one; began = was.seat.began };
        index = was.index;
        misses_are = record {
          eight = length-set misses client (missed_more (missed_by misses client) word) ∙ was.misses_are.eight;
          counted = omega (arith, sum, total);
          last = λ _. record {
            client = client;
            missed = missed_more (missed_by misses client) word;
            there = set_there misses client (missed_more (missed_by misses client) word) lt;
            some = omega arith;
            word_is = refl;
          };
        };
        lost = was.lost;
        told = was.told;
        clients = was.clients;
        kept = was.kept;
      }))

  -- its seat was out for a while, and knows more of the storage's trail
  pub learned_hosted : (side : AppSide A) (log : KeptLog) (v w : SeatView StoragePart (StorageEntry V)) (misses : List Missed) → Hosted side log v misses → LearnsMore v w → Hosted side log w misses
  learned_hosted side log v w misses was more =
      let first : first_of w.trail ≡ first_of v.trail = first_prefix v.trail w.trail was.seat.began more.trail in
      record {
        seat = record {
          free = more.free;
          place = more.first ∙ was.seat.place;
          one = ap (λ (ps : List StoragePart). length ps) more.own ∙ was.seat.one;
          began = some_prefix v.trail w.trail was.seat.began more.trail;
        };
        index = was.index;
        misses_are = subst (λ n. AreMisses misses n w.missed_word) (sym more.misses) (subst (λ n. AreMisses misses v.misses n) (sym more.missed_word) was.misses_are);
        lost = λ lost. lost_prefix v.trail w.trail more.trail (was.lost lost);
        told = λ told. lost_prefix v.trail w.trail more.trail (was.told told);
        clients = was.clients;
        kept = λ marked.
            subst (λ (o : Origin V A). IsKeptBy behaviour o.machine side log (part_at w.own 0)) (sym (learned_origin v w was.seat.began more))
            (subst (λ (ps : List StoragePart). IsKeptBy behaviour (origin_of storage v start).machine side log (part_at ps 0)) (sym more.own)
            (was.kept (subst (λ (e : StorageEntry V). IsMarked K e) first marked)));
      }

  -- one that has run nothing
  pub new_hosted : (side mine : AppSide A) (log : KeptLog) (v : SeatView StoragePart (StorageEntry V)) (misses : List Missed) → IsNewSeat app v → (machine_of side).index ≡ app
      → has_doubt side ≡ false → is_lost side ≡ false → start ≡ side → mine ≡ side → log.entries ≡ [] → misses ≡ replicate 8 none_missed
      → ((m : Machine A) → Represents side m → IsKeptBy behaviour m mine log (part_of m)) → Hosted mine log v misses
  new_hosted side mine log v misses new index calm works begun_so same empty none kept = record {
    seat = new.seat;
    index = ap (λ (s : AppSide A). (machine_of s).index) begun_so ∙ index;
    misses_are = record {
      eight = ap (λ (ms : List Missed). length ms) none ∙ length-replicate 8 none_missed;
      counted = ap (λ (ms : List Missed). sum_by (λ (m : Missed). m.count) ms) none ∙ sum_by-replicate (λ (m : Missed). m.count) 8 none_missed ∙ sym new.none;
      last = λ some. absurd (let zero_misses = new.none in omega (arith, some, zero_misses));
    };
    lost = λ lost. absurd (let e : false ≡ true = sym works ∙ sym (ap (λ (s : AppSide A). is_lost s) same) ∙ lost in cc);
    told = λ told. absurd (let e : false ≡ true = subst (λ (log : List Logged). tells_loss log ≡ true) empty told in cc);
    clients = subst (λ (log : List Logged). AreOfClients log) (sym empty) tt;
    kept = λ marked.
        let first : StoragePart = part_at v.original 0 in
        let m : Machine A = over first.store first.in_doubt (machine_of start) in
        let stands : Represents side m =
        subst (λ (s : AppSide A). Represents side (over first.store first.in_doubt (machine_of s))) (sym begun_so)
        (subst (λ (d : Option Store). Represents side (over first.store d (machine_of side))) (sym new.calm) (begun side first.store calm)) in
        subst (λ (p : StoragePart). IsKeptBy behaviour m mine log p) (sym (ap (λ (ps : List StoragePart). part_at ps 0) new.fresh)) (kept m stands);
  }

  -- what is told of each
  pub hosted_kept : (side : AppSide A) (log : KeptLog) (v : SeatView StoragePart (StorageEntry V)) (misses : List Missed) → Hosted side log v misses
      → KeepsHosted K behaviour (record { origin = origin_of storage v start; log = log.entries; misses = misses })
  hosted_kept side log v misses was = record { eight = was.misses_are.eight; clients = was.clients; legal = λ marked. (was.kept marked).in_step.legal }

-- ---- parts and answers

parts_count : (log : List Logged) (client : ℕ) (misses : List Missed) → length (parts_for log client misses) ≡ length misses
parts_count log client [] = refl
parts_count log client (m ∷ misses) = ap suc (parts_count log (client + 1) misses)

-- there is a part for each of eight clients
pub eight_parts : (log : List Logged) (misses : List Missed) → length misses ≡ 8 → 8 ≡ length (parts_for log 0 misses)
eight_parts log misses eight = let n = parts_count log 0 misses in omega (arith, n, eight)

-- what is told of a call is of the machine that the log led to
pub posted_there : {A E : Type 0} (r : Result Posted E) (side : AppSide A) (m : Machine A) (client : ℕ) (call : Call) (Marked : Type 0) → (Marked → Represents side m)
    → IfOk r (λ posted. (n : Machine A) → Represents side n → IsPosted n client call posted) → IfOk r (λ posted. Marked → IsPosted m client call posted)
posted_there (Ok posted) side m client call Marked stands told = λ marked. told m (stands marked)
posted_there (Err e) side m client call Marked stands told = tt
