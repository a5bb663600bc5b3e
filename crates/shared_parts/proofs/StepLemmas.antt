-- One event more in the log, and one step of the machine: what stays in step.
use Rattle.app_api.specs.Behaviours.{Behaviour}
use Rattle.std.proofs.Common.{ℕ, ◌≡◌, ◌+◌, ◌-◌, ◌≤◌, ◌<◌, Bool, true, false, not, ◌||◌, leb, ltb, Option, List, [], ◌∷◌, ◌++◌, Result, Ok, Err, length, refl, sym, ap, subst, ◌∙◌, arith, length-append}
use Rattle.std.specs.Prelude.{OnErr, OnOk}
use Rattle.store_api.specs.Stores.{Store, empty_store}
use Rattle.alone.specs.declared.reply.Reply.{Reply}
use Rattle.alone.specs.declared.reply.TheConstants.{REPLIES}
use Rattle.alone.proofs.Born.{step_few}
use Rattle.alone.proofs.LogLemmas.{legal_push, machine_push, replies_push}
use Rattle.alone.specs.Laws.{StorageStays, born_of, live}
use Rattle.alone.specs.declared.log_entry.LogEvent.{LogEvent}
use Rattle.alone.specs.declared.turn.TurnKind.{TurnKind}
use Rattle.alone.specs.declared.turn.TurnKind.TheVariants as kinds
use Rattle.alone.specs.KeptLogs.{event_by}
use Rattle.app_api.specs.declared.call.Call.{Call}
use Rattle.alone.specs.Logs.{Adds, IsLegal, KeptLog, Logged, bytes_in, bytes_of_call, bytes_of_event, entry, is_full, machine_by, replies_in}
use Rattle.tee_base.specs.declared.limits.TheConstants.{MAX_LOG_BYTES, MAX_LOG_ENTRIES}
use Rattle.std.proofs.lemmas.Bool.{ltb-false}
use Rattle.alone.specs.Machine.{Machine}
use Rattle.alone.specs.Step.{Event, Called, Lost, is_enabled, step}
use Rattle.app_side.specs.Represents.{Represents, event_of, is_lost, machine_of, machine_over, turns_of}
use Rattle.app_side.specs.declared.side.AppSide.{AppSide}
use Rattle.shared_parts.specs.InStep.{GoesInStep, HasGrown, HasPart, HasPlaces, IsInStep, IsKeptBy, IsReserved, StaysInStep, StoragePart, part_of}

-- what is known holds at an error too
pub on_err_known : {X E : Type 0} (r : Result X E) (P : Type 0) → P → OnErr r P
on_err_known (Ok x) P p = tt
on_err_known (Err e) P p = p

-- a machine that a value represents: each value has one
pub some_machine : {A : Type 0} (side : AppSide A) → Represents side (machine_over side empty_store empty_store)
some_machine side = record { doubt = empty_store; parts = refl }

module _ {A : Type 0} where
  -- as much lives in each machine that a value represents
  pub live_is : (side : AppSide A) (m : Machine A) → Represents side m → live m ≡ live (machine_of side)
  live_is side m stands = ap (λ (x : Machine A). live x) stands.parts

  -- what leaves the storage leaves the part of it
  pub part_stays : (m n : Machine A) → StorageStays m n → part_of n ≡ part_of m
  part_stays m n stays =
      ap (λ (s : Store). (let p : StoragePart = record { store = s; in_doubt = n.in_doubt } in p)) stays.store
      ∙ ap (λ (d : Option Store). (let p : StoragePart = record { store = m.store; in_doubt = d } in p)) stays.in_doubt

  -- the places are still there where the log has the same entries and no less room
  pub places_grown : (m : Machine A) (old new : KeptLog) → HasGrown old new → HasPlaces m old → HasPlaces m new
  places_grown m old new grown places = record {
    entries = let same = ap (λ (log : List Logged). length log) grown.entries in let more = grown.room in let was = places.entries in omega (arith, same, more, was);
    replies = let same = ap (λ (log : List Logged). length (replies_in log)) grown.entries in let more = grown.reply_room in let was = places.replies in omega (arith, same, more, was);
  }

-- an event was made in this machine: it may stand there, the replies are its step's, and the value represents what that leaves
pub record MakesStep {A : Type 0} (behaviour : Behaviour A) (m : Machine A) (event : Event) (replies : List Reply) (after : AppSide A) : Type 0 where
  pub may : is_enabled m event ≡ true
  pub told : replies ≡ (step behaviour m event).replies
  pub stands : Represents after (step behaviour m event).machine

module _ {A : Type 0} (behaviour : Behaviour A) where
  -- the value still represents what it did, and the log has the same entries
  pub nothing_made : (before after : AppSide A) (old new : KeptLog) → HasGrown old new → ((m : Machine A) → Represents before m → Represents after m) → StaysInStep behaviour before old after new
  nothing_made before after old new grown still origin own kept =
      let m : Machine A = machine_by behaviour origin old.entries in
      let same : machine_by behaviour origin new.entries ≡ m = ap (λ (log : List Logged). machine_by behaviour origin log) grown.entries in
      record {
        in_step = record {
          legal = subst (λ (log : List Logged). IsLegal behaviour origin log) (sym grown.entries) kept.in_step.legal;
          stands = subst (λ (x : Machine A). Represents after x) (sym same) (still m kept.in_step.stands);
        };
        part = kept.part ∙ ap (λ (x : Machine A). part_of x) (sym same);
        places = subst (λ (x : Machine A). HasPlaces x new) (sym same) (places_grown m old new grown kept.places);
      }

-- one entry more: of this client, this event and these replies, in a log for which room was made
module _ {A : Type 0} (behaviour : Behaviour A) (client : ℕ) (event : Event) (replies : List Reply) (spare : ℕ) (before after : AppSide A) (old new : KeptLog)
    (reserved : IsReserved spare before old) (spares : born_of event + 2 ≤ spare) (few : born_of event ≤ 2) (count : length replies ≤ REPLIES)
    (more : new.entries ≡ old.entries ++ entry client event replies ∷ []) (room : new.room ≡ old.room) (reply_room : new.reply_room ≡ old.reply_room) where
  module _ (origin : Machine A) (made : MakesStep behaviour (machine_by behaviour origin old.entries) event replies after) where
    abbrev m : Machine A
    m = machine_by behaviour origin old.entries

    abbrev then : Machine A
    then = (step behaviour m event).machine

    machine_is : machine_by behaviour origin new.entries ≡ then
    machine_is = ap (λ (log : List Logged). machine_by behaviour origin log) more ∙ machine_push behaviour origin old.entries (entry client event replies)

    step_places : Represents before m → HasPlaces then new
    step_places stands =
        let alive = live_is before m stands in
        let born = step_few behaviour m event in
        record {
          entries =
              let long = ap (λ (log : List Logged). length log) more in
              let one = length-append old.entries (entry client event replies ∷ []) in
              let was = reserved.entries in
              omega (arith, alive, born, long, one, was, room, spares);
          replies =
              let long = ap (λ (log : List Logged). length (replies_in log)) more in
              let sum = replies_push old.entries (entry client event replies) in
              let was = reserved.replies in
              omega (arith, alive, born, long, sum, was, reply_room, few, count);
        }

    -- it stays in step, with the part that the step leaves
    pub entry_made : IsInStep behaviour origin before old.entries → IsKeptBy behaviour origin after new (part_of then)
    entry_made in_step =
        record {
          in_step = record {
            legal = subst (λ (log : List Logged). IsLegal behaviour origin log) (sym more) (legal_push behaviour origin old.entries client event replies in_step.legal made.may made.told);
            stands = subst (λ (x : Machine A). Represents after x) (sym machine_is) made.stands;
          };
          part = ap (λ (x : Machine A). part_of x) (sym machine_is);
          places = subst (λ (x : Machine A). HasPlaces x new) (sym machine_is) (step_places in_step.stands);
        }

  -- one that leaves the storage
  pub event_made : (first : KeptLog) → old.entries ≡ first.entries → ((m : Machine A) → Represents before m → MakesStep behaviour m event replies after)
      → ((m : Machine A) → Represents before m → part_of (step behaviour m event).machine ≡ part_of m) → StaysInStep behaviour before first after new
  event_made first same makes leaves origin own kept =
      let in_step : IsInStep behaviour origin before old.entries = subst (λ (log : List Logged). IsInStep behaviour origin before log) (sym same) kept.in_step in
      let made = entry_made origin (makes (machine_by behaviour origin old.entries) in_step.stands) in_step in
      record {
        in_step = made.in_step;
        part =
            kept.part ∙ ap (λ (log : List Logged). part_of (machine_by behaviour origin log)) (sym same)
            ∙ sym (leaves (machine_by behaviour origin old.entries) in_step.stands) ∙ made.part;
        places = made.places;
      }

-- a value and a log without an entry are in step from whatever machine the value represents
pub begun_kept : {A : Type 0} (behaviour : Behaviour A) (spare : ℕ) (first side : AppSide A) (log : KeptLog) (m : Machine A) → side ≡ first → log.entries ≡ [] → 1 ≤ spare
    → IsReserved spare side log → Represents first m → IsKeptBy behaviour m side log (part_of m)
begun_kept {A} behaviour spare first side log m same empty some reserved stands =
    let own : Represents side m = subst (λ (s : AppSide A). Represents s m) (sym same) stands in
    let here : machine_by behaviour m log.entries ≡ m = ap (λ (es : List Logged). machine_by behaviour m es) empty in
    let alive = live_is side m own in
    let places : HasPlaces m log =
    record {
      entries = let was = reserved.entries in omega (arith, alive, was, some);
      replies = let was = reserved.replies in omega (arith, alive, was);
    } in
    record {
      in_step = record {
        legal = subst (λ (es : List Logged). IsLegal behaviour m es) (sym empty) tt;
        stands = subst (λ (x : Machine A). Represents side x) (sym here) own;
      };
      part = ap (λ (x : Machine A). part_of x) (sym here);
      places = subst (λ (x : Machine A). HasPlaces x log) (sym here) places;
    }

-- what is kept by a log is in particular a part that a machine has
pub has_part : {A : Type 0} (behaviour : Behaviour A) (origin : Machine A) (side : AppSide A) (log : KeptLog) (own : StoragePart) → IsKeptBy behaviour origin side log own → HasPart side own
has_part behaviour origin side log own kept = record { machine = machine_by behaviour origin log.entries; stands = kept.in_step.stands; part = kept.part }

-- a loss that is found leaves what lives, and the turns
pub turns_lost : {A : Type 0} (behaviour : Behaviour A) (before after : AppSide A) → ((m : Machine A) → Represents before m → Represents after (step behaviour m Lost).machine)
    → turns_of after ≡ turns_of before
turns_lost {A} behaviour before after lost = sym (ap (λ (x : Machine A). x.turns) (lost _ (some_machine before)).parts)

pub live_lost : {A : Type 0} (behaviour : Behaviour A) (before after : AppSide A) → ((m : Machine A) → Represents before m → Represents after (step behaviour m Lost).machine)
    → live (machine_of after) ≡ live (machine_of before)
live_lost {A} behaviour before after lost = sym (ap (λ (x : Machine A). live x) (lost _ (some_machine before)).parts)

-- the log has the same entries and more room: what is in step stays so
pub grown_goes : {A : Type 0} (behaviour : Behaviour A) (before after : AppSide A) (log more : KeptLog) → after ≡ before → HasGrown log more → GoesInStep behaviour before log after more
grown_goes {A} behaviour before after log more same grown = record {
  kept = nothing_made behaviour before after log more grown (λ m stands. subst (λ (s : AppSide A). Represents s m) (sym same) stands);
  lost = ap (λ (s : AppSide A). is_lost s) same;
}

pub goes_further : {A : Type 0} (behaviour : Behaviour A) (before between after : AppSide A) (log middle more : KeptLog) → GoesInStep behaviour before log between middle
    → GoesInStep behaviour between middle after more → GoesInStep behaviour before log after more
goes_further behaviour before between after log middle more first second =
    record { kept = λ origin own kept. second.kept origin own (first.kept origin own kept); lost = second.lost ∙ first.lost }

-- an event that leaves the storage, for which room was made in the log
pub event_goes : {A : Type 0} (behaviour : Behaviour A) (client : ℕ) (event : Event) (replies : List Reply) (spare : ℕ) (first before after : AppSide A) (log middle more : KeptLog)
    → before ≡ first → HasGrown log middle → IsReserved spare before middle → born_of event + 2 ≤ spare → born_of event ≤ 2 → length replies ≤ REPLIES
    → more.entries ≡ middle.entries ++ entry client event replies ∷ [] → more.room ≡ middle.room → more.reply_room ≡ middle.reply_room
    → ((m : Machine A) → Represents before m → MakesStep behaviour m event replies after) → ((m : Machine A) → Represents before m → part_of (step behaviour m event).machine ≡ part_of m)
    → is_lost after ≡ is_lost before → GoesInStep behaviour first log after more
event_goes {A} behaviour client event replies spare first before after log middle more same grown reserved spares few count longer room reply_room makes leaves lost =
    subst (λ (s : AppSide A). GoesInStep behaviour s log after more) same (record {
      kept = event_made behaviour client event replies spare before after middle more reserved spares few count longer room reply_room log grown.entries makes leaves;
      lost = lost;
    })

-- nothing was added
pub same_log : (log : KeptLog) → HasGrown log log
same_log log = record { entries = refl; room = omega arith; reply_room = omega arith }

-- what is reserved is more than less
pub reserved_less : {A : Type 0} (side : AppSide A) (log : KeptLog) → IsReserved 4 side log → IsReserved 3 side log
reserved_less side log reserved = record { entries = let was = reserved.entries in omega (arith, was); replies = reserved.replies }

-- behind the entry of a loss that is found, one place less is reserved
pub reserved_behind : {A : Type 0} (client : ℕ) (before after : AppSide A) (log more : KeptLog) → live (machine_of after) ≡ live (machine_of before) → IsReserved 4 before log
    → more.entries ≡ log.entries ++ entry client Lost [] ∷ [] → more.room ≡ log.room → more.reply_room ≡ log.reply_room → IsReserved 3 after more
reserved_behind client before after log more alive reserved longer room reply_room = record {
  entries =
      let long = ap (λ (es : List Logged). length es) longer in
      let one = length-append log.entries (entry client Lost [] ∷ []) in
      let was = reserved.entries in
      omega (arith, alive, long, one, was, room);
  replies =
      let long = ap (λ (es : List Logged). length (replies_in es)) longer in
      let sum = replies_push log.entries (entry client Lost []) in
      let was = reserved.replies in
      omega (arith, alive, long, sum, was, reply_room);
}

-- an application that knew of no loss where there is none
pub no_loss_known : (known lost : Bool) → (known ≡ true → lost ≡ true) → lost ≡ false → known ≡ lost
no_loss_known true lost follows none = sym (follows refl)
no_loss_known false lost follows none = sym none

-- ---- what the log asks for

-- a turn brings no bytes
no_bytes : (kind : TurnKind) (i : ℕ) → bytes_of_event (event_of kind i) ≡ 0
no_bytes kinds.Plain i = refl
no_bytes (kinds.Lost changes) i = refl
no_bytes kinds.Starved i = refl
no_bytes kinds.Corrupted i = refl

pub bytes_none : (kind : TurnKind) (i client : ℕ) (e : LogEvent) (log : List Logged) → event_by client e ≡ event_of kind i → bytes_of_event (event_by client e) ≤ MAX_LOG_BYTES - bytes_in log
bytes_none kind i client e log same =
    let none : bytes_of_event (event_by client e) ≡ 0 = ap (λ (x : Event). bytes_of_event x) same ∙ no_bytes kind i in
    omega (arith, none)

-- there is room for an entry, and for its replies
pub room_for : {A : Type 0} (spare : ℕ) (side : AppSide A) (log : KeptLog) → IsReserved spare side log → 1 ≤ spare → length log.entries < log.room
room_for spare side log reserved some = let was = reserved.entries in omega (arith, was, some)

pub replies_for : {A : Type 0} (spare : ℕ) (side : AppSide A) (log : KeptLog) (replies : List Reply) → IsReserved spare side log → length replies ≤ REPLIES
    → length (replies_in log.entries) + length replies ≤ log.reply_room
replies_for spare side log replies reserved few = let was = reserved.replies in omega (arith, was, few)

-- the entry is that of the turn
pub entry_of_turn : (kind : TurnKind) (i client : ℕ) (e : LogEvent) (replies : List Reply) (old new : List Logged) → event_by client e ≡ event_of kind i
    → new ≡ old ++ entry client (event_by client e) replies ∷ [] → new ≡ old ++ entry client (event_of kind i) replies ∷ []
entry_of_turn kind i client e replies old new same longer = longer ∙ ap (λ (x : Event). old ++ entry client x replies ∷ []) same

-- no turn brings anything to life
pub born_spare : (kind : TurnKind) (i spare : ℕ) → 2 ≤ spare → born_of (event_of kind i) + 2 ≤ spare
born_spare kinds.Plain i spare le = omega (arith, le)
born_spare (kinds.Lost changes) i spare le = omega (arith, le)
born_spare kinds.Starved i spare le = omega (arith, le)
born_spare kinds.Corrupted i spare le = omega (arith, le)

pub born_few : (kind : TurnKind) (i : ℕ) → born_of (event_of kind i) ≤ 2
born_few kinds.Plain i = omega arith
born_few (kinds.Lost changes) i = omega arith
born_few kinds.Starved i = omega arith
born_few kinds.Corrupted i = omega arith

-- ---- each event

-- one entry more than before the room was made
pub adds_entry : (client : ℕ) (event : Event) (replies : List Reply) (old middle new : List Logged) → middle ≡ old → new ≡ middle ++ entry client event replies ∷ [] → Adds client event old new
adds_entry client event replies old middle new same longer =
    record { replies = replies; more = longer ∙ ap (λ (es : List Logged). es ++ entry client event replies ∷ []) same }

-- the entry of a call is that of its copy
pub entry_of_call : (client : ℕ) (call copy : Call) (replies : List Reply) (old new : List Logged) → copy ≡ call → new ≡ old ++ entry client (Called client copy) replies ∷ []
    → new ≡ old ++ entry client (Called client call) replies ∷ []
entry_of_call client call copy replies old new same longer = longer ∙ ap (λ (k : Call). old ++ entry client (Called client k) replies ∷ []) same

-- the bytes of a call have their place where those of its copy are the same
pub bytes_of_copy : (client : ℕ) (call copy : Call) (log : List Logged) → copy ≡ call → bytes_of_call call ≤ MAX_LOG_BYTES - bytes_in log
    → bytes_of_event (Called client copy) ≤ MAX_LOG_BYTES - bytes_in log
bytes_of_copy client call copy log same fit = subst (λ (k : Call). bytes_of_call k ≤ MAX_LOG_BYTES - bytes_in log) (sym same) fit

-- the same bytes have their place in the same entries
pub bytes_still : (bytes : ℕ) (old new : List Logged) → new ≡ old → bytes ≤ MAX_LOG_BYTES - bytes_in old → bytes ≤ MAX_LOG_BYTES - bytes_in new
bytes_still bytes old new same fit = subst (λ (es : List Logged). bytes ≤ MAX_LOG_BYTES - bytes_in es) (sym same) fit

module _ {A : Type 0} where
  -- what a value that is the same represents
  pub same_represents : (before after : AppSide A) (m : Machine A) → after ≡ before → Represents before m → Represents after m
  same_represents before after m same stands = subst (λ (s : AppSide A). Represents s m) (sym same) stands

  -- a value that knows of no loss may meet one
  pub may_lose : (side : AppSide A) (m : Machine A) → is_lost side ≡ false → Represents side m → is_enabled m Lost ≡ true
  may_lose side m works stands = ap (λ (x : Machine A). not x.lost) stands.parts ∙ ap (λ b. not b) works

-- a loss that is found, with its entry
module _ {A : Type 0} (behaviour : Behaviour A) (client : ℕ) (none : List Reply) (before after : AppSide A) (log more : KeptLog) (works : is_lost before ≡ false)
    (lost : (m : Machine A) → Represents before m → Represents after (step behaviour m Lost).machine) (reserved : IsReserved 4 before log)
    (is_none : (let empty : List Reply = [] in none ≡ empty))
    (longer : more.entries ≡ log.entries ++ entry client Lost none ∷ []) (room : more.room ≡ log.room) (reply_room : more.reply_room ≡ log.reply_room) where
  pub loss_entry : more.entries ≡ log.entries ++ entry client Lost [] ∷ []
  loss_entry = longer ∙ ap (λ (rs : List Reply). log.entries ++ entry client Lost rs ∷ []) is_none

  pub loss_kept : StaysInStep behaviour before log after more
  loss_kept =
      event_made behaviour client Lost none 4 before after log more reserved (omega arith) (omega arith)
      (let count : length none ≡ 0 = ap (λ (rs : List Reply). length rs) is_none in omega (arith, count)) longer room reply_room log refl
      (λ m stands. record { may = may_lose before m works stands; told = is_none; stands = lost m stands }) (λ m stands. refl)

  pub loss_reserved : IsReserved 3 after more
  loss_reserved = reserved_behind client before after log more (live_lost behaviour before after lost) reserved loss_entry room reply_room

  pub loss_turns : turns_of after ≡ turns_of before
  loss_turns = turns_lost behaviour before after lost

-- what was made room for is reserved
pub reserved_ok : {A X E : Type 0} (r : Result X E) (n : ℕ) (side : AppSide A) (old new : KeptLog) → new.entries ≡ old.entries → n ≡ live (machine_of side)
    → OnOk r (length old.entries + (n + 4) ≤ new.room) → OnOk r (length (replies_in old.entries) + (n + REPLIES + 2) ≤ new.reply_room) → OnOk r (IsReserved 4 side new)
reserved_ok (Ok done) n side old new same alive room reply_room = record {
  entries = let count = ap (λ (log : List Logged). length log) same in omega (arith, count, alive, room);
  replies = let count = ap (λ (log : List Logged). length (replies_in log)) same in omega (arith, count, alive, reply_room);
}
reserved_ok (Err want) n side old new same alive room reply_room = tt

-- ---- refusals

or_second : (a b : Bool) → (a || b) ≡ false → b ≡ false
or_second true b none = absurd (let f : true ≡ false = none in cc)
or_second false b none = none

-- the bytes of a call have their place in a log that isn't full
pub bytes_fit : (log : List Logged) (bytes : ℕ) → is_full log bytes ≡ false → bytes ≤ MAX_LOG_BYTES - bytes_in log
bytes_fit log bytes room =
    let le : bytes_in log + bytes ≤ MAX_LOG_BYTES =
    ltb-false MAX_LOG_BYTES (bytes_in log + bytes) (or_second (leb MAX_LOG_ENTRIES (length log)) (ltb MAX_LOG_BYTES (bytes_in log + bytes)) room) in
    omega (arith, le)

-- whether it is full is said of the bytes of the call
pub full_of_call : (log : List Logged) (bytes many : ℕ) (full said : Bool) → many ≡ bytes → full ≡ is_full log many → full ≡ said → is_full log bytes ≡ said
full_of_call log bytes many full said same is now = ap (λ n. is_full log n) (sym same) ∙ sym is ∙ now
