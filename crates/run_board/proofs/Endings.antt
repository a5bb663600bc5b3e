-- A run's rows, by how its opening and its lines went.
use Rattle.app_api.specs.Behaviours.{Behaviour}
use Rattle.std.proofs.Common.{◌≡◌, ◌⊎◌, ℕ, true, List, [], Option, Result, Ok, Err, IsErrOf, OnErr, OnOk, ⊎_elim, inl, inr, refl, sym, subst}
use Rattle.app_api.specs.declared.host.Host.{Host}
use Rattle.board.specs.Moment.{View}
use Rattle.board.specs.Steps.{CallRun}
use Rattle.board.specs.declared.Board.{Ghosts as BoardGhosts}
use Rattle.epoch.specs.Forms.{Form}
use Rattle.epoch.specs.Mounts.{IsRefusedNow}
use Rattle.epoch.specs.declared.answer.OpenAnswer.{OpenAnswer}
use Rattle.epoch.specs.declared.answer.OpenAnswer.TheVariants as answers
use Rattle.script.specs.declared.dialect.Dialect.{Dialect}
use Rattle.script.specs.declared.line.Line.{Line}
use Rattle.store_api.specs.Stores.{Store}
use Rattle.tee_base.specs.Faults.{Rose}
use Rattle.tee_base.specs.declared.io.Sink.{Ghosts as SinkGhosts}
use Rattle.run_board.specs.Boards.{FailsAtPower, HasFirstOrders, HasOrders, HasPower, WritesLosses, orders_of}
use Rattle.run_board.specs.Endings.{EndsAs, IsRefusedAs, RunEnds, RunsAs}
use Rattle.run_board.specs.Reading.{IsOfLines, IsOfScript, IsReadStatus, ReadsTo}
use Rattle.run_board.specs.Runs.{RunsFront, RunsToPower, RunsWhole, ended_as}
use Rattle.run_board.specs.Statuses.{refusal_of}
use Rattle.run_board.specs.Stops.{IfRefused, UnlessRefused}
use Rattle.run_board.specs.declared.lines.Stop.{Stop}
use Rattle.run_board.specs.declared.lines.Stop.TheVariants as stops
use Rattle.run_board.specs.declared.status.Status.{Status}
use Rattle.run_board.specs.declared.status.Status.TheVariants.{Done, BadWords, BadLine, TooLong, StoreRefused, LogFull, NoMemory, ReadFault, WriteFault, BoardFault}
use Rattle.run_board.proofs.Ended.{read_unopened}
use Rattle.run_board.proofs.Losses.{losses_both, losses_none}
use Rattle.run_board.proofs.Opened.{orders_opened}
use Rattle.run_board.proofs.Parts.{all_orders_first, first_orders_more, orders_both}
use Rattle.run_board.proofs.Powers.{fails_behind, fails_rose}
use Rattle.run_board.proofs.Served.{refusal_row, refused_by}

-- ---- rows of lines are rows of the script that they are

module _ {B W A : Type 0} (G : BoardGhosts B) (H : SinkGhosts W) (form : Form) (dialect : Dialect) (hosts : List (Host A)) (text : Option (List ℕ)) (script : List Line)
    (reads : ReadsTo dialect hosts text script) (board left : B) (sink written : W) where
  refused_script : (why : OpenAnswer) → IsRefusedAs G form (λ So. So script) board left sink written why → IsRefusedAs G form (IsOfScript dialect hosts text) board left sink written why
  refused_script why row = record {
    answer = row.answer;
    refusal = row.refusal;
    refused = λ honest. ⊎_elim (λ first. inl first) (λ power. inr (script, reads, power)) (row.refused honest);
    rule = λ tells. ⊎_elim (λ first. inl first) (λ power. inr (script, reads, power)) (row.rule tells);
  }

  ends_script : (status : Status) → EndsAs G H form (λ So. So script) board left sink written status → EndsAs G H form (IsOfScript dialect hosts text) board left sink written status
  ends_script Done row = ((script, reads, row.0), row.1)
  ends_script WriteFault row = row
  ends_script BoardFault row = ⊎_elim (λ first. inl first) (λ power. inr (script, reads, power)) row
  ends_script (StoreRefused why) row = refused_script why row
  ends_script NoMemory row = tt
  ends_script (LogFull app) row = row
  ends_script BadWords row = row
  ends_script (BadLine n) row = row
  ends_script TooLong row = row
  ends_script ReadFault row = row

  pub run_ends_script : (status : Status) → RunEnds G H form (λ So. So script) board left sink written status → RunEnds G H form (IsOfScript dialect hosts text) board left sink written status
  run_ends_script status row = record {
    says = ends_script status row.says;
    orders = ⊎_elim (λ same. inl same) (λ first. inr (script, reads, first)) row.orders;
    opened = row.opened;
  }

  pub runs_script : (behaviour : Behaviour A) (seed : List ℕ) (stores : ℕ → Store) (status : Status)
      → RunsAs G H behaviour form hosts seed (λ So. So script) board left sink written stores status
      → RunsAs G H behaviour form hosts seed (IsOfScript dialect hosts text) board left sink written stores status
  runs_script behaviour seed stores Done row = (script, reads, row)
  runs_script behaviour seed stores WriteFault row = (script, reads, row)
  runs_script behaviour seed stores NoMemory row = ⊎_elim (λ none. inl none) (λ front. inr (script, reads, front)) row
  runs_script behaviour seed stores BoardFault row = ⊎_elim (λ none. inl none) (λ power. inr (script, reads, power)) row
  runs_script behaviour seed stores (StoreRefused why) row = row
  runs_script behaviour seed stores (LogFull app) row = tt
  runs_script behaviour seed stores BadWords row = tt
  runs_script behaviour seed stores (BadLine n) row = tt
  runs_script behaviour seed stores TooLong row = tt
  runs_script behaviour seed stores ReadFault row = tt

-- ---- a script that wasn't read

module _ {B W : Type 0} (G : BoardGhosts B) (H : SinkGhosts W) (form : Form) (Of : (List Line → Type 0) → Type 0) (board : B) (sink : W) where
  unread : (status : Status) → IsReadStatus status → EndsAs G H form Of board board sink sink status
  unread (BadLine n) few = (refl, refl)
  unread TooLong few = (refl, refl)
  unread ReadFault few = (refl, refl)
  unread NoMemory few = tt
  unread Done few = absurd few
  unread BadWords few = absurd few
  unread (StoreRefused why) few = absurd few
  unread (LogFull app) few = absurd few
  unread WriteFault few = absurd few
  unread BoardFault few = absurd few

  pub unread_ends : (status : Status) → IsReadStatus status → RunEnds G H form Of board board sink sink status
  unread_ends status few = record { says = unread status few; orders = inl refl; opened = λ honest. inl (refl, read_unopened status few) }

  pub unread_runs : {A : Type 0} (behaviour : Behaviour A) (hosts : List (Host A)) (seed : List ℕ) (stores : ℕ → Store) (status : Status) → IsReadStatus status
      → RunsAs G H behaviour form hosts seed Of board board sink sink stores status
  unread_runs behaviour hosts seed stores (BadLine n) few = tt
  unread_runs behaviour hosts seed stores TooLong few = tt
  unread_runs behaviour hosts seed stores ReadFault few = tt
  unread_runs behaviour hosts seed stores NoMemory few = inl (refl, refl)
  unread_runs behaviour hosts seed stores Done few = absurd few
  unread_runs behaviour hosts seed stores BadWords few = absurd few
  unread_runs behaviour hosts seed stores (StoreRefused why) few = absurd few
  unread_runs behaviour hosts seed stores (LogFull app) few = absurd few
  unread_runs behaviour hosts seed stores WriteFault few = absurd few
  unread_runs behaviour hosts seed stores BoardFault few = absurd few

-- ---- lines that were run, over a board that was opened

module _ {B W : Type 0} (G : BoardGhosts B) (H : SinkGhosts W) (form : Form) (script : List Line) (board left : B) (sink written : W) (view : View)
    (opened : CallRun true (G.view board) view) where
  abbrev Ends : Status → Type 0
  Ends = EndsAs G H form (λ So. So script) board left sink written

  -- they stopped since the board wasn't opened again
  refused_end : (why : OpenAnswer) → (G.honest board → IsRefusedNow form (G.view left) why) → (why ≡ answers.Failed → FailsAtPower script view (G.view left)) → HasPower script
      → Ends (refusal_of why)
  refused_end why refusal cause power =
      refusal_row Ends why
      (λ rule. record {
        answer = rule;
        refusal = λ honest. refused_by form (G.view left) why rule (refusal honest);
        refused = λ honest. inr power;
        rule = λ tells. inr power;
      })
      (λ failed. inr (fails_behind [] script _ _ _ (orders_opened _ _ _ opened) (cause failed)))
      (λ none. tt)

  pub lines_end : {X : Type 0} (r : Result X Stop) → OnOk r (HasOrders (orders_of script) view (G.view left)) → OnOk r (WritesLosses (H.written sink) (H.written written) view (G.view left))
      → (IsErrOf r stops.WriteFault → Rose (H.failures sink) (H.failures written)) → IfRefused r (λ why. G.honest board → IsRefusedNow form (G.view left) why)
      → IfRefused r (λ why. why ≡ answers.Failed → FailsAtPower script view (G.view left)) → IfRefused r (λ why. HasPower script) → Ends (ended_as r)
  lines_end (Ok x) orders losses fault refusal cause power = (
    orders_both [] (orders_of script) _ _ _ (orders_opened _ _ _ opened) orders,
    losses_both _ _ _ _ _ _ (losses_none (H.written sink) _ _ opened.faults) losses,
  )
  lines_end (Err stops.NoMemory) orders losses fault refusal cause power = tt
  lines_end (Err stops.WriteFault) orders losses fault refusal cause power = fault refl
  lines_end (Err (stops.Refused why)) orders losses fault refusal cause power = refused_end why refusal cause power

  -- the orders of the first of them were made
  pub lines_ordered : {X : Type 0} (r : Result X Stop) → OnOk r (HasOrders (orders_of script) view (G.view left)) → OnErr r (HasFirstOrders script view (G.view left))
      → HasFirstOrders script (G.view board) (G.view left)
  lines_ordered (Ok x) orders first = first_orders_more [] script _ _ _ (orders_opened _ _ _ opened) (all_orders_first script _ _ orders)
  lines_ordered (Err stop) orders first = first_orders_more [] script _ _ _ (orders_opened _ _ _ opened) first

module _ {B W A : Type 0} (G : BoardGhosts B) (H : SinkGhosts W) (behaviour : Behaviour A) (form : Form) (hosts : List (Host A)) (seed : List ℕ) (script : List Line) (board left : B)
    (sink written : W) (stores : ℕ → Store) where
  -- D, S and R are what is known of lines that were all run, that stopped, and after which the board wasn't opened again
  pub lines_run : {X : Type 0} (r : Result X Stop) (D S : Type 0) (R : OpenAnswer → Type 0) → OnOk r D → UnlessRefused r S → IfRefused r R
      → (D → RunsWhole behaviour form hosts seed stores script (G.view board) (G.view left) (H.written sink) (H.written written))
      → (S → RunsFront behaviour form hosts seed stores script (G.view left) (H.written sink) (H.written written))
      → ((why : OpenAnswer) → R why
      → RunsToPower behaviour form hosts seed stores script (G.view board) (G.view left) (H.written sink) (H.written written) × (why ≡ answers.Failed))
      → RunsAs G H behaviour form hosts seed (λ So. So script) board left sink written stores (ended_as r)
  lines_run (Ok x) D S R done stopped refused whole front power = whole done
  lines_run (Err stops.NoMemory) D S R done stopped refused whole front power = inr (front stopped)
  lines_run (Err stops.WriteFault) D S R done stopped refused whole front power = front stopped
  lines_run (Err (stops.Refused why)) D S R done stopped refused whole front power =
      let to_power = power why refused in
      subst (λ (w : OpenAnswer). RunsAs G H behaviour form hosts seed (λ So. So script) board left sink written stores (refusal_of w)) (sym to_power.1) (inr to_power.0)

-- lines that ended were read
pub lines_served : {X : Type 0} (r : Result X Stop) → IsOfLines (ended_as r)
lines_served (Ok x) = tt
lines_served (Err stops.NoMemory) = tt
lines_served (Err stops.WriteFault) = tt
lines_served (Err (stops.Refused why)) = refusal_row IsOfLines why (λ rule. tt) (λ failed. tt) (λ none. tt)

-- ---- a run that is complete

module _ {B W A : Type 0} (G : BoardGhosts B) (H : SinkGhosts W) (behaviour : Behaviour A) (form : Form) (dialect : Dialect) (hosts : List (Host A)) (seed : List ℕ)
    (text : Option (List ℕ)) (board left : B) (sink written : W) (stores : ℕ → Store) where
  -- where no write and no call of a sound board failed
  pub completes : (status : Status) → IsOfLines status → EndsAs G H form (IsOfScript dialect hosts text) board left sink written status
      → RunsAs G H behaviour form hosts seed (IsOfScript dialect hosts text) board left sink written stores status → ¬ Rose (H.failures sink) (H.failures written)
      → ¬ Rose (G.view board).state.faults (G.view left).state.faults → (status ≡ Done) ⊎ (status ≡ NoMemory)
  completes Done served ends runs wrote steady = inl refl
  completes NoMemory served ends runs wrote steady = inr refl
  completes WriteFault served ends runs wrote steady = absurd (wrote ends)
  completes BoardFault served ends runs wrote steady =
      absurd (steady (⊎_elim (λ first. first.1.failed) (λ power. fails_rose power.0 _ _ power.2) ends))
  completes (StoreRefused why) served ends runs wrote steady = absurd runs
  completes (LogFull app) served ends runs wrote steady = absurd ends
  completes BadWords served ends runs wrote steady = absurd served
  completes (BadLine n) served ends runs wrote steady = absurd served
  completes TooLong served ends runs wrote steady = absurd served
  completes ReadFault served ends runs wrote steady = absurd served
