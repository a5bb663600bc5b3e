-- How a run ends whose replies were summed up.
use Rattle.app_api.specs.Behaviours.{Behaviour}
use Rattle.std.proofs.Common.{◌≡◌, ◌⊎◌, ◌∙◌, ℕ, false, List, [], Option, Some, ⊎_elim, ap, inl, inr, length, refl, subst, sym}
use Rattle.std.specs.Prelude.{codes}
use Rattle.std.specs.List.{AllByRecursion}
use Rattle.app_api.specs.Hosts.{HostsFit}
use Rattle.app_api.specs.declared.host.Host.{Host}
use Rattle.board.specs.Moment.{View}
use Rattle.board.specs.declared.Board.{Ghosts as BoardGhosts}
use Rattle.epoch.specs.Forms.{Form}
use Rattle.mac_digest.specs.Hash.{digest_of}
use Rattle.mac_digest.specs.declared.digests.Hash.TheVariants.{Sha256}
use Rattle.report.specs.Texts.{summary_text}
use Rattle.script.specs.Canonical.{canonical}
use Rattle.script.specs.Grammar.{names_of}
use Rattle.script.specs.declared.line.Line.{Line}
use Rattle.store_api.specs.Stores.{Store}
use Rattle.summary.specs.Codes.{IsTally, codes_in}
use Rattle.summary.specs.Summaries.{IsCutAt, IsCutBy, IsSummary}
use Rattle.summary.specs.declared.cut.Cut.{Cut}
use Rattle.summary.specs.declared.cut.Cut.TheVariants as cuts
use Rattle.tee_base.specs.Faults.{Rose}
use Rattle.tee_base.specs.declared.io.Sink.{Ghosts as SinkGhosts}
use Rattle.tee_core.specs.World.{World, world_of}
use Rattle.run_board.specs.BoardLines.{begins_with, weather_in, whole_lines, whole_text}
use Rattle.run_board.specs.Boards.{BeginsWith, HasFirstOrders, HasOpened, HasOrders, LeavesStores, WritesLosses, orders_of}
use Rattle.run_board.specs.Endings.{EndsAs, OnSound, RunEnds, RunsAs}
use Rattle.run_board.specs.Generated.{IsSummaryOf, RunsGenerated, SumsAs, SumsEndAs, SumsFront, WritesAs, calm, calm_end, calm_text}
use Rattle.run_board.specs.Isolation.{HasNoLine}
use Rattle.run_board.specs.Reading.{IsOfLines, IsUnopened}
use Rattle.run_board.specs.Runs.{RunsFront, RunsWhole}
use Rattle.run_board.specs.Transcript.{Weather, after_events, events_of, transcript}
use Rattle.run_board.specs.declared.status.Status.{Status}
use Rattle.run_board.specs.declared.status.Status.TheVariants.{Done, BadWords, BadLine, TooLong, StoreRefused, LogFull, NoMemory, ReadFault, WriteFault, BoardFault}
use Rattle.run_board.proofs.Calm.{calm_weather, no_power, none_made}
use Rattle.run_board.proofs.Opened.{begin_leaves}
use Rattle.run_board.proofs.Parts.{no_orders}
use Rattle.run_board.proofs.Powers.{fails_rose}
use Rattle.run_board.proofs.Whole.{nothing_written, whole_front}
use Rattle.run_board.proofs.WholeLines.{whole_lines_are}

module _ {A : Type 0} (behaviour : Behaviour A) (form : Form) (hosts : List (Host A)) (fit : HostsFit hosts) (seed : List ℕ) (script : List Line) where
  abbrev begin : (ℕ → Store) → World A
  begin stores = world_of hosts seed stores

  -- ---- all lines were run

  module _ (stores : ℕ → Store) (old new : View) (text hash : List ℕ) (counts : List (ℕ × ℕ)) (summary : IsSummary text hash counts)
      (whole : RunsWhole behaviour form hosts seed stores script old new (Some []) (Some text)) where
    lines_are : whole_lines text ≡ summary.lines
    lines_are = ap whole_lines summary.has.all ∙ whole_lines_are summary.lines summary.rest summary.has.each summary.has.last

    no_board : HasNoLine (codes "board ") text
    no_board = subst (AllByRecursion (λ line. begins_with (codes "board ") line ≡ false)) (sym lines_are) summary.has.own

    weather_is : weather_in (names_of hosts) whole.text ≡ calm
    weather_is = ap (weather_in (names_of hosts)) (sym whole.appended) ∙ calm_weather (names_of hosts) text no_board

    text_is : text ≡ calm_text behaviour form hosts seed stores script
    text_is = whole.appended ∙ whole.all ∙ ap (λ (w : Weather). transcript behaviour w hosts seed stores script) weather_is

    summary_is : IsSummaryOf behaviour form hosts seed stores script (summary_text (length script) (digest_of Sha256 (canonical hosts script)) hash counts)
    summary_is = record {
      counts = counts;
      tally = subst (λ ls. IsTally (codes_in ls) counts) (sym lines_are ∙ ap whole_lines text_is) summary.tally;
      here = ap (λ h. summary_text (length script) (digest_of Sha256 (canonical hosts script)) h counts) (summary.hashed ∙ ap (digest_of Sha256) text_is);
    }

    end_is : LeavesStores form new (calm_end behaviour form hosts seed stores script)
    end_is = subst (λ (w : Weather). LeavesStores form new (after_events behaviour (begin stores) (events_of behaviour w (begin stores) script))) weather_is whole.left

  -- nothing was to be summed up, or all was
  none_front : (stores : ℕ → Store) (new : View) → LeavesStores form new (begin stores) → SumsFront behaviour form hosts seed stores script new
  none_front stores new left = record {
    replies = [];
    lines = [];
    line = [];
    has = record { all = refl; each = tt; last = tt; own = tt };
    front = nothing_written behaviour form hosts fit seed stores script new (Some []) left;
  }

  all_front : (stores : ℕ → Store) (old new : View) (text hash : List ℕ) (counts : List (ℕ × ℕ)) → IsSummary text hash counts
      → (run : RunsWhole behaviour form hosts seed stores script old new (Some []) (Some text)) → whole_text run.text ≡ run.text → SumsFront behaviour form hosts seed stores script new
  all_front stores old new text hash counts summary run whole = record {
    replies = text;
    lines = summary.lines;
    line = summary.rest;
    has = summary.has;
    front = whole_front behaviour form hosts fit seed stores script old new (Some []) (Some text) run whole;
  }

  -- ---- rows of a run for its summary

  module _ {B W : Type 0} (G : BoardGhosts B) (K : SinkGhosts W) (board left : B) (out told : W) where
    abbrev Says : Status → Type 0
    Says = SumsEndAs G K behaviour form hosts seed script board left out told

    abbrev Sound : (ℕ → Store) → Status → Type 0
    Sound = SumsAs G K behaviour form hosts seed script board left out told

    sums_complete : (stores : ℕ → Store) (status : Status) → Says status → Sound stores status → ¬ Rose (K.failures out) (K.failures told)
        → ¬ Rose (G.view board).state.faults (G.view left).state.faults → (status ≡ Done) ⊎ (status ≡ NoMemory)
    sums_complete stores Done says sound wrote steady = inl refl
    sums_complete stores NoMemory says sound wrote steady = inr refl
    sums_complete stores WriteFault says sound wrote steady = absurd (wrote says)
    sums_complete stores BoardFault says sound wrote steady = absurd (steady says.1)
    sums_complete stores (StoreRefused why) says sound wrote steady = absurd sound
    sums_complete stores (LogFull app) says sound wrote steady = absurd says
    sums_complete stores BadWords says sound wrote steady = absurd says
    sums_complete stores (BadLine n) says sound wrote steady = absurd says
    sums_complete stores TooLong says sound wrote steady = absurd says
    sums_complete stores ReadFault says sound wrote steady = absurd says

    sums : (status : Status) → Says status → OnSound G form (length hosts) board (λ stores. Sound stores status) → HasOrders [] (G.view board) (G.view left)
        → (G.honest board → ((told ≡ out) × IsUnopened status) ⊎ HasOpened form (G.view board)) → RunsGenerated G K behaviour form hosts seed script board left out told status
    sums status says sound orders opened = record {
      says = says;
      sound = sound;
      orders = orders;
      opened = opened;
      complete = λ wrote steady honest stores begins. sums_complete stores status says (sound honest stores begins) wrote steady;
    }

    -- its text was to be written
    says_written : (here : List ℕ) (status : Status) → WritesAs K here out told status → Says status
    says_written here Done writes = tt
    says_written here WriteFault writes = writes.1
    says_written here NoMemory writes = writes
    says_written here (StoreRefused why) writes = absurd writes
    says_written here (LogFull app) writes = writes
    says_written here BoardFault writes = absurd writes
    says_written here BadWords writes = writes
    says_written here (BadLine n) writes = writes
    says_written here TooLong writes = writes
    says_written here ReadFault writes = writes

    sound_written : (stores : ℕ → Store) (here : List ℕ) → IsSummaryOf behaviour form hosts seed stores script here
        → LeavesStores form (G.view left) (calm_end behaviour form hosts seed stores script) → SumsFront behaviour form hosts seed stores script (G.view left)
        → (status : Status) → WritesAs K here out told status → Sound stores status
    sound_written stores here summary end front Done writes = record { text = here; summary = summary; appended = writes; left = end }
    sound_written stores here summary end front WriteFault writes = record { text = here; summary = summary; front = writes.0; left = end }
    sound_written stores here summary end front NoMemory writes = front
    sound_written stores here summary end front (StoreRefused why) writes = writes
    sound_written stores here summary end front (LogFull app) writes = writes
    sound_written stores here summary end front BoardFault writes = absurd writes
    sound_written stores here summary end front BadWords writes = writes
    sound_written stores here summary end front (BadLine n) writes = writes
    sound_written stores here summary end front TooLong writes = writes
    sound_written stores here summary end front ReadFault writes = writes

  -- ---- the ways in which a run ends

  -- the lines weren't even made
  pub unmade_ends : {B W : Type 0} (G : BoardGhosts B) (K : SinkGhosts W) (board : B) (out : W) → RunsGenerated G K behaviour form hosts seed script board board out out NoMemory
  unmade_ends G K board out =
      sums G K board board out out NoMemory refl (λ honest stores begins. none_front stores (G.view board) (begin_leaves form hosts seed stores (G.view board) begins))
      (no_orders (G.view board)) (λ honest. inl (refl, tt))

  module _ {B W T : Type 0} (none : orders_of script ≡ []) (G : BoardGhosts B) (K : SinkGhosts W) (board left : B) (out : W) (H : SinkGhosts T) (start end : T) where
    abbrev Ends : Status → Type 0
    Ends status = RunEnds G H form (λ So. So script) board left start end status

    abbrev Runs : Status → Type 0
    Runs status = OnSound G form (length hosts) board (λ stores. RunsAs G H behaviour form hosts seed (λ So. So script) board left start end stores status)

    orderless : (left ≡ board) ⊎ HasFirstOrders script (G.view board) (G.view left) → HasOrders [] (G.view board) (G.view left)
    orderless (inl same) = subst (λ (b : B). HasOrders [] (G.view board) (G.view b)) (sym same) (no_orders (G.view board))
    orderless (inr first) = none_made script (G.view board) (G.view left) none first

    -- the lines ended so, and the sink tells its text, which begins with none
    module _ (state : Status) (ends : Ends state) (runs : Runs state) (text line : List ℕ) (from : H.written start ≡ Some []) (to : H.written end ≡ Some text) where
      told_both : (P : Option (List ℕ) → Option (List ℕ) → Type 0) → P (H.written start) (H.written end) → P (Some []) (Some text)
      told_both P p = subst (P (Some [])) to (subst (λ (w : Option (List ℕ)). P w (H.written end)) from p)

      text_whole : (run : List ℕ) → text ≡ run → WritesLosses (Some []) (Some text) (G.view board) (G.view left) → whole_text run ≡ run
      text_whole run is losses = subst (λ t. whole_text t ≡ t) (sym losses.appended ∙ is) losses.whole

      -- all lines were run
      pub summed_ends : state ≡ Done → (told : W) (status : Status) (hash : List ℕ) (counts : List (ℕ × ℕ)) → IsSummary text hash counts
          → WritesAs K (summary_text (length script) (digest_of Sha256 (canonical hosts script)) hash counts) out told status
          → RunsGenerated G K behaviour form hosts seed script board left out told status
      summed_ends is told status hash counts summary writes =
          let done : Ends Done = subst Ends is ends in
          let here : List ℕ = summary_text (length script) (digest_of Sha256 (canonical hosts script)) hash counts in
          let old : View = G.view board in
          let new : View = G.view left in
          let losses : WritesLosses (Some []) (Some text) old new = told_both (λ before after. WritesLosses before after old new) done.says.1 in
          sums G K board left out told status (says_written G K board left out told here status writes)
          (λ honest stores begins.
          let run : RunsWhole behaviour form hosts seed stores script old new (Some []) (Some text) =
          told_both (RunsWhole behaviour form hosts seed stores script old new) (subst Runs is runs honest stores begins) in
          sound_written G K board left out told stores here (summary_is stores old new text hash counts summary run) (end_is stores old new text hash counts summary run)
          (all_front stores old new text hash counts summary run (text_whole run.text run.appended losses)) status writes)
          (orderless done.orders) (λ honest. ⊎_elim (λ unopened. absurd unopened.1) (λ has. inr has) (done.opened honest))

      module _ (cut : Option Cut) (at : IsCutAt text line cut) where
        abbrev to_front : (stores : ℕ → Store) → RunsFront behaviour form hosts seed stores script (G.view left) (H.written start) (H.written end)
            → SumsFront behaviour form hosts seed stores script (G.view left)
        to_front stores front = record {
          replies = text;
          lines = at.lines;
          line = line;
          has = at.has;
          front = told_both (RunsFront behaviour form hosts seed stores script (G.view left)) front;
        }

        -- the replies were cut short
        pub cut_ends : state ≡ WriteFault → (status : Status)
            → (status ≡ BoardFault → (cut ≡ Some cuts.Lost) × Rose (G.view board).state.faults (G.view left).state.faults) → (status ≡ BoardFault) ⊎ (status ≡ NoMemory)
            → RunsGenerated G K behaviour form hosts seed script board left out out status
        cut_ends stopped status cause few =
            let cut_short : Ends WriteFault = subst Ends stopped ends in
            let ran : Runs WriteFault = subst Runs stopped runs in
            let R : Status → Type 0 = λ s. RunsGenerated G K behaviour form hosts seed script board left out out s in
            let opened : G.honest board → HasOpened form (G.view board) = λ honest. ⊎_elim (λ unopened. absurd unopened.1) (λ has. has) (cut_short.opened honest) in
            ⊎_elim
            (λ is. subst R (sym is)
            (sums G K board left out out BoardFault (refl, (cause is).1)
            (λ honest stores begins. inr (to_front stores (ran honest stores begins), subst (λ (k : Option Cut). IsCutBy k line) (cause is).0 at.by_line))
            (orderless cut_short.orders) (λ honest. inr (opened honest))))
            (λ is. subst R (sym is)
            (sums G K board left out out NoMemory refl (λ honest stores begins. to_front stores (ran honest stores begins)) (orderless cut_short.orders) (λ honest. inr (opened honest))))
            few

        other_says : (status : Status) → IsOfLines status → (status ≡ Done → ⊥) → (status ≡ WriteFault → ⊥) → EndsAs G H form (λ So. So script) board left start end status
            → SumsEndAs G K behaviour form hosts seed script board left out out status
        other_says Done served undone uncut row = tt
        other_says WriteFault served undone uncut row = absurd (uncut refl)
        other_says NoMemory served undone uncut row = refl
        other_says BoardFault served undone uncut row = (refl, ⊎_elim (λ first. first.1.failed) (λ power. fails_rose script _ _ power) row)
        other_says (StoreRefused why) served undone uncut row = (
          refl,
          record {
            answer = row.answer;
            refusal = row.refusal;
            refused = λ honest. ⊎_elim (λ first. inl (refl, first.1)) (λ power. absurd (no_power script none power)) (row.refused honest);
            rule = λ tells. ⊎_elim (λ first. inl (refl, first.1, first.2)) (λ power. absurd (no_power script none power)) (row.rule tells);
          },
        )
        other_says (LogFull app) served undone uncut row = row
        other_says BadWords served undone uncut row = served
        other_says (BadLine n) served undone uncut row = served
        other_says TooLong served undone uncut row = served
        other_says ReadFault served undone uncut row = served

        other_sound : (stores : ℕ → Store) → BeginsWith form (G.view board) (length hosts) stores → (status : Status) → IsOfLines status → (status ≡ Done → ⊥) → (status ≡ WriteFault → ⊥)
            → EndsAs G H form (λ So. So script) board left start end status → RunsAs G H behaviour form hosts seed (λ So. So script) board left start end stores status
            → SumsAs G K behaviour form hosts seed script board left out out stores status
        other_sound stores begins Done served undone uncut row run = absurd (undone refl)
        other_sound stores begins WriteFault served undone uncut row run = absurd (uncut refl)
        other_sound stores begins NoMemory served undone uncut row run =
            ⊎_elim
            (λ same. none_front stores (G.view left)
            (subst (λ (b : B). LeavesStores form (G.view b) (world_of hosts seed stores)) (sym same.1) (begin_leaves form hosts seed stores (G.view board) begins)))
            (λ front. to_front stores front) run
        other_sound stores begins BoardFault served undone uncut row run =
            ⊎_elim (λ first. inl first.1) (λ power. absurd (no_power script none (power.front, power.pick, power.rest, power.split))) run
        other_sound stores begins (StoreRefused why) served undone uncut row run = run
        other_sound stores begins (LogFull app) served undone uncut row run = row
        other_sound stores begins BadWords served undone uncut row run = served
        other_sound stores begins (BadLine n) served undone uncut row run = served
        other_sound stores begins TooLong served undone uncut row run = served
        other_sound stores begins ReadFault served undone uncut row run = served

        -- they weren't all run, or the board wasn't opened
        pub other_ends : IsOfLines state → (state ≡ Done → ⊥) → (state ≡ WriteFault → ⊥) → RunsGenerated G K behaviour form hosts seed script board left out out state
        other_ends served undone uncut =
            sums G K board left out out state (other_says state served undone uncut ends.says)
            (λ honest stores begins. other_sound stores begins state served undone uncut ends.says (runs honest stores begins)) (orderless ends.orders)
            (λ honest. ⊎_elim (λ unopened. inl (refl, unopened.1)) (λ has. inr has) (ends.opened honest))
