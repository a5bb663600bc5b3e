-- The text of a run is the transcript in the weather that is read back from it.
use Rattle.app_api.specs.Behaviours.{Behaviour}
use Rattle.std.proofs.Common.{ℕ, ◌≡◌, ◌<◌, ◌∙◌, List, [], ◌∷◌, ◌++◌, Option, append-nil, inl, length, refl, sym, subst, ap, arith}
use Rattle.std.specs.Io.KnownBytes.{Appends}
use Rattle.std.proofs.KnownBytes.{Appends-nil}
use Rattle.std.proofs.lemmas.List.{length-map}
use Rattle.app_api.specs.declared.host.Host.{Host}
use Rattle.app_api.specs.Hosts.{HostsFit}
use Rattle.store_api.specs.Stores.{Store}
use Rattle.alone.specs.declared.turn.TurnKind.TheVariants.{Plain}
use Rattle.board.specs.Moment.{View}
use Rattle.epoch.specs.Forms.{Form}
use Rattle.script.specs.declared.line.Line.{Line}
use Rattle.script.specs.Grammar.{names_of}
use Rattle.tee_core.specs.World.{World, world_of}
use Rattle.run_board.specs.BoardLines.{IsBoardLineOrNone, weather_in, whole_text}
use Rattle.run_board.specs.Boards.{GoesAlong, LeavesStores, RunsAlong}
use Rattle.run_board.specs.Logs.{Item, SameWeather, log_weather}
use Rattle.run_board.specs.Parts.{AreTold, HasNoDamage, IsRefusedIn, IsRunOf, Point, StopsIn, log_of}
use Rattle.run_board.specs.Runs.{RunsFront, RunsToPower, RunsWhole, events_by}
use Rattle.run_board.specs.Transcript.{Weather, WorldEvent, after_events, events_of, text_of}
use Rattle.run_board.proofs.Agreed.{goes}
use Rattle.run_board.proofs.Weather.{cut_weather_read_back, weather_read_back}
use Rattle.run_board.proofs.Names.{hosts_can_name, not_board}
use Rattle.run_board.proofs.Parts.{cut_log, text_is_log}
use Rattle.run_board.proofs.Powers.{order_behind, order_is}

module _ {A : Type 0} (behaviour : Behaviour A) (form : Form) (hosts : List (Host A)) (fit : HostsFit hosts) (seed : List ℕ) (stores : ℕ → Store) where
  abbrev names : List (List ℕ)
  names = names_of hosts

  abbrev begin : World A
  begin = world_of hosts seed stores

  some_name : 0 < length names
  some_name = subst (λ n. 0 < n) (sym (length-map hosts (λ (host : Host A). host.name))) fit.some

  -- the weather that the text of a run tells gives the events that were made
  same_events : (script : List Line) (Stands : World A → Type 0) (old new : Point) → old.powers ≡ 0 →
      (run : IsRunOf behaviour form names (λ weather. events_of behaviour weather begin script) begin Stands old new)
      → events_by behaviour form hosts seed stores script (text_of behaviour names begin run.made) ≡ run.made
  same_events script Stands old new none run =
      let log : List Item = log_of behaviour begin run.made in
      let text : List ℕ = text_of behaviour names begin run.made in
      let told : AreTold behaviour 0 begin run.made = subst (λ n. AreTold behaviour n begin run.made) none run.told in
      let same : SameWeather (length names) (weather_in names text) (log_weather log) = subst (λ zs. SameWeather (length names) (weather_in names zs) (log_weather log))
      (sym (text_is_log behaviour names begin run.made))
      (weather_read_back names log (hosts_can_name hosts fit) (not_board hosts fit) run.known) in
      run.by_weather (weather_in names text) (goes behaviour names (weather_in names text) begin run.made told run.known same)

  -- all lines were run
  pub all_written : (script : List Line) (Stands : World A → Type 0) (old new : Point) → old.powers ≡ 0 → ((world : World A) → Stands world → LeavesStores form new.view world)
      → IsRunOf behaviour form names (λ weather. events_of behaviour weather begin script) begin Stands old new
      → RunsWhole behaviour form hosts seed stores script old.view new.view old.written new.written
  all_written script Stands old new none leaves run =
      let is = sym (same_events script Stands old new none run) in
      record {
        text = text_of behaviour names begin run.made;
        appended = run.written;
        all = ap (λ es. text_of behaviour names begin es) is;
        undamaged = subst HasNoDamage is run.undamaged;
        board = subst (λ es. RunsAlong behaviour form begin es old.view new.view) is run.board;
        left = subst (λ es. LeavesStores form new.view (after_events behaviour begin es)) is (leaves (after_events behaviour begin run.made) run.stands);
      }

  -- the lines stopped
  pub front_written : (script : List Line) (old new : Point) → old.powers ≡ 0 → StopsIn behaviour form names (λ weather. events_of behaviour weather begin script) begin old new
      → RunsFront behaviour form hosts seed stores script new.view old.written new.written
  front_written script old new none run =
      let log : List Item = log_of behaviour begin run.made in
      let told : AreTold behaviour 0 begin run.made = subst (λ n. AreTold behaviour n begin run.made) none run.told in
      let read = cut_weather_read_back names log run.text (hosts_can_name hosts fit) (not_board hosts fit) some_name run.known (cut_log behaviour names begin run.made run.text run.cut) in
      let weather : Weather = weather_in names (whole_text run.text ++ read.0) in
      let events = run.by_weather weather (goes behaviour names weather begin run.made told run.known read.2) in
      record {
        text = run.text;
        appended = run.written;
        further = read.0;
        one = read.1;
        made = run.made;
        behind = events.0;
        first = events.1;
        cut = run.cut;
        left = run.left;
      }

  -- the board wasn't opened again after a loss of power
  pub power_written : (script : List Line) (old new : Point) → old.powers ≡ 0 → IsRefusedIn behaviour form names script begin old new
      → RunsToPower behaviour form hosts seed stores script old.view new.view old.written new.written
  power_written script old new none refused =
      let made : List WorldEvent = refused.run.made in
      let is = sym (same_events refused.front (LeavesStores form new.view) old refused.between none refused.run) in
      record {
        front = refused.front;
        pick = refused.pick;
        rest = refused.behind;
        split = refused.split;
        text = text_of behaviour names begin made;
        appended = subst (λ after. Appends old.written after (text_of behaviour names begin made)) (sym refused.written) refused.run.written;
        all = ap (λ es. text_of behaviour names begin es) is;
        size = refused.order.size ∙ refused.run.board.size;
        key = refused.order.key ∙ refused.run.board.key;
        made = refused.run.board.made;
        power = record { number = refused.pick; before = refused.between.view.state; after = refused.order.after };
        ordered = refused.order.ordered ∙ ap (λ os. record { number = refused.pick; before = refused.between.view.state; after = refused.order.after } ∷ os) refused.run.board.ordered;
        board = subst (λ es. GoesAlong behaviour form old.view.key old.view.state 0 begin es refused.run.board.made refused.between.view.state) is refused.run.board.along;
        order = order_is refused.pick refused.between.view new.view refused.order;
        behind = order_behind refused.pick refused.between.view new.view refused.order;
        failed = refused.failed;
        left = subst (λ es. LeavesStores form new.view (after_events behaviour begin es)) is refused.run.stands;
      }

  no_line : IsBoardLineOrNone names []
  no_line = inl (record { app = 0; known = some_name; kind = Plain; turn = 0; here = refl })

  -- all lines were run, and so their events are the first
  pub whole_front : (script : List Line) (old new : View) (before after : Option (List ℕ)) (run : RunsWhole behaviour form hosts seed stores script old new before after)
      → whole_text run.text ≡ run.text → RunsFront behaviour form hosts seed stores script new before after
  whole_front script old new before after run whole =
      let made : List WorldEvent = events_by behaviour form hosts seed stores script run.text in
      record {
        text = run.text;
        appended = run.appended;
        further = [];
        one = no_line;
        made = made;
        behind = [];
        first = ap (λ text. events_by behaviour form hosts seed stores script text) (append-nil (whole_text run.text) ∙ whole) ∙ sym (append-nil made);
        cut = record {
          done = made;
          last = [];
          few = omega arith;
          all = sym (append-nil made);
          cut = [];
          rest = [];
          piece = refl;
          here = run.all ∙ sym (append-nil (text_of behaviour names begin made));
        };
        left = run.left;
      }

  -- no line was run
  pub nothing_written : (script : List Line) (new : View) (written : Option (List ℕ)) → LeavesStores form new begin → RunsFront behaviour form hosts seed stores script new written written
  nothing_written script new written left = record {
    text = [];
    appended = Appends-nil written;
    further = [];
    one = no_line;
    made = [];
    behind = events_by behaviour form hosts seed stores script (whole_text [] ++ []);
    first = refl;
    cut = record { done = []; last = []; few = omega arith; all = refl; cut = []; rest = []; piece = refl; here = refl };
    left = left;
  }
