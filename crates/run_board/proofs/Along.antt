-- Runs of events, one part after another.
use Rattle.app_api.specs.Behaviours.{Behaviour}
use Rattle.std.proofs.Common.{ℕ, ◌≡◌, ◌+◌, List, [], ◌∷◌, ◌++◌, Option, refl, sym, subst, ◌∙◌, ap, append_assoc, append-nil, arith}
use Rattle.std.specs.Io.KnownBytes.{Appends}
use Rattle.std.proofs.KnownBytes.{Appends-nil, Appends-trans}
use Rattle.board.specs.Moment.{Moment, View}
use Rattle.epoch.specs.Forms.{Form}
use Rattle.script.specs.declared.line.Line.{Line}
use Rattle.script.specs.declared.line.Line.TheVariants as lines
use Rattle.tee_core.specs.World.{World}
use Rattle.run_board.specs.Boards.{GoesAlong, LeavesStores, RunsAlong}
use Rattle.run_board.specs.Logs.{AreKnown}
use Rattle.run_board.specs.Parts.{AgreeWith, AreTold, HasNoDamage, IsRefusedIn, IsRunOf, Point, StopsIn, count_powers, log_of, point}
use Rattle.run_board.specs.Transcript.{Weather, WorldEvent, after_events, events_of, line_events, text_of}
use Rattle.run_board.proofs.Parts.{after_events_both, agree_behind, agree_first, board_both, count_both, cut_behind, known_parts}
use Rattle.run_board.proofs.Parts.{span_none, text_of_both, told_both, undamaged_both}

-- the events of a run as the weather gives them, and those that remain of it in a world
abbrev pub Events : Type 0
Events = Weather → List WorldEvent

abbrev pub Remaining : Type 0 → Type 0
Remaining A = Weather → World A → List WorldEvent

module _ {A : Type 0} (behaviour : Behaviour A) (form : Form) where
  along_none : (key : List ℕ) (w : World A) (m : Moment) → GoesAlong behaviour form key m 0 w [] [] m
  unfolding GoesAlong
  along_none key w m = span_none m

  -- no event, and no call of the board
  pub board_none : (w : World A) (view : View) → RunsAlong behaviour form w [] view view
  board_none w view = record {
    size = refl;
    key = refl;
    made = [];
    ordered = refl;
    along = along_none view.key w view.state;
  }

module _ {A : Type 0} (behaviour : Behaviour A) (form : Form) (names : List (List ℕ)) where
  -- a run of all these events has come to a world that is stood for, before what rest says of it, and was written so far
  pub record Along (Stands : World A → Type 0) (w : World A) (all : Weather → List WorldEvent) (rest : Weather → World A → List WorldEvent) (old new : Point) : Type 0 where
    pub made : List WorldEvent
    pub known : AreKnown names (log_of behaviour w made)
    pub told : AreTold behaviour old.powers w made
    pub undamaged : HasNoDamage made
    pub powers : new.powers ≡ old.powers + count_powers behaviour made
    pub stands : Stands (after_events behaviour w made)
    pub board : RunsAlong behaviour form w made old.view new.view
    pub written : Appends old.written new.written (text_of behaviour names w made)
    pub by_weather : (weather : Weather) → AgreeWith behaviour weather w made → all weather ≡ made ++ rest weather (after_events behaviour w made)

  pub along_start : (Stands : World A → Type 0) (w : World A) (all : Events) (rest : Remaining A) (old : Point) → Stands w
      → ((weather : Weather) → all weather ≡ rest weather w) → Along Stands w all rest old old
  along_start Stands w all rest old stands same = record {
    made = [];
    known = record { known = tt; counted = tt; owners = tt };
    told = tt;
    undamaged = tt;
    powers = omega arith;
    stands = stands;
    board = board_none behaviour form w old.view;
    written = Appends-nil old.written;
    by_weather = λ weather agree. same weather;
  }

  -- a run of the first events
  abbrev pub along_first : (Stands : World A → Type 0) (w : World A) (all first : Events) (rest : Remaining A) (old new : Point) → IsRunOf behaviour form names first w Stands old new
      → ((weather : Weather) → all weather ≡ first weather ++ rest weather (after_events behaviour w (first weather))) → Along Stands w all rest old new
  along_first Stands w all first rest old new run splits = record {
    made = run.made;
    known = run.known;
    told = run.told;
    undamaged = run.undamaged;
    powers = run.powers;
    stands = run.stands;
    board = run.board;
    written = run.written;
    by_weather = λ weather agree. splits weather ∙ ap (λ es. es ++ rest weather (after_events behaviour w es)) (run.by_weather weather agree);
  }

  -- some more events
  pub along_more : (Stands Then : World A → Type 0) (w : World A) (all : Events) (rest rest_then : Remaining A) (old mid new : Point) → (run : Along Stands w all rest old mid) (events : Events)
      → ((weather : Weather) → rest weather (after_events behaviour w run.made) ≡ events weather ++ rest_then weather (after_events behaviour (after_events behaviour w run.made) (events weather)))
      → IsRunOf behaviour form names events (after_events behaviour w run.made) Then mid new → Along Then w all rest_then old new
  along_more Stands Then w all rest rest_then old mid new run events splits part =
      let now : World A = after_events behaviour w run.made in
      record {
        made = run.made ++ part.made;
        known = known_parts behaviour names w run.made part.made run.known part.known;
        told = told_both behaviour old.powers w run.made part.made run.told (subst (λ n. AreTold behaviour n now part.made) run.powers part.told);
        undamaged = undamaged_both run.made part.made run.undamaged part.undamaged;
        powers = omega (arith, run.powers, part.powers, count_both behaviour run.made part.made);
        stands = subst Then (sym (after_events_both behaviour w run.made part.made)) part.stands;
        board = board_both behaviour form w old.view mid.view run.made part.made new.view run.board part.board;
        written = subst (Appends old.written new.written) (sym (text_of_both behaviour names w run.made part.made))
            (Appends-trans old.written mid.written new.written (text_of behaviour names w run.made) (text_of behaviour names now part.made) run.written part.written);
        by_weather = λ weather agree.
            let same = part.by_weather weather (agree_behind behaviour weather w run.made part.made agree) in
            run.by_weather weather (agree_first behaviour weather w run.made part.made agree)
            ∙ ap (λ zs. run.made ++ zs) (splits weather ∙ ap (λ es. es ++ rest_then weather (after_events behaviour now es)) same)
            ∙ sym (append_assoc run.made part.made (rest_then weather (after_events behaviour now part.made)))
            ∙ ap (λ (x : World A). (run.made ++ part.made) ++ rest_then weather x) (sym (after_events_both behaviour w run.made part.made));
      }

  -- the run stops within some more events
  pub along_stopped : (Stands : World A → Type 0) (w : World A) (all : Events) (rest rest_then : Remaining A) (old mid new : Point) → (run : Along Stands w all rest old mid) (events : Events)
      → ((weather : Weather) → rest weather (after_events behaviour w run.made) ≡ events weather ++ rest_then weather (after_events behaviour (after_events behaviour w run.made) (events weather)))
      → StopsIn behaviour form names events (after_events behaviour w run.made) mid new → StopsIn behaviour form names all w old new
  along_stopped Stands w all rest rest_then old mid new run events splits part =
      let now : World A = after_events behaviour w run.made in
      record {
        made = run.made ++ part.made;
        known = known_parts behaviour names w run.made part.made run.known part.known;
        told = told_both behaviour old.powers w run.made part.made run.told (subst (λ n. AreTold behaviour n now part.made) run.powers part.told);
        undamaged = undamaged_both run.made part.made run.undamaged part.undamaged;
        left = subst (λ (x : World A). LeavesStores form new.view x) (sym (after_events_both behaviour w run.made part.made)) part.left;
        text = text_of behaviour names w run.made ++ part.text;
        cut = cut_behind behaviour names w run.made part.made part.text part.cut;
        written = Appends-trans old.written mid.written new.written (text_of behaviour names w run.made) part.text run.written part.written;
        by_weather = λ weather agree.
            let begins = part.by_weather weather (agree_behind behaviour weather w run.made part.made agree) in
            let behind : List WorldEvent = rest_then weather (after_events behaviour now (events weather)) in (
              begins.0 ++ behind,
              run.by_weather weather (agree_first behaviour weather w run.made part.made agree)
                  ∙ ap (λ zs. run.made ++ zs) (splits weather ∙ ap (λ es. es ++ behind) begins.1 ∙ append_assoc part.made begins.0 behind)
                  ∙ sym (append_assoc run.made part.made (begins.0 ++ behind)),
            );
      }

  -- the run is at its end
  pub along_whole : (Stands : World A → Type 0) (w : World A) (all : Events) (rest : Remaining A) (old new : Point) → (run : Along Stands w all rest old new)
      → ((weather : Weather) → rest weather (after_events behaviour w run.made) ≡ []) → IsRunOf behaviour form names all w Stands old new
  along_whole Stands w all rest old new run none = record {
    made = run.made;
    known = run.known;
    told = run.told;
    undamaged = run.undamaged;
    powers = run.powers;
    stands = run.stands;
    board = run.board;
    written = run.written;
    by_weather = λ weather agree. run.by_weather weather agree ∙ ap (λ zs. run.made ++ zs) (none weather) ∙ append-nil run.made;
  }

  -- nothing happens
  pub run_none : (Stands : World A → Type 0) (w : World A) (events : Events) (old : Point)
      → Stands w → ((weather : Weather) → events weather ≡ []) → IsRunOf behaviour form names events w Stands old old
  run_none Stands w events old stands none = record {
    made = [];
    known = record { known = tt; counted = tt; owners = tt };
    told = tt;
    undamaged = tt;
    powers = omega arith;
    stands = stands;
    board = board_none behaviour form w old.view;
    written = Appends-nil old.written;
    by_weather = λ weather agree. none weather;
  }

  -- nothing was written, and a crash may leave the stores of the world
  pub stops_first : (w : World A) (events : Events) (powers powers_then : ℕ) (view view_then : View) (old : Option (List ℕ)) → LeavesStores form view_then w
      → StopsIn behaviour form names events w (point powers view old) (point powers_then view_then old)
  stops_first w events powers powers_then view view_then old left = record {
    made = [];
    known = record { known = tt; counted = tt; owners = tt };
    told = tt;
    undamaged = tt;
    left = left;
    text = [];
    cut = record { done = []; last = []; few = omega arith; all = refl; cut = []; rest = []; piece = refl; here = refl };
    written = Appends-nil old;
    by_weather = λ weather agree. (events weather, refl);
  }

  -- the same events, given otherwise
  pub run_as : (Stands : World A → Type 0) (w : World A) (events others : Events) (old new : Point) → ((weather : Weather) → others weather ≡ events weather)
      → IsRunOf behaviour form names events w Stands old new → IsRunOf behaviour form names others w Stands old new
  run_as Stands w events others old new same run = record {
    made = run.made;
    known = run.known;
    told = run.told;
    undamaged = run.undamaged;
    powers = run.powers;
    stands = run.stands;
    board = run.board;
    written = run.written;
    by_weather = λ weather agree. same weather ∙ run.by_weather weather agree;
  }

  -- a run that stops in the first events stops in all
  pub stops_before : (w : World A) (events others more : Events) (old new : Point) → ((weather : Weather) → others weather ≡ events weather ++ more weather)
      → StopsIn behaviour form names events w old new → StopsIn behaviour form names others w old new
  stops_before w events others more old new splits part = record {
    made = part.made;
    known = part.known;
    told = part.told;
    undamaged = part.undamaged;
    left = part.left;
    text = part.text;
    cut = part.cut;
    written = part.written;
    by_weather = λ weather agree.
        let begins = part.by_weather weather agree in (
          begins.0 ++ more weather,
          splits weather ∙ ap (λ es. es ++ more weather) begins.1 ∙ append_assoc part.made begins.0 (more weather),
        );
  }

-- ---- lines, one after the other

module _ {A : Type 0} (behaviour : Behaviour A) where
  -- the events of lines, and then those of others
  pub lines_both : (weather : Weather) (w : World A) (xs ys : List Line)
      → events_of behaviour weather w (xs ++ ys) ≡ events_of behaviour weather w xs ++ events_of behaviour weather (after_events behaviour w (events_of behaviour weather w xs)) ys
  lines_both weather w [] ys = refl
  lines_both weather w (x ∷ xs) ys =
      let here : List WorldEvent = line_events behaviour weather w x in
      let then : World A = after_events behaviour w here in
      let more : List WorldEvent = events_of behaviour weather then xs in
      ap (λ zs. here ++ zs) (lines_both weather then xs ys)
      ∙ sym (append_assoc here more (events_of behaviour weather (after_events behaviour then more) ys))
      ∙ ap (λ (x : World A). (here ++ more) ++ events_of behaviour weather x ys) (sym (after_events_both behaviour w here more))

module _ {A : Type 0} (behaviour : Behaviour A) (form : Form) (names : List (List ℕ)) where
  -- a run of lines, and then one of others
  pub lines_run : (Stands Then : World A → Type 0) (w : World A) (front more : List Line) (old mid new : Point)
      → (run : IsRunOf behaviour form names (λ weather. events_of behaviour weather w front) w Stands old mid)
      → IsRunOf behaviour form names (λ weather. events_of behaviour weather (after_events behaviour w run.made) more) (after_events behaviour w run.made) Then mid new
      → IsRunOf behaviour form names (λ weather. events_of behaviour weather w (front ++ more)) w Then old new
  lines_run Stands Then w front more old mid new run part =
      let now : World A = after_events behaviour w run.made in
      let first = along_first behaviour form names Stands w (λ weather. events_of behaviour weather w (front ++ more)) (λ weather. events_of behaviour weather w front)
      (λ weather x. events_of behaviour weather x more) old mid run (λ weather. lines_both behaviour weather w front more) in
      along_whole behaviour form names Then w (λ weather. events_of behaviour weather w (front ++ more)) (λ weather x. []) old new
      (along_more behaviour form names Stands Then w (λ weather. events_of behaviour weather w (front ++ more)) (λ weather x. events_of behaviour weather x more) (λ weather x. []) old mid new
      first (λ weather. events_of behaviour weather now more) (λ weather. sym (append-nil (events_of behaviour weather now more))) part)
      (λ weather. refl)

  -- the first lines were run, and the others stop
  pub lines_stop : (Stands : World A → Type 0) (w : World A) (front more : List Line) (old mid new : Point)
      → (run : IsRunOf behaviour form names (λ weather. events_of behaviour weather w front) w Stands old mid)
      → StopsIn behaviour form names (λ weather. events_of behaviour weather (after_events behaviour w run.made) more) (after_events behaviour w run.made) mid new
      → StopsIn behaviour form names (λ weather. events_of behaviour weather w (front ++ more)) w old new
  lines_stop Stands w front more old mid new run part =
      let now : World A = after_events behaviour w run.made in
      let first = along_first behaviour form names Stands w (λ weather. events_of behaviour weather w (front ++ more)) (λ weather. events_of behaviour weather w front)
      (λ weather x. events_of behaviour weather x more) old mid run (λ weather. lines_both behaviour weather w front more) in
      along_stopped behaviour form names Stands w (λ weather. events_of behaviour weather w (front ++ more)) (λ weather x. events_of behaviour weather x more) (λ weather x. []) old mid new
      first (λ weather. events_of behaviour weather now more) (λ weather. sym (append-nil (events_of behaviour weather now more))) part

  -- one line and no other
  pub line_run : (Stands : World A → Type 0) (w : World A) (line : Line) (old new : Point) → IsRunOf behaviour form names (λ weather. line_events behaviour weather w line) w Stands old new
      → IsRunOf behaviour form names (λ weather. events_of behaviour weather w (line ∷ [])) w Stands old new
  line_run Stands w line old new run =
      run_as behaviour form names Stands w (λ weather. line_events behaviour weather w line) (λ weather. events_of behaviour weather w (line ∷ [])) old new
      (λ weather. append-nil (line_events behaviour weather w line)) run

  -- a run that stops in a line stops in this one and others
  pub line_stops : (w : World A) (line : Line) (more : List Line) (old new : Point) → StopsIn behaviour form names (λ weather. line_events behaviour weather w line) w old new
      → StopsIn behaviour form names (λ weather. events_of behaviour weather w (line ∷ more)) w old new
  line_stops w line more old new part =
      stops_before behaviour form names w (λ weather. line_events behaviour weather w line) (λ weather. events_of behaviour weather w (line ∷ more))
      (λ weather. events_of behaviour weather (after_events behaviour w (line_events behaviour weather w line)) more) old new (λ weather. refl) part

  -- what was refused in lines was in these and others
  pub refused_before : (w : World A) (xs ys : List Line) (old new : Point) → IsRefusedIn behaviour form names xs w old new → IsRefusedIn behaviour form names (xs ++ ys) w old new
  refused_before w xs ys old new part = record {
    front = part.front;
    pick = part.pick;
    behind = part.behind ++ ys;
    split = ap (λ zs. zs ++ ys) part.split ∙ append_assoc part.front (lines.Power part.pick ∷ part.behind) ys;
    between = part.between;
    run = part.run;
    order = part.order;
    failed = part.failed;
    written = part.written;
  }

  -- the first lines were run, and among the others is a loss of power that was refused
  pub lines_refused : (Stands : World A → Type 0) (w : World A) (front more : List Line) (old mid new : Point)
      → (run : IsRunOf behaviour form names (λ weather. events_of behaviour weather w front) w Stands old mid)
      → IsRefusedIn behaviour form names more (after_events behaviour w run.made) mid new → IsRefusedIn behaviour form names (front ++ more) w old new
  lines_refused Stands w front more old mid new run part = record {
    front = front ++ part.front;
    pick = part.pick;
    behind = part.behind;
    split = ap (λ zs. front ++ zs) part.split ∙ sym (append_assoc front part.front (lines.Power part.pick ∷ part.behind));
    between = part.between;
    run = lines_run Stands (LeavesStores form new.view) w front part.front old mid part.between run part.run;
    order = part.order;
    failed = part.failed;
    written = part.written;
  }
