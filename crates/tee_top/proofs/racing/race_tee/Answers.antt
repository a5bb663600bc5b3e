use Rattle.std.proofs.Common.{◌≡◌, ◌∙◌, ◌<◌, ◌≤◌, ◌^◌, List, ap, arith, false, inl, inr, length, refl, subst, sym, true}
use Rattle.std.specs.List.{AllByRecursion}
use Rattle.race.specs.Races.{entries_of}
use Rattle.race.specs.Wishes.{NameApps}
use Rattle.script.specs.Grammar.{names_of}
use Rattle.script.specs.declared.dialect.Dialect.TheVariants.{WithoutBoard}
use Rattle.script.specs.declared.line.Line.{Line}
use Rattle.tee_core.specs.InUse.{form_in_use}
use Rattle.run_board.specs.Reading.{IsKnown, IsOfLines, IsOfScript, IsReadStatus, ReadsScript, ReadsTo}
use Rattle.run_board.specs.declared.status.Status.{Status}
use Rattle.run_board.specs.declared.status.Status.TheVariants.{Done, NoMemory}
use Rattle.run_board.proofs.Ended.{as_served, script_told}
use Rattle.run_board.proofs.Served.{kept_unruled, refusal_row, refused_at}
use Rattle.tee_top.specs.Races.{RaceEnds, RacesAs}
use Rattle.tee_top.proofs.Raced.{as_many_logs, begins_leaves, named_known, no_race, orders_none, race_completes, unread_race, unread_races}
use Rattle.tee_top.proofs.Raced.{wrote_race, wrote_races, wrote_served}
use Rattle.tee_top.proofs.racing.race_tee.Goals as goal

pub race_over-requires-clause-named : goal.race_over-requires-clause-named
race_over-requires-clause-named g c κs = λ lives.
    subst (λ lines. NameApps (length c.args.hosts.items) lines) (sym c.as_slice-lines.ensures.value)
    (named_known (length c.args.hosts.items) c.in-Ok.lines.items
    (subst (λ hosts. AllByRecursion (IsKnown (length hosts)) c.in-Ok.lines.items) c.as_slice.ensures.value c.in-Ok.ensures.lines.known))

pub race_over-requires-clause-few : goal.race_over-requires-clause-few
race_over-requires-clause-few g c κs = λ lives.
    let few : length c.in-Ok.lines.items ≤ 1048576 = c.in-Ok.ensures.lines.few in
    subst (λ (lines : List Line). length lines < 2 ^ 32) (sym c.as_slice-lines.ensures.value) (omega (arith, few))

pub write_raced-requires : goal.write_raced-requires
write_raced-requires g c =
    as_many_logs c.args.hosts.items c.as_slice-in-Ok-race_over.result.now c.in-Ok-race_over.raced.logs.items
    (c.as_slice-in-Ok-race_over.ensures.value ∙ c.in-Ok-names_of.ensures ∙ ap names_of c.as_slice-2.ensures.value)
    c.in-Ok-race_over.ensures.runs.as_many

-- ---- the words of no race

pub returns-then-not-are_race_words-clause-words : goal.returns-then-not-are_race_words-clause-words
returns-then-not-are_race_words-clause-words g c = record {
  bad_words = ((λ same are. let yes = c.are_race_words.ensures.1 are in let e : false ≡ true = sym c.if-not-are_race_words.true ∙ yes in absurd (cc)), (λ none. refl));
  same = λ is. (refl, refl, refl);
}

pub returns-then-not-are_race_words-clause-reading : goal.returns-then-not-are_race_words-clause-reading
returns-then-not-are_race_words-clause-reading g c = λ are.
    let yes = c.are_race_words.ensures.1 are in let e : false ≡ true = sym c.if-not-are_race_words.true ∙ yes in absurd (cc)

pub returns-then-not-are_race_words-clause-ends : goal.returns-then-not-are_race_words-clause-ends
returns-then-not-are_race_words-clause-ends g c =
    no_race g.B.Board g.W.Sink form_in_use c.args.hosts.items (IsOfScript WithoutBoard c.args.hosts.items (g.S.Source.left c.args.source.now)) c.args.board c.args.sink.now

pub returns-then-not-are_race_words-clause-written : goal.returns-then-not-are_race_words-clause-written
returns-then-not-are_race_words-clause-written g c = λ honest stores begins. tt

pub returns-then-not-are_race_words-clause-complete : goal.returns-then-not-are_race_words-clause-complete
returns-then-not-are_race_words-clause-complete g c = λ are text script readable good wrote steady honest stores begins.
    let yes = c.are_race_words.ensures.1 are in let e : false ≡ true = sym c.if-not-are_race_words.true ∙ yes in absurd (cc)

-- ---- the script was not read

pub returns-in-Err-clause-words : goal.returns-in-Err-clause-words
returns-in-Err-clause-words g c = record {
  bad_words = ((λ is. absurd (subst IsReadStatus is c.in-Err.ensures.few)), (λ none. absurd (none (c.are_race_words.ensures.0 c.if-not-are_race_words.false))));
  same = λ is. absurd (subst IsReadStatus is c.in-Err.ensures.few);
}

pub returns-in-Err-clause-reading : goal.returns-in-Err-clause-reading
returns-in-Err-clause-reading g c = λ are.
    subst (λ hosts. ReadsScript g.S.Source WithoutBoard hosts c.in-Err.status c.args.source.now c.read_lines.new.source) c.as_slice.ensures.value c.in-Err.ensures.read

pub returns-in-Err-clause-ends : goal.returns-in-Err-clause-ends
returns-in-Err-clause-ends g c =
    unread_race g.B.Board g.W.Sink form_in_use c.args.hosts.items (IsOfScript WithoutBoard c.args.hosts.items (g.S.Source.left c.args.source.now)) c.args.board c.args.sink.now
    c.in-Err.status c.in-Err.ensures.few

pub returns-in-Err-clause-written : goal.returns-in-Err-clause-written
returns-in-Err-clause-written g c = λ honest stores begins.
    unread_races g.B.Board g.W.Sink form_in_use c.args.hosts.items (IsOfScript WithoutBoard c.args.hosts.items (g.S.Source.left c.args.source.now)) c.args.board c.args.sink.now
    g.A.Application.behaviour c.args.seed stores c.in-Err.status c.in-Err.ensures.few

pub returns-in-Err-clause-complete : goal.returns-in-Err-clause-complete
returns-in-Err-clause-complete g c = λ are text script readable good wrote steady honest stores begins.
    let hosts = c.args.hosts.items in
    let Of = IsOfScript WithoutBoard hosts (g.S.Source.left c.args.source.now) in
    let read = subst (λ hs. ReadsScript g.S.Source WithoutBoard hs c.in-Err.status c.args.source.now c.read_lines.new.source) c.as_slice.ensures.value c.in-Err.ensures.read in
    let few = c.in-Err.ensures.few in
    race_completes g.B.Board g.W.Sink g.A.Application.behaviour form_in_use hosts c.args.seed Of c.args.board c.args.board c.args.sink.now c.args.sink.now stores c.in-Err.status
    (script_told g.S.Source WithoutBoard hosts c.args.source.now c.read_lines.new.source c.requires c.in-Err.status read.says text script readable good)
    (unread_race g.B.Board g.W.Sink form_in_use hosts Of c.args.board c.args.sink.now c.in-Err.status few).says
    (unread_races g.B.Board g.W.Sink form_in_use hosts Of c.args.board c.args.sink.now g.A.Application.behaviour c.args.seed stores c.in-Err.status few)
    wrote steady

-- ---- no name was copied

pub returns-in_default-clause-words : goal.returns-in_default-clause-words
returns-in_default-clause-words g c = record {
  bad_words = ((λ is. absurd (subst IsOfLines is tt)), (λ none. absurd (none (c.are_race_words.ensures.0 c.if-not-are_race_words.false))));
  same = λ is. absurd (subst IsOfLines is tt);
}

pub returns-in_default-clause-reading : goal.returns-in_default-clause-reading
returns-in_default-clause-reading g c = λ are.
    as_served g.S.Source WithoutBoard c.args.hosts.items c.args.source.now c.read_lines.new.source NoMemory tt
    (subst (λ hosts. ReadsScript g.S.Source WithoutBoard hosts Done c.args.source.now c.read_lines.new.source) c.as_slice.ensures.value c.in-Ok.ensures.read)

pub returns-in_default-clause-ends : goal.returns-in_default-clause-ends
returns-in_default-clause-ends g c =
    unread_race g.B.Board g.W.Sink form_in_use c.args.hosts.items (IsOfScript WithoutBoard c.args.hosts.items (g.S.Source.left c.args.source.now)) c.args.board c.args.sink.now NoMemory tt

pub returns-in_default-clause-written : goal.returns-in_default-clause-written
returns-in_default-clause-written g c = λ honest stores begins. inl (refl, refl)

pub returns-in_default-clause-complete : goal.returns-in_default-clause-complete
returns-in_default-clause-complete g c = λ are text script readable good wrote steady honest stores begins. inr refl

-- ---- the board wasn't opened

pub returns-clause-words : goal.returns-clause-words
returns-clause-words g c =
    let served : IsOfLines c.refusal_status.result =
    subst IsOfLines (sym c.refusal_status.ensures) (refusal_row IsOfLines c.in-Err-race_over.field-0.why (λ rule. tt) (λ failed. tt) (λ none. tt)) in
    record {
      bad_words = ((λ is. absurd (subst IsOfLines is served)), (λ none. absurd (none (c.are_race_words.ensures.0 c.if-not-are_race_words.false))));
      same = λ is. absurd (subst IsOfLines is served);
    }

pub returns-clause-reading : goal.returns-clause-reading
returns-clause-reading g c = λ are.
    as_served g.S.Source WithoutBoard c.args.hosts.items c.args.source.now c.read_lines.new.source c.refusal_status.result
    (subst IsOfLines (sym c.refusal_status.ensures) (refusal_row IsOfLines c.in-Err-race_over.field-0.why (λ rule. tt) (λ failed. tt) (λ none. tt)))
    (subst (λ hosts. ReadsScript g.S.Source WithoutBoard hosts Done c.args.source.now c.read_lines.new.source) c.as_slice.ensures.value c.in-Ok.ensures.read)

pub returns-clause-ends : goal.returns-clause-ends
returns-clause-ends g c =
    let Of = IsOfScript WithoutBoard c.args.hosts.items (g.S.Source.left c.args.source.now) in
    let why = c.in-Err-race_over.field-0.why in
    let old = g.B.Board.view c.args.board in
    let left = g.B.Board.view c.in-Err-race_over.field-0.board in
    let back = c.in-Err-race_over.ensures.back in
    let orders = orders_none _ _ back.board in
    let P = λ (s : Status).
    RaceEnds g.B.Board g.W.Sink form_in_use c.args.hosts.items Of c.args.board c.in-Err-race_over.field-0.board c.args.sink.now c.args.sink.now s in
    subst P (sym c.refusal_status.ensures)
    (refusal_row P why
    (λ rule. record {
      says = (
        refl,
        record {
          answer = rule;
          refused = λ honest.
              let exact = c.in-Err-race_over.ensures.exact honest in
              record { counter = exact.0; may_tell = exact.1; refused = refused_at form_in_use old old.state.reads exact.0 why rule exact.2 };
          rule = λ tells. let at = c.in-Err-race_over.ensures.rule tells in (at.0, refused_at form_in_use old left.state.reads at.0 why rule at.1);
        },
      );
      orders = orders;
      opened = λ honest. inl (refl, tt);
    })
    (λ failed. record { says = (refl, record { orders = orders; failed = back.cause failed }); orders = orders; opened = λ honest. inl (refl, tt) })
    (λ none. record { says = tt; orders = orders; opened = λ honest. inl (refl, tt) }))

pub returns-clause-written : goal.returns-clause-written
returns-clause-written g c = λ honest stores begins.
    let hosts = c.args.hosts.items in
    let Of = IsOfScript WithoutBoard hosts (g.S.Source.left c.args.source.now) in
    let why = c.in-Err-race_over.field-0.why in
    let kept = c.in-Err-race_over.ensures.unopened honest begins.counter begins.held stores begins.rests begins.size begins.sound in
    let leaves = begins_leaves form_in_use hosts c.args.seed stores (g.B.Board.view c.args.board) (g.B.Board.view c.in-Err-race_over.field-0.board) begins
    c.in-Err-race_over.ensures.back.board.key kept.1 in
    let reads = subst (λ hs. ReadsTo WithoutBoard hs (g.S.Source.left c.args.source.now) c.in-Ok.lines.items) c.as_slice.ensures.value c.in-Ok.ensures.lines.read in
    let P = λ (s : Status).
    RacesAs g.B.Board g.W.Sink g.A.Application.behaviour form_in_use hosts c.args.seed Of c.args.board c.in-Err-race_over.field-0.board c.args.sink.now c.args.sink.now stores s in
    subst P (sym c.refusal_status.ensures)
    (refusal_row P why (λ rule. absurd (kept_unruled why kept.0 rule)) (λ failed. leaves) (λ none. inr (c.in-Ok.lines.items, reads, inl (refl, inl leaves))))

pub returns-clause-complete : goal.returns-clause-complete
returns-clause-complete g c = λ are text script readable good wrote steady honest stores begins.
    let hosts = c.args.hosts.items in
    race_completes g.B.Board g.W.Sink g.A.Application.behaviour form_in_use hosts c.args.seed (IsOfScript WithoutBoard hosts (g.S.Source.left c.args.source.now)) c.args.board
    c.in-Err-race_over.field-0.board c.args.sink.now c.args.sink.now stores c.refusal_status.result
    (subst IsOfLines (sym c.refusal_status.ensures) (refusal_row IsOfLines c.in-Err-race_over.field-0.why (λ rule. tt) (λ failed. tt) (λ none. tt)))
    (returns-clause-ends g c).says (returns-clause-written g c honest stores begins) wrote steady

-- ---- the lines were run

pub returns-in-Ok-race_over-clause-words : goal.returns-in-Ok-race_over-clause-words
returns-in-Ok-race_over-clause-words g c =
    let served = wrote_served g.W.Sink _ _ _ _ _ c.write_raced.ensures.told in
    record {
      bad_words = ((λ is. absurd (subst IsOfLines is served)), (λ none. absurd (none (c.are_race_words.ensures.0 c.if-not-are_race_words.false))));
      same = λ is. absurd (subst IsOfLines is served);
    }

pub returns-in-Ok-race_over-clause-reading : goal.returns-in-Ok-race_over-clause-reading
returns-in-Ok-race_over-clause-reading g c = λ are.
    as_served g.S.Source WithoutBoard c.args.hosts.items c.args.source.now c.read_lines.new.source c.write_raced.result.0
    (wrote_served g.W.Sink c.in-Ok-race_over.raced.ended _ c.args.sink.now c.write_raced.new.sink c.write_raced.result.0 c.write_raced.ensures.told)
    (subst (λ hosts. ReadsScript g.S.Source WithoutBoard hosts Done c.args.source.now c.read_lines.new.source) c.as_slice.ensures.value c.in-Ok.ensures.read)

pub returns-in-Ok-race_over-clause-ends : goal.returns-in-Ok-race_over-clause-ends
returns-in-Ok-race_over-clause-ends g c =
    let hosts = c.args.hosts.items in
    let left = g.S.Source.left c.args.source.now in
    let raced = c.in-Ok-race_over.raced in
    let logs = entries_of raced.logs.items in
    let lines = c.as_slice-lines.result.now in
    let reads = subst (λ ls. ReadsTo WithoutBoard hosts left ls) (sym c.as_slice-lines.ensures.value)
    (subst (λ hs. ReadsTo WithoutBoard hs left c.in-Ok.lines.items) c.as_slice.ensures.value c.in-Ok.ensures.lines.read) in
    let same = c.as_slice-in-Ok-race_over.ensures.value ∙ c.in-Ok-names_of.ensures ∙ ap names_of c.as_slice-2.ensures.value in
    let admitted = λ (honest : g.B.Board.honest c.args.board). c.in-Ok-race_over.ensures.exact honest in
    rw c.write_raced.ensures.board
    (wrote_race g.B.Board g.W.Sink form_in_use hosts left lines reads c.as_slice-in-Ok-race_over.result.now same c.args.board raced.board c.args.sink.now c.write_raced.new.sink
    raced.ended logs c.in-Ok-race_over.ensures.runs c.write_raced.result.0 c.write_raced.ensures.told
    (λ honest. let at = admitted honest in (at.0, at.1, at.3.0, at.3.1, at.3.2)))

pub returns-in-Ok-race_over-clause-written : goal.returns-in-Ok-race_over-clause-written
returns-in-Ok-race_over-clause-written g c = λ honest stores begins.
    let hosts = c.args.hosts.items in
    let left = g.S.Source.left c.args.source.now in
    let raced = c.in-Ok-race_over.raced in
    let logs = entries_of raced.logs.items in
    let lines = c.as_slice-lines.result.now in
    let reads = subst (λ ls. ReadsTo WithoutBoard hosts left ls) (sym c.as_slice-lines.ensures.value)
    (subst (λ hs. ReadsTo WithoutBoard hs left c.in-Ok.lines.items) c.as_slice.ensures.value c.in-Ok.ensures.lines.read) in
    let same = c.as_slice-in-Ok-race_over.ensures.value ∙ c.in-Ok-names_of.ensures ∙ ap names_of c.as_slice-2.ensures.value in
    let came = c.in-Ok-race_over.ensures.came honest begins.counter begins.held stores begins.rests begins.size begins.sound in
    rw c.write_raced.ensures.board
    (wrote_races g.B.Board g.W.Sink form_in_use hosts left lines reads c.as_slice-in-Ok-race_over.result.now same c.args.board raced.board c.args.sink.now c.write_raced.new.sink
    raced.ended logs c.in-Ok-race_over.ensures.runs g.A.Application.behaviour c.args.seed stores came c.write_raced.result.0 c.write_raced.ensures.told)

pub returns-in-Ok-race_over-clause-complete : goal.returns-in-Ok-race_over-clause-complete
returns-in-Ok-race_over-clause-complete g c = λ are text script readable good wrote steady honest stores begins.
    let hosts = c.args.hosts.items in
    race_completes g.B.Board g.W.Sink g.A.Application.behaviour form_in_use hosts c.args.seed (IsOfScript WithoutBoard hosts (g.S.Source.left c.args.source.now)) c.args.board
    c.write_raced.result.1 c.args.sink.now c.write_raced.new.sink stores c.write_raced.result.0
    (wrote_served g.W.Sink c.in-Ok-race_over.raced.ended _ c.args.sink.now c.write_raced.new.sink c.write_raced.result.0 c.write_raced.ensures.told)
    (returns-in-Ok-race_over-clause-ends g c).says (returns-in-Ok-race_over-clause-written g c honest stores begins) wrote steady
