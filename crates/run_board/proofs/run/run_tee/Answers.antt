use Rattle.std.proofs.Common.{◌≡◌, ◌∙◌, Some, false, true, length, ⊎_elim, inl, inr, refl, subst, sym}
use Rattle.std.specs.List.{AllByRecursion}
use Rattle.script.specs.declared.dialect.Dialect.TheVariants.{Whole}
use Rattle.script.specs.Workload.{workload_of}
use Rattle.tee_core.specs.InUse.{form_in_use}
use Rattle.run_board.specs.Generated.{RunsGenerated, SumsEndAs}
use Rattle.run_board.specs.Reading.{AreLinesOf, IsKnown, IsOfLines, IsOfScript, IsReadStatus, ReadsScript}
use Rattle.run_board.specs.declared.status.Status.{Status}
use Rattle.run_board.specs.declared.status.Status.TheVariants.{Done}
use Rattle.run_board.proofs.Ended.{as_served, script_told}
use Rattle.run_board.proofs.Endings.{completes, run_ends_script, runs_script, unread_ends, unread_runs}
use Rattle.run_board.proofs.run.run_tee.Goals as goal

pub serve-requires-clause-known : goal.serve-requires-clause-known
serve-requires-clause-known g c = subst (λ hosts. AllByRecursion (IsKnown (length hosts)) c.in-Ok.lines.items) c.as_slice.ensures.value c.in-Ok.ensures.lines.known

-- ---- the script wasn't read

pub returns-in-Err-clause-words : goal.returns-in-Err-clause-words
returns-in-Err-clause-words g c = record {
  bad_words = ((λ is. absurd (subst IsReadStatus is c.in-Err.ensures.few)), (λ none. absurd (none (inl (c.are_run_words.ensures.0 c.if-not-are_run_words.false)))));
  same = λ is. absurd (subst IsReadStatus is c.in-Err.ensures.few);
}

pub returns-in-Err-clause-reading : goal.returns-in-Err-clause-reading
returns-in-Err-clause-reading g c = λ run.
    subst (λ hosts. ReadsScript g.S.Source Whole hosts c.in-Err.status c.args.source.now c.read_lines.new.source) c.as_slice.ensures.value c.in-Err.ensures.read

pub returns-in-Err-clause-ends : goal.returns-in-Err-clause-ends
returns-in-Err-clause-ends g c = λ run.
    unread_ends g.B.Board g.W.Sink form_in_use (IsOfScript Whole c.args.hosts.items (g.S.Source.left c.args.source.now)) c.args.board c.args.sink.now c.in-Err.status c.in-Err.ensures.few

pub returns-in-Err-clause-written : goal.returns-in-Err-clause-written
returns-in-Err-clause-written g c = λ run honest stores begins.
    unread_runs g.B.Board g.W.Sink form_in_use (IsOfScript Whole c.args.hosts.items (g.S.Source.left c.args.source.now)) c.args.board c.args.sink.now g.A.Application.behaviour
    c.args.hosts.items c.args.seed stores c.in-Err.status c.in-Err.ensures.few

pub returns-in-Err-clause-complete : goal.returns-in-Err-clause-complete
returns-in-Err-clause-complete g c = λ run text script readable good wrote steady honest stores begins.
    let read = subst (λ hosts. ReadsScript g.S.Source Whole hosts c.in-Err.status c.args.source.now c.read_lines.new.source) c.as_slice.ensures.value c.in-Err.ensures.read in
    let Of = IsOfScript Whole c.args.hosts.items (g.S.Source.left c.args.source.now) in
    let few = c.in-Err.ensures.few in
    completes g.B.Board g.W.Sink g.A.Application.behaviour form_in_use Whole c.args.hosts.items c.args.seed (g.S.Source.left c.args.source.now) c.args.board c.args.board
    c.args.sink.now c.args.sink.now stores c.in-Err.status
    (script_told g.S.Source Whole c.args.hosts.items c.args.source.now c.read_lines.new.source c.requires c.in-Err.status read.says text script readable good)
    (unread_ends g.B.Board g.W.Sink form_in_use Of c.args.board c.args.sink.now c.in-Err.status few).says
    (unread_runs g.B.Board g.W.Sink form_in_use Of c.args.board c.args.sink.now g.A.Application.behaviour c.args.hosts.items c.args.seed stores c.in-Err.status few)
    wrote steady

-- ---- the lines were run

pub returns-clause-words : goal.returns-clause-words
returns-clause-words g c = record {
  bad_words = ((λ is. absurd (subst IsOfLines is c.serve.ensures.few)), (λ none. absurd (none (inl (c.are_run_words.ensures.0 c.if-not-are_run_words.false)))));
  same = λ is. absurd (subst IsOfLines is c.serve.ensures.few);
}

pub returns-clause-reading : goal.returns-clause-reading
returns-clause-reading g c = λ run.
    as_served g.S.Source Whole c.args.hosts.items c.args.source.now c.read_lines.new.source c.serve.result.0 c.serve.ensures.few
    (subst (λ hosts. ReadsScript g.S.Source Whole hosts Done c.args.source.now c.read_lines.new.source) c.as_slice.ensures.value c.in-Ok.ensures.read)

pub returns-clause-ends : goal.returns-clause-ends
returns-clause-ends g c = λ run.
    let lines = subst (λ hosts. AreLinesOf Whole hosts (g.S.Source.left c.args.source.now) c.in-Ok.lines.items) c.as_slice.ensures.value c.in-Ok.ensures.lines in
    run_ends_script g.B.Board g.W.Sink form_in_use Whole c.args.hosts.items (g.S.Source.left c.args.source.now) c.in-Ok.lines.items lines.read c.args.board c.serve.result.1
    c.args.sink.now c.serve.new.sink c.serve.result.0 c.serve.ensures.ends

pub returns-clause-written : goal.returns-clause-written
returns-clause-written g c = λ run honest stores begins.
    let lines = subst (λ hosts. AreLinesOf Whole hosts (g.S.Source.left c.args.source.now) c.in-Ok.lines.items) c.as_slice.ensures.value c.in-Ok.ensures.lines in
    runs_script g.B.Board g.W.Sink form_in_use Whole c.args.hosts.items (g.S.Source.left c.args.source.now) c.in-Ok.lines.items lines.read c.args.board c.serve.result.1
    c.args.sink.now c.serve.new.sink g.A.Application.behaviour c.args.seed stores c.serve.result.0 (c.serve.ensures.written honest stores begins)

pub returns-clause-complete : goal.returns-clause-complete
returns-clause-complete g c = λ run text script readable good wrote steady honest stores begins.
    let lines = subst (λ hosts. AreLinesOf Whole hosts (g.S.Source.left c.args.source.now) c.in-Ok.lines.items) c.as_slice.ensures.value c.in-Ok.ensures.lines in
    let left = g.S.Source.left c.args.source.now in
    completes g.B.Board g.W.Sink g.A.Application.behaviour form_in_use Whole c.args.hosts.items c.args.seed left c.args.board c.serve.result.1 c.args.sink.now c.serve.new.sink stores
    c.serve.result.0 c.serve.ensures.few
    (run_ends_script g.B.Board g.W.Sink form_in_use Whole c.args.hosts.items left c.in-Ok.lines.items lines.read c.args.board c.serve.result.1
    c.args.sink.now c.serve.new.sink c.serve.result.0 c.serve.ensures.ends).says
    (runs_script g.B.Board g.W.Sink form_in_use Whole c.args.hosts.items left c.in-Ok.lines.items lines.read c.args.board c.serve.result.1
    c.args.sink.now c.serve.new.sink g.A.Application.behaviour c.args.seed stores c.serve.result.0 (c.serve.ensures.written honest stores begins))
    wrote steady

-- ---- the words of no command

pub returns-in_default-clause-words : goal.returns-in_default-clause-words
returns-in_default-clause-words g c = record {
  bad_words = (
    (λ is are.
        ⊎_elim (λ run. let yes = c.are_run_words.ensures.1 run in let e : false ≡ true = sym c.if-not-are_run_words.true ∙ yes in absurd (cc))
        (λ gen. c.in_default.not-Some gen.0 ((c.gen_number.ensures gen.0).1 gen.1)) are),
    (λ none. refl),
  );
  same = λ is. (refl, refl, refl);
}

pub returns-in_default-clause-generated : goal.returns-in_default-clause-generated
returns-in_default-clause-generated g c = λ number words. absurd (c.in_default.not-Some number ((c.gen_number.ensures number).1 words))

-- ---- those of a workload

pub returns-then-not-are_run_words-clause-words : goal.returns-then-not-are_run_words-clause-words
returns-then-not-are_run_words-clause-words g c =
    let lines = workload_of c.in-Some.number (length c.args.hosts.items) in
    let says = c.run_generated.ensures.says in
    let P = λ (s : Status). SumsEndAs g.B.Board g.W.Sink g.A.Application.behaviour form_in_use c.args.hosts.items c.args.seed lines c.args.board c.run_generated.result.1 c.args.sink.now
    c.run_generated.new.sink s in
    record {
      bad_words = (
        (λ is. absurd (subst P is says)),
        (λ none. absurd (none (inr (c.in-Some.number, (c.gen_number.ensures c.in-Some.number).0 c.in-Some.is)))),
      );
      same = λ is. absurd (subst P is says);
    }

pub returns-then-not-are_run_words-clause-generated : goal.returns-then-not-are_run_words-clause-generated
returns-then-not-are_run_words-clause-generated g c = λ number words.
    let found : Some c.in-Some.number ≡ Some number = sym c.in-Some.is ∙ (c.gen_number.ensures number).1 words in
    let same : c.in-Some.number ≡ number = cc in (
      refl,
      subst
          (λ n. RunsGenerated g.B.Board g.W.Sink g.A.Application.behaviour form_in_use c.args.hosts.items c.args.seed (workload_of n (length c.args.hosts.items)) c.args.board
          c.run_generated.result.1 c.args.sink.now c.run_generated.new.sink c.run_generated.result.0)
          same c.run_generated.ensures,
    )
