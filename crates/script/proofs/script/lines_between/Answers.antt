use Rattle.std.proofs.Common.{◌≡◌, ◌-◌, ℕ, List, [], Result, Err, map, take, length, slice_index_or, refl, ap, Vec, Global}
use Rattle.std.proofs.lemmas.List.{take-map, length-map}
use Rattle.std.proofs.lemmas.Result.{err_from_is_err_and}
use Rattle.app_api.specs.declared.host.Host.{Host}
use Rattle.script.specs.declared.dialect.Dialect.{Dialect}
use Rattle.script.specs.declared.line.Line.{Line}
use Rattle.script.specs.declared.script.ScriptAnswer.{ScriptAnswer}
use Rattle.script.specs.declared.script.ScriptAnswer.TheVariants.{BadLine, NoMemory}
use Rattle.script.specs.Scripts.{Answers, AnswersWith, Reading, after_lines, ended_by, no_reading, read_from, script_from}
use Rattle.script.proofs.script.lines_between.Goals as goal

-- a line that isn't read is the first, whatever stands behind the last line feed
passed_on : {X : Type 0} (view : X → List Line) (e : ScriptAnswer) (read : Result Reading ℕ) (more : Reading → Result (List Line) ℕ) → Answers {X = Reading} (Err e) read
    → AnswersWith view (Err e) (after_lines read more)
passed_on view (BadLine n) read more h = ap (λ (r : Result Reading ℕ). after_lines r more) h
passed_on view NoMemory read more h = tt

-- the texts are the pieces but the last
by_front : {A X : Type 0} (view : X → List Line) (dialect : Dialect) (hosts : List (Host A)) (pieces texts : List (List ℕ)) (e : ScriptAnswer)
    → take (length pieces - 1) pieces ≡ texts → Answers {X = Reading} (Err e) (read_from dialect hosts 1 no_reading texts)
    → AnswersWith view (Err e) (script_from dialect hosts pieces)
by_front view dialect hosts pieces texts e front h = passed_on view e (read_from dialect hosts 1 no_reading (take (length pieces - 1) pieces))
    (λ r. ended_by dialect hosts (length pieces) r (slice_index_or pieces (length pieces - 1) [])) (rw front h)

pub returns-in_err-reader : goal.returns-in_err-reader
returns-in_err-reader g c =
    let p = err_from_is_err_and c.from_residual.result c.from_residual.ensures.1 in
    rw (p.1, p.2) (by_front (λ (lines : Vec Line Global). lines.items) c.args.dialect c.args.hosts.now (map (λ piece. piece.now) c.args.pieces.now)
    (map (λ piece. piece.now) (take (length c.args.pieces.now - 1) c.args.pieces.now)) c.in_err-reader.field-0.0 (rw (length-map, take-map) refl) c.in_err-reader.ensures.value)
