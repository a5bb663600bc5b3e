-- What a caller of the reading is told, and what follows of the grammar.
use Rattle.std.proofs.Common.{◌≡◌, ℕ, ◌⊎◌, List, Result, Ok, Err, refl, ap, subst, inl, inr}
use Rattle.std.specs.Prelude.{IfOk, IsErrOf}
use Rattle.app_api.specs.declared.host.Host.{Host}
use Rattle.app_api.specs.Hosts.{HostsFit}
use Rattle.script.specs.declared.dialect.Dialect.{Dialect}
use Rattle.script.specs.declared.line.Line.{Line}
use Rattle.script.specs.declared.script.ScriptAnswer.{ScriptAnswer}
use Rattle.script.specs.declared.script.ScriptAnswer.TheVariants.{BadLine}
use Rattle.script.specs.Grammar.{FirstBad, Reads}
use Rattle.script.specs.Scripts.{Answers, script_of}
use Rattle.script.proofs.Places.{not_both, one_line, one_script}
use Rattle.script.proofs.ScriptTexts.{bad_reads, script_reads}

script_is : {A : Type 0} (dialect : Dialect) (hosts : List (Host A)) (text : List ℕ) (script : List Line) (read : Result (List Line) ℕ) → HostsFit hosts
    → script_of dialect hosts text ≡ read → Reads dialect hosts text script → read ≡ Ok script
script_is dialect hosts text script (Ok other) fit e h = ap Ok (one_script dialect hosts text other script fit (script_reads dialect hosts text other fit e) h)
script_is dialect hosts text script (Err n) fit e h = absurd (not_both dialect hosts text script n fit h (bad_reads dialect hosts text n fit e))

bad_is : {A : Type 0} (dialect : Dialect) (hosts : List (Host A)) (text : List ℕ) (n : ℕ) (read : Result (List Line) ℕ) → HostsFit hosts → script_of dialect hosts text ≡ read
    → FirstBad dialect hosts text n → read ≡ Err n
bad_is dialect hosts text n (Ok script) fit e h = absurd (not_both dialect hosts text script n fit (script_reads dialect hosts text script fit e) h)
bad_is dialect hosts text n (Err m) fit e h = ap Err (one_line dialect hosts text m n fit (bad_reads dialect hosts text m fit e) h)

pub found : {A : Type 0} (dialect : Dialect) (hosts : List (Host A)) (text : List ℕ) (result : Result (List Line) ScriptAnswer) → HostsFit hosts
    → Answers result (script_of dialect hosts text) → IfOk result (λ script. Reads dialect hosts text script)
found dialect hosts text (Ok script) fit h = script_reads dialect hosts text script fit h
found dialect hosts text (Err e) fit h = tt

pub complete : {A : Type 0} (dialect : Dialect) (hosts : List (Host A)) (text : List ℕ) (result : Result (List Line) ScriptAnswer) → HostsFit hosts
    → Answers result (script_of dialect hosts text) → (script : List Line) → Reads dialect hosts text script → Answers result (Ok script)
complete dialect hosts text result fit h script reads = subst (Answers result) (script_is dialect hosts text script (script_of dialect hosts text) fit refl reads) h

pub bad_line : {A : Type 0} (dialect : Dialect) (hosts : List (Host A)) (text : List ℕ) (result : Result (List Line) ScriptAnswer) → HostsFit hosts
    → Answers result (script_of dialect hosts text) → (n : ℕ) → IsErrOf result (BadLine n) → FirstBad dialect hosts text n
bad_line dialect hosts text result fit h n is = bad_reads dialect hosts text n fit (let at : Answers (Err (BadLine n)) (script_of dialect hosts text) =
    subst (λ (r : Result (List Line) ScriptAnswer). Answers r (script_of dialect hosts text)) is h in at)

pub first_bad : {A : Type 0} (dialect : Dialect) (hosts : List (Host A)) (text : List ℕ) (result : Result (List Line) ScriptAnswer) → HostsFit hosts
    → Answers result (script_of dialect hosts text) → (n : ℕ) → FirstBad dialect hosts text n → Answers result (Err n)
first_bad dialect hosts text result fit h n bad = subst (Answers result) (bad_is dialect hosts text n (script_of dialect hosts text) fit refl bad) h

either_way : {A : Type 0} (dialect : Dialect) (hosts : List (Host A)) (text : List ℕ) (read : Result (List Line) ℕ) → HostsFit hosts → script_of dialect hosts text ≡ read
    → ((script : List Line) × Reads dialect hosts text script) ⊎ ((n : ℕ) × FirstBad dialect hosts text n)
either_way dialect hosts text (Ok script) fit e = inl (script, script_reads dialect hosts text script fit e)
either_way dialect hosts text (Err n) fit e = inr (n, bad_reads dialect hosts text n fit e)

pub either : {A : Type 0} (dialect : Dialect) (hosts : List (Host A)) (text : List ℕ) → HostsFit hosts
    → ((script : List Line) × Reads dialect hosts text script) ⊎ ((n : ℕ) × FirstBad dialect hosts text n)
either dialect hosts text fit = either_way dialect hosts text (script_of dialect hosts text) fit refl
