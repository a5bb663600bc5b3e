-- The text of a log, entry by entry, with the place and the number of the operation counted along.
use Rattle.std.proofs.Common.{ℕ, suc, ◌≡◌, ◌+◌, ◌<◌, ◌≤◌, Bool, true, false, List, [], ◌∷◌, ◌++◌, cond, length, take, drop, get_or, refl, sym, ap, ◌∙◌, arith}
use Rattle.std.proofs.Common.{add-one, append_assoc, length-append, drop-cons}
use Rattle.std.specs.List.{enumerate_from, flat_map}
use Rattle.std.proofs.Math.Seq.{take-append_seam}
use Rattle.std.proofs.lemmas.List.Sums.{sum_by-append}
use Rattle.alone.specs.declared.log_entry.LogEntry.{LogEntry}
use Rattle.alone.specs.declared.reply.Reply.{Reply}
use Rattle.alone.specs.KeptLogs.{event_by, log_with_replies}
use Rattle.alone.specs.Logs.{Logged}
use Rattle.report.specs.LogTexts.{entry_line, entry_text, is_call, log_text, op_behind}
use Rattle.report.specs.Texts.{reply_text}

-- the text of the entries behind so many, where the next call has the operation op
abbrev pub text_from : List ℕ → ℕ → ℕ → List Logged → List ℕ
text_from name before op [] = []
text_from name before op (e ∷ log) = entry_text name (before + 1) op e ++ text_from name (before + 1) (op + cond (is_call e.event) 1 0) log

-- the text of an entry of the log, with its index
abbrev text_in : List ℕ → List Logged → ℕ × Logged → List ℕ
text_in name log numbered = entry_text name (numbered.0 + 1) (op_behind (take numbered.0 log)) numbered.1

op_more : (before : List Logged) (e : Logged) → op_behind (before ++ e ∷ []) ≡ op_behind before + cond (is_call e.event) 1 0
op_more before e = let more = sum_by-append (λ (x : Logged). cond (is_call x.event) 1 0) before (e ∷ []) in omega (arith, more)

length_more : (before : List Logged) (e : Logged) → length (before ++ e ∷ []) ≡ length before + 1
length_more before e = length-append before (e ∷ [])

from_behind : (name : List ℕ) (before log : List Logged) → flat_map (text_in name (before ++ log)) (enumerate_from (length before) log) ≡ text_from name (length before) (op_behind before) log
from_behind name before [] = refl
from_behind name before (e ∷ log) =
    let all = before ++ e ∷ log in
    let longer = before ++ e ∷ [] in
    let same : longer ++ log ≡ all = append_assoc before (e ∷ []) log in
    ap (λ (front : List Logged). entry_text name (length before + 1) (op_behind front) e ++ flat_map (text_in name all) (enumerate_from (length before + 1) log)) (take-append_seam before (e ∷ log))
    ∙ ap (λ (rest : List ℕ). entry_text name (length before + 1) (op_behind before) e ++ rest)
    (ap (λ (xs : List Logged). flat_map (text_in name xs) (enumerate_from (length before + 1) log)) (sym same)
    ∙ ap (λ (n : ℕ). flat_map (text_in name (longer ++ log)) (enumerate_from n log)) (sym (length_more before e))
    ∙ from_behind name longer log
    ∙ ap (λ (n : ℕ). text_from name n (op_behind longer) log) (length_more before e)
    ∙ ap (λ (op : ℕ). text_from name (length before + 1) op log) (op_more before e))

-- the text of the whole log is that behind no entry
pub from_start : (name : List ℕ) (log : List Logged) → log_text name log ≡ text_from name 0 1 log
from_start name log = from_behind name [] log

-- what an entry adds to the text of those before it
pub one_more : (name text line now : List ℕ) (place op : ℕ) (entries : List LogEntry) (left : List Reply) (i : ℕ) (e : LogEntry) → i < length entries → e ≡ get_or entries i e
    → line ≡ text ++ entry_line name (place + 1) op e.client (event_by e.client e.event) → now ≡ line ++ flat_map (reply_text name) (take e.replies left)
    → now ++ text_from name (place + 1) (op + cond (is_call (event_by e.client e.event)) 1 0) (log_with_replies (drop (i + 1) entries) (drop e.replies left))
    ≡ text ++ text_from name place op (log_with_replies (drop i entries) left)
one_more name text line now place op entries left i e lt is told replied =
    let event = event_by e.client e.event in
    let here = entry_line name (place + 1) op e.client event in
    let lines = flat_map (reply_text name) (take e.replies left) in
    let rest = text_from name (place + 1) (op + cond (is_call event) 1 0) (log_with_replies (drop (i + 1) entries) (drop e.replies left)) in
    let opened : drop i entries ≡ e ∷ drop (i + 1) entries =
    drop-cons entries i e lt ∙ ap (λ (x : LogEntry). x ∷ drop (suc i) entries) (sym is) ∙ ap (λ (k : ℕ). e ∷ drop k entries) (sym (add-one i)) in
    ap (λ (t : List ℕ). t ++ rest) (replied ∙ ap (λ (t : List ℕ). t ++ lines) told)
    ∙ append_assoc (text ++ here) lines rest ∙ append_assoc text here (lines ++ rest) ∙ ap (λ (t : List ℕ). text ++ t) (sym (append_assoc here lines rest))
    ∙ ap (λ (es : List LogEntry). text ++ text_from name place op (log_with_replies es left)) (sym opened)

-- no entry takes two numbers
pub one_number : (b : Bool) → cond b 1 0 ≤ 1
one_number true = omega arith
one_number false = omega arith
