-- A log as it is kept is a log of entries, and one entry more at its end is one more of what it holds.
use Rattle.app_api.specs.Behaviours.{Behaviour}
use Rattle.std.proofs.Common.{ℕ, suc, ◌≡◌, ◌+◌, ◌≤◌, ◌<◌, true, List, [], ◌∷◌, ◌++◌, length, take, drop, refl, sym, ap, ◌∙◌, arith}
use Rattle.std.proofs.Common.{append_assoc, length-append, length-drop}
use Rattle.std.specs.Prelude.{slice_index_or}
use Rattle.std.specs.List.{remove}
use Rattle.std.proofs.Math.Seq.{take-length}
use Rattle.std.proofs.lemmas.List.{take-append-drop, take-append-le, drop-append-le}
use Rattle.alone.specs.declared.log_entry.LogEntry.{LogEntry}
use Rattle.alone.specs.declared.reply.Reply.{Reply}
use Rattle.tee_base.specs.declared.limits.TheConstants.{MAX_LOG_BYTES}
use Rattle.alone.specs.KeptLogs.{IsKept, event_by, highs_from, last_high, log_with_replies, reply_count}
use Rattle.alone.proofs.HighLemmas.{highs_behind}
use Rattle.alone.specs.Logs.{IsLegal, Logged, bytes_in, bytes_of_event, entry, machine_by, replies_in}
use Rattle.alone.specs.Machine.{Machine}
use Rattle.alone.specs.Step.{Event, is_enabled, step}

-- ---- the log of what is kept

pub length_logged : (es : List LogEntry) (rs : List Reply) → length (log_with_replies es rs) ≡ length es
length_logged [] rs = refl
length_logged (e ∷ es) rs = ap suc (length_logged es (drop e.replies rs))

none_left : (rs : List Reply) → 0 ≡ length rs → [] ≡ rs
none_left [] none = refl
none_left (r ∷ rs) none = absurd (omega (arith, none))

-- those that the first entries leave are those of the others
left_count : (n count : ℕ) (rs : List Reply) → n + count ≡ length rs → count ≡ length (drop n rs)
left_count n count rs counted = let left = length-drop n rs in omega (arith, left, counted)

pub replies_logged : (es : List LogEntry) (rs : List Reply) → reply_count es ≡ length rs → replies_in (log_with_replies es rs) ≡ rs
replies_logged [] rs counted = none_left rs counted
replies_logged (e ∷ es) rs counted =
    ap (λ (more : List Reply). take e.replies rs ++ more) (replies_logged es (drop e.replies rs) (left_count e.replies (reply_count es) rs counted)) ∙ take-append-drop e.replies rs

pub count_push : (es : List LogEntry) (e : LogEntry) → reply_count (es ++ e ∷ []) ≡ reply_count es + e.replies
count_push [] e = omega arith
count_push (x ∷ es) e = let more = count_push es e in omega (arith, more)

last_logged : (rs more : List Reply) (e : LogEntry) → 0 ≡ length rs → e.replies ≡ length more → log_with_replies (e ∷ []) (rs ++ more) ≡ entry e.client (event_by e.client e.event) more ∷ []
last_logged rs more e none is =
    ap (λ (all : List Reply). entry e.client (event_by e.client e.event) (take e.replies (all ++ more)) ∷ []) (sym (none_left rs none))
    ∙ ap (λ (n : ℕ). entry e.client (event_by e.client e.event) (take n more) ∷ []) is
    ∙ ap (λ (all : List Reply). entry e.client (event_by e.client e.event) all ∷ []) (take-length more)

pub logged_push : (es : List LogEntry) (rs more : List Reply) (e : LogEntry) → reply_count es ≡ length rs → e.replies ≡ length more →
    log_with_replies (es ++ e ∷ []) (rs ++ more) ≡ log_with_replies es rs ++ entry e.client (event_by e.client e.event) more ∷ []
logged_push [] rs more e counted is = last_logged rs more e counted is
logged_push (x ∷ es) rs more e counted is =
    let within : x.replies ≤ length rs = omega (arith, counted) in
    ap (λ (own : List Reply). entry x.client (event_by x.client x.event) own ∷ log_with_replies (es ++ e ∷ []) (drop x.replies (rs ++ more))) (take-append-le x.replies rs more within)
    ∙ ap (λ (left : List Reply). entry x.client (event_by x.client x.event) (take x.replies rs) ∷ log_with_replies (es ++ e ∷ []) left) (drop-append-le x.replies rs more within)
    ∙ ap (λ (log : List Logged). entry x.client (event_by x.client x.event) (take x.replies rs) ∷ log)
    (logged_push es (drop x.replies rs) more e (left_count x.replies (reply_count es) rs counted) is)

-- ---- one entry more

pub bytes_push : (log : List Logged) (e : Logged) → bytes_in (log ++ e ∷ []) ≡ bytes_in log + bytes_of_event e.event
bytes_push [] e = omega arith
bytes_push (x ∷ log) e = let more = bytes_push log e in omega (arith, more)

pub replies_push : (log : List Logged) (e : Logged) → length (replies_in (log ++ e ∷ [])) ≡ length (replies_in log) + length e.replies
replies_push [] e = let joined = length-append e.replies (let none : List Reply = [] in none) in omega (arith, joined)
replies_push (x ∷ log) e =
    let more = replies_push log e in
    let long = length-append x.replies (replies_in (log ++ e ∷ [])) in
    let short = length-append x.replies (replies_in log) in
    omega (arith, more, long, short)

-- what is kept, with one entry more and its replies
pub kept_push : (es : List LogEntry) (rs more : List Reply) (highs : List ℕ) (e : LogEntry) (bytes added : ℕ) → IsKept es rs highs bytes → e.replies ≡ length more
    → added ≡ bytes_of_event (event_by e.client e.event) → bytes + added ≤ MAX_LOG_BYTES
    → IsKept (es ++ e ∷ []) (rs ++ more) (highs ++ highs_from (last_high 0 highs) more) (bytes + added)
kept_push es rs more highs e bytes added kept is own few =
    let last : Logged = entry e.client (event_by e.client e.event) more in
    let counted : reply_count es ≡ length rs = kept.counted in
    let summed : bytes ≡ bytes_in (log_with_replies es rs) = kept.summed in
    let longer = ap (λ (log : List Logged). bytes_in log) (logged_push es rs more e counted is) in
    let sum = bytes_push (log_with_replies es rs) last in
    record {
      counted = let count = count_push es e in let all = length-append rs more in omega (arith, count, all, counted, is);
      numbered =
          let was : highs ≡ highs_from 0 rs = kept.numbered in
          ap (λ (hs : List ℕ). hs ++ highs_from (last_high 0 hs) more) was ∙ sym (highs_behind 0 rs more);
      summed = ap (λ n. n + added) summed ∙ ap (λ n. bytes_in (log_with_replies es rs) + n) own ∙ sym (longer ∙ sum);
      few = few;
    }

module _ {A : Type 0} (behaviour : Behaviour A) where
  pub machine_push : (m : Machine A) (log : List Logged) (e : Logged) → machine_by behaviour m (log ++ e ∷ []) ≡ (step behaviour (machine_by behaviour m log) e.event).machine
  machine_push m [] e = refl
  machine_push m (x ∷ log) e = machine_push (step behaviour m x.event).machine log e

  pub legal_push : (m : Machine A) (log : List Logged) (client : ℕ) (event : Event) (replies : List Reply) → IsLegal behaviour m log →
      is_enabled (machine_by behaviour m log) event ≡ true → replies ≡ (step behaviour (machine_by behaviour m log) event).replies → IsLegal behaviour m (log ++ entry client event replies ∷ [])
  legal_push m [] client event replies legal may told = (may, told, tt)
  legal_push m (x ∷ log) client event replies legal may told = (legal.0, legal.1, legal_push (step behaviour m x.event).machine log client event replies legal.2 may told)

  -- what stands before the end of a legal log is legal
  pub legal_before : (m : Machine A) (log more : List Logged) → IsLegal behaviour m (log ++ more) → IsLegal behaviour m log
  legal_before m [] more legal = tt
  legal_before m (x ∷ log) more legal = (legal.0, legal.1, legal_before (step behaviour m x.event).machine log more legal.2)

-- ---- replies that are moved one by one

pub moved : {X : Type 0} (xs ys all : List X) (x : X) → 0 < length ys → x ≡ slice_index_or ys 0 x → xs ++ ys ≡ all → (xs ++ x ∷ []) ++ remove ys 0 ≡ all
moved xs [] all x some is same = absurd (omega (arith, some))
moved {X} xs (y ∷ ys) all x some is same = append_assoc xs (x ∷ []) ys ∙ ap (λ (z : X). xs ++ z ∷ ys) is ∙ same
