-- The text of the logs of hosts, of which the first were written.
use Rattle.std.proofs.Common.{◌≡◌, ◌<◌, ◌≤◌, ◌+◌, ◌++◌, ℕ, suc, List, ◌∷◌, Option, length, drop, drop-cons, drop_of_length-le, get_or, add-one, sym, ◌∙◌, ap, subst, append_assoc, append-nil}
use Rattle.std.specs.Io.KnownBytes.{Appends}
use Rattle.std.proofs.KnownBytes.{Appends-trans}
use Rattle.alone.specs.Logs.{KeptLog}
use Rattle.race.specs.Races.{entries_of}
use Rattle.report.specs.LogTexts.{log_text}
use Rattle.tee_base.specs.Transfer.{AppendsFront}
use Rattle.tee_top.specs.Races.{logs_text}
use Rattle.run_board.proofs.Writing.{front_after, front_longer}

module _ (names : List (List ℕ)) (logs : List KeptLog) where
  -- the text of the logs from this index on
  abbrev pub logs_from : ℕ → List ℕ
  logs_from i = logs_text (drop i names) (entries_of (drop i logs))

  -- a front of the text of the logs was appended, and those from here on are the rest
  abbrev pub LogsTo : ℕ → Option (List ℕ) → Option (List ℕ) → Type 0
  LogsTo i old new = (front : List ℕ) × (front ++ logs_from i ≡ logs_text names (entries_of logs)) × Appends old new front

  -- the name and the log of this index
  pub record IsPair (i : ℕ) (name : List ℕ) (log : KeptLog) : Type 0 where
    pub named : i < length names
    pub logged : i < length logs
    pub its_name : name ≡ get_or names i name
    pub its_log : log ≡ get_or logs i log

  logs_split : (i : ℕ) (name : List ℕ) (log : KeptLog) → IsPair i name log → logs_from i ≡ log_text name log.entries ++ logs_from (i + 1)
  logs_split i name log pair =
      ap (λ ns. logs_text ns (entries_of (drop i logs))) (drop-cons names i name pair.named ∙ ap (λ n. n ∷ drop (suc i) names) (sym pair.its_name))
      ∙ ap (λ ls. logs_text (name ∷ drop (suc i) names) (entries_of ls)) (drop-cons logs i log pair.logged ∙ ap (λ l. l ∷ drop (suc i) logs) (sym pair.its_log))
      ∙ ap (λ k. log_text name log.entries ++ logs_from k) (sym (add-one i))

  logs_whole : (i : ℕ) (name : List ℕ) (log : KeptLog) (text front : List ℕ) → IsPair i name log → text ≡ log_text name log.entries → front ++ logs_from i ≡ logs_text names (entries_of logs)
      → front ++ (text ++ logs_from (i + 1)) ≡ logs_text names (entries_of logs)
  logs_whole i name log text front pair line so = ap (λ zs. front ++ (zs ++ logs_from (i + 1))) line ∙ ap (λ zs. front ++ zs) (sym (logs_split i name log pair)) ∙ so

  pub logs_further : (i : ℕ) (name : List ℕ) (log : KeptLog) (text : List ℕ) (a b c : Option (List ℕ)) → IsPair i name log → text ≡ log_text name log.entries → LogsTo i a b → Appends b c text
      → LogsTo (i + 1) a c
  logs_further i name log text a b c pair line old new = (
    old.0 ++ text,
    append_assoc old.0 text (logs_from (i + 1)) ∙ logs_whole i name log text old.0 pair line old.1,
    Appends-trans a b c old.0 text old.2 new,
  )

  -- a front of the next log was appended
  pub logs_cut : (i : ℕ) (name : List ℕ) (log : KeptLog) (text : List ℕ) (a b c : Option (List ℕ)) → IsPair i name log → text ≡ log_text name log.entries → LogsTo i a b → AppendsFront text b c
      → AppendsFront (logs_text names (entries_of logs)) a c
  logs_cut i name log text a b c pair line old new =
      subst (λ zs. AppendsFront zs a c) (logs_whole i name log text old.0 pair line old.1) (front_after old.0 (text ++ logs_from (i + 1)) a b c old.2 (front_longer text (logs_from (i + 1)) b c new))

  -- the first of the logs were written, and then no more
  pub logs_stopped : (i : ℕ) (a b : Option (List ℕ)) → LogsTo i a b → AppendsFront (logs_text names (entries_of logs)) a b
  logs_stopped i a b so = (so.0, logs_from i, sym so.1, so.2)

  -- all were written
  pub logs_ended : (i : ℕ) (a b : Option (List ℕ)) → length names ≤ i → LogsTo i a b → Appends a b (logs_text names (entries_of logs))
  logs_ended i a b all so =
      subst (Appends a b) (sym (append-nil so.0) ∙ ap (λ ns. so.0 ++ logs_text ns (entries_of (drop i logs))) (sym (drop_of_length-le names all)) ∙ so.1) so.2
