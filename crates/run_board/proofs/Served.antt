-- How a run ends whose board wasn't opened, by why it wasn't.
use Rattle.std.proofs.Common.{ℕ, ◌≡◌, inl, inr, refl, subst}
use Rattle.board.specs.Moment.{View}
use Rattle.epoch.specs.Forms.{Form}
use Rattle.epoch.specs.Mounts.{IsKeptFromOpening, IsRefusalOver, IsRefusedNow}
use Rattle.epoch.specs.declared.answer.OpenAnswer.{OpenAnswer}
use Rattle.epoch.specs.declared.answer.OpenAnswer.TheVariants as answers
use Rattle.tee_base.specs.Words.{Image}
use Rattle.run_board.specs.Boards.{IsRefusedAt, IsRefusedByRule, IsRuleAnswer}
use Rattle.run_board.specs.Reading.{IsUnopened}
use Rattle.run_board.specs.Statuses.{refusal_of}
use Rattle.run_board.specs.declared.status.Status.{Status}
use Rattle.run_board.specs.declared.status.Status.TheVariants.{NoMemory, StoreRefused, BoardFault}

-- what is so of the status of each answer is so of how a run ends: one of the rule, a failed call of the board, and want of memory
pub refusal_row : (P : Status → Type 0) (why : OpenAnswer) → (IsRuleAnswer why → P (StoreRefused why)) → (why ≡ answers.Failed → P BoardFault) → (why ≡ answers.NoMemory → P NoMemory)
    → P (refusal_of why)
refusal_row P (answers.TooSmall blocks) rule failed none = rule tt
refusal_row P (answers.NoVolume counter) rule failed none = rule tt
refusal_row P (answers.BadHeader slot found kept) rule failed none = rule tt
refusal_row P (answers.UnknownVersion version) rule failed none = rule tt
refusal_row P (answers.Rollback sequence counter) rule failed none = rule tt
refusal_row P (answers.Ahead sequence counter) rule failed none = rule tt
refusal_row P (answers.OldMismatch tags) rule failed none = rule tt
refusal_row P (answers.OldGarbled region leaf) rule failed none = rule tt
refusal_row P answers.Failed rule failed none = failed refl
refusal_row P answers.NoMemory rule failed none = none refl

-- a run whose board wasn't opened ends so
pub never_opened : (why : OpenAnswer) → IsUnopened (refusal_of why)
never_opened why = refusal_row IsUnopened why (λ rule. tt) (λ failed. tt) (λ none. tt)

-- a failed call and want of memory are no answers of the rule
pub kept_unruled : (why : OpenAnswer) → IsKeptFromOpening why → IsRuleAnswer why → ⊥
kept_unruled why (inl is) rule = subst IsRuleAnswer is rule
kept_unruled why (inr is) rule = subst IsRuleAnswer is rule

-- a refusal by an answer of the rule
pub refused_at : (f : Form) (view : View) (walked : Image) (counter : ℕ) (why : OpenAnswer) → IsRuleAnswer why → IsRefusalOver f view walked counter why → IsRefusedAt f view walked counter why
refused_at f view walked counter (answers.TooSmall blocks) answer is = record { answer = answer; rule = is }
refused_at f view walked counter (answers.NoVolume found) answer is = record { answer = answer; rule = is }
refused_at f view walked counter (answers.BadHeader slot found kept) answer is = record { answer = answer; rule = is }
refused_at f view walked counter (answers.UnknownVersion version) answer is = record { answer = answer; rule = is }
refused_at f view walked counter (answers.Rollback sequence found) answer is = record { answer = answer; rule = is }
refused_at f view walked counter (answers.Ahead sequence found) answer is = record { answer = answer; rule = is }
refused_at f view walked counter (answers.OldMismatch tags) answer is = record { answer = answer; rule = is }
refused_at f view walked counter (answers.OldGarbled region leaf) answer is = record { answer = answer; rule = is }
refused_at f view walked counter answers.Failed answer is = absurd answer
refused_at f view walked counter answers.NoMemory answer is = absurd answer

pub refused_by : (f : Form) (view : View) (why : OpenAnswer) → IsRuleAnswer why → IsRefusedNow f view why → IsRefusedByRule f view why
refused_by f view (answers.TooSmall blocks) answer is = record { counter = is.0; may_tell = is.1; refused = record { answer = answer; rule = is.2 } }
refused_by f view (answers.NoVolume found) answer is = record { counter = is.0; may_tell = is.1; refused = record { answer = answer; rule = is.2 } }
refused_by f view (answers.BadHeader slot found kept) answer is = record { counter = is.0; may_tell = is.1; refused = record { answer = answer; rule = is.2 } }
refused_by f view (answers.UnknownVersion version) answer is = record { counter = is.0; may_tell = is.1; refused = record { answer = answer; rule = is.2 } }
refused_by f view (answers.Rollback sequence found) answer is = record { counter = is.0; may_tell = is.1; refused = record { answer = answer; rule = is.2 } }
refused_by f view (answers.Ahead sequence found) answer is = record { counter = is.0; may_tell = is.1; refused = record { answer = answer; rule = is.2 } }
refused_by f view (answers.OldMismatch tags) answer is = record { counter = is.0; may_tell = is.1; refused = record { answer = answer; rule = is.2 } }
refused_by f view (answers.OldGarbled region leaf) answer is = record { counter = is.0; may_tell = is.1; refused = record { answer = answer; rule = is.2 } }
refused_by f view answers.Failed answer is = absurd answer
refused_by f view answers.NoMemory answer is = absurd answer
