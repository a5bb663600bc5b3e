-- What a status says of a text that a source tells.
use Rattle.std.proofs.Common.{◌≡◌, ◌<◌, ◌≤◌, ◌+◌, ◌++◌, ◌∙◌, ◌⊎◌, ℕ, List, Option, None, Some, IfSome, append-nil, length, refl, ap, subst, sym, inl, inr, arith}
use Rattle.std.specs.Io.KnownBytes.{Consumes, IsAtEnd}
use Rattle.app_api.specs.declared.host.Host.{Host}
use Rattle.app_api.specs.Hosts.{HostsFit}
use Rattle.script.specs.declared.line.Line.{Line}
use Rattle.script.specs.declared.dialect.Dialect.{Dialect}
use Rattle.script.proofs.Places.{not_both, one_line}
use Rattle.tee_base.specs.Transfer.{ConsumesWithin, HasMoreThan}
use Rattle.tee_base.specs.declared.io.Source.{Ghosts as SourceGhosts}
use Rattle.tee_base.specs.declared.limits.TheConstants.{MAX_SCRIPT_BYTES}
use Rattle.run_board.specs.declared.status.Status.{Status}
use Rattle.run_board.specs.declared.status.Status.TheVariants.{Done, BadWords, BadLine, TooLong, StoreRefused, LogFull, NoMemory, ReadFault, WriteFault, BoardFault}
use Rattle.run_board.specs.Reading.{IsBadAt, IsBadText, IsOfLines, IsReadable, IsReadStatus, IsText, IsTooMuch, IsUnopened, IsWithin, ReadsScript, ReadsTo, SaysRead}

-- a run whose script wasn't read ends before its board is opened
pub read_unopened : (status : Status) → IsReadStatus status → IsUnopened status
read_unopened (BadLine n) few = tt
read_unopened TooLong few = tt
read_unopened NoMemory few = tt
read_unopened ReadFault few = tt
read_unopened BadWords few = tt
read_unopened (StoreRefused why) few = tt
read_unopened BoardFault few = tt
read_unopened Done few = few
read_unopened (LogFull app) few = few
read_unopened WriteFault few = few

-- what is so of bytes that were read to the end is so of what was left, where that is told
pub told_all : (old new : Option (List ℕ)) (bytes : List ℕ) → Consumes old new bytes → IsAtEnd new → (P : List ℕ → Type 0) → P bytes → IfSome old P
told_all None new bytes consumed end P so = tt
told_all (Some xs) None bytes consumed end P so = absurd consumed
told_all (Some xs) (Some ys) bytes consumed end P so = subst P (sym (consumed ∙ ap (λ zs. bytes ++ zs) end ∙ append-nil bytes)) so

never_bad : (n : ℕ) → (Done ≡ BadLine n) ⊎ (Done ≡ NoMemory) → ⊥
never_bad n (inl e) = cc
never_bad n (inr e) = cc

never_long : (Done ≡ TooLong) ⊎ (Done ≡ NoMemory) → ⊥
never_long (inl e) = cc
never_long (inr e) = cc

module _ {S A : Type 0} (K : SourceGhosts S) (dialect : Dialect) (hosts : List (Host A)) (old new : S) where
  says_served : (status : Status) → IsOfLines status → SaysRead K dialect hosts Done old new → SaysRead K dialect hosts status old new
  says_served Done served says = says
  says_served (StoreRefused why) served says = says
  says_served (LogFull app) served says = says
  says_served NoMemory served says = tt
  says_served WriteFault served says = says
  says_served BoardFault served says = says
  says_served BadWords served says = absurd served
  says_served (BadLine n) served says = absurd served
  says_served TooLong served says = absurd served
  says_served ReadFault served says = absurd served

  -- a script that was read was read however its lines end
  pub as_served : (status : Status) → IsOfLines status → ReadsScript K dialect hosts Done old new → ReadsScript K dialect hosts status old new
  as_served status served read = record {
    says = says_served status served read.says;
    each_bad_line = λ text n readable bad. absurd (never_bad n (read.each_bad_line text n readable bad));
    each_too_long = λ text much. absurd (never_long (read.each_too_long text much));
    consumed = read.consumed;
  }

  too_long_for : (text : List ℕ) → K.left old ≡ Some text → length text ≤ MAX_SCRIPT_BYTES → HasMoreThan MAX_SCRIPT_BYTES (K.left old) → ⊥
  too_long_for text told within more = let longer = subst (HasMoreThan MAX_SCRIPT_BYTES) told more in omega (arith, longer, within)

  within_for : (text : List ℕ) → K.left old ≡ Some text → MAX_SCRIPT_BYTES < length text → IsWithin (K.left old) → ⊥
  within_for text told beyond within = let shorter = subst IsWithin told within in omega (arith, shorter, beyond)

  too_long_told : (status : Status) → IsReadStatus status → SaysRead K dialect hosts status old new → (text : List ℕ) → IsTooMuch (K.left old) text (K.failures old) (K.failures new)
      → (status ≡ TooLong) ⊎ (status ≡ NoMemory)
  too_long_told (BadLine n) few says text much = absurd (within_for text much.told much.beyond says.1)
  too_long_told TooLong few says text much = inl refl
  too_long_told ReadFault few says text much = absurd (much.unfailed says)
  too_long_told NoMemory few says text much = inr refl
  too_long_told Done few says text much = absurd few
  too_long_told BadWords few says text much = absurd few
  too_long_told (StoreRefused why) few says text much = absurd few
  too_long_told (LogFull app) few says text much = absurd few
  too_long_told WriteFault few says text much = absurd few
  too_long_told BoardFault few says text much = absurd few

  module _ (fit : HostsFit hosts) where
    bad_line_told : (status : Status) → IsReadStatus status → SaysRead K dialect hosts status old new → (text : List ℕ) (n : ℕ)
        → IsReadable (K.left old) text (K.failures old) (K.failures new) → IsBadText dialect hosts text n → (status ≡ BadLine n) ⊎ (status ≡ NoMemory)
    bad_line_told (BadLine m) few says text n readable bad =
        inl (ap BadLine (one_line dialect hosts text m n fit (subst (λ left. IsBadAt dialect hosts left m) readable.told says.0) bad))
    bad_line_told TooLong few says text n readable bad = absurd (too_long_for text readable.told readable.within says.0)
    bad_line_told ReadFault few says text n readable bad = absurd (readable.unfailed says)
    bad_line_told NoMemory few says text n readable bad = inr refl
    bad_line_told Done few says text n readable bad = absurd few
    bad_line_told BadWords few says text n readable bad = absurd few
    bad_line_told (StoreRefused why) few says text n readable bad = absurd few
    bad_line_told (LogFull app) few says text n readable bad = absurd few
    bad_line_told WriteFault few says text n readable bad = absurd few
    bad_line_told BoardFault few says text n readable bad = absurd few

    -- the script wasn't read, as this status says
    pub unread_told : (status : Status) → IsReadStatus status → SaysRead K dialect hosts status old new → ConsumesWithin (MAX_SCRIPT_BYTES + 1) (K.left old) (K.left new)
        → ReadsScript K dialect hosts status old new
    unread_told status few says consumed = record {
      says = says;
      each_bad_line = bad_line_told status few says;
      each_too_long = too_long_told status few says;
      consumed = consumed;
    }

    -- it was read
    pub read_told : (script : List Line) → ReadsTo dialect hosts (K.left old) script → IsWithin (K.left old) → IsAtEnd (K.left new)
        → ConsumesWithin (MAX_SCRIPT_BYTES + 1) (K.left old) (K.left new) → ReadsScript K dialect hosts Done old new
    read_told script reads within at_end consumed = record {
      says = (within, at_end);
      each_bad_line = λ text n readable bad.
          absurd (not_both dialect hosts text script n fit (subst (λ left. ReadsTo dialect hosts left script) readable.told reads) bad);
      each_too_long = λ text much. absurd (within_for text much.told much.beyond within);
      consumed = consumed;
    }

    -- where the source tells a script, and no read fails, lines were read, or there was no memory
    pub script_told : (status : Status) → SaysRead K dialect hosts status old new → (text : List ℕ) (script : List Line)
        → IsReadable (K.left old) text (K.failures old) (K.failures new) → IsText dialect hosts text script → IsOfLines status
    script_told (BadLine m) says text script readable good =
        not_both dialect hosts text script m fit good (subst (λ left. IsBadAt dialect hosts left m) readable.told says.0)
    script_told TooLong says text script readable good = too_long_for text readable.told readable.within says.0
    script_told ReadFault says text script readable good = readable.unfailed says
    script_told BadWords says text script readable good = says
    script_told Done says text script readable good = tt
    script_told (StoreRefused why) says text script readable good = tt
    script_told (LogFull app) says text script readable good = tt
    script_told NoMemory says text script readable good = tt
    script_told WriteFault says text script readable good = tt
    script_told BoardFault says text script readable good = tt
