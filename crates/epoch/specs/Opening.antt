-- The rule by which a board is opened, over an image and a counter. Which versions are accepted, and the number of blocks
-- that a volume has, are parameters.
use Rattle.std.specs.Prelude.{◌≡◌, ◌≢◌, ℕ, ◌+◌, ◌==◌, not, nat_lt, if◌then◌else◌, Bool, true, false, Option, Some, None, Result, Ok, Err}
use Rattle.store_api.specs.declared.answer.Mismatch.{Mismatch}
use Rattle.epoch.specs.Slots.{slot_of}
use Rattle.epoch.specs.declared.answer.OpenAnswer.{OpenAnswer}
use Rattle.epoch.specs.declared.answer.OpenAnswer.TheVariants.{TooSmall, NoVolume, BadHeader, UnknownVersion, Rollback, Ahead, Failed}
use Rattle.epoch.specs.declared.header.Header.{Header}
use Rattle.epoch.specs.declared.rule.Found.{Found}
use Rattle.epoch.specs.declared.slots.Slot.{Slot}
use Rattle.epoch.specs.declared.slots.Slot.TheVariants.{Shut, Bad, Good}
use Rattle.tee_base.specs.Words.{Counter, Image, Key}

-- an open slot whose tag doesn't match
abbrev pub bad_header : ℕ → Mismatch → Result (Option Found) OpenAnswer
bad_header slot tags = Err (BadHeader slot tags.found tags.kept)

-- no slot is open
abbrev pub without_slot : Counter → Result (Option Found) OpenAnswer
without_slot counter = if counter == 0 then Ok None else Err (NoVolume counter)

-- the header that counts: its version first, then its sequence beside the counter
abbrev pub answer_at : (ℕ → Bool) → ℕ → Header → Counter → Result (Option Found) OpenAnswer
answer_at knows slot header counter =
    if not (knows header.version) then Err (UnknownVersion header.version) else
    if nat_lt header.sequence counter then Err (Rollback header.sequence counter) else
    if nat_lt (counter + 1) header.sequence then Err (Ahead header.sequence counter) else
    Ok (Some (record { header = header; slot = slot }))

-- the rule over both slots: a damaged one first; of two the greater sequence, slot 0 on a tie
abbrev pub opening_by : (ℕ → Bool) → Slot → Slot → Counter → Result (Option Found) OpenAnswer
opening_by knows (Bad tags) second counter = bad_header 0 tags
opening_by knows Shut (Bad tags) counter = bad_header 1 tags
opening_by knows Shut Shut counter = without_slot counter
opening_by knows Shut (Good header) counter = answer_at knows 1 header counter
opening_by knows (Good header) (Bad tags) counter = bad_header 1 tags
opening_by knows (Good header) Shut counter = answer_at knows 0 header counter
opening_by knows (Good header) (Good other) counter =
    if nat_lt header.sequence other.sequence then answer_at knows 1 other counter
    else answer_at knows 0 header counter

-- what an image and a counter open to under a key
unfoldable pub opening_of : (ℕ → Bool) → Key → Image → Counter → Result (Option Found) OpenAnswer
opening_of knows key image counter =
    opening_by knows (slot_of key image 0) (slot_of key image 1) counter

-- the same of a board with so many blocks
abbrev pub opens_as : (ℕ → Bool) → ℕ → ℕ → Key → Image → Counter
    → Result (Option Found) OpenAnswer
opens_as knows blocks size key image counter =
    if nat_lt size blocks then Err (TooSmall size) else
    opening_of knows key image counter

-- the header of what was found
abbrev pub found_header : Option Found → Option Header
found_header None = None
found_header (Some found) = Some found.header

-- what the rule answers, told without the slot
abbrev pub header_answer : Result (Option Found) OpenAnswer
    → Result (Option Header) OpenAnswer
header_answer (Ok found) = Ok (found_header found)
header_answer (Err answer) = Err answer

-- an answer is the rule's, where no call of the board failed
abbrev pub IsRuled : Result (Option Header) OpenAnswer → Result (Option Found) OpenAnswer
    → Type 0
IsRuled result rule = result ≢ Err Failed → result ≡ header_answer rule

-- the answer isn't that a call of the board failed
abbrev pub is_no_failure : OpenAnswer → Bool
is_no_failure Failed = false
is_no_failure _ = true

-- the same of what a call answers
abbrev pub no_failure : {A : Type 0} → Result A OpenAnswer → Bool
no_failure (Ok done) = true
no_failure (Err why) = is_no_failure why
