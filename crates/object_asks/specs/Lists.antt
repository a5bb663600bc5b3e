-- The asks about enumerators: one definition for each, with its misuse first, then its refusals in their order, then its answer
-- (TEE Internal Core API 1.3, section 5.8).
use Rattle.std.specs.Prelude.{ℕ, ◌==◌, nat_le, Bool, not, List, [], ◌∷◌, ◌++◌, Option, None, Some, Result, Ok, Err, if◌then◌else◌, filter, map, count_by}
use Rattle.tee_base.specs.Numbers.{lowest_free}
use Rattle.tee_base.specs.declared.codes.TheConstants.Code.{BUSY, ITEM_NOT_FOUND}
use Rattle.tee_base.specs.declared.limits.TheConstants.{MAX_ENUMERATORS}
use Rattle.app_api.specs.declared.ask.Answer.TheVariants as answers
use Rattle.store_api.specs.declared.answer.StoreAnswer.{StoreAnswer}
use Rattle.store_api.specs.declared.object.Listed.{Listed}
use Rattle.store_api.specs.Stores.{next_after}
use Rattle.handle_table.specs.Handles.{change_first}
use Rattle.object_asks.specs.declared.numbered.Walk.{Walk}
use Rattle.object_asks.specs.declared.numbered.Walk.TheVariants.{Idle, Started}
use Rattle.object_asks.specs.Resolutions.{Outcome, Answered, Panicked, Resolution, Settled, ComesToStore, Objects, code_of, success, with_held, private_storage, refusal_with}
use Rattle.object_asks.specs.Held.{Held, NumberedList, is_list_at, is_list_of, walk_at}
use Rattle.tee_base.specs.Words.{InstanceNumber}

-- ---- changes of enumerators

-- the lowest number of the instance that is free
abbrev pub free_list : List NumberedList → InstanceNumber → ℕ
free_list lists instance = lowest_free (map (λ l. l.number) (filter (is_list_of instance) lists))

-- the instance has as many enumerators as it may have
abbrev pub has_all_lists : List NumberedList → InstanceNumber → Bool
has_all_lists lists instance = nat_le MAX_ENUMERATORS (count_by (is_list_of instance) lists)

-- a new enumerator, not started, under the lowest free number of the instance
abbrev pub list_added : Held → InstanceNumber → Held
list_added h instance = record h { lists = h.lists ++ record { instance = instance; number = free_list h.lists instance; walk = Idle } ∷ [] }

-- the instance's enumerator of this number goes
abbrev pub list_freed : Held → InstanceNumber → ℕ → Held
list_freed h instance number = record h { lists = filter (λ l. not (is_list_at instance number l)) h.lists }

-- the same place, where the enumerator has come so far
abbrev pub with_walk : Walk → NumberedList → NumberedList
with_walk walk l = record l { walk = walk }

-- the enumerator has come so far
abbrev pub after_walk : Held → InstanceNumber → ℕ → Walk → Held
after_walk h instance number walk = record h { lists = change_first (is_list_at instance number) (with_walk walk) h.lists }

-- ---- the asks

-- EnumNew
abbrev pub new_list : Held → InstanceNumber → Outcome Held
new_list h i =
    if has_all_lists h.lists i then refusal_with h BUSY
    else Answered (list_added h i) (answers.Number (free_list h.lists i))

-- EnumFree
abbrev pub free_on : Held → InstanceNumber → ℕ → Option Walk → Outcome Held
free_on h i list None = Panicked
free_on h i list (Some walk) = success (list_freed h i list)

-- EnumFree of a number: 0 is no enumerator, and nothing is done
abbrev pub free_of : Held → InstanceNumber → ℕ → Outcome Held
free_of h i list = if list == 0 then success h else free_on h i list (walk_at h i list)

-- EnumReset: not started
abbrev pub reset_on : Held → InstanceNumber → ℕ → Option Walk → Outcome Held
reset_on h i list None = Panicked
reset_on h i list (Some walk) = success (after_walk h i list Idle)

-- EnumStart: there is an object; it has given none yet
abbrev pub started_by : Objects → InstanceNumber → ℕ → Result Listed StoreAnswer → Outcome Objects
started_by o i list (Err answer) = refusal_with o (code_of answer)
started_by o i list (Ok listed) = success (with_held o (after_walk o.held i list (Started None)))

-- how EnumStart goes: it is misuse where there is no such enumerator
abbrev pub start_resolution : Objects → InstanceNumber → ℕ → ℕ → Option Walk → Resolution Objects
start_resolution o i list storage None = Settled Panicked
start_resolution o i list storage (Some walk) =
    if not (storage == private_storage) then Settled (refusal_with o ITEM_NOT_FOUND)
    else ComesToStore o (started_by o i list (next_after o.store None))

-- EnumNext: the least identifier greater than the last one, in the store as it now is
abbrev pub given_next : Objects → InstanceNumber → ℕ → Result Listed StoreAnswer → Outcome Objects
given_next o i list (Err answer) = refusal_with o (code_of answer)
given_next o i list (Ok listed) =
    Answered (with_held o (after_walk o.held i list (Started (Some listed.id))))
    (answers.Found listed.id listed.facts.kind listed.facts.usage listed.facts.length)

-- how EnumNext goes: one that isn't started finds nothing
abbrev pub next_resolution : Objects → InstanceNumber → ℕ → Option Walk → Resolution Objects
next_resolution o i list None = Settled Panicked
next_resolution o i list (Some Idle) = Settled (refusal_with o ITEM_NOT_FOUND)
next_resolution o i list (Some (Started last)) = ComesToStore o (given_next o i list (next_after o.store last))
