-- What asks about enumerators leave is valid where it was before: they touch no handle and no key.
use Rattle.std.proofs.Common.{ℕ, ◌==◌, not, cond, true, false, List, Option, None, Some, Result, Ok, Err}
use Rattle.store_api.specs.declared.answer.StoreAnswer.{StoreAnswer}
use Rattle.store_api.specs.declared.object.Listed.{Listed}
use Rattle.store_api.specs.Stores.{next_after}
use Rattle.object_asks.specs.declared.numbered.Walk.{Walk}
use Rattle.object_asks.specs.declared.numbered.Walk.TheVariants.{Idle, Started}
use Rattle.object_asks.specs.Asks.{Answered, Objects, success, with_held, private_storage, refusal_with, without_store}
use Rattle.tee_base.specs.declared.codes.TheConstants.Code.{BUSY}
use Rattle.app_api.specs.declared.ask.Answer.TheVariants as answers
use Rattle.object_asks.specs.Held.{NumberedList, walk_at}
use Rattle.object_asks.specs.Lists.{free_list, free_of, free_on, given_next, has_all_lists, list_added, list_freed, new_list, next_resolution, reset_on, start_resolution, started_by, after_walk}
use Rattle.object_asks.proofs.SoundObjects.{AreSound, Goes, Leaves, turn}

-- with other enumerators
lists_sound : (o : Objects) (lists : List NumberedList) → AreSound o → AreSound (with_held o (record o.held { lists = lists }))
lists_sound o lists sound = record { stored = sound.stored; sole = sound.sole; together = sound.together }

pub new_list_sound : (o : Objects) (i : ℕ) → AreSound o → Goes AreSound (without_store o (new_list o.held i))
new_list_sound o i sound =
    elim (has_all_lists o.held.lists i) as (λ b. Goes AreSound (without_store o (cond b (refusal_with o.held BUSY)
    (Answered (list_added o.held i) (answers.Number (free_list o.held.lists i)))))) [ true ↦ sound | false ↦ lists_sound o (list_added o.held i).lists sound ]

free_on_sound : (o : Objects) (i list : ℕ) (w : Option Walk) → AreSound o → Goes AreSound (without_store o (free_on o.held i list w))
free_on_sound o i list None sound = tt
free_on_sound o i list (Some walk) sound = lists_sound o (list_freed o.held i list).lists sound

pub free_list_sound : (o : Objects) (i list : ℕ) → AreSound o → Goes AreSound (without_store o (free_of o.held i list))
free_list_sound o i list sound =
    elim (list == 0) as (λ b. Goes AreSound (without_store o (cond b (success o.held) (free_on o.held i list (walk_at o.held i list)))))
    [ true ↦ sound | false ↦ free_on_sound o i list (walk_at o.held i list) sound ]

pub reset_list_sound : (o : Objects) (i list : ℕ) (w : Option Walk) → AreSound o → Goes AreSound (without_store o (reset_on o.held i list w))
reset_list_sound o i list None sound = tt
reset_list_sound o i list (Some walk) sound = lists_sound o (after_walk o.held i list Idle).lists sound

started_by_sound : (o : Objects) (i list : ℕ) (r : Result Listed StoreAnswer) → AreSound o → Leaves AreSound (started_by o i list r)
started_by_sound o i list (Ok listed) sound = lists_sound o (after_walk o.held i list (Started None)).lists sound
started_by_sound o i list (Err answer) sound = sound

pub start_list_sound : (o : Objects) (i list storage : ℕ) (w : Option Walk) → AreSound o → Goes AreSound (start_resolution o i list storage w)
start_list_sound o i list storage None sound = tt
start_list_sound o i list storage (Some walk) sound =
    turn (not (storage == private_storage)) _ _ sound (λ _. (sound, started_by_sound o i list (next_after o.store None) sound))

given_next_sound : (o : Objects) (i list : ℕ) (r : Result Listed StoreAnswer) → AreSound o → Leaves AreSound (given_next o i list r)
given_next_sound o i list (Ok listed) sound = lists_sound o (after_walk o.held i list (Started (Some listed.id))).lists sound
given_next_sound o i list (Err answer) sound = sound

pub next_list_sound : (o : Objects) (i list : ℕ) (w : Option Walk) → AreSound o → Goes AreSound (next_resolution o i list w)
next_list_sound o i list None sound = tt
next_list_sound o i list (Some Idle) sound = sound
next_list_sound o i list (Some (Started last)) sound = (sound, given_next_sound o i list (next_after o.store last) sound)
