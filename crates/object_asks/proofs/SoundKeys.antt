-- What asks about keys leave is valid where it was before: a key comes with its handle, and else stays with it.
use Rattle.std.proofs.Common.{ℕ, ◌==◌, nat_lt, not, List, Option, None, Some, is_some, Result, Ok, Err, length, ◌∙◌}
use Rattle.std.proofs.lemmas.Bool.{cond_both}
use Rattle.tee_base.specs.declared.codes.TheConstants.Code.{BUSY}
use Rattle.tee_base.specs.declared.keys.TheConstants.{KIND_DATA}
use Rattle.app_api.specs.declared.ask.Answer.TheVariants as answers
use Rattle.store_api.specs.declared.answer.StoreAnswer.{StoreAnswer}
use Rattle.transient_obj.specs.declared.answer.KeyAnswer.{KeyAnswer}
use Rattle.transient_obj.specs.declared.answer.KeyAnswer.TheVariants as refusals
use Rattle.transient_obj.specs.declared.object_key.ObjectKey.{ObjectKey}
use Rattle.transient_obj.specs.Keys.{Key, allocate_answer, with_secret_of, copy_answer, populate_answer, key_with_secret, with_usages, without_secret}
use Rattle.handle_table.specs.declared.handle.Handle.{Handle}
use Rattle.handle_table.specs.declared.handle.Handle.TheVariants.{Persistent, Transient}
use Rattle.handle_table.specs.Handles.{free_number, is_full}
use Rattle.object_asks.specs.declared.source.KeySource.{KeySource}
use Rattle.object_asks.specs.declared.source.KeySource.TheVariants.{NoKey, InMemory, InStore}
use Rattle.object_asks.specs.Asks.{Answered, Objects, with_held, is_too_much, outcome_in, refusal_with, without_store}
use Rattle.object_asks.specs.Handles.{without_rename}
use Rattle.object_asks.specs.Held.{is_key_at, key_added, key_set, transient_at}
use Rattle.object_asks.specs.Keys.{copied_by, copied_from, copied_in, copy_resolution, copy_from, copy_to, generate_resolution, generated_of, generated_on, is_extractable, new_key, new_key_by}
use Rattle.object_asks.specs.Keys.{populate_on, populated_by, random_wanted, reset_key, restrict_key, restrict_on, secret_by, secret_resolution, secret_from, secret_told}
use Rattle.object_asks.specs.Sources.{key_source, stored_key}
use Rattle.object_asks.proofs.HeldLemmas.{places_set, together_more}
use Rattle.object_asks.proofs.SoundHandles.{memory_sound}
use Rattle.object_asks.proofs.SoundObjects.{AreSound, Goes, Leaves, by_handles, of_handles, turn}

-- a key changes where it is
set_sound : (o : Objects) (i n : ℕ) (key : Key) → AreSound o → AreSound (with_held o (key_set o.held i n key))
set_sound o i n key sound = record { stored = sound.stored; sole = sound.sole; together = places_set (is_key_at i n) key o.held.keys ∙ sound.together }

-- a key comes with a handle
added_key_sound : (o : Objects) (i : ℕ) (key : Key) → AreSound o → AreSound (with_held o (key_added o.held i key))
added_key_sound o i key sound =
    by_handles (with_held o (key_added o.held i key)) (memory_sound o.store o.held.handles i (free_number o.held.handles i) (of_handles o sound))
    (together_more o.held.handles o.held.keys i (free_number o.held.handles i) key sound.together)

new_by_sound : (o : Objects) (i : ℕ) (r : Result Key KeyAnswer) → AreSound o → Goes AreSound (without_store o (new_key_by o.held i r))
new_by_sound o i (Err answer) sound = sound
new_by_sound o i (Ok key) sound =
    cond_both (is_full (without_rename o.held.handles) i) (refusal_with o.held BUSY) (Answered (key_added o.held i key) (answers.Number (free_number o.held.handles i)))
    (λ outcome. Goes AreSound (without_store o outcome)) (λ _. sound) (λ _. added_key_sound o i key sound)

pub new_key_sound : (o : Objects) (i kind max_bits : ℕ) → AreSound o → Goes AreSound (without_store o (new_key o.held i kind max_bits))
new_key_sound o i kind max_bits sound = new_by_sound o i (allocate_answer kind max_bits) sound

populated_by_sound : (o : Objects) (i object : ℕ) (after : Key) (r : Result (Unit {0}) KeyAnswer) → AreSound o → Goes AreSound (without_store o (populated_by o.held i object after r))
populated_by_sound o i object after (Ok nothing) sound = set_sound o i object after sound
populated_by_sound o i object after (Err refusals.BadParameters) sound = sound
populated_by_sound o i object after (Err refusals.NotSupported) sound = tt
populated_by_sound o i object after (Err refusals.Misuse) sound = tt

pub populate_sound : (o : Objects) (i object : ℕ) (secret : List ℕ) (key : Option Key) → AreSound o → Goes AreSound (without_store o (populate_on o.held i object secret key))
populate_sound o i object secret None sound = tt
populate_sound o i object secret (Some key) sound = populated_by_sound o i object (key_with_secret key secret) (populate_answer key secret) sound

pub reset_key_sound : (o : Objects) (i object : ℕ) (key : Option Key) → AreSound o → Goes AreSound (without_store o (reset_key o.held i object key))
reset_key_sound o i object None sound = tt
reset_key_sound o i object (Some key) sound = set_sound o i object (without_secret key) sound

secret_told_sound : (o : Objects) (room : ℕ) (key : ObjectKey) → AreSound o → Leaves AreSound (secret_told o room key)
secret_told_sound o room key sound =
    cond_both (key.kind == KIND_DATA) _ _ (Leaves AreSound) (λ _. sound) (λ _.
    cond_both (not (is_extractable key.usage)) _ _ (Leaves AreSound) (λ _. tt) (λ _.
    cond_both (nat_lt room (length key.secret)) _ _ (Leaves AreSound) (λ _. sound) (λ _. sound)))

secret_by_sound : (o : Objects) (room : ℕ) (r : Result ObjectKey StoreAnswer) → AreSound o → Leaves AreSound (secret_by o room r)
secret_by_sound o room (Ok key) sound = secret_told_sound o room key sound
secret_by_sound o room (Err answer) sound = sound

secret_from_sound : (o : Objects) (room : ℕ) (source : KeySource) → AreSound o → Goes AreSound (secret_from o room source)
secret_from_sound o room NoKey sound = tt
secret_from_sound o room (InMemory key) sound = secret_told_sound o room key sound
secret_from_sound o room (InStore id) sound = (sound, secret_by_sound o room (stored_key o.store id) sound)

pub secret_sound : (o : Objects) (i object room : ℕ) → AreSound o → Goes AreSound (secret_resolution o i object room)
secret_sound o i object room sound = turn (is_too_much room) _ _ tt (λ _. secret_from_sound o room (key_source o.held i object) sound)

copied_by_sound : (o : Objects) (i to : ℕ) (after : Key) (r : Result (Unit {0}) KeyAnswer) → AreSound o → Leaves AreSound (outcome_in (with_held o) (copied_by o.held i to after r))
copied_by_sound o i to after (Ok nothing) sound = set_sound o i to after sound
copied_by_sound o i to after (Err answer) sound = tt

copied_from_sound : (o : Objects) (i to : ℕ) (key : Key) (from : ObjectKey) → AreSound o → Leaves AreSound (outcome_in (with_held o) (copied_from o.held i to key from))
copied_from_sound o i to key from sound = copied_by_sound o i to (with_secret_of key from.usage from.secret) (copy_answer key from.kind from.secret) sound

copied_in_sound : (o : Objects) (i to : ℕ) (key : Key) (r : Result ObjectKey StoreAnswer) → AreSound o → Leaves AreSound (copied_in o i to key r)
copied_in_sound o i to key (Ok from) sound = copied_from_sound o i to key from sound
copied_in_sound o i to key (Err answer) sound = sound

copy_from_sound : (o : Objects) (i to : ℕ) (key : Key) (source : KeySource) → AreSound o → Goes AreSound (copy_from o i to key source)
copy_from_sound o i to key NoKey sound = tt
copy_from_sound o i to key (InMemory from) sound = copied_from_sound o i to key from sound
copy_from_sound o i to key (InStore id) sound = (sound, copied_in_sound o i to key (stored_key o.store id) sound)

copy_to_sound : (o : Objects) (i to from : ℕ) (key : Option Key) → AreSound o → Goes AreSound (copy_to o i to from key)
copy_to_sound o i to from None sound = tt
copy_to_sound o i to from (Some key) sound = turn (is_some key.secret) _ _ tt (λ _. copy_from_sound o i to key (key_source o.held i from) sound)

pub copy_sound : (o : Objects) (i to from : ℕ) → AreSound o → Goes AreSound (copy_resolution o i to from)
copy_sound o i to from sound = copy_to_sound o i to from (transient_at o.held i to) sound

restrict_key_sound : (o : Objects) (i object usage : ℕ) (key : Option Key) → AreSound o → Goes AreSound (without_store o (restrict_key o.held i object usage key))
restrict_key_sound o i object usage None sound = tt
restrict_key_sound o i object usage (Some key) sound = set_sound o i object (with_usages key usage) sound

pub restrict_sound : (o : Objects) (i object usage : ℕ) (h : Option Handle) → AreSound o → Goes AreSound (without_store o (restrict_on o.held i object usage h))
restrict_sound o i object usage None sound = tt
restrict_sound o i object usage (Some (Persistent id flags position)) sound = sound
restrict_sound o i object usage (Some Transient) sound = restrict_key_sound o i object usage (transient_at o.held i object) sound

generated_on_sound : (o : Objects) (i object : ℕ) (secret : List ℕ) (key : Option Key) → AreSound o → AreSound (with_held o (generated_on o.held i object secret key))
generated_on_sound o i object secret None sound = record { stored = sound.stored; sole = sound.sole; together = sound.together }
generated_on_sound o i object secret (Some key) sound = set_sound o i object (key_with_secret key secret) sound

generated_of_sound : (o : Objects) (i object : ℕ) (random : ℕ → List ℕ) (wanted : Option ℕ) → AreSound o → Goes AreSound (generated_of o i object random wanted)
generated_of_sound o i object random None sound = tt
generated_of_sound o i object random (Some n) sound = generated_on_sound o i object (random n) (transient_at o.held i object) sound

pub generate_sound : (o : Objects) (i object bits : ℕ) (random : ℕ → List ℕ) → AreSound o → Goes AreSound (generate_resolution o i object bits random)
generate_sound o i object bits random sound = generated_of_sound o i object random (random_wanted o.held i object bits) sound
