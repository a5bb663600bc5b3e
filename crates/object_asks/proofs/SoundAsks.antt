-- What asks about objects leave is valid where it was before, and so it is for what the store's answers would give.
pub use Rattle.object_asks.proofs.SoundKeys.{generate_sound}
pub use Rattle.object_asks.proofs.SoundObjects.{AreSound, Goes, Leaves, instance_closed_sound, nothing_sound}
use Rattle.std.proofs.Common.{ℕ, refl}
use Rattle.app_api.specs.declared.ask.Ask.{Ask}
use Rattle.app_api.specs.declared.ask.Ask.TheVariants as asked
use Rattle.handle_table.specs.Handles.{handle_at}
use Rattle.object_asks.specs.Asks.{Objects, object_resolution}
use Rattle.object_asks.specs.Handles.{without_rename}
use Rattle.object_asks.specs.Held.{transient_at, walk_at}
use Rattle.object_asks.proofs.SoundKeys.{copy_sound, new_key_sound, populate_sound, reset_key_sound, restrict_sound, secret_sound}
use Rattle.object_asks.proofs.SoundLists.{free_list_sound, new_list_sound, next_list_sound, reset_list_sound, start_list_sound}
use Rattle.object_asks.proofs.SoundObjects.{close_sound, create_sound, delete_sound, info_sound, open_sound, read_sound, rename_sound, seek_sound, truncate_sound, write_sound}

pub resolution_sound : (o : Objects) (i : ℕ) (ask : Ask) → AreSound o → Goes AreSound (object_resolution o i ask)
unfolding object_resolution
resolution_sound o i (asked.ObjOpen storage id flags) sound = open_sound o i storage id flags sound
resolution_sound o i (asked.ObjCreate storage id flags attr content) sound = create_sound o i storage id flags attr content sound
resolution_sound o i (asked.ObjClose object) sound = close_sound o i object sound
resolution_sound o i (asked.ObjDelete object) sound = delete_sound o i object sound
resolution_sound o i (asked.ObjRename object to) sound = rename_sound o i object to (handle_at (without_rename o.held.handles) i object) refl sound
resolution_sound o i (asked.ObjInfo object) sound = info_sound o i object (handle_at (without_rename o.held.handles) i object) sound
resolution_sound o i (asked.ObjRead object count) sound = read_sound o i object count (handle_at (without_rename o.held.handles) i object) sound
resolution_sound o i (asked.ObjWrite object bytes) sound = write_sound o i object bytes (handle_at (without_rename o.held.handles) i object) sound
resolution_sound o i (asked.ObjTruncate object n) sound = truncate_sound o i object n (handle_at (without_rename o.held.handles) i object) sound
resolution_sound o i (asked.ObjSeek object offset whence) sound = seek_sound o i object offset whence (handle_at (without_rename o.held.handles) i object) sound
resolution_sound o i asked.EnumNew sound = new_list_sound o i sound
resolution_sound o i (asked.EnumFree list) sound = free_list_sound o i list sound
resolution_sound o i (asked.EnumReset list) sound = reset_list_sound o i list (walk_at o.held i list) sound
resolution_sound o i (asked.EnumStart list storage) sound = start_list_sound o i list storage (walk_at o.held i list) sound
resolution_sound o i (asked.EnumNext list) sound = next_list_sound o i list (walk_at o.held i list) sound
resolution_sound o i (asked.KeyNew kind max_bits) sound = new_key_sound o i kind max_bits sound
resolution_sound o i (asked.KeyPopulate object secret) sound = populate_sound o i object secret (transient_at o.held i object) sound
resolution_sound o i (asked.KeyReset object) sound = reset_key_sound o i object (transient_at o.held i object) sound
resolution_sound o i (asked.KeySecret object room) sound = secret_sound o i object room sound
resolution_sound o i (asked.KeyCopy to from) sound = copy_sound o i to from sound
resolution_sound o i (asked.KeyRestrict object usage) sound = restrict_sound o i object usage (handle_at (without_rename o.held.handles) i object) sound
resolution_sound o i ask sound = tt
