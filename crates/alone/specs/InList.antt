-- Where an instance is in a list of instances.
use Rattle.std.specs.Prelude.{ℕ, ◌≡◌, ◌<◌, List, Some, find, length, slice_set, slice_index_or}
use Rattle.alone.specs.declared.active_entry.Instance.{Instance}
use Rattle.alone.specs.Machine.{is_number, put_instance}

-- the first instance of this number is at this place
pub record IsPlace {A : Type 0} (number : ℕ) (instances : List (Instance A)) (place : ℕ) : Type 0 where
  pub within : place < length instances
  pub some : (inst : Instance A) × (find (is_number number) instances ≡ Some inst)
  pub found : (d : Instance A) → find (is_number number) instances ≡ Some (slice_index_or instances place d)
  pub put : (new : Instance A) → new.number ≡ number → put_instance new instances ≡ slice_set instances place new
  pub named : (d : Instance A) → (slice_index_or instances place d).number ≡ number
