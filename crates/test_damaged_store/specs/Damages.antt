-- A store whose calls tell of damage, as its contracts see it.
use Rattle.std.specs.Prelude.{false}
use Rattle.store_api.specs.Foundations.{no_foundation}
use Rattle.store_api.specs.Keeping.{Status}
use Rattle.test_damaged_store.specs.declared.Damaged.{Damaged}

-- it stands on nothing, and isn't lost
abbrev pub status_of : Damaged → Status
status_of d = record {
  lost = false;
  faults = d.faults;
  foundation = no_foundation;
  damage_reports = d.damage_reports;
  change_attempts = d.change_attempts;
}
