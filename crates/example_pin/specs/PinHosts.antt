-- The host of Pin.
use Rattle.std.specs.Prelude.{true, false, codes}
use Rattle.std.specs.Int.{w128, to_be_bytes}
use Rattle.app_api.specs.declared.host.Host.{Host}
use Rattle.example_pin.specs.declared.pin.Pin.{Pin}
use Rattle.example_pin.specs.declared.pin.Pin.TheVariants.{Idle}

-- the host pin: one instance, which takes all sessions and goes with the last
abbrev pub pin_host : Host Pin
pin_host = record {
  name = codes "pin";
  id = to_be_bytes w128 0x00000000000040008000000000000007;
  properties = record { single = true; multi = true; keep = false };
  template = Idle;
}
