use Rattle.std.proofs.Common.{◌≡◌, ◌+◌, ◌-◌, ◌*◌, take, drop, min}
use Rattle.aes_core.specs.Key.{key_bytes}
use Rattle.aes_core.specs.Shared.{IsSharedStart}
use Rattle.aes_modes.specs.Modes.{counter_block}
use Rattle.ae_modes.specs.Gcm.{counter_after, text_from}
use Rattle.ae_modes.proofs.text.write_text.Given as goal

abbrev pub invariant-loop-i : goal.invariant-loop-i
invariant-loop-i l = record {
  at_is : l.at ≡ min (16 * l.i - l.count) l.length;
  text_is : take l.at l.output ≡ text_from (key_bytes l.key) l.counter l.place (take l.at l.input);
  rest_is : drop l.at l.output ≡ drop l.at l.initial.output;
  start_is : IsSharedStart l.key (counter_block (counter_after l.counter (l.first + l.i))) l.start;
}
