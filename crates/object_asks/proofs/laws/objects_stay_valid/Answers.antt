use Rattle.object_asks.proofs.SoundAsks.{resolution_sound, generate_sound, instance_closed_sound, nothing_sound}
use Rattle.object_asks.proofs.laws.objects_stay_valid.Goals as goal

pub returns : goal.returns
returns c = record { none = nothing_sound; ask = resolution_sound; generate = generate_sound; closing = instance_closed_sound }
