use Rattle.std.proofs.Common.{◌≡◌, take, arith, List, ℕ, [], subst}
use Rattle.std.specs.Prelude.{bit_xor}
use Rattle.std.proofs.lemmas.List.{take-map}
use Rattle.std.proofs.lemmas.Grind.{common_steps}
use Rattle.mac_digest.specs.Hash.{block_len}
use Rattle.mac_digest.specs.Hmac.{xor_each}
use Rattle.mac_digest.specs.Digester.{HoldsMessage}
use Rattle.mac_digest.proofs.BlockLemmas.{xor_next}
use Rattle.mac_digest.proofs.macs.begin.Goals as goal

pub loop-byte-preserved : goal.loop-byte-preserved
loop-byte-preserved c =
    xor_next c.args.pad c.args.block.now c.loop-byte.byte-items c.loop-byte.byte-index (omega arith) c.loop-byte.invariant

pub returns : goal.returns
returns c =
    let whole : c.loop-byte.byte-items ≡ xor_each c.args.pad c.args.block.now
    = grind (arith, common_steps, c.loop-byte.invariant) in
    let part : take c.block_len.result c.loop-byte.byte-items ≡ xor_each c.args.pad (take (block_len c.args.hash) c.args.block.now)
    = rw (c.block_len.ensures, whole) (take-map (λ byte. bit_xor byte c.args.pad) (block_len c.args.hash) c.args.block.now) in
    subst (λ (m : List ℕ). HoldsMessage c.update.new.self c.args.hash m) part
    (c.update.ensures c.args.hash [] c.digest-digester.ensures)
