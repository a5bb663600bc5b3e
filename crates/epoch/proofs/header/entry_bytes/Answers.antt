use Rattle.std.proofs.Common.{◌≡◌, ℕ, length, replicate, rules}
use Rattle.std.proofs.lemmas.List.{length-replicate}
use Rattle.epoch.proofs.HeaderLemmas.{entry_written}
use Rattle.epoch.proofs.header.entry_bytes.Goals as goal

pub returns : goal.returns
returns c =
    let iv : length c.args.entry.now.iv ≡ 16 = search rules in
    let tag : length c.args.entry.now.tag ≡ 32 = search rules in
    entry_written c.args.entry.now (replicate 64 0) c.to_le_bytes.result c.to_le_bytes-2.result c.put.new.into c.put-2.new.into c.put-3.new.into c.put-4.new.into
    (length-replicate {A = ℕ} 64 0) iv tag c.to_le_bytes.ensures c.to_le_bytes-2.ensures c.put.ensures c.put-2.ensures c.put-3.ensures c.put-4.ensures
