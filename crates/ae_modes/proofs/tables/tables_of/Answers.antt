use Rattle.std.proofs.Common.{ℕ, ◌∙◌, ap, subst}
use Rattle.ae_modes.proofs.FieldLemmas.{by_8_is, by_12_is}
use Rattle.ae_modes.specs.Tables.{times_power, IsTable}
use Rattle.ae_modes.proofs.tables.tables_of.Goals as goal

pub returns : goal.returns
returns c =
    let by_4 = c.times_nibble-by_4.ensures in
    let by_8 = c.times_nibble-by_8.ensures ∙ ap (times_power 4) by_4 ∙ by_8_is c.args.subkey in
    let by_12 = c.times_nibble-by_12.ensures ∙ ap (times_power 4) by_8 ∙ by_12_is c.args.subkey in
    record {
      first = c.table_of-first.ensures;
      second = subst (λ (v : ℕ). IsTable c.table_of-second.result v) by_4 c.table_of-second.ensures;
      third = subst (λ (v : ℕ). IsTable c.table_of-third.result v) by_8 c.table_of-third.ensures;
      fourth = subst (λ (v : ℕ). IsTable c.table_of-fourth.result v) by_12 c.table_of-fourth.ensures;
    }
