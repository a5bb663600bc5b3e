use Rattle.std.proofs.Common.{◌≡◌, ℕ, List, Option, None, Some, length, sym, ap, ◌∙◌}
use Rattle.object_asks.specs.Keys.{random_wanted}
use Rattle.operation_asks.specs.Kept.{state_of}
use Rattle.alone.specs.Crypto.{drawn_for}
use Rattle.app_side.specs.Crypto.{held_by, told_of_key}
use Rattle.app_side.specs.declared.side.AppSide.{AppSide}
use Rattle.app_side.proofs.Lengths.{random_length}
use Rattle.app_side.proofs.side.AppSide.generate.Goals as goal

pub generate-requires : goal.generate-requires
generate-requires g c =
    let many : c.in-Some.count ≡ length c.as_slice.result.now =
    sym (random_length (state_of c.args.self.now.operations).random c.in-Some.count)
    ∙ ap (λ (bytes : List ℕ). length bytes) (sym c.in_ok-secret.ensures.bytes ∙ sym c.as_slice.ensures) in
    (c.args.bits, sym c.in-Some.ensures ∙ ap (λ (n : ℕ). Some n) many)

pub returns-in_default-clause-made : goal.returns-in_default-clause-made
returns-in_default-clause-made g c =
    let old : AppSide g.row.A.Denot = c.args.self.now in
    let s = state_of old.operations in
    let none : None ≡ random_wanted old.held c.args.instance c.args.object c.args.bits = sym c.in_default.is ∙ c.random_wanted.ensures in
    record {
      told = c.panicked.ensures ∙ ap told_of_key none;
      state = ap (drawn_for s) none;
      rest = ap (λ (count : Option ℕ). record old { held = held_by old.held c.args.instance c.args.object s.random count }) none;
    }
