use Rattle.std.proofs.Common.{◌≡◌, ◌<◌, length, get_or, subst, sym, true, false, arith, Some, eq-eqb, ap, ◌∙◌}
use Rattle.std.proofs.lemmas.List.{get_or_read}
use Rattle.alone.specs.declared.active_entry.Instance.{Instance}
use Rattle.alone.specs.Machine.{is_number}
use Rattle.alone.proofs.Lists.{found_at, put_at, none_found}
use Rattle.alone.proofs.place.place_of.Goals as goal

pub returns-then-instance-number-clause-found : goal.returns-then-instance-number-clause-found
returns-then-instance-number-clause-found g c =
    let xs = c.args.instances.now in
    let place = c.loop-place.place in
    let within : place < length xs = omega arith in
    let named : (d : Instance g.row.A.Denot) → (get_or xs place d).number ≡ c.args.number = λ d. sym
    (ap (λ (x : Instance g.row.A.Denot). x.number) (get_or_read xs place c.index-instances-place.result within c.index-instances-place.is d)) ∙ c.if-instance-number.true in
    let test : (d : Instance g.row.A.Denot) → is_number c.args.number (get_or xs place d) ≡ true = λ d. eq-eqb (get_or xs place d).number c.args.number (named d) in
    record {
      within = within;
      some = (
        c.index-instances-place.result,
        found_at c.args.number xs place c.index-instances-place.result within
            (λ k lt. c.loop-place.invariant k lt c.index-instances-place.result) (test c.index-instances-place.result) ∙ ap Some (sym c.index-instances-place.is),
      );
      found = λ d. found_at c.args.number xs place d within (λ k lt. c.loop-place.invariant k lt d) (test d);
      put = λ new e. put_at new xs place new within (λ k lt. subst (λ n. is_number n (get_or xs k new) ≡ false) (sym e) (c.loop-place.invariant k lt new))
          (subst (λ n. is_number n (get_or xs place new) ≡ true) (sym e) (test new));
      named = named;
    }

pub returns-clause-none : goal.returns-clause-none
returns-clause-none g c = none_found c.args.number c.args.instances.now (λ k lt d. c.loop-place.invariant k (omega arith) d)
