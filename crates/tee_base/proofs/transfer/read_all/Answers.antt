use Rattle.std.proofs.lemmas.Grind.{common_steps}
use Rattle.std.proofs.Common.{◌≡◌, ◌++◌, ◌∙◌, ℕ, List, Option, length, take, ap, append-nil, refl, subst, sym, arith, length-append, length-take}
use Rattle.std.proofs.KnownBytes.{Consumes-kept, Consumes-trans}
use Rattle.std.specs.Io.KnownBytes.{Consumes}
use Rattle.tee_base.specs.Faults.{Rose, one_more}
use Rattle.tee_base.proofs.transfer.read_all.Goals as goal

-- what was read before this piece, and the piece
pub returns-then-is_err-clause-err : goal.returns-then-is_err-clause-err
returns-then-is_err-clause-err g c = (
  c.loop.items.items ++ take c.in-Ok.count c.read.new.into,
  omega (
    arith,
    length-append c.loop.items.items (take c.in-Ok.count c.read.new.into),
    length-take c.in-Ok.count c.read.new.into,
    length-take c.min-room.result c.loop.buffer,
    c.loop.items.ok.0,
    c.in-Ok.ensures.room,
    c.min-room.ensures,
    c.len.ensures,
    c.loop.invariant.within,
  ),
  Consumes-trans _ _ _ _ _ c.loop.invariant.taken c.in-Ok.ensures.taken.0,
)

pub loop-preserved : goal.loop-preserved
loop-preserved g c = grind (arith, common_steps)

-- ---- a read failed

pub returns-in-Err-clause-too_long : goal.returns-in-Err-clause-too_long
returns-in-Err-clause-too_long g c = λ is. absurd cc

pub returns-in-Err-clause-read_fault : goal.returns-in-Err-clause-read_fault
returns-in-Err-clause-read_fault g c = λ is. subst (λ n. Rose n (g.S.Source.failures c.read.new.self)) c.loop.invariant.no_fault c.in-Err.ensures.cause

pub returns-in-Err-clause-once : goal.returns-in-Err-clause-once
returns-in-Err-clause-once g c = λ is. (c.in-Err.ensures.counts ∙ ap one_more c.loop.invariant.no_fault, c.in-Err.ensures.last)

pub returns-in-Err-clause-no_fault : goal.returns-in-Err-clause-no_fault
returns-in-Err-clause-no_fault g c = λ other. absurd (other refl)

pub returns-in-Err-clause-err : goal.returns-in-Err-clause-err
returns-in-Err-clause-err g c = (
  c.loop.items.items,
  omega (arith, c.loop.items.ok.0, c.loop.invariant.within),
  Consumes-kept _ _ _ _ c.loop.invariant.taken c.in-Err.ensures.taken,
)

pub returns-in-Err-clause-later : goal.returns-in-Err-clause-later
returns-in-Err-clause-later g c = omega (arith, c.loop.invariant.no_fault, c.in-Err.ensures.later)

-- ---- the end

-- a read that gave nothing, and all that was read before it
none_more : (old mid new : Option (List ℕ)) (bytes piece all : List ℕ) (n : ℕ) → Consumes old mid bytes → Consumes mid new (take n piece) → n ≡ 0 → all ≡ bytes → Consumes old new all
none_more old mid new bytes piece all n before last none same =
    subst (Consumes old new) (ap (λ k. bytes ++ take k piece) none ∙ append-nil bytes ∙ sym same) (Consumes-trans old mid new bytes (take n piece) before last)

pub returns-then-ended-clause-whole : goal.returns-then-ended-clause-whole
returns-then-ended-clause-whole g c = none_more _ _ _ _ _ _ _ c.loop.invariant.taken c.in-Ok.ensures.taken.0 c.if-ended.true c.from_vec.ensures

pub returns-then-ended-clause-within : goal.returns-then-ended-clause-within
returns-then-ended-clause-within g c = omega (arith, ap length c.from_vec.ensures, c.loop.items.ok.0, c.loop.invariant.within)

pub returns-then-ended-clause-once : goal.returns-then-ended-clause-once
returns-then-ended-clause-once g c = λ is. absurd cc

pub returns-then-ended-clause-no_fault : goal.returns-then-ended-clause-no_fault
returns-then-ended-clause-no_fault g c = λ other. c.in-Ok.ensures.counts ∙ c.loop.invariant.no_fault

pub returns-then-ended-clause-later : goal.returns-then-ended-clause-later
returns-then-ended-clause-later g c = omega (arith, c.in-Ok.ensures.later, c.loop.invariant.no_fault)

-- ---- memory lacked

pub returns-then-is_err-clause-too_long : goal.returns-then-is_err-clause-too_long
returns-then-is_err-clause-too_long g c = λ is. absurd cc

pub returns-then-is_err-clause-read_fault : goal.returns-then-is_err-clause-read_fault
returns-then-is_err-clause-read_fault g c = λ is. absurd cc

pub returns-then-is_err-clause-once : goal.returns-then-is_err-clause-once
returns-then-is_err-clause-once g c = λ is. absurd cc

pub returns-then-is_err-clause-no_fault : goal.returns-then-is_err-clause-no_fault
returns-then-is_err-clause-no_fault g c = λ other. c.in-Ok.ensures.counts ∙ c.loop.invariant.no_fault

pub returns-then-is_err-clause-later : goal.returns-then-is_err-clause-later
returns-then-is_err-clause-later g c = omega (arith, c.in-Ok.ensures.later, c.loop.invariant.no_fault)
