use Rattle.std.proofs.Common.{◌≡◌, ℕ, ◌+◌, ◌*◌, map, ap, arith, ◌∙◌}
use Rattle.std.specs.List.{range_with_len}
use Rattle.script.specs.Workload.{drawn_for, line_at, line_of, state_after, workload_of}
use Rattle.script.specs.declared.generated.TheConstants.{DRAWS_A_LINE, LINES}
use Rattle.script.proofs.Draws.{one_more, state_more}
use Rattle.script.proofs.generated.workload.Goals as goal

pub loop-preserved : goal.loop-preserved
loop-preserved c =
    let n = c.loop.counter in
    let here : c.in_ok-line_of.field-0 ≡ line_at c.args.number c.args.hosts n =
    c.in_ok-line_of.ensures ∙ ap line_of (c.line-drawn.ensures.drawn ∙ ap (drawn_for c.args.hosts) c.loop.invariant.state) in
    let next : DRAWS_A_LINE * n + DRAWS_A_LINE ≡ DRAWS_A_LINE * (n + 1) = omega arith in
    record {
      lines = one_more (line_at c.args.number c.args.hosts) n c.loop.lines.items c.push.new.self.items c.in_ok-line_of.field-0
          c.loop.invariant.lines here c.in_ok-push.ensures.items;
      state = c.line-drawn.ensures.state ∙ ap (λ (x : ℕ). state_after x DRAWS_A_LINE) c.loop.invariant.state
          ∙ state_more c.args.number (DRAWS_A_LINE * n) DRAWS_A_LINE ∙ ap (state_after c.args.number) next;
    }

pub returns : goal.returns
unfolding workload_of
returns c =
    let all : c.loop.counter ≡ LINES = omega (arith, c.loop-test.false, c.loop.auto.counter-end) in
    c.from_lines.ensures ∙ c.loop.invariant.lines
    ∙ ap (λ (n : ℕ). map (line_at c.args.number c.args.hosts) (range_with_len 0 n)) all
