use Rattle.std.proofs.Common.{◌≡◌, ◌+◌, ◌-◌, ◌∙◌, sym, subst, ap, length, arith}
use Rattle.turn_cell.specs.View.{left_at, right_at}
use Rattle.turn_cell.specs.Words.{cell_id, cell_id_of, view as known}
use Rattle.shared_tee.proofs.BeginLemmas.{joined_back, left_opened, opened_back, opened_length, right_opened}
use Rattle.shared_tee.proofs.MakeLemmas.{begun_at}
use Rattle.shared_tee.specs.Making.{ComesBack, opened_seat}
use Rattle.shared_tee.proofs.making.begin_next.Goals as goal

pub split-behind-requires-clause-inside : goal.split-behind-requires-clause-inside
split-behind-requires-clause-inside g c =
    let K = g.V.Volume.keeper in
    let n = length c.args.begun.now.items in
    let first = ap (λ v. v.first) c.requires.seat in
    let size = ap (λ v. length v.own) c.requires.seat ∙ opened_length K c.args.opened.now.value n (c.args.apps - n) in
    let at = c.len-app.ensures ∙ c.args.begun.now.ok.0 in
    let more = c.requires.more in
    (omega (arith, first, at), omega (arith, first, size, at, more))

pub begin_one-requires-clause-seat : goal.begin_one-requires-clause-seat
begin_one-requires-clause-seat g c =
    let K = g.V.Volume.keeper in
    let n = length c.args.begun.now.items in
    let app = c.len-app.result in
    let at : app ≡ n = c.len-app.ensures ∙ c.args.begun.now.ok.0 in
    let more = c.requires.more in
    left_opened K c.args.opened.now.value c.args.apps app (c.args.apps - app) (known c.args.seat) (known c.split-behind.new.seat)
    (c.requires.seat ∙ ap (λ i. opened_seat K c.args.apps c.args.opened.now.value i (c.args.apps - i)) (sym at))
    (omega (arith, at, more)) (c.split-behind.ensures.left.1 ∙ ap (λ k. left_at (k + 1) (known c.args.seat)) c.from.ensures)

pub undo_all-requires-clause-behind : goal.undo_all-requires-clause-behind
undo_all-requires-clause-behind g c =
    let K = g.V.Volume.keeper in
    let volume = c.args.opened.now.value in
    let apps = c.args.apps in
    let n = length c.args.begun.now.items in
    let app = c.len-app.result in
    let at : app ≡ n = c.len-app.ensures ∙ c.args.begun.now.ok.0 in
    let more = c.requires.more in
    let rest = right_opened K volume apps app (apps - app) (known c.args.seat) (known c.split-behind.result)
    (c.requires.seat ∙ ap (λ i. opened_seat K apps volume i (apps - i)) (sym at)) (apps - (app + 1)) (omega (arith, at, more))
    (c.split-behind.ensures.right.1 ∙ ap (λ k. right_at (k + 1) (known c.args.seat)) c.from.ensures) in
    subst (λ i. ComesBack K apps volume i (apps - i) (known c.join.new.seat)) at
    (joined_back K volume apps app 1 (app + 1) (apps - (app + 1)) (apps - app) (known c.in-Err.back) (known c.split-behind.result) (known c.join.new.seat) (omega arith) (omega (arith, at, more))
    c.in-Err.ensures.err.1 (opened_back K volume apps (app + 1) (apps - (app + 1)) (known c.split-behind.result) rest) c.join.ensures.joined.0 c.join.ensures.joined.1 c.join.ensures.size
    c.join.ensures.own_trail)

pub returns-in-Ok-clause-ok : goal.returns-in-Ok-clause-ok
returns-in-Ok-clause-ok g c =
    let K = g.V.Volume.keeper in
    let volume = c.args.opened.now.value in
    let apps = c.args.apps in
    let n = length c.args.begun.now.items in
    let app = c.len-app.result in
    let at : app ≡ n = c.len-app.ensures ∙ c.args.begun.now.ok.0 in
    let more = c.requires.more in (
      c.split-behind.ensures.own.1,
      right_opened K volume apps app (apps - app) (known c.args.seat) (known c.split-behind.result)
          (c.requires.seat ∙ ap (λ i. opened_seat K apps volume i (apps - i)) (sym at)) (apps - (app + 1)) (omega (arith, at, more))
          (c.split-behind.ensures.right.1 ∙ ap (λ k. right_at (k + 1) (known c.args.seat)) c.from.ensures)
          ∙ ap (λ i. opened_seat K apps volume (i + 1) (apps - (i + 1))) at,
    )

pub returns-in-Ok-clause-begun : goal.returns-in-Ok-clause-begun
returns-in-Ok-clause-begun g c = (
  c.in-Ok.one,
  c.push_reserved.ensures.items,
  begun_at g.V.Volume.keeper c.args.apps c.args.opened.now.value c.args.side c.in-Ok.one c.len-app.result (length c.args.begun.now.items) (cell_id_of c.split-behind.new.seat)
      (cell_id c.args.storage.now) (c.len-app.ensures ∙ c.args.begun.now.ok.0) c.split-behind.ensures.own.0 c.in-Ok.ensures.ok,
)
