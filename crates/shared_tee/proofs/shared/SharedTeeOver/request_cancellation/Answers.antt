use Rattle.std.proofs.Common.{◌≡◌, ◌∙◌, ◌+◌, subst, sym}
use Rattle.std.specs.Prelude.{IfErr, OnOk}
use Rattle.turn_cell.specs.Words.{cell_id, cell_id_of, view as known}
use Rattle.alone.specs.Step.{Cancelled}
use Rattle.shared_tee.proofs.Exits.{gave_back, tried_in_vain}
use Rattle.shared_tee.proofs.PassLemmas.{Takes, call_gives, cell_at, cell_there, cell_within, gives_parts, gives_trail, goes_then, goes_tried, is_pass_then, is_pass_tried, makes_ok}
use Rattle.shared_tee.proofs.PassLemmas.{misses_tried, of_then, of_tried, refused}
use Rattle.shared_tee.specs.Passes.{GoesOn, IsPassOf, IsRefused, Makes, PassView, Places}
use Rattle.shared_parts.specs.declared.recorded.SharedAnswer.TheVariants as answers
use Rattle.shared_tee.proofs.shared.SharedTeeOver.request_cancellation.Goals as goal

pub give-requires-clause-parts : goal.give-requires-clause-parts
give-requires-clause-parts g c =
    let s = c.pass.inside in
    let h = c.in-Ok.hosted in
    let now = c.cancel-answer.new.self in
    let p : PassView g.row.V.Denot g.row.A.Denot = record { app = s.app; client = s.client; calls = s.calls; cell = cell_id_of s.seat; seat = known s.seat } in
    let made = c.cancel-answer.ensures in
    let takes : Takes g.V.Volume.keeper g.A.Application.behaviour p h =
    record { is = c.pass.invariant; own = c.in-Ok.ensures.continues.0; goes_on = c.in-Ok.ensures.continues.1; eight = c.keeps.ensures.eight } in
    let gives =
    call_gives g.V.Volume.keeper g.A.Application.behaviour p h now takes made.origin made.misses c.keeps-in-Ok.ensures (Cancelled c.args.op) c.cancel-answer.result made.ok made.err in
    let u = known c.try_take.new.seat in
    gives_parts g.V.Volume.keeper g.A.Application.behaviour p h now _ gives u u.turn c.in-Ok.ensures.others c.in-Ok.ensures.taken.1

pub give-requires-clause-trail : goal.give-requires-clause-trail
give-requires-clause-trail g c =
    let s = c.pass.inside in
    let h = c.in-Ok.hosted in
    let now = c.cancel-answer.new.self in
    let p : PassView g.row.V.Denot g.row.A.Denot = record { app = s.app; client = s.client; calls = s.calls; cell = cell_id_of s.seat; seat = known s.seat } in
    let made = c.cancel-answer.ensures in
    let takes : Takes g.V.Volume.keeper g.A.Application.behaviour p h =
    record { is = c.pass.invariant; own = c.in-Ok.ensures.continues.0; goes_on = c.in-Ok.ensures.continues.1; eight = c.keeps.ensures.eight } in
    let gives =
    call_gives g.V.Volume.keeper g.A.Application.behaviour p h now takes made.origin made.misses c.keeps-in-Ok.ensures (Cancelled c.args.op) c.cancel-answer.result made.ok made.err in
    let u = known c.try_take.new.seat in
    gives_trail g.V.Volume.keeper g.A.Application.behaviour p h now _ gives u c.in-Ok.ensures.taken.2

pub invariant_of-pass : goal.invariant_of-pass
invariant_of-pass g c =
    let s = c.pass.inside in
    let h = c.in-Ok.hosted in
    let now = c.cancel-answer.new.self in
    let p : PassView g.row.V.Denot g.row.A.Denot = record { app = s.app; client = s.client; calls = s.calls; cell = cell_id_of s.seat; seat = known s.seat } in
    let made = c.cancel-answer.ensures in
    let takes : Takes g.V.Volume.keeper g.A.Application.behaviour p h =
    record { is = c.pass.invariant; own = c.in-Ok.ensures.continues.0; goes_on = c.in-Ok.ensures.continues.1; eight = c.keeps.ensures.eight } in
    let gives =
    call_gives g.V.Volume.keeper g.A.Application.behaviour p h now takes made.origin made.misses c.keeps-in-Ok.ensures (Cancelled c.args.op) c.cancel-answer.result made.ok made.err in
    let u = known c.try_take.new.seat in
    let t = c.self.inside in
    let w = known c.give.new.seat in
    let id = cell_id_of c.give.new.seat in
    let back =
    gave_back g.V.Volume.keeper g.A.Application.behaviour (λ x. cell_id x) t.cells.items c.index-cell.result.now (cell_id t.storage) c.args.self.now p c.args.pass.now c.pass.view_is
    c.requires.of c.self.view_is c.index-cell.ensures h now _ gives id u w c.give.ensures.own c.in-Ok.ensures.others c.give.ensures.given in
    back.is

pub returns-in-Ok-clause-of : goal.returns-in-Ok-clause-of
returns-in-Ok-clause-of g c =
    let s = c.pass.inside in
    let h = c.in-Ok.hosted in
    let now = c.cancel-answer.new.self in
    let p : PassView g.row.V.Denot g.row.A.Denot = record { app = s.app; client = s.client; calls = s.calls; cell = cell_id_of s.seat; seat = known s.seat } in
    let made = c.cancel-answer.ensures in
    let takes : Takes g.V.Volume.keeper g.A.Application.behaviour p h =
    record { is = c.pass.invariant; own = c.in-Ok.ensures.continues.0; goes_on = c.in-Ok.ensures.continues.1; eight = c.keeps.ensures.eight } in
    let gives =
    call_gives g.V.Volume.keeper g.A.Application.behaviour p h now takes made.origin made.misses c.keeps-in-Ok.ensures (Cancelled c.args.op) c.cancel-answer.result made.ok made.err in
    let u = known c.try_take.new.seat in
    let t = c.self.inside in
    let w = known c.give.new.seat in
    let id = cell_id_of c.give.new.seat in
    let back =
    gave_back g.V.Volume.keeper g.A.Application.behaviour (λ x. cell_id x) t.cells.items c.index-cell.result.now (cell_id t.storage) c.args.self.now p c.args.pass.now c.pass.view_is
    c.requires.of c.self.view_is c.index-cell.ensures h now _ gives id u w c.give.ensures.own c.in-Ok.ensures.others c.give.ensures.given in
    back.of

pub returns-in-Ok-clause-goes : goal.returns-in-Ok-clause-goes
returns-in-Ok-clause-goes g c =
    let s = c.pass.inside in
    let h = c.in-Ok.hosted in
    let now = c.cancel-answer.new.self in
    let p : PassView g.row.V.Denot g.row.A.Denot = record { app = s.app; client = s.client; calls = s.calls; cell = cell_id_of s.seat; seat = known s.seat } in
    let made = c.cancel-answer.ensures in
    let takes : Takes g.V.Volume.keeper g.A.Application.behaviour p h =
    record { is = c.pass.invariant; own = c.in-Ok.ensures.continues.0; goes_on = c.in-Ok.ensures.continues.1; eight = c.keeps.ensures.eight } in
    let gives =
    call_gives g.V.Volume.keeper g.A.Application.behaviour p h now takes made.origin made.misses c.keeps-in-Ok.ensures (Cancelled c.args.op) c.cancel-answer.result made.ok made.err in
    let u = known c.try_take.new.seat in
    let t = c.self.inside in
    let w = known c.give.new.seat in
    let id = cell_id_of c.give.new.seat in
    let back =
    gave_back g.V.Volume.keeper g.A.Application.behaviour (λ x. cell_id x) t.cells.items c.index-cell.result.now (cell_id t.storage) c.args.self.now p c.args.pass.now c.pass.view_is
    c.requires.of c.self.view_is c.index-cell.ensures h now _ gives id u w c.give.ensures.own c.in-Ok.ensures.others c.give.ensures.given in
    back.goes

pub returns-in-Ok-clause-ok : goal.returns-in-Ok-clause-ok
returns-in-Ok-clause-ok g c =
    let s = c.pass.inside in
    let h = c.in-Ok.hosted in
    let now = c.cancel-answer.new.self in
    let p : PassView g.row.V.Denot g.row.A.Denot = record { app = s.app; client = s.client; calls = s.calls; cell = cell_id_of s.seat; seat = known s.seat } in
    let made = c.cancel-answer.ensures in
    let takes : Takes g.V.Volume.keeper g.A.Application.behaviour p h =
    record { is = c.pass.invariant; own = c.in-Ok.ensures.continues.0; goes_on = c.in-Ok.ensures.continues.1; eight = c.keeps.ensures.eight } in
    let gives =
    call_gives g.V.Volume.keeper g.A.Application.behaviour p h now takes made.origin made.misses c.keeps-in-Ok.ensures (Cancelled c.args.op) c.cancel-answer.result made.ok made.err in
    let u = known c.try_take.new.seat in
    let t = c.self.inside in
    let w = known c.give.new.seat in
    let id = cell_id_of c.give.new.seat in
    let new : PassView g.row.V.Denot g.row.A.Denot = record { app = s.app; client = s.client; calls = s.calls + 1; cell = id; seat = w } in
    let back =
    gave_back g.V.Volume.keeper g.A.Application.behaviour (λ x. cell_id x) t.cells.items c.index-cell.result.now (cell_id t.storage) c.args.self.now p c.args.pass.now c.pass.view_is
    c.requires.of c.self.view_is c.index-cell.ensures h now _ gives id u w c.give.ensures.own c.in-Ok.ensures.others c.give.ensures.given in
    subst (λ (x : PassView g.row.V.Denot g.row.A.Denot). OnOk c.cancel-answer.result (Makes (Cancelled c.args.op) 0 x new)) c.pass.view_is
    (makes_ok g.V.Volume.keeper g.A.Application.behaviour p h now gives id back.same_cell u w u.turn c.in-Ok.ensures.others c.give.ensures.given c.cancel-answer.result (Cancelled
    c.args.op) 0 made.ok made.room)

pub returns-in-Ok-clause-err : goal.returns-in-Ok-clause-err
returns-in-Ok-clause-err g c =
    let s = c.pass.inside in
    let h = c.in-Ok.hosted in
    let now = c.cancel-answer.new.self in
    let p : PassView g.row.V.Denot g.row.A.Denot = record { app = s.app; client = s.client; calls = s.calls; cell = cell_id_of s.seat; seat = known s.seat } in
    let made = c.cancel-answer.ensures in
    let takes : Takes g.V.Volume.keeper g.A.Application.behaviour p h =
    record { is = c.pass.invariant; own = c.in-Ok.ensures.continues.0; goes_on = c.in-Ok.ensures.continues.1; eight = c.keeps.ensures.eight } in
    let gives =
    call_gives g.V.Volume.keeper g.A.Application.behaviour p h now takes made.origin made.misses c.keeps-in-Ok.ensures (Cancelled c.args.op) c.cancel-answer.result made.ok made.err in
    let u = known c.try_take.new.seat in
    let t = c.self.inside in
    let w = known c.give.new.seat in
    let id = cell_id_of c.give.new.seat in
    let new : PassView g.row.V.Denot g.row.A.Denot = record { app = s.app; client = s.client; calls = s.calls + 1; cell = id; seat = w } in
    let back =
    gave_back g.V.Volume.keeper g.A.Application.behaviour (λ x. cell_id x) t.cells.items c.index-cell.result.now (cell_id t.storage) c.args.self.now p c.args.pass.now c.pass.view_is
    c.requires.of c.self.view_is c.index-cell.ensures h now _ gives id u w c.give.ensures.own c.in-Ok.ensures.others c.give.ensures.given in
    subst (λ (x : PassView g.row.V.Denot g.row.A.Denot). IfErr c.cancel-answer.result (λ why. IsRefused why (0) x new)) c.pass.view_is
    (refused g.V.Volume.keeper g.A.Application.behaviour p h now gives id back.same_cell u w u.turn c.in-Ok.ensures.others c.give.ensures.given c.cancel-answer.result (0) made.err made.why)

pub invariant_of-pass-in-Err : goal.invariant_of-pass-in-Err
invariant_of-pass-in-Err g c =
    let s = c.pass.inside in
    let p : PassView g.row.V.Denot g.row.A.Denot = record { app = s.app; client = s.client; calls = s.calls; cell = cell_id_of s.seat; seat = known s.seat } in
    let t = c.self.inside in
    let vain =
    tried_in_vain g.V.Volume.keeper g.A.Application.behaviour (λ x. cell_id x) t.cells.items c.index-cell.result.now (cell_id t.storage) c.args.self.now p c.args.pass.now c.pass.view_is
    c.requires.of c.self.view_is c.index-cell.ensures c.pass.invariant (cell_id_of c.try_take.new.seat) (known c.try_take.new.seat)
    c.in-Err.busy.word c.in-Err.ensures.own c.in-Err.ensures.missed in
    vain.is

pub returns-in-Err-clause-of : goal.returns-in-Err-clause-of
returns-in-Err-clause-of g c =
    let s = c.pass.inside in
    let p : PassView g.row.V.Denot g.row.A.Denot = record { app = s.app; client = s.client; calls = s.calls; cell = cell_id_of s.seat; seat = known s.seat } in
    let t = c.self.inside in
    let vain =
    tried_in_vain g.V.Volume.keeper g.A.Application.behaviour (λ x. cell_id x) t.cells.items c.index-cell.result.now (cell_id t.storage) c.args.self.now p c.args.pass.now c.pass.view_is
    c.requires.of c.self.view_is c.index-cell.ensures c.pass.invariant (cell_id_of c.try_take.new.seat) (known c.try_take.new.seat)
    c.in-Err.busy.word c.in-Err.ensures.own c.in-Err.ensures.missed in
    vain.of

pub returns-in-Err-clause-goes : goal.returns-in-Err-clause-goes
returns-in-Err-clause-goes g c =
    let s = c.pass.inside in
    let p : PassView g.row.V.Denot g.row.A.Denot = record { app = s.app; client = s.client; calls = s.calls; cell = cell_id_of s.seat; seat = known s.seat } in
    let t = c.self.inside in
    let vain =
    tried_in_vain g.V.Volume.keeper g.A.Application.behaviour (λ x. cell_id x) t.cells.items c.index-cell.result.now (cell_id t.storage) c.args.self.now p c.args.pass.now c.pass.view_is
    c.requires.of c.self.view_is c.index-cell.ensures c.pass.invariant (cell_id_of c.try_take.new.seat) (known c.try_take.new.seat)
    c.in-Err.busy.word c.in-Err.ensures.own c.in-Err.ensures.missed in
    vain.goes

pub returns-in-Err-clause-err : goal.returns-in-Err-clause-err
returns-in-Err-clause-err g c =
    let s = c.pass.inside in
    let p : PassView g.row.V.Denot g.row.A.Denot = record { app = s.app; client = s.client; calls = s.calls; cell = cell_id_of s.seat; seat = known s.seat } in
    let t = c.self.inside in
    let vain =
    tried_in_vain g.V.Volume.keeper g.A.Application.behaviour (λ x. cell_id x) t.cells.items c.index-cell.result.now (cell_id t.storage) c.args.self.now p c.args.pass.now c.pass.view_is
    c.requires.of c.self.view_is c.index-cell.ensures c.pass.invariant (cell_id_of c.try_take.new.seat) (known c.try_take.new.seat)
    c.in-Err.busy.word c.in-Err.ensures.own c.in-Err.ensures.missed in
    let new : PassView g.row.V.Denot g.row.A.Denot = record { app = s.app; client = s.client; calls = s.calls + 1; cell = cell_id_of c.try_take.new.seat; seat = known c.try_take.new.seat } in
    let name = (c.self.invariant.each s.app c.index-cell.result.now vain.found).name in
    subst (λ (x : PassView g.row.V.Denot g.row.A.Denot). IsRefused (answers.Busy c.in-Err.busy) (0) x new) c.pass.view_is
    (c.in-Err.ensures.busy.0 ∙ name, c.in-Err.ensures.busy.1, vain.misses)
