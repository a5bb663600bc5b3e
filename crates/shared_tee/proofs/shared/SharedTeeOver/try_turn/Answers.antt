use Rattle.std.proofs.Common.{◌≡◌, ◌∙◌, ◌+◌, ◌<◌, ◌^◌, inl, subst, sym}
use Rattle.std.specs.Prelude.{IfErr, IfOk}
use Rattle.turn_cell.specs.Words.{cell_id, cell_id_of, name_of, view as known}
use Rattle.app_side.specs.Represents.{event_of}
use Rattle.shared_parts.specs.declared.recorded.SharedAnswer.TheVariants as answers
use Rattle.shared_tee.proofs.Exits.{gave_back, tried_in_vain}
use Rattle.shared_tee.proofs.PassLemmas.{Takes, cell_at, cell_there, cell_within, few_missed, gives_parts, gives_trail, goes_then, goes_tried, is_pass_then, is_pass_tried}
use Rattle.shared_tee.proofs.PassLemmas.{misses_tried, of_then, of_tried, storage_of, turn_gives, turned_err, turned_ok}
use Rattle.shared_tee.specs.Passes.{GoesOn, IsPassOf, IsTurnRefused, MakesOneTurn, PassView, Places}
use Rattle.shared_tee.proofs.shared.SharedTeeOver.try_turn.Goals as goal

pub turn-answer-requires-clause-own : goal.turn-answer-requires-clause-own
turn-answer-requires-clause-own g c =
    let s = c.pass.inside in
    let h = c.in-Ok.hosted in
    let p : PassView g.row.V.Denot g.row.A.Denot = record { app = s.app; client = s.client; calls = s.calls; cell = cell_id_of s.seat; seat = known s.seat } in
    let takes : Takes g.V.Volume.keeper g.A.Application.behaviour p h =
    record { is = c.pass.invariant; own = c.in-Ok.ensures.continues.0; goes_on = c.in-Ok.ensures.continues.1; eight = c.keeps.ensures.eight } in
    let of : IsPassOf c.args.self.now p = subst (λ (x : PassView g.row.V.Denot g.row.A.Denot). IsPassOf c.args.self.now x) (sym c.pass.view_is) c.requires.of in
    let here = subst (λ (x : Places). IsPassOf x p) (sym c.self.view_is) of in
    storage_of g.V.Volume.keeper g.A.Application.behaviour p h takes _ here

pub turn-answer-requires-clause-few : goal.turn-answer-requires-clause-few
turn-answer-requires-clause-few g c =
    let s = c.pass.inside in
    let h = c.in-Ok.hosted in
    let p : PassView g.row.V.Denot g.row.A.Denot = record { app = s.app; client = s.client; calls = s.calls; cell = cell_id_of s.seat; seat = known s.seat } in
    let takes : Takes g.V.Volume.keeper g.A.Application.behaviour p h =
    record { is = c.pass.invariant; own = c.in-Ok.ensures.continues.0; goes_on = c.in-Ok.ensures.continues.1; eight = c.keeps.ensures.eight } in
    few_missed g.V.Volume.keeper g.A.Application.behaviour p h takes
    (subst (λ (x : PassView g.row.V.Denot g.row.A.Denot). x.calls < 2 ^ 60) (sym c.pass.view_is) c.requires.few)

pub give-requires-clause-parts : goal.give-requires-clause-parts
give-requires-clause-parts g c =
    let s = c.pass.inside in
    let h = c.in-Ok.hosted in
    let p : PassView g.row.V.Denot g.row.A.Denot = record { app = s.app; client = s.client; calls = s.calls; cell = cell_id_of s.seat; seat = known s.seat } in
    let takes : Takes g.V.Volume.keeper g.A.Application.behaviour p h =
    record { is = c.pass.invariant; own = c.in-Ok.ensures.continues.0; goes_on = c.in-Ok.ensures.continues.1; eight = c.keeps.ensures.eight } in
    let t = c.self.inside in
    let now = c.turn-answer.new.self in
    let made = c.turn-answer.ensures in
    let name = name_of t.storage in
    let gives =
    turn_gives g.V.Volume.keeper g.A.Application.behaviour p h now takes made.origin c.keeps-in-Ok.ensures name c.args.instance c.turn-answer.result made.ok made.same made.err made.why in
    let u = known c.try_take.new.seat in
    gives_parts g.V.Volume.keeper g.A.Application.behaviour p h now _ gives u u.turn c.in-Ok.ensures.others c.in-Ok.ensures.taken.1

pub give-requires-clause-trail : goal.give-requires-clause-trail
give-requires-clause-trail g c =
    let s = c.pass.inside in
    let h = c.in-Ok.hosted in
    let p : PassView g.row.V.Denot g.row.A.Denot = record { app = s.app; client = s.client; calls = s.calls; cell = cell_id_of s.seat; seat = known s.seat } in
    let takes : Takes g.V.Volume.keeper g.A.Application.behaviour p h =
    record { is = c.pass.invariant; own = c.in-Ok.ensures.continues.0; goes_on = c.in-Ok.ensures.continues.1; eight = c.keeps.ensures.eight } in
    let t = c.self.inside in
    let now = c.turn-answer.new.self in
    let made = c.turn-answer.ensures in
    let name = name_of t.storage in
    let gives =
    turn_gives g.V.Volume.keeper g.A.Application.behaviour p h now takes made.origin c.keeps-in-Ok.ensures name c.args.instance c.turn-answer.result made.ok made.same made.err made.why in
    let u = known c.try_take.new.seat in
    gives_trail g.V.Volume.keeper g.A.Application.behaviour p h now _ gives u c.in-Ok.ensures.taken.2

pub invariant_of-pass : goal.invariant_of-pass
invariant_of-pass g c =
    let s = c.pass.inside in
    let h = c.in-Ok.hosted in
    let p : PassView g.row.V.Denot g.row.A.Denot = record { app = s.app; client = s.client; calls = s.calls; cell = cell_id_of s.seat; seat = known s.seat } in
    let takes : Takes g.V.Volume.keeper g.A.Application.behaviour p h =
    record { is = c.pass.invariant; own = c.in-Ok.ensures.continues.0; goes_on = c.in-Ok.ensures.continues.1; eight = c.keeps.ensures.eight } in
    let t = c.self.inside in
    let now = c.turn-answer.new.self in
    let made = c.turn-answer.ensures in
    let name = name_of t.storage in
    let gives =
    turn_gives g.V.Volume.keeper g.A.Application.behaviour p h now takes made.origin c.keeps-in-Ok.ensures name c.args.instance c.turn-answer.result made.ok made.same made.err made.why in
    let u = known c.try_take.new.seat in
    let w = known c.give.new.seat in
    let id = cell_id_of c.give.new.seat in
    let back =
    gave_back g.V.Volume.keeper g.A.Application.behaviour (λ x. cell_id x) t.cells.items c.index-cell.result.now (cell_id t.storage) c.args.self.now p c.args.pass.now c.pass.view_is
    c.requires.of c.self.view_is c.index-cell.ensures h now _ gives id u w c.give.ensures.own c.in-Ok.ensures.others c.give.ensures.given in
    back.is

pub returns-in-Ok-clause-of : goal.returns-in-Ok-clause-of
returns-in-Ok-clause-of g c =
    let s = c.pass.inside in
    let h = c.in-Ok.hosted in
    let p : PassView g.row.V.Denot g.row.A.Denot = record { app = s.app; client = s.client; calls = s.calls; cell = cell_id_of s.seat; seat = known s.seat } in
    let takes : Takes g.V.Volume.keeper g.A.Application.behaviour p h =
    record { is = c.pass.invariant; own = c.in-Ok.ensures.continues.0; goes_on = c.in-Ok.ensures.continues.1; eight = c.keeps.ensures.eight } in
    let t = c.self.inside in
    let now = c.turn-answer.new.self in
    let made = c.turn-answer.ensures in
    let name = name_of t.storage in
    let gives =
    turn_gives g.V.Volume.keeper g.A.Application.behaviour p h now takes made.origin c.keeps-in-Ok.ensures name c.args.instance c.turn-answer.result made.ok made.same made.err made.why in
    let u = known c.try_take.new.seat in
    let w = known c.give.new.seat in
    let id = cell_id_of c.give.new.seat in
    let back =
    gave_back g.V.Volume.keeper g.A.Application.behaviour (λ x. cell_id x) t.cells.items c.index-cell.result.now (cell_id t.storage) c.args.self.now p c.args.pass.now c.pass.view_is
    c.requires.of c.self.view_is c.index-cell.ensures h now _ gives id u w c.give.ensures.own c.in-Ok.ensures.others c.give.ensures.given in
    back.of

pub returns-in-Ok-clause-goes : goal.returns-in-Ok-clause-goes
returns-in-Ok-clause-goes g c =
    let s = c.pass.inside in
    let h = c.in-Ok.hosted in
    let p : PassView g.row.V.Denot g.row.A.Denot = record { app = s.app; client = s.client; calls = s.calls; cell = cell_id_of s.seat; seat = known s.seat } in
    let takes : Takes g.V.Volume.keeper g.A.Application.behaviour p h =
    record { is = c.pass.invariant; own = c.in-Ok.ensures.continues.0; goes_on = c.in-Ok.ensures.continues.1; eight = c.keeps.ensures.eight } in
    let t = c.self.inside in
    let now = c.turn-answer.new.self in
    let made = c.turn-answer.ensures in
    let name = name_of t.storage in
    let gives =
    turn_gives g.V.Volume.keeper g.A.Application.behaviour p h now takes made.origin c.keeps-in-Ok.ensures name c.args.instance c.turn-answer.result made.ok made.same made.err made.why in
    let u = known c.try_take.new.seat in
    let w = known c.give.new.seat in
    let id = cell_id_of c.give.new.seat in
    let back =
    gave_back g.V.Volume.keeper g.A.Application.behaviour (λ x. cell_id x) t.cells.items c.index-cell.result.now (cell_id t.storage) c.args.self.now p c.args.pass.now c.pass.view_is
    c.requires.of c.self.view_is c.index-cell.ensures h now _ gives id u w c.give.ensures.own c.in-Ok.ensures.others c.give.ensures.given in
    back.goes

pub returns-in-Ok-clause-ok : goal.returns-in-Ok-clause-ok
returns-in-Ok-clause-ok g c =
    let s = c.pass.inside in
    let h = c.in-Ok.hosted in
    let p : PassView g.row.V.Denot g.row.A.Denot = record { app = s.app; client = s.client; calls = s.calls; cell = cell_id_of s.seat; seat = known s.seat } in
    let takes : Takes g.V.Volume.keeper g.A.Application.behaviour p h =
    record { is = c.pass.invariant; own = c.in-Ok.ensures.continues.0; goes_on = c.in-Ok.ensures.continues.1; eight = c.keeps.ensures.eight } in
    let t = c.self.inside in
    let now = c.turn-answer.new.self in
    let made = c.turn-answer.ensures in
    let name = name_of t.storage in
    let gives =
    turn_gives g.V.Volume.keeper g.A.Application.behaviour p h now takes made.origin c.keeps-in-Ok.ensures name c.args.instance c.turn-answer.result made.ok made.same made.err made.why in
    let u = known c.try_take.new.seat in
    let w = known c.give.new.seat in
    let id = cell_id_of c.give.new.seat in
    let new : PassView g.row.V.Denot g.row.A.Denot = record { app = s.app; client = s.client; calls = s.calls + 1; cell = id; seat = w } in
    let back =
    gave_back g.V.Volume.keeper g.A.Application.behaviour (λ x. cell_id x) t.cells.items c.index-cell.result.now (cell_id t.storage) c.args.self.now p c.args.pass.now c.pass.view_is
    c.requires.of c.self.view_is c.index-cell.ensures h now _ gives id u w c.give.ensures.own c.in-Ok.ensures.others c.give.ensures.given in
    subst (λ (x : PassView g.row.V.Denot g.row.A.Denot). IfOk c.turn-answer.result (λ kind. MakesOneTurn (event_of kind c.args.instance) x new)) c.pass.view_is
    (turned_ok g.V.Volume.keeper g.A.Application.behaviour p h now takes made.origin c.keeps-in-Ok.ensures name c.args.instance gives id back.same_cell u w u.turn
    c.in-Ok.ensures.others c.give.ensures.given c.turn-answer.result made.ok made.room made.same)

pub returns-in-Ok-clause-err : goal.returns-in-Ok-clause-err
returns-in-Ok-clause-err g c =
    let s = c.pass.inside in
    let h = c.in-Ok.hosted in
    let p : PassView g.row.V.Denot g.row.A.Denot = record { app = s.app; client = s.client; calls = s.calls; cell = cell_id_of s.seat; seat = known s.seat } in
    let takes : Takes g.V.Volume.keeper g.A.Application.behaviour p h =
    record { is = c.pass.invariant; own = c.in-Ok.ensures.continues.0; goes_on = c.in-Ok.ensures.continues.1; eight = c.keeps.ensures.eight } in
    let t = c.self.inside in
    let now = c.turn-answer.new.self in
    let made = c.turn-answer.ensures in
    let name = name_of t.storage in
    let gives =
    turn_gives g.V.Volume.keeper g.A.Application.behaviour p h now takes made.origin c.keeps-in-Ok.ensures name c.args.instance c.turn-answer.result made.ok made.same made.err made.why in
    let u = known c.try_take.new.seat in
    let w = known c.give.new.seat in
    let id = cell_id_of c.give.new.seat in
    let new : PassView g.row.V.Denot g.row.A.Denot = record { app = s.app; client = s.client; calls = s.calls + 1; cell = id; seat = w } in
    let back =
    gave_back g.V.Volume.keeper g.A.Application.behaviour (λ x. cell_id x) t.cells.items c.index-cell.result.now (cell_id t.storage) c.args.self.now p c.args.pass.now c.pass.view_is
    c.requires.of c.self.view_is c.index-cell.ensures h now _ gives id u w c.give.ensures.own c.in-Ok.ensures.others c.give.ensures.given in
    subst (λ (x : PassView g.row.V.Denot g.row.A.Denot). IfErr c.turn-answer.result (λ why. IsTurnRefused g.V.Volume.keeper g.A.Application.behaviour why c.args.instance x new)) c.pass.view_is
    (turned_err g.V.Volume.keeper g.A.Application.behaviour p h now takes made.origin c.keeps-in-Ok.ensures name c.args.instance gives id back.same_cell u w u.turn
    c.in-Ok.ensures.others c.give.ensures.given c.turn-answer.result c.self.invariant.name made.err made.why made.wants)

pub invariant_of-pass-in-Err : goal.invariant_of-pass-in-Err
invariant_of-pass-in-Err g c =
    let s = c.pass.inside in
    let p : PassView g.row.V.Denot g.row.A.Denot = record { app = s.app; client = s.client; calls = s.calls; cell = cell_id_of s.seat; seat = known s.seat } in
    let t = c.self.inside in
    let vain =
    tried_in_vain g.V.Volume.keeper g.A.Application.behaviour (λ x. cell_id x) t.cells.items c.index-cell.result.now (cell_id t.storage) c.args.self.now p c.args.pass.now c.pass.view_is
    c.requires.of c.self.view_is c.index-cell.ensures c.pass.invariant (cell_id_of c.try_take.new.seat) (known c.try_take.new.seat)
    c.in-Err.busy.word c.in-Err.ensures.own c.in-Err.ensures.missed in
    vain.is

pub returns-in-Err-clause-of : goal.returns-in-Err-clause-of
returns-in-Err-clause-of g c =
    let s = c.pass.inside in
    let p : PassView g.row.V.Denot g.row.A.Denot = record { app = s.app; client = s.client; calls = s.calls; cell = cell_id_of s.seat; seat = known s.seat } in
    let t = c.self.inside in
    let vain =
    tried_in_vain g.V.Volume.keeper g.A.Application.behaviour (λ x. cell_id x) t.cells.items c.index-cell.result.now (cell_id t.storage) c.args.self.now p c.args.pass.now c.pass.view_is
    c.requires.of c.self.view_is c.index-cell.ensures c.pass.invariant (cell_id_of c.try_take.new.seat) (known c.try_take.new.seat)
    c.in-Err.busy.word c.in-Err.ensures.own c.in-Err.ensures.missed in
    vain.of

pub returns-in-Err-clause-goes : goal.returns-in-Err-clause-goes
returns-in-Err-clause-goes g c =
    let s = c.pass.inside in
    let p : PassView g.row.V.Denot g.row.A.Denot = record { app = s.app; client = s.client; calls = s.calls; cell = cell_id_of s.seat; seat = known s.seat } in
    let t = c.self.inside in
    let vain =
    tried_in_vain g.V.Volume.keeper g.A.Application.behaviour (λ x. cell_id x) t.cells.items c.index-cell.result.now (cell_id t.storage) c.args.self.now p c.args.pass.now c.pass.view_is
    c.requires.of c.self.view_is c.index-cell.ensures c.pass.invariant (cell_id_of c.try_take.new.seat) (known c.try_take.new.seat)
    c.in-Err.busy.word c.in-Err.ensures.own c.in-Err.ensures.missed in
    vain.goes

pub returns-in-Err-clause-err : goal.returns-in-Err-clause-err
returns-in-Err-clause-err g c =
    let s = c.pass.inside in
    let p : PassView g.row.V.Denot g.row.A.Denot = record { app = s.app; client = s.client; calls = s.calls; cell = cell_id_of s.seat; seat = known s.seat } in
    let t = c.self.inside in
    let vain =
    tried_in_vain g.V.Volume.keeper g.A.Application.behaviour (λ x. cell_id x) t.cells.items c.index-cell.result.now (cell_id t.storage) c.args.self.now p c.args.pass.now c.pass.view_is
    c.requires.of c.self.view_is c.index-cell.ensures c.pass.invariant (cell_id_of c.try_take.new.seat) (known c.try_take.new.seat)
    c.in-Err.busy.word c.in-Err.ensures.own c.in-Err.ensures.missed in
    let new : PassView g.row.V.Denot g.row.A.Denot = record { app = s.app; client = s.client; calls = s.calls + 1; cell = cell_id_of c.try_take.new.seat; seat = known c.try_take.new.seat } in
    let named = (c.self.invariant.each s.app c.index-cell.result.now vain.found).name in
    subst (λ (x : PassView g.row.V.Denot g.row.A.Denot). IsTurnRefused g.V.Volume.keeper g.A.Application.behaviour (answers.Busy c.in-Err.busy) c.args.instance x new) c.pass.view_is
    (c.in-Err.ensures.busy.1, inl (c.in-Err.ensures.busy.0 ∙ named, vain.misses))
