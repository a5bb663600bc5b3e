use Rattle.std.proofs.Common.{◌≡◌, ◌∙◌, [], ap, append-nil, refl, subst, sym}
use Rattle.turn_cell.specs.Words.{TableId, cell_id, cell_id_of, view as known}
use Rattle.shared_parts.specs.Seating.{FitsSeat, seated_view}
use Rattle.shared_tee.specs.Passes.{PassView}
use Rattle.shared_tee.proofs.PauseLemmas.{gives_parts_back, gives_trail_back, learned, paused_back, paused_storage}
use Rattle.shared_tee.proofs.shared.SharedTeeOver.pause.Goals as goal

-- ---- the application's own cell

pub give-requires-clause-trail : goal.give-requires-clause-trail
give-requires-clause-trail g c =
    let s = c.pass.inside in
    let t = c.self.inside in
    let h = c.take-hosted.result in
    let u = known c.take-hosted.new.seat in
    let p : PassView g.row.V.Denot g.row.A.Denot = record { app = s.app; client = s.client; calls = s.calls; cell = cell_id_of s.seat; seat = known s.seat } in
    let took = c.take-hosted.ensures in
    gives_trail_back g.V.Volume.keeper g.A.Application.behaviour (λ x. cell_id x) t.cells.items c.index-own.result.now (cell_id t.storage) c.args.self.now p c.args.pass.now c.pass.view_is
    c.pass.invariant c.requires.of c.self.view_is c.index-own.ensures h u took.others took.continues.0 took.continues.1 c.keeps.ensures h refl took.taken.2

pub invariant_of-pass : goal.invariant_of-pass
invariant_of-pass g c =
    let s = c.pass.inside in
    let t = c.self.inside in
    let h = c.take-hosted.result in
    let u = known c.take-hosted.new.seat in
    let p : PassView g.row.V.Denot g.row.A.Denot = record { app = s.app; client = s.client; calls = s.calls; cell = cell_id_of s.seat; seat = known s.seat } in
    let took = c.take-hosted.ensures in
    (paused_back g.V.Volume.keeper g.A.Application.behaviour (λ x. cell_id x) t.cells.items c.index-own.result.now (cell_id t.storage) c.args.self.now p c.args.pass.now c.pass.view_is
    c.pass.invariant c.requires.of c.self.view_is c.index-own.ensures h u took.others took.continues.0 took.continues.1 c.keeps.ensures h refl (cell_id_of c.give.new.seat)
    c.give.ensures.own (known c.give.new.seat) c.give.ensures.given).is

pub returns-then-cell-ne-STORAGE_CELL-clause-of : goal.returns-then-cell-ne-STORAGE_CELL-clause-of
returns-then-cell-ne-STORAGE_CELL-clause-of g c =
    let s = c.pass.inside in
    let t = c.self.inside in
    let h = c.take-hosted.result in
    let u = known c.take-hosted.new.seat in
    let p : PassView g.row.V.Denot g.row.A.Denot = record { app = s.app; client = s.client; calls = s.calls; cell = cell_id_of s.seat; seat = known s.seat } in
    let took = c.take-hosted.ensures in
    (paused_back g.V.Volume.keeper g.A.Application.behaviour (λ x. cell_id x) t.cells.items c.index-own.result.now (cell_id t.storage) c.args.self.now p c.args.pass.now c.pass.view_is
    c.pass.invariant c.requires.of c.self.view_is c.index-own.ensures h u took.others took.continues.0 took.continues.1 c.keeps.ensures h refl (cell_id_of c.give.new.seat)
    c.give.ensures.own (known c.give.new.seat) c.give.ensures.given).of

pub returns-then-cell-ne-STORAGE_CELL-clause-goes : goal.returns-then-cell-ne-STORAGE_CELL-clause-goes
returns-then-cell-ne-STORAGE_CELL-clause-goes g c =
    let s = c.pass.inside in
    let t = c.self.inside in
    let h = c.take-hosted.result in
    let u = known c.take-hosted.new.seat in
    let p : PassView g.row.V.Denot g.row.A.Denot = record { app = s.app; client = s.client; calls = s.calls; cell = cell_id_of s.seat; seat = known s.seat } in
    let took = c.take-hosted.ensures in
    (paused_back g.V.Volume.keeper g.A.Application.behaviour (λ x. cell_id x) t.cells.items c.index-own.result.now (cell_id t.storage) c.args.self.now p c.args.pass.now c.pass.view_is
    c.pass.invariant c.requires.of c.self.view_is c.index-own.ensures h u took.others took.continues.0 took.continues.1 c.keeps.ensures h refl (cell_id_of c.give.new.seat)
    c.give.ensures.own (known c.give.new.seat) c.give.ensures.given).goes

pub returns-then-cell-ne-STORAGE_CELL-clause-same : goal.returns-then-cell-ne-STORAGE_CELL-clause-same
returns-then-cell-ne-STORAGE_CELL-clause-same g c =
    let s = c.pass.inside in
    let t = c.self.inside in
    let h = c.take-hosted.result in
    let u = known c.take-hosted.new.seat in
    let p : PassView g.row.V.Denot g.row.A.Denot = record { app = s.app; client = s.client; calls = s.calls; cell = cell_id_of s.seat; seat = known s.seat } in
    let took = c.take-hosted.ensures in
    (paused_back g.V.Volume.keeper g.A.Application.behaviour (λ x. cell_id x) t.cells.items c.index-own.result.now (cell_id t.storage) c.args.self.now p c.args.pass.now c.pass.view_is
    c.pass.invariant c.requires.of c.self.view_is c.index-own.ensures h u took.others took.continues.0 took.continues.1 c.keeps.ensures h refl (cell_id_of c.give.new.seat)
    c.give.ensures.own (known c.give.new.seat) c.give.ensures.given).same

-- ---- the storage's cell

pub give-requires-2-clause-trail : goal.give-requires-2-clause-trail
give-requires-2-clause-trail g c =
    ([], append-nil _ ∙ c.take-storage.ensures.taken.2)

pub give-requires-3-clause-parts : goal.give-requires-3-clause-parts
give-requires-3-clause-parts g c =
    let s = c.pass.inside in
    let t = c.self.inside in
    let h = c.take-hosted.result in
    let u = known c.take-hosted.new.seat in
    let p : PassView g.row.V.Denot g.row.A.Denot = record { app = s.app; client = s.client; calls = s.calls; cell = cell_id_of s.seat; seat = known s.seat } in
    let took = c.take-hosted.ensures in
    let x = c.unseat-unseated.ensures in
    let apart = c.unseat-unseated.result.0 in
    let v = known c.unseat-unseated.result.1 in
    let there : cell_id_of c.give-2.new.seat ≡ cell_id_of c.unseat-unseated.result.1 =
    c.give-2.ensures.own ∙ paused_storage g.V.Volume.keeper g.A.Application.behaviour (λ x. cell_id x) t.cells.items c.index-own.result.now (cell_id t.storage) c.args.self.now p
    c.args.pass.now c.pass.view_is
    c.pass.invariant c.requires.of c.self.view_is c.index-own.ensures h u took.others took.continues.0 took.continues.1 c.keeps.ensures ∙ sym x.cell in
    let same : c.seat.result ≡ h =
    c.seat.ensures v (subst (λ (i : TableId). FitsSeat g.V.Volume.keeper g.A.Application.behaviour apart i v) (sym there) x.fits)
    (learned v (known c.take-storage.new.seat) (known c.give-2.new.seat) (known c.take-storage.new.seat).turn (known c.take-storage.new.seat).waiting_tries c.take-storage.result.parts
    c.take-storage.result.trail c.take-storage.ensures.others c.take-storage.ensures.continues.0 c.take-storage.ensures.continues.1 c.give-2.ensures.given)
    ∙ ap (λ (i : TableId). seated_view apart i v) there ∙ sym x.value in
    gives_parts_back g.V.Volume.keeper g.A.Application.behaviour (λ x. cell_id x) t.cells.items c.index-own.result.now (cell_id t.storage) c.args.self.now p c.args.pass.now c.pass.view_is
    c.pass.invariant c.requires.of c.self.view_is c.index-own.ensures h u took.others took.continues.0 took.continues.1 c.keeps.ensures c.seat.result same took.taken.1

pub give-requires-3-clause-trail : goal.give-requires-3-clause-trail
give-requires-3-clause-trail g c =
    let s = c.pass.inside in
    let t = c.self.inside in
    let h = c.take-hosted.result in
    let u = known c.take-hosted.new.seat in
    let p : PassView g.row.V.Denot g.row.A.Denot = record { app = s.app; client = s.client; calls = s.calls; cell = cell_id_of s.seat; seat = known s.seat } in
    let took = c.take-hosted.ensures in
    let x = c.unseat-unseated.ensures in
    let apart = c.unseat-unseated.result.0 in
    let v = known c.unseat-unseated.result.1 in
    let there : cell_id_of c.give-2.new.seat ≡ cell_id_of c.unseat-unseated.result.1 =
    c.give-2.ensures.own ∙ paused_storage g.V.Volume.keeper g.A.Application.behaviour (λ x. cell_id x) t.cells.items c.index-own.result.now (cell_id t.storage) c.args.self.now p
    c.args.pass.now c.pass.view_is
    c.pass.invariant c.requires.of c.self.view_is c.index-own.ensures h u took.others took.continues.0 took.continues.1 c.keeps.ensures ∙ sym x.cell in
    let same : c.seat.result ≡ h =
    c.seat.ensures v (subst (λ (i : TableId). FitsSeat g.V.Volume.keeper g.A.Application.behaviour apart i v) (sym there) x.fits)
    (learned v (known c.take-storage.new.seat) (known c.give-2.new.seat) (known c.take-storage.new.seat).turn (known c.take-storage.new.seat).waiting_tries c.take-storage.result.parts
    c.take-storage.result.trail c.take-storage.ensures.others c.take-storage.ensures.continues.0 c.take-storage.ensures.continues.1 c.give-2.ensures.given)
    ∙ ap (λ (i : TableId). seated_view apart i v) there ∙ sym x.value in
    gives_trail_back g.V.Volume.keeper g.A.Application.behaviour (λ x. cell_id x) t.cells.items c.index-own.result.now (cell_id t.storage) c.args.self.now p c.args.pass.now c.pass.view_is
    c.pass.invariant c.requires.of c.self.view_is c.index-own.ensures h u took.others took.continues.0 took.continues.1 c.keeps.ensures c.seat.result same took.taken.2

pub invariant_of-pass-2 : goal.invariant_of-pass-2
invariant_of-pass-2 g c =
    let s = c.pass.inside in
    let t = c.self.inside in
    let h = c.take-hosted.result in
    let u = known c.take-hosted.new.seat in
    let p : PassView g.row.V.Denot g.row.A.Denot = record { app = s.app; client = s.client; calls = s.calls; cell = cell_id_of s.seat; seat = known s.seat } in
    let took = c.take-hosted.ensures in
    let x = c.unseat-unseated.ensures in
    let apart = c.unseat-unseated.result.0 in
    let v = known c.unseat-unseated.result.1 in
    let there : cell_id_of c.give-2.new.seat ≡ cell_id_of c.unseat-unseated.result.1 =
    c.give-2.ensures.own ∙ paused_storage g.V.Volume.keeper g.A.Application.behaviour (λ x. cell_id x) t.cells.items c.index-own.result.now (cell_id t.storage) c.args.self.now p
    c.args.pass.now c.pass.view_is
    c.pass.invariant c.requires.of c.self.view_is c.index-own.ensures h u took.others took.continues.0 took.continues.1 c.keeps.ensures ∙ sym x.cell in
    let same : c.seat.result ≡ h =
    c.seat.ensures v (subst (λ (i : TableId). FitsSeat g.V.Volume.keeper g.A.Application.behaviour apart i v) (sym there) x.fits)
    (learned v (known c.take-storage.new.seat) (known c.give-2.new.seat) (known c.take-storage.new.seat).turn (known c.take-storage.new.seat).waiting_tries c.take-storage.result.parts
    c.take-storage.result.trail c.take-storage.ensures.others c.take-storage.ensures.continues.0 c.take-storage.ensures.continues.1 c.give-2.ensures.given)
    ∙ ap (λ (i : TableId). seated_view apart i v) there ∙ sym x.value in
    (paused_back g.V.Volume.keeper g.A.Application.behaviour (λ x. cell_id x) t.cells.items c.index-own.result.now (cell_id t.storage) c.args.self.now p c.args.pass.now c.pass.view_is
    c.pass.invariant c.requires.of c.self.view_is c.index-own.ensures h u took.others took.continues.0 took.continues.1 c.keeps.ensures c.seat.result same (cell_id_of
    c.give-3.new.seat) c.give-3.ensures.own (known c.give-3.new.seat) c.give-3.ensures.given).is

pub returns-clause-of : goal.returns-clause-of
returns-clause-of g c =
    let s = c.pass.inside in
    let t = c.self.inside in
    let h = c.take-hosted.result in
    let u = known c.take-hosted.new.seat in
    let p : PassView g.row.V.Denot g.row.A.Denot = record { app = s.app; client = s.client; calls = s.calls; cell = cell_id_of s.seat; seat = known s.seat } in
    let took = c.take-hosted.ensures in
    let x = c.unseat-unseated.ensures in
    let apart = c.unseat-unseated.result.0 in
    let v = known c.unseat-unseated.result.1 in
    let there : cell_id_of c.give-2.new.seat ≡ cell_id_of c.unseat-unseated.result.1 =
    c.give-2.ensures.own ∙ paused_storage g.V.Volume.keeper g.A.Application.behaviour (λ x. cell_id x) t.cells.items c.index-own.result.now (cell_id t.storage) c.args.self.now p
    c.args.pass.now c.pass.view_is
    c.pass.invariant c.requires.of c.self.view_is c.index-own.ensures h u took.others took.continues.0 took.continues.1 c.keeps.ensures ∙ sym x.cell in
    let same : c.seat.result ≡ h =
    c.seat.ensures v (subst (λ (i : TableId). FitsSeat g.V.Volume.keeper g.A.Application.behaviour apart i v) (sym there) x.fits)
    (learned v (known c.take-storage.new.seat) (known c.give-2.new.seat) (known c.take-storage.new.seat).turn (known c.take-storage.new.seat).waiting_tries c.take-storage.result.parts
    c.take-storage.result.trail c.take-storage.ensures.others c.take-storage.ensures.continues.0 c.take-storage.ensures.continues.1 c.give-2.ensures.given)
    ∙ ap (λ (i : TableId). seated_view apart i v) there ∙ sym x.value in
    (paused_back g.V.Volume.keeper g.A.Application.behaviour (λ x. cell_id x) t.cells.items c.index-own.result.now (cell_id t.storage) c.args.self.now p c.args.pass.now c.pass.view_is
    c.pass.invariant c.requires.of c.self.view_is c.index-own.ensures h u took.others took.continues.0 took.continues.1 c.keeps.ensures c.seat.result same (cell_id_of
    c.give-3.new.seat) c.give-3.ensures.own (known c.give-3.new.seat) c.give-3.ensures.given).of

pub returns-clause-goes : goal.returns-clause-goes
returns-clause-goes g c =
    let s = c.pass.inside in
    let t = c.self.inside in
    let h = c.take-hosted.result in
    let u = known c.take-hosted.new.seat in
    let p : PassView g.row.V.Denot g.row.A.Denot = record { app = s.app; client = s.client; calls = s.calls; cell = cell_id_of s.seat; seat = known s.seat } in
    let took = c.take-hosted.ensures in
    let x = c.unseat-unseated.ensures in
    let apart = c.unseat-unseated.result.0 in
    let v = known c.unseat-unseated.result.1 in
    let there : cell_id_of c.give-2.new.seat ≡ cell_id_of c.unseat-unseated.result.1 =
    c.give-2.ensures.own ∙ paused_storage g.V.Volume.keeper g.A.Application.behaviour (λ x. cell_id x) t.cells.items c.index-own.result.now (cell_id t.storage) c.args.self.now p
    c.args.pass.now c.pass.view_is
    c.pass.invariant c.requires.of c.self.view_is c.index-own.ensures h u took.others took.continues.0 took.continues.1 c.keeps.ensures ∙ sym x.cell in
    let same : c.seat.result ≡ h =
    c.seat.ensures v (subst (λ (i : TableId). FitsSeat g.V.Volume.keeper g.A.Application.behaviour apart i v) (sym there) x.fits)
    (learned v (known c.take-storage.new.seat) (known c.give-2.new.seat) (known c.take-storage.new.seat).turn (known c.take-storage.new.seat).waiting_tries c.take-storage.result.parts
    c.take-storage.result.trail c.take-storage.ensures.others c.take-storage.ensures.continues.0 c.take-storage.ensures.continues.1 c.give-2.ensures.given)
    ∙ ap (λ (i : TableId). seated_view apart i v) there ∙ sym x.value in
    (paused_back g.V.Volume.keeper g.A.Application.behaviour (λ x. cell_id x) t.cells.items c.index-own.result.now (cell_id t.storage) c.args.self.now p c.args.pass.now c.pass.view_is
    c.pass.invariant c.requires.of c.self.view_is c.index-own.ensures h u took.others took.continues.0 took.continues.1 c.keeps.ensures c.seat.result same (cell_id_of
    c.give-3.new.seat) c.give-3.ensures.own (known c.give-3.new.seat) c.give-3.ensures.given).goes

pub returns-clause-same : goal.returns-clause-same
returns-clause-same g c =
    let s = c.pass.inside in
    let t = c.self.inside in
    let h = c.take-hosted.result in
    let u = known c.take-hosted.new.seat in
    let p : PassView g.row.V.Denot g.row.A.Denot = record { app = s.app; client = s.client; calls = s.calls; cell = cell_id_of s.seat; seat = known s.seat } in
    let took = c.take-hosted.ensures in
    let x = c.unseat-unseated.ensures in
    let apart = c.unseat-unseated.result.0 in
    let v = known c.unseat-unseated.result.1 in
    let there : cell_id_of c.give-2.new.seat ≡ cell_id_of c.unseat-unseated.result.1 =
    c.give-2.ensures.own ∙ paused_storage g.V.Volume.keeper g.A.Application.behaviour (λ x. cell_id x) t.cells.items c.index-own.result.now (cell_id t.storage) c.args.self.now p
    c.args.pass.now c.pass.view_is
    c.pass.invariant c.requires.of c.self.view_is c.index-own.ensures h u took.others took.continues.0 took.continues.1 c.keeps.ensures ∙ sym x.cell in
    let same : c.seat.result ≡ h =
    c.seat.ensures v (subst (λ (i : TableId). FitsSeat g.V.Volume.keeper g.A.Application.behaviour apart i v) (sym there) x.fits)
    (learned v (known c.take-storage.new.seat) (known c.give-2.new.seat) (known c.take-storage.new.seat).turn (known c.take-storage.new.seat).waiting_tries c.take-storage.result.parts
    c.take-storage.result.trail c.take-storage.ensures.others c.take-storage.ensures.continues.0 c.take-storage.ensures.continues.1 c.give-2.ensures.given)
    ∙ ap (λ (i : TableId). seated_view apart i v) there ∙ sym x.value in
    (paused_back g.V.Volume.keeper g.A.Application.behaviour (λ x. cell_id x) t.cells.items c.index-own.result.now (cell_id t.storage) c.args.self.now p c.args.pass.now c.pass.view_is
    c.pass.invariant c.requires.of c.self.view_is c.index-own.ensures h u took.others took.continues.0 took.continues.1 c.keeps.ensures c.seat.result same (cell_id_of
    c.give-3.new.seat) c.give-3.ensures.own (known c.give-3.new.seat) c.give-3.ensures.given).same
