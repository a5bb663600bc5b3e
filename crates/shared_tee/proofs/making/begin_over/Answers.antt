use Rattle.std.proofs.Common.{◌≡◌, ◌≤◌, List, Err, length, sym, subst, ◌∙◌, ap, arith}
use Rattle.std.proofs.lemmas.Result.{err_from_is_err_and}
use Rattle.std.specs.Prelude.{Some, slice_get}
use Rattle.turn_cell.specs.Words.{cell_id, view as known}
use Rattle.turn_cell.specs.declared.cell.TurnCell.{TurnCell}
use Rattle.app_side.specs.declared.side.AppSide.{AppSide}
use Rattle.tee_core.proofs.Opens.{told_err}
use Rattle.tee_core.specs.Sides.{IsNoneInDoubt}
use Rattle.shared_parts.specs.HostedApps.{ClientPart, HostedEvent, HostedView}
use Rattle.shared_tee.proofs.BeginLemmas.{idle, none_in_doubt, sides_count}
use Rattle.shared_tee.proofs.MakeLemmas.{begins_over, begun_count, cells_begun, cells_count}
use Rattle.shared_tee.proofs.StoredLemmas.{closed_back, just_back}
use Rattle.shared_tee.specs.Making.{AreBegun, ComesBack, ComesBackOpened, origins_over}
use Rattle.shared_tee.proofs.making.begin_over.Goals as goal

pub begin_storage-requires-clause-some : goal.begin_storage-requires-clause-some
begin_storage-requires-clause-some g c =
    let room = c.requires.room in
    let same = ap (λ (ss : List (AppSide g.row.A.Denot)). length ss) c.as_slice.ensures.value in
    let count = sides_count room.1 0 room.0 c.args.room.sides.items room.3.sides in
    let some = room.2.some in
    omega (arith, same, count, some)

pub begin_storage-requires-clause-few : goal.begin_storage-requires-clause-few
begin_storage-requires-clause-few g c =
    let room = c.requires.room in
    let same = ap (λ (ss : List (AppSide g.row.A.Denot)). length ss) c.as_slice.ensures.value in
    subst (λ n. n ≤ 16) (sym (same ∙ sides_count room.1 0 room.0 c.args.room.sides.items room.3.sides)) room.2.few

pub begin_storage-requires-clause-calm : goal.begin_storage-requires-clause-calm
begin_storage-requires-clause-calm g c =
    let room = c.requires.room in
    subst (λ (ss : List (AppSide g.row.A.Denot)). IsNoneInDoubt ss) (sym c.as_slice.ensures.value)
    (none_in_doubt 0 c.args.room.sides.items (idle room.1 0 room.0 c.args.room.sides.items room.3.sides))

pub returns-in_err-storage-clause-err : goal.returns-in_err-storage-clause-err
returns-in_err-storage-clause-err g c =
    let room = c.requires.room in
    let sides = c.args.room.sides.items in
    let count = sides_count room.1 0 room.0 sides room.3.sides in
    let some = room.2.some in
    let told = err_from_is_err_and c.from_residual.result c.from_residual.ensures.1 in
    let same : told.0 ≡ c.in_err-storage.field-0.0 = told.2 in
    let is : c.from_residual.result ≡ Err c.in_err-storage.field-0.0 = told.1 ∙ ap Err same in
    told_err c.from_residual.result c.in_err-storage.field-0.0 _ is
    (just_back g.V.Volume.keeper g.A.Application.behaviour c.args.volume g.met.V.Volume.rests c.requires.works sides (omega (arith, count, some))
    (none_in_doubt 0 sides (idle room.1 0 room.0 sides room.3.sides)) c.in_err-storage.field-0.0 c.in_err-storage.ensures.err)

pub begin_all-requires-clause-few : goal.begin_all-requires-clause-few
begin_all-requires-clause-few g c =
    let room = c.requires.room in
    subst (λ n. n ≤ 16) (sym (sides_count room.1 0 room.0 c.args.room.sides.items room.3.sides)) room.2.few

pub begin_all-requires-clause-room : goal.begin_all-requires-clause-room
begin_all-requires-clause-room g c =
    let room = c.requires.room in
    let count = sides_count room.1 0 room.0 c.args.room.sides.items room.3.sides in
    let fits = room.3.begun.1 in
    omega (arith, count, fits)

pub begin_all-requires-clause-idle : goal.begin_all-requires-clause-idle
begin_all-requires-clause-idle g c = let room = c.requires.room in idle room.1 0 room.0 c.args.room.sides.items room.3.sides

pub deal_all-requires-clause-few : goal.deal_all-requires-clause-few
deal_all-requires-clause-few g c =
    let room = c.requires.room in
    let sides = c.args.room.sides.items in
    subst (λ n. n ≤ 16)
    (sym (begun_count g.V.Volume.keeper (cell_id c.in_ok-storage.storage) (length sides) c.of-opened.result.value 0 sides c.begin_all.new.begun.items c.in-Ok.ensures.ok
    ∙ sides_count room.1 0 room.0 sides room.3.sides)) room.2.few

pub deal_all-requires-clause-cells : goal.deal_all-requires-clause-cells
deal_all-requires-clause-cells g c =
    let room = c.requires.room in
    let sides = c.args.room.sides.items in
    let begun = begun_count g.V.Volume.keeper (cell_id c.in_ok-storage.storage) (length sides) c.of-opened.result.value 0 sides c.begin_all.new.begun.items c.in-Ok.ensures.ok in
    let count = sides_count room.1 0 room.0 sides room.3.sides in
    let fits = room.3.cells.1 in
    (room.3.cells.0, omega (arith, begun, count, fits))

pub deal_all-requires-clause-passes : goal.deal_all-requires-clause-passes
deal_all-requires-clause-passes g c =
    let room = c.requires.room in
    let sides = c.args.room.sides.items in
    let begun = begun_count g.V.Volume.keeper (cell_id c.in_ok-storage.storage) (length sides) c.of-opened.result.value 0 sides c.begin_all.new.begun.items c.in-Ok.ensures.ok in
    let count = sides_count room.1 0 room.0 sides room.3.sides in
    let fits = room.3.passes.1 in
    (room.3.passes.0, omega (arith, begun, count, fits))

pub invariant_of-tee : goal.invariant_of-tee
invariant_of-tee g c =
    let K = g.V.Volume.keeper in
    let room = c.requires.room in
    let sides = c.args.room.sides.items in
    let storage = c.in_ok-storage.storage in
    let opened = c.of-opened.result.value in
    let begun = c.begin_all.new.begun.items in
    let are = c.in-Ok.ensures.ok in
    let cells = c.deal_all.new.cells.items in
    let cells_are = c.deal_all.ensures.cells in
    let many = cells_count K room.0 room.1 sides room.3.sides opened storage begun are cells cells_are in
    let count = sides_count room.1 0 room.0 sides room.3.sides in
    let some = room.2.some in let fits = room.3.logs.1 in
    record {
      some = omega (arith, many, count, some);
      few = subst (λ n. n ≤ 16) (sym (many ∙ count)) room.2.few;
      each = λ app cell here. cells_begun 0 app app (origins_over K (cell_id storage) (length sides) opened 0 sides) begun cell (omega arith) are
          (subst (λ (cs : List (TurnCell (HostedView g.row.V.Denot g.row.A.Denot) ClientPart (HostedEvent g.row.V.Denot g.row.A.Denot))). slice_get cs app ≡ Some cell) cells_are here);
      name = c.in_ok-storage.ensures.name;
      parts = c.in_ok-storage.ensures.parts ∙ ap (λ (ss : List (AppSide g.row.A.Denot)). length ss) c.as_slice.ensures.value ∙ sym many;
      none = room.3.logs.0;
      room = omega (arith, many, count, fits);
    }

pub returns-in-Ok-clause-ok : goal.returns-in-Ok-clause-ok
returns-in-Ok-clause-ok g c = λ hosts seed fit room.
    let K = g.V.Volume.keeper in
    let sides = c.args.room.sides.items in
    let storage = c.in_ok-storage.storage in
    let begun = c.begin_all.new.begun.items in
    let are = subst (λ v. AreBegun 0 (origins_over K (cell_id storage) (length sides) v 0 sides) begun) c.of-opened.ensures c.in-Ok.ensures.ok in
    begins_over K hosts seed sides room.sides c.args.volume storage begun are c.deal_all.new.cells.items c.deal_all.ensures.cells c.deal_all.new.passes.items
    (c.deal_all.ensures.passes (origins_over K (cell_id storage) (length sides) c.args.volume 0 sides) are)

pub returns-in-Err-clause-err : goal.returns-in-Err-clause-err
returns-in-Err-clause-err g c =
    let K = g.V.Volume.keeper in
    let apps = length c.args.room.sides.items in
    let back = subst (λ v. ComesBack K apps v 0 apps (known c.in-Err.seat)) c.of-opened.ensures c.in-Err.ensures.err.1 in
    subst (λ v. ComesBackOpened K g.row.A.Denot apps c.args.volume v) (sym c.into_volume.ensures)
    (closed_back K apps c.args.volume c.close-storage.result (known c.in-Err.seat) c.keeps.ensures back c.close-storage.ensures.parts c.close-storage.ensures.trail)
