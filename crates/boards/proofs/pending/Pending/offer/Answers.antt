use Rattle.std.proofs.Common.{◌≡◌, ◌<◌, [], length, refl, arith}
use Rattle.boards.specs.Places.{place_in}
use Rattle.boards.proofs.Places.{placed_listed}
use Rattle.boards.proofs.Values.{set_elsewhere, set_here}
use Rattle.boards.proofs.pending.Pending.offer.Goals as goal

pub returns-in-Some : goal.returns-in-Some
returns-in-Some c =
    let p = c.args.self.now in
    let was = c.requires.pending in
    let blocks = p.listed.blocks.items in
    let block = c.args.block in
    let place = c.in-Some.ensures.some in
    let long : length p.offered.items ≡ length blocks = omega (arith, was.offered, p.offered.ok, p.listed.blocks.ok) in
    let below : place_in blocks block < length blocks = omega (arith, c.in-Some.ensures.within, place, p.listed.blocks.ok) in
    record {
      pending = record {
        listed = was.listed;
        durable = was.durable;
        offered = was.offered;
        durable_room = was.durable_room;
        offered_room = was.offered_room;
        settled = was.settled;
        within = was.within;
      };
      count = refl;
      here = placed_listed blocks block below;
      elsewhere = λ k apart. refl;
      kept = λ k holds e. refl;
      offers = rw place (set_here blocks p.offered.items block c.args.offered.now long below []);
      offers_elsewhere = λ k apart. rw place (set_elsewhere blocks p.offered.items block c.args.offered.now long below k [] apart);
    }
