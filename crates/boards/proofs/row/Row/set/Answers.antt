use Rattle.std.proofs.Common.{◌≡◌, ◌≢◌, ◌<◌, ℕ, length, get_or, replicate, set, refl, ap, ⊎_elim, ◌∙◌, arith}
use Rattle.std.proofs.lemmas.Bool.{cases_eq}
use Rattle.boards.specs.Places.{place_in}
use Rattle.boards.proofs.Values.{set_elsewhere, set_here}
use Rattle.boards.proofs.row.Row.set.Goals as goal

pub returns-in-Some : goal.returns-in-Some
returns-in-Some c =
    let r = c.args.self.now in
    let row = c.requires.row in
    let blocks = r.written.blocks.items in
    let at = c.args.at in
    let bytes = c.args.block.now in
    let place = c.in-Some.ensures.some in
    let long : length r.blocks.items ≡ length blocks = omega (arith, row.count, r.blocks.ok, r.written.blocks.ok) in
    let below : place_in blocks at < length blocks = omega (arith, c.in-Some.ensures.within, place, r.written.blocks.ok) in
    let here : get_or (set r.blocks.items c.in-Some.place bytes) (place_in blocks at) (replicate 1024 0) ≡ bytes = rw place (set_here blocks r.blocks.items at bytes long below (replicate 1024 0)) in
    let elsewhere : (k : ℕ) → k ≢ at → get_or (set r.blocks.items c.in-Some.place bytes) (place_in blocks k) (replicate 1024 0) ≡ get_or r.blocks.items (place_in blocks k) (replicate 1024 0) =
    λ k apart. rw place (set_elsewhere blocks r.blocks.items at bytes long below k (replicate 1024 0) apart) in
    let block : length bytes ≡ 1024 = omega arith in
    record {
      row = record {
        written = row.written;
        count = row.count;
        room = row.room;
        whole = λ k. ⊎_elim
            (λ (e : k ≡ at). ap (λ n. length (get_or (set r.blocks.items c.in-Some.place bytes) (place_in blocks n) (replicate 1024 0))) e ∙ ap length here ∙ block)
            (λ (ne : k ≢ at). ap length (elsewhere k ne) ∙ row.whole k)
            (cases_eq k at);
      };
      count = refl;
      here = here;
      elsewhere = elsewhere;
    }
