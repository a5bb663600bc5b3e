use Rattle.std.proofs.Common.{◌≡◌, ◌<◌, ◌+◌, ◌++◌, ◌∷◌, [], ℕ, Vec, get_or, length, vec_len, length-append, ap, sym, ◌∙◌, arith}
use Rattle.std.specs.declared.alloc.Global.{Global}
use Rattle.boards.specs.Places.{place_in}
use Rattle.boards.proofs.BlockLists.{fits_push, noted_push, reached_push}
use Rattle.boards.proofs.block_list.BlockList.add.Goals as goal

pub push-requires : goal.push-requires
push-requires c =
    let b = c.reach.new.self in
    let list = c.reach.ensures.list in
    let block = c.args.block in
    let absent : place_in b.blocks.items block ≡ length b.blocks.items =
    ap (λ (v : Vec ℕ Global). place_in v.items block) c.reach.ensures.same.1 ∙ c.requires.new ∙ ap (λ (v : Vec ℕ Global). vec_len v) (sym c.reach.ensures.same.1) ∙ b.blocks.ok.0 in
    let fits = fits_push b.blocks.items b.places.items (λ i h. list.noted i (omega (arith, h, b.blocks.ok))) block absent (omega (arith, c.reach.ensures.within, b.places.ok)) (vec_len b.places)
    (λ i h. list.reached i (omega (arith, h, b.blocks.ok))) c.reach.ensures.within in
    omega (arith, fits, b.blocks.ok, list.within, list.room)

pub returns : goal.returns
returns c =
    let b = c.reach.new.self in
    let list = c.reach.ensures.list in
    let block = c.args.block in
    let v = c.push.new.values in
    let absent : place_in b.blocks.items block ≡ length b.blocks.items =
    ap (λ (v : Vec ℕ Global). place_in v.items block) c.reach.ensures.same.1 ∙ c.requires.new ∙ ap (λ (v : Vec ℕ Global). vec_len v) (sym c.reach.ensures.same.1) ∙ b.blocks.ok.0 in
    let noted : (i : ℕ) → i < length b.blocks.items → get_or b.places.items (get_or b.blocks.items i 0) 0 ≡ i = λ i h. list.noted i (omega (arith, h, b.blocks.ok)) in
    let reached : (i : ℕ) → i < length b.blocks.items → get_or b.blocks.items i 0 < vec_len b.places = λ i h. list.reached i (omega (arith, h, b.blocks.ok)) in
    let within : block < length b.places.items = omega (arith, c.reach.ensures.within, b.places.ok) in
    let long : vec_len v ≡ length b.blocks.items + 1 = v.ok.0 ∙ ap length c.push.ensures.items ∙ length-append b.blocks.items (block ∷ []) in
    let fits = fits_push b.blocks.items b.places.items noted block absent within (vec_len b.places) reached c.reach.ensures.within in
    record {
      list = record {
        reached = λ i h. rw c.push.ensures.items (reached_push b.blocks.items b.places.items noted block absent within (vec_len b.places) reached c.reach.ensures.within i (omega (arith, h, long)));
        noted = λ i h. rw c.push.ensures.items (noted_push b.blocks.items b.places.items noted block absent within _ (c.len.ensures ∙ b.blocks.ok.0) i (omega (arith, h, long)));
        within = list.within;
        room = omega (arith, list.room, c.push.ensures.room);
        places_room = list.places_room;
      };
      blocks = c.push.ensures.items ∙ ap (λ (v : Vec ℕ Global). v.items ++ block ∷ []) c.reach.ensures.same.1;
      count = c.reach.ensures.same.0;
      fits = omega (arith, fits, ap (λ (v : Vec ℕ Global). vec_len v) c.reach.ensures.same.1, b.blocks.ok, list.within, c.reach.ensures.same.0);
    }
