use Rattle.std.proofs.Common.{rules, ◌≡◌, ◌<◌, ◌+◌, ◌∙◌, drop, get_or, length, refl, set, sym, subst, ap, arith}
use Rattle.std.proofs.lemmas.Option.{slice_get_within}
use Rattle.race.specs.Dealing.{AreDealt}
use Rattle.race.proofs.DealLemmas.{AreFirstDealt, all_dealt, client_within, dealt_more, drop_more, found_at, has_room, next_at, none_left}
use Rattle.race.proofs.dealing.deal.Goals as goal

pub push_reserved-requires : goal.push_reserved-requires
push_reserved-requires g c =
    let was = c.loop-passes.invariant in
    let all = c.args.passes.now.items in
    let p = c.take_first-pass.result in
    let w = c.index_mut.result.now in
    let here = next_at all c.loop-passes.passes.items was.1 p was.2.rest c.take_first-pass.ensures.value in
    let order = c.requires.order was.1 p here in
    let i : c.from-client.result ≡ p.client = c.from-client.ensures ∙ c.client.ensures in
    let lt : p.client < length c.loop-passes.workers.items = client_within was.0 all c.loop-passes.workers.items was.1 was.2.first p here order.0 order.1 was.2.size in
    let there = found_at c.loop-passes.workers.items p.client w (subst (λ n. w ≡ get_or c.loop-passes.workers.items n w) i c.index_mut.ensures.value) lt in
    let room = has_room was.0 all c.loop-passes.workers.items was.1 was.2.first p here order.0 order.1 was.2.size w there in
    let len = w.passes.ok.0 in
    omega (arith, room, len)

pub loop-passes-preserved : goal.loop-passes-preserved
loop-passes-preserved g c =
    let was = c.loop-passes.invariant in
    let all = c.args.passes.now.items in
    let p = c.take_first-pass.result in
    let w = c.index_mut.result.now in
    let here = next_at all c.loop-passes.passes.items was.1 p was.2.rest c.take_first-pass.ensures.value in
    let order = c.requires.order was.1 p here in
    let i : c.from-client.result ≡ p.client = c.from-client.ensures ∙ c.client.ensures in
    let lt : p.client < length c.loop-passes.workers.items = client_within was.0 all c.loop-passes.workers.items was.1 was.2.first p here order.0 order.1 was.2.size in
    let there = found_at c.loop-passes.workers.items p.client w (subst (λ n. w ≡ get_or c.loop-passes.workers.items n w) i c.index_mut.ensures.value) lt in (
      was.0,
      was.1 + 1,
      record {
        size = was.2.size;
        few = let l = slice_get_within all was.1 p here in omega (arith, l);
        rest = c.take_first-pass.ensures.rest ∙ (ap (λ ps. drop 1 ps) was.2.rest ∙ drop_more all was.1);
        first = subst (λ n. AreFirstDealt was.0 all (was.1 + 1) (set c.loop-passes.workers.items n (record { client = w.client; passes = c.push_reserved.new.self; ended = w.ended }))) (sym i)
            (dealt_more was.0 all c.loop-passes.workers.items was.1 was.2.first p here order.0 order.1 was.2.size w there
            (record { client = w.client; passes = c.push_reserved.new.self; ended = w.ended }) refl c.push_reserved.ensures.items c.push_reserved.ensures.capacity);
        capacity = c.take_first-pass.ensures.capacity ∙ was.2.capacity;
      },
    )

pub returns-clause-dealt : goal.returns-clause-dealt
returns-clause-dealt g c =
    let was = c.loop-passes.invariant in
    λ count size. let same : was.0 ≡ count = (let s = was.2.size in omega (arith, s, size)) in
    subst (λ n. AreDealt n c.args.passes.now.items c.loop-passes.workers.items) same
    (all_dealt was.0 c.args.passes.now.items c.loop-passes.workers.items was.1 was.2.size
    (none_left c.args.passes.now.items c.loop-passes.passes.items was.1 was.2.rest (search rules) was.2.few) was.2.first)
