use Rattle.std.proofs.Common.{◌≡◌, ◌∙◌, ℕ, List, length, take, drop, ap, arith}
use Rattle.std.proofs.lemmas.List.{length-take-le, take_at}
use Rattle.ae_modes.specs.Message.{with_more, tag_len}
use Rattle.ae_modes.proofs.message.Gcm.seal.Goals as goal

pub returns-clause-tag : goal.returns-clause-tag
returns-clause-tag c = λ m is.
    let tag : List ℕ = c.copy_from_slice.new.self in
    let rest : List ℕ = drop c.args.self.now.tag_len c.args.tag.now in
    let width : length tag ≡ tag_len m =
    c.copy_from_slice.ensures.len ∙ length-take-le c.args.self.now.tag_len c.args.tag.now (omega arith) ∙ is.tag_len_is in
    take_at tag rest (tag_len m) width
    ∙ c.copy_from_slice.ensures.after
    ∙ ap (λ (n : ℕ). take n c.finish-whole.result) is.tag_len_is
    ∙ ap (take (tag_len m)) (c.finish-whole.ensures.tag (with_more m c.args.input.now) (c.convert.ensures.taken m is))

pub returns-clause-restarted : goal.returns-clause-restarted
returns-clause-restarted c = λ m is. c.finish-whole.ensures.restarted (with_more m c.args.input.now) (c.convert.ensures.taken m is)
