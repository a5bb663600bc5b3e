-- Content and tag are those of the message.
use Rattle.std.proofs.Common.{◌≡◌, ◌∙◌, ◌++◌, ◌+◌, ◌-◌, ◌^◌, sym, ap, refl, length, nat_lt, take, drop, true, false, Bool, Ok, Err, List, ℕ, cond, arith, rules}
use Rattle.std.proofs.Math.Seq.{drop-append_seam}
use Rattle.std.proofs.lemmas.Bool.Decides.{nat_tests}
use Rattle.ae_modes.specs.Message.{Message, with_more, text_of, tag_of, tag_len, seal_answer}
use Rattle.ae_modes.specs.declared.answers.AeAnswer.TheVariants.{TooLong, ShortBuffer}
use Rattle.crypto_ops.specs.Operations.{ae_part_of}
use Rattle.crypto_ops.specs.declared.sealed.OpSealed.{OpSealed}
use Rattle.crypto_ops.proofs.AeLemmas.{room_fits, written}
use Rattle.crypto_ops.proofs.ae.sealed.Goals as goal

-- an Ok is of all bytes
of_ok : (long short short_tag : Bool) (more needed n : ℕ)
    → Ok n ≡ cond long (Err TooLong) (cond short (Err (ShortBuffer more)) (cond short_tag (Err (ShortBuffer needed)) (Ok more)))
    → n ≡ more
of_ok true short short_tag more needed n e = search rules
of_ok false true short_tag more needed n e = search rules
of_ok false false true more needed n e = search rules
of_ok false false false more needed n e = cc

of_message : (m : Message) (more room tag_room n : ℕ) → Ok n ≡ seal_answer m more room tag_room → n ≡ more
of_message m more room tag_room n e =
    of_ok (nat_lt (2 ^ 36 - 32) (length m.message + more)) (nat_lt room more) (nat_lt tag_room (tag_len m)) more (tag_len m) n e

same_sealed : (content content' tag tag' : List ℕ) → content ≡ content' → tag ≡ tag'
    → ◌≡◌ {A = OpSealed} (record { content = content; tag = tag }) (record { content = content'; tag = tag' })
same_sealed content content' tag tag' c t = rw (c, t) refl

pub returns-in-Ok-clause-answer : goal.returns-in-Ok-clause-answer
returns-in-Ok-clause-answer c m r =
    let fits = room_fits _ _ _ _ (c.in_ok-look_for_room.ensures.answer m r) in
    let own : c.tag_len-tag_len.result ≡ tag_len m = c.tag_len-tag_len.ensures.own m r in
    let tag_fits : nat_lt c.args.tag_room (tag_len m) ≡ false = grind (arith, nat_tests, own, c.if-tag_len-tag_room.false) in
    let all : c.in-Ok.field-0 ≡ length c.in_ok-content.content.items =
    of_message m _ _ _ _ (c.in-Ok.ensures.answer m r) ∙ sym c.in_ok-content.ensures.ok in
    let content : c.from_vec.result ≡ take c.in-Ok.field-0 c.seal.new.output =
    c.from_vec.ensures
    ∙ written c.in_ok-content.content.len c.in-Ok.field-0 c.seal.new.output c.in_ok-content.content.items c.in_ok-content.content.ok.0
    (c.seal.auto.output ∙ ap length c.as_mut_slice.ensures.value) all in
    let text : text_of (with_more m c.args.bytes.now) ≡ text_of m ++ c.from_vec.result =
    c.in-Ok.ensures.text m r ∙ ap (λ (part : List ℕ). text_of m ++ part) (sym content) in
    let part : ae_part_of m c.args.bytes.now ≡ c.from_vec.result =
    ap (drop (length (text_of m))) text ∙ drop-append_seam (text_of m) c.from_vec.result in
    let tag : tag_of (with_more m c.args.bytes.now) ≡ c.from_vec-in-Ok.result =
    sym (
    c.from_vec-in-Ok.ensures
    ∙ written c.in_ok-tag.tag.len (tag_len m) c.seal.new.tag c.in_ok-tag.tag.items c.in_ok-tag.tag.ok.0
    (c.seal.auto.tag ∙ ap length c.as_mut_slice-2.ensures.value) (sym own ∙ sym c.in_ok-tag.ensures.ok)
    ∙ c.in-Ok.ensures.tag m r
    ) in
    rw (fits.0, fits.1, tag_fits) (ap Ok (same_sealed _ _ _ _ part tag))
