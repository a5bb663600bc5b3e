-- The content is the next part of the message's text where the tag is its tag.
use Rattle.std.proofs.Common.{◌≡◌, ◌∙◌, ◌++◌, sym, ap, refl, length, nat_lt, take, drop, true, false, Bool, Ok, Err, List, ℕ, cond, arith, rules}
use Rattle.std.specs.Prelude.{Some}
use Rattle.std.proofs.Math.Seq.{drop-append_seam}
use Rattle.std.proofs.lemmas.Bool.Decides.{nat_tests}
use Rattle.std.proofs.lemmas.Slice.Eq.{bytes_eq-Decides}
use Rattle.ae_modes.specs.Message.{Message, with_more, text_of, tag_of}
use Rattle.ae_modes.specs.Represents as ae
use Rattle.ae_modes.specs.declared.answers.AeAnswer.{AeAnswer}
use Rattle.ae_modes.specs.declared.answers.AeAnswer.TheVariants.{TooLong, ShortBuffer, BadTag}
use Rattle.crypto_ops.specs.Operations.{ae_part_of, is_tag_of}
use Rattle.crypto_ops.proofs.AeLemmas.{written}
use Rattle.crypto_ops.proofs.ae.opened.Goals as goal

-- an Ok is of all bytes, where the tag is the right one
of_ok : (long short same : Bool) (more n : ℕ)
    → Ok n ≡ cond long (Err TooLong) (cond short (Err (ShortBuffer more)) (cond same (Ok more) (Err BadTag)))
    → (n ≡ more) × (same ≡ true)
of_ok true short same more n e = search rules
of_ok false true same more n e = search rules
of_ok false false false more n e = search rules
of_ok false false true more n e = (cc, refl)

-- an Err is of another tag, where there is room
of_err : (long short same : Bool) (more : ℕ) (why : AeAnswer) → long ≡ false → short ≡ false
    → Err why ≡ cond long (Err TooLong) (cond short (Err (ShortBuffer more)) (cond same (Ok more) (Err BadTag)))
    → same ≡ false
of_err true short same more why l s e = search rules
of_err false true same more why l s e = search rules
of_err false false true more why l s e = search rules
of_err false false false more why l s e = refl

answer : (c : goal.After-from_vec) (m : Message) → ae.Represents c.args.gcm.now m
    → (c.in-Ok.field-0 ≡ length c.args.bytes.now) × (is_tag_of m c.args.bytes.now c.args.tag.now ≡ true)
answer c m r =
    of_ok _ _ _ _ _ (c.in-Ok.ensures.answer m (is_tag_of m c.args.bytes.now c.args.tag.now) r
    (bytes_eq-Decides c.args.tag.now (tag_of (with_more m c.args.bytes.now))))

joined : (c : goal.After-from_vec) (m : Message) → ae.Represents c.args.gcm.now m
    → text_of (with_more m c.args.bytes.now) ≡ text_of m ++ c.from_vec.result
joined c m r =
    let all : c.from_vec.result ≡ take c.in-Ok.field-0 c.open.new.output =
    c.from_vec.ensures
    ∙ written c.args.memory.len c.in-Ok.field-0 c.open.new.output c.args.memory.items c.args.memory.ok.0
    (c.open.auto.output ∙ ap length c.as_mut_slice.ensures.value) ((answer c m r).0 ∙ sym c.requires.room) in
    c.in-Ok.ensures.text m r ∙ ap (λ (part : List ℕ). text_of m ++ part) (sym all)

pub returns-in-Ok-clause-content : goal.returns-in-Ok-clause-content
returns-in-Ok-clause-content c m r fits =
    let part : ae_part_of m c.args.bytes.now ≡ c.from_vec.result =
    ap (drop (length (text_of m))) (joined c m r) ∙ drop-append_seam (text_of m) c.from_vec.result in
    rw ((answer c m r).1) (ap Some (sym part))

pub returns-in-Ok-clause-joined : goal.returns-in-Ok-clause-joined
returns-in-Ok-clause-joined c m r = joined c m r

pub returns-in-Err-clause-content : goal.returns-in-Err-clause-content
returns-in-Err-clause-content c m r fits =
    let short : nat_lt (length c.as_mut_slice.result.now) (length c.args.bytes.now) ≡ false =
    grind (arith, nat_tests, ap length c.as_mut_slice.ensures.value, c.requires.room) in
    let other : is_tag_of m c.args.bytes.now c.args.tag.now ≡ false =
    of_err _ _ _ _ _ fits short (c.in-Err.ensures.answer m (is_tag_of m c.args.bytes.now c.args.tag.now) r
    (bytes_eq-Decides c.args.tag.now (tag_of (with_more m c.args.bytes.now)))) in
    rw other refl
