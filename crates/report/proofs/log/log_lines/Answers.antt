use Rattle.std.proofs.Common.{ℕ, ◌+◌, ◌++◌, ◌∙◌, List, ap, arith, cond, drop, refl, sym}
use Rattle.std.specs.List.{flat_map}
use Rattle.alone.specs.KeptLogs.{event_by, log_with_replies}
use Rattle.report.specs.LogTexts.{is_call}
use Rattle.report.specs.Texts.{reply_text}
use Rattle.report.proofs.LogTexts.{from_start, one_more, one_number, text_from}
use Rattle.report.proofs.log.log_lines.Goals as goal

pub loop-entry-init : goal.loop-entry-init
loop-entry-init c =
    let name = c.args.name.now in
    record {
      text = ap (λ (text : List ℕ). text ++ text_from name 0 1 (log_with_replies c.parts.result.0.now c.parts.result.1.now)) c.new-text.ensures
          ∙ ap (text_from name 0 1) c.parts.ensures ∙ sym (from_start name c.args.log.now.entries);
      place = refl;
      op = omega arith;
    }

pub loop-entry-preserved : goal.loop-entry-preserved
loop-entry-preserved c =
    let name = c.args.name.now in
    let e = c.entry-item.result in
    let i = c.loop-entry.entry-index in
    let here = c.loop-entry.invariant in
    let numbered = c.op_after-op.ensures in
    let event = event_by e.client e.event in
    let taken = cond (is_call event) 1 0 in
    let few = one_number (is_call event) in
    let left = drop (i + 1) c.parts.result.0.now in
    record {
      text = ap (λ (op : ℕ). c.replies.new.self ++ text_from name (c.loop-entry.place + 1) op (log_with_replies left c.split.result.1.now)) numbered
          ∙ ap (λ rs. c.replies.new.self ++ text_from name (c.loop-entry.place + 1) (c.loop-entry.op + taken) (log_with_replies left rs)) c.split.ensures.others
          ∙ one_more name c.loop-entry.text c.entry_line.new.self c.replies.new.self c.loop-entry.place c.loop-entry.op c.parts.result.0.now c.loop-entry.left.now i e
          c.loop-entry-test.true c.entry-item.is c.in_ok-entry_line.ensures
          (c.in_ok-replies.ensures ∙ ap (λ rs. c.entry_line.new.self ++ flat_map (reply_text name) rs) c.split.ensures.first)
          ∙ here.text;
      place = ap (λ (n : ℕ). n + 1) here.place;
      op = omega (arith, numbered, few, here.op);
    }
