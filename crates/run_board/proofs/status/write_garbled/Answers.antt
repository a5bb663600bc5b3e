use Rattle.std.proofs.Common.{◌∙◌, ◌++◌, ℕ, List, ap, append_assoc, codes, sym}
use Rattle.std.specs.Fmt.{decimal}
use Rattle.std.proofs.lemmas.Result.{on_ok_weaker}
use Rattle.run_board.proofs.status.write_garbled.Goals as goal

pub returns : goal.returns
returns c =
    let line : List ℕ = c.args.line.now in
    let words : List ℕ = codes "old region " in
    let between : List ℕ = codes " garbled at " in
    on_ok_weaker c.write_count-2.result
    (λ same. same ∙ ap (λ (l : List ℕ). l ++ (between ++ decimal c.from-2.result)) c.in_ok-write_count.ensures
    ∙ append_assoc line (words ++ decimal c.from.result) (between ++ decimal c.from-2.result)
    ∙ ap (λ (l : List ℕ). line ++ l) (sym (append_assoc (words ++ decimal c.from.result) between (decimal c.from-2.result)))
    ∙ ap (λ n. line ++ (words ++ decimal n ++ between ++ decimal c.from-2.result)) c.from.ensures
    ∙ ap (λ n. line ++ (words ++ decimal c.args.region ++ between ++ decimal n)) c.from-2.ensures)
    c.write_count-2.ensures
