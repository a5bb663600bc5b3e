use Rattle.aes_core.proofs.SharedLemmas.{round_more}
use Rattle.aes_core.proofs.shared.ninth_round.Goals as goal

pub returns : goal.returns
returns c = λ b e2.
    let w = c.args.words.now in
    let e3 = round_more w b _ _ _ 2 e2 c.encrypt_round-third.ensures c.key_of_round.ensures in
    let e4 = round_more w b _ _ _ 3 e3 c.encrypt_round-fourth.ensures c.key_of_round-2.ensures in
    let e5 = round_more w b _ _ _ 4 e4 c.encrypt_round-fifth.ensures c.key_of_round-3.ensures in
    let e6 = round_more w b _ _ _ 5 e5 c.encrypt_round-sixth.ensures c.key_of_round-4.ensures in
    let e7 = round_more w b _ _ _ 6 e6 c.encrypt_round-seventh.ensures c.key_of_round-5.ensures in
    let e8 = round_more w b _ _ _ 7 e7 c.encrypt_round-eighth.ensures c.key_of_round-6.ensures in
    round_more w b _ _ _ 8 e8 c.encrypt_round.ensures c.key_of_round-7.ensures
