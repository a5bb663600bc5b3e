-- The asks on one operation, by what the operation is: its algorithm, its key, and its whole message so far
-- (TEE Internal Core API 1.3, sections 6.2 to 6.6).
use Rattle.std.specs.Prelude.{ℕ, List}
use Rattle.app_api.specs.declared.ask.Ask.{Ask}
use Rattle.app_api.specs.declared.ask.Ask.TheVariants as asked
use Rattle.app_api.specs.declared.ask.Answer.{Answer}
use Rattle.app_api.specs.declared.ask.Answer.TheVariants as answers
use Rattle.crypto_ops.specs.declared.about.OpAbout.{OpAbout}
use Rattle.crypto_ops.specs.Operations.{CryptoOperation, about_of, reset_answer, operation_at_start, cipher_init_answer, cipher_begun, cipher_update_answer, cipher_final_answer, with_more_message}
use Rattle.crypto_ops.specs.Operations.{after_ok, ae_init_answer, ae_begun, ae_aad_answer, with_more_aad, ae_update_answer, ae_seal_answer, ae_open_answer}
use Rattle.crypto_ops.specs.Operations.{mac_init_answer, mac_begun, mac_update_answer, mac_final_answer, mac_compare_answer, after_comparison, digest_update_answer, digest_final_answer}
use Rattle.operation_asks.specs.Effects.{Effect, answer_effect, panic_effect, told_content, told_done, told_sealed, done_by, content_by}

-- the answer that tells of an operation
abbrev pub about_answer : OpAbout → Answer
about_answer a = answers.About a.alg a.mode a.max_bits a.key_bits a.active

-- OpInfo
abbrev pub info_effect : CryptoOperation → Effect CryptoOperation
info_effect o = answer_effect o (about_answer (about_of o))

-- OpReset: initial, the key stays
abbrev pub reset_effect : CryptoOperation → Effect CryptoOperation
reset_effect o = done_by (reset_answer o) o (operation_at_start o)

-- CipherInit: active with nothing held
abbrev pub cipher_init_effect : CryptoOperation → List ℕ → Effect CryptoOperation
cipher_init_effect o iv = done_by (cipher_init_answer o iv) o (cipher_begun o iv)

-- CipherUpdate: the next part of what the mode makes of the message, these bytes among it
abbrev pub cipher_update_effect : CryptoOperation → List ℕ → ℕ → Effect CryptoOperation
cipher_update_effect o bytes room = content_by (cipher_update_answer o bytes room) o (with_more_message o bytes)

-- CipherFinal: the rest of it; the operation is initial
abbrev pub cipher_final_effect : CryptoOperation → List ℕ → ℕ → Effect CryptoOperation
cipher_final_effect o bytes room = content_by (cipher_final_answer o bytes room) o (operation_at_start o)

-- MacInit: active with an empty message
abbrev pub mac_init_effect : CryptoOperation → Effect CryptoOperation
mac_init_effect o = done_by (mac_init_answer o) o (mac_begun o)

-- MacUpdate
abbrev pub mac_update_effect : CryptoOperation → List ℕ → Effect CryptoOperation
mac_update_effect o bytes = done_by (mac_update_answer o bytes) o (with_more_message o bytes)

-- MacFinal: the code of the message; the operation is initial
abbrev pub mac_final_effect : CryptoOperation → List ℕ → ℕ → Effect CryptoOperation
mac_final_effect o bytes room = content_by (mac_final_answer o bytes room) o (operation_at_start o)

-- MacCompare: whether the code is that of the message; the operation is initial in both cases
abbrev pub mac_compare_effect : CryptoOperation → List ℕ → List ℕ → Effect CryptoOperation
mac_compare_effect o bytes mac =
    let answer = mac_compare_answer o bytes mac in record { told = told_done answer; after = after_comparison answer o }

-- DigestUpdate: active
abbrev pub digest_update_effect : CryptoOperation → List ℕ → Effect CryptoOperation
digest_update_effect o bytes = done_by (digest_update_answer o bytes) o (with_more_message o bytes)

-- DigestFinal: the digest of the message; the operation is initial
abbrev pub digest_final_effect : CryptoOperation → List ℕ → ℕ → Effect CryptoOperation
digest_final_effect o bytes room = content_by (digest_final_answer o bytes room) o (operation_at_start o)

-- AeInit: active with nothing held
abbrev pub ae_init_effect : CryptoOperation → List ℕ → ℕ → Effect CryptoOperation
ae_init_effect o nonce tag_bits = done_by (ae_init_answer o nonce tag_bits) o (ae_begun o nonce tag_bits)

-- AeAad
abbrev pub ae_aad_effect : CryptoOperation → List ℕ → Effect CryptoOperation
ae_aad_effect o bytes = done_by (ae_aad_answer o bytes) o (with_more_aad o bytes)

-- AeUpdate: what becomes of these bytes of the message
abbrev pub ae_update_effect : CryptoOperation → List ℕ → ℕ → Effect CryptoOperation
ae_update_effect o bytes room = content_by (ae_update_answer o bytes room) o (with_more_message o bytes)

-- AeSeal: the rest of the ciphertext, and the tag; the operation is initial
abbrev pub ae_seal_effect : CryptoOperation → List ℕ → ℕ → ℕ → Effect CryptoOperation
ae_seal_effect o bytes room tag_room =
    let answer = ae_seal_answer o bytes room tag_room in record { told = told_sealed answer; after = after_ok answer o (operation_at_start o) }

-- AeOpen: the rest of the message, where the tag is that of the message; the operation is initial in both cases
abbrev pub ae_open_effect : CryptoOperation → List ℕ → ℕ → List ℕ → Effect CryptoOperation
ae_open_effect o bytes room tag =
    let answer = ae_open_answer o bytes room tag in record { told = told_content answer; after = after_comparison answer o }

-- the ask on the operation that it names; the other asks aren't on one operation
unfoldable pub one_effect : CryptoOperation → Ask → Effect CryptoOperation
one_effect o (asked.OpInfo op) = info_effect o
one_effect o (asked.OpReset op) = reset_effect o
one_effect o (asked.CipherInit op iv) = cipher_init_effect o iv
one_effect o (asked.CipherUpdate op bytes room) = cipher_update_effect o bytes room
one_effect o (asked.CipherFinal op bytes room) = cipher_final_effect o bytes room
one_effect o (asked.MacInit op) = mac_init_effect o
one_effect o (asked.MacUpdate op bytes) = mac_update_effect o bytes
one_effect o (asked.MacFinal op bytes room) = mac_final_effect o bytes room
one_effect o (asked.MacCompare op bytes mac) = mac_compare_effect o bytes mac
one_effect o (asked.DigestUpdate op bytes) = digest_update_effect o bytes
one_effect o (asked.DigestFinal op bytes room) = digest_final_effect o bytes room
one_effect o (asked.AeInit op nonce tag_bits) = ae_init_effect o nonce tag_bits
one_effect o (asked.AeAad op bytes) = ae_aad_effect o bytes
one_effect o (asked.AeUpdate op bytes room) = ae_update_effect o bytes room
one_effect o (asked.AeSeal op bytes room tag_room) = ae_seal_effect o bytes room tag_room
one_effect o (asked.AeOpen op bytes room tag) = ae_open_effect o bytes room tag
one_effect o ask = panic_effect o
