-- The entries of a block, before and after one of them is put there, and tags that differ.
use Rattle.std.proofs.Common.{◌≡◌, ◌≢◌, ◌≤◌, ◌<◌, ◌+◌, ◌*◌, ◌^◌, ◌⊎◌, ◌∙◌, if◌then◌else◌, ℕ, true, false, List, ◌++◌}
use Rattle.std.proofs.Common.{Option, None, Some, bytes_eq, length, take, drop, refl, sym, ap, subst, ⊎_elim, inl, inr, arith}
use Rattle.std.specs.Int.{w64, from_le_bytes}
use Rattle.std.proofs.lemmas.Bool.{cases_lt}
use Rattle.std.proofs.lemmas.List.{take_all, take-append-le}
use Rattle.std.proofs.lemmas.Nat.{from_le_bytes-to_le_bytes_8}
use Rattle.std.proofs.lemmas.Slice.Eq.{bytes_eq-Decides}
use Rattle.store_api.specs.declared.answer.Mismatch.{Mismatch}
use Rattle.epoch.specs.Copies.{difference}
use Rattle.epoch.specs.Header.{entry_at, IsEntry}
use Rattle.epoch.specs.Parts.{part, with_bytes_at}
use Rattle.epoch.specs.declared.header.TreeEntry.{TreeEntry}
use Rattle.epoch.proofs.HeaderLemmas.{length-patched, part_here, part_before, part_after, part_part}

-- a piece beside the bytes that were put
pub part_other : (n at at' : ℕ) (bytes old new : List ℕ) → at' + length bytes ≤ length old → (at + n ≤ at') ⊎ (at' + length bytes ≤ at) → new ≡ with_bytes_at at' bytes old
    → part at n new ≡ part at n old
part_other n at at' bytes old new fits apart is =
    ap (part at n) is ∙ ⊎_elim (λ (h : at + n ≤ at'). part_before at n at' bytes old h fits) (λ (h : at' + length bytes ≤ at). part_after at n at' bytes old h fits) apart

-- pieces of one size, at different numbers, lie apart
pub entries_apart : (i j : ℕ) → i ≢ j → (64 * i + 64 ≤ 64 * j) ⊎ (64 * j + 64 ≤ 64 * i)
entries_apart i j ne = ⊎_elim (λ (h : i < j). inl (omega arith)) (λ (h : j ≤ i). inr (omega arith)) (cases_lt i j)

-- what a list is after a part of it was patched behind a reference
pub written_back : (count at : ℕ) (bytes old new : List ℕ) → length old ≡ count → at + length bytes ≤ length old → new ≡ with_bytes_at at bytes old
    → take count (new ++ drop (length new) old) ≡ with_bytes_at at bytes old
written_back count at bytes old new long fits patch =
    let same : length new ≡ count = ap length patch ∙ length-patched at bytes old fits ∙ long in
    take-append-le count new (drop (length new) old) (omega (arith, same)) ∙ take_all count new (omega (arith, same)) ∙ patch

from_start : (at : ℕ) → at ≡ at + 0
from_start at = omega arith

-- an entry that was put in place of one
pub entry_here : (at : ℕ) (entry : TreeEntry) (bytes old new : List ℕ) → IsEntry entry bytes → at + 64 ≤ length old → new ≡ with_bytes_at at bytes old
    → entry.copy < 2 ^ 64 → entry.sequence < 2 ^ 64 → entry_at at new ≡ entry
entry_here at entry bytes old new is fits patch small_copy small_sequence =
    let whole : part at 64 new ≡ bytes = subst (λ (n : ℕ). part at n new ≡ bytes) is.long (ap (part at (length bytes)) patch ∙ part_here at bytes old (omega (arith, is.long, fits))) in
    let copy : from_le_bytes w64 (part at 8 new) ≡ entry.copy
    = ap (from_le_bytes w64) (ap (λ (k : ℕ). part k 8 new) (from_start at) ∙ sym (part_part at 64 0 8 new (omega arith)) ∙ ap (part 0 8) whole ∙ is.copy)
    ∙ from_le_bytes-to_le_bytes_8 entry.copy small_copy in
    let sequence : from_le_bytes w64 (part (at + 8) 8 new) ≡ entry.sequence
    = ap (from_le_bytes w64) (sym (part_part at 64 8 8 new (omega arith)) ∙ ap (part 8 8) whole ∙ is.sequence) ∙ from_le_bytes-to_le_bytes_8 entry.sequence small_sequence in
    let iv : part (at + 16) 16 new ≡ entry.iv = sym (part_part at 64 16 16 new (omega arith)) ∙ ap (part 16 16) whole ∙ is.iv in
    let tag : part (at + 32) 32 new ≡ entry.tag = sym (part_part at 64 32 32 new (omega arith)) ∙ ap (part 32 32) whole ∙ is.tag in
    rw (copy, sequence, iv, tag) refl

-- a piece of another entry
piece_other : (at at' from n : ℕ) (bytes old new : List ℕ) → length bytes ≡ 64 → at' + 64 ≤ length old → (at + 64 ≤ at') ⊎ (at' + 64 ≤ at) → from + n ≤ 64 → new ≡ with_bytes_at at' bytes old
    → part (at + from) n new ≡ part (at + from) n old
piece_other at at' from n bytes old new long fits sides inside patch =
    part_other n (at + from) at' bytes old new (omega (arith, long, fits))
    (⊎_elim (λ (h : at + 64 ≤ at'). inl (omega arith)) (λ (h : at' + 64 ≤ at). inr (omega (arith, long))) sides) patch

-- and all others
pub entry_other : (at at' : ℕ) (bytes old new : List ℕ) → length bytes ≡ 64 → at' + 64 ≤ length old → (at + 64 ≤ at') ⊎ (at' + 64 ≤ at) → new ≡ with_bytes_at at' bytes old
    → entry_at at new ≡ entry_at at old
entry_other at at' bytes old new long fits sides patch =
    let copy : part at 8 new ≡ part at 8 old
    = ap (λ (k : ℕ). part k 8 new) (from_start at) ∙ piece_other at at' 0 8 bytes old new long fits sides (omega arith) patch ∙ ap (λ (k : ℕ). part k 8 old) (sym (from_start at)) in
    let sequence : part (at + 8) 8 new ≡ part (at + 8) 8 old = piece_other at at' 8 8 bytes old new long fits sides (omega arith) patch in
    let iv : part (at + 16) 16 new ≡ part (at + 16) 16 old = piece_other at at' 16 16 bytes old new long fits sides (omega arith) patch in
    let tag : part (at + 32) 32 new ≡ part (at + 32) 32 old = piece_other at at' 32 32 bytes old new long fits sides (omega arith) patch in
    rw (copy, sequence, iv, tag) refl

-- equal tags don't differ
pub no_difference : (tag : List ℕ) → difference tag tag ≡ None
unfolding difference
no_difference tag = let e : bytes_eq tag tag ≡ true = (bytes_eq-Decides tag tag).1 refl in rw e refl

-- tags that aren't equal differ
pub differs : (found kept : List ℕ) → found ≢ kept → difference found kept ≡ Some (record { found = found; kept = kept })
unfolding difference
differs found kept ne =
    elim (bytes_eq found kept) as (λ b. bytes_eq found kept ≡ b →
    (let none : Option Mismatch = None in if b then none else Some (record { found = found; kept = kept })) ≡ Some (record { found = found; kept = kept })) [
      | true ↦ λ e. absurd (ne ((bytes_eq-Decides found kept).0 e))
      | false ↦ λ e. refl
    ] refl
