-- Pieces of a block that was written piece by piece, and the header that they make.
use Rattle.std.proofs.Common.{◌≡◌, ◌≤◌, ◌<◌, ◌+◌, ◌^◌, ◌∙◌, ℕ, true, List, length, take, replicate, refl, sym, ap, subst, bytes_eq, codes, arith, rules}
use Rattle.std.specs.Int.{w32, w64, to_le_bytes, from_le_bytes}
use Rattle.std.proofs.lemmas.List.{same_lists, places, length-replicate}
use Rattle.std.proofs.lemmas.Nat.{from_le_bytes-to_le_bytes_4, from_le_bytes-to_le_bytes_8}
use Rattle.std.proofs.lemmas.Slice.Eq.{bytes_eq-Decides}
use Rattle.seal.specs.Sealing.{le64}
use Rattle.epoch.specs.Header.{header_tag, IsEntry, IsHeaderBlock}
use Rattle.epoch.specs.Parts.{part, with_bytes_at}
use Rattle.epoch.specs.Slots.{header_slot}
use Rattle.epoch.specs.declared.header.Header.{Header}
use Rattle.epoch.specs.declared.header.TreeEntry.{TreeEntry}
use Rattle.epoch.specs.declared.slots.Slot.TheVariants.{Good}

pub part_here : (at : ℕ) (bytes block : List ℕ) → at + length bytes ≤ length block → part at (length bytes) (with_bytes_at at bytes block) ≡ bytes
part_here at bytes block fits = same_lists _ _ (search (rules, places)) (λ k d h. grind (arith, places))

pub part_before : (at n at' : ℕ) (bytes block : List ℕ) → at + n ≤ at' → at' + length bytes ≤ length block → part at n (with_bytes_at at' bytes block) ≡ part at n block
part_before at n at' bytes block before fits = same_lists _ _ (search (rules, places)) (λ k d h. grind (arith, places))

pub part_after : (at n at' : ℕ) (bytes block : List ℕ) → at' + length bytes ≤ at → at' + length bytes ≤ length block → part at n (with_bytes_at at' bytes block) ≡ part at n block
part_after at n at' bytes block after fits = same_lists _ _ (search (rules, places)) (λ k d h. grind (arith, places))

pub part_part : (at n at' n' : ℕ) (block : List ℕ) → at' + n' ≤ n → part at' n' (part at n block) ≡ part (at + at') n' block
part_part at n at' n' block fits = same_lists _ _ (search (rules, places)) (λ k d h. grind (arith, places))

pub length-patched : (at : ℕ) (bytes block : List ℕ) → at + length bytes ≤ length block → length (with_bytes_at at bytes block) ≡ length block
length-patched at bytes block fits = search (rules, places)

-- pieces of zeros are zeros
zeros_12 : part 12 4 (replicate 1024 0) ≡ replicate 4 0
zeros_12 = refl

zeros_120 : part 120 904 (replicate 1024 0) ≡ replicate 904 0
zeros_120 = refl

-- what was written last
here : (at n : ℕ) (bytes block : List ℕ) → length bytes ≡ n → at + n ≤ length block → part at n (with_bytes_at at bytes block) ≡ bytes
here at n bytes block long fits = subst (λ (k : ℕ). part at k (with_bytes_at at bytes block) ≡ bytes) long (part_here at bytes block (omega (arith, long, fits)))

module _ (entry : TreeEntry) (zero copy sequence p1 p2 p3 p4 : List ℕ) (long : length zero ≡ 64) (iv : length entry.iv ≡ 16) (tag : length entry.tag ≡ 32)
    (is_copy : copy ≡ le64 entry.copy) (is_sequence : sequence ≡ le64 entry.sequence) (e1 : p1 ≡ with_bytes_at 0 copy zero) (e2 : p2 ≡ with_bytes_at 8 sequence p1)
    (e3 : p3 ≡ with_bytes_at 16 entry.iv p2) (e4 : p4 ≡ with_bytes_at 32 entry.tag p3) where
  copy_long : length copy ≡ 8
  copy_long = ap length is_copy

  sequence_long : length sequence ≡ 8
  sequence_long = ap length is_sequence

  l1 : length p1 ≡ 64
  l1 = ap length e1 ∙ length-patched 0 copy zero (omega (arith, copy_long, long)) ∙ long

  l2 : length p2 ≡ 64
  l2 = ap length e2 ∙ length-patched 8 sequence p1 (omega (arith, sequence_long, l1)) ∙ l1

  l3 : length p3 ≡ 64
  l3 = ap length e3 ∙ length-patched 16 entry.iv p2 (omega (arith, iv, l2)) ∙ l2

  l4 : length p4 ≡ 64
  l4 = ap length e4 ∙ length-patched 32 entry.tag p3 (omega (arith, tag, l3)) ∙ l3

  past_4 : (at n : ℕ) → at + n ≤ 32 → part at n p4 ≡ part at n p3
  past_4 at n below = ap (part at n) e4 ∙ part_before at n 32 entry.tag p3 below (omega (arith, tag, l3))

  past_3 : (at n : ℕ) → at + n ≤ 16 → part at n p3 ≡ part at n p2
  past_3 at n below = ap (part at n) e3 ∙ part_before at n 16 entry.iv p2 below (omega (arith, iv, l2))

  past_2 : (at n : ℕ) → at + n ≤ 8 → part at n p2 ≡ part at n p1
  past_2 at n below = ap (part at n) e2 ∙ part_before at n 8 sequence p1 below (omega (arith, sequence_long, l1))

  -- an entry that was written piece by piece
  pub entry_written : IsEntry entry p4
  entry_written = record {
    long = l4;
    copy = past_4 0 8 (omega arith) ∙ past_3 0 8 (omega arith) ∙ past_2 0 8 (omega arith) ∙ ap (part 0 8) e1 ∙ here 0 8 copy zero copy_long (omega (arith, long)) ∙ is_copy;
    sequence = past_4 8 8 (omega arith) ∙ past_3 8 8 (omega arith) ∙ ap (part 8 8) e2 ∙ here 8 8 sequence p1 sequence_long (omega (arith, l1)) ∙ is_sequence;
    iv = past_4 16 16 (omega arith) ∙ ap (part 16 16) e3 ∙ here 16 16 entry.iv p2 iv (omega (arith, l2));
    tag = ap (part 32 32) e4 ∙ here 32 32 entry.tag p3 tag (omega (arith, l3));
  }

module _ (key : List ℕ) (slot : ℕ) (header : Header) (zero text version sequence entry tag p1 p2 p3 p4 p5 : List ℕ) (is_zero : zero ≡ replicate 1024 0)
    (is_text : text ≡ codes "TEEVOLUM") (is_version : version ≡ to_le_bytes w32 header.version) (is_sequence : sequence ≡ le64 header.sequence)
    (is_entry : IsEntry header.root entry) (is_tag : tag ≡ header_tag key slot (take 88 p4)) (tag_long : length tag ≡ 32) (e1 : p1 ≡ with_bytes_at 0 text zero)
    (e2 : p2 ≡ with_bytes_at 8 version p1) (e3 : p3 ≡ with_bytes_at 16 sequence p2) (e4 : p4 ≡ with_bytes_at 24 entry p3) (e5 : p5 ≡ with_bytes_at 88 tag p4) where
  h0 : length zero ≡ 1024
  h0 = ap length is_zero ∙ length-replicate {A = ℕ} 1024 0

  text_long : length text ≡ 8
  text_long = ap length is_text

  version_long : length version ≡ 4
  version_long = ap length is_version

  seq_long : length sequence ≡ 8
  seq_long = ap length is_sequence

  h1 : length p1 ≡ 1024
  h1 = ap length e1 ∙ length-patched 0 text zero (omega (arith, text_long, h0)) ∙ h0

  h2 : length p2 ≡ 1024
  h2 = ap length e2 ∙ length-patched 8 version p1 (omega (arith, version_long, h1)) ∙ h1

  h3 : length p3 ≡ 1024
  h3 = ap length e3 ∙ length-patched 16 sequence p2 (omega (arith, seq_long, h2)) ∙ h2

  h4 : length p4 ≡ 1024
  h4 = ap length e4 ∙ length-patched 24 entry p3 (omega (arith, is_entry.long, h3)) ∙ h3

  h5 : length p5 ≡ 1024
  h5 = ap length e5 ∙ length-patched 88 tag p4 (omega (arith, tag_long, h4)) ∙ h4

  before_5 : (at n : ℕ) → at + n ≤ 88 → part at n p5 ≡ part at n p4
  before_5 at n below = ap (part at n) e5 ∙ part_before at n 88 tag p4 below (omega (arith, tag_long, h4))

  before_4 : (at n : ℕ) → at + n ≤ 24 → part at n p4 ≡ part at n p3
  before_4 at n below = ap (part at n) e4 ∙ part_before at n 24 entry p3 below (omega (arith, is_entry.long, h3))

  before_3 : (at n : ℕ) → at + n ≤ 16 → part at n p3 ≡ part at n p2
  before_3 at n below = ap (part at n) e3 ∙ part_before at n 16 sequence p2 below (omega (arith, seq_long, h2))

  before_2 : (at n : ℕ) → at + n ≤ 8 → part at n p2 ≡ part at n p1
  before_2 at n below = ap (part at n) e2 ∙ part_before at n 8 version p1 below (omega (arith, version_long, h1))

  -- behind the version nothing was written yet
  behind_2 : (at n : ℕ) → 12 ≤ at → part at n p2 ≡ part at n zero
  behind_2 at n above =
      ap (part at n) e2 ∙ part_after at n 8 version p1 (omega (arith, version_long)) (omega (arith, version_long, h1))
      ∙ ap (part at n) e1 ∙ part_after at n 0 text zero (omega (arith, text_long)) (omega (arith, text_long, h0))

  -- nor behind the tag
  behind_5 : (at n : ℕ) → 120 ≤ at → part at n p5 ≡ part at n zero
  behind_5 at n above =
      ap (part at n) e5 ∙ part_after at n 88 tag p4 (omega (arith, tag_long)) (omega (arith, tag_long, h4))
      ∙ ap (part at n) e4 ∙ part_after at n 24 entry p3 (omega (arith, is_entry.long)) (omega (arith, is_entry.long, h3))
      ∙ ap (part at n) e3 ∙ part_after at n 16 sequence p2 (omega (arith, seq_long)) (omega (arith, seq_long, h2))
      ∙ behind_2 at n (omega arith)

  -- a header's block that was written piece by piece
  pub header_written : IsHeaderBlock key slot header p5
  header_written = record {
    long = h5;
    text = before_5 0 8 (omega arith) ∙ before_4 0 8 (omega arith) ∙ before_3 0 8 (omega arith) ∙ before_2 0 8 (omega arith) ∙ ap (part 0 8) e1 ∙ here 0 8 text zero text_long
        (omega (arith, h0)) ∙ is_text;
    version = before_5 8 4 (omega arith) ∙ before_4 8 4 (omega arith) ∙ before_3 8 4 (omega arith) ∙ ap (part 8 4) e2 ∙ here 8 4 version p1 version_long (omega (arith, h1)) ∙ is_version;
    blank = before_5 12 4 (omega arith) ∙ before_4 12 4 (omega arith) ∙ before_3 12 4 (omega arith) ∙ behind_2 12 4 (omega arith) ∙ ap (part 12 4) is_zero ∙ zeros_12;
    sequence = before_5 16 8 (omega arith) ∙ before_4 16 8 (omega arith) ∙ ap (part 16 8) e3 ∙ here 16 8 sequence p2 seq_long (omega (arith, h2)) ∙ is_sequence;
    root = subst (IsEntry header.root) (sym (before_5 24 64 (omega arith) ∙ ap (part 24 64) e4 ∙ here 24 64 entry p3 is_entry.long (omega (arith, h3)))) is_entry;
    tag = ap (part 88 32) e5 ∙ here 88 32 tag p4 tag_long (omega (arith, h4)) ∙ is_tag ∙ ap (header_tag key slot) (sym (before_5 0 88 (omega arith)));
    rest = behind_5 120 904 (omega arith) ∙ ap (part 120 904) is_zero ∙ zeros_120;
  }

-- the numbers of a header fit their types
pub record IsInRange (header : Header) : Type 0 where
  pub version : header.version < 2 ^ 32
  pub sequence : header.sequence < 2 ^ 64
  pub copy : header.root.copy < 2 ^ 64
  pub root : header.root.sequence < 2 ^ 64

-- a header's block is read as that header
pub header_read : (key : List ℕ) (slot : ℕ) (header : Header) (block : List ℕ) → IsInRange header → IsHeaderBlock key slot header block → header_slot key slot block ≡ Good header
unfolding header_slot
header_read key slot header block fits is =
    let same : bytes_eq (header_tag key slot (take 88 block)) (part 88 32 block) ≡ true = (bytes_eq-Decides (header_tag key slot (take 88 block)) (part 88 32 block)).1 (sym is.tag) in
    let version : from_le_bytes w32 (part 8 4 block) ≡ header.version = ap (from_le_bytes w32) is.version ∙ from_le_bytes-to_le_bytes_4 header.version fits.version in
    let sequence : from_le_bytes w64 (part 16 8 block) ≡ header.sequence = ap (from_le_bytes w64) is.sequence ∙ from_le_bytes-to_le_bytes_8 header.sequence fits.sequence in
    let copy : from_le_bytes w64 (part 24 8 block) ≡ header.root.copy = ap (from_le_bytes w64) (sym (part_part 24 64 0 8 block (omega arith)) ∙ is.root.copy)
    ∙ from_le_bytes-to_le_bytes_8 header.root.copy fits.copy in
    let root : from_le_bytes w64 (part 32 8 block) ≡ header.root.sequence = ap (from_le_bytes w64) (sym (part_part 24 64 8 8 block (omega arith)) ∙ is.root.sequence)
    ∙ from_le_bytes-to_le_bytes_8 header.root.sequence fits.root in
    let iv : part 40 16 block ≡ header.root.iv = sym (part_part 24 64 16 16 block (omega arith)) ∙ is.root.iv in
    let tag : part 56 32 block ≡ header.root.tag = sym (part_part 24 64 32 32 block (omega arith)) ∙ is.root.tag in
    rw (same, version, sequence, copy, root, iv, tag) refl
