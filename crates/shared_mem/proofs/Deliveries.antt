-- What an application was given for a reference says what may be put through it, and is no reference itself.
use Rattle.std.proofs.Common.{ℕ, ◌≡◌, ◌≤◌, Bool, true, List, Option, None, Some, Result, Ok, Err, length, take, drop, refl, arith}
use Rattle.std.proofs.lemmas.Bool.{le-leb}
use Rattle.std.proofs.lemmas.List.{length-take}
use Rattle.tee_base.specs.declared.codes.Code.{Code}
use Rattle.app_api.specs.declared.param.Param.{Param}
use Rattle.app_api.specs.declared.param.Param.TheVariants.{Nothing, MemIn, MemOut, MemInOut}
use Rattle.shared_mem.specs.declared.block.Block.{Block}
use Rattle.app_api.specs.declared.reference.Direction.{Direction}
use Rattle.app_api.specs.declared.reference.Direction.TheVariants.{Input, Output, Both}
use Rattle.app_api.specs.declared.reference.Reference.{Reference}
use Rattle.app_api.specs.Params.{reference_of}
use Rattle.app_api.specs.References.{start_of}
use Rattle.shared_mem.specs.Blocks.{bytes_in, check_of, direction_in, given_for, given_in, has_output, length_in, memory_of, takes_bytes}

nothing_out : (room : ℕ) → Nothing ≡ MemOut room → ⊥
nothing_out room e = cc

nothing_both : (xs : List ℕ) → Nothing ≡ MemInOut xs → ⊥
nothing_both xs e = cc

in_out : (xs : List ℕ) (room : ℕ) → MemIn xs ≡ MemOut room → ⊥
in_out xs room e = cc

both_out : (xs : List ℕ) (room : ℕ) → MemInOut xs ≡ MemOut room → ⊥
both_out xs room e = cc

in_both : (xs ys : List ℕ) → MemIn xs ≡ MemInOut ys → ⊥
in_both xs ys e = cc

out_both : (room : ℕ) (ys : List ℕ) → MemOut room ≡ MemInOut ys → ⊥
out_both room ys e = cc

output_is : (direction : Option Direction) (xs : List ℕ) (room : ℕ) → memory_of direction xs ≡ MemOut room → (has_output direction ≡ true) × (length xs ≡ room)
output_is None xs room is = absurd (nothing_out room is)
output_is (Some Input) xs room is = absurd (in_out xs room is)
output_is (Some Output) xs room is = (refl, cc)
output_is (Some Both) xs room is = absurd (both_out xs room is)

both_is : (direction : Option Direction) (xs ys : List ℕ) → memory_of direction xs ≡ MemInOut ys → (has_output direction ≡ true) × (length xs ≡ length ys)
both_is None xs ys is = absurd (nothing_both ys is)
both_is (Some Input) xs ys is = absurd (in_both xs ys is)
both_is (Some Output) xs ys is = absurd (out_both (length xs) ys is)
both_is (Some Both) xs ys is = (refl, cc)

part_few : (b : Block) (r : Reference) → length (bytes_in b r) ≤ length_in b r
part_few b r =
    let few : length (take (length_in b r) (drop (start_of r) b.bytes)) ≤ length_in b r = omega (arith, length-take (length_in b r) (drop (start_of r) b.bytes)) in
    few

taken : (b : Block) (r : Reference) (bytes : List ℕ) → has_output (direction_in b r) ≡ true → length bytes ≤ length_in b r → takes_bytes (Ok b) r bytes ≡ true
taken b r bytes out few = rw (out, le-leb (length bytes) (length_in b r) few) refl

pub takes_output : (checked : Result Block Code) (r : Reference) (room : ℕ) (bytes : List ℕ) → given_in r checked ≡ MemOut room → length bytes ≤ room
    → takes_bytes checked r bytes ≡ true
takes_output (Err code) r room bytes is few = absurd (nothing_out room is)
takes_output (Ok b) r room bytes is few =
    let out = output_is (direction_in b r) (bytes_in b r) room is in
    taken b r bytes out.0 (omega (arith, few, out.1, part_few b r))

pub takes_both : (checked : Result Block Code) (r : Reference) (input bytes : List ℕ) → given_in r checked ≡ MemInOut input → length bytes ≤ length input
    → takes_bytes checked r bytes ≡ true
takes_both (Err code) r input bytes is few = absurd (nothing_both input is)
takes_both (Ok b) r input bytes is few =
    let out = both_is (direction_in b r) (bytes_in b r) input is in
    taken b r bytes out.0 (omega (arith, few, out.1, part_few b r))

memory_no_reference : (direction : Option Direction) (xs : List ℕ) → reference_of (memory_of direction xs) ≡ None
memory_no_reference None xs = refl
memory_no_reference (Some Input) xs = refl
memory_no_reference (Some Output) xs = refl
memory_no_reference (Some Both) xs = refl

given_no_reference : (r : Reference) (checked : Result Block Code) → reference_of (given_in r checked) ≡ None
given_no_reference r (Err code) = refl
given_no_reference r (Ok b) = memory_no_reference (direction_in b r) (bytes_in b r)

pub no_reference_given : (blocks : List Block) (client : ℕ) (r : Reference) → reference_of (given_for blocks client r) ≡ None
no_reference_given blocks client r = given_no_reference r (check_of blocks client r)
