-- Bytes that go out are those of the buffer.
use Rattle.std.proofs.Common.{◌≡◌, ◌+◌, ◌-◌, ◌%◌, ◌^◌, ◌≤◌, ◌==◌, ℕ, Bool, true, false, nat_lt, List, [], length, take, drop, Option, None, Some, refl, sym, ap, ◌∙◌, subst, arith, if◌then◌else◌}
use Rattle.std.proofs.lemmas.Bool.{leb-true, ltb-false}
use Rattle.std.proofs.lemmas.List.{length-take-le, length-drop}
use Rattle.std.proofs.lemmas.Option.{none-some, same_Some}
use Rattle.tee_base.specs.declared.limits.TheConstants.{MAX_ASK_BYTES}
use Rattle.app_api.specs.declared.out.Out.{Out}
use Rattle.app_api.specs.declared.out.Out.TheVariants as outs
use Rattle.rv32.specs.Memory.{holds, index_of, slice_at, word}
use Rattle.c_app.specs.Laws.{IsOfBuffer}
use Rattle.c_app.specs.Outputs.{bytes_at, bytes_out, memory_out, out_at}
use Rattle.c_app.specs.declared.slots.Slot.TheVariants as slots

-- so many bytes lie there
sized : (m : List ℕ) (a n : ℕ) → holds m a n ≡ true → length (slice_at m a n) ≡ n
sized m a n h =
    let fits : index_of a + n ≤ length m = leb-true _ _ h in
    let rest : length (drop (index_of a) m) ≡ length m - index_of a = length-drop (index_of a) m in
    length-take-le n (drop (index_of a) m) (omega (arith, fits, rest))

-- the bytes that were found, by the three tests
chosen : (m : List ℕ) (a room n : ℕ) (bytes : List ℕ) (none large lies : Bool) → n ≤ room → (lies ≡ true → length (slice_at m a n) ≡ n)
    → (if none then Some [] else if large then None else if lies then Some (slice_at m a n) else None) ≡ Some bytes → IsOfBuffer m a room bytes
chosen m a room n bytes true large lies few long e =
    subst (λ (b : List ℕ). IsOfBuffer m a room b) (same_Some [] bytes e) (record { few = omega arith; same = refl })
chosen m a room n bytes false true lies few long e = absurd (none-some bytes e)
chosen m a room n bytes false false true few long e =
    let size : length (slice_at m a n) ≡ n = long refl in
    subst (λ (b : List ℕ). IsOfBuffer m a room b) (same_Some (slice_at m a n) bytes e)
    (record { few = omega (arith, few, size); same = ap (slice_at m a) (sym size) })
chosen m a room n bytes false false false few long e = absurd (none-some bytes e)

bytes_fit : (m : List ℕ) (a room n : ℕ) (bytes : List ℕ) → n ≤ room → bytes_at m a n ≡ Some bytes → IsOfBuffer m a room bytes
bytes_fit m a room n bytes few e = chosen m a room n bytes (n == 0) (nat_lt MAX_ASK_BYTES n) (holds m a n) few (sized m a n) e

-- bytes and a size are told apart
apart : (n : ℕ) (bytes : List ℕ) → Some (outs.Size n) ≡ Some (outs.Mem bytes) → ⊥
apart n bytes e = cc

same_Mem : (b bytes : List ℕ) → Some (outs.Mem b) ≡ Some (outs.Mem bytes) → b ≡ bytes
same_Mem b bytes e = cc

-- bytes are given where they were found
out_fits : (m : List ℕ) (a room : ℕ) (bytes : List ℕ) (found : Option (List ℕ)) → ((b : List ℕ) → found ≡ Some b → IsOfBuffer m a room b)
    → bytes_out found ≡ Some (outs.Mem bytes) → IsOfBuffer m a room bytes
out_fits m a room bytes None h e = absurd (none-some (outs.Mem bytes) e)
out_fits m a room bytes (Some b) h e =
    let same : b ≡ bytes = same_Mem b bytes e in subst (λ (b : List ℕ). IsOfBuffer m a room b) same (h b refl)

-- a size beyond the buffer gives no bytes
size_fits : (m : List ℕ) (a room n : ℕ) (bytes : List ℕ) (beyond : Bool) → nat_lt room n ≡ beyond
    → (if beyond then Some (outs.Size n) else bytes_out (bytes_at m a n)) ≡ Some (outs.Mem bytes) → IsOfBuffer m a room bytes
size_fits m a room n bytes true h e = absurd (apart n bytes e)
size_fits m a room n bytes false h e =
    out_fits m a room bytes (bytes_at m a n) (λ b found. bytes_fit m a room n b (ltb-false room n h) found) e

memory_fits : (m : List ℕ) (a room : ℕ) (size : Option ℕ) (bytes : List ℕ) → memory_out m a room size ≡ Some (outs.Mem bytes)
    → IsOfBuffer m a room bytes
memory_fits m a room None bytes e = absurd (none-some (outs.Mem bytes) e)
memory_fits m a room (Some n) bytes e = size_fits m a room n bytes (nat_lt room n) refl e

pub output_fits : (m : List ℕ) (address room at : ℕ) (bytes : List ℕ) → out_at (slots.Mem address room) m at ≡ Some (outs.Mem bytes)
    → IsOfBuffer m address room bytes
unfolding out_at
output_fits m address room at bytes e = memory_fits m address room (word m ((at + 4) % 2 ^ 32)) bytes e
