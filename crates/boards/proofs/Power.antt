-- A loss of power leaves one of the images and counters that a crash may leave.
use Rattle.std.proofs.Common.{◌≡◌, ◌≤◌, ◌+◌, ℕ, Bool, true, false, cond, ap, subst, ◌∙◌, refl, arith}
use Rattle.board.specs.Steps.{Powered}
use Rattle.boards.specs.Disk.{HasLanded, state_of, reads_of, durable_of, pending_of, offered_of}
use Rattle.boards.specs.Landing.{digits_of, digit_at, block_after_crash, landed_counter}
use Rattle.boards.specs.declared.disk.Disk.{Disk}

least : (raises : Bool) (n : ℕ) → n ≤ cond raises (n + 1) n
least true n = omega arith
least false n = omega arith

greatest : (raises : Bool) (n : ℕ) → cond raises (n + 1) n ≤ n + 1
greatest true n = omega arith
greatest false n = omega arith

landed_counter-least : (unsettled : Bool) (pick n : ℕ) → n ≤ landed_counter unsettled pick n
landed_counter-least unsettled pick n = least _ n

landed_counter-greatest : (unsettled : Bool) (pick n : ℕ) → landed_counter unsettled pick n ≤ n + cond unsettled 1 0
landed_counter-greatest true pick n = greatest _ n
landed_counter-greatest false pick n = omega arith

-- the disk after the counter is settled
abbrev pub settled_disk : Disk → ℕ → Disk
settled_disk old pick = record old { counter = landed_counter old.unsettled pick old.counter; unsettled = false }

-- the blocks land by the digits that the counter leaves
pub picked : (pick digits : ℕ) (old mid new : Disk) → mid ≡ settled_disk old pick → digits ≡ digits_of old.unsettled pick → HasLanded digits mid new
    → HasLanded (digits_of old.unsettled pick) (settled_disk old pick) new
picked pick digits old mid new settled number landed =
    subst (λ n. HasLanded n (settled_disk old pick) new) number (subst (λ (d : Disk). HasLanded digits d new) settled landed)

pub powered : (pick : ℕ) (old new : Disk) → HasLanded (digits_of old.unsettled pick) (settled_disk old pick) new → Powered (state_of old) (state_of new)
powered pick old new l = record {
  left = record { image = reads_of new; counter = new.counter; faults = new.faults; orders = new.orders };
  may = record {
    kept = λ k p. l.image k ∙ ap (λ b. cond b (block_after_crash (digit_at (digits_of old.unsettled pick) (pending_of old) k) (durable_of old k) (offered_of old k)) (durable_of old k)) p;
    any = λ k p. l.whole.seen.whole k;
    counter = record {
      least = rw l.counter (landed_counter-least old.unsettled pick old.counter);
      greatest = rw l.counter (landed_counter-greatest old.unsettled pick old.counter);
      fits = l.whole.counter;
    };
    faults = l.faults;
    orders = l.orders;
  };
  reads = λ k. refl;
  durable = l.durable;
  pending = l.pending;
  counter = refl;
  slack = ap (λ b. cond b 1 0) l.unsettled;
}
