-- What a call of a board over files makes of its view, by its counts.
use Rattle.std.proofs.Common.{◌≡◌, ◌≤◌, ◌+◌, ℕ, Bool, true, false, cond, List, [], Result, Ok, Err, is_ok, refl, ap, subst, ◌∙◌, arith}
use Rattle.std.specs.Prelude.{IsErr, map}
use Rattle.std.proofs.lemmas.Bool.{false≢true}
use Rattle.tee_base.specs.Faults.{Rose}
use Rattle.board.specs.Fuse.{fuse_after_call, fate_by, passes}
use Rattle.board.specs.Moment.{View}
use Rattle.board.specs.Steps.{up_to_limit, Called}
use Rattle.boards.specs.Device.{files_at, order_of}
use Rattle.boards.specs.declared.counts.Counts.{Counts}

-- a board of this size and this key with these counts
abbrev pub seen : ℕ → List ℕ → Counts → View
seen size key counts = record {
  size = size;
  key = key;
  writes = counts.writes;
  ordered = map order_of counts.ordered;
  fuse = counts.fuse;
  state = files_at counts.faults counts.orders;
  past = [];
}

module _ (size : ℕ) (key : List ℕ) (writes : ℕ) (old mid : Counts) where
  -- the fuse stops the call
  pub stopped : mid ≡ record old { writes = writes; fuse = fuse_after_call old.fuse; faults = up_to_limit (old.faults + 1) } → old.faults ≤ mid.faults → Rose old.faults mid.faults
      → Called false (seen size key old) (seen size key mid)
  stopped is later rose = record {
    size = refl;
    key = refl;
    orders = ap (λ (x : Counts). x.orders) is;
    ordered = ap (λ (x : Counts). map order_of x.ordered) is;
    faults = later;
    cause = λ failed. rose;
    steady = λ made. absurd (false≢true made);
    fuse = ap (λ (x : Counts). x.fuse) is;
    stopped = λ blown. refl;
  }

  -- it passes, and ends as the files answer
  pub ended : (ok : Bool) (new : Counts) → true ≡ passes (fate_by old.fuse) → mid ≡ record old { writes = writes; fuse = fuse_after_call old.fuse }
      → new ≡ record mid { faults = cond ok mid.faults (up_to_limit (mid.faults + 1)) } → mid.faults ≤ new.faults → (ok ≡ false → Rose mid.faults new.faults)
      → Called ok (seen size key old) (seen size key new)
  ended ok new passed begun is later rose =
      let same : mid.faults ≡ old.faults = ap (λ (x : Counts). x.faults) begun in
      record {
        size = refl;
        key = refl;
        orders = ap (λ (x : Counts). x.orders) is ∙ ap (λ (x : Counts). x.orders) begun;
        ordered = ap (λ (x : Counts). map order_of x.ordered) is ∙ ap (λ (x : Counts). map order_of x.ordered) begun;
        faults = omega (arith, same, later);
        cause = λ failed. subst (λ n. Rose n new.faults) same (rose failed);
        steady = λ made. ap (λ (x : Counts). x.faults) is ∙ ap (λ b. cond b mid.faults (up_to_limit (mid.faults + 1))) made ∙ same;
        fuse = ap (λ (x : Counts). x.fuse) is ∙ ap (λ (x : Counts). x.fuse) begun;
        stopped = λ blown. absurd (let e : true ≡ false = passed ∙ blown in cc);
      }

-- a call that ends in an error
pub called_err : {A E : Type 0} (r : Result A E) (old new : View) → IsErr r → Called false old new → Called (is_ok r) old new
called_err (Ok x) old new fails called = absurd (false≢true fails)
called_err (Err e) old new fails called = called

-- the writes are counted as before the call was begun
pub writes_same : (writes : ℕ) (old mid new : Counts) (faults : ℕ) → mid ≡ record old { writes = writes; fuse = fuse_after_call old.fuse } → new ≡ record mid { faults = faults } → new.writes ≡ writes
writes_same writes old mid new faults begun is = ap (λ (x : Counts). x.writes) is ∙ ap (λ (x : Counts). x.writes) begun
