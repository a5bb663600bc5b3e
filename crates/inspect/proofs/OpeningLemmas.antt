-- What is told of a board that was searched, before its volume is opened.
use Rattle.std.proofs.Common.{◌≡◌, ◌≤◌, ◌∙◌, ℕ, List, Option, Some, ap, subst, arith}
use Rattle.store_api.specs.Volumes.{Held}
use Rattle.board.specs.Moment.{View}
use Rattle.board.specs.Runs.{Rests}
use Rattle.epoch.specs.Forms.{Form, IsFramed, held_in, root_of}
use Rattle.epoch.specs.Mounting.{MountsTo}
use Rattle.epoch.specs.declared.header.Header.{Header}
use Rattle.epoch.proofs.CommitLemmas.{mounted_holds}

-- a board on which a header was found rests, and holds what it held
pub record HoldsStill (f : Form) (h : Held) (view : View) : Type 0 where
  pub rests : Rests h.sequence view.state
  pub large : f.blocks ≤ view.size
  pub holds : held_in f view.key view.state.reads h.sequence ≡ Some h

pub found_holds : (f : Form) (old new : View) (h : Held) (found : Option Header) (header : Header) → IsFramed f → new.size ≡ old.size → new.key ≡ old.key
    → f.blocks ≤ old.size → found ≡ Some header → MountsTo f old.key h new.state found → HoldsStill f h new
found_holds f old new h found header framed size key large is mounts =
    let some : MountsTo f old.key h new.state (Some header) = subst (MountsTo f old.key h new.state) is mounts in
    record {
      rests = some.1.rests;
      large = omega (arith, size, large);
      holds = ap (λ (k : List ℕ). held_in f k new.state.reads h.sequence) key ∙ mounted_holds f framed old.key (root_of header) h new.state some.1;
    }
