-- What a crash may leave where an ask has no call of the store.
use Rattle.std.proofs.Common.{◌≡◌, true, false, Option, None, Some, inl, refl, arith}
use Rattle.tee_base.proofs.Crash.{started, weaker}
use Rattle.store_api.specs.Stores.{Store}
use Rattle.store_api.specs.Keeping.{Contents, Keeper, Remains, LeavesJust}
use Rattle.object_asks.specs.declared.turn.TurnKind.{TurnKind}
use Rattle.object_asks.specs.declared.turn.TurnKind.TheVariants.{Plain, Lost, Corrupted}
use Rattle.object_asks.specs.Serving.{CrashTurns, IsKept, LeftByTurn, UnlessInDoubt}

-- what was kept before is among what any turn may leave
pub only_old : (kind : TurnKind) (in_doubt : Option Store) (old new : Contents) (o : Remains) → o ≡ Some old → LeftByTurn kind in_doubt old new o
only_old Plain in_doubt old new o e = inl e
only_old (Lost true) None old new o e = e
only_old (Lost true) (Some store) old new o e = inl e
only_old (Lost false) in_doubt old new o e = e
only_old Corrupted in_doubt old new o e = e

-- where no store is in doubt, what was kept before remains, whatever else might be in doubt
none_any : (kind : TurnKind) (in_doubt : Option Store) (old new : Contents) (o : Remains) → LeftByTurn kind None old new o → LeftByTurn kind in_doubt old new o
none_any Plain in_doubt old new o left = left
none_any (Lost true) None old new o left = left
none_any (Lost true) (Some store) old new o left = inl left
none_any (Lost false) in_doubt old new o left = left
none_any Corrupted in_doubt old new o left = left

pub whatever : (kind : TurnKind) (fact : Type 0) → fact → UnlessInDoubt kind fact
whatever Plain fact holds = holds
whatever (Lost true) fact holds = tt
whatever (Lost false) fact holds = holds
whatever Corrupted fact holds = holds

module _ {D : Type 0} (K : Keeper D) where
  -- a turn without a call of the store
  pub idle_crash : (kind : TurnKind) (in_doubt : Option Store) (old : D) → LeavesJust K old (K.contents old) → CrashTurns K kind in_doubt old old
  idle_crash kind in_doubt old just = record {
    any_moment = started K.moment K.left_since old (LeftByTurn kind in_doubt (K.contents old) (K.contents old))
        (λ o left. only_old kind in_doubt (K.contents old) (K.contents old) o (just.only o left));
    afterwards = whatever kind _ just;
  }

  -- it keeps all
  pub idle_keeps : (old : D) → IsKept K old old
  idle_keeps old = record {
    model = λ there. there;
    still = λ there lost. refl;
    beside = λ there. record { rest = refl; number = omega arith };
    below = λ b. b;
    quiet = λ lost. record { same = refl; none = λ t o left. left };
    past = λ honest. record { later = omega arith; past = λ t o le left. left };
  }

  pub in_any : (kind : TurnKind) (in_doubt : Option Store) (old new : D) → CrashTurns K kind None old new → CrashTurns K kind in_doubt old new
  in_any kind in_doubt old new crash = record {
    any_moment = weaker K.moment K.left_since old new (LeftByTurn kind None (K.contents old) (K.contents new)) (LeftByTurn kind in_doubt (K.contents old) (K.contents new))
        (λ o left. none_any kind in_doubt (K.contents old) (K.contents new) o left) crash.any_moment;
    afterwards = crash.afterwards;
  }
