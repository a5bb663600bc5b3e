-- What a turn leaves of the numbers of turns and of restarts.
use Rattle.app_api.specs.Behaviours.{Behaviour}
use Rattle.std.proofs.Common.{ℕ, ◌≡◌, ◌+◌, ◌∙◌, Bool, true, false, is_some, List, refl, sym, ap, subst}
use Rattle.alone.proofs.Booted.{turn_boots_none}
use Rattle.alone.proofs.Counted.{turn_counts}
use Rattle.alone.specs.declared.reply.Reply.{Reply}
use Rattle.alone.specs.declared.turn.TurnKind.{TurnKind}
use Rattle.alone.specs.declared.turn.TurnKind.TheVariants as kinds
use Rattle.alone.specs.Machine.{Machine}
use Rattle.alone.specs.Step.{step}
use Rattle.object_asks.specs.Asks.{Serves, Fails, Damaged}
use Rattle.store_api.specs.Keeping.{Keeper}
use Rattle.store_api.specs.Stores.{Store}
use Rattle.app_side.specs.declared.side.AppSide.{AppSide}
use Rattle.app_side.specs.Represents.{Represents, doubtful, event_of}
use Rattle.app_side.specs.Serving.{IsTurn}

module _ {A : Type 0} (behaviour : Behaviour A) where
  -- a turn of each kind counts
  kind_counts : (kind : TurnKind) (m : Machine A) (i : ℕ) → (step behaviour m (event_of kind i)).machine.turns ≡ m.turns + 1
  kind_counts kinds.Plain m i = turn_counts behaviour Serves m i
  kind_counts (kinds.Lost changes) m i = turn_counts behaviour Fails m i
  kind_counts kinds.Starved m i = refl
  kind_counts kinds.Corrupted m i = turn_counts behaviour Damaged m i

  -- none is a restart
  kind_boots_none : (kind : TurnKind) (m : Machine A) (i : ℕ) → (step behaviour m (event_of kind i)).machine.boot ≡ m.boot
  kind_boots_none kinds.Plain m i = turn_boots_none behaviour Serves m i
  kind_boots_none (kinds.Lost changes) m i = turn_boots_none behaviour Fails m i
  kind_boots_none kinds.Starved m i = refl
  kind_boots_none kinds.Corrupted m i = turn_boots_none behaviour Damaged m i

  -- the value with these numbers stands for the machine, which has them
  numbers_kept : (kind : TurnKind) (i : ℕ) (before mid : AppSide A) (m : Machine A) → Represents before m → Represents mid (step behaviour m (event_of kind i)).machine
      → Represents (record mid { turns = before.turns + 1; boot = before.boot }) (step behaviour m (event_of kind i)).machine
  numbers_kept kind i before mid m stands left =
      let after : Machine A = (step behaviour m (event_of kind i)).machine in
      let turns : mid.turns ≡ before.turns + 1 = sym (ap (λ (x : Machine A). x.turns) left.parts) ∙ kind_counts kind m i ∙ ap (λ (x : Machine A). x.turns + 1) stands.parts in
      let boot : mid.boot ≡ before.boot = sym (ap (λ (x : Machine A). x.boot) left.parts) ∙ kind_boots_none kind m i ∙ ap (λ (x : Machine A). x.boot) stands.parts in
      subst (λ (b : ℕ). Represents (record mid { turns = before.turns + 1; boot = b }) after) boot
      (subst (λ (n : ℕ). Represents (record mid { turns = n; boot = mid.boot }) after) turns left)

  -- a turn whose numbers are noted once more is the same turn
  pub numbered : {D : Type 0} (K : Keeper D) (i : ℕ) (kind : TurnKind) (replies : List Reply) (before mid : AppSide A) (old new : D)
      → IsTurn K behaviour i kind replies before mid old new
      → IsTurn K behaviour i kind replies before (record mid { turns = before.turns + 1; boot = before.boot }) old new
  numbered K i kind replies before mid old new is = record {
    step = λ there m stands same. numbers_kept kind i before mid m stands (is.step there m stands same);
    store = is.store;
    told = is.told;
    stands = is.stands;
    change = is.change;
    status = is.status;
    damage = is.damage;
    honest = is.honest;
    lost = is.lost;
    starved = is.starved;
    keeps = is.keeps;
    crash = is.crash;
  }

-- whether a change is in doubt, as a value keeps it
doubt_there : (there : Bool) (doubt : Store) → is_some (doubtful there doubt) ≡ there
doubt_there true doubt = refl
doubt_there false doubt = refl

pub doubt_told : {A : Type 0} (side : AppSide A) (m : Machine A) → Represents side m → side.in_doubt ≡ is_some m.in_doubt
doubt_told {A} side m is = sym (doubt_there side.in_doubt is.doubt) ∙ sym (ap (λ (x : Machine A). is_some x.in_doubt) is.parts)
