-- What a client's lines have of a log that goes on by entries of others.
use Rattle.app_api.specs.Behaviours.{Behaviour}
use Rattle.std.proofs.Common.{◌≡◌, ◌≤◌, ◌⊎◌, ℕ, true, List, [], length, inl, inr, ⊎_elim}
use Rattle.tee_base.specs.declared.limits.TheConstants.{MAX_LOG_ENTRIES}
use Rattle.alone.specs.Logs.{Logged, is_full}
use Rattle.alone.specs.Machine.{Machine}
use Rattle.race.proofs.FollowLemmas.{cut_on, follows_on}
use Rattle.race.specs.Following.{Follows, FollowsCut, FollowsFirst, FollowsPart, Grows}
use Rattle.race.specs.Wishes.{Wish}
use Rattle.race.proofs.LogLemmas.{fuller_later}
use Rattle.race.specs.Races.{FollowsFull, FollowsOrCut}

module _ {A : Type 0} (behaviour : Behaviour A) (m : Machine A) (client : ℕ) (log more : List Logged) (g : Grows client log more []) where
  -- the first lines, of which the last may be cut short
  pub first_on : (wishes : List Wish) → FollowsFirst behaviour m client log wishes → FollowsFirst behaviour m client more wishes
  first_on wishes f = record {
    first = f.first;
    rest = f.rest;
    wishes_are = f.wishes_are;
    follows = ⊎_elim (λ whole. inl (follows_on behaviour m client log more f.first whole g)) (λ cut. inr (cut_on behaviour m client log more f.first cut g)) f.follows;
  }

  module _ (many : is_full more 0 ≡ true → MAX_LOG_ENTRIES ≤ length more) where
    -- lines of which a full log may cut the last one short
    or_cut_on : (wishes : List Wish) → Follows behaviour m client log wishes ⊎ ((is_full log 0 ≡ true) × FollowsCut behaviour m client log wishes)
        → FollowsOrCut behaviour m client more wishes
    or_cut_on wishes f =
        ⊎_elim (λ whole. inl (follows_on behaviour m client log more wishes whole g))
        (λ cut. inr (many (fuller_later log more 0 g.goes_on cut.0), cut_on behaviour m client log more wishes cut.1 g)) f

    pub part_on : (wishes : List Wish) → FollowsPart behaviour m client log wishes → FollowsFull behaviour m client more wishes
    part_on wishes f = record { first = f.first; rest = f.rest; wishes_are = f.wishes_are; follows = or_cut_on f.first f.follows }
