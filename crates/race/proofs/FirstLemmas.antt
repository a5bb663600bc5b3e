-- Entries of all lines are those of the first of them.
use Rattle.app_api.specs.Behaviours.{Behaviour}
use Rattle.std.proofs.Common.{ℕ, List, [], inl, inr, ⊎_elim, refl, sym, append-nil}
use Rattle.alone.specs.Logs.{Logged}
use Rattle.alone.specs.Machine.{Machine}
use Rattle.race.specs.Following.{Follows, FollowsFirst, FollowsPart}
use Rattle.race.specs.Wishes.{Wish}

module _ {A : Type 0} (behaviour : Behaviour A) (m : Machine A) (client : ℕ) where
  pub follows_none : Follows behaviour m client [] []
  follows_none = record { losses = tt; made = refl }

  module _ (log : List Logged) (wishes : List Wish) where
    pub follows_part : Follows behaviour m client log wishes → FollowsPart behaviour m client log wishes
    follows_part whole = record { first = wishes; rest = []; wishes_are = sym (append-nil wishes); follows = inl whole }

    pub follows_first : Follows behaviour m client log wishes → FollowsFirst behaviour m client log wishes
    follows_first whole = record { first = wishes; rest = []; wishes_are = sym (append-nil wishes); follows = inl whole }

    pub first_of_part : FollowsPart behaviour m client log wishes → FollowsFirst behaviour m client log wishes
    first_of_part part = record {
      first = part.first;
      rest = part.rest;
      wishes_are = part.wishes_are;
      follows = ⊎_elim (λ whole. inl whole) (λ cut. inr cut.1) part.follows;
    }
