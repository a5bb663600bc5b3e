-- The passes that the runtime begins with: none knows of an entry, and each has the origin of its application.
use Rattle.std.proofs.Common.{◌≡◌, ◌+◌, ◌++◌, ◌∙◌, ◌⊎◌, ℕ, zero, suc, List, [], ◌∷◌, Option, None, Some, refl, sym, ap, inl, inr, ⊎_elim, arith}
use Rattle.std.specs.Prelude.{slice_get}
use Rattle.turn_cell.specs.Words.{TableId}
use Rattle.app_api.specs.declared.host.Host.{Host}
use Rattle.store_api.specs.Volumes.{VolumeKeeper}
use Rattle.object_dir.specs.Regions.{store_in}
use Rattle.alone.specs.Machine.{start}
use Rattle.shared_parts.specs.HostedApps.{Origin}
use Rattle.shared_parts.specs.StorageParts.{Opened}
use Rattle.shared_tee.specs.Dealing.{fresh_pass, fresh_passes}
use Rattle.shared_tee.specs.Making.{all_fresh, origins_of}
use Rattle.shared_tee.specs.Passes.{PassView, log_of, origin_in}

-- the pass at a place is one of those of an application, or one behind them
fresh_or_rest : {V A : Type 0} (cell : TableId) (origin : Origin V A) (app client count : ℕ) (rest : List (PassView V A)) (i : ℕ) (p : PassView V A)
    → slice_get (fresh_passes cell origin app client count ++ rest) i ≡ Some p → ((c : ℕ) × (fresh_pass cell origin app c ≡ p)) ⊎ ((j : ℕ) × (slice_get rest j ≡ Some p))
fresh_or_rest cell origin app client zero rest i p here = inr (i, here)
fresh_or_rest cell origin app client (suc count) rest zero p here = inl (client, (let e : Some (fresh_pass cell origin app client) ≡ Some p = here in cc (e)))
fresh_or_rest cell origin app client (suc count) rest (suc i) p here = fresh_or_rest cell origin app (client + 1) count rest i p here

module _ {V A : Type 0} (K : VolumeKeeper V) (storage : TableId) (apps : ℕ) (volume : V) (seed : List ℕ) where
  -- where the application of this index begins that this host brings
  abbrev pub origin_at : Host A → ℕ → Origin V A
  origin_at host app = record { storage = storage; opened = Opened apps volume; machine = start host app seed (store_in app (K.held volume)) }

  -- the pass is one of an application of these hosts, of which the first has this index. It knows of no entry, and has the application's
  -- origin
  pub record IsFreshOf (first : ℕ) (hosts : List (Host A)) (p : PassView V A) : Type 0 where
    pub place : ℕ
    pub host : Host A
    pub hosted : slice_get hosts place ≡ Some host
    pub app_is : p.app ≡ first + place
    pub none : log_of p ≡ []
    pub origin_is : origin_in p.seat.trail ≡ Some (origin_at host (first + place))

  one_later : (first : ℕ) (host : Host A) (hosts : List (Host A)) (p : PassView V A) → IsFreshOf (first + 1) hosts p → IsFreshOf first (host ∷ hosts) p
  one_later first host hosts p f =
      let same : (first + 1) + f.place ≡ first + suc f.place = omega arith in
      record {
        place = suc f.place;
        host = f.host;
        hosted = f.hosted;
        app_is = f.app_is ∙ same;
        none = f.none;
        origin_is = f.origin_is ∙ ap (λ (n : ℕ). Some (origin_at f.host n)) same;
      }

  first_one : (first : ℕ) (host : Host A) (hosts : List (Host A)) (cell : TableId) (c : ℕ) (p : PassView V A) → fresh_pass cell (origin_at host first) first c ≡ p
      → IsFreshOf first (host ∷ hosts) p
  first_one first host hosts cell c p is =
      let same : first ≡ first + 0 = omega arith in
      record {
        place = 0;
        host = host;
        hosted = refl;
        app_is = ap (λ (q : PassView V A). q.app) (sym is) ∙ same;
        none = ap (λ (q : PassView V A). log_of q) (sym is);
        origin_is = ap (λ (q : PassView V A). origin_in q.seat.trail) (sym is) ∙ ap (λ (n : ℕ). Some (origin_at host n)) same;
      }

  pub fresh_at : (first : ℕ) (cells : List TableId) (hosts : List (Host A)) (i : ℕ) (p : PassView V A)
      → slice_get (all_fresh first cells (origins_of K storage apps volume seed first hosts)) i ≡ Some p → IsFreshOf first hosts p
  fresh_at first [] hosts i p here = absurd (let n : Option (PassView V A) = None in let e : n ≡ Some p = here in cc (e))
  fresh_at first (cell ∷ cells) [] i p here = absurd (let n : Option (PassView V A) = None in let e : n ≡ Some p = here in cc (e))
  fresh_at first (cell ∷ cells) (host ∷ hosts) i p here =
      ⊎_elim
      (λ own. first_one first host hosts cell own.0 p own.1)
      (λ rest. one_later first host hosts p (fresh_at (first + 1) cells hosts rest.0 p rest.1))
      (fresh_or_rest cell (origin_at host first) first 0 8 (all_fresh (first + 1) cells (origins_of K storage apps volume seed (first + 1) hosts)) i p here)
