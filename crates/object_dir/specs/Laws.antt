-- What a crash leaves of a region that stands for a store.
use Rattle.std.specs.Prelude.{ℕ, ◌≡◌, Some, Result, Ok}
use Rattle.std.proofs.Common.{ap}
use Rattle.store_api.specs.Stores.{Store}
use Rattle.store_api.specs.Volumes.{Held}
use Rattle.object_dir.specs.Regions.{contents_in, remains_of, region_in, remains_in, store_in}

-- it leaves what is kept
pub reads_back : (n : ℕ) (h : Held) → region_in n h ≡ Ok (store_in n h) → remains_in n (Some h) ≡ Some (contents_in n h)
reads_back n h is = ap (λ (r : Result Store ℕ). remains_of n h r) is
