-- The past of a store in memory.
use Rattle.std.specs.Prelude.{List, [], ◌∷◌}
use Rattle.store_api.specs.declared.map_store.Link.{Link}
use Rattle.store_api.specs.declared.map_store.Link.TheVariants.{Start, Then}
use Rattle.store_api.specs.Stores.{Store}

-- the stores in a chain, the last of them first
abbrev pub stores_of : Link → List Store
stores_of Start = []
stores_of (Then store past) = store.value ∷ past.value
