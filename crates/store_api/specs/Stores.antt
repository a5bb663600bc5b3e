-- Objects, stores and changes of stores (TEE Internal Core API 1.3, chapter 5).
use Rattle.std.specs.Prelude.{ℕ, ◌+◌, ◌-◌, ◌/◌, ◌==◌, nat_le, Bool, true, not, ◌&&◌, List, ◌++◌, Option, None, Some, is_some}
use Rattle.std.specs.Prelude.{Result, Ok, Err, if◌then◌else◌, find, sum_by, refl, length, take, drop, replicate}
use Rattle.std.specs.Ordering.{nat_cmp, is_lt}
use Rattle.std.specs.Cmp.Lexicographic.{slice_cmp}
use Rattle.std.specs.Coded.{Coded, code_by, coded×, coded_ℕ, coded_list}
use Rattle.std.specs.FinMap as map
use Rattle.tee_base.specs.declared.limits.TheConstants.{QUOTA}
use Rattle.store_api.specs.declared.object.Object.{Object}
use Rattle.store_api.specs.declared.object.Facts.{Facts}
use Rattle.store_api.specs.declared.object.Listed.{Listed}
use Rattle.store_api.specs.declared.answer.StoreAnswer.{StoreAnswer}
use Rattle.store_api.specs.declared.answer.StoreAnswer.TheVariants.{NotFound, Exists, NoSpace}
use Rattle.store_api.specs.declared.change.Change.{Change}
use Rattle.store_api.specs.declared.change.Change.TheVariants.{Put, Delete, Rename, Write, Truncate}
use Rattle.tee_base.specs.Words.{Identifier}

-- a store: the object of each identifier. Identifiers are ordered by their bytes, a shorter one before a longer one that it begins
abbrev pub Store : Type 0
Store = map.FinMap (slice_cmp nat_cmp) Object

-- the store that has no objects
abbrev pub empty_store : Store
empty_store = map.empty

-- the object of this identifier, where there is one
abbrev pub object_at : Store → Identifier → Option Object
object_at store id = map.get store id

-- there is an object of this identifier
abbrev pub has : Store → Identifier → Bool
has store id = is_some (object_at store id)

-- how many blocks an object of this length costs: one for itself, and its content's in blocks of 1,024 bytes
abbrev pub blocks_for : ℕ → ℕ
blocks_for n = 1 + (n + 1023) / 1024

-- what all objects cost together
abbrev pub cost : Store → ℕ
cost store = sum_by (λ o. blocks_for (length o.content)) (map.values store)

-- the cost in blocks that the objects of one application may reach
abbrev pub quota : ℕ
quota = QUOTA

-- the first n bytes, filled by zeros
abbrev pub resize : ℕ → List ℕ → List ℕ
resize n content = take n content ++ replicate (n - length content) 0

-- with these bytes at a place: a gap before it is zeros, what is behind them stays, and with no bytes nothing changes
abbrev pub write_at : List ℕ → ℕ → List ℕ → List ℕ
write_at content at bytes = if length bytes == 0 then content else resize at content ++ bytes ++ drop (at + length bytes) content

-- for the object of an identifier, if it has one
abbrev pub with_object : {A : Type 0} → Option Object → (Object → Result A StoreAnswer) → Result A StoreAnswer
with_object None f = Err NotFound
with_object (Some o) f = f o

-- the store after a change, without regard to the quota (sections 5.7.2, 5.7.4, 5.7.5, 5.9.2 and 5.9.3)
abbrev pub after_change : Store → Change → Result Store StoreAnswer
after_change store (Put id kind usage secret content overwrite) =
    if has store id && not overwrite then Err Exists else
    Ok (map.insert store id (record { kind = kind; usage = usage; secret = secret; content = content }))
after_change store (Delete id) = with_object (object_at store id) (λ o. Ok (map.remove store id))
after_change store (Rename id to) = with_object (object_at store id) (λ o.
    if has store to then Err Exists else Ok (map.remove (map.insert store to o) id))
after_change store (Write id at bytes) = with_object (object_at store id) (λ o.
    Ok (map.insert store id (record o { content = write_at o.content at bytes })))
after_change store (Truncate id n) = with_object (object_at store id) (λ o.
    Ok (map.insert store id (record o { content = resize n o.content })))

-- the new store, unless it costs more than the quota allows
abbrev pub within_quota : Result Store StoreAnswer → Result Store StoreAnswer
within_quota (Ok store) = if nat_le (cost store) quota then Ok store else Err NoSpace
within_quota (Err refusal) = Err refusal

-- the store after a change, or the first refusal that applies of NotFound, Exists and NoSpace
unfoldable pub change : Store → Change → Result Store StoreAnswer
change store c = within_quota (after_change store c)

-- what is told of an object without reading its secret or its content
abbrev pub facts_of : Object → Facts
facts_of o = record { kind = o.kind; usage = o.usage; secret = length o.secret; length = length o.content }

-- an object's facts
abbrev pub found : Store → Identifier → Result Facts StoreAnswer
found store id = with_object (object_at store id) (λ o. Ok (facts_of o))

-- an object's secret
abbrev pub secret_at : Store → Identifier → Result (List ℕ) StoreAnswer
secret_at store id = with_object (object_at store id) (λ o. Ok o.secret)

-- at most so many bytes of an object's content from a place on (section 5.9.1)
abbrev pub read_at : Store → Identifier → ℕ → ℕ → Result (List ℕ) StoreAnswer
read_at store id from count = with_object (object_at store id) (λ o. Ok (take count (drop from o.content)))

-- the identifier is greater than the last one; each is greater than none
abbrev pub is_after : Option (List ℕ) → Identifier → Bool
is_after None id = true
is_after (Some last) id = is_lt (slice_cmp nat_cmp last id)

-- what a listing tells of an entry, or NotFound where there is none
abbrev pub listing_answer : Option (List ℕ × Object) → Result Listed StoreAnswer
listing_answer None = Err NotFound
listing_answer (Some entry) = Ok (record { id = entry.0; facts = facts_of entry.1 })

-- the least identifier greater than the last one, with its facts: the first in the map's order, which ascends (section 5.8.5)
abbrev pub next_after : Store → Option (List ℕ) → Result Listed StoreAnswer
next_after store last = listing_answer (find (λ entry. is_after last entry.0) (map.entries store))

-- an object as numbers and lists
abbrev pub coded_object : Coded Object
coded_object =
    code_by ((ℕ × ℕ) × (List ℕ × List ℕ)) (coded× (coded× coded_ℕ coded_ℕ) (coded× (coded_list coded_ℕ) (coded_list coded_ℕ)))
    (λ o. ((o.kind, o.usage), (o.secret, o.content)))
    (λ p. record { kind = p.0.0; usage = p.0.1; secret = p.1.0; content = p.1.1 }) (λ _. refl)

-- a store as numbers and lists
abbrev pub coded_store : Coded Store
coded_store = map.code (coded_list coded_ℕ) coded_object
