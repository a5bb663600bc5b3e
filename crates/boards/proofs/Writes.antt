-- What a write changes: what reads give of its block, and what was offered to it, and nothing durable.
use Rattle.std.proofs.Common.{◌≡◌, ◌≢◌, ℕ, true, List}
use Rattle.std.proofs.Common.{sym, ap, subst, ⊎_elim, ◌∙◌, arith}
use Rattle.std.proofs.lemmas.Bool.{cases_eq}
use Rattle.std.proofs.lemmas.List.{get_or_default}
use Rattle.boards.specs.Pending.{HasOffered, IsPending, durable_or, is_pending}
use Rattle.boards.specs.Places.{place_in}
use Rattle.boards.specs.Row.{Sets, block_of}
use Rattle.boards.specs.declared.pending.Pending.{Pending}
use Rattle.boards.specs.declared.row.Row.{Row}
use Rattle.boards.proofs.Places.{listed_place}

-- a pending block is on the disk as it was, whatever a read gives
pub durable_whatever : (p : Pending) → IsPending p → (k : ℕ) → is_pending p k ≡ true → (bytes bytes' : List ℕ) → durable_or p k bytes ≡ durable_or p k bytes'
durable_whatever p is k pends bytes bytes' =
    let place = listed_place p.listed.blocks.items k pends in
    get_or_default p.durable.items (place_in p.listed.blocks.items k) bytes bytes' (omega (arith, place, is.durable, p.durable.ok, p.listed.blocks.ok))

-- nothing durable changes
module _ (block : ℕ) (bytes held : List ℕ) (seen : Row) (old new : Pending) (offers : HasOffered block held bytes old new) (holds : held ≡ block_of seen block) where
  pub durable_offered : (k : ℕ) → durable_or new k (block_of seen k) ≡ durable_or old k (block_of seen k)
  durable_offered k = offers.kept k (λ n. block_of seen n) (sym holds)

  pub durable_written : (seen' : Row) → Sets block bytes seen seen' → (k : ℕ) → durable_or new k (block_of seen' k) ≡ durable_or old k (block_of seen k)
  durable_written seen' sets k =
      ⊎_elim
      (λ (e : k ≡ block). durable_whatever new offers.pending k (subst (λ n. is_pending new n ≡ true) (sym e) offers.here) (block_of seen' k) (block_of seen k))
      (λ (ne : k ≢ block). ap (λ (b : List ℕ). durable_or new k b) (sets.elsewhere k ne))
      (cases_eq k block)
      ∙ durable_offered k
