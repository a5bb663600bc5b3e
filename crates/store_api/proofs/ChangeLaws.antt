-- A change keeps the limits, and leaves the others.
use Rattle.std.proofs.Common.{◌≡◌, ◌≢◌, ◌≤◌, ℕ, Bool, true, false, cond, not, List, length, Option, None, Some, Result, Ok, Err, IfOk, inl, inr, refl, ◌∙◌, ap, nat_le}
use Rattle.std.specs.Prelude.{◌&&◌}
use Rattle.std.proofs.lemmas.Bool.{leb-true}
use Rattle.std.specs.Ordering.{eq_by_cmp}
use Rattle.std.specs.Cmp.Lexicographic.{nat_list_cmp_total}
use Rattle.std.specs.FinMap as finite
use Rattle.store_api.specs.declared.object.Object.{Object}
use Rattle.store_api.specs.declared.answer.StoreAnswer.{StoreAnswer}
use Rattle.store_api.specs.declared.answer.StoreAnswer.TheVariants.{Exists, NoSpace}
use Rattle.store_api.specs.declared.change.Change.{Change}
use Rattle.store_api.specs.declared.change.Change.TheVariants.{Put, Delete, Rename, Write, Truncate}
use Rattle.store_api.specs.Stores.{Store, object_at, has, cost, quota, with_object, within_quota, write_at, resize, change}
use Rattle.store_api.specs.Limits.{IsIdentifier, IsWithinLimits}
use Rattle.store_api.specs.Laws.{KeepsLimits, LeavesOthers}
use Rattle.store_api.proofs.Costs.{by_bytes, tied_same, equal, inserted, removed, limits-insert, limits-remove}

-- what holds of a store that the quota pays holds of what the quota lets through
paid : (P : Store → Type 0) (s : Store) → (cost s ≤ quota → P s) → IfOk (within_quota (Ok s)) (λ after. P after)
paid P s holds =
    elim (nat_le (cost s) quota) as (λ b. nat_le (cost s) quota ≡ b → IfOk {E = StoreAnswer} (cond b (Ok s) (Err NoSpace)) (λ after. P after)) [
      | true ↦ λ e. holds (leb-true (cost s) quota e)
      | false ↦ λ e. tt
    ] refl

-- the same where there is an object
of_object : (P : Store → Type 0) (r : Option Object) (f : Object → Result Store StoreAnswer) → ((o : Object) → r ≡ Some o → IfOk (within_quota (f o)) (λ after. P after)) →
    IfOk (within_quota (with_object r f)) (λ after. P after)
of_object P None f holds = tt
of_object P (Some o) f holds = holds o refl

-- the same where nothing stands in the way
unless : (P : Store → Type 0) (b : Bool) (r : Result Store StoreAnswer) → IfOk (within_quota r) (λ after. P after) → IfOk (within_quota (cond b (Err Exists) r)) (λ after. P after)
unless P true r holds = tt
unless P false r holds = holds

renamed : (m : Store) (k to : List ℕ) (v : Object) → IsWithinLimits m → IsIdentifier to → object_at m k ≡ Some v → cost (finite.remove (finite.insert m to v) k) ≤ quota →
    IsWithinLimits (finite.remove (finite.insert m to v) k)
renamed m k to v limits named here fits = record {
  paid = fits;
  identifiers = removed (λ q o. IsIdentifier q) (finite.insert m to v) k (inserted (λ q o. IsIdentifier q) m to v named limits.identifiers);
  secrets = removed (λ q o. length o.secret ≤ 128) (finite.insert m to v) k (inserted (λ q o. length o.secret ≤ 128) m to v (limits.secrets k v here) limits.secrets);
}

pub keeps_limits : (m : Store) (c : Change) → KeepsLimits m c
unfolding change
keeps_limits m (Put id kind usage secret content overwrite) limits h =
    let o : Object = record { kind = kind; usage = usage; secret = secret; content = content } in
    unless IsWithinLimits (has m id && not overwrite) (Ok (finite.insert m id o)) (paid IsWithinLimits (finite.insert m id o) (limits-insert m id o limits h.0 h.1))
keeps_limits m (Delete id) limits h =
    of_object IsWithinLimits (object_at m id) (λ o. Ok (finite.remove m id)) (λ o here. paid IsWithinLimits (finite.remove m id) (λ fits. limits-remove m id limits))
keeps_limits m (Rename id to) limits h =
    of_object IsWithinLimits (object_at m id) (λ o. cond (has m to) (Err Exists) (Ok (finite.remove (finite.insert m to o) id)))
    (λ o here. unless IsWithinLimits (has m to) (Ok (finite.remove (finite.insert m to o) id)) (paid IsWithinLimits (finite.remove (finite.insert m to o) id) (renamed m id to o limits h.1 here)))
keeps_limits m (Write id at bytes) limits h =
    of_object IsWithinLimits (object_at m id) (λ o. Ok (finite.insert m id (record o { content = write_at o.content at bytes })))
    (λ o here. paid IsWithinLimits (finite.insert m id (record o { content = write_at o.content at bytes }))
    (limits-insert m id (record o { content = write_at o.content at bytes }) limits h.0 (limits.secrets id o here)))
keeps_limits m (Truncate id n) limits h =
    of_object IsWithinLimits (object_at m id) (λ o. Ok (finite.insert m id (record o { content = resize n o.content })))
    (λ o here. paid IsWithinLimits (finite.insert m id (record o { content = resize n o.content }))
    (limits-insert m id (record o { content = resize n o.content }) limits h (limits.secrets id o here)))

apart : (q k : List ℕ) → q ≢ k → eq_by_cmp by_bytes q k ≡ false
apart q k differs =
    elim (eq_by_cmp by_bytes q k) as (λ b. eq_by_cmp by_bytes q k ≡ b → b ≡ false) [ true ↦ λ e. absurd (differs (tied_same q k (equal _ e))) | false ↦ λ e. refl ] refl

beside_inserted : (m : Store) (k q : List ℕ) (v : Object) → q ≢ k → object_at (finite.insert m k v) q ≡ object_at m q
beside_inserted m k q v differs = finite.get-insert nat_list_cmp_total m k v q ∙ ap (λ b. cond b (Some v) (object_at m q)) (apart q k differs)

beside_removed : (m : Store) (k q : List ℕ) → q ≢ k → object_at (finite.remove m k) q ≡ object_at m q
beside_removed m k q differs = finite.get-remove nat_list_cmp_total m k q ∙ ap (λ b. cond b None (object_at m q)) (apart q k differs)

pub leaves_others : (m : Store) (c : Change) → LeavesOthers m c
unfolding change
leaves_others m (Put id kind usage secret content overwrite) q other =
    let P : Store → Type 0 = λ after. object_at after q ≡ object_at m q in
    let o : Object = record { kind = kind; usage = usage; secret = secret; content = content } in
    unless P (has m id && not overwrite) (Ok (finite.insert m id o)) (paid P (finite.insert m id o) (λ fits. beside_inserted m id q o other))
leaves_others m (Delete id) q other =
    let P : Store → Type 0 = λ after. object_at after q ≡ object_at m q in
    of_object P (object_at m id) (λ o. Ok (finite.remove m id)) (λ o here. paid P (finite.remove m id) (λ fits. beside_removed m id q other))
leaves_others m (Rename id to) q other =
    let P : Store → Type 0 = λ after. object_at after q ≡ object_at m q in
    of_object P (object_at m id) (λ o. cond (has m to) (Err Exists) (Ok (finite.remove (finite.insert m to o) id)))
    (λ o here. unless P (has m to) (Ok (finite.remove (finite.insert m to o) id)) (paid P (finite.remove (finite.insert m to o) id)
    (λ fits. beside_removed (finite.insert m to o) id q (λ e. other (inl e)) ∙ beside_inserted m to q o (λ e. other (inr e)))))
leaves_others m (Write id at bytes) q other =
    let P : Store → Type 0 = λ after. object_at after q ≡ object_at m q in
    of_object P (object_at m id) (λ o. Ok (finite.insert m id (record o { content = write_at o.content at bytes })))
    (λ o here. paid P (finite.insert m id (record o { content = write_at o.content at bytes })) (λ fits. beside_inserted m id q (record o { content = write_at o.content at bytes }) other))
leaves_others m (Truncate id n) q other =
    let P : Store → Type 0 = λ after. object_at after q ≡ object_at m q in
    of_object P (object_at m id) (λ o. Ok (finite.insert m id (record o { content = resize n o.content })))
    (λ o here. paid P (finite.insert m id (record o { content = resize n o.content })) (λ fits. beside_inserted m id q (record o { content = resize n o.content }) other))
