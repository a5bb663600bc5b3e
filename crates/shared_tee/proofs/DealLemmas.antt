-- Seats and passes of an application that has just begun.
use Rattle.app_api.specs.Behaviours.{Behaviour}
use Rattle.std.proofs.Common.{◌≡◌, ◌<◌, ◌+◌, ◌-◌, ◌++◌, ℕ, zero, suc, List, [], ◌∷◌, take, drop, replicate, append_assoc, refl, sym, subst, ◌∙◌, ap, arith}
use Rattle.store_api.specs.Volumes.{VolumeKeeper}
use Rattle.turn_cell.specs.View.{left_at, right_at}
use Rattle.turn_cell.specs.Words.{TableId}
use Rattle.turn_cell.specs.declared.view.SeatView.{SeatView}
use Rattle.shared_parts.specs.HostedApps.{ClientPart, HostedEvent, Origin, no_client}
use Rattle.shared_tee.specs.Dealing.{fresh_pass, fresh_passes, fresh_seat}
use Rattle.shared_tee.specs.Passes.{IsPass, PassView}

-- the first of them, and those behind it
first_part : {P : Type 0} (x : P) (client : ℕ) → client < 8 → take (client + 1 - client) (replicate (8 - client) x) ≡ x ∷ []
first_part x client few =
    let one : client + 1 - client ≡ 1 = omega arith in
    let many : 8 - client ≡ suc (7 - client) = omega (arith, few) in
    ap (λ n. take n (replicate (8 - client) x)) one ∙ ap (λ n. take 1 (replicate n x)) many

parts_behind : {P : Type 0} (x : P) (client : ℕ) → client < 8 → drop (client + 1 - client) (replicate (8 - client) x) ≡ replicate (7 - client) x
parts_behind x client few =
    let one : client + 1 - client ≡ 1 = omega arith in
    let many : 8 - client ≡ suc (7 - client) = omega (arith, few) in
    ap (λ n. drop n (replicate (8 - client) x)) one ∙ ap (λ n. drop 1 (replicate n x)) many

module _ {V A : Type 0} (origin : Origin V A) (client : ℕ) (few : client < 8) (v w : SeatView ClientPart (HostedEvent V A)) (is : v ≡ fresh_seat origin client (8 - client)) where
  -- a cut behind the first part leaves that part
  pub left_fresh : w ≡ left_at (client + 1) v → w ≡ fresh_seat origin client 1
  left_fresh cut =
      cut ∙ ap (λ (u : SeatView ClientPart (HostedEvent V A)). left_at (client + 1) u) is
      ∙ ap (λ (parts : List ClientPart). record (fresh_seat origin client 1) { own = parts; original = parts }) (first_part no_client client few)

  -- and gives the others
  pub right_fresh : w ≡ right_at (client + 1) v → w ≡ fresh_seat origin (client + 1) (7 - client)
  right_fresh cut =
      cut ∙ ap (λ (u : SeatView ClientPart (HostedEvent V A)). right_at (client + 1) u) is
      ∙ ap (λ (parts : List ClientPart). record (fresh_seat origin (client + 1) 1) { own = parts; original = parts }) (parts_behind no_client client few)

-- such a pass is as its type keeps it
pub fresh_is_pass : {V A : Type 0} (K : VolumeKeeper V) (behaviour : Behaviour A) (origin : Origin V A) (app client : ℕ) (cell : TableId) (v : SeatView ClientPart (HostedEvent V A))
    → client < 8 → v ≡ fresh_seat origin client 1 → IsPass K behaviour (record { app = app; client = client; calls = 0; cell = cell; seat = v })
fresh_is_pass {V} {A} K behaviour origin app client cell v few is =
    subst (λ (u : SeatView ClientPart (HostedEvent V A)). IsPass K behaviour (let p : PassView V A = record { app = app; client = client; calls = 0; cell = cell; seat = u } in p)) (sym is)
    (record {
      client = few;
      free = refl;
      place = refl;
      one = refl;
      origin = origin;
      trail = refl;
      made = refl;
      counted = omega arith;
      legal = λ marked. tt;
    })

-- the passes of one client more
pub fresh_more : {V A : Type 0} (cell : TableId) (origin : Origin V A) (app client count : ℕ)
    → fresh_passes cell origin app client (count + 1) ≡ fresh_passes cell origin app client count ++ fresh_pass cell origin app (client + count) ∷ []
fresh_more {V} {A} cell origin app client zero = ap (λ (n : ℕ). fresh_pass cell origin app n ∷ []) (let e : client ≡ client + 0 = omega arith in e)
fresh_more {V} {A} cell origin app client (suc count) =
    let one : suc count + 1 ≡ suc (count + 1) = omega arith in
    let place : client + 1 + count ≡ client + suc count = omega arith in
    ap (λ (n : ℕ). fresh_passes cell origin app client n) one
    ∙ ap (λ (ps : List (PassView V A)). fresh_pass cell origin app client ∷ ps) (fresh_more cell origin app (client + 1) count)
    ∙ ap (λ (n : ℕ). fresh_pass cell origin app client ∷ fresh_passes cell origin app (client + 1) count ++ fresh_pass cell origin app n ∷ []) place

-- behind those that were there
pub dealt_more : {V A : Type 0} (cell : TableId) (origin : Origin V A) (app count : ℕ) (before so_far now : List (PassView V A))
    → so_far ≡ before ++ fresh_passes cell origin app 0 count → now ≡ so_far ++ fresh_pass cell origin app count ∷ [] → now ≡ before ++ fresh_passes cell origin app 0 (count + 1)
dealt_more {V} {A} cell origin app count before so_far now were pushed =
    pushed
    ∙ ap (λ (ps : List (PassView V A)). ps ++ fresh_pass cell origin app count ∷ []) were
    ∙ append_assoc before (fresh_passes cell origin app 0 count) (fresh_pass cell origin app count ∷ [])
    ∙ ap (λ (n : ℕ). before ++ (fresh_passes cell origin app 0 count ++ fresh_pass cell origin app n ∷ [])) (let e : count ≡ 0 + count = omega arith in e)
    ∙ ap (λ (ps : List (PassView V A)). before ++ ps) (sym (fresh_more cell origin app 0 count))

-- the last of eight
pub dealt_last : {V A : Type 0} (cell : TableId) (origin : Origin V A) (app count : ℕ) (before so_far now : List (PassView V A)) → count ≡ 7
    → so_far ≡ before ++ fresh_passes cell origin app 0 count → (id : TableId) → id ≡ cell → (v : SeatView ClientPart (HostedEvent V A)) → v ≡ fresh_seat origin 7 1
    → now ≡ so_far ++ record { app = app; client = 7; calls = 0; cell = id; seat = v } ∷ [] → now ≡ before ++ fresh_passes cell origin app 0 8
dealt_last {V} {A} cell origin app count before so_far now seven were id same v is pushed =
    dealt_more cell origin app 7 before so_far now
    (were ∙ ap (λ (n : ℕ). before ++ fresh_passes cell origin app 0 n) seven)
    (pushed
    ∙ ap (λ (i : TableId). so_far ++ (let p : PassView V A = record { app = app; client = 7; calls = 0; cell = i; seat = v } in p) ∷ []) same
    ∙ ap (λ (u : SeatView ClientPart (HostedEvent V A)). so_far ++ (let p : PassView V A = record { app = app; client = 7; calls = 0; cell = cell; seat = u } in p) ∷ []) is)
