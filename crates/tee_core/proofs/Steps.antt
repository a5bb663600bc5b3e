-- What the calls and turns of one application are for its machine.
use Rattle.app_api.specs.Behaviours.{Behaviour}
use Rattle.std.proofs.Common.{◌≡◌, ◌++◌, ℕ, List, [], ◌∷◌, Bool, false, not, cond, Result, Ok, Err, OnErr, OnOk, IfOk, refl, sym, ap, ◌∙◌, append-nil}
use Rattle.std.specs.Prelude.{◌||◌}
use Rattle.app_api.specs.declared.call.Call.{Call}
use Rattle.alone.specs.declared.turn.TurnKind.{TurnKind}
use Rattle.alone.specs.declared.turn.TurnKind.TheVariants as kinds
use Rattle.alone.specs.declared.reply.Reply.{Reply}
use Rattle.alone.specs.Machine.{Machine}
use Rattle.alone.specs.Step.{after_call, after_cancellation, is_changing, step}
use Rattle.app_side.specs.Represents.{event_of}
use Rattle.app_side.proofs.Stored.{called_over, cancelled_over}
use Rattle.tee_core.specs.declared.happened.Happened.{Happened}
use Rattle.tee_core.specs.Happenings.{happened_in, has_reply, is_plain, append_if_told, turn_happened}

-- a lost turn says whether it was to change the store
abbrev pub SaysChanging : TurnKind → Bool → Type 0
SaysChanging kinds.Plain changing = Unit {0}
SaysChanging (kinds.Lost change) changing = change ≡ changing
SaysChanging kinds.Starved changing = Unit {0}
SaysChanging kinds.Corrupted changing = Unit {0}

abbrev of_parts : TurnKind → ℕ → ℕ → ℕ → List Reply → Happened
of_parts kind turn op instance replies = record { kind = kind; turn = turn; op = op; instance = instance; replies = replies }

-- a call and a cancellation leave the objects
pub called_store : {A : Type 0} (m : Machine A) (client : ℕ) (call : Call) → (after_call m client call).machine.store ≡ m.store
called_store {A} m client call = ap (λ s. s.machine.store) (called_over m.store m.in_doubt m client call)

pub cancelled_store : {A : Type 0} (m : Machine A) (op : ℕ) → (after_cancellation m op).machine.store ≡ m.store
cancelled_store {A} m op = ap (λ s. s.machine.store) (cancelled_over m.store m.in_doubt m op)

pub on_err_known : {X E : Type 0} (r : Result X E) (P : Type 0) → P → OnErr r P
on_err_known (Ok x) P p = tt
on_err_known (Err e) P p = p

pub if_ok_known : {X E : Type 0} (r : Result X E) (P : Type 0) (Q : X → Type 0) → ((x : X) → P → Q x) → OnOk r P → IfOk r Q
if_ok_known (Ok x) P Q f p = f x p
if_ok_known (Err e) P Q f p = tt

pub if_ok_all : {X E : Type 0} (r : Result X E) (Q : X → Type 0) → ((x : X) → Q x) → IfOk r Q
if_ok_all (Ok x) Q f = f x
if_ok_all (Err e) Q f = tt

-- two happenings that agree in their parts
pub happened_is : (kind kind_then : TurnKind) (turn turn_then op op_then instance instance_then : ℕ) (replies replies_then : List Reply) → kind ≡ kind_then → turn ≡ turn_then → op ≡ op_then
    → instance ≡ instance_then → replies ≡ replies_then
    → of_parts kind turn op instance replies ≡ of_parts kind_then turn_then op_then instance_then replies_then
happened_is kind kind_then turn turn_then op op_then instance instance_then replies replies_then ek et eo ei er = cc

module _ {A : Type 0} (behaviour : Behaviour A) where
  -- what is told of a turn of its kind, which says of a lost one whether its ask was to change the store
  pub turn_is : (m : Machine A) (kind : TurnKind) (i turn : ℕ) (replies : List Reply) → SaysChanging kind (is_changing m i) → turn ≡ (step behaviour m (event_of kind i)).machine.turns
      → replies ≡ (step behaviour m (event_of kind i)).replies → turn_happened kind turn i replies ≡ happened_in behaviour m (event_of kind i)
  turn_is m kinds.Plain i turn replies says same told = happened_is _ _ _ _ _ _ _ _ _ _ refl same refl refl told
  turn_is m (kinds.Lost change) i turn replies says same told = happened_is _ _ _ _ _ _ _ _ _ _ (ap (λ b. kinds.Lost b) says) same refl refl told
  turn_is m kinds.Starved i turn replies says same told = happened_is _ _ _ _ _ _ _ _ _ _ refl same refl refl told
  turn_is m kinds.Corrupted i turn replies says same told = happened_is _ _ _ _ _ _ _ _ _ _ refl same refl refl told

-- what isn't told leaves what was told
pub told_unless : (told : List Happened) (kind : TurnKind) (turn instance : ℕ) (replies : List Reply) → kind ≡ kinds.Plain → replies ≡ [] →
    told ≡ append_if_told told (turn_happened kind turn instance replies)
told_unless told kind turn instance replies plain none =
    sym (append-nil told) ∙ ap (λ b. told ++ cond b (turn_happened kind turn instance replies ∷ []) []) (sym (ap (λ k. not (is_plain k) || has_reply replies) plain ∙ ap has_reply none))

-- what has a reply, or isn't plain, is told
pub told_replied : (told : List Happened) (kind : TurnKind) (turn instance : ℕ) (replies : List Reply) → ¬ (replies ≡ [])
    → told ++ turn_happened kind turn instance replies ∷ [] ≡ append_if_told told (turn_happened kind turn instance replies)
told_replied told kind turn instance [] some = absurd (some refl)
told_replied told kinds.Plain turn instance (reply ∷ replies) some = refl
told_replied told (kinds.Lost change) turn instance (reply ∷ replies) some = refl
told_replied told kinds.Starved turn instance (reply ∷ replies) some = refl
told_replied told kinds.Corrupted turn instance (reply ∷ replies) some = refl

pub told_kind : (told : List Happened) (kind : TurnKind) (turn instance : ℕ) (replies : List Reply) → is_plain kind ≡ false
    → told ++ turn_happened kind turn instance replies ∷ [] ≡ append_if_told told (turn_happened kind turn instance replies)
told_kind told kind turn instance replies other =
    sym (ap (λ b. told ++ cond (not b || has_reply replies) (turn_happened kind turn instance replies ∷ []) []) other)
