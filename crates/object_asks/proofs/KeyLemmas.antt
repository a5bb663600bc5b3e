-- From what the store gives of an object to what is told of its key.
use Rattle.std.proofs.Common.{ℕ, ◌≡◌, ◌+◌, Bool, true, false, List, Option, None, Some, IfOk, IfSome, OnErr, Result, Ok, Err, refl, sym, ap, subst, ◌∙◌, arith}
use Rattle.std.proofs.lemmas.Result.{IfOk-weaker}
use Rattle.tee_base.specs.declared.bytes.NoMemory.{NoMemory as WantOfMemory}
use Rattle.store_api.specs.declared.answer.StoreAnswer.{StoreAnswer}
use Rattle.store_api.specs.declared.answer.StoreAnswer.TheVariants as stores
use Rattle.store_api.specs.Keeping.{Keeper, Reads}
use Rattle.transient_obj.specs.declared.object_key.ObjectKey.{ObjectKey}
use Rattle.transient_obj.specs.declared.look.KeyLook.{KeyLook}
use Rattle.transient_obj.specs.declared.look.KeyLook.TheVariants as finds
use Rattle.object_asks.specs.declared.lending.KeyServed.{KeyServed}
use Rattle.object_asks.specs.declared.turn.TurnKind.TheVariants.{Plain}
use Rattle.tee_base.specs.declared.codes.TheConstants.Code.{STORAGE_NOT_AVAILABLE}
use Rattle.object_asks.specs.Resolutions.{Serves, code_of}
use Rattle.object_asks.specs.KeyOf.{IsKeyServed, KeyComesToStore, KeyResolution, KeySettled, TellsKey, found_by, key_came_of, key_plainly, key_told}
use Rattle.object_asks.specs.Serving.{EndsUnchanged, HasStatus, IsKept, StaysBeside, kind_of}
use Rattle.object_asks.specs.Sources.{IsObjectKey, stored_key}
use Rattle.object_asks.proofs.Crashes.{idle_keeps}
use Rattle.object_asks.proofs.ServingLemmas.{by_nothing, stays}

-- where the store isn't lost, and where it is
serves : (lost : Bool) (if_served : KeyLook) → lost ≡ false → key_came_of Serves lost (KeyComesToStore if_served) ≡ if_served
serves lost if_served e = rw e refl

keeps : (lost : Bool) (if_served : KeyLook) → lost ≡ true → key_came_of Serves lost (KeyComesToStore if_served) ≡ finds.Refused STORAGE_NOT_AVAILABLE
keeps lost if_served e = rw e refl

abbrev told_as : StoreAnswer → KeyServed
told_as e = record { kind = kind_of false e; found = finds.Refused (code_of e) }

-- what isn't told is want of memory
untold : (given : Result ObjectKey StoreAnswer) → key_told given ≡ None → given ≡ Err stores.NoMemory
untold (Ok key) told = absurd (let e : Some (key_plainly (finds.Key key)) ≡ None = told in cc)
untold (Err stores.NoMemory) told = refl
untold (Err stores.NotFound) told = absurd (let e : Some (told_as stores.NotFound) ≡ None = told in cc)
untold (Err stores.Exists) told = absurd (let e : Some (told_as stores.Exists) ≡ None = told in cc)
untold (Err stores.NoSpace) told = absurd (let e : Some (told_as stores.NoSpace) ≡ None = told in cc)
untold (Err stores.Lost) told = absurd (let e : Some (told_as stores.Lost) ≡ None = told in cc)
untold (Err stores.Failed) told = absurd (let e : Some (told_as stores.Failed) ≡ None = told in cc)
untold (Err (stores.Corrupt tags)) told = absurd (let e : Some (told_as (stores.Corrupt tags)) ≡ None = told in cc)
untold (Err (stores.Garbled leaf)) told = absurd (let e : Some (told_as (stores.Garbled leaf)) ≡ None = told in cc)

module _ {D : Type 0} (K : Keeper D) where
  -- a look that is settled before the store is asked
  settled_key : (found : KeyLook) (old : D) → IsKeyServed K (key_plainly found) (KeySettled found) old old
  settled_key found old = record {
    outcome = λ t. refl;
    same = λ t. refl;
    refuses = tt;
    reaches = λ t. tt;
    change = tt;
    status = stays (K.status old);
    damage = tt;
    honest = λ h. (h, tt);
    keeps = idle_keeps K old;
    crash = (by_nothing K old).crash;
  }

  pub tells_settled : (served : KeyServed) (resolution : KeyResolution) (found : KeyLook) (old : D) → served ≡ key_plainly found → resolution ≡ KeySettled found
      → TellsKey K (Ok served) resolution old old
  tells_settled served resolution found old is same = rw (is, same) (record { served = settled_key found old; tried = refl; want = tt })

  pub tells_nothing : (resolution : KeyResolution) (old : D) (e : WantOfMemory) → TellsKey K (Err e) resolution old old
  tells_nothing resolution old e = record { served = tt; tried = refl; want = by_nothing K old }

  module _ (id : List ℕ) (old new : D) where
    abbrev looks : Result ObjectKey StoreAnswer → Type 0
    looks given = Reads K (λ store. stored_key store id) IsObjectKey given old new

    abbrev stored : Result ObjectKey StoreAnswer
    stored = stored_key (K.contents old).store id

    abbrev resolution : KeyResolution
    resolution = KeyComesToStore (found_by stored)

    kept_by : (given : Result ObjectKey StoreAnswer) → looks given → IsKept K old new
    kept_by given read = record {
      model = read.call.model;
      still = read.call.still;
      beside = λ t. subst (λ c. StaysBeside (K.contents old) c) (sym (read.same t)) (record { rest = refl; number = omega arith });
      below = read.call.below;
      quiet = read.call.quiet;
      past = read.call.past;
    }

    -- the standing after a look that served, or found the store lost
    plain_status : (given : Result ObjectKey StoreAnswer) (lost : Bool) → (K.status old).lost ≡ lost → (K.status new).lost ≡ lost →
        (K.status new).damage_reports ≡ (K.status old).damage_reports + 0 → looks given → HasStatus Plain (K.status old) (K.status new)
    plain_status given lost before after reports read = record { cause = after ∙ sym before; later = read.call.cause.later; foundation = read.call.cause.foundation; reports = reports }

    -- the store refuses
    refused_key : (e : StoreAnswer) → (K.has_model old → stored ≡ Err e) → (K.status old).lost ≡ false → HasStatus Plain (K.status old) (K.status new) → looks (Err e) →
        IsKeyServed K (key_plainly (finds.Refused (code_of e))) resolution old new
    refused_key e answer works stands read = record {
      outcome = λ t. sym (serves (K.status old).lost (found_by stored) works ∙ ap found_by (answer t));
      same = read.same;
      refuses = tt;
      reaches = λ t. tt;
      change = tt;
      status = stands;
      damage = tt;
      honest = λ h. ((read.call.honest h).0, tt);
      keeps = kept_by (Err e) read;
      crash = read.crash;
    }

    told_key : (given : Result ObjectKey StoreAnswer) → looks given → IfSome (key_told given) (λ served. IsKeyServed K served resolution old new)
    told_key (Ok key) read = record {
      outcome = λ t. sym (serves (K.status old).lost (found_by stored) read.call.cause.cause.0 ∙ ap found_by (read.answer t));
      same = read.same;
      refuses = tt;
      reaches = λ t. tt;
      change = tt;
      status = plain_status (Ok key) false read.call.cause.cause.0 read.call.cause.cause.1 read.call.cause.reports read;
      damage = tt;
      honest = λ h. ((read.call.honest h).0, tt);
      keeps = kept_by (Ok key) read;
      crash = read.crash;
    }
    told_key (Err stores.NotFound) read = refused_key stores.NotFound read.answer read.call.cause.cause.0
        (plain_status (Err stores.NotFound) false read.call.cause.cause.0 read.call.cause.cause.1 read.call.cause.reports read) read
    told_key (Err stores.Exists) read = refused_key stores.Exists read.answer read.call.cause.cause.0
        (plain_status (Err stores.Exists) false read.call.cause.cause.0 read.call.cause.cause.1 read.call.cause.reports read) read
    told_key (Err stores.NoSpace) read = refused_key stores.NoSpace read.answer read.call.cause.cause.0
        (plain_status (Err stores.NoSpace) false read.call.cause.cause.0 read.call.cause.cause.1 read.call.cause.reports read) read
    told_key (Err stores.Lost) read = record {
      outcome = λ t. sym (keeps (K.status old).lost (found_by stored) read.call.cause.cause.0);
      same = read.same;
      refuses = tt;
      reaches = λ t. tt;
      change = tt;
      status = plain_status (Err stores.Lost) true read.call.cause.cause.0 read.call.cause.cause.1 read.call.cause.reports read;
      damage = tt;
      honest = λ h. ((read.call.honest h).0, tt);
      keeps = kept_by (Err stores.Lost) read;
      crash = read.crash;
    }
    told_key (Err stores.Failed) read = record {
      outcome = λ t. refl;
      same = read.same;
      refuses = (code_of stores.Failed, refl);
      reaches = λ t. refl;
      change = refl;
      status = record { cause = read.call.cause.cause; later = read.call.cause.later; foundation = read.call.cause.foundation; reports = read.call.cause.reports };
      damage = tt;
      honest = λ h. ((read.call.honest h).0, tt);
      keeps = kept_by (Err stores.Failed) read;
      crash = read.crash;
    }
    told_key (Err (stores.Corrupt tags)) read = record {
      outcome = λ t. refl;
      same = read.same;
      refuses = (code_of (stores.Corrupt tags), refl);
      reaches = λ t. refl;
      change = tt;
      status = record { cause = (read.call.cause.cause.0, read.call.cause.cause.1); later = read.call.cause.later; foundation = read.call.cause.foundation; reports = read.call.cause.reports };
      damage = (stores.Corrupt tags, read.call.damage);
      honest = λ h. absurd (read.call.honest h).1;
      keeps = kept_by (Err (stores.Corrupt tags)) read;
      crash = read.crash;
    }
    told_key (Err (stores.Garbled leaf)) read = record {
      outcome = λ t. refl;
      same = read.same;
      refuses = (code_of (stores.Garbled leaf), refl);
      reaches = λ t. refl;
      change = tt;
      status = record { cause = read.call.cause.cause; later = read.call.cause.later; foundation = read.call.cause.foundation; reports = read.call.cause.reports };
      damage = (stores.Garbled leaf, read.call.damage);
      honest = λ h. absurd (read.call.honest h).1;
      keeps = kept_by (Err (stores.Garbled leaf)) read;
      crash = read.crash;
    }
    told_key (Err stores.NoMemory) read = tt

    ends : looks (Err stores.NoMemory) → EndsUnchanged K old new
    ends read = record {
      contents = read.same;
      status = plain_status (Err stores.NoMemory) false read.call.cause.cause.0 read.call.cause.cause.1 read.call.cause.reports read;
      honest = λ h. (read.call.honest h).0;
      keeps = kept_by (Err stores.NoMemory) read;
      crash = read.crash;
    }

    wants : (given : Result ObjectKey StoreAnswer) (result : Result KeyServed WantOfMemory) → OnErr result (key_told given ≡ None) → looks given → OnErr result (EndsUnchanged K old new)
    wants given (Ok served) lack read = tt
    wants given (Err e) lack read = ends (subst looks (untold given lack) read)

    -- a look that came to the store
    pub tells_read : (given : Result ObjectKey StoreAnswer) (result : Result KeyServed WantOfMemory) (whole : KeyResolution)
        → IfOk result (λ served. key_told given ≡ Some served) → OnErr result (key_told given ≡ None) → whole ≡ resolution → looks given → TellsKey K result whole old new
    tells_read given result whole told lack same read = rw same (record {
      served = IfOk-weaker result _ _ (λ served t. subst (λ (o : Option KeyServed). IfSome o (λ s. IsKeyServed K s resolution old new)) t (told_key given read)) told;
      tried = omega (arith, read.call.attempts);
      want = wants given result lack read;
    })
