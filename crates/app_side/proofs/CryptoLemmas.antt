-- From what operations, stream and keys give to what an ask leaves of the machine.
use Rattle.std.proofs.Common.{ℕ, ◌≡◌, Bool, true, false, cond, Option, None, Some, Result, Ok, Err, IfOk, OnErr, refl, sym, ap, subst, ◌∙◌}
use Rattle.std.proofs.lemmas.Result.{IfOk-weaker}
use Rattle.std.specs.Prelude.{◌||◌}
use Rattle.tee_base.proofs.Crash.{weaker}
use Rattle.tee_base.specs.declared.bytes.NoMemory.{NoMemory as WantOfMemory}
use Rattle.tee_base.specs.declared.codes.TheConstants.Code.{STORAGE_NOT_AVAILABLE}
use Rattle.app_api.specs.declared.ask.Ask.{Ask}
use Rattle.app_api.specs.declared.ask.Ask.TheVariants as asked
use Rattle.app_api.specs.declared.ask.Answer.{Answer}
use Rattle.app_api.specs.declared.ask.Answer.TheVariants.{Done, Refused}
use Rattle.crypto_ops.specs.Random.{random_from}
use Rattle.store_api.specs.Stores.{Store}
use Rattle.store_api.specs.Keeping.{CrashLeaves, Keeper, LeavesJust}
use Rattle.object_asks.specs.Asks.{changes_store}
use Rattle.object_asks.specs.Resolutions.{Outcome, Answered, Panicked, Resolution, Settled, ComesToStore, Serving, Serves, Fails, Damaged, resolution_in, refusal_with}
use Rattle.object_asks.specs.KeyOf.{KeyResolution, KeySettled, KeyComesToStore, RefusesUnlessPlain, key_came_of, key_comes_to_store, key_resolution}
use Rattle.object_asks.specs.Keys.{generated_of, random_wanted}
use Rattle.object_asks.specs.Serving.{CrashTurns, EndsUnchanged, HasStatus, IsKept, Meets, SaysChange, UnlessAnswered, UnlessInDoubt, objects_in, plainly, serving_of}
use Rattle.transient_obj.specs.declared.look.KeyLook.{KeyLook}
use Rattle.transient_obj.specs.declared.look.KeyLook.TheVariants as finds
use Rattle.object_asks.specs.declared.outcome.Outcome.TheVariants as outcomes
use Rattle.object_asks.specs.declared.outcome.Served.{Served}
use Rattle.object_asks.specs.declared.turn.TurnKind.{TurnKind}
use Rattle.object_asks.specs.declared.turn.TurnKind.TheVariants.{Plain, Lost, Corrupted}
use Rattle.object_asks.proofs.Crashes.{idle_crash, only_old}
use Rattle.object_asks.proofs.ServingLemmas.{by_nothing, ends_with}
use Rattle.operation_asks.specs.Asks.{CryptoState, operation_resolution}
use Rattle.operation_asks.specs.Asks as operations
use Rattle.operation_asks.specs.Effects.{Effect}
use Rattle.operation_asks.specs.Kept.{state_of}
use Rattle.operation_asks.specs.Past.{key_effect}
use Rattle.operation_asks.specs.declared.outcome.Outcome.{Outcome as Told}
use Rattle.operation_asks.specs.declared.outcome.Outcome.TheVariants as told
use Rattle.operation_asks.specs.Represents.{left_by, told_by}
use Rattle.operation_asks.specs.declared.operations.Operations.{Operations}
use Rattle.operation_asks.specs.declared.outcome.CryptoOutcome.TheVariants as tells
use Rattle.operation_asks.proofs.Panics.{ResolutionKeeps, key_effect_keeps}
use Rattle.alone.specs.declared.family.Family.TheVariants as families
use Rattle.alone.specs.Crypto.{drawn_for, outcome_of_effect, key_generate_resolution, generation_resolution, key_reaches}
use Rattle.alone.specs.Crypto.{key_outcome, keyed_by, crypto_resolution, operated_by, outcome_by, with_crypto}
use Rattle.alone.specs.Families.{family_of}
use Rattle.alone.specs.Machine.{Machine, objects_of, with_objects}
use Rattle.alone.specs.Step.{lost_at, serve_outcome, torn_down}
use Rattle.app_side.specs.declared.side.AppSide.{AppSide}
use Rattle.app_side.specs.Crypto.{Generates, IsAsBefore, IsGenerated, IsMade, held_by, outcome_of, told_of_key}
use Rattle.app_side.specs.Represents.{IsLeft, IsTornAlike, is_lost, machine_of, machine_over, after_store_kind}
use Rattle.app_side.specs.Serving.{CarriesOut, IsTurnOf, in_doubt_by}
use Rattle.app_side.proofs.Carried.{none_tried, plain_turn_as}

-- an ask about operations changes no object
pub changes_nothing : (ask : Ask) → family_of ask ≡ families.Operations → changes_store ask ≡ false
changes_nothing (asked.ObjCreate storage id flags attr content) e = absurd (let h : families.Objects ≡ families.Operations = e in cc)
changes_nothing (asked.ObjDelete object) e = absurd (let h : families.Objects ≡ families.Operations = e in cc)
changes_nothing (asked.ObjRename object id) e = absurd (let h : families.Objects ≡ families.Operations = e in cc)
changes_nothing (asked.ObjWrite object bytes) e = absurd (let h : families.Objects ≡ families.Operations = e in cc)
changes_nothing (asked.ObjTruncate object n) e = absurd (let h : families.Objects ≡ families.Operations = e in cc)
changes_nothing ask e = refl

-- ---- an effect on operations and stream

pub effected_left : {A : Type 0} (old new : AppSide A) (store doubt : Store) (effect : Effect CryptoState) (t : Told) → t ≡ effect.told
    → state_of new.operations ≡ effect.after → new ≡ record old { operations = new.operations } → (effect.told ≡ told.Panicked → effect.after ≡ state_of old.operations)
    → IsLeft (outcome_of t) (outcome_of_effect (machine_over old store doubt) effect) new store doubt (machine_over old store doubt)
effected_left {A} old new store doubt effect (told.Answered answer) is state rest keeps =
    let m : Machine A = machine_over old store doubt in (
      doubt,
      ap (λ (u : Told). outcome_by (with_crypto m effect.after) u) (sym is)
          ∙ ap (λ (s : CryptoState). Answered (with_crypto m s) answer) (sym state)
          ∙ ap (λ (side : AppSide A). Answered (machine_over side store doubt) answer) (sym rest),
    )
effected_left {A} old new store doubt effect told.Panicked is state rest keeps =
    let m : Machine A = machine_over old store doubt in (
      ap (λ (u : Told). outcome_by (with_crypto m effect.after) u) (sym is),
      ap (λ (side : AppSide A). machine_over side store doubt) rest ∙ ap (λ (s : CryptoState). with_crypto m s) (state ∙ keeps (sym is)),
    )

-- ---- the key that an object gives

-- where the store serves or is damaged, the operation is given what the look found
serves_key : {A : Type 0} (m : Machine A) (i op object : ℕ) (c : KeyResolution)
    → serve_outcome Serves m (asked.OpSetKey op object) (keyed_by m i op c) ≡ key_outcome m i op (key_came_of Serves m.lost c)
serves_key m i op object (KeySettled found) = refl
serves_key m i op object (KeyComesToStore if_served) =
    elim m.lost as (λ b. cond b (refusal_with m STORAGE_NOT_AVAILABLE) (key_outcome m i op if_served)
    ≡ key_outcome m i op (cond b (finds.Refused STORAGE_NOT_AVAILABLE) if_served)) [ true ↦ refl | false ↦ refl ]

damaged_key : {A : Type 0} (m : Machine A) (i op object : ℕ) (c : KeyResolution)
    → serve_outcome Damaged m (asked.OpSetKey op object) (keyed_by m i op c) ≡ key_outcome m i op (key_came_of Damaged m.lost c)
damaged_key m i op object (KeySettled found) = refl
damaged_key m i op object (KeyComesToStore if_served) = refl

found_left : {A : Type 0} (old new : AppSide A) (store doubt : Store) (i op : ℕ) (found : KeyLook) (t : Told) → t ≡ (key_effect (state_of old.operations) i op found).told
    → state_of new.operations ≡ (key_effect (state_of old.operations) i op found).after → new ≡ record old { operations = new.operations }
    → IsLeft (outcome_of t) (key_outcome (machine_over old store doubt) i op found) new store doubt (machine_over old store doubt)
found_left old new store doubt i op found t is state rest =
    effected_left old new store doubt (key_effect (state_of old.operations) i op found) t is state rest (key_effect_keeps (state_of old.operations) i op found)

-- where it fails, the operation stays
lost_key : {A : Type 0} (old new : AppSide A) (store doubt : Store) (i op : ℕ) (changes : Bool) (found : KeyLook) (t : Told) → found ≡ finds.Refused STORAGE_NOT_AVAILABLE
    → t ≡ (key_effect (state_of old.operations) i op found).told → state_of new.operations ≡ (key_effect (state_of old.operations) i op found).after
    → new ≡ record old { operations = new.operations; lost = true; in_doubt = changes || old.in_doubt } → changes ≡ false
    → IsLeft (outcome_of t) (refusal_with (record (machine_over old store doubt) { lost = true }) STORAGE_NOT_AVAILABLE) new store doubt (machine_over old store doubt)
lost_key {A} old new store doubt i op changes found t refuses is state rest says =
    let m : Machine A = machine_over old store doubt in
    let s : CryptoState = state_of old.operations in
    let R : Answer = Refused STORAGE_NOT_AVAILABLE in
    let told_is : t ≡ told.Answered R = is ∙ ap (λ (f : KeyLook). (key_effect s i op f).told) refuses in
    let stays : state_of new.operations ≡ s = state ∙ ap (λ (f : KeyLook). (key_effect s i op f).after) refuses in
    subst (λ (u : Told). IsLeft (outcome_of u) (refusal_with (record m { lost = true }) STORAGE_NOT_AVAILABLE) new store doubt m) (sym told_is) (
      doubt,
      ap (λ (c : CryptoState). Answered (record m { lost = true; crypto = c }) R) (sym stays)
          ∙ ap (λ (b : Bool). Answered (machine_over (record old { operations = new.operations; lost = true; in_doubt = b || old.in_doubt }) store doubt) R) (sym says)
          ∙ ap (λ (side : AppSide A). Answered (machine_over side store doubt) R) (sym rest),
    )

pub keyed_left : {A : Type 0} (old new : AppSide A) (ko kn doubt : Store) (i op object : ℕ) (kind : TurnKind) (found : KeyLook) (t : Told) (c : KeyResolution)
    → kn ≡ ko → found ≡ key_came_of (serving_of kind) old.lost c → t ≡ (key_effect (state_of old.operations) i op found).told
    → state_of new.operations ≡ (key_effect (state_of old.operations) i op found).after → new ≡ after_store_kind (record old { operations = new.operations }) kind
    → Meets kind (key_comes_to_store c) → SaysChange kind false
    → IsLeft (outcome_of t) (serve_outcome (serving_of kind) (machine_over old ko doubt) (asked.OpSetKey op object) (keyed_by (machine_over old ko doubt) i op c)) new kn doubt
    (machine_over old ko doubt)
keyed_left {A} old new ko kn doubt i op object Plain found t c same came is state rest reaches says =
    let m : Machine A = machine_over old ko doubt in
    subst (λ (k : Store). IsLeft (outcome_of t) (serve_outcome Serves m (asked.OpSetKey op object) (keyed_by m i op c)) new k doubt m) (sym same)
    (subst (λ (o : Outcome (Machine A)). IsLeft (outcome_of t) o new ko doubt m) (ap (λ (f : KeyLook). key_outcome m i op f) came ∙ sym (serves_key m i op object c))
    (found_left old new ko doubt i op found t is state rest))
keyed_left {A} old new ko kn doubt i op object Corrupted found t c same came is state rest reaches says =
    let m : Machine A = machine_over old ko doubt in
    subst (λ (k : Store). IsLeft (outcome_of t) (serve_outcome Damaged m (asked.OpSetKey op object) (keyed_by m i op c)) new k doubt m) (sym same)
    (subst (λ (o : Outcome (Machine A)). IsLeft (outcome_of t) o new ko doubt m) (ap (λ (f : KeyLook). key_outcome m i op f) came ∙ sym (damaged_key m i op object c))
    (found_left old new ko doubt i op found t is state rest))
keyed_left old new ko kn doubt i op object (Lost changes) found t (KeySettled f) same came is state rest reaches says = absurd (let e : false ≡ true = reaches in cc)
keyed_left {A} old new ko kn doubt i op object (Lost changes) found t (KeyComesToStore if_served) same came is state rest reaches says =
    let m : Machine A = machine_over old ko doubt in
    subst (λ (k : Store). IsLeft (outcome_of t) (refusal_with (record m { lost = true }) STORAGE_NOT_AVAILABLE) new k doubt m) (sym same)
    (lost_key old new ko doubt i op changes found t came is state rest says)

-- ---- a key that is made

pub as_before : {A : Type 0} (old new : AppSide A) → IsAsBefore old new → machine_of new ≡ machine_of old
as_before {A} old new same =
    ap (λ (side : AppSide A). machine_of side) same.rest ∙ ap (λ (s : CryptoState). with_crypto (machine_of old) s) same.state

-- how it goes, by how many bytes are wanted
abbrev made_of : {A : Type 0} → Machine A → ℕ → ℕ → Option ℕ → Resolution (Machine A)
made_of m i object wanted = resolution_in (with_objects (with_crypto m (drawn_for m.crypto wanted))) (generated_of (objects_of m) i object (random_from m.crypto.random) wanted)

made_in : {A : Type 0} (old new : AppSide A) (store doubt : Store) (i object bits : ℕ) (serving : Serving) (wanted : Option ℕ)
    → state_of new.operations ≡ drawn_for (state_of old.operations) wanted
    → new ≡ record old { held = held_by old.held i object (state_of old.operations).random wanted; operations = new.operations }
    → IsLeft (told_of_key wanted).outcome (serve_outcome serving (machine_over old store doubt) (asked.KeyGenerate object bits) (made_of (machine_over old store doubt) i object wanted))
    new store doubt (machine_over old store doubt)
made_in {A} old new store doubt i object bits serving None state rest =
    let m : Machine A = machine_over old store doubt in
    (refl, ap (λ (side : AppSide A). machine_over side store doubt) rest ∙ ap (λ (s : CryptoState). with_crypto m s) state)
made_in {A} old new store doubt i object bits serving (Some count) state rest =
    let m : Machine A = machine_over old store doubt in
    let held = held_by old.held i object (state_of old.operations).random (Some count) in (
      doubt,
      ap (λ (s : CryptoState). Answered (record m { crypto = s; held = held }) Done) (sym state)
          ∙ ap (λ (side : AppSide A). Answered (machine_over side store doubt) Done) (sym rest),
    )

pub made_left : {A : Type 0} (old new : AppSide A) (store doubt : Store) (i object bits : ℕ) (done : Served) → IsMade i object bits done old new
    → IsLeft done.outcome (serve_outcome (serving_of done.kind) (machine_over old store doubt) (asked.KeyGenerate object bits) (key_generate_resolution (machine_over old store doubt) i object bits))
    new store doubt (machine_over old store doubt)
made_left {A} old new store doubt i object bits done made =
    let m : Machine A = machine_over old store doubt in
    let wanted = random_wanted old.held i object bits in
    subst (λ (d : Served). IsLeft d.outcome (serve_outcome (serving_of d.kind) m (asked.KeyGenerate object bits) (made_of m i object wanted)) new store doubt m) (sym made.told)
    (made_in old new store doubt i object bits (serving_of (told_of_key wanted).kind) wanted made.state made.rest)

-- ---- what a crash may leave

after_look : (kind : TurnKind) (fact : Type 0) → SaysChange kind false → fact → UnlessInDoubt kind fact
after_look Plain fact says holds = holds
after_look (Lost true) fact says holds = tt
after_look (Lost false) fact says holds = holds
after_look Corrupted fact says holds = holds

module _ {D : Type 0} (K : Keeper D) where
  pub key_crash : (kind : TurnKind) (in_doubt : Option Store) (old new : D) → SaysChange kind false → K.contents new ≡ K.contents old → CrashLeaves K (K.contents old) old new →
      CrashTurns K kind in_doubt old new
  key_crash kind in_doubt old new says same crash = record {
    any_moment = weaker K.moment K.left_since old new _ _ (λ o e. only_old kind in_doubt (K.contents old) (K.contents new) o e) crash.any_moment;
    afterwards = after_look kind _ says (subst (λ c. LeavesJust K new c) (sym same) crash.afterwards);
  }

  -- only a look in which the store served can end the entry
  pub key_ends : (kind : TurnKind) (found : KeyLook) (s : CryptoState) (i op : ℕ) (t : Told) (old new : D) → RefusesUnlessPlain kind found → t ≡ (key_effect s i op found).told
      → (K.has_model old → K.contents new ≡ K.contents old) → HasStatus kind (K.status old) (K.status new) → (K.honest old → K.honest new) → IsKept K old new
      → (K.honest old → LeavesJust K old (K.contents old) → CrashLeaves K (K.contents old) old new) → UnlessAnswered (outcome_of t) (EndsUnchanged K old new)
  key_ends kind found s i op (told.Answered answer) old new refuses is same status honest keeps crash = tt
  key_ends Plain found s i op told.Panicked old new refuses is same status honest keeps crash = record { contents = same; status = status; honest = honest; keeps = keeps; crash = crash }
  key_ends (Lost changes) found s i op told.Panicked old new refuses is same status honest keeps crash =
      absurd (let e : told.Panicked ≡ told.Answered (Refused refuses.0) = is ∙ ap (λ (f : KeyLook). (key_effect s i op f).told) refuses.1 in cc)
  key_ends Corrupted found s i op told.Panicked old new refuses is same status honest keeps crash =
      absurd (let e : told.Panicked ≡ told.Answered (Refused refuses.0) = is ∙ ap (λ (f : KeyLook). (key_effect s i op f).told) refuses.1 in cc)

-- ---- what is noted of a look

pub noted_with : {A : Type 0} (old : AppSide A) (kind : TurnKind) (ops : Operations) → record (after_store_kind old kind) { operations = ops } ≡ after_store_kind (record old { operations = ops }) kind
noted_with old Plain ops = refl
noted_with old (Lost changes) ops = refl
noted_with old Corrupted ops = refl

pub noted_operations : {A : Type 0} (old : AppSide A) (kind : TurnKind) → (after_store_kind old kind).operations ≡ old.operations
noted_operations old Plain = refl
noted_operations old (Lost changes) = refl
noted_operations old Corrupted = refl

-- ---- an ask about operations, as a whole

pub settled_left : {A : Type 0} (old new : AppSide A) (store doubt : Store) (serving : Serving) (i : ℕ) (ask : Ask) (c : operations.Resolution CryptoState) (t : Told)
    → told_by c ≡ tells.Settled t → state_of new.operations ≡ left_by (state_of old.operations) c → new ≡ record old { operations = new.operations } → ResolutionKeeps (state_of old.operations) c
    → IsLeft (outcome_of t) (serve_outcome serving (machine_over old store doubt) ask (operated_by (machine_over old store doubt) i c)) new store doubt (machine_over old store doubt)
settled_left old new store doubt serving i ask (operations.Settled effect) t is state rest keeps =
    effected_left old new store doubt effect t (sym (let e : tells.Settled effect.told ≡ tells.Settled t = is in cc)) state rest keeps
settled_left old new store doubt serving i ask (operations.WantsKey op object) t is state rest keeps = absurd (let e : tells.WantsKey op object ≡ tells.Settled t = is in cc)

pub wants_is : (c : operations.Resolution CryptoState) (op object : ℕ) → told_by c ≡ tells.WantsKey op object → c ≡ operations.WantsKey op object
wants_is (operations.Settled effect) op object is = absurd (let e : tells.Settled effect.told ≡ tells.WantsKey op object = is in cc)
wants_is (operations.WantsKey o b) op object is = let e : tells.WantsKey o b ≡ tells.WantsKey op object = is in cc

-- asks that change the store alike are served alike
served_alike : {A : Type 0} (serving : Serving) (m : Machine A) (ask other : Ask) (c : Resolution (Machine A)) → changes_store ask ≡ changes_store other
    → serve_outcome serving m ask c ≡ serve_outcome serving m other c
served_alike serving m ask other (Settled outcome) same = refl
served_alike Serves m ask other (ComesToStore kept if_served) same = refl
served_alike Damaged m ask other (ComesToStore kept if_served) same = refl
served_alike Fails m ask other (ComesToStore kept if_served) same = ap (λ (b : Bool). refusal_with (lost_at kept b if_served) STORAGE_NOT_AVAILABLE) same

module _ {D : Type 0} (K : Keeper D) where
  -- the key of an object was wanted, and given
  pub wanted_whole : {A : Type 0} (old after : AppSide A) (ops : Operations) (i op object : ℕ) (ask : Ask) (result : Result Served WantOfMemory) (o n : D)
      → operation_resolution (state_of old.operations) i ask ≡ operations.WantsKey op object → family_of ask ≡ families.Operations → state_of ops ≡ state_of old.operations
      → CarriesOut K (λ serving m. serve_outcome serving m (asked.OpSetKey op object) (keyed_by m i op (key_resolution (objects_of m) i object)))
      (key_comes_to_store (key_resolution (objects_in old.held (K.contents o)) i object)) false i result (record old { operations = ops }) after o n
      → CarriesOut K (λ serving m. serve_outcome serving m ask (crypto_resolution m i ask)) (key_reaches (objects_in old.held (K.contents o)) i (operation_resolution (state_of old.operations) i ask))
      false i result old after o n
  wanted_whole {A} old after ops i op object ask result o n wants family state h =
      let mid : AppSide A = record old { operations = ops } in
      let store = (K.contents o).store in
      let machine : (doubt : Store) → machine_over mid store doubt ≡ machine_over old store doubt = λ doubt. ap (λ (s : CryptoState). with_crypto (machine_over old store doubt) s) state in
      let same : (serving : Serving) (doubt : Store) → serve_outcome serving (machine_over mid store doubt) (asked.OpSetKey op object)
      (keyed_by (machine_over mid store doubt) i op (key_resolution (objects_of (machine_over mid store doubt)) i object))
      ≡ serve_outcome serving (machine_over old store doubt) ask (crypto_resolution (machine_over old store doubt) i ask) =
      λ serving doubt.
      ap (λ (m : Machine A). serve_outcome serving m (asked.OpSetKey op object) (keyed_by m i op (key_resolution (objects_of m) i object))) (machine doubt)
      ∙ sym (ap (λ (c : operations.Resolution CryptoState). serve_outcome serving (machine_over old store doubt) ask (operated_by (machine_over old store doubt) i c)) wants
      ∙ served_alike serving (machine_over old store doubt) ask (asked.OpSetKey op object) (keyed_by (machine_over old store doubt) i op
      (key_resolution (objects_of (machine_over old store doubt)) i object)) (changes_nothing ask family)) in
      record {
        left = IfOk-weaker result _ _ (λ done f model lost doubt.
            subst (λ (m : Machine A). IsLeft done.outcome (serve_outcome (serving_of done.kind) (machine_over old store doubt) ask (crypto_resolution (machine_over old store doubt) i ask)) after
            (K.contents n).store doubt m) (machine doubt)
            (subst (λ (x : Outcome (Machine A)). IsLeft done.outcome x after (K.contents n).store doubt (machine_over mid store doubt)) (same (serving_of done.kind) doubt)
            (f model lost doubt))) h.left;
        kind = subst (λ (c : operations.Resolution CryptoState). IfOk result (λ done. IsTurnOf K done.kind (key_reaches (objects_in old.held (K.contents o)) i c) false (is_lost old)
            (is_lost after) o n)) (sym wants) h.kind;
        crash = IfOk-weaker result _ _ (λ done f honest just doubt.
            subst (λ (x : Outcome (Machine A)). CrashTurns K done.kind (in_doubt_by x) o n) (same (serving_of done.kind) doubt) (f honest just doubt)) h.crash;
        ends = h.ends;
        tried = h.tried;
        want = h.want;
        starves = subst (λ (m : Machine A). OnErr result (IsTornAlike i after m)) (ap (λ (s : CryptoState). with_crypto (machine_of old) s) state) h.starves;
        instances = h.instances;
      }

-- ---- an ask for a key that is made, as a whole

made_plain : (wanted : Option ℕ) → (told_of_key wanted).kind ≡ Plain
made_plain None = refl
made_plain (Some count) = refl

-- what is beside what is held
pub record StaysPlain {A : Type 0} (done : Served) (old new : AppSide A) : Type 0 where
  pub kind : done.kind ≡ Plain
  pub lost : new.lost ≡ old.lost
  pub instances : new.instances ≡ old.instances

generated_plain : {A : Type 0} (i : ℕ) (ask : Ask) (done : Served) (old new : AppSide A) → IsGenerated i ask done old new → StaysPlain done old new
generated_plain {A} i (asked.KeyGenerate object bits) done old new made = record {
  kind = ap (λ (d : Served). d.kind) made.told ∙ made_plain (random_wanted old.held i object bits);
  lost = ap (λ (s : AppSide A). s.lost) made.rest;
  instances = ap (λ (s : AppSide A). s.instances) made.rest;
}
generated_plain {A} i ask done old new same = record {
  kind = ap (λ (d : Served). d.kind) same.0;
  lost = ap (λ (s : AppSide A). s.lost) same.1;
  instances = ap (λ (s : AppSide A). s.instances) same.1;
}

panicked_left : {A : Type 0} (old new : AppSide A) (store doubt : Store) (done : Served) → done ≡ plainly outcomes.Panicked → new ≡ old →
    IsLeft done.outcome Panicked new store doubt (machine_over old store doubt)
panicked_left {A} old new store doubt done is same =
    subst (λ (d : Served). IsLeft d.outcome Panicked new store doubt (machine_over old store doubt)) (sym is) (refl, ap (λ (s : AppSide A). machine_over s store doubt) same)

generated_left : {A : Type 0} (old new : AppSide A) (store doubt : Store) (i : ℕ) (ask : Ask) (done : Served) → IsGenerated i ask done old new
    → IsLeft done.outcome (serve_outcome (serving_of done.kind) (machine_over old store doubt) ask (generation_resolution (machine_over old store doubt) i ask)) new store doubt
    (machine_over old store doubt)
generated_left old new store doubt i (asked.KeyGenerate object bits) done made = made_left old new store doubt i object bits done made
generated_left old new store doubt i ask done same = panicked_left old new store doubt done same.0 same.1

module _ {D : Type 0} (K : Keeper D) where
  pub generated_whole : {A : Type 0} (old new : AppSide A) (i : ℕ) (ask : Ask) (result : Result Served WantOfMemory) (o : D) → Generates i ask result old new
      → CarriesOut K (λ serving m. serve_outcome serving m ask (generation_resolution m i ask)) false (changes_store ask) i result old new o o
  generated_whole {A} old new i ask (Ok done) o h =
      let plain = generated_plain i ask done old new h.made in
      record {
        left = λ model same doubt. generated_left old new (K.contents o).store doubt i ask done h.made;
        kind = plain_turn_as K done.kind _ _ _ _ o plain.kind plain.lost;
        crash = λ honest just doubt. idle_crash K done.kind _ o just;
        ends = ends_with done.outcome _ (by_nothing K o);
        tried = none_tried (changes_store ask) (K.status o);
        want = tt;
        starves = tt;
        instances = plain.instances;
      }
  generated_whole {A} old new i ask (Err e) o h = record {
    left = tt;
    kind = tt;
    crash = tt;
    ends = tt;
    tried = none_tried (changes_store ask) (K.status o);
    want = by_nothing K o;
    starves = λ code origin. ap (λ (m : Machine A). torn_down m i code origin) (as_before old new h.want);
    instances = ap (λ (s : AppSide A). s.instances) h.want.rest;
  }
