use Rattle.std.proofs.Common.{◌≡◌, ◌∙◌, Bool, sym, subst, ap}
use Rattle.store_api.specs.Keeping.{Contents}
use Rattle.app_api.specs.declared.ask.Ask.TheVariants as asked
use Rattle.object_asks.specs.KeyOf.{key_came_of, key_resolution}
use Rattle.object_asks.specs.Serving.{EndsUnchanged, UnlessAnswered, objects_in, serving_of}
use Rattle.object_asks.specs.declared.outcome.Outcome.{Outcome as Result_of}
use Rattle.operation_asks.specs.Asks.{CryptoState}
use Rattle.operation_asks.specs.Kept.{state_of}
use Rattle.operation_asks.specs.Past.{key_effect}
use Rattle.operation_asks.specs.declared.operations.Operations.{Operations}
use Rattle.alone.specs.Crypto.{keyed_by}
use Rattle.alone.specs.Machine.{Machine, objects_of}
use Rattle.alone.specs.Step.{serve_outcome}
use Rattle.app_side.specs.declared.side.AppSide.{AppSide}
use Rattle.app_side.specs.Represents.{IsLeft, machine_over, after_store_kind}
use Rattle.app_side.proofs.Carried.{noted_instances, noted_lost}
use Rattle.app_side.proofs.CryptoLemmas.{key_crash, key_ends, keyed_left, noted_operations, noted_with}
use Rattle.app_side.proofs.side.AppSide.give_key.Goals as goal

pub returns : goal.returns
returns g c =
    let t = g.T.AppStore.keeper in
    let old : AppSide g.row.A.Denot = c.args.self.now in
    let before = t.contents c.args.store.now in
    let after = t.contents c.key_of.new.store in
    let looked = c.in_ok-looked.looked in
    let is = c.in_ok-looked.ensures.served in
    let s : CryptoState = state_of old.operations in
    let i = c.args.instance in
    let op = c.args.op in
    let resolution = key_resolution (objects_in old.held before) i c.args.object in
    let ops = c.set_key-told.new.self in
    let told = c.set_key-told.result in
    let new : AppSide g.row.A.Denot = record c.note.new.self { operations = ops } in
    let states : state_of c.note.new.self.operations ≡ s =
    ap (λ (x : AppSide g.row.A.Denot). state_of x.operations) c.note.ensures ∙ ap (λ (x : Operations). state_of x) (noted_operations old looked.kind) in
    let told_is : told ≡ (key_effect s i op looked.found).told =
    c.set_key-told.ensures.told ∙ ap (λ (x : CryptoState). (key_effect x i op looked.found).told) states in
    let left_is : state_of ops ≡ (key_effect s i op looked.found).after =
    c.set_key-told.ensures.left ∙ ap (λ (x : CryptoState). (key_effect x i op looked.found).after) states in
    let notes : new ≡ after_store_kind (record old { operations = ops }) looked.kind =
    ap (λ (x : AppSide g.row.A.Denot). record x { operations = ops }) c.note.ensures ∙ noted_with old looked.kind ops in
    record {
      left = λ tells same doubt.
          let m : Machine g.row.A.Denot = machine_over old before.store doubt in
          subst (λ (o : Result_of). IsLeft o (serve_outcome (serving_of looked.kind) m (asked.OpSetKey op c.args.object) (keyed_by m i op (key_resolution (objects_of m) i c.args.object))) new
          after.store doubt m) (sym c.outcome_of.ensures)
          (keyed_left old new before.store after.store doubt i op c.args.object looked.kind looked.found told resolution (ap (λ (k : Contents). k.store) (is.same tells))
          (subst (λ (b : Bool). looked.found ≡ key_came_of (serving_of looked.kind) b resolution) (sym same) (is.outcome tells)) told_is left_is notes (is.reaches tells) is.change);
      kind = record {
        stands = λ tells. is.reaches tells;
        change = is.change;
        status = is.status;
        damage = is.damage;
        honest = is.honest;
        keeps = is.keeps;
        lost = λ same. ap (λ (x : AppSide g.row.A.Denot). x.lost) notes ∙ noted_lost (record old { operations = ops }) looked.kind _ _ is.status same;
      };
      crash = λ honest just doubt. key_crash t looked.kind _ c.args.store.now c.key_of.new.store is.change (is.same (g.met.T.AppStore.honest_model c.args.store.now honest)) (is.crash honest just);
      ends = subst (λ (o : Result_of). UnlessAnswered o (EndsUnchanged t c.args.store.now c.key_of.new.store)) (sym c.outcome_of.ensures)
          (key_ends t looked.kind looked.found s i op told c.args.store.now c.key_of.new.store is.refuses told_is is.same is.status (λ h. (is.honest h).0) is.keeps is.crash);
      tried = c.in_ok-looked.ensures.tried;
      want = tt;
      starves = tt;
      instances = ap (λ (x : AppSide g.row.A.Denot). x.instances) notes ∙ noted_instances (record old { operations = ops }) looked.kind;
    }
