use Rattle.std.proofs.Common.{◌≡◌, ℕ, Result, sym, subst}
use Rattle.tee_base.specs.declared.bytes.NoMemory.{NoMemory as WantOfMemory}
use Rattle.app_api.specs.declared.ask.Ask.{Ask}
use Rattle.store_api.specs.Keeping.{Keeper}
use Rattle.object_asks.specs.Asks.{Objects, Serves, came_of, changes_store, object_resolution}
use Rattle.object_asks.specs.Held.{Held}
use Rattle.object_asks.specs.declared.outcome.Served.{Served}
use Rattle.object_asks.specs.Serving.{IsOutcome, ServesAsk, objects_in}
use Rattle.object_asks.proofs.ServingLemmas.{serves_kind}
use Rattle.object_asks.proofs.serving.serve_lent.Goals as goal

-- what comes of an ask that is this one
of_ask : {D : Type 0} (K : Keeper D) (given : Result Served WantOfMemory) (before : Objects) (instance : ℕ) (ask own : Ask) (held left : Held) (old new : D)
    → ask ≡ own → ServesAsk K given (object_resolution before instance own) (changes_store own) held left old new
    → ServesAsk K given (object_resolution before instance ask) (changes_store ask) held left old new
of_ask K given before instance ask own held left old new is served = rw is served

pub returns-in-ObjClose : goal.returns-in-ObjClose
unfolding object_resolution
returns-in-ObjClose g c =
    let t = g.T.AppStore.keeper in
    let before = objects_in c.args.held.now (t.contents c.args.store.now) in
    serves_kind t c.close.result (object_resolution before c.args.instance c.args.ask.now) (changes_store c.args.ask.now) c.args.held.now c.close.new.held c.args.store.now
    c.close.ensures.kind
    (subst (λ (ask : Ask). IsOutcome c.close.result.outcome (came_of Serves (t.status c.args.store.now).lost (object_resolution before c.args.instance ask)) before
    (objects_in c.close.new.held (t.contents c.args.store.now))) (sym c.in-ObjClose.is)
    (c.close.ensures.outcome (t.contents c.args.store.now) (t.status c.args.store.now).lost))

pub returns-in-ObjDelete : goal.returns-in-ObjDelete
unfolding object_resolution
returns-in-ObjDelete g c =
    of_ask g.T.AppStore.keeper c.delete.result (objects_in c.args.held.now (g.T.AppStore.keeper.contents c.args.store.now)) c.args.instance c.args.ask.now _ c.args.held.now
    c.delete.new.held c.args.store.now c.delete.new.store c.in-ObjDelete.is c.delete.ensures

pub returns-in-ObjInfo : goal.returns-in-ObjInfo
unfolding object_resolution
returns-in-ObjInfo g c =
    of_ask g.T.AppStore.keeper c.info.result (objects_in c.args.held.now (g.T.AppStore.keeper.contents c.args.store.now)) c.args.instance c.args.ask.now _ c.args.held.now
    c.info.new.held c.args.store.now c.info.new.store c.in-ObjInfo.is c.info.ensures

pub returns-in-ObjRead : goal.returns-in-ObjRead
unfolding object_resolution
returns-in-ObjRead g c =
    of_ask g.T.AppStore.keeper c.read.result (objects_in c.args.held.now (g.T.AppStore.keeper.contents c.args.store.now)) c.args.instance c.args.ask.now _ c.args.held.now
    c.read.new.held c.args.store.now c.read.new.store c.in-ObjRead.is c.read.ensures

pub returns-in-ObjTruncate : goal.returns-in-ObjTruncate
unfolding object_resolution
returns-in-ObjTruncate g c =
    of_ask g.T.AppStore.keeper c.truncate.result (objects_in c.args.held.now (g.T.AppStore.keeper.contents c.args.store.now)) c.args.instance c.args.ask.now _ c.args.held.now
    c.truncate.new.held c.args.store.now c.truncate.new.store c.in-ObjTruncate.is c.truncate.ensures

pub returns-in-EnumStart : goal.returns-in-EnumStart
unfolding object_resolution
returns-in-EnumStart g c =
    of_ask g.T.AppStore.keeper c.start.result (objects_in c.args.held.now (g.T.AppStore.keeper.contents c.args.store.now)) c.args.instance c.args.ask.now _ c.args.held.now
    c.start.new.held c.args.store.now c.start.new.store c.in-EnumStart.is c.start.ensures

pub returns-in-EnumNext : goal.returns-in-EnumNext
unfolding object_resolution
returns-in-EnumNext g c =
    of_ask g.T.AppStore.keeper c.next.result (objects_in c.args.held.now (g.T.AppStore.keeper.contents c.args.store.now)) c.args.instance c.args.ask.now _ c.args.held.now
    c.next.new.held c.args.store.now c.next.new.store c.in-EnumNext.is c.next.ensures

pub returns-in-KeySecret : goal.returns-in-KeySecret
unfolding object_resolution
returns-in-KeySecret g c =
    of_ask g.T.AppStore.keeper c.secret.result (objects_in c.args.held.now (g.T.AppStore.keeper.contents c.args.store.now)) c.args.instance c.args.ask.now _ c.args.held.now
    c.secret.new.held c.args.store.now c.secret.new.store c.in-KeySecret.is c.secret.ensures

pub returns-in-KeyCopy : goal.returns-in-KeyCopy
unfolding object_resolution
returns-in-KeyCopy g c =
    of_ask g.T.AppStore.keeper c.copy.result (objects_in c.args.held.now (g.T.AppStore.keeper.contents c.args.store.now)) c.args.instance c.args.ask.now _ c.args.held.now
    c.copy.new.held c.args.store.now c.copy.new.store c.in-KeyCopy.is c.copy.ensures
