use Rattle.std.proofs.Common.{sym, subst}
use Rattle.std.proofs.lemmas.Result.{IfOk-weaker}
use Rattle.app_api.specs.Hosts.{HostsFit}
use Rattle.sample_apps.proofs.HostLemmas.{six_fit}
use Rattle.sample_apps.proofs.hosts.sample_hosts.Goals as goal

pub returns-clause-fit : goal.returns-clause-fit
returns-clause-fit c = IfOk-weaker c.six.result _ _ (λ made same. subst HostsFit (sym same) six_fit) c.six.ensures
