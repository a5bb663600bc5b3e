use Rattle.std.proofs.Common.{◌≡◌, ◌++◌, ℕ, List, sym}
use Rattle.std.proofs.lemmas.Bool.{eq-eqb}
use Rattle.std.proofs.lemmas.List.{append-nil}
use Rattle.script.specs.Canonical.{client_text}
use Rattle.script.proofs.text.Text.client.Goals as goal

-- nothing is said of the client where it stays
same_client : (text : List ℕ) (before client : ℕ) → before ≡ client → text ≡ text ++ client_text before client
same_client text before client same = rw (eq-eqb before client same) (sym (append-nil text))

pub returns-then-before-client : goal.returns-then-before-client
returns-then-before-client c = same_client c.args.self.now c.args.before c.args.client c.if-before-client.true
