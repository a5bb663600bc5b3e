-- The sample hosts can stand side by side.
use Rattle.std.proofs.Common.{[], ◌∷◌, rules, arith, All, AllPairs}
use Rattle.std.proofs.lemmas.List.Elements.{All-from_recursion}
use Rattle.std.proofs.lemmas.List.Kept.{AllPairs-cons}
use Rattle.app_api.specs.declared.host.Host.{Host}
use Rattle.app_api.specs.Hosts.{HostsFit, IsApart, IsName}
use Rattle.sample_apps.specs.declared.sample.Sample.{Sample}
use Rattle.sample_apps.specs.Samples.{cipher, hosts, keep, rogue, tally, twin, vault}

vault_name : IsName vault.name
vault_name = search (rules, arith)

twin_name : IsName twin.name
twin_name = search (rules, arith)

keep_name : IsName keep.name
keep_name = search (rules, arith)

tally_name : IsName tally.name
tally_name = search (rules, arith)

cipher_name : IsName cipher.name
cipher_name = search (rules, arith)

rogue_name : IsName rogue.name
rogue_name = search (rules, arith)

-- each host is apart from the later ones
vault_apart : All (IsApart vault) (twin ∷ keep ∷ tally ∷ cipher ∷ rogue ∷ [])
vault_apart = search (rules, arith)

twin_apart : All (IsApart twin) (keep ∷ tally ∷ cipher ∷ rogue ∷ [])
twin_apart = search (rules, arith)

keep_apart : All (IsApart keep) (tally ∷ cipher ∷ rogue ∷ [])
keep_apart = search (rules, arith)

tally_apart : All (IsApart tally) (cipher ∷ rogue ∷ [])
tally_apart = search (rules, arith)

-- the last hosts, two to six of them
from_cipher : AllPairs IsApart (cipher ∷ rogue ∷ [])
from_cipher = search (rules, arith)

from_tally : AllPairs IsApart (tally ∷ cipher ∷ rogue ∷ [])
from_tally = AllPairs-cons IsApart tally (cipher ∷ rogue ∷ []) tally_apart from_cipher

from_keep : AllPairs IsApart (keep ∷ tally ∷ cipher ∷ rogue ∷ [])
from_keep = AllPairs-cons IsApart keep (tally ∷ cipher ∷ rogue ∷ []) keep_apart from_tally

from_twin : AllPairs IsApart (twin ∷ keep ∷ tally ∷ cipher ∷ rogue ∷ [])
from_twin = AllPairs-cons IsApart twin (keep ∷ tally ∷ cipher ∷ rogue ∷ []) twin_apart from_keep

pub six_fit : HostsFit hosts
six_fit = record {
  some = search (rules, arith);
  few = search (rules, arith);
  named = All-from_recursion (λ (host : Host Sample). IsName host.name) hosts (vault_name, (twin_name, (keep_name, (tally_name, (cipher_name, (rogue_name, tt))))));
  apart = AllPairs-cons IsApart vault (twin ∷ keep ∷ tally ∷ cipher ∷ rogue ∷ []) vault_apart from_twin;
}
