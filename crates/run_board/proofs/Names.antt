-- Names of hosts, as the first words of lines.
use Rattle.std.proofs.Common.{◌≢◌, ℕ, ◌<◌, ◌⊎◌, List, [], ◌∷◌, length, sym, ◌∙◌, arith, inl, inr}
use Rattle.std.specs.Prelude.{All, AllPairs, codes}
use Rattle.std.proofs.lemmas.List.{get_or-map, length-map}
use Rattle.std.proofs.lemmas.List.Elements.{All-map, All-weaker}
use Rattle.app_api.specs.declared.host.Host.{Host}
use Rattle.app_api.specs.Hosts.{HostsFit, IsApart, IsDigit, IsLowercase, IsName}
use Rattle.script.specs.Grammar.{names_of}
use Rattle.run_board.specs.BoardLines.{AreFirstWords}

-- names by which hosts can be told apart in a line: no space and no line feed is in them, and no two are alike
pub record CanName (names : List (List ℕ)) : Type 0 where
  pub plain : All (λ name. All (λ c. (c ≢ 32) × (c ≢ 10)) name) names
  pub apart : AllPairs ◌≢◌ names

plain_byte : (c : ℕ) → IsLowercase c ⊎ IsDigit c → (c ≢ 32) × (c ≢ 10)
plain_byte c (inl h) = ((λ e. omega (arith, h.0)), (λ e. omega (arith, h.0)))
plain_byte c (inr h) = ((λ e. omega (arith, h.0)), (λ e. omega (arith, h.0)))

plain_name : (name : List ℕ) → IsName name → All (λ c. (c ≢ 32) × (c ≢ 10)) name
plain_name name h = All-weaker (λ c. IsLowercase c ⊎ IsDigit c) (λ c. (c ≢ 32) × (c ≢ 10)) plain_byte name h.each

names_apart : {A : Type 0} (hosts : List (Host A)) → AllPairs IsApart hosts → AllPairs ◌≢◌ (names_of hosts)
names_apart [] h i j d below within = absurd (omega arith)
names_apart {A} (host ∷ hosts) h i j d below within =
    let name : Host A → List ℕ = λ x. x.name in
    let second : j < length (host ∷ hosts) = omega (arith, within, length-map (host ∷ hosts) name) in
    let first : i < length (host ∷ hosts) = omega (arith, second) in
    λ e. (h i j host below second).names (sym (get_or-map name (host ∷ hosts) i host d first) ∙ e ∙ get_or-map name (host ∷ hosts) j host d second)

-- the names of hosts can be told apart in a line
pub hosts_can_name : {A : Type 0} (hosts : List (Host A)) → HostsFit hosts → CanName (names_of hosts)
hosts_can_name hosts h = record {
  plain =
      let is_plain = λ (name : List ℕ). All (λ c. (c ≢ 32) × (c ≢ 10)) name in
      All-map is_plain (λ host. host.name) hosts (All-weaker (λ host. IsName host.name) (λ host. is_plain host.name) (λ host. plain_name host.name) hosts h.named);
  apart = names_apart hosts h.apart;
}

-- no host is named as the board
pub not_board : {A : Type 0} (hosts : List (Host A)) → HostsFit hosts → All (λ name. name ≢ codes "board") (names_of hosts)
not_board hosts fit =
    All-map (λ name. name ≢ codes "board") (λ host. host.name) hosts
    (All-weaker (λ host. IsName host.name) (λ host. host.name ≢ codes "board") (λ host is. is.not_board) hosts fit.named)

-- none begins a line of the board
pub hosts_begin : {A : Type 0} (hosts : List (Host A)) → HostsFit hosts → AreFirstWords (names_of hosts)
hosts_begin hosts fit = λ k d below. ((hosts_can_name hosts fit).plain k d below, not_board hosts fit k d below)
