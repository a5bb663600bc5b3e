-- The sample applications as one, and the hosts that carry them.
use Rattle.std.specs.Prelude.{ℕ, ◌+◌, true, false, List, [], ◌∷◌, codes}
use Rattle.std.specs.Int.{w128, to_be_bytes}
use Rattle.app_api.specs.declared.ask.Ask.{Ask}
use Rattle.app_api.specs.declared.ask.Given.{Given}
use Rattle.app_api.specs.declared.host.Host.{Host}
use Rattle.app_api.specs.declared.host.Properties.{Properties}
use Rattle.sample_apps.specs.declared.sample.Sample.{Sample}
use Rattle.sample_apps.specs.declared.sample.Sample.TheVariants.{Store, Count, Crypt, Rogue}
use Rattle.sample_apps.specs.declared.store.Store.TheVariants as stores
use Rattle.sample_apps.specs.declared.rogue.Rogue.TheVariants as rogues
use Rattle.sample_apps.specs.Store as store
use Rattle.sample_apps.specs.Count as count
use Rattle.sample_apps.specs.CryptSetUp as set_up
use Rattle.sample_apps.specs.Crypt as crypt
use Rattle.sample_apps.specs.Rogue as rogue_app

-- the state after what is given
unfoldable pub next_state : Sample → Given → Sample
next_state (Store s) given = Store (store.next_state s given)
next_state (Count c) given = Count (count.next_state c given)
next_state (Crypt c) given = Crypt (crypt.next_state c given)
next_state (Rogue r) given = Rogue (rogue_app.next_state r given)

-- what is asked for
unfoldable pub next_ask : Sample → Given → Ask
next_ask (Store s) given = store.next_ask s given
next_ask (Count c) given = count.next_ask c given
next_ask (Crypt c) given = crypt.next_ask c given
next_ask (Rogue r) given = rogue_app.next_ask r given

-- the identifier whose last digit is this
abbrev pub id_of : ℕ → List ℕ
id_of last = to_be_bytes w128 (0x00000000000040008000000000000000 + last)

-- a host by its row: its name, the last digit of its identifier, its properties, its application
abbrev pub host_of : List ℕ → ℕ → Properties → Sample → Host Sample
host_of name last properties template = record { name = name; id = id_of last; properties = properties; template = template }

-- one instance, which takes all sessions and stays
abbrev pub all_set : Properties
all_set = record { single = true; multi = true; keep = true }

-- one instance, which takes one session
abbrev pub one_session : Properties
one_session = record { single = true; multi = false; keep = false }

-- one instance, which takes all sessions and goes with the last
abbrev pub one_instance : Properties
one_instance = record { single = true; multi = true; keep = false }

-- an instance for each session
abbrev pub many_instances : Properties
many_instances = record { single = false; multi = false; keep = false }

-- the host vault: Store, one session at a time
abbrev pub vault : Host Sample
vault = host_of (codes "vault") 1 one_session (Store stores.Idle)

-- the host twin: Store, an instance for each session
abbrev pub twin : Host Sample
twin = host_of (codes "twin") 2 many_instances (Store stores.Idle)

-- the host keep: Count, in one instance that stays
abbrev pub keep : Host Sample
keep = host_of (codes "keep") 3 all_set (Count count.new_count)

-- the host tally: Count, in one instance that goes with its last session
abbrev pub tally : Host Sample
tally = host_of (codes "tally") 4 one_instance (Count count.new_count)

-- the host cipher: Crypt, an instance for each session
abbrev pub cipher : Host Sample
cipher = host_of (codes "cipher") 5 many_instances (Crypt set_up.new_crypt)

-- the host rogue: Rogue, in one instance that goes with its last session
abbrev pub rogue : Host Sample
rogue = host_of (codes "rogue") 6 one_instance (Rogue rogues.Idle)

-- the six hosts, in the order of their indices
abbrev pub hosts : List (Host Sample)
hosts = vault ∷ twin ∷ keep ∷ tally ∷ cipher ∷ rogue ∷ []
