-- Who a client is: its login, and the identity that is made of it (TEE Client API 1.0, section 4.5.5; TEE Internal Core API 1.3, section 4.7).
use Rattle.std.specs.Prelude.{ℕ, List, replicate}
use Rattle.std.specs.Int.{w128, to_be_bytes}
use Rattle.app_api.specs.declared.login.Login.{Login}
use Rattle.app_api.specs.declared.login.Login.TheVariants.{Public, User, Group, App}

-- the number of a login
abbrev pub login_number : Login → ℕ
login_number Public = 0
login_number (User number) = 1
login_number (Group number) = 2
login_number (App id) = 4

-- the sixteen bytes that stand for who it is: zeros, a number with its highest byte first, or the identifier
abbrev pub login_id : Login → List ℕ
login_id Public = replicate 16 0
login_id (User number) = to_be_bytes w128 number
login_id (Group number) = to_be_bytes w128 number
login_id (App id) = id
