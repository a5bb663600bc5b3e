-- What a value that records its past stands for.
use Rattle.operation_asks.specs.declared.operations.Operations.{Operations}
use Rattle.operation_asks.specs.Asks.{CryptoState}
use Rattle.operation_asks.specs.Past.{state_after}

-- its operations and its random stream
abbrev pub state_of : Operations → CryptoState
state_of o = state_after o.past
