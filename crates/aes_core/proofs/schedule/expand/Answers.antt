use Rattle.std.proofs.Common.{rules}
use Rattle.aes_core.proofs.schedule.expand.Goals as goal

pub returns-in_default-clause-expanded : goal.returns-in_default-clause-expanded
returns-in_default-clause-expanded c = search rules

pub expanded-requires : goal.expanded-requires
expanded-requires c = search rules

pub returns-in-16-clause-expanded : goal.returns-in-16-clause-expanded
returns-in-16-clause-expanded c = search rules
