use Rattle.collector.proofs.Laws.{laws, fault_laws, latest_laws}
use Rattle.collector.proofs.Collector.new.Goals as goal

pub returns-clause-laws : goal.returns-clause-laws
returns-clause-laws c = laws

pub returns-clause-faults : goal.returns-clause-faults
returns-clause-faults c = fault_laws

pub returns-clause-latest : goal.returns-clause-latest
returns-clause-latest c = latest_laws
