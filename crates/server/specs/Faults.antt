-- Why a cluster isn't served to its end.
use Rattle.server.specs.declared.faults.ServeFault.{ServeFault}
use Rattle.server.specs.declared.faults.ServeFault.TheVariants.{Accept, Memory}
use Rattle.server.specs.declared.faults.TakeFault.{TakeFault}
use Rattle.server.specs.declared.faults.TakeFault.TheVariants as taking

-- the fault of a cluster whose consoles aren't all taken
abbrev pub fault_of_taking : TakeFault → ServeFault
fault_of_taking taking.Accept = Accept
fault_of_taking taking.Memory = Memory
