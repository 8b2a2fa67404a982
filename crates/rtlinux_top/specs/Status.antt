-- The numbers of the answers, and which answers the input determines.
use Rattle.std.specs.Prelude.{ℕ}
use Rattle.rtlinux_top.specs.declared.status.Status.{Status}
use Rattle.rtlinux_top.specs.declared.status.Status.TheVariants.{Done, Refused, Outside, Breach, RtFault, Usage, NoMemory}

abbrev pub number_of : Status → ℕ
number_of Done = 0
number_of (Refused code) = 1
number_of (Outside device) = 2
number_of Breach = 3
number_of RtFault = 4
number_of Usage = 5
number_of NoMemory = 9

-- an answer that the words and the files determine: neither a fault outside nor want of memory
abbrev pub IsDetermined : Status → Type 0
IsDetermined Done = Unit {0}
IsDetermined (Refused code) = Unit {0}
IsDetermined (Outside device) = ⊥
IsDetermined Breach = Unit {0}
IsDetermined RtFault = Unit {0}
IsDetermined Usage = Unit {0}
IsDetermined NoMemory = ⊥

-- an answer after which all ticks ran and all output was written
abbrev pub HasRun : Status → Type 0
HasRun Done = Unit {0}
HasRun (Refused code) = ⊥
HasRun (Outside device) = ⊥
HasRun Breach = Unit {0}
HasRun RtFault = Unit {0}
HasRun Usage = ⊥
HasRun NoMemory = ⊥
