-- The gates by what they work on.
use Rattle.gate_table.specs.declared.names.GateName.{GateName}
use Rattle.gate_table.specs.declared.names.GateName.TheVariants.{Gethrtime, PthreadCreate, PthreadDelete, PthreadSuspend, PthreadWakeup, PthreadMakePeriodic, PthreadWait, PthreadSelf, PthreadSetprio, PthreadGetprio, FifoCreate, FifoDestroy, FifoPut, FifoGet, FifoFlush, FifoCreateHandler, FifoCount, RequestIrq, FreeIrq, GetSoftIrq, FreeSoftIrq, PendIrq, Nanosleep, Print, Other}
use Rattle.module_gates.specs.declared.family.Family.{Family}
use Rattle.module_gates.specs.declared.family.Family.TheVariants.{Threads, Fifos, Lines, Alone}

-- those on threads work on the threads, the ready list and the dues, those on FIFOs on these and the side, and those on lines on these;
-- the others change nothing
abbrev pub family_of : GateName → Family
family_of Gethrtime = Alone
family_of PthreadCreate = Threads
family_of PthreadDelete = Threads
family_of PthreadSuspend = Threads
family_of PthreadWakeup = Threads
family_of PthreadMakePeriodic = Threads
family_of PthreadWait = Threads
family_of PthreadSelf = Alone
family_of PthreadSetprio = Threads
family_of PthreadGetprio = Threads
family_of FifoCreate = Fifos
family_of FifoDestroy = Fifos
family_of FifoPut = Fifos
family_of FifoGet = Fifos
family_of FifoFlush = Fifos
family_of FifoCreateHandler = Fifos
family_of FifoCount = Fifos
family_of RequestIrq = Lines
family_of FreeIrq = Lines
family_of GetSoftIrq = Lines
family_of FreeSoftIrq = Lines
family_of PendIrq = Lines
family_of Nanosleep = Threads
family_of Print = Alone
family_of Other = Alone
