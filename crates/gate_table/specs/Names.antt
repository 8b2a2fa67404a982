-- The gates of real-time activities, by number: the names are those of RTLinux 3 and POSIX where these have them.
use Rattle.std.specs.Prelude.{ℕ, List, [], ◌∷◌, slice_index_or}
use Rattle.gate_table.specs.declared.names.GateName.{GateName}
use Rattle.gate_table.specs.declared.names.GateName.TheVariants.{Gethrtime, PthreadCreate, PthreadDelete, PthreadSuspend, PthreadWakeup, PthreadMakePeriodic, PthreadWait, PthreadSelf, PthreadSetprio, PthreadGetprio, FifoCreate, FifoDestroy, FifoPut, FifoGet, FifoFlush, FifoCreateHandler, FifoCount, RequestIrq, FreeIrq, GetSoftIrq, FreeSoftIrq, PendIrq, Nanosleep, Print, Other}

-- functions 0 to 24
abbrev pub all_gates : List GateName
all_gates =
    Other ∷ Gethrtime ∷ PthreadCreate ∷ PthreadDelete ∷ PthreadSuspend ∷ PthreadWakeup ∷ PthreadMakePeriodic ∷ PthreadWait ∷ PthreadSelf
    ∷ PthreadSetprio ∷ PthreadGetprio ∷ FifoCreate ∷ FifoDestroy ∷ FifoPut ∷ FifoGet ∷ FifoFlush ∷ FifoCreateHandler ∷ FifoCount
    ∷ RequestIrq ∷ FreeIrq ∷ GetSoftIrq ∷ FreeSoftIrq ∷ PendIrq ∷ Nanosleep ∷ Print ∷ []

unfoldable pub gate_of : ℕ → GateName
gate_of function = slice_index_or all_gates function Other
