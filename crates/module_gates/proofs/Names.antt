-- Only gate 22 asks the guest, where it succeeds.
use Rattle.std.proofs.Common.{◌≡◌, ◌⊎◌, inl, inr, ℕ, zero, suc, ℤ, pos, negsuc, Bool, true, false, refl}
use Rattle.gate_table.specs.declared.names.GateName.{GateName}
use Rattle.gate_table.specs.declared.names.GateName.TheVariants.{Gethrtime, PthreadCreate, PthreadDelete, PthreadSuspend, PthreadWakeup, PthreadMakePeriodic, PthreadWait, PthreadSelf, PthreadSetprio, PthreadGetprio, FifoCreate, FifoDestroy, FifoPut, FifoGet, FifoFlush, FifoCreateHandler, FifoCount, RequestIrq, FreeIrq, GetSoftIrq, FreeSoftIrq, PendIrq, Nanosleep, Print, Other}
use Rattle.module_gates.specs.declared.family.Family.{Family}
use Rattle.module_gates.specs.declared.family.Family.TheVariants.{Threads, Fifos, Lines, Alone}
use Rattle.module_gates.specs.Effects.{asked_after}
use Rattle.module_gates.specs.Families.{family_of}

abbrev pub is_lines : Family → Bool
is_lines Threads = false
is_lines Fifos = false
is_lines Lines = true
is_lines Alone = false

abbrev pub is_zero : ℤ → Bool
is_zero (pos zero) = true
is_zero (pos (suc n)) = false
is_zero (negsuc n) = false

-- a gate that isn't one on lines asks nothing, and one that fails doesn't
pub asks_none : (name : GateName) (line : ℕ) (z : ℤ) (asked : ℕ) → (is_lines (family_of name) ≡ false) ⊎ (is_zero z ≡ false) → asked ≡ asked_after name line z asked
asks_none Gethrtime line z asked f = refl
asks_none PthreadCreate line z asked f = refl
asks_none PthreadDelete line z asked f = refl
asks_none PthreadSuspend line z asked f = refl
asks_none PthreadWakeup line z asked f = refl
asks_none PthreadMakePeriodic line z asked f = refl
asks_none PthreadWait line z asked f = refl
asks_none PthreadSelf line z asked f = refl
asks_none PthreadSetprio line z asked f = refl
asks_none PthreadGetprio line z asked f = refl
asks_none FifoCreate line z asked f = refl
asks_none FifoDestroy line z asked f = refl
asks_none FifoPut line z asked f = refl
asks_none FifoGet line z asked f = refl
asks_none FifoFlush line z asked f = refl
asks_none FifoCreateHandler line z asked f = refl
asks_none FifoCount line z asked f = refl
asks_none RequestIrq line z asked f = refl
asks_none FreeIrq line z asked f = refl
asks_none GetSoftIrq line z asked f = refl
asks_none FreeSoftIrq line z asked f = refl
asks_none PendIrq line (pos zero) asked (inl f) = absurd (let g : true ≡ false = f in cc)
asks_none PendIrq line (pos zero) asked (inr f) = absurd (let g : true ≡ false = f in cc)
asks_none PendIrq line (pos (suc n)) asked f = refl
asks_none PendIrq line (negsuc n) asked f = refl
asks_none Nanosleep line z asked f = refl
asks_none Print line z asked f = refl
asks_none Other line z asked f = refl
