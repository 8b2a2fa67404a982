-- The calls of the executive, INT F6h: the function is in EAX, its arguments in EBX, ECX and EDX, and the result is left in EAX. All
-- are this project's own.
use Rattle.std.specs.Prelude.{ℕ, ◌==◌, nat_lt, false, length, if◌then◌else◌, Option, Some, None, ℤ, pos}
use Rattle.memory_model.specs.Side.{Side, bytes_at, first_outside}
use Rattle.cpu_state.specs.Registers.{eax, ebx, ecx, edx, at_eip}
use Rattle.cpu_state.specs.declared.registers.Access.TheVariants.{Load, Store}
use Rattle.cpu_state.specs.declared.registers.Registers.{Registers}
use Rattle.rt_constants.specs.Errors.{failed}
use Rattle.rt_constants.specs.declared.errors.TheConstants.{EINVAL}
use Rattle.rt_constants.specs.declared.limits.TheConstants.{BYTES_LIMIT, SPAN_LIMIT}
use Rattle.line_kinds.specs.Calls.{Call, PutCall, GetCall}
use Rattle.soft_flags.specs.SoftFlags.{table_answer, with_table}
use Rattle.soft_flags.specs.declared.flags.SoftFlags.{SoftFlags}
use Rattle.soft_gates.specs.Calls.{with_result}
use Rattle.soft_gates.specs.Outcome.{GateOutcome, Finishes, SetsTimer, MakesCall, AccessOutside}

-- what a function comes to, and what it leaves. None changes the side before a reply
pub record Served : Type 0 where
  pub came : GateOutcome
  pub registers : Registers
  pub flags : SoftFlags

-- a unit ends the shadow
abbrev pub unshadowed : SoftFlags → SoftFlags
unshadowed f = record f { shadow = false }

-- a function that is done leaves its result, and the guest goes on behind the gate
abbrev pub results_in : ℤ → ℕ → Registers → SoftFlags → Served
results_in result next r f = record { came = Finishes; registers = at_eip next (with_result result r); flags = unshadowed f }

abbrev pub refused : ℕ → Registers → SoftFlags → Served
refused next r f = results_in (failed EINVAL) next r f

-- an access outside changes nothing
abbrev pub outside : GateOutcome → Registers → SoftFlags → Served
outside came r f = record { came = came; registers = r; flags = f }

-- 1: the descriptor table of ECX entries at EBX, on a side of a size
abbrev pub load_idt : ℕ → ℕ → Registers → SoftFlags → Served
load_idt size next r f = results_in (table_answer (ebx r) (ecx r) size) next r (with_table (ebx r) (ecx r) size f)

-- 2: the mask EBX, in which a set bit masks its line
abbrev pub set_mask : ℕ → Registers → SoftFlags → Served
set_mask next r f = results_in (pos 0) next r (record f { mask = ebx r })

-- 3: the guest's timer gets the period EBX
abbrev pub set_timer : ℕ → Registers → SoftFlags → Served
set_timer next r f =
    if nat_lt SPAN_LIMIT (ebx r) then refused next r f
    else record (results_in (pos 0) next r f) { came = SetsTimer (ebx r) }

-- 4 and 5: a call leaves EAX to its reply
abbrev pub calls : Call → ℕ → ℕ → Registers → SoftFlags → Served
calls call place next r f = record { came = MakesCall call place; registers = at_eip next r; flags = unshadowed f }

-- the EDX bytes at ECX are put into FIFO EBX, where none of them is outside
abbrev pub put_unless : Option ℕ → Side → ℕ → Registers → SoftFlags → Served
put_unless (Some at) side next r f = outside (AccessOutside Load at) r f
put_unless None side next r f = calls (PutCall (ebx r) (bytes_at side (ecx r) (edx r))) 0 next r f

abbrev pub fifo_put : Side → ℕ → Registers → SoftFlags → Served
fifo_put side next r f =
    if nat_lt BYTES_LIMIT (edx r) then refused next r f
    else put_unless (first_outside side (ecx r) (edx r)) side next r f

-- up to EDX bytes of FIFO EBX are asked for, and go to ECX, where none of them is outside
abbrev pub get_unless : Option ℕ → ℕ → Registers → SoftFlags → Served
get_unless (Some at) next r f = outside (AccessOutside Store at) r f
get_unless None next r f = calls (GetCall (ebx r) (edx r)) (ecx r) next r f

abbrev pub fifo_get : Side → ℕ → Registers → SoftFlags → Served
fifo_get side next r f =
    if nat_lt BYTES_LIMIT (edx r) then refused next r f
    else get_unless (first_outside side (ecx r) (edx r)) next r f

-- 6: the tick
abbrev pub time : ℕ → ℕ → Registers → SoftFlags → Served
time now next r f = results_in (pos now) next r f

-- every function that isn't defined is refused
abbrev pub service_by : ℕ → Side → ℕ → ℕ → Registers → SoftFlags → Served
service_by function side next now r f =
    if function == 1 then load_idt (length side.bytes) next r f
    else if function == 2 then set_mask next r f
    else if function == 3 then set_timer next r f
    else if function == 4 then fifo_put side next r f
    else if function == 5 then fifo_get side next r f
    else if function == 6 then time now next r f
    else refused next r f

unfoldable pub service : Side → ℕ → ℕ → Registers → SoftFlags → Served
service side next now r f = service_by (eax r) side next now r f
