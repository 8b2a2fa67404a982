-- The steps by parts are the definition's.
use Rattle.std.proofs.Common.{◌≡◌, ℕ, Bool, true, false, List, [], ◌∷◌, ◌++◌, map, filter, Option, Some, None, refl, ap, append-nil}
use Rattle.std.specs.Prelude.{if◌then◌else◌}
use Rattle.line_sets.specs.LineSet.{has, without_line}
use Rattle.line_kinds.specs.declared.kinds.HLine.{HLine}
use Rattle.line_kinds.specs.declared.kinds.HLine.TheVariants.{Ack}
use Rattle.hard_dispatch.specs.Service.{in_order}
use Rattle.rt_irqs.specs.Irqs.{handler_order}
use Rattle.hardware_lines.specs.Hardware.{Marking, first_acknowledged, with_edges, with_set, next_due, changes_owner}
use Rattle.hardware_steps.specs.Laws.{IsDeviceStep, IsDrainStep, IsUnitStep, IsTimerStep}
use Rattle.irq_gates.specs.Owners.{taken_of}
use Rattle.hardware_steps.specs.Steps.{serials_rose, with_taken}

pub device_step_is : IsDeviceStep
device_step_is k last events b after lines m n s t = rw (s.com1, s.com2, t.com1, t.com2) refl

drained_by : (timer : Bool) (now : ℕ) (due : Option ℕ) (s : Marking) (lines : List HLine)
    → (if timer then with_set now due (record { hardware = record s.hardware { latch = 0; last = if timer then now else s.hardware.last }; lines = lines }) else record { hardware = record s.hardware { latch = 0; last = if timer then now else s.hardware.last }; lines = lines })
    ≡ (if timer then with_set now due (record { hardware = record s.hardware { latch = 0; last = now }; lines = lines }) else record { hardware = record s.hardware { latch = 0 }; lines = lines })
drained_by true now due s lines = refl
drained_by false now due s lines = refl

pub drain_step_is : IsDrainStep
drain_step_is now released s = drained_by (has s.hardware.latch 0) now (next_due now released) s (s.lines ++ map Ack (in_order s.hardware.latch))

taken_by : (stood : Bool) (line : ℕ) (s : Marking)
    → with_taken (if stood then Some line else None) s ≡ (if stood then record { hardware = record s.hardware { latch = without_line s.hardware.latch line }; lines = s.lines ++ Ack line ∷ [] } else s)
taken_by true line s = refl
taken_by false line s = ap (λ hs. record s { lines = hs }) (append-nil s.lines)

taken_is : (s : Marking) (lines : List ℕ) → with_taken (taken_of s.hardware.latch lines) s ≡ first_acknowledged lines s
taken_is s [] = ap (λ hs. record s { lines = hs }) (append-nil s.lines)
taken_is s (line ∷ lines) = taken_by (has s.hardware.latch line) line s

pub unit_step_is : IsUnitStep
unit_step_is b after m n s t u =
    rw (t.com1, t.com2, u.com1, u.com2) (taken_is (with_edges (serials_rose b after 0) s) (filter (changes_owner m n) handler_order))

pub timer_step_is : IsTimerStep
timer_step_is now m n s = refl
