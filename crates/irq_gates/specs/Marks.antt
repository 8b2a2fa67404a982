-- Lines that a real-time activity marks for the guest (RTLinux 3, rtl_global_pend_irq).
use Rattle.std.specs.Prelude.{ℕ, if◌then◌else◌, Option, Some, None, ◌==◌, ℤ, pos}
use Rattle.line_sets.specs.LineSet.{with_line}
use Rattle.rt_constants.specs.Errors.{failed}
use Rattle.rt_constants.specs.declared.errors.TheConstants.{EINVAL}
use Rattle.rt_constants.specs.declared.lines.TheConstants.{COM2_LINE}
use Rattle.rt_irqs.specs.Irqs.{Lines, is_pendable}

-- EINVAL where the line can't be marked
abbrev pub pend_result : Lines → ℕ → ℤ
pend_result l n = if is_pendable l n then pos 0 else failed EINVAL

-- what is asked of the guest afterwards
abbrev pub pended : Lines → ℕ → ℕ → ℕ
pended l n asked = if is_pendable l n then with_line asked n else asked

-- a line that a module takes over, and that stood, stays asked of the guest; line 3 was nobody's
abbrev pub left_to_guest : Option ℕ → ℕ
left_to_guest None = 0
left_to_guest (Some n) = if n == COM2_LINE then 0 else with_line 0 n
