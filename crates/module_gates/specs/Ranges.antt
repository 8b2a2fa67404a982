-- The range of a gate that accesses memory, before its row: a count above 256 fails, and then a byte outside the side is a fault.
use Rattle.std.specs.Prelude.{◌≡◌, ◌≤◌, nat_lt, true, if◌then◌else◌, Option, Some, None, is_some}
use Rattle.rt_constants.specs.declared.limits.TheConstants.{BYTES_LIMIT}
use Rattle.memory_model.specs.Side.{Side, covers, first_outside}
use Rattle.gate_table.specs.Gates.{Range}
use Rattle.module_gates.specs.declared.ranges.Admission.{Admission}
use Rattle.module_gates.specs.declared.ranges.Admission.TheVariants.{Fits, TooLong, Outside}

abbrev pub admission_of : Side → Option Range → Admission
admission_of side None = Fits
admission_of side (Some range) =
    if nat_lt BYTES_LIMIT range.count then TooLong
    else if is_some (first_outside side range.place range.count) then Outside
    else Fits

-- at most 256 bytes, all of them on the side
abbrev pub IsInRange : Side → Option Range → Type 0
IsInRange side None = Unit {0}
IsInRange side (Some range) = (range.count ≤ BYTES_LIMIT) × (covers side range.place range.count ≡ true)
