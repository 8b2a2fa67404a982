-- A gate whose range fits is answered by its row.
use Rattle.std.proofs.Common.{◌≡◌, ℕ, Bool, true, false, refl, Option, Some, None, is_some}
use Rattle.std.specs.Prelude.{nat_lt, if◌then◌else◌}
use Rattle.rt_constants.specs.declared.errors.TheConstants.{EINVAL}
use Rattle.rt_constants.specs.declared.limits.TheConstants.{BYTES_LIMIT}
use Rattle.memory_model.specs.Side.{first_outside}
use Rattle.line_kinds.specs.declared.kinds.Who.{Who}
use Rattle.gate_table.specs.declared.names.GateName.{GateName}
use Rattle.gate_table.specs.declared.request.Request.{Request}
use Rattle.gate_table.specs.Gates.{Answered, GateParts, Range, fails, gate_in, gate_row}
use Rattle.module_gates.specs.declared.ranges.Admission.TheVariants.{Fits, TooLong, Outside}
use Rattle.module_gates.specs.Ranges.{admission_of}

by_tests : (long outside : Bool) (refusal row : Answered) → (if long then TooLong else if outside then Outside else Fits) ≡ Fits
    → (if long then Some refusal else if outside then None else Some row) ≡ Some row
by_tests true outside refusal row e = absurd (let g : TooLong ≡ Fits = e in cc)
by_tests false true refusal row e = absurd (let g : Outside ≡ Fits = e in cc)
by_tests false false refusal row e = refl

pub by_row : (t : ℕ) (who : Who) (q : Request) (p : GateParts) (name : GateName) (range : Option Range) → admission_of p.side range ≡ Fits
    → gate_in t who q p name range ≡ Some (gate_row t who q p name)
by_row t who q p name None e = refl
by_row t who q p name (Some r) e =
    by_tests (nat_lt BYTES_LIMIT r.count) (is_some (first_outside p.side r.place r.count)) (fails EINVAL p) (gate_row t who q p name) e
