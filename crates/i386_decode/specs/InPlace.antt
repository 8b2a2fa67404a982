-- What is read into a form that stands in a place of its own.
use Rattle.std.specs.Prelude.{ℕ, ◌+◌, List, [], ◌∷◌, length, drop, Bool, false}
use Rattle.cpu_state.specs.declared.op.Op.TheVariants.{Hlt}
use Rattle.cpu_state.specs.declared.width.Width.TheVariants.{W32}
use Rattle.i386_decode.specs.Fields.{is_prefix, displacement_size, immediate_size, form_of}
use Rattle.i386_decode.specs.Spelling.{entry_of}
use Rattle.i386_decode.specs.Reading.{number, finish, opcode_at, entry_read}
use Rattle.i386_decode.specs.declared.row.Row.{Row}
use Rattle.i386_decode.specs.declared.form.Operand.TheVariants.{Absent}
use Rattle.i386_decode.specs.declared.form.Repeat.{Repeat}
use Rattle.i386_decode.specs.declared.form.Repeat.TheVariants.{Once}
use Rattle.i386_decode.specs.declared.form.Form.{Form}
use Rattle.i386_decode.specs.declared.form.Extent.{Extent}
use Rattle.i386_decode.specs.declared.form.Extent.TheVariants as extent
use Rattle.i386_decode.specs.declared.form.Decoded.{Decoded}
use Rattle.i386_decode.specs.declared.form.Decoded.TheVariants as decoded

-- a form to be filled: HLT, which has no operands
abbrev pub unfilled : Form
unfilled = record { op = Hlt; width = W32; first = Absent; second = Absent; third = Absent; repeat = Once }

-- what an extent and the form beside it say together
abbrev pub decoded_by : Extent → Form → Decoded
decoded_by (extent.Whole n) form = decoded.Form form n
decoded_by extent.Undefined form = decoded.Undefined
decoded_by extent.Short form = decoded.Short

-- what the displacement and the immediate that stand behind so many bytes come to
abbrev pub numbers_at : Row → Bool → Repeat → ℕ → ℕ → ℕ → ℕ → List ℕ → Decoded
numbers_at row narrow repeat used len m s bs =
    let nd = displacement_size m s in
    let ni = immediate_size row.immediate narrow in
    finish (used + nd + ni) len (form_of row narrow repeat m s (number nd bs) (number ni (drop nd bs)))

-- what stands behind the prefixes comes to
abbrev pub read_at : List ℕ → Bool → Repeat → ℕ → ℕ → Decoded
read_at rest narrow repeat count len =
    entry_read (entry_of (opcode_at rest)) narrow repeat (count + length (opcode_at rest)) len (drop (length (opcode_at rest)) rest)

-- whether a prefix stands at the front
abbrev pub is_prefixed : List ℕ → Bool
is_prefixed [] = false
is_prefixed (b ∷ bs) = is_prefix b
