-- An entry of a vector: its descriptor, the frame that it pushes, and what it leaves (Intel 80386 manual, sections 9.5 and 9.6.1).
use Rattle.std.specs.Prelude.{ℕ, ◌+◌, ◌-◌, ◌*◌, ◌/◌, ◌%◌, ◌^◌, ◌==◌, nat_le, Bool, false, not, ◌&&◌, ◌||◌, if◌then◌else◌, Option, Some, None}
use Rattle.memory_model.specs.Side.{Side, inside, word_at, stored_inside}
use Rattle.cpu_state.specs.Eflags.{word_of, with_interrupt}
use Rattle.cpu_state.specs.Registers.{esp, with_esp}
use Rattle.cpu_state.specs.declared.eflags.Eflags.{Eflags}
use Rattle.cpu_state.specs.declared.registers.Registers.{Registers}
use Rattle.soft_flags.specs.declared.flags.SoftFlags.{SoftFlags}
use Rattle.soft_entry.specs.declared.entry.Entry.{Entry}
use Rattle.soft_entry.specs.declared.entry.Entry.TheVariants.{Entered, Shutdown, Outside}

-- the attribute byte of a descriptor is the second of its second doubleword; the offset is in its first and last two bytes
abbrev pub attribute_of : ℕ → ℕ
attribute_of high = high / 256 % 256

abbrev pub offset_of : ℕ → ℕ → ℕ
offset_of low high = low % 65536 + high / 65536 * 65536

-- an interrupt gate has the type 0Eh, and clears the flag
abbrev pub clears_flag : ℕ → Bool
clears_flag attribute = attribute % 16 == 14

-- present, of the system, and an interrupt or trap gate
abbrev pub is_gate : ℕ → Bool
is_gate attribute = nat_le 128 attribute && (attribute / 16 % 2 == 0 && (clears_flag attribute || attribute % 16 == 15))

-- n bytes below the top of the stack
abbrev pub below : ℕ → ℕ → ℕ
below top n = (top + (2 ^ 32 - n)) % 2 ^ 32

-- the EFLAGS that is pushed: bit 9 is the flag
abbrev pub flags_word : Bool → Eflags → ℕ
flags_word flag eflags = word_of (with_interrupt flag eflags)

-- the first of some doublewords that lies outside
abbrev pub or_else : Option ℕ → Option ℕ → Option ℕ
or_else None later = later
or_else (Some at) later = Some at

abbrev pub doubleword_outside : Side → ℕ → Option ℕ
doubleword_outside side at = if inside side at 4 then None else Some at

-- the frame is EFLAGS, the code segment 8 and EIP, pushed in this order
abbrev pub outside_push : Side → ℕ → Option ℕ
outside_push side top = or_else (doubleword_outside side (below top 4)) (or_else (doubleword_outside side (below top 8)) (doubleword_outside side (below top 12)))

abbrev pub frame_stored : Side → ℕ → ℕ → ℕ → Side
frame_stored side top eflags eip =
    stored_inside (stored_inside (stored_inside side (below top 4) 4 eflags) (below top 8) 4 8) (below top 12) 4 eip

-- what an entry leaves
pub record Entering : Type 0 where
  pub entry : Entry
  pub registers : Registers
  pub flags : SoftFlags
  pub side : Side

abbrev pub unentered : Entry → Registers → SoftFlags → Side → Entering
unentered entry r f side = record { entry = entry; registers = r; flags = f; side = side }

-- through a gate of these doublewords, where the first doubleword of the frame that lies outside is given
abbrev pub entered : ℕ → ℕ → ℕ → Registers → SoftFlags → Side → Option ℕ → Entering
entered low high push r f side (Some at) = unentered (Outside at) r f side
entered low high push r f side None = record {
  entry = Entered;
  registers = record (with_esp (below (esp r) 12) r) { eip = offset_of low high };
  flags = record f { flag = f.flag && not (clears_flag (attribute_of high)); shadow = false };
  side = frame_stored side (esp r) (flags_word f.flag r.eflags) push;
}

abbrev pub through : ℕ → ℕ → ℕ → Registers → SoftFlags → Side → Entering
through low high push r f side =
    if is_gate (attribute_of high) then entered low high push r f side (outside_push side (esp r)) else unentered Shutdown r f side

-- the entry of a vector that pushes an EIP
unfoldable pub entering : ℕ → ℕ → Registers → SoftFlags → Side → Entering
entering vector push r f side =
    if nat_le f.entries vector then unentered Shutdown r f side
    else through (word_at side (f.idt + 8 * vector) 4) (word_at side (f.idt + 8 * vector + 4) 4) push r f side
