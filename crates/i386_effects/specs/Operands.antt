-- Operands: registers by their width, addresses, and what is loaded from and stored to memory (Intel 80386 manual, sections
-- 2.3.1 and 2.5).
use Rattle.std.specs.Prelude.{ℕ, ◌+◌, ◌*◌, ◌/◌, ◌%◌, ◌^◌, nat_lt, Option, Some, None, Result, Ok, Err, List, [], ◌∷◌, slice_index, slice_set, if◌then◌else◌}
use Rattle.memory_model.specs.Side.{Side, inside, word_at}
use Rattle.cpu_state.specs.Width.{size, modulus}
use Rattle.cpu_state.specs.declared.width.Width.{Width}
use Rattle.cpu_state.specs.declared.width.Width.TheVariants.{W8, W16, W32}
use Rattle.i386_decode.specs.declared.form.Address.{Address}
use Rattle.i386_decode.specs.declared.form.Operand.{Operand}
use Rattle.i386_decode.specs.declared.form.Operand.TheVariants.{Absent, Register, Memory, Immediate}
use Rattle.i386_effects.specs.declared.accesses.Touch.{Touch}
use Rattle.i386_effects.specs.declared.accesses.Write.{Write}

-- a register of a width among the eight general ones: EAX to EDI, AX to DI, or AL CL DL BL AH CH DH BH (figure 2-5)
abbrev pub part : Width → ℕ → List ℕ → ℕ
part W32 r g = slice_index g (r % 8)
part W16 r g = slice_index g (r % 8) % 65536
part W8 r g = if nat_lt (r % 8) 4 then slice_index g (r % 8) % 256 else slice_index g (r % 4) / 256 % 256

-- the general registers with the low part of x in a register of a width; the other bits stay
abbrev pub with_part : Width → ℕ → ℕ → List ℕ → List ℕ
with_part W32 r x g = slice_set g (r % 8) x
with_part W16 r x g = slice_set g (r % 8) (slice_index g (r % 8) / 65536 * 65536 + x % 65536)
with_part W8 r x g =
    if nat_lt (r % 8) 4 then slice_set g (r % 8) (slice_index g (r % 8) / 256 * 256 + x % 256)
    else slice_set g (r % 4) (slice_index g (r % 4) / 65536 * 65536 + (x % 256 * 256 + slice_index g (r % 4) % 256))

-- a base, or 0
abbrev pub base_value : Option ℕ → List ℕ → ℕ
base_value None g = 0
base_value (Some r) g = slice_index g (r % 8)

-- an index, multiplied by 1, 2, 4 or 8, or 0
abbrev pub index_value : Option (ℕ × ℕ) → List ℕ → ℕ
index_value None g = 0
index_value (Some p) g = slice_index g (p.0 % 8) * 2 ^ (p.1 % 4)

-- an operand's address, modulo 2^32 (section 2.5.3.2)
abbrev pub effective_address : Address → List ℕ → ℕ
effective_address a g = (base_value a.base g + index_value a.index g + a.displacement) % 2 ^ 32

-- an operand's value, where the word that was loaded for it is known
abbrev pub value_of : Width → Operand → List ℕ → ℕ → ℕ
value_of w Absent g loaded = 0
value_of w (Register r) g loaded = part w r g
value_of w (Memory a) g loaded = loaded % modulus w
value_of w (Immediate x) g loaded = x % modulus w

-- an operand's value, read where it stands, or the address where it lies outside
abbrev pub read_of : Side → Width → Operand → List ℕ → Result ℕ ℕ
read_of side w (Memory a) g =
    if inside side (effective_address a g) (size w) then Ok (word_at side (effective_address a g) (size w) % modulus w) else Err (effective_address a g)
read_of side w (Register r) g = Ok (part w r g)
read_of side w (Immediate x) g = Ok (x % modulus w)
read_of side w Absent g = Ok 0

-- the load of an operand, if it stands in memory
abbrev pub touches_of : Width → Operand → List ℕ → List Touch
touches_of w (Memory a) g = record { at = effective_address a g; width = w } ∷ []
touches_of w _ g = []

-- the general registers with a value in an operand, if it is one of them
abbrev pub with_operand : Width → Operand → ℕ → List ℕ → List ℕ
with_operand w (Register r) x g = with_part w r x g
with_operand w _ x g = g

-- the store of a value to an operand, if it stands in memory
abbrev pub writes_to : Width → Operand → ℕ → List ℕ → List Write
writes_to w (Memory a) x g = record { at = effective_address a g; width = w; value = x } ∷ []
writes_to w _ x g = []
