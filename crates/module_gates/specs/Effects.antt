-- What a gate comes to.
use Rattle.std.specs.Prelude.{◌≡◌, ℕ, zero, ◌-◌, List, length, take, drop, replicate, Option, Some, None, ℤ, pos}
use Rattle.std.specs.Int.{cast_unsigned, w32}
use Rattle.line_sets.specs.LineSet.{with_line}
use Rattle.memory_model.specs.Side.{Side, bytes_at}
use Rattle.cpu_state.specs.Registers.{with_eax}
use Rattle.cpu_state.specs.declared.registers.Registers.{Registers}
use Rattle.gate_table.specs.declared.names.GateName.{GateName}
use Rattle.gate_table.specs.declared.names.GateName.TheVariants.{PendIrq, Print}
use Rattle.gate_table.specs.declared.request.Request.{Request}
use Rattle.gate_table.specs.Gates.{Answered, GateParts}
use Rattle.module_gates.specs.declared.effect.Effect.{Effect}
use Rattle.module_gates.specs.declared.effect.ModuleUnit.{ModuleUnit}
use Rattle.module_gates.specs.declared.effect.ModuleUnit.TheVariants.{Answered as Answers, Outside}

-- Printed bytes

-- what gate 24 prints; the others print nothing
abbrev pub printed_of : GateName → Request → Side → Option (List ℕ)
printed_of Print q side = Some (bytes_at side q.ebx q.ecx)
printed_of _ q side = None

-- what a row answers and leaves, with what it prints
abbrev pub row_answers : GateName → Request → Side → ℤ → GateParts → Answered
row_answers name q side result p = record { result = result; printed = printed_of name q side; after = p }

-- bytes, where a gate succeeds
abbrev pub where_zero : ℤ → List ℕ → Option (List ℕ)
where_zero (pos zero) bytes = Some bytes
where_zero _ bytes = None

-- gate 24 prints the text of its effect where it succeeds
abbrev pub printed_by : GateName → Effect → Option (List ℕ)
printed_by Print e = where_zero e.result (take e.said e.text)
printed_by _ e = None

-- the text of gate 24's effect, before its result is known
abbrev pub text_of : GateName → Effect → Option (List ℕ)
text_of Print e = Some (take e.said e.text)
text_of _ e = None

-- how many bytes are printed
abbrev pub count_printed : Option (List ℕ) → ℕ
count_printed None = 0
count_printed (Some bytes) = length bytes

-- zeros stand behind the bytes that are printed
abbrev pub IsZeroBehind : Effect → Type 0
IsZeroBehind e = drop e.said e.text ≡ replicate (256 - e.said) 0

-- The answer

-- what the table of gates is to say where a gate of this name came to this, and these are the parts afterwards
abbrev pub answered : GateName → ModuleUnit → GateParts → Option Answered
answered name Outside p = None
answered name (Answers e) p = Some (record { result = e.result; printed = printed_by name e; after = p })

-- the result is left in EAX, and all else stays
abbrev pub registers_after : ModuleUnit → Registers → Registers
registers_after Outside r = r
registers_after (Answers e) r = with_eax (cast_unsigned w32 e.result) r

-- the count is that of the bytes that are printed
abbrev pub CountsPrinted : GateName → ModuleUnit → Type 0
CountsPrinted name Outside = Unit {0}
CountsPrinted name (Answers e) = e.said ≡ count_printed (printed_by name e)

-- a fact where a byte was outside
abbrev pub WhenOutside : ModuleUnit → Type 0 → Type 0
WhenOutside Outside P = P
WhenOutside (Answers e) P = Unit {0}

abbrev pub HasZerosBehind : ModuleUnit → Type 0
HasZerosBehind Outside = Unit {0}
HasZerosBehind (Answers e) = IsZeroBehind e

-- Lines

abbrev pub acknowledged_by : ModuleUnit → Option ℕ
acknowledged_by Outside = None
acknowledged_by (Answers e) = e.acknowledged

abbrev pub marked_by : ModuleUnit → ℕ
marked_by Outside = 0
marked_by (Answers e) = e.guest

-- what is asked of the guest after a gate with this result: gate 22 adds its line where it succeeds, and no other gate adds any
abbrev pub asked_after : GateName → ℕ → ℤ → ℕ → ℕ
asked_after PendIrq line (pos zero) asked = with_line asked line
asked_after _ line result asked = asked

abbrev pub asked_by : GateName → ℕ → ModuleUnit → ℕ → ℕ
asked_by name line Outside asked = asked
asked_by name line (Answers e) asked = asked_after name line e.result asked
