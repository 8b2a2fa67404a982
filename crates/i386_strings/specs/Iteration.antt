-- One iteration of a string instruction (Intel 80386 manual, section 3.6, and MOVS, CMPS, STOS, LODS, SCAS and REP in chapter
-- 17).
use Rattle.std.specs.Prelude.{ℕ, ◌+◌, ◌-◌, ◌%◌, ◌^◌, ◌==◌, Bool, true, false, not, ◌&&◌, ◌||◌, List, [], ◌∷◌, Option, Some, None, Result, Ok, Err, slice_index, slice_set, if◌then◌else◌}
use Rattle.cpu_state.specs.Bus.{State}
use Rattle.cpu_state.specs.Registers.{ecx, esi, edi}
use Rattle.cpu_state.specs.Width.{size, modulus}
use Rattle.cpu_state.specs.declared.eflags.Eflags.{Eflags}
use Rattle.cpu_state.specs.declared.op.Op.{Op}
use Rattle.cpu_state.specs.declared.op.Op.TheVariants.{Movs, Cmps, Stos, Lods, Scas, Cmp}
use Rattle.cpu_state.specs.declared.registers.Access.TheVariants.{Load, Store}
use Rattle.cpu_state.specs.declared.registers.Registers.{Registers}
use Rattle.cpu_state.specs.declared.width.Width.{Width}
use Rattle.i386_decode.specs.declared.form.Form.{Form}
use Rattle.i386_decode.specs.declared.form.Repeat.{Repeat}
use Rattle.i386_decode.specs.declared.form.Repeat.TheVariants.{Once, WhileEqual, WhileUnequal}
use Rattle.i386_alu.specs.Binary.{binary_of}
use Rattle.i386_effects.specs.Accesses.{all_loaded}
use Rattle.i386_effects.specs.Effect.{Commit, EffectOf, committed}
use Rattle.i386_effects.specs.Operands.{part, with_part}
use Rattle.i386_effects.specs.declared.accesses.Touch.{Touch}
use Rattle.i386_effects.specs.declared.accesses.Write.{Write}
use Rattle.i386_strings.specs.declared.iteration.Iteration.{Iteration}
use Rattle.i386_strings.specs.declared.iteration.Iteration.TheVariants.{More, Finished, Outside}

-- the loads of each mnemonic, in order
abbrev pub string_loads : Op → Width → Registers → List Touch
string_loads Movs w r = record { at = esi r; width = w } ∷ []
string_loads Cmps w r = record { at = esi r; width = w } ∷ record { at = edi r; width = w } ∷ []
string_loads Stos w r = []
string_loads Lods w r = record { at = esi r; width = w } ∷ []
string_loads Scas w r = record { at = edi r; width = w } ∷ []
string_loads op w r = []

-- the store to [EDI] of the word that was loaded, or of AL, AX or EAX
abbrev pub string_writes : Op → Width → Registers → List ℕ → List Write
string_writes Movs w r ws = record { at = edi r; width = w; value = slice_index ws 0 } ∷ []
string_writes Stos w r ws = record { at = edi r; width = w; value = part w 0 r.general } ∷ []
string_writes op w r ws = []

-- the flags of a comparison
abbrev pub compared : Width → ℕ → ℕ → Eflags → Eflags
compared w a b f = (binary_of Cmp w (a % modulus w) (b % modulus w) f).flags

-- CMPS compares [ESI] with [EDI], SCAS eAX with [EDI]; the flags of the others stay
abbrev pub string_flags : Op → Width → Registers → List ℕ → Eflags
string_flags Cmps w r ws = compared w (slice_index ws 0) (slice_index ws 1) r.eflags
string_flags Scas w r ws = compared w (part w 0 r.general) (slice_index ws 0) r.eflags
string_flags op w r ws = r.eflags

-- LODS loads AL, AX or EAX
abbrev pub with_loaded : Op → Width → List ℕ → List ℕ → List ℕ
with_loaded Lods w ws g = with_part w 0 (slice_index ws 0) g
with_loaded op w ws g = g

-- an address moved by the width, down where DF is set
abbrev pub moved : Width → Eflags → ℕ → ℕ
moved w f x = if f.direction then (x + (2 ^ 32 - size w)) % 2 ^ 32 else (x + size w) % 2 ^ 32

-- whether a mnemonic uses ESI, and EDI
abbrev pub uses_source : Op → Bool
uses_source Movs = true
uses_source Cmps = true
uses_source Lods = true
uses_source op = false

abbrev pub uses_target : Op → Bool
uses_target Movs = true
uses_target Cmps = true
uses_target Stos = true
uses_target Scas = true
uses_target op = false

-- general register i moved by the width where a test holds
abbrev pub moved_where : Bool → ℕ → Width → Eflags → List ℕ → List ℕ
moved_where b i w f g = if b then slice_set g i (moved w f (slice_index g i)) else g

-- whether there is a repeat prefix
abbrev pub repeats : Repeat → Bool
repeats Once = false
repeats WhileEqual = true
repeats WhileUnequal = true

-- with one, ECX falls by one
abbrev pub counted : Repeat → List ℕ → List ℕ
counted repeat g = if repeats repeat then slice_set g 1 ((slice_index g 1 + (2 ^ 32 - 1)) % 2 ^ 32) else g

-- both pointers moved, and ECX counted
abbrev pub advanced : Form → Eflags → List ℕ → List ℕ
advanced f e g = counted f.repeat (moved_where (uses_target f.op) 7 f.width e (moved_where (uses_source f.op) 6 f.width e g))

-- the registers after one iteration; EIP stays
unfoldable pub iterated : Form → Registers → List ℕ → Registers
iterated f r ws = record r {
  general = counted f.repeat (moved_where (uses_target f.op) 7 f.width r.eflags (moved_where (uses_source f.op) 6 f.width r.eflags (with_loaded f.op f.width ws r.general)));
  eflags = string_flags f.op f.width r ws;
}

-- whether ZF after a comparison ends the instruction: under REPE where it is clear, under REPNE where it is set
abbrev pub compares : Op → Bool
compares Cmps = true
compares Scas = true
compares op = false

abbrev pub is_decided : Repeat → Bool → Bool
is_decided Once zero = false
is_decided WhileEqual zero = not zero
is_decided WhileUnequal zero = zero

-- whether the instruction ends with these registers: without a repeat prefix it does
unfoldable pub is_last : Form → Registers → Bool
is_last f after = not (repeats f.repeat) || (ecx after == 0) || (compares f.op && is_decided f.repeat after.eflags.zero)

-- the effect of an iteration
abbrev pub IterationEffect : Type 0 → Type 0
IterationEffect D = EffectOf Iteration D

abbrev pub ended_by : Option ℕ → Bool → Iteration
ended_by (Some at) last = Outside Store at
ended_by None last = if last then Finished else More

abbrev pub ended : {D : Type 0} → Form → Commit D → IterationEffect D
ended f c = record { answer = ended_by c.outside (is_last f c.registers); registers = c.registers; bus = c.bus }

abbrev pub after_loads : {D : Type 0} → Form → Registers → State D → Result (List ℕ) ℕ → IterationEffect D
after_loads f regs st (Err at) = record { answer = Outside Load at; registers = regs; bus = st }
after_loads f regs st (Ok ws) = ended f (committed regs st (iterated f regs ws) (string_writes f.op f.width regs ws))

-- with a repeat prefix and ECX 0 there is nothing but the end
unfoldable pub iteration : {D : Type 0} → Form → Registers → State D → IterationEffect D
iteration f regs st =
    if repeats f.repeat && (ecx regs == 0) then record { answer = Finished; registers = regs; bus = st }
    else after_loads f regs st (all_loaded st.side (string_loads f.op f.width regs))

-- nothing changes where an access lies outside
abbrev pub StaysOutside : Iteration → Type 0 → Type 0
StaysOutside (Outside kind at) same = same
StaysOutside More same = Unit {0}
StaysOutside Finished same = Unit {0}
