-- An effect whose loads are those of operands, by what these are read to be.
use Rattle.std.proofs.Common.{◌≡◌, ◌∙◌, refl, ℕ, ◌+◌, ◌%◌, ◌≤◌, Bool, true, false, List, [], ◌∷◌, ◌++◌, arith}
use Rattle.std.specs.Prelude.{Some, None, Result, Ok, Err, if◌then◌else◌, slice_index}
use Rattle.memory_model.specs.Side.{inside, word_at}
use Rattle.cpu_state.specs.Bus.{State, Ports}
use Rattle.cpu_state.specs.Width.{size, modulus}
use Rattle.cpu_state.specs.declared.registers.Access.TheVariants.{Load}
use Rattle.cpu_state.specs.declared.registers.Registers.{Registers}
use Rattle.cpu_state.specs.declared.width.Width.{Width}
use Rattle.i386_decode.specs.WellFormed.{memory_count}
use Rattle.i386_decode.specs.declared.form.Operand.{Operand}
use Rattle.i386_decode.specs.declared.form.Operand.TheVariants.{Absent, Register, Memory, Immediate}
use Rattle.i386_effects.specs.Accesses.{words_unless}
use Rattle.i386_effects.specs.Effect.{Effect, after_loads, effect_of, changed, unchanged}
use Rattle.i386_effects.specs.Operands.{effective_address, value_of, read_of, touches_of}
use Rattle.i386_effects.specs.Change.{Change}
use Rattle.i386_effects.specs.declared.stepped.Stepped.TheVariants.{Outside}

-- what a change by one value comes to, or the load outside
abbrev pub given_read : {D : Type 0} → Ports D → Registers → State D → (ℕ → Change) → Result ℕ ℕ → Effect D
given_read ports regs st K (Ok a) = changed ports regs st (K a)
given_read ports regs st K (Err at) = unchanged (Outside Load at) regs st

-- and by two values
abbrev pub given_reads : {D : Type 0} → Ports D → Registers → State D → (ℕ → ℕ → Change) → Result ℕ ℕ → Result ℕ ℕ → Effect D
given_reads ports regs st K (Ok a) b = given_read ports regs st (K a) b
given_reads ports regs st K (Err at) b = unchanged (Outside Load at) regs st

-- an operand in memory, inside or not
memory_read : {D : Type 0} (ports : Ports D) (w : Width) (at x : ℕ) (K : ℕ → Change) (regs : Registers) (st : State D) (b : Bool)
    → after_loads ports regs st (λ ws. K (slice_index ws 0 % modulus w)) (words_unless (if b then None else Some at) (x ∷ []))
    ≡ given_read ports regs st K (if b then Ok (x % modulus w) else Err at)
memory_read ports w at x K regs st true = refl
memory_read ports w at x K regs st false = refl

-- one operand that is loaded
pub one_read : {D : Type 0} (ports : Ports D) (w : Width) (o : Operand) (g : List ℕ) (K : ℕ → Change) (regs : Registers) (st : State D)
    → effect_of ports (touches_of w o g) (λ ws. K (value_of w o g (slice_index ws 0))) regs st ≡ given_read ports regs st K (read_of st.side w o g)
one_read ports w Absent g K regs st = refl
one_read ports w (Register r) g K regs st = refl
one_read ports w (Immediate x) g K regs st = refl
one_read ports w (Memory a) g K regs st =
    memory_read ports w (effective_address a g) (word_at st.side (effective_address a g) (size w)) K regs st (inside st.side (effective_address a g) (size w))

first_alone : {D : Type 0} (ports : Ports D) (regs : Registers) (st : State D) (K : ℕ → ℕ → Change) (b : ℕ) (o : Result ℕ ℕ)
    → given_read ports regs st (λ x. K x b) o ≡ given_reads ports regs st K o (Ok b)
first_alone ports regs st K b (Ok a) = refl
first_alone ports regs st K b (Err at) = refl

-- two that are loaded, of which at most one stands in memory
pub two_reads : {D : Type 0} (ports : Ports D) (w : Width) (o p : Operand) (g : List ℕ) (K : ℕ → ℕ → Change) (regs : Registers) (st : State D)
    → memory_count o + memory_count p ≤ 1
    → effect_of ports (touches_of w o g ++ touches_of w p g) (λ ws. K (value_of w o g (slice_index ws 0)) (value_of w p g (slice_index ws 0))) regs st
    ≡ given_reads ports regs st K (read_of st.side w o g) (read_of st.side w p g)
two_reads ports w Absent p g K regs st h = one_read ports w p g (K 0) regs st
two_reads ports w (Register r) p g K regs st h = one_read ports w p g (K (value_of w (Register r) g 0)) regs st
two_reads ports w (Immediate x) p g K regs st h = one_read ports w p g (K (x % modulus w)) regs st
two_reads ports w (Memory a) Absent g K regs st h = one_read ports w (Memory a) g (λ x. K x 0) regs st ∙ first_alone ports regs st K 0 (read_of st.side w (Memory a) g)
two_reads ports w (Memory a) (Register r) g K regs st h =
    let b = value_of w (Register r) g 0 in
    one_read ports w (Memory a) g (λ x. K x b) regs st ∙ first_alone ports regs st K b (read_of st.side w (Memory a) g)
two_reads ports w (Memory a) (Immediate y) g K regs st h =
    let b = y % modulus w in
    one_read ports w (Memory a) g (λ x. K x b) regs st ∙ first_alone ports regs st K b (read_of st.side w (Memory a) g)
two_reads ports w (Memory a) (Memory b) g K regs st h = absurd (omega arith)

-- one that is loaded, with the value of another that isn't
pub read_beside : {D : Type 0} (ports : Ports D) (w : Width) (o p : Operand) (g : List ℕ) (K : ℕ → ℕ → Change) (regs : Registers) (st : State D)
    → memory_count o + memory_count p ≤ 1
    → effect_of ports (touches_of w o g) (λ ws. K (value_of w o g (slice_index ws 0)) (value_of w p g (slice_index ws 0))) regs st
    ≡ given_read ports regs st (λ a. K a (value_of w p g 0)) (read_of st.side w o g)
read_beside ports w Absent p g K regs st h = refl
read_beside ports w (Register r) p g K regs st h = refl
read_beside ports w (Immediate x) p g K regs st h = refl
read_beside ports w (Memory a) Absent g K regs st h = one_read ports w (Memory a) g (λ x. K x 0) regs st
read_beside ports w (Memory a) (Register r) g K regs st h = one_read ports w (Memory a) g (λ x. K x (value_of w (Register r) g 0)) regs st
read_beside ports w (Memory a) (Immediate y) g K regs st h = one_read ports w (Memory a) g (λ x. K x (y % modulus w)) regs st
read_beside ports w (Memory a) (Memory b) g K regs st h = absurd (omega arith)
