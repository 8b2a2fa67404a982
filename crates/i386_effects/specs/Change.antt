-- What an instruction changes, once its loads are made.
use Rattle.std.specs.Prelude.{ℕ, ◌+◌, ◌-◌, ◌*◌, ◌%◌, ◌^◌, List, [], ◌∷◌, slice_index}
use Rattle.cpu_state.specs.declared.registers.Privileged.{Privileged as PrivilegedUse}
use Rattle.cpu_state.specs.declared.registers.Registers.{Registers}
use Rattle.cpu_state.specs.declared.width.Width.{Width}
use Rattle.cpu_state.specs.declared.width.Width.TheVariants.{W32}
use Rattle.i386_effects.specs.declared.accesses.Write.{Write}

pub data Change : Type 0 where
  -- these registers, and stores in order
  Done : (after : Registers) (writes : List Write) → Change
  -- these registers, with what a port answers in AL, AX or EAX
  In : (after : Registers) (port : ℕ) (w : Width) → Change
  -- these registers, and a write of a value to a port
  Out : (after : Registers) (port : ℕ) (w : Width) (value : ℕ) → Change
  -- nothing: the processor's own exception of this vector
  Trap : (vector : ℕ) → Change
  -- nothing: an interrupt of this vector
  Interrupt : (vector : ℕ) → Change
  -- nothing: an instruction on the hard interrupt flag, or HLT, of so many bytes
  Privileged : (kind : PrivilegedUse) (n : ℕ) → Change

-- the store of word i of those that are pushed at a top of the stack
abbrev pub pushed_word : ℕ → List ℕ → ℕ → Write
pushed_word top words i = record { at = (top + (2 ^ 32 - (4 * i + 4))) % 2 ^ 32; width = W32; value = slice_index words i }

-- eight words that are pushed, the first one first
abbrev pub eight_pushed : ℕ → List ℕ → List Write
eight_pushed top ws =
    pushed_word top ws 0 ∷ pushed_word top ws 1 ∷ pushed_word top ws 2 ∷ pushed_word top ws 3 ∷ pushed_word top ws 4 ∷ pushed_word top ws 5 ∷ pushed_word top ws 6 ∷ pushed_word top ws 7 ∷ []
