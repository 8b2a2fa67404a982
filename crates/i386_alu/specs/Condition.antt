-- The sixteen conditions (Intel 80386 manual, appendix D).
use Rattle.std.specs.Prelude.{ℕ, ◌/◌, ◌%◌, ◌==◌, Bool, false, not, ◌||◌, if◌then◌else◌, [], ◌∷◌, slice_index_or}
use Rattle.cpu_state.specs.declared.eflags.Eflags.{Eflags}
use Rattle.i386_alu.specs.Operand.{differ}

-- the eight even ones: O, B, E, BE, S, P, L, LE
abbrev pub holds : ℕ → Eflags → Bool
holds k f =
    slice_index_or
    (f.overflow ∷ f.carry ∷ f.zero ∷ (f.carry || f.zero) ∷ f.sign ∷ f.parity ∷ differ f.sign f.overflow ∷ (f.zero || differ f.sign f.overflow) ∷ [])
    k false

-- each odd one is the contrary of the one before
unfoldable pub condition_of : ℕ → Eflags → Bool
condition_of code f = if code % 2 == 1 then not (holds (code / 2) f) else holds (code / 2) f
