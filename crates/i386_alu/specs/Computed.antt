-- What an operation gives: a result, and the flags after it.
use Rattle.std.specs.Prelude.{ℕ}
use Rattle.cpu_state.specs.declared.eflags.Eflags.{Eflags}

pub record Computed : Type 0 where
  pub value : ℕ
  pub flags : Eflags

-- the operand and the flags as they were
abbrev pub unchanged : ℕ → Eflags → Computed
unchanged a f = record { value = a; flags = f }
