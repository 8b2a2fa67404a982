-- The guest's flag and shadow, its mask of lines, and its descriptor table.
use Rattle.std.specs.Prelude.{ℕ, ◌+◌, ◌-◌, ◌*◌, ◌^◌, ◌≤◌, Bool, false, not, ◌&&◌, ◌||◌, nat_lt, if◌then◌else◌, ℤ, pos}
use Rattle.rt_constants.specs.Errors.{failed}
use Rattle.rt_constants.specs.declared.errors.TheConstants.{EINVAL}
use Rattle.soft_flags.specs.declared.flags.SoftFlags.{SoftFlags}

abbrev pub first_flags : SoftFlags
first_flags = record { flag = false; shadow = false; mask = 2 ^ 32 - 1; idt = 0; entries = 0 }

-- a line may be entered
abbrev pub is_open : SoftFlags → Bool
is_open f = f.flag && not f.shadow

-- a table of so many entries at a place can be taken, on a side of a size
abbrev pub loads_table : ℕ → ℕ → ℕ → Bool
loads_table place entries size = not (nat_lt 256 entries || nat_lt size (place + 8 * entries))

abbrev pub table_answer : ℕ → ℕ → ℕ → ℤ
table_answer place entries size = if loads_table place entries size then pos 0 else failed EINVAL

abbrev pub with_table : ℕ → ℕ → ℕ → SoftFlags → SoftFlags
with_table place entries size f = if loads_table place entries size then record f { idt = place; entries = entries } else f

-- the table lies on a side of this size, from address 0 on
pub record HasTableIn (f : SoftFlags) (size : ℕ) : Type 0 where
  pub within : f.idt + 8 * f.entries ≤ size
