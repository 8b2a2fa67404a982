-- Bit scans (Intel 80386 manual, section 3.4.3, chapter 17, appendix C).
use Rattle.std.specs.Prelude.{ℕ, ◌-◌, ◌==◌, true, false, if◌then◌else◌}
use Rattle.std.specs.Int.{w32, leading_zeros, trailing_zeros}
use Rattle.cpu_state.specs.declared.eflags.Eflags.{Eflags}
use Rattle.cpu_state.specs.declared.op.Op.{Op}
use Rattle.cpu_state.specs.declared.op.Op.TheVariants.{Bsf, Bsr}
use Rattle.i386_alu.specs.Computed.{Computed, unchanged}

-- the place of the lowest bit that is set, and of the highest
abbrev pub lowest_set : ℕ → ℕ
lowest_set n = trailing_zeros w32 n

abbrev pub highest_set : ℕ → ℕ
highest_set n = 31 - leading_zeros w32 n

-- ZF says whether the source is 0, and then the target stays as it was; all other flags stay
abbrev pub found : ℕ → ℕ → ℕ → Eflags → Computed
found source old place f =
    if source == 0 then record { value = old; flags = record f { zero = true } }
    else record { value = place; flags = record f { zero = false } }

-- row by row; any other operation leaves all as it is
unfoldable pub scan_of : Op → ℕ → ℕ → Eflags → Computed
scan_of Bsf source old f = found source old (lowest_set source) f
scan_of Bsr source old f = found source old (highest_set source) f
scan_of op source old f = unchanged old f
