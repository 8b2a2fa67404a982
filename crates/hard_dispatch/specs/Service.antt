-- Taking lines from a pair of 8259As that is as after the boot: acknowledges, ends of service and masks.
use Rattle.std.specs.Prelude.{◌≡◌, ℕ, ◌+◌, ◌-◌, ◌*◌, ◌^◌, ◌%◌, Bool, if◌then◌else◌, nat_lt, Some, None, List, [], ◌∷◌, filter}
use Rattle.line_sets.specs.LineSet.{has, without_line}
use Rattle.pic_8259.specs.declared.chip.Chip.{Chip}
use Rattle.pic_8259.specs.Controllers.{Controllers, request_of, acknowledged, written}
use Rattle.pic_8259.specs.Boot.{booted_chip, booted, acknowledge_order}

-- the pair after the specific ends of interrupt of a line; for one of the slave the cascade's ends too
abbrev pub finished : ℕ → Controllers → Controllers
finished n p = if nat_lt n 8 then written 0x20 (0x60 + n) p else written 0x20 0x62 (written 0xA0 (0x60 + (n - 8)) p)

-- a pair as after the boot when a line was taken out of its latches
abbrev pub lowered : ℕ → Controllers → Controllers
lowered n p = if nat_lt n 8 then booted (without_line p.master.irr n) p.slave.irr else booted p.master.irr (without_line p.slave.irr (n - 8))

-- the same by whether the line stood
abbrev pub lowered_where : Bool → ℕ → Controllers → Controllers
lowered_where stood n p = if stood then lowered n p else p

-- the lines of a set in the order in which the pair acknowledges
unfoldable pub in_order : ℕ → List ℕ
in_order lines = filter (λ n. has lines n) acknowledge_order

-- the lines were taken one after another, each when the pair requested it, and in the end it requests none
abbrev pub TakesInTurn : List ℕ → Controllers → Controllers → Type 0
TakesInTurn [] p q = (request_of p ≡ None) × (q ≡ p)
TakesInTurn (n ∷ lines) p q = (request_of p ≡ Some n) × TakesInTurn lines (finished n (acknowledged n p)) q

-- a chip as after the boot with every line masked but one
abbrev pub masked_chip : ℕ → ℕ → ℕ → Chip
masked_chip n base irr = record (booted_chip base irr) { imr = 255 - 1 * 2 ^ n % 256 }

-- the pair so; for a line of the slave the master lets the cascade through
abbrev pub masked : ℕ → ℕ → ℕ → Controllers
masked n m s =
    if nat_lt n 8 then record { master = masked_chip n 0x20 m; slave = booted_chip 0x28 s }
    else record { master = masked_chip 2 0x20 m; slave = masked_chip (n - 8) 0x28 s }

-- the pair with no line masked any more
abbrev pub unmasked : Controllers → Controllers
unmasked p = written 0xA1 0 (written 0x21 0 p)
