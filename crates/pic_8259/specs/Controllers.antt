-- The pair of 8259As: the slave stands at line 2 of the master (8259A data sheet, cascade mode).
use Rattle.std.specs.Prelude.{◌≡◌, ◌<◌, ◌≤◌, ℕ, ◌+◌, ◌-◌, ◌*◌, Bool, false, ◌||◌, ◌==◌, nat_lt, if◌then◌else◌, Option, Some, None, is_some, option_map}
use Rattle.line_sets.specs.LineSet.{has, with_line}
use Rattle.pic_8259.specs.declared.chip.Chip.{Chip}
use Rattle.pic_8259.specs.Chip.{chip_request, taken, even_written, odd_written, even_read, new_chip}

-- both chips
pub record Controllers : Type 0 where
  pub master : Chip
  pub slave : Chip

-- the latched lines of both chips: 0 to 7 are the master's, 8 to 15 the slave's
abbrev pub latch_of : Controllers → ℕ
latch_of p = p.slave.irr * 256 + p.master.irr

-- does the slave request?
abbrev pub cascade_of : Controllers → Bool
cascade_of p = is_some (chip_request false p.slave)

-- the line behind the master's request: for line 2 the slave's own
abbrev pub through : Option ℕ → Option ℕ → Option ℕ
through None of_slave = None
through (Some n) of_slave = if n == 2 then option_map (λ k. k + 8) of_slave else Some n

-- the line that an acknowledge would take
abbrev pub request_of : Controllers → Option ℕ
request_of p = through (chip_request (cascade_of p) p.master) (chip_request false p.slave)

-- the pair after an acknowledge of a line; for one of the slave the cascade's line is in service too
abbrev pub acknowledged : ℕ → Controllers → Controllers
acknowledged n p =
    if nat_lt n 8 then record p { master = taken n p.master }
    else record { master = record p.master { isr = with_line p.master.isr 2 }; slave = taken (n - 8) p.slave }

abbrev pub after_acknowledge : Option ℕ → Controllers → Controllers
after_acknowledge None p = p
after_acknowledge (Some n) p = acknowledged n p

-- a line's vector
abbrev pub vector_of : Controllers → ℕ → ℕ
vector_of p n = if nat_lt n 8 then p.master.base + n else p.slave.base + (n - 8)

-- the pair after a rise of a line; the cascade's line 2 is none
abbrev pub risen : ℕ → Controllers → Controllers
risen n p =
    if n == 2 then p
    else if nat_lt n 8 then record p { master = record p.master { irr = with_line p.master.irr n } }
    else record p { slave = record p.slave { irr = with_line p.slave.irr (n - 8) } }

-- the latched lines of both chips after it
abbrev pub latch_with : ℕ → ℕ → ℕ
latch_with n latch = if n == 2 then latch else with_line latch n

-- is it a port of the pair? The even ones are 20h and A0h, the odd ones 21h and A1h
abbrev pub is_port : ℕ → Bool
is_port port = port == 0x20 || port == 0x21 || port == 0xA0 || port == 0xA1

-- a write to one of the four ports
abbrev pub written : ℕ → ℕ → Controllers → Controllers
written port v p =
    if port == 0x20 then record p { master = even_written v p.master }
    else if port == 0x21 then record p { master = odd_written v p.master }
    else if port == 0xA0 then record p { slave = even_written v p.slave }
    else record p { slave = odd_written v p.slave }

-- what a read of one of the four ports gives
abbrev pub read_of : ℕ → Controllers → ℕ
read_of port p =
    if port == 0x20 then even_read (cascade_of p) p.master
    else if port == 0x21 then p.master.imr
    else if port == 0xA0 then even_read false p.slave
    else p.slave.imr

-- the pair before its initialisation
abbrev pub new_pair : Controllers
new_pair = record { master = new_chip; slave = new_chip }

-- what is true of each pair: every vector fits, the latches are bytes, and the cascade's line is never latched
pub record IsPair (p : Controllers) : Type 0 where
  pub master_base : p.master.base ≤ 0xF8
  pub slave_base : p.slave.base ≤ 0xF8
  pub master_fits : p.master.irr < 256
  pub slave_fits : p.slave.irr < 256
  pub no_cascade : has p.master.irr 2 ≡ false
