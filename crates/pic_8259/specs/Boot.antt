-- The pair as after the boot: initialised with the vectors from 20h and 28h on, and with no line masked.
use Rattle.std.specs.Prelude.{◌≡◌, ℕ, List, ◌++◌}
use Rattle.std.specs.List.{range_with_len}
use Rattle.pic_8259.specs.declared.chip.Chip.{Chip}
use Rattle.pic_8259.specs.declared.chip.Step.TheVariants.{Ready}
use Rattle.pic_8259.specs.declared.chip.ReadChoice.TheVariants.{Irr}
use Rattle.pic_8259.specs.Controllers.{Controllers, written}

-- a chip as after the boot, with the lines that it has latched and nothing in service
abbrev pub booted_chip : ℕ → ℕ → Chip
booted_chip base irr = record { irr = irr; isr = 0; imr = 0; base = base; step = Ready; read_choice = Irr }

-- the pair as after the boot, by what its chips have latched
abbrev pub booted : ℕ → ℕ → Controllers
booted master slave = record { master = booted_chip 0x20 master; slave = booted_chip 0x28 slave }

-- the pair is as after the boot, with nothing in service: both masks are 0, the bases are 20h and 28h, no initialisation word
-- is awaited, and a read gives the requests. What is latched is free
abbrev pub IsBooted : Controllers → Type 0
IsBooted p = p ≡ booted p.master.irr p.slave.irr

-- the ten writes of the boot: ICW1 with ICW3 and ICW4 to come, ICW2 the base, ICW3 the cascade at line 2, ICW4 for an 8086,
-- OCW1 no mask; first the master, then the slave
abbrev pub boot_written : Controllers → Controllers
boot_written p =
    written 0xA1 0x00 (written 0xA1 0x01 (written 0xA1 0x02 (written 0xA1 0x28 (written 0xA0 0x11
    (written 0x21 0x00 (written 0x21 0x01 (written 0x21 0x04 (written 0x21 0x20 (written 0x20 0x11 p)))))))))

-- the order in which the pair acknowledges: the slave's lines stand at the master's line 2
abbrev pub acknowledge_order : List ℕ
acknowledge_order = range_with_len 0 2 ++ range_with_len 8 8 ++ range_with_len 3 5
