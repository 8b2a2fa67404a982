-- One 8259A, after its data sheet: the requests (IRR), the lines in service (ISR), the mask (IMR) and the command words.
--
-- Left out are rotation, polling, the special mask mode, automatic end of interrupt and spurious interrupts.
use Rattle.std.specs.Prelude.{ℕ, Bool, true, false, not, ◌==◌, nat_lt, if◌then◌else◌, bit_and, Option, Some, None}
use Rattle.line_sets.specs.LineSet.{minus, with_line, without_line, lowest_of}
use Rattle.pic_8259.specs.declared.chip.Chip.{Chip}
use Rattle.pic_8259.specs.declared.chip.Step.{Step}
use Rattle.pic_8259.specs.declared.chip.Step.TheVariants.{Ready, AwaitsIcw2, AwaitsIcw3, AwaitsIcw4}
use Rattle.pic_8259.specs.declared.chip.ReadChoice.{ReadChoice}
use Rattle.pic_8259.specs.declared.chip.ReadChoice.TheVariants.{Irr, Isr}

-- is a bit of a command word set?
abbrev pub is_set : ℕ → ℕ → Bool
is_set word flag = not (bit_and word flag == 0)

-- the requests as the chip sees them: the master's line 2 counts as requested while the slave requests
abbrev pub standing : Bool → Chip → ℕ
standing cascade c = if cascade then with_line c.irr 2 else c.irr

-- the highest of the requests, where it is higher than the highest line in service; line 0 is the highest
abbrev pub above : Option ℕ → Option ℕ → Option ℕ
above None serviced = None
above (Some n) None = Some n
above (Some n) (Some k) = if nat_lt n k then Some n else None

-- what a chip requests (priority resolver; fully nested mode)
abbrev pub chip_request : Bool → Chip → Option ℕ
chip_request cascade c = above (lowest_of 8 (minus (standing cascade c) c.imr)) (lowest_of 8 c.isr)

-- a chip after an acknowledge of its line: the line is no longer requested, and is in service (interrupt sequence)
abbrev pub taken : ℕ → Chip → Chip
taken n c = record c { irr = without_line c.irr n; isr = with_line c.isr n }

-- a non-specific end of interrupt: the highest line in service is done
abbrev pub highest_done : Option ℕ → Chip → Chip
highest_done None c = c
highest_done (Some n) c = record c { isr = without_line c.isr n }

-- ICW1, bit 4 (D4) set at the even port: the initialisation begins. Bit 1 (SNGL) clear asks for ICW3, bit 0 (IC4) set for ICW4
abbrev pub initialized : ℕ → Chip → Chip
initialized v c = record { irr = 0; isr = 0; imr = 0; base = c.base; step = AwaitsIcw2 (not (is_set v 0x02)) (is_set v 0x01); read_choice = Irr }

-- OCW3, bit 3 set at the even port: RR and RIS in bits 1 and 0 choose the register that is read
abbrev pub chosen : ℕ → Chip → Chip
chosen v c =
    if bit_and v 0x03 == 0x02 then record c { read_choice = Irr }
    else if bit_and v 0x03 == 0x03 then record c { read_choice = Isr }
    else c

-- OCW2, bits 4 and 3 clear at the even port: R, SL and EOI in bits 7 to 5 say what ends, a level in bits 2 to 0
abbrev pub service_ended : ℕ → Chip → Chip
service_ended v c =
    if bit_and v 0xE0 == 0x20 then highest_done (lowest_of 8 c.isr) c
    else if bit_and v 0xE0 == 0x60 then record c { isr = without_line c.isr (bit_and v 0x07) }
    else c

-- a write to the even port
abbrev pub even_written : ℕ → Chip → Chip
even_written v c = if is_set v 0x10 then initialized v c else if is_set v 0x08 then chosen v c else service_ended v c

-- what is awaited when ICW2 has come, by whether ICW3 and ICW4 were asked for
abbrev pub after_icw2 : Bool → Bool → Step
after_icw2 true icw4 = AwaitsIcw3 icw4
after_icw2 false true = AwaitsIcw4
after_icw2 false false = Ready

-- a write to the odd port: the next initialisation word, or else OCW1, the mask. ICW2 has the upper five bits of the vectors
abbrev pub odd_written_at : Step → ℕ → Chip → Chip
odd_written_at Ready v c = record c { imr = v }
odd_written_at (AwaitsIcw2 icw3 icw4) v c = record c { base = bit_and v 0xF8; step = after_icw2 icw3 icw4 }
odd_written_at (AwaitsIcw3 icw4) v c = record c { step = after_icw2 false icw4 }
odd_written_at AwaitsIcw4 v c = record c { step = Ready }

abbrev pub odd_written : ℕ → Chip → Chip
odd_written v c = odd_written_at c.step v c

-- what a read of the even port gives
abbrev pub register_of : ReadChoice → Bool → Chip → ℕ
register_of Irr cascade c = standing cascade c
register_of Isr cascade c = c.isr

abbrev pub even_read : Bool → Chip → ℕ
even_read cascade c = register_of c.read_choice cascade c

-- a chip before its initialisation: every line is masked
abbrev pub new_chip : Chip
new_chip = record { irr = 0; isr = 0; imr = 0xFF; base = 0; step = Ready; read_choice = Irr }
