-- The 16550 serial port: its registers, the two lists of bytes that wait in its buffers, the shift register, and the timer of
-- the receive timeout (PC16550D data sheet, section 8).
use Rattle.std.specs.Prelude.{ℕ, ◌+◌, ◌-◌, ◌/◌, ◌%◌, Bool, true, false, not, ◌&&◌, ◌||◌, ◌==◌, nat_lt, nat_le, if◌then◌else◌, Option, Some, None, is_none, List, [], ◌∷◌, ◌++◌, length, drop, slice_index}
use Rattle.std.specs.Int.{bit_at}

-- received: what the receiver's buffer has; waiting: what the transmitter's buffer has; shifting: the byte that is being
-- sent, with shift_count ticks to go; receive_count: ticks until the receive timeout; transmitter_pending: the
-- transmitter's interrupt stands
pub record SerialPort : Type 0 where
  pub interrupt_enable : ℕ
  pub line_control : ℕ
  pub modem_control : ℕ
  pub scratch : ℕ
  pub divisor_low : ℕ
  pub divisor_high : ℕ
  pub fifos : Bool
  pub trigger : ℕ
  pub received : List ℕ
  pub waiting : List ℕ
  pub shifting : Option ℕ
  pub shift_count : ℕ
  pub receive_count : ℕ
  pub overrun : Bool
  pub timeout : Bool
  pub transmitter_pending : Bool

-- the port as it is made: all registers 0, which is a trigger of one byte, and nothing in the buffers
abbrev pub fresh_port : SerialPort
fresh_port = record {
  interrupt_enable = 0;
  line_control = 0;
  modem_control = 0;
  scratch = 0;
  divisor_low = 0;
  divisor_high = 0;
  fifos = false;
  trigger = 1;
  received = [];
  waiting = [];
  shifting = None;
  shift_count = 0;
  receive_count = 0;
  overrun = false;
  timeout = false;
  transmitter_pending = false;
}

-- bit n of a register
abbrev pub bit : ℕ → ℕ → Bool
bit register n = bit_at register n == 1

-- what a bit that may be set adds to a register
abbrev pub weight : Bool → ℕ → ℕ
weight set w = if set then w else 0

abbrev pub is_empty : List ℕ → Bool
is_empty [] = true
is_empty (b ∷ rest) = false

-- how many bytes a buffer holds
abbrev pub room_of : SerialPort → ℕ
room_of p = if p.fifos then 16 else 1

-- DLAB, bit 7 of LCR: the divisor's two bytes stand at offsets 0 and 1
abbrev pub divisor_latch : SerialPort → Bool
divisor_latch p = bit p.line_control 7

-- Interrupts: IER lets through the received data (bit 0), the transmitter (bit 1) and the line status (bit 2)

-- enough bytes were received: the trigger's number with FIFOs on, one with them off
abbrev pub receiver_asks : SerialPort → Bool
receiver_asks p = if p.fifos then nat_le p.trigger (length p.received) else not (is_empty p.received)

-- the low bits of IIR, by priority: line status, received data, timeout, transmitter, none
abbrev pub first_cause : Bool → Bool → Bool → Bool → ℕ
first_cause overrun data_ready timeout transmitter =
    if overrun then 0x06 else if data_ready then 0x04 else if timeout then 0x0C else if transmitter then 0x02 else 0x01

abbrev pub cause_of : SerialPort → ℕ
cause_of p =
    first_cause (bit p.interrupt_enable 2 && p.overrun) (bit p.interrupt_enable 0 && receiver_asks p) (bit p.interrupt_enable 0 && p.timeout)
    (bit p.interrupt_enable 1 && p.transmitter_pending)

-- the interrupt line is high while there is a cause and OUT2, bit 3 of MCR, is set
abbrev pub line_of : SerialPort → Bool
line_of p = not (cause_of p == 0x01) && bit p.modem_control 3

-- LSR: a byte waits to be read, one was lost (OE), the transmitter's buffer is empty (THRE), and its shift register too (TEMT)
abbrev pub line_status : SerialPort → ℕ
line_status p =
    weight (not (is_empty p.received)) 0x01 + weight p.overrun 0x02 + weight (is_empty p.waiting) 0x20
    + weight (is_empty p.waiting && is_none p.shifting) 0x40

-- Reads: RBR or DLL, IER or DLM, IIR with two more bits while the FIFOs are on, LCR, MCR, LSR, MSR, SCR

abbrev pub register_read : ℕ → SerialPort → ℕ
register_read offset p =
    if offset == 0 then (if divisor_latch p then p.divisor_low else slice_index p.received 0)
    else if offset == 1 then (if divisor_latch p then p.divisor_high else p.interrupt_enable)
    else if offset == 2 then cause_of p + weight p.fifos 0xC0
    else if offset == 3 then p.line_control
    else if offset == 4 then p.modem_control
    else if offset == 5 then line_status p
    else if offset == 6 then 0
    else p.scratch

-- a read of RBR takes the first byte, ends the timeout and starts its timer again
abbrev pub data_taken : SerialPort → SerialPort
data_taken p = record p { received = drop 1 p.received; timeout = false; receive_count = 128 }

-- a read of IIR ends the transmitter's interrupt where it names it, one of LSR clears OE, and no other changes anything
abbrev pub register_after_read : ℕ → SerialPort → SerialPort
register_after_read offset p =
    if offset == 0 then (if divisor_latch p then p else data_taken p)
    else if offset == 2 then (if cause_of p == 0x02 then record p { transmitter_pending = false } else p)
    else if offset == 5 then record p { overrun = false }
    else p

-- Writes: THR or DLL, IER or DLM, FCR, LCR, MCR and SCR; LSR and MSR take none

-- THR: the byte joins those that wait, with FIFOs off in place of the one before; a seventeenth is lost
abbrev pub sent : ℕ → SerialPort → SerialPort
sent v p = record p {
  waiting = if p.fifos then (if nat_lt (length p.waiting) 16 then p.waiting ++ (v ∷ []) else p.waiting) else v ∷ [];
  transmitter_pending = false;
}

-- IER: where bit 1 becomes set while no byte waits, the transmitter's interrupt stands at once
abbrev pub enabled : ℕ → SerialPort → SerialPort
enabled v p = record p {
  interrupt_enable = v % 16;
  transmitter_pending = p.transmitter_pending || (bit v 1 && (not (bit p.interrupt_enable 1) && is_empty p.waiting));
}

-- an emptied receiver has no timeout
abbrev pub receiver_emptied : Bool → SerialPort → SerialPort
receiver_emptied asked p = if asked then record p { received = []; timeout = false } else p

abbrev pub transmitter_emptied : Bool → SerialPort → SerialPort
transmitter_emptied asked p = if asked then record p { waiting = [] } else p

abbrev pub differ : Bool → Bool → Bool
differ a b = if a then not b else b

-- the receiver's trigger, bits 7 and 6 of FCR
abbrev pub trigger_of : ℕ → ℕ
trigger_of v = if v / 64 == 0 then 1 else if v / 64 == 1 then 4 else if v / 64 == 2 then 8 else 14

-- FCR: bit 0 turns the FIFOs on, and a change of it empties both; only where it is set, bits 1 and 2 empty the receiver and
-- the transmitter, and the trigger is set
abbrev pub fifo_controlled : ℕ → SerialPort → SerialPort
fifo_controlled v p =
    record (transmitter_emptied (differ (bit v 0) p.fifos || (bit v 0 && bit v 2)) (receiver_emptied (differ (bit v 0) p.fifos || (bit v 0 && bit v 1)) p)) {
      fifos = bit v 0;
      trigger = if bit v 0 then trigger_of v else p.trigger;
    }

abbrev pub register_written : ℕ → ℕ → SerialPort → SerialPort
register_written offset v p =
    if offset == 0 then (if divisor_latch p then record p { divisor_low = v } else sent v p)
    else if offset == 1 then (if divisor_latch p then record p { divisor_high = v } else enabled v p)
    else if offset == 2 then fifo_controlled v p
    else if offset == 3 then record p { line_control = v }
    else if offset == 4 then record p { modem_control = v % 16 }
    else if offset == 7 then record p { scratch = v }
    else p

-- Bytes and time

-- a byte comes in: where the buffer is full, OE is set and the byte is lost with FIFOs on, takes the other's place with them off
abbrev pub byte_received : ℕ → SerialPort → SerialPort
byte_received v p =
    if nat_lt (length p.received) (room_of p) then record p { received = p.received ++ (v ∷ []); receive_count = 128 }
    else record p { received = if p.fifos then p.received else v ∷ []; overrun = true; receive_count = 128 }

-- the byte that leaves the shift register in a tick, which is its last
abbrev pub leaving : Option ℕ → ℕ → Option ℕ
leaving None count = None
leaving (Some b) count = if nat_le count 1 then Some b else None

abbrev pub leaves : SerialPort → Option ℕ
leaves p = leaving p.shifting p.shift_count

abbrev pub shifted_on : Option ℕ → SerialPort → SerialPort
shifted_on None p = p
shifted_on (Some b) p = if nat_le p.shift_count 1 then record p { shifting = None; shift_count = 0 } else record p { shift_count = p.shift_count - 1 }

abbrev pub shifted : SerialPort → SerialPort
shifted p = shifted_on p.shifting p

-- an empty shift register takes the first byte that waits, for 32 ticks; where none is left, the transmitter's interrupt stands
abbrev pub first_loaded : Option ℕ → List ℕ → SerialPort → SerialPort
first_loaded None (b ∷ rest) p = record p { waiting = rest; shifting = Some b; shift_count = 32; transmitter_pending = p.transmitter_pending || is_empty rest }
first_loaded shifting waiting p = p

abbrev pub loaded : SerialPort → SerialPort
loaded p = first_loaded p.shifting p.waiting p

-- with FIFOs on and a byte to be read the receive timer counts down, and sets the timeout at 0
abbrev pub timed : SerialPort → SerialPort
timed p =
    if p.fifos && not (is_empty p.received) then record p { receive_count = p.receive_count - 1; timeout = p.timeout || nat_le p.receive_count 1 }
    else p

-- one tick: the shift register, then the transmitter's buffer, then the receive timer
abbrev pub ticked : SerialPort → SerialPort
ticked p = timed (loaded (shifted p))
