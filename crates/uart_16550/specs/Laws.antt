-- What holds of a serial port over several steps: the order of its bytes, and the time that a byte takes.
use Rattle.std.specs.Prelude.{◌≡◌, ℕ, zero, suc, ◌≤◌, ◌==◌, Bool, true, false, not, nat_lt, if◌then◌else◌, Option, Some, None, List, [], ◌∷◌, ◌++◌, length}
use Rattle.uart_16550.specs.SerialPort.{SerialPort, is_empty, room_of, divisor_latch, register_read, register_after_read, register_written, byte_received, ticked, leaves}

-- What may happen to a port: a write of THR, a read of RBR, a byte that comes in, a tick

pub data Act : Type 0 where
  Write : ℕ → Act
  Read : Act
  Receive : ℕ → Act
  Tick : Act

abbrev pub done : Act → SerialPort → SerialPort
done (Write v) p = register_written 0 v p
done Read p = register_after_read 0 p
done (Receive v) p = byte_received v p
done Tick p = ticked p

abbrev pub all_done : List Act → SerialPort → SerialPort
all_done [] p = p
all_done (a ∷ acts) p = all_done acts (done a p)

-- there is room for the byte, or a byte to be read
abbrev pub fits : Act → SerialPort → Bool
fits (Write v) p = nat_lt (length p.waiting) (room_of p)
fits Read p = not (is_empty p.received)
fits (Receive v) p = nat_lt (length p.received) (room_of p)
fits Tick p = true

abbrev pub AllFit : List Act → SerialPort → Type 0
AllFit [] p = Unit {0}
AllFit (a ∷ acts) p = (fits a p ≡ true) × AllFit acts (done a p)

-- The bytes of an act, and of acts in their order

abbrev pub listed : Option ℕ → List ℕ
listed None = []
listed (Some byte) = byte ∷ []

-- written to THR
abbrev pub written_by : Act → List ℕ
written_by (Write v) = v ∷ []
written_by Read = []
written_by (Receive v) = []
written_by Tick = []

abbrev pub all_written : List Act → List ℕ
all_written [] = []
all_written (a ∷ acts) = written_by a ++ all_written acts

-- come in
abbrev pub received_by : Act → List ℕ
received_by (Write v) = []
received_by Read = []
received_by (Receive v) = v ∷ []
received_by Tick = []

abbrev pub all_received : List Act → List ℕ
all_received [] = []
all_received (a ∷ acts) = received_by a ++ all_received acts

-- that leave
abbrev pub left_by : Act → SerialPort → List ℕ
left_by (Write v) p = []
left_by Read p = []
left_by (Receive v) p = []
left_by Tick p = listed (leaves p)

abbrev pub all_left : List Act → SerialPort → List ℕ
all_left [] p = []
all_left (a ∷ acts) p = left_by a p ++ all_left acts (done a p)

-- that are read
abbrev pub read_by : Act → SerialPort → List ℕ
read_by (Write v) p = []
read_by Read p = register_read 0 p ∷ []
read_by (Receive v) p = []
read_by Tick p = []

abbrev pub all_read : List Act → SerialPort → List ℕ
all_read [] p = []
all_read (a ∷ acts) p = read_by a p ++ all_read acts (done a p)

-- what the transmitter holds: the byte in its shift register, and those behind it
abbrev pub transmitting : SerialPort → List ℕ
transmitting p = listed p.shifting ++ p.waiting

-- bytes leave in the order in which they were written, and are read in the order in which they came in: what left and what is still
-- held is what was held and what was written
pub record IsInOrder (acts : List Act) (p : SerialPort) : Type 0 where
  pub sent : all_left acts p ++ transmitting (all_done acts p) ≡ transmitting p ++ all_written acts
  pub read : all_read acts p ++ (all_done acts p).received ≡ p.received ++ all_received acts

abbrev pub KeepsOrder : Type 0
KeepsOrder = (acts : List Act) (p : SerialPort) → divisor_latch p ≡ false → AllFit acts p → IsInOrder acts p

-- some ticks
abbrev pub ticks : ℕ → SerialPort → SerialPort
ticks zero p = p
ticks (suc k) p = ticked (ticks k p)

-- a byte that is written to a port that sends nothing leaves in the 33rd tick: the first loads it into the shift register
abbrev pub SendsIn33Ticks : Type 0
SendsIn33Ticks =
    (v : ℕ) (p : SerialPort) → divisor_latch p ≡ false → p.waiting ≡ [] → p.shifting ≡ None
    → (k : ℕ) → k ≤ 32 → leaves (ticks k (register_written 0 v p)) ≡ (if k == 32 then Some v else None)
