-- The three counters of an 8254 and its four ports.
use Rattle.std.specs.Prelude.{ℕ, ◌/◌, Bool, ◌&&◌, ◌==◌, nat_le, if◌then◌else◌, List, [], ◌∷◌}
use Rattle.pit_8254.specs.declared.counter.Counter.{Counter}
use Rattle.pit_8254.specs.Counter.{new_counter, controlled, byte_written, byte_read, after_read, pulsed, out_of}

pub record Timer : Type 0 where
  pub counter0 : Counter
  pub counter1 : Counter
  pub counter2 : Counter

-- before the first control word
abbrev pub new_timer : Timer
new_timer = record { counter0 = new_counter; counter1 = new_counter; counter2 = new_counter }

-- is it one of the ports 40h to 43h?
abbrev pub is_port : ℕ → Bool
is_port port = nat_le 0x40 port && nat_le port 0x43

-- a control word, of which SC1 and SC0, bits 7 and 6, name the counter; 3 is the read-back command, which is ignored
abbrev pub control_written : ℕ → Timer → Timer
control_written v t =
    if v / 64 == 0 then record t { counter0 = controlled v t.counter0 }
    else if v / 64 == 1 then record t { counter1 = controlled v t.counter1 }
    else if v / 64 == 2 then record t { counter2 = controlled v t.counter2 }
    else t

-- a write to one of the four ports
abbrev pub written : ℕ → ℕ → Timer → Timer
written port v t =
    if port == 0x40 then record t { counter0 = byte_written v t.counter0 }
    else if port == 0x41 then record t { counter1 = byte_written v t.counter1 }
    else if port == 0x42 then record t { counter2 = byte_written v t.counter2 }
    else control_written v t

-- what a read of one of the four ports gives; the control word can't be read
abbrev pub read_of : ℕ → Timer → ℕ
read_of port t =
    if port == 0x40 then byte_read t.counter0
    else if port == 0x41 then byte_read t.counter1
    else if port == 0x42 then byte_read t.counter2
    else 0xFF

-- the timer after that read
abbrev pub after_read_of : ℕ → Timer → Timer
after_read_of port t =
    if port == 0x40 then record t { counter0 = after_read t.counter0 }
    else if port == 0x41 then record t { counter1 = after_read t.counter1 }
    else if port == 0x42 then record t { counter2 = after_read t.counter2 }
    else t

-- one CLK pulse, which reaches all three counters
abbrev pub all_pulsed : Timer → Timer
all_pulsed t = record { counter0 = pulsed t.counter0; counter1 = pulsed t.counter1; counter2 = pulsed t.counter2 }

-- the levels of the three OUTs
abbrev pub outs : Timer → List Bool
outs t = out_of t.counter0 ∷ out_of t.counter1 ∷ out_of t.counter2 ∷ []
