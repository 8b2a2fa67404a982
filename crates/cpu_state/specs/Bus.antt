-- What a bus reaches: a side of memory with the devices of its owner, and the ports of that owner.
use Rattle.std.specs.Prelude.{ℕ, ◌+◌, ◌%◌, Bool, true, ◌&&◌, zero, suc, if◌then◌else◌, Option, Some, None}
use Rattle.memory_model.specs.Side.{Side}

pub record State (D : Type 0) : Type 0 where
  pub side : Side
  pub devices : D

-- which ports are the owner's; what a read of n bytes from a port on answers, and the devices after it; the devices
-- after a write of the low n bytes of a value
pub record Ports (D : Type 0) : Type 0 where
  pub mine : ℕ → Bool
  pub answer : D → ℕ → ℕ → ℕ
  pub after_in : D → ℕ → ℕ → D
  pub after_out : D → ℕ → ℕ → ℕ → D

-- whether the n ports from a port on, modulo 65,536, are all the owner's
abbrev pub all_mine : {D : Type 0} → Ports D → ℕ → ℕ → Bool
all_mine ports port zero = true
all_mine ports port (suc n) = ports.mine (port % 65536) && all_mine ports (port + 1) n

-- an access of n ports of which one is another owner's has no answer and changes nothing
abbrev pub port_answer : {D : Type 0} → Ports D → D → ℕ → ℕ → Option ℕ
port_answer ports devices port n = if all_mine ports port n then Some (ports.answer devices port n) else None

abbrev pub after_port_in : {D : Type 0} → Ports D → D → ℕ → ℕ → D
after_port_in ports devices port n = if all_mine ports port n then ports.after_in devices port n else devices

abbrev pub after_port_out : {D : Type 0} → Ports D → D → ℕ → ℕ → ℕ → D
after_port_out ports devices port n value = if all_mine ports port n then ports.after_out devices port n value else devices
