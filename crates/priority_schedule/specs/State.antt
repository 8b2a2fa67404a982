-- The state of the real-time side.
use Rattle.std.specs.Prelude.{ℕ, ◌+◌, false, List, [], ◌∷◌, replicate, Option, None}
use Rattle.memory_model.specs.Side.{Side}
use Rattle.cpu_state.specs.declared.registers.Registers.{Registers}
use Rattle.rt_irqs.specs.Irqs.{Lines, no_lines}
use Rattle.port_map.specs.Serial.{Serial}
use Rattle.line_kinds.specs.declared.kinds.Who.{Who}
use Rattle.cpu_state.specs.Registers.{starting}
use Rattle.port_map.specs.SerialLine.{new_serial}
use Rattle.rt_constants.specs.declared.limits.TheConstants.{THREADS_LIMIT, FIFOS_LIMIT}
use Rattle.rt_threads.specs.declared.threads.Thread.{Thread}
use Rattle.rt_ready.specs.Order.{Arrival}
use Rattle.rt_fifos.specs.Fifos.{Fifo}
use Rattle.gate_table.specs.Gates.{GateParts}

-- a module's number and the entry of its init
pub record Module : Type 0 where
  pub number : ℕ
  pub entry : ℕ

-- Which of two rules picks among equal priorities (the version, 1 or 2). A side of memory: the first address of the side is the word
-- that leads an activity to the stub, which stands there. The modules whose inits are still to start. Thread n at place n of 64. The
-- ready threads in order of arrival. The interrupt lines: those that modules hold with the entries of their handlers, those of them
-- that are marked to start, and the soft lines that are taken. FIFO n at place n of 64. COM2. The registers of the init or handler
-- that runs. What is on the processor, if anything is
pub record RealTime : Type 0 where
  pub version : ℕ
  pub side : Side
  pub modules : List Module
  pub threads : List (Option Thread)
  pub ready : List Arrival
  pub irqs : Lines
  pub fifos : List (Option Fifo)
  pub com2 : Serial
  pub registers : Registers
  pub on : Option Who

-- what the real-time side starts from: the version, its side with the stub and the modules placed on it, and the entries of their
-- inits
pub record RealTimeStart : Type 0 where
  pub version : ℕ
  pub side : Side
  pub inits : List ℕ

abbrev pub numbered : ℕ → List ℕ → List Module
numbered n [] = []
numbered n (entry ∷ entries) = record { number = n; entry = entry } ∷ numbered (n + 1) entries

-- the first state: no thread, no line, no FIFO, and nothing on
unfoldable pub first_state : RealTimeStart → RealTime
first_state start = record {
  version = start.version;
  side = start.side;
  modules = numbered 0 start.inits;
  threads = replicate THREADS_LIMIT None;
  ready = [];
  irqs = no_lines;
  fifos = replicate FIFOS_LIMIT None;
  com2 = new_serial;
  registers = starting 0 0 0 false;
  on = None;
}

-- What gates use of it, and what they leave

abbrev pub parts_of : RealTime → GateParts
parts_of m = record { threads = m.threads; ready = m.ready; irqs = m.irqs; fifos = m.fifos; side = m.side }

abbrev pub with_parts : GateParts → RealTime → RealTime
with_parts p m = record m { threads = p.threads; ready = p.ready; irqs = p.irqs; fifos = p.fifos; side = p.side }
