-- The states of the definitions that a machine stands for: the bare machine's, the real-time side's and the hardware's.
use Rattle.std.specs.Prelude.{ℕ, if◌then◌else◌, Option}
use Rattle.line_sets.specs.LineSet.{with_line}
use Rattle.pic_8259.specs.Controllers.{latch_of}
use Rattle.port_map.specs.declared.com_port.ComPort.TheVariants.{Com1, Com2}
use Rattle.port_board.specs.Board.{serial_of}
use Rattle.rt_irqs.specs.Irqs.{Lines}
use Rattle.rt_ready.specs.Order.{arrivals}
use Rattle.hard_dispatch.specs.Sets.{asked_lines, marked_lines}
use Rattle.activity_contexts.specs.Contexts.{live_threads, guest_registers, activity_registers}
use Rattle.bare_machine.specs.State.{Bare}
use Rattle.priority_schedule.specs.State.{RealTime}
use Rattle.hardware_lines.specs.Hardware.{Hardware, Machines}
use Rattle.hardware_steps.specs.HardwareOf.{hardware_of}
use Rattle.schedule_steps.specs.Dues.{has_come}
use Rattle.machine_state.specs.Parts.{MachineParts, guest_side, real_side}

-- the lines that are asked of the guest at tick t: those that are marked for it; the latched ones that go to it, which are neither line 0
-- nor line 3 nor a held one; and line 0 where a due of its timer has come that wasn't acknowledged
abbrev pub asked_of : ℕ → ℕ → Lines → ℕ → Option ℕ → ℕ
asked_of t latch irqs pending due =
    if has_come t due then with_line (asked_lines latch irqs pending) 0 else asked_lines latch irqs pending

-- the bare machine: the guest's registers are the processor's where the guest is on, or else those that are kept
abbrev pub bare_of : MachineParts → Bare
bare_of m = record {
  registers = guest_registers m.processor.on m.processor.registers m.processor.kept;
  side = guest_side m.memory;
  com1 = serial_of Com1 m.board;
  soft = m.guest.soft;
  asked = asked_of m.ticks (latch_of m.board.pair) m.all.irqs m.guest.pending m.all.timeline.guest;
  timer_start = m.guest.timer_start;
  timer_period = m.guest.timer_period;
  mode = m.guest.mode;
}

-- the real-time side: a thread that is on has the processor's registers, and so has an init or handler; a latched line that a module
-- holds counts as marked
abbrev pub real_of : MachineParts → RealTime
real_of m = record {
  version = m.all.ready.version;
  side = real_side m.memory;
  modules = m.modules;
  threads = live_threads m.processor.on m.processor.registers m.all.threads;
  ready = arrivals m.all.ready.places;
  irqs = marked_lines (latch_of m.board.pair) m.all.irqs;
  fifos = m.all.fifos;
  com2 = serial_of Com2 m.board;
  registers = activity_registers m.processor.on m.processor.registers;
  on = m.processor.on;
}

-- the hardware: what the controllers have latched, and in which tick counter 0 rises
abbrev pub hardware_at : MachineParts → Hardware
hardware_at m = hardware_of m.ticks m.last m.board

-- both machines
abbrev pub machines_of : MachineParts → Machines
machines_of m = record { bare = bare_of m; real = real_of m }
