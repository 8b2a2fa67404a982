-- When a machine stands for a state of the bare machine, one of the real-time side and one of the hardware: seven points, each a field.
-- `who` is the last holder that the real-time lines so far name, and `lines_held` the lines that modules hold by them.
use Rattle.std.specs.Prelude.{◌≡◌, ◌⊎◌, ℕ, suc, Option, None}
use Rattle.line_sets.specs.LineSet.{has, union}
use Rattle.line_kinds.specs.declared.kinds.Who.{Who}
use Rattle.pic_8259.specs.Boot.{IsBooted}
use Rattle.pic_8259.specs.Controllers.{IsPair, latch_of}
use Rattle.port_map.specs.declared.com_port.ComPort.TheVariants.{Com1, Com2}
use Rattle.port_board.specs.Board.{serial_of}
use Rattle.port_board.specs.Left.{IsShot}
use Rattle.rt_irqs.specs.Irqs.{is_held}
use Rattle.rt_ready.specs.Order.{arrivals}
use Rattle.rt_threads.specs.Threads.{dues_of}
use Rattle.hard_dispatch.specs.Dispatch.{module_lines}
use Rattle.activity_contexts.specs.Contexts.{live_threads, guest_registers, activity_registers}
use Rattle.bare_machine.specs.State.{Bare}
use Rattle.priority_schedule.specs.State.{RealTime}
use Rattle.hardware_lines.specs.Hardware.{Hardware, guest_due}
use Rattle.hardware_lines.specs.Timely.{IsTimely}
use Rattle.hardware_steps.specs.HardwareOf.{rise_of}
use Rattle.machine_state.specs.Parts.{MachineParts, guest_side, real_side}
use Rattle.machine_state.specs.States.{asked_of}

-- the guest: its part of the memory, its registers, its serial port, its soft flags, its timer and its mode are the bare machine's
pub record HasGuest (m : MachineParts) (b : Bare) : Type 0 where
  pub side : b.side ≡ guest_side m.memory
  pub registers : b.registers ≡ guest_registers m.processor.on m.processor.registers m.processor.kept
  pub com1 : b.com1 ≡ serial_of Com1 m.board
  pub soft : b.soft ≡ m.guest.soft
  pub timer_start : b.timer_start ≡ m.guest.timer_start
  pub timer_period : b.timer_period ≡ m.guest.timer_period
  pub mode : b.mode ≡ m.guest.mode

-- the real-time lines so far say it: the lines that modules hold are theirs, and what is on, if anything is, is their last holder
pub record IsSaid (m : MachineParts) (who : Option Who) (lines_held : ℕ) : Type 0 where
  pub holds : (n : ℕ) → has lines_held n ≡ is_held m.all.irqs n
  pub holder : (m.processor.on ≡ None) ⊎ (m.processor.on ≡ who)

-- what is asked of the guest is what is marked for it, what is latched and its own, and line 0 where its due has come
pub record IsAsked (m : MachineParts) (who : Option Who) (lines_held : ℕ) (b : Bare) : Type 0 where
  pub asked : b.asked ≡ asked_of m.ticks (latch_of m.board.pair) m.all.irqs m.guest.pending m.all.timeline.guest
  pub said : IsSaid m who lines_held

-- the real-time side: its part of the same memory, the modules to start, the threads with their registers, their ready list, the held and
-- the soft lines, the FIFOs, its serial port, and what is on with the registers of an init or handler
pub record HasRealTime (m : MachineParts) (r : RealTime) : Type 0 where
  pub version : r.version ≡ m.all.ready.version
  pub side : r.side ≡ real_side m.memory
  pub modules : r.modules ≡ m.modules
  pub threads : r.threads ≡ live_threads m.processor.on m.processor.registers m.all.threads
  pub ready : r.ready ≡ arrivals m.all.ready.places
  pub entries : r.irqs.entries ≡ m.all.irqs.entries
  pub soft : r.irqs.soft ≡ m.all.irqs.soft
  pub fifos : r.fifos ≡ m.all.fifos
  pub com2 : r.com2 ≡ serial_of Com2 m.board
  pub registers : r.registers ≡ activity_registers m.processor.on m.processor.registers
  pub on : r.on ≡ m.processor.on

-- the pair of controllers is as it was booted: no line is masked, the bases are 20h and 28h, none is in service, and what is latched is the
-- hardware's
pub record HasPair (m : MachineParts) (h : Hardware) : Type 0 where
  pub booted : IsBooted m.board.pair
  pub pair : IsPair m.board.pair
  pub latch : h.latch ≡ latch_of m.board.pair

-- counter 0 is in mode 0 and so many ticks, of two pulses each, from its rise; or it doesn't rise until it is set
pub record HasShot (m : MachineParts) (h : Hardware) : Type 0 where
  pub shot : IsShot m.board
  pub rise : h.rise ≡ rise_of m.ticks m.board

-- the dues are those of the waiting threads and of the guest's timer, and the one-shot serves the nearest one: line 0 is latched, or it
-- rises at most at the greater of the due and the next tick
pub record HasDues (m : MachineParts) (b : Bare) (r : RealTime) (h : Hardware) : Type 0 where
  pub threads : m.all.timeline.threads ≡ dues_of r.threads
  pub guest : m.all.timeline.guest ≡ guest_due h.last b
  pub timely : IsTimely m.ticks (suc m.ticks) h (record { bare = b; real = r })

pub record StandsFor (m : MachineParts) (who : Option Who) (lines_held : ℕ) (b : Bare) (r : RealTime) (h : Hardware) : Type 0 where
  -- 1. The guest's part of the machine is the bare machine's.
  pub guest : HasGuest m b
  -- 2. What is asked of the bare machine is what the executive owes the guest.
  pub asked : IsAsked m who lines_held b
  -- 3. The real-time part of the machine is the real-time side's.
  pub real_time : HasRealTime m r
  -- 4. The marked lines of modules are those that are marked and those that are latched and held.
  pub marked : r.irqs.marked ≡ union m.all.irqs.marked (module_lines (latch_of m.board.pair) m.all.irqs)
  -- 5. The controllers have latched what the hardware has.
  pub pair : HasPair m h
  -- 6. The one-shot rises when the hardware's does.
  pub shot : HasShot m h
  -- 7. The dues are those of both machines, and the one-shot comes in time.
  pub dues : HasDues m b r h
