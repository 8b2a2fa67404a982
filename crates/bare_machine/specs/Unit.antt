-- The guest's unit of one tick is `guest_unit`, near the end of this page: a stopped guest does nothing; else a line that is asked and
-- may be entered is (`asked_entry`); else a halted guest does nothing; else one instruction is performed (`instruction`). That comes to
-- the next one, to the entry of a trap or an interrupt (`int_entry`), to a gate (`gate`) or to a breach (`breached`). These stand before
-- it, each behind its parts; behind it stand the lines of a unit and what it leaves.
use Rattle.std.specs.Prelude.{ℕ, ◌+◌, false, [], ◌∷◌, List, if◌then◌else◌, Option, Some, None}
use Rattle.cpu_state.specs.declared.registers.Access.{Access}
use Rattle.cpu_state.specs.declared.registers.Access.TheVariants.{Load as Loading, Store as Storing, Fetch as Fetching}
use Rattle.cpu_state.specs.declared.registers.Privileged.{Privileged as PrivilegedUse}
use Rattle.cpu_state.specs.declared.registers.Privileged.TheVariants.{Cli as CliUse, Sti as StiUse, Iret as IretUse, Pushf as PushfUse, Popf as PopfUse, Hlt as HltUse}
use Rattle.i386_effects.specs.Effect.{Effect}
use Rattle.i386_execute.specs.Unit.{address_behind}
use Rattle.breach_monitor.specs.GuestUnit.{answer_to}
use Rattle.breach_monitor.specs.declared.guest.Breach.{Breach as BreachOf}
use Rattle.breach_monitor.specs.declared.guest.Breach.TheVariants.{Privileged, Int as IntOf, Port as PortOf, Outside}
use Rattle.breach_monitor.specs.declared.guest.GuestUnit.{GuestUnit}
use Rattle.breach_monitor.specs.declared.guest.GuestUnit.TheVariants.{Next, Enter as Enters, Gate, Breach as Breaches}
use Rattle.soft_flags.specs.SoftFlags.{is_open}
use Rattle.soft_entry.specs.Entry.{Entering, entering}
use Rattle.soft_entry.specs.declared.entry.Entry.{Entry}
use Rattle.soft_entry.specs.declared.entry.Entry.TheVariants.{Entered, Shutdown, Outside as OutsideEntry}
use Rattle.soft_gates.specs.Gate.{Gated, gated}
use Rattle.soft_gates.specs.Calls.{replied}
use Rattle.soft_gates.specs.Outcome.{GateOutcome, Finishes, Halts, SetsTimer, MakesCall, AccessOutside}
use Rattle.line_kinds.specs.Calls.{Call, PutCall, GetCall}
use Rattle.line_kinds.specs.declared.kinds.BreachKind.{BreachKind}
use Rattle.line_kinds.specs.declared.kinds.BreachKind.TheVariants.{Cli, Sti, Iret, Pushf, Popf, Hlt, Int, Port, Fetch, Load, Store}
use Rattle.line_kinds.specs.declared.kinds.GLine.{GLine}
use Rattle.line_kinds.specs.declared.kinds.GLine.TheVariants.{Enter, Int as IntLine, Halt, Shutdown as ShutdownLine, Breach as BreachLine, Put, Get}
use Rattle.line_kinds.specs.declared.kinds.Mode.TheVariants.{Runs, Halted, Stopped}
use Rattle.line_sets.specs.LineSet.{with_line, without_line}
use Rattle.pending_irqs.specs.Pending.{lowest_enabled}
use Rattle.port_map.specs.Serial.{Serial, rose}
use Rattle.port_map.specs.declared.com_port.ComPort.TheVariants.{Com1}
use Rattle.breach_monitor.specs.SerialUnit.{unit_at}
use Rattle.run_lines.specs.Says.{Answer}
use Rattle.bare_machine.specs.State.{Bare, UnitOutcome, Done, Calls, is_stopped, is_halted}

abbrev pub use_kind : PrivilegedUse → BreachKind
use_kind CliUse = Cli
use_kind StiUse = Sti
use_kind IretUse = Iret
use_kind PushfUse = Pushf
use_kind PopfUse = Popf
use_kind HltUse = Hlt

abbrev pub access_kind : Access → ℕ → BreachKind
access_kind Loading at = Load at
access_kind Storing at = Store at
access_kind Fetching at = Fetch at

-- how a line shows a breach
abbrev pub breach_kind : BreachOf → BreachKind
breach_kind (Privileged kind) = use_kind kind
breach_kind (IntOf vector) = Int vector
breach_kind (PortOf port) = Port port
breach_kind (Outside access at) = access_kind access at

-- a breach prints its line and stops the guest for good. Nothing else of the unit changes
abbrev pub stopped : Bare → Bare
stopped b = record b { mode = Stopped }

abbrev pub breached : BreachKind → Bare → UnitOutcome
breached kind b = Done (stopped b) (BreachLine kind ∷ [])

-- an entry, with its line: where the vector has no present descriptor, the guest is stopped; where the frame lies outside, that is a
-- breach. `before` is the state that these leave
abbrev pub entry_outcome : GLine → ℕ → Bare → Bare → Entering → Entry → UnitOutcome
entry_outcome line vector before b e Entered =
    Done (record b { registers = e.registers; side = e.side; soft = e.flags; mode = Runs }) (line ∷ [])
entry_outcome line vector before b e Shutdown = Done (stopped before) (ShutdownLine vector ∷ [])
entry_outcome line vector before b e (OutsideEntry at) = breached (Store at) before

-- an asked line n is entered at EIP, and is asked no more
abbrev pub asked_entry : ℕ → Bare → UnitOutcome
asked_entry n b =
    let e = entering (32 + n) b.registers.eip b.registers b.soft b.side in
    entry_outcome (Enter (32 + n)) (32 + n) b (record b { asked = without_line b.asked n }) e e.entry

-- a trap pushes EIP, an interrupt the next EIP
abbrev pub int_entry : ℕ → ℕ → Bare → UnitOutcome
int_entry vector push b = let e = entering vector push b.registers b.soft b.side in entry_outcome (IntLine vector) vector b b e e.entry

-- a gate in tick t, by what it comes to: a timer's period begins in this tick; an access outside is a breach
abbrev pub after_gate : Gated → Bare → Bare
after_gate g b = record b { registers = g.registers; side = g.side; soft = g.flags }

abbrev pub gate_outcome : ℕ → Bare → Gated → GateOutcome → UnitOutcome
gate_outcome t b g Finishes = Done (after_gate g b) []
gate_outcome t b g Halts = Done (record (after_gate g b) { mode = Halted }) (Halt ∷ [])
gate_outcome t b g (SetsTimer period) = Done (record (after_gate g b) { timer_start = t; timer_period = period }) []
gate_outcome t b g (MakesCall call place) = Calls call place (after_gate g b)
gate_outcome t b g (AccessOutside access at) = breached (access_kind access at) b

abbrev pub gate : ℕ → ℕ → ℕ → Bare → UnitOutcome
gate t number next b = let g = gated number next t b.registers b.soft b.side in gate_outcome t b g g.came

-- COM1 after a unit or a device step; where its line rose, line 4 is asked
abbrev pub with_com1 : Serial → Bare → Bare
with_com1 port b = record b { com1 = port; asked = if rose b.com1 port then with_line b.asked 4 else b.asked }

-- an instruction that was performed, with which a shadow ends
abbrev pub after_instruction : Effect Serial → Bare → Bare
after_instruction e b = with_com1 e.bus.devices (record b { registers = e.registers; side = e.bus.side; soft = record b.soft { shadow = false } })

abbrev pub instruction_outcome : ℕ → Effect Serial → Bare → GuestUnit → UnitOutcome
instruction_outcome t e b Next = Done (after_instruction e b) []
instruction_outcome t e b (Enters vector push) = int_entry vector push b
instruction_outcome t e b (Gate number next) = gate t number next b
instruction_outcome t e b (Breaches breach) = breached (breach_kind breach) b

abbrev pub instruction : ℕ → Bare → UnitOutcome
instruction t b =
    let e = unit_at Com1 b.registers b.side b.com1 in
    instruction_outcome t e b (answer_to b.registers.eip (address_behind b.registers b.side) e.answer)

-- the lowest line that is asked and enabled, where it may be entered: the flag is set, and no shadow stands
abbrev pub line_to_enter : Bare → Option ℕ
line_to_enter b = if is_open b.soft then lowest_enabled b.asked b.soft.mask else None

-- what applies first: stopped; an entry of an asked line; halted; an instruction
abbrev pub unless_entered : ℕ → Bare → Option ℕ → UnitOutcome
unless_entered t b (Some n) = asked_entry n b
unless_entered t b None = if is_halted b.mode then Done b [] else instruction t b

-- the unit of tick t
unfoldable pub guest_unit : ℕ → Bare → UnitOutcome
guest_unit t b = if is_stopped b.mode then Done b [] else unless_entered t b (line_to_enter b)

-- its lines
abbrev pub call_line : Call → GLine
call_line (PutCall fifo bytes) = Put fifo bytes
call_line (GetCall fifo count) = Get fifo count

abbrev pub unit_lines : UnitOutcome → List GLine
unit_lines (Done after lines) = lines
unit_lines (Calls call place after) = call_line call ∷ []

-- what it leaves, once a call has its reply
abbrev pub after_reply : Call → ℕ → Answer → Bare → Bare
after_reply call place answer b =
    let left = replied call place answer.result answer.bytes b.registers b.side in
    record b { registers = left.registers; side = left.side }

abbrev pub unit_after : Answer → UnitOutcome → Bare
unit_after answer (Done after lines) = after
unit_after answer (Calls call place after) = after_reply call place answer after
