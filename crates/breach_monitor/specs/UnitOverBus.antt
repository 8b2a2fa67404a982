-- What an owner's unit over a bus does to all that it reaches: one record for both owners.
use Rattle.std.specs.Prelude.{◌≡◌, ◌≢◌, ◌≤◌, ℕ, List, length}
use Rattle.cpu_state.specs.Bus.{State}
use Rattle.cpu_state.specs.declared.registers.Privileged.{Privileged}
use Rattle.cpu_state.specs.declared.registers.Registers.{Registers}
use Rattle.i386_effects.specs.Effect.{EffectOf}
use Rattle.pic_8259.specs.Controllers.{IsPair}
use Rattle.port_board.specs.Board.{ports_of, IsSampled}
use Rattle.port_board.specs.declared.board.Board.{Board}
use Rattle.port_map.specs.declared.owner.Owner.TheVariants.{Guest, RealTime}
use Rattle.breach_monitor.specs.Bus.{bus_state}
use Rattle.breach_monitor.specs.GuestUnit.{guest, first_gate, last_gate}
use Rattle.breach_monitor.specs.RealTimeUnit.{real_time_outcome, on_flag, privileged_use}
use Rattle.breach_monitor.specs.declared.buses.OwnerBus.{OwnerBus}
use Rattle.breach_monitor.specs.declared.guest.GuestUnit.{GuestUnit}
use Rattle.breach_monitor.specs.declared.guest.GuestUnit.TheVariants as guest_unit
use Rattle.breach_monitor.specs.declared.real_time.RealTimeUnit.{RealTimeUnit}
use Rattle.breach_monitor.specs.declared.real_time.RealTimeUnit.TheVariants as real_time_unit

-- registers, bytes of which the first stands at an address, and the board
pub record Reached : Type 0 where
  pub registers : Registers
  pub first : ℕ
  pub bytes : List ℕ
  pub board : Board

abbrev pub over : Registers → ℕ → List ℕ → Board → Reached
over registers first bytes board = record { registers = registers; first = first; bytes = bytes; board = board }

-- registers and what a bus lends
abbrev pub over_bus : {O : Type 0} → Registers → OwnerBus O → Reached
over_bus registers bus = over registers bus.first bus.bytes.now bus.board.now

abbrev pub state_of : Reached → State Board
state_of r = bus_state r.first r.bytes r.board

-- a bus still lends the bytes and the board that it lent before
pub record SameLoans {O : Type 0} (before after : OwnerBus O) : Type 0 where
  pub bytes : after.bytes.ghost_name ≡ before.bytes.ghost_name
  pub board : after.board.ghost_name ≡ before.board.ghost_name

-- a unit that came to this answer meets this effect
pub record MeetsEffect {A : Type 0} (next came : A) (effect : EffectOf A Board) (before after : Reached) : Type 0 where
  pub answer : came ≡ effect.answer
  pub registers : after.registers ≡ effect.registers
  pub state : state_of after ≡ effect.bus
  -- nothing but a performed unit changes anything
  pub unchanged : came ≢ next
      → (after.registers ≡ before.registers) × (after.bytes ≡ before.bytes) × (after.board ≡ before.board)
  -- no unit moves the side or changes its size
  pub place : after.first ≡ before.first
  pub size : length after.bytes ≡ length before.bytes
  -- what is true of every board between two calls stays true
  pub sampled : IsSampled before.board → IsSampled after.board
  pub pair : IsPair before.board.pair → IsPair after.board.pair

-- a unit of the guest, and the numbers of the gates that it may come to
abbrev pub IsGuestUnit : GuestUnit → Reached → Reached → Type 0
IsGuestUnit answer before after =
    let effect = guest (ports_of Guest) before.registers (state_of before) in
    MeetsEffect guest_unit.Next answer effect before after

abbrev pub HasSoftGate : GuestUnit → Type 0
HasSoftGate answer =
    (number next : ℕ) → answer ≡ guest_unit.Gate number next → (first_gate ≤ number) × (number ≤ last_gate)

-- a unit of a real-time activity
abbrev pub IsRealTimeUnit : RealTimeUnit → Reached → Reached → Type 0
IsRealTimeUnit answer before after =
    let effect = real_time_outcome (ports_of RealTime) before.registers (state_of before) in
    MeetsEffect real_time_unit.Next answer effect before after

-- one whose instruction, of so many bytes, is on the registers' own interrupt flag
abbrev pub IsFlagUse : Privileged → ℕ → RealTimeUnit → Reached → Reached → Type 0
IsFlagUse kind n answer before after =
    let effect = on_flag (ports_of RealTime) kind n before.registers (state_of before) in
    MeetsEffect real_time_unit.Next answer effect before after

-- one whose instruction, of so many bytes, is on the hard interrupt flag, or HLT
abbrev pub IsPrivilegedUse : Privileged → ℕ → RealTimeUnit → Reached → Reached → Type 0
IsPrivilegedUse kind n answer before after =
    let effect = privileged_use (ports_of RealTime) kind n before.registers (state_of before) in
    MeetsEffect real_time_unit.Next answer effect before after
