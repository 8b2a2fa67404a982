-- Calls of the guest on FIFOs, and what their replies leave.
use Rattle.std.specs.Prelude.{ℕ, ◌≤◌, ◌≡◌, true, List, take, ℤ}
use Rattle.std.specs.Int.{cast_unsigned, w32}
use Rattle.memory_model.specs.Side.{Side, covers, stored}
use Rattle.cpu_state.specs.Registers.{with_eax}
use Rattle.cpu_state.specs.declared.registers.Registers.{Registers}
use Rattle.rt_constants.specs.declared.limits.TheConstants.{BYTES_LIMIT}
use Rattle.line_kinds.specs.Calls.{Call, PutCall, GetCall}
use Rattle.soft_gates.specs.declared.calls.Call.{Call as HeldCall}
use Rattle.soft_gates.specs.declared.calls.Call.TheVariants.{Put, Get}

-- the call that is held, and the place of a get's bytes
abbrev pub call_of : HeldCall → Call
call_of (Put put) = PutCall put.fifo (take put.length put.bytes)
call_of (Get get) = GetCall get.fifo get.count

abbrev pub place_of : HeldCall → ℕ
place_of (Put put) = 0
place_of (Get get) = get.place

-- at most 256 bytes are put or asked for, and those asked for go to a range of the side
abbrev pub IsBounded : Side → HeldCall → Type 0
IsBounded side (Put put) = put.length ≤ BYTES_LIMIT
IsBounded side (Get get) = (get.count ≤ BYTES_LIMIT) × (covers side get.place get.count ≡ true)

-- a reply with so many bytes can be taken: a get's are at most as many as were asked for, and go to a range of the side; a put has none
abbrev pub TakesReply : Side → ℕ → HeldCall → Type 0
TakesReply side n (Put put) = n ≡ 0
TakesReply side n (Get get) = (n ≤ get.count) × (covers side get.place get.count ≡ true)

abbrev pub with_result : ℤ → Registers → Registers
with_result result r = with_eax (cast_unsigned w32 result) r

-- what a reply leaves: its result in EAX, and the bytes of a get, at most as many as were asked for, at its place
pub record Replied : Type 0 where
  pub registers : Registers
  pub side : Side

abbrev pub replied : Call → ℕ → ℤ → List ℕ → Registers → Side → Replied
replied (PutCall fifo put) place result bytes r side = record { registers = with_result result r; side = side }
replied (GetCall fifo count) place result bytes r side = record { registers = with_result result r; side = stored side place (take count bytes) }
