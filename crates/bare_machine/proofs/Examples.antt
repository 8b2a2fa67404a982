-- What a tick comes to where no instruction is decoded, by computation.
use Rattle.std.proofs.Common.{◌≡◌, ℕ, true, false, refl, [], ◌∷◌, Some, pos, negsuc}
use Rattle.cpu_state.specs.Registers.{eax, at_eip}
use Rattle.line_kinds.specs.declared.kinds.BreachKind.TheVariants.{Load, Store}
use Rattle.line_kinds.specs.declared.kinds.GLine.TheVariants.{Breach, Shutdown, Com1}
use Rattle.line_kinds.specs.declared.kinds.Mode.TheVariants.{Halted, Stopped}
use Rattle.line_sets.specs.LineSet.{union, minus, first_in}
use Rattle.soft_entry.specs.Entry.{entering}
use Rattle.memory_model.specs.Side.{first_outside}
use Rattle.line_kinds.specs.Calls.{PutCall, GetCall}
use Rattle.soft_gates.specs.Gate.{gated}
use Rattle.soft_gates.specs.Service.{service}
use Rattle.bare_machine.specs.State.{Bare, Done, Calls, first_state}
use Rattle.bare_machine.specs.Tick.{asked_also, com1_lines, guest_begins, prepared}
use Rattle.bare_machine.specs.Unit.{gate, guest_unit, after_reply}

-- a guest of four bytes that halted, of which line 5 is asked
asleep : Bare
asleep = record (first_state (record { bytes = 1 ∷ 2 ∷ 3 ∷ 4 ∷ []; entry = 0; size = 4 })) { mode = Halted; asked = 32 }

-- with the flag clear it sleeps on
sleeps : guest_unit 9 asleep ≡ Done asleep []
unfolding guest_unit asleep first_state
sleeps = refl

-- with the flag set and the line enabled it is entered, and where there is no table that is a shutdown, which leaves the line asked
listening : Bare
listening = record asleep { soft = record asleep.soft { flag = true; mask = 0 } }

shuts_down : guest_unit 9 listening ≡ Done (record listening { mode = Stopped }) (Shutdown 37 ∷ [])
unfolding guest_unit listening asleep first_state entering first_in minus
shuts_down = refl

-- but not with a shadow, nor where the line is masked
under_a_shadow : guest_unit 9 (record listening { soft = record listening.soft { shadow = true } }) ≡ Done (record listening { soft = record listening.soft { shadow = true } }) []
unfolding guest_unit listening asleep first_state
under_a_shadow = refl

masked : guest_unit 9 (record listening { soft = record listening.soft { mask = 32 } }) ≡ Done (record listening { soft = record listening.soft { mask = 32 } }) []
unfolding guest_unit listening asleep first_state first_in minus
masked = refl

-- a stopped guest does nothing, whatever is asked
stays_stopped : guest_unit 9 (record listening { mode = Stopped }) ≡ Done (record listening { mode = Stopped }) []
unfolding guest_unit listening asleep first_state
stays_stopped = refl

-- and one that isn't on the processor has no unit
waits : (t lines_held : ℕ) → guest_begins t [] false lines_held listening ≡ Done (prepared t [] lines_held listening) []
unfolding guest_begins
waits t lines_held = refl

more_is_asked : (asked_also 3 listening).asked ≡ 35
unfolding listening asleep first_state union
more_is_asked = refl

byte_has_its_line : com1_lines (Some 65) ≡ Com1 65 ∷ []
byte_has_its_line = refl

-- the guest calls a function in EAX of the gate F6h, with its arguments
calling : (function ecx edx ebx : ℕ) → Bare
calling function ecx edx ebx = record asleep { registers = record asleep.registers { general = function ∷ ecx ∷ edx ∷ ebx ∷ 0 ∷ 0 ∷ 0 ∷ 0 ∷ [] } }

-- and goes on at address 2
behind : Bare → Bare
behind b = record b { registers = at_eip 2 b.registers }

-- the timer of period 10 begins in tick 7, and one above a second isn't taken
set_in_tick_7 : gate 7 0xf6 2 (calling 3 0 0 10) ≡ Done (record (behind (calling 0 0 0 10)) { timer_start = 7; timer_period = 10 }) []
unfolding calling behind asleep first_state gated service
set_in_tick_7 = refl

period_is_bounded : gate 7 0xf6 2 (calling 3 0 0 1000000001) ≡ Done (behind (calling 0xffffffea 0 0 1000000001)) []
unfolding calling behind asleep first_state gated service
period_is_bounded = refl

-- a put of bytes 2 and 3; of none, which has no access; of more than 256; and of bytes outside, which leaves what was there before
two_bytes_put : gate 9 0xf6 2 (calling 4 1 2 6) ≡ Calls (PutCall 6 (2 ∷ 3 ∷ [])) 0 (behind (calling 4 1 2 6))
unfolding calling behind asleep first_state first_outside gated service
two_bytes_put = refl

nothing_put : gate 9 0xf6 2 (calling 4 4 0 6) ≡ Calls (PutCall 6 []) 0 (behind (calling 4 4 0 6))
unfolding calling behind asleep first_state first_outside gated service
nothing_put = refl

put_is_bounded : gate 9 0xf6 2 (calling 4 4 257 6) ≡ Done (behind (calling 0xffffffea 4 257 6)) []
unfolding calling behind asleep first_state gated service
put_is_bounded = refl

put_outside : gate 9 0xf6 2 (calling 4 3 2 6) ≡ Done (record (calling 4 3 2 6) { mode = Stopped }) (Breach (Load 4) ∷ [])
unfolding calling asleep first_state first_outside gated service
put_outside = refl

-- a get of at most two bytes to address 1, and its reply
two_bytes_asked : gate 9 0xf6 2 (calling 5 1 2 6) ≡ Calls (GetCall 6 2) 1 (behind (calling 5 1 2 6))
unfolding calling behind asleep first_state first_outside gated service
two_bytes_asked = refl

get_outside : gate 9 0xf6 2 (calling 5 4 1 6) ≡ Done (record (calling 5 4 1 6) { mode = Stopped }) (Breach (Store 4) ∷ [])
unfolding calling asleep first_state first_outside gated service
get_outside = refl

bytes_of_the_reply : (after_reply (GetCall 6 2) 1 (record { result = pos 2; bytes = 8 ∷ 9 ∷ 10 ∷ [] }) asleep).side.bytes ≡ 1 ∷ 8 ∷ 9 ∷ 4 ∷ []
unfolding asleep first_state
bytes_of_the_reply = refl

result_of_the_reply : eax (after_reply (PutCall 6 []) 0 (record { result = negsuc 10; bytes = [] }) asleep).registers ≡ 0xfffffff5
unfolding asleep first_state
result_of_the_reply = refl

-- function 6 gives the tick, and one that isn't defined is refused
tells_the_tick : gate 9 0xf6 2 (calling 6 0 0 0) ≡ Done (behind (calling 9 0 0 0)) []
unfolding calling behind asleep first_state gated service
tells_the_tick = refl

not_defined : gate 9 0xf6 2 (calling 7 0 0 0) ≡ Done (behind (calling 0xffffffea 0 0 0)) []
unfolding calling behind asleep first_state gated service
not_defined = refl
