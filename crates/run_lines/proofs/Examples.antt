-- What small lists of lines say, by computation.
use Rattle.std.proofs.Common.{◌≡◌, ℕ, true, false, refl, List, [], ◌∷◌, Some, pos, negsuc}
use Rattle.line_sets.specs.LineSet.{with_line, without_line}
use Rattle.line_kinds.specs.declared.kinds.FaultKind.TheVariants.{Divide}
use Rattle.line_kinds.specs.declared.kinds.GLine.TheVariants.{Com1, Put, Get}
use Rattle.line_kinds.specs.declared.kinds.RLine.{RLine}
use Rattle.line_kinds.specs.declared.kinds.RLine.TheVariants.{On, Gate, Fault, Reply}
use Rattle.line_kinds.specs.declared.kinds.Who.TheVariants.{Guest, Thread, Irq}
use Rattle.line_kinds.specs.Calls.{PutCall, GetCall}
use Rattle.run_lines.specs.Calls.{calls_of, call_at}
use Rattle.gate_table.specs.Names.{gate_of}
use Rattle.run_lines.specs.Says.{holder, held, pended, reply_in, is_timer_tick, asks}
use Rattle.run_lines.specs.Ticks.{lines_to}

-- thread 2 is picked at tick 2, and the guest again at tick 4
picks : List (ℕ × RLine)
picks = (1, On Guest) ∷ (2, On (Thread 2)) ∷ (4, On Guest) ∷ []

thread_holds_after_3 : holder 3 picks ≡ Some (Thread 2)
unfolding holder picks
thread_holds_after_3 = refl

guest_holds_after_4 : holder 4 picks ≡ Some Guest
unfolding holder picks
guest_holds_after_4 = refl

-- line 5 is asked for, line 7 is refused, and line 5 is given back by function 19
requests : List (ℕ × RLine)
requests = (1, Gate 18 (5 ∷ 4096 ∷ 0 ∷ 0 ∷ []) (pos 0)) ∷ (2, Gate 18 (7 ∷ 4096 ∷ 0 ∷ 0 ∷ []) (negsuc 15)) ∷ (3, Gate 19 (5 ∷ 0 ∷ 0 ∷ 0 ∷ []) (pos 0)) ∷ []

line_5_is_held : held 2 requests ≡ 32
unfolding held gate_of with_line without_line requests
line_5_is_held = refl

line_5_is_free : held 3 requests ≡ 0
unfolding held gate_of with_line without_line requests
line_5_is_free = refl

-- a fault of its handler takes it away as well
fault_frees : held 2 ((1, Gate 18 (5 ∷ 4096 ∷ 0 ∷ 0 ∷ []) (pos 0)) ∷ (2, Fault (Irq 5) Divide) ∷ []) ≡ 0
unfolding held gate_of with_line without_line
fault_frees = refl

-- line 9 is marked, and line 1, which is refused, isn't
line_9_is_marked : pended (Gate 22 (9 ∷ 0 ∷ 0 ∷ 0 ∷ []) (pos 0) ∷ Gate 22 (1 ∷ 0 ∷ 0 ∷ 0 ∷ []) (negsuc 21) ∷ []) ≡ 512
unfolding gate_of with_line
line_9_is_marked = refl

first_reply_counts : reply_in (On Guest ∷ Reply (pos 2) (65 ∷ 66 ∷ []) ∷ Reply (pos 0) [] ∷ []) ≡ record { result = pos 2; bytes = 65 ∷ 66 ∷ [] }
first_reply_counts = refl

-- a timer that was set in tick 7 with period 10 comes in tick 17, and neither in tick 7 nor in tick 20
timer_comes : is_timer_tick 17 7 10 ≡ true
timer_comes = refl

timer_is_not_early : is_timer_tick 7 7 10 ≡ false
timer_is_not_early = refl

timer_counts_from_its_start : is_timer_tick 20 7 10 ≡ false
timer_counts_from_its_start = refl

-- of lines 5 and 6 the script's line 6 is asked, as a module holds line 5, and line 0 of the timer
asked_of_the_guest : asks 17 32 (5 ∷ 6 ∷ []) 7 10 ≡ 65
unfolding with_line
asked_of_the_guest = refl

calls : calls_of ((1, Com1 65) ∷ (2, Put 3 (65 ∷ [])) ∷ (5, Get 3 16) ∷ []) ≡ (2, PutCall 3 (65 ∷ [])) ∷ (5, GetCall 3 16) ∷ []
calls = refl

call_of_tick_5 : call_at 5 ((2, PutCall 3 (65 ∷ [])) ∷ (5, GetCall 3 16) ∷ []) ≡ Some (GetCall 3 16)
call_of_tick_5 = refl

ticks_in_order : lines_to (λ k. k ∷ k ∷ []) 2 ≡ (1, 0) ∷ (1, 0) ∷ (2, 1) ∷ (2, 1) ∷ []
unfolding lines_to
ticks_in_order = refl
