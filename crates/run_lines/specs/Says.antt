-- What the real-time lines say: who holds the processor, which lines modules hold, which they mark for the guest, and the answer
-- to the guest's call.
use Rattle.std.specs.Prelude.{ℕ, zero, suc, ◌-◌, ◌%◌, ◌==◌, nat_lt, Bool, true, false, ◌&&◌, ℤ, pos, negsuc, List, [], ◌∷◌, fold, slice_index, if◌then◌else◌, Option, Some, None}
use Rattle.line_sets.specs.LineSet.{has, with_line, without_line}
use Rattle.gate_table.specs.declared.names.GateName.{GateName}
use Rattle.gate_table.specs.declared.names.GateName.TheVariants.{RequestIrq, FreeIrq, PendIrq}
use Rattle.gate_table.specs.Names.{gate_of}
use Rattle.run_lines.specs.Ticks.{at_tick}
use Rattle.line_kinds.specs.declared.kinds.RLine.{RLine}
use Rattle.line_kinds.specs.declared.kinds.RLine.TheVariants.{On, Gate, Fault, Reply}
use Rattle.line_kinds.specs.declared.kinds.Who.{Who}
use Rattle.line_kinds.specs.declared.kinds.Who.TheVariants.{Guest, Irq}

-- EBX of a gate line
abbrev pub ebx_of : List ℕ → ℕ
ebx_of words = slice_index words 0

-- the holder: WHO of the last `on` line
abbrev pub held_by : Option Who → RLine → Option Who
held_by who (On next) = Some next
held_by who _ = who

-- the holder after tick t
unfoldable pub holder : ℕ → List (ℕ × RLine) → Option Who
holder zero r = None
holder (suc t) r = fold held_by (holder t r) (at_tick (suc t) r)

abbrev pub is_guest : Option Who → Bool
is_guest (Some Guest) = true
is_guest _ = false

-- the lines that modules hold, after a gate with result 0
abbrev pub after_line_gate : GateName → ℕ → ℕ → ℕ
after_line_gate RequestIrq line lines = with_line lines line
after_line_gate FreeIrq line lines = without_line lines line
after_line_gate _ line lines = lines

abbrev pub after_line_result : GateName → ℕ → ℕ → ℤ → ℕ
after_line_result gate line lines (pos zero) = after_line_gate gate line lines
after_line_result gate line lines (pos (suc n)) = lines
after_line_result gate line lines (negsuc n) = lines

-- and a fault of a line's handler takes it away
abbrev pub after_owner : ℕ → RLine → ℕ
after_owner lines (Gate f words result) = after_line_result (gate_of f) (ebx_of words) lines result
after_owner lines (Fault (Irq line) kind) = without_line lines line
after_owner lines _ = lines

-- the lines that modules hold after tick t
unfoldable pub held : ℕ → List (ℕ × RLine) → ℕ
held zero r = 0
held (suc t) r = fold after_owner (held t r) (at_tick (suc t) r)

-- the lines that a tick's gates mark for the guest
abbrev pub after_pend_gate : GateName → ℕ → ℕ → ℕ
after_pend_gate PendIrq line lines = with_line lines line
after_pend_gate _ line lines = lines

abbrev pub after_pend : ℕ → RLine → ℕ
after_pend lines (Gate f words (pos zero)) = after_pend_gate (gate_of f) (ebx_of words) lines
after_pend lines _ = lines

abbrev pub pended : List RLine → ℕ
pended lines = fold after_pend 0 lines

-- the answer to the guest's call
pub record Answer : Type 0 where
  pub result : ℤ
  pub bytes : List ℕ

-- the first reply of a tick; where there is none, 0 and no bytes
abbrev pub reply_in : List RLine → Answer
reply_in [] = record { result = pos 0; bytes = [] }
reply_in (Reply v bytes ∷ lines) = record { result = v; bytes = bytes }
reply_in (_ ∷ lines) = reply_in lines

-- what the real-time lines say to the guest in a tick
pub record Sight : Type 0 where
  pub holds : Bool
  pub lines_held : ℕ
  pub lines_pended : ℕ
  pub answer : Answer

-- from the holder and the lines held before a tick, and the tick's lines
abbrev pub sight_from : Option Who → ℕ → List RLine → Sight
sight_from who lines tick = record {
  holds = is_guest (fold held_by who tick);
  lines_held = lines;
  lines_pended = pended tick;
  answer = reply_in tick;
}

-- in the tick after t ticks
abbrev pub sight : ℕ → List (ℕ × RLine) → Sight
sight t r = sight_from (holder t r) (held t r) (at_tick (suc t) r)

-- a timer that was set at `start` comes at start + k * period, with k from 1
abbrev pub is_timer_tick : ℕ → ℕ → ℕ → Bool
is_timer_tick t start period = nat_lt 0 period && (nat_lt start t && (t - start) % period == 0)

-- the script's lines that no module holds
abbrev pub lines_asked : ℕ → List ℕ → ℕ
lines_asked lines [] = 0
lines_asked lines (n ∷ ns) = if has lines n then lines_asked lines ns else with_line (lines_asked lines ns) n

-- the lines that are asked of the guest in tick t: those, and its own timer's
abbrev pub asks : ℕ → ℕ → List ℕ → ℕ → ℕ → ℕ
asks t lines script start period =
    if is_timer_tick t start period then with_line (lines_asked lines script) 0 else lines_asked lines script
