-- What a unit comes to, by another name, or where it begins; and a unit without a call, and with one.
use Rattle.std.proofs.Common.{◌≡◌, ℕ, false, List, [], ◌∷◌, ◌++◌, length, ap, sym, subst, refl, ◌∙◌, Option, Some, None}
use Rattle.std.proofs.lemmas.List.{append-nil}
use Rattle.std.specs.Prelude.{filter_map}
use Rattle.flat_memory.specs.Parts.{Parts}
use Rattle.cpu_state.specs.declared.registers.Registers.{Registers}
use Rattle.i386_execute.specs.Unit.{address_behind}
use Rattle.line_kinds.specs.Calls.{Call, PutCall, GetCall, call_in}
use Rattle.port_map.specs.Serial.{Serial}
use Rattle.port_map.specs.declared.com_port.ComPort.TheVariants.{Com1}
use Rattle.port_board.specs.declared.board.Board.{Board}
use Rattle.breach_monitor.specs.GuestUnit.{answer_to}
use Rattle.breach_monitor.specs.SerialUnit.{unit_at}
use Rattle.breach_monitor.specs.declared.guest.GuestUnit.{GuestUnit}
use Rattle.rt_fifos.specs.Fifos.{Fifo}
use Rattle.run_lines.specs.Calls.{first_of}
use Rattle.run_lines.specs.Says.{Answer, reply_in}
use Rattle.soft_flags.specs.SoftFlags.{HasTableIn}
use Rattle.trace_lines.specs.TickLines.{TickLines}
use Rattle.bare_machine.specs.State.{Bare, UnitOutcome, Calls}
use Rattle.bare_machine.specs.Unit.{after_reply, call_line, instruction, instruction_outcome, unit_after}
use Rattle.priority_schedule.specs.State.{RealTime}
use Rattle.priority_schedule.specs.Unit.{call_unit}
use Rattle.machine_state.specs.declared.guest.Guest.{Guest}
use Rattle.guest_step.specs.Leaves.{UnitParts, parts, bare_marked, bare_over, call_made, called, reply_to, Leaves, LeavesAlone, asked_after, com1_of}
use Rattle.guest_step.proofs.Boards.{none_asked}

-- what the real-time side does with a call, over its FIFOs alone
pub unit_called : (call : Option Call) (m : RealTime)
    → call_unit call m ≡ record { after = record m { fifos = (called call m.fifos).fifos }; lines = (called call m.fifos).lines; ended = false }
unfolding call_unit
unit_called None m = refl
unit_called (Some (PutCall fifo bytes)) m = refl
unit_called (Some (GetCall fifo count)) m = refl

-- a unit without a call leaves the FIFOs
pub leaves_alone : (came : UnitOutcome) (com1 : Serial) (asked : ℕ) (there after : List (Option Fifo)) (old new : UnitParts)
    → after ≡ there → LeavesAlone came com1 asked old new → Leaves came com1 asked there after old new
leaves_alone came com1 asked there after old new same l =
    let none : call_made came ≡ None = ap first_of l.no_call in
    record {
      outcome = ap (λ call. unit_after (reply_in (called call there).lines) came) none ∙ ap (unit_after (reply_in [])) l.outcome;
      guest_lines = l.guest_lines;
      real_lines = l.real_lines ∙ sym (append-nil old.lines.r) ∙ sym (ap (λ call. old.lines.r ++ (called call there).lines) none);
      fifos = same ∙ sym (ap (λ call. (called call there).fifos) none);
      table = l.table;
      size = l.size;
      real_time = l.real_time;
    }

-- the line of a call shows it
shown : (call : Call) → first_of (filter_map call_in (call_line call ∷ [])) ≡ Some call
shown (PutCall fifo bytes) = refl
shown (GetCall fifo count) = refl

abbrev pub answer_on : Call → List (Option Fifo) → Answer
answer_on call there = record { result = (reply_to call there).result; bytes = (reply_to call there).bytes }

-- a unit with a call, whose answer is taken
pub call_leaves : (came : UnitOutcome) (call : Call) (place : ℕ) (b : Bare) (com1 : Serial) (asked : ℕ) (there after : List (Option Fifo))
    (old new : UnitParts) → came ≡ Calls call place b → after_reply call place (answer_on call there) b ≡ bare_over new com1 asked
    → new.lines.g ≡ old.lines.g ++ call_line call ∷ [] → new.lines.r ≡ old.lines.r ++ (called (Some call) there).lines
    → after ≡ (called (Some call) there).fifos → HasTableIn new.guest.soft (length new.memory.guest)
    → length new.memory.guest ≡ length old.memory.guest → new.memory.real_time ≡ old.memory.real_time
    → Leaves came com1 asked there after old new
call_leaves came call place b com1 asked there after old new same replied g r fifos table size real_time =
    let made : call_made (Calls call place b) ≡ Some call = shown call in
    let l : Leaves (Calls call place b) com1 asked there after old new = record {
      outcome = ap (λ o. unit_after (reply_in (called o there).lines) (Calls call place b)) made ∙ replied;
      guest_lines = g;
      real_lines = r ∙ sym (ap (λ o. old.lines.r ++ (called o there).lines) made);
      fifos = fifos ∙ sym (ap (λ o. (called o there).fifos) made);
      table = table;
      size = size;
      real_time = real_time;
    } in
    subst (λ u. Leaves u com1 asked there after old new) (sym same) l

-- an outcome by another name
pub leaves_as : (named came : UnitOutcome) (com1 : Serial) (asked : ℕ) (there after : List (Option Fifo)) (old new : UnitParts)
    → named ≡ came → Leaves came com1 asked there after old new → Leaves named com1 asked there after old new
leaves_as named came com1 asked there after old new same l = subst (λ u. Leaves u com1 asked there after old new) (sym same) l

-- with a board that stays, no more is asked than is marked
pub leaves_there : (came : UnitOutcome) (b c : Board) (there after : List (Option Fifo)) (old new : UnitParts) → c ≡ b
    → Leaves came (com1_of b) new.guest.pending there after old new
    → Leaves came (com1_of c) (asked_after (com1_of b) (com1_of c) new.guest.pending) there after old new
leaves_there came b c there after old new same l =
    subst (λ x. Leaves came (com1_of x) (asked_after (com1_of b) (com1_of x) new.guest.pending) there after old new) (sym same)
    (subst (λ a. Leaves came (com1_of b) a there after old new) (sym (none_asked b new.guest.pending)) l)

-- an instruction, by its answer
pub instruction_by : (t : ℕ) (b : Bare) (unit : GuestUnit)
    → unit ≡ answer_to b.registers.eip (address_behind b.registers b.side) (unit_at Com1 b.registers b.side b.com1).answer
    → instruction t b ≡ instruction_outcome t (unit_at Com1 b.registers b.side b.com1) b unit
instruction_by t b unit same = ap (instruction_outcome t (unit_at Com1 b.registers b.side b.com1) b) (sym same)

-- what begins where nothing has changed, begins where the unit began
pub begins_there : (came : Bare → UnitOutcome) (m n : Parts) (r q : Registers) (s : Serial) (g : Guest) (lines : TickLines) (asked : ℕ)
    (there after : List (Option Fifo)) (new : UnitParts) → q ≡ r → n ≡ m
    → Leaves (came (bare_marked (parts n q g lines) s)) s asked there after (parts n q g lines) new
    → Leaves (came (bare_marked (parts m r g lines) s)) s asked there after (parts m r g lines) new
begins_there came m n r q s g lines asked there after new registers memory l =
    let a = subst (λ x. Leaves (came (bare_marked (parts n x g lines) s)) s asked there after (parts n x g lines) new) registers l in
    subst (λ x. Leaves (came (bare_marked (parts x r g lines) s)) s asked there after (parts x r g lines) new) memory a
