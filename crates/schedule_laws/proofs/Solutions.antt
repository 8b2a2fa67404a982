-- The two machines side by side are the one solution.
use Rattle.std.proofs.Common.{◌≡◌, ℕ, zero, suc, ◌<◌, ◌≤◌, Bool, ◌==◌, refl, sym, ap, ◌∙◌, arith, List, [], ◌++◌, length, if◌then◌else◌, Option, fold, is_some, count_by, subst}
use Rattle.std.proofs.lemmas.List.Sums.{fold-append}
use Rattle.bare_machine.specs.Run.{bare, bare_after, bare_lines, bare_end}
use Rattle.bare_machine.specs.State.{Bare, GuestStart}
use Rattle.bare_machine.specs.Tick.{bare_tick, bare_tick_lines, com1_lines, guest_begins}
use Rattle.bare_machine.specs.Unit.{unit_lines}
use Rattle.side_digest.specs.Digest.{digest}
use Rattle.port_map.specs.SerialLine.{byte_sent}
use Rattle.device_script.specs.declared.event.Event.{Event}
use Rattle.priority_schedule.specs.Run.{real_time, real_after, real_lines, real_end}
use Rattle.priority_schedule.specs.State.{RealTime}
use Rattle.priority_schedule.specs.Tick.{opened, real_time_tick}
use Rattle.priority_schedule.specs.Unit.{unit_of}
use Rattle.line_kinds.specs.Calls.{Call}
use Rattle.run_lines.specs.Calls.{calls_of, call_at}
use Rattle.run_lines.specs.Says.{Sight, is_guest, held_by, holder, held, after_owner, sight, sight_from}
use Rattle.run_lines.specs.Ticks.{at_tick, stamped, lines_to}
use Rattle.line_kinds.specs.declared.kinds.GLine.{GLine}
use Rattle.line_kinds.specs.declared.kinds.RLine.{RLine}
use Rattle.line_kinds.specs.declared.kinds.Who.{Who}
use Rattle.schedule_laws.specs.Both.{both_call, both_real, both_sight, both_after, both_g, both_r, all_g, all_r, both_guest}
use Rattle.schedule_laws.specs.Laws.{IsSolution}
use Rattle.run_lines.proofs.Seen.{IsAt, holder-next, held-next, sight-at, call-at}
use Rattle.run_lines.proofs.AtTick.{run-at, lines_to-same}
use Rattle.hardware_lines.specs.RunStart.{RunStart}
use Rattle.schedule_laws.proofs.UnitCases.{quiet_unit}

-- the holder after the pick is the holder of the tick
pub holder_picked : (holder_before : Option Who) (t : ℕ) (events : List Event) (call : Option Call) (m : RealTime) → fold held_by holder_before (real_time_tick t events call m).lines ≡ fold held_by holder_before (opened t events m).lines
holder_picked w t events call m =
    let s = opened t events m in
    fold-append held_by w s.lines (unit_of t call s.real s.real.on).lines ∙ quiet_unit (fold held_by w s.lines) t call s.real s.real.on

-- how far given lists agree with both machines after k ticks
pub record Agrees (start : RunStart) (g : List (ℕ × GLine)) (r : List (ℕ × RLine)) (k : ℕ) : Type 0 where
  pub bare_is : bare_after start.guest start.script r k ≡ (both_after start k).bare
  pub real_is : real_after start.real start.script (calls_of g) k ≡ (both_after start k).real
  pub who_is : holder k r ≡ (both_after start k).who
  pub held_is : held k r ≡ (both_after start k).lines_held

-- and in the tick after them
pub record Follows (start : RunStart) (g : List (ℕ × GLine)) (r : List (ℕ × RLine)) (k : ℕ) : Type 0 where
  pub call_is : call_at (suc k) (calls_of g) ≡ both_call (suc k) (at_tick (suc k) start.script) (both_after start k)
  pub who_next : holder (suc k) r ≡ fold held_by (holder k r) (both_r start k)
  pub held_next : held (suc k) r ≡ fold after_owner (held k r) (both_r start k)
  pub sight_is : sight k r ≡ sight_from (holder k r) (held k r) (both_r start k)

agrees_first : (start : RunStart) (g : List (ℕ × GLine)) (r : List (ℕ × RLine)) → Agrees start g r 0
unfolding both_after bare_after real_after holder held
agrees_first start g r = record { bare_is = refl; real_is = refl; who_is = refl; held_is = refl }

agrees_next : (start : RunStart) (g : List (ℕ × GLine)) (r : List (ℕ × RLine)) (k : ℕ) → Agrees start g r k → Follows start g r k → Agrees start g r (suc k)
unfolding both_after both_r bare_after real_after both_real
agrees_next start g r k a f =
    let events = at_tick (suc k) start.script in
    let b = both_after start k in
    let r_of : Option Who → ℕ → Sight = λ w h. sight_from w h (both_real (suc k) events b).lines in
    record {
      bare_is = ap (λ (s : Sight). bare_tick (suc k) events s (bare_after start.guest start.script r k)) (f.sight_is ∙ ap (λ w. r_of w (held k r)) a.who_is ∙ ap (λ h. r_of b.who h) a.held_is)
          ∙ ap (bare_tick (suc k) events (both_sight (suc k) events b)) a.bare_is;
      real_is = ap (λ c. (real_time_tick (suc k) events c (real_after start.real start.script (calls_of g) k)).real) f.call_is
          ∙ ap (λ m. (real_time_tick (suc k) events (both_call (suc k) events b) m).real) a.real_is;
      who_is = f.who_next ∙ ap (λ w. fold held_by w (both_r start k)) a.who_is;
      held_is = f.held_next ∙ ap (λ h. fold after_owner h (both_r start k)) a.held_is;
    }

agrees_all : (start : RunStart) (g : List (ℕ × GLine)) (r : List (ℕ × RLine)) (n : ℕ) → ((k : ℕ) → k < n → Agrees start g r k → Follows start g r k) → (k : ℕ) → k ≤ n → Agrees start g r k
agrees_all start g r n follows zero h = agrees_first start g r
agrees_all start g r n follows (suc k) h =
    let a = agrees_all start g r n follows k (omega arith) in
    agrees_next start g r k a (follows k (omega arith) a)

-- where the lines of a tick are those of both machines, it follows
follows_lines : (start : RunStart) (n : ℕ) (gf : ℕ → List GLine) (rf : ℕ → List RLine) (b : Bare) (m : RealTime) (k : ℕ) → k < n
    → gf k ≡ both_g start k → rf k ≡ both_r start k
    → Follows start (lines_to gf n ++ stamped n (bare_end b)) (lines_to rf n ++ stamped n (real_end m)) k
unfolding both_g
follows_lines start n gf rf b m k h ge re =
    let r = lines_to rf n ++ stamped n (real_end m) in
    let lines = both_r start k in
    let live = count_by is_some m.threads in
    let at : IsAt r k lines (n == suc k) live (length m.ready) (digest m.side.bytes) = record { here = run-at rf n k (real_end m) h ∙ ap (λ xs. xs ++ (if n == suc k then real_end m else [])) re } in
    record {
      call_is = call-at (lines_to gf n ++ stamped n (bare_end b)) k (both_g start k) (n == suc k) (bare_end b) refl (run-at gf n k (bare_end b) h ∙ ap (λ xs. xs ++ (if n == suc k then bare_end b else [])) ge);
      who_next = holder-next r k lines (n == suc k) live (length m.ready) (digest m.side.bytes) at;
      held_next = held-next r k lines (n == suc k) live (length m.ready) (digest m.side.bytes) at;
      sight_is = sight-at r k lines (n == suc k) live (length m.ready) (digest m.side.bytes) at;
    }

-- the lines of a tick, from what agrees
real_same : (start : RunStart) (g : List (ℕ × GLine)) (r : List (ℕ × RLine)) (k : ℕ) → Agrees start g r k
    → call_at (suc k) (calls_of g) ≡ both_call (suc k) (at_tick (suc k) start.script) (both_after start k) → real_lines start.real start.script (calls_of g) k ≡ both_r start k
unfolding both_r real_lines both_real
real_same start g r k a c =
    let events = at_tick (suc k) start.script in
    let b = both_after start k in
    ap (λ c'. (real_time_tick (suc k) events c' (real_after start.real start.script (calls_of g) k)).lines) c
    ∙ ap (λ m. (real_time_tick (suc k) events (both_call (suc k) events b) m).lines) a.real_is

guest_same : (start : RunStart) (g : List (ℕ × GLine)) (r : List (ℕ × RLine)) (k : ℕ) → Agrees start g r k
    → sight k r ≡ sight_from (holder k r) (held k r) (real_lines start.real start.script (calls_of g) k) → bare_lines start.guest start.script r k ≡ both_g start k
unfolding both_g bare_lines real_lines both_guest
guest_same start g r k a s =
    let events = at_tick (suc k) start.script in
    let b = both_after start k in
    let call = call_at (suc k) (calls_of g) in
    let m = real_after start.real start.script (calls_of g) k in
    let lines : Bool → ℕ → Bare → List GLine = λ holds h x. com1_lines (byte_sent x.com1) ++ unit_lines (guest_begins (suc k) events holds h x) in
    ap (λ (s' : Sight). bare_tick_lines (suc k) events s' (bare_after start.guest start.script r k)) s
    ∙ ap (λ w. lines (is_guest w) (held k r) (bare_after start.guest start.script r k)) (holder_picked (holder k r) (suc k) events call m)
    ∙ ap (λ w. lines (is_guest (fold held_by w (opened (suc k) events m).lines)) (held k r) (bare_after start.guest start.script r k)) a.who_is
    ∙ ap (λ m'. lines (is_guest (fold held_by b.who (opened (suc k) events m').lines)) (held k r) (bare_after start.guest start.script r k)) a.real_is
    ∙ ap (λ h. lines (is_guest (fold held_by b.who (opened (suc k) events b.real).lines)) h (bare_after start.guest start.script r k)) a.held_is
    ∙ ap (λ x. lines (is_guest (fold held_by b.who (opened (suc k) events b.real).lines)) b.lines_held x) a.bare_is

-- a solution follows both machines
solution_follows : (start : RunStart) (n : ℕ) (g : List (ℕ × GLine)) (r : List (ℕ × RLine)) → IsSolution start n g r
    → (k : ℕ) → k < n → Agrees start g r k → Follows start g r k
unfolding both_g
solution_follows start n g r sol k h a =
    let gf = bare_lines start.guest start.script r in
    let rf = real_lines start.real start.script (calls_of g) in
    let b = bare_after start.guest start.script r n in
    let m = real_after start.real start.script (calls_of g) n in
    let live = count_by is_some m.threads in
    let r_at : IsAt r k (rf k) (n == suc k) live (length m.ready) (digest m.side.bytes) = record { here = ap (at_tick (suc k)) sol.real_half ∙ run-at rf n k (real_end m) h } in
    let s = sight-at r k (rf k) (n == suc k) live (length m.ready) (digest m.side.bytes) r_at in
    let ge = guest_same start g r k a s in
    let c = call-at g k (both_g start k) (n == suc k) (bare_end b) refl (ap (at_tick (suc k)) sol.guest_half ∙ run-at gf n k (bare_end b) h ∙ ap (λ xs. xs ++ (if n == suc k then bare_end b else [])) ge) in
    let re = real_same start g r k a c in
    let f = follows_lines start n gf rf b m k h ge re in
    subst (λ g'. Follows start g' r k) (sym sol.guest_half) (subst (λ r'. Follows start (bare start.guest start.script n r) r' k) (sym sol.real_half) f)

pub solution_agrees : (start : RunStart) (n : ℕ) (g : List (ℕ × GLine)) (r : List (ℕ × RLine)) → IsSolution start n g r
    → (k : ℕ) → k ≤ n → Agrees start g r k
solution_agrees start n g r sol = agrees_all start g r n (solution_follows start n g r sol)

-- its lines are those of both machines
pub solution_r : (start : RunStart) (n : ℕ) (g : List (ℕ × GLine)) (r : List (ℕ × RLine)) → IsSolution start n g r
    → (k : ℕ) → k < n → real_lines start.real start.script (calls_of g) k ≡ both_r start k
solution_r start n g r sol k h =
    let a = solution_agrees start n g r sol k (omega arith) in
    real_same start g r k a (solution_follows start n g r sol k h a).call_is

pub solution_g : (start : RunStart) (n : ℕ) (g : List (ℕ × GLine)) (r : List (ℕ × RLine)) → IsSolution start n g r
    → (k : ℕ) → k < n → bare_lines start.guest start.script r k ≡ both_g start k
solution_g start n g r sol k h =
    let a = solution_agrees start n g r sol k (omega arith) in
    let f = solution_follows start n g r sol k h a in
    guest_same start g r k a (f.sight_is ∙ ap (sight_from (holder k r) (held k r)) (sym (solution_r start n g r sol k h)))

pub solution_is_r : (start : RunStart) (n : ℕ) (g : List (ℕ × GLine)) (r : List (ℕ × RLine)) → IsSolution start n g r → r ≡ all_r start n
unfolding all_r
solution_is_r start n g r sol =
    let a = solution_agrees start n g r sol n (omega arith) in
    sol.real_half
    ∙ ap (λ xs. xs ++ stamped n (real_end (real_after start.real start.script (calls_of g) n))) (lines_to-same (real_lines start.real start.script (calls_of g)) (both_r start) n (solution_r start n g r sol))
    ∙ ap (λ m. lines_to (both_r start) n ++ stamped n (real_end m)) a.real_is

pub solution_is_g : (start : RunStart) (n : ℕ) (g : List (ℕ × GLine)) (r : List (ℕ × RLine)) → IsSolution start n g r → g ≡ all_g start n
unfolding all_g
solution_is_g start n g r sol =
    let a = solution_agrees start n g r sol n (omega arith) in
    sol.guest_half
    ∙ ap (λ xs. xs ++ stamped n (bare_end (bare_after start.guest start.script r n))) (lines_to-same (bare_lines start.guest start.script r) (both_g start) n (solution_g start n g r sol))
    ∙ ap (λ b. lines_to (both_g start) n ++ stamped n (bare_end b)) a.bare_is

-- and theirs are a solution

both_follows : (start : RunStart) (n k : ℕ) → k < n → Agrees start (all_g start n) (all_r start n) k → Follows start (all_g start n) (all_r start n) k
unfolding all_g all_r
both_follows start n k h a =
    let b = both_after start n in
    follows_lines start n (both_g start) (both_r start) b.bare b.real k h refl refl

pub both_agrees : (start : RunStart) (n k : ℕ) → k ≤ n → Agrees start (all_g start n) (all_r start n) k
both_agrees start n = agrees_all start (all_g start n) (all_r start n) n (both_follows start n)

pub both_real_lines : (start : RunStart) (n k : ℕ) → k < n → real_lines start.real start.script (calls_of (all_g start n)) k ≡ both_r start k
both_real_lines start n k h =
    let a = both_agrees start n k (omega arith) in
    real_same start (all_g start n) (all_r start n) k a (both_follows start n k h a).call_is

pub both_bare_lines : (start : RunStart) (n k : ℕ) → k < n → bare_lines start.guest start.script (all_r start n) k ≡ both_g start k
both_bare_lines start n k h =
    let r = all_r start n in
    let a = both_agrees start n k (omega arith) in
    let f = both_follows start n k h a in
    guest_same start (all_g start n) r k a (f.sight_is ∙ ap (sight_from (holder k r) (held k r)) (sym (both_real_lines start n k h)))

pub both_guest_half : (start : RunStart) (n : ℕ) → all_g start n ≡ bare start.guest start.script n (all_r start n)
unfolding all_g
both_guest_half start n =
    let a = both_agrees start n n (omega arith) in
    let r = all_r start n in
    ap (λ xs. xs ++ stamped n (bare_end (both_after start n).bare)) (sym (lines_to-same (bare_lines start.guest start.script r) (both_g start) n (both_bare_lines start n)))
    ∙ ap (λ b. lines_to (bare_lines start.guest start.script r) n ++ stamped n (bare_end b)) (sym a.bare_is)

pub both_real_half : (start : RunStart) (n : ℕ) → all_r start n ≡ real_time start.real start.script n (calls_of (all_g start n))
unfolding all_r
both_real_half start n =
    let a = both_agrees start n n (omega arith) in
    let c = calls_of (all_g start n) in
    ap (λ xs. xs ++ stamped n (real_end (both_after start n).real)) (sym (lines_to-same (real_lines start.real start.script c) (both_r start) n (both_real_lines start n)))
    ∙ ap (λ m. lines_to (real_lines start.real start.script c) n ++ stamped n (real_end m)) (sym a.real_is)

pub both_solve : (start : RunStart) (n : ℕ) → IsSolution start n (all_g start n) (all_r start n)
both_solve start n = record { guest_half = both_guest_half start n; real_half = both_real_half start n }

pub one_solution : (start : RunStart) (n : ℕ)
    → (g : List (ℕ × GLine)) × ((r : List (ℕ × RLine)) × (IsSolution start n g r
    × ((g' : List (ℕ × GLine)) (r' : List (ℕ × RLine)) → IsSolution start n g' r' → (g' ≡ g) × (r' ≡ r))))
one_solution start n = (
  all_g start n,
  (
    all_r start n,
    (
      both_solve start n,
      λ g' r' sol. (solution_is_g start n g' r' sol, solution_is_r start n g' r' sol),
    ),
  ),
)

pub two_guests : (start : RunStart) (guest' : GuestStart) (n : ℕ) (g g' : List (ℕ × GLine)) (r r' : List (ℕ × RLine))
    → IsSolution start n g r → IsSolution (record start { guest = guest' }) n g' r' → calls_of g ≡ calls_of g' → r ≡ r'
two_guests start guest' n g g' r r' a b e = a.real_half ∙ ap (real_time start.real start.script n) e ∙ sym b.real_half
