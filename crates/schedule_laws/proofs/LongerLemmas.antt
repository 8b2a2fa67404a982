-- Longer runs of all three letters.
use Rattle.std.proofs.Common.{◌≡◌, ℕ, zero, suc, ◌+◌, ◌<◌, ◌≤◌, refl, sym, ap, ◌∙◌, arith, List, ◌++◌}
use Rattle.bare_machine.specs.Run.{bare_lines}
use Rattle.bare_machine.specs.State.{Bare}
use Rattle.hardware_lines.specs.Hardware.{Hardware, Machines, marking, machines_after, hardware_after, hardware_lines}
use Rattle.priority_schedule.specs.Run.{real_after, real_lines}
use Rattle.priority_schedule.specs.State.{RealTime}
use Rattle.run_lines.proofs.Longer.{longer}
use Rattle.run_lines.specs.Calls.{calls_of}
use Rattle.run_lines.specs.Ticks.{at_tick, lines_to, IsPrefixOf}
use Rattle.run_output.specs.Merge.{tick_lines}
use Rattle.line_kinds.specs.declared.kinds.GLine.{GLine}
use Rattle.line_kinds.specs.declared.kinds.HLine.{HLine}
use Rattle.line_kinds.specs.declared.kinds.RLine.{RLine}
use Rattle.schedule_laws.specs.Both.{both_after}
use Rattle.schedule_laws.specs.Laws.{IsSolution, GoesOn}
use Rattle.schedule_laws.proofs.Solutions.{Agrees, solution_agrees, solution_r, solution_g}
use Rattle.hardware_lines.specs.RunStart.{RunStart}
use Rattle.run_lines.proofs.AtTick.{lines_to-same}

-- both machines after k ticks of a solution
machines_are : (start : RunStart) (g : List (ℕ × GLine)) (r : List (ℕ × RLine)) (k : ℕ) → Agrees start g r k
    → machines_after start r (calls_of g) k ≡ record { bare = (both_after start k).bare; real = (both_after start k).real }
unfolding machines_after
machines_are start g r k a =
    ap (λ (b : Bare). record { bare = b; real = real_after start.real start.script (calls_of g) k }) a.bare_is
    ∙ ap (λ (m : RealTime). record { bare = (both_after start k).bare; real = m }) a.real_is

-- two lists that agree with both machines up to tick k
pub record Alike (start : RunStart) (g g' : List (ℕ × GLine)) (r r' : List (ℕ × RLine)) (n : ℕ) : Type 0 where
  pub machines : (k : ℕ) → k ≤ n → machines_after start r (calls_of g) k ≡ machines_after start r' (calls_of g') k

hardware_alike : (start : RunStart) (g g' : List (ℕ × GLine)) (r r' : List (ℕ × RLine)) (n : ℕ) → Alike start g g' r r' n
    → (k : ℕ) → k ≤ n → hardware_after start r (calls_of g) k ≡ hardware_after start r' (calls_of g') k
unfolding hardware_after
hardware_alike start g g' r r' n a zero h = refl
hardware_alike start g g' r r' n a (suc k) h =
    let events = at_tick (suc k) start.script in
    let hw = hardware_after start in
    let now = machines_after start in
    ap (λ (m : Machines). (marking (suc k) events m (now r (calls_of g) (suc k)) (hw r (calls_of g) k)).hardware) (a.machines k (omega arith))
    ∙ ap (λ (m : Machines). (marking (suc k) events (now r' (calls_of g') k) m (hw r (calls_of g) k)).hardware) (a.machines (suc k) h)
    ∙ ap (λ (x : Hardware). (marking (suc k) events (now r' (calls_of g') k) (now r' (calls_of g') (suc k)) x).hardware) (hardware_alike start g g' r r' n a k (omega arith))

hardware_lines_alike : (start : RunStart) (g g' : List (ℕ × GLine)) (r r' : List (ℕ × RLine)) (n : ℕ) → Alike start g g' r r' n
    → (k : ℕ) → k < n → hardware_lines start r (calls_of g) k ≡ hardware_lines start r' (calls_of g') k
unfolding hardware_lines
hardware_lines_alike start g g' r r' n a k h =
    let events = at_tick (suc k) start.script in
    let hw = hardware_after start in
    let now = machines_after start in
    ap (λ (m : Machines). (marking (suc k) events m (now r (calls_of g) (suc k)) (hw r (calls_of g) k)).lines) (a.machines k (omega arith))
    ∙ ap (λ (m : Machines). (marking (suc k) events (now r' (calls_of g') k) m (hw r (calls_of g) k)).lines) (a.machines (suc k) (omega arith))
    ∙ ap (λ (x : Hardware). (marking (suc k) events (now r' (calls_of g') k) (now r' (calls_of g') (suc k)) x).lines) (hardware_alike start g g' r r' n a k (omega arith))

-- what agrees up to tick n goes on
goes_on : {A : Type 0} (f g : ℕ → List A) (n m : ℕ) → ((k : ℕ) → k < n → f k ≡ g k) → IsPrefixOf (lines_to f n) (lines_to g (n + m))
goes_on f g n m same = let p = longer g n m in (p.0, ap (λ xs. xs ++ p.0) (lines_to-same f g n same) ∙ p.1)

pub longer_runs : (start : RunStart) (n m : ℕ) (g g' : List (ℕ × GLine)) (r r' : List (ℕ × RLine))
    → IsSolution start n g r → IsSolution start (n + m) g' r' → GoesOn start n m g g' r r'
longer_runs start n m g g' r r' a b =
    let alike : Alike start g g' r r' n = record {
      machines = λ k h. machines_are start g r k (solution_agrees start n g r a k h)
          ∙ sym (machines_are start g' r' k (solution_agrees start (n + m) g' r' b k (omega arith)));
    } in
    let rf : ℕ → List RLine = real_lines start.real start.script (calls_of g) in
    let rf' : ℕ → List RLine = real_lines start.real start.script (calls_of g') in
    let gf : ℕ → List GLine = bare_lines start.guest start.script r in
    let gf' : ℕ → List GLine = bare_lines start.guest start.script r' in
    let hf : ℕ → List HLine = hardware_lines start r (calls_of g) in
    let hf' : ℕ → List HLine = hardware_lines start r' (calls_of g') in
    let r_same : (k : ℕ) → k < n → rf k ≡ rf' k = λ k h. solution_r start n g r a k h ∙ sym (solution_r start (n + m) g' r' b k (omega arith)) in
    let g_same : (k : ℕ) → k < n → gf k ≡ gf' k = λ k h. solution_g start n g r a k h ∙ sym (solution_g start (n + m) g' r' b k (omega arith)) in
    let h_same : (k : ℕ) → k < n → hf k ≡ hf' k = λ k h. hardware_lines_alike start g g' r r' n alike k h in
    record {
      of_real = goes_on rf rf' n m r_same;
      of_guest = goes_on gf gf' n m g_same;
      of_hardware = goes_on hf hf' n m h_same;
      of_all = λ b. goes_on (λ k. tick_lines b (rf k) (hf k) (gf k)) (λ k. tick_lines b (rf' k) (hf' k) (gf' k)) n m (λ k h.
          ap (λ xs. tick_lines b xs (hf k) (gf k)) (r_same k h) ∙ ap (λ xs. tick_lines b (rf' k) xs (gf k)) (h_same k h) ∙ ap (λ xs. tick_lines b (rf' k) (hf' k) xs) (g_same k h));
    }
