-- What is shown of a run is the solution.
use Rattle.std.proofs.Common.{◌≡◌, ◌+◌, ◌-◌, ℕ, zero, suc, List, [], ◌∷◌, ◌++◌, map, take, true, false, refl, sym, ap, ◌∙◌, arith}
use Rattle.std.specs.Prelude.{length}
use Rattle.std.proofs.Math.Seq.{take-append-add}
use Rattle.std.proofs.lemmas.List.{length-append, map-append}
use Rattle.line_kinds.specs.declared.kinds.GLine.{GLine}
use Rattle.line_kinds.specs.declared.kinds.GLine.TheVariants.{Memory}
use Rattle.line_kinds.specs.declared.kinds.Line.{Line}
use Rattle.line_kinds.specs.declared.kinds.Line.TheVariants.{R, G}
use Rattle.line_kinds.specs.declared.kinds.RLine.{RLine}
use Rattle.run_lines.proofs.AtTick.{lines_to-same}
use Rattle.run_lines.specs.Calls.{calls_of}
use Rattle.run_lines.specs.Ticks.{stamped, lines_to}
use Rattle.run_output.specs.Halves.{found, guest_in}
use Rattle.run_output.specs.Merge.{tick_lines}
use Rattle.side_digest.specs.Digest.{digest}
use Rattle.bare_machine.specs.Run.{bare_end, end_line}
use Rattle.priority_schedule.specs.Run.{real_end}
use Rattle.schedule_laws.specs.Both.{all_g, both_after, both_g, both_h, both_r}
use Rattle.schedule_laws.specs.Laws.{IsSolution}
use Rattle.schedule_laws.proofs.BothRuns.{both_runs}
use Rattle.schedule_laws.proofs.Printed.{loses_nothing}
use Rattle.schedule_laws.proofs.Solutions.{both_solve, solution_is_g, solution_is_r}
use Rattle.run_files.specs.declared.run.AcceptedRun.{AcceptedRun}
use Rattle.run_files.specs.declared.run.Shown.{Shown}
use Rattle.run_files.specs.declared.run.Shown.TheVariants.{Guest, Both, WithHardware}
use Rattle.run_stream.specs.Lines.{shown_at, shown_to, lines_shown}
use Rattle.run_stream.specs.Ran.{guest_shown, real_shown}
use Rattle.run_stream.specs.Start.{run_start}
use Rattle.rtlinux_top.specs.Solution.{HasHalves, NoOther, ShowsOutput, ShowsSolution, guest_alone, output_of, shown_of}

pub shows : ShowsSolution
shows run = both_solve (run_start run) run.ticks

pub no_other : NoOther
no_other run g r s = (solution_is_g (run_start run) run.ticks g r s, solution_is_r (run_start run) run.ticks g r s)

-- The guest's lines alone

abbrev as_guest : ℕ × GLine → ℕ × Line
as_guest line = (line.0, G line.1)

stamped-guest : (t : ℕ) (lines : List GLine) → stamped t (map G lines) ≡ map as_guest (stamped t lines)
stamped-guest t [] = refl
stamped-guest t (line ∷ lines) = ap (λ rest. (t, G line) ∷ rest) (stamped-guest t lines)

alone_to : (run : AcceptedRun) (n : ℕ) → shown_to Guest run n ≡ map as_guest (lines_to (both_g (run_start run)) n)
unfolding lines_to shown_at
alone_to run zero = refl
alone_to run (suc n) =
    (λ i. alone_to run n i ++ stamped-guest (suc n) (both_g (run_start run) n) i)
    ∙ sym (map-append as_guest (lines_to (both_g (run_start run)) n) (stamped (suc n) (both_g (run_start run) n)))

but_last : (xs : List (ℕ × GLine)) (a b : ℕ × GLine) → take (length (xs ++ a ∷ b ∷ []) - 1) (xs ++ a ∷ b ∷ []) ≡ xs ++ a ∷ []
but_last xs a b =
    let size : length (xs ++ a ∷ b ∷ []) - 1 ≡ length xs + 1 = omega (arith, length-append xs (a ∷ b ∷ [])) in
    ap (λ n. take n (xs ++ a ∷ b ∷ [])) size ∙ take-append-add xs (a ∷ b ∷ []) 1

shows_alone : (run : AcceptedRun) → lines_shown Guest run ≡ guest_alone (guest_shown run)
unfolding all_g
shows_alone run =
    let b = (both_after (run_start run) run.ticks).bare in
    let front = lines_to (both_g (run_start run)) run.ticks in
    let end : ℕ × GLine = (run.ticks, end_line b) in
    let memory : ℕ × GLine = (run.ticks, Memory (digest b.side.bytes)) in
    ap (λ lines. lines ++ (run.ticks, G (end_line b)) ∷ []) (alone_to run run.ticks)
    ∙ sym (map-append as_guest front (end ∷ [])) ∙ ap (map as_guest) (sym (but_last front end memory))

-- Both halves, with the hardware's lines or without

shows_both : (run : AcceptedRun) → lines_shown Both run ≡ output_of false run (guest_shown run) (real_shown run)
unfolding shown_at
shows_both run =
    let start = run_start run in
    let n = run.ticks in
    let ends = stamped n (map R (real_end (both_after start n).real) ++ map G (bare_end (both_after start n).bare)) in
    ap (λ lines. lines ++ ends) (lines_to-same (shown_at Both run) (λ k. tick_lines false (both_r start k) (both_h start k) (both_g start k)) n (λ k _. refl))
    ∙ sym ((both_runs start n).output false)

shows_hardware : (run : AcceptedRun) → lines_shown WithHardware run ≡ output_of true run (guest_shown run) (real_shown run)
unfolding shown_at
shows_hardware run =
    let start = run_start run in
    let n = run.ticks in
    let ends = stamped n (map R (real_end (both_after start n).real) ++ map G (bare_end (both_after start n).bare)) in
    ap (λ lines. lines ++ ends) (lines_to-same (shown_at WithHardware run) (λ k. tick_lines true (both_r start k) (both_h start k) (both_g start k)) n (λ k _. refl))
    ∙ sym ((both_runs start n).output true)

pub shows_output : ShowsOutput
shows_output Guest run = shows_alone run
shows_output Both run = shows_both run
shows_output WithHardware run = shows_hardware run

-- and each half finds its lines in it

found_alone : (lines : List (ℕ × GLine)) → found guest_in (map as_guest lines) ≡ lines
found_alone [] = refl
found_alone (line ∷ lines) = ap (λ rest. line ∷ rest) (found_alone lines)

pub halves : (which : Shown) (run : AcceptedRun) (g : List (ℕ × GLine)) (r : List (ℕ × RLine)) → IsSolution (run_start run) run.ticks g r → HasHalves which run (shown_of which run g r) g r
halves Guest run g r s = found_alone (take (length g - 1) g)
halves Both run g r s = (
  loses_nothing.of_guest false (run_start run) run.ticks r (calls_of g) ∙ sym s.guest_half,
  loses_nothing.of_real false (run_start run) run.ticks r (calls_of g) ∙ sym s.real_half,
)
halves WithHardware run g r s = (
  loses_nothing.of_guest true (run_start run) run.ticks r (calls_of g) ∙ sym s.guest_half,
  (
    loses_nothing.of_real true (run_start run) run.ticks r (calls_of g) ∙ sym s.real_half,
    loses_nothing.of_hardware (run_start run) run.ticks r (calls_of g),
  ),
)
