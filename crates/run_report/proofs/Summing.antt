-- The sum of the lines so far, tick by tick.
use Rattle.std.proofs.Common.{◌≡◌, ℕ, suc, ◌+◌, List, [], ◌++◌, refl, ap, sym, ◌∙◌, subst, add-one, arith}
use Rattle.std.proofs.lemmas.Grind.{flat_map-append}
use Rattle.sha2.specs.Hashers.{Holds256}
use Rattle.line_kinds.specs.declared.kinds.Line.{Line}
use Rattle.run_lines.specs.Ticks.{stamped, lines_to}
use Rattle.run_output.specs.Halves.{guest_in, real_time_in}
use Rattle.trace_lines.specs.TickLines.{TickLines, no_tick_lines}
use Rattle.run_files.specs.declared.run.AcceptedRun.{AcceptedRun}
use Rattle.run_files.specs.declared.run.Shown.{Shown}
use Rattle.run_files.specs.declared.run.Shown.TheVariants.{Guest, Both, WithHardware}
use Rattle.run_stream.specs.Lines.{ends_shown, lines_shown, piece_of, shown_at, shown_to, text_of, tick_shown, tick_text}
use Rattle.run_stream.proofs.Streams.{text-stamped}
use Rattle.run_report.specs.Report.{count}
use Rattle.run_report.specs.Sums.{Adds, Sums}
use Rattle.run_report.specs.declared.sum.Sum.{Sum}
use Rattle.run_report.proofs.Absorbing.{absorbs_nothing}
use Rattle.run_report.proofs.Counts.{count_behind}

-- no lines
pub adds_nothing : (sum : Sum) (tick : ℕ) (which : Shown) (lines : TickLines) → lines ≡ no_tick_lines → Adds sum sum tick (tick_shown which lines.r lines.h lines.g)
adds_nothing sum tick which lines none = subst (λ (ls : TickLines). Adds sum sum tick (tick_shown which ls.r ls.h ls.g)) (sym none) (no_lines which)
  where
    same : (n none : ℕ) → none ≡ 0 → n ≡ n + none
    same n none zero = omega (arith, zero)

    no_lines : (which : Shown) → Adds sum sum tick (tick_shown which [] [] [])
    no_lines Guest = record { real_time = same _ _ refl; guest = same _ _ refl; digest = absorbs_nothing sum.digest }
    no_lines Both = record { real_time = same _ _ refl; guest = same _ _ refl; digest = absorbs_nothing sum.digest }
    no_lines WithHardware = record { real_time = same _ _ refl; guest = same _ _ refl; digest = absorbs_nothing sum.digest }

-- lines of a tick behind others
pub sums_behind : (old new : Sum) (xs : List (ℕ × Line)) (tick : ℕ) (lines : List Line) → Sums old xs → Adds old new tick lines → Sums new (xs ++ stamped tick lines)
sums_behind old new xs tick lines sums adds = record {
  real_time = adds.real_time ∙ ap (λ n. n + count real_time_in (stamped tick lines)) sums.real_time ∙ sym (count_behind real_time_in xs (stamped tick lines));
  guest = adds.guest ∙ ap (λ n. n + count guest_in (stamped tick lines)) sums.guest ∙ sym (count_behind guest_in xs (stamped tick lines));
  digest = subst (Holds256 new.digest) same (adds.digest (text_of xs) sums.digest);
}
  where
    same : text_of xs ++ tick_text tick lines ≡ text_of (xs ++ stamped tick lines)
    same = ap (λ (piece : List ℕ). text_of xs ++ piece) (sym (text-stamped tick lines)) ∙ sym (flat_map-append piece_of xs (stamped tick lines))

-- one tick more
pub sums_next : (old new : Sum) (which : Shown) (run : AcceptedRun) (t : ℕ) (said : List Line) → said ≡ shown_at which run t
    → Sums old (shown_to which run t) → Adds old new (t + 1) said → Sums new (shown_to which run (t + 1))
unfolding lines_to
sums_next old new which run t said same sums adds =
    rw (add-one t) (sums_behind old new (shown_to which run t) (suc t) (shown_at which run t) sums
    (subst (λ n. Adds old new n (shown_at which run t)) (add-one t) (subst (Adds old new (t + 1)) same adds)))

-- and the end lines
pub sums_end : (old new : Sum) (which : Shown) (run : AcceptedRun) (t : ℕ) (ends : List Line) → t ≡ run.ticks → ends ≡ ends_shown which run t
    → Sums old (shown_to which run t) → Adds old new run.ticks ends → Sums new (lines_shown which run)
sums_end old new which run t ends done same sums adds =
    sums_behind old new (shown_to which run run.ticks) run.ticks (ends_shown which run run.ticks)
    (subst (λ n. Sums old (shown_to which run n)) done sums)
    (subst (Adds old new run.ticks) (same ∙ ap (ends_shown which run) done) adds)

-- before the first tick
pub sums_first : (sum : Sum) (which : Shown) (run : AcceptedRun) → sum.real_time ≡ 0 → sum.guest ≡ 0 → Holds256 sum.digest [] → Sums sum (shown_to which run 0)
unfolding lines_to
sums_first sum which run real_time guest digest = record { real_time = real_time; guest = guest; digest = digest }
