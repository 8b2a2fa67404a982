-- The order of lines, by computation.
use Rattle.std.proofs.Common.{◌≡◌, ℕ, zero, suc, true, false, refl, List, [], ◌∷◌}
use Rattle.line_kinds.specs.declared.kinds.GLine.TheVariants.{Halt, Com1}
use Rattle.line_kinds.specs.declared.kinds.HLine.TheVariants.{Ack}
use Rattle.line_kinds.specs.declared.kinds.Line.TheVariants.{R, G, H}
use Rattle.line_kinds.specs.declared.kinds.RLine.{RLine}
use Rattle.line_kinds.specs.declared.kinds.RLine.TheVariants.{Ret, End}
use Rattle.run_lines.specs.Ticks.{lines_to}
use Rattle.run_output.specs.Merge.{tick_lines, merged, with_ends}

real_time_first : tick_lines true (Ret ∷ []) (Ack 5 ∷ []) (Com1 65 ∷ Halt ∷ []) ≡ R Ret ∷ H (Ack 5) ∷ G (Com1 65) ∷ G Halt ∷ []
real_time_first = refl

hardware_only_where_asked : tick_lines false (Ret ∷ []) (Ack 5 ∷ []) (Halt ∷ []) ≡ R Ret ∷ G Halt ∷ []
hardware_only_where_asked = refl

-- the real-time side has a line in the first tick alone, the guest in each
first_tick_alone : ℕ → List RLine
first_tick_alone zero = Ret ∷ []
first_tick_alone (suc n) = []

tick_by_tick : merged true first_tick_alone (λ k. Ack k ∷ []) (λ k. Halt ∷ []) 2 ≡ (1, R Ret) ∷ (1, H (Ack 0)) ∷ (1, G Halt) ∷ (2, H (Ack 1)) ∷ (2, G Halt) ∷ []
unfolding lines_to first_tick_alone
tick_by_tick = refl

ends_last : with_ends 7 (End 0 0 ∷ []) (Halt ∷ []) ((7, G Halt) ∷ []) ≡ (7, G Halt) ∷ (7, R (End 0 0)) ∷ (7, G Halt) ∷ []
ends_last = refl
