-- The lines of edges, one after another and as one list.
use Rattle.std.proofs.Common.{◌≡◌, ℕ, zero, suc, ◌+◌, ◌-◌, ◌<◌, ◌≤◌, Bool, true, false, List, [], ◌∷◌, ◌++◌, map, filter, cond, refl, sym, ap, ◌∙◌, append_assoc, append-nil, arith}
use Rattle.std.specs.List.{range_with_len}
use Rattle.line_sets.specs.LineSet.{has}
use Rattle.line_kinds.specs.declared.kinds.HLine.{HLine}
use Rattle.line_kinds.specs.declared.kinds.HLine.TheVariants.{Edge}
use Rattle.trace_lines.specs.TickLines.{TickLines}
use Rattle.hardware_steps.specs.Steps.{edge_if, edged}

one_edge : (b : Bool) (n : ℕ) (xs : List ℕ) (lines : TickLines) → (edge_if b n lines).h ++ map Edge xs ≡ lines.h ++ map Edge (cond b (n ∷ xs) xs)
one_edge true n xs lines = append_assoc lines.h (Edge n ∷ []) (map Edge xs)
one_edge false n xs lines = refl

edge_rest : (b : Bool) (n : ℕ) (hs : List HLine) (lines : TickLines) → (let l = edge_if b n lines in record l { h = hs }) ≡ record lines { h = hs }
edge_rest true n hs lines = refl
edge_rest false n hs lines = refl

pub edged_is : (set : ℕ) (order : List ℕ) (lines : TickLines) → edged set order lines ≡ record lines { h = lines.h ++ map Edge (filter (has set) order) }
unfolding edged
edged_is set [] lines = ap (λ hs. record lines { h = hs }) (sym (append-nil lines.h))
edged_is set (n ∷ order) lines =
    let l = edge_if (has set n) n lines in
    edged_is set order l ∙ edge_rest (has set n) n (l.h ++ map Edge (filter (has set) order)) lines
    ∙ ap (λ hs. record lines { h = hs }) (one_edge (has set n) n (filter (has set) order) lines)

-- the lines from one on, below 16
lines_from : (i k j : ℕ) → i + k ≡ 16 → j ≡ 16 - (i + 1) → i < 16 → range_with_len i k ≡ i ∷ range_with_len (i + 1) j
lines_from i zero j e f small = absurd (omega arith)
lines_from i (suc k) j e f small = let same : k ≡ j = omega arith in ap (λ n. i ∷ range_with_len (i + 1) n) same

pub next_line : (set i : ℕ) (lines : TickLines) → i < 16
    → edged set (range_with_len (i + 1) (16 - (i + 1))) (edge_if (has set i) i lines) ≡ edged set (range_with_len i (16 - i)) lines
unfolding edged
next_line set i lines small =
    sym (ap (λ order. edged set order lines) (lines_from i (16 - i) (16 - (i + 1)) (omega arith) refl small))

pub all_lines : (set i : ℕ) (lines : TickLines) → 16 ≤ i → edged set (range_with_len i (16 - i)) lines ≡ lines
unfolding edged
all_lines set i lines past = let none : 16 - i ≡ 0 = omega arith in ap (λ k. edged set (range_with_len i k) lines) none
