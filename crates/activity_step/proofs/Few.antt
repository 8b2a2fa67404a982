-- How many lines a unit has at most.
use Rattle.std.proofs.Common.{◌≡◌, ◌≤◌, ℕ, ◌+◌, suc, Bool, true, false, cond, List, [], ◌∷◌, ◌++◌, map, length, ap, ◌∙◌, arith, Option, Some, None, length-append}
use Rattle.std.specs.List.{filter}
use Rattle.std.proofs.lemmas.List.{length-map}
use Rattle.line_sets.specs.LineSet.{has}
use Rattle.line_kinds.specs.declared.kinds.HLine.TheVariants.{Edge}
use Rattle.line_kinds.specs.declared.kinds.RLine.{RLine}
use Rattle.trace_lines.specs.TickLines.{TickLines}
use Rattle.hardware_lines.specs.Hardware.{rising_order}
use Rattle.hardware_steps.specs.Steps.{taken_acks, with_edge_lines}

no_longer : (b : Bool) (n k : ℕ) (xs : List ℕ) → length xs ≤ k → length (cond b (n ∷ xs) xs) ≤ suc k
no_longer true n k xs h = omega (arith, h)
no_longer false n k xs h = omega (arith, h)

filtered : (test : ℕ → Bool) (xs : List ℕ) → length (filter test xs) ≤ length xs
filtered test [] = omega arith
filtered test (x ∷ xs) = no_longer (test x) x (length xs) (filter test xs) (filtered test xs)

edge_count : (set : ℕ) → length (map Edge (filter (has set) rising_order)) ≤ 16
edge_count set = let e = length-map (filter (has set) rising_order) Edge in let f : length (filter (has set) rising_order) ≤ 16 = filtered
    (has set) rising_order in omega (arith, e, f)

pub few_edges : (set : ℕ) (lines shown : TickLines) → shown ≡ with_edge_lines set lines
    → (length shown.r ≤ length lines.r + 2) × (length shown.h ≤ length lines.h + 17)
few_edges set lines shown e =
    let r = ap (λ (l : TickLines). length l.r) e in
    let h = ap (λ (l : TickLines). length l.h) e ∙ length-append lines.h (map Edge (filter (has set) rising_order)) in
    let n = edge_count set in
    (omega (arith, r), omega (arith, h, n))

one_ack : (taken : Option ℕ) → length (taken_acks taken) ≤ 1
one_ack None = omega arith
one_ack (Some line) = omega arith

-- by an end
pub few_by_end : (taken : Option ℕ) (line : RLine) (lines shown : TickLines)
    → shown ≡ record lines { r = lines.r ++ line ∷ []; h = lines.h ++ taken_acks taken }
    → (length shown.r ≤ length lines.r + 1) × (length shown.h ≤ length lines.h + 1)
few_by_end taken line lines shown e =
    let r = ap (λ (l : TickLines). length l.r) e ∙ length-append lines.r (line ∷ []) in
    let h = ap (λ (l : TickLines). length l.h) e ∙ length-append lines.h (taken_acks taken) in
    let n = one_ack taken in
    (omega (arith, r), omega (arith, h, n))

-- by an acknowledgement
pub few_acks : (taken : Option ℕ) (lines shown : TickLines) → shown ≡ record lines { h = lines.h ++ taken_acks taken }
    → length shown.h ≤ length lines.h + 1
few_acks taken lines shown e =
    let h = ap (λ (l : TickLines). length l.h) e ∙ length-append lines.h (taken_acks taken) in
    let n = one_ack taken in
    omega (arith, h, n)
