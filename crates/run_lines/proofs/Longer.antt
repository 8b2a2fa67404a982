-- The lines of more ticks go on from those of fewer.
use Rattle.std.proofs.Common.{ℕ, zero, suc, ◌+◌, List, [], ◌++◌, ap, sym, ◌∙◌, append_assoc, add-zero, add-suc}
use Rattle.std.proofs.lemmas.List.{append-nil}
use Rattle.run_lines.specs.Ticks.{lines_to, stamped, IsPrefixOf}

pub longer : {A : Type 0} (lines : ℕ → List A) (n m : ℕ) → IsPrefixOf (lines_to lines n) (lines_to lines (n + m))
unfolding lines_to
longer lines n zero = ([], rw add-zero (append-nil (lines_to lines n)))
longer {A} lines n (suc m) =
    let before = longer lines n m in
    let said : List (ℕ × A) = stamped (suc (n + m)) (lines (n + m)) in
    (before.0 ++ said, rw add-suc (sym (append_assoc (lines_to lines n) before.0 said) ∙ ap (λ xs. xs ++ said) before.1))
