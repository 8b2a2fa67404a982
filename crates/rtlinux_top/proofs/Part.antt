-- What holds of the verdict of a run that was accepted.
use Rattle.std.proofs.Common.{◌≡◌, ◌⊎◌, Option, Some, None, sym, subst, inl}
use Rattle.std.specs.Prelude.{IfSome, Ok}
use Rattle.outside_io.specs.Store.{Files}
use Rattle.run_files.specs.declared.run.AcceptedRun.{AcceptedRun}
use Rattle.run_files.specs.Verdict.{Verdict}
use Rattle.rtlinux_top.specs.Verdict.{verdict_of}
use Rattle.rtlinux_top.specs.Words.{Asked}

-- it holds of what the words and the files determine, where the store tells
pub part_of_run : (asked : Asked) (held : Option Files) (run : AcceptedRun) (P : Verdict → Type 0) (Other : Type 0)
    → IfSome held (λ files. verdict_of asked files ≡ Ok run) → P (Ok run) → IfSome held (λ files. P (verdict_of asked files) ⊎ Other)
part_of_run asked None run P Other told holds = tt
part_of_run asked (Some files) run P Other told holds = inl (subst P (sym told) holds)
