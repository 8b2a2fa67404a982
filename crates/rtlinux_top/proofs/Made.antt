-- A system that is made has no files.
use Rattle.std.proofs.Common.{List, ℕ, Option, Some, None, refl}
use Rattle.std.specs.Prelude.{IfSome, Result, Ok, Err}
use Rattle.outside_io.specs.Store.{Files}
use Rattle.command_words.specs.Make.{AskedMake}
use Rattle.run_files.specs.declared.cause.Refusal.{Refusal}
use Rattle.run_files.specs.declared.cause.Refusal.TheVariants.{Because, NoMemory}
use Rattle.run_files.specs.declared.run.AcceptedRun.{AcceptedRun}
use Rattle.run_files.specs.Refusal.{Accepts, FaultsBy, IfUnread, Tells}
use Rattle.run_files.specs.Verdict.{Verdict}
use Rattle.make_request.specs.Made.{make_verdict}
use Rattle.rtlinux_top.specs.Verdict.{known, verdict_of}
use Rattle.rtlinux_top.specs.Words.{make_asked}

-- what is answered is told
tells : (result : Result AcceptedRun Refusal) (wanted : Verdict) → Accepts result wanted → Tells result wanted
tells (Ok run) wanted is = is
tells (Err (Because why name)) wanted is = λ read. is
tells (Err NoMemory) wanted is = tt

-- whatever a store holds
pub told_of_made : (result : Result AcceptedRun Refusal) (asked : Option AskedMake) (held : Option Files) → Accepts result (make_verdict asked)
    → IfSome (known (make_asked asked) held) (λ files. Tells result (verdict_of (make_asked asked) files))
unfolding verdict_of
told_of_made result None None is = tt
told_of_made result None (Some files) is = tells result _ is
told_of_made result (Some make) held is = tells result _ is

-- no file couldn't be read, and no count rose
pub unread_of_made : (result : Result AcceptedRun Refusal) (P : List ℕ → Type 0) → IfUnread result (λ name. ⊥) → IfUnread result P
unread_of_made (Ok run) P none = tt
unread_of_made (Err (Because why name)) P none = λ read. absurd (none read)
unread_of_made (Err NoMemory) P none = tt

pub calm_of_made : (result : Result AcceptedRun Refusal) (count : ℕ) (last : List ℕ) → IfUnread result (λ name. ⊥) → FaultsBy count count last result
calm_of_made (Ok run) count last none = refl
calm_of_made (Err (Because why name)) count last none = ((λ read. absurd (none read)), (λ other. refl))
calm_of_made (Err NoMemory) count last none = refl
