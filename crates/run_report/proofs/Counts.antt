-- How many lines of one letter there are.
use Rattle.std.proofs.Common.{◌≡◌, ℕ, suc, ◌+◌, List, [], ◌∷◌, ◌++◌, map, take, Option, refl, ap, ◌∙◌, length, arith}
use Rattle.std.proofs.lemmas.List.{length-append}
use Rattle.std.proofs.lemmas.List.Elements.{filter_map-append}
use Rattle.line_kinds.specs.declared.kinds.GLine.{GLine}
use Rattle.line_kinds.specs.declared.kinds.HLine.{HLine}
use Rattle.line_kinds.specs.declared.kinds.Line.{Line}
use Rattle.line_kinds.specs.declared.kinds.Line.TheVariants.{R, G, H}
use Rattle.line_kinds.specs.declared.kinds.RLine.{RLine}
use Rattle.run_lines.specs.Ticks.{stamped}
use Rattle.run_output.specs.Halves.{found, with_tick, real_time_in, guest_in}
use Rattle.run_files.specs.declared.run.Shown.{Shown}
use Rattle.run_files.specs.declared.run.Shown.TheVariants.{Guest, Both, WithHardware}
use Rattle.run_stream.specs.Lines.{tick_shown, ends_among}
use Rattle.run_report.specs.Report.{count}
use Rattle.run_report.specs.Sums.{real_time_shown, guest_ends}

pub count_behind : {A : Type 0} (letter : Line → Option A) (xs ys : List (ℕ × Line)) → count letter (xs ++ ys) ≡ count letter xs + count letter ys
count_behind letter xs ys = ap length (filter_map-append (with_tick letter) xs ys) ∙ length-append (found letter xs) (found letter ys)

-- of one tick

real_real : (t : ℕ) (r : List RLine) (rest : List Line) → count real_time_in (stamped t (map R r ++ rest)) ≡ length r + count real_time_in (stamped t rest)
real_real t [] rest = omega arith
real_real t (line ∷ lines) rest = let others = real_real t lines rest in omega (arith, others)

real_hardware : (t : ℕ) (h : List HLine) (rest : List Line) → count real_time_in (stamped t (map H h ++ rest)) ≡ count real_time_in (stamped t rest)
real_hardware t [] rest = refl
real_hardware t (line ∷ lines) rest = real_hardware t lines rest

real_guest : (t : ℕ) (g : List GLine) → count real_time_in (stamped t (map G g)) ≡ 0
real_guest t [] = refl
real_guest t (line ∷ lines) = real_guest t lines

guest_real : (t : ℕ) (r : List RLine) (rest : List Line) → count guest_in (stamped t (map R r ++ rest)) ≡ count guest_in (stamped t rest)
guest_real t [] rest = refl
guest_real t (line ∷ lines) rest = guest_real t lines rest

guest_hardware : (t : ℕ) (h : List HLine) (rest : List Line) → count guest_in (stamped t (map H h ++ rest)) ≡ count guest_in (stamped t rest)
guest_hardware t [] rest = refl
guest_hardware t (line ∷ lines) rest = guest_hardware t lines rest

guest_guest : (t : ℕ) (g : List GLine) → count guest_in (stamped t (map G g)) ≡ length g
guest_guest t [] = refl
guest_guest t (line ∷ lines) = ap suc (guest_guest t lines)

real_both : (t : ℕ) (r : List RLine) (g : List GLine) → count real_time_in (stamped t (map R r ++ map G g)) ≡ length r
real_both t r g =
    let real = real_real t r (map G g) in
    let guest = real_guest t g in
    omega (arith, real, guest)

guest_both : (t : ℕ) (r : List RLine) (g : List GLine) → count guest_in (stamped t (map R r ++ map G g)) ≡ length g
guest_both t r g = guest_real t r (map G g) ∙ guest_guest t g

pub tick_real : (which : Shown) (t : ℕ) (r : List RLine) (h : List HLine) (g : List GLine) → count real_time_in (stamped t (tick_shown which r h g)) ≡ real_time_shown which r
tick_real Guest t r h g = real_guest t g
tick_real Both t r h g = real_both t r g
tick_real WithHardware t r h g =
    let real = real_real t r (map H h ++ map G g) in
    let others = real_hardware t h (map G g) ∙ real_guest t g in
    omega (arith, real, others)

pub tick_guest : (which : Shown) (t : ℕ) (r : List RLine) (h : List HLine) (g : List GLine) → count guest_in (stamped t (tick_shown which r h g)) ≡ length g
tick_guest Guest t r h g = guest_guest t g
tick_guest Both t r h g = guest_both t r g
tick_guest WithHardware t r h g = guest_real t r (map H h ++ map G g) ∙ guest_hardware t h (map G g) ∙ guest_guest t g

pub ends_real : (which : Shown) (t : ℕ) (r : List RLine) (g : List GLine) → count real_time_in (stamped t (ends_among which r g)) ≡ real_time_shown which r
ends_real Guest t r g = real_guest t (take 1 g)
ends_real Both t r g = real_both t r g
ends_real WithHardware t r g = real_both t r g

pub ends_guest : (which : Shown) (t : ℕ) (r : List RLine) (g : List GLine) → count guest_in (stamped t (ends_among which r g)) ≡ guest_ends which g
ends_guest Guest t r g = guest_guest t (take 1 g)
ends_guest Both t r g = guest_both t r g
ends_guest WithHardware t r g = guest_both t r g
