-- The lines of a letter among the lines of a run.
use Rattle.std.proofs.Common.{◌≡◌, ℕ, zero, suc, Bool, true, false, refl, ap, ◌∙◌, List, [], ◌∷◌, ◌++◌, map, if◌then◌else◌, Option, Some, None}
use Rattle.std.specs.Prelude.{option_map}
use Rattle.std.specs.List.{filter_map, cons_option}
use Rattle.std.proofs.lemmas.List.{append-nil}
use Rattle.std.proofs.lemmas.List.Elements.{filter_map-append}
use Rattle.line_kinds.specs.declared.kinds.GLine.{GLine}
use Rattle.line_kinds.specs.declared.kinds.HLine.{HLine}
use Rattle.line_kinds.specs.declared.kinds.Line.{Line}
use Rattle.line_kinds.specs.declared.kinds.Line.TheVariants.{R, G, H}
use Rattle.line_kinds.specs.declared.kinds.RLine.{RLine}
use Rattle.run_lines.specs.Ticks.{stamped, lines_to}
use Rattle.run_lines.proofs.AtTick.{lines_to-same}
use Rattle.run_output.specs.Halves.{found, with_tick, real_time_in, guest_in, hardware_in}
use Rattle.run_output.specs.Merge.{tick_lines, merged, with_ends}

found-stamped : {A : Type 0} (letter : Line → Option A) (t : ℕ) (lines : List Line) → found letter (stamped t lines) ≡ stamped t (filter_map letter lines)
found-stamped letter t [] = refl
found-stamped {A} letter t (x ∷ xs) =
    let ih = found-stamped letter t xs in
    elim (letter x) as (λ o. cons_option (option_map (λ (line : A). (t, line)) o) (found letter (stamped t xs)) ≡ stamped t (cons_option o (filter_map letter xs))) [
      | None ↦ ih
      | Some line ↦ ap (λ zs. (t, line) ∷ zs) ih
    ]

found-ticks : {A : Type 0} (letter : Line → Option A) (lines : ℕ → List Line) (n : ℕ) → found letter (lines_to lines n) ≡ lines_to (λ k. filter_map letter (lines k)) n
unfolding lines_to
found-ticks letter lines zero = refl
found-ticks letter lines (suc n) =
    filter_map-append (with_tick letter) (lines_to lines n) (stamped (suc n) (lines n))
    ∙ ap (λ zs. zs ++ found letter (stamped (suc n) (lines n))) (found-ticks letter lines n)
    ∙ ap (λ zs. lines_to (λ k. filter_map letter (lines k)) n ++ zs) (found-stamped letter (suc n) (lines n))

-- each letter finds its own lines, and none of another letter
own : {A : Type 0} (letter : Line → Option A) (made : A → Line) → ((a : A) → letter (made a) ≡ Some a) → (lines : List A) → filter_map letter (map made lines) ≡ lines
own letter made is [] = refl
own letter made is (a ∷ lines) = rw (is a) (ap (λ zs. a ∷ zs) (own letter made is lines))

others : {A B : Type 0} (letter : Line → Option A) (made : B → Line) → ((b : B) → letter (made b) ≡ None) → (lines : List B) → filter_map letter (map made lines) ≡ []
others letter made never [] = refl
others letter made never (b ∷ lines) = rw (never b) (others letter made never lines)

-- in a tick
parts : {A : Type 0} (letter : Line → Option A) (hardware : Bool) (r : List RLine) (h : List HLine) (g : List GLine)
    → filter_map letter (tick_lines hardware r h g) ≡ filter_map letter (map R r) ++ (filter_map letter (if hardware then map H h else []) ++ filter_map letter (map G g))
parts letter hardware r h g =
    filter_map-append letter (map R r) ((if hardware then map H h else []) ++ map G g)
    ∙ ap (λ zs. filter_map letter (map R r) ++ zs) (filter_map-append letter (if hardware then map H h else []) (map G g))

no_hardware : {A : Type 0} (letter : Line → Option A) (hardware : Bool) (h : List HLine) → ((line : HLine) → letter (H line) ≡ None) → filter_map letter (if hardware then map H h else []) ≡ []
no_hardware letter true h never = others letter H never h
no_hardware letter false h never = refl

real_time_tick : (hardware : Bool) (r : List RLine) (h : List HLine) (g : List GLine) → filter_map real_time_in (tick_lines hardware r h g) ≡ r
real_time_tick hardware r h g =
    parts real_time_in hardware r h g
    ∙ rw (own real_time_in R (λ a. refl) r, no_hardware real_time_in hardware h (λ line. refl), others real_time_in G (λ b. refl) g) (append-nil r)

guest_tick : (hardware : Bool) (r : List RLine) (h : List HLine) (g : List GLine) → filter_map guest_in (tick_lines hardware r h g) ≡ g
guest_tick hardware r h g =
    parts guest_in hardware r h g
    ∙ rw (others guest_in R (λ b. refl) r, no_hardware guest_in hardware h (λ line. refl), own guest_in G (λ a. refl) g) refl

hardware_tick : (r : List RLine) (h : List HLine) (g : List GLine) → filter_map hardware_in (tick_lines true r h g) ≡ h
hardware_tick r h g =
    parts hardware_in true r h g
    ∙ rw (others hardware_in R (λ b. refl) r, own hardware_in H (λ a. refl) h, others hardware_in G (λ b. refl) g) (append-nil h)

-- among the end lines
ends : {A : Type 0} (letter : Line → Option A) (n : ℕ) (r : List RLine) (g : List GLine) (lines : List (ℕ × Line))
    → found letter (with_ends n r g lines) ≡ found letter lines ++ stamped n (filter_map letter (map R r) ++ filter_map letter (map G g))
ends letter n r g lines =
    filter_map-append (with_tick letter) lines (stamped n (map R r ++ map G g))
    ∙ ap (λ zs. found letter lines ++ zs) (found-stamped letter n (map R r ++ map G g) ∙ ap (stamped n) (filter_map-append letter (map R r) (map G g)))

pub real_time_found : (hardware : Bool) (n : ℕ) (r : ℕ → List RLine) (h : ℕ → List HLine) (g : ℕ → List GLine) (r_ends : List RLine) (g_ends : List GLine)
    → found real_time_in (with_ends n r_ends g_ends (merged hardware r h g n)) ≡ lines_to r n ++ stamped n r_ends
real_time_found hardware n r h g r_ends g_ends =
    ends real_time_in n r_ends g_ends (merged hardware r h g n)
    ∙ rw (own real_time_in R (λ a. refl) r_ends, others real_time_in G (λ b. refl) g_ends, append-nil r_ends)
    (ap (λ zs. zs ++ stamped n r_ends) (found-ticks real_time_in (λ k. tick_lines hardware (r k) (h k) (g k)) n
    ∙ lines_to-same (λ k. filter_map real_time_in (tick_lines hardware (r k) (h k) (g k))) r n (λ k _. real_time_tick hardware (r k) (h k) (g k))))

pub guest_found : (hardware : Bool) (n : ℕ) (r : ℕ → List RLine) (h : ℕ → List HLine) (g : ℕ → List GLine) (r_ends : List RLine) (g_ends : List GLine)
    → found guest_in (with_ends n r_ends g_ends (merged hardware r h g n)) ≡ lines_to g n ++ stamped n g_ends
guest_found hardware n r h g r_ends g_ends =
    ends guest_in n r_ends g_ends (merged hardware r h g n)
    ∙ rw (others guest_in R (λ b. refl) r_ends, own guest_in G (λ a. refl) g_ends)
    (ap (λ zs. zs ++ stamped n g_ends) (found-ticks guest_in (λ k. tick_lines hardware (r k) (h k) (g k)) n
    ∙ lines_to-same (λ k. filter_map guest_in (tick_lines hardware (r k) (h k) (g k))) g n (λ k _. guest_tick hardware (r k) (h k) (g k))))

pub hardware_found : (n : ℕ) (r : ℕ → List RLine) (h : ℕ → List HLine) (g : ℕ → List GLine) (r_ends : List RLine) (g_ends : List GLine)
    → found hardware_in (with_ends n r_ends g_ends (merged true r h g n)) ≡ lines_to h n
hardware_found n r h g r_ends g_ends =
    ends hardware_in n r_ends g_ends (merged true r h g n)
    ∙ rw (others hardware_in R (λ b. refl) r_ends, others hardware_in G (λ b. refl) g_ends)
    (append-nil (found hardware_in (merged true r h g n)) ∙ found-ticks hardware_in (λ k. tick_lines true (r k) (h k) (g k)) n
    ∙ lines_to-same (λ k. filter_map hardware_in (tick_lines true (r k) (h k) (g k))) h n (λ k _. hardware_tick (r k) (h k) (g k)))
