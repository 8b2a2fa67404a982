-- The text of a run, tick by tick.
use Rattle.std.proofs.Common.{◌≡◌, ℕ, suc, ◌+◌, ◌-◌, ◌<◌, List, [], ◌∷◌, ◌++◌, ap, sym, ◌∙◌, refl, arith, append_assoc, add-one, Option, Bool, true, false}
use Rattle.std.proofs.lemmas.Grind.{flat_map-append}
use Rattle.std.proofs.lemmas.List.Folds.{list_any-append}
use Rattle.std.specs.Prelude.{◌||◌, map, flat_map}
use Rattle.std.specs.List.{list_any}
use Rattle.outside_io.specs.Sink.{appended}
use Rattle.line_kinds.specs.declared.kinds.GLine.{GLine}
use Rattle.line_kinds.specs.declared.kinds.HLine.{HLine}
use Rattle.line_kinds.specs.declared.kinds.Line.{Line}
use Rattle.line_kinds.specs.declared.kinds.Line.TheVariants.{R, G, H}
use Rattle.line_kinds.specs.declared.kinds.RLine.{RLine}
use Rattle.run_output.specs.Merge.{tick_lines}
use Rattle.run_lines.specs.Ticks.{stamped, lines_to, IsPrefixOf}
use Rattle.run_lines.proofs.Longer.{longer}
use Rattle.run_files.specs.declared.run.AcceptedRun.{AcceptedRun}
use Rattle.bare_machine.specs.Run.{bare_end}
use Rattle.priority_schedule.specs.Run.{real_end}
use Rattle.schedule_laws.specs.Both.{both_after, both_g, both_h, both_r}
use Rattle.machine_state.specs.Parts.{MachineParts}
use Rattle.machine_state.specs.States.{bare_of, real_of}
use Rattle.run_files.specs.declared.run.Shown.{Shown}
use Rattle.run_files.specs.declared.run.Shown.TheVariants.{Guest, Both, WithHardware}
use Rattle.run_stream.specs.Ran.{HasRunTo}
use Rattle.run_stream.specs.Lines.{tick_shown, ends_among, ends_shown, shown_at, shown_to, lines_shown, text_of, tick_text, piece_of, guest_text, real_time_text, hardware_text, has_breach, has_fault, shows_breach, shows_fault, is_breach, is_fault, fault_shown}
use Rattle.run_stream.specs.Start.{run_start}
use Rattle.run_stream.proofs.Written.{appended_twice, appended_nothing}

pub text-stamped : (t : ℕ) (lines : List Line) → text_of (stamped t lines) ≡ tick_text t lines
text-stamped t [] = refl
text-stamped t (line ∷ lines) = ap (λ (xs : List ℕ). piece_of (t, line) ++ xs) (text-stamped t lines)

-- one tick more
text_next : (which : Shown) (run : AcceptedRun) (t : ℕ) → text_of (shown_to which run (t + 1)) ≡ text_of (shown_to which run t) ++ tick_text (t + 1) (shown_at which run t)
unfolding lines_to
text_next which run t =
    rw add-one (flat_map-append piece_of (shown_to which run t) (stamped (suc t) (shown_at which run t)) ∙ ap (λ (xs : List ℕ). text_of (shown_to which run t) ++ xs) (text-stamped (suc t) (shown_at which run t)))

pub shown_same : (which : Shown) (run : AcceptedRun) (t : ℕ) (r : List RLine) (h : List HLine) (g : List GLine) → r ≡ both_r (run_start run) t → h ≡ both_h (run_start run) t → g ≡ both_g (run_start run) t
    → tick_shown which r h g ≡ shown_at which run t
unfolding shown_at
shown_same which run t r h g real hardware guest =
    ap (λ x. tick_shown which x h g) real ∙ ap (λ x. tick_shown which (both_r (run_start run) t) x g) hardware ∙ ap (tick_shown which (both_r (run_start run) t) (both_h (run_start run) t)) guest

pub told_next : (old mid new : Option (List ℕ)) (which : Shown) (run : AcceptedRun) (t : ℕ) (said : List Line) → said ≡ shown_at which run t → mid ≡ appended old (text_of (shown_to which run t)) → new ≡ appended mid (tick_text (t + 1) said) → new ≡ appended old (text_of (shown_to which run (t + 1)))
told_next old mid new which run t said same before after =
    after ∙ ap (λ w. appended w (tick_text (t + 1) said)) before ∙ appended_twice old (text_of (shown_to which run t)) (tick_text (t + 1) said)
    ∙ ap (λ (ls : List Line). appended old (text_of (shown_to which run t) ++ tick_text (t + 1) ls)) same ∙ ap (appended old) (sym (text_next which run t))

-- the text of a run around one tick
pub whole_at : (which : Shown) (run : AcceptedRun) (t : ℕ) (said : List Line) → t < run.ticks → said ≡ shown_at which run t → (rest : List ℕ) × (text_of (lines_shown which run) ≡ text_of (shown_to which run t) ++ (tick_text (t + 1) said ++ rest))
whole_at which run t said below same =
    let n : ℕ = run.ticks in
    let m : ℕ = n - (t + 1) in
    let long : (t + 1) + m ≡ n = omega arith in
    let go : IsPrefixOf (shown_to which run (t + 1)) (shown_to which run ((t + 1) + m)) = longer (shown_at which run) (t + 1) m in
    let last : List (ℕ × Line) = stamped n (ends_shown which run n) in
    let mine : List ℕ = tick_text (t + 1) said in
    let step : text_of (shown_to which run (t + 1)) ≡ text_of (shown_to which run t) ++ mine
    = text_next which run t ∙ ap (λ (ls : List Line). text_of (shown_to which run t) ++ tick_text (t + 1) ls) (sym same) in
    let upto : text_of (shown_to which run n) ≡ (text_of (shown_to which run t) ++ mine) ++ text_of go.0
    = ap (λ (k : ℕ). text_of (shown_to which run k)) (sym long) ∙ ap text_of (sym go.1) ∙ flat_map-append piece_of (shown_to which run (t + 1)) go.0 ∙ ap (λ xs. xs ++ text_of go.0) step in (
      text_of go.0 ++ text_of last,
      flat_map-append piece_of (shown_to which run n) last ∙ ap (λ xs. xs ++ text_of last) upto
          ∙ append_assoc (text_of (shown_to which run t) ++ mine) (text_of go.0) (text_of last) ∙ append_assoc (text_of (shown_to which run t)) mine (text_of go.0 ++ text_of last),
    )

-- the text of a run before its end lines
pub whole_end : (which : Shown) (run : AcceptedRun) (t : ℕ) (said : List Line) → t ≡ run.ticks → said ≡ ends_shown which run t → text_of (lines_shown which run) ≡ text_of (shown_to which run t) ++ tick_text run.ticks said
whole_end which run t said done told =
    let n : ℕ = run.ticks in
    flat_map-append piece_of (shown_to which run n) (stamped n (ends_shown which run n))
    ∙ ap (λ (xs : List ℕ). text_of (shown_to which run n) ++ xs) (text-stamped n (ends_shown which run n))
    ∙ ap (λ (s : ℕ). text_of (shown_to which run s) ++ tick_text n (ends_shown which run s)) (sym done)
    ∙ ap (λ (ls : List Line). text_of (shown_to which run t) ++ tick_text n ls) (sym told)

-- whether a line of a kind is among the lines

abbrev any_shown : (Line → Bool) → List (ℕ × Line) → Bool
any_shown shows lines = list_any (λ line. shows line.1) lines

any-append : (shows : Line → Bool) (xs ys : List (ℕ × Line)) → any_shown shows (xs ++ ys) ≡ (any_shown shows xs || any_shown shows ys)
any-append shows xs ys = list_any-append (λ (line : ℕ × Line). shows line.1) xs ys

any-stamped : (shows : Line → Bool) (t : ℕ) (lines : List Line) → any_shown shows (stamped t lines) ≡ list_any shows lines
any-stamped shows t [] = refl
any-stamped shows t (line ∷ lines) = ap (λ (b : Bool). shows line || b) (any-stamped shows t lines)

-- a kind of guest's lines, and one of real-time lines
guest-any : (lines : List GLine) → list_any shows_breach (map G lines) ≡ list_any is_breach lines
guest-any [] = refl
guest-any (line ∷ lines) = ap (λ (b : Bool). is_breach line || b) (guest-any lines)

real-any : (lines : List RLine) (others : List Line) → list_any shows_breach (map R lines ++ others) ≡ list_any shows_breach others
real-any [] others = refl
real-any (line ∷ lines) others = real-any lines others

hardware-any : (shows : Line → Bool) → ((line : HLine) → shows (H line) ≡ false) → (lines : List HLine) (others : List Line) → list_any shows (map H lines ++ others) ≡ list_any shows others
hardware-any shows none [] others = refl
hardware-any shows none (line ∷ lines) others = ap (λ b. b || list_any shows (map H lines ++ others)) (none line) ∙ hardware-any shows none lines others

breach-shown : (which : Shown) (r : List RLine) (h : List HLine) (g : List GLine) → list_any shows_breach (tick_shown which r h g) ≡ list_any is_breach g
breach-shown Guest r h g = guest-any g
breach-shown Both r h g = real-any r (map G g) ∙ guest-any g
breach-shown WithHardware r h g = real-any r (map H h ++ map G g) ∙ hardware-any shows_breach (λ line. refl) h (map G g) ∙ guest-any g

fault-guest : (lines : List GLine) → list_any shows_fault (map G lines) ≡ false
fault-guest [] = refl
fault-guest (line ∷ lines) = fault-guest lines

fault-real : (lines : List RLine) (others : List Line) → list_any shows_fault others ≡ false → list_any shows_fault (map R lines ++ others) ≡ list_any is_fault lines
fault-real [] others none = none
fault-real (line ∷ lines) others none = ap (λ (b : Bool). is_fault line || b) (fault-real lines others none)

fault-shown : (which : Shown) (r : List RLine) (h : List HLine) (g : List GLine) → list_any shows_fault (tick_shown which r h g) ≡ fault_shown which r
fault-shown Guest r h g = fault-guest g
fault-shown Both r h g = fault-real r (map G g) (fault-guest g)
fault-shown WithHardware r h g = fault-real r (map H h ++ map G g) (hardware-any shows_fault (λ line. refl) h (map G g) ∙ fault-guest g)

-- one tick more
any_next : (shows : Line → Bool) (which : Shown) (run : AcceptedRun) (t : ℕ) (said : List Line) (before now found : Bool)
    → said ≡ shown_at which run t → before ≡ any_shown shows (shown_to which run t) → list_any shows said ≡ found → now ≡ (before || found) → now ≡ any_shown shows (shown_to which run (t + 1))
unfolding lines_to
any_next shows which run t said before now found same so_far finds is =
    rw add-one (is ∙ ap (λ (x : Bool). x || found) so_far
    ∙ ap (λ (x : Bool). any_shown shows (shown_to which run t) || x) (sym finds ∙ ap (list_any shows) same ∙ sym (any-stamped shows (suc t) (shown_at which run t)))
    ∙ sym (any-append shows (shown_to which run t) (stamped (suc t) (shown_at which run t))))

pub breach_next : (which : Shown) (run : AcceptedRun) (t : ℕ) (r : List RLine) (h : List HLine) (g : List GLine) (before now : Bool) → tick_shown which r h g ≡ shown_at which run t
    → before ≡ has_breach (shown_to which run t) → now ≡ (before || list_any is_breach g) → now ≡ has_breach (shown_to which run (t + 1))
breach_next which run t r h g before now same so_far is =
    any_next shows_breach which run t (tick_shown which r h g) before now (list_any is_breach g) same so_far (breach-shown which r h g) is

pub fault_next : (which : Shown) (run : AcceptedRun) (t : ℕ) (r : List RLine) (h : List HLine) (g : List GLine) (before now : Bool) → tick_shown which r h g ≡ shown_at which run t
    → before ≡ has_fault (shown_to which run t) → now ≡ (before || fault_shown which r) → now ≡ has_fault (shown_to which run (t + 1))
fault_next which run t r h g before now same so_far is =
    any_next shows_fault which run t (tick_shown which r h g) before now (fault_shown which r) same so_far (fault-shown which r h g) is

-- no end line is one
no_breach : (which : Shown) (run : AcceptedRun) (n : ℕ) → list_any shows_breach (ends_shown which run n) ≡ false
no_breach Guest run n = refl
no_breach Both run n = refl
no_breach WithHardware run n = refl

no_fault : (which : Shown) (run : AcceptedRun) (n : ℕ) → list_any shows_fault (ends_shown which run n) ≡ false
no_fault Guest run n = refl
no_fault Both run n = refl
no_fault WithHardware run n = refl

or_none : (found other : Bool) → other ≡ false → found ≡ (found || other)
or_none true other none = refl
or_none false other none = sym none

any_end : (shows : Line → Bool) (which : Shown) (run : AcceptedRun) (t : ℕ) → list_any shows (ends_shown which run run.ticks) ≡ false → t ≡ run.ticks
    → any_shown shows (shown_to which run t) ≡ any_shown shows (lines_shown which run)
any_end shows which run t none done =
    let n : ℕ = run.ticks in
    ap (λ (k : ℕ). any_shown shows (shown_to which run k)) done
    ∙ or_none (any_shown shows (shown_to which run n)) (any_shown shows (stamped n (ends_shown which run n))) (any-stamped shows n (ends_shown which run n) ∙ none)
    ∙ sym (any-append shows (shown_to which run n) (stamped n (ends_shown which run n)))

pub breach_end : (which : Shown) (run : AcceptedRun) (t : ℕ) → t ≡ run.ticks → has_breach (shown_to which run t) ≡ has_breach (lines_shown which run)
breach_end which run t done = any_end shows_breach which run t (no_breach which run run.ticks) done

pub fault_end : (which : Shown) (run : AcceptedRun) (t : ℕ) → t ≡ run.ticks → has_fault (shown_to which run t) ≡ has_fault (lines_shown which run)
fault_end which run t done = any_end shows_fault which run t (no_fault which run run.ticks) done

-- before the first tick nothing was said
nothing_said : (which : Shown) (run : AcceptedRun) → shown_to which run 0 ≡ []
unfolding lines_to
nothing_said which run = refl

pub told_first : (old : Option (List ℕ)) (which : Shown) (run : AcceptedRun) → old ≡ appended old (text_of (shown_to which run 0))
told_first old which run = appended_nothing old ∙ ap (λ (lines : List (ℕ × Line)). appended old (text_of lines)) (sym (nothing_said which run))

pub breach_first : (which : Shown) (run : AcceptedRun) → false ≡ has_breach (shown_to which run 0)
breach_first which run = ap has_breach (sym (nothing_said which run))

pub fault_first : (which : Shown) (run : AcceptedRun) → false ≡ has_fault (shown_to which run 0)
fault_first which run = ap has_fault (sym (nothing_said which run))

-- the text of the lines of each half
pub text-guest : (t : ℕ) (lines : List GLine) → flat_map (λ line. piece_of (t, G line)) lines ≡ tick_text t (map G lines)
text-guest t [] = refl
text-guest t (line ∷ lines) = ap (λ (xs : List ℕ). piece_of (t, G line) ++ xs) (text-guest t lines)

text-real : (t : ℕ) (lines : List RLine) → flat_map (λ line. piece_of (t, R line)) lines ≡ tick_text t (map R lines)
text-real t [] = refl
text-real t (line ∷ lines) = ap (λ (xs : List ℕ). piece_of (t, R line) ++ xs) (text-real t lines)

text-hardware : (t : ℕ) (lines : List HLine) → flat_map (λ line. piece_of (t, H line)) lines ≡ tick_text t (map H lines)
text-hardware t [] = refl
text-hardware t (line ∷ lines) = ap (λ (xs : List ℕ). piece_of (t, H line) ++ xs) (text-hardware t lines)

pub text-both : (t : ℕ) (r : List RLine) (g : List GLine) → real_time_text t r ++ guest_text t g ≡ tick_text t (map R r ++ map G g)
text-both t r g =
    ap (λ xs. xs ++ guest_text t g) (text-real t r) ∙ ap (λ xs. tick_text t (map R r) ++ xs) (text-guest t g)
    ∙ sym (flat_map-append (λ line. piece_of (t, line)) (map R r) (map G g))

text-behind : (t : ℕ) (h : List HLine) (g : List GLine) → hardware_text t h ++ guest_text t g ≡ tick_text t (map H h ++ map G g)
text-behind t h g =
    ap (λ xs. xs ++ guest_text t g) (text-hardware t h) ∙ ap (λ xs. tick_text t (map H h) ++ xs) (text-guest t g)
    ∙ sym (flat_map-append (λ line. piece_of (t, line)) (map H h) (map G g))

pub text-all : (t : ℕ) (r : List RLine) (h : List HLine) (g : List GLine) → real_time_text t r ++ (hardware_text t h ++ guest_text t g) ≡ tick_text t (tick_lines true r h g)
text-all t r h g =
    ap (λ xs. xs ++ (hardware_text t h ++ guest_text t g)) (text-real t r) ∙ ap (λ xs. tick_text t (map R r) ++ xs) (text-behind t h g)
    ∙ sym (flat_map-append (λ line. piece_of (t, line)) (map R r) (map H h ++ map G g))

-- the end lines of a machine that ran so many ticks
pub ends_same : (which : Shown) (run : AcceptedRun) (t : ℕ) (m : MachineParts) (r : List RLine) (g : List GLine) → HasRunTo run t m
    → r ≡ real_end (real_of m) → g ≡ bare_end (bare_of m) → ends_among which r g ≡ ends_shown which run t
ends_same which run t m r g ran real guest = ap (λ x. ends_among which x g) (real ∙ ap real_end ran.real) ∙ ap (ends_among which (real_end (both_after (run_start run) t).real)) (guest ∙ ap bare_end ran.bare)

pub told_end : (old mid new : Option (List ℕ)) (which : Shown) (run : AcceptedRun) (t : ℕ) (ends : List Line) → t ≡ run.ticks → ends ≡ ends_shown which run t
    → mid ≡ appended old (text_of (shown_to which run t)) → new ≡ appended mid (tick_text run.ticks ends) → new ≡ appended old (text_of (lines_shown which run))
told_end old mid new which run t ends done same before after =
    after ∙ ap (λ w. appended w (tick_text run.ticks ends)) before ∙ appended_twice old (text_of (shown_to which run t)) (tick_text run.ticks ends)
    ∙ ap (appended old) (sym (whole_end which run t ends done same))
