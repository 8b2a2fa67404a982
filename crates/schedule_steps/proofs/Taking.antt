-- The first due that has come, and what a round leaves where it is a thread's or the guest's.
use Rattle.std.proofs.Common.{◌≡◌, ℕ, ◌+◌, ◌<◌, ◌≤◌, Bool, true, false, cond, nat_le, nat_lt, List, [], ◌∷◌, ◌++◌, length, get_or, refl, sym, ap, ◌∙◌, subst, arith, Option, Some, None}
use Rattle.std.specs.Prelude.{if◌then◌else◌, slice_set, unwrap_or}
use Rattle.std.proofs.lemmas.Bool.Decides.{nat_tests}
use Rattle.std.proofs.lemmas.List.{get_or-map, length-append, length-map, set-set}
use Rattle.std.proofs.lemmas.List.Sums.{sum_by-set}
use Rattle.rt_constants.specs.declared.limits.TheConstants.{THREADS_LIMIT}
use Rattle.memory_model.specs.Side.{Side}
use Rattle.rt_threads.specs.declared.threads.Thread.{Thread}
use Rattle.rt_threads.specs.declared.threads.State.{State}
use Rattle.rt_threads.specs.declared.threads.State.TheVariants.{Ready, Waiting, Suspended}
use Rattle.rt_threads.specs.Threads.{due_at, due_held, due_of, dues_of, is_live, is_ready_in, is_ready_state, with_state, with_thread}
use Rattle.rt_timeline.specs.declared.timeline.ThreadDue.{ThreadDue}
use Rattle.rt_timeline.specs.declared.timeline.Due.{Due}
use Rattle.rt_timeline.specs.declared.timeline.Due.TheVariants.{Thread as DueOf, Guest}
use Rattle.rt_timeline.specs.Dues.{Dues, come, come_by, first_due, nearest_from, taken_from, with_due}
use Rattle.line_kinds.specs.declared.kinds.RLine.TheVariants.{Release}
use Rattle.gate_table.specs.Gates.{GateParts}
use Rattle.executive.specs.declared.executive.Executive.{Executive}
use Rattle.executive.specs.Agreement.{Agrees}
use Rattle.executive.specs.Parts.{gate_parts}
use Rattle.thread_gates.specs.Changes.{released as released_parts, with_listed}
use Rattle.priority_schedule.specs.State.{RealTime, with_parts}
use Rattle.priority_schedule.specs.Release.{after_one, nearest, released}
use Rattle.priority_schedule.proofs.Dues.{come_by as come_below, come_live, come_of}
use Rattle.priority_schedule.proofs.Released.{released_done, released_stays}
use Rattle.trace_lines.specs.TickLines.{TickLines}
use Rattle.schedule_steps.specs.Dues.{has_come, threads_come}
use Rattle.schedule_steps.specs.Rounds.{IsRound, NoneCome, Releases}
use Rattle.schedule_steps.specs.States.{ticking}

-- The first due

abbrev taken_if : Bool → Due × ℕ → Option (Due × ℕ)
taken_if b x = if b then Some x else None

abbrev first_of : Bool → ThreadDue → ℕ → Option (Due × ℕ)
first_of b d g = if b then Some (Guest, g) else Some (DueOf d.id, d.due)

same_pair : (x y : Due × ℕ) → Some x ≡ Some y → x ≡ y
same_pair x y h = ap (λ (o : Option (Due × ℕ)). unwrap_or o x) h

not_come : (b : Bool) (x : Due × ℕ) → taken_if b x ≡ None → b ≡ false
not_come true x h = absurd cc
not_come false x h = refl

thread_not : (now : ℕ) (d : ThreadDue) → nat_le d.due now ≡ false → come now (Some d) ≡ None
thread_not now d e = ap (λ b. if b then Some d else None) e

neither : (now : ℕ) (near : Option ThreadDue) (guest : Option ℕ) → come_by now (first_due near guest) ≡ None → (come now near ≡ None) × (has_come now guest ≡ false)
neither now None None h = (refl, refl)
neither now None (Some g) h = (refl, not_come (nat_le g now) (Guest, g) h)
neither now (Some d) None h = (thread_not now d (not_come (nat_le d.due now) (DueOf d.id, d.due) h), refl)
neither now (Some d) (Some g) h =
    elim (nat_lt g d.due) as (λ b. nat_lt g d.due ≡ b → come_by now (first_of b d g) ≡ None → (come now (Some d) ≡ None) × (has_come now (Some g) ≡ false)) [
      | true ↦ λ e f.
          let later = not_come (nat_le g now) (Guest, g) f in
          let too : nat_le d.due now ≡ false = grind (arith, nat_tests, e, later) in
          (thread_not now d too, later)
      | false ↦ λ e f.
          let later = not_come (nat_le d.due now) (DueOf d.id, d.due) f in
          let too : nat_le g now ≡ false = grind (arith, nat_tests, e, later) in
          (thread_not now d later, too)
    ] refl h

own_due : (now i due : ℕ) (d : ThreadDue) → taken_if (nat_le d.due now) (DueOf d.id, d.due) ≡ Some (DueOf i, due) → come now (Some d) ≡ Some (record { id = i; due = due })
own_due now i due d h =
    elim (nat_le d.due now) as (λ b. taken_if b (DueOf d.id, d.due) ≡ Some (DueOf i, due) → (if b then Some d else None) ≡ Some (record { id = i; due = due })) [
      | true ↦ λ e.
          let p = same_pair (DueOf d.id, d.due) (DueOf i, due) e in
          let owner : DueOf d.id ≡ DueOf i = ap (λ (x : Due × ℕ). x.0) p in
          let same : d.id ≡ i = cc in
          ap (λ k. Some (record { id = k; due = d.due })) same ∙ ap (λ (x : Due × ℕ). Some (record { id = i; due = x.1 })) p
      | false ↦ λ e. absurd cc
    ] h

guest_isnt : (b : Bool) (g i due : ℕ) → taken_if b (Guest, g) ≡ Some (DueOf i, due) → ⊥
guest_isnt true g i due h = let e : Guest ≡ DueOf i = ap (λ (x : Due × ℕ). x.0) (same_pair (Guest, g) (DueOf i, due) h) in absurd cc
guest_isnt false g i due h = absurd cc

thread_isnt : (b : Bool) (g i due : ℕ) → taken_if b (DueOf i, due) ≡ Some (Guest, g) → ⊥
thread_isnt true g i due h = let e : DueOf i ≡ Guest = ap (λ (x : Due × ℕ). x.0) (same_pair (DueOf i, due) (Guest, g) h) in absurd cc
thread_isnt false g i due h = absurd cc

pub thread_first : (now i due : ℕ) (near : Option ThreadDue) (guest : Option ℕ) → come_by now (first_due near guest) ≡ Some (DueOf i, due) → come now near ≡ Some (record { id = i; due = due })
thread_first now i due None None h = absurd cc
thread_first now i due None (Some g) h = absurd (guest_isnt (nat_le g now) g i due h)
thread_first now i due (Some d) None h = own_due now i due d h
thread_first now i due (Some d) (Some g) h =
    elim (nat_lt g d.due) as (λ b. come_by now (first_of b d g) ≡ Some (DueOf i, due) → come now (Some d) ≡ Some (record { id = i; due = due })) [
      | true ↦ λ f. absurd (guest_isnt (nat_le g now) g i due f)
      | false ↦ λ f. own_due now i due d f
    ] h

own_guest : (b : Bool) (g h : ℕ) → taken_if b (Guest, g) ≡ Some (Guest, h) → b ≡ true
own_guest true g h e = refl
own_guest false g h e = absurd cc

pub guest_first : (now g : ℕ) (near : Option ThreadDue) (guest : Option ℕ) → come_by now (first_due near guest) ≡ Some (Guest, g) → has_come now guest ≡ true
guest_first now g None None h = absurd cc
guest_first now g None (Some x) h = own_guest (nat_le x now) x g h
guest_first now g (Some d) None h = absurd (thread_isnt (nat_le d.due now) g d.id d.due h)
guest_first now g (Some d) (Some x) h =
    elim (nat_lt x d.due) as (λ b. come_by now (first_of b d x) ≡ Some (Guest, g) → has_come now (Some x) ≡ true) [
      | true ↦ λ f. own_guest (nat_le x now) x g f
      | false ↦ λ f. absurd (thread_isnt (nat_le d.due now) g d.id d.due f)
    ] h

-- The first due of threads, by the threads themselves

pub by_threads : (now : ℕ) (all : Executive) (o : Option ThreadDue) → Agrees all → come now (nearest_from 0 all.timeline.threads) ≡ o → come now (nearest all.threads) ≡ o
unfolding nearest
by_threads now all o a h = ap (λ ds. come now (nearest_from 0 ds)) (sym a.dues) ∙ h

pub none_come : (now : ℕ) (all : Executive) → Agrees all → come_by now (first_due (nearest_from 0 all.timeline.threads) all.timeline.guest) ≡ None → NoneCome now all
none_come now all a h =
    let n = neither now (nearest_from 0 all.timeline.threads) all.timeline.guest h in
    record { threads = by_threads now all None a n.0; guest = n.1 }

-- the thread whose due is the first
pub record IsFirst (now i due : ℕ) (all : Executive) : Type 0 where
  pub near : come now (nearest all.threads) ≡ Some (record { id = i; due = due })
  pub live : is_live all.threads i ≡ true
  pub below : i < length all.threads
  pub held : due_at all.threads i ≡ Some due
  pub past : due ≤ now

pub is_first : (now i due : ℕ) (all : Executive) → Agrees all → come_by now (first_due (nearest_from 0 all.timeline.threads) all.timeline.guest) ≡ Some (DueOf i, due) → IsFirst now i due all
is_first now i due all a h =
    let d : ThreadDue = record { id = i; due = due } in
    let near = by_threads now all (Some d) a (thread_first now i due (nearest_from 0 all.timeline.threads) all.timeline.guest h) in
    let p = come_of now all.threads d near in
    let e : p.place ≡ i = let f = p.number in omega (arith, f) in
    record {
      near = near;
      live = come_live now all.threads d near;
      below = subst (λ k. k < length all.threads) e p.below;
      held = subst (λ k. due_at all.threads k ≡ Some due) e p.due;
      past = come_below now (nearest all.threads) d near;
    }

-- that due, as the call that takes it tells of it
pub is_first_by : (now from i due : ℕ) (owner : Due) (taken : Option (Due × ℕ)) (all : Executive) → Agrees all → from ≡ now
    → taken ≡ come_by from (first_due (nearest_from 0 all.timeline.threads) all.timeline.guest) → taken ≡ Some (owner, due) → owner ≡ DueOf i → IsFirst now i due all
is_first_by now from i due owner taken all a f t some e =
    is_first now i due all a (ap (λ n. come_by n (first_due (nearest_from 0 all.timeline.threads) all.timeline.guest)) (sym f) ∙ sym t ∙ some ∙ ap (λ o. Some (o, due)) e)

pub due_taken : (i due : ℕ) (owner : Due) (taken : Option (Due × ℕ)) (old new : Dues) → new ≡ taken_from taken old → taken ≡ Some (owner, due) → owner ≡ DueOf i → new ≡ with_due (DueOf i) None old
due_taken i due owner taken old new t some e = t ∙ ap (λ o. taken_from o old) (some ∙ ap (λ o. Some (o, due)) e)

waits : (state : State) (due : ℕ) → due_of state ≡ Some due → is_ready_state state ≡ false
waits Ready due h = absurd cc
waits (Waiting t) due h = refl
waits Suspended due h = absurd cc

pub not_ready : (slot : Option Thread) (due : ℕ) → due_held slot ≡ Some due → is_ready_in slot ≡ false
not_ready None due h = absurd cc
not_ready (Some th) due h = waits th.state due h

-- A due fewer

abbrev weight : Bool → ℕ
weight b = cond b 1 0

come_weight : (now due : ℕ) → due ≤ now → weight (has_come now (Some due)) ≡ 1
come_weight now due h = let e : nat_le due now ≡ true = grind (arith, nat_tests, h) in ap weight e

fewer_in : (now i due : ℕ) (dues : List (Option ℕ)) → i < length dues → get_or dues i None ≡ Some due → due ≤ now → threads_come now (slice_set dues i None) + 1 ≡ threads_come now dues
fewer_in now i due dues small held past =
    let sum = sum_by-set (λ x. weight (has_come now x)) dues i None None small in
    let before : weight (has_come now (get_or dues i None)) ≡ 1 = ap (λ x. weight (has_come now x)) held ∙ come_weight now due past in
    omega (arith, sum, before)

pub fewer : (now i due : ℕ) (all : Executive) → Agrees all → IsFirst now i due all → threads_come now (slice_set all.timeline.threads i None) + 1 ≡ threads_come now all.timeline.threads
fewer now i due all a f =
    let size : length (dues_of all.threads) ≡ length all.threads = length-map all.threads due_held in
    let below = f.below in
    let small : i < length (dues_of all.threads) = omega (arith, size, below) in
    let held = get_or-map due_held all.threads i None None f.below ∙ f.held in
    subst (λ ds. threads_come now (slice_set ds i None) + 1 ≡ threads_come now ds) (sym a.dues) (fewer_in now i due (dues_of all.threads) small held f.past)

-- The rounds

pub guest_round : (now : ℕ) (old : Executive) (lines : TickLines) → Agrees old → has_come now old.timeline.guest ≡ true
    → IsRound now old (record old { timeline = with_due Guest None old.timeline }) lines lines (Some Guest)
guest_round now old lines a h = (
  record {
    released = λ latch m. refl;
    agrees = record { places = a.places; rated = a.rated; listed = a.listed; dues = a.dues };
    room = refl;
    due = refl;
    came = λ e. h;
    version = refl;
    fifos = refl;
    irqs = refl;
    g = refl;
    h = refl;
  },
  (let one : weight (has_come now old.timeline.guest) ≡ 1 = ap weight h in omega (arith, one)),
)

joins : (now i due : ℕ) (old taken new : Executive) (before after : TickLines) (latch : ℕ) (m : RealTime)
    → length old.threads ≤ THREADS_LIMIT
    → come now (nearest old.threads) ≡ Some (record { id = i; due = due })
    → taken ≡ record old { timeline = with_due (DueOf i) None old.timeline }
    → released_parts i due (gate_parts latch m.side taken) ≡ gate_parts latch m.side new
    → after ≡ record before { r = before.r ++ Release i ∷ [] }
    → released THREADS_LIMIT now (ticking latch old m before.r) ≡ released THREADS_LIMIT now (ticking latch new m after.r)
joins now i due old taken new before after latch m few near t parts e =
    sym (released_stays now (ticking latch old m before.r) few)
    ∙ ap (λ o. released THREADS_LIMIT now (after_one o (ticking latch old m before.r))) near
    ∙ ap (λ (p : GateParts). released THREADS_LIMIT now (record { real = with_parts p m; lines = before.r ++ Release i ∷ [] }))
    (ap (λ x. released_parts i due (gate_parts latch m.side x)) (sym t) ∙ parts)
    ∙ ap (λ (ls : TickLines). released THREADS_LIMIT now (ticking latch new m ls.r)) (sym e)

pub thread_round : (now i due : ℕ) (old taken new : Executive) (before after : TickLines) → Agrees old → IsFirst now i due old
    → taken ≡ record old { timeline = with_due (DueOf i) None old.timeline }
    → new ≡ with_listed i due (record taken { threads = with_thread i (with_state Ready) taken.threads })
    → ((latch : ℕ) (side : Side) → released_parts i due (gate_parts latch side taken) ≡ gate_parts latch side new)
    → Agrees new
    → after ≡ record before { r = before.r ++ Release i ∷ [] }
    → IsRound now old new before after (Some (DueOf i))
thread_round now i due old taken new before after a f t e parts agrees lines =
    let now_is = e ∙ ap (λ x. with_listed i due (record x { threads = with_thread i (with_state Ready) x.threads })) t in
    let dues = ap (λ (x : Executive). threads_come now x.timeline.threads) now_is ∙ ap (threads_come now) (set-set old.timeline.threads i None None) in
    let less = fewer now i due old a f in
    let long = ap (λ (ls : TickLines). length ls.r) lines ∙ length-append before.r (Release i ∷ []) in
    let size = a.places in
    let guest = ap (λ (x : Executive). x.timeline.guest) now_is in (
      record {
        released = λ latch m. joins now i due old taken new before after latch m (omega (arith, size)) f.near t (parts latch m.side) lines;
        agrees = agrees;
        room = omega (arith, long, dues, less);
        due = guest;
        came = λ x. absurd cc;
        version = ap (λ (x : Executive). x.ready.version) now_is;
        fifos = ap (λ (x : Executive). x.fifos) now_is;
        irqs = ap (λ (x : Executive). x.irqs) now_is;
        g = ap (λ (ls : TickLines). ls.g) lines;
        h = ap (λ (ls : TickLines). ls.h) lines;
      },
      (let same = ap (λ x. weight (has_come now x)) guest in omega (arith, dues, less, same)),
    )

pub none_round : (now from : ℕ) (taken : Option (Due × ℕ)) (old : Executive) (dues : Dues) (lines : TickLines) → Agrees old → from ≡ now
    → taken ≡ come_by from (first_due (nearest_from 0 old.timeline.threads) old.timeline.guest) → dues ≡ taken_from taken old.timeline → taken ≡ None
    → IsRound now old (record old { timeline = dues }) lines lines None
none_round now from taken old dues lines a f t e none = (
  ap (λ (d : Dues). record old { timeline = d }) (e ∙ ap (λ o. taken_from o old.timeline) none),
  refl,
  none_come now old a (ap (λ n. come_by n (first_due (nearest_from 0 old.timeline.threads) old.timeline.guest)) (sym f) ∙ sym t ∙ none),
)

pub guest_round_by : (now from g : ℕ) (owner : Due) (taken : Option (Due × ℕ)) (old : Executive) (dues : Dues) (lines : TickLines) → Agrees old → from ≡ now
    → taken ≡ come_by from (first_due (nearest_from 0 old.timeline.threads) old.timeline.guest) → dues ≡ taken_from taken old.timeline → taken ≡ Some (owner, g) → owner ≡ Guest
    → IsRound now old (record old { timeline = dues }) lines lines (Some Guest)
guest_round_by now from g owner taken old dues lines a f t e some is =
    let first = some ∙ ap (λ o. Some (o, g)) is in
    let came = guest_first now g (nearest_from 0 old.timeline.threads) old.timeline.guest (ap (λ n. come_by n (first_due (nearest_from 0 old.timeline.threads) old.timeline.guest)) (sym f) ∙ sym t ∙ first) in
    subst (λ (d : Dues). IsRound now old (record old { timeline = d }) lines lines (Some Guest)) (sym (e ∙ ap (λ o. taken_from o old.timeline) first)) (guest_round now old lines a came)

-- where none has come any more, all is released
pub all_done : (now latch : ℕ) (m : RealTime) (old last new : Executive) (before lines after : TickLines) (guest : Bool) → Releases now old last before lines guest
    → IsRound now last new lines after None → released THREADS_LIMIT now (ticking latch old m before.r) ≡ ticking latch new m after.r
all_done now latch m old last new before lines after guest r e =
    r.released latch m ∙ released_done now (ticking latch last m lines.r) e.2.threads
    ∙ ap (λ x. ticking latch x m lines.r) (sym e.0) ∙ ap (λ (ls : TickLines). ticking latch new m ls.r) (sym e.1)
