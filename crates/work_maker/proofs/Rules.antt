-- The script keeps the rules of scripts.
use Rattle.std.proofs.Common.{◌≡◌, ℕ, zero, suc, ◌+◌, ◌*◌, ◌<◌, ◌≤◌, ◌==◌, Bool, true, false, refl, arith, inl, inr, if◌then◌else◌, ◌∷◌}
use Rattle.std.proofs.Math.Nat.{mod-lt}
use Rattle.std.proofs.lemmas.Bool.{cases_Bool}
use Rattle.std.proofs.lemmas.Bool.Decides.{nat_tests}
use Rattle.std.specs.List.{list_all}
use Rattle.std.proofs.lemmas.List.Sums.{sum_by-cons}
use Rattle.device_script.specs.declared.event.Event.{Event}
use Rattle.device_script.specs.declared.event.Event.TheVariants.{Line, Com1}
use Rattle.device_script.specs.Event.{Events, is_tick, is_device_event, is_event, ticks_rise, count_at}
use Rattle.work_maker.specs.Draws.{draw, after, before_script}
use Rattle.work_maker.specs.Script.{event_of, events_from, event_count, behind_event, events_of}
use Rattle.work_maker.specs.Laws.{KeepsRules}

draw_below : (k x : ℕ) → 0 < k → draw k x < k
unfolding draw
draw_below k x some = mod-lt _ some

-- the tick of event j is in its thousand
tick_low : (j x : ℕ) → 1000 * j ≤ (event_of j x).0
tick_low j x = omega arith

tick_high : (j x : ℕ) → (event_of j x).0 < 1000 * (j + 1)
tick_high j x = omega (arith, draw_below 900 (after 1 x) (omega arith))

either_good : (zero_kind : Bool) (byte : ℕ) → is_device_event (if zero_kind then Line 5 else Com1 byte) ≡ true
either_good true byte = refl
either_good false byte = refl

event_good : (j x : ℕ) → 1 ≤ j → j ≤ 100000 → is_event (event_of j x) ≡ true
event_good j x low high =
    let tick : is_tick (event_of j x).0 ≡ true = grind (arith, nat_tests, tick_low j x, tick_high j x) in
    rw (tick, either_good (draw 2 x == 0) (draw 256 (after 2 x))) refl

all_good : (n j x : ℕ) → 1 ≤ j → j + n ≤ 100001 → list_all is_event (events_from n j x) ≡ true
all_good zero j x low high = refl
all_good (suc n) j x low high = rw (event_good j x low (omega arith)) (all_good n (j + 1) (behind_event x) (omega arith) (omega arith))

all_rise : (n j x from : ℕ) → from ≤ 1000 * j → ticks_rise from (events_from n j x) ≡ true
all_rise zero j x from low = refl
all_rise (suc n) j x from low =
    let later = all_rise n (j + 1) (behind_event x) (event_of j x).0 (omega (arith, tick_high j x)) in
    grind (arith, nat_tests, tick_low j x, later)

count_at-cons : (e : ℕ × Event) (es : Events) (tick : ℕ) → count_at tick (e ∷ es) ≡ (if e.0 == tick then 1 else 0) + count_at tick es
count_at-cons e es tick = sum_by-cons (λ d. if d.0 == tick then 1 else 0) e es

none_before : (n j x tick : ℕ) → tick < 1000 * j → count_at tick (events_from n j x) ≡ 0
none_before zero j x tick early = refl
none_before (suc n) j x tick early =
    let other : ((event_of j x).0 == tick) ≡ false = grind (arith, nat_tests, tick_low j x) in
    let rest = none_before n (j + 1) (behind_event x) tick (omega arith) in
    let parts = count_at-cons (event_of j x) (events_from n (j + 1) (behind_event x)) tick in
    let none = rw other at parts in
    omega (arith, none, rest)

at_most_one : (n j x tick : ℕ) → count_at tick (events_from n j x) ≤ 1
at_most_one zero j x tick = omega arith
at_most_one (suc n) j x tick =
    let parts = count_at-cons (event_of j x) (events_from n (j + 1) (behind_event x)) tick in
    elim (cases_Bool ((event_of j x).0 == tick)) [
      | inl same ↦
          let here : tick < 1000 * (j + 1) = grind (arith, nat_tests, tick_high j x) in
          let rest = none_before n (j + 1) (behind_event x) tick here in
          let one = rw same at parts in
          omega (arith, one, rest)
      | inr other ↦
          let rest = at_most_one n (j + 1) (behind_event x) tick in
          let none = rw other at parts in
          omega (arith, none, rest)
    ]

pub keeps : KeepsRules
unfolding events_of
keeps number ticks = record {
  good = all_good (event_count ticks) 1 (before_script number) (omega arith) (omega arith);
  order = all_rise (event_count ticks) 1 (before_script number) 0 (omega arith);
  few = λ tick. omega (arith, at_most_one (event_count ticks) 1 (before_script number) tick);
}
