-- The dues of the guest's timer.
use Rattle.std.proofs.Common.{◌≡◌, ℕ, suc, ◌+◌, ◌-◌, ◌*◌, ◌/◌, ◌%◌, ◌<◌, ◌≤◌, true, false, ◌||◌, ◌==◌, refl, sym, ap, ◌∙◌, arith, inl, inr}
use Rattle.std.specs.Prelude.{nat_le, nat_lt}
use Rattle.std.proofs.lemmas.Bool.{cases_Bool}
use Rattle.std.proofs.lemmas.Bool.Decides.{nat_tests}
use Rattle.std.proofs.Math.Nat.{le-div_iff_mul-le, div-lt_iff_lt-mul, mod-add-div', mul-mod_left}
use Rattle.run_lines.specs.Says.{is_timer_tick}
use Rattle.device_step.specs.Periods.{AsksWhenDue}

-- so many periods, with the one that `last` is in, lie at most at `last`
below_first : (last start period q : ℕ) → 0 < period → q ≡ (last - start) / period → q * period ≤ last - start
below_first last start period q some e = (le-div_iff_mul-le {k = period} {x = q} {y = last - start} some).0 (let g = e in omega (arith, g))

-- no multiple of the period lies between q and q + 1 of them
no_multiple : (x period q : ℕ) → 0 < period → q * period < x → x < (q + 1) * period → x % period ≡ 0 → ⊥
no_multiple x period q some low high whole =
    let a : q ≤ x / period = (le-div_iff_mul-le {k = period} {x = q} {y = x} some).1 (let l = low in omega (arith, l)) in
    let b : x / period < q + 1 = (div-lt_iff_lt-mul {k = period} {x = x} {y = q + 1} some).1 high in
    let e : x / period ≡ q = omega (arith, a, b) in
    let f = mod-add-div' x period in
    let g : q * period ≡ x = sym (ap (λ k. k * period) e) ∙ (let h : x / period * period ≡ x = omega (arith, f, whole) in h) in
    absurd (omega (arith, g, low))

is_tick : (t start period q : ℕ) → 0 < period → start + (q + 1) * period ≡ suc t → is_timer_tick (suc t) start period ≡ true
is_tick t start period q some e =
    let x : suc t - start ≡ (q + 1) * period = omega (arith, e) in
    let whole : (suc t - start) % period ≡ 0 = ap (λ k. k % period) x ∙ mul-mod_left (q + 1) period in
    let l : period ≤ (q + 1) * period = mono q in
    let after : nat_lt start (suc t) ≡ true = (let m : start < suc t = omega (arith, e, l, some) in grind (arith, nat_tests)) in
    let has : nat_lt 0 period ≡ true = grind (arith, nat_tests) in
    rw (has, after, whole) refl
  where
    mono : (q : ℕ) → period ≤ (q + 1) * period
    mono q = omega arith

no_tick : (last t start period q : ℕ) → 0 < period → last ≤ t → start ≤ t → q * period ≤ last - start → suc t < start + (q + 1) * period
    → is_timer_tick (suc t) start period ≡ false
no_tick last t start period q some before after low high = elim (cases_Bool ((suc t - start) % period == 0)) [
  | inl whole ↦
      let e : (suc t - start) % period ≡ 0 = grind (arith, nat_tests) in
      absurd (no_multiple (suc t - start) period q some (omega (arith, low, before, after)) (omega (arith, high, after)) e)
  | inr other ↦ rw other (grind arith)
]

-- by the first due above `last`
asks_at : (last t start period due : ℕ) → 0 < period → last ≤ t → start ≤ t → due ≡ start + ((last - start) / period + 1) * period
    → nat_le due (suc t) ≡ (nat_le due t || is_timer_tick (suc t) start period)
asks_at last t start period due some before after is =
    let q = (last - start) / period in
    elim (cases_Bool (nat_le due t)) [
      | inl come ↦ let l : nat_le due (suc t) ≡ true = (let m : due ≤ t = grind (arith, nat_tests) in grind (arith, nat_tests)) in rw (come, l) refl
      | inr later ↦
          let m : t < due = grind (arith, nat_tests) in
          elim (cases_Bool (nat_le due (suc t))) [
            | inl now ↦
                let n : due ≤ suc t = grind (arith, nat_tests) in
                let e : start + (q + 1) * period ≡ suc t = sym is ∙ omega (arith, m, n) in
                rw (later, now, is_tick t start period q some e) refl
            | inr far ↦
                let n : suc t < due = grind (arith, nat_tests) in
                let past : suc t < start + (q + 1) * period = omega (arith, n, is) in
                rw (later, far, no_tick last t start period q some before after (below_first last start period q some refl) past) refl
          ]
    ]

pub asks : AsksWhenDue
asks last now start period before after = elim (cases_Bool (period == 0)) [
  | inl off ↦ let none : nat_lt 0 period ≡ false = grind (arith, nat_tests) in rw (off, none) refl
  | inr set ↦ let some : 0 < period = grind (arith, nat_tests) in rw set (asks_at last now start period _ some before after refl)
]
