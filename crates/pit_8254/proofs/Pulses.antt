-- The few pulses that a counter keeps against all the pulses since its count was complete.
use Rattle.std.proofs.Common.{◌≡◌, ℕ, ◌+◌, ◌-◌, ◌*◌, ◌%◌, ◌<◌, ◌≤◌, ◌≢◌, suc, true, false, not, ◌==◌, eqb, refl, ap, sym, ◌∙◌, arith, ◌⊎◌, ⊎_elim, inl, inr, if◌then◌else◌}
use Rattle.std.specs.Prelude.{nat_lt}
use Rattle.std.proofs.Math.Nat.{suc-mod, mod-mod, mod_self, mod-eq_of_lt, add-mul-mod_self_left}
use Rattle.std.proofs.lemmas.Bool.Decides.{nat_tests, eqb_tells}
use Rattle.pit_8254.specs.declared.counter.Mode.{Mode}
use Rattle.pit_8254.specs.declared.counter.Mode.TheVariants.{Unset, TerminalCount, RateGenerator, SquareWave}
use Rattle.pit_8254.specs.Counter.{full_count, out_at, held_at}

-- the kept pulses after one more, in mode 0 and in the modes that repeat
abbrev pub once : ℕ → ℕ → ℕ
once n q = if nat_lt q (n + 0x10000) then q + 1 else q + 1 - 0x10000

abbrev pub again : ℕ → ℕ → ℕ
again n q = if nat_lt q n then q + 1 else 1

-- q stands for m pulses in mode 0: whole turns behind the end are taken away
pub record Turns (n q m : ℕ) : Type 0 where
  pub turns : ℕ
  pub sum : q + 65536 * turns ≡ m
  pub most : q ≤ n + 65536
  pub late : (turns ≡ 0) ⊎ (n < q)

-- q stands for m pulses, at least one, in the modes that repeat: whole cycles are taken away
pub record Cycles (n q m : ℕ) : Type 0 where
  pub behind : ℕ
  pub gone : ℕ
  pub q_is : q ≡ suc behind
  pub m_is : m ≡ suc gone
  pub most : behind < n
  pub same : behind ≡ gone % n

pub turns_start : (n : ℕ) → Turns n 0 0
turns_start n = record { turns = 0; sum = omega arith; most = omega arith; late = inl refl }

pub turns_once : (n q m : ℕ) → Turns n q m → Turns n (once n q) (suc m)
turns_once n q m t = elim (nat_lt q (n + 65536)) as (λ b. nat_lt q (n + 65536) ≡ b → Turns n (if b then q + 1 else q + 1 - 65536) (suc m)) [
  | true ↦ λ e. record { turns = t.turns; sum = omega (arith, t.sum); most = grind (arith, nat_tests); late = grind arith }
  | false ↦ λ e. record { turns = t.turns + 1; sum = grind (arith, nat_tests); most = omega (arith, t.most); late = inr (grind (arith, nat_tests)) }
] refl

next_cycle : (n j k : ℕ) → j ≡ k % n → suc k % n ≡ suc j % n
next_cycle n j k e = suc-mod k n ∙ ap (λ x. suc x % n) (sym e)

pub cycles_start : (n : ℕ) → 1 ≤ n → Cycles n (again n 0) 1
cycles_start n some = record { behind = 0; gone = 0; q_is = grind arith; m_is = omega arith; most = omega (arith, some); same = sym (mod-eq_of_lt (omega (arith, some))) }

pub cycles_again : (n q m : ℕ) → Cycles n q m → Cycles n (again n q) (suc m)
cycles_again n q m t =
    let e = next_cycle n t.behind t.gone t.same in
    elim (nat_lt q n) as (λ b. nat_lt q n ≡ b → Cycles n (if b then q + 1 else 1) (suc m)) [
      | true ↦ λ h.
          let l : suc t.behind < n = grind (arith, nat_tests, t.q_is) in
          record { behind = suc t.behind; gone = suc t.gone; q_is = omega (arith, t.q_is); m_is = omega (arith, t.m_is); most = l; same = sym (e ∙ mod-eq_of_lt l) }
      | false ↦ λ h.
          let l : suc t.behind ≡ n = grind (arith, nat_tests, t.q_is, t.most) in
          record { behind = 0; gone = suc t.gone; q_is = omega arith; m_is = omega (arith, t.m_is); most = omega (arith, t.most); same = sym (e ∙ ap (λ x. x % n) l ∙ mod_self n) }
    ] refl

out_turns : (n q m : ℕ) → Turns n q m → out_at TerminalCount n q ≡ out_at TerminalCount n m
out_turns n q m t = elim t.late [ inl e ↦ grind arith | inr h ↦ grind (arith, nat_tests) ]

mod_turns : (n q m : ℕ) (t : Turns n q m) → n < q → (m - 1) % 65536 ≡ (q - 1) % 65536
mod_turns n q m t h =
    let e : m - 1 ≡ (q - 1) + 65536 * t.turns = omega (arith, t.sum) in
    ap (λ x. x % 65536) e ∙ add-mul-mod_self_left (q - 1) 65536 t.turns

held_turns : (n q m : ℕ) → Turns n q m → held_at TerminalCount n q ≡ held_at TerminalCount n m
held_turns n q m t = elim t.late [ inl e ↦ grind arith | inr h ↦ grind (arith, mod_turns n q m t h) ]

mod_cycles : (n q m : ℕ) → Cycles n q m → (q - 1) % n ≡ (m - 1) % n
mod_cycles n q m t =
    let a : q - 1 ≡ t.behind = omega (arith, t.q_is) in
    let b : m - 1 ≡ t.gone = omega (arith, t.m_is) in
    ap (λ x. x % n) (a ∙ t.same) ∙ mod-mod t.gone n ∙ ap (λ x. x % n) (sym b)

out_rate : (n q m : ℕ) → Cycles n q m → out_at RateGenerator n q ≡ out_at RateGenerator n m
out_rate n q m t = grind (arith, mod_cycles n q m t, t.q_is, t.m_is)

out_square : (n q m : ℕ) → Cycles n q m → out_at SquareWave n q ≡ out_at SquareWave n m
out_square n q m t = grind (arith, mod_cycles n q m t, t.q_is, t.m_is)

held_rate : (n q m : ℕ) → Cycles n q m → held_at RateGenerator n q ≡ held_at RateGenerator n m
held_rate n q m t = grind (arith, mod_cycles n q m t, t.q_is, t.m_is)

-- what q stands for, by the mode
abbrev pub Stands : Mode → ℕ → ℕ → ℕ → Type 0
Stands Unset n q m = Unit {0}
Stands TerminalCount n q m = Turns n q m
Stands RateGenerator n q m = ((q ≡ 0) × (m ≡ 0)) ⊎ Cycles n q m
Stands SquareWave n q m = ((q ≡ 0) × (m ≡ 0)) ⊎ Cycles n q m

pub stands_start : (mode : Mode) (n : ℕ) → Stands mode n 0 0
stands_start Unset n = tt
stands_start TerminalCount n = turns_start n
stands_start RateGenerator n = inl (refl, refl)
stands_start SquareWave n = inl (refl, refl)

pub out_stands : (mode : Mode) (n q m : ℕ) → Stands mode n q m → out_at mode n q ≡ out_at mode n m
out_stands Unset n q m s = refl
out_stands TerminalCount n q m s = out_turns n q m s
out_stands RateGenerator n q m s = elim s [ inl e ↦ ap (out_at RateGenerator n) (e.0 ∙ sym e.1) | inr t ↦ out_rate n q m t ]
out_stands SquareWave n q m s = elim s [ inl e ↦ ap (out_at SquareWave n) (e.0 ∙ sym e.1) | inr t ↦ out_square n q m t ]

pub held_stands : (mode : Mode) (n q m : ℕ) → Stands mode n q m → held_at mode n q ≡ held_at mode n m
held_stands Unset n q m s = refl
held_stands TerminalCount n q m s = held_turns n q m s
held_stands RateGenerator n q m s = elim s [ inl e ↦ ap (held_at RateGenerator n) (e.0 ∙ sym e.1) | inr t ↦ held_rate n q m t ]
held_stands SquareWave n q m s = refl

pub full_some : (mode : Mode) (c : ℕ) → 1 ≤ full_count mode c
full_some Unset c = grind arith
full_some TerminalCount c = grind arith
full_some RateGenerator c = grind arith
full_some SquareWave c = grind arith

pub again_stands : (n q m : ℕ) → 1 ≤ n → ((q ≡ 0) × (m ≡ 0)) ⊎ Cycles n q m → Cycles n (again n q) (suc m)
again_stands n q m some s = elim s [
  | inl e ↦ rw (e.0, e.1) (cycles_start n some)
  | inr t ↦ cycles_again n q m t
]

nonzero : (q : ℕ) → eqb (suc q) 0 ≡ false
nonzero q = grind (arith, nat_tests)

-- mode 2 is low after pulse N, 2 N, 3 N and so on
pub low_rate : (n q : ℕ) → 2 ≤ n → out_at RateGenerator n (suc q) ≡ not (suc q % n == 0)
low_rate n q two =
    let one : suc q - 1 ≡ q = omega arith in
    let next = suc-mod q n in
    let positive = nonzero q in
    ⊎_elim
    (λ (e : (eqb (q % n) (n - 1) ≡ true) × (q % n ≡ n - 1)).
    let full : suc (q % n) ≡ n = omega (arith, e.1) in
    let whole : suc q % n ≡ 0 = next ∙ ap (λ x. x % n) full ∙ mod_self n in
    rw (one, e.0, whole, positive) refl)
    (λ (e : (eqb (q % n) (n - 1) ≡ false) × (q % n ≢ n - 1)).
    let small : suc (q % n) < n = omega (arith, e.1) in
    let part : suc q % n ≡ suc (q % n) = next ∙ mod-eq_of_lt small in
    rw (one, e.0, part, positive, nonzero (q % n)) refl)
    (eqb_tells (q % n) (n - 1))

pub rate_two : (c : ℕ) → 2 ≤ full_count RateGenerator c
rate_two c = grind (arith, nat_tests)
