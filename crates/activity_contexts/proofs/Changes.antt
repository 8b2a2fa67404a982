-- Two changes of threads that don't hang on each other, and what a change of registers leaves to read.
use Rattle.std.proofs.Common.{◌≡◌, ◌≢◌, ℕ, zero, suc, ◌+◌, true, false, cond, List, [], ◌∷◌, refl, sym, ap, ◌∙◌, subst, Option, Some, None, option_map, eqb, ⊎_elim, is_some, is_none, length, ◌<◌, ◌≤◌, arith, inl, inr}
use Rattle.std.specs.Prelude.{slice_set, nat_lt}
use Rattle.std.specs.List.{position_or_len}
use Rattle.std.proofs.lemmas.List.{set-get_or, set-set, set_comm, get_or-set_same, get_or-set_other, set_past, length-set}
use Rattle.std.proofs.lemmas.Bool.Decides.{eqb_tells, nat_tests}
use Rattle.std.proofs.lemmas.Bool.{cases_Bool}
use Rattle.cpu_state.specs.declared.registers.Registers.{Registers}
use Rattle.rt_threads.specs.declared.threads.Thread.{Thread}
use Rattle.rt_threads.specs.Threads.{free_number, given_registers, is_live, thread_at, with_thread}

-- Two changes of threads commute, where they do on each thread

slots : (slot : Option Thread) (f g : Thread → Thread) → ((th : Thread) → g (f th) ≡ f (g th)) → option_map g (option_map f slot) ≡ option_map f (option_map g slot)
slots None f g e = refl
slots (Some th) f g e = ap Some (e th)

pub twice : (threads : List (Option Thread)) (i : ℕ) (f g : Thread → Thread) → i < length threads
    → with_thread i g (with_thread i f threads) ≡ slice_set threads i (option_map g (option_map f (thread_at threads i)))
twice threads i f g small =
    ap (λ o. slice_set (with_thread i f threads) i (option_map g o)) (get_or-set_same threads i (option_map f (thread_at threads i)) None small)
    ∙ set-set threads i (option_map f (thread_at threads i)) (option_map g (option_map f (thread_at threads i)))

pub past : (threads : List (Option Thread)) (i : ℕ) (f : Thread → Thread) → length threads ≤ i → with_thread i f threads ≡ threads
past threads i f l = set_past threads i (option_map f (thread_at threads i)) l

pub changes_commute : (threads : List (Option Thread)) (i j : ℕ) (f g : Thread → Thread) → ((th : Thread) → g (f th) ≡ f (g th))
    → with_thread j g (with_thread i f threads) ≡ with_thread i f (with_thread j g threads)
changes_commute threads i j f g e = ⊎_elim
    (λ (d : (eqb j i ≡ true) × (j ≡ i)). rw d.1 (elim (cases_Bool (nat_lt i (length threads))) [
      | inl low ↦ let small : i < length threads = grind (arith, nat_tests) in
          twice threads i f g small ∙ ap (slice_set threads i) (slots (thread_at threads i) f g e) ∙ sym (twice threads i g f small)
      | inr high ↦ let l : length threads ≤ i = grind (arith, nat_tests) in
          ap (with_thread i g) (past threads i f l) ∙ past threads i g l ∙ sym (ap (with_thread i f) (past threads i g l) ∙ past threads i f l)
    ]))
    (λ (d : (eqb j i ≡ false) × (j ≢ i)).
    ap (λ o. slice_set (with_thread i f threads) j (option_map g o)) (get_or-set_other threads i j (option_map f (thread_at threads i)) None d.1)
    ∙ set_comm threads i j (option_map f (thread_at threads i)) (option_map g (thread_at threads j)) (λ x. d.1 (sym x))
    ∙ sym (ap (λ o. slice_set (with_thread j g threads) i (option_map f o)) (get_or-set_other threads j i (option_map g (thread_at threads j)) None (λ x. d.1 (sym x)))))
    (eqb_tells j i)

-- A place that is set stands apart from a change of another one

pub set_apart : (threads : List (Option Thread)) (i j : ℕ) (f : Thread → Thread) (slot : Option Thread) → j ≢ i
    → slice_set (with_thread i f threads) j slot ≡ with_thread i f (slice_set threads j slot)
set_apart threads i j f slot apart =
    set_comm threads i j (option_map f (thread_at threads i)) slot (λ x. apart (sym x))
    ∙ sym (ap (λ o. slice_set (slice_set threads j slot) i (option_map f o)) (get_or-set_other threads j i slot None (λ x. apart (sym x))))

none_set : (threads : List (Option Thread)) (i : ℕ) → thread_at (slice_set threads i None) i ≡ None
none_set [] i = refl
none_set (slot ∷ threads) zero = refl
none_set (slot ∷ threads) (suc i) = none_set threads i

-- and so does one that is emptied, also where it is the same
pub none_commutes : (threads : List (Option Thread)) (i j : ℕ) (f : Thread → Thread) → slice_set (with_thread i f threads) j None ≡ with_thread i f (slice_set threads j None)
none_commutes threads i j f = ⊎_elim
    (λ (d : (eqb j i ≡ true) × (j ≡ i)). rw d.1 (
    set-set threads i (option_map f (thread_at threads i)) None
    ∙ sym (ap (λ o. slice_set (slice_set threads i None) i (option_map f o)) (none_set threads i) ∙ set-set threads i None None)))
    (λ (d : (eqb j i ≡ false) × (j ≢ i)). set_apart threads i j f None d.1)
    (eqb_tells j i)

-- What reads no registers reads the same

module _ {X : Type 0} (g : Option Thread → X) (f : Thread → Thread) (same : (slot : Option Thread) → g (option_map f slot) ≡ g slot) where
  pub read_same : (threads : List (Option Thread)) (i j : ℕ) → g (thread_at (with_thread i f threads) j) ≡ g (thread_at threads j)
  read_same threads i j = ⊎_elim
      (λ (d : (eqb j i ≡ true) × (j ≡ i)). rw d.1 (elim (cases_Bool (nat_lt i (length threads))) [
        | inl low ↦ let small : i < length threads = grind (arith, nat_tests) in
            ap g (get_or-set_same threads i (option_map f (thread_at threads i)) None small) ∙ same (thread_at threads i)
        | inr high ↦ let l : length threads ≤ i = grind (arith, nat_tests) in ap (λ ts. g (thread_at ts i)) (past threads i f l)
      ]))
      (λ (d : (eqb j i ≡ false) × (j ≢ i)). ap g (get_or-set_other threads i j (option_map f (thread_at threads i)) None d.1))
      (eqb_tells j i)

-- The lowest free number

none_map : (f : Thread → Thread) (slot : Option Thread) → is_none (option_map f slot) ≡ is_none slot
none_map f None = refl
none_map f (Some th) = refl

first_free : (threads : List (Option Thread)) (i : ℕ) (f : Thread → Thread) → position_or_len is_none (with_thread i f threads) ≡ position_or_len is_none threads
first_free [] i f = refl
first_free (None ∷ threads) zero f = refl
first_free (Some th ∷ threads) zero f = refl
first_free (None ∷ threads) (suc i) f = refl
first_free (Some th ∷ threads) (suc i) f = ap (λ n. 1 + n) (first_free threads i f)

pub free_same : (threads : List (Option Thread)) (i : ℕ) (f : Thread → Thread) → free_number (with_thread i f threads) ≡ free_number threads
free_same threads i f =
    ap (λ n. cond (nat_lt n (length (with_thread i f threads))) (Some n) None) (first_free threads i f)
    ∙ ap (λ l. cond (nat_lt (position_or_len is_none threads) l) (Some (position_or_len is_none threads)) None) (length-set threads i (option_map f (thread_at threads i)))

free_none : (threads : List (Option Thread)) → thread_at threads (position_or_len is_none threads) ≡ None
free_none [] = refl
free_none (None ∷ threads) = refl
free_none (Some th ∷ threads) =
    let n = position_or_len is_none threads in
    ap (thread_at (Some th ∷ threads)) (let e : 1 + n ≡ suc n = omega arith in e) ∙ free_none threads

free_place : (threads : List (Option Thread)) (j : ℕ) → free_number threads ≡ Some j → thread_at threads j ≡ None
free_place threads j h =
    elim (nat_lt (position_or_len is_none threads) (length threads)) as (λ b. cond b (Some (position_or_len is_none threads)) None ≡ Some j → thread_at threads j ≡ None) [
      | true ↦ λ e. let same : position_or_len is_none threads ≡ j = cc in subst (λ k. thread_at threads k ≡ None) same (free_none threads)
      | false ↦ λ e. absurd cc
    ] h

-- isn't that of a live thread
pub free_apart : (threads : List (Option Thread)) (i j : ℕ) → is_live threads i ≡ true → free_number threads ≡ Some j → j ≢ i
free_apart threads i j live free same =
    absurd (let e : true ≡ false = sym live ∙ ap is_some (subst (λ k. thread_at threads k ≡ None) same (free_place threads j free)) in cc)

-- Registers over those of a thread

own_none : (r : Registers) (slot : Option Thread) → is_some slot ≡ false → option_map (given_registers r) slot ≡ slot
own_none r None h = refl
own_none r (Some th) h = absurd cc

pub given_none : (threads : List (Option Thread)) (i : ℕ) (r : Registers) → is_live threads i ≡ false → with_thread i (given_registers r) threads ≡ threads
given_none threads i r dead = ap (slice_set threads i) (own_none r (thread_at threads i) dead) ∙ set-get_or threads i None

given_slot : (r s : Registers) (slot : Option Thread) → option_map (given_registers s) (option_map (given_registers r) slot) ≡ option_map (given_registers s) slot
given_slot r s None = refl
given_slot r s (Some th) = refl

pub given_last : (threads : List (Option Thread)) (i : ℕ) (r s : Registers) → with_thread i (given_registers s) (with_thread i (given_registers r) threads) ≡ with_thread i (given_registers s) threads
given_last threads i r s = elim (cases_Bool (nat_lt i (length threads))) [
  | inl low ↦ let small : i < length threads = grind (arith, nat_tests) in
      twice threads i (given_registers r) (given_registers s) small ∙ ap (slice_set threads i) (given_slot r s (thread_at threads i))
  | inr high ↦ let l : length threads ≤ i = grind (arith, nat_tests) in ap (with_thread i (given_registers s)) (past threads i (given_registers r) l)
]

pub live_below : (threads : List (Option Thread)) (i : ℕ) → is_live threads i ≡ true → i < length threads
live_below [] i h = absurd cc
live_below (slot ∷ threads) zero h = omega arith
live_below (slot ∷ threads) (suc i) h = let small = live_below threads i h in omega (arith, small)

own_given : (slot : Option Thread) (r : Registers) → is_some slot ≡ true → option_map (λ (th : Thread). th.registers) (option_map (given_registers r) slot) ≡ Some r
own_given None r h = absurd cc
own_given (Some th) r h = refl

pub given_own : (threads : List (Option Thread)) (i : ℕ) (r : Registers) → is_live threads i ≡ true
    → option_map (λ (th : Thread). th.registers) (thread_at (with_thread i (given_registers r) threads) i) ≡ Some r
given_own threads i r live =
    ap (option_map (λ (th : Thread). th.registers)) (get_or-set_same threads i (option_map (given_registers r) (thread_at threads i)) None (live_below threads i live))
    ∙ own_given (thread_at threads i) r live
