-- The nearest due is that of a live thread, and none is before it.
use Rattle.std.proofs.Common.{◌≡◌, ℕ, zero, suc, ◌+◌, ◌<◌, ◌≤◌, true, false, nat_le, nat_lt, refl, sym, ap, arith, List, length, [], ◌∷◌, if◌then◌else◌, Option, Some, None, option_map, is_some, subst, ◌⊎◌, ⊎_elim, inl, inr, IfSome}
use Rattle.std.proofs.lemmas.Bool.Decides.{nat_tests}
use Rattle.rt_threads.specs.declared.threads.Thread.{Thread}
use Rattle.rt_timeline.specs.declared.timeline.ThreadDue.{ThreadDue}
use Rattle.rt_threads.specs.Threads.{due_held, due_at, dues_of, thread_at, is_live}
use Rattle.rt_timeline.specs.Dues.{due_in, earlier, nearest_from, come}
use Rattle.priority_schedule.specs.Release.{nearest}

-- the earlier of two is one of them
earlier_is : (a b : Option ThreadDue) (d : ThreadDue) → earlier a b ≡ Some d → (a ≡ Some d) ⊎ (b ≡ Some d)
earlier_is None b d h = inr h
earlier_is (Some a) None d h = inl h
earlier_is (Some a) (Some b) d h = elim (nat_lt b.due a.due) as (λ x. (if x then Some b else Some a) ≡ Some d → (Some a ≡ Some d) ⊎ (Some b ≡ Some d)) [ true ↦ λ e. inr e | false ↦ λ e. inl e ] h

held_number : (i : ℕ) (o : Option ℕ) (d : ThreadDue) → option_map (λ due. record { id = i; due = due }) o ≡ Some d → (d.id ≡ i) × (o ≡ Some d.due)
held_number i None d h = absurd cc
held_number i (Some due) d h =
    let e : record { id = i; due = due } ≡ d = cc in (ap (λ (x : ThreadDue). x.id) (sym e), ap (λ (x : ThreadDue). Some x.due) e)

is_slot : (slot : Option Thread) (due : ℕ) → due_held slot ≡ Some due → is_some slot ≡ true
is_slot None due h = absurd cc
is_slot (Some th) due h = refl

-- it is that of a live thread
pub record IsOf (i : ℕ) (threads : List (Option Thread)) (d : ThreadDue) : Type 0 where
  pub place : ℕ
  pub number : d.id ≡ i + place
  pub below : place < length threads
  pub due : due_at threads place ≡ Some d.due

nearest_of : (i : ℕ) (threads : List (Option Thread)) (d : ThreadDue) → nearest_from i (dues_of threads) ≡ Some d → IsOf i threads d
nearest_of i [] d h = absurd cc
nearest_of i (thread ∷ threads) d h = ⊎_elim
    (λ (e : due_in i (due_held thread) ≡ Some d).
    let p = held_number i (due_held thread) d e in record { place = 0; number = omega (arith, p.0); below = omega arith; due = p.1 })
    (λ (e : nearest_from (i + 1) (dues_of threads) ≡ Some d).
    let p = nearest_of (i + 1) threads d e in
    let f = p.number in
    let b = p.below in
    record { place = suc p.place; number = omega (arith, f); below = omega (arith, b); due = p.due })
    (earlier_is (due_in i (due_held thread)) (nearest_from (i + 1) (dues_of threads)) d h)

come_is : (t : ℕ) (o : Option ThreadDue) (d : ThreadDue) → come t o ≡ Some d → o ≡ Some d
come_is t None d h = absurd cc
come_is t (Some e) d h = elim (nat_le e.due t) as (λ b. (if b then Some e else None) ≡ Some d → Some e ≡ Some d) [ true ↦ λ f. f | false ↦ λ f. absurd cc ] h

-- the nearest one that has come
pub come_of : (t : ℕ) (threads : List (Option Thread)) (d : ThreadDue) → come t (nearest threads) ≡ Some d → IsOf 0 threads d
unfolding nearest
come_of t threads d h = nearest_of 0 threads d (come_is t (nearest_from 0 (dues_of threads)) d h)

pub come_live : (t : ℕ) (threads : List (Option Thread)) (d : ThreadDue) → come t (nearest threads) ≡ Some d → is_live threads d.id ≡ true
come_live t threads d h =
    let p = come_of t threads d h in
    let e : p.place ≡ d.id = let f = p.number in omega (arith, f) in
    subst (λ k. is_live threads k ≡ true) e (is_slot (thread_at threads p.place) d.due p.due)

pub come_by : (t : ℕ) (o : Option ThreadDue) (d : ThreadDue) → come t o ≡ Some d → d.due ≤ t
come_by t None d h = absurd cc
come_by t (Some e) d h =
    elim (nat_le e.due t) as (λ b. nat_le e.due t ≡ b → (if b then Some e else None) ≡ Some d → d.due ≤ t) [
      | true ↦ λ q f. let same : e ≡ d = cc in let low : e.due ≤ t = grind (arith, nat_tests, q) in subst (λ (x : ThreadDue). x.due ≤ t) same low
      | false ↦ λ q f. absurd cc
    ] refl h

-- where the nearest one hasn't come, none has

above_none : (t : ℕ) (d : ThreadDue) → come t (Some d) ≡ None → t < d.due
above_none t d h =
    elim (nat_le d.due t) as (λ b. nat_le d.due t ≡ b → (if b then Some d else None) ≡ None → t < d.due) [
      | true ↦ λ e f. absurd cc
      | false ↦ λ e f. grind (arith, nat_tests, e)
    ] refl h

above_held : (t i : ℕ) (o : Option ℕ) → come t (option_map (λ due. record { id = i; due = due }) o) ≡ None → IfSome o (λ due. t < due)
above_held t i None h = tt
above_held t i (Some due) h = above_none t (record { id = i; due = due }) h

later_none : (t : ℕ) (d : ThreadDue) → t < d.due → come t (Some d) ≡ None
later_none t d h = let e : nat_le d.due t ≡ false = grind (arith, nat_tests, h) in rw e refl

-- neither of two where their earlier one hasn't
neither_come : (t : ℕ) (a b : Option ThreadDue) → come t (earlier a b) ≡ None → (come t a ≡ None) × (come t b ≡ None)
neither_come t None b h = (refl, h)
neither_come t (Some a) None h = (h, refl)
neither_come t (Some a) (Some b) h =
    elim (nat_lt b.due a.due) as (λ x. nat_lt b.due a.due ≡ x → come t (if x then Some b else Some a) ≡ None → (come t (Some a) ≡ None) × (come t (Some b) ≡ None)) [
      | true ↦ λ e f.
          let low : t < b.due = above_none t b f in
          let less : b.due < a.due = grind (arith, nat_tests, e) in
          (later_none t a (omega (arith, low, less)), f)
      | false ↦ λ e f.
          let low : t < a.due = above_none t a f in
          let less : a.due ≤ b.due = grind (arith, nat_tests, e) in
          (f, later_none t b (omega (arith, low, less)))
    ] refl h

none_from : (t i : ℕ) (threads : List (Option Thread)) → come t (nearest_from i (dues_of threads)) ≡ None → (k : ℕ) → IfSome (due_at threads k) (λ due. t < due)
none_from t i [] h k = tt
none_from t i (thread ∷ threads) h zero = above_held t i (due_held thread) (neither_come t (due_in i (due_held thread)) (nearest_from (i + 1) (dues_of threads)) h).0
none_from t i (thread ∷ threads) h (suc k) = none_from t (i + 1) threads (neither_come t (due_in i (due_held thread)) (nearest_from (i + 1) (dues_of threads)) h).1 k

pub all_above : (t : ℕ) (threads : List (Option Thread)) → come t (nearest threads) ≡ None → (k : ℕ) → IfSome (due_at threads k) (λ due. t < due)
unfolding nearest
all_above t threads h k = none_from t 0 threads h k
