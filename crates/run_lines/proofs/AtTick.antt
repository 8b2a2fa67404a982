-- Lines at ticks.
use Rattle.std.proofs.Common.{◌≡◌, ℕ, zero, suc, ◌+◌, ◌<◌, ◌≤◌, ◌≢◌, true, false, eqb, ◌==◌, refl, sym, ap, ◌∙◌, arith, ⊎_elim, List, [], ◌∷◌, ◌++◌, append_assoc, if◌then◌else◌}
use Rattle.std.proofs.lemmas.Bool.Decides.{nat_tests, eqb_tells}
use Rattle.std.proofs.lemmas.List.{append-nil}
use Rattle.run_lines.specs.Ticks.{at_tick, stamped, lines_to, IsPrefixOf}

pub at_tick-append : {A : Type 0} (t : ℕ) (xs ys : List (ℕ × A)) → at_tick t (xs ++ ys) ≡ at_tick t xs ++ at_tick t ys
at_tick-append t [] ys = refl
at_tick-append t (x ∷ xs) ys =
    elim (x.0 == t) as (λ b. (if b then x.1 ∷ at_tick t (xs ++ ys) else at_tick t (xs ++ ys)) ≡ (if b then x.1 ∷ at_tick t xs else at_tick t xs) ++ at_tick t ys) [
      | true ↦ ap (λ zs. x.1 ∷ zs) (at_tick-append t xs ys)
      | false ↦ at_tick-append t xs ys
    ]

pub at_tick-stamped : {A : Type 0} (t s : ℕ) (xs : List A) → at_tick t (stamped s xs) ≡ (if s == t then xs else [])
at_tick-stamped {A} t s [] = elim (s == t) as (λ b. ◌≡◌ {A = List A} [] (if b then [] else [])) [ true ↦ refl | false ↦ refl ]
at_tick-stamped {A} t s (x ∷ xs) =
    let ih = at_tick-stamped t s xs in
    elim (s == t) as (λ b. ◌≡◌ {A = List A} (at_tick t (stamped s xs)) (if b then xs else []) → ◌≡◌ {A = List A} (if b then x ∷ at_tick t (stamped s xs) else at_tick t (stamped s xs)) (if b then x ∷ xs else [])) [
      | true ↦ λ e. ap (λ zs. x ∷ zs) e
      | false ↦ λ e. e
    ] ih

same_eqb : (n : ℕ) → eqb n n ≡ true
same_eqb n = grind (arith, nat_tests)

other_eqb : (n m : ℕ) → n ≢ m → eqb n m ≡ false
other_eqb n m h = grind (arith, nat_tests)

-- above the last tick there is nothing
pub lines_to-above : {A : Type 0} (f : ℕ → List A) (n k : ℕ) → n ≤ k → at_tick (suc k) (lines_to f n) ≡ []
unfolding lines_to
lines_to-above f zero k h = refl
lines_to-above f (suc n) k h =
    let e : suc n ≢ suc k = (λ q. absurd (omega (arith, q))) in
    let a = lines_to-above f n k (omega arith) in
    at_tick-append (suc k) (lines_to f n) (stamped (suc n) (f n))
    ∙ ap (λ zs. zs ++ at_tick (suc k) (stamped (suc n) (f n))) a
    ∙ at_tick-stamped (suc k) (suc n) (f n)
    ∙ rw (other_eqb (suc n) (suc k) e) refl

-- and at each tick its lines
pub lines_to-at : {A : Type 0} (f : ℕ → List A) (n k : ℕ) → k < n → at_tick (suc k) (lines_to f n) ≡ f k
unfolding lines_to
lines_to-at f zero k h = absurd (omega arith)
lines_to-at f (suc n) k h = ⊎_elim
    (λ (d : (eqb k n ≡ true) × (k ≡ n)).
    at_tick-append (suc k) (lines_to f n) (stamped (suc n) (f n))
    ∙ ap (λ zs. zs ++ at_tick (suc k) (stamped (suc n) (f n))) (lines_to-above f n k (omega (arith, d.1)))
    ∙ at_tick-stamped (suc k) (suc n) (f n)
    ∙ rw (d.1, same_eqb (suc n)) refl)
    (λ (d : (eqb k n ≡ false) × (k ≢ n)).
    let below : k < n = omega (arith, d.1) in
    at_tick-append (suc k) (lines_to f n) (stamped (suc n) (f n))
    ∙ ap (λ zs. zs ++ at_tick (suc k) (stamped (suc n) (f n))) (lines_to-at f n k below)
    ∙ ap (λ zs. f k ++ zs) (at_tick-stamped (suc k) (suc n) (f n) ∙ rw (other_eqb (suc n) (suc k) (λ q. absurd (omega (arith, q, d.1)))) refl)
    ∙ append-nil (f k))
    (eqb_tells k n)

-- with end lines at the last tick
pub run-at : {A : Type 0} (f : ℕ → List A) (n k : ℕ) (ends : List A) → k < n → at_tick (suc k) (lines_to f n ++ stamped n ends) ≡ f k ++ (if n == suc k then ends else [])
run-at f n k ends h =
    at_tick-append (suc k) (lines_to f n) (stamped n ends)
    ∙ ap (λ zs. zs ++ at_tick (suc k) (stamped n ends)) (lines_to-at f n k h)
    ∙ ap (λ zs. f k ++ zs) (at_tick-stamped (suc k) n ends)

pub lines_to-same : {A : Type 0} (f g : ℕ → List A) (n : ℕ) → ((k : ℕ) → k < n → f k ≡ g k) → lines_to f n ≡ lines_to g n
unfolding lines_to
lines_to-same f g zero h = refl
lines_to-same f g (suc n) h =
    ap (λ zs. zs ++ stamped (suc n) (f n)) (lines_to-same f g n (λ k l. h k (omega arith)))
    ∙ ap (λ zs. lines_to g n ++ stamped (suc n) zs) (h n (omega arith))

pub prefix_more : {A : Type 0} (xs ys zs : List A) → IsPrefixOf xs ys → IsPrefixOf xs (ys ++ zs)
prefix_more xs ys zs p = (p.0 ++ zs, sym (append_assoc xs p.0 zs) ∙ ap (λ us. us ++ zs) p.1)

pub lines_to-prefix : {A : Type 0} (f : ℕ → List A) (n m k : ℕ) → k ≡ n + m → IsPrefixOf (lines_to f n) (lines_to f k)
unfolding lines_to
lines_to-prefix f n zero k e = let q : n ≡ k = omega (arith, e) in ([], append-nil (lines_to f n) ∙ ap (lines_to f) q)
lines_to-prefix f n (suc m) zero e = absurd (omega (arith, e))
lines_to-prefix f n (suc m) (suc k) e =
    prefix_more (lines_to f n) (lines_to f k) (stamped (suc k) (f k)) (lines_to-prefix f n m k (omega (arith, e)))
