-- The first line of an order, as the code finds it by masks.
use Rattle.std.proofs.Common.{◌≡◌, ℕ, ◌<◌, ◌≤◌, Bool, true, false, not, ◌&&◌, cond, refl, sym, ap, ◌∙◌, arith, Option, Some, None, List, [], ◌∷◌, bit_and, ⊎_elim, leb, ◌==◌, IfSome}
use Rattle.std.proofs.lemmas.Bool.Decides.{leb_tells}
use Rattle.std.proofs.lemmas.Nat.Bits.{bit_at_mask_below}
use Rattle.std.specs.List.{range_with_len, find, filter}
use Rattle.std.specs.Option.{option_or}
use Rattle.line_sets.specs.LineSet.{has, common, minus, first_in, lowest_of}
use Rattle.line_sets.proofs.LineSetLemmas.{has-common, has-minus, first_in-nil, first_in-cons, first_in-append, first_in-has}
use Rattle.rt_irqs.specs.Irqs.{Lines, handler_order, next_of, free_soft_line}

one_line : (n : ℕ) (a b : Bool) (x : Option ℕ) (xs : List ℕ) (lines : ℕ) → has lines n ≡ a → x ≡ first_in xs lines → cond {A = Option ℕ} (a && b) (Some n) x ≡ first_in (cond b (n ∷ xs) xs) lines
one_line n a true x xs lines here e = (let and : (a && true) ≡ a = grind arith in rw and (rw e (rw (← here) (sym (first_in-cons n lines xs)))))
one_line n a false x xs lines here e = (let and : (a && false) ≡ false = grind arith in rw and e)

-- the lines of a mask alone
pub first_in-common : (lines mask : ℕ) (order : List ℕ) → first_in order (common lines mask) ≡ first_in (filter (λ n. has mask n) order) lines
first_in-common lines mask [] = first_in-nil (common lines mask) ∙ sym (first_in-nil lines)
first_in-common lines mask (n ∷ order) = first_in-cons n (common lines mask) order ∙ (ap (λ b. cond b (Some n) (first_in order (common lines mask))) (has-common lines mask n)
    ∙ one_line n (has lines n) (has mask n) (first_in order (common lines mask)) (filter (λ n. has mask n) order) lines refl (first_in-common lines mask order))

pub next-code : (l : Lines) → option_or (option_or (lowest_of 16 (bit_and l.marked 0x0002)) (lowest_of 16 (bit_and l.marked 0xFF00))) (lowest_of 16 (bit_and l.marked 0x00E8)) ≡ next_of l
unfolding next_of common
next-code l =
    let m = l.marked in
    ap (λ x. option_or (option_or x (lowest_of 16 (common m 0xFF00))) (lowest_of 16 (common m 0x00E8))) (first_in-common m 0x0002 (range_with_len 0 16))
    ∙ (ap (λ x. option_or (option_or (first_in (1 ∷ []) m) x) (lowest_of 16 (common m 0x00E8))) (first_in-common m 0xFF00 (range_with_len 0 16))
    ∙ (ap (λ x. option_or (option_or (first_in (1 ∷ []) m) (first_in (range_with_len 8 8) m)) x) (first_in-common m 0x00E8 (range_with_len 0 16))
    ∙ (ap (λ x. option_or x (first_in (3 ∷ 5 ∷ 6 ∷ 7 ∷ []) m)) (sym (first_in-append m (1 ∷ []) (range_with_len 8 8)))
    ∙ sym (first_in-append m (1 ∷ range_with_len 8 8) (3 ∷ 5 ∷ 6 ∷ 7 ∷ [])))))

-- the lowest line of a mask that isn't in a set
free_line : (n : ℕ) (a b : Bool) (x : Option ℕ) (xs : List ℕ) (soft : ℕ) → has soft n ≡ a → x ≡ find (λ k. not (has soft k)) xs → cond {A = Option ℕ} (b && not a) (Some n) x ≡ find (λ k. not (has soft k)) (cond b (n ∷ xs) xs)
free_line n a true x xs soft here e = rw e (rw (← here) refl)
free_line n a false x xs soft here e = e

first_in-minus : (mask soft : ℕ) (order : List ℕ) → first_in order (minus mask soft) ≡ find (λ k. not (has soft k)) (filter (λ n. has mask n) order)
first_in-minus mask soft [] = first_in-nil (minus mask soft)
first_in-minus mask soft (n ∷ order) = first_in-cons n (minus mask soft) order ∙ (ap (λ b. cond b (Some n) (first_in order (minus mask soft))) (has-minus mask soft n)
    ∙ free_line n (has soft n) (has mask n) (first_in order (minus mask soft)) (filter (λ n. has mask n) order) soft refl (first_in-minus mask soft order))

pub free_soft-code : (soft : ℕ) → lowest_of 32 (minus 0xFFFF0000 soft) ≡ free_soft_line soft
unfolding free_soft_line
free_soft-code soft = first_in-minus 0xFFFF0000 soft (range_with_len 0 32)

pub next_marked : (l : Lines) (x : Option ℕ) → x ≡ next_of l → IfSome x (λ n. has l.marked n ≡ true)
unfolding next_of
next_marked l None e = tt
next_marked l (Some n) e = first_in-has handler_order l.marked n (sym e)

-- the soft line that is given is one of 16 to 31
soft_range : (soft : ℕ) (n : ℕ) → lowest_of 32 (minus 0xFFFF0000 soft) ≡ Some n → 16 ≤ n
soft_range soft n e =
    let there : has 0xFFFF0000 n ≡ true = grind (arith, first_in-has (range_with_len 0 32) (minus 0xFFFF0000 soft) n e, has-minus 0xFFFF0000 soft n) in
    ⊎_elim
    (λ (l : (leb 16 n ≡ true) × (16 ≤ n)). l.1)
    (λ (l : (leb 16 n ≡ false) × (n < 16)). absurd (let gone = bit_at_mask_below 16 32 n l.1 in let none : has 0xFFFF0000 n ≡ false = ap (λ b. b == 1) gone in cc))
    (leb_tells 16 n)

pub free_from : (soft : ℕ) (x : Option ℕ) → x ≡ lowest_of 32 (minus 0xFFFF0000 soft) → IfSome x (λ n. 16 ≤ n)
free_from soft None e = tt
free_from soft (Some n) e = soft_range soft n (sym e)
