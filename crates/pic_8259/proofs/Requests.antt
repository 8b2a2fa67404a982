-- What a pair as after the boot requests.
use Rattle.std.proofs.Common.{◌≡◌, ℕ, ◌+◌, ◌*◌, ◌<◌, ◌≢◌, Bool, true, false, cond, eqb, leb, refl, sym, ap, ◌∙◌, arith, suc, ◌-◌, Option, Some, None, is_some, option_map, ◌++◌, ◌∷◌}
use Rattle.std.specs.List.{range_with_len}
use Rattle.std.specs.Option.{option_or}
use Rattle.std.proofs.lemmas.Bool.Decides.{nat_tests}
use Rattle.line_sets.specs.LineSet.{has, minus, with_line, first_in, lowest_of}
use Rattle.line_sets.proofs.LineSetLemmas.{minus-zero, first_in-zero, first_in-append, first_in-cons, first_in-same, first_in-shift, first_of_run, has-joined, has-with_same, has-with_other}
use Rattle.pic_8259.specs.Chip.{standing, above, chip_request}
use Rattle.pic_8259.specs.Controllers.{Controllers, IsPair, through, request_of, latch_of}
use Rattle.pic_8259.specs.Boot.{booted_chip, booted, IsBooted, acknowledge_order}

above-None : (x : Option ℕ) → above x None ≡ x
above-None None = refl
above-None (Some n) = refl

-- with nothing masked and nothing in service, a chip requests its lowest line
pub request-booted_chip : (cascade : Bool) (base irr : ℕ) → chip_request cascade (booted_chip base irr) ≡ lowest_of 8 (standing cascade (booted_chip base irr))
request-booted_chip cascade base irr =
    let set = standing cascade (booted_chip base irr) in
    ap (λ x. above (lowest_of 8 (minus set 0)) x) (first_in-zero (range_with_len 0 8))
    ∙ (above-None (lowest_of 8 (minus set 0)) ∙ ap (lowest_of 8) (minus-zero set))

-- the master's lines: 0 and 1, then the cascade, then 3 to 7
master_lines : (set : ℕ) → lowest_of 8 set ≡ option_or (first_in (range_with_len 0 2) set) (cond (has set 2) (Some 2) (first_in (range_with_len 3 5) set))
master_lines set = first_in-append set (range_with_len 0 2) (2 ∷ range_with_len 3 5) ∙ ap (option_or (first_in (range_with_len 0 2) set)) (first_in-cons 2 set (range_with_len 3 5))

not_two : (n : ℕ) (x : Option ℕ) → n ≢ 2 → through (Some n) x ≡ Some n
not_two n x ne = let e : eqb n 2 ≡ false = grind (arith, nat_tests) in rw e refl

-- the slave's request stands in the place of line 2
in_place : (a c x : Option ℕ) → ((n : ℕ) → a ≡ Some n → n ≢ 2) → ((n : ℕ) → c ≡ Some n → n ≢ 2)
    → through (option_or a (cond (is_some x) (Some 2) c)) x ≡ option_or (option_or a (option_map (λ k. k + 8) x)) c
in_place (Some n) c x ha hc = not_two n x (ha n refl)
in_place None c (Some j) ha hc = refl
in_place None None None ha hc = refl
in_place None (Some n) None ha hc = not_two n None (hc n refl)

below_two : (set n : ℕ) → first_in (range_with_len 0 2) set ≡ Some n → n ≢ 2
below_two set n e = let f = first_of_run 2 0 set n e in λ z. omega (arith, f.below)

above_two : (set n : ℕ) → first_in (range_with_len 3 5) set ≡ Some n → n ≢ 2
above_two set n e = let f = first_of_run 5 3 set n e in λ z. omega (arith, f.from)

-- what the master's lines are beside the cascade's
with_cascade : (b : Bool) (m : ℕ) → has m 2 ≡ false → lowest_of 8 (cond b (with_line m 2) m) ≡ option_or (first_in (range_with_len 0 2) m) (cond b (Some 2) (first_in (range_with_len 3 5) m))
with_cascade false m quiet = master_lines m ∙ ap (λ b. option_or (first_in (range_with_len 0 2) m) (cond b (Some 2) (first_in (range_with_len 3 5) m))) quiet
with_cascade true m quiet =
    master_lines (with_line m 2)
    ∙ (ap (λ b. option_or (first_in (range_with_len 0 2) (with_line m 2)) (cond b (Some 2) (first_in (range_with_len 3 5) (with_line m 2)))) (has-with_same m 2)
    ∙ ap (λ x. option_or x (Some 2)) (first_in-same 2 0 (with_line m 2) m (λ j l u. has-with_other m 2 j (omega arith))))

-- the first of both chips' lines in the order of the cascade
order_split : (m s : ℕ) → m < 256 → first_in acknowledge_order (s * 256 + m) ≡ option_or (option_or (first_in (range_with_len 0 2) m) (option_map (λ k. k + 8) (lowest_of 8 s))) (first_in (range_with_len 3 5) m)
order_split m s small =
    let latch = s * 256 + m in
    let low : (j : ℕ) → j < 8 → has latch j ≡ has m j = λ j l. (let e : leb (suc j) 8 ≡ true = grind (arith, nat_tests) in has-joined m s j small ∙ rw e refl) in
    let high : (j : ℕ) → has latch (j + 8) ≡ has s j = λ j. (let e : leb (suc (j + 8)) 8 ≡ false = grind (arith, nat_tests) in let k : j + 8 - 8 ≡ j = omega arith in has-joined m s (j + 8) small ∙ rw (e, k) refl) in
    first_in-append latch (range_with_len 0 2 ++ range_with_len 8 8) (range_with_len 3 5)
    ∙ (ap (λ x. option_or x (first_in (range_with_len 3 5) latch)) (first_in-append latch (range_with_len 0 2) (range_with_len 8 8))
    ∙ (ap (λ x. option_or (option_or x (first_in (range_with_len 8 8) latch)) (first_in (range_with_len 3 5) latch)) (first_in-same 2 0 latch m (λ j l u. low j (omega arith)))
    ∙ (ap (λ x. option_or (option_or (first_in (range_with_len 0 2) m) x) (first_in (range_with_len 3 5) latch)) (first_in-shift 8 0 8 latch s (λ j l u. high j))
    ∙ ap (λ x. option_or (option_or (first_in (range_with_len 0 2) m) (option_map (λ k. k + 8) (lowest_of 8 s))) x) (first_in-same 5 3 latch m (λ j l u. low j (omega arith))))))

pub request-booted : (m s : ℕ) → m < 256 → has m 2 ≡ false → request_of (booted m s) ≡ first_in acknowledge_order (s * 256 + m)
request-booted m s small quiet =
    let x = lowest_of 8 s in
    ap (λ b. through (chip_request (is_some b) (booted_chip 0x20 m)) b) (request-booted_chip false 0x28 s)
    ∙ (ap (λ r. through r x) (request-booted_chip (is_some x) 0x20 m ∙ with_cascade (is_some x) m quiet)
    ∙ (in_place (first_in (range_with_len 0 2) m) (first_in (range_with_len 3 5) m) x (below_two m) (above_two m)
    ∙ sym (order_split m s small)))

pub in_order : (p : Controllers) → IsPair p → IsBooted p → request_of p ≡ first_in acknowledge_order (latch_of p)
in_order p ok b = ap request_of b ∙ request-booted p.master.irr p.slave.irr ok.master_fits ok.no_cascade
