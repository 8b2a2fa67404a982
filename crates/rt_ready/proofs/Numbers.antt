-- Whose a number is, after a change of one thread.
use Rattle.std.proofs.Common.{◌≡◌, ◌≢◌, ℕ, suc, ◌<◌, ◌≤◌, true, false, eqb, refl, sym, ap, ◌∙◌, arith, List, length, set, get_or, Option, Some, None, replicate, ⊎_elim, ◌++◌, ◌∷◌, []}
use Rattle.std.proofs.lemmas.Bool.{cases_eq, cases_lt, eq-eqb, ne_eqb, eqb-true, true≢false}
use Rattle.std.proofs.lemmas.List.{get_or-set_same, get_or-set_other, get_or_past, length-set, get_or-replicate}
use Rattle.std.proofs.lemmas.List.Sums.{position_or_len_is, passes_at_first}
use Rattle.std.proofs.lemmas.List.Folds.{position_or_len-set}
use Rattle.ready_queues.specs.declared.queues.Member.{Member}
use Rattle.ready_queues.specs.Members.{Members}
use Rattle.rt_ready.specs.declared.ready.Place.{Place}
use Rattle.rt_ready.specs.Order.{is_in, without_place}
use Rattle.rt_ready.specs.Numbered.{has_number, who, place_from, place_at, in_order, AreNumbered}
use Rattle.rt_ready.proofs.Gathered.{gather_same, gather_more, gather_without, gather_absent, gather_none, any_here, any_none}

abbrev pub Apart : List (Option Member) → Type 0
Apart ms = (i j : ℕ) (m k : Member) → get_or ms i None ≡ Some m → get_or ms j None ≡ Some k → m.number ≡ k.number → i ≡ j

abbrev pub Below : List (Option Member) → ℕ → Type 0
Below ms n = (i : ℕ) (m : Member) → get_or ms i None ≡ Some m → m.number < n

pub no_member : (m : Member) → ◌≡◌ {A = Option Member} (Some m) None → ⊥
no_member m h = cc

-- who has a number that passes
number_is : (n : ℕ) (o : Option Member) → has_number n o ≡ true → (m : Member) × (o ≡ Some m) × (m.number ≡ n)
number_is n None h = absurd (true≢false (sym h))
number_is n (Some m) h = (m, refl, eqb-true m.number n h)

pub who_is : (ms : List (Option Member)) (n : ℕ) → length ms ≡ 64 → who ms n < 64 → (m : Member) × (get_or ms (who ms n) None ≡ Some m) × (m.number ≡ n)
who_is ms n l h = number_is n (get_or ms (who ms n) None) (passes_at_first (has_number n) ms None (omega (arith, l, h)))

pub other_number : (ms : List (Option Member)) (i k n : ℕ) (m : Member) → Apart ms → get_or ms i None ≡ Some m → m.number ≡ n → k ≢ i → has_number n (get_or ms k None) ≡ false
other_number ms i k n m apart e f d = elim (has_number n (get_or ms k None)) as (λ b. has_number n (get_or ms k None) ≡ b → b ≡ false) [
  | true ↦ λ h. let w = number_is n (get_or ms k None) h in absurd (d (apart k i (w.0) m (w.1) e (w.2 ∙ sym f)))
  | false ↦ λ h. refl
] refl

pub who_at : (ms : List (Option Member)) (i : ℕ) (m : Member) → length ms ≡ 64 → i < 64 → Apart ms → get_or ms i None ≡ Some m → who ms m.number ≡ i
who_at ms i m l h apart e = position_or_len_is (has_number m.number) ms i None (omega (arith, l, h)) (λ k g. other_number ms i k m.number m apart e refl (λ x. absurd (omega (arith, x, g)))) (λ _. ap (has_number m.number) e ∙ eq-eqb m.number m.number refl)

pub who_same : (ms : List (Option Member)) (i n : ℕ) (o : Option Member) → has_number n o ≡ has_number n (get_or ms i None) → who (set ms i o) n ≡ who ms n
who_same ms i n o e = position_or_len-set (has_number n) ms i o None e

pub who_none : (ms : List (Option Member)) (n : ℕ) → length ms ≡ 64 → ((k : ℕ) → k < 64 → has_number n (get_or ms k None) ≡ false) → who ms n ≡ 64
who_none ms n l h = position_or_len_is (has_number n) ms 64 None (omega (arith, l)) h (λ g. absurd (omega (arith, l, g)))

place_id : (i : ℕ) (o : Option Member) → (place_from i o).id ≡ i
place_id i None = refl
place_id i (Some m) = refl

pub places_id : (ms : List (Option Member)) (i : ℕ) → (place_at ms i).id ≡ i
places_id ms i = place_id i (get_or ms i None)

pub place_other : (ms : List (Option Member)) (i j : ℕ) (o : Option Member) → j ≢ i → place_at (set ms i o) j ≡ place_at ms j
place_other ms i j o d = ap (place_from j) (get_or-set_other ms i j o None d)

-- is a thread in the list?
pub is_in_order : (ms : List (Option Member)) (n i : ℕ) (m : Member) → length ms ≡ 64 → i < 64 → Apart ms → Below ms n → get_or ms i None ≡ Some m → is_in i (in_order ms n) ≡ true
is_in_order ms n i m l h apart below e =
    let w : who ms m.number ≡ i = who_at ms i m l h apart e in
    any_here (λ (p : Place). eqb p.id i) (who ms) (place_at ms) n m.number (below i m e) (omega (arith, w, h)) (eq-eqb _ _ (places_id ms (who ms m.number) ∙ w))

pub not_in_order : (ms : List (Option Member)) (n i : ℕ) → length ms ≡ 64 → get_or ms i None ≡ None → is_in i (in_order ms n) ≡ false
not_in_order ms n i l e = any_none (λ (p : Place). eqb p.id i) (who ms) (place_at ms) n (λ k g h. ne_eqb _ _ (λ x.
    let w = who_is ms k l h in
    no_member (w.0) (sym (w.1) ∙ ap (λ (j : ℕ). get_or ms j None) (sym (places_id ms (who ms k)) ∙ x) ∙ e)))

pub absent_is : (ms : List (Option Member)) (n i : ℕ) (o : Option Member) → length ms ≡ 64 → i < 64 → Apart ms → Below ms n → get_or ms i None ≡ o → is_in i (in_order ms n) ≡ false → o ≡ None
absent_is ms n i None l h apart below e f = refl
absent_is ms n i (Some m) l h apart below e f = absurd (true≢false (sym (is_in_order ms n i m l h apart below e) ∙ f))

-- a thread goes
pub order_without : (ms : List (Option Member)) (n i : ℕ) (m : Member) → length ms ≡ 64 → i < 64 → Apart ms → get_or ms i None ≡ Some m → without_place i (in_order ms n) ≡ in_order (set ms i None) n
order_without ms n i m l h apart e =
    let ms' = set ms i None in
    gather_without i (who ms) (who (set ms i None)) (place_at ms) (place_at (set ms i None)) n
    (λ k g x.
    let w = who_is ms k l (omega (arith, x, h)) in
    let f : get_or ms i None ≡ Some (w.0) = ap (λ (j : ℕ). get_or ms j None) (sym x) ∙ w.1 in
    omega (
      arith,
      who_none (set ms i None) k (length-set ms i None ∙ l) (λ j t. ⊎_elim
          (λ (y : j ≡ i). ap (has_number k) (ap (λ (r : ℕ). get_or (set ms i None) r None) y ∙ get_or-set_same ms i None None (omega (arith, l, h))))
          (λ (y : j ≢ i). ap (has_number k) (get_or-set_other ms i j None None y) ∙ other_number ms i j k (w.0) apart f (w.2) y)
          (cases_eq j i)),
    ))
    (λ k g x. who_same ms i k None (sym (ap (has_number k) e ∙ ne_eqb m.number k (λ y. x (ap (who ms) (sym y) ∙ who_at ms i m l h apart e)))))
    (places_id ms) (λ j d. place_other ms i j None d) h

-- a thread comes last
pub order_with : (ms : List (Option Member)) (n i : ℕ) (m : Member) → length ms ≡ 64 → i < 64 → Apart (set ms i (Some m)) → get_or ms i None ≡ None → m.number ≡ n → in_order (set ms i (Some m)) (suc n) ≡ in_order ms n ++ record { id = i; priority = m.priority; since = m.since } ∷ []
order_with ms n i m l h apart e f =
    let here : get_or (set ms i (Some m)) i None ≡ Some m = get_or-set_same ms i (Some m) None (omega (arith, l, h)) in
    gather_more (who (set ms i (Some m))) (place_at (set ms i (Some m))) n i (ap (who (set ms i (Some m))) (sym f) ∙ who_at (set ms i (Some m)) i m (length-set ms i (Some m) ∙ l) h apart here) h
    ∙ ap (λ (xs : List Place). xs ++ place_at (set ms i (Some m)) i ∷ [])
    (gather_same (who (set ms i (Some m))) (who ms) (place_at (set ms i (Some m))) (place_at ms) n
    (λ k g. who_same ms i k (Some m) (ne_eqb m.number k (λ y. absurd (omega (arith, f, y, g))) ∙ sym (ap (has_number k) e)))
    (λ k g s.
    let same : who (set ms i (Some m)) k ≡ who ms k = who_same ms i k (Some m) (ne_eqb m.number k (λ y. absurd (omega (arith, f, y, g))) ∙ sym (ap (has_number k) e)) in
    place_other ms i (who (set ms i (Some m)) k) (Some m) (λ y.
    let w = who_is ms k l (omega (arith, same, s)) in
    no_member (w.0) (sym (w.1) ∙ ap (λ (j : ℕ). get_or ms j None) (sym same ∙ y) ∙ e))))
    ∙ ap (λ (o : Option Member). in_order ms n ++ place_from i o ∷ []) here

-- what stays of the invariant
pub apart_without : (ms : List (Option Member)) (i : ℕ) → length ms ≡ 64 → i < 64 → Apart ms → Apart (set ms i None)
apart_without ms i l h apart a b m k e f g = ⊎_elim
    (λ (x : a ≡ i). absurd (no_member m (sym e ∙ ap (λ (r : ℕ). get_or (set ms i None) r None) x ∙ get_or-set_same ms i None None (omega (arith, l, h)))))
    (λ (x : a ≢ i). ⊎_elim
    (λ (y : b ≡ i). absurd (no_member k (sym f ∙ ap (λ (r : ℕ). get_or (set ms i None) r None) y ∙ get_or-set_same ms i None None (omega (arith, l, h)))))
    (λ (y : b ≢ i). apart a b m k (sym (get_or-set_other ms i a None None x) ∙ e) (sym (get_or-set_other ms i b None None y) ∙ f) g)
    (cases_eq b i))
    (cases_eq a i)

pub below_without : (ms : List (Option Member)) (i n : ℕ) → length ms ≡ 64 → i < 64 → Below ms n → Below (set ms i None) n
below_without ms i n l h below a m e = ⊎_elim
    (λ (x : a ≡ i). absurd (no_member m (sym e ∙ ap (λ (r : ℕ). get_or (set ms i None) r None) x ∙ get_or-set_same ms i None None (omega (arith, l, h)))))
    (λ (x : a ≢ i). below a m (sym (get_or-set_other ms i a None None x) ∙ e))
    (cases_eq a i)

member_same : (m k : Member) → ◌≡◌ {A = Option Member} (Some m) (Some k) → m.number ≡ k.number
member_same m k e = cc

pub apart_with : (ms : List (Option Member)) (i : ℕ) (o : Member) → length ms ≡ 64 → i < 64 → Apart ms → ((j : ℕ) (k : Member) → j ≢ i → get_or ms j None ≡ Some k → k.number ≢ o.number) → Apart (set ms i (Some o))
apart_with ms i o l h apart fresh a b m k e f g =
    let here : get_or (set ms i (Some o)) i None ≡ Some o = get_or-set_same ms i (Some o) None (omega (arith, l, h)) in
    ⊎_elim
    (λ (x : a ≡ i). ⊎_elim
    (λ (y : b ≡ i). x ∙ sym y)
    (λ (y : b ≢ i). absurd (fresh b k y (sym (get_or-set_other ms i b (Some o) None y) ∙ f) (sym g ∙ member_same m o (sym e ∙ ap (λ (r : ℕ). get_or (set ms i (Some o)) r None) x ∙ here))))
    (cases_eq b i))
    (λ (x : a ≢ i). ⊎_elim
    (λ (y : b ≡ i). absurd (fresh a m x (sym (get_or-set_other ms i a (Some o) None x) ∙ e) (g ∙ member_same k o (sym f ∙ ap (λ (r : ℕ). get_or (set ms i (Some o)) r None) y ∙ here))))
    (λ (y : b ≢ i). apart a b m k (sym (get_or-set_other ms i a (Some o) None x) ∙ e) (sym (get_or-set_other ms i b (Some o) None y) ∙ f) g)
    (cases_eq b i))
    (cases_eq a i)

pub below_with : (ms : List (Option Member)) (i n q : ℕ) (o : Member) → length ms ≡ 64 → i < 64 → Below ms n → n ≤ q → o.number < q → Below (set ms i (Some o)) q
below_with ms i n q o l h below small less a m e = ⊎_elim
    (λ (x : a ≡ i). omega (arith, less, member_same m o (sym e ∙ ap (λ (r : ℕ). get_or (set ms i (Some o)) r None) x ∙ get_or-set_same ms i (Some o) None (omega (arith, l, h)))))
    (λ (x : a ≢ i). omega (arith, small, below a m (sym (get_or-set_other ms i a (Some o) None x) ∙ e)))
    (cases_eq a i)

-- no thread
abbrev no_members : List (Option Member)
no_members = replicate 64 None

none_there : (i : ℕ) (m : Member) → get_or no_members i None ≡ Some m → ⊥
none_there i m e = ⊎_elim
    (λ (h : i < 64). no_member m (sym e ∙ get_or-replicate 64 i None None h))
    (λ (h : 64 ≤ i). no_member m (sym e ∙ get_or_past no_members i None h))
    (cases_lt i 64)

pub none_numbered : (v n : ℕ) → AreNumbered (record { version = v; members = replicate 64 None }) n
none_numbered v n = record {
  members = refl;
  below = λ i m e. absurd (none_there i m e);
  small = λ i m e. absurd (none_there i m e);
  apart = λ i j m k e f g. absurd (none_there i m e);
}

none_who : (n : ℕ) → who no_members n ≡ 64
none_who n = who_none no_members n refl (λ k h. ap (has_number n) (get_or-replicate 64 k None None h))

pub none_in_order : (n : ℕ) → in_order no_members n ≡ []
none_in_order n = gather_none (who no_members) (place_at no_members) n none_who

pub past_without : (ms : List (Option Member)) (i : ℕ) → length ms ≡ 64 → 64 ≤ i → get_or ms i None ≡ None
past_without ms i l h = get_or_past ms i None (omega (arith, l, h))

abbrev pub Small : List (Option Member) → Type 0
Small ms = (i : ℕ) (m : Member) → get_or ms i None ≡ Some m → m.priority < 256

small_without : (ms : List (Option Member)) (i : ℕ) → length ms ≡ 64 → i < 64 → Small ms → Small (set ms i None)
small_without ms i l h small a m e = ⊎_elim
    (λ (x : a ≡ i). absurd (no_member m (sym e ∙ ap (λ (r : ℕ). get_or (set ms i None) r None) x ∙ get_or-set_same ms i None None (omega (arith, l, h)))))
    (λ (x : a ≢ i). small a m (sym (get_or-set_other ms i a None None x) ∙ e))
    (cases_eq a i)

small_same : (m k : Member) → ◌≡◌ {A = Option Member} (Some m) (Some k) → m.priority ≡ k.priority
small_same m k e = cc

small_with : (ms : List (Option Member)) (i : ℕ) (o : Member) → length ms ≡ 64 → i < 64 → Small ms → o.priority < 256 → Small (set ms i (Some o))
small_with ms i o l h small less a m e = ⊎_elim
    (λ (x : a ≡ i). omega (arith, less, small_same m o (sym e ∙ ap (λ (r : ℕ). get_or (set ms i (Some o)) r None) x ∙ get_or-set_same ms i (Some o) None (omega (arith, l, h)))))
    (λ (x : a ≢ i). small a m (sym (get_or-set_other ms i a (Some o) None x) ∙ e))
    (cases_eq a i)

-- a thread comes in: its number is new and below the next
pub numbered_with : (q : Members) (n p i : ℕ) (o : Member) → i < 64 → AreNumbered q n → n ≤ p → o.number < p → o.priority < 256 → ((j : ℕ) (k : Member) → j ≢ i → get_or q.members j None ≡ Some k → k.number ≢ o.number) → AreNumbered (record q { members = set q.members i (Some o) }) p
numbered_with q n p i o h r le less pr fresh = record {
  members = length-set q.members i (Some o) ∙ r.members;
  below = below_with q.members i n p o r.members h r.below le less;
  small = small_with q.members i o r.members h r.small pr;
  apart = apart_with q.members i o r.members h r.apart fresh;
}

pub numbered_without : (q : Members) (n i : ℕ) → i < 64 → AreNumbered q n → AreNumbered (record q { members = set q.members i None }) n
numbered_without q n i h r = record {
  members = length-set q.members i None ∙ r.members;
  below = below_without q.members i n r.members h r.below;
  small = small_without q.members i r.members h r.small;
  apart = apart_without q.members i r.members h r.apart;
}

-- one that isn't in it
pub absent_without : (ms : List (Option Member)) (n i : ℕ) → length ms ≡ 64 → get_or ms i None ≡ None → without_place i (in_order ms n) ≡ in_order ms n
absent_without ms n i l e = gather_absent i (who ms) (place_at ms) n (places_id ms) (λ k g h x.
    let w = who_is ms k l h in
    no_member (w.0) (sym (w.1) ∙ ap (λ (j : ℕ). get_or ms j None) x ∙ e))

-- the others have other numbers
pub number_fresh : (ms : List (Option Member)) (i : ℕ) (m : Member) (j : ℕ) (k : Member) → length ms ≡ 64 → i < 64 → Apart ms → get_or ms i None ≡ Some m → get_or (set ms i None) j None ≡ Some k → k.number ≢ m.number
number_fresh ms i m j k l h apart e f g = ⊎_elim
    (λ (x : j ≡ i). no_member k (sym f ∙ ap (λ (r : ℕ). get_or (set ms i None) r None) x ∙ get_or-set_same ms i None None (omega (arith, l, h))))
    (λ (x : j ≢ i). x (apart j i k m (sym (get_or-set_other ms i j None None x) ∙ f) e g))
    (cases_eq j i)
