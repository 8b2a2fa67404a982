-- The first thread of the greatest queue is the first place.
use Rattle.std.proofs.Common.{◌≡◌, ◌≢◌, ℕ, ◌+◌, ◌*◌, ◌^◌, ◌<◌, ◌≤◌, Bool, true, false, not, ◌&&◌, ◌||◌, eqb, ltb, refl, sym, ap, ◌∙◌, arith, List, length, set, get_or, map, Option, Some, None, option_map, ⊎_elim}
use Rattle.std.proofs.lemmas.Bool.{cases_eq, cases_lt, lt-ltb, le-ltb, eq-eqb, ne_eqb, or_left, or_right, or_from, and_left, and_right, and_from, cond-true, cond-false}
use Rattle.std.proofs.lemmas.List.{get_or-set_same}
use Rattle.ready_queues.specs.declared.queues.Member.{Member}
use Rattle.ready_queues.specs.Members.{IsFresh, IsFirst, key, queue_of, key_of}
use Rattle.rt_ready.specs.declared.ready.Place.{Place}
use Rattle.rt_ready.specs.Order.{first_place, goes_before, is_beaten_in, rated}
use Rattle.rt_ready.specs.Numbered.{who, has_number, place_from, place_at, in_order}
use Rattle.rt_ready.proofs.Gathered.{any_here, any_none, find_none, find_here, gather_mapped, gather_same}
use Rattle.rt_ready.proofs.Numbers.{who_is, who_at, who_same, places_id, place_other, Apart, Below, Small}

key_two : (v : ℕ) (m : Member) → v ≡ 2 → key v m ≡ m.since * 2 ^ 64 + m.number
unfolding key
key_two v m e = cond-true (eqb v 2) _ _ (eq-eqb v 2 e)

key_one : (v : ℕ) (m : Member) → v ≢ 2 → key v m ≡ m.number
unfolding key
key_one v m d = cond-false (eqb v 2) _ _ (ne_eqb v 2 d)

-- equal keys have equal numbers
key_number : (v : ℕ) (a b : Member) → a.number < 2 ^ 64 → b.number < 2 ^ 64 → key v a ≡ key v b → a.number ≡ b.number
key_number v a b h k e = ⊎_elim
    (λ (t : v ≡ 2). omega (arith, key_two v a t, key_two v b t, e))
    (λ (t : v ≢ 2). sym (key_one v a t) ∙ e ∙ key_one v b t)
    (cases_eq v 2)

abbrev before : ℕ → Member → Member → Bool
before v b a = ltb a.priority b.priority || (eqb v 2 && (eqb a.priority b.priority && ltb b.since a.since))

not_before : (v : ℕ) (b a : Member) → a.number < 2 ^ 64 → b.number < 2 ^ 64 → b.priority ≤ a.priority → (b.priority ≡ a.priority → key v a ≤ key v b) → before v b a ≡ false
not_before v b a x y h k = or_from (ltb a.priority b.priority) (eqb v 2 && (eqb a.priority b.priority && ltb b.since a.since)) (le-ltb a.priority b.priority h) (⊎_elim
    (λ (t : v ≡ 2). and_right (eqb v 2) (eqb a.priority b.priority && ltb b.since a.since) (⊎_elim
    (λ (e : a.priority ≡ b.priority). and_right (eqb a.priority b.priority) (ltb b.since a.since) (le-ltb b.since a.since (omega (arith, key_two v a t, key_two v b t, k (sym e), x, y))))
    (λ (d : a.priority ≢ b.priority). and_left (eqb a.priority b.priority) (ltb b.since a.since) (ne_eqb _ _ d))
    (cases_eq a.priority b.priority)))
    (λ (t : v ≢ 2). and_left (eqb v 2) (eqb a.priority b.priority && ltb b.since a.since) (ne_eqb v 2 t))
    (cases_eq v 2))

is_before : (v : ℕ) (b a : Member) → a.number < 2 ^ 64 → b.number < 2 ^ 64 → a.number < b.number → a.priority ≤ b.priority → (a.priority ≡ b.priority → key v b ≤ key v a) → before v b a ≡ true
is_before v b a x y less h k = ⊎_elim
    (λ (l : a.priority < b.priority). or_left (ltb a.priority b.priority) (eqb v 2 && (eqb a.priority b.priority && ltb b.since a.since)) (lt-ltb a.priority b.priority l))
    (λ (l : b.priority ≤ a.priority).
    let e : a.priority ≡ b.priority = omega arith in
    ⊎_elim
    (λ (t : v ≡ 2). or_right (ltb a.priority b.priority) (eqb v 2 && (eqb a.priority b.priority && ltb b.since a.since)) (and_from (eqb v 2) (eqb a.priority b.priority && ltb b.since a.since) (eq-eqb v 2 t) (and_from (eqb a.priority b.priority) (ltb b.since a.since) (eq-eqb _ _ e) (lt-ltb b.since a.since (omega (arith, key_two v a t, key_two v b t, k e, x, y, less))))))
    (λ (t : v ≢ 2). absurd (omega (arith, key_one v a t, key_one v b t, k e, less)))
    (cases_eq v 2))
    (cases_lt a.priority b.priority)

module _ (v n : ℕ) (ms : List (Option Member)) where
  place_is : (i : ℕ) (m : Member) → get_or ms i None ≡ Some m → place_at ms i ≡ record { id = i; priority = m.priority; since = m.since }
  place_is i m e = ap (place_from i) e

  tests : (i j : ℕ) (a b : Member) → get_or ms i None ≡ Some a → get_or ms j None ≡ Some b → goes_before v (place_at ms j) (place_at ms i) ≡ before v b a
  tests i j a b e f = ap (λ (p : Place). goes_before v p (place_at ms i)) (place_is j b f) ∙ ap (goes_before v (record { id = j; priority = b.priority; since = b.since })) (place_is i a e)

  some_is : (o : Option Member) (j : ℕ) → get_or ms j None ≡ o → queue_of o < 256 → (m : Member) × (get_or ms j None ≡ Some m)
  some_is None j e h = absurd (omega (arith, h))
  some_is (Some m) j e h = (m, e)

  pub first_none : length ms ≡ 64 → Small ms → IsFirst (record { version = v; members = ms }) None → None ≡ option_map (λ (p : Place). p.id) (first_place v (in_order ms n))
  unfolding first_place
  first_none l small none = sym (ap (option_map (λ (p : Place). p.id)) (find_none (λ a. not (is_beaten_in v (in_order ms n) a)) (who ms) (place_at ms) n (λ k g h.
      let w = who_is ms k l h in
      absurd (omega (arith, none (who ms k) h, ap queue_of (w.1), small (who ms k) (w.0) (w.1))))))

  pub first_some : (i : ℕ) → length ms ≡ 64 → Apart ms → Below ms n → Small ms → n < 2 ^ 64 → IsFirst (record { version = v; members = ms }) (Some i) → Some i ≡ option_map (λ (p : Place). p.id) (first_place v (in_order ms n))
  unfolding first_place
  first_some i l apart below small next first =
      let s = some_is (get_or ms i None) i refl (first.1) in
      let m = s.0 in
      let at : get_or ms i None ≡ Some m = s.1 in
      let w : who ms m.number ≡ i = who_at ms i m l (first.0) apart at in
      let atw : get_or ms (who ms m.number) None ≡ Some m = ap (λ (j : ℕ). get_or ms j None) w ∙ at in
      let kept : is_beaten_in v (in_order ms n) (place_at ms (who ms m.number)) ≡ false = any_none (λ b. goes_before v b (place_at ms (who ms m.number))) (who ms) (place_at ms) n (λ k g h.
      let u = who_is ms k l h in
      let t = first.2 (who ms k) h (omega (arith, ap queue_of (u.1), small (who ms k) (u.0) (u.1))) in
      tests (who ms m.number) (who ms k) m (u.0) atw (u.1)
      ∙ not_before v (u.0) m (omega (arith, below i m at, next)) (omega (arith, below (who ms k) (u.0) (u.1), next)) (omega (arith, t.0, ap queue_of (u.1), ap queue_of at)) (λ e. omega (arith, t.1 (ap queue_of (u.1) ∙ e ∙ sym (ap queue_of at)), ap (key_of v) (u.1), ap (key_of v) at))) in
      let beaten : (j : ℕ) → j < m.number → who ms j < 64 → is_beaten_in v (in_order ms n) (place_at ms (who ms j)) ≡ true = λ j g h.
      let u = who_is ms j l h in
      let t = first.2 (who ms j) h (omega (arith, ap queue_of (u.1), small (who ms j) (u.0) (u.1))) in
      any_here (λ b. goes_before v b (place_at ms (who ms j))) (who ms) (place_at ms) n m.number (below i m at) (omega (arith, w, first.0))
      (tests (who ms j) (who ms m.number) (u.0) m (u.1) atw
      ∙ is_before v m (u.0) (omega (arith, below (who ms j) (u.0) (u.1), next)) (omega (arith, below i m at, next)) (omega (arith, u.2, g)) (omega (arith, t.0, ap queue_of (u.1), ap queue_of at)) (λ e. omega (arith, t.1 (ap queue_of (u.1) ∙ e ∙ sym (ap queue_of at)), ap (key_of v) (u.1), ap (key_of v) at))) in
      sym (ap (option_map (λ (p : Place). p.id)) (find_here (λ a. not (is_beaten_in v (in_order ms n) a)) (who ms) (place_at ms) n m.number (below i m at) (omega (arith, w, first.0)) (ap not kept) (λ j g h. ap not (beaten j g h)))
      ∙ ap (λ (j : ℕ). Some j) (places_id ms (who ms m.number) ∙ w))

  pub fresh_from : (o : Member) → Below ms n → n < 2 ^ 64 → o.number < 2 ^ 64 → ((j : ℕ) (k : Member) → get_or ms j None ≡ Some k → k.number ≢ o.number) → IsFresh (record { version = v; members = ms }) (key v o)
  fresh_from o below next less apart j h q e =
      let s = some_is (get_or ms j None) j refl q in
      apart j (s.0) (s.1) (key_number v (s.0) o (omega (arith, below j (s.0) (s.1), next)) less (sym (ap (key_of v) (s.1)) ∙ e))

-- another priority
rated_other : (id pr : ℕ) (p : Place) → p.id ≢ id → rated id pr p ≡ p
rated_other id pr p d = cond-false (eqb p.id id) _ _ (ne_eqb p.id id d)

each : (ms : List (Option Member)) (i pr : ℕ) (m o : Member) → length ms ≡ 64 → i < 64 → get_or ms i None ≡ Some m → o.priority ≡ pr → o.since ≡ m.since → (j : ℕ) → rated i pr (place_at ms j) ≡ place_at (set ms i (Some o)) j
each ms i pr m o l h at pri sin j = ⊎_elim
    (λ (e : j ≡ i).
    ap (λ (k : ℕ). rated i pr (place_at ms k)) e ∙ ap (λ (x : Option Member). rated i pr (place_from i x)) at
    ∙ cond-true (eqb i i) _ _ (eq-eqb i i refl)
    ∙ ap (λ (x : ℕ). record { id = i; priority = x; since = m.since }) (sym pri)
    ∙ ap (λ (x : ℕ). record { id = i; priority = o.priority; since = x }) (sym sin)
    ∙ sym (ap (λ (k : ℕ). place_at (set ms i (Some o)) k) e ∙ ap (place_from i) (get_or-set_same ms i (Some o) None (omega (arith, l, h)))))
    (λ (d : j ≢ i). rated_other i pr (place_at ms j) (λ x. d (sym (places_id ms j) ∙ x)) ∙ sym (place_other ms i j (Some o) d))
    (cases_eq j i)

pub order_rated : (ms : List (Option Member)) (n i pr : ℕ) (m o : Member) → length ms ≡ 64 → i < 64 → get_or ms i None ≡ Some m → o.number ≡ m.number → o.priority ≡ pr → o.since ≡ m.since → in_order (set ms i (Some o)) n ≡ map (rated i pr) (in_order ms n)
order_rated ms n i pr m o l h at num pri sin = sym (gather_mapped (rated i pr) (who ms) (place_at ms) n ∙ gather_same (who ms) (who (set ms i (Some o))) (λ j. rated i pr (place_at ms j)) (place_at (set ms i (Some o))) n
    (λ k g. sym (who_same ms i k (Some o) (ap (λ (x : ℕ). eqb x k) num ∙ sym (ap (has_number k) at))))
    (λ k g s. each ms i pr m o l h at pri sin (who ms k)))

no_member : (m : Member) → ◌≡◌ {A = Option Member} (Some m) None → ⊥
no_member m h = cc

pub order_unrated : (ms : List (Option Member)) (n i pr : ℕ) → length ms ≡ 64 → get_or ms i None ≡ None → in_order ms n ≡ map (rated i pr) (in_order ms n)
order_unrated ms n i pr l none = sym (gather_mapped (rated i pr) (who ms) (place_at ms) n ∙ gather_same (who ms) (who ms) (λ j. rated i pr (place_at ms j)) (place_at ms) n
    (λ k g. refl)
    (λ k g s. rated_other i pr (place_at ms (who ms k)) (λ x.
    let w = who_is ms k l s in
    no_member (w.0) (sym (w.1) ∙ ap (λ (j : ℕ). get_or ms j None) (sym (places_id ms (who ms k)) ∙ x) ∙ none))))
