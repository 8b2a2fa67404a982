-- The list stays where one thread's number falls over numbers that none has.
use Rattle.std.proofs.Common.{◌≡◌, ◌≢◌, ℕ, zero, suc, ◌+◌, ◌<◌, ◌≤◌, true, false, cond, eqb, ltb, refl, sym, ap, ◌∙◌, arith, List, [], ◌∷◌, ◌++◌, length, set, get_or, map, Option, Some, None, ⊎_elim, ◌⊎◌, inl, inr, append-nil}
use Rattle.std.specs.List.{list_any}
use Rattle.std.proofs.lemmas.Bool.{cases_eq, cases_lt, eq-eqb, ne_eqb, ltb-true, ltb-false, or_left, or_right}
use Rattle.std.proofs.lemmas.List.{get_or-set_same, get_or-set_other, length-set, get_or-map, get_or_past, length-map}
use Rattle.std.proofs.lemmas.Map.Steps.{le-length_from_below}
use Rattle.ready_queues.specs.declared.queues.Member.{Member}
use Rattle.ready_queues.specs.Members.{Members}
use Rattle.rt_ready.specs.declared.ready.Place.{Place}
use Rattle.rt_ready.specs.Numbered.{gather, who, has_number, place_at, place_from, in_order, AreNumbered}
use Rattle.rt_ready.specs.Renumbered.{IsRenumbered, IsPartly, IsFrom, nearer}
use Rattle.rt_ready.proofs.Gathered.{one, one_none, gather_same, gather_more}
use Rattle.rt_ready.proofs.Numbers.{Apart, Below, who_is, who_at, who_same, who_none, other_number, numbered_with, below_without}

gather_cut : (w : ℕ → ℕ) (e : ℕ → Place) (n m : ℕ) → m ≤ n → ((k : ℕ) → m ≤ k → k < n → 64 ≤ w k) → gather w e n ≡ gather w e m
gather_cut w e zero m h g = let z : zero ≡ m = omega arith in ap (gather w e) z
gather_cut w e (suc n) m h g = ⊎_elim
    (λ (s : suc n ≡ m). ap (gather w e) s)
    (λ (s : suc n ≢ m). ap (λ (ys : List Place). gather w e n ++ ys) (one_none w e n (g n (omega (arith, s, h)) (omega arith))) ∙ append-nil (gather w e n) ∙ gather_cut w e n m (omega (arith, s, h)) (λ k a b. g k a (omega arith)))
    (cases_eq (suc n) m)

gather_tail : (w w' : ℕ → ℕ) (e e' : ℕ → Place) (n m : ℕ) → m ≤ n → gather w e m ≡ gather w' e' m → ((k : ℕ) → m ≤ k → k < n → w k ≡ w' k) → ((j : ℕ) → e j ≡ e' j) → gather w e n ≡ gather w' e' n
gather_tail w w' e e' zero m h g s t = let z : zero ≡ m = omega arith in ap (gather w e) z ∙ g ∙ ap (gather w' e') (sym z)
gather_tail w w' e e' (suc n) m h g s t = ⊎_elim
    (λ (x : suc n ≡ m). ap (gather w e) x ∙ g ∙ ap (gather w' e') (sym x))
    (λ (x : suc n ≢ m).
    ap (λ (xs : List Place). xs ++ one w e n) (gather_tail w w' e e' n m (omega (arith, x, h)) g (λ k a b. s k a (omega arith)) t)
    ∙ ap (λ (k : ℕ). gather w' e' n ++ cond (ltb k 64) (e k ∷ []) []) (s n (omega (arith, x, h)) (omega arith))
    ∙ ap (λ (p : Place). gather w' e' n ++ cond (ltb (w' n) 64) (p ∷ []) []) (t (w' n)))
    (cases_eq (suc n) m)

module _ (ms : List (Option Member)) (id n : ℕ) (m o : Member) where
  places_stay : length ms ≡ 64 → id < 64 → get_or ms id None ≡ Some m → o.priority ≡ m.priority → o.since ≡ m.since → (j : ℕ) → place_at ms j ≡ place_at (set ms id (Some o)) j
  places_stay l h at pr si j = ⊎_elim
      (λ (e : j ≡ id).
      ap (place_at ms) e ∙ ap (place_from id) at ∙ ap (λ (x : ℕ). record { id = id; priority = x; since = m.since }) (sym pr) ∙ ap (λ (x : ℕ). record { id = id; priority = o.priority; since = x }) (sym si)
      ∙ sym (ap (place_at (set ms id (Some o))) e ∙ ap (place_from id) (get_or-set_same ms id (Some o) None (omega (arith, l, h)))))
      (λ (d : j ≢ id). ap (place_from j) (sym (get_or-set_other ms id j (Some o) None d)))
      (cases_eq j id)

  pub moved : length ms ≡ 64 → id < 64 → Apart ms → Apart (set ms id (Some o)) → get_or ms id None ≡ Some m → o.priority ≡ m.priority → o.since ≡ m.since → o.number ≤ m.number → m.number < n → ((k : ℕ) → o.number ≤ k → k < m.number → 64 ≤ who ms k) → in_order (set ms id (Some o)) n ≡ in_order ms n
  moved l h apart apart' at pr si down less gap =
      let ms' = set ms id (Some o) in
      let a = o.number in
      let b = m.number in
      let here : get_or (set ms id (Some o)) id None ≡ Some o = get_or-set_same ms id (Some o) None (omega (arith, l, h)) in
      let same : (k : ℕ) → k ≢ o.number → k ≢ m.number → who (set ms id (Some o)) k ≡ who ms k = λ k x y. who_same ms id k (Some o) (ne_eqb o.number k (λ t. x (sym t)) ∙ sym (ap (has_number k) at ∙ ne_eqb m.number k (λ t. y (sym t)))) in
      let places = places_stay l h at pr si in
      ⊎_elim
      (λ (e : o.number ≡ m.number). gather_same (who (set ms id (Some o))) (who ms) (place_at (set ms id (Some o))) (place_at ms) n
      (λ k g. who_same ms id k (Some o) (ap (λ (x : ℕ). eqb x k) e ∙ sym (ap (has_number k) at)))
      (λ k g s. sym (places (who (set ms id (Some o)) k))))
      (λ (d : o.number ≢ m.number).
      let wb : who ms m.number ≡ id = who_at ms id m l h apart at in
      let wa : who (set ms id (Some o)) o.number ≡ id = who_at (set ms id (Some o)) id o (length-set ms id (Some o) ∙ l) h apart' here in
      let wb' : who (set ms id (Some o)) m.number ≡ 64 = who_none (set ms id (Some o)) m.number (length-set ms id (Some o) ∙ l) (λ j t. ⊎_elim
      (λ (y : j ≡ id). ap (has_number m.number) (ap (λ (r : ℕ). get_or (set ms id (Some o)) r None) y ∙ here) ∙ ne_eqb o.number m.number d)
      (λ (y : j ≢ id). ap (has_number m.number) (get_or-set_other ms id j (Some o) None y) ∙ other_number ms id j m.number m apart at refl y)
      (cases_eq j id)) in
      let low : in_order (set ms id (Some o)) o.number ≡ in_order ms o.number = gather_same (who (set ms id (Some o))) (who ms) (place_at (set ms id (Some o))) (place_at ms) o.number
      (λ k g. same k (λ t. absurd (omega (arith, t, g))) (λ t. absurd (omega (arith, t, g, down))))
      (λ k g s. sym (places (who (set ms id (Some o)) k))) in
      let left : in_order ms (suc m.number) ≡ in_order ms o.number ++ place_at ms id ∷ [] = gather_more (who ms) (place_at ms) m.number id wb h ∙ ap (λ (xs : List Place). xs ++ place_at ms id ∷ []) (gather_cut (who ms) (place_at ms) m.number o.number down gap) in
      let right : in_order (set ms id (Some o)) (suc m.number) ≡ in_order (set ms id (Some o)) o.number ++ place_at (set ms id (Some o)) id ∷ [] = gather_cut (who (set ms id (Some o))) (place_at (set ms id (Some o))) (suc m.number) (suc o.number) (omega (arith, down)) (λ k x y. ⊎_elim
      (λ (t : k ≡ m.number). omega (arith, ap (who (set ms id (Some o))) t, wb'))
      (λ (t : k ≢ m.number). omega (arith, same k (λ z. absurd (omega (arith, z, x))) t, gap k (omega (arith, x)) (omega (arith, t, y))))
      (cases_eq k m.number)) ∙ gather_more (who (set ms id (Some o))) (place_at (set ms id (Some o))) o.number id wa h in
      gather_tail (who (set ms id (Some o))) (who ms) (place_at (set ms id (Some o))) (place_at ms) n (suc m.number) (omega (arith, less))
      (right ∙ ap (λ (xs : List Place). xs ++ place_at (set ms id (Some o)) id ∷ []) low ∙ ap (λ (p : Place). in_order ms o.number ++ p ∷ []) (sym (places id)) ∙ sym left)
      (λ k x y. same k (λ z. absurd (omega (arith, z, x, down))) (λ z. absurd (omega (arith, z, x))))
      (λ j. sym (places j)))
      (cases_eq o.number m.number)

number_same : (m k : Member) → ◌≡◌ {A = Option Member} (Some m) (Some k) → m.number ≡ k.number
number_same m k e = cc

-- the search for the next number
none_some : (m : Member) → ◌≡◌ {A = Option Member} None (Some m) → ⊥
none_some m h = cc

pub from_none : (q : Members) (from : ℕ) → IsFrom q from 0 None
from_none q from i m h e = absurd (omega (arith, h))

pub from_more : (q : Members) (from id : ℕ) (best : Option (ℕ × Member)) (o : Option Member) → get_or q.members id None ≡ o → IsFrom q from id best → IsFrom q from (id + 1) (nearer best id o from)
from_more q from id None None at f = λ i m h e. ⊎_elim
    (λ (s : i ≡ id). absurd (none_some m (sym at ∙ ap (λ (k : ℕ). get_or q.members k None) (sym s) ∙ e)))
    (λ (s : i ≢ id). f i m (omega (arith, s, h)) e)
    (cases_eq i id)
from_more q from id (Some x) None at f = (
  omega (arith, f.0),
  f.1,
  f.2,
  λ i m h e. ⊎_elim
      (λ (s : i ≡ id). absurd (none_some m (sym at ∙ ap (λ (k : ℕ). get_or q.members k None) (sym s) ∙ e)))
      (λ (s : i ≢ id). f.3 i m (omega (arith, s, h)) e)
      (cases_eq i id),
)
from_more q from id None (Some o) at f = elim (ltb o.number from) as (λ b. ltb o.number from ≡ b → IsFrom q from (id + 1) (cond b None (Some (id, o)))) [
  | true ↦ λ t i m h e. ⊎_elim
      (λ (s : i ≡ id). omega (arith, ltb-true _ _ t, number_same o m (sym at ∙ ap (λ (k : ℕ). get_or q.members k None) (sym s) ∙ e)))
      (λ (s : i ≢ id). f i m (omega (arith, s, h)) e)
      (cases_eq i id)
  | false ↦ λ t. (
    omega arith,
    at,
    ltb-false _ _ t,
    λ i m h e. ⊎_elim
        (λ (s : i ≡ id). inr (omega (arith, number_same o m (sym at ∙ ap (λ (k : ℕ). get_or q.members k None) (sym s) ∙ e))))
        (λ (s : i ≢ id). inl (f i m (omega (arith, s, h)) e))
        (cases_eq i id),
  )
] refl
from_more q from id (Some x) (Some o) at f = elim (ltb o.number from) as (λ b. ltb o.number from ≡ b → IsFrom q from (id + 1) (cond b (Some x) (cond (ltb o.number (x.1).number) (Some (id, o)) (Some x)))) [
  | true ↦ λ t. (
    omega (arith, f.0),
    f.1,
    f.2,
    λ i m h e. ⊎_elim
        (λ (s : i ≡ id). inl (omega (arith, ltb-true _ _ t, number_same o m (sym at ∙ ap (λ (k : ℕ). get_or q.members k None) (sym s) ∙ e))))
        (λ (s : i ≢ id). f.3 i m (omega (arith, s, h)) e)
        (cases_eq i id),
  )
  | false ↦ λ t. elim (ltb o.number (x.1).number) as (λ b. ltb o.number (x.1).number ≡ b → IsFrom q from (id + 1) (cond b (Some (id, o)) (Some x))) [
    | true ↦ λ u. (
      omega arith,
      at,
      ltb-false _ _ t,
      λ i m h e. ⊎_elim
          (λ (s : i ≡ id). inr (omega (arith, number_same o m (sym at ∙ ap (λ (k : ℕ). get_or q.members k None) (sym s) ∙ e))))
          (λ (s : i ≢ id). ⊎_elim (λ (y : m.number < from). inl y) (λ (y : (x.1).number ≤ m.number). inr (omega (arith, y, ltb-true _ _ u))) (f.3 i m (omega (arith, s, h)) e))
          (cases_eq i id),
    )
    | false ↦ λ u. (
      omega (arith, f.0),
      f.1,
      f.2,
      λ i m h e. ⊎_elim
          (λ (s : i ≡ id). inr (omega (arith, ltb-false _ _ u, number_same o m (sym at ∙ ap (λ (k : ℕ). get_or q.members k None) (sym s) ∙ e))))
          (λ (s : i ≢ id). f.3 i m (omega (arith, s, h)) e)
          (cases_eq i id),
    )
  ] refl
] refl

-- one thread more with its new number
pub partly_more : (old new : Members) (next count from id : ℕ) (m o : Member) → IsPartly old next new count from → id < 64 → get_or new.members id None ≡ Some m → from ≤ m.number → ((i : ℕ) (k : Member) → i < 64 → get_or new.members i None ≡ Some k → (k.number < from) ⊎ (m.number ≤ k.number)) → o.priority ≡ m.priority → o.since ≡ m.since → o.number ≡ count → IsPartly old next (record new { members = set new.members id (Some o) }) (count + 1) (m.number + 1)
partly_more old new next count from id m o p h at low least pr si nu =
    let r = p.numbered in
    let ms = new.members in
    let here : get_or (set new.members id (Some o)) id None ≡ Some o = get_or-set_same new.members id (Some o) None (omega (arith, r.members, h)) in
    let inside : (i : ℕ) (k : Member) → get_or new.members i None ≡ Some k → i < 64 = λ i k e. ⊎_elim (λ (x : i < 64). x) (λ (x : 64 ≤ i). absurd (none_some k (sym (get_or_past new.members i None (omega (arith, r.members, x))) ∙ e))) (cases_lt i 64) in
    -- no other has the new number
    let fresh : (j : ℕ) (k : Member) → j ≢ id → get_or new.members j None ≡ Some k → k.number ≢ o.number = λ j k d e f. ⊎_elim
    (λ (x : k.number < count). absurd (omega (arith, x, f, nu)))
    (λ (x : from ≤ k.number).
    d (r.apart j id k m e at (⊎_elim
    (λ (y : k.number < from). absurd (omega (arith, x, y)))
    (λ (y : m.number ≤ k.number). omega (arith, y, f, nu, low, p.order.0))
    (least j k (inside j k e) e))))
    (p.gap j k e) in
    let ready = numbered_with new next next id o h r (omega arith) (omega (arith, nu, p.order.0, low, r.below id m at)) (omega (arith, pr, r.small id m at)) fresh in
    record {
      numbered = ready;
      version = p.version;
      seen = moved new.members id next m o r.members h r.apart ready.apart at pr si (omega (arith, nu, p.order.0, low)) (r.below id m at) (λ k x y. ⊎_elim
          (λ (g : who new.members k < 64).
          let w = who_is new.members k r.members g in
          absurd (⊎_elim
          (λ (z : (w.0).number < count). omega (arith, z, w.2, x, nu))
          (λ (z : from ≤ (w.0).number). ⊎_elim
          (λ (v : (w.0).number < from). omega (arith, z, v))
          (λ (v : m.number ≤ (w.0).number). omega (arith, v, w.2, y))
          (least (who new.members k) (w.0) g (w.1)))
          (p.gap (who new.members k) (w.0) (w.1))))
          (λ (g : 64 ≤ who new.members k). g)
          (cases_lt (who new.members k) 64)) ∙ p.seen;
      order = (omega (arith, p.order.0, low), omega (arith, r.below id m at));
      gap = λ i k e. ⊎_elim
          (λ (x : i ≡ id). inl (omega (arith, number_same o k (sym here ∙ ap (λ (j : ℕ). get_or (set new.members id (Some o)) j None) (sym x) ∙ e), nu)))
          (λ (x : i ≢ id).
          let f : get_or new.members i None ≡ Some k = sym (get_or-set_other new.members id i (Some o) None x) ∙ e in
          ⊎_elim
          (λ (y : k.number < count). inl (omega (arith, y)))
          (λ (y : from ≤ k.number). inr (⊎_elim
          (λ (z : k.number < from). absurd (omega (arith, y, z)))
          (λ (z : m.number ≤ k.number).
          let u : k.number ≢ m.number = λ v. x (r.apart i id k m f at v) in omega (arith, z, u))
          (least i k (inside i k f) f)))
          (p.gap i k f))
          (cases_eq i id);
      dense = λ q g. ⊎_elim
          (λ (x : q ≡ count).
          let w : who (set new.members id (Some o)) o.number ≡ id = who_at (set new.members id (Some o)) id o ready.members h ready.apart here in
          omega (arith, ap (who (set new.members id (Some o))) (x ∙ sym nu), w, h))
          (λ (x : q ≢ count).
          let t : who (set new.members id (Some o)) q ≡ who new.members q = who_same new.members id q (Some o) (ne_eqb o.number q (λ y. x (sym y ∙ nu)) ∙ sym (ap (has_number q) at ∙ ne_eqb m.number q (λ y. absurd (omega (arith, y, low, p.order.0, g, x))))) in
          omega (arith, t, p.dense q (omega (arith, x, g))))
          (cases_eq q count);
    }

-- all have their new numbers
pub partly_all : (old new : Members) (next count from : ℕ) → IsPartly old next new count from → ((i : ℕ) (m : Member) → i < 64 → get_or new.members i None ≡ Some m → m.number < from) → IsRenumbered old next new count
partly_all old new next count from p none =
    let r = p.numbered in
    let below : (i : ℕ) (m : Member) → get_or new.members i None ≡ Some m → m.number < count = λ i m e. ⊎_elim
    (λ (x : m.number < count). x)
    (λ (x : from ≤ m.number).
    let inside : i < 64 = ⊎_elim (λ (y : i < 64). y) (λ (y : 64 ≤ i). absurd (none_some m (sym (get_or_past new.members i None (omega (arith, r.members, y))) ∙ e))) (cases_lt i 64) in
    absurd (omega (arith, x, none i m inside e)))
    (p.gap i m e) in
    record {
      numbered = record { members = r.members; below = below; small = r.small; apart = r.apart };
      version = p.version;
      seen = sym (gather_cut (who new.members) (place_at new.members) next count (omega (arith, p.order.0, p.order.1)) (λ k x y. ⊎_elim
          (λ (g : who new.members k < 64).
          let w = who_is new.members k r.members g in
          absurd (omega (arith, below (who new.members k) (w.0) (w.1), w.2, x)))
          (λ (g : 64 ≤ who new.members k). g)
          (cases_lt (who new.members k) 64))) ∙ p.seen;
    }

-- there are at most 64 numbers
abbrev number_or : Option Member → ℕ
number_or None = 0
number_or (Some m) = m.number

any_at : (xs : List ℕ) (q k : ℕ) → k < length xs → get_or xs k 0 ≡ q → list_any (eqb q) xs ≡ true
any_at [] q k h e = absurd (omega (arith, h))
any_at (x ∷ xs) q zero h e = or_left (eqb q x) (list_any (eqb q) xs) (eq-eqb q x (sym e))
any_at (x ∷ xs) q (suc k) h e = or_right (eqb q x) (list_any (eqb q) xs) (any_at xs q k (omega (arith, h)) e)

pub few : (old new : Members) (next count from : ℕ) → IsPartly old next new count from → count ≤ 64
few old new next count from p =
    let l : length (map number_or new.members) ≡ 64 = length-map new.members number_or ∙ p.numbered.members in
    omega (
      arith,
      l,
      le-length_from_below (map number_or new.members) count (λ q h.
          let g = p.dense q h in
          let w = who_is new.members q p.numbered.members g in
          any_at (map number_or new.members) q (who new.members q) (omega (arith, l, g)) (get_or-map number_or new.members (who new.members q) None 0 (omega (arith, p.numbered.members, g)) ∙ ap number_or (w.1) ∙ w.2)),
    )

pub partly_none : (old : Members) (next : ℕ) → AreNumbered old next → IsPartly old next old 0 0
partly_none old next r = record {
  numbered = r;
  version = refl;
  seen = refl;
  order = (omega arith, omega arith);
  gap = λ i m e. inr (omega arith);
  dense = λ q h. absurd (omega (arith, h));
}

pub below_left : (q : Members) (next id : ℕ) → id < 64 → AreNumbered q next → Below (set q.members id None) next
below_left q next id h r = below_without q.members id next r.members h r.below

-- no other thread has the new number
pub fresh_new : (old new : Members) (next count from id : ℕ) (m : Member) (j : ℕ) (k : Member) → IsPartly old next new count from → id < 64 → get_or new.members id None ≡ Some m → from ≤ m.number → ((i : ℕ) (k : Member) → i < 64 → get_or new.members i None ≡ Some k → (k.number < from) ⊎ (m.number ≤ k.number)) → get_or (set new.members id None) j None ≡ Some k → k.number ≢ count
fresh_new old new next count from id m j k p h at low least e f =
    let r = p.numbered in
    let d : j ≢ id = λ x. none_some k (sym (ap (λ (y : ℕ). get_or (set new.members id None) y None) x ∙ get_or-set_same new.members id None None (omega (arith, r.members, h))) ∙ e) in
    let g : get_or new.members j None ≡ Some k = sym (get_or-set_other new.members id j None None d) ∙ e in
    let inside : j < 64 = ⊎_elim (λ (y : j < 64). y) (λ (y : 64 ≤ j). absurd (none_some k (sym (get_or_past new.members j None (omega (arith, r.members, y))) ∙ g))) (cases_lt j 64) in
    ⊎_elim
    (λ (x : k.number < count). absurd (omega (arith, x, f)))
    (λ (x : from ≤ k.number). d (r.apart j id k m g at (⊎_elim
    (λ (y : k.number < from). absurd (omega (arith, x, y)))
    (λ (y : m.number ≤ k.number). omega (arith, y, f, low, p.order.0))
    (least j k inside g))))
    (p.gap j k g)

-- a list under other numbers has the same threads
pub numbered_same : (old : Members) (next : ℕ) → AreNumbered old next → IsRenumbered old next old next
numbered_same old next r = record { numbered = r; version = refl; seen = refl }
