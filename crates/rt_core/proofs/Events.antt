-- Events of one tick, and of later ones.
use Rattle.std.proofs.Common.{◌≡◌, ℕ, suc, ◌≤◌, ◌<◌, ◌+◌, ◌==◌, true, false, List, [], ◌∷◌, ◌++◌, arith, refl, sym, subst, ◌∙◌, nat_lt, nat_le, ap, take, drop, length, set, get_or, inl, inr}
use Rattle.std.proofs.lemmas.List.{append_assoc, append-nil, length-set, take_more_set, drop_more, drop_all}
use Rattle.std.specs.Prelude.{if◌then◌else◌}
use Rattle.std.specs.List.{list_all}
use Rattle.std.proofs.lemmas.Bool.{and_parts, cases_Bool, ltb-true}
use Rattle.std.proofs.lemmas.List.Sums.{sum_by-cons}
use Rattle.std.proofs.lemmas.Bool.Decides.{nat_tests}
use Rattle.device_script.specs.declared.event.Event.{Event}
use Rattle.device_script.specs.Event.{Events, IsScript, is_event, is_device_event, ticks_rise, count_at}
use Rattle.run_lines.specs.Ticks.{at_tick}
use Rattle.rt_core.specs.Coming.{above, comes, AreComing}

-- events of later ticks alone
none_now : (from t : ℕ) (es : Events) → t < from → ticks_rise from es ≡ true → at_tick t es ≡ []
none_now from t [] later order = refl
none_now from t (e ∷ es) later order = let rest = none_now e.0 t es in grind (arith, nat_tests)

all_above : (from t : ℕ) (es : Events) → t < from → ticks_rise from es ≡ true → above t es ≡ es
all_above from t [] later order = refl
all_above from t (e ∷ es) later order = let rest = all_above e.0 t es in grind (arith, nat_tests)

rises_later : (t : ℕ) (es : Events) → ticks_rise t es ≡ true → comes t es ≡ false → ticks_rise (t + 1) es ≡ true
rises_later t [] order other = refl
rises_later t (e ∷ es) order other = grind (arith, nat_tests)

-- where none comes, the rest is of later ticks
pub none_left : (t : ℕ) (es : Events) → AreComing t es → comes t es ≡ false → (at_tick t es ≡ []) × (above t es ≡ es) × AreComing (t + 1) es
none_left t es c other =
    let order = rises_later t es c.order other in
    (none_now (t + 1) t es (omega arith) order, all_above (t + 1) t es (omega arith) order, record { good = c.good; order = order; few = c.few })

-- where one comes, it is the first of the tick
rises_same : (t : ℕ) (e : ℕ × Event) (es : Events) → ticks_rise t (e ∷ es) ≡ true → (e.0 == t) ≡ true → ticks_rise t es ≡ true
rises_same t e es order same = let here : e.0 ≡ t = grind (arith, nat_tests) in rw (← here) (and_parts (nat_le t e.0) (ticks_rise e.0 es) order).1

count_first : (t : ℕ) (e : ℕ × Event) (es : Events) → count_at t (e ∷ es) ≡ (if e.0 == t then 1 else 0) + count_at t es
count_first t e es = sum_by-cons (λ d. if d.0 == t then 1 else 0) e es

few_left : (t tick : ℕ) (e : ℕ × Event) (es : Events) → count_at tick (e ∷ es) ≤ 16 → count_at tick es ≤ 16
few_left t tick e es few = let split = count_first tick e es in grind (arith, nat_tests)

-- what a step of the copying does: the event is copied, and the rest is as before
pub record Steps (t : ℕ) (e : ℕ × Event) (es : Events) : Type 0 where
  pub taken : at_tick t (e ∷ es) ≡ e.1 ∷ at_tick t es
  pub later : above t (e ∷ es) ≡ above t es
  pub coming : AreComing t es
  pub counted : count_at t (e ∷ es) ≡ suc (count_at t es)

pub steps : (t : ℕ) (e : ℕ × Event) (es : Events) → AreComing t (e ∷ es) → (e.0 == t) ≡ true → Steps t e es
steps t e es c same = record {
  taken = rw same refl;
  later = grind (arith, nat_tests);
  coming = record {
    good = (and_parts (is_event e) (list_all is_event es) c.good).1;
    order = rises_same t e es c.order same;
    few = λ tick. few_left t tick e es (c.few tick);
  };
  counted = count_first t e es ∙ rw same (omega arith);
}

-- events of a script are events of devices
pub device_events : (t : ℕ) (es : Events) → list_all is_event es ≡ true → list_all is_device_event (at_tick t es) ≡ true
device_events t [] good = refl
device_events t (e ∷ es) good = let rest = device_events t es in grind (arith, nat_tests)

-- while events are copied: those copied with those that are left are all of the tick
pub record Taking (t : ℕ) (whole rest : Events) (into : List Event) (count : ℕ) : Type 0 where
  pub copied : take count into ++ at_tick t rest ≡ at_tick t whole
  pub later : above t rest ≡ above t whole
  pub coming : AreComing t rest
  pub room : count + count_at t rest ≤ 16
  pub size : length into ≡ 16

pub taking_first : (t : ℕ) (whole : Events) (into : List Event) → AreComing t whole → length into ≡ 16 → Taking t whole whole into 0
taking_first t whole into c size = record { copied = refl; later = refl; coming = c; room = omega (arith, c.few t); size = size }

pub has_room : (t : ℕ) (whole rest : Events) (e : ℕ × Event) (es : Events) (into : List Event) (count : ℕ) → Taking t whole rest into count
    → rest ≡ e ∷ es → (e.0 == t) ≡ true → count < 16
has_room t whole rest e es into count k split same =
    let counted : count_at t rest ≡ suc (count_at t es) = ap (count_at t) split ∙ (steps t e es (subst (AreComing t) split k.coming) same).counted in
    let room = k.room in
    omega arith

pub taking_more : (t : ℕ) (whole rest : Events) (e : ℕ × Event) (es : Events) (into : List Event) (count : ℕ) → Taking t whole rest into count
    → rest ≡ e ∷ es → (e.0 == t) ≡ true → Taking t whole es (set into count e.1) (count + 1)
taking_more t whole rest e es into count k split same =
    let s = steps t e es (subst (AreComing t) split k.coming) same in
    let few = has_room t whole rest e es into count k split same in
    let size = k.size in
    let inside : count < length into = omega arith in
    let counted : count_at t rest ≡ suc (count_at t es) = ap (count_at t) split ∙ s.counted in
    let room = k.room in
    let copied : take count into ++ (e.1 ∷ at_tick t es) ≡ at_tick t whole = ap (λ xs. take count into ++ xs) (sym (ap (at_tick t) split ∙ s.taken)) ∙ k.copied in
    record {
      copied = rw (take_more_set into count e.1 inside) (append_assoc (take count into) (e.1 ∷ []) (at_tick t es) ∙ copied);
      later = sym s.later ∙ sym (ap (above t) split) ∙ k.later;
      coming = s.coming;
      room = omega arith;
      size = length-set into count e.1 ∙ size;
    }

-- and what is left in the end
pub record Taken (t : ℕ) (whole rest : Events) (into : List Event) (count : ℕ) : Type 0 where
  pub copied : take count into ≡ at_tick t whole
  pub later : rest ≡ above t whole
  pub coming : AreComing (t + 1) rest
  pub few : count ≤ 16

pub taking_ends : (t : ℕ) (whole rest : Events) (into : List Event) (count : ℕ) → Taking t whole rest into count → comes t rest ≡ false → Taken t whole rest into count
taking_ends t whole rest into count k none =
    let left = none_left t rest k.coming none in
    let room = k.room in
    record {
      copied = sym (append-nil (take count into)) ∙ ap (λ xs. take count into ++ xs) (sym left.0) ∙ k.copied;
      later = sym left.1 ∙ k.later;
      coming = left.2;
      few = omega arith;
    }

-- where an event comes at a place, it is there
pub came_inside : (t n : ℕ) (es : Events) → comes t (drop n es) ≡ true → n < length es
came_inside t n es same = elim (cases_Bool (nat_lt n (length es))) [
  | inl inside ↦ ltb-true n (length es) inside
  | inr past ↦
      let behind : length es ≤ n = grind (arith, nat_tests) in
      absurd (let never : false ≡ true = ap (comes t) (sym (drop_all n es behind)) ∙ same in cc)
]

pub came_same : (t n : ℕ) (es : Events) (d : ℕ × Event) → comes t (drop n es) ≡ true → n < length es → ((get_or es n d).0 == t) ≡ true
came_same t n es d same inside = ap (comes t) (sym (drop_more es n d inside)) ∙ same

-- before the first tick, all events of a script come
pub script_coming : (es : Events) → IsScript es → AreComing 1 es
script_coming es script = record { good = script.good; order = from_one es script.good script.order; few = script.few }
  where
    from_one : (es : Events) → list_all is_event es ≡ true → ticks_rise 0 es ≡ true → ticks_rise 1 es ≡ true
    from_one [] good order = refl
    from_one (e ∷ es) good order = grind (arith, nat_tests)
