-- Ticks and counts of events.
use Rattle.std.proofs.Common.{ℕ, ◌≡◌, ◌≤◌, ◌<◌, ◌+◌, ◌&&◌, true, false, [], ◌∷◌, ◌++◌, arith, refl, ◌∙◌, nat_lt, nat_le, ◌==◌}
use Rattle.std.specs.Prelude.{if◌then◌else◌}
use Rattle.std.proofs.lemmas.List.Sums.{sum_by_push}
use Rattle.device_script.specs.Event.{Events, none_later, count_at, follows}
use Rattle.device_script.specs.Draft.{IsCounted, counted_follows, kept_of}
use Rattle.device_script.specs.declared.event.Event.{Event}
use Rattle.std.proofs.lemmas.Bool.Decides.{nat_tests}
use Rattle.std.proofs.lemmas.Bool.{and_parts, ltb-true, eq-eqb, le-leb}

-- events that are none later than one tick are none later than a later one
none_later-more : (a b : ℕ) (es : Events) → a ≤ b → none_later a es ≡ true → none_later b es ≡ true
none_later-more a b [] le h = refl
none_later-more a b (e ∷ es) le h = let ih = none_later-more a b es le in grind (arith, nat_tests)

-- and none has it
count_at-later : (a b : ℕ) (es : Events) → a < b → none_later a es ≡ true → count_at b es ≡ 0
count_at-later a b [] lt h = refl
count_at-later a b (e ∷ es) lt h = let ih = count_at-later a b es lt in grind (arith, nat_tests)

-- an event of a later tick
some_later : (a b : ℕ) (es : Events) → a < b → 1 ≤ count_at b es → none_later a es ≡ false
some_later a b [] lt h = absurd (omega arith)
some_later a b (e ∷ es) lt h = let ih = some_later a b es lt in grind (arith, nat_tests)

none_later-push : (a : ℕ) (es : Events) (e : ℕ × Event) → none_later a (es ++ e ∷ []) ≡ (none_later a es && nat_le e.0 a)
none_later-push a [] e = grind (arith, nat_tests)
none_later-push a (d ∷ es) e = let ih = none_later-push a es e in grind (arith, nat_tests)

count_at-push : (a : ℕ) (es : Events) (e : ℕ × Event) → count_at a (es ++ e ∷ []) ≡ count_at a es + (if e.0 == a then 1 else 0)
count_at-push a es e = sum_by_push (λ d. if d.0 == a then 1 else 0) es e

pub follows-counted : (es : Events) (last same tick : ℕ) → IsCounted es last same → counted_follows last same tick ≡ follows es tick
follows-counted es last same tick k =
    let more = none_later-more last tick es in
    let none = count_at-later last tick es in
    let some = some_later tick last es in
    grind (arith, nat_tests)

pub counted-push : (es : Events) (last same tick : ℕ) (event : Event) → IsCounted es last same → follows es tick ≡ true
    → IsCounted (es ++ (tick, event) ∷ []) tick (kept_of last same tick + 1)
counted-push es last same tick event k f =
    let told : counted_follows last same tick ≡ true = follows-counted es last same tick k ∙ f in
    let parts = and_parts (none_later tick es) (nat_lt (count_at tick es) 16) f in
    let none = count_at-later last tick es in
    let at_last : tick ≡ last → count_at tick es ≡ same = λ e. rw e k.counted in
    let kept : kept_of last same tick ≡ count_at tick es = grind (arith, nat_tests) in
    let few = ltb-true (count_at tick es) 16 parts.1 in
    let own : ◌≡◌ {A = ℕ} (if tick == tick then 1 else 0) 1 = rw (eq-eqb tick tick refl) refl in
    record {
      all_before = none_later-push tick es (tick, event) ∙ rw (parts.0, le-leb tick tick (omega arith)) refl;
      counted = count_at-push tick es (tick, event) ∙ rw (own, kept) refl;
      held = λ h. omega arith;
      few = rw kept (omega arith);
    }
