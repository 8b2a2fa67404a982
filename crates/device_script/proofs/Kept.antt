-- Each script that is read keeps the rules.
use Rattle.std.proofs.Common.{◌≡◌, ℕ, suc, ◌≤◌, ◌<◌, ◌+◌, ◌&&◌, ◌==◌, Bool, true, false, List, [], ◌∷◌, ◌++◌, Option, Some, None, Ok, Err, Result, arith, refl, ◌∙◌, nat_lt, nat_le, codes, inl, inr, option_map, option_and_then}
use Rattle.std.specs.Prelude.{if◌then◌else◌}
use Rattle.std.specs.Str.{bytes_eq}
use Rattle.std.specs.List.{before_first}
use Rattle.std.specs.Str.Lines.{lines}
use Rattle.std.proofs.lemmas.Bool.{cases_Bool, and_parts, ltb-true}
use Rattle.std.proofs.lemmas.Bool.Decides.{nat_tests}
use Rattle.std.proofs.lemmas.List.Folds.{list_all-append}
use Rattle.std.proofs.lemmas.List.Sums.{sum_by_push}
use Rattle.line_text.specs.Cut.{is_space}
use Rattle.device_script.specs.declared.event.Event.{Event}
use Rattle.device_script.specs.declared.event.Event.TheVariants.{Line, Com1, Com2}
use Rattle.device_script.specs.Line.{is_skipped, tick_of, tick_in, interrupt_line_of, hex_byte_of, event_in, behind_tick, event_of}
use Rattle.device_script.specs.Event.{Events, none_later, count_at, follows}
use Rattle.device_script.specs.Event.{IsScript, is_event, is_line, is_device_event, ticks_rise}
use Rattle.std.specs.Prelude.{IfOk}
use Rattle.device_script.specs.declared.script.Script.{Script}
use Rattle.device_script.specs.declared.script.ScriptRefusal.{ScriptRefusal}
use Rattle.device_script.specs.Script.{ReadsScript, added, events_with_line, events_from, script_of, ◌>>=◌}

some_tick : (n t : ℕ) → tick_in n ≡ Some t → nat_le 1 t && nat_le t 1000000000 ≡ true
some_tick n t h = grind (arith, nat_tests)

tick_good : (text : List ℕ) (t : ℕ) → tick_of text ≡ Some t → nat_le 1 t && nat_le t 1000000000 ≡ true
unfolding tick_of
tick_good text t h = grind (arith, nat_tests, some_tick)

line_good : (text : List ℕ) (n : ℕ) → interrupt_line_of text ≡ Some n → is_line n ≡ true
line_good [] n h = absurd cc
line_good (d ∷ []) n h = grind (arith, nat_tests)
line_good (t ∷ d ∷ []) n h = grind (arith, nat_tests)
line_good (t ∷ d ∷ e ∷ more) n h = absurd cc

mapped : {A : Type 0} (f : A → Event) (o : Option A) (e : Event) → ((a : A) → o ≡ Some a → is_device_event (f a) ≡ true) → option_map f o ≡ Some e → is_device_event e ≡ true
mapped f None e all h = absurd cc
mapped f (Some a) e all h = let same : f a ≡ e = cc in rw (← same) (all a refl)

event_good : (kind value : List ℕ) (e : Event) → event_in kind value ≡ Some e → is_device_event e ≡ true
unfolding event_in
event_good kind value e h = go (bytes_eq kind (codes "line")) (bytes_eq kind (codes "com1")) (bytes_eq kind (codes "com2")) h
  where
    go : (a b c : Bool) → (if a then option_map Line (interrupt_line_of value) else if b then option_map Com1 (hex_byte_of value) else if c then option_map Com2 (hex_byte_of value) else None) ≡ Some e
        → is_device_event e ≡ true
    go true b c h' = mapped Line (interrupt_line_of value) e (λ n same. line_good value n same) h'
    go false true c h' = mapped Com1 (hex_byte_of value) e (λ n same. refl) h'
    go false false true h' = mapped Com2 (hex_byte_of value) e (λ n same. refl) h'
    go false false false h' = absurd cc

both : (t : Option ℕ) (v : Option Event) (e : ℕ × Event) → ((n : ℕ) → t ≡ Some n → nat_le 1 n && nat_le n 1000000000 ≡ true)
    → ((x : Event) → v ≡ Some x → is_device_event x ≡ true) → option_and_then (λ tick. option_map (λ event. (tick, event)) v) t ≡ Some e → is_event e ≡ true
both None v e ticks events h = absurd cc
both (Some n) None e ticks events h = absurd cc
both (Some n) (Some x) e ticks events h =
    let same : (n, x) ≡ e = cc in
    rw (← same) (rw (ticks n refl, events x refl) refl)

line_event : (line : List ℕ) (e : ℕ × Event) → event_of line ≡ Some e → is_event e ≡ true
unfolding event_of behind_tick
line_event line e h = both _ _ e (λ n same. tick_good (before_first is_space line) n same) (λ x same. event_good _ _ x same) h

rises-push : (from : ℕ) (es : Events) (e : ℕ × Event) → from ≤ e.0 → ticks_rise from es ≡ true → none_later e.0 es ≡ true → ticks_rise from (es ++ e ∷ []) ≡ true
rises-push from [] e le r n = grind (arith, nat_tests)
rises-push from (d ∷ es) e le r n =
    let ih = rises-push d.0 es e in
    grind (arith, nat_tests)

few-push : (es : Events) (e : ℕ × Event) (tick : ℕ) → count_at tick es ≤ 16 → nat_lt (count_at e.0 es) 16 ≡ true → count_at tick (es ++ e ∷ []) ≤ 16
few-push es e tick few room =
    let more : count_at tick (es ++ e ∷ []) ≡ count_at tick es + (if e.0 == tick then 1 else 0) = sum_by_push (λ d. if d.0 == tick then 1 else 0) es e in
    let short = ltb-true _ _ room in
    rw more (elim (cases_Bool (e.0 == tick)) [
      | inl same ↦
          let here : e.0 ≡ tick = grind (arith, nat_tests) in
          let below : count_at tick es < 16 = rw here at short in
          rw same (omega arith)
      | inr other ↦ rw other (omega arith)
    ])

first : IsScript []
first = record {
  good = refl;
  order = refl;
  few = λ tick. omega arith;
}

kept-push : (es : Events) (e : ℕ × Event) → IsScript es → is_event e ≡ true → follows es e.0 ≡ true → IsScript (es ++ e ∷ [])
kept-push es e k good f =
    let parts = and_parts (none_later e.0 es) (nat_lt (count_at e.0 es) 16) f in
    record {
      good = list_all-append is_event es (e ∷ []) ∙ rw (k.good, good) refl;
      order = rises-push 0 es e (omega arith) k.order parts.0;
      few = λ tick. few-push es e tick (k.few tick) parts.1;
    }

kept : (es : Events) (n : ℕ) (line : List ℕ) (after : Events) → IsScript es → events_with_line es n line ≡ Ok after → IsScript after
kept es n line after k h = go (is_skipped line) (event_of line) (λ e same. line_event line e same) h
  where
    go : (s : Bool) (o : Option (ℕ × Event)) → ((e : ℕ × Event) → o ≡ Some e → is_event e ≡ true) → (if s then Ok es else added es n o) ≡ Ok after → IsScript after
    go true o good h' = let same : es ≡ after = cc in rw (← same) k
    go false None good h' = absurd cc
    go false (Some e) good h' = elim (cases_Bool (follows es e.0)) [
      | inl may ↦
          let same : es ++ e ∷ [] ≡ after = cc (rw may at h') in
          rw (← same) (kept-push es e k (good e refl) may)
      | inr may_not ↦ absurd (cc (rw may_not at h'))
    ]

bound : (r : Result Events ℕ) (f : Events → Result Events ℕ) (after : Events) → r >>= f ≡ Ok after → (more : Events) × (r ≡ Ok more) × (f more ≡ Ok after)
bound (Ok more) f after h = (more, refl, h)
bound (Err n) f after h = absurd cc

all_kept : (es : Events) (n : ℕ) (ls : List (List ℕ)) (after : Events) → IsScript es → events_from es n ls ≡ Ok after → IsScript after
all_kept es n [] after k h = let same : es ≡ after = cc in rw (← same) k
all_kept es n (line ∷ rest) after k h =
    let b = bound (events_with_line es n line) (λ more. events_from more (suc n) rest) after h in
    all_kept b.0 (suc n) rest after (kept es n line b.0 k b.1) b.2

-- a script that is read keeps the rules
pub script_keeps : (bytes : List ℕ) (events : Events) → script_of bytes ≡ Ok events → IsScript events
unfolding script_of
script_keeps bytes events h = all_kept [] 1 (lines bytes) events first h

pub answer_keeps : (bytes : List ℕ) (r : Result Script ScriptRefusal) → ReadsScript r (script_of bytes) → IfOk r (λ script. IsScript script.events)
answer_keeps bytes (Ok script) h = script_keeps bytes script.events h
answer_keeps bytes (Err e) h = tt
