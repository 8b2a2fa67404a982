-- What the lines say of threads is what the state has.
use Rattle.std.proofs.Common.{◌≡◌, ◌≢◌, ℕ, zero, suc, Bool, true, false, not, ◌||◌, cond, ◌==◌, eqb, refl, sym, ap, ◌∙◌, arith, List, [], ◌∷◌, ◌++◌, map, if◌then◌else◌, Option, Some, None, filter, subst, option_map, set, get_or, ℤ, pos, negsuc, is_some, ◌⊎◌, ⊎_elim, inl, inr}
use Rattle.std.proofs.lemmas.Bool.Decides.{nat_tests, eqb_tells}
use Rattle.std.proofs.lemmas.List.{map-set, map-append, get_or-set_other}
use Rattle.priority_schedule.specs.Priority.{Seen, after_result, after_gate, caller_waits, thread_ends, is_in, leaves, joins, ends, has_priority, priority_at, ReadyLive}
use Rattle.rt_ready.specs.Order.{Arrival, without, joined, is_ready}
use Rattle.rt_threads.specs.Threads.{thread_at, with_thread, is_live}
use Rattle.priority_schedule.specs.State.{RealTime}
use Rattle.rt_threads.specs.declared.threads.Thread.{Thread}
use Rattle.gate_table.specs.declared.names.GateName.{GateName}
use Rattle.gate_table.specs.declared.names.GateName.TheVariants.{PthreadCreate, PthreadDelete, PthreadSuspend, PthreadWakeup, PthreadMakePeriodic, PthreadWait, PthreadSetprio, Nanosleep}
use Rattle.line_kinds.specs.declared.kinds.Who.{Who}
use Rattle.line_kinds.specs.declared.kinds.Who.TheVariants.{Guest, Thread as ThreadOn, Init, Irq, Fifo}

abbrev pub ids : List Arrival → List ℕ
ids ready = map (λ (a : Arrival). a.id) ready

abbrev pub priority_in_slot : Option Thread → Option ℕ
priority_in_slot thread = option_map (λ (th : Thread). th.priority) thread

abbrev pub priorities : List (Option Thread) → List (Option ℕ)
priorities threads = map priority_in_slot threads

-- the lines say of the threads and of the ready list what the state has, and each ready thread is live
pub record Reads (threads : List (Option Thread)) (ready : List Arrival) (s : Seen) : Type 0 where
  pub priorities_are : s.priorities ≡ priorities threads
  pub ready_are : s.ready ≡ ids ready
  pub live : ReadyLive s

abbrev pub ReadsState : RealTime → Seen → Type 0
ReadsState m s = Reads m.threads m.ready s

-- lists

pub ids-without : (i : ℕ) (xs : List Arrival) → ids (without i xs) ≡ filter (λ j. not (j == i)) (ids xs)
ids-without i [] = refl
ids-without i (x ∷ xs) =
    elim (x.id == i) as (λ b. ids (cond (not b) (x ∷ without i xs) (without i xs)) ≡ cond (not b) (x.id ∷ filter (λ j. not (j == i)) (ids xs)) (filter (λ j. not (j == i)) (ids xs))) [
      | true ↦ ids-without i xs
      | false ↦ ap (λ ys. x.id ∷ ys) (ids-without i xs)
    ]

pub ids-joined : (i since : ℕ) (xs : List Arrival) → ids (joined i since xs) ≡ ids xs ++ i ∷ []
ids-joined i since xs = map-append (λ (a : Arrival). a.id) xs (record { id = i; since = since } ∷ [])

pub ready-ids : (i : ℕ) (xs : List Arrival) → is_in i (ids xs) ≡ is_ready i xs
ready-ids i [] = refl
ready-ids i (x ∷ xs) = ap (λ b. x.id == i || b) (ready-ids i xs)

-- a list with the element that it has
set-here : {A B : Type 0} (f : A → B) (xs : List A) (i : ℕ) (d : A) → set (map f xs) i (f (get_or xs i d)) ≡ map f xs
set-here f [] i d = refl
set-here f (x ∷ xs) zero d = refl
set-here f (x ∷ xs) (suc i) d = ap (λ ys. f x ∷ ys) (set-here f xs i d)

same_slot : (change : Thread → Thread) (kept : (th : Thread) → (change th).priority ≡ th.priority) (o : Option Thread) → priority_in_slot (option_map change o) ≡ priority_in_slot o
same_slot change kept None = refl
same_slot change kept (Some th) = ap (λ n. Some n) (kept th)

pub priorities-kept : (i : ℕ) (change : Thread → Thread) → ((th : Thread) → (change th).priority ≡ th.priority) → (threads : List (Option Thread)) → priorities (with_thread i change threads) ≡ priorities threads
priorities-kept i change kept threads =
    map-set priority_in_slot threads i (option_map change (thread_at threads i))
    ∙ ap (λ v. set (priorities threads) i v) (same_slot change kept (thread_at threads i))
    ∙ set-here priority_in_slot threads i None

pub priorities-set : (i : ℕ) (slot : Option Thread) (threads : List (Option Thread)) → priorities (set threads i slot) ≡ set (priorities threads) i (priority_in_slot slot)
priorities-set i slot threads = map-set priority_in_slot threads i slot

-- ready threads are live

pub same_number : (i : ℕ) → eqb i i ≡ true
same_number i = grind (arith, nat_tests)

or_right : (a b : Bool) → b ≡ true → (a || b) ≡ true
or_right true b h = refl
or_right false b h = h

-- a number that stands in a part of a list stands in it, and passes the test
pub in-filter : (test : ℕ → Bool) (j : ℕ) (xs : List ℕ) → is_in j (filter test xs) ≡ true → (is_in j xs ≡ true) × (test j ≡ true)
in-filter test j [] h = absurd cc
in-filter test j (x ∷ xs) h =
    elim (test x) as (λ b. test x ≡ b → is_in j (cond b (x ∷ filter test xs) (filter test xs)) ≡ true → ((x == j || is_in j xs) ≡ true) × (test j ≡ true)) [
      | true ↦ λ e f. ⊎_elim
          (λ (d : (eqb x j ≡ true) × (x ≡ j)). (rw d.0 refl, subst (λ k. test k ≡ true) d.1 e))
          (λ (d : (eqb x j ≡ false) × (x ≢ j)).
          let g : is_in j (filter test xs) ≡ true = ap (λ b. b || is_in j (filter test xs)) (sym d.0) ∙ f in
          let p = in-filter test j xs g in (rw d.0 p.0, p.1))
          (eqb_tells x j)
      | false ↦ λ e f. let p = in-filter test j xs f in (or_right (x == j) (is_in j xs) p.0, p.1)
    ] refl h

-- or it is the one that was added
pub in-joined : (i j : ℕ) (xs : List ℕ) → is_in j (xs ++ i ∷ []) ≡ true → (is_in j xs ≡ true) ⊎ (i ≡ j)
in-joined i j [] h = ⊎_elim
    (λ (d : (eqb i j ≡ true) × (i ≡ j)). inr d.1)
    (λ (d : (eqb i j ≡ false) × (i ≢ j)). let e : false ≡ true = ap (λ b. b || false) (sym d.0) ∙ h in absurd cc)
    (eqb_tells i j)
in-joined i j (x ∷ xs) h =
    elim (x == j) as (λ b. (b || is_in j (xs ++ i ∷ [])) ≡ true → ((b || is_in j xs) ≡ true) ⊎ (i ≡ j)) [
      | true ↦ λ f. inl refl
      | false ↦ λ f. in-joined i j xs f
    ] h

pub leaves_live : (i : ℕ) (s : Seen) → ReadyLive s → ReadyLive (leaves i s)
leaves_live i s h = λ j e. h j (in-filter (λ k. not (k == i)) j s.ready e).0

pub joins_live : (i : ℕ) (s : Seen) → is_some (priority_at s i) ≡ true → ReadyLive s → ReadyLive (joins i s)
joins_live i s l h = λ j e. ⊎_elim (λ (f : is_in j s.ready ≡ true). h j f) (λ (q : i ≡ j). subst (λ k. is_some (priority_at s k) ≡ true) q l) (in-joined i j s.ready e)

not_self : (i : ℕ) → not (eqb i i) ≡ true → false ≡ true
not_self i h = ap not (sym (same_number i)) ∙ h

pub ends_live : (i : ℕ) (s : Seen) → ReadyLive s → ReadyLive (ends i s)
ends_live i s h = λ j e.
    let p = in-filter (λ k. not (k == i)) j s.ready e in
    ⊎_elim
    (λ (d : (eqb j i ≡ true) × (j ≡ i)). let clash : false ≡ true = ap not (sym d.0) ∙ p.1 in absurd cc)
    (λ (d : (eqb j i ≡ false) × (j ≢ i)). ap is_some (get_or-set_other s.priorities i j None None d.1) ∙ h j p.0)
    (eqb_tells j i)

-- a slot that is filled keeps all that are
some_set : (xs : List (Option ℕ)) (i j v : ℕ) → is_some (get_or xs j None) ≡ true → is_some (get_or (set xs i (Some v)) j None) ≡ true
some_set [] i j v h = absurd cc
some_set (x ∷ xs) zero zero v h = refl
some_set (x ∷ xs) zero (suc j) v h = h
some_set (x ∷ xs) (suc i) zero v h = h
some_set (x ∷ xs) (suc i) (suc j) v h = some_set xs i j v h

pub priority_live : (i priority : ℕ) (s : Seen) → ReadyLive s → ReadyLive (has_priority i priority s)
priority_live i priority s h = λ j e. some_set s.priorities i j priority (h j e)

live_slot : (threads : List (Option Thread)) (i : ℕ) → is_some (get_or (priorities threads) i None) ≡ is_live threads i
live_slot [] i = refl
live_slot (None ∷ ts) zero = refl
live_slot (Some th ∷ ts) zero = refl
live_slot (x ∷ ts) (suc i) = live_slot ts i

-- a live thread has a priority by the lines
pub live_read : (threads : List (Option Thread)) (s : Seen) (i : ℕ) → s.priorities ≡ priorities threads → is_live threads i ≡ true → is_some (priority_at s i) ≡ true
live_read threads s i e l = ap (λ xs. is_some (get_or xs i None)) e ∙ live_slot threads i ∙ l

-- a thread leaves the ready list, and perhaps changes in other parts than its priority
pub reads_left : (threads threads' : List (Option Thread)) (ready : List Arrival) (s : Seen) (i : ℕ) → priorities threads' ≡ priorities threads → Reads threads ready s → Reads threads' (without i ready) (leaves i s)
reads_left threads threads' ready s i t h = record {
  priorities_are = h.priorities_are ∙ sym t;
  ready_are = ap (filter (λ j. not (j == i))) h.ready_are ∙ sym (ids-without i ready);
  live = leaves_live i s h.live;
}

-- a live thread joins it
pub reads_joined : (threads threads' : List (Option Thread)) (ready : List Arrival) (s : Seen) (i since : ℕ) → is_live threads i ≡ true → priorities threads' ≡ priorities threads → Reads threads ready s
    → Reads threads' (joined i since ready) (joins i s)
reads_joined threads threads' ready s i since l t h = record {
  priorities_are = h.priorities_are ∙ sym t;
  ready_are = ap (λ xs. xs ++ i ∷ []) h.ready_are ∙ sym (ids-joined i since ready);
  live = joins_live i s (live_read threads s i h.priorities_are l) h.live;
}

pub reads_ended : (threads : List (Option Thread)) (ready : List Arrival) (s : Seen) (i : ℕ) → Reads threads ready s → Reads (set threads i None) (without i ready) (ends i s)
reads_ended threads ready s i h = record {
  priorities_are = ap (λ xs. set xs i None) h.priorities_are ∙ sym (priorities-set i None threads);
  ready_are = ap (filter (λ j. not (j == i))) h.ready_are ∙ sym (ids-without i ready);
  live = ends_live i s h.live;
}

-- the holder that the lines say

who_caller : (o : Option Who) (s : Seen) → (caller_waits o s).who ≡ s.who
who_caller None s = refl
who_caller (Some Guest) s = refl
who_caller (Some (ThreadOn i)) s = refl
who_caller (Some (Init i)) s = refl
who_caller (Some (Irq i)) s = refl
who_caller (Some (Fifo i)) s = refl

pub who_ends : (o : Option Who) (s : Seen) → (thread_ends o s).who ≡ s.who
who_ends None s = refl
who_ends (Some Guest) s = refl
who_ends (Some (ThreadOn i)) s = refl
who_ends (Some (Init i)) s = refl
who_ends (Some (Irq i)) s = refl
who_ends (Some (Fifo i)) s = refl

who_woken : (b : Bool) (i : ℕ) (s : Seen) → (if b then s else joins i s).who ≡ s.who
who_woken true i s = refl
who_woken false i s = refl

who_gate : (words : List ℕ) (result : ℕ) (s : Seen) (g : GateName) → (after_gate words result s g).who ≡ s.who
who_gate words result s PthreadWakeup = who_woken _ _ s
who_gate words result s PthreadWait = who_caller s.who s
who_gate words result s Nanosleep = who_caller s.who s
who_gate words result s PthreadCreate = refl
who_gate words result s PthreadDelete = refl
who_gate words result s PthreadSuspend = refl
who_gate words result s PthreadMakePeriodic = refl
who_gate words result s PthreadSetprio = refl
who_gate words result s _ = refl

pub who_result : (words : List ℕ) (s : Seen) (g : GateName) (v : ℤ) → (after_result words s g v).who ≡ s.who
who_result words s g (pos n) = who_gate words n s g
who_result words s g (negsuc n) = refl
