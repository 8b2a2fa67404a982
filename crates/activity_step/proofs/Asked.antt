-- What more is asked of the guest by a gate's line.
use Rattle.std.proofs.Common.{◌≡◌, ◌⊎◌, inl, inr, ⊎_elim, ℕ, zero, suc, ℤ, pos, negsuc, Bool, true, false, ◌||◌, ◌==◌, List, ◌∷◌, refl, sym, ap, ◌∙◌, arith, Option, Some, None}
use Rattle.std.specs.Prelude.{if◌then◌else◌}
use Rattle.line_sets.specs.LineSet.{has, union, with_line}
use Rattle.line_sets.proofs.LineSetLemmas.{same_lines, has-zero, has-union, has-with}
use Rattle.gate_table.specs.declared.names.GateName.{GateName}
use Rattle.gate_table.specs.declared.names.GateName.TheVariants.{Gethrtime, PthreadCreate, PthreadDelete, PthreadSuspend, PthreadWakeup, PthreadMakePeriodic, PthreadWait, PthreadSelf, PthreadSetprio, PthreadGetprio, FifoCreate, FifoDestroy, FifoPut, FifoGet, FifoFlush, FifoCreateHandler, FifoCount, RequestIrq, FreeIrq, GetSoftIrq, FreeSoftIrq, PendIrq, Nanosleep, Print, Other}
use Rattle.gate_table.specs.declared.request.Request.{Request}
use Rattle.gate_table.specs.Names.{gate_of}
use Rattle.run_lines.specs.Says.{after_pend_gate, pended}
use Rattle.module_gates.specs.Effects.{asked_after}
use Rattle.priority_schedule.specs.Unit.{gate_line, printed_lines}

pub union_none : (a : ℕ) → union a 0 ≡ a
union_none a = same_lines _ _ (λ k. has-union a 0 k ∙ ap (λ b. has a k || b) (has-zero k) ∙ grind arith)

together : (e a b : Bool) → ((e || a) || b) ≡ (e || (a || b))
together true a b = refl
together false a b = refl

swapped : (e a b : Bool) → (e || (a || b)) ≡ (a || (e || b))
swapped true true b = refl
swapped true false b = refl
swapped false a b = refl

pub union_with : (a b n : ℕ) → union (with_line a n) b ≡ with_line (union a b) n
union_with a b n = same_lines _ _ (λ k.
    has-union (with_line a n) b k ∙ ap (λ x. x || has b k) (has-with a n k)
    ∙ together (k == n) (has a k) (has b k)
    ∙ ap (λ x. (k == n) || x) (sym (has-union a b k)) ∙ sym (has-with (union a b) n k))

union_one : (a n : ℕ) → with_line a n ≡ union a (with_line 0 n)
union_one a n = same_lines _ _ (λ k.
    has-with a n k ∙ none (k == n) (has a k)
    ∙ ap (λ x. has a k || ((k == n) || x)) (sym (has-zero k))
    ∙ ap (λ x. has a k || x) (sym (has-with 0 n k)) ∙ sym (has-union a (with_line 0 n) k))
  where
    none : (e a : Bool) → (e || a) ≡ (a || (e || false))
    none true true = refl
    none true false = refl
    none false true = refl
    none false false = refl

-- line 0 where the guest's due has come
pub where_due : (due : Bool) (a b extra : ℕ) → b ≡ union a extra
    → (if due then with_line b 0 else b) ≡ union (if due then with_line a 0 else a) extra
where_due true a b extra e = ap (λ x. with_line x 0) e ∙ sym (union_with a extra 0)
where_due false a b extra e = e

-- no gate but 22 asks anything
abbrev AsksNone : GateName → Type 0
AsksNone name = ((line : ℕ) (v : ℤ) (asked : ℕ) → asked_after name line v asked ≡ asked) ×
    ((line lines : ℕ) → after_pend_gate name line lines ≡ lines)

pend_or_none : (name : GateName) → (name ≡ PendIrq) ⊎ AsksNone name
pend_or_none Gethrtime = inr (λ line v asked. refl, λ line lines. refl)
pend_or_none PthreadCreate = inr (λ line v asked. refl, λ line lines. refl)
pend_or_none PthreadDelete = inr (λ line v asked. refl, λ line lines. refl)
pend_or_none PthreadSuspend = inr (λ line v asked. refl, λ line lines. refl)
pend_or_none PthreadWakeup = inr (λ line v asked. refl, λ line lines. refl)
pend_or_none PthreadMakePeriodic = inr (λ line v asked. refl, λ line lines. refl)
pend_or_none PthreadWait = inr (λ line v asked. refl, λ line lines. refl)
pend_or_none PthreadSelf = inr (λ line v asked. refl, λ line lines. refl)
pend_or_none PthreadSetprio = inr (λ line v asked. refl, λ line lines. refl)
pend_or_none PthreadGetprio = inr (λ line v asked. refl, λ line lines. refl)
pend_or_none FifoCreate = inr (λ line v asked. refl, λ line lines. refl)
pend_or_none FifoDestroy = inr (λ line v asked. refl, λ line lines. refl)
pend_or_none FifoPut = inr (λ line v asked. refl, λ line lines. refl)
pend_or_none FifoGet = inr (λ line v asked. refl, λ line lines. refl)
pend_or_none FifoFlush = inr (λ line v asked. refl, λ line lines. refl)
pend_or_none FifoCreateHandler = inr (λ line v asked. refl, λ line lines. refl)
pend_or_none FifoCount = inr (λ line v asked. refl, λ line lines. refl)
pend_or_none RequestIrq = inr (λ line v asked. refl, λ line lines. refl)
pend_or_none FreeIrq = inr (λ line v asked. refl, λ line lines. refl)
pend_or_none GetSoftIrq = inr (λ line v asked. refl, λ line lines. refl)
pend_or_none FreeSoftIrq = inr (λ line v asked. refl, λ line lines. refl)
pend_or_none PendIrq = inl refl
pend_or_none Nanosleep = inr (λ line v asked. refl, λ line lines. refl)
pend_or_none Print = inr (λ line v asked. refl, λ line lines. refl)
pend_or_none Other = inr (λ line v asked. refl, λ line lines. refl)

done : (name : GateName) (line asked : ℕ) → asked_after name line (pos zero) asked ≡ union asked (after_pend_gate name line 0)
done name line asked = ⊎_elim
    (λ (e : name ≡ PendIrq). rw e (union_one asked line))
    (λ (n : AsksNone name). n.0 line (pos zero) asked ∙ sym (union_none asked) ∙ ap (union asked) (sym (n.1 line 0)))
    (pend_or_none name)

more : (name : GateName) (line n asked : ℕ) → asked_after name line (pos (suc n)) asked ≡ union asked 0
more name line n asked = ⊎_elim
    (λ (e : name ≡ PendIrq). rw e (sym (union_none asked)))
    (λ (h : AsksNone name). h.0 line (pos (suc n)) asked ∙ sym (union_none asked))
    (pend_or_none name)

failed : (name : GateName) (line n asked : ℕ) → asked_after name line (negsuc n) asked ≡ union asked 0
failed name line n asked = ⊎_elim
    (λ (e : name ≡ PendIrq). rw e (sym (union_none asked)))
    (λ (h : AsksNone name). h.0 line (negsuc n) asked ∙ sym (union_none asked))
    (pend_or_none name)

-- what a gate's lines ask
pub gate_asks : (q : Request) (v : ℤ) (printed : Option (List ℕ)) (asked : ℕ)
    → asked_after (gate_of q.function) q.ebx v asked ≡ union asked (pended (gate_line q v ∷ printed_lines printed))
gate_asks q (pos zero) None asked = done (gate_of q.function) q.ebx asked
gate_asks q (pos zero) (Some bytes) asked = done (gate_of q.function) q.ebx asked
gate_asks q (pos (suc n)) None asked = more (gate_of q.function) q.ebx n asked
gate_asks q (pos (suc n)) (Some bytes) asked = more (gate_of q.function) q.ebx n asked
gate_asks q (negsuc n) None asked = failed (gate_of q.function) q.ebx n asked
gate_asks q (negsuc n) (Some bytes) asked = failed (gate_of q.function) q.ebx n asked
