-- The draws of a loop, one step further.
use Rattle.std.proofs.Common.{◌≡◌, ℕ, suc, ◌+◌, ◌-◌, ◌*◌, ◌<◌, List, ◌∷◌, ◌++◌, arith, refl, sym, ap, ◌∙◌, append_assoc}
use Rattle.work_maker.specs.Draws.{after, threads_from, thread_of}
use Rattle.work_maker.specs.Guest.{times}
use Rattle.work_maker.specs.Module.{making_of, timing_of, starts_from}
use Rattle.work_maker.specs.Script.{events_from, event_of, behind_event}

-- a thread's three draws, and the rest
pub after_step : (n i x : ℕ) → i < n → after (3 * (n - i)) x ≡ after (3 * (n - (i + 1))) (after 3 x)
after_step n i x more = let e : 3 * (n - i) ≡ suc (suc (suc (3 * (n - (i + 1))))) = omega arith in rw e refl

-- two pieces behind some bytes, before the rest
regrouped : (a b c d : List ℕ) → ((a ++ b) ++ c) ++ d ≡ a ++ ((b ++ c) ++ d)
regrouped a b c d = append_assoc (a ++ b) c d ∙ (append_assoc a b (c ++ d) ∙ ap (λ t. a ++ t) (sym (append_assoc b c d)))

pub starts_step : (code : List ℕ) (n i x : ℕ) → i < n
    → ((code ++ making_of i (thread_of x)) ++ timing_of i (thread_of x)) ++ starts_from (i + 1) (threads_from (n - (i + 1)) (after 3 x))
    ≡ code ++ starts_from i (threads_from (n - i) x)
starts_step code n i x more =
    let e : n - i ≡ suc (n - (i + 1)) = omega arith in
    rw e (regrouped code (making_of i (thread_of x)) (timing_of i (thread_of x)) (starts_from (i + 1) (threads_from (n - (i + 1)) (after 3 x))))

-- an event, and the rest
pub events_step : (n i x : ℕ) → i < n → events_from (n - i) (i + 1) x ≡ event_of (i + 1) x ∷ events_from (n - (i + 1)) (i + 1 + 1) (behind_event x)
events_step n i x more = let e : n - i ≡ suc (n - (i + 1)) = omega arith in rw e refl

-- a descriptor, and the rest
pub times_step : (n i : ℕ) (bytes : List ℕ) → i < n → times (n - i) bytes ≡ bytes ++ times (n - (i + 1)) bytes
times_step n i bytes more = let e : n - i ≡ suc (n - (i + 1)) = omega arith in rw e refl

-- pieces added behind some bytes, one after another
pub four_pieces : (code a b c d : List ℕ) → (((code ++ a) ++ b) ++ c) ++ d ≡ code ++ (((a ++ b) ++ c) ++ d)
four_pieces code a b c d = ap (λ t. t ++ d) (regrouped code a b c) ∙ append_assoc code ((a ++ b) ++ c) d
