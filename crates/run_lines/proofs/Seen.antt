-- What the lines of a run say at each tick.
use Rattle.std.proofs.Common.{◌≡◌, ℕ, suc, Bool, true, false, ◌==◌, refl, ap, ◌∙◌, List, [], ◌∷◌, ◌++◌, if◌then◌else◌, Option, Some, None, fold, pos}
use Rattle.std.specs.List.{filter_map}
use Rattle.std.proofs.lemmas.List.{append-nil}
use Rattle.std.proofs.lemmas.List.Sums.{fold-append}
use Rattle.std.proofs.lemmas.List.Elements.{filter_map-append}
use Rattle.line_kinds.specs.Calls.{call_in}
use Rattle.run_lines.specs.Calls.{with_call, calls_of, first_of, call_at}
use Rattle.run_lines.specs.Says.{held_by, holder, after_owner, held, after_pend, reply_in, sight, sight_from, is_guest}
use Rattle.run_lines.specs.Ticks.{at_tick}
use Rattle.line_kinds.specs.declared.kinds.GLine.{GLine}
use Rattle.line_kinds.specs.declared.kinds.RLine.{RLine}
use Rattle.line_kinds.specs.declared.kinds.RLine.TheVariants.{Com2, Release, On, Gate, Say, Ret, Fault, Reply, End, Memory}
use Rattle.line_kinds.specs.declared.kinds.Who.{Who}

-- lines that a fold passes over
pub fold-if : {S L : Type 0} (f : S → L → S) (s : S) (b : Bool) (ends : List L) → ((u : S) → fold f u ends ≡ u) → (xs : List L) → fold f s (xs ++ (if b then ends else [])) ≡ fold f s xs
fold-if f s true ends quiet xs = fold-append f s xs ends ∙ quiet (fold f s xs)
fold-if f s false ends quiet xs = ap (fold f s) (append-nil xs)

-- a reply behind the lines of a tick doesn't count
reply-append : (xs ends : List RLine) → reply_in ends ≡ record { result = pos 0; bytes = [] } → reply_in (xs ++ ends) ≡ reply_in xs
reply-append [] ends e = e
reply-append (Com2 b ∷ xs) ends e = reply-append xs ends e
reply-append (Release b ∷ xs) ends e = reply-append xs ends e
reply-append (On b ∷ xs) ends e = reply-append xs ends e
reply-append (Gate a b c ∷ xs) ends e = reply-append xs ends e
reply-append (Say b ∷ xs) ends e = reply-append xs ends e
reply-append (Ret ∷ xs) ends e = reply-append xs ends e
reply-append (Fault a b ∷ xs) ends e = reply-append xs ends e
reply-append (Reply a b ∷ xs) ends e = refl
reply-append (End a b ∷ xs) ends e = reply-append xs ends e
reply-append (Memory b ∷ xs) ends e = reply-append xs ends e

pub reply-if : (b : Bool) (ends xs : List RLine) → reply_in ends ≡ record { result = pos 0; bytes = [] } → reply_in (xs ++ (if b then ends else [])) ≡ reply_in xs
reply-if true ends xs e = reply-append xs ends e
reply-if false ends xs e = ap reply_in (append-nil xs)

-- the two end lines
abbrev pub ends_of : ℕ → ℕ → List ℕ → List RLine
ends_of live ready digest = End live ready ∷ Memory digest ∷ []

-- a list of real-time lines whose tick k + 1 has these lines, and perhaps end lines behind them
pub record IsAt (r : List (ℕ × RLine)) (k : ℕ) (lines : List RLine) (b : Bool) (live ready : ℕ) (digest : List ℕ) : Type 0 where
  pub here : at_tick (suc k) r ≡ lines ++ (if b then ends_of live ready digest else [])

pub holder-next : (r : List (ℕ × RLine)) (k : ℕ) (lines : List RLine) (b : Bool) (live ready : ℕ) (digest : List ℕ) → IsAt r k lines b live ready digest → holder (suc k) r ≡ fold held_by (holder k r) lines
unfolding holder
holder-next r k lines b live ready digest h = ap (fold held_by (holder k r)) h.here ∙ fold-if held_by (holder k r) b (ends_of live ready digest) (λ u. refl) lines

pub held-next : (r : List (ℕ × RLine)) (k : ℕ) (lines : List RLine) (b : Bool) (live ready : ℕ) (digest : List ℕ) → IsAt r k lines b live ready digest → held (suc k) r ≡ fold after_owner (held k r) lines
unfolding held
held-next r k lines b live ready digest h = ap (fold after_owner (held k r)) h.here ∙ fold-if after_owner (held k r) b (ends_of live ready digest) (λ u. refl) lines

sight-if : (who : Option Who) (lines_held : ℕ) (lines : List RLine) (b : Bool) (live ready : ℕ) (digest : List ℕ) → sight_from who lines_held (lines ++ (if b then ends_of live ready digest else [])) ≡ sight_from who lines_held lines
sight-if who lines_held lines b live ready digest =
    let first = fold-if held_by who b (ends_of live ready digest) (λ u. refl) lines in
    let second = fold-if after_pend 0 b (ends_of live ready digest) (λ u. refl) lines in
    let third = reply-if b (ends_of live ready digest) lines refl in
    ap (λ w. record { holds = is_guest w; lines_held = lines_held; lines_pended = fold after_pend 0 (lines ++ (if b then ends_of live ready digest else [])); answer = reply_in (lines ++ (if b then ends_of live ready digest else [])) }) first
    ∙ ap (λ p. record { holds = is_guest (fold held_by who lines); lines_held = lines_held; lines_pended = p; answer = reply_in (lines ++ (if b then ends_of live ready digest else [])) }) second
    ∙ ap (λ a. record { holds = is_guest (fold held_by who lines); lines_held = lines_held; lines_pended = fold after_pend 0 lines; answer = a }) third

pub sight-at : (r : List (ℕ × RLine)) (k : ℕ) (lines : List RLine) (b : Bool) (live ready : ℕ) (digest : List ℕ) → IsAt r k lines b live ready digest → sight k r ≡ sight_from (holder k r) (held k r) lines
sight-at r k lines b live ready digest h = ap (sight_from (holder k r) (held k r)) h.here ∙ sight-if (holder k r) (held k r) lines b live ready digest

-- the calls of a tick are those among its lines
calls-at : (t : ℕ) (g : List (ℕ × GLine)) → at_tick t (calls_of g) ≡ filter_map call_in (at_tick t g)
calls-at t [] = refl
calls-at t (x ∷ xs) =
    let ih = calls-at t xs in
    elim (call_in x.1) as (λ c. call_in x.1 ≡ c → at_tick t (with_call x.0 c (calls_of xs)) ≡ filter_map call_in (if x.0 == t then x.1 ∷ at_tick t xs else at_tick t xs)) [
      | None ↦ λ e. elim (x.0 == t) as (λ b. at_tick t (calls_of xs) ≡ filter_map call_in (if b then x.1 ∷ at_tick t xs else at_tick t xs)) [ true ↦ rw e ih | false ↦ ih ]
      | Some call ↦ λ e. elim (x.0 == t) as (λ b. (if b then call ∷ at_tick t (calls_of xs) else at_tick t (calls_of xs)) ≡ filter_map call_in (if b then x.1 ∷ at_tick t xs else at_tick t xs)) [
        | true ↦ rw e (ap (λ zs. call ∷ zs) ih)
        | false ↦ ih
      ]
    ] refl

filter_map-if : (b : Bool) (ends xs : List GLine) → filter_map call_in ends ≡ [] → filter_map call_in (xs ++ (if b then ends else [])) ≡ filter_map call_in xs
filter_map-if true ends xs e = filter_map-append call_in xs ends ∙ ap (λ zs. filter_map call_in xs ++ zs) e ∙ append-nil (filter_map call_in xs)
filter_map-if false ends xs e = ap (filter_map call_in) (append-nil xs)

pub call-at : (g : List (ℕ × GLine)) (k : ℕ) (lines : List GLine) (b : Bool) (ends : List GLine) → filter_map call_in ends ≡ [] → at_tick (suc k) g ≡ lines ++ (if b then ends else []) → call_at (suc k) (calls_of g) ≡ first_of (filter_map call_in lines)
call-at g k lines b ends quiet h = ap first_of (calls-at (suc k) g ∙ ap (filter_map call_in) h ∙ filter_map-if b ends lines quiet)
