-- What was written where a fault ends the lines.
use Rattle.std.proofs.Common.{◌≡◌, ℕ, ◌+◌, ◌<◌, ◌≤◌, List, [], ◌∷◌, ◌++◌, drop, take, get_or, length, arith, sym, ap, ◌∙◌, refl, Option, Some, None, append_assoc, add-one}
use Rattle.std.proofs.Math.Seq.{take-append-add, drop-cons}
use Rattle.std.proofs.lemmas.List.{append-nil, take-append-le, take-append-drop, length-append}
use Rattle.std.proofs.lemmas.Grind.{flat_map-append}
use Rattle.std.specs.List.{flat_map}
use Rattle.std.specs.Prelude.{Result, Ok, Err}
use Rattle.outside_io.specs.declared.sink.SinkFault.{SinkFault}
use Rattle.outside_io.specs.Sink.{Puts, appended}

pub appended_twice : (old : Option (List ℕ)) (a b : List ℕ) → appended (appended old a) b ≡ appended old (a ++ b)
appended_twice None a b = refl
appended_twice (Some w) a b = ap Some (append_assoc w a b)

pub appended_nothing : (old : Option (List ℕ)) → old ≡ appended old []
appended_nothing None = refl
appended_nothing (Some w) = ap Some (sym (append-nil w))

-- all pieces: those of the items before one, its own, and those of the items behind it
pub parted : {X : Type 0} (f : X → List ℕ) (xs : List X) (i : ℕ) (d : X) → i < length xs → flat_map f xs ≡ flat_map f (take i xs) ++ (f (get_or xs i d) ++ flat_map f (drop (i + 1) xs))
parted f xs i d inside =
    let split : xs ≡ take i xs ++ (get_or xs i d ∷ drop (i + 1) xs)
    = sym (take-append-drop i xs) ∙ ap (λ ys. take i xs ++ ys) (rw add-one (drop-cons xs i d inside)) in
    ap (flat_map f) split ∙ flat_map-append f (take i xs) (get_or xs i d ∷ drop (i + 1) xs)

-- a first part of one piece in the middle of a text
pub fault_part : (old mid new : Option (List ℕ)) (a b more all : List ℕ) → mid ≡ appended old a → all ≡ a ++ (b ++ more) → (k : ℕ) → k ≤ length b → new ≡ appended mid (take k b) → (x : ℕ) × (x ≤ length all) × (new ≡ appended old (take x all))
fault_part old mid new a b more all before whole k short after =
    let part : take (length a + k) all ≡ a ++ take k b
    = ap (take (length a + k)) whole ∙ take-append-add a (b ++ more) k ∙ ap (λ xs. a ++ xs) (take-append-le k b more short) in (
      length a + k,
      rw whole (omega (arith, length-append a (b ++ more), length-append b more)),
      after ∙ ap (λ w. appended w (take k b)) before ∙ appended_twice old a (take k b) ∙ ap (appended old) (sym part),
    )

-- the same, where the text is that of items and the piece is that of item i
pub fault_in : {X : Type 0} (f : X → List ℕ) (old mid new : Option (List ℕ)) (xs : List X) (i : ℕ) (d : X) (piece : List ℕ) → i < length xs → mid ≡ appended old (flat_map f (take i xs)) → piece ≡ f (get_or xs i d) → (k : ℕ) → k ≤ length piece → new ≡ appended mid (take k piece) → (x : ℕ) × (x ≤ length (flat_map f xs)) × (new ≡ appended old (take x (flat_map f xs)))
fault_in f old mid new xs i d piece inside before own k short after =
    let rest : List ℕ = flat_map f (drop (i + 1) xs) in
    let whole : flat_map f xs ≡ flat_map f (take i xs) ++ (piece ++ rest) = rw own (parted f xs i d inside) in
    fault_part old mid new (flat_map f (take i xs)) piece rest (flat_map f xs) before whole k short after

-- a text behind another one: where the first was written whole, what is told of the second holds of both
pub puts_behind : (old mid new : Option (List ℕ)) (before between after : ℕ) (first second : List ℕ) (result : Result (Unit {0}) SinkFault)
    → mid ≡ appended old first → between ≡ before → Puts mid new between after second result → Puts old new before after (first ++ second) result
puts_behind old mid new before between after first second (Ok done) one same two =
    (two.0 ∙ ap (λ w. appended w second) one ∙ appended_twice old first second, two.1 ∙ same)
puts_behind old mid new before between after first second (Err fault) one same two =
    (rw (sym same) two.0, rw (sym same) two.1, fault_part old mid new first second [] (first ++ second) one (ap (λ xs. first ++ xs) (sym (append-nil second))) two.2.0 two.2.1 two.2.2)

-- where the first failed, so it is of both
pub puts_first : (old new : Option (List ℕ)) (before after : ℕ) (first second : List ℕ) (fault : SinkFault)
    → Puts {T = Unit {0}} old new before after first (Err fault) → Puts {T = Unit {0}} old new before after (first ++ second) (Err fault)
puts_first old new before after first second fault one =
    (one.0, one.1, fault_part old old new [] first second (first ++ second) (appended_nothing old) refl one.2.0 one.2.1 one.2.2)
