-- Texts that are added to a digest, one behind another.
use Rattle.std.proofs.Common.{◌≡◌, ℕ, ◌+◌, ◌<◌, List, [], ◌∷◌, ◌++◌, ap, sym, ◌∙◌, subst, take, get_or, length, add-one, append_assoc}
use Rattle.std.proofs.Math.Seq.{take-suc}
use Rattle.std.proofs.lemmas.Grind.{flat_map-append}
use Rattle.std.proofs.lemmas.List.{append-nil}
use Rattle.std.specs.List.{flat_map}
use Rattle.sha2.specs.declared.Sha256.{Sha256}
use Rattle.sha2.specs.Hashers.{Holds256}
use Rattle.run_report.specs.Sums.{Absorbs}

pub absorbs_nothing : (digest : Sha256) → Absorbs digest digest []
absorbs_nothing digest said holds = subst (Holds256 digest) (sym (append-nil said)) holds

pub absorbs_behind : (a b c : Sha256) (first second : List ℕ) → Absorbs a b first → Absorbs b c second → Absorbs a c (first ++ second)
absorbs_behind a b c first second one two said holds = subst (Holds256 c) (append_assoc said first second) (two (said ++ first) (one said holds))

-- the same text by another name
pub absorbs_same : (a b : Sha256) (one other : List ℕ) → one ≡ other → Absorbs a b one → Absorbs a b other
absorbs_same a b one other same absorbed = subst (Absorbs a b) same absorbed

-- the text of one item more
pub one_more : {X : Type 0} (f : X → List ℕ) (xs : List X) (i : ℕ) (d : X) → i < length xs → flat_map f (take i xs) ++ f (get_or xs i d) ≡ flat_map f (take (i + 1) xs)
one_more f xs i d inside =
    let last : f (get_or xs i d) ≡ flat_map f (get_or xs i d ∷ []) = sym (append-nil (f (get_or xs i d))) in
    ap (λ piece. flat_map f (take i xs) ++ piece) last
    ∙ sym (flat_map-append f (take i xs) (get_or xs i d ∷ []))
    ∙ ap (flat_map f) (sym (take-suc xs i d inside))
    ∙ ap (λ n. flat_map f (take n xs)) (sym (add-one i))
