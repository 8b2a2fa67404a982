-- What the arguments of a command are to a parse.
use Rattle.std.proofs.Common.{◌≡◌, ◌<◌, ℕ, zero, suc, List, [], ◌∷◌, false, length, codes, refl, sym, ◌∙◌, arith, ap}
use Rattle.std.specs.Str.{bytes_eq}
use Rattle.std.specs.List.{All}
use Rattle.std.proofs.lemmas.List.Elements.{All-push, All-nil}
use Rattle.std.proofs.lemmas.Bool.{false≢true}
use Rattle.clap.specs.Built.{HasDistinctIds}
use Rattle.clap.specs.declared.builder.arg.Arg.{Arg}

pub all_three : (P : Arg → Type 0) (a b c : Arg) → P a → P b → P c → All P (a ∷ b ∷ c ∷ [])
all_three P a b c pa pb pc = All-push P (a ∷ b ∷ []) c (All-push P (a ∷ []) b (All-push P [] a (All-nil P) pa) pb) pc

pub all_two : (P : Arg → Type 0) (a b : Arg) → P a → P b → All P (a ∷ b ∷ [])
all_two P a b pa pb = All-push P (a ∷ []) b (All-push P [] a (All-nil P) pa) pb

-- a text of another length than the ids of clap's own arguments
pub no_own : (t : List ℕ) (size : ℕ) → length t ≡ size → (size ≡ 4 → ⊥) → (size ≡ 7 → ⊥)
    → (t ≡ codes "help" → ⊥) × (t ≡ codes "version" → ⊥)
no_own t size e h v = (λ same. h (sym e ∙ ap length same), λ same. v (sym e ∙ ap length same))

-- three ids that differ
pub distinct : (a b c : Arg) → bytes_eq a.id.now b.id.now ≡ false → bytes_eq b.id.now a.id.now ≡ false
    → bytes_eq a.id.now c.id.now ≡ false → bytes_eq c.id.now a.id.now ≡ false
    → bytes_eq b.id.now c.id.now ≡ false → bytes_eq c.id.now b.id.now ≡ false
    → HasDistinctIds (a ∷ b ∷ c ∷ [])
distinct a b c ab ba ac ca bc cb zero zero d e j k same = refl
distinct a b c ab ba ac ca bc cb zero (suc zero) d e j k same = absurd (false≢true (sym ab ∙ same))
distinct a b c ab ba ac ca bc cb zero (suc (suc zero)) d e j k same = absurd (false≢true (sym ac ∙ same))
distinct a b c ab ba ac ca bc cb zero (suc (suc (suc n))) d e j k same = absurd (omega arith)
distinct a b c ab ba ac ca bc cb (suc zero) zero d e j k same = absurd (false≢true (sym ba ∙ same))
distinct a b c ab ba ac ca bc cb (suc zero) (suc zero) d e j k same = refl
distinct a b c ab ba ac ca bc cb (suc zero) (suc (suc zero)) d e j k same = absurd (false≢true (sym bc ∙ same))
distinct a b c ab ba ac ca bc cb (suc zero) (suc (suc (suc n))) d e j k same = absurd (omega arith)
distinct a b c ab ba ac ca bc cb (suc (suc zero)) zero d e j k same = absurd (false≢true (sym ca ∙ same))
distinct a b c ab ba ac ca bc cb (suc (suc zero)) (suc zero) d e j k same = absurd (false≢true (sym cb ∙ same))
distinct a b c ab ba ac ca bc cb (suc (suc zero)) (suc (suc zero)) d e j k same = refl
distinct a b c ab ba ac ca bc cb (suc (suc zero)) (suc (suc (suc n))) d e j k same = absurd (omega arith)
distinct a b c ab ba ac ca bc cb (suc (suc (suc n))) k d e low _ same = absurd (omega arith)

-- two ids that differ
pub distinct_two : (a b : Arg) → bytes_eq a.id.now b.id.now ≡ false → bytes_eq b.id.now a.id.now ≡ false → HasDistinctIds (a ∷ b ∷ [])
distinct_two a b ab ba zero zero d e j k same = refl
distinct_two a b ab ba zero (suc zero) d e j k same = absurd (false≢true (sym ab ∙ same))
distinct_two a b ab ba zero (suc (suc n)) d e j k same = absurd (omega arith)
distinct_two a b ab ba (suc zero) zero d e j k same = absurd (false≢true (sym ba ∙ same))
distinct_two a b ab ba (suc zero) (suc zero) d e j k same = refl
distinct_two a b ab ba (suc zero) (suc (suc n)) d e j k same = absurd (omega arith)
distinct_two a b ab ba (suc (suc n)) k d e low _ same = absurd (omega arith)

pub empty_id : (t named : List ℕ) → t ≡ [] → t ≡ named → 0 < length named → ⊥
empty_id t named e n h = let short : length named ≡ 0 = ap length (sym n ∙ e) in omega arith
