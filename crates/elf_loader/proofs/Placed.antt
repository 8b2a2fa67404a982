-- Segments on a side.
use Rattle.std.proofs.Common.{◌≡◌, ℕ, ◌+◌, ◌-◌, ◌<◌, ◌≤◌, List, ◌++◌, length, take, drop, get_or, refl, sym, ap, ◌∙◌, true, inl, inr, arith, replicate}
use Rattle.std.proofs.lemmas.Bool.{cases_Bool, false≢true}
use Rattle.std.proofs.lemmas.Bool.Decides.{nat_tests}
use Rattle.std.proofs.lemmas.List.{append_assoc, length-append, length-take-le, drop-drop, length-replicate}
use Rattle.std.proofs.lemmas.List.Folds.{list_all_at}
use Rattle.std.proofs.Math.Seq.{take-append_seam, drop-append_seam}
use Rattle.memory_model.specs.Side.{Side, covers}
use Rattle.elf_loader.specs.Place.{all_inside, with_segment}
use Rattle.elf_loader.specs.declared.image.Segment.{Segment}

covers_at : (side : Side) (ss : List Segment) (i : ℕ) (d s : Segment) → i < length ss → s ≡ get_or ss i d → all_inside side ss ≡ true
    → covers side s.place s.size ≡ true
unfolding all_inside
covers_at side ss i d s lt same all =
    let test = λ (x : Segment). covers side x.place x.size in
    let one : test (get_or ss i d) ≡ true = elim (cases_Bool (test (get_or ss i d))) [
      | inl passes ↦ passes
      | inr fails ↦ absurd (false≢true (sym (list_all_at test ss i d lt fails) ∙ all))
    ] in
    rw same one

-- each of some segments that are all inside is
pub from_at : (side : Side) (ss : List Segment) (i : ℕ) (d s : Segment) → i < length ss → s ≡ get_or ss i d → all_inside side ss ≡ true
    → 0 < s.size → side.first ≤ s.place
from_at side ss i d s lt same all some =
    let mine = covers_at side ss i d s lt same all in
    grind (arith, nat_tests)

pub to_at : (side : Side) (ss : List Segment) (i : ℕ) (d s : Segment) → i < length ss → s ≡ get_or ss i d → all_inside side ss ≡ true
    → 0 < s.size → s.place + s.size ≤ side.first + length side.bytes
to_at side ss i d s lt same all some =
    let mine = covers_at side ss i d s lt same all in
    grind (arith, nat_tests)

-- bytes written behind the front xs, in place of as many of the rest
behind : (xs rest more : List ℕ) (m n : ℕ) → m ≡ length xs → take m (xs ++ rest) ++ (more ++ drop n (drop m (xs ++ rest))) ≡ xs ++ (more ++ drop n rest)
behind xs rest more m n e = rw (e, take-append_seam xs rest, drop-append_seam xs rest) refl

-- a piece written at a place and zeros behind it are one piece
pub written_twice : (bytes piece zeros : List ℕ) (at n : ℕ) → n ≡ length zeros → at ≤ length bytes
    → take (at + length piece) (take at bytes ++ (piece ++ drop (length piece) (drop at bytes)))
    ++ (zeros ++ drop n (drop (at + length piece) (take at bytes ++ (piece ++ drop (length piece) (drop at bytes)))))
    ≡ take at bytes ++ ((piece ++ zeros) ++ drop (at + length (piece ++ zeros)) bytes)
written_twice bytes piece zeros at n e room =
    let front = take at bytes in
    let rest = drop (length piece) (drop at bytes) in
    let long : at + length piece ≡ length (front ++ piece) = sym (length-append front piece ∙ ap (λ k. k + length piece) (length-take-le at bytes room)) in
    let one : front ++ (piece ++ rest) ≡ (front ++ piece) ++ rest = sym (append_assoc front piece rest) in
    let last : drop n rest ≡ drop (at + length (piece ++ zeros)) bytes =
    drop-drop n (length piece) (drop at bytes) ∙ (drop-drop (length piece + n) at bytes ∙ ap (λ k. drop (at + k) bytes) (ap (λ k. length piece + k) e ∙ sym (length-append piece zeros))) in
    rw one (behind (front ++ piece) rest zeros (at + length piece) n long)
    ∙ (append_assoc front piece (zeros ++ drop n rest) ∙ ap (λ t. front ++ t) (sym (append_assoc piece zeros (drop n rest)) ∙ ap (λ t. (piece ++ zeros) ++ t) last))

pub with_segment_written : (side : Side) (s : Segment) (new : List ℕ) → side.first ≤ s.place → s.place + s.size ≤ side.first + length side.bytes → length s.bytes ≤ s.size
    → new ≡ take (s.place - side.first + length s.bytes) (take (s.place - side.first) side.bytes ++ (s.bytes ++ drop (length s.bytes) (drop (s.place - side.first) side.bytes)))
    ++ (replicate (s.size - length s.bytes) 0
    ++ drop (s.size - length s.bytes) (drop (s.place - side.first + length s.bytes) (take (s.place - side.first) side.bytes ++ (s.bytes ++ drop (length s.bytes) (drop (s.place - side.first) side.bytes)))))
    → record side { bytes = new } ≡ with_segment side s
unfolding with_segment
with_segment_written side s new from to fits e =
    let whole = e ∙ written_twice side.bytes s.bytes (replicate (s.size - length s.bytes) 0) (s.place - side.first) (s.size - length s.bytes) (sym (length-replicate (s.size - length s.bytes) 0)) (omega arith) in
    ap (λ bytes. record side { bytes = bytes }) whole
