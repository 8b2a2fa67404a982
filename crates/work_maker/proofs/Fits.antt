-- The segments have their places, and no more bytes than their sizes.
use Rattle.std.proofs.Common.{◌≡◌, ℕ, ◌+◌, List, [], ◌∷◌, length, refl, arith}
use Rattle.std.specs.Prelude.{All}
use Rattle.std.proofs.lemmas.List.Elements.{All-push, All-nil, All-append}
use Rattle.elf_loader.specs.declared.image.Segment.{Segment}
use Rattle.elf_loader.specs.Place.{FitsSize, is_free, all_inside}
use Rattle.work_maker.specs.Bytes.{segment_at}
use Rattle.work_maker.specs.Guest.{guest_of, guest_code, handler, descriptors}
use Rattle.work_maker.specs.Module.{guest_size, module_of, module_code}
use Rattle.work_maker.specs.Draws.{guest_period}
use Rattle.work_maker.specs.Laws.{GuestInside, GuestApart, ModuleInside, ModuleApart, SegmentsFit}

pub guest_length : (period : ℕ) → length (guest_code period) ≡ 48
unfolding guest_code
guest_length period = refl

pub descriptors_length : length descriptors ≡ 128
unfolding descriptors
descriptors_length = refl

pub module_length : (number : ℕ) → length (module_code number) ≡ 385
unfolding module_code
module_length number = refl

one_fits : (place : ℕ) (bytes : List ℕ) → FitsSize (segment_at place bytes)
one_fits place bytes = omega arith

-- one more segment, before others that fit
more_fit : (place : ℕ) (bytes : List ℕ) (others : List Segment) → All FitsSize others → All FitsSize (segment_at place bytes ∷ others)
more_fit place bytes others fit = All-append FitsSize (segment_at place bytes ∷ []) others (All-push FitsSize [] (segment_at place bytes) (All-nil FitsSize) (one_fits place bytes)) fit

pub guest_fits : (number : ℕ) → All FitsSize (guest_of number).segments
guest_fits number =
    let third = more_fit 0x3100 descriptors [] (All-nil FitsSize) in
    let second = more_fit 0x1100 handler (segment_at 0x3100 descriptors ∷ []) third in
    more_fit 0x1000 (guest_code (guest_period number)) (segment_at 0x1100 handler ∷ segment_at 0x3100 descriptors ∷ []) second

pub module_fits : (number : ℕ) → All FitsSize (module_of number).segments
module_fits number = more_fit (guest_size + 0x1000) (module_code number) [] (All-nil FitsSize)

pub segments_do_fit : SegmentsFit
segments_do_fit number = (guest_fits number, module_fits number)

pub guest_is_inside : GuestInside
unfolding all_inside
guest_is_inside number bytes e = rw (e, guest_length, descriptors_length) refl

pub guest_is_apart : GuestApart
unfolding is_free
guest_is_apart number = rw (guest_length, descriptors_length) refl

pub module_is_inside : ModuleInside
unfolding all_inside
module_is_inside number bytes e = rw (e, module_length) refl

pub module_is_apart : ModuleApart
unfolding is_free
module_is_apart number = rw module_length refl
