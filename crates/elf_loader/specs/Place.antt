-- Where the segments of an image go on a side of memory, and the ranges of addresses that they take.
use Rattle.std.specs.Prelude.{◌≡◌, ◌≤◌, ◌<◌, ℕ, ◌+◌, ◌-◌, Bool, true, false, not, List, [], ◌∷◌, ◌++◌, length, max, min, nat_lt, replicate, if◌then◌else◌, Option, Some, None, Result, Ok, Err}
use Rattle.std.specs.List.{list_all}
use Rattle.memory_model.specs.Side.{Side, covers, stored}
use Rattle.elf_loader.specs.declared.image.Image.{Image}
use Rattle.elf_loader.specs.declared.image.Segment.{Segment}
use Rattle.elf_loader.specs.declared.placing.PlaceRefusal.{PlaceRefusal}
use Rattle.elf_loader.specs.declared.placing.PlaceRefusal.TheVariants.{Outside, Overlap, NoMemory}

-- a range of addresses: the first, and one past the last
abbrev pub Span : Type 0
Span = ℕ × ℕ

-- two ranges share a byte
abbrev pub overlap : Span → Span → Bool
overlap a b = nat_lt (max a.0 b.0) (min a.1 b.1)

unfoldable pub is_free : List Span → Span → Bool
is_free taken span = list_all (λ other. not (overlap other span)) taken

-- the range of a segment
abbrev pub span_of : Segment → Span
span_of s = (s.place, s.place + s.size)

-- a segment has no more bytes than its size
abbrev pub FitsSize : Segment → Type 0
FitsSize s = length s.bytes ≤ s.size

-- every segment is wholly on the side
unfoldable pub all_inside : Side → List Segment → Bool
all_inside side segments = list_all (λ s. covers side s.place s.size) segments

-- the taken ranges with those of the segments; none where one shares a byte with one before it
abbrev pub spans_with : List Span → List Segment → Option (List Span)
spans_with taken [] = Some taken
spans_with taken (s ∷ rest) = if is_free taken (span_of s) then spans_with (taken ++ span_of s ∷ []) rest else None

-- what a segment has in memory: its bytes, and zeros up to its size
abbrev pub memory_of : Segment → List ℕ
memory_of s = s.bytes ++ replicate (s.size - length s.bytes) 0

-- the side with a segment on it, and with some segments
unfoldable pub with_segment : Side → Segment → Side
with_segment side s = stored side s.place (memory_of s)

abbrev pub with_segments : Side → List Segment → Side
with_segments side [] = side
with_segments side (s ∷ rest) = with_segments (with_segment side s) rest

-- a segment that is wholly on a side
pub record FitsOn (side : Side) (s : Segment) : Type 0 where
  pub fits : FitsSize s
  pub from : 0 < s.size → side.first ≤ s.place
  pub to : 0 < s.size → s.place + s.size ≤ side.first + length side.bytes

-- how the taking of one range answers, and of those of some segments
abbrev pub Takes : List Span → List Span → Result (Unit {0}) PlaceRefusal → Span → Type 0
Takes old new (Ok u) span = (is_free old span ≡ true) × (new ≡ old ++ span ∷ [])
Takes old new (Err Outside) span = ⊥
Takes old new (Err Overlap) span = (is_free old span ≡ false) × (new ≡ old)
Takes old new (Err NoMemory) span = new ≡ old

abbrev pub TakesAll : List Span → List Span → Result (Unit {0}) PlaceRefusal → List Segment → Type 0
TakesAll old new (Ok u) segments = spans_with old segments ≡ Some new
TakesAll old new (Err Outside) segments = ⊥
TakesAll old new (Err Overlap) segments = (spans_with old segments ≡ None) × (new ≡ old)
TakesAll old new (Err NoMemory) segments = new ≡ old

-- neither the side nor the taken ranges change
abbrev pub Unchanged : Side → Side → List Span → List Span → Type 0
Unchanged old new before after = (new ≡ old) × (after ≡ before)

-- how a placing answers: its entry, with every segment stored and its range taken; Outside exactly where a segment isn't
-- wholly on the side; Overlap exactly where all are and a range shares a byte with one before; a refusal changes nothing
abbrev pub PlacesOnSide : Image → Side → Side → List Span → List Span → Result ℕ PlaceRefusal → Type 0
PlacesOnSide image old new before after (Ok entry) =
    (all_inside old image.segments ≡ true) × (spans_with before image.segments ≡ Some after)
    × (new ≡ with_segments old image.segments) × (entry ≡ image.entry)
PlacesOnSide image old new before after (Err Outside) = (all_inside old image.segments ≡ false) × Unchanged old new before after
PlacesOnSide image old new before after (Err Overlap) =
    (all_inside old image.segments ≡ true) × (spans_with before image.segments ≡ None) × Unchanged old new before after
PlacesOnSide image old new before after (Err NoMemory) = Unchanged old new before after
