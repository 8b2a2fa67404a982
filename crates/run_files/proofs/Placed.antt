-- A placing leaves a side where it stands.
use Rattle.std.proofs.Common.{◌≡◌, ℕ, List, [], ◌∷◌, refl, ap, ◌∙◌, Result, Ok, Err}
use Rattle.memory_model.specs.Side.{Side}
use Rattle.elf_loader.specs.Place.{Span, PlacesOnSide, with_segment, with_segments}
use Rattle.elf_loader.specs.declared.image.Image.{Image}
use Rattle.elf_loader.specs.declared.image.Segment.{Segment}
use Rattle.elf_loader.specs.declared.placing.PlaceRefusal.{PlaceRefusal}
use Rattle.elf_loader.specs.declared.placing.PlaceRefusal.TheVariants.{Outside, Overlap, NoMemory}

one_stays : (side : Side) (s : Segment) → (with_segment side s).first ≡ side.first
unfolding with_segment
one_stays side s = refl

all_stay : (side : Side) (ss : List Segment) → (with_segments side ss).first ≡ side.first
all_stay side [] = refl
all_stay side (s ∷ ss) = all_stay (with_segment side s) ss ∙ one_stays side s

pub stays : (image : Image) (old new : Side) (before after : List Span) (result : Result ℕ PlaceRefusal)
    → PlacesOnSide image old new before after result → new.first ≡ old.first
stays image old new before after (Ok entry) placed = ap (λ (s : Side). s.first) placed.2 ∙ all_stay old image.segments
stays image old new before after (Err Outside) placed = ap (λ (s : Side). s.first) placed.1.0
stays image old new before after (Err Overlap) placed = ap (λ (s : Side). s.first) placed.2.0
stays image old new before after (Err NoMemory) placed = ap (λ (s : Side). s.first) placed.0
