-- Ranges of a small side, by computation.
use Rattle.std.proofs.Common.{◌≡◌, refl, [], ◌∷◌, Some, None}
use Rattle.memory_model.specs.Side.{Side, first_outside}

-- a side of addresses 100 to 103
four_bytes : Side
four_bytes = record { first = 100; bytes = 1 ∷ 2 ∷ 3 ∷ 4 ∷ [] }

all_inside : first_outside four_bytes 101 3 ≡ None
unfolding first_outside four_bytes
all_inside = refl

outside_behind : first_outside four_bytes 102 3 ≡ Some 104
unfolding first_outside four_bytes
outside_behind = refl

outside_before : first_outside four_bytes 99 3 ≡ Some 99
unfolding first_outside four_bytes
outside_before = refl

nothing_is_inside : first_outside four_bytes 4096 0 ≡ None
unfolding first_outside four_bytes
nothing_is_inside = refl
