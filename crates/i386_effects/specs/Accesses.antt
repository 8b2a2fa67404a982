-- Accesses to memory in order. The first one with a byte outside the side counts, by the address of its first byte.
use Rattle.std.specs.Prelude.{ℕ, List, [], ◌∷◌, Option, Some, None, Result, Ok, Err, if◌then◌else◌}
use Rattle.memory_model.specs.Side.{Side, inside, word_at, stored_inside}
use Rattle.cpu_state.specs.Width.{size}
use Rattle.i386_effects.specs.declared.accesses.Touch.{Touch}
use Rattle.i386_effects.specs.declared.accesses.Write.{Write}

-- the first load that lies outside
abbrev pub first_outside : Side → List Touch → Option ℕ
first_outside side [] = None
first_outside side (t ∷ ts) = if inside side t.at (size t.width) then first_outside side ts else Some t.at

-- the words that stand at the places of loads
abbrev pub words_at : Side → List Touch → List ℕ
words_at side [] = []
words_at side (t ∷ ts) = word_at side t.at (size t.width) ∷ words_at side ts

abbrev pub words_unless : Option ℕ → List ℕ → Result (List ℕ) ℕ
words_unless None words = Ok words
words_unless (Some at) words = Err at

-- the words that loads give, or the address of the first load that lies outside
abbrev pub all_loaded : Side → List Touch → Result (List ℕ) ℕ
all_loaded side touches = words_unless (first_outside side touches) (words_at side touches)

-- the first store that lies outside
abbrev pub first_outside_store : Side → List Write → Option ℕ
first_outside_store side [] = None
first_outside_store side (x ∷ xs) = if inside side x.at (size x.width) then first_outside_store side xs else Some x.at

-- the side after stores in order; one that lies outside changes nothing
abbrev pub all_stored : Side → List Write → Side
all_stored side [] = side
all_stored side (x ∷ xs) = all_stored (stored_inside side x.at (size x.width) x.value) xs
