-- The low bytes of a word, as digits.
use Rattle.std.proofs.Common.{◌≡◌, ℕ, ◌-◌, ◌/◌, ◌⊎◌, inl, inr, List, take, drop, refl}
use Rattle.std.specs.Int.{to_be_bytes, w32}
use Rattle.hex.specs.Hex.{encode_lower}
use Rattle.line_text.specs.LineText.{hex_text}

pub low_digits : (digits n : ℕ) (word : List ℕ) → (digits ≡ 2) ⊎ ((digits ≡ 4) ⊎ (digits ≡ 8)) → word ≡ to_be_bytes w32 n → encode_lower (take (4 - (4 - digits / 2)) (drop (4 - digits / 2) word)) ≡ hex_text digits n
unfolding hex_text
low_digits digits n word width same = elim width [
  | inl two ↦ rw (two, same) refl
  | inr more ↦ elim more [ inl four ↦ rw (four, same) refl | inr eight ↦ rw (eight, same) refl ]
]
