-- EFLAGS as a word (Intel 80386 manual, section 2.3.4).
use Rattle.std.specs.Prelude.{ℕ, ◌+◌, ◌/◌, ◌%◌, ◌^◌, ◌==◌, Bool, true, false, if◌then◌else◌, List, [], ◌∷◌, codes, map}
use Rattle.cpu_state.specs.declared.eflags.Eflags.{Eflags}

-- bit i of a word
abbrev pub bit : ℕ → ℕ → Bool
bit word i = word / 2 ^ i % 2 == 1

-- the flags that a word has
abbrev pub flags_of : ℕ → Eflags
flags_of word = record {
  carry = bit word 0;
  parity = bit word 2;
  adjust = bit word 4;
  zero = bit word 6;
  sign = bit word 7;
  interrupt = bit word 9;
  direction = bit word 10;
  overflow = bit word 11;
}

-- what a flag is worth in a word
abbrev pub weight : Bool → ℕ → ℕ
weight flag worth = if flag then worth else 0

-- the word of the flags, in which bit 1 is set
abbrev pub word_of : Eflags → ℕ
word_of f =
    2 + weight f.carry (2 ^ 0) + weight f.parity (2 ^ 2) + weight f.adjust (2 ^ 4) + weight f.zero (2 ^ 6) + weight f.sign (2 ^ 7)
    + weight f.interrupt (2 ^ 9) + weight f.direction (2 ^ 10) + weight f.overflow (2 ^ 11)

-- the flags with another interrupt flag
abbrev pub with_interrupt : Bool → Eflags → Eflags
with_interrupt flag f = record f { interrupt = flag }

-- ---- the flags as a set

-- the set's bits, 0 to 7 in the order of the word
abbrev pub bits_of : Eflags → ℕ
bits_of f =
    weight f.carry (2 ^ 0) + weight f.parity (2 ^ 1) + weight f.adjust (2 ^ 2) + weight f.zero (2 ^ 3) + weight f.sign (2 ^ 4)
    + weight f.interrupt (2 ^ 5) + weight f.direction (2 ^ 6) + weight f.overflow (2 ^ 7)

-- the flags of the set with these bits
abbrev pub flags_in : ℕ → Eflags
flags_in bits = record {
  carry = bit bits 0;
  parity = bit bits 1;
  adjust = bit bits 2;
  zero = bit bits 3;
  sign = bit bits 4;
  interrupt = bit bits 5;
  direction = bit bits 6;
  overflow = bit bits 7;
}

-- no flag
abbrev pub no_flags : Eflags
no_flags = record {
  carry = false;
  parity = false;
  adjust = false;
  zero = false;
  sign = false;
  interrupt = false;
  direction = false;
  overflow = false;
}

-- the names of the flags, each with the set of that flag alone
abbrev pub named_flags : List (List ℕ × Eflags)
named_flags =
    (codes "CF", record no_flags { carry = true })
    ∷ (codes "PF", record no_flags { parity = true })
    ∷ (codes "AF", record no_flags { adjust = true })
    ∷ (codes "ZF", record no_flags { zero = true })
    ∷ (codes "SF", record no_flags { sign = true })
    ∷ (codes "IF", record no_flags { interrupt = true })
    ∷ (codes "DF", record no_flags { direction = true })
    ∷ (codes "OF", record no_flags { overflow = true })
    ∷ []

-- the same with the bits of each
abbrev pub named_bits : List (List ℕ × ℕ)
named_bits = map (λ row. (row.0, bits_of row.1)) named_flags
