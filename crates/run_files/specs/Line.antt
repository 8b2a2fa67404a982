-- What is written for a refusal: `E`, the number of its cause, and the name or the word that it is about.
use Rattle.std.specs.Prelude.{ℕ, List, [], ◌∷◌, ◌++◌, codes, decimal}
use Rattle.run_files.specs.declared.cause.Cause.{Cause}
use Rattle.run_files.specs.declared.cause.Cause.TheVariants.{Words, Ticks, Read, TooLarge, Document, Field, Image, Outside, Overlap, Line}

-- what stands before the name
abbrev pub head_of : Cause → List ℕ
head_of Words = codes "E usage"
head_of Ticks = codes "E 40 "
head_of Read = codes "E read "
head_of TooLarge = codes "E 12 "
head_of Document = codes "E 10 "
head_of Field = codes "E 11 "
head_of (Image rule) = codes "E 20." ++ (decimal rule ++ codes " ")
head_of Outside = codes "E 21 "
head_of Overlap = codes "E 22 "
head_of (Line line) = codes "E 30 "

-- what stands behind it: the number of a bad line
abbrev pub tail_of : Cause → List ℕ
tail_of (Line line) = codes " " ++ decimal line
tail_of Words = []
tail_of Ticks = []
tail_of Read = []
tail_of TooLarge = []
tail_of Document = []
tail_of Field = []
tail_of (Image rule) = []
tail_of Outside = []
tail_of Overlap = []

-- the line, with its end
abbrev pub refusal_text : Cause → List ℕ → List ℕ
refusal_text why name = head_of why ++ (name ++ (tail_of why ++ 10 ∷ []))
