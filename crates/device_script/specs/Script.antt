-- A script: the events of its lines in file order, or the number of its first bad line.
use Rattle.std.specs.Prelude.{◌≡◌, ℕ, suc, List, [], ◌∷◌, ◌++◌, if◌then◌else◌, Option, Some, None, Result, Ok, Err}
use Rattle.std.specs.Str.Lines.{lines}
use Rattle.device_script.specs.declared.event.Event.{Event}
use Rattle.device_script.specs.declared.script.Script.{Script}
use Rattle.device_script.specs.declared.script.ScriptRefusal.{ScriptRefusal}
use Rattle.device_script.specs.declared.script.ScriptRefusal.TheVariants.{BadLine, NoMemory}
use Rattle.device_script.specs.Event.{Events, follows}
use Rattle.device_script.specs.Line.{event_of, is_skipped}

-- a line's event joins those before it where it may follow them; else the line, which has number n, is bad
abbrev pub added : Events → ℕ → Option (ℕ × Event) → Result Events ℕ
added before n None = Err n
added before n (Some e) = if follows before e.0 then Ok (before ++ e ∷ []) else Err n

abbrev pub events_with_line : Events → ℕ → List ℕ → Result Events ℕ
events_with_line before n line = if is_skipped line then Ok before else added before n (event_of line)

infixl 10 ◌>>=◌
abbrev pub ◌>>=◌ : Result Events ℕ → (Events → Result Events ℕ) → Result Events ℕ
(Ok x) >>= f = f x
(Err n) >>= f = Err n

-- the events of the lines from number n on, behind those of the lines before
abbrev pub events_from : Events → ℕ → List (List ℕ) → Result Events ℕ
events_from before n [] = Ok before
events_from before n (line ∷ rest) = events_with_line before n line >>= (λ more. events_from more (suc n) rest)

-- lines end with LF, and a CR before it is dropped; a last line may have no LF, and then a CR is part of it
unfoldable pub script_of : List ℕ → Result Events ℕ
script_of bytes = events_from [] 1 (lines bytes)

-- what a reader answers: this, unless memory is refused
abbrev pub ReadsScript : Result Script ScriptRefusal → Result Events ℕ → Type 0
ReadsScript (Ok script) said = said ≡ Ok script.events
ReadsScript (Err (BadLine n)) said = said ≡ Err n
ReadsScript (Err NoMemory) said = Unit {0}

-- what the step of a line answers, and the events that it leaves
abbrev pub Took : Events → Events → Result (Unit {0}) ScriptRefusal → Result Events ℕ → Type 0
Took old new (Ok u) said = said ≡ Ok new
Took old new (Err (BadLine n)) said = said ≡ Err n
Took old new (Err NoMemory) said = Unit {0}
