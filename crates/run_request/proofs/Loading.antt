-- Modules, one after another: what is left to be placed, and what all of them make.
use Rattle.std.proofs.Common.{◌≡◌, ℕ, suc, ◌+◌, ◌<◌, ◌≤◌, List, ◌∷◌, length, drop, get_or, refl, sym, ap, ◌∙◌, inl, inr, arith, IfSome, Option, Some, None, Result, Ok, Err}
use Rattle.std.proofs.Math.Seq.{drop-cons}
use Rattle.std.proofs.Math.ListN.{drop_of_length-le}
use Rattle.outside_io.specs.Store.{Files}
use Rattle.run_files.specs.declared.cause.Cause.{Cause}
use Rattle.run_files.specs.declared.cause.Cause.TheVariants as cause
use Rattle.run_files.specs.declared.cause.Refusal.{Refusal}
use Rattle.run_files.specs.declared.cause.Refusal.TheVariants.{Because, NoMemory}
use Rattle.run_files.specs.declared.modules.Loaded.{Loaded}
use Rattle.run_files.specs.Files.{module_in}
use Rattle.run_files.specs.Refusal.{Tells, IfUnread}
use Rattle.run_files.specs.Verdict.{About, ◌>>=◌, made_of_file, modules_loaded}
use Rattle.run_request.specs.Open.{NamesModule}

-- what is left makes of what was placed so far what all make
abbrev pub MakesAll : Option Files → Loaded → List (List ℕ) → Loaded → List (List ℕ) → Type 0
MakesAll held so_far left loaded names = IfSome held (λ files. modules_loaded files so_far left ≡ modules_loaded files loaded names)

-- a name among those left is a name among all
abbrev pub AmongAll : Option Files → Loaded → List (List ℕ) → Loaded → List (List ℕ) → Type 0
AmongAll held so_far left loaded names =
    IfSome held (λ files. (name : List ℕ) → NamesModule files so_far left name → NamesModule files loaded names name)

one_left : (names : List (List ℕ)) (i : ℕ) (name d : List ℕ) → i < length names → name ≡ get_or names i d
    → drop i names ≡ name ∷ drop (i + 1) names
one_left names i name d lt same =
    let next : suc i ≡ i + 1 = omega arith in
    drop-cons names i d lt ∙ (ap (λ n. n ∷ drop (suc i) names) (sym same) ∙ ap (λ k. name ∷ drop k names) next)

through : (made : Result Loaded About) (then : Loaded → Result Loaded About) (refusal : Refusal)
    → Tells {A = Loaded} (Err refusal) made → Tells {A = Loaded} (Err refusal) (made >>= then)
through made then (Because why name) told = λ other. rw (told other) refl
through made then NoMemory told = tt

-- the first of those left is refused
refused_first : (files : Files) (so_far loaded : Loaded) (first : List ℕ) (rest names : List (List ℕ)) (refusal : Refusal)
    → modules_loaded files so_far (first ∷ rest) ≡ modules_loaded files loaded names
    → Tells {A = Loaded} (Err refusal) (made_of_file (module_in so_far) files first)
    → Tells {A = Loaded} (Err refusal) (modules_loaded files loaded names)
refused_first files so_far loaded first rest names refusal same told =
    rw (← same) (through (made_of_file (module_in so_far) files first) (λ next. modules_loaded files next rest) refusal told)

pub refused : (held now : Option Files) (so_far loaded : Loaded) (names : List (List ℕ)) (i : ℕ) (name d : List ℕ) (refusal : Refusal)
    → i < length names → name ≡ get_or names i d → now ≡ held → MakesAll held so_far (drop i names) loaded names
    → IfSome now (λ files. Tells {A = Loaded} (Err refusal) (made_of_file (module_in so_far) files name))
    → IfSome held (λ files. Tells {A = Loaded} (Err refusal) (modules_loaded files loaded names))
refused None now so_far loaded names i name d refusal lt same kept all told = tt
refused (Some files) now so_far loaded names i name d refusal lt same kept all told =
    refused_first files so_far loaded name (drop (i + 1) names) names refusal (rw (one_left names i name d lt same) at all) (rw kept at told)

unread_first : (files : Files) (so_far loaded : Loaded) (first : List ℕ) (rest names : List (List ℕ)) (why : Cause) (name : List ℕ)
    → ((n : List ℕ) → NamesModule files so_far (first ∷ rest) n → NamesModule files loaded names n)
    → (why ≡ cause.Read → name ≡ first) → why ≡ cause.Read → NamesModule files loaded names name
unread_first files so_far loaded first rest names why name all is read = all name (inl (is read))

pub unread : (held : Option Files) (so_far loaded : Loaded) (names : List (List ℕ)) (i : ℕ) (name d : List ℕ) (refusal : Refusal)
    → i < length names → name ≡ get_or names i d → AmongAll held so_far (drop i names) loaded names
    → IfUnread {A = Loaded} (Err refusal) (λ unread. unread ≡ name)
    → IfUnread {A = Loaded} (Err refusal) (λ unread. IfSome held (λ files. NamesModule files loaded names unread))
unread None so_far loaded names i name d (Because why about) lt same all is = λ read. tt
unread (Some files) so_far loaded names i name d (Because why about) lt same all is =
    unread_first files so_far loaded name (drop (i + 1) names) names why about (rw (one_left names i name d lt same) at all) is
unread held so_far loaded names i name d NoMemory lt same all is = tt

-- the first of those left is placed
placed_first : (files : Files) (so_far next loaded : Loaded) (first : List ℕ) (rest names : List (List ℕ))
    → modules_loaded files so_far (first ∷ rest) ≡ modules_loaded files loaded names
    → made_of_file (module_in so_far) files first ≡ Ok next → modules_loaded files next rest ≡ modules_loaded files loaded names
placed_first files so_far next loaded first rest names same made = ap (λ r. r >>= λ l. modules_loaded files l rest) (sym made) ∙ same

pub placed : (held now : Option Files) (so_far next loaded : Loaded) (names : List (List ℕ)) (i : ℕ) (name d : List ℕ)
    → i < length names → name ≡ get_or names i d → now ≡ held → MakesAll held so_far (drop i names) loaded names
    → IfSome now (λ files. Tells (Ok next) (made_of_file (module_in so_far) files name)) → MakesAll held next (drop (i + 1) names) loaded names
placed None now so_far next loaded names i name d lt same kept all told = tt
placed (Some files) now so_far next loaded names i name d lt same kept all told =
    placed_first files so_far next loaded name (drop (i + 1) names) names (rw (one_left names i name d lt same) at all) (rw kept at told)

among_first : (files : Files) (so_far next loaded : Loaded) (first : List ℕ) (rest names : List (List ℕ))
    → ((n : List ℕ) → NamesModule files so_far (first ∷ rest) n → NamesModule files loaded names n)
    → made_of_file (module_in so_far) files first ≡ Ok next → (n : List ℕ) → NamesModule files next rest n → NamesModule files loaded names n
among_first files so_far next loaded first rest names all made n among = all n (inr (rw made among))

pub among : (held now : Option Files) (so_far next loaded : Loaded) (names : List (List ℕ)) (i : ℕ) (name d : List ℕ)
    → i < length names → name ≡ get_or names i d → now ≡ held → AmongAll held so_far (drop i names) loaded names
    → IfSome now (λ files. Tells (Ok next) (made_of_file (module_in so_far) files name)) → AmongAll held next (drop (i + 1) names) loaded names
among None now so_far next loaded names i name d lt same kept all told = tt
among (Some files) now so_far next loaded names i name d lt same kept all told =
    among_first files so_far next loaded name (drop (i + 1) names) names (rw (one_left names i name d lt same) at all) (rw kept at told)

pub begun : (held : Option Files) (loaded : Loaded) (names : List (List ℕ)) → MakesAll held loaded names loaded names
begun None loaded names = tt
begun (Some files) loaded names = refl

pub begun_among : (held : Option Files) (loaded : Loaded) (names : List (List ℕ)) → AmongAll held loaded names loaded names
begun_among None loaded names = tt
begun_among (Some files) loaded names = λ name among. among

-- none is left
pub ended : (held : Option Files) (so_far loaded : Loaded) (names : List (List ℕ)) (i : ℕ) → length names ≤ i
    → MakesAll held so_far (drop i names) loaded names
    → IfSome held (λ files. Tells (Ok so_far) (modules_loaded files loaded names))
ended None so_far loaded names i over all = tt
ended (Some files) so_far loaded names i over all = sym (rw (drop_of_length-le names over) at all)
