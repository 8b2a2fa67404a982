-- What the answer to a refusal tells of its cause.
use Rattle.std.proofs.Common.{◌≡◌, ◌≢◌, ◌≤◌, ◌⊎◌, ⊎_elim, inl, inr, ◌∙◌, ℕ, List, Option, Some, None, refl, sym, ap, subst, arith}
use Rattle.std.specs.Prelude.{Result, Ok, Err, IfErr, IfSome}
use Rattle.outside_io.specs.Causes.{Rose}
use Rattle.outside_io.specs.Sink.{appended}
use Rattle.outside_io.specs.Store.{Files}
use Rattle.command_words.specs.Values.{ticks_of}
use Rattle.run_files.specs.declared.cause.Cause.{Cause}
use Rattle.run_files.specs.declared.cause.Cause.TheVariants as cause
use Rattle.run_files.specs.Line.{refusal_text}
use Rattle.run_files.specs.Verdict.{About, Verdict, ticks_said}
use Rattle.run_request.specs.Request.{BlamesWords, HasTicks}
use Rattle.run_stream.specs.Writes.{AppendsPart}
use Rattle.rtlinux_top.specs.Answers.{AnswersBy, NamesAskedFile, ReadFailed, RefusesTicks, WritesPart, WritesPartOfLine}
use Rattle.rtlinux_top.specs.Status.{IsDetermined}
use Rattle.rtlinux_top.specs.Verdict.{asked_ticks, refused_by, status_by, verdict_of, verdict_output}
use Rattle.rtlinux_top.specs.Words.{Asked, Unknown, Flat, System, Made}
use Rattle.rtlinux_top.specs.declared.status.Device.TheVariants.{Read, Write}
use Rattle.rtlinux_top.specs.declared.status.Status.{Status}
use Rattle.rtlinux_top.specs.declared.status.Status.TheVariants.{Done, Refused, Outside, Breach, RtFault, Usage, NoMemory}

-- the number of a refusal, or another one
code_in : Status → ℕ
code_in Done = 0
code_in (Refused code) = code.number
code_in (Outside Read) = 1
code_in (Outside Write) = 3
code_in Breach = 0
code_in RtFault = 0
code_in Usage = 2
code_in NoMemory = 0

apart : (a b : Status) → a ≡ b → code_in a ≡ code_in b
apart a b e = ap code_in e

about_code : Result ℕ About → ℕ
about_code (Ok n) = 3
about_code (Err about) = code_in (status_by about.0)

no_words : (word name : List ℕ) (ticks : Option ℕ) → ticks_said word ticks ≡ Err (cause.Words, name) → ⊥
unfolding code_in about_code
no_words word name None e = let n : 40 ≡ 2 = ap about_code e in omega (arith, n)
no_words word name (Some m) e = let n : 3 ≡ 2 = ap about_code e in omega (arith, n)

of_words : (asked : Asked) (name : List ℕ) → asked_ticks asked ≡ Err (cause.Words, name) → asked ≡ Unknown
of_words Unknown name e = refl
of_words (Flat image word) name e = absurd (no_words word name (ticks_of word) e)
of_words (System run) name e = absurd (no_words run.ticks name (ticks_of run.ticks) e)
of_words (Made make) name e = absurd (no_words make.ticks name (ticks_of make.ticks) e)

by_usage : (why : Cause) (name : List ℕ) (asked : Asked) → BlamesWords why name (asked_ticks asked) → status_by why ≡ Usage → asked ≡ Unknown
unfolding code_in
by_usage cause.Words name asked blames e = of_words asked name blames
by_usage cause.Ticks name asked blames e = absurd (let n : 40 ≡ 2 = apart _ _ e in omega (arith, n))
by_usage cause.Read name asked blames e = absurd (let n : 1 ≡ 2 = apart _ _ e in omega (arith, n))
by_usage cause.TooLarge name asked blames e = absurd (let n : 12 ≡ 2 = apart _ _ e in omega (arith, n))
by_usage cause.Document name asked blames e = absurd (let n : 10 ≡ 2 = apart _ _ e in omega (arith, n))
by_usage cause.Field name asked blames e = absurd (let n : 11 ≡ 2 = apart _ _ e in omega (arith, n))
by_usage (cause.Image rule) name asked blames e = absurd (let n : 20 ≡ 2 = apart _ _ e in omega (arith, n))
by_usage cause.Outside name asked blames e = absurd (let n : 21 ≡ 2 = apart _ _ e in omega (arith, n))
by_usage cause.Overlap name asked blames e = absurd (let n : 22 ≡ 2 = apart _ _ e in omega (arith, n))
by_usage (cause.Line line) name asked blames e = absurd (let n : 30 ≡ 2 = apart _ _ e in omega (arith, n))

by_ticks : (why : Cause) (name : List ℕ) (asked : Asked) → BlamesWords why name (asked_ticks asked) → status_by why ≡ refused_by 40 0 → RefusesTicks asked
unfolding code_in
by_ticks cause.Words name asked blames e = absurd (let n : 2 ≡ 40 = apart _ _ e in omega (arith, n))
by_ticks cause.Ticks name asked blames e = (name, blames)
by_ticks cause.Read name asked blames e = absurd (let n : 1 ≡ 40 = apart _ _ e in omega (arith, n))
by_ticks cause.TooLarge name asked blames e = absurd (let n : 12 ≡ 40 = apart _ _ e in omega (arith, n))
by_ticks cause.Document name asked blames e = absurd (let n : 10 ≡ 40 = apart _ _ e in omega (arith, n))
by_ticks cause.Field name asked blames e = absurd (let n : 11 ≡ 40 = apart _ _ e in omega (arith, n))
by_ticks (cause.Image rule) name asked blames e = absurd (let n : 20 ≡ 40 = apart _ _ e in omega (arith, n))
by_ticks cause.Outside name asked blames e = absurd (let n : 21 ≡ 40 = apart _ _ e in omega (arith, n))
by_ticks cause.Overlap name asked blames e = absurd (let n : 22 ≡ 40 = apart _ _ e in omega (arith, n))
by_ticks (cause.Line line) name asked blames e = absurd (let n : 30 ≡ 40 = apart _ _ e in omega (arith, n))

-- a read that failed
is_read : (why : Cause) → status_by why ≡ Outside Read → why ≡ cause.Read
unfolding code_in
is_read cause.Words e = absurd (let n : 2 ≡ 1 = apart _ _ e in omega (arith, n))
is_read cause.Ticks e = absurd (let n : 40 ≡ 1 = apart _ _ e in omega (arith, n))
is_read cause.Read e = refl
is_read cause.TooLarge e = absurd (let n : 12 ≡ 1 = apart _ _ e in omega (arith, n))
is_read cause.Document e = absurd (let n : 10 ≡ 1 = apart _ _ e in omega (arith, n))
is_read cause.Field e = absurd (let n : 11 ≡ 1 = apart _ _ e in omega (arith, n))
is_read (cause.Image rule) e = absurd (let n : 20 ≡ 1 = apart _ _ e in omega (arith, n))
is_read cause.Outside e = absurd (let n : 21 ≡ 1 = apart _ _ e in omega (arith, n))
is_read cause.Overlap e = absurd (let n : 22 ≡ 1 = apart _ _ e in omega (arith, n))
is_read (cause.Line line) e = absurd (let n : 30 ≡ 1 = apart _ _ e in omega (arith, n))

pub usage_is : (why : Cause) (name : List ℕ) (asked : Asked) (status : Status) → status ≡ status_by why → BlamesWords why name (asked_ticks asked) → status ≡ Usage → asked ≡ Unknown
usage_is why name asked status is blames e = by_usage why name asked blames (sym is ∙ e)

pub ticks_are : (why : Cause) (name : List ℕ) (asked : Asked) (status : Status) → status ≡ status_by why → BlamesWords why name (asked_ticks asked) → status ≡ refused_by 40 0 → RefusesTicks asked
ticks_are why name asked status is blames e = by_ticks why name asked blames (sym is ∙ e)

read_failed : (name : List ℕ) (asked : Asked) (said : Result ℕ About) → BlamesWords cause.Read name said → HasTicks said
read_failed name asked said blames = blames

pub read_is : (why : Cause) (name last : List ℕ) (asked : Asked) (held : Option Files) (before now : ℕ) (status : Status) → status ≡ status_by why → BlamesWords why name (asked_ticks asked)
    → (why ≡ cause.Read → (before ≤ now) × Rose before now × (last ≡ name)) → (why ≡ cause.Read → NamesAskedFile asked held name) → status ≡ Outside Read
    → ReadFailed asked held before now last
read_is why name last asked held before now status is blames rose names e =
    let read = is_read why (sym is ∙ e) in
    let r = rose read in
    (r.1, subst (λ w. BlamesWords w name (asked_ticks asked)) read blames, subst (NamesAskedFile asked held) (sym r.2) (names read))

-- An answer that the words and the files determine isn't that of a read that failed.

no_read : (why : Cause) (status : Status) → status ≡ status_by why → IsDetermined status → why ≢ cause.Read
no_read why status is determined read = subst IsDetermined (is ∙ ap status_by read) determined

told_by : (why : Cause) (name : List ℕ) (verdict : Verdict) (status : Status) (old new : Option (List ℕ)) → status ≡ status_by why → new ≡ appended old (refusal_text why name) → verdict ≡ Err (why, name) → AnswersBy verdict status old new
told_by why name verdict status old new is wrote e = subst (λ v. AnswersBy v status old new) (sym e) (is, wrote)

pub told_is : (why : Cause) (name : List ℕ) (files : Option Files) (verdict : Files → Verdict) (status : Status) (old new : Option (List ℕ)) → status ≡ status_by why → new ≡ appended old (refusal_text why name)
    → IfSome files (λ f. why ≢ cause.Read → verdict f ≡ Err (why, name)) → IsDetermined status → IfSome files (λ f. AnswersBy (verdict f) status old new)
told_is why name None verdict status old new is wrote told determined = tt
told_is why name (Some f) verdict status old new is wrote told determined = told_by why name (verdict f) status old new is wrote (told (no_read why status is determined))

-- Where the words are refused, it is their answer.

accepted : (said : Result ℕ About) (status : Status) (old new : Option (List ℕ)) → HasTicks said → IfErr said (λ about. AnswersBy (Err about) status old new)
accepted said status old new ticks = subst (λ s. IfErr s (λ about. AnswersBy (Err about) status old new)) (sym ticks.1) tt

pub early_is : (why : Cause) (name : List ℕ) (said : Result ℕ About) (status : Status) (old new : Option (List ℕ)) → status ≡ status_by why → new ≡ appended old (refusal_text why name) → BlamesWords why name said
    → IfErr said (λ about. AnswersBy (Err about) status old new)
early_is cause.Words name said status old new is wrote blames = subst (λ s. IfErr s (λ about. AnswersBy (Err about) status old new)) (sym blames) (is, wrote)
early_is cause.Ticks name said status old new is wrote blames = subst (λ s. IfErr s (λ about. AnswersBy (Err about) status old new)) (sym blames) (is, wrote)
early_is cause.Read name said status old new is wrote blames = accepted said status old new blames
early_is cause.TooLarge name said status old new is wrote blames = accepted said status old new blames
early_is cause.Document name said status old new is wrote blames = accepted said status old new blames
early_is cause.Field name said status old new is wrote blames = accepted said status old new blames
early_is (cause.Image rule) name said status old new is wrote blames = accepted said status old new blames
early_is cause.Outside name said status old new is wrote blames = accepted said status old new blames
early_is cause.Overlap name said status old new is wrote blames = accepted said status old new blames
early_is (cause.Line line) name said status old new is wrote blames = accepted said status old new blames

-- The line of a read that failed has the name that failed last.
pub read_text_is : (why : Cause) (name last : List ℕ) (before now : ℕ) (status : Status) (old new : Option (List ℕ)) → status ≡ status_by why → new ≡ appended old (refusal_text why name)
    → (why ≡ cause.Read → (before ≤ now) × Rose before now × (last ≡ name)) → status ≡ Outside Read → new ≡ appended old (refusal_text cause.Read last)
read_text_is why name last before now status old new is wrote rose e =
    let read = is_read why (sym is ∙ e) in
    wrote ∙ ap (λ w. appended old (refusal_text w name)) read ∙ ap (λ n. appended old (refusal_text cause.Read n)) (sym (rose read).2)

-- No refusal is answered as a put that failed.

by_write : (why : Cause) → status_by why ≡ Outside Write → ⊥
unfolding code_in
by_write cause.Words e = let n : 2 ≡ 3 = apart _ _ e in omega (arith, n)
by_write cause.Ticks e = let n : 40 ≡ 3 = apart _ _ e in omega (arith, n)
by_write cause.Read e = let n : 1 ≡ 3 = apart _ _ e in omega (arith, n)
by_write cause.TooLarge e = let n : 12 ≡ 3 = apart _ _ e in omega (arith, n)
by_write cause.Document e = let n : 10 ≡ 3 = apart _ _ e in omega (arith, n)
by_write cause.Field e = let n : 11 ≡ 3 = apart _ _ e in omega (arith, n)
by_write (cause.Image rule) e = let n : 20 ≡ 3 = apart _ _ e in omega (arith, n)
by_write cause.Outside e = let n : 21 ≡ 3 = apart _ _ e in omega (arith, n)
by_write cause.Overlap e = let n : 22 ≡ 3 = apart _ _ e in omega (arith, n)
by_write (cause.Line line) e = let n : 30 ≡ 3 = apart _ _ e in omega (arith, n)

pub no_write : (why : Cause) (status : Status) → status ≡ status_by why → status ≡ Outside Write → ⊥
no_write why status is e = by_write why (sym is ∙ e)

-- Of the line of a refusal a first part was written, as far as the put came.

unlike_read : (why : Cause) → (why ≡ cause.Read) ⊎ (why ≢ cause.Read)
unfolding code_in
unlike_read cause.Words = inr (λ e. let n : 2 ≡ 1 = apart _ _ (ap status_by e) in omega (arith, n))
unlike_read cause.Ticks = inr (λ e. let n : 40 ≡ 1 = apart _ _ (ap status_by e) in omega (arith, n))
unlike_read cause.Read = inl refl
unlike_read cause.TooLarge = inr (λ e. let n : 12 ≡ 1 = apart _ _ (ap status_by e) in omega (arith, n))
unlike_read cause.Document = inr (λ e. let n : 10 ≡ 1 = apart _ _ (ap status_by e) in omega (arith, n))
unlike_read cause.Field = inr (λ e. let n : 11 ≡ 1 = apart _ _ (ap status_by e) in omega (arith, n))
unlike_read (cause.Image rule) = inr (λ e. let n : 20 ≡ 1 = apart _ _ (ap status_by e) in omega (arith, n))
unlike_read cause.Outside = inr (λ e. let n : 21 ≡ 1 = apart _ _ (ap status_by e) in omega (arith, n))
unlike_read cause.Overlap = inr (λ e. let n : 22 ≡ 1 = apart _ _ (ap status_by e) in omega (arith, n))
unlike_read (cause.Line line) = inr (λ e. let n : 30 ≡ 1 = apart _ _ (ap status_by e) in omega (arith, n))

part_by : (why : Cause) (name : List ℕ) (files : Option Files) (verdict : Files → Verdict) (old new : Option (List ℕ)) (Other : Type 0) → why ≢ cause.Read
    → IfSome files (λ f. why ≢ cause.Read → verdict f ≡ Err (why, name)) → AppendsPart old new (refusal_text why name) → IfSome files (λ f. AppendsPart old new (verdict_output (verdict f)) ⊎ Other)
part_by why name None verdict old new Other other told part = tt
part_by why name (Some f) verdict old new Other other told part = inl (subst (λ v. AppendsPart old new (verdict_output v)) (sym (told other)) part)

part_read : (why : Cause) (name last : List ℕ) (old new : Option (List ℕ)) → why ≡ cause.Read → last ≡ name → AppendsPart old new (refusal_text why name) → WritesPartOfLine last old new
part_read why name last old new read e part =
    subst (λ n. AppendsPart old new (refusal_text cause.Read n)) (sym e) (subst (λ w. AppendsPart old new (refusal_text w name)) read part)

if_any : (files : Option Files) (P : Files → Type 0) (Other : Type 0) → Other → IfSome files (λ f. P f ⊎ Other)
if_any None P Other holds = tt
if_any (Some f) P Other holds = inr holds

pub part_is : (why : Cause) (name last : List ℕ) (asked : Asked) (held files : Option Files) (before now : ℕ) (old new : Option (List ℕ)) → BlamesWords why name (asked_ticks asked)
    → (why ≡ cause.Read → (before ≤ now) × Rose before now × (last ≡ name)) → (why ≡ cause.Read → NamesAskedFile asked held name)
    → IfSome files (λ f. why ≢ cause.Read → verdict_of asked f ≡ Err (why, name)) → AppendsPart old new (refusal_text why name)
    → IfSome files (λ f. WritesPart asked f old new ⊎ (ReadFailed asked held before now last × WritesPartOfLine last old new))
part_is why name last asked held files before now old new blames rose names told part = ⊎_elim
    (λ (read : why ≡ cause.Read). if_any files (λ f. WritesPart asked f old new) (ReadFailed asked held before now last × WritesPartOfLine last old new)
    (read_is why name last asked held before now (status_by why) refl blames rose names (ap status_by read), part_read why name last old new read (rose read).2 part))
    (λ (other : why ≢ cause.Read). part_by why name files (verdict_of asked) old new (ReadFailed asked held before now last × WritesPartOfLine last old new) other told part)
    (unlike_read why)
