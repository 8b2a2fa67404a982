use Rattle.std.proofs.Common.{◌≡◌, rules, ap, subst, ◌∙◌}
use Rattle.std.specs.Prelude.{Err, IfSome, Ok}
use Rattle.outside_io.specs.Sink.{appended}
use Rattle.run_files.specs.Line.{refusal_text}
use Rattle.run_files.specs.declared.cause.Refusal.{Refusal}
use Rattle.run_files.specs.declared.run.AcceptedRun.{AcceptedRun}
use Rattle.run_files.specs.Refusal.{FaultsBy, IfUnread, Tells}
use Rattle.run_request.specs.Request.{FollowsWords}
use Rattle.rtlinux_top.specs.Answers.{NamesAskedFile}
use Rattle.run_stream.specs.Writes.{AppendsPart}
use Rattle.run_files.specs.Verdict.{Verdict}
use Rattle.rtlinux_top.specs.Verdict.{asked_ticks, known, status_by, verdict_of, verdict_output}
use Rattle.rtlinux_top.specs.Words.{command_of}
use Rattle.rtlinux_top.proofs.Part.{part_of_run}
use Rattle.rtlinux_top.proofs.Refused.{early_is, part_is, read_is, read_text_is, ticks_are, told_is, usage_is}
use Rattle.rtlinux_top.proofs.answer.answer.Goals as goal

pub returns-in-Ok-put-clause-course : goal.returns-in-Ok-put-clause-course
returns-in-Ok-put-clause-course g c =
    let asked = command_of c.args.words.now.items in
    let held = g.S.Store.held c.args.store.now in
    let before = g.S.Store.faults c.args.store.now in
    let now = g.S.Store.faults c.read_request.new.store in
    let last = g.S.Store.failed_last c.read_request.new.store in
    let why = c.in-Err-Because in
    let is = c.status_by.ensures ∙ ap status_by why.cause-is in
    let same = c.as_slice.ensures.value in
    let words = subst (λ (r : Refusal). FollowsWords (Err r) (asked_ticks asked)) why.field-0-is (rw same at why.ensures.words) in
    let unread = subst (λ (r : Refusal). IfUnread {A = AcceptedRun} (Err r) (NamesAskedFile asked held)) why.field-0-is (rw same at why.ensures.unread) in
    let rose = subst (λ (r : Refusal). FaultsBy {A = AcceptedRun} before now last (Err r)) why.field-0-is why.ensures.cause in
    let told = subst (λ (r : Refusal). IfSome (known asked held) (λ files. Tells {A = AcceptedRun} (Err r) (verdict_of asked files))) why.field-0-is (rw same at why.ensures.told) in
    let text = c.as_bytes.ensures.text ∙ c.refusal_line.ensures ∙ ap (λ w. refusal_text w c.as_slice-in-Err-Because.result.now) why.cause-is ∙ ap (refusal_text why.cause) (rw why.field-0-is at c.as_slice-in-Err-Because.ensures.bytes) in
    let wrote = c.in-Ok-put.ensures.0 ∙ ap (appended (g.K.Sink.written c.args.sink.now)) text in
    record {
      told = told_is why.cause _ (known asked held) (verdict_of asked) c.status_by.result _ _ is wrote told;
      early = λ _. early_is why.cause _ (asked_ticks asked) c.status_by.result _ _ is wrote words;
      usage = usage_is why.cause _ asked c.status_by.result is words;
      ticks = ticks_are why.cause _ asked c.status_by.result is words;
      read = read_is why.cause _ last asked held before now c.status_by.result is words rose.0 unread;
      read_text = read_text_is why.cause _ last before now c.status_by.result _ _ is wrote rose.0;
      write = search rules;
      sink_fault = search rules;
      store_fault = search rules;
      memory = search rules;
      dropped = search rules;
    }

pub returns-in-Ok-clause-after_write : goal.returns-in-Ok-clause-after_write
returns-in-Ok-clause-after_write g c = λ failed.
    let asked = command_of c.args.words.now.items in
    let held = g.S.Store.held c.args.store.now in
    let told : IfSome (known asked held) (λ files. verdict_of asked files ≡ Ok c.in-Ok.run') = rw c.as_slice.ensures.value at c.in-Ok.ensures.told in
    let written : Verdict → Type 0 = λ verdict.
    AppendsPart (g.K.Sink.written c.args.sink.now) (g.K.Sink.written c.run_accepted.new.sink) (verdict_output verdict) in
    part_of_run asked (known asked held) c.in-Ok.run' written _ told (c.run_accepted.ensures.part failed)

pub returns-in-Err-clause-after_write : goal.returns-in-Err-clause-after_write
returns-in-Err-clause-after_write g c = λ failed.
    let asked = command_of c.args.words.now.items in
    let held = g.S.Store.held c.args.store.now in
    let before = g.S.Store.faults c.args.store.now in
    let now = g.S.Store.faults c.read_request.new.store in
    let last = g.S.Store.failed_last c.read_request.new.store in
    let why = c.in-Err-Because in
    let same = c.as_slice.ensures.value in
    let words = subst (λ (r : Refusal). FollowsWords (Err r) (asked_ticks asked)) why.field-0-is (rw same at why.ensures.words) in
    let unread = subst (λ (r : Refusal). IfUnread {A = AcceptedRun} (Err r) (NamesAskedFile asked held)) why.field-0-is (rw same at why.ensures.unread) in
    let rose = subst (λ (r : Refusal). FaultsBy {A = AcceptedRun} before now last (Err r)) why.field-0-is why.ensures.cause in
    let told = subst (λ (r : Refusal). IfSome (known asked held) (λ files. Tells {A = AcceptedRun} (Err r) (verdict_of asked files))) why.field-0-is (rw same at why.ensures.told) in
    let text = c.as_bytes.ensures.text ∙ c.refusal_line.ensures ∙ ap (λ w. refusal_text w c.as_slice-in-Err-Because.result.now) why.cause-is ∙ ap (refusal_text why.cause) (rw why.field-0-is at c.as_slice-in-Err-Because.ensures.bytes) in
    let put = c.in-Err.ensures in
    let part = subst (AppendsPart (g.K.Sink.written c.args.sink.now) (g.K.Sink.written c.put.new.self)) text put.2 in
    part_is why.cause _ last asked held (known asked held) before now _ _ words rose.0 unread told part
