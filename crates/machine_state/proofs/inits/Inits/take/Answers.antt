use Rattle.std.proofs.Common.{◌≢◌, ◌<◌, ◌∙◌, ℕ, [], List, length, arith, ap, sym, subst}
use Rattle.std.specs.Prelude.{slice_index_or}
use Rattle.priority_schedule.specs.State.{Module}
use Rattle.priority_schedule.specs.Tick.{first_entry, without_first}
use Rattle.machine_state.proofs.NextInit.{is_there, next_there}
use Rattle.machine_state.proofs.inits.Inits.take.Goals as goal

pub entry_at-entry-requires : goal.entry_at-entry-requires
entry_at-entry-requires c = subst (λ (es : List ℕ). c.self.inside.next < length es) (sym c.as_slice.ensures.value) (is_there c.self.inside.entries.items c.self.inside.next (subst (λ (ms : List Module). ms ≢ []) (sym c.self.view_is) c.requires))

pub invariant_of-self : goal.invariant_of-self
invariant_of-self c =
    let inside = is_there c.self.inside.entries.items c.self.inside.next (subst (λ (ms : List Module). ms ≢ []) (sym c.self.view_is) c.requires) in
    (c.self.invariant.0, omega (arith, inside))

pub returns-clause-entry : goal.returns-clause-entry
returns-clause-entry c =
    let inside = is_there c.self.inside.entries.items c.self.inside.next (subst (λ (ms : List Module). ms ≢ []) (sym c.self.view_is) c.requires) in
    c.entry_at-entry.ensures ∙ ap (λ (es : List ℕ). slice_index_or es c.self.inside.next 0) c.as_slice.ensures.value
    ∙ sym (ap first_entry (next_there c.self.inside.entries.items c.self.inside.next inside)) ∙ ap first_entry c.self.view_is

pub returns-clause-rest : goal.returns-clause-rest
returns-clause-rest c =
    let inside = is_there c.self.inside.entries.items c.self.inside.next (subst (λ (ms : List Module). ms ≢ []) (sym c.self.view_is) c.requires) in
    sym (ap without_first (next_there c.self.inside.entries.items c.self.inside.next inside)) ∙ ap without_first c.self.view_is
