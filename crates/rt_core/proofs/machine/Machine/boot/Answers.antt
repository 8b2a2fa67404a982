use Rattle.std.proofs.Common.{◌≡◌, ℕ, List, [], arith, ap, sym, subst, ◌∙◌}
use Rattle.executive.specs.Agreement.{Agrees}
use Rattle.machine_state.specs.Standing.{IsStanding}
use Rattle.machine_state.specs.States.{bare_of, hardware_at, real_of}
use Rattle.rt_core.proofs.Booted.{first_hardware_is, first_lines, first_machine, first_made, first_stands}
use Rattle.rt_core.proofs.Events.{script_coming}
use Rattle.rt_core.proofs.FirstBare.{first_bare_is}
use Rattle.rt_core.proofs.FirstReal.{first_real_is}
use Rattle.rt_core.proofs.machine.Machine.boot.Goals as goal

pub returns-clause-guest : goal.returns-clause-guest
returns-clause-guest c =
    let p = c.args.parts in
    let size : c.first_processor.result ≡ (first_machine p.memory p.entry p.inits.items p.version p.script.events).processor
    = c.first_processor.ensures ∙ ap (λ (bytes : List ℕ). (first_machine (record { guest = bytes; real_time = [] }) p.entry p.inits.items p.version p.script.events).processor) c.guest_bytes.ensures in
    let same = first_made p.memory p.entry p.inits.items p.version p.script.events _ _ _ _ _ size c.booted_board.ensures c.in_ok-all.ensures.parts c.first_guest.ensures c.new-2.ensures in
    ap bare_of same ∙ first_bare_is p.memory p.entry p.inits.items p.version p.script.events

pub returns-clause-real_time : goal.returns-clause-real_time
returns-clause-real_time c =
    let p = c.args.parts in
    let size : c.first_processor.result ≡ (first_machine p.memory p.entry p.inits.items p.version p.script.events).processor
    = c.first_processor.ensures ∙ ap (λ (bytes : List ℕ). (first_machine (record { guest = bytes; real_time = [] }) p.entry p.inits.items p.version p.script.events).processor) c.guest_bytes.ensures in
    let same = first_made p.memory p.entry p.inits.items p.version p.script.events _ _ _ _ _ size c.booted_board.ensures c.in_ok-all.ensures.parts c.first_guest.ensures c.new-2.ensures in
    ap real_of same ∙ first_real_is p.memory p.entry p.inits.items p.version p.script.events

pub returns-clause-hardware : goal.returns-clause-hardware
returns-clause-hardware c =
    let p = c.args.parts in
    let size : c.first_processor.result ≡ (first_machine p.memory p.entry p.inits.items p.version p.script.events).processor
    = c.first_processor.ensures ∙ ap (λ (bytes : List ℕ). (first_machine (record { guest = bytes; real_time = [] }) p.entry p.inits.items p.version p.script.events).processor) c.guest_bytes.ensures in
    let same = first_made p.memory p.entry p.inits.items p.version p.script.events _ _ _ _ _ size c.booted_board.ensures c.in_ok-all.ensures.parts c.first_guest.ensures c.new-2.ensures in
    ap hardware_at same ∙ first_hardware_is p.memory p.entry p.inits.items p.version p.script.events

pub returns-clause-stands : goal.returns-clause-stands
returns-clause-stands c =
    let p = c.args.parts in
    let size : c.first_processor.result ≡ (first_machine p.memory p.entry p.inits.items p.version p.script.events).processor
    = c.first_processor.ensures ∙ ap (λ (bytes : List ℕ). (first_machine (record { guest = bytes; real_time = [] }) p.entry p.inits.items p.version p.script.events).processor) c.guest_bytes.ensures in
    let same = first_made p.memory p.entry p.inits.items p.version p.script.events _ _ _ _ _ size c.booted_board.ensures c.in_ok-all.ensures.parts c.first_guest.ensures c.new-2.ensures in
    let agrees = subst Agrees c.in_ok-all.ensures.parts c.in_ok-all.ensures.agrees in
    subst IsStanding (sym same) (first_stands p.memory p.entry p.inits.items p.version p.script.events c.requires.sizes agrees first_lines)

pub invariant_of-result : goal.invariant_of-result
invariant_of-result c =
    let p = c.args.parts in
    let size : c.first_processor.result ≡ (first_machine p.memory p.entry p.inits.items p.version p.script.events).processor
    = c.first_processor.ensures ∙ ap (λ (bytes : List ℕ). (first_machine (record { guest = bytes; real_time = [] }) p.entry p.inits.items p.version p.script.events).processor) c.guest_bytes.ensures in
    let same = first_made p.memory p.entry p.inits.items p.version p.script.events _ _ _ _ _ size c.booted_board.ensures c.in_ok-all.ensures.parts c.first_guest.ensures c.new-2.ensures in
    let agrees = subst Agrees c.in_ok-all.ensures.parts c.in_ok-all.ensures.agrees in
    record {
      standing = subst IsStanding (sym same) (first_stands p.memory p.entry p.inits.items p.version p.script.events c.requires.sizes agrees first_lines);
      place = omega arith;
      coming = script_coming p.script.events c.requires.script;
    }
