use Rattle.std.proofs.Common.{rules, ◌≡◌, sym, subst}
use Rattle.executive.specs.Agreement.{Agrees}
use Rattle.executive.specs.First.{first_executive}
use Rattle.executive.specs.declared.executive.Executive.{Executive}
use Rattle.executive.proofs.Beginning.{first_agrees}
use Rattle.executive.proofs.executive.Executive.new.Goals as goal

pub returns-clause-parts : goal.returns-clause-parts
unfolding first_executive
returns-clause-parts c = search rules

pub returns-clause-agrees : goal.returns-clause-agrees
unfolding first_executive
returns-clause-agrees c =
    let all : Executive = record { threads = c.in_ok-new.field-0; ready = c.in_ok-new-2.field-0; timeline = c.in_ok-new-3.field-0; fifos = c.in_ok-new-4.field-0; irqs = c.new-5.result } in
    let first : all ≡ first_executive c.args.version = search rules in
    subst Agrees (sym first) (first_agrees c.args.version)
