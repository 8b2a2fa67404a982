use Rattle.std.proofs.Common.{◌≤◌, sym, arith}
use Rattle.std.proofs.lemmas.Bool.Decides.{nat_tests}
use Rattle.std.proofs.lemmas.List.{get_or_past}
use Rattle.gate_table.specs.Names.{all_gates, gate_of}
use Rattle.gate_table.specs.declared.names.GateName.TheVariants.{Other}
use Rattle.gate_table.proofs.names.gate_name.Goals as goal

pub returns-else-function-lt25 : goal.returns-else-function-lt25
unfolding gate_of
returns-else-function-lt25 c =
    let h = c.if-function-lt25.false in
    let past : 25 ≤ c.args.function = grind (arith, nat_tests, h) in
    sym (get_or_past all_gates c.args.function Other past)
