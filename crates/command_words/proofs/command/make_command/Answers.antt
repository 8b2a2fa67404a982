use Rattle.std.proofs.Common.{refl, [], arith}
use Rattle.clap.specs.Built.{FitsChain}
use Rattle.command_words.proofs.Arguments.{all_two, distinct_two}
use Rattle.command_words.proofs.Needed.{fits, both}
use Rattle.command_words.proofs.Simple.{make_is_free, make_shape}
use Rattle.command_words.proofs.command.make_command.Goals as goal

pub returns : goal.returns
returns c =
    let needs = c.in_ok-command.ensures in
    let fit = all_two FitsChain needs.first needs.second
    (fits _ _ _ 6 needs.positional refl (omega arith) (λ e. omega arith) (λ e. omega arith))
    (fits _ _ _ 5 needs.ticks refl (omega arith) (λ e. omega arith) (λ e. omega arith)) in
    let first = needs.positional.named in
    let second = needs.ticks.named in
    let apart = distinct_two needs.first needs.second (rw (first, second) refl) (rw (first, second) refl) in
    let shape = make_shape _ needs.shape in
    record { shape = shape; simple = make_is_free _ shape; has_both = both _ _ _ _ [] needs needs.chain fit apart }
