use Rattle.std.proofs.Common.{rules, ◌≡◌, ◌∙◌, ap₂, refl, codes, [], ◌∷◌, arith, inl, inr}
use Rattle.clap.specs.Built.{FitsChain}
use Rattle.clap.specs.Words.{rule_of, with_rule}
use Rattle.command_words.specs.Command.{hardware_rule}
use Rattle.command_words.proofs.Arguments.{all_three, no_own, distinct, empty_id}
use Rattle.command_words.proofs.Needed.{fits, longer, both}
use Rattle.command_words.proofs.Simple.{run_is_free, run_shape}
use Rattle.command_words.proofs.command.run_command.Goals as goal

pub returns : goal.returns
returns c =
    let needs = c.in_ok-needing.ensures in
    let added = c.in_ok-command.ensures in
    let hardware = c.action-hardware.result in
    let hardware_is : rule_of hardware ≡ hardware_rule = search rules in
    let named : hardware.id.now ≡ codes "hardware" = search rules in
    let own = no_own hardware.id.now 8 (rw named refl) (λ e. omega arith) (λ e. omega arith) in
    let fit = all_three FitsChain needs.first needs.second hardware
    (fits _ _ _ 6 needs.positional refl (omega arith) (λ e. omega arith) (λ e. omega arith))
    (fits _ _ _ 5 needs.ticks refl (omega arith) (λ e. omega arith) (λ e. omega arith))
    (search rules, search rules, (λ e. empty_id _ _ e named (omega arith)), (λ auto. elim auto [ inl h ↦ own.0 h | inr h ↦ own.1 h ])) in
    let first = needs.positional.named in
    let second = needs.ticks.named in
    let apart = distinct needs.first needs.second hardware (rw (first, second) refl) (rw (first, second) refl)
    (rw (first, named) refl) (rw (first, named) refl) (rw (second, named) refl) (rw (second, named) refl) in
    let shape = run_shape _ (added.shape (search rules) ∙ ap₂ with_rule needs.shape hardware_is) in
    record {
      shape = shape;
      simple = run_is_free _ shape;
      has_both = both _ _ _ _ (hardware ∷ []) needs (longer _ _ _ _ _ _ needs.chain added) fit apart;
    }
