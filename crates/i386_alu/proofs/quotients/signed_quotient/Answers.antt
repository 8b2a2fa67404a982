use Rattle.std.proofs.Common.{◌≡◌, false, w64, refl, ap, sym, ◌∙◌}
use Rattle.std.specs.Prelude.{int_div, int_rem}
use Rattle.std.specs.Int.RustNames.{FitsSigned}
use Rattle.std.proofs.lemmas.Int.{to_z-of_z, rem_is}
use Rattle.cpu_state.specs.Width.{modulus}
use Rattle.i386_alu.specs.Operand.{leaves, wrapped}
use Rattle.i386_alu.proofs.quotients.signed_quotient.Goals as goal

pub returns : goal.returns
returns c =
    let dividend = to_z-of_z w64 c.args.dividend c.ranges.dividend in
    let by = to_z-of_z w64 c.args.by c.ranges.by in
    let exact = rw (dividend, by) at c.in_ok-quotient.ensures in
    let fits : FitsSigned w64 c.in_ok-quotient.quotient = rw exact.1 exact.0.1 in
    let whole = to_z-of_z w64 c.in_ok-quotient.quotient fits in
    let rest = rem_is w64 c.args.dividend c.args.by c.ranges.dividend c.ranges.by in
    let stays : leaves c.args.width (int_div c.args.dividend c.args.by) ≡ false =
    sym (ap (leaves c.args.width) (whole ∙ exact.1)) ∙ (sym c.leaves.ensures ∙ c.if-leaves.false) in
    let quotient : c.wrapped.result ≡ wrapped (modulus c.args.width) (int_div c.args.dividend c.args.by) =
    c.wrapped.ensures.value ∙ ap (wrapped (modulus c.args.width)) (whole ∙ exact.1) in
    let remainder : c.wrapped-2.result ≡ wrapped (modulus c.args.width) (int_rem c.args.dividend c.args.by) =
    c.wrapped-2.ensures.value ∙ ap (wrapped (modulus c.args.width)) rest in
    rw (stays, quotient, remainder) refl
