-- Numbers that are no lines, by computation.
use Rattle.std.proofs.Common.{◌≡◌, false, refl}
use Rattle.rt_constants.specs.Errors.{failed}
use Rattle.rt_irqs.specs.Irqs.{no_lines, has_soft, is_pendable, request_result, free_result, free_soft_result, soft_freed}

largest_is_not_taken : has_soft no_lines 4294967295 ≡ false
largest_is_not_taken = refl

largest_cannot_be_marked : is_pendable no_lines 4294967295 ≡ false
largest_cannot_be_marked = refl

largest_is_not_given_back : free_soft_result no_lines 4294967295 ≡ failed 22
largest_is_not_given_back = refl

largest_leaves_the_soft_lines : soft_freed no_lines 4294967295 ≡ no_lines
largest_leaves_the_soft_lines = refl

largest_cannot_be_held : request_result no_lines 4294967295 ≡ failed 22
largest_cannot_be_held = refl

largest_is_not_freed : free_result no_lines 4294967295 ≡ failed 22
largest_is_not_freed = refl
