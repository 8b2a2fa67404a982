use Rattle.std.proofs.Common.{◌≤◌, ◌^◌, w64, arith, lit<}
use Rattle.std.specs.Int.RustNames.{unsigned_abs}
use Rattle.std.proofs.lemmas.Int.{to_z-of_z, fits_signed_mul, ints}
use Rattle.i386_alu.proofs.products.exact_product.Goals as goal

pub returns : goal.returns
returns c =
    let x_fits = c.ranges.x in
    let y_fits = c.ranges.y in
    let x_small : unsigned_abs c.args.x ≤ 2 ^ 31 = omega (arith, ints) in
    let y_small : unsigned_abs c.args.y ≤ 2 ^ 31 = omega (arith, ints) in
    let product_fits = fits_signed_mul w64 c.args.x c.args.y (2 ^ 31) (2 ^ 31) x_small y_small (lit< tt) in
    simp to_z-of_z
