-- What is true of each pair stays true of it.
use Rattle.std.proofs.Common.{◌≡◌, ℕ, ◌<◌, ◌≢◌, ap, sym, ◌∙◌, arith}
use Rattle.line_sets.specs.LineSet.{has, with_line}
use Rattle.line_sets.proofs.LineSetLemmas.{has-without_kept, has-with_other, without_line-le}
use Rattle.pic_8259.specs.declared.chip.Chip.{Chip}
use Rattle.pic_8259.specs.Chip.{taken}
use Rattle.pic_8259.specs.Controllers.{IsPair}

-- the master's line was acknowledged
pub acknowledged_kept : (m s after : Chip) (n : ℕ) → IsPair (record { master = m; slave = s }) → after ≡ taken n m → IsPair (record { master = after; slave = s })
acknowledged_kept m s after n h e =
    let left = ap (λ (x : Chip). x.irr) e in
    let base = ap (λ (x : Chip). x.base) e in record {
      master_base = omega (arith, base, h.master_base);
      slave_base = h.slave_base;
      master_fits = omega (arith, left, without_line-le m.irr n, h.master_fits);
      slave_fits = h.slave_fits;
      no_cascade = ap (λ x. has x 2) left ∙ has-without_kept m.irr n 2 h.no_cascade;
    }

-- a line of the master other than the cascade's rose
pub risen_kept : (m s : Chip) (irr n : ℕ) → IsPair (record { master = m; slave = s }) → n ≢ 2 → irr < 256 → irr ≡ with_line m.irr n → IsPair (record { master = record m { irr = irr }; slave = s })
risen_kept m s irr n h ne fits e = record {
  master_base = h.master_base;
  slave_base = h.slave_base;
  master_fits = fits;
  slave_fits = h.slave_fits;
  no_cascade = ap (λ x. has x 2) e ∙ (has-with_other m.irr n 2 (λ z. ne (sym z)) ∙ h.no_cascade);
}
