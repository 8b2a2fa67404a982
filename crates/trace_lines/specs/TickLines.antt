-- The lines of one tick, by their letters.
use Rattle.std.specs.Prelude.{◌≤◌, ℕ, List, []}
use Rattle.line_kinds.specs.declared.kinds.RLine.{RLine}
use Rattle.line_kinds.specs.declared.kinds.GLine.{GLine}
use Rattle.line_kinds.specs.declared.kinds.HLine.{HLine}

pub record TickLines : Type 0 where
  pub r : List RLine
  pub g : List GLine
  pub h : List HLine

abbrev pub no_tick_lines : TickLines
no_tick_lines = record { r = []; g = []; h = [] }

-- a list of at most so many, with the room for them
pub record HasRoom (most len capacity : ℕ) : Type 0 where
  pub few : len ≤ most
  pub room : most ≤ capacity
