-- Where the point stands in the digits of a float.
use Rattle.std.specs.Prelude.{◌≡◌, ℕ, suc, ◌-◌, ◌/◌, ◌<◌, ◌≤◌}
use Rattle.std.specs.Float.{Format}
use Rattle.std.specs.Float.Ieee.{prec, low, hid}

-- in the digits of the pattern a of f, with no sign, the point stands s places in; one place more than there are digits is as good as any further
pub record Places (f : Format) (a s : ℕ) : Type 0 where
  pub far : a / hid f < low f - prec f → s ≡ suc (prec f)
  pub near : low f - prec f ≤ a / hid f → s ≡ suc (low f) - a / hid f
