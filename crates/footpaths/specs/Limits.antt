-- Limits of what is said of footpaths.
use Rattle.std.specs.Prelude.{◌≤◌, IfSome}
use Rattle.footpaths.specs.declared.paths.Options.{Options}

-- no time is longer than a day
pub record AreWithinADay (o : Options) : Type 0 where
  pub change : o.change ≤ 86400
  pub station : IfSome o.station (λ secs. secs ≤ 86400)
