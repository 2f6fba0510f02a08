-- Options that differ in the horizon alone.
use Rattle.std.specs.Prelude.{◌≡◌, All, Contains}
use Rattle.tb_base.specs.ServiceDays.{service_days}
use Rattle.footpaths.specs.declared.paths.Options.{Options}

-- the horizon of the latter is no nearer: each service day of the former is one of the latter
pub record IsNoNearer (near far : Options) : Type 0 where
  pub change : near.change ≡ far.change
  pub station : near.station ≡ far.station
  pub close : near.close ≡ far.close
  pub days : All (Contains (service_days far.horizon)) (service_days near.horizon)
