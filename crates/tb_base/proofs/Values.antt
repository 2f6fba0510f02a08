-- Values by their parts.
use Rattle.std.proofs.Common.{◌≡◌, ℕ, ℤ}
use Rattle.tb_base.specs.declared.query.Value.{Value}
use Rattle.tb_base.specs.BestValues.{IsNoWorse}
use Rattle.tb_base.proofs.NumberFacts.{≤ℤ-trans}
use Rattle.std.proofs.Common.{◌≤◌, arith}

pub same_value : (a b : ℤ) (m n : ℕ) → a ≡ b → m ≡ n → ◌≡◌ {A = Value} (record { arrive = a; rides = m }) (record { arrive = b; rides = n })
same_value a b m n e f = cc

pub value_is : (v : Value) (a : ℤ) (n : ℕ) → v.arrive ≡ a → v.rides ≡ n → v ≡ record { arrive = a; rides = n }
value_is v a n e f = same_value v.arrive a v.rides n e f

pub IsNoWorse-trans : (u v w : Value) → IsNoWorse u v → IsNoWorse v w → IsNoWorse u w
IsNoWorse-trans u v w g h = (≤ℤ-trans _ _ _ g.0 h.0, omega (arith, g.1, h.1))
