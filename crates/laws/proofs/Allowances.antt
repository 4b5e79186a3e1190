-- "A larger allowance changes no key", of the two calls. The terms stand in specs/Allowances.antt; the same of the entries is in
-- EntryAllowances.antt. Assumes nothing.
use Rattle.std.specs.Prelude.{ℕ, ◌≤◌, refl, List}
use Rattle.std.proofs.Common.{arith, ⊎_elim}
use Rattle.rules.specs.Calls.{Answer, allowed, groups_call, order_call}
use Rattle.laws.proofs.LargerAllowances.{Larger, same, further, groups-call-larger, order-call-larger}
use Rattle.laws.specs.Allowances.{ChangesNoKey}

changes-none : {x y : Answer} → Larger x y → ChangesNoKey x y
changes-none same = record { same_answer = λ o. refl; same_number = λ n. refl; no-fewer = λ e. (omega arith, omega arith) }
changes-none {x} (further e m i) =
    record {
      same_answer = ⊎_elim (λ o. absurd (omega arith)) (λ o. absurd (omega arith));
      same_number = λ n. absurd (n e);
      no-fewer = λ _. (m, i);
    }

-- "This is to hold for groups and orders alike."
module _ (bytes : List ℕ) (space a b : ℕ) (no-larger : allowed a ≤ allowed b) where
  pub groups-key : ChangesNoKey (groups_call bytes space a) (groups_call bytes space b)
  groups-key = changes-none (groups-call-larger bytes space a b no-larger)

  pub order-key : ChangesNoKey (order_call bytes space a) (order_call bytes space b)
  order-key = changes-none (order-call-larger bytes space a b no-larger)
