-- Demand 3 of the request, in five statements about the calls, over all bytes, reply lengths and allowances, and the same of the exported entries.
-- A reader opens this page first. Here are the terms that they are stated in, with those of Terms.antt; the theorems are in proofs/Demands.antt and
-- EntryDemands.antt. `Before a b l` says that a stands before b in l. Assumes nothing.
use Rattle.std.specs.Prelude.{ℕ, ◌≡◌, ◌⊎◌, false, List, ◌∷◌, ◌++◌, take}
use Rattle.rules.specs.Lists.{Reaches}
use Rattle.rules.specs.Project.{Project, number32}
use Rattle.rules.specs.Modules.{ImportsModule, ReachesModule}
use Rattle.rules.specs.Items.{kind_at, keeps_row_order}
use Rattle.rules.specs.Calls.{Entry}
use Rattle.laws.specs.Lists.{◌∈◌, Once}
use Rattle.laws.specs.Orders.{Before}
use Rattle.laws.specs.Terms.{Kept, module_of, GroupNeeds}

-- 1. "an order that it gives holds every kept item just once and nothing else"
pub record OnceEach (p : Project) (order : List ℕ) : Type 0 where
  pub once : Once order
  pub nothing-else : (row : ℕ) → row ∈ order → Kept p row
  pub every : (row : ℕ) → Kept p row → row ∈ order

-- 2. "An item of a sorted group stands there before one it depends on in that group only if it is not injected and either both are uninjected items
-- of one module or the other reaches it over that group's dependencies." `groups` are the call's groups in their order.
pub record Dependencies (p : Project) (groups : List (List ℕ)) (order : List ℕ) : Type 0 where
  pub only_if : (earlier later : List (List ℕ)) (group : List ℕ) → groups ≡ earlier ++ (group ∷ later) → keeps_row_order p group ≡ false
      → (a b : ℕ) → GroupNeeds p earlier group a b → Before a b order
      → (kind_at p a ≡ 4 → ⊥)
      × (((kind_at p b ≡ 4 → ⊥) × (module_of p a ≡ module_of p b)) ⊎ Reaches (GroupNeeds p earlier group) b a)

-- 3. "each kept item of a module follows all kept items of every module it imports that doesn't reach it back"
pub record ImportsFirst (p : Project) (order : List ℕ) : Type 0 where
  pub follows : (m n : ℕ) → ImportsModule p m n → (ReachesModule p n m → ⊥)
      → (a b : ℕ) → Kept p a → module_of p a ≡ m → Kept p b → module_of p b ≡ n → Before b a order

-- The entries of a host. It reads the answer off the number returned, the order off the reply's first bytes, as many as the report's second number
-- says, and the module visits off the report's fourth number.
abbrev pub order_read : Entry → List ℕ
order_read e = take (number32 e.report 4) e.reply

abbrev pub visits_read : Entry → ℕ
visits_read e = number32 e.report 12
