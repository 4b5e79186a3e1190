-- Demand 3 of the request, in five statements about the calls, over all bytes, reply lengths and allowances. The terms stand in specs/Demands.antt
-- and specs/Terms.antt; the same of the entries is in EntryDemands.antt. Assumes nothing.
use Rattle.std.specs.Prelude.{ℕ, ◌+◌, ◌*◌, ◌≤◌, ◌≡◌, List}
use Rattle.std.proofs.Common.{le_trans}
use Rattle.rules.specs.Project.{Project, accepted, read}
use Rattle.rules.specs.Calls.{allowed, module_list_limit, groups_bytes, groups_call, order_call}
use Rattle.laws.specs.Terms.{Given, groups_made, CirclesMatch, visit_limit}
use Rattle.laws.specs.Accepted.{Accepted, read-accepted}
use Rattle.laws.proofs.ModuleOrder.{walk_ends, visit-limit-fits}
use Rattle.laws.proofs.Calls.{OrderGiven, order-of, groups-of, call-given, groups-visits, order-visits, walk-visits, groups-given}
use Rattle.laws.proofs.GivenOrders.{given-once, given-kept, kept-given, given-dependencies, given-imports}
use Rattle.laws.specs.Demands.{OnceEach, Dependencies, ImportsFirst}

-- "Whatever project, reply and allowance an order call gets": of every accepted project, that is one that none of 1 to 9 turns down.
module _ (bytes : List ℕ) (p : Project) (read_as : read bytes ≡ accepted p) (space allowance : ℕ) where
  project-accepted : Accepted p
  project-accepted = read-accepted bytes p read_as

  given_by : Given (order_call bytes space allowance) → OrderGiven p (allowed allowance) (order_call bytes space allowance)
  given_by = call-given bytes p read_as space allowance

  pub once-each : Given (order_call bytes space allowance) → OnceEach p (order_call bytes space allowance).written
  once-each given =
      let g = given_by given in
      record {
        once = given-once project-accepted allowance g;
        nothing-else = given-kept project-accepted allowance g;
        every = kept-given project-accepted allowance g;
      }

  pub dependencies : Given (order_call bytes space allowance) → Dependencies p (groups_made p allowance) (order_call bytes space allowance).written
  dependencies given = record { only_if = given-dependencies project-accepted allowance (given_by given) }

  -- "Take, besides, any accepted project whose listed circles tie any two different modules exactly when each reaches the other by imports. In every
  -- order given for it, .."
  pub imports : CirclesMatch p → Given (order_call bytes space allowance) → ImportsFirst p (order_call bytes space allowance).written
  imports match given = record { follows = given-imports project-accepted allowance (given_by given) match }

  -- 4. "Whatever their replies and allowances, groups and order calls on it, refused or not, report at most 2 × modules + imports module visits."
  pub visits : CirclesMatch p
      → ((groups_call bytes space allowance).module_visits ≤ visit_limit p) × ((order_call bytes space allowance).module_visits ≤ visit_limit p)
  visits match =
      let w = walk-visits project-accepted match (allowed allowance) in (
        rw (groups-of bytes p read_as space allowance) (le_trans (groups-visits p space (allowed allowance)) w),
        rw (order-of bytes p read_as space allowance) (le_trans (order-visits p space (allowed allowance)) w),
      )

  -- 5. "With an allowance of that number or more, grouping into a long enough reply is always given." "A long enough reply has M × (M + 1) bytes or
  -- more."
  pub grant : CirclesMatch p → visit_limit p ≤ allowed allowance → p.modules * (p.modules + 1) ≤ space → Given (groups_call bytes space allowance)
  unfolding groups_bytes
  grant match enough long =
      let e = walk_ends project-accepted match module_list_limit (allowed allowance) (visit-limit-fits project-accepted) enough in
      rw (groups-of bytes p read_as space allowance) (groups-given p space (allowed allowance) e.2 long)
