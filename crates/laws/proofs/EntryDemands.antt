-- Demand 3 of the request about the exported entries: what a host reads off the reply and the report. Assumes nothing.
use Rattle.std.specs.Prelude.{ℕ, ◌+◌, ◌*◌, ◌≤◌, ◌≡◌, List, length}
use Rattle.std.proofs.Common.{arith, le-ltb}
use Rattle.std.proofs.Math.Path.{subst⁻¹}
use Rattle.rules.specs.Project.{Project, accepted, read}
use Rattle.rules.specs.Calls.{allowed, groups_call, order_call, groups_entry, order_entry}
use Rattle.laws.specs.Terms.{Given, groups_made, CirclesMatch, visit_limit}
use Rattle.laws.specs.Accepted.{read-accepted}
use Rattle.laws.proofs.ModuleOrder.{visit-limit-most}
use Rattle.laws.proofs.Calls.{call-given}
use Rattle.laws.proofs.GivenOrders.{kept-count, kept-most}
use Rattle.laws.specs.Entries.{reported-long, given-read, order-read, visits-most}
use Rattle.laws.specs.Demands.{OnceEach, Dependencies, ImportsFirst, order_read, visits_read}
use Rattle.laws.proofs.Demands.{once-each, dependencies, imports, visits, grant}

module _ (bytes : List ℕ) (p : Project) (read_as : read bytes ≡ accepted p) (reply report : List ℕ) (allowance : ℕ) where
  call-of : (order_entry bytes reply report allowance).number ≡ 0 → Given (order_call bytes (length reply) allowance)
  unfolding order_entry
  call-of e = (given-read (order_call bytes (length reply) allowance) reply report e).0

  pub read_off : (order_entry bytes reply report allowance).number ≡ 0
      → order_read (order_entry bytes reply report allowance) ≡ (order_call bytes (length reply) allowance).written
  unfolding order_entry
  read_off e =
      let r = given-read (order_call bytes (length reply) allowance) reply report e in
      let a = read-accepted bytes p read_as in
      let g = call-given bytes p read_as (length reply) allowance r.0 in
      order-read (order_call bytes (length reply) allowance) reply report r.1 (omega (arith, kept-most a allowance g)) (kept-count a allowance g)

  pub entry-once-each : (order_entry bytes reply report allowance).number ≡ 0 → OnceEach p (order_read (order_entry bytes reply report allowance))
  entry-once-each e = subst⁻¹ (OnceEach p) (read_off e) (once-each bytes p read_as (length reply) allowance (call-of e))

  pub entry-dependencies : (order_entry bytes reply report allowance).number ≡ 0
      → Dependencies p (groups_made p allowance) (order_read (order_entry bytes reply report allowance))
  entry-dependencies e =
      subst⁻¹ (Dependencies p (groups_made p allowance)) (read_off e) (dependencies bytes p read_as (length reply) allowance (call-of e))

  pub entry-imports : CirclesMatch p → (order_entry bytes reply report allowance).number ≡ 0
      → ImportsFirst p (order_read (order_entry bytes reply report allowance))
  entry-imports match e = subst⁻¹ (ImportsFirst p) (read_off e) (imports bytes p read_as (length reply) allowance match (call-of e))

  pub entry-visits : CirclesMatch p → 20 ≤ length report
      → (visits_read (groups_entry bytes reply report allowance) ≤ visit_limit p) × (visits_read (order_entry bytes reply report allowance) ≤ visit_limit p)
  unfolding groups_entry order_entry
  entry-visits match long =
      let v = visits bytes p read_as (length reply) allowance match in
      let small = visit-limit-most (read-accepted bytes p read_as) in (
        visits-most (groups_call bytes (length reply) allowance) reply report (visit_limit p) long v.0 (omega arith),
        visits-most (order_call bytes (length reply) allowance) reply report (visit_limit p) long v.1 (omega arith),
      )

  pub entry-grant : CirclesMatch p → visit_limit p ≤ allowed allowance → p.modules * (p.modules + 1) ≤ length reply → 20 ≤ length report
      → (groups_entry bytes reply report allowance).number ≡ 0
  unfolding groups_entry
  entry-grant match enough long room =
      rw (reported-long (groups_call bytes (length reply) allowance) reply report (le-ltb (length report) 20 room))
      (grant bytes p read_as (length reply) allowance match enough long)
