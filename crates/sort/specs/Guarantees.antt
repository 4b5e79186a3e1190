-- Demand 3 on the calls, as their contracts cite it: the statements of laws/specs/Demands.antt, of the numbers returned and the bytes at exit.
-- Assumes nothing.
use Rattle.std.specs.Prelude.{ℕ, ◌+◌, ◌*◌, ◌≤◌, ◌≡◌, refl, List, length, take, drop}
use Rattle.std.proofs.Math.Path.{subst⁻¹}
use Rattle.std.proofs.Common.{take_at}
use Rattle.rules.specs.Project.{Project, accepted, read}
use Rattle.rules.specs.Calls.{allowed, overwrite, groups_call, order_call, Entry, groups_entry, order_entry}
use Rattle.laws.specs.Terms.{Given, groups_made, CirclesMatch, visit_limit}
use Rattle.laws.specs.Accepted.{read-accepted}
use Rattle.laws.proofs.Calls.{call-given}
use Rattle.laws.proofs.GivenOrders.{kept-count}
use Rattle.laws.specs.Demands.{OnceEach, Dependencies, ImportsFirst, order_read, visits_read}
use Rattle.laws.proofs.Demands.{once-each, dependencies, imports, visits, grant}
use Rattle.laws.proofs.EntryDemands.{entry-once-each, entry-dependencies, entry-imports, entry-visits, entry-grant}
use Rattle.sort.specs.declared.Numbers.{Numbers}
use Rattle.sort.specs.Answers.{Answered}
use Rattle.sort.specs.OrderLaws.{kept-fits}

-- Of a groups call on an accepted project whose circles match its imports: the visits that it reports, and that it is given.
pub record GroupsGuaranteed (bytes reply : List ℕ) (allowance : ℕ) (r : Numbers) : Type 0 where
  pub visits-most : (p : Project) → read bytes ≡ accepted p → CirclesMatch p → r.module_visits ≤ visit_limit p
  pub granted : (p : Project) → read bytes ≡ accepted p → CirclesMatch p → visit_limit p ≤ allowed allowance
      → p.modules * (p.modules + 1) ≤ length reply → r.answer ≡ 0

pub groups-guaranteed : (bytes reply : List ℕ) (allowance : ℕ) {after : List ℕ} {r : Numbers} → Answered (groups_call bytes (length reply) allowance) reply after r
    → Answered (groups_call bytes (length reply) allowance) reply after r × GroupsGuaranteed bytes reply allowance r
groups-guaranteed bytes reply allowance a = (
  a,
  record {
    visits-most = λ p e m. rw a.numbers (visits bytes p e (length reply) allowance m).0;
    granted = λ p e m enough long. rw a.numbers (grant bytes p e (length reply) allowance m enough long);
  },
)

-- Of an order call on an accepted project. The order given is what stands in the reply's first bytes at exit, as many as the number of kept items
-- says; the groups are those that the call's module walk makes.
pub record OrderGuaranteed (bytes reply : List ℕ) (allowance : ℕ) (after : List ℕ) (r : Numbers) : Type 0 where
  pub given-once : (p : Project) → read bytes ≡ accepted p → r.answer ≡ 0 → OnceEach p (take r.kept after)
  pub given-dependencies : (p : Project) → read bytes ≡ accepted p → r.answer ≡ 0 → Dependencies p (groups_made p allowance) (take r.kept after)
  pub given-imports : (p : Project) → read bytes ≡ accepted p → CirclesMatch p → r.answer ≡ 0 → ImportsFirst p (take r.kept after)
  pub visits-most : (p : Project) → read bytes ≡ accepted p → CirclesMatch p → r.module_visits ≤ visit_limit p
  -- whatever the bytes are
  pub rows_fit : r.kept ≤ length reply

module _ (bytes reply : List ℕ) (allowance : ℕ) {after : List ℕ} {r : Numbers} (a : Answered (order_call bytes (length reply) allowance) reply after r) where
  given-of : r.answer ≡ 0 → Given (order_call bytes (length reply) allowance)
  given-of e = rw a.numbers at e

  order-read : (p : Project) → read bytes ≡ accepted p → r.answer ≡ 0 → take r.kept after ≡ (order_call bytes (length reply) allowance).written
  unfolding overwrite
  order-read p h e =
      let g = call-given bytes p h (length reply) allowance (given-of e) in
      let k = kept-count (read-accepted bytes p h) allowance g in
      rw (a.numbers, a.reply, k)
      (take_at (order_call bytes (length reply) allowance).written (drop (length (order_call bytes (length reply) allowance).written) reply)
      (length (order_call bytes (length reply) allowance).written) refl)

  pub order-guaranteed : Answered (order_call bytes (length reply) allowance) reply after r × OrderGuaranteed bytes reply allowance after r
  order-guaranteed = (
    a,
    record {
      given-once = λ p h e. subst⁻¹ (OnceEach p) (order-read p h e) (once-each bytes p h (length reply) allowance (given-of e));
      given-dependencies = λ p h e.
          subst⁻¹ (Dependencies p (groups_made p allowance)) (order-read p h e) (dependencies bytes p h (length reply) allowance (given-of e));
      given-imports = λ p h m e. subst⁻¹ (ImportsFirst p) (order-read p h e) (imports bytes p h (length reply) allowance m (given-of e));
      visits-most = λ p h m. rw a.numbers (visits bytes p h (length reply) allowance m).1;
      rows_fit = rw a.numbers (kept-fits bytes (length reply) allowance);
    },
  )

-- The same of the groups entry, off whose number and report a host reads the answer and the visits.
pub record GroupsEntryGuaranteed (bytes reply report : List ℕ) (allowance : ℕ) (e : Entry) : Type 0 where
  pub visits-most : (p : Project) → read bytes ≡ accepted p → CirclesMatch p → 20 ≤ length report → visits_read e ≤ visit_limit p
  pub granted : (p : Project) → read bytes ≡ accepted p → CirclesMatch p → visit_limit p ≤ allowed allowance
      → p.modules * (p.modules + 1) ≤ length reply → 20 ≤ length report → e.number ≡ 0

pub groups-entry-guaranteed : (bytes reply report : List ℕ) (allowance : ℕ) {e : Entry} → e ≡ groups_entry bytes reply report allowance
    → (e ≡ groups_entry bytes reply report allowance) × GroupsEntryGuaranteed bytes reply report allowance e
groups-entry-guaranteed bytes reply report allowance h = (
  h,
  subst⁻¹ (GroupsEntryGuaranteed bytes reply report allowance) h
      (record {
        visits-most = λ p e m room. (entry-visits bytes p e reply report allowance m room).0;
        granted = λ p e m enough long room. entry-grant bytes p e reply report allowance m enough long room;
      }),
)

-- The same of the order entry. A host reads the order off the reply's first bytes, as many as the report's second number says.
pub record OrderEntryGuaranteed (bytes report : List ℕ) (allowance : ℕ) (e : Entry) : Type 0 where
  pub given-once : (p : Project) → read bytes ≡ accepted p → e.number ≡ 0 → OnceEach p (order_read e)
  pub given-dependencies : (p : Project) → read bytes ≡ accepted p → e.number ≡ 0 → Dependencies p (groups_made p allowance) (order_read e)
  pub given-imports : (p : Project) → read bytes ≡ accepted p → CirclesMatch p → e.number ≡ 0 → ImportsFirst p (order_read e)
  pub visits-most : (p : Project) → read bytes ≡ accepted p → CirclesMatch p → 20 ≤ length report → visits_read e ≤ visit_limit p

pub order-entry-guaranteed : (bytes reply report : List ℕ) (allowance : ℕ) {e : Entry} → e ≡ order_entry bytes reply report allowance
    → (e ≡ order_entry bytes reply report allowance) × OrderEntryGuaranteed bytes report allowance e
order-entry-guaranteed bytes reply report allowance h = (
  h,
  subst⁻¹ (OrderEntryGuaranteed bytes report allowance) h
      (record {
        given-once = λ p r g. entry-once-each bytes p r reply report allowance g;
        given-dependencies = λ p r g. entry-dependencies bytes p r reply report allowance g;
        given-imports = λ p r m g. entry-imports bytes p r reply report allowance m g;
        visits-most = λ p r m room. (entry-visits bytes p r reply report allowance m room).1;
      }),
)
