-- An order that is given, for an accepted project: its rows, and what stands before what. Assumes nothing.
use Rattle.std.specs.Prelude.{ℕ, ◌-◌, ◌≤◌, ◌<◌, ◌≡◌, true, false, length}
use Rattle.std.proofs.Common.{arith, le_antisymm, sym, subst, ◌∙◌}
use Rattle.std.proofs.Math.Path.{refl, ap}
use mathlib.Core.List.{List, [], ◌∷◌, ◌++◌, reverse_aux, reverse-reverse}
use Rattle.rules.specs.Lists.{any, up_from}
use Rattle.rules.specs.Project.{Project, item_limit}
use Rattle.rules.specs.Modules.{ImportsModule, ReachesModule, is_done, groups_of, groups_in_order}
use Rattle.rules.specs.Items.{no_item, item_at, kept_rows, keeps_row_order}
use Rattle.rules.specs.Calls.{Answer, allowed, module_list_limit, item_list_limit}
use Rattle.laws.specs.Lists.{◌∈◌, Once, reverse-∈, ∈-reverse, once-length, ∈-up_from, length-up_from}
use Rattle.laws.specs.Orders.{Before, get_or-∈}
use Rattle.laws.specs.Terms.{Kept, module_of, groups_of_run, groups_made, GroupNeeds, CirclesMatch}
use Rattle.laws.specs.Accepted.{Accepted}
use Rattle.laws.specs.ModuleVisit.{∈-is_done, is_done-∈}
use Rattle.laws.specs.ModuleWalk.{Grouped, groups-made}
use Rattle.laws.proofs.Splits.{kept_rows-∈, ∈-kept_rows, once-kept_rows}
use Rattle.laws.proofs.ModuleOrder.{InOrder, then-group, groups-in-order}
use Rattle.laws.specs.OrderCalls.{EachOnce}
use Rattle.laws.proofs.OrderCalls.{InTurn, in-turn, Rows, rows-in-turn, MayStandBefore, within-group, After, none_left, then-after, rows-after}
use Rattle.laws.proofs.Calls.{OrderGiven}

-- Groups that are in order, read from the first on: where m imports n, which does not reach m, a group that lists m comes after one that lists n.
older : {p : Project} (groups : List (List ℕ)) {earlier : List (List ℕ)} → InOrder p (reverse_aux groups earlier) → InOrder p earlier
older [] o = o
older (g ∷ groups) o = newest (older groups o)
  where
    newest : {p : Project} {g : List ℕ} {earlier : List (List ℕ)} → InOrder p (g ∷ earlier) → InOrder p earlier
    newest (then-group f o) = o

after-imported : {p : Project} {m n : ℕ} → ImportsModule p m n → (ReachesModule p n m → ⊥) → (groups : List (List ℕ)) {earlier : List (List ℕ)}
    → InOrder p (reverse_aux groups earlier) → After m n earlier groups
after-imported i back [] o = none_left
after-imported {p} {m} {n} i back (g ∷ groups) {earlier} o = then-after (front (older groups o)) (after-imported i back groups o)
  where
    front : InOrder p (g ∷ earlier) → m ∈ g → is_done earlier n ≡ true
    front (then-group f o) h = f.imports-done m n h i back

module _ {p : Project} (a : Accepted p) (allowance : ℕ) {answer : Answer} (g : OrderGiven p (allowed allowance) answer) where
  abbrev groups : List (List ℕ)
  groups = groups_in_order g.state

  grouped : Grouped p (groups_of g.state)
  grouped = groups-made a module_list_limit (allowed allowance) g.state g.module_visits g.grouped

  unique : EachOnce groups
  unfolding groups_in_order
  unique h m = (grouped.members h (reverse-∈ (groups_of g.state) m)).once

  turn : InTurn p item_list_limit [] groups answer.written
  turn =
      let t = in-turn p item_list_limit (allowed allowance - g.module_visits) [] groups [] 0 g.ordered in
      rw t.1 t.2

  rows : Rows p [] groups answer.written
  rows = rows-in-turn p item_list_limit unique turn

  pub given-once : Once answer.written
  given-once = rows.once

  pub given-kept : (row : ℕ) → row ∈ answer.written → Kept p row
  given-kept = rows.kept

  module-below : {row : ℕ} → Kept p row → module_of p row < p.modules
  unfolding item_at
  module-below {row} k = (a.item-rows _ (get_or-∈ p.items row no_item k.item)).module-below

  pub kept-given : (row : ℕ) → Kept p row → row ∈ answer.written
  unfolding is_done any groups_in_order
  kept-given row k =
      let d = is_done-∈ (groups_of g.state) (grouped.all_done (module_of p row) (module-below k)) in
      rows.every row k refl (∈-is_done (∈-reverse d.1) d.2)

  -- "kept items": as many as the order has rows
  pub kept-count : answer.kept ≡ length answer.written
  kept-count =
      let more : length (kept_rows p) ≤ length answer.written = once-length answer.written (once-kept_rows p) (λ row m. kept-given row (kept_rows-∈ p m)) in
      let less : length answer.written ≤ length (kept_rows p) = once-length (kept_rows p) given-once (λ row m. ∈-kept_rows p (given-kept row m)) in
      g.kept_count ∙ le_antisymm more less

  pub kept-most : answer.kept ≤ item_limit
  kept-most =
      let most : length (kept_rows p) ≤ length (up_from 0 (length p.items)) =
      once-length (up_from 0 (length p.items)) (once-kept_rows p) (λ row m. ∈-up_from 0 (length p.items) (omega arith) (omega (arith, (kept_rows-∈ p m).item))) in
      omega (arith, g.kept_count, length-up_from 0 (length p.items), a.items-most)

  -- the groups that the request speaks of
  made : groups_made p allowance ≡ groups
  unfolding groups_made groups_of_run
  made = ap groups_of_run g.grouped

  pub given-dependencies : (earlier later : List (List ℕ)) (group : List ℕ) → groups_made p allowance ≡ earlier ++ (group ∷ later)
      → keeps_row_order p group ≡ false → (a b : ℕ) → GroupNeeds p earlier group a b → Before a b answer.written → MayStandBefore p earlier group a b
  given-dependencies earlier later group e k a b n h =
      let f : groups ≡ earlier ++ (group ∷ later) = sym made ∙ e in
      within-group p item_list_limit earlier later group (subst EachOnce f unique) (subst (λ (l : List (List ℕ)). InTurn p item_list_limit [] l answer.written) f turn) k a b n h

  pub given-imports : CirclesMatch p → (m n : ℕ) → ImportsModule p m n → (ReachesModule p n m → ⊥)
      → (a b : ℕ) → Kept p a → module_of p a ≡ m → Kept p b → module_of p b ≡ n → Before b a answer.written
  unfolding groups_in_order
  given-imports match m n i back x y kx ex ky ey =
      let o = groups-in-order a match module_list_limit (allowed allowance) g.state g.module_visits g.grouped in
      let w = after-imported i back groups (subst (InOrder p) (sym (reverse-reverse (groups_of g.state))) o) in
      rows-after p item_list_limit x y unique turn (rw (ex, ey) w) (kept-given x kx) (kept-given y ky)
