-- Laws of the walk of a group's items from its first list on. Assumes nothing.
use Rattle.std.specs.Prelude.{ℕ, ◌*◌, ◌≤◌, ◌≡◌, length, take}
use Rattle.std.proofs.Common.{arith, mul-le-mul, sym, ◌∙◌}
use Rattle.std.proofs.Math.Path.{ap, subst}
use mathlib.Core.List.{List}
use Rattle.rules.specs.Project.{Project, Need}
use Rattle.rules.specs.Items.{starts as starts_of, numbers as numbers_in, numbering, first_list, group_of, kind_of, Group}
use Rattle.laws.specs.Splits.{size, Giving}
use Rattle.laws.proofs.Splits.{length-kinds, length-numbering}
use Rattle.laws.proofs.FirstList.{first_list-limit}
use Rattle.split.specs.declared.Split.{Split}
use Rattle.split.specs.Shown.{Kinds, Ranges}
use Rattle.split.specs.FirstLists.{Listable}
use Rattle.split.specs.Splits.{Splits}
use Rattle.split.specs.CallerLaws.{listable}
use Rattle.graph.specs.Rows.{words_for}
use Rattle.graph.specs.Graph.{NeighboursChained, Laid as NeedsLaid}
use Rattle.layout.specs.declared.Group.{Group as GroupArrays}
use Rattle.layout.specs.Needs.{needs_among, LayRoom}
use Rattle.stmt.specs.Walks.{Startable}
use Rattle.split.specs.declared.rows.ItemRows.{ItemRows}
use Rattle.owners.specs.Owners.{NeedsAlong}
use Rattle.layout.specs.Numbers.{Numberable, ItemsNumbered}
use Rattle.group.specs.Walking.{Walkable, with_needs, asked_group, AskedNeeds, Asked}
use Rattle.group.specs.AskedLaws.{asked-needs}
use Rattle.group.specs.Sorts.{Sortable}

-- In a list in which the first list fits the first state can be made.
pub startable : {WORDS NEEDS entries : ℕ} {g walked : Group} {group : GroupArrays WORDS NEEDS} → Walkable g walked group → length (first_list g) ≤ entries
    → Startable g group entries
startable {group = group} h fits =
    let l = h.laid in
    let rows = ap (λ (n : ℕ). n * group.graph.weak.words) (sym l.nodes-is) in
    record {
      listable = h.listable;
      count-is = l.count-is;
      within = omega (arith, group.graph.fits, l.nodes-is);
      rows-room = omega (arith, group.graph.fits, rows);
      first-most = h.first-most;
      room = fits;
    }

-- The items of modules split.
module _ {p : Project} {modules : List ℕ} {s : Split} (d : Splits p modules s) where
  pub items-are : s.count ≡ size (group_of p modules)
  items-are = d.count-is ∙ sym (length-kinds p modules)

  -- the kinds and ranges, of the group with other needs
  kinds_kept : {other : List Need} → Kinds (with_needs (group_of p modules) other) s.kinds
  unfolding kind_of
  kinds_kept = let k = d.kinds-shown in record { room = k.room; each = k.each }

  ranges-kept : {other : List Need} → Ranges (with_needs (group_of p modules) other) s.low s.high
  ranges-kept =
      let k = d.ranges-shown in
      record {
        low-size = k.low-size;
        high-size = k.high-size;
        each = λ x b. record { start = (k.each x b).start; end = (k.each x b).end };
      }

  listable-kept : {other : List Need} → Giving p modules → Listable (with_needs (group_of p modules) other) s
  unfolding starts_of kind_of numbers_in
  listable-kept gives =
      let j = listable gives d in
      record {
        ranges-shown = ranges-kept;
        starts-shown = j.starts-shown;
        starts-below = j.starts-below;
        injected-behind = j.injected-behind;
      }

  -- room for the needs that the walk asks for
  pub lay-room : {WORDS NEEDS : ℕ} {section next : List ℕ} {entry : ℕ} → Giving p modules → length p.items * words_for (length p.items) ≤ WORDS
      → length p.needs ≤ NEEDS → (k : AskedNeeds p modules section next entry) → LayRoom WORDS NEEDS s.count k.own
  lay-room gives rows places k =
      let items-few : s.count ≤ length p.items = omega (arith, d.count-is, length-numbering p gives.once) in
      let fewer : words_for s.count ≤ words_for (length p.items) = omega (arith, items-few) in
      record { rows = omega (arith, mul-le-mul items-few fewer); places = omega (arith, k.few) }

-- And laid out with the needs that the walk asks for.
module _ {WORDS NEEDS : ℕ} {p : Project} {modules section next : List ℕ} {entry : ℕ} {group : GroupArrays WORDS NEEDS}
    {items : ItemRows} (able : Numberable p modules items) (d : Splits p modules group.split) (k : AskedNeeds p modules section next entry) where
  pub walkable : group.graph.nodes ≡ group.split.count → NeedsLaid (needs_among (take group.split.count group.split.rows) k.own) group.graph
      → Walkable (asked_group p modules k.own) (group_of p modules) group
  unfolding first_list starts_of kind_of numbers_in
  walkable nodes l =
      record {
        laid =
            record {
              formed = k.formed;
              nodes-is = nodes ∙ items-are d;
              count-is = items-are d;
              needs-laid = subst (λ (r : List ℕ). NeedsLaid (needs_among r k.own) group.graph) d.numbered l;
              kinds-shown = kinds_kept d;
              ranges-shown = ranges-kept d;
            };
        same = k.same;
        first = k.first;
        listable = listable-kept d able.giving;
        first-most = omega (arith, first_list-limit able.accepted able.giving);
      }

-- What the walk of sortable modules relies on: their items are numbered, and then the needs along the chain that it asks for are laid out.
module _ {WORDS NEEDS : ℕ} {p : Project} {modules : List ℕ} {items : ItemRows} {needs next : List ℕ} {entry : ℕ}
    (h : Sortable WORDS NEEDS p modules items needs next entry) {before : GroupArrays WORDS NEEDS} (numbered : ItemsNumbered p modules before)
    {asked-next : List ℕ} {asked : ℕ} (same : asked-next ≡ next) (a : Asked entry before.split asked) where
  pub asked-own : AskedNeeds p modules needs next asked
  asked-own = asked-needs h.numberable.giving numbered.splits h.needs-own a

  pub along-own : NeedsAlong needs asked-next asked asked-own.own
  along-own = subst (λ (l : List ℕ). NeedsAlong needs l asked asked-own.own) (sym same) asked-own.along

  pub room_own : LayRoom WORDS NEEDS before.split.count asked-own.own
  room_own = lay-room numbered.splits h.numberable.giving h.rows-room h.needs-room asked-own

  pub walks-on : {after : GroupArrays WORDS NEEDS} → after.split ≡ before.split → after.graph.nodes ≡ before.split.count
      → ((all : List Need) → NeedsAlong needs asked-next asked all → LayRoom WORDS NEEDS before.split.count all
      → NeedsLaid (needs_among (take before.split.count before.split.rows) all) after.graph)
      → Walkable (asked_group p modules asked-own.own) (group_of p modules) after
  walks-on split nodes laid =
      walkable h.numberable (rw split numbered.splits) asked-own (rw split nodes) (rw split (laid asked-own.own along-own room_own))

  -- The chains of what was laid out are those of the needs that the walk asks for.
  pub chained_own : (after : GroupArrays WORDS NEEDS)
      → ((own : List Need) → NeedsAlong needs asked-next asked own → LayRoom WORDS NEEDS before.split.count own
      → NeighboursChained (needs_among (take before.split.count before.split.rows) own) after.graph)
      → NeighboursChained (needs_among (numbering p modules) asked-own.own) after.graph
  chained_own after chained =
      subst (λ (r : List ℕ). NeighboursChained (needs_among r asked-own.own) after.graph) numbered.splits.numbered (chained asked-own.own along-own room_own)
