-- The test of a first visit meets what `ItemWalk::new` and `visit` ask for. Assumes nothing.
use Rattle.std.specs.Prelude.{ℕ, ◌≡◌, [], ◌∷◌, refl, true, length}
use Rattle.std.proofs.Common.{rules, arith, ap, ◌∙◌, set, length-set, get_or-set_same}
use mathlib.Core.List.{List, flat_map}
use mathlib.Core.List.Memᴰ
use Rattle.rules.specs.Lists.{keep, cons_if, up_from}
use Rattle.rules.specs.Project.{item_limit}
use Rattle.rules.specs.Items.{is_injected, range_of, Group, kind_of, numbers, starts as starts_of, first_list, item_start, item_list}
use Rattle.laws.specs.Splits.{WellFormed}
use Rattle.lists.specs.Arrays.{Zeros}
use Rattle.lists.specs.Stacks.{stack}
use Rattle.lists.specs.StackLaws.{stack-length}
use Rattle.graph.specs.Graph.{Laid as NeedsLaid}
use Rattle.split.specs.declared.Split.{Split}
use Rattle.split.specs.Shown.{Kinds, Ranges}
use Rattle.split.specs.FirstLists.{Listable}
use Rattle.layout.specs.declared.Group.{Group as GroupArrays}
use Rattle.stmt.specs.Walks.{Laid, Startable}
use Rattle.stmt.specs.WalkLaws.{walking-start}
use Rattle.stmt.proofs.tests.first_visit.Goals as goal

-- a group of one injected item
one : Group
one = record { kinds = 4 ∷ []; ranges = []; needs = [] }

first-one : first_list one ≡ 0 ∷ []
unfolding one first_list starts_of kind_of is_injected numbers keep cons_if up_from flat_map
first-one = refl

one-formed : WellFormed one
unfolding one kind_of is_injected
one-formed =
    record {
      ends-below = λ x y d. absurd (Memᴰ.not-nil d.1);
      starts-below = λ r m. absurd (Memᴰ.not-nil m);
      holds-uninjected = λ r x m i. absurd (Memᴰ.not-nil m);
      apart = λ r q x m n i j. absurd (Memᴰ.not-nil m);
      ranged = λ x h e. absurd (let z : x ≡ 0 = omega arith in let t : true ≡ is_injected (kind_of one x) = rw z refl in let f = t ∙ e in cc);
    }

module _ (s : Split) (modules : s.modules ≡ 0) (uninjected : s.uninjected ≡ 0) (count : s.count ≡ 1) (low : Zeros item_limit s.low) (high : Zeros item_limit s.high) where
  one-ranges : Ranges one s.low s.high
  unfolding one range_of
  one-ranges = record { low-size = omega (arith, low.size); high-size = omega (arith, high.size); each = λ x b. record { start = low.zeros x; end = high.zeros x } }

  one-listable : Listable one s
  unfolding one starts_of kind_of is_injected numbers keep cons_if up_from
  one-listable =
      record {
        ranges-shown = one-ranges;
        starts-shown = rw modules refl;
        starts-below = λ i h. absurd (omega (arith, modules));
        injected-behind = rw (uninjected, count) refl;
      }

one-startable : (group : GroupArrays 1 1) → Listable one group.split → group.split.count ≡ 1 → group.graph.weak.words ≡ 1 → Startable one group 4
unfolding one
one-startable group listable count words =
    record {
      listable = listable;
      count-is = count;
      within = omega (arith, words);
      rows-room = omega (arith, words);
      first-most = omega (arith, ap length first-one);
      room = omega (arith, ap length first-one);
    }

pub new-start-requires : goal.new-start-requires
new-start-requires c =
    let split = c.new-split.ensures in (
      search rules,
      (
        search rules,
        (
          one,
          one-startable _ (one-listable _ split.counts.0 split.counts.1 refl split.zeros.2 split.zeros.3) refl (omega (arith, c.lay_out_none.ensures.words)),
        ),
      ),
    )

one-kinds : {kinds : List ℕ} → Zeros item_limit kinds → Kinds one (set kinds 0 4)
unfolding one kind_of
one-kinds {kinds} z =
    record {
      room = omega (arith, z.size, length-set kinds 0 4);
      each = λ x b. let e : x ≡ 0 = omega arith in rw e (get_or-set_same kinds 0 4 0 (omega (arith, z.size)));
    }

one-listed : (list : List ℕ) (end : ℕ) → stack list end ≡ first_list one → end ≡ 1
one-listed list end e = omega (arith, ap length e, ap length first-one, stack-length list end)

one-laid : (group : GroupArrays 1 1) → NeedsLaid [] group.graph → group.graph.nodes ≡ 1 → group.split.count ≡ 1 → Kinds one group.split.kinds
    → Ranges one group.split.low group.split.high → Laid one group
unfolding one
one-laid group needs nodes count kinds ranges =
    record { formed = one-formed; nodes-is = nodes; count-is = count; needs-laid = needs; kinds-shown = kinds; ranges-shown = ranges }

pub visit-outcome-requires : goal.visit-outcome-requires
unfolding item_start item_list
visit-outcome-requires c =
    let split = c.new-split.ensures in
    let words = c.lay_out_none.ensures.words in
    let listable = one-listable _ split.counts.0 split.counts.1 refl split.zeros.2 split.zeros.3 in
    let shows = c.new-start.ensures.shows one (one-startable _ listable refl (omega (arith, words))) in
    let laid = one-laid _ c.lay_out_none.ensures.laid c.lay_out_none.ensures.nodes refl (one-kinds split.zeros.1) listable.ranges-shown in
    let end = one-listed _ _ shows.entries.shown in (
      search rules,
      (search rules, (omega (arith, end), (one, item_start one, walking-start laid shows, λ k a b. omega (arith, b, end)))),
    )
