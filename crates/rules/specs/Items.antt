-- 'Item walk (stmt.rs)': a group's kept items, their split and numbering, and the walk that sorts them. Assumes nothing.
use Rattle.std.specs.Prelude.{ℕ, suc, ◌+◌, Bool, true, false, not, ◌&&◌, ◌||◌, eqb, ltb, leb, length, get_or}
use mathlib.Core.List.{List, [], ◌∷◌, ◌++◌, map, flat_map, reverse}
use Rattle.rules.specs.Lists.{is_empty, cons_if, keep, any, all, elem, up_from, positions_from}
use Rattle.rules.specs.Project.{Item, Need, Project}
use Rattle.rules.specs.Modules.{imports_of, is_done}
use Rattle.rules.specs.Paths.{dependencies_of, dependants_of, weight_in, in_paths}
use Rattle.rules.specs.Walk.{Walk, Stop, finished, spent, full, run}

-- The kinds.
-- "Kind 5 is dropped, all others are kept." "Kept" is the paper's term.
unfoldable pub is_kept : ℕ → Bool
is_kept kind = not (eqb kind 5)

-- "4 injected", the paper's term
unfoldable pub is_injected : ℕ → Bool
is_injected kind = eqb kind 4

-- "x is of kind 1 or 2, or of kind 3 with weight Maybe"
unfoldable pub may_drop : ℕ → ℕ → Bool
may_drop kind weight = eqb kind 1 || eqb kind 2 || (eqb kind 3 && eqb weight 1)

-- The kept items of a group.
unfoldable pub no_item : Item
no_item = record { in_module = 0; kind = 5 }

unfoldable pub item_at : Project → ℕ → Item
item_at p row = get_or p.items row no_item

unfoldable pub kind_at : Project → ℕ → ℕ
kind_at p row = (item_at p row).kind

unfoldable pub kept_rows : Project → List ℕ
kept_rows p = positions_from 0 (λ (i : Item). is_kept i.kind) p.items

unfoldable pub kept_rows_of : Project → ℕ → List ℕ
kept_rows_of p m = keep (λ row. eqb (item_at p row).in_module m) (kept_rows p)

-- "An item belongs to the first group that lists its module." "A group's modules, last member first, give their kept items; modules already
-- used or without kept items are passed over." A module is used where an earlier group lists it.
unfoldable pub giving_modules : Project → List (List ℕ) → List ℕ → List ℕ
giving_modules p earlier group = keep (λ m. not (is_done earlier m) && not (is_empty (kept_rows_of p m))) (reverse group)

unfoldable pub given_rows : Project → List ℕ → List ℕ
given_rows p = flat_map (kept_rows_of p)

-- "A group of one module with no imports keeps its row order and makes no item visits. Any other is sorted"
unfoldable pub keeps_row_order : Project → List ℕ → Bool
keeps_row_order p [] = false
keeps_row_order p (m ∷ []) = is_empty (imports_of p m)
keeps_row_order p (m ∷ n ∷ group) = false

-- The split: "uninjected items by module, then injected ones, numbered from 0".
unfoldable pub uninjected_rows : Project → ℕ → List ℕ
uninjected_rows p m = keep (λ row. not (is_injected (kind_at p row))) (kept_rows_of p m)

unfoldable pub injected_rows : Project → ℕ → List ℕ
injected_rows p m = keep (λ row. is_injected (kind_at p row)) (kept_rows_of p m)

-- the row of each number
unfoldable pub numbering : Project → List ℕ → List ℕ
numbering p modules = flat_map (uninjected_rows p) modules ++ flat_map (injected_rows p) modules

-- "A module's range is its uninjected run, its start the run's first number, also where the run is empty."
pub record Range : Type 0 where
  pub start : ℕ
  pub count : ℕ

unfoldable pub ranges_from : Project → ℕ → List ℕ → List Range
ranges_from p start [] = []
ranges_from p start (m ∷ modules) =
    let count = length (uninjected_rows p m) in
    record { start = start; count = count } ∷ ranges_from p (start + count) modules

unfoldable pub in_range : ℕ → Range → Bool
in_range x r = leb r.start x && ltb x (r.start + r.count)

unfoldable pub numbers_of : Range → List ℕ
numbers_of r = up_from r.start r.count

-- the range that holds x; where there is none, one that holds nothing
unfoldable pub range_of : List Range → ℕ → Range
range_of [] x = record { start = 0; count = 0 }
range_of (r ∷ ranges) x = elim (in_range x r) [ true ↦ r | false ↦ range_of ranges x ]

-- "a graph of the group's kept items and, in row order, the needs whose two ends are among them", by the items' numbers
unfoldable pub number_of : List ℕ → ℕ → ℕ
number_of [] row = 0
number_of (r ∷ rows) row = elim (eqb r row) [ true ↦ 0 | false ↦ suc (number_of rows row) ]

unfoldable pub is_among : List ℕ → Need → Bool
is_among rows n = elem n.dependant rows && elem n.dependency rows

unfoldable pub numbered : List ℕ → Need → Need
numbered rows n =
    record { dependant = number_of rows n.dependant; dependency = number_of rows n.dependency; weight = n.weight }

-- What the walk of a group goes by: each number's kind, the ranges of its modules, and its needs in row order.
pub record Group : Type 0 where
  pub kinds : List ℕ
  pub ranges : List Range
  pub needs : List Need

unfoldable pub group_of : Project → List ℕ → Group
group_of p modules =
    let rows = numbering p modules in
    record {
      kinds = map (kind_at p) rows;
      ranges = ranges_from p 0 modules;
      needs = map (numbered rows) (keep (is_among rows) p.needs);
    }

unfoldable pub kind_of : Group → ℕ → ℕ
kind_of g x = get_or g.kinds x 5

unfoldable pub numbers : Group → List ℕ
numbers g = up_from 0 (length g.kinds)

-- "P(a) holds b", of the record of paths that the group's needs make, added in row order
unfoldable pub path_holds : Group → ℕ → ℕ → Bool
path_holds g a b = in_paths (reverse g.needs) a b

unfoldable pub weight_of : Group → ℕ → ℕ → ℕ
weight_of g x y = weight_in (reverse g.needs) x y

unfoldable pub same_range : Group → ℕ → ℕ → Bool
same_range g x d = in_range d (range_of g.ranges x)

-- "The list starts as all starts; then, per start, the range holding it, if any; then the injected items."
unfoldable pub starts : Group → List ℕ
starts g = map (λ (r : Range). r.start) g.ranges

unfoldable pub first_list : Group → List ℕ
first_list g =
    starts g ++ (flat_map (λ s. numbers_of (range_of g.ranges s)) (starts g) ++ keep (λ x. is_injected (kind_of g x)) (numbers g))

-- The list of items to visit, the items placed, latest first, and the pairs that have moved.
pub data ItemState : Type 0 where
  item_state : (list placed : List ℕ) (moved : List (ℕ × ℕ)) → ItemState

unfoldable pub has_moved : List (ℕ × ℕ) → ℕ → ℕ → Bool
has_moved moved x d = any (λ (q : ℕ × ℕ). eqb q.0 x && eqb q.1 d) moved

-- 2. "For each dependency d in order: skip it in x's range. If x is uninjected and P(d) holds x, skip it where the pair (x, d) has moved, else
--    note that pair as moved, even if d is placed. Skip it if placed. The rest are open."
pub data Opened : Type 0 where
  opened : (dependencies : List ℕ) (moved : List (ℕ × ℕ)) → Opened

unfoldable pub with_open : Bool → ℕ → Opened → Opened
with_open test d (opened dependencies moved) = opened (cons_if test d dependencies) moved

module _ (g : Group) (placed : List ℕ) (x : ℕ) where
  unfoldable pub find_open : List ℕ → List (ℕ × ℕ) → Opened
  find_open [] moved = opened [] moved
  find_open (d ∷ rest) moved =
      elim (same_range g x d) [
        | true ↦ find_open rest moved
        | false ↦ elim (not (is_injected (kind_of g x)) && path_holds g d x) [
          | true ↦ elim (has_moved moved x d) [
            | true ↦ find_open rest moved
            | false ↦ with_open (not (elem d placed)) d (find_open rest ((x, d) ∷ moved))
          ]
          | false ↦ with_open (not (elem d placed)) d (find_open rest moved)
        ]
      ]

-- 3. "Drop an open d if P(d) holds x and x is of kind 1 or 2, or of kind 3 with weight Maybe."
unfoldable pub is_dropped : Group → ℕ → ℕ → Bool
is_dropped g x d = path_holds g d x && may_drop (kind_of g x) (weight_of g x d)

-- 4. "its unplaced injected dependants go to the front one by one"
unfoldable pub waiting : Group → List ℕ → ℕ → List ℕ
waiting g placed x = keep (λ d. is_injected (kind_of g d) && not (elem d placed)) (dependants_of g.needs x)

unfoldable pub one_by_one : List ℕ → List ℕ → List ℕ
one_by_one [] list = list
one_by_one (d ∷ rest) list = one_by_one rest (d ∷ list)

-- 5. "the first unplaced p below x in its range whose pair (x, p) hasn't moved": all such p, in their order
unfoldable pub preceding : Group → List ℕ → List (ℕ × ℕ) → ℕ → List ℕ
preceding g placed moved x =
    keep (λ p. not (elem p placed) && ltb p x && not (has_moved moved x p)) (numbers_of (range_of g.ranges x))

-- "If there is one: note it, put those dependants in front, then x, then p. If none, x is placed."
unfoldable pub after_preceding : Group → ℕ → List ℕ → List ℕ → List (ℕ × ℕ) → List ℕ → ItemState
after_preceding g x list placed moved [] = item_state list (x ∷ placed) moved
after_preceding g x list placed moved (p ∷ rest) =
    item_state (p ∷ x ∷ one_by_one (waiting g placed x) list) placed ((x, p) ∷ moved)

-- 3. "If any stay, x goes to the front, then these before it, first foremost; the visit ends." 4. "Injected x: its unplaced injected dependants
-- go to the front one by one; x is placed." 5. "Else .."
unfoldable pub after_open : Group → ℕ → List ℕ → List ℕ → Opened → ItemState
after_open g x list placed (opened dependencies moved) =
    let staying = keep (λ d. not (is_dropped g x d)) dependencies in
    elim (is_empty staying) [
      | false ↦ item_state (staying ++ (x ∷ list)) placed moved
      | true ↦ elim (is_injected (kind_of g x)) [
        | true ↦ item_state (one_by_one (waiting g placed x) list) (x ∷ placed) moved
        | false ↦ after_preceding g x list placed moved (preceding g placed moved x)
      ]
    ]

-- "A visit takes x off." 1. "x placed: nothing."
unfoldable pub visit_item : Group → ItemState → ItemState
visit_item g (item_state [] placed moved) = item_state [] placed moved
visit_item g (item_state (x ∷ list) placed moved) =
    elim (elem x placed) [
      | true ↦ item_state list placed moved
      | false ↦ after_open g x list placed (find_open g placed x (dependencies_of g.needs x) moved)
    ]

unfoldable pub item_list : ItemState → List ℕ
item_list (item_state list placed moved) = list

unfoldable pub placed_of : ItemState → List ℕ
placed_of (item_state list placed moved) = placed

-- "The walk ends when all are placed."
abbrev pub item_walk : Group → Walk ItemState
item_walk g = record { ended = λ s. all (λ x. elem x (placed_of s)) (numbers g); visit = visit_item g; list = item_list }

unfoldable pub item_start : Group → ItemState
item_start g = item_state (first_list g) [] []

-- The order of a group, as rows: of the group's modules in their order, under a list limit, what is left of the allowance, and the visits made.
unfoldable pub order_of : List ℕ → Stop ItemState → Stop (List ℕ)
order_of rows (finished s made) = finished (map (λ x. get_or rows x 0) (reverse (placed_of s))) made
order_of rows (spent made) = spent made
order_of rows (full made) = full made

unfoldable pub sort_modules : Project → List ℕ → ℕ → ℕ → ℕ → Stop (List ℕ)
sort_modules p modules limit left made =
    order_of (numbering p modules) (run (item_walk (group_of p modules)) limit left made (item_start (group_of p modules)))

unfoldable pub sort_group : Project → List (List ℕ) → List ℕ → ℕ → ℕ → ℕ → Stop (List ℕ)
sort_group p earlier group limit left made =
    let modules = giving_modules p earlier group in
    elim (keeps_row_order p group) [
      | true ↦ finished (given_rows p modules) made
      | false ↦ sort_modules p modules limit left made
    ]
