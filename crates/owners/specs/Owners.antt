-- The group that an item belongs to, and the needs of a project chained by the group that both their ends belong to. Assumes nothing.
use Rattle.std.specs.Prelude.{ℕ, ◌+◌, ◌*◌, ◌/◌, ◌≤◌, ◌<◌, ◌≡◌, true, false, Option, Some, None, List, [], ◌∷◌, map, eqb, length, get_or}
use Rattle.std.specs.Option.{option_eq, option_or}
use Rattle.rules.specs.Lists.{keep, elem}
use Rattle.rules.specs.Project.{Need, Project, module_limit, need_limit, item_row, need_row, pair_rows, need_rows}
use Rattle.rules.specs.Items.{item_at}
use Rattle.rules.specs.Calls.{group_bytes}
use Rattle.laws.specs.Counting.{Below, EachBelow}
use Rattle.laws.specs.Accepted.{Accepted}
use Rattle.lists.specs.Chained.{places}

-- "An item belongs to the first group that lists its module": for module m the number of groups behind that one, and none where no group lists it.
unfoldable pub owner_in : List (List ℕ) → ℕ → Option ℕ
owner_in [] m = None
owner_in (g ∷ groups) m = elim (elem m g) [ true ↦ Some (length groups) | false ↦ owner_in groups m ]

-- the owner of an item's row
unfoldable pub owner_of : Project → List (List ℕ) → ℕ → Option ℕ
owner_of p groups row = owner_in groups (item_at p row).in_module

-- what two are both owned by, and none where that differs
abbrev pub both_own : Option ℕ → Option ℕ → Option ℕ
both_own a b = elim (option_eq eqb a b) [ true ↦ a | false ↦ None ]

-- the owner of both ends of a need, by which it is chained
unfoldable pub key_of : Project → List (List ℕ) → Need → Option ℕ
key_of p groups n = both_own (owner_of p groups n.dependant) (owner_of p groups n.dependency)

-- the needs of the group with k groups behind it
abbrev pub needs_of : Project → List (List ℕ) → ℕ → List Need
needs_of p groups k = keep (λ (n : Need). option_eq eqb (key_of p groups n) (Some k)) p.needs

-- the need in row i of a section
unfoldable pub need_at : List ℕ → ℕ → Need
need_at section i = need_row (get_or section (3 * i) 0) (get_or section (3 * i + 1) 0) (get_or section (3 * i + 2) 0)

-- Some needs of a section stand along the chain from an entry on, in their order.
pub record NeedsAlong (section next : List ℕ) (entry : ℕ) (needs : List Need) : Type 0 where
  pub most : length needs ≤ need_limit
  pub within : Below (length section / 3) (places next entry)
  pub along : map (need_at section) (places next entry) ≡ needs

-- what the members of one group are owned by, and none for the other modules
unfoldable pub owner_among : List ℕ → ℕ → ℕ → Option ℕ
owner_among members owner m = elim (elem m members) [ true ↦ Some owner | false ↦ None ]

-- The members of one group have been noted: those without an owner have this one.
abbrev pub Noted : List ℕ → ℕ → List (Option ℕ) → List (Option ℕ) → Type 0
Noted members owner owners owners' = (m : ℕ) → get_or owners' m None ≡ option_or (get_or owners m None) (owner_among members owner m)

-- What noting the owners asks for: the groups, as the bytes of a groups call.
pub record Notable (groups : List (List ℕ)) (bytes : List ℕ) (count : ℕ) : Type 0 where
  pub bytes-are : bytes ≡ group_bytes groups
  pub count-is : count ≡ length groups
  pub count_most : count ≤ module_limit
  pub members-below : EachBelow module_limit groups

-- An array shows the owner of each module.
pub record OwnersShown (groups : List (List ℕ)) (owners : List (Option ℕ)) : Type 0 where
  pub size : length owners ≡ module_limit
  pub shown : (m : ℕ) → m < module_limit → get_or owners m None ≡ owner_in groups m

-- What finding the keys of needs asks for: the sections of an accepted project, and the owners of its modules.
pub record Owned (p : Project) (groups : List (List ℕ)) (items needs : List ℕ) (owners : List (Option ℕ)) : Type 0 where
  pub accepted : Accepted p
  pub items-are : p.items ≡ pair_rows item_row items
  pub needs-are : p.needs ≡ need_rows needs
  pub owners-shown : OwnersShown groups owners
  pub groups-most : length groups ≤ module_limit

-- the owner of an item's row, from the arrays
abbrev pub owner_at : List ℕ → List (Option ℕ) → ℕ → Option ℕ
owner_at items owners row = get_or owners (get_or items (2 * row) 0) None

-- The bytes that it is read from are there.
pub record RowRoom (items : List ℕ) (owners : List (Option ℕ)) (row : ℕ) : Type 0 where
  pub item : 2 * row + 2 ≤ length items
  pub module-below : get_or items (2 * row) 0 < length owners
