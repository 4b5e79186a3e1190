-- What the functions of this crate require and guarantee: sets of modules. Assumes nothing.
use Rattle.std.specs.Prelude.{ℕ, ◌<◌, ◌≡◌, Bool, not, ◌&&◌, List, reverse, eqb}
use Rattle.rules.specs.Lists.{is_empty, keep}
use Rattle.rules.specs.Project.{Item, Import, Project, module_limit}
use Rattle.rules.specs.Modules.{imports_of}
use Rattle.rules.specs.Items.{is_kept}
use Rattle.laws.specs.Lists.{◌∈◌, Once}
use Rattle.laws.specs.Counting.{Below}
use Rattle.lists.specs.Bits.{bit}
pub use Rattle.split.specs.Stored.{Stored}

-- Members of a group: modules, each once.
pub record Members (members : List ℕ) : Type 0 where
  pub once : Once members
  pub below : Below module_limit members

-- The modules that rows name first are numbers of modules.
abbrev pub ImportersBelow : List Import → Type 0
ImportersBelow rows = (i : Import) → i ∈ rows → i.importer < module_limit

abbrev pub ItemsBelow : List Item → Type 0
ItemsBelow rows = (i : Item) → i ∈ rows → i.in_module < module_limit

-- the tests on rows that sets of modules show
abbrev pub is_importer : ℕ → Import → Bool
is_importer m i = eqb m i.importer

abbrev pub is_giver : ℕ → Item → Bool
is_giver m i = eqb m i.in_module && is_kept i.kind

-- A set shows which modules import.
abbrev pub ImportersShown : Project → ℕ → Type 0
ImportersShown p importers = (m : ℕ) → bit importers m ≡ not (is_empty (imports_of p m))

-- the members of a group that are not used and give items, last first
abbrev pub giving_of : ℕ → ℕ → List ℕ → List ℕ
giving_of used givers members = keep (λ m. not (bit used m) && bit givers m) (reverse members)
