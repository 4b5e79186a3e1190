-- What the functions of src/gathered.rt and src/circles.rt require and guarantee. Assumes nothing.
use Rattle.std.specs.Prelude.{ℕ, ◌≤◌, ◌<◌, ◌≡◌, true, false, not, List, length, take, drop}
use Rattle.rules.specs.Lists.{keep, up_from, append_new}
use Rattle.rules.specs.Project.{Project, module_limit, circle_lists, bad_circles}
use Rattle.rules.specs.Circles as rules
use Rattle.rules.specs.Circles.{following, listed_with, with_found, follow_members, follow_module}
use Rattle.rules.specs.Modules.{circle_of}
use Rattle.laws.specs.Counting.{Below}
use Rattle.laws.specs.Accepted.{Accepted}
use Rattle.lists.specs.Bits.{bit}
use Rattle.chunk.specs.Marks.{Marks}
use Rattle.chunk.specs.declared.gathered.Gathered.{Gathered}
use Rattle.chunk.specs.declared.circles.Following.{Following}

-- The modules gathered.
abbrev pub gathered_on : Gathered → List ℕ
gathered_on g = take g.count g.array

-- At least the modules from before are gathered, and what stands in the array beyond those gathered is as it was.
pub record Grows (before after : Gathered) : Type 0 where
  pub more : before.count ≤ after.count
  pub rest : drop after.count after.array ≡ drop after.count before.array

-- The modules of a list are appended to those gathered, each once.
pub record Appended (before after : Gathered) (list : List ℕ) : Type 0 where
  pub front : gathered_on after ≡ append_new (gathered_on before) list
  pub grows : Grows before after

-- The members of every list of the section that holds m are gathered.
abbrev pub Listed : List ℕ → ℕ → Gathered → Type 0
Listed section m r = gathered_on r ≡ listed_with (circle_lists section) m

-- The modules that are not noted, and how many they are: the measure of following.
unfoldable pub unnoted : ℕ → List ℕ
unnoted noted = keep (λ j. not (bit noted j)) (up_from 0 module_limit)

abbrev pub unfollowed : ℕ → ℕ
unfollowed noted = length (unnoted noted)

-- A state of the code represents one of the definition: the modules gathered, and those noted in some order.
pub record Represents (s : Following) (f : rules.Following) : Type 0 where
  pub list : List ℕ
  pub same : f ≡ following (gathered_on s.gathered) list
  pub marks : Marks s.noted list

-- Following gives what the definition does: at every depth that suffices for the modules not noted, and whatever the order of those noted before.
pub record Follows (result : ℕ → List ℕ → rules.Following) (s r : Following) : Type 0 where
  pub represents : (depth : ℕ) (noted : List ℕ) → unfollowed s.noted ≤ depth → Marks s.noted noted → Represents r (result depth noted)
  pub keeps : (j : ℕ) → bit s.noted j ≡ true → bit r.noted j ≡ true

-- What the definition makes of following a module, and of following members, with those gathered before.
abbrev pub module_followed : List ℕ → ℕ → List ℕ → ℕ → List ℕ → rules.Following
module_followed section m gathered depth noted = with_found gathered (follow_module depth (circle_lists section) m noted)

abbrev pub members_followed : List ℕ → List ℕ → List ℕ → ℕ → List ℕ → rules.Following
members_followed section members gathered depth noted =
    follow_members (follow_module depth (circle_lists section)) members (following gathered noted)

abbrev pub FollowsModule : List ℕ → ℕ → Following → Following → Type 0
FollowsModule section m s r = Follows (module_followed section m (gathered_on s.gathered)) s r

abbrev pub FollowsMembers : List ℕ → List ℕ → Following → Following → Type 0
FollowsMembers section members s r = Follows (members_followed section members (gathered_on s.gathered)) s r

-- A module that can be followed, and members of which those that are not noted can be.
pub record ModuleReady (section : List ℕ) (m : ℕ) (s : Following) : Type 0 where
  pub sound : bad_circles module_limit 0 section ≡ false
  pub below : m < module_limit
  pub to-follow : bit s.noted m ≡ false

pub record MembersReady (section members : List ℕ) : Type 0 where
  pub sound : bad_circles module_limit 0 section ≡ false
  pub below : Below module_limit members

-- A module whose circle can be gathered.
pub record CircleReady (section : List ℕ) (m : ℕ) : Type 0 where
  pub sound : bad_circles module_limit 0 section ≡ false
  pub below : m < module_limit

-- What is gathered is the circle of m in every accepted project that has the section's lists, m being one of its modules.
abbrev pub CircleGathered : List ℕ → ℕ → Gathered → Type 0
CircleGathered section m r = (p : Project) → Accepted p → p.circles ≡ circle_lists section → m < p.modules → gathered_on r ≡ circle_of p m
