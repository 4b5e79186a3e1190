use Rattle.rules.specs.Project.{module_limit}
use Rattle.owners.specs.GroupBytes.{groups_whole, groups_lists}
use Rattle.owners.specs.OwnerLaws.{none-owned, noting-start, noting-below, noting-first, noting-done}
use Rattle.owners.proofs.Owners.new.Goals as goal

pub new-members-items-requires : goal.new-members-items-requires
new-members-items-requires c = rw c.requires.1.bytes-are (groups_whole c.requires.0)

pub loop-members-init : goal.loop-members-init
loop-members-init c = (
  tt,
  tt,
  λ groups n.
      rw (c.into_iter-members-iterator.ensures.into_iter_gives, c.new-members-items.ensures, n.bytes-are, groups_lists groups)
      (noting-start n (none-owned module_limit)),
)

pub note_members-requires : goal.note_members-requires
note_members-requires c = noting-below (c.loop-members.invariant.2 c.requires.0 c.requires.1) c.in-Some.ensures.steps

pub loop-members-preserved : goal.loop-members-preserved
loop-members-preserved c = (
  tt,
  tt,
  λ groups n. noting-first (c.loop-members.invariant.2 groups n) c.in-Some.ensures.steps c.note_members.ensures,
)

pub returns : goal.returns
returns c = λ groups n. noting-done (c.loop-members.invariant.2 groups n) c.in-None.ensures.steps.0 c.loop-members.owners.size
