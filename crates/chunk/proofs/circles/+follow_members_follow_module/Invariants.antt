-- The cycle of calls {follow_members, follow_module} meets its contracts. Both are measured by the modules that are not noted, doubled: `follow_module`
-- notes one before it calls `follow_members`, which may call it with no more noted than it was given itself and so has a measure higher by one. The
-- invariant of the loop of `follow_members`: the members passed are followed. Assumes nothing.
use Rattle.std.proofs.Common.{◌+◌, ◌*◌, take}
use Rattle.chunk.specs.Circles.{unfollowed, FollowsMembers}
use Rattle.chunk.proofs.circles.+follow_members_follow_module.Given as goal

abbrev pub decreases-follow_members : goal.decreases-follow_members
decreases-follow_members l = 2 * unfollowed l.s.now.noted + 1

abbrev pub decreases-follow_module : goal.decreases-follow_module
decreases-follow_module l = 2 * unfollowed l.s.now.noted

abbrev pub invariant-follow_members-loop-member : goal.invariant-follow_members-loop-member
invariant-follow_members-loop-member l = FollowsMembers l.section (take l.member-index l.members) l.initial.s l.s
