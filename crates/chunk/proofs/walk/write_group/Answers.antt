use Rattle.std.proofs.Common.{arith, ◌+◌, length, length-set, set}
use Rattle.std.proofs.lemmas.Slice.{take-put_mid}
use Rattle.chunk.specs.WalkLaws.{group-written}
use Rattle.chunk.proofs.walk.write_group.Goals as goal

pub returns : goal.returns
returns c =
    let a = c.args in
    let n = length a.members.now in
    rw c.copy_from_slice.ensures.after
    (group-written a.groups.now _ a.members.now a.used (omega (arith, c.requires))
    (take-put_mid (a.used + 1) _ (set a.groups.now a.used n) a.members.now (a.used + 1 + n) (omega arith) (simp length-set (omega (arith, c.requires)))))
