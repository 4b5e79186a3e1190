-- `groups_of` meets its contract. Assumes nothing.
use Rattle.std.specs.Prelude.{◌+◌, ◌*◌, ◌≤◌, length}
use Rattle.sort.specs.GroupLaws.{answerable, answers-short, answers-long}
use Rattle.sort.proofs.groups_of.Goals as goal
use Rattle.sort.proofs.groups_of.Goals.{Else-reply-m}

room : (c : Else-reply-m) → c.args.project.l.modules * (c.args.project.l.modules + 1) ≤ length c.args.reply.now
room c = rw c.from-m.ensures at c.if-reply-m.false

pub returns-then-reply-m : goal.returns-then-reply-m
returns-then-reply-m c =
    let short = rw c.from-m.ensures at c.if-reply-m.true in
    rw (c.refusal.ensures, c.into.ensures) (answers-short c.args.project.bytes.now c.args.project.accepts c.args.allowance c.args.reply.now short)

pub give_groups-requires : goal.give_groups-requires
give_groups-requires c =
    let long = room (goal.at.give_groups-requires c).Else-reply-m in
    (_, answerable c.args.project.bytes.now c.args.project.accepts c.args.allowance c.find_groups-found.new.arrays.sizes.1 long c.find_groups-found.ensures)

pub returns : goal.returns
returns c =
    let long = room (goal.at.returns c).Else-reply-m in
    answers-long c.args.project.bytes.now c.args.project.accepts c.args.allowance long
    (c.give_groups.ensures _
    (answerable c.args.project.bytes.now c.args.project.accepts c.args.allowance c.find_groups-found.new.arrays.sizes.1 long c.find_groups-found.ensures))
