-- `order_of` meets its contract. Assumes nothing.
use Rattle.std.specs.Prelude.{◌/◌, ◌≤◌, length}
use Rattle.rules.specs.Project.{section}
use Rattle.sort.specs.OrderLaws.{order-answers-short, ready, order-answers-long}
use Rattle.sort.proofs.order_of.Goals as goal
use Rattle.sort.proofs.order_of.Goals.{Else-reply-items}

room : (c : Else-reply-items) → length (section c.args.project.bytes.now 0) / 2 ≤ length c.args.reply.now
room c = rw c.items.ensures at c.if-reply-items.false

pub returns-then-reply-items : goal.returns-then-reply-items
returns-then-reply-items c =
    let short = rw c.items.ensures at c.if-reply-items.true in
    rw (c.refusal.ensures, c.into.ensures) (order-answers-short c.args.project.bytes.now c.args.allowance c.args.reply.now short)

pub sort_found-requires : goal.sort_found-requires
sort_found-requires c =
    let long = room (goal.at.sort_found-requires c).Else-reply-items in
    record {
      ready = ready c.args.project.bytes.now c.args.allowance c.args.reply.now c.args.project.accepts.reads long c.requires;
      size = c.find_groups-found.new.arrays.sizes.1;
      ran = c.find_groups-found.ensures;
    }

pub returns : goal.returns
returns c =
    order-answers-long c.args.project.bytes.now c.args.allowance c.args.reply.now (room (goal.at.returns c).Else-reply-items) c.sort_found.ensures
