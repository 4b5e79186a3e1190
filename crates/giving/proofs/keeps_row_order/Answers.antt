-- `giving::keeps_row_order` meets its contract. Assumes nothing.
use native.Mathlib.Omega.{arith}
use mathlib.Core.Path.{sym}
use Rattle.giving.specs.SetLaws.{member_below, keeps-other, keeps-one}
use Rattle.giving.proofs.keeps_row_order.Goals as goal

pub returns-then-members-ne1 : goal.returns-then-members-ne1
returns-then-members-ne1 c =
    λ p s. sym (keeps-other p c.args.members.now c.if-members-ne1.true)

pub has-requires : goal.has-requires
has-requires c =
    member_below c.requires 0 (omega arith)

pub returns : goal.returns
returns c =
    λ p s. keeps-one p c.args.members.now c.args.importers c.if-members-ne1.false s c.has.ensures
