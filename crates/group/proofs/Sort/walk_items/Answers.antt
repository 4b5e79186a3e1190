-- `Sort::walk_items` meets its contract. Assumes nothing.
use Rattle.std.proofs.Common.{arith, rules}
use Rattle.rules.specs.Items.{Group, item_start}
use Rattle.walks.specs.Runs.{was_crowded}
use Rattle.walks.specs.RunLaws.{ran-as}
use Rattle.stmt.specs.Walks.{Startable}
use Rattle.stmt.specs.WalkLaws.{walking-start}
use Rattle.group.specs.Walking.{Walkable}
use Rattle.group.specs.WalkingLaws.{startable}
use Rattle.group.proofs.Sort.walk_items.Given.{Over}
use Rattle.group.proofs.Sort.walk_items.Goals as goal
use Rattle.group.proofs.Sort.walk_items.Goals.{Else-first_len}

-- the first list fits
starts : (g : Over) (c : Else-first_len g) {h walked : Group} → Walkable h walked c.args.self.now.group
    → Startable h c.args.self.now.group g.row.ENTRIES
starts g c {h} able = startable able (omega (arith, c.if-first_len.false, c.first_len.ensures h able.listable))

pub returns-then-first_len-clause-ran : goal.returns-then-first_len-clause-ran
returns-then-first_len-clause-ran g c =
    λ h walked able. was_crowded (omega (arith, c.if-first_len.true, c.first_len.ensures h able.listable, able.first-most))

pub new-start-requires : goal.new-start-requires
new-start-requires g c =
    let known = c.requires in
    (search rules, (search rules, (known.0, starts g (goal.at.new-start-requires g c).Else-first_len known.2)))

pub run-requires : goal.run-requires
run-requires g c =
    let known = c.requires in
    let start = starts g (goal.at.run-requires g c).Else-first_len known.2 in
    (search rules, (search rules, (known.0, item_start known.0, walking-start known.2.laid (c.new-start.ensures.shows known.0 start))))

pub returns-clause-ran : goal.returns-clause-ran
returns-clause-ran g c =
    λ h walked able.
    let start = starts g (goal.at.returns-clause-ran g c).Else-first_len able in
    rw (← able.first)
    (ran-as (λ _ _ k. k) (λ _ k. k.crowded.0)
    (c.run.ensures h walked _ able.same (walking-start able.laid (c.new-start.ensures.shows h start))))
