use Rattle.std.proofs.Common.{arith, rules, sym, ap, ◌∙◌, ◌-◌, ◌/◌, ◌<◌, ◌≡◌, length, get_or}
use Rattle.rules.specs.Project.{module_limit}
use Rattle.lists.specs.ChainLaws.{link-none, link-turn}
use Rattle.project.specs.declared.sections.ItemRow.{ItemRow}
use Rattle.split.specs.Rows.{modules_in}
use Rattle.split.proofs.RowChainLaws.{module-at, modules-length, rows-count, module-below, rows-along, rows-linked}
use Rattle.split.proofs.rows.ItemRows.new.Goals as goal
use Rattle.split.proofs.rows.ItemRows.new.Goals.{After-nth}

pub loop-row-init : goal.loop-row-init
loop-row-init c = link-none (modules_in c.args.section.now) (length c.args.section.now / 2) _ _

-- the key of the row, its module
key : (c : After-nth) → get_or (modules_in c.args.section.now) (c.loop-row.row - 1) 0 ≡ c.nth.result.in_module.0
key c = module-at c.args.section.now (c.loop-row.row - 1) (omega arith) ∙ sym (ap (λ (r : ItemRow). r.in_module.0) c.nth.ensures)

below : (c : After-nth) → get_or (modules_in c.args.section.now) (c.loop-row.row - 1) 0 < module_limit
below c = module-below c.requires.0 c.args.section.now c.requires.1 c.requires.2 (c.loop-row.row - 1) (omega arith)

pub put_first-requires : goal.put_first-requires
put_first-requires c =
    let at_head = (goal.at.put_first-requires c).After-nth in
    let few = rows-count c.requires.0 c.args.section.now c.requires.1 c.requires.2 in
    (search rules, (omega (arith, c.from.ensures, key at_head, below at_head), ((omega arith, omega arith), λ some. omega (arith, (c.loop-row.invariant.heads-onward c.from.result (c.new-chains.ensures.heads _)).0 some))))

pub loop-row-preserved : goal.loop-row-preserved
loop-row-preserved c =
    let at_head = (goal.at.loop-row-preserved c).After-nth in
    let few = rows-count c.requires.0 c.args.section.now c.requires.1 c.requires.2 in
    let section = c.args.section.now in
    let chains = c.loop-row.chains in
    let same : c.from.result ≡ get_or (modules_in section) (c.loop-row.row - 1) 0 = omega (arith, c.from.ensures, key at_head, below at_head) in
    rw (c.put_first.ensures.heads, c.put_first.ensures.next, same)
    (link-turn (modules_in section) _ _ chains.heads chains.next (length section / 2) c.loop-row.row
    c.loop-row-test.true (omega arith) (omega (arith, modules-length section)) (omega (arith, chains.sizes)) (omega (arith, below at_head, chains.sizes))
    (c.new-chains.ensures.heads _) c.loop-row.invariant)

pub returns-clause-linked : goal.returns-clause-linked
returns-clause-linked c =
    let fresh = c.new-chains in
    let none : c.loop-row.row ≡ 0 = omega arith in
    rows-linked c.args.section.now (record { size = search rules; zeros = fresh.ensures.heads }) (record { size = search rules; zeros = λ i. grind (arith, fresh.ensures.next i) }) (rw none at c.loop-row.invariant)

pub returns-clause-shown : goal.returns-clause-shown
returns-clause-shown c =
    λ p a whole.
    record {
      section = whole;
      most = a.items-most;
      along =
          λ m h.
          let few = rows-count p c.args.section.now a whole in
          let none : c.loop-row.row ≡ 0 = omega arith in
          rows-along p c.args.section.now _ _ c.loop-row.chains.heads c.loop-row.chains.next whole (rw none at c.loop-row.invariant)
          (omega (arith, c.loop-row.chains.sizes)) m (omega (arith, c.loop-row.chains.sizes)) (c.new-chains.ensures.heads m);
    }
