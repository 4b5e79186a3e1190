-- `Sort::sort_stmts` meets its contract. Assumes nothing.
use Rattle.std.proofs.Common.{rules}
use Rattle.std.proofs.lemmas.Result.{err_from_is_err_and}
use Rattle.rules.specs.Items.{group_of}
use Rattle.split.specs.Splits.{Splits}
use Rattle.group.specs.Walking.{asked_group}
use Rattle.group.specs.WalkingLaws.{asked-own, along-own, room_own, walks-on}
use Rattle.group.specs.SortLaws.{sorts, sort-stopped}
use Rattle.group.proofs.Sort.sort_stmts.Goals as goal

pub lay_needs-requires : goal.lay_needs-requires
lay_needs-requires g c =
    let known = c.requires.1 in
    let numbered = c.number_items.ensures.numbered c.requires.0 known.numberable in
    let asked = c.asked-asked.ensures in (
      search rules,
      (numbered.noted, ((asked-own known numbered asked.next asked.entry).own, along-own known numbered asked.next asked.entry, room_own known numbered asked.next asked.entry)),
    )

pub walk_items-requires : goal.walk_items-requires
walk_items-requires g c =
    let p = c.requires.0 in
    let modules = c.args.modules.now in
    let known = c.requires.1 in
    let numbered = c.number_items.ensures.numbered p known.numberable in
    let asked = c.asked-asked.ensures in
    let laid = c.lay_needs.ensures in (
      search rules,
      (
        asked_group p modules (asked-own known numbered asked.next asked.entry).own,
        group_of p modules,
        walks-on known numbered asked.next asked.entry laid.split laid.nodes laid.laid,
      ),
    )

pub returns-in_err-made : goal.returns-in_err-made
returns-in_err-made g c =
    let e = err_from_is_err_and c.from_residual.result c.from_residual.ensures.1 in
    let asked = c.asked-asked.ensures in
    let laid = c.lay_needs.ensures in
    λ p h.
    let numbered = c.number_items.ensures.numbered p h.numberable in
    let able = walks-on h numbered asked.next asked.entry laid.split laid.nodes laid.laid in
    let splits : Splits p c.args.modules.now c.walk_items.new.self.group.split = rw (c.walk_items.ensures.group, laid.split) numbered.splits in
    rw (e.1, e.2) (sort-stopped c.walk_items.new.self h.numberable splits _ _ (rw (← c.walk_items.ensures.group) at (c.in_err-made.ensures.ran _ _ able)))

pub returns : goal.returns
returns g c =
    let asked = c.asked-asked.ensures in
    let laid = c.lay_needs.ensures in
    λ p h.
    let numbered = c.number_items.ensures.numbered p h.numberable in
    let walkable = walks-on h numbered asked.next asked.entry laid.split laid.nodes laid.laid in
    let splits : Splits p c.args.modules.now c.walk_items.new.self.group.split = rw (c.walk_items.ensures.group, laid.split) numbered.splits in
    sorts c.walk_items.new.self h.numberable splits _ _ (rw (← c.walk_items.ensures.group) at (c.in_ok-made.ensures.ran _ _ walkable))
