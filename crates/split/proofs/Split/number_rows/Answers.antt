use Rattle.std.proofs.Common.{arith, refl, sym, ap, ◌∙◌, ◌≡◌, ◌<◌, length, true}
use Rattle.rules.specs.Project.{Project, item_limit}
use Rattle.rules.specs.Items.{kind_at}
use Rattle.project.specs.declared.sections.ItemRow.{ItemRow}
use Rattle.split.specs.Rows.{RowsOf, kept_as}
use Rattle.split.specs.RowLaws.{kind-read, row-room}
use Rattle.split.specs.SplitLaws.{numbering-start, numbering-below, numbering-room, numbering-one, numbering-past, numbering-rows, numbering-kinds}
use Rattle.split.proofs.Split.number_rows.Goals as goal
use Rattle.split.proofs.Split.number_rows.Goals.{In-Some, After-is_kept_as}

pub loop-row-init : goal.loop-row-init
loop-row-init c =
    let s = c.args.self.now in
    rw (c.into_iter-row-iterator.ensures.into_iter_gives, c.rows_of-row-items.ensures.next, c.rows_of-row-items.ensures.entry) (
      tt,
      tt,
      record { low = refl; high = refl; starts = refl; modules = refl; uninjected = refl },
      λ p h. rw h.along (numbering-start p c.args.m.0 c.args.injected c.args.items.now h s),
    )

-- the row is one of the items, and fits 16 bits
below : (c : In-Some) → c.in-Some.row < length c.requires.0.items
below c = numbering-below c.requires.0 c.args.m.0 c.args.injected (c.loop-row.invariant.3 c.requires.0 c.requires.1) c.in-Some.row _ c.in-Some.ensures.steps

pub nth-requires : goal.nth-requires
nth-requires c = row-room c.requires.1 c.in-Some.row (below (goal.at.nth-requires c).In-Some)

-- whether it is kept as asked
test : (c : After-is_kept_as) {p : Project} → RowsOf p c.args.m.0 c.args.items.now → c.in-Some.row < length p.items → kept_as c.args.injected (kind_at p c.in-Some.row) ≡ c.is_kept_as.result
test c h k =
    ap (kept_as c.args.injected) (kind-read h c.in-Some.row k ∙ sym (ap (λ (r : ItemRow). r.kind.0) c.nth.ensures)) ∙ sym c.is_kept_as.ensures

-- then there is room for one more
room : (c : After-is_kept_as) → c.is_kept_as.result ≡ true → c.loop-row.n < item_limit
room c kept =
    let a = c.loop-row.invariant.3 c.requires.0 c.requires.1 in
    let k = numbering-below c.requires.0 c.args.m.0 c.args.injected a c.in-Some.row _ c.in-Some.ensures.steps in
    numbering-room c.requires.0 c.args.m.0 c.args.injected a c.in-Some.row _ c.in-Some.ensures.steps (test c c.requires.1 k ∙ kept) c.requires.3

pub overflow_cast-self : goal.overflow_cast-self
overflow_cast-self c = omega (arith, below (goal.at.overflow_cast-self c).In-Some, c.requires.1.most)

pub bounds-self-n : goal.bounds-self-n
bounds-self-n c = room (goal.at.bounds-self-n c).After-is_kept_as c.if-is_kept_as.true

pub bounds-self-n-then-is_kept_as : goal.bounds-self-n-then-is_kept_as
bounds-self-n-then-is_kept_as c = room (goal.at.bounds-self-n-then-is_kept_as c).After-is_kept_as c.if-is_kept_as.true

pub loop-row-preserved-then-is_kept_as : goal.loop-row-preserved-then-is_kept_as
loop-row-preserved-then-is_kept_as c =
    let same = c.loop-row.invariant.2 in
    let at_test = (goal.at.loop-row-preserved-then-is_kept_as c).After-is_kept_as in (
      tt,
      tt,
      record { low = same.low; high = same.high; starts = same.starts; modules = same.modules; uninjected = same.uninjected },
      λ p h.
          let a = c.loop-row.invariant.3 p h in
          let k = numbering-below p c.args.m.0 c.args.injected a c.in-Some.row _ c.in-Some.ensures.steps in
          numbering-one p c.args.m.0 c.args.injected a c.in-Some.row _ c.in-Some.ensures.steps (test at_test h k ∙ c.if-is_kept_as.true)
          (kind-read h c.in-Some.row k ∙ sym (ap (λ (r : ItemRow). r.kind.0) c.nth.ensures)),
    )

pub loop-row-preserved : goal.loop-row-preserved
loop-row-preserved c = (
  tt,
  tt,
  c.loop-row.invariant.2,
  λ p h.
      let a = c.loop-row.invariant.3 p h in
      let k = numbering-below p c.args.m.0 c.args.injected a c.in-Some.row _ c.in-Some.ensures.steps in
      numbering-past p c.args.m.0 c.args.injected a c.in-Some.row _ c.in-Some.ensures.steps
      (test (goal.at.loop-row-preserved c).After-is_kept_as h k ∙ c.if-is_kept_as.false),
)

pub invariant_of-self-2 : goal.invariant_of-self-2
invariant_of-self-2 c =
    let s = c.loop-row.self in
    let same = c.loop-row.invariant.2 in
    let end = (numbering-rows c.requires.0 c.args.m.0 c.args.injected (c.loop-row.invariant.3 c.requires.0 c.requires.1) c.in-None.ensures.steps.0).count in
    record { sizes = s.sizes; counts = (omega (arith, same.uninjected, c.args.self.now.counts, end), omega (arith, end, c.requires.3), s.counts.2) }

pub returns-clause-numbered : goal.returns-clause-numbered
returns-clause-numbered c =
    λ p h.
    let a = c.loop-row.invariant.3 p h in
    record {
      rows_stored = numbering-rows p c.args.m.0 c.args.injected a c.in-None.ensures.steps.0;
      kinds-stored = numbering-kinds p c.args.m.0 c.args.injected a c.in-None.ensures.steps.0;
    }
