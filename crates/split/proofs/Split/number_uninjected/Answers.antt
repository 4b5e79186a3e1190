use Rattle.std.proofs.Common.{refl, arith, ◌+◌, get_or, drop, drop_of_length-le}
use Rattle.laws.specs.Orders.{get_or-∈}
use Rattle.split.specs.SplitLaws.{numbered-parts, modules-left, modules-room, modules-step, modules-same, modules-end, ranges-room, ranges-step, low_stored, high-stored, starts-stored}
use Rattle.split.proofs.Split.number_uninjected.Goals as goal

-- The numbers of a module begin where those before it end,
-- and its range begins there.
pub number_rows-requires : goal.number_rows-requires
number_rows-requires c =
    let modules = c.args.modules.now in
    let i = c.loop-m.m-index in
    let p = c.requires.0 in
    let m = get_or-∈ modules i 0 c.loop-m-test.true in
    let at_head = c.loop-m.invariant p c.requires.1 c.requires.2 in (
      p,
      c.requires.1 _ m,
      c.requires.2.modules-below _ m,
      modules-room at_head.0 (get_or modules i 0) (drop (i + 1) modules) (modules-left modules i c.loop-m-test.true)
          (omega (arith, c.requires.2.numbering-most, numbered-parts p modules)),
    )

pub note_range-requires : goal.note_range-requires
note_range-requires c =
    let modules = c.args.modules.now in
    let i = c.loop-m.m-index in
    let p = c.requires.0 in
    let at_head = c.loop-m.invariant p c.requires.1 c.requires.2 in (
      omega (arith, (c.number_rows.ensures.numbered p (c.requires.1 _ (get_or-∈ modules i 0 c.loop-m-test.true))).rows_stored.count),
      omega (arith, ranges-room at_head.1 (get_or modules i 0) (drop (i + 1) modules) (modules-left modules i c.loop-m-test.true) c.requires.2.modules-most, c.number_rows.ensures.ranges.modules),
    )

pub loop-m-preserved : goal.loop-m-preserved
loop-m-preserved c =
    let modules = c.args.modules.now in
    let i = c.loop-m.m-index in
    let left = modules-left modules i c.loop-m-test.true in
    λ p h a.
    let at_head = c.loop-m.invariant p h a in
    let numbered = c.number_rows.ensures.numbered p (h _ (get_or-∈ modules i 0 c.loop-m-test.true)) in (
      modules-same c.note_range.ensures.numbers (modules-step at_head.0 (get_or modules i 0) (drop (i + 1) modules) left numbered),
      ranges-step at_head.1 (get_or modules i 0) (drop (i + 1) modules) left numbered c.number_rows.ensures.ranges c.note_range.ensures.noted c.note_range.ensures.numbers,
    )

pub returns : goal.returns
returns c =
    let modules = c.args.modules.now in
    let none = drop_of_length-le modules {i = c.loop-m.m-index} c.loop-m-test.false in
    λ p h a.
    let at_head = c.loop-m.invariant p h a in
    let numbered = modules-end at_head.0 none in
    record {
      rows_stored = numbered.rows_stored;
      kinds-stored = numbered.kinds-stored;
      low-stored = low_stored at_head.1 none;
      high-stored = high-stored at_head.1 none;
      starts-stored = starts-stored at_head.1 none;
      uninjected = refl;
    }
