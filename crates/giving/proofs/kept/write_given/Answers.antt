use Rattle.std.proofs.Common.{◌+◌, get_or, drop}
use Rattle.rules.specs.Items.{kept_rows_of, given_rows}
use Rattle.laws.specs.Orders.{get_or-∈}
use Rattle.split.specs.StoreLaws.{storing-more, storing-room-more, storing-end}
use Rattle.giving.specs.KeptLaws.{given-step, given-end}
use Rattle.giving.proofs.kept.write_given.Goals as goal

pub write_kept-n-requires : goal.write_kept-n-requires
write_kept-n-requires c =
    let p = c.requires.0 in
    let modules = c.args.modules.now in
    let i = c.loop-m.m-index in
    let m = get_or-∈ modules i 0 c.loop-m-test.true in (
      p,
      c.requires.1 _ m,
      c.requires.2 _ m,
      storing-room-more (c.loop-m.invariant p c.requires.1) (kept_rows_of p (get_or modules i 0)) (given_rows p (drop (i + 1) modules))
          (given-step p modules i c.loop-m-test.true) c.requires.3,
    )

pub loop-m-preserved : goal.loop-m-preserved
loop-m-preserved c =
    let modules = c.args.modules.now in
    let i = c.loop-m.m-index in
    λ p h.
    storing-more (c.loop-m.invariant p h) (kept_rows_of p (get_or modules i 0)) (given_rows p (drop (i + 1) modules)) (given-step p modules i c.loop-m-test.true)
    (c.write_kept-n.ensures p (h _ (get_or-∈ modules i 0 c.loop-m-test.true)))

pub returns : goal.returns
returns c = λ p h. storing-end (c.loop-m.invariant p h) (given-end p _ c.loop-m.m-index c.loop-m-test.false)
