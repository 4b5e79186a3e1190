use Rattle.std.proofs.Common.{◌≡◌, ◌+◌, ◌*◌, arith, add-one}
use Rattle.std.proofs.Math.Nat.{mul-suc}
use Rattle.keys.specs.TextLaws.{behind-more}
use Rattle.keys.proofs.text.Text.put_behind.Goals as goal

pub loop-n-preserved : goal.loop-n-preserved
loop-n-preserved g c =
    let most = g.N.Integer.MAX_STR_LEN + 1 in
    let i = c.loop-n.n-index in
    let step : most * (i + 1) ≡ most * i + most = rw (add-one i) (mul-suc most i) in (
      behind-more g.N.Integer.text c.args.self.now.bytes.items c.args.numbers.now i c.loop-n-test.true c.n-item.is c.loop-n.invariant.0
          c.put.ensures.text c.put_number.ensures.text,
      omega (arith, step, c.loop-n.invariant.1, c.put.ensures.size, c.put_number.ensures.most),
    )
