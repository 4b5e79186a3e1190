use Rattle.std.proofs.Common.{arith, length-append, length-drop, length-take-le}
use Rattle.std.proofs.lemmas.List.{length-reverse}
use Rattle.chunk.specs.CircleLaws.{once-turned, below-turned, marks-turned}
use Rattle.chunk.proofs.gathered.Gathered.reverse.Goals as goal

pub invariant_of-self : goal.invariant_of-self
invariant_of-self c =
    let g = c.args.self.now in
    rw c.reverse.ensures.after
    (record {
      sizes = (simp (length-append, length-reverse, length-drop) (omega (arith, g.sizes, length-take-le g.count g.array (omega (arith, g.sizes)))), g.sizes.1);
      once = once-turned g;
      below = below-turned g;
      marks = marks-turned g;
    })
