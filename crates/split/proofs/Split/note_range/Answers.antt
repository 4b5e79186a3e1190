-- `Split::note_range` meets its contract. Assumes nothing.
use Rattle.std.proofs.Common.{arith, refl}
use Rattle.split.specs.StoreLaws.{part-filled}
use Rattle.split.proofs.Split.note_range.Goals as goal

pub returns-clause-noted : goal.returns-clause-noted
returns-clause-noted c =
    let s = c.args.self.now in
    record {
      low-whole = rw (c.fill.ensures.after (λ y e. e)) (part-filled s.low c.args.start s.count c.args.start c.requires.0 (omega (arith, s.sizes, s.counts)));
      high-whole = rw (c.fill-2.ensures.after (λ y e. e)) (part-filled s.high c.args.start s.count s.count c.requires.0 (omega (arith, s.sizes, s.counts)));
      starts-whole = refl;
      modules = refl;
    }
