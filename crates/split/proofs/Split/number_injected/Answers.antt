use Rattle.std.proofs.Common.{ℕ, ◌≡◌, arith, ap₂, ◌∙◌, ◌+◌, ◌-◌, true, length, get_or, drop, drop_of_length-le, replicate, List}
use Rattle.std.proofs.lemmas.List.{length-replicate}
use Rattle.std.proofs.lemmas.List.Edits.{sets}
use Rattle.laws.specs.Orders.{get_or-∈}
use Rattle.split.specs.Rows.{numbered_as}
use Rattle.split.specs.StoreLaws.{part-filled}
use Rattle.split.specs.SplitLaws.{modules-left, modules-room, modules-step, modules-end}
use Rattle.split.proofs.Split.number_injected.Goals as goal

pub number_rows-requires : goal.number_rows-requires
number_rows-requires c =
    let modules = c.args.modules.now in
    let i = c.loop-m.m-index in
    let p = c.requires.0 in
    let m = get_or-∈ modules i 0 c.loop-m-test.true in (
      p,
      c.requires.1 _ m,
      c.requires.2.modules-below _ m,
      modules-room (c.loop-m.invariant.2 p c.requires.1) (get_or modules i 0) (drop (i + 1) modules) (modules-left modules i c.loop-m-test.true) c.requires.3,
    )

pub loop-m-preserved : goal.loop-m-preserved
loop-m-preserved c =
    let modules = c.args.modules.now in
    let i = c.loop-m.m-index in
    let same = c.loop-m.invariant.1 in
    let m = get_or-∈ modules i 0 c.loop-m-test.true in
    let again = c.number_rows.ensures.ranges in (
      omega (arith, c.loop-m.invariant.0, (c.number_rows.ensures.numbered c.requires.0 (c.requires.1 _ m)).rows_stored.count),
      record {
        low = again.low ∙ same.low;
        high = again.high ∙ same.high;
        starts = again.starts ∙ same.starts;
        modules = again.modules ∙ same.modules;
        uninjected = again.uninjected ∙ same.uninjected;
      },
      λ p h.
          modules-step (c.loop-m.invariant.2 p h) (get_or modules i 0) (drop (i + 1) modules) (modules-left modules i c.loop-m-test.true)
          (c.number_rows.ensures.numbered p (h _ m)),
    )

pub returns : goal.returns
returns c =
    let s = c.args.self.now in
    let t = c.loop-m.self in
    let same = c.loop-m.invariant.1 in
    let modules = c.args.modules.now in
    λ p h a.
    let numbered = modules-end (c.loop-m.invariant.2 p h) (drop_of_length-le modules {i = c.loop-m.m-index} c.loop-m-test.false) in
    let count : ℕ = length (numbered_as true p modules) in
    let end : t.count ≡ s.count + count = numbered.rows_stored.count in
    let size : t.count - s.count ≡ count = omega arith in
    let all : t.count ≡ s.count + length {A = ℕ} (replicate count 0) = omega (arith, length-replicate {A = ℕ} count 0) in
    record {
      numbered = record { rows_stored = numbered.rows_stored; kinds-stored = numbered.kinds-stored };
      low-stored =
          record {
            whole =
                rw (c.fill.ensures.after (λ y e. e)) (part-filled t.low s.count t.count 0 (omega arith) (omega (arith, t.sizes, t.counts)))
                ∙ ap₂ (λ (l : List ℕ) (k : ℕ). sets l s.count (replicate k 0)) same.low size;
            count = all;
          };
      high-stored =
          record {
            whole =
                rw (c.fill-2.ensures.after (λ y e. e)) (part-filled t.high s.count t.count 0 (omega arith) (omega (arith, t.sizes, t.counts)))
                ∙ ap₂ (λ (l : List ℕ) (k : ℕ). sets l s.count (replicate k 0)) same.high size;
            count = all;
          };
      starts = same.starts;
      modules-same = same.modules;
      uninjected = same.uninjected;
    }
