-- `giving_modules` meets its contract. Assumes nothing.
use Rattle.std.proofs.Common.{arith, sym, ap, ◌∙◌, ◌≡◌, ◌∷◌, ◌++◌, length, reverse, append_assoc, append-nil, length-append}
use Rattle.rules.specs.Lists.{keep}
use Rattle.rules.specs.Project.{module_limit}
use Rattle.laws.specs.Lists.{∈-left, ∈-right, ∈-self}
use Rattle.laws.specs.Counting.{Below, below_length}
use Rattle.giving.specs.Giving.{giving_of}
use Rattle.giving.specs.StoreLaws.{kept-taken, kept-passed, kept-none, kept-most}
use Rattle.giving.proofs.giving_modules.Invariants.{test}
use Rattle.giving.proofs.giving_modules.Goals as goal
use Rattle.giving.proofs.giving_modules.Goals.{In-Some, Then-gives}

-- the member and those before it are modules
pub gives-requires : goal.gives-requires
gives-requires c = c.loop-m.invariant.2 _ (rw c.in-Some.ensures.steps (∈-right _ ∈-self))

before : (c : In-Some) → Below module_limit c.next.new.self.iter.rest.now
before c x h = c.loop-m.invariant.2 x (rw c.in-Some.ensures.steps (∈-left _ h))

-- it comes next
whole : (c : Then-gives) → c.loop-m.modules.items ++ (c.in-Some.field-0.now ∷ keep (test c.args.used c.args.givers) (reverse c.next.new.self.iter.rest.now))
    ≡ giving_of c.args.used c.args.givers c.args.members.now
whole c = rw (kept-taken (test c.args.used c.args.givers) _ _ c.in-Some.ensures.steps (sym c.gives.ensures ∙ c.if-gives.true)) at c.loop-m.invariant.3

-- there is room for it
pub push-requires : goal.push-requires
push-requires c =
    let all = whole (goal.at.push-requires c).Then-gives in
    let few = kept-most (test c.args.used c.args.givers) c.args.members.now in
    let most = below_length c.requires.once c.requires.below in
    (omega arith, omega (arith, ap length all, length-append c.loop-m.modules.items (c.in-Some.field-0.now ∷ keep (test c.args.used c.args.givers) (reverse c.next.new.self.iter.rest.now))))

pub loop-m-preserved-then-gives : goal.loop-m-preserved-then-gives
loop-m-preserved-then-gives c = (
  tt,
  tt,
  before (goal.at.loop-m-preserved-then-gives c).In-Some,
  rw (c.push.ensures.items, append_assoc) (whole (goal.at.loop-m-preserved-then-gives c).Then-gives),
)

pub loop-m-preserved : goal.loop-m-preserved
loop-m-preserved c = (
  tt,
  tt,
  before (goal.at.loop-m-preserved c).In-Some,
  rw (kept-passed (test c.args.used c.args.givers) _ _ c.in-Some.ensures.steps (sym c.gives.ensures ∙ c.if-gives.false)) at c.loop-m.invariant.3,
)

pub returns : goal.returns
returns c = rw (kept-none (test c.args.used c.args.givers) _ c.in-None.ensures.steps.0, append-nil) at c.loop-m.invariant.3
