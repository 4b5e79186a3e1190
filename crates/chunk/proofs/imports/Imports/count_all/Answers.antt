-- `Imports::count_all` meets its contract: the members' counts are summed. Assumes nothing.
use Rattle.std.proofs.Common.{rules, tests, arith, ℕ, ◌<◌, length, ◌∙◌}
use Rattle.std.proofs.lemmas.Iterator.{YieldsList-from_slice, YieldsList-from_map}
use Rattle.std.proofs.lemmas.Iterator.Adapters.{serves_from_places}
use Rattle.std.proofs.lemmas.Iterator.Consumers.{sum_by_from_yields_List, fits_by_from_yields_list}
use Rattle.rules.specs.Project.{module_limit}
use Rattle.laws.specs.Orders.{get_or-∈}
use Rattle.chunk.specs.Imports.{open_of}
use Rattle.chunk.proofs.ImportLaws.{members-most, members-sum}
use Rattle.chunk.proofs.imports.Imports.count_all.Goals as goal

pub sum-requires-clause-can : goal.sum-requires-clause-can
sum-requires-clause-can c = (
  tt,
  serves_from_places (YieldsList-from_slice c.args.members.now cc) (λ x q k. search (rules, tests))
      (λ x k h e. let below : x.now < module_limit = omega (arith, e, c.requires.below _ (get_or-∈ c.args.members.now k x.now h)) in search rules),
)

pub sum-requires-clause-fits : goal.sum-requires-clause-fits
sum-requires-clause-fits c =
    let a = c.args in
    let set = a.circle in
    let count : ℕ → ℕ = λ m. length (open_of a.self.now a.done set m) in
    fits_by_from_yields_list count a.members.now c.map.result _
    (YieldsList-from_map _ count (YieldsList-from_slice a.members.now cc) c.map.ensures.closure (λ x r q k. search (rules, tests)))
    (omega (arith, members-sum a.self.now a.done set a.members.now, members-most a.self.now a.done set a.members.now c.requires.most))

pub returns : goal.returns
returns c =
    let a = c.args in
    let count : ℕ → ℕ = λ m. length (open_of a.self.now a.done a.circle m) in
    sum_by_from_yields_List count a.members.now c.map.result _ c.sum.ensures.ran
    (YieldsList-from_map _ count (YieldsList-from_slice a.members.now cc) c.map.ensures.closure (λ x r q k. search (rules, tests)))
    ∙ members-sum a.self.now a.done a.circle a.members.now
