-- Laws of the item rows chained by their modules. Assumes nothing.
use Rattle.std.specs.Prelude.{ℕ, suc, ◌*◌, ◌/◌, ◌≤◌, ◌<◌, ◌≡◌, refl, Bool, List, [], ◌∷◌, map, eqb, length, get_or, replicate}
use Rattle.std.proofs.Common.{arith, sym, ap, ◌∙◌, take_all}
use Rattle.std.proofs.lemmas.List.{length-map}
use Rattle.rules.specs.Lists.{positions_from}
use Rattle.rules.specs.Project.{Item, Project, module_limit, item_limit, item_row, pair_rows}
use Rattle.rules.specs.Items.{no_item}
use Rattle.laws.specs.Accepted.{Accepted}
use Rattle.laws.specs.Orders.{get_or-∈, get_d_map}
use Rattle.lists.specs.Arrays.{Zeros}
use Rattle.lists.specs.ArrayLaws.{zeros-whole}
use Rattle.lists.specs.Chained.{places}
use Rattle.lists.specs.ChainLaws.{chain_same}
use Rattle.lists.specs.Pairs.{Linked}
use Rattle.project.specs.RowLaws.{pairs-length}
pub use Rattle.split.specs.Rows.{modules_in}
use Rattle.split.specs.Rows.{module_rows}
use Rattle.split.specs.RowLaws.{pair-at}

pub modules-length : (section : List ℕ) → length (modules_in section) ≡ length section / 2
modules-length section = length-map (pair_rows item_row section) (λ (i : Item). i.in_module) ∙ pairs-length item_row section

-- The module of row i is byte 2 * i.
pub module-at : (section : List ℕ) (i : ℕ) → i < length section / 2 → get_or (modules_in section) i 0 ≡ get_or section (2 * i) 0
module-at section i h =
    let k : i < length (pair_rows item_row section) = omega (arith, pairs-length item_row section) in
    get_d_map (λ (i : Item). i.in_module) (pair_rows item_row section) i no_item 0 k ∙ ap (λ (i : Item). i.in_module) (pair-at item_row no_item section i k)

module _ (p : Project) (section : List ℕ) (a : Accepted p) (whole : p.items ≡ pair_rows item_row section) where
  pub rows-count : length section / 2 ≤ item_limit
  rows-count = omega (arith, ap length whole, pairs-length item_row section, a.items-most)

  pub module-below : (i : ℕ) → i < length section / 2 → get_or (modules_in section) i 0 < module_limit
  module-below i h =
      let k : i < length p.items = omega (arith, ap length whole, pairs-length item_row section) in
      let row : get_or (modules_in section) i 0 ≡ (get_or p.items i no_item).in_module =
      sym (ap (λ (l : List Item). get_or (map (λ (i : Item). i.in_module) l) i 0) whole) ∙ get_d_map (λ (i : Item). i.in_module) p.items i no_item 0 k in
      omega (arith, (a.item-rows (get_or p.items i no_item) (get_or-∈ p.items i no_item k)).module-below, a.modules-most)

-- Positions in a list, by what a function gives for its entries.
positions-map : (f : Item → ℕ) (test : ℕ → Bool) (n : ℕ) (l : List Item) → positions_from n test (map f l) ≡ positions_from n (λ (i : Item). test (f i)) l
unfolding positions_from
positions-map f test n [] = refl
positions-map f test n (x ∷ l) = rw (positions-map f test (suc n) l)

-- With all rows linked each module's are along its chain.
module _ (p : Project) (section heads₀ next₀ heads next : List ℕ) (whole : p.items ≡ pair_rows item_row section)
    (l : Linked 0 (modules_in section) (length section / 2) heads₀ next₀ heads next) (most : length section / 2 ≤ length next) where
  pub rows-along : (m : ℕ) → m < length heads → get_or heads₀ m 0 ≡ 0 → places next (get_or heads m 0) ≡ module_rows p m
  rows-along m h zero =
      let n : ℕ = length section / 2 in
      let on = l.heads-onward m zero in
      chain_same n 0 next next l.next-onward (λ j _. refl) (length next) n (get_or heads m 0) (λ z. z, on.1) (λ z. omega arith) (λ z. omega arith)
      ∙ l.chains m h zero
      ∙ ap (positions_from 0 (λ x. eqb x m)) (take_all n (modules_in section) (omega (arith, modules-length section)))
      ∙ positions-map (λ (i : Item). i.in_module) (λ x. eqb x m) 0 (pair_rows item_row section)
      ∙ sym (ap (positions_from 0 (λ (i : Item). eqb i.in_module m)) whole)

-- They are linked from zeros on, where the arrays were zeros.
pub rows-linked : (section : List ℕ) {heads₀ next₀ heads next : List ℕ} → Zeros module_limit heads₀ → Zeros item_limit next₀
    → Linked 0 (modules_in section) (length section / 2) heads₀ next₀ heads next
    → Linked 0 (modules_in section) (length section / 2) (replicate module_limit 0) (replicate item_limit 0) heads next
rows-linked section {heads₀ = heads₀} {next₀ = next₀} none free l = rw (zeros-whole module_limit heads₀ none, zeros-whole item_limit next₀ free) at l
