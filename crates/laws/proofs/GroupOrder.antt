-- The order of a sorted group, as rows: it holds the group's kept rows, each once, and a row stands before one that it depends on only where it
-- may. Assumes nothing.
use Rattle.std.specs.Prelude.{ℕ, ◌<◌, ◌≡◌, ◌⊎◌, false, List, map, reverse, length, get_or}
use Rattle.std.proofs.Common.{arith, sym, ap, ◌∙◌, inl, inr, ⊎_elim}
use mathlib.Core.List.Memᴰ
use Rattle.std.proofs.lemmas.Bool.{eqb-false}
use Rattle.rules.specs.Lists.{keep, elem}
use Rattle.rules.specs.Project.{Need, Project}
use Rattle.rules.specs.Walk.{Stop, finished, spent, full, run}
use Rattle.rules.specs.Paths.{DependsOn, ReachesItem}
use Rattle.rules.specs.Items.{is_injected, kind_at, given_rows, numbering, number_of, is_among, group_of, ItemState, placed_of, item_walk, item_start, order_of, sort_modules}
use Rattle.laws.specs.Lists.{◌∈◌, both, elem-true, true-elem, keep-∈, ∈-keep, reverse-∈, ∈-reverse, Once, once-reverse}
use Rattle.laws.specs.Orders.{and-true, once-map, get_or-∈, Before, before-first, before-second, before-map, reverse-before, before-once}
use Rattle.laws.specs.PathLaws.{reaches-within}
use Rattle.laws.proofs.Splits.{numbering-∈, ∈-numbering, once-numbering, get_or-number_of, number_of-get_or, length-kinds, kind_of-row, needs-to, reaches-rows, same-range, well_formed}
use Rattle.laws.specs.Splits.{size, Giving}
use Rattle.laws.specs.Terms.{module_of}
use Rattle.laws.specs.ItemWalk.{Excused}
use Rattle.laws.proofs.ItemWalk.{Placed, run-finished}

is_injected-false : (kind : ℕ) → is_injected kind ≡ false → kind ≡ 4 → ⊥
unfolding is_injected
is_injected-false kind e = eqb-false kind 4 e

is_among-within : {rows larger : List ℕ} → ((row : ℕ) → row ∈ rows → row ∈ larger) → (needs : List Need) (n : Need)
    → n ∈ keep (is_among rows) needs → n ∈ keep (is_among larger) needs
unfolding is_among
is_among-within {rows} {larger} f needs n m =
    let k = keep-∈ (is_among rows) needs m in
    let t = both {a = elem n.dependant rows} k.1 in
    ∈-keep (is_among larger) k.0 (and-true (true-elem (f n.dependant (elem-true rows t.0))) (true-elem (f n.dependency (elem-true rows t.1))))

-- An order is given by the run of the group's walk.
order_of-finished : (rows : List ℕ) {order : List ℕ} {total : ℕ} (stop : Stop ItemState) → order_of rows stop ≡ finished order total
    → (s : ItemState) × (stop ≡ finished s total) × (order ≡ map (λ x. get_or rows x 0) (reverse (placed_of s)))
unfolding order_of
order_of-finished rows (finished s made) e = (s, cc, cc)
order_of-finished rows (spent made) e = let z : ◌≡◌ {A = ℕ} 0 1 = cc in absurd (omega arith)
order_of-finished rows (full made) e = let z : ◌≡◌ {A = ℕ} 0 1 = cc in absurd (omega arith)

module _ (p : Project) (modules : List ℕ) where
  -- When a may stand before b, which it depends on, in the order of a group of these modules: a is not injected, and b is an uninjected item of the
  -- same module or reaches a over the group's dependencies.
  abbrev pub MayPrecede : ℕ → ℕ → Type 0
  MayPrecede a b =
      (kind_at p a ≡ 4 → ⊥)
      × (((kind_at p b ≡ 4 → ⊥) × (module_of p a ≡ module_of p b)) ⊎ ReachesItem (keep (is_among (given_rows p modules)) p.needs) b a)

  -- An order is right: it holds the rows given, each once, and no row stands before one that it depends on unless it may.
  pub record Sorted (order : List ℕ) : Type 0 where
    pub once : Once order
    pub only-given : (row : ℕ) → row ∈ order → row ∈ given_rows p modules
    pub all-given : (row : ℕ) → row ∈ given_rows p modules → row ∈ order
    pub dependencies : (n : Need) → n ∈ p.needs → Before n.dependant n.dependency order → MayPrecede n.dependant n.dependency

  abbrev rows : List ℕ
  rows = numbering p modules

  excused-rows : (x y : ℕ) → x < length rows → Excused (group_of p modules) x y → MayPrecede (get_or rows x 0) (get_or rows y 0)
  excused-rows x y h (u, r) = (
    is_injected-false (kind_at p (get_or rows x 0)) (rw (kind_of-row p modules x h) at u),
    ⊎_elim (λ t. let s = same-range p modules x y t in inl (is_injected-false (kind_at p (get_or rows y 0)) s.1, s.2))
        (λ t. inr (reaches-within (is_among-within (λ row m. numbering-∈ p modules m) p.needs) (reaches-rows p modules t))) r,
  )

  module _ (g : Giving p modules) {s : ItemState} (done : Placed (group_of p modules) s) where
    placed_below : (x : ℕ) → x ∈ placed_of s → x < length rows
    placed_below x m = omega (arith, done.walked.placed_below x m, length-kinds p modules)

    row_of : (x : ℕ) → x ∈ placed_of s → get_or rows x 0 ∈ rows
    row_of x m = get_or-∈ rows x 0 (placed_below x m)

    number-of : (x : ℕ) → x ∈ placed_of s → number_of rows (get_or rows x 0) ≡ x
    number-of x m = number_of-get_or (once-numbering p g.once) x (placed_below x m)

    depends : (n : Need) → n ∈ p.needs → {x y : ℕ} → x ∈ placed_of s → y ∈ placed_of s → get_or rows x 0 ≡ n.dependant → get_or rows y 0 ≡ n.dependency
        → DependsOn (group_of p modules).needs x y
    depends n m {x} {y} h k e f =
        let r = needs-to p modules m (Memᴰ.cast (sym e) (row_of x h)) (Memᴰ.cast (sym f) (row_of y k)) in
        (r.0, r.1, r.2 ∙ ap (number_of rows) (sym e) ∙ number-of x h, r.3 ∙ ap (number_of rows) (sym f) ∙ number-of y k)

    precedes : (n : Need) → n ∈ p.needs → (x y : ℕ) → Before y x (placed_of s) → get_or rows x 0 ≡ n.dependant → get_or rows y 0 ≡ n.dependency
        → MayPrecede n.dependant n.dependency
    precedes n m x y b e f =
        let h = before-second b in
        ⊎_elim (λ k. absurd (before-once done.walked.once k b)) (λ k. rw (← e, ← f) (excused-rows x y (placed_below x h) k))
        (done.walked.in_order x y h (depends n m h (before-first b) e f))

    sorted-rows : Sorted (map (λ x. get_or rows x 0) (reverse (placed_of s)))
    sorted-rows =
        record {
          once = once-map (λ x. get_or rows x 0) same (once-reverse done.walked.once);
          only-given = λ row m.
              let r = Memᴰ.of_map (λ x. get_or rows x 0) (reverse (placed_of s)) m in
              numbering-∈ p modules (Memᴰ.cast (sym r.2) (row_of r.0 (reverse-∈ (placed_of s) r.1)));
          all-given = λ row m.
              let r = get_or-number_of rows (∈-numbering p modules m) in
              let k : number_of rows row < size (group_of p modules) = omega (arith, r.0, length-kinds p modules) in
              Memᴰ.cast (sym r.1) (Memᴰ.map (λ x. get_or rows x 0) (∈-reverse (done.all_placed (number_of rows row) k)));
          dependencies = λ n m h.
              let r = before-map (λ x. get_or rows x 0) (reverse (placed_of s)) h in
              precedes n m r.0 r.1 (reverse-before (placed_of s) r.2) r.3 r.4;
        }
      where
        same : (x y : ℕ) → x ∈ reverse (placed_of s) → y ∈ reverse (placed_of s) → get_or rows x 0 ≡ get_or rows y 0 → x ≡ y
        same x y h k e = sym (number-of x (reverse-∈ (placed_of s) h)) ∙ ap (number_of rows) e ∙ number-of y (reverse-∈ (placed_of s) k)

  -- Where a group's modules are sorted and its walk finishes, the order is right.
  pub sorted : Giving p modules → (limit left made : ℕ) {order : List ℕ} {total : ℕ}
      → sort_modules p modules limit left made ≡ finished order total → Sorted order
  unfolding sort_modules
  sorted g limit left made e =
      let r = order_of-finished rows (run (item_walk (group_of p modules)) limit left made (item_start (group_of p modules))) e in
      rw r.2 (sorted-rows g (run-finished (group_of p modules) (well_formed p modules g) limit left made r.1))
