-- Laws for callers of the split: what the first list asks for holds of what it leaves. Assumes nothing.
use Prim.Native.Nat.{ℕ, zero, suc, ◌+◌, ◌-◌, ◌≤◌, ◌<◌}
use native.Mathlib.Omega.{arith}
use Rattle.std.specs.Prelude.{◌≡◌, Bool, true, false, ltb}
use Rattle.std.proofs.Common.{sym, subst, ◌∙◌, ltb-true, ltb-false, length-take-le, get_or-take}
use Rattle.std.proofs.Math.Path.{ap}
use mathlib.Core.List.Memᴰ
use mathlib.Core.List.{List, flat_map}
use Rattle.std.proofs.Math.ListN.{length, get_or, get_or-append}
use Rattle.rules.specs.Lists.{cons_if, keep, up_from}
use Rattle.rules.specs.Project.{Project}
use Rattle.rules.specs.Items.{is_injected, kind_at, injected_rows, numbering, Range, group_of, kind_of, numbers, starts as starts_of}
use Rattle.laws.specs.Lists.{Tested, holds, fails, tested, up_from-∈}
use Rattle.laws.specs.Orders.{get_or-∈, get_or-behind}
use Rattle.laws.specs.Counting.{keep_all}
use Rattle.laws.proofs.Splits.{runs, length-kinds, kind_of-row, uninjected-∈, injected-∈, well_formed}
use Rattle.laws.specs.Splits.{size, Giving}
use Rattle.split.specs.declared.Split.{Split}
use Rattle.split.specs.Splits.{Splits}
use Rattle.split.specs.SplitLaws.{numbering-parts}
use Rattle.split.specs.FirstLists.{starts_on, Listable}

-- Of numbers counted up, a test keeps those from u on, where it passes these and none before.
keep-from : (test : ℕ → Bool) (u a n : ℕ) → ((x : ℕ) → x < u → test x ≡ false) → ((x : ℕ) → u ≤ x → x < a + n → test x ≡ true) → a ≤ u → u ≤ a + n
    → keep test (up_from a n) ≡ up_from u (a + n - u)
unfolding keep up_from cons_if
keep-from test u a zero before behind h k = let e : a + 0 - u ≡ 0 = omega arith in rw e
keep-from test u a (suc n) before behind h k = go (tested (ltb a u)) (λ j. keep-from test u (suc a) n before (λ x g m. behind x g (omega arith)) j (omega arith))
  where
    go : Tested (ltb a u) → (suc a ≤ u → keep test (up_from (suc a) n) ≡ up_from u (suc a + n - u))
        → cons_if (test a) a (keep test (up_from (suc a) n)) ≡ up_from u (a + suc n - u)
    go (holds t) f =
        let e : a + suc n - u ≡ suc a + n - u = omega arith in
        let b : a < u = ltb-true a u t in
        rw (before a b, e) (f b)
    go (fails t) f =
        let b : u ≤ a = ltb-false a u t in
        let e : u ≡ a = omega arith in
        let d : a + suc n - u ≡ suc n = omega arith in
        rw (behind a b (omega arith), keep_all test (up_from (suc a) n) (λ x m. let r = up_from-∈ (suc a) n m in behind x (omega arith) (omega arith)), d, e)

module _ (p : Project) (modules : List ℕ) where
  abbrev uninjected : ℕ
  uninjected = length (runs p modules)

  uninjected-before : (x : ℕ) → x < uninjected → is_injected (kind_of (group_of p modules) x) ≡ false
  unfolding numbering
  uninjected-before x h =
      let row : get_or (numbering p modules) x 0 ≡ get_or (runs p modules) x 0 = get_or-append (runs p modules) (flat_map (injected_rows p) modules) 0 x h in
      ap is_injected (kind_of-row p modules x (omega (arith, numbering-parts p modules)) ∙ ap (kind_at p) row)
      ∙ (uninjected-∈ p modules (get_or-∈ (runs p modules) x 0 h)).1

  injected-from : (x : ℕ) → uninjected ≤ x → x < length (numbering p modules) → is_injected (kind_of (group_of p modules) x) ≡ true
  unfolding numbering
  injected-from x h k =
      ap is_injected (kind_of-row p modules x k) ∙ (injected-∈ p modules (get_or-behind (runs p modules) (flat_map (injected_rows p) modules) x 0 h k)).1

  -- The injected numbers are those behind all ranges.
  injected-numbers : keep (λ x. is_injected (kind_of (group_of p modules) x)) (numbers (group_of p modules)) ≡ up_from uninjected (length (numbering p modules) - uninjected)
  unfolding numbers
  injected-numbers =
      let n : ℕ = length (numbering p modules) in
      let e : 0 + n - uninjected ≡ n - uninjected = omega arith in
      ap (λ (k : ℕ). keep (λ x. is_injected (kind_of (group_of p modules) x)) (up_from 0 k)) (length-kinds p modules)
      ∙ keep-from (λ x. is_injected (kind_of (group_of p modules) x)) uninjected 0 n uninjected-before (λ x h k. injected-from x h (omega arith)) (omega arith)
      (omega (arith, numbering-parts p modules))
      ∙ ap (up_from uninjected) e

-- The starts of a group whose modules give items are numbers of it.
starts-numbers : {p : Project} {modules : List ℕ} → Giving p modules → (i : ℕ) → i < length (starts_of (group_of p modules))
    → get_or (starts_of (group_of p modules)) i 0 < size (group_of p modules)
unfolding starts_of
starts-numbers {p} {modules} g i h =
    let r = Memᴰ.of_map (λ (r : Range). r.start) (group_of p modules).ranges (get_or-∈ (starts_of (group_of p modules)) i 0 h) in
    subst (λ (x : ℕ). x < size (group_of p modules)) r.2 ((well_formed p modules g).starts-below r.0 r.1)

-- What the split of modules that give items leaves is what the first list asks for.
pub listable : {p : Project} {modules : List ℕ} {s : Split} → Giving p modules → Splits p modules s → Listable (group_of p modules) s
listable {p} {modules} {s} gives d =
    record {
      ranges-shown = d.ranges-shown;
      starts-shown = d.starts-shown;
      starts-below =
          λ i h.
          let l : length (starts_on s) ≡ s.modules = length-take-le s.modules s.starts (omega (arith, s.sizes, s.counts)) in
          let k : i < length (starts_of (group_of p modules)) = omega (arith, ap length d.starts-shown) in
          subst (λ (x : ℕ). x < size (group_of p modules)) (ap (λ (l : List ℕ). get_or l i 0) (sym d.starts-shown) ∙ get_or-take s.modules s.starts i 0 h) (starts-numbers gives i k);
      injected-behind =
          injected-numbers p modules
          ∙ sym (ap (λ (u : ℕ). up_from u (length (numbering p modules) - u)) d.uninjected-is)
          ∙ sym (ap (λ (n : ℕ). up_from s.uninjected (n - s.uninjected)) d.count-is);
    }
