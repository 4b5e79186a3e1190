-- What the methods of `Split` require and guarantee: how its arrays stand for the numbering of a group's items. Assumes nothing.
use Rattle.std.specs.Prelude.{ℕ, ◌+◌, ◌-◌, ◌≤◌, ◌≡◌, true, false, length, take, set, replicate}
use mathlib.Core.List.{List, ◌++◌, map, flat_map}
use Rattle.std.proofs.lemmas.List.Edits.{sets}
use Rattle.rules.specs.Project.{Project, module_limit, item_limit}
use Rattle.rules.specs.Items.{kind_at, uninjected_rows, injected_rows, numbering, Range, ranges_from, group_of, starts as starts_of}
use Rattle.laws.specs.Counting.{Below}
use Rattle.split.specs.Shown.{Kinds, Ranges}
use Rattle.split.specs.Rows.{numbered_as}
use Rattle.split.specs.Stored.{Stored}
use Rattle.split.specs.declared.Split.{Split}

-- Rows are numbered behind those that are, and their kinds stored.
pub record Numbered (p : Project) (numbered : List ℕ) (s t : Split) : Type 0 where
  pub rows_stored : Stored numbered s.count s.rows t.rows t.count
  pub kinds-stored : Stored (map (kind_at p) numbered) s.count s.kinds t.kinds t.count

-- The ranges are those that there were.
pub record SameRanges (s t : Split) : Type 0 where
  pub low : t.low ≡ s.low
  pub high : t.high ≡ s.high
  pub starts : t.starts ≡ s.starts
  pub modules : t.modules ≡ s.modules
  pub uninjected : t.uninjected ≡ s.uninjected

-- The numbers are those that there were.
pub record SameNumbers (s t : Split) : Type 0 where
  pub rows : t.rows ≡ s.rows
  pub kinds : t.kinds ≡ s.kinds
  pub uninjected : t.uninjected ≡ s.uninjected
  pub count : t.count ≡ s.count

-- The next module's range, from `start` on: noted at each of its numbers, and its start.
pub record RangeNoted (start : ℕ) (s t : Split) : Type 0 where
  pub low-whole : t.low ≡ sets s.low start (replicate (s.count - start) start)
  pub high-whole : t.high ≡ sets s.high start (replicate (s.count - start) s.count)
  pub starts-whole : t.starts ≡ set s.starts s.modules start
  pub modules : t.modules ≡ s.modules + 1

-- What stands at each number of some ranges: the start of its range, and the end.
abbrev pub lows : List Range → List ℕ
lows ranges = flat_map (λ (r : Range). replicate r.count r.start) ranges

abbrev pub highs : List Range → List ℕ
highs ranges = flat_map (λ (r : Range). replicate r.count (r.start + r.count)) ranges

abbrev pub starts_in : List Range → List ℕ
starts_in ranges = map (λ (r : Range). r.start) ranges

-- The uninjected rows of modules are numbered from 0 on, with their ranges, at each of their numbers, and the starts of these.
pub record RangesNumbered (p : Project) (modules : List ℕ) (s t : Split) : Type 0 where
  pub rows_stored : Stored (numbered_as false p modules) 0 s.rows t.rows t.count
  pub kinds-stored : Stored (map (kind_at p) (numbered_as false p modules)) 0 s.kinds t.kinds t.count
  pub low-stored : Stored (lows (ranges_from p 0 modules)) 0 s.low t.low t.count
  pub high-stored : Stored (highs (ranges_from p 0 modules)) 0 s.high t.high t.count
  pub starts-stored : Stored (starts_in (ranges_from p 0 modules)) 0 s.starts t.starts t.modules
  pub uninjected : t.uninjected ≡ t.count

-- The injected rows are numbered behind them, with zeros in place of a range.
pub record InjectedNumbered (p : Project) (modules : List ℕ) (s t : Split) : Type 0 where
  pub numbered : Numbered p (numbered_as true p modules) s t
  pub low-stored : Stored (replicate (length (numbered_as true p modules)) 0) s.count s.low t.low t.count
  pub high-stored : Stored (replicate (length (numbered_as true p modules)) 0) s.count s.high t.high t.count
  pub starts : t.starts ≡ s.starts
  pub modules-same : t.modules ≡ s.modules
  pub uninjected : t.uninjected ≡ s.uninjected

-- What a split asks for: numbers of modules, no more than there are, whose rows fit.
pub record Splittable (p : Project) (modules : List ℕ) : Type 0 where
  pub modules-below : Below module_limit modules
  pub modules-most : length modules ≤ module_limit
  pub numbering-most : length (numbering p modules) ≤ item_limit

-- The arrays show the split of the group's items.
pub record Splits (p : Project) (modules : List ℕ) (s : Split) : Type 0 where
  pub numbered : take s.count s.rows ≡ numbering p modules
  pub count-is : s.count ≡ length (numbering p modules)
  pub uninjected-is : s.uninjected ≡ length (flat_map (uninjected_rows p) modules)
  pub modules-is : s.modules ≡ length modules
  pub kinds-shown : Kinds (group_of p modules) s.kinds
  pub ranges-shown : Ranges (group_of p modules) s.low s.high
  pub starts-shown : take s.modules s.starts ≡ starts_of (group_of p modules)

-- What stands at the injected numbers in place of a range: zeros.
abbrev pub no_ranges : Project → List ℕ → List ℕ
no_ranges p modules = replicate (length (flat_map (injected_rows p) modules)) 0

-- Each array whole: what the split writes stands from its first place on, and behind it what stood there before.
pub record SplitStored (p : Project) (modules : List ℕ) (s t : Split) : Type 0 where
  pub rows_whole : t.rows ≡ sets s.rows 0 (numbering p modules)
  pub kinds-whole : t.kinds ≡ sets s.kinds 0 (map (kind_at p) (numbering p modules))
  pub low-whole : t.low ≡ sets s.low 0 (lows (ranges_from p 0 modules) ++ no_ranges p modules)
  pub high-whole : t.high ≡ sets s.high 0 (highs (ranges_from p 0 modules) ++ no_ranges p modules)
  pub starts-whole : t.starts ≡ sets s.starts 0 (starts_in (ranges_from p 0 modules))
