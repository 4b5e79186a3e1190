-- Laws of the split: of the loops of `Split`'s methods, and of what its arrays show. Assumes nothing.
use Prim.Native.Nat.{ℕ, ◌+◌, ◌-◌, ◌≤◌, ◌<◌}
use Rattle.std.specs.Prelude.{◌≡◌, refl, Bool, true, false, length, get_or, drop, set, replicate}
use Rattle.std.proofs.Common.{arith, ap, ap₂, ◌∙◌, length-append, drop-cons, add-one}
use Rattle.std.proofs.lemmas.List.{length-map, length-replicate}
use mathlib.Core.List.{List, [], ◌∷◌, ◌++◌, map, flat_map, map-append}
use mathlib.Core.List.Memᴰ
use Rattle.std.proofs.lemmas.List.Edits.{sets}
use Rattle.rules.specs.Lists.{cons_if, keep}
use Rattle.rules.specs.Project.{Project, module_limit, item_limit}
use Rattle.rules.specs.Items.{kind_at, uninjected_rows, injected_rows, numbering, Range, ranges_from}
use Rattle.laws.specs.Lists.{∈-self}
use Rattle.laws.specs.Accepted.{Accepted}
use Rattle.laws.specs.Splits.{Giving}
use Rattle.laws.specs.Counting.{Below, below_length}
use Rattle.laws.proofs.Splits.{runs, length-numbering, giving-below}
use Rattle.laws.proofs.FirstList.{length-ranges}
use Rattle.split.specs.declared.Split.{Split}
use Rattle.split.specs.declared.rows.ItemRows.{ItemRows}
use Rattle.split.specs.Rows.{module_rows, RowsOf, kept_as, rows_as, numbered_as}
use Rattle.split.specs.Stored.{Stored}
use Rattle.split.specs.StoreLaws.{Storing, storing-start, storing-as, storing-room, storing-one, storing-more, storing-end}
use Rattle.split.specs.RowLaws.{rows-kept, rows-below}
use Rattle.split.specs.Splits.{Numbered, SameRanges, SameNumbers, RangeNoted, lows, highs, starts_in, Splittable}

-- those of some rows that are kept as asked
abbrev pub kept_among : Bool → Project → List ℕ → List ℕ
kept_among injected p rows = keep (λ row. kept_as injected (kind_at p row)) rows

-- In the midst of numbering the rows of a module: with the kept ones of those left numbered from n on the arrays are as they are to be.
pub record NumberingRows (p : Project) (m : ℕ) (injected : Bool) (left : List ℕ) (s : Split) (rows kinds : List ℕ) (n : ℕ) : Type 0 where
  pub within : Below (length p.items) left
  pub rows_so : Storing (rows_as injected p m) s.count s.rows (kept_among injected p left) rows n
  pub kinds-so : Storing (map (kind_at p) (rows_as injected p m)) s.count s.kinds (map (kind_at p) (kept_among injected p left)) kinds n

module _ (p : Project) (m : ℕ) (injected : Bool) where
  pub numbering-start : (items : ItemRows) → RowsOf p m items → (s : Split) → NumberingRows p m injected (module_rows p m) s s.rows s.kinds s.count
  numbering-start items shown s =
      let e = rows-kept p m injected refl in
      record {
        within = rows-below shown;
        rows_so = rw e (storing-start (rows_as injected p m) s.count s.rows);
        kinds-so = rw e (storing-start (map (kind_at p) (rows_as injected p m)) s.count s.kinds);
      }

  module _ {left : List ℕ} {s : Split} {rows kinds : List ℕ} {n : ℕ} (a : NumberingRows p m injected left s rows kinds n) (row : ℕ) (rest : List ℕ)
      (first : left ≡ row ∷ rest) where
    kept-one : kept_as injected (kind_at p row) ≡ true → kept_among injected p left ≡ row ∷ kept_among injected p rest
    unfolding keep cons_if
    kept-one t = rw (first, keep, t)

    kept-past : kept_as injected (kind_at p row) ≡ false → kept_among injected p left ≡ kept_among injected p rest
    unfolding keep cons_if
    kept-past t = rw (first, keep, t)

    pub numbering-below : row < length p.items
    numbering-below = a.within row (rw first ∈-self)

    within-rest : Below (length p.items) rest
    within-rest x h = a.within x (rw first (Memᴰ.tail h))

    pub numbering-room : kept_as injected (kind_at p row) ≡ true → s.count + length (rows_as injected p m) ≤ item_limit → n < item_limit
    numbering-room t h = omega (arith, storing-room a.rows_so (kept-one t) (omega (arith, s.sizes)), a.rows_so.size, s.sizes)

    pub numbering-one : {kind : ℕ} → kept_as injected (kind_at p row) ≡ true → kind_at p row ≡ kind
        → NumberingRows p m injected rest s (set rows n row) (set kinds n kind) (n + 1)
    numbering-one t k =
        record {
          within = within-rest;
          rows_so = storing-one a.rows_so (kept-one t);
          kinds-so = storing-one a.kinds-so (ap (map (kind_at p)) (kept-one t) ∙ ap (λ (x : ℕ). x ∷ map (kind_at p) (kept_among injected p rest)) k);
        }

    pub numbering-past : kept_as injected (kind_at p row) ≡ false → NumberingRows p m injected rest s rows kinds n
    numbering-past t =
        record {
          within = within-rest;
          rows_so = storing-as a.rows_so (kept-past t);
          kinds-so = storing-as a.kinds-so (ap (map (kind_at p)) (kept-past t));
        }

  module _ {left : List ℕ} {s : Split} {rows kinds : List ℕ} {n : ℕ} (a : NumberingRows p m injected left s rows kinds n) (none : left ≡ []) where
    kept_none : kept_among injected p left ≡ []
    unfolding keep
    kept_none = rw none

    pub numbering-rows : Stored (rows_as injected p m) s.count s.rows rows n
    numbering-rows = storing-end a.rows_so kept_none

    pub numbering-kinds : Stored (map (kind_at p) (rows_as injected p m)) s.count s.kinds kinds n
    numbering-kinds = storing-end a.kinds-so (ap (map (kind_at p)) kept_none)

-- Modules of an accepted project that give items can be split.
pub splittable : {p : Project} {modules : List ℕ} → Accepted p → Giving p modules → Splittable p modules
splittable {p} {modules} a g =
    let below : Below module_limit modules = giving-below (λ i m. omega (arith, (a.item-rows i m).module-below, a.modules-most)) g in
    record {
      modules-below = below;
      modules-most = below_length g.once below;
      numbering-most = omega (arith, length-numbering p g.once, a.items-most);
    }

-- The numbering is the runs, and the injected rows behind them.
pub numbering-parts : (p : Project) (modules : List ℕ) → length (numbering p modules) ≡ length (runs p modules) + length (flat_map (injected_rows p) modules)
unfolding numbering
numbering-parts p modules = length-append (runs p modules) (flat_map (injected_rows p) modules)

pub numbered-parts : (p : Project) (modules : List ℕ) → length (numbering p modules) ≡ length (numbered_as false p modules) + length (numbered_as true p modules)
unfolding rows_as
numbered-parts p modules = numbering-parts p modules

-- In the midst of numbering the rows of modules: with those of the modules left numbered the arrays are as they are to be.
pub record NumberingModules (p : Project) (injected : Bool) (modules rest : List ℕ) (s t : Split) : Type 0 where
  pub rows_so : Storing (numbered_as injected p modules) s.count s.rows (numbered_as injected p rest) t.rows t.count
  pub kinds-so : Storing (map (kind_at p) (numbered_as injected p modules)) s.count s.kinds (map (kind_at p) (numbered_as injected p rest)) t.kinds t.count

-- the modules from i on
pub modules-left : (modules : List ℕ) (i : ℕ) → i < length modules → drop i modules ≡ get_or modules i 0 ∷ drop (i + 1) modules
modules-left modules i h = rw add-one (drop-cons modules i 0 h)

module _ {p : Project} {injected : Bool} {modules rest : List ℕ} {s t : Split} (a : NumberingModules p injected modules rest s t) where
  module _ (m : ℕ) (more : List ℕ) (first : rest ≡ m ∷ more) where
    rows-first : numbered_as injected p rest ≡ rows_as injected p m ++ numbered_as injected p more
    unfolding flat_map
    rows-first = rw first

    pub modules-room : s.count + length (numbered_as injected p modules) ≤ item_limit → t.count + length (rows_as injected p m) ≤ item_limit
    modules-room h = omega (arith, a.rows_so.count, ap length rows-first, length-append (rows_as injected p m) (numbered_as injected p more))

    pub modules-step : {u : Split} → Numbered p (rows_as injected p m) t u → NumberingModules p injected modules more s u
    modules-step d =
        record {
          rows_so = storing-more a.rows_so (rows_as injected p m) (numbered_as injected p more) rows-first d.rows_stored;
          kinds-so =
              storing-more a.kinds-so (map (kind_at p) (rows_as injected p m)) (map (kind_at p) (numbered_as injected p more))
              (ap (map (kind_at p)) rows-first ∙ map-append (kind_at p) (rows_as injected p m) (numbered_as injected p more)) d.kinds-stored;
        }

  pub modules-end : rest ≡ [] → Numbered p (numbered_as injected p modules) s t
  unfolding flat_map
  modules-end e =
      record {
        rows_stored = storing-end a.rows_so (ap (numbered_as injected p) e);
        kinds-stored = storing-end a.kinds-so (ap (λ (l : List ℕ). map (kind_at p) (numbered_as injected p l)) e);
      }

pub modules-same : {p : Project} {injected : Bool} {modules rest : List ℕ} {s t u : Split} → SameNumbers t u → NumberingModules p injected modules rest s t
    → NumberingModules p injected modules rest s u
modules-same e a = record { rows_so = rw (e.rows, e.count) a.rows_so; kinds-so = rw (e.kinds, e.count) a.kinds-so }

-- In the midst of noting their ranges: with those of the modules left noted the arrays are as they are to be.
pub record NotingRanges (p : Project) (modules rest : List ℕ) (s t : Split) : Type 0 where
  pub low_so : Storing (lows (ranges_from p 0 modules)) 0 s.low (lows (ranges_from p t.count rest)) t.low t.count
  pub high_so : Storing (highs (ranges_from p 0 modules)) 0 s.high (highs (ranges_from p t.count rest)) t.high t.count
  pub starts-so : Storing (starts_in (ranges_from p 0 modules)) 0 s.starts (starts_in (ranges_from p t.count rest)) t.starts t.modules

module _ {p : Project} {modules rest : List ℕ} {s t : Split} (a : NotingRanges p modules rest s t) where
  starts-length : (start : ℕ) (l : List ℕ) → length (starts_in (ranges_from p start l)) ≡ length l
  starts-length start l = length-map (ranges_from p start l) (λ (r : Range). r.start) ∙ length-ranges p start l

  module _ (m : ℕ) (more : List ℕ) (first : rest ≡ m ∷ more) where
    pub ranges-room : length modules ≤ module_limit → t.modules < module_limit
    ranges-room h = omega (arith, a.starts-so.count, starts-length 0 modules, starts-length t.count rest, ap length first)

    abbrev count : ℕ
    count = length (uninjected_rows p m)

    ranges-first : ranges_from p t.count rest ≡ record { start = t.count; count = count } ∷ ranges_from p (t.count + count) more
    unfolding ranges_from
    ranges-first = rw first

    range-end : {u : Split} → Numbered p (rows_as false p m) t u → u.count ≡ t.count + count
    unfolding rows_as
    range-end d = d.rows_stored.count

    pub ranges-step : {u v : Split} → Numbered p (rows_as false p m) t u → SameRanges t u → RangeNoted t.count u v → SameNumbers u v → NotingRanges p modules more s v
    unfolding flat_map
    ranges-step {u} {v} d same noted numbers =
        let e : u.count ≡ t.count + count = range-end d in
        let next : v.count ≡ t.count + count = numbers.count ∙ e in
        let size : u.count - t.count ≡ count = omega arith in
        let low-front : List ℕ = replicate count t.count in
        let high-front : List ℕ = replicate count (t.count + count) in
        record {
          low_so =
              rw next
              (storing-more a.low_so low-front (lows (ranges_from p (t.count + count) more)) (ap lows ranges-first)
              (record {
                whole = noted.low-whole ∙ ap₂ (λ (l : List ℕ) (k : ℕ). sets l t.count (replicate k t.count)) same.low size;
                count = omega (arith, length-replicate count t.count);
              }));
          high_so =
              rw next
              (storing-more a.high_so high-front (highs (ranges_from p (t.count + count) more)) (ap highs ranges-first)
              (record {
                whole = noted.high-whole ∙ ap₂ (λ (l : List ℕ) (k : ℕ). sets l t.count (replicate k u.count)) same.high size ∙ ap (λ (k : ℕ). sets t.high t.count (replicate count k)) e;
                count = omega (arith, length-replicate count (t.count + count));
              }));
          starts-so = rw (next, noted.modules, noted.starts-whole, same.starts, same.modules) (storing-one a.starts-so (ap starts_in ranges-first));
        }

  pub low_stored : rest ≡ [] → Stored (lows (ranges_from p 0 modules)) 0 s.low t.low t.count
  unfolding ranges_from flat_map
  low_stored e = storing-end a.low_so (ap (λ (l : List ℕ). lows (ranges_from p t.count l)) e)

  pub high-stored : rest ≡ [] → Stored (highs (ranges_from p 0 modules)) 0 s.high t.high t.count
  unfolding ranges_from flat_map
  high-stored e = storing-end a.high_so (ap (λ (l : List ℕ). highs (ranges_from p t.count l)) e)

  pub starts-stored : rest ≡ [] → Stored (starts_in (ranges_from p 0 modules)) 0 s.starts t.starts t.modules
  unfolding ranges_from
  starts-stored e = storing-end a.starts-so (ap (λ (l : List ℕ). starts_in (ranges_from p t.count l)) e)
