-- Laws of the sets that the turns rely on. Assumes nothing.
use Rattle.std.specs.Prelude.{ℕ, suc, ◌*◌, ◌≤◌, ◌≡◌, refl, Bool, not, ◌&&◌, ◌||◌, List, [], ◌∷◌, eqb, length}
use Rattle.std.proofs.Common.{arith, mul-le-mul, sym, ap, subst, ◌∙◌, eqb-true, eq-eqb}
use Rattle.rules.specs.Lists.{is_empty, cons_if, any, positions_from}
use Rattle.rules.specs.Project.{Item, Project, need_limit, item_row, import_row, pair_rows}
use Rattle.rules.specs.Modules.{imports_of}
use Rattle.rules.specs.Items.{is_kept, kept_rows_of}
use Rattle.laws.specs.Lists.{◌∈◌, false≢true, Tested, holds, fails, tested, any-true, true-any, eqb-sym}
use Rattle.laws.specs.Counting.{is_empty_false, ∈-is_empty}
use Rattle.laws.specs.ModuleVisit.{imports_of-∈, ∈-imports_of}
use Rattle.lists.specs.Bits.{bit}
use Rattle.split.specs.RowLaws.{kept_rows_of-positions}
use Rattle.split.specs.Rows.{RowsShown}
use Rattle.graph.specs.Rows.{words_for}
use Rattle.owners.specs.KeyLaws.{items-fit, needs-fit}
use Rattle.owners.specs.declared.NeedRows.{NeedRows}
use Rattle.owners.specs.Owners.{Notable, OwnersShown}
use Rattle.owners.specs.NeedRows.{NeedsChained}
use Rattle.giving.specs.KeptLaws.{swap_and}
use Rattle.giving.specs.Giving.{is_importer, is_giver}
use Rattle.order.specs.declared.tables.SortTurns.{SortTurns}
use Rattle.order.specs.declared.turns.Turn.{Turn}
use Rattle.order.specs.declared.turns.Turns.{Turns}
use Rattle.order.specs.Turns.{Ready, Turning}
use Rattle.order.specs.Stops.{Sized, Going, Sorting}
use Rattle.order.specs.Orders.{Orderable}

-- A module imports where a row names it as the importer.
module _ (p : Project) (m : ℕ) where
  importing : Tested (is_empty (imports_of p m)) → any (is_importer m) p.imports ≡ not (is_empty (imports_of p m))
  importing (holds e) = go (tested (any (is_importer m) p.imports))
    where
      go : Tested (any (is_importer m) p.imports) → any (is_importer m) p.imports ≡ not (is_empty (imports_of p m))
      go (holds t) =
          let r = any-true (is_importer m) p.imports t in
          let q = eqb-true m r.0.importer r.2 in
          let i : import_row m r.0.imported ∈ p.imports = subst (λ (n : ℕ). import_row n r.0.imported ∈ p.imports) (sym q) r.1 in
          absurd (false≢true (sym (∈-is_empty (∈-imports_of p i)) ∙ e))
      go (fails t) = t ∙ sym (ap not e)
  importing (fails e) =
      let r = is_empty_false (imports_of p m) e in
      true-any (is_importer m) (imports_of-∈ p r.1) (eq-eqb m m refl) ∙ sym (ap not e)

  pub imports-shown : any (is_importer m) p.imports ≡ not (is_empty (imports_of p m))
  imports-shown = importing (tested (is_empty (imports_of p m)))

-- A module gives where it has a kept row.
any-positions : {A : Type 0} (test : A → Bool) (n : ℕ) (l : List A) → any test l ≡ not (is_empty (positions_from n test l))
unfolding any positions_from cons_if is_empty
any-positions test n [] = refl
any-positions test n (x ∷ l) = go (tested (test x)) (any-positions test (suc n) l)
  where
    go : Tested (test x) → any test l ≡ not (is_empty (positions_from (suc n) test l)) → (test x || any test l) ≡ not (is_empty (cons_if (test x) n (positions_from (suc n) test l)))
    go (holds e) h = rw e
    go (fails e) h = rw e h

any_same : {A : Type 0} (f g : A → Bool) → ((x : A) → f x ≡ g x) → (l : List A) → any f l ≡ any g l
unfolding any
any_same f g e [] = refl
any_same f g e (x ∷ l) = rw (e x, any_same f g e l)

pub gives-shown : (p : Project) (m : ℕ) → any (is_giver m) p.items ≡ not (is_empty (kept_rows_of p m))
gives-shown p m =
    any_same (is_giver m) (λ (i : Item). is_kept i.kind && eqb i.in_module m)
    (λ (i : Item). swap_and (eqb m i.in_module) (is_kept i.kind) ∙ ap (λ (b : Bool). is_kept i.kind && b) (eqb-sym m i.in_module)) p.items
    ∙ any-positions (λ (i : Item). is_kept i.kind && eqb i.in_module m) 0 p.items
    ∙ sym (ap (λ (l : List ℕ). not (is_empty l)) (kept_rows_of-positions p m))

-- All is ready where the sets are those of the sections.
module _ {p : Project} {groups : List (List ℕ)} {items imports needs bytes : List ℕ} {count : ℕ} {out : List ℕ}
    (o : Orderable p groups items imports needs bytes count out) where
  pub ready : {turns : Turns} → RowsShown p turns.items → ((m : ℕ) → bit turns.importers m ≡ any (is_importer m) (pair_rows import_row imports))
      → ((m : ℕ) → bit turns.givers m ≡ any (is_giver m) (pair_rows item_row items)) → Ready p groups turns
  ready rows i g =
      record {
        accepted = o.accepted;
        rows_shown = rows;
        groups-most = omega (arith, o.count-is, o.count_most);
        each-once = o.each-once;
        members-below = o.members-below;
        imports-shown = λ m. i m ∙ ap (any (is_importer m)) (sym o.imports-are) ∙ imports-shown p m;
        gives-shown = λ m. g m ∙ ap (any (is_giver m)) (sym o.items-are) ∙ gives-shown p m;
      }

  pub notable : Notable groups bytes count
  notable =
      record {
        bytes-are = o.bytes-are;
        count-is = o.count-is;
        count_most = o.count_most;
        members-below = λ g m x k. omega (arith, o.members-below g m x k, o.accepted.modules-most);
      }

  -- the turns go on from one
  pub going : {sort : SortTurns} {now : List ℕ} {allowance : ℕ} {t : Turn} → Ready p groups sort.turns.now → sort.needs.now ≡ needs
      → OwnersShown groups sort.owners.now.array → length now ≡ length out → Turning p groups allowance out now t
      → Going p groups sort allowance out now t
  going r same shown size turning =
      record {
        ready = r;
        owned =
            record {
              accepted = o.accepted;
              items-are = r.rows_shown.section;
              needs-are = rw same o.needs-are;
              owners-shown = shown;
              groups-most = r.groups-most;
            };
        size = size ∙ o.out-size;
        turning = turning;
      }

-- The turns from one on: what arrays are large enough, and the same with the needs chained.
module _ {p : Project} {groups : List (List ℕ)} {sort : SortTurns} {allowance : ℕ} {before now : List ℕ} {t : Turn}
    (h : Going p groups sort allowance before now t) where
  pub sized : (most many WORDS : ℕ) → length sort.turns.now.items.section.now ≤ 2 * most → length sort.needs.now ≤ 3 * many → most * words_for most ≤ WORDS
      → Sized WORDS many p
  sized most many WORDS few less room =
      let items : length p.items ≤ most = rw h.owned.items-are (items-fit sort.turns.now.items.section.now most few) in
      let fewer : words_for (length p.items) ≤ words_for most = omega (arith, items) in
      record { rows = omega (arith, mul-le-mul items fewer, room); places = rw h.owned.needs-are (needs-fit sort.needs.now many less) }

  pub sized-any : Sized 1024 need_limit p
  sized-any =
      let fewer : words_for (length p.items) ≤ 4 = omega (arith, h.owned.accepted.items-most) in
      record { rows = omega (arith, mul-le-mul h.owned.accepted.items-most fewer); places = h.owned.accepted.needs-most }

  pub sorting : {WORDS NEEDS : ℕ} {rows : NeedRows NEEDS} → Sized WORDS NEEDS p → NeedsChained p groups rows
      → Sorting WORDS NEEDS p groups sort.turns.now rows allowance before now t
  sorting z c = record { ready = h.ready; chained = c; sized = z; size = h.size; turning = h.turning }

  -- or from a later one
  pub going-on : {now' : List ℕ} {t' : Turn} → length now' ≡ length now → Turning p groups allowance before now' t'
      → Going p groups sort allowance before now' t'
  going-on size turning = record { ready = h.ready; owned = h.owned; size = size ∙ h.size; turning = turning }
