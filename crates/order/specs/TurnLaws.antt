-- Laws of the turns of groups. Assumes nothing.
use Rattle.std.specs.Prelude.{ℕ, ◌+◌, ◌≤◌, ◌≡◌, refl, Bool, ◌&&◌, List, ◌∷◌, ◌++◌, reverse, length}
use Rattle.std.proofs.Common.{arith, ◌∙◌, ⊎_elim, length-append}
use Rattle.std.proofs.Math.Path.{ap, subst}
use Rattle.std.proofs.Math.Bool.{not}
use Rattle.rules.specs.Lists.{up_from}
use Rattle.rules.specs.Project.{Project, module_limit}
use Rattle.rules.specs.Walk.{Walk, Stop, finished, spent, full}
use Rattle.rules.specs.Modules.{is_done}
use Rattle.rules.specs.Items.{giving_modules, given_rows, numbering, group_of, ItemState, item_walk, item_start, order_of, sort_modules}
use Rattle.laws.specs.Lists.{◌∈◌, ∈-append, ∈-up_from, length-up_from, Once, once-append, once-length}
use Rattle.laws.specs.Counting.{Below, keep_same}
use Rattle.laws.specs.Runs.{Stopped, at-end, at-allowance, at-limit, stopped}
use Rattle.laws.specs.ModuleVisit.{is_done-∈, done-now, done-still}
use Rattle.laws.specs.Terms.{module_of, BelongsTo}
use Rattle.lists.specs.Bits.{bit}
use Rattle.giving.specs.Giving.{giving_of, Stored}
use Rattle.order.specs.declared.turns.Turn.{Turn}
use Rattle.order.specs.declared.turns.Turns.{Turns}
use Rattle.order.specs.Turns.{Taking, Advanced, Took, Gave}

-- The modules of a group that give items, as the code finds them.
module _ {p : Project} {earlier : List (List ℕ)} {members : List ℕ} {turns : Turns} {t : Turn} {out : List ℕ}
    (h : Taking p earlier members turns t out) where
  pub giving-same : giving_of t.used turns.givers members ≡ giving_modules p earlier members
  unfolding giving_modules
  giving-same =
      keep_same _ _ (reverse members)
      (λ m _. ap (λ (b : Bool). not b && bit turns.givers m) (h.used-shown m) ∙ ap (λ (b : Bool). not (is_done earlier m) && b) (h.gives-shown m))

  module _ {found : List ℕ} (e : found ≡ giving_of t.used turns.givers members) where
    pub found-same : found ≡ giving_modules p earlier members
    found-same = e ∙ giving-same

    pub giving-room : Below module_limit found × (t.kept + length (given_rows p found) ≤ length out)
    giving-room = rw found-same (h.below, h.room)

    pub keeps : {after : List ℕ} {r : Turn} {end : ℕ} → Stored (given_rows p found) t.kept out after end → Advanced members t end t.made r
        → Took p earlier members t out after r
    keeps {after} {end = end} w a =
        record {
          written = rw a.kept-is (subst (λ (l : List ℕ). Stored (given_rows p l) t.kept out after end) found-same w);
          advanced = record { rest-is = a.rest-is; left_is = a.left_is; used-is = a.used-is; kept-is = refl; made-is = a.made-is };
        }

-- The rows that groups gave, and those of one more group.
module _ {p : Project} {earlier : List (List ℕ)} {rows : List ℕ} (g : Gave p earlier rows) {members : List ℕ} {more : List ℕ} (o : Once more)
    (b : (row : ℕ) → row ∈ more → BelongsTo p earlier members row) where
  apart : (row : ℕ) → row ∈ rows → row ∈ more → ⊥
  apart row h k = let d = is_done-∈ earlier (g.done row h) in (b row k).first d.0 d.1 d.2

  pub gave-more : Gave p (members ∷ earlier) (rows ++ more)
  gave-more =
      record {
        once = once-append g.once o apart;
        kept = λ row m. ⊎_elim (λ h. g.kept row h) (λ h. (b row h).kept_item) (∈-append rows m);
        done = λ row m. ⊎_elim (λ h. done-still members earlier (module_of p row) (g.done row h)) (λ h. done-now earlier (b row h).listed) (∈-append rows m);
      }

  pub gave-room : length rows + length more ≤ length p.items
  gave-room =
      let all : length (rows ++ more) ≤ length (up_from 0 (length p.items)) =
      once-length (up_from 0 (length p.items)) gave-more.once
      (λ row m. ∈-up_from 0 (length p.items) (omega arith) (omega (arith, (gave-more.kept row m).item))) in
      omega (arith, length-append rows more, length-up_from 0 (length p.items))

-- Visits of a sort stay within the allowance.
unfoldable FinishedWithin : ℕ → Stop (List ℕ) → Type 0
FinishedWithin most (finished rows n) = n ≤ most
FinishedWithin most (spent n) = 0 ≤ n
FinishedWithin most (full n) = 0 ≤ n

module _ (p : Project) (modules : List ℕ) (limit left made : ℕ) where
  abbrev walk : Walk ItemState
  walk = item_walk (group_of p modules)

  within : {stop : Stop ItemState} → Stopped walk limit (λ n _. 0 ≤ n) (made + left) stop → FinishedWithin (made + left) (order_of (numbering p modules) stop)
  unfolding FinishedWithin order_of
  within (at-end i e n) = n
  within (at-allowance s i e n) = i
  within (at-limit s i e n) = i

  pub sorted-most : {rows : List ℕ} {n : ℕ} → sort_modules p modules limit left made ≡ finished rows n → n ≤ made + left
  unfolding sort_modules FinishedWithin
  sorted-most e =
      subst (FinishedWithin (made + left)) e
      (within (stopped walk limit (λ n _. 0 ≤ n) (λ n s i f. omega arith) left made (item_start (group_of p modules)) (omega arith)))
