-- Laws of arrays and groups whose parts are lent as slices. Assumes nothing.
use Rattle.std.specs.Prelude.{ℕ, ◌*◌, ◌≤◌, ◌<◌, ◌≡◌, Bool, false, List, length, Result}
use Rattle.std.proofs.Common.{arith, subst}
use Rattle.rules.specs.Project.{item_limit}
use Rattle.rules.specs.Items.{Group, ItemState, item_list, placed_of, visit_item, item_walk}
use Rattle.rules.specs.Walk.{Stop as Stopped}
use Rattle.rules.specs.Calls.{item_list_limit}
use Rattle.laws.specs.Splits.{size}
use Rattle.laws.proofs.ItemWalk.{walked-visit}
use Rattle.lists.specs.declared.chains.Chains.{Chains}
use Rattle.lists.specs.Pairs.{targets}
use Rattle.lists.specs.Stacks.{stack}
use Rattle.graph.specs.Rows.{Fits, Holds}
use Rattle.graph.specs.Graph.{neighbours_at}
use Rattle.graph.specs.Neighbours.{nodes_along}
use Rattle.layout.specs.declared.Group.{Group as GroupArrays}
use Rattle.walks.specs.declared.Outcome.{Outcome}
use Rattle.walks.specs.declared.Stop.{Stop}
use Rattle.walks.specs.Runs.{Came, Ran, CrowdedAt}
use Rattle.walks.specs.RunLaws.{came-as, ran-as}
use Rattle.stmt.specs.declared.arrays.Arrays.{Arrays}
use Rattle.stmt.specs.declared.slices.Links.{Links}
use Rattle.stmt.specs.declared.slices.Reads.{Reads}
use Rattle.stmt.specs.declared.walk.Crowded.{Crowded}
use Rattle.stmt.specs.declared.walk.ItemWalk.{ItemWalk}
use Rattle.stmt.specs.Walks.{Table, width, Shows as ArraysShow, Walking as ArraysWalk, IsAt as ArraysAt, SameVisits, Short}
use Rattle.stmt.specs.Slices.{Written, written, Chained, Laid, Shows, Walking, Comes}

-- Chains of a graph.
pub links-chained : {NEEDS n : ℕ} {neighbours : ℕ → List ℕ} (ends : List ℕ) (chains : Chains item_limit NEEDS) {links : Links} → links.ends.now ≡ ends
    → links.heads.now ≡ chains.heads → links.next.now ≡ chains.next → length ends ≡ NEEDS → n ≤ item_limit
    → ((x : ℕ) → x < n → neighbours_at ends chains x ≡ neighbours x) → Chained neighbours n links
unfolding nodes_along targets
links-chained ends chains e h q sized most along =
    record {
      count = length chains.next;
      ends-size = rw e (omega (arith, sized, chains.sizes));
      next-size = rw q (omega arith);
      heads-size = rw h (omega (arith, chains.sizes, most));
      heads-most = λ x _. rw h (chains.ascends.most x);
      next-onward = rw q chains.ascends.onward;
      along = rw (e, h, q) along;
    }

-- Rows of whole words.
pub rows-table : {WORDS words n nodes : ℕ} (cells : List ℕ) {test : ℕ → ℕ → Bool} → nodes ≡ n → length cells ≡ WORDS → Fits WORDS words nodes
    → Holds words nodes test cells → Table n (64 * words) cells test
rows-table {words = words} cells e sized fits holds =
    record {
      within = omega (arith, fits.numbers);
      most = omega (arith, fits.most);
      size = omega (arith, rw e at fits.size);
      bits = λ a b h k. holds a b (omega arith) (omega (arith, fits.numbers));
    }

module _ {WORDS ENTRIES : ℕ} where
  -- what arrays hold
  abbrev pub lent : Arrays WORDS ENTRIES → Written
  lent a = written a.placed a.moved a.«open» a.order a.list

  pub lent-shows : {n width : ℕ} {a : Arrays WORDS ENTRIES} {w : ItemWalk} {s : ItemState} → ArraysShow n width a w s → Shows n width (lent a) w s
  lent-shows {a = a} h =
      record {
        entries = h.entries;
        items = h.items;
        placed-size = omega (arith, h.most, a.placed_size);
        order-size = omega (arith, h.most, a.order_size);
        pairs = h.pairs;
      }

  pub lent-back : {n width : ℕ} {a : Arrays WORDS ENTRIES} {w : ItemWalk} {s : ItemState} → n ≤ item_limit → Shows n width (lent a) w s → ArraysShow n width a w s
  lent-back most h = record { most = most; entries = h.entries; items = h.items; pairs = h.pairs }

  module _ {NEEDS : ℕ} {g : Group} {group : GroupArrays WORDS NEEDS} {a : Arrays WORDS ENTRIES} {w : ItemWalk} {s : ItemState} (h : ArraysWalk g group a w s)
      (r : Reads) (wide : r.width ≡ width group) where
    pub lent-walks : Laid g r → Walking g r (lent a) w s
    lent-walks laid =
        record { laid = laid; shows = rw wide (lent-shows h.shows); room = omega (arith, h.shows.most, a.open_size); walked = h.walked }

    -- What comes of a visit over slices comes of the visit of the group that is laid out, and of the same visit of the group that is walked.
    pub arrays-shown : {a' : Arrays WORDS ENTRIES} {o : Outcome ItemWalk} → Comes (size g) r.width (lent a') (placed_of s) (visit_item g s) o
        → Came item_list_limit item_list placed_of (ArraysWalk g group a') (placed_of s) (visit_item g s) o
    arrays-shown = came-as (λ v q. record { laid = h.laid; shows = lent-back h.shows.most (rw wide at q); walked = walked-visit g h.laid.formed s h.walked })

    pub arrays-came : {walked : Group} {a' : Arrays WORDS ENTRIES} {o : Outcome ItemWalk} → SameVisits g walked
        → Comes (size g) r.width (lent a') (placed_of s) (visit_item g s) o
        → Came item_list_limit item_list placed_of (ArraysAt walked group a') (placed_of s) (visit_item walked s) o
    arrays-came {walked} {a'} {o} same c =
        subst (λ (t : ItemState). Came item_list_limit item_list placed_of (ArraysAt walked group a') (placed_of s) t o) (same.visits s)
        (came-as (λ v k. (g, same, k)) (arrays-shown c))

    -- What comes of a run over slices comes of the run on the arrays.
    pub arrays-ran : (walked : Group) {a' : Arrays WORDS ENTRIES} (count : ℕ) {stop : Stopped ItemState} {o : Result (ItemWalk × ℕ) (Stop Crowded)}
        → Ran stop (λ w t. Walking g r (lent a') w t × (stack a'.order count ≡ placed_of t))
        (CrowdedAt (λ w t. Walking g r (lent a') w t × ((item_walk walked).ended t ≡ false)) (λ w c. Short count (length a.list) w.end)) o
        → Ran stop (λ w t. stack a'.order count ≡ placed_of t)
        (CrowdedAt (λ w t. ArraysWalk g group a' w t × ((item_walk walked).ended t ≡ false)) (λ w c. Short count ENTRIES w.end)) o
    arrays-ran walked count =
        ran-as (λ w t k. k.1)
        (λ c k.
        record {
          numbers = k.numbers;
          state = k.state;
          shown = (record { laid = h.laid; shows = lent-back h.shows.most (rw wide at k.shown.0.shows); walked = k.shown.0.walked }, k.shown.1);
          crowded = rw a.list_size at k.crowded;
        })
