-- Laws of adding a group's needs. Assumes nothing.
use Prim.Native.Nat.{ℕ, suc, ◌*◌, ◌≤◌, ◌<◌}
use Rattle.std.proofs.Common.{arith, sym, ◌∙◌}
use Rattle.std.specs.Prelude.{◌≡◌, refl, Bool, true, false, ◌&&◌, Some, None, length}
use Rattle.std.proofs.Math.Path.{ap, subst}
use Rattle.std.proofs.Math.Bool.{and-false}
use mathlib.Core.List.{List, [], ◌∷◌, ◌++◌, map, reverse, reverse-cons, append_assoc, append-nil}
use Rattle.std.proofs.lemmas.List.{length-map, length-reverse}
use Rattle.rules.specs.Lists.{cons_if, keep, elem}
use Rattle.rules.specs.Project.{Need}
use Rattle.rules.specs.Items.{number_of, is_among, numbered}
use Rattle.laws.specs.Lists.{Tested, holds, fails, tested, length-parts}
use Rattle.laws.specs.Orders.{and-true}
use Rattle.project.specs.Decoded.{need_row_at, need_in}
use Rattle.project.specs.declared.sections.NeedRow.{NeedRow}
use Rattle.project.specs.declared.NodeId.{NodeId}
use Rattle.lists.specs.Chained.{places}
use Rattle.lists.specs.ChainedLaws.{places-none}
use Rattle.owners.specs.Owners.{need_at, NeedsAlong}
use Rattle.split.specs.declared.Split.{Split}
use Rattle.graph.specs.declared.Graph.{Graph}
use Rattle.graph.specs.Rows.{words_for}
use Rattle.graph.specs.Graph.{Shows as GraphShows, matrices_of, EdgeRoom, EdgeAdded}
use Rattle.graph.specs.GraphLaws.{edge-room}
use Rattle.layout.specs.Numbers.{NumberedAs, is-in, is-out}
use Rattle.layout.specs.Needs.{needs_among, add_need, add_needs, Shows, NeedRoom, Adding}

-- A need is added where both ends have numbers, and else not.
among-fails : (rows : List ℕ) (n : Need) → is_among rows n ≡ false → (graph : List Need) → add_need rows graph n ≡ graph
unfolding add_need cons_if
among-fails rows n e graph = rw e

among-holds : (rows : List ℕ) (n : Need) → is_among rows n ≡ true → (graph : List Need) → add_need rows graph n ≡ numbered rows n ∷ graph
unfolding add_need cons_if
among-holds rows n e graph = rw e

most-one : (rows : List ℕ) (graph : List Need) (n : Need) → length (add_need rows graph n) ≤ suc (length graph)
most-one rows graph n = go (tested (is_among rows n))
  where
    go : Tested (is_among rows n) → length (add_need rows graph n) ≤ suc (length graph)
    go (holds e) = rw (among-holds rows n e graph) (omega arith)
    go (fails e) = rw (among-fails rows n e graph) (omega arith)

-- What numbers that were found say of their rows.
no_number : {rows : List ℕ} {row : ℕ} → NumberedAs rows row None → elem row rows ≡ false
no_number (is-out e) = e

a-number : {rows : List ℕ} {row : ℕ} {x : NodeId} → NumberedAs rows row (Some x) → (elem row rows ≡ true) × (number_of rows row ≡ x.0) × (x.0 < length rows)
a-number (is-in e f h) = (e, f, h)

module _ (rows : List ℕ) (need : NeedRow) (graph : List Need) where
  pub no-dependant : NumberedAs rows need.dependant.0 None → add_need rows graph (need_in need) ≡ graph
  unfolding is_among
  no-dependant e = among-fails rows (need_in need) (rw (no_number e)) graph

  pub no-dependency : NumberedAs rows need.dependency.0 None → add_need rows graph (need_in need) ≡ graph
  unfolding is_among
  no-dependency e =
      among-fails rows (need_in need) (ap (λ (t : Bool). elem need.dependant.0 rows && t) (no_number e) ∙ and-false (elem need.dependant.0 rows)) graph

  -- both ends have numbers
  module _ {x y : NodeId} (first : NumberedAs rows need.dependant.0 (Some x)) (second : NumberedAs rows need.dependency.0 (Some y))
      {WORDS NEEDS : ℕ} {s : Split} {g : Graph WORDS NEEDS} (size : length rows ≡ s.count) (room : NeedRoom graph s g) where
    pub need-room : EdgeRoom g.weak.words g.nodes x.0 y.0 (matrices_of g) g.pairs.from g.pairs.to g.pairs.count
    need-room =
        edge-room room.shows.shown x.0 y.0 (omega (arith, (a-number first).2, room.shows.nodes-are)) (omega (arith, (a-number second).2, room.shows.nodes-are))
        (omega (arith, room.room, g.pairs.sizes)) (omega (arith, room.room, g.pairs.sizes))

    pub need-shown : {h : Graph WORDS NEEDS} → h.nodes ≡ g.nodes → h.weak.words ≡ g.weak.words
        → EdgeAdded g.weak.words g.nodes x.0 y.0 need.weight.0 (matrices_of g) g.pairs.from g.pairs.to g.pairs.count (matrices_of h) h.pairs.from h.pairs.to h.pairs.count
        → Shows (add_need rows graph (need_in need)) s h
    unfolding is_among numbered
    need-shown nodes words added =
        let d = a-number first in
        let e = a-number second in
        record {
          nodes-are = nodes ∙ room.shows.nodes-are;
          words-are = words ∙ room.shows.words-are;
          shown =
              rw (nodes, words, among-holds rows (need_in need) (and-true d.0 e.0) graph, d.1, e.1)
              (added.shows graph room.shows.shown);
        }

-- All that are added stand in front, the last foremost.
adds-all : (rows : List ℕ) (graph needs : List Need) → add_needs rows graph needs ≡ reverse (needs_among rows needs) ++ graph
unfolding add_needs keep cons_if
adds-all rows graph [] = refl
adds-all rows graph (n ∷ needs) = adds-all rows (add_need rows graph n) needs ∙ go (tested (is_among rows n))
  where
    go : Tested (is_among rows n)
        → reverse (needs_among rows needs) ++ add_need rows graph n ≡ reverse (map (numbered rows) (cons_if (is_among rows n) n (keep (is_among rows) needs))) ++ graph
    go (holds e) = rw (among-holds rows n e graph, e, reverse-cons, append_assoc)
    go (fails e) = rw (among-fails rows n e graph, e)

-- No needs.
pub none-along : {section next : List ℕ} {entry : ℕ} {own : List Need} → NeedsAlong section next entry own → entry ≡ 0 → own ≡ []
none-along {section} {next} {entry} a e = sym a.along ∙ ap (map (need_at section)) (places-none next entry e)

pub shows_none : {WORDS NEEDS : ℕ} {s : Split} {g : Graph WORDS NEEDS} → g.nodes ≡ s.count → g.weak.words ≡ words_for s.count → g.pairs.count ≡ 0
    → GraphShows (words_for s.count) s.count [] (matrices_of g) g.pairs.from g.pairs.to 0 → Shows [] s g
shows_none nodes words none shown = record { nodes-are = nodes; words-are = words; shown = rw (words, nodes, none) shown }

-- Adding them along a chain, one after the other.
module _ {section next : List ℕ} {entry : ℕ} {needs : List Need} (a : NeedsAlong section next entry needs) {rows : List ℕ} {WORDS NEEDS : ℕ}
    {s : Split} {g : Graph WORDS NEEDS} where
  pub adding-start : Shows [] s g → Adding rows section (places next entry) needs s g
  adding-start shows =
      record {
        graph = [];
        shows = shows;
        left = omega (arith, ap length a.along, length-map (places next entry) (need_at section));
        same = ap (add_needs rows []) a.along;
      }

module _ {rows section left : List ℕ} {needs : List Need} {s : Split} {WORDS NEEDS : ℕ} {g : Graph WORDS NEEDS} (d : Adding rows section left needs s g) where
  pub adding-room : {place : ℕ} {rest : List ℕ} → left ≡ place ∷ rest → length needs ≤ NEEDS → NeedRoom d.graph s g
  adding-room e most = record { shows = d.shows; room = omega (arith, d.left, ap length e) }

  pub adding-next : {place : ℕ} {rest : List ℕ} {row : NeedRow} {h : Graph WORDS NEEDS} → left ≡ place ∷ rest → row ≡ need_row_at section (3 * place)
      → Shows (add_need rows d.graph (need_in row)) s h → Adding rows section rest needs s h
  unfolding add_needs need_at
  adding-next {place} {h = h} e read shown =
      record {
        graph = add_need rows d.graph (need_at section place);
        shows = subst (λ (r : NeedRow). Shows (add_need rows d.graph (need_in r)) s h) read shown;
        left = omega (arith, d.left, ap length e, most-one rows d.graph (need_at section place));
        same = rw e at d.same;
      }

  pub adding-end : left ≡ [] → Shows (reverse (needs_among rows needs)) s g
  unfolding add_needs
  adding-end e = rw (← adds-some, ← (rw e at d.same)) d.shows
    where
      adds-some : add_needs rows [] needs ≡ reverse (needs_among rows needs)
      adds-some = adds-all rows [] needs ∙ append-nil (reverse (needs_among rows needs))

-- No more needs are laid out than there are.
pub among-few : (rows : List ℕ) (needs : List Need) → length (reverse (needs_among rows needs)) ≤ length needs
among-few rows needs =
    omega (
      arith,
      length-reverse (needs_among rows needs),
      length-map (keep (is_among rows) needs) (numbered rows),
      length-parts (is_among rows) needs,
    )
