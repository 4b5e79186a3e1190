-- Laws of the first state: cleared rows of bits and the first list show it. Assumes nothing.
use Rattle.std.specs.Prelude.{ℕ, ◌+◌, ◌*◌, ◌/◌, ◌≤◌, ◌<◌, ◌≡◌, false, length, take, drop, replicate}
use Rattle.std.proofs.Common.{arith, refl, sym, ap, ◌∙◌, length-take-le, length-append}
use Rattle.std.proofs.Math.ListN.{get_or, get_or-append}
use Rattle.std.proofs.lemmas.List.{length-replicate, get_or-replicate, drop_at}
use mathlib.Core.List.{List, [], ◌++◌, append-nil}
use Rattle.rules.specs.Lists.{any, elem}
use Rattle.rules.specs.Items.{Group, first_list, has_moved, item_list, placed_of, item_start}
use Rattle.laws.specs.Splits.{size}
use Rattle.lists.specs.Bits.{bit_at}
use Rattle.lists.specs.BitLaws.{bit-none, cell_below}
use Rattle.lists.specs.Stacks.{stack}
use Rattle.layout.specs.declared.Group.{Group as GroupArrays}
use Rattle.stmt.specs.declared.arrays.Arrays.{Arrays}
use Rattle.stmt.specs.declared.walk.ItemWalk.{ItemWalk}
use Rattle.stmt.specs.Walks.{moved_of, width, Listed, Shows, Clearable, Started, Startable}

-- A row of words whose first n were cleared holds none of their bits.
cleared-bit : (n : ℕ) {words : List ℕ} (rest : List ℕ) → words ≡ replicate n 0 → (k : ℕ) → k < n * 64 → bit_at (words ++ rest) k ≡ false
unfolding bit_at
cleared-bit n {words} rest e k h =
    let below : k / 64 < n = omega arith in
    bit-none _ _
    (get_or-append words rest 0 (k / 64) (rw e (rw length-replicate below)) ∙ ap (λ (l : List ℕ). get_or l (k / 64) 0) e ∙ get_or-replicate n (k / 64) 0 0 below)

-- What stands behind the first n words of a slice stays where these are cleared.
pub beyond : (n : ℕ) (words : List ℕ) → n ≤ length words → {front : List ℕ} → front ≡ replicate (length (take n words)) 0
    → drop n (front ++ drop n words) ≡ drop n words
beyond n words h {front} none =
    drop_at front (drop n words) n (ap length none ∙ length-replicate {A = ℕ} (length (take n words)) 0 ∙ length-take-le n words h)

module _ {g : Group} {count words : ℕ} {placed moved : List ℕ} (h : Clearable g count words placed moved) where
  pub pairs-fit : count * words ≤ length moved
  pairs-fit = rw h.count-is h.moved-size

  pub started : {row pairs : List ℕ} → row ≡ replicate (length placed) 0 → pairs ≡ replicate (length (take (count * words) moved)) 0 → {list : List ℕ} {end : ℕ}
      → Listed list end (first_list g) → Started g (64 * words) row (pairs ++ drop (count * words) moved) list (record { end = end; placed = 0 })
  unfolding item_start item_list placed_of moved_of has_moved elem any stack
  started {row} {pairs} row-none pairs-none l =
      let pairs-taken : length (take (count * words) moved) ≡ count * words = length-take-le (count * words) moved pairs-fit in
      let rows : count * words ≡ size g * words = ap (λ (n : ℕ). n * words) h.count-is in
      record {
        entries = l;
        row-size = omega (arith, h.within, h.placed-size, ap length row-none, length-replicate {A = ℕ} (length placed) 0);
        items =
            λ order.
            record {
              bits =
                  λ x k.
                  ap (λ (l : List ℕ). bit_at l x) (sym (append-nil row))
                  ∙ cleared-bit (length placed) [] row-none x (omega (arith, h.within, h.placed-size));
              shown = refl;
            };
        pairs =
            record {
              within = h.within;
              most = h.most;
              size =
                  omega (
                    arith,
                    rows,
                    pairs-taken,
                    ap length pairs-none,
                    length-replicate {A = ℕ} (length (take (count * words) moved)) 0,
                    length-append pairs (drop (count * words) moved),
                  );
              bits =
                  λ x d f k.
                  let below = cell_below (64 * words) (size g) x d f (omega (arith, h.within)) in
                  cleared-bit (length (take (count * words) moved)) (drop (count * words) moved) pairs-none (x * (64 * words) + d) (omega (arith, rows, pairs-taken));
            };
      }

-- The same of a group laid out and the walk's arrays.
module _ {WORDS NEEDS ENTRIES : ℕ} {g : Group} {group : GroupArrays WORDS NEEDS} (h : Startable g group ENTRIES) where
  pub clearable : (a : Arrays WORDS ENTRIES) → Clearable g group.split.count group.graph.weak.words a.placed a.moved
  clearable a =
      record {
        count-is = h.count-is;
        within = h.within;
        most = omega (arith, group.graph.fits);
        placed-size = omega (arith, group.graph.fits, a.placed_size);
        moved-size = omega (arith, h.rows-room, a.moved_size);
      }

  pub shows-started : {a : Arrays WORDS ENTRIES} {w : ItemWalk} → Started g (width group) a.placed a.moved a.list w
      → Shows (size g) (width group) a w (item_start g)
  shows-started {a} s =
      record {
        most = omega (arith, h.count-is, group.split.counts);
        entries = s.entries;
        items = s.items a.order;
        pairs = s.pairs;
      }
