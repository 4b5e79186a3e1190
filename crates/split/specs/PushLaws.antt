-- Laws of loops that put entries in front of a list on an array, the last ones first. Assumes nothing.
use Rattle.std.specs.Prelude.{ℕ, zero, suc, ◌+◌, ◌-◌, ◌≤◌, ◌<◌, ◌≡◌, refl, length, drop, set}
use Rattle.std.proofs.Common.{arith, sym, ap, ◌∙◌, length-append, drop-drop, drop-set-lt, length-set, append-nil, append_assoc}
use mathlib.Core.List.{List, [], ◌∷◌, ◌++◌}
use Rattle.std.specs.List.{push}
use Rattle.std.proofs.lemmas.List.{nil_from_length}
use Rattle.rules.specs.Lists.{up_from}
use Rattle.lists.specs.Stacks.{stack}
use Rattle.lists.specs.StackLaws.{stack_push}
use Rattle.split.specs.Pushed.{Pushed}

-- Entries put in front: none, one, and more of them.
drop-further : (n k : ℕ) (a b : List ℕ) → n ≤ k → drop n a ≡ drop n b → drop k a ≡ drop k b
drop-further n k a b h e =
    let q : k ≡ n + (k - n) = omega arith in
    ap (λ (i : ℕ). drop i a) q ∙ sym (drop-drop (k - n) n a) ∙ ap (drop (k - n)) e ∙ drop-drop (k - n) n b ∙ sym (ap (λ (i : ℕ). drop i b) q)

pub pushed_none : (list : List ℕ) (n : ℕ) → Pushed [] list n list n
pushed_none list n = record { shown = refl; count = omega arith; rest = refl }

pub pushed_one : (list : List ℕ) (n x : ℕ) → n < length list → Pushed (x ∷ []) list n (set list n x) (n + 1)
pushed_one list n x h = record { shown = stack_push list n x h; count = omega arith; rest = drop-set-lt (n + 1) list n x (omega arith) }

pub pushed_more : {entries more list₀ list list' : List ℕ} {n₀ n n' : ℕ} → Pushed entries list₀ n₀ list n → Pushed more list n list' n'
    → Pushed (more ++ entries) list₀ n₀ list' n'
pushed_more {entries} {more} {list₀} {list} {list'} {n₀} {n} {n'} p q =
    record {
      shown = q.shown ∙ ap (λ (l : List ℕ). more ++ l) p.shown ∙ sym (append_assoc more entries (stack list₀ n₀));
      count = omega (arith, p.count, q.count, length-append more entries);
      rest = q.rest ∙ drop-further n n' list list₀ (omega (arith, q.count)) p.rest;
    }

-- In the midst of it: the last entries are done, and what `f` makes of them is in front of the list.
pub record Pushing (f : List ℕ → List ℕ) (entries rest list₀ : List ℕ) (n₀ : ℕ) (list : List ℕ) (n : ℕ) : Type 0 where
  pub done : List ℕ
  pub parts : entries ≡ rest ++ done
  pub pushed : Pushed (f done) list₀ n₀ list n
  pub size : length list ≡ length list₀

module _ (f : List ℕ → List ℕ) where
  pub pushing-start : (entries list : List ℕ) (n : ℕ) → f [] ≡ [] → Pushing f entries entries list n list n
  pushing-start entries list n e = record { done = []; parts = sym (append-nil entries); pushed = rw e (pushed_none list n); size = refl }

  module _ {entries rest list₀ : List ℕ} {n₀ : ℕ} {list : List ℕ} {n : ℕ} (s : Pushing f entries rest list₀ n₀ list n) where
    pub pushing-more : {l list' : List ℕ} {x n' : ℕ} (front : List ℕ) → rest ≡ push l x → f (x ∷ s.done) ≡ front ++ f s.done → Pushed front list n list' n'
        → length list' ≡ length list → Pushing f entries l list₀ n₀ list' n'
    pushing-more {l} {x = x} front e whole p size =
        record {
          done = x ∷ s.done;
          parts = s.parts ∙ ap (λ (k : List ℕ). k ++ s.done) e ∙ append_assoc l (x ∷ []) s.done;
          pushed = rw whole (pushed_more s.pushed p);
          size = size ∙ s.size;
        }

    pub pushing-end : length rest ≡ 0 → Pushed (f entries) list₀ n₀ list n
    pushing-end e = rw (ap f (s.parts ∙ ap (λ (k : List ℕ). k ++ s.done) (nil_from_length rest e))) s.pushed

-- The same of the entries themselves.
abbrev pub PushingEntries : List ℕ → List ℕ → List ℕ → ℕ → List ℕ → ℕ → Type 0
PushingEntries = Pushing (λ l. l)

module _ {entries rest list₀ : List ℕ} {n₀ : ℕ} {list : List ℕ} {n : ℕ} (s : PushingEntries entries rest list₀ n₀ list n) where
  pub entry-room : (l : List ℕ) (x : ℕ) → rest ≡ push l x → n₀ + length entries ≤ length list₀ → n < length list
  entry-room l x e h =
      omega (arith, s.size, s.pushed.count, ap length s.parts, length-append rest s.done, ap length e, length-append l (x ∷ []))

  pub entry-next : {l : List ℕ} (x : ℕ) → rest ≡ push l x → n < length list → PushingEntries entries l list₀ n₀ (set list n x) (n + 1)
  entry-next x e h = pushing-more (λ l. l) s (x ∷ []) e refl (pushed_one list n x h) (simp length-set)

-- The numbers from `low` on and below x: those below x - 1, and this.
up_from-last : (a n : ℕ) → up_from a (suc n) ≡ push (up_from a n) (a + n)
unfolding up_from
up_from-last a zero = let e : a + 0 ≡ a = omega arith in rw e
up_from-last a (suc n) = let e : a + suc n ≡ suc a + n = omega arith in rw e (ap (λ (l : List ℕ). a ∷ l) (up_from-last (suc a) n))

pub numbers-last : (low x : ℕ) → low < x → up_from low (x - low) ≡ push (up_from low (x - 1 - low)) (x - 1)
numbers-last low x h =
    let e : x - low ≡ suc (x - 1 - low) = omega arith in
    let d : low + (x - 1 - low) ≡ x - 1 = omega arith in
    ap (up_from low) e ∙ up_from-last low (x - 1 - low) ∙ ap (push (up_from low (x - 1 - low))) d
