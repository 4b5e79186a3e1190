-- How the groups of an order call are sorted in turn: each gives the rows of the kept items that belong to it, behind those of the groups before
-- it. Assumes nothing.
use Rattle.std.specs.Prelude.{ℕ, ◌-◌, ◌≡◌, refl, ◌⊎◌, Bool, true, false, ◌&&◌}
use Rattle.std.proofs.Common.{arith, ap, ◌∙◌, inl, inr, ⊎_elim}
use Rattle.std.proofs.Math.Path.{sym, subst}
use Rattle.std.proofs.Math.Bool.{not}
use mathlib.Core.List.Memᴰ
use mathlib.Core.List.{List, [], ◌∷◌, ◌++◌, append-nil, append_assoc, reverse, reverse_aux}
use Rattle.rules.specs.Lists.{is_empty, elem, keep, Reaches}
use Rattle.rules.specs.Project.{Need, Project}
use Rattle.rules.specs.Walk.{Stop, finished, spent, full}
use Rattle.rules.specs.Modules.{is_done}
use Rattle.rules.specs.Paths.{DependsOn, ReachesItem}
use Rattle.rules.specs.Items.{kept_rows_of, giving_modules, given_rows, keeps_row_order, is_among, kind_at, sort_modules, sort_group}
use Rattle.rules.specs.Calls.{continue_with, order_groups}
use Rattle.laws.specs.OrderCalls.{EachOnce}
use Rattle.laws.specs.Lists.{◌∈◌, next, false≢true, both, not-true, Tested, holds, fails, tested, elem-true, keep-∈, ∈-keep, reverse-∈, ∈-reverse, mem?, ∈-append, ∈-left, ∈-right, ∈-self, Once, none, once-append}
use Rattle.laws.specs.Counting.{∈-is_empty}
use Rattle.laws.specs.Orders.{and-true, Before, before-append, before-right, before-across, before-first}
use Rattle.laws.specs.PathLaws.{reaches-map}
use Rattle.laws.specs.ModuleVisit.{∈-is_done, is_done-∈, is_done-cons, undone-cons}
use Rattle.laws.proofs.Splits.{kept_rows-∈, ∈-kept_rows, ∈-kept_rows_of, given_rows-∈, ∈-given_rows, once-given_rows, giving}
use Rattle.laws.proofs.GroupOrder.{MayPrecede, sorted}
use Rattle.laws.specs.Terms.{Kept, module_of, BelongsTo, GroupNeeds}

-- The groups sorted in turn, `earlier` being those before them, latest first, and the rows that they give.
pub data InTurn (p : Project) (limit : ℕ) : List (List ℕ) → List (List ℕ) → List ℕ → Type 0 where
  all-sorted : {earlier : List (List ℕ)} → InTurn p limit earlier [] []
  sorted-next : {earlier groups : List (List ℕ)} {group rows rest : List ℕ} (left made total : ℕ)
      → sort_group p earlier group limit left made ≡ finished rows total → InTurn p limit (group ∷ earlier) groups rest
      → InTurn p limit earlier (group ∷ groups) (rows ++ rest)

-- What a run that goes on has finished before.
continued : (stop : Stop (List ℕ)) (rest : List ℕ → ℕ → Stop (List ℕ)) {out : List ℕ} {total : ℕ} → continue_with stop rest ≡ finished out total
    → (rows : List ℕ) × (made : ℕ) × (stop ≡ finished rows made) × (rest rows made ≡ finished out total)
unfolding continue_with
continued (finished rows made) rest e = (rows, made, refl, e)
continued (spent made) rest e = let z : ◌≡◌ {A = ℕ} 0 1 = cc in absurd (omega arith)
continued (full made) rest e = let z : ◌≡◌ {A = ℕ} 0 1 = cc in absurd (omega arith)

module _ (p : Project) (limit allowance : ℕ) where
  pub in-turn : (earlier groups : List (List ℕ)) (rows : List ℕ) (made : ℕ) {out : List ℕ} {total : ℕ}
      → order_groups p limit allowance earlier groups rows made ≡ finished out total
      → (rest : List ℕ) × (out ≡ rows ++ rest) × InTurn p limit earlier groups rest
  unfolding order_groups
  in-turn earlier [] rows made {out} {total} e = let f : rows ≡ out = cc in ([], sym f ∙ sym (append-nil rows), all-sorted)
  in-turn earlier (group ∷ groups) rows made e =
      let c =
      continued (sort_group p earlier group limit (allowance - made) made)
      (λ more n. order_groups p limit allowance (group ∷ earlier) groups (rows ++ more) n) e in
      let r = in-turn (group ∷ earlier) groups (rows ++ c.0) c.1 c.3 in
      (c.0 ++ r.0, r.1 ∙ append_assoc rows c.0 r.0, sorted-next (allowance - made) made c.1 c.2 r.2)

-- A module is undone exactly where no group lists it.
undone : {groups : List (List ℕ)} {m : ℕ} → ((g : List ℕ) → g ∈ groups → m ∈ g → ⊥) → is_done groups m ≡ false
undone {groups} {m} unlisted = go (tested (is_done groups m))
  where
    go : Tested (is_done groups m) → is_done groups m ≡ false
    go (holds e) = let r = is_done-∈ groups e in absurd (unlisted r.0 r.1 r.2)
    go (fails e) = e

unlisted-before : {groups : List (List ℕ)} {m : ℕ} → is_done groups m ≡ false → (g : List ℕ) → g ∈ groups → m ∈ g → ⊥
unlisted-before e g h k = false≢true (sym e ∙ ∈-is_done h k)

undone-both : {group : List ℕ} (earlier : List (List ℕ)) {m : ℕ} → (m ∈ group → ⊥) → is_done earlier m ≡ false → is_done (group ∷ earlier) m ≡ false
undone-both {group} earlier {m} n u = go (tested (is_done (group ∷ earlier) m))
  where
    go : Tested (is_done (group ∷ earlier) m) → is_done (group ∷ earlier) m ≡ false
    go (holds e) = ⊎_elim (λ h. absurd (n h)) (λ h. absurd (false≢true (sym u ∙ h))) (is_done-cons group earlier e)
    go (fails e) = e

-- The rows of one group: those of the kept items that belong to it.
module _ (p : Project) (earlier : List (List ℕ)) (group : List ℕ) where
  abbrev givers : List ℕ
  givers = giving_modules p earlier group

  abbrev gives : ℕ → Bool
  gives m = not (is_done earlier m) && not (is_empty (kept_rows_of p m))

  pub given-belongs : {row : ℕ} → row ∈ given_rows p givers → BelongsTo p earlier group row
  unfolding giving_modules
  given-belongs {row} h =
      let r = given_rows-∈ p (giving_modules p earlier group) h in
      let g = keep-∈ gives (reverse group) r.1 in
      record {
        kept_item = kept_rows-∈ p r.0;
        listed = reverse-∈ group g.0;
        first = unlisted-before (not-true (both {a = not (is_done earlier (module_of p row))} g.1).0);
      }

  belongs-given : {row : ℕ} → BelongsTo p earlier group row → row ∈ given_rows p givers
  unfolding giving_modules
  belongs-given {row} b =
      let k = ∈-kept_rows p b.kept_item in
      ∈-given_rows p k
      (∈-keep gives (∈-reverse b.listed) (and-true (ap not (undone b.first)) (ap not (∈-is_empty (∈-kept_rows_of p k)))))

  -- When a may stand before b, which it depends on in the group.
  abbrev pub MayStandBefore : ℕ → ℕ → Type 0
  MayStandBefore a b =
      (kind_at p a ≡ 4 → ⊥)
      × (((kind_at p b ≡ 4 → ⊥) × (module_of p a ≡ module_of p b)) ⊎ Reaches (GroupNeeds p earlier group) b a)

  pub record Segment (rows : List ℕ) : Type 0 where
    pub once : Once rows
    pub only : (row : ℕ) → row ∈ rows → BelongsTo p earlier group row
    pub every : (row : ℕ) → BelongsTo p earlier group row → row ∈ rows
    pub dependencies : keeps_row_order p group ≡ false → (a b : ℕ) → DependsOn p.needs a b → Before a b rows → MayStandBefore a b

  -- the group's dependencies, as rows
  group-needs : {a b : ℕ} → DependsOn (keep (is_among (given_rows p givers)) p.needs) a b → GroupNeeds p earlier group a b
  unfolding is_among
  group-needs (n, m, e, f) =
      let rows = given_rows p givers in
      let k = keep-∈ (is_among rows) p.needs m in
      let t = both {a = elem n.dependant rows} k.1 in
      record {
        need = (n, k.0, e, f);
        from = subst (BelongsTo p earlier group) e (given-belongs (elem-true rows t.0));
        to = subst (BelongsTo p earlier group) f (given-belongs (elem-true rows t.1));
      }

  group-reaches : {a b : ℕ} → ReachesItem (keep (is_among (given_rows p givers)) p.needs) a b → Reaches (GroupNeeds p earlier group) a b
  group-reaches r = reaches-map (λ x. x) (λ x y n. group-needs n) r

  may-stand : (n : Need) {a b : ℕ} → n.dependant ≡ a → n.dependency ≡ b → MayPrecede p givers n.dependant n.dependency → MayStandBefore a b
  may-stand n e f (u, r) = rw (← e, ← f) (u, ⊎_elim (λ h. inl h) (λ h. inr (group-reaches h)) r)

  -- The two kinds of group.
  module _ (unique : Once group) (limit left made : ℕ) {rows : List ℕ} {total : ℕ} where
    unsorted : keeps_row_order p group ≡ true → sort_group p earlier group limit left made ≡ finished rows total → Segment rows
    unfolding sort_group
    unsorted k e =
        let f : finished (given_rows p givers) made ≡ finished rows total = rw (k, sort_group) at e in
        let g : given_rows p givers ≡ rows = cc in
        rw (← g)
        (record {
          once = once-given_rows p (giving p earlier unique).once;
          only = λ row m. given-belongs m;
          every = λ row b. belongs-given b;
          dependencies = λ n. absurd (false≢true (sym n ∙ k));
        })

    walked : keeps_row_order p group ≡ false → sort_group p earlier group limit left made ≡ finished rows total → Segment rows
    unfolding sort_group
    walked k e =
        let f : sort_modules p givers limit left made ≡ finished rows total = rw (k, sort_group) at e in
        let s = sorted p givers (giving p earlier unique) limit left made f in
        record {
          once = s.once;
          only = λ row m. given-belongs (s.only-given row m);
          every = λ row b. s.all-given row (belongs-given b);
          dependencies = λ n a b d h. may-stand d.0 d.2 d.3 (s.dependencies d.0 d.1 (rw (d.2, d.3) h));
        }

    pub segment : sort_group p earlier group limit left made ≡ finished rows total → Segment rows
    segment e = go (tested (keeps_row_order p group))
      where
        go : Tested (keeps_row_order p group) → Segment rows
        go (holds k) = unsorted k e
        go (fails k) = walked k e

-- Where each entry of two joined lists stands once, none is in both.
once-right : {A : Type 0} (l : List A) {k : List A} → Once (l ++ k) → Once k
once-right [] o = o
once-right (x ∷ l) (next n o) = once-right l o

once-apart : {A : Type 0} {x : A} {l k : List A} → x ∈ l → x ∈ k → Once (l ++ k) → ⊥
once-apart (Memᴰ.head {xs = l} e) m (next n o) = n (Memᴰ.cast (sym e) (∈-right l m))
once-apart (Memᴰ.tail h) m (next n o) = once-apart h m o

-- All groups in turn: the rows of the kept items whose module one of them lists and no earlier group does, each once.
pub record Rows (p : Project) (earlier groups : List (List ℕ)) (rows : List ℕ) : Type 0 where
  pub once : Once rows
  pub kept : (row : ℕ) → row ∈ rows → Kept p row
  pub undone-before : (row : ℕ) → row ∈ rows → is_done earlier (module_of p row) ≡ false
  pub every : (row : ℕ) → Kept p row → is_done earlier (module_of p row) ≡ false → is_done groups (module_of p row) ≡ true → row ∈ rows

module _ (p : Project) (limit : ℕ) where
  pub rows-in-turn : {earlier groups : List (List ℕ)} {rows : List ℕ} → EachOnce groups → InTurn p limit earlier groups rows → Rows p earlier groups rows
  rows-in-turn unique all-sorted =
      record {
        once = none;
        kept = λ row m. absurd (Memᴰ.not-nil m);
        undone-before = λ row m. absurd (Memᴰ.not-nil m);
        every = λ row k u d. absurd (Memᴰ.not-nil (is_done-∈ [] d).1);
      }
  rows-in-turn unique (sorted-next {earlier = earlier} {groups = groups} {group = group} {rows = rows} {rest = rest} left made total e turn) =
      let s = segment p earlier group (unique group ∈-self) limit left made e in
      let r = rows-in-turn (λ g m. unique g (Memᴰ.tail m)) turn in
      record {
        once = once-append s.once r.once (λ row h k. (undone-cons group earlier (module_of p row) (r.undone-before row k)).0 (s.only row h).listed);
        kept = λ row m. ⊎_elim (λ h. (s.only row h).kept_item) (λ h. r.kept row h) (∈-append rows m);
        undone-before = λ row m.
            ⊎_elim (λ h. undone (s.only row h).first) (λ h. (undone-cons group earlier (module_of p row) (r.undone-before row h)).1) (∈-append rows m);
        every = λ row k u d.
            ⊎_elim
            (λ m. ∈-left rest (s.every row (record { kept_item = k; listed = m; first = unlisted-before u })))
            (λ n. ∈-right rows (r.every row k (undone-both earlier n u) (⊎_elim (λ m. absurd (n m)) (λ h. h) (is_done-cons group groups d))))
            (mem? (module_of p row) group);
      }

  -- The segment of one of the groups.
  pub located : (pre post earlier : List (List ℕ)) (group : List ℕ) {rows : List ℕ} → EachOnce (pre ++ (group ∷ post))
      → InTurn p limit earlier (pre ++ (group ∷ post)) rows
      → (front mid back : List ℕ) × (rows ≡ front ++ (mid ++ back)) × Segment p (reverse_aux pre earlier) group mid
  located [] post earlier group unique (sorted-next {rows = rows} {rest = rest} left made total e turn) =
      ([], rows, rest, refl, segment p earlier group (unique group ∈-self) limit left made e)
  located (g ∷ pre) post earlier group unique (sorted-next {rows = rows} {rest = rest} left made total e turn) =
      let r = located pre post (g ∷ earlier) group (λ h m. unique h (Memᴰ.tail m)) turn in
      (rows ++ r.0, r.1, r.2, ap (λ (l : List ℕ). rows ++ l) r.3 ∙ sym (append_assoc rows r.0 (r.1 ++ r.2)), r.4)

-- Of two entries in the middle the order is that of the middle, where each entry stands once.
before-middle : (front mid back : List ℕ) {a b : ℕ} → Once (front ++ (mid ++ back)) → a ∈ mid → b ∈ mid → Before a b (front ++ (mid ++ back)) → Before a b mid
before-middle front mid back o h k w =
    ⊎_elim (λ x. absurd (once-apart (before-first x) (∈-left back h) o))
    (λ x. ⊎_elim
    (λ y. ⊎_elim (λ z. z)
    (λ z. ⊎_elim (λ v. absurd (once-apart h (before-first v) (once-right front o))) (λ v. absurd (once-apart k v.1 (once-right front o))) z)
    (before-append mid y))
    (λ y. absurd (once-apart y.0 (∈-left back h) o)) x)
    (before-append front w)

-- Which groups come before is all that counts of them, and not their order.
module _ (p : Project) (group : List ℕ) where
  again : {k l : List (List ℕ)} → ((g : List ℕ) → g ∈ k → g ∈ l) → {row : ℕ} → BelongsTo p l group row → BelongsTo p k group row
  again f b = record { kept_item = b.kept_item; listed = b.listed; first = λ g m. b.first g (f g m) }

  may-again : (k l : List (List ℕ)) → ((g : List ℕ) → g ∈ k → g ∈ l) → {a b : ℕ} → MayStandBefore p l group a b → MayStandBefore p k group a b
  may-again k l f (u, r) = (
    u,
    ⊎_elim (λ h. inl h)
        (λ h. inr (reaches-map (λ x. x) (λ x y n. record { need = n.need; from = again f n.from; to = again f n.to }) h)) r,
  )

module _ (p : Project) (limit : ℕ) (earlier later : List (List ℕ)) (group : List ℕ) {rows : List ℕ} where
  -- Two items of one sorted group, one of which depends on the other.
  pub within-group : EachOnce (earlier ++ (group ∷ later)) → InTurn p limit [] (earlier ++ (group ∷ later)) rows → keeps_row_order p group ≡ false
      → (a b : ℕ) → GroupNeeds p earlier group a b → Before a b rows → MayStandBefore p earlier group a b
  within-group unique turn k a b n h =
      let r = located p limit earlier later [] group unique turn in
      let s = r.4 in
      let o = rw r.3 at (rows-in-turn p limit unique turn).once in
      let x = s.every a (again p group (λ g m. reverse-∈ earlier m) n.from) in
      let y = s.every b (again p group (λ g m. reverse-∈ earlier m) n.to) in
      may-again p group earlier (reverse earlier) (λ g m. ∈-reverse m)
      (s.dependencies k a b n.need (before-middle r.0 r.1 r.2 o x y (rw r.3 at h)))

-- Every group that lists m comes after one that lists n.
pub data After (m n : ℕ) : List (List ℕ) → List (List ℕ) → Type 0 where
  none_left : {earlier : List (List ℕ)} → After m n earlier []
  then-after : {earlier groups : List (List ℕ)} {group : List ℕ} → (m ∈ group → is_done earlier n ≡ true) → After m n (group ∷ earlier) groups
      → After m n earlier (group ∷ groups)

module _ (p : Project) (limit : ℕ) where
  -- Then the rows of n stand before those of m.
  pub rows-after : {earlier groups : List (List ℕ)} {rows : List ℕ} (a b : ℕ) → EachOnce groups → InTurn p limit earlier groups rows
      → After (module_of p a) (module_of p b) earlier groups → a ∈ rows → b ∈ rows → Before b a rows
  rows-after a b unique all-sorted w h k = absurd (Memᴰ.not-nil h)
  rows-after a b unique (sorted-next {earlier = earlier} {group = group} {rows = rows} {rest = rest} left made total e turn) (then-after c w) h k =
      let s = segment p earlier group (unique group ∈-self) limit left made e in
      let r = rows-in-turn p limit unique (sorted-next left made total e turn) in
      ⊎_elim (λ x. absurd (false≢true (sym (r.undone-before b k) ∙ c (s.only a x).listed)))
      (λ x. ⊎_elim (λ y. before-across y x) (λ y. before-right rows (rows-after a b (λ g m. unique g (Memᴰ.tail m)) turn w x y)) (∈-append rows k))
      (∈-append rows h)
