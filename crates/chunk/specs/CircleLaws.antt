-- Laws of gathering circles on an array: those that the proofs of src/circles.rt cite. Assumes nothing.
use Prim.Native.Nat.{ℕ, zero, suc, ◌+◌, ◌-◌, ◌≤◌, ◌<◌}
use native.Mathlib.Omega.{arith}
use Rattle.std.proofs.Math.Numerals.{add-one}
use Rattle.std.specs.Prelude.{◌≡◌, Bool, true, false, ◌||◌, leb, drop, set, get_or}
use Rattle.std.specs.List.{list_any}
use Rattle.std.proofs.Math.Path.{ap₂, refl, sym, ap, subst⁻¹}
use Rattle.std.proofs.Common.{subst, ◌∙◌, ⊎_elim, length-set, length-append, length-take-le, take_at, take-suc, take_all, take-suc-set, drop-drop}
use Rattle.std.proofs.Math.Bool.{not}
use mathlib.Core.List.Memᴰ
use mathlib.Core.List.{List, [], ◌∷◌, ◌++◌, reverse, reverse-cons, flatten}
use Rattle.std.proofs.Math.Dec.{eqb}
use Rattle.std.proofs.Math.ListN.{length, take}
use Rattle.std.proofs.lemmas.List.{length-reverse}
use Rattle.std.proofs.Math.Seq.{drop-set-lt}
use borrow.Author.Tests.{eq-eqb, leb-false, lt-leb}
use Rattle.rules.specs.Lists.{cons_if, keep, any, up_from, elem, append_new, different}
use Rattle.rules.specs.Project.{Project, module_limit, circle_lists, bad_circles}
use Rattle.rules.specs.Circles as rules
use Rattle.rules.specs.Circles.{following, listed_with, with_found, follow_member, follow_members, follow_module, gathered_of, gather}
use Rattle.rules.specs.Modules.{circle_of}
use Rattle.laws.specs.Lists.{◌∈◌, ∈-self, false≢true, not-true, or_right, Tested, holds, fails, tested, eqb-sym, any_false, elem-true, elem-false, true-elem, keep-∈, ∈-keep, ∈-append, Once, next, once-snoc, once-keep, once-length, length-parts, once-reverse, once-up_from, ∈-up_from, up_from-∈, length-up_from, append_new-old, append_new-new, ∈-append_new-right}
use Rattle.laws.specs.Counting.{neither, Below, EachBelow, below-cons, below-nil, below_length}
use Rattle.laws.specs.Orders.{below-reverse, get_or-∈}
use Rattle.laws.specs.Accepted.{Accepted}
use Rattle.laws.specs.Gathering.{circle-none, gather-deeper, circle-of}
use Rattle.lists.specs.Bits.{bit}
use Rattle.lists.specs.BitLaws.{bit-zero}
use Rattle.project.specs.CountedLaws.{circles_below}
use Rattle.chunk.specs.declared.gathered.Gathered.{Gathered}
use Rattle.chunk.specs.declared.circles.Following.{Following}
use Rattle.chunk.specs.Marks.{Marks}
use Rattle.chunk.specs.Circles.{gathered_on, Grows, Appended, Listed, unnoted, unfollowed, Represents, module_followed, members_followed, FollowsModule, FollowsMembers, ModuleReady, CircleReady, CircleGathered}

-- Whether a list holds x, as the library's `contains` tests it.
pub elem-contains : (x : ℕ) (l : List ℕ) → list_any (λ y. eqb y x) l ≡ elem x l
unfolding elem
elem-contains x [] = refl
elem-contains x (y ∷ l) = ap₂ (λ (a b : Bool). a || b) (eqb-sym y x) (elem-contains x l)

-- Whether a list with one entry more holds x, and a reversed one.
or_swap : (a b c : Bool) → (a || (b || c)) ≡ (b || (a || c))
or_swap true true c = refl
or_swap true false c = refl
or_swap false b c = refl

elem-snoc : (x y : ℕ) (l : List ℕ) → elem x (l ++ (y ∷ [])) ≡ (eqb x y || elem x l)
unfolding elem
elem-snoc x y [] = refl
elem-snoc x y (z ∷ l) = ap (λ (b : Bool). eqb x z || b) (elem-snoc x y l) ∙ or_swap (eqb x z) (eqb x y) (elem x l)

elem-reverse : (x : ℕ) (l : List ℕ) → elem x (reverse l) ≡ elem x l
unfolding elem
elem-reverse x [] = refl
elem-reverse x (y ∷ l) = rw (reverse-cons, elem-snoc, elem-reverse x l)

-- Appending what is new: of two lists one after the other, and of a list to which something was appended.
pub append_new-append : (g x y : List ℕ) → append_new g (x ++ y) ≡ append_new (append_new g x) y
unfolding append_new
append_new-append g [] y = refl
append_new-append g (z ∷ x) y = go (tested (elem z g)) (λ k. append_new-append k x y)
  where
    go : Tested (elem z g) → ((k : List ℕ) → append_new k (x ++ y) ≡ append_new (append_new k x) y)
        → append_new g (z ∷ x ++ y) ≡ append_new (append_new g (z ∷ x)) y
    go (holds e) f = rw (append_new-old g z (x ++ y) e, append_new-old g z x e) (f g)
    go (fails e) f = rw (append_new-new g z (x ++ y) e, append_new-new g z x e) (f (g ++ (z ∷ [])))

pub append_new-assoc : (g x y : List ℕ) → append_new g (append_new x y) ≡ append_new (append_new g x) y
unfolding append_new
append_new-assoc g x [] = refl
append_new-assoc g x (z ∷ y) = go (tested (elem z x)) (λ k. append_new-assoc g k y)
  where
    go : Tested (elem z x) → ((k : List ℕ) → append_new g (append_new k y) ≡ append_new (append_new g k) y)
        → append_new g (append_new x (z ∷ y)) ≡ append_new (append_new g x) (z ∷ y)
    go (holds e) f = rw (append_new-old x z y e, append_new-old (append_new g x) z y (true-elem (∈-append_new-right g x (elem-true x e)))) (f x)
    go (fails e) f =
        rw (append_new-new x z y e, f (x ++ (z ∷ [])), append_new-append g x (z ∷ [])) (sym (append_new-append (append_new g x) (z ∷ []) y))

-- Gathering: one step after the other.
grows_none : (g : Gathered) → Grows g g
grows_none g = record { more = omega arith; rest = refl }

drop-further : {A : Type 0} (m n : ℕ) (a b : List A) → m ≤ n → drop m a ≡ drop m b → drop n a ≡ drop n b
drop-further m n a b h e =
    let k : m + (n - m) ≡ n = omega arith in
    subst (λ (i : ℕ). drop i a ≡ drop i b) k (sym (drop-drop (n - m) m a) ∙ ap (drop (n - m)) e ∙ drop-drop (n - m) m b)

grows-trans : {a b c : Gathered} → Grows a b → Grows b c → Grows a c
grows-trans {a} {b} {c} p q =
    record { more = omega (arith, p.more, q.more); rest = q.rest ∙ drop-further b.count c.count b.array a.array q.more p.rest }

-- Modules appended to those gathered.
pub appended-none : (g : Gathered) → Appended g g []
unfolding append_new
appended-none g = record { front = refl; grows = grows_none g }

pub appended-append : {a b c : Gathered} {x y : List ℕ} → Appended a b x → Appended b c y → Appended a c (x ++ y)
appended-append {a} {x = x} {y} p q =
    record {
      front = q.front ∙ ap (λ (k : List ℕ). append_new k y) p.front ∙ sym (append_new-append (gathered_on a) x y);
      grows = grows-trans p.grows q.grows;
    }

-- One module more of a list, up to its end.
pub appended-more : {a b c : Gathered} (list : List ℕ) (i : ℕ) → i < length list → Appended a b (take i list) → Appended b c (get_or list i 0 ∷ [])
    → Appended a c (take (i + 1) list)
appended-more list i l p q = rw (add-one, take-suc list i 0 l) (appended-append p q)

pub appended-all : {a b : Gathered} (list : List ℕ) (i : ℕ) → length list ≤ i → Appended a b (take i list) → Appended a b list
appended-all {a} {b} list i h p = subst (Appended a b) (take_all i list h) p

module _ (g : Gathered) (m : ℕ) where
  -- A module that is among those gathered.
  pub appended-old : bit g.have m ≡ true → Appended g g (m ∷ [])
  unfolding append_new
  appended-old e = record { front = sym (append_new-old (gathered_on g) m [] (sym (g.marks m) ∙ e)); grows = grows_none g }

  -- One that is not: the array has room for it, and what is gathered is as a value has to be.
  module _ (h : m < module_limit) (e : bit g.have m ≡ false) where
    absent : elem m (gathered_on g) ≡ false
    absent = sym (g.marks m) ∙ e

    below_more : Below module_limit (gathered_on g ++ (m ∷ []))
    below_more x n = ⊎_elim (g.below x) (below-cons h below-nil x) (∈-append (gathered_on g) n)

    pub count-below : g.count < module_limit
    count-below =
        let r : length (gathered_on g ++ (m ∷ [])) ≤ module_limit = below_length (once-snoc g.once (elem-false absent)) below_more in
        omega (arith, g.sizes, length-append (gathered_on g) (m ∷ []), length-take-le g.count g.array (omega (arith, g.sizes)))

    front : take (g.count + 1) (set g.array g.count m) ≡ gathered_on g ++ (m ∷ [])
    front = rw add-one (take-suc-set g.array g.count m (omega (arith, count-below, g.sizes)))

    pub once-more : Once (take (g.count + 1) (set g.array g.count m))
    once-more = rw front (once-snoc g.once (elem-false absent))

    pub below-more : Below module_limit (take (g.count + 1) (set g.array g.count m))
    below-more = rw front below_more

    pub marks-more : (have : ℕ) → ((j : ℕ) → bit have j ≡ (eqb j m || bit g.have j)) → Marks have (take (g.count + 1) (set g.array g.count m))
    marks-more have bits j = bits j ∙ ap (λ (b : Bool). eqb j m || b) (g.marks j) ∙ sym (ap (elem j) front ∙ elem-snoc j m (gathered_on g))

    pub appended-new : (r : Gathered) → r.array ≡ set g.array g.count m → r.count ≡ g.count + 1 → Appended g r (m ∷ [])
    unfolding append_new
    appended-new r same more =
        record {
          front = rw (same, more) front ∙ sym (append_new-new (gathered_on g) m [] absent);
          grows = record { more = omega arith; rest = rw (same, more) (drop-set-lt (g.count + 1) g.array g.count m (omega arith)) };
        }

-- In the midst of appending: the array, the count and the set are those of what is gathered once `done` is appended.
pub record Holding (before : Gathered) (array : List ℕ) (count have : ℕ) (done : List ℕ) : Type 0 where
  pub now : Gathered
  pub array-is : array ≡ now.array
  pub count-is : count ≡ now.count
  pub have-is : have ≡ now.have
  pub appended : Appended before now done

pub holding-start : (g : Gathered) → Holding g g.array g.count g.have []
holding-start g = record { now = g; array-is = refl; count-is = refl; have-is = refl; appended = appended-none g }

module _ {before : Gathered} {array : List ℕ} {count have : ℕ} (list : List ℕ) (i : ℕ) (within : i < length list) (below : Below module_limit list)
    (h : Holding before array count have (take i list)) where
  abbrev m : ℕ
  m = get_or list i 0

  is-module : m < module_limit
  is-module = below m (get_or-∈ list i 0 within)

  pub holding-old : bit have m ≡ true → Holding before array count have (take (i + 1) list)
  holding-old e =
      record {
        now = h.now;
        array-is = h.array-is;
        count-is = h.count-is;
        have-is = h.have-is;
        appended = appended-more list i within h.appended (appended-old h.now m (rw h.have-is at e));
      }

  module _ (e : bit have m ≡ false) where
    fresh : bit h.now.have m ≡ false
    fresh = rw h.have-is at e

    pub room-left : count < module_limit
    room-left = rw h.count-is (count-below h.now m is-module fresh)

    pub holding-new : (have' : ℕ) → ((j : ℕ) → bit have' j ≡ (eqb j m || bit have j)) → Holding before (set array count m) (count + 1) have' (take (i + 1) list)
    holding-new have' bits =
        let r : Gathered =
        record {
          array = set h.now.array h.now.count m;
          count = h.now.count + 1;
          have = have';
          sizes = (simp length-set h.now.sizes.0, omega (arith, count-below h.now m is-module fresh));
          once = once-more h.now m is-module fresh;
          below = below-more h.now m is-module fresh;
          marks = marks-more h.now m is-module fresh have' (rw h.have-is at bits);
        } in
        record {
          now = r;
          array-is = rw (h.array-is, h.count-is) refl;
          count-is = rw h.count-is refl;
          have-is = refl;
          appended = appended-more list i within h.appended (appended-new h.now m is-module fresh r refl refl);
        }

-- The modules gathered, reversed in place.
module _ (g : Gathered) where
  abbrev pub turned : List ℕ
  turned = reverse (gathered_on g) ++ drop g.count g.array

  pub turned-front : take g.count turned ≡ reverse (gathered_on g)
  turned-front =
      take_at (reverse (gathered_on g)) (drop g.count g.array) g.count
      (length-reverse (gathered_on g) ∙ length-take-le g.count g.array (omega (arith, g.sizes)))

  pub once-turned : Once (take g.count turned)
  once-turned = rw turned-front (once-reverse g.once)

  pub below-turned : Below module_limit (take g.count turned)
  below-turned = rw turned-front (below-reverse g.below)

  pub marks-turned : Marks g.have (take g.count turned)
  marks-turned j = g.marks j ∙ sym (ap (elem j) turned-front ∙ elem-reverse j (gathered_on g))

-- Lists that pass test 8 of the table. They pass it with a larger limit too.
pub sound-wider : (modules bound left : ℕ) (bytes : List ℕ) → modules ≤ bound → bad_circles modules left bytes ≡ false → bad_circles bound left bytes ≡ false
unfolding bad_circles
sound-wider modules bound zero [] h e = refl
sound-wider modules bound zero (n ∷ bytes) h e = sound-wider modules bound n bytes h e
sound-wider modules bound (suc left) [] h e = e
sound-wider modules bound (suc left) (m ∷ bytes) h e =
    let r = neither {a = leb modules m} e in
    let below = leb-false modules m r.0 in
    rw (lt-leb bound m (omega arith)) (sound-wider modules bound left bytes h r.1)

-- Gathering from the lists that hold a module: what those that are left still add makes it whole, and their members are modules.
pub record Listing (section : List ℕ) (m : ℕ) (left : List (List ℕ)) (g : Gathered) : Type 0 where
  pub whole : append_new (gathered_on g) (flatten (keep (elem m) left)) ≡ listed_with (circle_lists section) m
  pub below : EachBelow module_limit left

module _ (section : List ℕ) (m : ℕ) where
  pub listing_start : (g : Gathered) → g.count ≡ 0 → bad_circles module_limit 0 section ≡ false → Listing section m (circle_lists section) g
  unfolding listed_with different
  listing_start g e b = record { whole = rw e refl; below = circles_below module_limit section b }

  module _ {left rest : List (List ℕ)} {list : List ℕ} {g : Gathered} (l : Listing section m left g) (first : left ≡ list ∷ rest) where
    split : Listing section m (list ∷ rest) g
    split = subst (λ (k : List (List ℕ)). Listing section m k g) first l

    pub listing-below : Below module_limit list
    listing-below = split.below list ∈-self

    pub listing-held : {r : Gathered} → elem m list ≡ true → Appended g r list → Listing section m rest r
    unfolding flatten keep cons_if
    listing-held e a =
        let k : List ℕ = flatten (keep (elem m) rest) in
        record {
          whole = ap (λ (x : List ℕ). append_new x k) a.front ∙ sym (append_new-append (gathered_on g) list k) ∙ rw e at split.whole;
          below = λ x h. split.below x (Memᴰ.tail h);
        }

    pub listing-other : elem m list ≡ false → Listing section m rest g
    unfolding flatten keep cons_if
    listing-other e = record { whole = rw e at split.whole; below = λ x h. split.below x (Memᴰ.tail h) }

  pub listing-end : {left : List (List ℕ)} {g : Gathered} → left ≡ [] → Listing section m left g → Listed section m g
  unfolding append_new flatten keep
  listing-end e l = rw e at l.whole

-- In the definition a call gathers for itself, and its caller appends what is new. It may as well be appended at once.
found-found : (g x : List ℕ) (f : rules.Following) → with_found g (with_found x f) ≡ with_found (append_new g x) f
unfolding with_found
found-found g x (following y noted) = ap (λ (l : List ℕ). following l noted) (append_new-assoc g x y)

module _ (follow : ℕ → List ℕ → rules.Following) where
  member-noted : (m : ℕ) (gathered noted : List ℕ) → elem m noted ≡ true → follow_member follow m (following gathered noted) ≡ following gathered noted
  unfolding follow_member
  member-noted m gathered noted e = rw (e, follow_member)

  member-followed : (m : ℕ) (gathered noted : List ℕ) → elem m noted ≡ false
      → follow_member follow m (following gathered noted) ≡ with_found gathered (follow m noted)
  unfolding follow_member
  member-followed m gathered noted e = rw (e, follow_member)

  found-member : (g : List ℕ) (m : ℕ) (f : rules.Following) → with_found g (follow_member follow m f) ≡ follow_member follow m (with_found g f)
  unfolding with_found
  found-member g m (following x noted) = go (tested (elem m noted))
    where
      go : Tested (elem m noted) → with_found g (follow_member follow m (following x noted)) ≡ follow_member follow m (following (append_new g x) noted)
      go (holds e) = rw (member-noted m x noted e, member-noted m (append_new g x) noted e)
      go (fails e) = rw (member-followed m x noted e, member-followed m (append_new g x) noted e) (found-found g x (follow m noted))

  found-members : (g members : List ℕ) (f : rules.Following) → with_found g (follow_members follow members f) ≡ follow_members follow members (with_found g f)
  unfolding follow_members
  found-members g [] f = refl
  found-members g (m ∷ members) f = found-members g members (follow_member follow m f) ∙ ap (follow_members follow members) (found-member g m f)

  members-snoc : (members : List ℕ) (m : ℕ) (f : rules.Following)
      → follow_members follow (members ++ (m ∷ [])) f ≡ follow_member follow m (follow_members follow members f)
  unfolding follow_members
  members-snoc [] m f = refl
  members-snoc (c ∷ members) m f = members-snoc members m (follow_member follow c f)

found-module : (depth : ℕ) (lists : List (List ℕ)) (m : ℕ) (g noted : List ℕ)
    → with_found g (follow_module (suc depth) lists m noted)
    ≡ follow_members (follow_module depth lists) (listed_with lists m) (following (append_new g (listed_with lists m)) (m ∷ noted))
unfolding follow_module with_found
found-module depth lists m g noted = found-members (follow_module depth lists) g (listed_with lists m) (following (listed_with lists m) (m ∷ noted))

-- The modules that are not noted: no more where others are noted besides, and fewer where one of them is.
module _ (w : ℕ) where
  unnoted-∈ : {x : ℕ} → x ∈ unnoted w → (x < module_limit) × (bit w x ≡ false)
  unfolding unnoted
  unnoted-∈ k =
      let r = keep-∈ (λ j. not (bit w j)) (up_from 0 module_limit) k in
      let u = up_from-∈ 0 module_limit r.0 in
      (omega arith, not-true r.1)

  ∈-unnoted : {x : ℕ} → x < module_limit → bit w x ≡ false → x ∈ unnoted w
  unfolding unnoted
  ∈-unnoted h e = ∈-keep (λ j. not (bit w j)) (∈-up_from 0 module_limit (omega arith) (omega arith)) (ap not e)

  once-unnoted : Once (unnoted w)
  unfolding unnoted
  once-unnoted = once-keep (λ j. not (bit w j)) (once-up_from 0 module_limit)

  unfollowed-most : unfollowed w ≤ module_limit
  unfolding unnoted
  unfollowed-most = omega (arith, length-parts (bit w) (up_from 0 module_limit), length-up_from 0 module_limit)

module _ (v w : ℕ) (more : (j : ℕ) → bit v j ≡ true → bit w j ≡ true) where
  unnoted-more : (x : ℕ) → x ∈ unnoted w → x ∈ unnoted v
  unnoted-more x k = go (tested (bit v x)) (unnoted-∈ w k)
    where
      go : Tested (bit v x) → (x < module_limit) × (bit w x ≡ false) → x ∈ unnoted v
      go (holds e) r = absurd (false≢true (sym r.1 ∙ more x e))
      go (fails e) r = ∈-unnoted v r.0 e

  pub unfollowed-more : unfollowed w ≤ unfollowed v
  unfollowed-more = once-length (unnoted v) (once-unnoted w) unnoted-more

  unfollowed-less : (m : ℕ) → m < module_limit → bit v m ≡ false → bit w m ≡ true → unfollowed w < unfollowed v
  unfollowed-less m h e f =
      once-length (unnoted v) (next (λ (k : m ∈ unnoted w). false≢true (sym (unnoted-∈ w k).1 ∙ f)) (once-unnoted w))
      (λ x k. ⊎_elim (λ z. rw z (∈-unnoted v h e)) (unnoted-more x) (Memᴰ.cases_cons k))

-- A member, as the definition goes on with it.
module _ (follow : ℕ → List ℕ → rules.Following) (m : ℕ) {s : Following} {f : rules.Following} (x : Represents s f) where
  shown-noted : bit s.noted m ≡ true → follow_member follow m f ≡ f
  shown-noted e = rw x.same (member-noted follow m (gathered_on s.gathered) x.list (sym (x.marks m) ∙ e))

  shown-followed : bit s.noted m ≡ false → follow_member follow m f ≡ with_found (gathered_on s.gathered) (follow m x.list)
  shown-followed e = rw x.same (member-followed follow m (gathered_on s.gathered) x.list (sym (x.marks m) ∙ e))

-- Following members, one after the other.
module _ (section : List ℕ) where
  pub follows-none : (s : Following) → FollowsMembers section [] s s
  unfolding follow_members
  follows-none s = record { represents = λ depth noted h k. record { list = noted; same = refl; marks = k }; keeps = λ j e. e }

  module _ (members : List ℕ) (i : ℕ) (h : i < length members) {s t : Following} (p : FollowsMembers section (take i members) s t) where
    one_more : (depth : ℕ) (gathered noted : List ℕ) → members_followed section (take (i + 1) members) gathered depth noted
        ≡ follow_member (follow_module depth (circle_lists section)) (get_or members i 0) (members_followed section (take i members) gathered depth noted)
    one_more depth gathered noted =
        rw (add-one, take-suc members i 0 h)
        (members-snoc (follow_module depth (circle_lists section)) (take i members) (get_or members i 0) (following gathered noted))

    pub follows-noted : bit t.noted (get_or members i 0) ≡ true → FollowsMembers section (take (i + 1) members) s t
    follows-noted e =
        record {
          represents = λ depth noted k l.
              let x = p.represents depth noted k l in
              subst⁻¹ (Represents t) (one_more depth _ noted ∙ shown-noted (follow_module depth (circle_lists section)) (get_or members i 0) x e) x;
          keeps = p.keeps;
        }

    pub follows-unnoted : {r : Following} → bit t.noted (get_or members i 0) ≡ false → FollowsModule section (get_or members i 0) t r
        → FollowsMembers section (take (i + 1) members) s r
    follows-unnoted {r} e q =
        record {
          represents = λ depth noted k l.
              let x = p.represents depth noted k l in
              let fewer = unfollowed-more s.noted t.noted p.keeps in
              subst⁻¹ (Represents r) (one_more depth _ noted ∙ shown-followed (follow_module depth (circle_lists section)) (get_or members i 0) x e)
              (q.represents depth x.list (omega arith) x.marks);
          keeps = λ j z. q.keeps j (p.keeps j z);
        }

  pub follows-all : (members : List ℕ) {s r : Following} (i : ℕ) → length members ≤ i → FollowsMembers section (take i members) s r
      → FollowsMembers section members s r
  follows-all members {s} {r} i h p = subst (λ (l : List ℕ). FollowsMembers section l s r) (take_all i members h) p

-- Following a module: the members of its lists are appended, it is noted, and those members are followed.
module _ (section : List ℕ) (m : ℕ) {s : Following} (t : Following) (found : Gathered) (ready : ModuleReady section m s) (l : Listed section m found)
    (p : Appended s.gathered t.gathered (gathered_on found)) (bits : (j : ℕ) → bit t.noted j ≡ (eqb j m || bit s.noted j)) where
  noted_more : (j : ℕ) → bit s.noted j ≡ true → bit t.noted j ≡ true
  noted_more j e = bits j ∙ or_right (eqb j m) e

  pub unfollowed-fewer : unfollowed t.noted < unfollowed s.noted
  unfollowed-fewer = unfollowed-less s.noted t.noted noted_more m ready.below ready.to-follow (rw (bits m, eq-eqb m m refl))

  marks-noted : (list : List ℕ) → Marks s.noted list → Marks t.noted (m ∷ list)
  unfolding elem
  marks-noted list k j = bits j ∙ ap (λ (z : Bool). eqb j m || z) (k j)

  deeper : (depth : ℕ) (list : List ℕ) → module_followed section m (gathered_on s.gathered) (suc depth) list
      ≡ members_followed section (gathered_on found) (gathered_on t.gathered) depth (m ∷ list)
  deeper depth list = rw (p.front, l) (found-module depth (circle_lists section) m (gathered_on s.gathered) list)

  pub follows-module : {r : Following} → FollowsMembers section (gathered_on found) t r → FollowsModule section m s r
  follows-module {r} q = record { represents = represents; keeps = λ j z. q.keeps j (noted_more j z) }
    where
      represents : (depth : ℕ) (list : List ℕ) → unfollowed s.noted ≤ depth → Marks s.noted list
          → Represents r (module_followed section m (gathered_on s.gathered) depth list)
      represents zero list h k = absurd (omega (arith, unfollowed-fewer))
      represents (suc depth) list h k =
          subst⁻¹ (Represents r) (deeper depth list) (q.represents depth (m ∷ list) (omega (arith, unfollowed-fewer)) (marks-noted list k))

-- The circle of a module: what following it from nothing gathers, reversed.
different-again : (l : List ℕ) → append_new [] (different l) ≡ different l
unfolding append_new different
different-again l = append_new-assoc [] [] l

found-fresh : (depth : ℕ) (lists : List (List ℕ)) (m : ℕ) (noted : List ℕ)
    → with_found [] (follow_module depth lists m noted) ≡ follow_module depth lists m noted
unfolding follow_module listed_with with_found append_new
found-fresh zero lists m noted = refl
found-fresh (suc depth) lists m noted = found-module depth lists m [] noted ∙ rw different-again

gather-limit : {p : Project} → Accepted p → (m : ℕ) → m < p.modules → gather module_limit p.circles m ≡ gather p.modules p.circles m
gather-limit {p} a m h =
    let e : p.modules + (module_limit - p.modules) ≡ module_limit = omega (arith, a.modules-most) in
    subst (λ (k : ℕ). gather k p.circles m ≡ gather p.modules p.circles m) e
    (gather-deeper p.circles p.modules a.circles-below m h (module_limit - p.modules))

-- A module in no list gathers nothing.
pub circle-nothing : (section : List ℕ) (m : ℕ) (g : Gathered) → any (elem m) (circle_lists section) ≡ false → g.count ≡ 0 → CircleGathered section m g
circle-nothing section m g f e = λ p a same h.
    rw e (sym (circle-none (circle-of a m h) (λ l k n. any_false (elem m) f (rw same at k) (true-elem n))))

-- Nothing gathered, and no module followed.
module _ (section : List ℕ) (m : ℕ) (s : Following) (ready : CircleReady section m) (none : s.gathered.count ≡ 0) (fresh : s.noted ≡ 0) where
  pub module-ready : ModuleReady section m s
  module-ready = record { sound = ready.sound; below = ready.below; to-follow = rw fresh (bit-zero m) }

  gathered-circle : {r : Following} → FollowsModule section m s r → gathered_on r.gathered ≡ gather module_limit (circle_lists section) m
  unfolding gather gathered_of elem
  gathered-circle p =
      let x = p.represents module_limit [] (unfollowed-most s.noted) (rw fresh bit-zero) in
      sym (ap gathered_of (sym (found-fresh module_limit (circle_lists section) m []) ∙ rw none at x.same))

  pub circle-gathered : {r : Following} (c : Gathered) → FollowsModule section m s r → gathered_on c ≡ reverse (gathered_on r.gathered)
      → CircleGathered section m c
  unfolding circle_of
  circle-gathered c f e = λ p a same h.
      e ∙ ap reverse (gathered-circle f ∙ ap (λ (ls : List (List ℕ)). gather module_limit ls m) (sym same) ∙ gather-limit a m h)
