-- What the gathering of circles gives: for lists whose members are below a bound, and a module below it, `gather` at that depth holds exactly
-- the modules that the lists join to the module, each once, and a larger depth gives the same. Assumes nothing.
use Prim.Native.Nat.{ℕ, zero, suc, ◌+◌, ◌≤◌, ◌<◌}
use Rattle.std.proofs.Common.{arith, add-suc, add-zero, sym, eqb-true}
use Rattle.std.specs.Prelude.{◌≡◌, ◌⊎◌, false, eqb, length}
use Rattle.std.proofs.Math.Path.{refl, subst⁻¹}
use Rattle.std.proofs.Math.Logic.{inl, inr, ⊎_elim, ⊎_map}
use mathlib.Core.List.Memᴰ
use mathlib.Core.List.{List, [], ◌∷◌, flatten, reverse}
use Rattle.std.proofs.lemmas.Bool.{eqb-false}
use Rattle.rules.specs.Lists.{is_empty, elem, keep}
use Rattle.rules.specs.Project.{Project}
use Rattle.rules.specs.Circles.{Following, following, listed_with, with_found, follow_member, follow_members, follow_module, gathered_of, gather, Joined, held, chained, Tied}
use Rattle.rules.specs.Modules.{circle_of}
use Rattle.laws.specs.Lists.{◌∈◌, Tested, holds, fails, tested, elem-true, elem-false, true-elem, keep-∈, ∈-keep, ∈-self, reverse-∈, ∈-reverse, Once, none, next, append_new-∈, ∈-append_new-left, ∈-append_new-right, once-append_new, different-∈, ∈-different, once-different, once-reverse}
use Rattle.laws.specs.Counting.{flat_map-∈, ∈-flat_map, flatten-flat_map, Below, EachBelow, below-nil, below-cons, below_length, is_empty_false, no_member}
use Rattle.laws.specs.Accepted.{Accepted}

-- "gather, each once, the members of every list holding it"
pub listed-∈ : (lists : List (List ℕ)) (m : ℕ) {x : ℕ} → x ∈ listed_with lists m → (l : List ℕ) × (l ∈ lists) × (m ∈ l) × (x ∈ l)
unfolding listed_with
listed-∈ lists m h =
    let r = flat_map-∈ (λ l. l) (keep (elem m) lists) (rw flatten-flat_map at (different-∈ (flatten (keep (elem m) lists)) h)) in
    let k = keep-∈ (elem m) lists r.1 in
    (r.0, k.0, elem-true r.0 k.1, r.2)

pub ∈-listed : {lists : List (List ℕ)} {l : List ℕ} {m x : ℕ} → l ∈ lists → m ∈ l → x ∈ l → x ∈ listed_with lists m
unfolding listed_with
∈-listed {lists} {m = m} h k n = ∈-different (rw flatten-flat_map (∈-flat_map (λ l. l) (∈-keep (elem m) h (true-elem k)) n))

-- Joining goes from one to the next.
pub joined-trans : {lists : List (List ℕ)} {a b c : ℕ} → Joined lists a b → Joined lists b c → Joined lists a c
joined-trans (held l m n) k = chained l m n k
joined-trans (chained l m n j) k = chained l m n (joined-trans j k)

pub joined-held : {lists : List (List ℕ)} {a b : ℕ} → Joined lists a b → (l : List ℕ) × (l ∈ lists) × (a ∈ l)
joined-held (held {l = k} l m n) = (k, l, m)
joined-held (chained {l = k} l m n j) = (k, l, m)

pub joined-self : {lists : List (List ℕ)} {a b : ℕ} → Joined lists a b → Joined lists a a
joined-self j = let r = joined-held j in held r.1 r.2 r.2

pub joined-below : {bound : ℕ} {lists : List (List ℕ)} {a b : ℕ} → EachBelow bound lists → Joined lists a b → b < bound
joined-below within (held {n = n} {l = k} l m h) = within k l n h
joined-below within (chained l m n j) = joined-below within j

-- A list that holds exactly what is joined to a module, each once.
pub record Circle (lists : List (List ℕ)) (m : ℕ) (circle : List ℕ) : Type 0 where
  pub joined : (x : ℕ) → x ∈ circle → Joined lists m x
  pub whole : (x : ℕ) → Joined lists m x → x ∈ circle
  pub once : Once circle

module _ {lists : List (List ℕ)} {m : ℕ} {circle : List ℕ} (c : Circle lists m circle) where
  -- Where it holds anything it holds the module itself; where no list holds the module, nothing.
  pub circle-self : is_empty circle ≡ false → m ∈ circle
  circle-self e = let r = is_empty_false circle e in c.whole m (joined-self (c.joined r.0 r.1))

  pub circle-none : ((l : List ℕ) → l ∈ lists → m ∈ l → ⊥) → circle ≡ []
  circle-none f = no_member circle (λ x h. let r = joined-held (c.joined x h) in f r.0 r.1 r.2)

  -- The other members are the tied modules.
  pub circle-tied : {x : ℕ} → x ∈ circle → (x ≡ m) ⊎ Tied lists m x
  circle-tied {x} h = go (tested (eqb x m))
    where
      go : Tested (eqb x m) → (x ≡ m) ⊎ Tied lists m x
      go (holds e) = inl (eqb-true x m e)
      go (fails e) = inr (record { differ = λ d. eqb-false x m e (sym d); join = c.joined x h })

  pub tied-circle : {x : ℕ} → Tied lists m x → x ∈ circle
  tied-circle {x} t = c.whole x t.join

  pub circle-below : {bound : ℕ} → EachBelow bound lists → Below bound circle
  circle-below within x h = joined-below within (c.joined x h)

  pub circle-reverse : Circle lists m (reverse circle)
  circle-reverse =
      record {
        joined = λ x h. c.joined x (reverse-∈ circle h);
        whole = λ x j. ∈-reverse (c.whole x j);
        once = once-reverse c.once;
      }

-- `s` holds the first of the entries still to come
or-behind : {x c : ℕ} {s l : List ℕ} → c ∈ s → (x ∈ s) ⊎ (x ∈ c ∷ l) → (x ∈ s) ⊎ (x ∈ l)
or-behind m (inl h) = inl h
or-behind {s = s} m (inr h) = ⊎_elim (λ e. inl (subst⁻¹ (λ (z : ℕ). z ∈ s) e m)) (λ k. inr k) (Memᴰ.cases_cons h)

-- A module that may be followed: the modules noted before it are other ones, each once and below the bound, and the depth suffices for the rest.
record Ready (bound depth m : ℕ) (noted : List ℕ) : Type 0 where
  here : m < bound
  fresh : m ∈ noted → ⊥
  once : Once noted
  below : Below bound noted
  enough : bound ≤ depth + length noted

-- What holds while `root` is followed, `base` being noted before it, and `pending` the gathered members that are still to be followed.
record Followed (lists : List (List ℕ)) (bound root : ℕ) (base pending gathered noted : List ℕ) : Type 0 where
  joined : (x : ℕ) → x ∈ gathered → Joined lists root x
  once : Once gathered
  noted-once : Once noted
  noted-below : Below bound noted
  grown : length base < length noted
  root-noted : root ∈ noted
  keeps : (x : ℕ) → x ∈ base → x ∈ noted
  waits : (x : ℕ) → x ∈ pending → x ∈ gathered
  followed : (x : ℕ) → x ∈ gathered → (x ∈ noted) ⊎ (x ∈ pending)
  closed : (x : ℕ) → x ∈ noted → (x ∈ base) ⊎ ((y : ℕ) → y ∈ listed_with lists x → y ∈ gathered)

abbrev FollowedIn : List (List ℕ) → ℕ → ℕ → List ℕ → List ℕ → Following → Type 0
FollowedIn lists bound root base pending (following gathered noted) = Followed lists bound root base pending gathered noted

module _ (lists : List (List ℕ)) (bound : ℕ) (within : EachBelow bound lists) where
  -- The module is noted, and the members of its lists are gathered.
  start : {depth m : ℕ} {noted : List ℕ} → Ready bound depth m noted
      → Followed lists bound m noted (listed_with lists m) (listed_with lists m) (m ∷ noted)
  unfolding listed_with
  start {m = m} {noted} r =
      record {
        joined = λ x h. let k = listed-∈ lists m h in held k.1 k.2 k.3;
        once = once-different _;
        noted-once = next r.fresh r.once;
        noted-below = below-cons r.here r.below;
        grown = omega arith;
        root-noted = ∈-self;
        keeps = λ x h. Memᴰ.tail h;
        waits = λ x h. h;
        followed = λ x h. inr h;
        closed = λ x h. ⊎_elim (λ e. inr (λ y k. rw e at k)) (λ k. inl k) (Memᴰ.cases_cons h);
      }

  module _ (root : ℕ) (base : List ℕ) where
    -- A member that is noted is passed over.
    pass : {c : ℕ} {pending gathered noted : List ℕ} → c ∈ noted → Followed lists bound root base (c ∷ pending) gathered noted
        → Followed lists bound root base pending gathered noted
    pass m i =
        record {
          joined = i.joined;
          once = i.once;
          noted-once = i.noted-once;
          noted-below = i.noted-below;
          grown = i.grown;
          root-noted = i.root-noted;
          keeps = i.keeps;
          waits = λ x h. i.waits x (Memᴰ.tail h);
          followed = λ x h. or-behind m (i.followed x h);
          closed = i.closed;
        }

    -- A member that is not is followed, and what is new appended.
    append : {c : ℕ} {pending gathered noted : List ℕ} (s : Following) → Followed lists bound root base (c ∷ pending) gathered noted
        → FollowedIn lists bound c noted [] s → FollowedIn lists bound root base pending (with_found gathered s)
    unfolding with_found
    append {c} {pending} {gathered} {noted} (following found after) i j =
        record {
          joined = λ x h. ⊎_elim (i.joined x) (λ k. joined-trans (i.joined c (i.waits c ∈-self)) (j.joined x k)) (append_new-∈ gathered found h);
          once = once-append_new gathered found i.once;
          noted-once = j.noted-once;
          noted-below = j.noted-below;
          grown = omega (arith, i.grown, j.grown);
          root-noted = j.keeps root i.root-noted;
          keeps = λ x h. j.keeps x (i.keeps x h);
          waits = λ x h. ∈-append_new-left gathered found (i.waits x (Memᴰ.tail h));
          followed = λ x h.
              ⊎_elim (λ k. or-behind j.root-noted (⊎_map (j.keeps x) (λ n. n) (i.followed x k)))
              (λ k. ⊎_map (λ n. n) (λ n. absurd (Memᴰ.not-nil n)) (j.followed x k))
              (append_new-∈ gathered found h);
          closed = λ x h.
              ⊎_elim (λ k. ⊎_map (λ n. n) (λ f y m. ∈-append_new-left gathered found (f y m)) (i.closed x k))
              (λ f. inr (λ y m. ∈-append_new-right gathered found (f y m)))
              (j.closed x h);
        }

    -- The members in turn, `follow` being what follows a module at a depth that suffices.
    module _ (depth : ℕ) (deep : bound ≤ depth + suc (length base)) (follow : ℕ → List ℕ → Following)
        (spec : (c : ℕ) (noted : List ℕ) → Ready bound depth c noted → FollowedIn lists bound c noted [] (follow c noted)) where
      ready : {c : ℕ} {pending gathered noted : List ℕ} → Followed lists bound root base (c ∷ pending) gathered noted → elem c noted ≡ false
          → Ready bound depth c noted
      ready {c} i e =
          record {
            here = joined-below within (i.joined c (i.waits c ∈-self));
            fresh = elem-false e;
            once = i.noted-once;
            below = i.noted-below;
            enough = omega (arith, i.grown);
          }

      member : (c : ℕ) (pending : List ℕ) (s : Following) → FollowedIn lists bound root base (c ∷ pending) s
          → FollowedIn lists bound root base pending (follow_member follow c s)
      unfolding follow_member
      member c pending (following gathered noted) i = go (tested (elem c noted))
        where
          go : Tested (elem c noted) → FollowedIn lists bound root base pending (follow_member follow c (following gathered noted))
          go (holds e) = rw (e, follow_member) (pass (elem-true noted e) i)
          go (fails e) = rw (e, follow_member) (append (follow c noted) i (spec c noted (ready i e)))

      members : (pending : List ℕ) (s : Following) → FollowedIn lists bound root base pending s
          → FollowedIn lists bound root base [] (follow_members follow pending s)
      unfolding follow_members
      members [] s i = i
      members (c ∷ pending) s i = members pending (follow_member follow c s) (member c pending s i)

      -- What follows a module in the same way gives the same.
      module _ (other : ℕ → List ℕ → Following)
          (same : (c : ℕ) (noted : List ℕ) → Ready bound depth c noted → other c noted ≡ follow c noted) where
        member-same : (c : ℕ) (pending : List ℕ) (s : Following) → FollowedIn lists bound root base (c ∷ pending) s
            → follow_member other c s ≡ follow_member follow c s
        unfolding follow_member
        member-same c pending (following gathered noted) i = go (tested (elem c noted))
          where
            go : Tested (elem c noted) → follow_member other c (following gathered noted) ≡ follow_member follow c (following gathered noted)
            go (holds e) = rw (e, follow_member)
            go (fails e) = rw (e, follow_member, same c noted (ready i e))

        members-same : (pending : List ℕ) (s : Following) → FollowedIn lists bound root base pending s
            → follow_members other pending s ≡ follow_members follow pending s
        unfolding follow_members
        members-same [] s i = refl
        members-same (c ∷ pending) s i =
            rw (member-same c pending s i) (members-same pending (follow_member follow c s) (member c pending s i))

  -- No module is ready at depth 0.
  never : {m : ℕ} {noted : List ℕ} → Ready bound 0 m noted → ⊥
  never {m} {noted} r =
      let k : length (m ∷ noted) ≤ bound = below_length (next r.fresh r.once) (below-cons r.here r.below) in
      omega (arith, r.enough)

  -- Following a module, at a depth that suffices; and one deeper.
  follow-module : (depth m : ℕ) (noted : List ℕ) → Ready bound depth m noted
      → FollowedIn lists bound m noted [] (follow_module depth lists m noted)
  unfolding follow_module
  follow-module zero m noted r = absurd (never r)
  follow-module (suc depth) m noted r =
      members m noted depth (omega (arith, r.enough)) (follow_module depth lists) (follow-module depth) (listed_with lists m)
      (following (listed_with lists m) (m ∷ noted)) (start r)

  follow-deeper : (depth m : ℕ) (noted : List ℕ) → Ready bound depth m noted
      → follow_module (suc depth) lists m noted ≡ follow_module depth lists m noted
  unfolding follow_module
  follow-deeper zero m noted r = absurd (never r)
  follow-deeper (suc depth) m noted r =
      members-same m noted depth (omega (arith, r.enough)) (follow_module depth lists) (follow-module depth) (follow_module (suc depth) lists)
      (follow-deeper depth) (listed_with lists m) (following (listed_with lists m) (m ∷ noted)) (start r)

  -- What is gathered from a module below the bound, nothing being noted before.
  module _ (m : ℕ) (here : m < bound) where
    ready-first : (depth : ℕ) → bound ≤ depth → Ready bound depth m []
    ready-first depth e = record { here = here; fresh = Memᴰ.not-nil; once = none; below = below-nil; enough = omega arith }

    followed-circle : (s : Following) → FollowedIn lists bound m [] [] s → Circle lists m (gathered_of s)
    unfolding gathered_of
    followed-circle (following gathered noted) i = record { joined = i.joined; whole = λ x j. reach j i.root-noted; once = i.once }
      where
        listed : {k x : ℕ} → k ∈ noted → x ∈ listed_with lists k → x ∈ gathered
        listed {k} {x} n h = ⊎_elim (λ z. absurd (Memᴰ.not-nil z)) (λ f. f x h) (i.closed k n)

        reach : {k x : ℕ} → Joined lists k x → k ∈ noted → x ∈ gathered
        reach (held l a b) n = listed n (∈-listed l a b)
        reach (chained {k = k} l a b j) n =
            reach j (⊎_elim (λ h. h) (λ z. absurd (Memᴰ.not-nil z)) (i.followed k (listed n (∈-listed l a b))))

    -- "A module in no list gathers nothing"; the others gather those that a list, or a chain of lists, joins to them, each once.
    pub gather-circle : Circle lists m (gather bound lists m)
    unfolding gather
    gather-circle = followed-circle (follow_module bound lists m []) (follow-module bound m [] (ready-first bound (omega arith)))

    -- The depth is never used up: a larger one gives the same.
    pub gather-deeper : (k : ℕ) → gather (bound + k) lists m ≡ gather bound lists m
    unfolding gather
    gather-deeper zero = rw (add-zero bound)
    gather-deeper (suc k) =
        rw (add-suc bound k, follow-deeper (bound + k) m [] (ready-first (bound + k) (omega arith))) (gather-deeper k)

-- The circle of a module of an accepted project.
pub circle-of : {p : Project} → Accepted p → (m : ℕ) → m < p.modules → Circle p.circles m (circle_of p m)
unfolding circle_of
circle-of {p} a m h = circle-reverse (gather-circle p.circles p.modules a.circles-below m h)
