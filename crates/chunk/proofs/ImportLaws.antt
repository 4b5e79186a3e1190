-- Laws of open imports: of one module, member by member, and by the definitions of the walk. Assumes nothing.
use Rattle.std.specs.Prelude.{ℕ, ◌+◌, ◌*◌, ◌≤◌, ◌<◌, ◌≡◌, Bool, ◌&&◌, length, drop}
use Rattle.std.proofs.Common.{arith, add-one, ◌∙◌, drop_of_length-le, length-append}
use Rattle.std.specs.List.{sum_by}
use Rattle.std.proofs.lemmas.List.Sums.{sum_by-cons}
use Rattle.std.proofs.Math.Path.{refl, sym, ap}
use Rattle.std.proofs.Math.Bool.{not, and-true}
use mathlib.Core.List.Memᴰ
use mathlib.Core.List.{List, [], ◌∷◌, ◌++◌, flat_map, append-nil}
use Rattle.std.proofs.Math.ListN.{get_or}
use Rattle.std.proofs.lemmas.List.{length-map}
use Rattle.std.proofs.Math.Seq.{drop-cons}
use Rattle.rules.specs.Lists.{cons_if, keep, elem}
use Rattle.rules.specs.Project.{Project, import_limit, module_limit}
use Rattle.rules.specs.Modules.{imports_of, is_done, undone_imports, outside_imports}
use Rattle.laws.specs.Lists.{◌∈◌, ∈-self, Tested, holds, fails, tested, length-parts}
use Rattle.laws.specs.Counting.{Below, flat_map-length, keep_same}
use Rattle.laws.specs.Orders.{get_or-∈}
use Rattle.lists.specs.Bits.{bit}
use Rattle.lists.specs.BitLaws.{bit-zero}
use Rattle.lists.specs.Chained.{places}
use Rattle.lists.specs.ChainedLaws.{places-most}
use Rattle.lists.specs.Stacks.{Placeable, Placed}
use Rattle.lists.specs.StackLaws.{Placing, placeable-front, placing-rest, placing-more}
use Rattle.chunk.specs.declared.imports.Imports.{Imports}
use Rattle.chunk.specs.Open.{is_open, open_from}
use Rattle.chunk.specs.Imports.{Laid, imports_at, open_of, open_imports, Members}

-- The open imports of one module are no more than there are places.
pub open-most : (imports : Imports) (done circle m : ℕ) → length (open_of imports done circle m) ≤ import_limit
unfolding open_from
open-most imports done circle m =
    let entry = get_or imports.chains.heads m 0 in
    omega (
      arith,
      length-parts (is_open done circle) (imports_at imports m),
      length-map (places imports.chains.next entry) (λ i. get_or imports.rows.to i 0),
      places-most imports.chains.next entry,
      imports.chains.sizes,
    )

-- Member by member.
pub member_below : {members : List ℕ} → Members members → (i : ℕ) → i < length members → get_or members i 0 < module_limit
member_below {members} m i h = m.below (get_or members i 0) (get_or-∈ members i 0 h)

-- Those of all members together.
pub members-sum : (imports : Imports) (done circle : ℕ) (members : List ℕ)
    → sum_by (λ m. length (open_of imports done circle m)) members ≡ length (open_imports imports done circle members)
unfolding open_imports flat_map
members-sum imports done circle [] = refl
members-sum imports done circle (m ∷ members) =
    rw (sum_by-cons (λ k. length (open_of imports done circle k)) m members, members-sum imports done circle members)
    (sym (length-append (open_of imports done circle m) (open_imports imports done circle members)))

module _ (imports : Imports) (done circle : ℕ) (members : List ℕ) where
  pub members-most : length members ≤ module_limit → length (open_imports imports done circle members) ≤ module_limit * import_limit
  unfolding open_imports
  members-most h =
      omega (arith, flat_map-length (open_of imports done circle) import_limit members (λ m _. open-most imports done circle m))

  module _ (i : ℕ) (within : i < length members) where
    pub members_step : open_imports imports done circle (drop i members)
        ≡ open_of imports done circle (get_or members i 0) ++ open_imports imports done circle (drop (i + 1) members)
    unfolding open_imports flat_map
    members_step = rw (add-one, drop-cons members i 0)

    -- In the midst of placing: there is room for the member's open imports, and those of the members behind it are left.
    module _ {top : ℕ} {entries old : List ℕ} {at : ℕ} {a : List ℕ}
        (p : Placing top entries old at (open_imports imports done circle (drop i members)) a) where
      pub place-room : Placeable at (open_of imports done circle (get_or members i 0)) a
      place-room =
          placeable-front (open_of imports done circle (get_or members i 0)) (open_imports imports done circle (drop (i + 1) members))
          (placing-rest members_step p).placeable

      pub place-next : {last : ℕ} {b : List ℕ} → Placed at (open_of imports done circle (get_or members i 0)) a b last
          → Placing top entries old last (open_imports imports done circle (drop (i + 1) members)) b
      place-next q = placing-more (placing-rest members_step p) q

  pub members-end : (i : ℕ) → length members ≤ i → open_imports imports done circle (drop i members) ≡ []
  unfolding open_imports flat_map
  members-end i all = rw (drop_of_length-le members)

-- Laws on lists.
module _ {A : Type 0} where
  pub keep-keep : (f g : A → Bool) (l : List A) → keep f (keep g l) ≡ keep (λ x. g x && f x) l
  unfolding keep cons_if
  keep-keep f g [] = refl
  keep-keep f g (x ∷ l) = go (tested (g x)) (keep-keep f g l)
    where
      go : Tested (g x) → keep f (keep g l) ≡ keep (λ y. g y && f y) l
          → keep f (cons_if (g x) x (keep g l)) ≡ cons_if (g x && f x) x (keep (λ y. g y && f y) l)
      go (holds e) rest = rw (e, rest)
      go (fails e) rest = rw (e, rest)

  pub flat_map-same : {B : Type 0} (f g : A → List B) (l : List A) → ((x : A) → x ∈ l → f x ≡ g x) → flat_map f l ≡ flat_map g l
  unfolding flat_map
  flat_map-same f g [] same = refl
  flat_map-same f g (x ∷ l) same = rw (same x ∈-self, flat_map-same f g l (λ y m. same y (Memᴰ.tail m)))

-- Open imports by the definitions of the walk, where the rows of a project are laid out and a word holds the modules done.
module _ (p : Project) (imports : Imports) (l : Laid p.imports imports) (groups : List (List ℕ)) (done : ℕ)
    (done-bits : (d : ℕ) → d < module_limit → bit done d ≡ is_done groups d) where
  modules-below : (m : ℕ) → Below module_limit (imports_at imports m)
  modules-below m x k =
      let r = Memᴰ.of_map (λ i. get_or imports.rows.to i 0) (places imports.chains.next (get_or imports.chains.heads m 0)) k in
      omega (arith, imports.below r.0, r.2)

  open-tested : (circle : ℕ) (test : ℕ → Bool) → ((d : ℕ) → d < module_limit → is_open done circle d ≡ test d) → (m : ℕ) → m < module_limit
      → open_of imports done circle m ≡ keep test (imports_of p m)
  unfolding open_from
  open-tested circle test same m h =
      keep_same (is_open done circle) test (imports_at imports m) (λ d k. same d (modules-below m d k))
      ∙ ap (keep test) (l p refl m h)

  -- the open imports of a circle's members, a word holding the circle, are those outside it
  pub open-outside : (circle : ℕ) (members : List ℕ) → Below module_limit members → ((d : ℕ) → d < module_limit → bit circle d ≡ elem d members)
      → open_imports imports done circle members ≡ outside_imports p groups members
  unfolding open_imports outside_imports undone_imports is_open
  open-outside circle members below circle-bits =
      flat_map-same (open_of imports done circle) (λ c. keep (λ d. not (elem d members)) (undone_imports p groups c)) members
      (λ m k.
      open-tested circle (λ d. not (is_done groups d) && not (elem d members)) (λ d h. rw (done-bits d h, circle-bits d h)) m (below m k)
      ∙ sym (keep-keep (λ d. not (elem d members)) (λ d. not (is_done groups d)) (imports_of p m)))

  -- and those of one module, no circle given, are its undone ones
  pub open-undone : (m : ℕ) → m < module_limit → open_imports imports done 0 (m ∷ []) ≡ undone_imports p groups m
  unfolding open_imports flat_map undone_imports is_open
  open-undone m h =
      append-nil (open_of imports done 0 m)
      ∙ open-tested 0 (λ d. not (is_done groups d)) (λ d g. rw (done-bits d g, bit-zero d) (and-true (not (is_done groups d)))) m h
