-- 'Circles of a module (chunk.rs, `cycles_for`)'. Assumes nothing.
use Rattle.std.specs.Prelude.{ℕ, zero, suc, ◌≡◌, true, false}
use mathlib.Core.List.{List, [], ◌∷◌, flatten, Memᴰ}
use Rattle.rules.specs.Lists.{elem, keep, different, append_new}

-- What following gives: the modules gathered, in the order in which they were, and those noted as followed, latest first.
pub data Following : Type 0 where
  following : (gathered noted : List ℕ) → Following

-- "gather, each once, the members of every list holding it". "A module in no list gathers nothing."
unfoldable pub listed_with : List (List ℕ) → ℕ → List ℕ
listed_with lists m = different (flatten (keep (elem m) lists))

-- "append what is new"
unfoldable pub with_found : List ℕ → Following → Following
with_found gathered (following found noted) = following (append_new gathered found) noted

-- "then follow, in order, each gathered member not yet noted": `follow` follows a module, given those noted before it.
module _ (follow : ℕ → List ℕ → Following) where
  unfoldable pub follow_member : ℕ → Following → Following
  follow_member m (following gathered noted) =
      elim (elem m noted) [ true ↦ following gathered noted | false ↦ with_found gathered (follow m noted) ]

  unfoldable pub follow_members : List ℕ → Following → Following
  follow_members [] s = s
  follow_members (m ∷ members) s = follow_members members (follow_member m s)

-- "Following a module: note it as followed; gather ..; then follow .. and append what is new." The two call each other, `follow_members` by its
-- argument. Each call stands one deeper than its caller; a depth of the number of modules is never used up.
unfoldable pub follow_module : ℕ → List (List ℕ) → ℕ → List ℕ → Following
follow_module zero lists m noted = following [] noted
follow_module (suc depth) lists m noted =
    follow_members (follow_module depth lists) (listed_with lists m) (following (listed_with lists m) (m ∷ noted))

unfoldable pub gathered_of : Following → List ℕ
gathered_of (following gathered noted) = gathered

-- the circle gathered from `m`
unfoldable pub gather : ℕ → List (List ℕ) → ℕ → List ℕ
gather depth lists m = gathered_of (follow_module depth lists m [])

-- "a list holds both, or a chain of lists joins them, each sharing a member with the next"
pub data Joined (lists : List (List ℕ)) : ℕ → ℕ → Type 0 where
  held : {m n : ℕ} {l : List ℕ} → Memᴰ l lists → Memᴰ m l → Memᴰ n l → Joined lists m n
  chained : {m k n : ℕ} {l : List ℕ} → Memᴰ l lists → Memᴰ m l → Memᴰ k l → Joined lists k n → Joined lists m n

-- "Two different modules are tied when a list holds both, or a chain of lists joins them". From the lists alone.
pub record Tied (lists : List (List ℕ)) (m n : ℕ) : Type 0 where
  pub differ : m ≡ n → ⊥
  pub join : Joined lists m n
