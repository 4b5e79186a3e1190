-- Laws of the loops over the groups' turns. Assumes nothing.
use Rattle.std.specs.Prelude.{ℕ, ◌+◌, ◌-◌, ◌≤◌, ◌<◌, ◌≡◌, refl, Bool, true, false, ◌||◌, Some, Ok, Err, get_or}
use Rattle.std.proofs.Common.{arith, ◌∙◌, length-append}
use Rattle.std.proofs.Math.Path.{sym, ap}
use Rattle.std.proofs.Math.Bool.{not}
use mathlib.Core.List.Memᴰ
use mathlib.Core.List.{List, [], ◌∷◌, ◌++◌, map, reverse, reverse-cons, append_assoc}
use Rattle.std.proofs.Math.ListN.{length, drop}
use Rattle.rules.specs.Lists.{any, elem}
use Rattle.rules.specs.Project.{Project, module_limit, item_limit}
use Rattle.rules.specs.Walk.{Stop, finished}
use Rattle.rules.specs.Modules.{is_done}
use Rattle.rules.specs.Items.{keeps_row_order, giving_modules, given_rows, numbering, numbered, sort_modules, sort_group}
use Rattle.rules.specs.Calls.{item_list_limit, group_bytes, continue_with, order_groups}
use Rattle.laws.specs.Lists.{◌∈◌, ∈-right, ∈-self, keep-∈, reverse-∈, true-elem, not-true, both, none}
use Rattle.laws.specs.Counting.{Below}
use Rattle.laws.specs.Terms.{module_of}
use Rattle.laws.proofs.Splits.{given_rows-∈, once-given_rows, numbering-∈, once-numbering, giving}
use Rattle.laws.proofs.OrderCalls.{given-belongs, segment}
use Rattle.lists.specs.Bits.{bit}
use Rattle.lists.specs.BitLaws.{bit-zero}
use Rattle.owners.specs.declared.NeedRows.{NeedRows}
use Rattle.owners.specs.GroupBytes.{group-within, group_past}
use Rattle.owners.specs.Owners.{owner_of, needs_of}
use Rattle.owners.specs.NeedRows.{NeedsChained}
use Rattle.owners.specs.OwnerLaws.{owner-first, needs-few, among-kept}
use Rattle.layout.specs.Needs.{OwnNeeds}
use Rattle.walks.specs.declared.Stop.{Stop as Stopped}
use Rattle.walks.specs.Runs.{has_finished, was_spent, list_was_full, was_crowded}
use Rattle.stmt.specs.declared.walk.Crowded.{Crowded as ListCrowded}
use Rattle.giving.specs.Giving.{Members, Stored}
use Rattle.split.specs.RowLaws.{rows-among}
use Rattle.split.specs.StoreLaws.{stored-behind}
use Rattle.order.specs.declared.turns.Turn.{Turn}
use Rattle.order.specs.declared.turns.Turns.{Turns}
use Rattle.order.specs.Turns.{Ready, Taking, Advanced, Took, TurningAt}
use Rattle.order.specs.TurnLaws.{gave-more, gave-room, sorted-most}
use Rattle.order.specs.Stops.{stopped_as, SortTurn, Sorts, Sized, Turned}

-- Before the first turn.
pub turn-start : {p : Project} {groups : List (List ℕ)} {out : List ℕ} (allowance : ℕ) {t : Turn} → t.rest.now ≡ group_bytes groups
    → t.left ≡ length groups → t.used ≡ 0 → t.kept ≡ 0 → t.made ≡ 0 → TurningAt p groups allowance out out t groups
unfolding is_done any
turn-start {p} {groups} allowance bytes left used kept made =
    record {
      earlier = [];
      rows = [];
      parts = refl;
      bytes_left = bytes;
      left_is = left;
      used-shown = rw used bit-zero;
      gave = record { once = none; kept = λ row m. absurd (Memᴰ.not-nil m); done = λ row m. absurd (Memᴰ.not-nil m) };
      out-is = record { whole = refl; count = kept };
      made-most = omega (arith, made);
      same = ap (order_groups p item_list_limit allowance [] groups []) (sym made);
    }

-- After the last turn.
pub turn_end : {entries : ℕ} {p : Project} {groups : List (List ℕ)} {allowance : ℕ} {before now : List ℕ} {t : Turn}
    → TurningAt p groups allowance before now t [] → Turned entries p groups allowance before now (Ok (t.kept, t.made))
unfolding order_groups
turn_end s = has_finished s.rows s.same s.out-is

-- The turn of a group, `later` being those behind it.
module _ {p : Project} {groups : List (List ℕ)} {turns : Turns} (ready : Ready p groups turns) {allowance : ℕ} {before now : List ℕ} {t : Turn}
    {members : List ℕ} {later : List (List ℕ)} (s : TurningAt p groups allowance before now t (members ∷ later)) where
  member-in : members ∈ groups
  member-in = rw s.parts (∈-right (reverse s.earlier) ∈-self)

  pub turn-formed : Members members
  turn-formed =
      record {
        once = ready.each-once members member-in;
        below = λ m k. omega (arith, ready.members-below members member-in m k, ready.accepted.modules-most);
      }

  -- the modules of the group that give items, and their rows
  abbrev modules : List ℕ
  modules = giving_modules p s.earlier members

  given-room : length s.rows + length (given_rows p modules) ≤ item_limit
  given-room =
      omega (
        arith,
        gave-room s.gave (once-given_rows p (giving p s.earlier turn-formed.once).once) (λ row m. given-belongs p s.earlier members m),
        ready.accepted.items-most,
      )

  modules-below : Below module_limit modules
  unfolding giving_modules
  modules-below m k = turn-formed.below m (reverse-∈ members (keep-∈ _ (reverse members) k).0)

  pub turn-within : 1 + length members ≤ length t.rest.now
  turn-within = rw s.bytes_left (group-within members later)

  pub turn-some : 0 < t.left
  turn-some = omega (arith, s.left_is)

  pub turn-taking : length now ≡ item_limit → Taking p s.earlier members turns t now
  turn-taking size =
      record {
        formed = turn-formed;
        rows_shown = ready.rows_shown;
        used-shown = s.used-shown;
        gives-shown = ready.gives-shown;
        below = modules-below;
        room = omega (arith, given-room, s.out-is.count);
        some_left = turn-some;
        within = turn-within;
      }

  -- The next turn.
  group-done : (m : ℕ) {b : Bool} → b ≡ (elem m members || bit t.used m) → b ≡ is_done (members ∷ s.earlier) m
  unfolding is_done any
  group-done m e = e ∙ ap (λ (c : Bool). elem m members || c) (s.used-shown m)

  turn-next : {more after : List ℕ} {total : ℕ} {r : Turn}
      → sort_group p s.earlier members item_list_limit (allowance - t.made) t.made ≡ finished more total → total ≤ allowance
      → Stored more t.kept now after r.kept → Advanced members t r.kept total r → TurningAt p groups allowance before after r later
  unfolding order_groups continue_with
  turn-next {more} {total = total} e enough d a =
      let seg = segment p s.earlier members turn-formed.once item_list_limit (allowance - t.made) t.made e in
      record {
        earlier = members ∷ s.earlier;
        rows = s.rows ++ more;
        parts =
            s.parts ∙ sym (ap (λ (l : List (List ℕ)). l ++ later) (reverse-cons members s.earlier) ∙ append_assoc (reverse s.earlier) (members ∷ []) later);
        bytes_left = a.rest-is ∙ ap (drop (1 + length members)) s.bytes_left ∙ group_past members later;
        left_is = omega (arith, a.left_is, s.left_is);
        used-shown = λ m. group-done m (a.used-is m);
        gave = gave-more s.gave seg.once seg.only;
        out-is = stored-behind s.out-is d;
        made-most = omega (arith, a.made-is);
        same =
            s.same
            ∙ ap (λ (stop : Stop (List ℕ)). continue_with stop (λ got n. order_groups p item_list_limit allowance (members ∷ s.earlier) later (s.rows ++ got) n)) e
            ∙ sym (ap (order_groups p item_list_limit allowance (members ∷ s.earlier) later (s.rows ++ more)) a.made-is);
      }

  pub turn-kept : {after : List ℕ} {r : Turn} → keeps_row_order p members ≡ true → Took p s.earlier members t now after r
      → TurningAt p groups allowance before after r later
  unfolding sort_group
  turn-kept k d = turn-next (rw (k, sort_group)) s.made-most d.written d.advanced

  -- What the sort of a group relies on.
  numbering-room : length s.rows + length (numbering p modules) ≤ item_limit
  numbering-room =
      omega (
        arith,
        gave-room s.gave (once-numbering p (giving p s.earlier turn-formed.once).once)
            (λ row m. given-belongs p s.earlier members (numbering-∈ p modules m)),
        ready.accepted.items-most,
      )

  -- a row of the group's modules is owned by it
  own_row : (row : ℕ) → row ∈ numbering p modules → owner_of p groups row ≡ Some (t.left - 1)
  unfolding giving_modules owner_of
  own_row row h =
      let r = given_rows-∈ p modules (numbering-∈ p modules h) in
      let k = keep-∈ _ (reverse members) r.1 in
      let last : length later ≡ t.left - 1 = omega (arith, s.left_is) in
      owner-first s.earlier members later (module_of p row) s.parts
      (true-elem (reverse-∈ members k.0)) (not-true (both {a = not (is_done s.earlier (module_of p row))} k.1).0)
      ∙ ap (λ (k : ℕ). Some k) last

  left-most : t.left ≤ module_limit
  left-most = omega (arith, s.left_is, ap length s.parts, length-append (reverse s.earlier) (members ∷ later), ready.groups-most)

  own-needs : {NEEDS : ℕ} {needs : NeedRows NEEDS} → NeedsChained p groups needs
      → OwnNeeds p modules needs.section.now needs.chains.next (get_or needs.chains.heads (t.left - 1) 0)
  own-needs c =
      record {
        own = needs_of p groups (t.left - 1);
        along = c.chains (t.left - 1) (omega (arith, turn-some, left-most));
        few = omega (arith, needs-few p groups (t.left - 1));
        among = ap (map (numbered (numbering p modules))) (among-kept p groups (numbering p modules) (t.left - 1) own_row p.needs);
      }

  pub sort-turn : {WORDS NEEDS : ℕ} {needs : NeedRows NEEDS} → NeedsChained p groups needs → Sized WORDS NEEDS p → length now ≡ item_limit
      → SortTurn WORDS NEEDS p s.earlier members turns needs allowance t now
  sort-turn c z size =
      record {
        taking = turn-taking size;
        left-most = left-most;
        made-most = s.made-most;
        sortable =
            record {
              numberable =
                  record {
                    accepted = ready.accepted;
                    giving = giving p s.earlier turn-formed.once;
                    rows_shown = rows-among ready.rows_shown modules-below;
                  };
              needs-own = own-needs c;
              rows-room = z.rows;
              needs-room = z.places;
            };
        rows-room = omega (arith, numbering-room, s.out-is.count);
      }

  -- The sort of a group, where it is not to keep its row order.
  module _ (k : keeps_row_order p members ≡ false) where
    abbrev sorted : Stop (List ℕ)
    sorted = sort_modules p modules item_list_limit (allowance - t.made) t.made

    sorts : sort_group p s.earlier members item_list_limit (allowance - t.made) t.made ≡ sorted
    unfolding sort_group
    sorts = rw (k, sort_group)

    pub turn-sorted : {entries : ℕ} {after : List ℕ} {kept made : ℕ} {r : Turn}
        → Sorts entries p s.earlier members allowance t now after (Ok (kept, made)) → Advanced members t kept made r
        → TurningAt p groups allowance before after r later
    turn-sorted (has_finished rows e w) a =
        turn-next (sorts ∙ e) (omega (arith, sorted-most p modules item_list_limit (allowance - t.made) t.made e, s.made-most))
        (rw a.kept-is w)
        (record { rest-is = a.rest-is; left_is = a.left_is; used-is = a.used-is; kept-is = refl; made-is = a.made-is })

    -- It stops: so does the whole.
    stops : {stop : Stop (List ℕ)} → sorted ≡ stop
        → order_groups p item_list_limit allowance [] groups [] 0
        ≡ continue_with stop (λ got n. order_groups p item_list_limit allowance (members ∷ s.earlier) later (s.rows ++ got) n)
    unfolding order_groups
    stops e =
        s.same
        ∙ ap (λ (stop : Stop (List ℕ)). continue_with stop (λ got n. order_groups p item_list_limit allowance (members ∷ s.earlier) later (s.rows ++ got) n)) (sorts ∙ e)

    -- or its list may not fit: the turns stop before it.
    pub turn-stopped : {entries : ℕ} {after : List ℕ} {stop : Stopped ListCrowded} → after ≡ now
        → Sorts entries p s.earlier members allowance t now after (Err stop) → Turned entries p groups allowance before after (Err (stopped_as t stop))
    unfolding stopped_as continue_with
    turn-stopped same (was_spent e) = was_spent (stops e)
    turn-stopped same (list_was_full e) = list_was_full (stops e)
    turn-stopped same (was_crowded short) = was_crowded (short, record { rest = members ∷ later; place = rw same s })

-- Where no group is left there are none behind.
pub none-left : {p : Project} {groups : List (List ℕ)} {allowance : ℕ} {before now : List ℕ} {t : Turn} {rest : List (List ℕ)}
    → TurningAt p groups allowance before now t rest → t.left ≡ 0 → TurningAt p groups allowance before now t []
none-left {rest = []} s e = s
none-left {rest = g ∷ rest} s e = absurd (omega (arith, s.left_is))
