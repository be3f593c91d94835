-- Where nothing is under way, a settle may be made, and the close.
use Rattle.std.proofs.Common.{◌≡◌, ◌<◌, ◌≤◌, ℕ, zero, suc, Bool, true, false, List, [], ◌∷◌, ◌++◌, append-nil, length, get_or, sum_by, refl, ap, ◌∙◌, arith}
use Rattle.std.specs.Prelude.{◌||◌, not}
use Rattle.std.specs.List.{list_any}
use Rattle.std.proofs.lemmas.List.Sums.{sum_by-cons}
use Rattle.ix_ring.specs.Ends.{known, taken}
use Rattle.ix_desk.specs.Desks.{groups_wait}
use Rattle.ix_desk.specs.Pieces.{is_nil, joined}
use Rattle.ix_nic.specs.Cards.{AreOpen, CardView, all_waiting}
use Rattle.ix_nic.specs.Ports.{PortView}
use Rattle.ix_core.specs.declared.turning.Core.{Core}
use Rattle.ix_core.specs.Closing.{CanClose, FewArePosted}
use Rattle.ix_core.specs.Homing.{NoShipsAmong}
use Rattle.ix_core.specs.Landing.{ship_in}
use Rattle.ix_core.specs.Meeting.{AllAreTold, AreInOrder, CardLearned}
use Rattle.ix_core.specs.Settling.{CanSettle, CoreSettled}
use Rattle.ix_drill.specs.Quiet.{ArePlaced, core_is_busy, has_items, link_is_busy}

left_false : (a b : Bool) → (a || b) ≡ false → a ≡ false
left_false true b e = absurd (cc)
left_false false b e = refl

right_false : (a b : Bool) → (a || b) ≡ false → b ≡ false
right_false true b e = absurd (cc)
right_false false b e = e

none_at : {X : Type 0} (test : X → Bool) (xs : List X) (i : ℕ) (d : X) → list_any test xs ≡ false → i < length xs → test (get_or xs i d) ≡ false
none_at test [] i d e lt = absurd (omega arith)
none_at test (x ∷ xs) zero d e lt = left_false _ _ e
none_at test (x ∷ xs) (suc i) d e lt = none_at test xs i d (right_false (test x) _ e) (omega arith)

nil_so : {X : Type 0} (xs : List X) → not (is_nil xs) ≡ false → xs ≡ []
nil_so [] e = refl
nil_so (x ∷ xs) e = absurd (cc)

zero_at : {X : Type 0} (w : X → ℕ) (xs : List X) (i : ℕ) (d : X) → sum_by w xs ≡ 0 → i < length xs → w (get_or xs i d) ≡ 0
zero_at w [] i d e lt = absurd (omega arith)
zero_at w (x ∷ xs) zero d e lt = omega (arith, e, sum_by-cons w x xs)
zero_at w (x ∷ xs) (suc i) d e lt = zero_at w xs i d (omega (arith, e, sum_by-cons w x xs)) (omega arith)

no_items : {X : Type 0} (xs : List X) → length xs ≡ 0 → xs ≡ []
no_items [] e = refl
no_items (x ∷ xs) e = absurd (omega (arith, e))

nothing_known : {X : Type 0} (put taken known : List X) → put ≡ taken ++ known → known ≡ [] → put ≡ taken
nothing_known put taken known whole none = whole ∙ ap (λ l. taken ++ l) none ∙ append-nil taken

-- what stood behind no ring stands behind none after a meeting
none_behind : (card card' : CardView) (r : ℕ) (p : PortView) → all_waiting card.ports ≡ 0 → CardLearned card card' → r < length card.ports → (get_or card'.ports r p).behind ≡ []
none_behind card card' r p none met lt = ap (λ (q : PortView). q.behind) (met.each r p).rest ∙ no_items (get_or card.ports r p).behind (zero_at (λ (q : PortView). length q.behind) card.ports r p none lt)

module _ {U E : Type 0} where
  no_ships : (cores : List (Core U E)) → list_any core_is_busy cores ≡ false → NoShipsAmong cores
  no_ships cores quiet c d lt p e within =
      let here = right_false _ _ (none_at core_is_busy cores c d quiet lt) in
      let link = none_at link_is_busy (get_or cores c d).links.items p e here within in
      let l = get_or (get_or cores c d).links.items p e in
      record { coming = ap (joined ship_in) (nil_so (known l.take) (left_false _ _ link)); going = ap (joined ship_in) (nil_so l.waiting.items (right_false _ _ link)) }

  pub can_settle : (card card' : CardView) (cores : List (Core U E)) → AreInOrder card' cores → AllAreTold card' cores → ArePlaced card' cores → length cores ≡ 3 → all_waiting card.ports ≡ 0 → CardLearned card card'
      → list_any core_is_busy cores ≡ false → FewArePosted card'.ports → CanSettle card' cores
  can_settle card card' cores order told placed three none met quiet few = record {
    order = order;
    told = told;
    some = omega (arith, three);
    done = λ c p d lt.
        let core = none_at core_is_busy cores c d quiet lt in
        record {
          items_places = (placed c p d lt).0;
          posts_places = (placed c p d lt).1;
          none_on = nothing_known _ _ _ (told.ports c p d lt).items.whole (nil_so (known (get_or cores c d).items) (left_false _ _ core));
          none_behind = none_behind card card' c p none met (omega (arith, lt, order.count, met.count));
          few = few c p (omega (arith, lt, order.count));
        };
    no_ships = no_ships cores quiet;
  }

  pub can_close : (card : CardView) (cores : List (Core U E)) → AreInOrder card cores → AllAreTold card cores → length cores ≡ 3 → list_any core_is_busy cores ≡ false → list_any has_items cores ≡ false
      → FewArePosted card.ports → CanClose card cores
  can_close card cores order told three quiet none few = record {
    order = order;
    told = told;
    some = omega (arith, three);
    few = few;
    no_ships = no_ships cores quiet;
    no_items = λ c d lt. nil_so (groups_wait (get_or cores c d).desks) (none_at has_items cores c d none lt);
  }

  pub placed_settled : (card card' : CardView) (cores cores' : List (Core U E)) → length cores' ≡ length cores
      → ((c : ℕ) (p : PortView) (d : Core U E) → c < length cores → CoreSettled (get_or card.ports c p) (get_or card'.ports c p) (get_or cores c d) (get_or cores' c d)) → ArePlaced card' cores'
  placed_settled card card' cores cores' count each c p d lt = let one = each c p d (omega (arith, lt, count)) in (one.items_places, one.posts_places)

  first_core : (cores : List (Core U E)) → 1 ≤ length cores → Core U E
  first_core [] le = absurd (omega arith)
  first_core (c ∷ cores) le = c

  pub open_settled : (card card' : CardView) (cores cores' : List (Core U E)) → 1 ≤ length cores → length card'.ports ≡ length cores
      → ((c : ℕ) (p : PortView) (d : Core U E) → c < length cores → CoreSettled (get_or card.ports c p) (get_or card'.ports c p) (get_or cores c d) (get_or cores' c d)) → AreOpen card'.ports
  open_settled card card' cores cores' some count each = λ r p lt.
      ap (λ (q : PortView). q.ended) (each r p (first_core cores some) (omega (arith, lt, count))).port_rest
