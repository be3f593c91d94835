-- What was put on the rings, in the words of the law on pieces.
use Rattle.std.proofs.Common.{◌≡◌, ◌≢◌, ◌<◌, ◌+◌, ℕ, List, [], ◌∷◌, ◌++◌, length, get_or, map, Bool, true, false, None, Some, refl, ap, sym, subst, ◌∙◌, append-nil, inl, inr, arith}
use Rattle.std.proofs.lemmas.Bool.{cases_eq}
use Rattle.std.proofs.lemmas.Bool.Decides.{nat_tests}
use Rattle.std.proofs.lemmas.List.{map-append}
use Rattle.std.specs.Prelude.{◌==◌, if◌then◌else◌, Option, option_to_list}
use Rattle.ix_base.specs.Branches.{if_true, if_false}
use Rattle.ix_base.specs.declared.id.CoreId.{CoreId}
use Rattle.ix_base.specs.declared.id.GroupId.{GroupId}
use Rattle.ix_base.specs.declared.id.WireNo.{WireNo}
use Rattle.ix_order.specs.Wire.{Entry, frame, accepted, dropped, work, tagged, cut, start, put_by, turned, RingIs, tag, move, time, settle, Seat}
use Rattle.ix_order.specs.Wire as order
use Rattle.ix_reta.specs.Table.{Table, tenure_of}
use Rattle.ix_steer.specs.Steering.{group_of_frame}
use Rattle.ix_nic.specs.declared.control.Control.{Control}
use Rattle.ix_nic.specs.declared.control.Control.TheVariants as controls
use Rattle.ix_stack.specs.declared.item.Item.{Item}
use Rattle.ix_stack.specs.declared.item.Item.TheVariants.{Tag, Cut, Start}
use Rattle.ix_nic.specs.declared.offer.Offer.{Offer}
use Rattle.ix_nic.specs.declared.offer.Offer.TheVariants.{TooLong, RingFull, NoBuffer, Accepted}
use Rattle.ix_nic.specs.Cards.{CardView, Carries, Offered, core_at}
use Rattle.ix_nic.specs.Controls.{item_on}
use Rattle.ix_nic.specs.Held.{Conserves}
use Rattle.ix_nic.specs.Offers.{Answers, IsFull}
use Rattle.ix_nic.specs.Ports.{PortView, whole, Puts, ended_by}
use Rattle.ix_nic.specs.Words.{word, words_on, seats, offered, ended_after, CarriesOut}
use Rattle.ix_nic.proofs.Kept.{puts_keep, answers_keep, carries_keep}

words_put : (p q : PortView) (item : Option Item) → Puts item p q → words_on q ≡ words_on p ++ map word (option_to_list item)
words_put p q item puts = ap (map word) puts.whole ∙ map-append word (whole p) (option_to_list item)

words_same : (p q : PortView) → whole q ≡ whole p → words_on q ≡ words_on p ++ []
words_same p q same = ap (map word) same ∙ sym (append-nil (words_on p))

-- ## Control entries
carried : (entry : Entry) (w : ℕ) (control : Control) (old new : CardView) → Carries control old.ports new.ports
    → ((r : ℕ) → map word (option_to_list (item_on control r)) ≡ put_by r (seats old.table) w entry)
    → ((r : ℕ) (b : Bool) → ended_by (item_on control r) b ≡ ended_after entry b) → RingIs (seats old.table) entry → ((g : ℕ) → seats new.table g ≡ turned (seats old.table) entry g) → CarriesOut entry w old new
carried entry w control old new carries words ends placed table = record {
  count = carries.count;
  rings = λ r d lt.
      words_put (get_or old.ports r d) (get_or new.ports r d) (item_on control r) (carries.rings r d lt)
      ∙ ap (λ (xs : List order.Item). words_on (get_or old.ports r d) ++ xs) (words r);
  ends = λ r d lt. ap (λ (p : PortView). p.ended) (carries.rings r d lt).rest ∙ ends r (get_or old.ports r d).ended;
  placed = placed;
  table = table;
  buffers = carries_keep control old.ports new.ports carries;
}

same_seats : (old new : Table) → new ≡ old → (g : ℕ) → seats new g ≡ seats old g
same_seats old new same g = ap (λ (t : Table). seats t g) same

tag_words : (group : GroupId) (b : Bool) → map word (option_to_list (if b then Some (Tag group) else None)) ≡ (if b then tagged group.0 ∷ [] else [])
tag_words group true = refl
tag_words group false = refl

tag_ends : (group : GroupId) (a b : Bool) → ended_by (if a then Some (Tag group) else None) b ≡ b
tag_ends group true b = refl
tag_ends group false b = refl

pub tag_carried : (group : GroupId) (w : ℕ) (old new : CardView) → new.table ≡ old.table
    → Carries (controls.Tag group (core_at old.table group.0)) old.ports new.ports → CarriesOut (tag group.0) w old new
tag_carried group w old new same carries =
    carried (tag group.0) w (controls.Tag group (core_at old.table group.0)) old new carries
    (λ r. tag_words group (r == (core_at old.table group.0).0)) (λ r b. tag_ends group (r == (core_at old.table group.0).0) b) tt (same_seats old.table new.table same)

pub time_carried : (w : WireNo) (t : ℕ) (old new : CardView) → new.table ≡ old.table → Carries (controls.Time w t) old.ports new.ports
    → CarriesOut time w.0 old new
time_carried w t old new same carries = carried time w.0 (controls.Time w t) old new carries (λ r. refl) (λ r b. refl) tt (same_seats old.table new.table same)

pub end_carried : (w : ℕ) (old new : CardView) → new.table ≡ old.table → Carries controls.End old.ports new.ports → CarriesOut settle w old new
end_carried w old new same carries = carried settle w controls.End old new carries (λ r. refl) (λ r b. refl) tt (same_seats old.table new.table same)

turn_words : (group : GroupId) (to : CoreId) (tenure : ℕ) (a b : Bool) → (a ≡ true → b ≡ false)
    → map word (option_to_list (if a then Some (Cut group to) else if b then Some (Start group tenure) else None))
    ≡ (if a then cut group.0 to.0 ∷ [] else []) ++ (if b then start group.0 tenure ∷ [] else [])
turn_words group to tenure true true apart = absurd (let same = apart refl in cc)
turn_words group to tenure true false apart = refl
turn_words group to tenure false true apart = refl
turn_words group to tenure false false apart = refl

turn_ends : (group : GroupId) (to : CoreId) (tenure : ℕ) (a c b : Bool) → ended_by (if a then Some (Cut group to) else if c then Some (Start group tenure) else None) b ≡ b
turn_ends group to tenure true c b = refl
turn_ends group to tenure false true b = refl
turn_ends group to tenure false false b = refl

apart_tests : (r from to : ℕ) → to ≢ from → (r == from) ≡ true → (r == to) ≡ false
apart_tests r from to other is = grind (arith, nat_tests)

seat_is : (core core' tenure tenure' : ℕ) → core ≡ core' → tenure ≡ tenure' → ◌≡◌ {A = Seat} (record { core = core; tenure = tenure }) (record { core = core'; tenure = tenure' })
seat_is core core' tenure tenure' c t = cc

turned_seats : (group : GroupId) (to : CoreId) (old new : Table) → core_at new group.0 ≡ to
    → tenure_of new.turns group.0 ≡ tenure_of old.turns group.0 + 1 → ((g : ℕ) → g ≢ group.0 → core_at new g ≡ core_at old g)
    → ((g : ℕ) → g ≢ group.0 → tenure_of new.turns g ≡ tenure_of old.turns g) → (g : ℕ) → seats new g ≡ turned (seats old) (move group.0 to.0) g
turned_seats group to old new core tenure others other_tenures g =
    elim (cases_eq g group.0) [
      | inl is ↦
          ap (seats new) is
          ∙ seat_is _ _ _ _ (ap (λ (c : CoreId). c.0) core) tenure
          ∙ sym (if_true (g == group.0) _ (seats old g) (grind (arith, nat_tests)))
      | inr other ↦
          seat_is _ _ _ _ (ap (λ (c : CoreId). c.0) (others g other)) (other_tenures g other)
          ∙ sym (if_false (g == group.0) (record { core = to.0; tenure = (seats old group.0).tenure + 1 }) (seats old g) (grind (arith, nat_tests)))
    ]

pub turn_carried : (group : GroupId) (to : CoreId) (w : ℕ) (old new : CardView) → to.0 ≢ (core_at old.table group.0).0
    → Carries (controls.Turn group (core_at old.table group.0) to (tenure_of old.table.turns group.0 + 1)) old.ports new.ports
    → core_at new.table group.0 ≡ to → tenure_of new.table.turns group.0 ≡ tenure_of old.table.turns group.0 + 1
    → ((g : ℕ) → g ≢ group.0 → core_at new.table g ≡ core_at old.table g) → ((g : ℕ) → g ≢ group.0 → tenure_of new.table.turns g ≡ tenure_of old.table.turns g)
    → CarriesOut (move group.0 to.0) w old new
turn_carried group to w old new other carries core tenure others other_tenures =
    let from = core_at old.table group.0 in
    let after = tenure_of old.table.turns group.0 + 1 in
    carried (move group.0 to.0) w (controls.Turn group from to after) old new carries
    (λ r. turn_words group to after (r == from.0) (r == to.0) (apart_tests r from.0 to.0 other))
    (λ r b. turn_ends group to after (r == from.0) (r == to.0) b) tt
    (turned_seats group to old.table new.table core tenure others other_tenures)

-- ## Frames
full_words : (f : List ℕ) (p q : PortView) → IsFull f p q → words_on q ≡ words_on p ++ []
full_words f p q full = elim full.cause [ inl b ↦ words_same p q b.whole | inr b ↦ words_same p q b.whole ]

same_test : (core ring : CoreId) → ring ≡ core → (core.0 == ring.0) ≡ true
same_test core ring is = let same = ap (λ (c : CoreId). c.0) is in grind (arith, nat_tests)

other_test : (r : ℕ) (core ring : CoreId) → ring ≡ core → r ≢ core.0 → (r == ring.0) ≡ false
other_test r core ring is other = let same = ap (λ (c : CoreId). c.0) is in grind (arith, nat_tests)

-- the ring of the frame's core
here : (w : WireNo) (g : ℕ) (core : CoreId) (f : List ℕ) (answer : Offer) (t : order.Table) (p q : PortView) → Answers w g core f answer p q
    → words_on q ≡ words_on p ++ put_by core.0 t w.0 (offered g answer)
here w g core f (TooLong len) t p q a = words_put p q None a.2
here w g core f (RingFull ring group items) t p q a = full_words f p q a.4
here w g core f (NoBuffer ring group frames) t p q a = words_same p q a.4.whole
here w g core f (Accepted ring group buf) t p q a =
    ap (map word) a.3.whole ∙ map-append word (whole p) _
    ∙ ap (λ (n : ℕ). words_on p ++ work n w.0 ∷ []) a.1
    ∙ ap (λ (xs : List order.Item). words_on p ++ xs) (sym (if_true (core.0 == ring.0) (work g w.0 ∷ []) [] (same_test core ring a.0)))

-- another ring
nothing_there : (w : WireNo) (g : ℕ) (core : CoreId) (f : List ℕ) (answer : Offer) (t : order.Table) (p q : PortView) (r : ℕ) → r ≢ core.0
    → Answers w g core f answer p q → put_by r t w.0 (offered g answer) ≡ []
nothing_there w g core f (TooLong len) t p q r other a = refl
nothing_there w g core f (RingFull ring group items) t p q r other a = refl
nothing_there w g core f (NoBuffer ring group frames) t p q r other a = refl
nothing_there w g core f (Accepted ring group buf) t p q r other a =
    if_false (r == ring.0) (work g w.0 ∷ []) [] (other_test r core ring a.0 other)

same_table : (g : ℕ) (answer : Offer) (t : order.Table) (h : ℕ) → turned t (offered g answer) h ≡ t h
same_table g (TooLong len) t h = refl
same_table g (RingFull ring group items) t h = refl
same_table g (NoBuffer ring group frames) t h = refl
same_table g (Accepted ring group buf) t h = refl

placed_is : (w : WireNo) (g : ℕ) (core : CoreId) (f : List ℕ) (answer : Offer) (table : Table) (p q : PortView) → core ≡ core_at table g → Answers w g core f answer p q
    → RingIs (seats table) (offered g answer)
placed_is w g core f (TooLong len) table p q is a = tt
placed_is w g core f (RingFull ring group items) table p q is a = tt
placed_is w g core f (NoBuffer ring group frames) table p q is a = tt
placed_is w g core f (Accepted ring group buf) table p q is a = ap (λ (c : CoreId). c.0) (a.0 ∙ is)

full_ends : (f : List ℕ) (p q : PortView) → IsFull f p q → q.ended ≡ p.ended
full_ends f p q full = elim full.cause [ inl b ↦ ap (λ (x : PortView). x.ended) b.rest | inr b ↦ ap (λ (x : PortView). x.ended) b.rest ]

ends_is : (w : WireNo) (g : ℕ) (core : CoreId) (f : List ℕ) (answer : Offer) (p q : PortView) → Answers w g core f answer p q → q.ended ≡ ended_after (offered g answer) p.ended
ends_is w g core f (TooLong len) p q a = ap (λ (x : PortView). x.ended) a.2.rest
ends_is w g core f (RingFull ring group items) p q a = full_ends f p q a.4
ends_is w g core f (NoBuffer ring group frames) p q a = ap (λ (x : PortView). x.ended) a.4.rest
ends_is w g core f (Accepted ring group buf) p q a = ap (λ (x : PortView). x.ended) a.3.rest

same_ends : (g : ℕ) (answer : Offer) (b : Bool) → ended_after (offered g answer) b ≡ b
same_ends g (TooLong len) b = refl
same_ends g (RingFull ring group items) b = refl
same_ends g (NoBuffer ring group frames) b = refl
same_ends g (Accepted ring group buf) b = refl

-- one of the rings
a_port : (ports : List PortView) (n : ℕ) → n < length ports → PortView
a_port [] n lt = absurd (omega arith)
a_port (p ∷ ps) n lt = p

pub offer_carried : (w : WireNo) (f : List ℕ) (answer : Offer) (old new : CardView) → (core_at old.table (group_of_frame f)).0 < length old.ports
    → Offered w f answer old new → CarriesOut (offered (group_of_frame f) answer) w.0 old new
offer_carried w f answer old new within o =
    let g = group_of_frame f in
    let core = core_at old.table g in
    let d0 = a_port old.ports core.0 within in
    record {
      count = o.count;
      rings = λ r d lt.
          elim (cases_eq r core.0) [
            | inl is ↦
                subst (λ (n : ℕ). words_on (get_or new.ports n d) ≡ words_on (get_or old.ports n d) ++ put_by n (seats old.table) w.0 (offered g answer)) (sym is)
                (here w g core f answer (seats old.table) (get_or old.ports core.0 d) (get_or new.ports core.0 d) (o.ring d))
            | inr other ↦
                words_put (get_or old.ports r d) (get_or new.ports r d) None (o.others r d lt other)
                ∙ ap (λ (xs : List order.Item). words_on (get_or old.ports r d) ++ xs)
                (sym (nothing_there w g core f answer (seats old.table) (get_or old.ports core.0 d) (get_or new.ports core.0 d) r other (o.ring d)))
          ];
      ends = λ r d lt.
          elim (cases_eq r core.0) [
            | inl is ↦
                subst (λ (n : ℕ). (get_or new.ports n d).ended ≡ ended_after (offered g answer) (get_or old.ports n d).ended) (sym is)
                (ends_is w g core f answer (get_or old.ports core.0 d) (get_or new.ports core.0 d) (o.ring d))
            | inr other ↦ ap (λ (p : PortView). p.ended) (o.others r d lt other).rest ∙ sym (same_ends g answer (get_or old.ports r d).ended)
          ];
      placed = placed_is w g core f answer old.table (get_or old.ports core.0 d0) (get_or new.ports core.0 d0) refl (o.ring d0);
      table = λ h. same_seats old.table new.table o.table h ∙ sym (same_table g answer (seats old.table) h);
      buffers = record {
        same = λ b r d lt.
            elim (cases_eq r core.0) [
              | inl is ↦
                  subst (λ (n : ℕ). Conserves b (get_or old.ports n d) (get_or new.ports n d)) (sym is)
                  (answers_keep b w g core f answer (get_or old.ports core.0 d) (get_or new.ports core.0 d) (o.ring d))
              | inr other ↦ puts_keep b (get_or old.ports r d) (get_or new.ports r d) None refl (o.others r d lt other)
            ];
      };
    }
