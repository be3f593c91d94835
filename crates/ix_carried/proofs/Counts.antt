-- What is counted of the rings, call by call.
use Rattle.std.proofs.Common.{◌≡◌, ◌≢◌, ◌<◌, ◌≤◌, ◌+◌, ◌^◌, ℕ, suc, List, length, get_or, Bool, true, false, None, Some, refl, ap, sym, subst, ◌∙◌, inl, inr, arith, eq-eqb}
use Rattle.std.specs.Prelude.{◌==◌, ◌||◌, if◌then◌else◌, Option, slice_get}
use Rattle.std.proofs.lemmas.Bool.{cases_eq}
use Rattle.std.proofs.lemmas.Bool.Decides.{nat_tests}
use Rattle.std.proofs.lemmas.Option.{slice_get-get_or}
use Rattle.ix_base.specs.declared.id.CoreId.{CoreId}
use Rattle.ix_base.specs.declared.id.GroupId.{GroupId}
use Rattle.ix_base.specs.declared.id.WireNo.{WireNo}
use Rattle.ix_lines.specs.declared.types.EntryLine.{EntryLine}
use Rattle.ix_lines.specs.declared.types.RingLine.{RingLine}
use Rattle.ix_lines.specs.declared.types.SettleLine.{SettleLine}
use Rattle.ix_nic.specs.declared.offer.Offer.{Offer}
use Rattle.ix_nic.specs.declared.offer.Offer.TheVariants.{TooLong, RingFull, NoBuffer, Accepted}
use Rattle.ix_nic.specs.Cards.{CardView, Offered, core_at}
use Rattle.ix_nic.specs.Offers.{Answers, IsFull}
use Rattle.ix_nic.specs.Ports.{PortView, Puts, counted}
use Rattle.ix_nic.specs.Ports as ports
use Rattle.ix_nic.specs.Words.{seats}
use Rattle.ix_order.specs.Wire.{Entry, Verdict, frame, time, tag, move, accepted, dropped, turned, Table, Seat}
use Rattle.ix_reta.specs.Table.{tenure_of}
use Rattle.ix_stack.specs.declared.item.Item.{Item}
use Rattle.ix_stack.specs.declared.item.Item.TheVariants as items
use Rattle.ix_steer.specs.Steering.{group_of_frame}
use Rattle.ix_fits.specs.Card.{Card, carried, is_accepted_on, is_put_on, one_more, posted_in, settled, verdict_of}
use Rattle.ix_carried.specs.Course.{CardStays, CountsStay, IsSettled, MoveCarried, RingsGiven, fate_of, tag_item, turn_item}
use Rattle.ix_carried.specs.Laws.{CardsStay}

-- ## What stays
counts-same : (p : PortView) → CountsStay p p
counts-same p = record { items = refl; frames = refl; posted = refl }

counts-join : (p q r : PortView) → CountsStay p q → CountsStay q r → CountsStay p r
counts-join p q r a b = record { items = b.items ∙ a.items; frames = b.frames ∙ a.frames; posted = b.posted ∙ a.posted }

-- nothing, or an item that does not count, is put
puts-stay : (item : Option Item) (p q : PortView) → ((n : ℕ) → counted item n ≡ n) → Puts item p q → CountsStay p q
puts-stay item p q none puts = record {
  items = ap (λ (x : PortView). x.items) puts.rest ∙ none p.items;
  frames = ap (λ (x : PortView). x.frames) puts.rest;
  posted = ap (λ (x : PortView). x.posted) puts.rest;
}

cards-join : (x y z : CardView) → CardStays x y → CardStays y z → CardStays x z
cards-join x y z a b = record {
  table = b.table ∙ a.table;
  count = b.count ∙ a.count;
  rings = λ r d lt.
      counts-join (get_or x.ports r d) (get_or y.ports r d) (get_or z.ports r d) (a.rings r d lt) (b.rings r d (subst (λ n. r < n) (sym a.count) lt));
}

pub cards_stay : CardsStay
cards_stay = record {
  same = λ v. record { table = refl; count = refl; rings = λ r d lt. counts-same (get_or v.ports r d) };
  retried = λ old new same carries. record {
    table = same;
    count = carries.count;
    rings = λ r d lt. puts-stay None (get_or old.ports r d) (get_or new.ports r d) (λ n. refl) (carries.rings r d lt);
  };
  ended = λ old new same carries. record {
    table = same;
    count = carries.count;
    rings = λ r d lt. puts-stay (Some items.End) (get_or old.ports r d) (get_or new.ports r d) (λ n. refl) (carries.rings r d lt);
  };
  joins = cards-join;
}

-- ## The card as it is counted
-- the counts of a ring, of which none is above the number of entries so far
pub record CountsAre (w : ℕ) (p : PortView) (c : Card) (r : ℕ) : Type 0 where
  pub posted : p.posted ≡ c.posted r
  pub frames : p.frames ≡ c.frames r
  pub items : p.items ≡ c.items r
  pub few_frames : c.frames r ≤ w
  pub few_items : c.items r ≤ w

-- a card with n rings
pub record StandsFor (n w : ℕ) (v : CardView) (c : Card) : Type 0 where
  pub count : length v.ports ≡ n
  pub table : (g : ℕ) → seats v.table g ≡ c.table g
  pub within : (g : ℕ) → g < 512 → (core_at v.table g).0 < n
  pub rings : (r : ℕ) (d : PortView) → r < n → CountsAre w (get_or v.ports r d) c r

pub stands-still : (n w : ℕ) (old new : CardView) (c : Card) → StandsFor n w old c → CardStays old new → StandsFor n w new c
stands-still n w old new c stands stays = record {
  count = stays.count ∙ stands.count;
  table = λ g. ap (λ t. seats t g) stays.table ∙ stands.table g;
  within = λ g lt. subst (λ t. (core_at t g).0 < n) (sym stays.table) (stands.within g lt);
  rings = λ r d lt.
      let now = stands.rings r d lt in
      let same = stays.rings r d (subst (λ k. r < k) (sym stands.count) lt) in
      record {
        posted = same.posted ∙ now.posted;
        frames = same.frames ∙ now.frames;
        items = same.items ∙ now.items;
        few_frames = now.few_frames;
        few_items = now.few_items;
      };
}

-- ## One more
counts-up : (n w : ℕ) → n ≤ w → suc w < 2 ^ 32 → ports.one_more n ≡ n + 1
counts-up n w le lt = omega arith

up-or-not : (b : Bool) (n w : ℕ) → n ≤ w → one_more b n ≤ suc w
up-or-not true n w le = omega (arith, le)
up-or-not false n w le = omega (arith, le)

-- ## Control entries
-- an item counts for a ring exactly where the entry puts one on it
abbrev CountsWhere : Option Item → Bool → Type 0
CountsWhere item b = (n w : ℕ) → n ≤ w → suc w < 2 ^ 32 → counted item n ≡ one_more b n

counts-none : CountsWhere None false
counts-none n w le lt = refl

tag-counts : (group : GroupId) (b : Bool) → CountsWhere (if b then Some (items.Tag group) else None) b
tag-counts group true n w le lt = counts-up n w le lt
tag-counts group false n w le lt = refl

turn-counts : (group : GroupId) (to : CoreId) (tenure : ℕ) (a b : Bool) → CountsWhere (if a then Some (items.Cut group to) else if b then Some (items.Start group tenure) else None) (a || b)
turn-counts group to tenure true b n w le lt = counts-up n w le lt
turn-counts group to tenure false true n w le lt = counts-up n w le lt
turn-counts group to tenure false false n w le lt = refl

-- an entry that is no frame, with its item for each ring
pub control-stands : (n w : ℕ) (old new : CardView) (c : Card) (item : ℕ → Option Item) (x : Entry) → StandsFor n w old c → suc w < 2 ^ 32
    → RingsGiven item old.ports new.ports → ((r : ℕ) → is_accepted_on r x ≡ false) → ((r : ℕ) → CountsWhere (item r) (is_put_on r c.table x))
    → ((g : ℕ) → seats new.table g ≡ turned c.table x g) → ((g : ℕ) → g < 512 → (core_at new.table g).0 < n) → StandsFor n (suc w) new (carried c x)
control-stands n w old new c item x stands few carries no_frame counts table within = record {
  count = carries.count ∙ stands.count;
  table = table;
  within = within;
  rings = λ r d lt.
      let now = stands.rings r d lt in
      let puts = carries.rings r d (subst (λ k. r < k) (sym stands.count) lt) in
      record {
        posted = ap (λ (p : PortView). p.posted) puts.rest ∙ now.posted;
        frames = ap (λ (p : PortView). p.frames) puts.rest ∙ now.frames ∙ sym (ap (λ (b : Bool). one_more b (c.frames r)) (no_frame r));
        items = ap (λ (p : PortView). p.items) puts.rest ∙ ap (counted (item r)) now.items ∙ counts r (c.items r) w now.few_items few;
        few_frames = up-or-not (is_accepted_on r x) (c.frames r) w now.few_frames;
        few_items = up-or-not (is_put_on r c.table x) (c.items r) w now.few_items;
      };
}

same-within : (n : ℕ) (old new : CardView) → new.table ≡ old.table → ((g : ℕ) → g < 512 → (core_at old.table g).0 < n) → (g : ℕ) → g < 512 → (core_at new.table g).0 < n
same-within n old new same within g lt = subst (λ t. (core_at t g).0 < n) (sym same) (within g lt)

pub time-stands : (n w : ℕ) (old new : CardView) (c : Card) (number : WireNo) (t : ℕ) → StandsFor n w old c → suc w < 2 ^ 32 → new.table ≡ old.table
    → RingsGiven (λ r. Some (items.Time number t)) old.ports new.ports → StandsFor n (suc w) new (carried c time)
time-stands n w old new c number t stands few same carries =
    control-stands n w old new c (λ r. Some (items.Time number t)) time stands few carries (λ r. refl) (λ r. counts-up)
    (λ g. ap (λ k. seats k g) same ∙ stands.table g) (same-within n old new same stands.within)

-- the core of a group, as the card has it and as it is counted
pub core-is : (n w : ℕ) (v : CardView) (c : Card) (g : ℕ) → StandsFor n w v c → (core_at v.table g).0 ≡ (c.table g).core
core-is n w v c g stands = ap (λ (s : Seat). s.core) (stands.table g)

pub tag-stands : (n w : ℕ) (old new : CardView) (c : Card) (group : GroupId) → StandsFor n w old c → suc w < 2 ^ 32 → new.table ≡ old.table
    → RingsGiven (tag_item group (core_at old.table group.0)) old.ports new.ports → StandsFor n (suc w) new (carried c (tag group.0))
tag-stands n w old new c group stands few same carries =
    control-stands n w old new c (tag_item group (core_at old.table group.0)) (tag group.0) stands few carries (λ r. refl)
    (λ r. subst (λ (k : ℕ). CountsWhere (tag_item group (core_at old.table group.0) r) (r == k)) (core-is n w old c group.0 stands) (tag-counts group (r == (core_at old.table group.0).0)))
    (λ g. ap (λ k. seats k g) same ∙ stands.table g) (same-within n old new same stands.within)

turned-within : (n : ℕ) (old : Table) (new : ℕ → CoreId) (h to : ℕ) → ((g : ℕ) → g < 512 → (old g).core < n) → to < n → ((g : ℕ) → (new g).0 ≡ (turned old (move h to) g).core)
    → (g : ℕ) → g < 512 → (new g).0 < n
turned-within n old new h to within below is g lt =
    subst (λ k. k < n) (sym (is g)) (by_test (g == h))
  where
    by_test : (b : Bool) → (let s : Seat = (if b then record { core = to; tenure = (old h).tenure + 1 } else old g) in s.core) < n
    by_test true = below
    by_test false = within g lt

pub move-stands : (n w : ℕ) (old new : CardView) (c : Card) (group : GroupId) (to : CoreId) (line : EntryLine) → StandsFor n w old c → suc w < 2 ^ 32
    → MoveCarried w group to line old new → StandsFor n (suc w) new (carried c (move group.0 to.0))
move-stands n w old new c group to line stands few moved =
    let from = core_at old.table group.0 in
    let seated : (g : ℕ) → seats new.table g ≡ turned (seats old.table) (move group.0 to.0) g = moved.entry.table in
    control-stands n w old new c (turn_item group from to (tenure_of old.table.turns group.0 + 1)) (move group.0 to.0) stands few moved.rings (λ r. refl)
    (λ r. subst (λ (k : ℕ). CountsWhere (turn_item group from to (tenure_of old.table.turns group.0 + 1) r) ((r == k) || (r == to.0))) (core-is n w old c group.0 stands) (turn-counts group to (tenure_of old.table.turns group.0 + 1) (r == from.0) (r == to.0)))
    (λ g. seated g ∙ turned-same (seats old.table) c.table group.0 to.0 stands.table g)
    (turned-within n (seats old.table) (core_at new.table) group.0 to.0 stands.within (subst (λ k. to.0 < k) stands.count moved.core) (λ g. ap (λ (s : Seat). s.core) (seated g)))
  where
    turned-same : (t u : Table) (h k : ℕ) → ((g : ℕ) → t g ≡ u g) → (g : ℕ) → turned t (move h k) g ≡ turned u (move h k) g
    turned-same t u h k same g =
        ap (λ (s : Seat). if g == h then s else t g) (ap (λ (s : Seat). (let z : Seat = record { core = k; tenure = s.tenure + 1 } in z)) (same h))
        ∙ ap (λ (s : Seat). if g == h then record { core = k; tenure = (u h).tenure + 1 } else s) (same g)

-- ## A frame
-- what an answer adds to the counts of the ring of its frame's core
abbrev Adds : Bool → PortView → PortView → Type 0
Adds b p q = (q.posted ≡ p.posted) × (q.frames ≡ (if b then ports.one_more p.frames else p.frames)) × (q.items ≡ (if b then ports.one_more p.items else p.items))

abbrev is_taken : Offer → Bool
is_taken (Accepted ring group buf) = true
is_taken (TooLong len) = false
is_taken (RingFull ring group items) = false
is_taken (NoBuffer ring group frames) = false

full-adds : (f : List ℕ) (p q : PortView) → IsFull f p q → Adds false p q
full-adds f p q full =
    elim full.cause [
      | inl b ↦ (ap (λ (x : PortView). x.posted) b.rest, ap (λ (x : PortView). x.frames) b.rest, ap (λ (x : PortView). x.items) b.rest)
      | inr b ↦ (ap (λ (x : PortView). x.posted) b.rest, ap (λ (x : PortView). x.frames) b.rest, ap (λ (x : PortView). x.items) b.rest)
    ]

none-adds : (p q : PortView) → Puts None p q → Adds false p q
none-adds p q puts = (ap (λ (x : PortView). x.posted) puts.rest, ap (λ (x : PortView). x.frames) puts.rest, ap (λ (x : PortView). x.items) puts.rest)

answer-adds : (w : WireNo) (g : ℕ) (core : CoreId) (f : List ℕ) (answer : Offer) (p q : PortView) → Answers w g core f answer p q → Adds (is_taken answer) p q
answer-adds w g core f (TooLong len) p q a = none-adds p q a.2
answer-adds w g core f (RingFull ring group items) p q a = full-adds f p q a.4
answer-adds w g core f (NoBuffer ring group frames) p q a = (ap (λ (x : PortView). x.posted) a.4.rest, ap (λ (x : PortView). x.frames) a.4.rest, ap (λ (x : PortView). x.items) a.4.rest)
answer-adds w g core f (Accepted ring group buf) p q a = (ap (λ (x : PortView). x.posted) a.3.rest, ap (λ (x : PortView). x.frames) a.3.rest, ap (λ (x : PortView). x.items) a.3.rest)

-- the entry of a frame whose core this is
abbrev pub entry_by : ℕ → CoreId → Offer → Entry
entry_by g core answer = frame g (verdict_of core (fate_of answer))

verdict-is : (core : CoreId) (answer : Offer) → verdict_of core (fate_of answer) ≡ (if is_taken answer then accepted core.0 else dropped)
verdict-is core (TooLong len) = refl
verdict-is core (RingFull ring group items) = refl
verdict-is core (NoBuffer ring group frames) = refl
verdict-is core (Accepted ring group buf) = refl

up-if : (b : Bool) (n w : ℕ) → n ≤ w → suc w < 2 ^ 32 → (if b then ports.one_more n else n) ≡ one_more b n
up-if true n w le lt = counts-up n w le lt
up-if false n w le lt = refl

-- where the answer adds, so does the entry, and on no other ring
abbrev CountsAs : ℕ → Table → Entry → Bool → Type 0
CountsAs r t x b = (is_put_on r t x ≡ b) × (is_accepted_on r x ≡ b)

put-here : (r core : ℕ) (b : Bool) (t : Table) (g : ℕ) → r ≡ core → CountsAs r t (frame g (if b then accepted core else dropped)) b
put-here r core true t g is = (eq-eqb r core is, eq-eqb r core is)
put-here r core false t g is = (refl, refl)

not-same : (r core : ℕ) → r ≢ core → (r == core) ≡ false
not-same r core other = grind (arith, nat_tests)

put-there : (r core : ℕ) (b : Bool) (t : Table) (g : ℕ) → r ≢ core → CountsAs r t (frame g (if b then accepted core else dropped)) false
put-there r core true t g other = (not-same r core other, not-same r core other)
put-there r core false t g other = (refl, refl)

counted-here : (w : ℕ) (p q : PortView) (c : Card) (r : ℕ) (b : Bool) (x : Entry) → CountsAre w p c r → suc w < 2 ^ 32 → Adds b p q
    → is_put_on r c.table x ≡ b → is_accepted_on r x ≡ b → CountsAre (suc w) q (carried c x) r
counted-here w p q c r b x now few adds puts accepts = record {
  posted = adds.0 ∙ now.posted;
  frames = adds.1 ∙ ap (λ (n : ℕ). if b then ports.one_more n else n) now.frames ∙ up-if b (c.frames r) w now.few_frames few ∙ sym (ap (λ (t : Bool). one_more t (c.frames r)) accepts);
  items = adds.2 ∙ ap (λ (n : ℕ). if b then ports.one_more n else n) now.items ∙ up-if b (c.items r) w now.few_items few ∙ sym (ap (λ (t : Bool). one_more t (c.items r)) puts);
  few_frames = up-or-not (is_accepted_on r x) (c.frames r) w now.few_frames;
  few_items = up-or-not (is_put_on r c.table x) (c.items r) w now.few_items;
}

pub frame-stands : (n w : ℕ) (old new : CardView) (c : Card) (bytes : List ℕ) (answer : Offer) → StandsFor n w old c → suc w < 2 ^ 32 → Offered (record { 0 = w }) bytes answer old new
    → StandsFor n (suc w) new (carried c (entry_by (group_of_frame bytes) (core_at old.table (group_of_frame bytes)) answer))
frame-stands n w old new c bytes answer stands few offered =
    let g = group_of_frame bytes in
    let core = core_at old.table g in
    let x = entry_by g core answer in
    record {
      count = offered.count ∙ stands.count;
      table = λ h. ap (λ t. seats t h) offered.table ∙ stands.table h;
      within = same-within n old new offered.table stands.within;
      rings = λ r d lt.
          elim (cases_eq r core.0) [
            | inl is ↦
                let both : CountsAs r c.table x (is_taken answer) =
                subst (λ (v : Verdict). CountsAs r c.table (frame g v) (is_taken answer)) (sym (verdict-is core answer)) (put-here r core.0 (is_taken answer) c.table g is) in
                counted-here w (get_or old.ports r d) (get_or new.ports r d) c r (is_taken answer) x (stands.rings r d lt) few
                (subst (λ (k : ℕ). Adds (is_taken answer) (get_or old.ports k d) (get_or new.ports k d)) (sym is)
                (answer-adds (record { 0 = w }) g core bytes answer (get_or old.ports core.0 d) (get_or new.ports core.0 d) (offered.ring d)))
                both.0 both.1
            | inr other ↦
                let both : CountsAs r c.table x false =
                subst (λ (v : Verdict). CountsAs r c.table (frame g v) false) (sym (verdict-is core answer)) (put-there r core.0 (is_taken answer) c.table g other) in
                counted-here w (get_or old.ports r d) (get_or new.ports r d) c r false x (stands.rings r d lt) few
                (none-adds (get_or old.ports r d) (get_or new.ports r d) (offered.others r d (subst (λ k. r < k) (sym stands.count) lt) other))
                both.0 both.1
          ];
    }

-- ## A settle
pub posted-at : (ls : List RingLine) (r : ℕ) (l : RingLine) → r < length ls → posted_in (slice_get ls r) ≡ (get_or ls r l).posted
posted-at ls r l lt = ap posted_in (slice_get-get_or ls r l lt)

pub settle-stands : (n w : ℕ) (old new : CardView) (c : Card) (line : SettleLine) (l : RingLine) → StandsFor n w old c → IsSettled line old new → StandsFor n (suc w) new (settled line.rings c.table)
settle-stands n w old new c line l stands settles = record {
  count = settles.count ∙ stands.count;
  table = λ g. ap (λ t. seats t g) settles.table ∙ stands.table g;
  within = same-within n old new settles.table stands.within;
  rings = λ r d lt.
      let there : r < length old.ports = subst (λ k. r < k) (sym stands.count) lt in
      record {
        posted = sym (posted-at line.rings r l (subst (λ k. r < k) (sym settles.lines) there) ∙ ap (λ (x : RingLine). x.posted) (settles.rings r d l there));
        frames = settles.no_frames r d there;
        items = settles.no_items r d there;
        few_frames = omega arith;
        few_items = omega arith;
      };
}
