-- The lines of a course fit.
use Rattle.std.proofs.Common.{◌≡◌, ◌<◌, ◌≤◌, ◌+◌, ◌^◌, ◌%◌, ℕ, suc, List, [], ◌∷◌, length, get_or, Bool, true, false, Some, refl, ap, sym, subst, ◌∙◌, arith, eq-eqb}
use Rattle.std.specs.Prelude.{◌==◌, ◌&&◌, nat_lt, nat_le, slice_get}
use Rattle.std.specs.List.{AllByRecursion, list_all, enumerate_from}
use Rattle.std.proofs.lemmas.Bool.Decides.{nat_tests}
use Rattle.std.proofs.lemmas.Nat.{mod_below}
use Rattle.ix_base.specs.Branches.{if_true, if_false}
use Rattle.ix_base.specs.declared.id.CoreId.{CoreId}
use Rattle.ix_base.specs.declared.id.GroupId.{GroupId}
use Rattle.ix_base.specs.declared.id.WireNo.{WireNo}
use Rattle.ix_base.specs.declared.id.TheConstants.{BUFFER_BYTES}
use Rattle.ix_conf.specs.Settings.{Settings}
use Rattle.ix_groupdef.specs.Calls.{is_empty}
use Rattle.ix_lines.specs.declared.types.EntryLine.{EntryLine}
use Rattle.ix_lines.specs.declared.types.EntryLine.TheVariants as lines
use Rattle.ix_lines.specs.declared.types.Fate.{Fate}
use Rattle.ix_lines.specs.declared.types.Fate.TheVariants as fates
use Rattle.ix_lines.specs.declared.types.RingLine.{RingLine}
use Rattle.ix_lines.specs.declared.types.SettleLine.{SettleLine}
use Rattle.ix_nic.specs.declared.offer.Offer.{Offer}
use Rattle.ix_nic.specs.declared.offer.Offer.TheVariants.{TooLong, RingFull, NoBuffer, Accepted}
use Rattle.ix_nic.specs.Cards.{CardView, Offered, core_at}
use Rattle.ix_nic.specs.Offers.{Answers}
use Rattle.ix_nic.specs.Ports.{PortView}
use Rattle.ix_order.specs.Wire.{Seat}
use Rattle.ix_playdef.specs.Clock.{clock_after}
use Rattle.ix_steer.specs.Steering.{group_of_frame, group_of_frame-below}
use Rattle.ix_wire.specs.declared.entry.Entry.{Entry}
use Rattle.ix_wire.specs.declared.entry.Entry.TheVariants as wire
use Rattle.ix_fits.specs.Card.{Card, card_after, fit_entries, fit_rings, fits_bytes, fits_entry, fits_fate, fits_frame_line, fits_long, fits_ring, fits_settle, fits_short, opening_table, settled, settles_after}
use Rattle.ix_carried.specs.Course.{Carried, Course, FrameCarried, IsSettled, MoveCarried, SettleCarried, TagCarried, TimeCarried, fate_of, frame_line}
use Rattle.ix_carried.specs.Laws.{CoursesFit, HasOwnBuffer, IsOpening, IsOwn}
use Rattle.ix_carried.proofs.Counts.{CountsAre, StandsFor, core-is, frame-stands, move-stands, posted-at, settle-stands, stands-still, tag-stands, time-stands}

both : (a b : Bool) → a ≡ true → b ≡ true → (a && b) ≡ true
both true true a b = refl
both true false a b = b
both false b a c = a

below-test : (a b : ℕ) → a < b → nat_lt a b ≡ true
below-test a b lt = grind (arith, nat_tests)

not-below-test : (a b : ℕ) → b ≤ a → nat_lt a b ≡ false
not-below-test a b le = grind (arith, nat_tests)

at-most-test : (a b : ℕ) → a ≤ b → nat_le a b ≡ true
at-most-test a b le = grind (arith, nat_tests)

-- ## What becomes of a frame
long-fits : (buffers : ℕ) (c : Card) (ring len : ℕ) (fate : Fate) → BUFFER_BYTES < len → fits_long len fate ≡ true → fits_fate buffers c ring len fate ≡ true
long-fits buffers c ring len fate long so =
    if_true (nat_lt BUFFER_BYTES len) (fits_long len fate) (fits_short buffers c ring fate) (below-test BUFFER_BYTES len long) ∙ so

short-fits : (buffers : ℕ) (c : Card) (ring len : ℕ) (fate : Fate) → len ≤ BUFFER_BYTES → fits_short buffers c ring fate ≡ true → fits_fate buffers c ring len fate ≡ true
short-fits buffers c ring len fate short so =
    if_false (nat_lt BUFFER_BYTES len) (fits_long len fate) (fits_short buffers c ring fate) (not-below-test BUFFER_BYTES len short) ∙ so

answer-fits : (buffers w : ℕ) (number : WireNo) (g : ℕ) (core : CoreId) (f : List ℕ) (answer : Offer) (p q : PortView) (c : Card) → CountsAre w p c core.0
    → IsOwn buffers core (fate_of answer) → Answers number g core f answer p q → fits_fate buffers c core.0 (length f) (fate_of answer) ≡ true
answer-fits buffers w number g core f (TooLong len) p q c now own a = long-fits buffers c core.0 (length f) (fates.TooLong len) a.1 (eq-eqb len (length f) a.0)
answer-fits buffers w number g core f (RingFull ring group items) p q c now own a =
    short-fits buffers c core.0 (length f) (fates.RingFull items) a.2
    (both (items == c.items core.0) (nat_le 512 items) (eq-eqb items (c.items core.0) (a.3 ∙ now.items)) (at-most-test 512 items (subst (λ (k : ℕ). 512 ≤ k) (sym a.3) a.4.items)))
answer-fits buffers w number g core f (NoBuffer ring group frames) p q c now own a =
    let enough : c.posted core.0 ≤ frames = subst (λ (k : ℕ). k ≤ frames) now.posted (subst (λ (k : ℕ). p.posted ≤ k) (sym a.3) a.4.frames) in
    short-fits buffers c core.0 (length f) (fates.NoBuffer frames) a.2
    (both (frames == c.frames core.0) (nat_le (c.posted core.0) frames) (eq-eqb frames (c.frames core.0) (a.3 ∙ now.frames)) (at-most-test (c.posted core.0) frames enough))
answer-fits buffers w number g core f (Accepted ring group buf) p q c now own a =
    short-fits buffers c core.0 (length f) (fates.Buf buf) a.2
    (both (buf.home.0 == core.0) (nat_lt buf.slot buffers) (eq-eqb buf.home.0 core.0 own.0) (below-test buf.slot buffers own.1))

-- one of the rings
a-port : (ports : List PortView) (n : ℕ) → n < length ports → PortView
a-port [] n lt = absurd (omega arith)
a-port (p ∷ ps) n lt = p

frame-bytes-fit : (s : Settings) (frames : List (List ℕ)) (n w : ℕ) (old new : CardView) (c : Card) (bytes : List ℕ) (answer : Offer) → StandsFor n w old c
    → IsOwn s.buffers (core_at old.table (group_of_frame bytes)) (fate_of answer) → Offered (record { 0 = w }) bytes answer old new
    → fits_bytes s.buffers c (group_of_frame bytes) (core_at old.table (group_of_frame bytes)).0 (fate_of answer) (Some bytes) ≡ true
frame-bytes-fit s frames n w old new c bytes answer stands own offered =
    let g = group_of_frame bytes in
    let core = core_at old.table g in
    let lt : core.0 < n = stands.within g (group_of_frame-below bytes) in
    let there : core.0 < length old.ports = subst (λ k. core.0 < k) (sym stands.count) lt in
    let d = a-port old.ports core.0 there in
    both ((g == g) && (core.0 == (c.table g).core)) (fits_fate s.buffers c core.0 (length bytes) (fate_of answer))
    (both (g == g) (core.0 == (c.table g).core) (eq-eqb g g refl) (eq-eqb core.0 (c.table g).core (core-is n w old c g stands)))
    (answer-fits s.buffers w (record { 0 = w }) g core bytes answer (get_or old.ports core.0 d) (get_or new.ports core.0 d) c (stands.rings core.0 d lt) own (offered.ring d))

frame-fits : (s : Settings) (frames : List (List ℕ)) (n w clock rec : ℕ) (old new : CardView) (c : Card) (bytes : List ℕ) (answer : Offer) → StandsFor n w old c
    → slice_get frames rec ≡ Some bytes → IsOwn s.buffers (core_at old.table (group_of_frame bytes)) (fate_of answer) → Offered (record { 0 = w }) bytes answer old new
    → fits_frame_line s frames c clock rec (frame_line rec clock old bytes answer) ≡ true
frame-fits s frames n w clock rec old new c bytes answer stands found own offered =
    let g = group_of_frame bytes in
    let core = core_at old.table g in
    both ((rec == rec) && (clock == clock)) (fits_bytes s.buffers c g core.0 (fate_of answer) (slice_get frames rec))
    (both (rec == rec) (clock == clock) (eq-eqb rec rec refl) (eq-eqb clock clock refl))
    (ap (fits_bytes s.buffers c g core.0 (fate_of answer)) found ∙ frame-bytes-fit s frames n w old new c bytes answer stands own offered)

-- ## Rings of a settle
rings-from : (c : Card) (k : ℕ) (ls : List RingLine) → ((r : ℕ) (l : RingLine) → r < length ls → fits_ring c (k + r) (get_or ls r l) ≡ true)
    → list_all (λ (p : ℕ × RingLine). fits_ring c p.0 p.1) (enumerate_from k ls) ≡ true
rings-from c k [] each = refl
rings-from c k (x ∷ xs) each =
    let zero-more : k + 0 ≡ k = omega arith in
    both (fits_ring c k x) (list_all (λ (p : ℕ × RingLine). fits_ring c p.0 p.1) (enumerate_from (k + 1) xs))
    (subst (λ (r : ℕ). fits_ring c r x ≡ true) zero-more (each 0 x (omega arith)))
    (rings-from c (k + 1) xs (λ r l lt.
    let more : k + suc r ≡ k + 1 + r = omega arith in
    subst (λ (j : ℕ). fits_ring c j (get_or xs r l) ≡ true) more (each (suc r) l (omega (arith, lt)))))

all-rings : (c : Card) (ls : List RingLine) → ((r : ℕ) (l : RingLine) → r < length ls → fits_ring c r (get_or ls r l) ≡ true) → fit_rings c ls ≡ true
all-rings c ls each =
    rings-from c 0 ls (λ r l lt.
    let none : r ≡ 0 + r = omega arith in
    subst (λ (k : ℕ). fits_ring c k (get_or ls r l) ≡ true) none (each r l lt))

ring-fits : (c : Card) (r posted frames items : ℕ) (l : RingLine) → l ≡ record { posted = posted; frames = frames; items = items } → frames ≡ c.frames r → items ≡ c.items r → fits_ring c r l ≡ true
ring-fits c r posted frames items l is same_frames same_items =
    both (l.frames == c.frames r) (l.items == c.items r)
    (eq-eqb l.frames (c.frames r) (ap (λ (x : RingLine). x.frames) is ∙ same_frames))
    (eq-eqb l.items (c.items r) (ap (λ (x : RingLine). x.items) is ∙ same_items))

settle-fits : (n w : ℕ) (old new : CardView) (c : Card) (line : SettleLine) → StandsFor n w old c → IsSettled line old new → fit_rings c line.rings ≡ true
settle-fits n w old new c line stands settles =
    all-rings c line.rings (λ r l lt.
    let there : r < length old.ports = subst (λ k. r < k) settles.lines lt in
    let d = a-port old.ports r there in
    let now = stands.rings r d (subst (λ k. r < k) stands.count there) in
    ring-fits c r (get_or new.ports r d).posted (get_or old.ports r d).frames (get_or old.ports r d).items (get_or line.rings r l) (settles.rings r d l there) now.frames now.items)

-- ## One entry
-- the line fits, and the card behind it is as it is counted
abbrev Fits : Settings → List (List ℕ) → ℕ → ℕ → ℕ → Entry → EntryLine → List SettleLine → Card → CardView → Type 0
Fits s frames n w clock x y ls c new = ((fits_entry s frames c clock x y && fits_settle c y ls) ≡ true) × StandsFor n (suc w) new (card_after c y ls)

frame-case : (s : Settings) (frames : List (List ℕ)) (n w clock rec : ℕ) (y : EntryLine) (ls : List SettleLine) (old new : CardView) (c : Card) → StandsFor n w old c → suc w < 2 ^ 32
    → HasOwnBuffer s.buffers y → FrameCarried frames clock w rec y old new → Fits s frames n w clock (wire.Frame rec) y ls c new
frame-case s frames n w clock rec y ls old new c stands few own carried =
    let line : EntryLine = frame_line rec clock old carried.bytes carried.answer in
    let owned : HasOwnBuffer s.buffers line = subst (HasOwnBuffer s.buffers) carried.told own in
    subst (λ (z : EntryLine). Fits s frames n w clock (wire.Frame rec) z ls c new) (sym carried.told) (
      both (fits_frame_line s frames c clock rec line) true (frame-fits s frames n w clock rec old new c carried.bytes carried.answer stands carried.found owned carried.offered) refl,
      frame-stands n w old new c carried.bytes carried.answer stands few carried.offered,
    )

time-case : (s : Settings) (frames : List (List ℕ)) (n w clock t : ℕ) (y : EntryLine) (ls : List SettleLine) (old new : CardView) (c : Card) → StandsFor n w old c → suc w < 2 ^ 32
    → TimeCarried w t y old new → Fits s frames n w clock (wire.Time t) y ls c new
time-case s frames n w clock t y ls old new c stands few carried =
    subst (λ (z : EntryLine). Fits s frames n w clock (wire.Time t) z ls c new) (sym carried.told)
    (both (t == t) true (eq-eqb t t refl) refl, time-stands n w old new c (record { 0 = w }) t stands few carried.table carried.rings)

tag-case : (s : Settings) (frames : List (List ℕ)) (n w clock : ℕ) (group : GroupId) (y : EntryLine) (ls : List SettleLine) (old new : CardView) (c : Card) → StandsFor n w old c → suc w < 2 ^ 32
    → TagCarried group y old new → Fits s frames n w clock (wire.Tag group) y ls c new
tag-case s frames n w clock group y ls old new c stands few carried =
    subst (λ (z : EntryLine). Fits s frames n w clock (wire.Tag group) z ls c new) (sym carried.told)
    (both (group.0 == group.0) true (eq-eqb group.0 group.0 refl) refl, tag-stands n w old new c group stands few carried.table carried.rings)

move-case : (s : Settings) (frames : List (List ℕ)) (n w clock : ℕ) (group : GroupId) (to : CoreId) (y : EntryLine) (ls : List SettleLine) (old new : CardView) (c : Card) → StandsFor n w old c
    → suc w < 2 ^ 32 → MoveCarried w group to y old new → Fits s frames n w clock (wire.Move group to) y ls c new
move-case s frames n w clock group to y ls old new c stands few carried =
    subst (λ (z : EntryLine). Fits s frames n w clock (wire.Move group to) z ls c new) (sym carried.told) (
      both ((group.0 == group.0) && (to.0 == to.0)) true (both (group.0 == group.0) (to.0 == to.0) (eq-eqb group.0 group.0 refl) (eq-eqb to.0 to.0 refl)) refl,
      move-stands n w old new c group to y stands few carried,
    )

settle-case : (s : Settings) (frames : List (List ℕ)) (n w clock : ℕ) (y : EntryLine) (ls : List SettleLine) (old new : CardView) (c : Card) → StandsFor n w old c
    → SettleCarried y ls old new → Fits s frames n w clock wire.Settle y ls c new
settle-case s frames n w clock y ls old new c stands carried =
    subst (λ (z : EntryLine). Fits s frames n w clock wire.Settle z ls c new) (sym carried.told)
    (subst (λ (zs : List SettleLine). Fits s frames n w clock wire.Settle lines.Settle zs c new) (sym carried.next) (
      both true (fit_rings c carried.settle.rings) refl (settle-fits n w old new c carried.settle stands carried.settled),
      settle-stands n w old new c carried.settle (record { posted = 0; frames = 0; items = 0 }) stands carried.settled,
    ))

one-fits : (s : Settings) (frames : List (List ℕ)) (n w clock : ℕ) (x : Entry) (y : EntryLine) (ls : List SettleLine) (old new : CardView) (c : Card) → StandsFor n w old c → suc w < 2 ^ 32
    → HasOwnBuffer s.buffers y → Carried frames clock w x y ls old new → Fits s frames n w clock x y ls c new
one-fits s frames n w clock (wire.Frame rec) y ls old new c stands few own carried = frame-case s frames n w clock rec y ls old new c stands few own carried
one-fits s frames n w clock (wire.Time t) y ls old new c stands few own carried = time-case s frames n w clock t y ls old new c stands few carried
one-fits s frames n w clock (wire.Tag group) y ls old new c stands few own carried = tag-case s frames n w clock group y ls old new c stands few carried
one-fits s frames n w clock (wire.Move group to) y ls old new c stands few own carried = move-case s frames n w clock group to y ls old new c stands few carried
one-fits s frames n w clock wire.Settle y ls old new c stands few own carried = settle-case s frames n w clock y ls old new c stands carried

-- ## All entries
all-fit : (s : Settings) (frames : List (List ℕ)) (n w clock : ℕ) (xs : List Entry) (ys : List EntryLine) (ls : List SettleLine) (old new : CardView) (c : Card) → StandsFor n w old c
    → w + length xs < 2 ^ 32 → AllByRecursion (HasOwnBuffer s.buffers) ys → Course frames clock w xs ys ls old new → fit_entries s frames c clock xs ys ls ≡ true
all-fit s frames n w clock [] [] ls old new c stands few own course = ap is_empty course.0
all-fit s frames n w clock [] (y ∷ ys) ls old new c stands few own course = absurd course
all-fit s frames n w clock (x ∷ xs) [] ls old new c stands few own course = absurd course
all-fit s frames n w clock (x ∷ xs) (y ∷ ys) ls old new c stands few own course =
    let before : CardView = course.0 in
    let after : CardView = course.1 in
    let next : suc w < 2 ^ 32 = omega arith in
    let later : suc w + length xs < 2 ^ 32 = omega arith in
    let here : Fits s frames n w (clock_after clock x) x y ls c after =
    one-fits s frames n w (clock_after clock x) x y ls before after c (stands-still n w old before c stands course.2.0) next own.0 course.2.1 in
    both (fits_entry s frames c (clock_after clock x) x y && fits_settle c y ls) (fit_entries s frames (card_after c y ls) (clock_after clock x) xs ys (settles_after y ls)) here.0
    (all-fit s frames n (suc w) (clock_after clock x) xs ys (settles_after y ls) after new (card_after c y ls) here.1 later own.1 course.2.2)

-- ## The opening
home-below : (g live cores : ℕ) → 1 ≤ live → live ≤ cores → g % 128 % live < cores
home-below g live cores some le = omega (arith, mod_below (g % 128) live (omega arith))

opening-stands : (s : Settings) (settle : SettleLine) (card : CardView) → 1 ≤ s.live → s.live ≤ s.cores → IsOpening s settle card → StandsFor s.cores 0 card (settled settle.rings (opening_table s.live))
opening-stands s settle card some le opens = record {
  count = opens.count;
  table = opens.table;
  within = λ g lt. subst (λ k. k < s.cores) (sym (ap (λ (x : Seat). x.core) (opens.table g))) (home-below g s.live s.cores some le);
  rings = λ r d lt.
      let l : RingLine = record { posted = 0; frames = 0; items = 0 } in
      record {
        posted = sym (posted-at settle.rings r l (subst (λ k. r < k) (sym opens.lines) lt) ∙ ap (λ (x : RingLine). x.posted) (opens.rings r d l lt));
        frames = opens.no_frames r d lt;
        items = opens.no_items r d lt;
        few_frames = omega arith;
        few_items = omega arith;
      };
}

opening-fits : (s : Settings) (settle : SettleLine) (card : CardView) → IsOpening s settle card → fit_rings (settled settle.rings (opening_table s.live)) settle.rings ≡ true
opening-fits s settle card opens =
    all-rings (settled settle.rings (opening_table s.live)) settle.rings (λ r l lt.
    let below : r < s.cores = subst (λ k. r < k) opens.lines lt in
    let d = a-port card.ports r (subst (λ k. r < k) (sym opens.count) below) in
    ring-fits (settled settle.rings (opening_table s.live)) r (get_or card.ports r d).posted 0 0 (get_or settle.rings r l) (opens.rings r d l below) refl refl)

pub courses_fit : CoursesFit
courses_fit s frames xs ys settle settles old new some le few opens course own =
    both (fit_rings (settled settle.rings (opening_table s.live)) settle.rings) (fit_entries s frames (settled settle.rings (opening_table s.live)) 0 xs ys settles)
    (opening-fits s settle old opens)
    (all-fit s frames s.cores 0 0 xs ys settles old new (settled settle.rings (opening_table s.live)) (opening-stands s settle old some le opens) (omega (arith, few)) own course)
