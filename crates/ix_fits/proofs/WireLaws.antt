-- What a wire list owes to rings and cores.
use Rattle.std.proofs.Common.{◌≡◌, ℕ, suc, ◌<◌, ◌≤◌, refl, sym, ap, ◌∙◌, subst, Bool, true, false, List, [], ◌∷◌, ◌++◌, ◌+◌, ◌%◌, length, map, arith}
use Rattle.std.specs.Prelude.{if◌then◌else◌, ◌==◌, ◌&&◌, ◌||◌, not, All, Option, Some, None, slice_get}
use Rattle.std.proofs.lemmas.Bool.{and_parts, eqb-true}
use Rattle.std.proofs.lemmas.Bool.Decides.{nat_tests}
use Rattle.std.proofs.lemmas.Nat.{mod_below}
use Rattle.ix_base.specs.declared.id.CoreId.{CoreId}
use Rattle.ix_conf.specs.Settings.{Settings}
use Rattle.ix_groupdef.specs.Calls.{is_empty}
use Rattle.ix_lines.specs.declared.types.EntryLine.{EntryLine}
use Rattle.ix_lines.specs.declared.types.EntryLine.TheVariants as lines
use Rattle.ix_lines.specs.declared.types.Fate.{Fate}
use Rattle.ix_lines.specs.declared.types.Fate.TheVariants as fates
use Rattle.ix_lines.specs.declared.types.SettleLine.{SettleLine}
use Rattle.ix_order.specs.Steppers as order
use Rattle.ix_order.specs.Steppers.{TagsAlternate}
use Rattle.ix_order.specs.Wire.{Entry, accepted, dropped, frame, time, tag, move, settle, work, cut, start, tagged, NameCores, NamesCore, RingIs, RingsAre, Table, turned}
use Rattle.ix_playdef.specs.Clock.{clock_after}
use Rattle.ix_steer.specs.Steering.{group_of_frame}
use Rattle.ix_wire.specs.declared.entry.Entry.{Entry as WireEntry}
use Rattle.ix_wire.specs.declared.entry.Entry.TheVariants as wire
use Rattle.ix_wire.specs.Entries.{EachAllowed, IsThere, Terms, alternates, tagged_by}
use Rattle.ix_fits.specs.Card.{Card, ItemsAreCounted, card_after, entry_of, fit_all, fit_entries, fit_rings, fits_bytes, fits_entry, fits_fate, fits_frame, fits_settle, opening_table, settled, settles_after, verdict_of}
use Rattle.ix_fits.specs.Wires.{AreSeen, IsSeen, ReportsArePlays, WiresArePlayable, WiresCanBeJoined}

-- ## Items are counted where they are put
-- whether a list that a test chooses has an element
one-if : {A : Type 0} (b : Bool) (x : A) → (true && not (is_empty (if b then x ∷ [] else []))) ≡ b
one-if true x = refl
one-if false x = refl

two-if : {A : Type 0} (a b : Bool) (x y : A) → (true && not (is_empty ((if a then x ∷ [] else []) ++ (if b then y ∷ [] else [])))) ≡ (a || b)
two-if true b x y = refl
two-if false true x y = refl
two-if false false x y = refl

pub items_are_counted : ItemsAreCounted
items_are_counted r w t (frame g (accepted s)) = sym (one-if (r == s) (work g w))
items_are_counted r w t (frame g dropped) = refl
items_are_counted r w t time = refl
items_are_counted r w t (tag g) = sym (one-if (r == (t g).core) (tagged g))
items_are_counted r w t (move g c) = sym (two-if (r == (t g).core) (r == c) (cut g c) (start g ((t g).tenure + 1)))
items_are_counted r w t settle = refl

-- ## Tags and moves alternate
pub same-either : (a b : ℕ) → (a == b) ≡ (b == a)
same-either a b = grind (arith, nat_tests)

-- one entry keeps the tag as the two definitions have it
abbrev pub Agrees : ℕ → Bool → WireEntry → Entry → Type 0
Agrees g b x y = (order.alternates g b y ≡ alternates g b x) × (order.tagged_by g b y ≡ tagged_by g b x)

pub agrees : (g : ℕ) (b : Bool) (x : WireEntry) (y : Entry) → IsSeen x y → Agrees g b x y
agrees g b (wire.Frame rec) (frame h v) is = (refl, refl)
agrees g b (wire.Time t) time is = (refl, refl)
agrees g b (wire.Tag h) (tag k) is =
    let same : (g == k) ≡ (h.0 == g) = same-either g k ∙ ap (λ n. n == g) is in
    (ap (λ (t : Bool). if t then not b else true) same, ap (λ (t : Bool). if t then true else b) same)
agrees g b (wire.Move h c) (move k d) is =
    let same : (g == k) ≡ (h.0 == g) = same-either g k ∙ ap (λ n. n == g) is.0 in
    (ap (λ (t : Bool). if t then b else true) same, ap (λ (t : Bool). if t then false else b) same)
agrees g b wire.Settle settle is = (refl, refl)
agrees g b (wire.Frame rec) time is = absurd is
agrees g b (wire.Frame rec) (tag k) is = absurd is
agrees g b (wire.Frame rec) (move k d) is = absurd is
agrees g b (wire.Frame rec) settle is = absurd is
agrees g b (wire.Time t) (frame h v) is = absurd is
agrees g b (wire.Time t) (tag k) is = absurd is
agrees g b (wire.Time t) (move k d) is = absurd is
agrees g b (wire.Time t) settle is = absurd is
agrees g b (wire.Tag h) (frame k v) is = absurd is
agrees g b (wire.Tag h) time is = absurd is
agrees g b (wire.Tag h) (move k d) is = absurd is
agrees g b (wire.Tag h) settle is = absurd is
agrees g b (wire.Move h c) (frame k v) is = absurd is
agrees g b (wire.Move h c) time is = absurd is
agrees g b (wire.Move h c) (tag k) is = absurd is
agrees g b (wire.Move h c) settle is = absurd is
agrees g b wire.Settle (frame h v) is = absurd is
agrees g b wire.Settle time is = absurd is
agrees g b wire.Settle (tag k) is = absurd is
agrees g b wire.Settle (move k d) is = absurd is

alternate : (g : ℕ) (b : Bool) (xs : List WireEntry) (ys : List Entry) → AreSeen xs ys → EachAllowed (alternates g) (tagged_by g) b xs → TagsAlternate g b ys
alternate g b [] [] seen so = tt
alternate g b [] (y ∷ ys) seen so = absurd seen
alternate g b (x ∷ xs) [] seen so = tt
alternate g b (x ∷ xs) (y ∷ ys) seen so =
    let here : Agrees g b x y = agrees g b x y seen.0 in
    (here.0 ∙ so.0, alternate g (order.tagged_by g b y) xs ys seen.1 (subst (λ (t : Bool). EachAllowed (alternates g) (tagged_by g) t xs) (sym here.1) so.1))

-- ## Moves name cores
names-one : (x : Terms) (e : WireEntry) (y : Entry) → IsThere x e → IsSeen e y → NamesCore x.cores y
names-one x e (frame h v) there seen = tt
names-one x e time there seen = tt
names-one x e (tag k) there seen = tt
names-one x e settle there seen = tt
names-one x (wire.Move h c) (move k d) there seen = subst (λ n. n < x.cores) (sym seen.1) there.1
names-one x (wire.Frame rec) (move k d) there seen = absurd seen
names-one x (wire.Time t) (move k d) there seen = absurd seen
names-one x (wire.Tag h) (move k d) there seen = absurd seen
names-one x wire.Settle (move k d) there seen = absurd seen

names : (x : Terms) (es : List WireEntry) (ys : List Entry) → All (IsThere x) es → AreSeen es ys → NameCores x.cores ys
names x [] [] there seen = tt
names x [] (y ∷ ys) there seen = absurd seen
names x (e ∷ es) [] there seen = tt
names x (e ∷ es) (y ∷ ys) there seen =
    (names-one x e y (there 0 e (omega arith)) seen.0, names x es ys (λ k d lt. there (suc k) d (omega (arith, lt))) seen.1)

pub wires_are_playable : WiresArePlayable
wires_are_playable x es ys so seen =
    record { names = names x es ys so.there seen; alternate = λ g lt. alternate g false es ys seen (so.alternate g lt) }

mod-below : (n live cores : ℕ) → 1 ≤ live → live ≤ cores → n % live < cores
mod-below n live cores some le = omega (arith, mod_below n live (omega arith))

pub wires_can_be_joined : WiresCanBeJoined
wires_can_be_joined x es ys some le so seen rings =
    let plays = wires_are_playable x es ys so seen in
    record {
      core = λ g lt. mod-below (g % 128) x.live x.cores some le;
      tenure = λ g lt. refl;
      names = plays.names;
      rings = rings;
      alternate = plays.alternate;
    }

-- ## A report whose card fits
seen-entry : (s : Settings) (frames : List (List ℕ)) (c : Card) (clock : ℕ) (x : WireEntry) (y : EntryLine) → fits_entry s frames c clock x y ≡ true → IsSeen x (entry_of y)
seen-entry s frames c clock (wire.Frame rec) (lines.Frame shown at group ring fate) e = tt
seen-entry s frames c clock (wire.Time t) (lines.Time u) e = tt
seen-entry s frames c clock (wire.Tag g) (lines.Tag h) e = eqb-true h.0 g.0 e
seen-entry s frames c clock (wire.Move g to) (lines.Move h d) e =
    let both = and_parts (h.0 == g.0) (d.0 == to.0) e in (eqb-true h.0 g.0 both.0, eqb-true d.0 to.0 both.1)
seen-entry s frames c clock wire.Settle lines.Settle e = tt
seen-entry s frames c clock (wire.Frame rec) (lines.Time u) e = absurd (cc)
seen-entry s frames c clock (wire.Frame rec) (lines.Tag h) e = absurd (cc)
seen-entry s frames c clock (wire.Frame rec) (lines.Move h d) e = absurd (cc)
seen-entry s frames c clock (wire.Frame rec) lines.Settle e = absurd (cc)
seen-entry s frames c clock (wire.Time t) (lines.Frame shown at group ring fate) e = absurd (cc)
seen-entry s frames c clock (wire.Time t) (lines.Tag h) e = absurd (cc)
seen-entry s frames c clock (wire.Time t) (lines.Move h d) e = absurd (cc)
seen-entry s frames c clock (wire.Time t) lines.Settle e = absurd (cc)
seen-entry s frames c clock (wire.Tag g) (lines.Frame shown at group ring fate) e = absurd (cc)
seen-entry s frames c clock (wire.Tag g) (lines.Time u) e = absurd (cc)
seen-entry s frames c clock (wire.Tag g) (lines.Move h d) e = absurd (cc)
seen-entry s frames c clock (wire.Tag g) lines.Settle e = absurd (cc)
seen-entry s frames c clock (wire.Move g to) (lines.Frame shown at group ring fate) e = absurd (cc)
seen-entry s frames c clock (wire.Move g to) (lines.Time u) e = absurd (cc)
seen-entry s frames c clock (wire.Move g to) (lines.Tag h) e = absurd (cc)
seen-entry s frames c clock (wire.Move g to) lines.Settle e = absurd (cc)
seen-entry s frames c clock wire.Settle (lines.Frame shown at group ring fate) e = absurd (cc)
seen-entry s frames c clock wire.Settle (lines.Time u) e = absurd (cc)
seen-entry s frames c clock wire.Settle (lines.Tag h) e = absurd (cc)
seen-entry s frames c clock wire.Settle (lines.Move h d) e = absurd (cc)

-- an accepted frame is on the ring of its group's core
ring-bytes : (buffers : ℕ) (c : Card) (group ring : ℕ) (fate : Fate) (o : Option (List ℕ)) → fits_bytes buffers c group ring fate o ≡ true → ring ≡ (c.table group).core
ring-bytes buffers c group ring fate None e = absurd (cc)
ring-bytes buffers c group ring fate (Some bytes) e =
    eqb-true ring (c.table group).core
    (and_parts (group == group_of_frame bytes) (ring == (c.table group).core)
    (and_parts (group == group_of_frame bytes && ring == (c.table group).core) (fits_fate buffers c ring (length bytes) fate) e).0).1

ring-frame : (s : Settings) (frames : List (List ℕ)) (c : Card) (clock rec shown at group ring : ℕ) (fate : Fate) → fits_frame s frames c clock rec shown at group ring fate ≡ true → ring ≡ (c.table group).core
ring-frame s frames c clock rec shown at group ring fate e =
    ring-bytes s.buffers c group ring fate (slice_get frames shown)
    (and_parts (shown == rec && at == clock) (fits_bytes s.buffers c group ring fate (slice_get frames shown)) e).1

ring-fate : (t : Table) (g : ℕ) (ring : CoreId) (fate : Fate) → ring.0 ≡ (t g).core → RingIs t (frame g (verdict_of ring fate))
ring-fate t g ring (fates.Buf b) is = is
ring-fate t g ring (fates.RingFull n) is = tt
ring-fate t g ring (fates.NoBuffer n) is = tt
ring-fate t g ring (fates.TooLong n) is = tt

ring-entry : (s : Settings) (frames : List (List ℕ)) (c : Card) (clock : ℕ) (x : WireEntry) (y : EntryLine) → fits_entry s frames c clock x y ≡ true → RingIs c.table (entry_of y)
ring-entry s frames c clock (wire.Frame rec) (lines.Frame shown at group ring fate) e =
    ring-fate c.table group.0 ring fate (ring-frame s frames c clock rec shown at group.0 ring.0 fate e)
ring-entry s frames c clock x (lines.Time u) e = tt
ring-entry s frames c clock x (lines.Tag h) e = tt
ring-entry s frames c clock x (lines.Move h d) e = tt
ring-entry s frames c clock x lines.Settle e = tt
ring-entry s frames c clock (wire.Time t) (lines.Frame shown at group ring fate) e = absurd (cc)
ring-entry s frames c clock (wire.Tag g) (lines.Frame shown at group ring fate) e = absurd (cc)
ring-entry s frames c clock (wire.Move g to) (lines.Frame shown at group ring fate) e = absurd (cc)
ring-entry s frames c clock wire.Settle (lines.Frame shown at group ring fate) e = absurd (cc)

-- the table goes with the entries, whatever the settles tell
table-after : (c : Card) (y : EntryLine) (ls : List SettleLine) → (card_after c y ls).table ≡ turned c.table (entry_of y)
table-after c (lines.Frame rec at group ring fate) ls = refl
table-after c (lines.Time t) ls = refl
table-after c (lines.Tag group) ls = refl
table-after c (lines.Move group to) ls = refl
table-after c lines.Settle [] = refl
table-after c lines.Settle (l ∷ ls) = refl

play-from : (s : Settings) (frames : List (List ℕ)) (c : Card) (clock : ℕ) (xs : List WireEntry) (ys : List EntryLine) (ls : List SettleLine) → fit_entries s frames c clock xs ys ls ≡ true
    → AreSeen xs (map entry_of ys) × RingsAre c.table (map entry_of ys)
play-from s frames c clock [] [] ls e = (tt, tt)
play-from s frames c clock [] (y ∷ ys) ls e = absurd (cc)
play-from s frames c clock (x ∷ xs) [] ls e = absurd (cc)
play-from s frames c clock (x ∷ xs) (y ∷ ys) ls e =
    let now : ℕ = clock_after clock x in
    let rest : Bool = fit_entries s frames (card_after c y ls) now xs ys (settles_after y ls) in
    let both = and_parts (fits_entry s frames c now x y && fits_settle c y ls) rest e in
    let here = and_parts (fits_entry s frames c now x y) (fits_settle c y ls) both.0 in
    let later = play-from s frames (card_after c y ls) now xs ys (settles_after y ls) both.1 in (
      (seen-entry s frames c now x y here.0, later.0),
      (ring-entry s frames c now x y here.0, subst (λ (t : Table). RingsAre t (map entry_of ys)) (table-after c y ls) later.1),
    )

play-all : (s : Settings) (frames : List (List ℕ)) (xs : List WireEntry) (ys : List EntryLine) (ls : List SettleLine) → fit_all s frames xs ys ls ≡ true
    → AreSeen xs (map entry_of ys) × RingsAre (opening_table s.live) (map entry_of ys)
play-all s frames xs ys [] e = absurd (cc)
play-all s frames xs ys (l ∷ ls) e =
    let opening : Card = settled l.rings (opening_table s.live) in
    play-from s frames opening 0 xs ys ls (and_parts (fit_rings opening l.rings) (fit_entries s frames opening 0 xs ys ls) e).1

pub reports_are_plays : ReportsArePlays
reports_are_plays s frames es r card =
    let both = play-all s frames es r.entries r.settles card.entries_are in record { seen = both.0; rings = both.1 }
