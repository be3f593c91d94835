-- A play on one core, each frame alone.
use Rattle.std.proofs.Common.{◌≡◌, ℕ, suc, ◌+◌, ◌%◌, ◌<◌, refl, sym, ap, ◌∙◌, subst, Bool, true, false, List, [], ◌∷◌, ◌++◌, length, map, filter, arith, add-one}
use Rattle.std.specs.Prelude.{if◌then◌else◌, ◌==◌, ◌&&◌, not, nat_lt, slice_get, is_some, Option, Some, None, unwrap_or}
use Rattle.std.specs.List.{AllByRecursion, list_all}
use Rattle.std.proofs.lemmas.Bool.{and_parts, eqb-true}
use Rattle.std.proofs.Math.Nat.{mod-one}
use Rattle.std.proofs.lemmas.List.{map-append}
use Rattle.ix_base.specs.declared.id.TheConstants.{BUFFER_BYTES}
use Rattle.ix_base.specs.declared.id.CoreId.{CoreId}
use Rattle.ix_conf.specs.Settings.{Settings}
use Rattle.ix_groupdef.specs.Group.{Connect, Cycle, Frames, Time as TimeCycle, run}
use Rattle.ix_groupdef.specs.Record.{record_of}
use Rattle.ix_lines.specs.declared.types.EntryLine.{EntryLine}
use Rattle.ix_lines.specs.declared.types.EntryLine.TheVariants as lines
use Rattle.ix_lines.specs.declared.types.Fate.{Fate}
use Rattle.ix_lines.specs.declared.types.Fate.TheVariants as fates
use Rattle.ix_lines.specs.declared.types.SettleLine.{SettleLine}
use Rattle.ix_order.specs.Steppers.{LastTag, none_yet, no_move, moved_to, last_tag_by, moved_by, next_core, stepper}
use Rattle.ix_order.specs.Wire.{Entry, frame, time, tag, move, settle, NameCores, NamesCore}
use Rattle.ix_playdef.specs.Clock.{clock_after}
use Rattle.ix_playdef.specs.Connects.{connects_from, connects_in, core0, is_asked_in}
use Rattle.ix_playdef.specs.Setting.{is_push, setting_of_play}
use Rattle.ix_playdef.specs.Wire as given
use Rattle.ix_playdef.specs.Wire.{cycle_by, cycles_of, given_from, group_entries}
use Rattle.ix_playdef.specs.declared.wire.Given.{Given}
use Rattle.ix_playdef.specs.declared.wire.Given.TheVariants.{Frame, Time}
use Rattle.ix_reta.specs.Table.{opening_core}
use Rattle.ix_steer.specs.Steering.{group_of_frame}
use Rattle.ix_wire.specs.declared.entry.Entry.{Entry as WireEntry}
use Rattle.ix_wire.specs.declared.entry.Entry.TheVariants as wire
use Rattle.ix_fits.specs.Card.{Card, card_after, entry_of, fit_all, fit_entries, fit_rings, fits_bytes, fits_entry, fits_fate, fits_long, fits_settle, fits_short, opening_table, settled, settles_after}
use Rattle.ix_fits.specs.Connects.{asked_from, asked_in}
use Rattle.ix_fits.specs.Cutting.{Due, Stage, due_of, dues_from, first_stage, frame_given, given_by, if_accepted, stage_after}
use Rattle.ix_fits.specs.Alone.{HasCore}
use Rattle.ix_fits.specs.Fits.{dues_of}
use Rattle.ix_fits.specs.OneCore.{GivenByTheWire, OneCorePlays, given_of, is_kept, is_kept_fate}
use Rattle.ix_fits.specs.Read.{alone, core_of, cycle_alone}
use Rattle.ix_fits.proofs.AloneLaws.{all_are_stepped, open-same}
use Rattle.ix_fits.proofs.WireLaws.{reports_are_plays, wires_are_playable}

-- ## What a group is given
given-dues : (core : Option ℕ) (s : Stage) (gs : List Given) → map given_of (map (due_of core s) gs) ≡ gs
given-dues core s [] = refl
given-dues core s (x ∷ xs) = ap (λ (ys : List Given). x ∷ ys) (given-dues core s xs)

-- of a frame with its bytes
from-bytes : (buffers : ℕ) (c : Card) (g w group ring : ℕ) (fate : Fate) (o : Option (List ℕ)) → fits_bytes buffers c group ring fate o ≡ true → is_kept_fate fate ≡ true
    → (if group == g then if_accepted fate (frame_given w o) else []) ≡ given.given_frame g w o
from-bytes buffers c g w group ring fate None e kept = absurd (cc)
from-bytes buffers c g w group ring fate (Some bytes) e kept =
    let parts = and_parts (group == group_of_frame bytes && ring == (c.table group).core) (fits_fate buffers c ring (length bytes) fate) e in
    let same : group ≡ group_of_frame bytes = eqb-true group (group_of_frame bytes) (and_parts (group == group_of_frame bytes) (ring == (c.table group).core) parts.0).0 in
    ap (λ (n : ℕ). if n == g then if_accepted fate (frame_given w (Some bytes)) else []) same ∙ by_fate fate (nat_lt BUFFER_BYTES (length bytes)) parts.1 kept
  where
    none-either : (t : Bool) → (if t then (let gs : List Given = [] in gs) else []) ≡ []
    none-either true = refl
    none-either false = refl

    by_fate : (f : Fate) (long : Bool) → (if long then fits_long (length bytes) f else fits_short buffers c ring f) ≡ true → is_kept_fate f ≡ true
        → (if group_of_frame bytes == g then if_accepted f (frame_given w (Some bytes)) else []) ≡ (if not long && (group_of_frame bytes == g) then Frame (record { w = record { 0 = w }; frame = bytes }) ∷ [] else [])
    by_fate (fates.Buf b) true p k = absurd (cc)
    by_fate (fates.Buf b) false p k = refl
    by_fate (fates.TooLong n) true p k = none-either (group_of_frame bytes == g)
    by_fate (fates.TooLong n) false p k = absurd (cc)
    by_fate (fates.RingFull n) long p k = absurd (cc)
    by_fate (fates.NoBuffer n) long p k = absurd (cc)

-- of an entry
from-entry : (s : Settings) (frames : List (List ℕ)) (c : Card) (now g w : ℕ) (x : WireEntry) (y : EntryLine) → fits_entry s frames c now x y ≡ true → is_kept y ≡ true
    → given_by frames g w y ≡ given.given_by frames g w x
from-entry s frames c now g w (wire.Frame rec) (lines.Frame shown at group ring fate) e kept =
    let parts = and_parts (shown == rec && at == now) (fits_bytes s.buffers c group.0 ring.0 fate (slice_get frames shown)) e in
    let same : shown ≡ rec = eqb-true shown rec (and_parts (shown == rec) (at == now) parts.0).0 in
    from-bytes s.buffers c g w group.0 ring.0 fate (slice_get frames shown) parts.1 kept ∙ ap (λ (n : ℕ). given.given_frame g w (slice_get frames n)) same
from-entry s frames c now g w (wire.Time t) (lines.Time u) e kept = ap (λ (n : ℕ). Time (record { 0 = w }) n ∷ []) (eqb-true u t e)
from-entry s frames c now g w (wire.Tag h) (lines.Tag k) e kept = refl
from-entry s frames c now g w (wire.Move h to) (lines.Move k d) e kept = refl
from-entry s frames c now g w wire.Settle lines.Settle e kept = refl
from-entry s frames c now g w (wire.Frame rec) (lines.Time u) e kept = absurd (cc)
from-entry s frames c now g w (wire.Frame rec) (lines.Tag k) e kept = absurd (cc)
from-entry s frames c now g w (wire.Frame rec) (lines.Move k d) e kept = absurd (cc)
from-entry s frames c now g w (wire.Frame rec) lines.Settle e kept = absurd (cc)
from-entry s frames c now g w (wire.Time t) (lines.Frame shown at group ring fate) e kept = absurd (cc)
from-entry s frames c now g w (wire.Time t) (lines.Tag k) e kept = absurd (cc)
from-entry s frames c now g w (wire.Time t) (lines.Move k d) e kept = absurd (cc)
from-entry s frames c now g w (wire.Time t) lines.Settle e kept = absurd (cc)
from-entry s frames c now g w (wire.Tag h) (lines.Frame shown at group ring fate) e kept = absurd (cc)
from-entry s frames c now g w (wire.Tag h) (lines.Time u) e kept = absurd (cc)
from-entry s frames c now g w (wire.Tag h) (lines.Move k d) e kept = absurd (cc)
from-entry s frames c now g w (wire.Tag h) lines.Settle e kept = absurd (cc)
from-entry s frames c now g w (wire.Move h to) (lines.Frame shown at group ring fate) e kept = absurd (cc)
from-entry s frames c now g w (wire.Move h to) (lines.Time u) e kept = absurd (cc)
from-entry s frames c now g w (wire.Move h to) (lines.Tag k) e kept = absurd (cc)
from-entry s frames c now g w (wire.Move h to) lines.Settle e kept = absurd (cc)
from-entry s frames c now g w wire.Settle (lines.Frame shown at group ring fate) e kept = absurd (cc)
from-entry s frames c now g w wire.Settle (lines.Time u) e kept = absurd (cc)
from-entry s frames c now g w wire.Settle (lines.Tag k) e kept = absurd (cc)
from-entry s frames c now g w wire.Settle (lines.Move k d) e kept = absurd (cc)

from-step : (frames : List (List ℕ)) (g opening w : ℕ) (st : Stage) (y : EntryLine) (ys : List EntryLine)
    → map given_of (dues_from frames g opening st w (y ∷ ys)) ≡ given_by frames g w y ++ map given_of (dues_from frames g opening (stage_after g st y) (suc w) ys)
unfolding dues_from
from-step frames g opening w st y ys =
    map-append given_of (map (due_of (stepper g opening st.last (map entry_of (y ∷ ys))) st) (given_by frames g w y)) (dues_from frames g opening (stage_after g st y) (suc w) ys)
    ∙ ap (λ (gs : List Given). gs ++ map given_of (dues_from frames g opening (stage_after g st y) (suc w) ys)) (given-dues (stepper g opening st.last (map entry_of (y ∷ ys))) st (given_by frames g w y))

from-entries : (s : Settings) (frames : List (List ℕ)) (c : Card) (now g opening w : ℕ) (st : Stage) (xs : List WireEntry) (ys : List EntryLine) (ls : List SettleLine)
    → fit_entries s frames c now xs ys ls ≡ true → list_all is_kept ys ≡ true → map given_of (dues_from frames g opening st w ys) ≡ given_from frames g w xs
unfolding dues_from
from-entries s frames c now g opening w st [] [] ls e kept = refl
from-entries s frames c now g opening w st [] (y ∷ ys) ls e kept = absurd (cc)
from-entries s frames c now g opening w st (x ∷ xs) [] ls e kept = absurd (cc)
from-entries s frames c now g opening w st (x ∷ xs) (y ∷ ys) ls e kept =
    let later : ℕ = clock_after now x in
    let rest : Bool = fit_entries s frames (card_after c y ls) later xs ys (settles_after y ls) in
    let both = and_parts (fits_entry s frames c later x y && fits_settle c y ls) rest e in
    let here = and_parts (fits_entry s frames c later x y) (fits_settle c y ls) both.0 in
    let keeps = and_parts (is_kept y) (list_all is_kept ys) kept in
    from-step frames g opening w st y ys
    ∙ ap (λ (gs : List Given). gs ++ map given_of (dues_from frames g opening (stage_after g st y) (suc w) ys)) (from-entry s frames c later g w x y here.0 keeps.0)
    ∙ ap (λ (gs : List Given). given.given_by frames g w x ++ gs)
    (from-entries s frames (card_after c y ls) later g opening (suc w) (stage_after g st y) xs ys (settles_after y ls) both.1 keeps.1 ∙ ap (λ (n : ℕ). given_from frames g n xs) (sym (add-one w)))

pub given_by_the_wire : GivenByTheWire
given_by_the_wire s frames es r g card kept = from-all s frames g es r.entries r.settles card.entries_are kept
  where
    from-all : (t : Settings) (fs : List (List ℕ)) (h : ℕ) (xs : List WireEntry) (ys : List EntryLine) (ls : List SettleLine) → fit_all t fs xs ys ls ≡ true → list_all is_kept ys ≡ true
        → map given_of (dues_from fs h (opening_core s.live g).0 first_stage 0 ys) ≡ given_from fs h 0 xs
    from-all t fs h xs ys [] e k = absurd (cc)
    from-all t fs h xs ys (l ∷ ls) e k =
        let opening : Card = settled l.rings (opening_table t.live) in
        from-entries t fs opening 0 h (opening_core s.live g).0 0 first_stage xs ys ls (and_parts (fit_rings opening l.rings) (fit_entries t fs opening 0 xs ys ls) e).1 k

-- ## Frames are short
abbrev IsShort : Given → Type 0
IsShort (Frame t) = nat_lt BUFFER_BYTES (length t.frame) ≡ false
IsShort (Time w t) = Unit {0}

all-append : (xs ys : List Given) → AllByRecursion IsShort xs → AllByRecursion IsShort ys → AllByRecursion IsShort (xs ++ ys)
all-append [] ys p q = q
all-append (x ∷ xs) ys p q = (p.0, all-append xs ys p.1 q)

short-frame : (g w : ℕ) (o : Option (List ℕ)) → AllByRecursion IsShort (given.given_frame g w o)
short-frame g w None = tt
short-frame g w (Some bytes) = by_tests (nat_lt BUFFER_BYTES (length bytes)) (group_of_frame bytes == g) refl
  where
    by_tests : (long own : Bool) → nat_lt BUFFER_BYTES (length bytes) ≡ long → AllByRecursion IsShort (if not long && own then Frame (record { w = record { 0 = w }; frame = bytes }) ∷ [] else [])
    by_tests true own e = tt
    by_tests false true e = (e, tt)
    by_tests false false e = tt

short-entry : (frames : List (List ℕ)) (g w : ℕ) (x : WireEntry) → AllByRecursion IsShort (given.given_by frames g w x)
short-entry frames g w (wire.Frame rec) = short-frame g w (slice_get frames rec)
short-entry frames g w (wire.Time t) = (tt, tt)
short-entry frames g w (wire.Tag h) = tt
short-entry frames g w (wire.Move h to) = tt
short-entry frames g w wire.Settle = tt

all-short : (frames : List (List ℕ)) (g w : ℕ) (xs : List WireEntry) → AllByRecursion IsShort (given_from frames g w xs)
all-short frames g w [] = tt
all-short frames g w (x ∷ xs) = all-append (given.given_by frames g w x) (given_from frames g (w + 1) xs) (short-entry frames g w x) (all-short frames g (w + 1) xs)

-- ## One core steps all
abbrev IsLow : Option ℕ → Type 0
IsLow None = Unit {0}
IsLow (Some c) = c < 1

abbrev IsLowTag : LastTag → Type 0
IsLowTag none_yet = Unit {0}
IsLowTag no_move = Unit {0}
IsLowTag (moved_to c) = c < 1

low-either : (t : Bool) (c : ℕ) (o : Option ℕ) → c < 1 → IsLow o → IsLow (if t then Some c else o)
low-either true c o lt low = lt
low-either false c o lt low = low

low-next : (g : ℕ) (es : List Entry) → NameCores 1 es → IsLow (next_core g es)
low-next g [] p = tt
low-next g (frame h v ∷ es) p = low-next g es p.1
low-next g (time ∷ es) p = low-next g es p.1
low-next g (settle ∷ es) p = low-next g es p.1
low-next g (tag h ∷ es) p = low-next g es p.1
low-next g (move h c ∷ es) p = low-either (g == h) c (next_core g es) p.0 (low-next g es p.1)

low-moved : (s : LastTag) (c : ℕ) → IsLowTag s → c < 1 → IsLowTag (moved_by s c)
low-moved none_yet c p lt = tt
low-moved no_move c p lt = lt
low-moved (moved_to d) c p lt = p

low-after : (g : ℕ) (s : LastTag) (x : Entry) → IsLowTag s → NamesCore 1 x → IsLowTag (last_tag_by g s x)
low-after g s (frame h v) p n = p
low-after g s time p n = p
low-after g s settle p n = p
low-after g s (tag h) p n = by_test (g == h)
  where
    by_test : (t : Bool) → IsLowTag (if t then no_move else s)
    by_test true = tt
    by_test false = p
low-after g s (move h c) p n = by_test (g == h)
  where
    by_test : (t : Bool) → IsLowTag (if t then moved_by s c else s)
    by_test true = low-moved s c p n
    by_test false = p

low-stepper : (g c : ℕ) (s : LastTag) (es : List Entry) → c < 1 → IsLowTag s → NameCores 1 es → IsLow (stepper g c s es)
low-stepper g c none_yet es lt p n = lt
low-stepper g c no_move es lt p n = low-next g es n
low-stepper g c (moved_to d) es lt p n = p

low-each : (core : Option ℕ) (s : Stage) (gs : List Given) (rest : List Due) → IsLow core → AllByRecursion (λ (d : Due). IsLow d.core) rest → AllByRecursion (λ (d : Due). IsLow d.core) (map (due_of core s) gs ++ rest)
low-each core s [] rest low p = p
low-each core s (x ∷ xs) rest low p = (low, low-each core s xs rest low p)

low-dues : (frames : List (List ℕ)) (g opening w : ℕ) (s : Stage) (ls : List EntryLine) → opening < 1 → IsLowTag s.last → NameCores 1 (map entry_of ls) → AllByRecursion (λ (d : Due). IsLow d.core) (dues_from frames g opening s w ls)
unfolding dues_from
low-dues frames g opening w s [] lt p n = tt
low-dues frames g opening w s (l ∷ ls) lt p n =
    low-each (stepper g opening s.last (map entry_of (l ∷ ls))) s (given_by frames g w l) (dues_from frames g opening (stage_after g s l) (suc w) ls)
    (low-stepper g opening s.last (map entry_of (l ∷ ls)) lt p n)
    (low-dues frames g opening (suc w) (stage_after g s l) ls lt (low-after g s.last (entry_of l) p n.0) n.1)

core-zero : (o : Option ℕ) → is_some o ≡ true → IsLow o → unwrap_or o 0 ≡ 0
core-zero None e low = refl
core-zero (Some c) e low = omega (arith, low)

-- ## Each alone, on core 0
abbrev cycle_on : CoreId → Given → Cycle
cycle_on core (Frame t) = Frames core (t ∷ [])
cycle_on core (Time w t) = TimeCycle core w t

cycle-alone : (x : Given) (core : CoreId) → core ≡ core0 → IsShort x → cycle_on core x ∷ [] ≡ cycle_by core0 x
cycle-alone (Frame t) core is short =
    ap (λ (k : CoreId). Frames k (t ∷ []) ∷ []) is ∙ sym (ap (λ (b : Bool). if b then (let cs : List Cycle = [] in cs) else Frames core0 (t ∷ []) ∷ []) short)
cycle-alone (Time w t) core is short = ap (λ (k : CoreId). TimeCycle k w t ∷ []) is

alone-on : (d : Due) (x : Given) → cycle_alone d x ≡ cycle_on (core_of d) x
alone-on d (Frame t) = refl
alone-on d (Time w t) = refl

core-is : (d : Due) → is_some d.core ≡ true → IsLow d.core → core_of d ≡ core0
core-is d e low = ap (λ (n : ℕ). (let k : CoreId = record { 0 = n } in k)) (core-zero d.core e low)

cycles-alone : (ds : List Due) → AllByRecursion HasCore ds → AllByRecursion (λ (d : Due). IsLow d.core) ds → AllByRecursion IsShort (map given_of ds) → map alone ds ≡ cycles_of core0 (map given_of ds)
cycles-alone [] has low short = refl
cycles-alone (d ∷ ds) has low short =
    ap (λ (c : Cycle). c ∷ map alone ds) (alone-on d d.given)
    ∙ ap (λ (cs : List Cycle). cs ++ map alone ds) (cycle-alone d.given (core_of d) (core-is d has.0 low.0) short.0)
    ∙ ap (λ (cs : List Cycle). cycle_by core0 d.given ++ cs) (cycles-alone ds has.1 low.1 short.1)

mod-low : (n : ℕ) → n % 1 < 1
mod-low n = omega (arith, mod-one n)

-- nobody asks for a connection
no-connects : (s : Settings) (frames : List (List ℕ)) (g : ℕ) → is_push s.app ≡ false → asked_in (setting_of_play s frames) s g ≡ connects_in s g
no-connects s frames g none = by_test (is_push s.app) none
  where
    by_test : (t : Bool) → t ≡ false
        → filter (is_asked_in s.ip g) (if t then asked_from (setting_of_play s frames) s.live [] s.peers else []) ≡ filter (is_asked_in s.ip g) (if t then connects_from [] s.peers else [])
    by_test true e = absurd (cc)
    by_test false e = refl

pub one_core_plays : OneCorePlays
one_core_plays s frames x es r g live cores none is card kept lt =
    let seen = (reports_are_plays s frames es r card).seen in
    let names : NameCores 1 (map entry_of r.entries) = subst (λ (n : ℕ). NameCores n (map entry_of r.entries)) cores (wires_are_playable x es (map entry_of r.entries) is.so_far seen).names in
    let opening : ℕ = (opening_core s.live g).0 in
    let low : opening < 1 = subst (λ (n : ℕ). g % 128 % n < 1) (sym live) (mod-low (g % 128)) in
    let has = all_are_stepped frames g opening r.entries (open-same g false es (map entry_of r.entries) seen ∙ is.closed g lt) in
    let same = given_by_the_wire s frames es r g card kept in
    let short = subst (λ (gs : List Given). AllByRecursion IsShort gs) (sym same) (all-short frames g 0 es) in
    let cycles = cycles-alone (dues_of s frames r g) has (low-dues frames g opening 0 first_stage r.entries low tt names) short ∙ ap (cycles_of core0) same in
    ap (λ (cs : List Cycle). record_of (setting_of_play s frames) (run (setting_of_play s frames) (asked_in (setting_of_play s frames) s g) cs)) cycles
    ∙ ap (λ (asked : List Connect). record_of (setting_of_play s frames) (run (setting_of_play s frames) asked (cycles_of core0 (group_entries frames g es)))) (no-connects s frames g none)
