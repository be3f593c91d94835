-- The groups of a report that fits are sound.
use Rattle.std.proofs.Common.{◌≡◌, ℕ, zero, suc, ◌≤◌, refl, sym, ap, ◌∙◌, subst, Bool, true, false, List, [], ◌∷◌, ◌++◌, length, map, arith}
use Rattle.std.specs.Prelude.{if◌then◌else◌, ◌==◌, ◌&&◌, nat_lt, slice_get, Option, Some, None}
use Rattle.std.proofs.lemmas.Bool.{and_parts, ltb-false}
use Rattle.std.specs.List.{AllByRecursion}
use Rattle.ix_base.specs.declared.id.BufId.{BufId}
use Rattle.ix_base.specs.declared.id.CoreId.{CoreId}
use Rattle.ix_base.specs.declared.id.TheConstants.{BUFFER_BYTES}
use Rattle.ix_conf.specs.Settings.{Settings, settings_of}
use Rattle.ix_groupdef.specs.declared.types.Taken.{Taken}
use Rattle.ix_groupdef.specs.Group.{Cycle, Frames, Time as TimeCycle}
use Rattle.ix_groupdef.specs.Places.{RiseFrom, accepted}
use Rattle.ix_groupdef.specs.Told.{IsFrame}
use Rattle.ix_lines.specs.declared.types.EntryLine.{EntryLine}
use Rattle.ix_lines.specs.declared.types.EntryLine.TheVariants as lines
use Rattle.ix_lines.specs.declared.types.Fate.{Fate}
use Rattle.ix_lines.specs.declared.types.Fate.TheVariants as fates
use Rattle.ix_lines.specs.declared.types.SettleLine.{SettleLine}
use Rattle.ix_order.specs.Steppers.{stepper}
use Rattle.ix_playdef.specs.Clock.{clock_after}
use Rattle.ix_playdef.specs.Setting.{setting_of_play}
use Rattle.ix_playdef.specs.Sound.{AreBytes, TakersAreSound}
use Rattle.ix_playdef.specs.declared.wire.Given.{Given}
use Rattle.ix_reta.specs.Table.{opening_core}
use Rattle.ix_wire.specs.declared.entry.Entry.{Entry}
use Rattle.ix_wire.specs.declared.entry.Entry.TheVariants as wire
use Rattle.ix_steer.specs.Steering.{group_of_frame}
use Rattle.ix_fits.specs.Card.{Card, card_after, entry_of, fit_all, fit_entries, fit_rings, fits_bytes, fits_entry, fits_fate, fits_frame, fits_settle, fits_short, opening_table, settled, settles_after}
use Rattle.ix_fits.specs.Connects.{asked_in}
use Rattle.ix_fits.specs.Cutting.{Due, IsCutting, Stage, due_of, dues_from, first_stage, frame_due, frame_given, frame_in, frames_due, given_by, if_accepted, stage_after}
use Rattle.ix_fits.specs.Fits.{dues_of, left_by}
use Rattle.ix_fits.specs.Sound.{ReportsAreSound}
use Rattle.ix_fits.proofs.ReadLaws.{frames-append}

-- ## The frames of a cutting
pub frames-cycle : (core : CoreId) (k n : ℕ) (ts : List Taken) → frames_due (map (frame_due core k n) ts) ≡ ts
frames-cycle core k n [] = refl
frames-cycle core k n (t ∷ ts) = ap (λ us. t ∷ us) (frames-cycle core k n ts)

cut-accepted : (batch : ℕ) (ds : List Due) (cs : List Cycle) → IsCutting batch ds cs → accepted cs ≡ frames_due ds
cut-accepted batch ds [] p = sym (ap frames_due p)
cut-accepted batch ds (Frames core ts ∷ cs) p =
    ap (λ us. ts ++ us) (cut-accepted batch p.0 cs p.2)
    ∙ sym (ap frames_due p.1.cut ∙ frames-append (map (frame_due core p.1.tenure p.1.settles) ts) p.0 ∙ ap (λ us. us ++ frames_due p.0) (frames-cycle core p.1.tenure p.1.settles ts))
cut-accepted batch ds (TimeCycle core w t ∷ cs) p = cut-accepted batch p.0 cs p.2 ∙ sym (ap frames_due p.1.cut)

-- ## Accepted frames are short
abbrev IsShortFate : List (List ℕ) → ℕ → Fate → Type 0
IsShortFate frames rec (fates.Buf b) = (bytes : List ℕ) → slice_get frames rec ≡ Some bytes → length bytes ≤ BUFFER_BYTES
IsShortFate frames rec _ = Unit {0}

abbrev IsShortLine : List (List ℕ) → EntryLine → Type 0
IsShortLine frames (lines.Frame rec at group ring fate) = IsShortFate frames rec fate
IsShortLine frames _ = Unit {0}

same_some : {A : Type 0} (a b : A) → (let o : Option A = Some a in o) ≡ Some b → a ≡ b
same_some a b e = cc

short-len : (buffers : ℕ) (c : Card) (ring len : ℕ) (b : BufId) → fits_fate buffers c ring len (fates.Buf b) ≡ true → len ≤ BUFFER_BYTES
short-len buffers c ring len b e = by_test (nat_lt BUFFER_BYTES len) refl e
  where
    by_test : (t : Bool) → nat_lt BUFFER_BYTES len ≡ t → (if t then false else fits_short buffers c ring (fates.Buf b)) ≡ true → len ≤ BUFFER_BYTES
    by_test true is f = absurd (cc)
    by_test false is f = ltb-false BUFFER_BYTES len is

short-bytes : (buffers : ℕ) (c : Card) (group ring : ℕ) (b : BufId) (o : Option (List ℕ)) (bytes : List ℕ) → fits_bytes buffers c group ring (fates.Buf b) o ≡ true → o ≡ Some bytes → length bytes ≤ BUFFER_BYTES
short-bytes buffers c group ring b None bytes e is = absurd (cc)
short-bytes buffers c group ring b (Some own) bytes e is =
    subst (λ (xs : List ℕ). length xs ≤ BUFFER_BYTES) (same_some own bytes is)
    (short-len buffers c ring (length own) b (and_parts (group == group_of_frame own && ring == (c.table group).core) (fits_fate buffers c ring (length own) (fates.Buf b)) e).1)

short-fate : (s : Settings) (frames : List (List ℕ)) (c : Card) (clock rec shown at group ring : ℕ) (fate : Fate) → fits_frame s frames c clock rec shown at group ring fate ≡ true → IsShortFate frames shown fate
short-fate s frames c clock rec shown at group ring (fates.Buf b) e =
    λ bytes found. short-bytes s.buffers c group ring b (slice_get frames shown) bytes (and_parts (shown == rec && at == clock) (fits_bytes s.buffers c group ring (fates.Buf b) (slice_get frames shown)) e).1 found
short-fate s frames c clock rec shown at group ring (fates.RingFull n) e = tt
short-fate s frames c clock rec shown at group ring (fates.NoBuffer n) e = tt
short-fate s frames c clock rec shown at group ring (fates.TooLong n) e = tt

short-entry : (s : Settings) (frames : List (List ℕ)) (c : Card) (clock : ℕ) (x : Entry) (y : EntryLine) → fits_entry s frames c clock x y ≡ true → IsShortLine frames y
short-entry s frames c clock (wire.Frame rec) (lines.Frame shown at group ring fate) e = short-fate s frames c clock rec shown at group.0 ring.0 fate e
short-entry s frames c clock x (lines.Time t) e = tt
short-entry s frames c clock x (lines.Tag g) e = tt
short-entry s frames c clock x (lines.Move g to) e = tt
short-entry s frames c clock x lines.Settle e = tt
short-entry s frames c clock (wire.Time t) (lines.Frame shown at group ring fate) e = absurd (cc)
short-entry s frames c clock (wire.Tag g) (lines.Frame shown at group ring fate) e = absurd (cc)
short-entry s frames c clock (wire.Move g to) (lines.Frame shown at group ring fate) e = absurd (cc)
short-entry s frames c clock wire.Settle (lines.Frame shown at group ring fate) e = absurd (cc)

short-lines : (s : Settings) (frames : List (List ℕ)) (c : Card) (clock : ℕ) (xs : List Entry) (ys : List EntryLine) (ls : List SettleLine) → fit_entries s frames c clock xs ys ls ≡ true → AllByRecursion (IsShortLine frames) ys
short-lines s frames c clock [] [] ls e = tt
short-lines s frames c clock [] (y ∷ ys) ls e = absurd (cc)
short-lines s frames c clock (x ∷ xs) [] ls e = tt
short-lines s frames c clock (x ∷ xs) (y ∷ ys) ls e =
    let here : Bool = fits_entry s frames c (clock_after clock x) x y in
    let settles : Bool = fits_settle c y ls in
    let rest : Bool = fit_entries s frames (card_after c y ls) (clock_after clock x) xs ys (settles_after y ls) in (
      short-entry s frames c (clock_after clock x) x y (and_parts here settles (and_parts (here && settles) rest e).0).0,
      short-lines s frames (card_after c y ls) (clock_after clock x) xs ys (settles_after y ls) (and_parts (here && settles) rest e).1,
    )

short-all : (s : Settings) (frames : List (List ℕ)) (xs : List Entry) (ys : List EntryLine) (ls : List SettleLine) → fit_all s frames xs ys ls ≡ true → AllByRecursion (IsShortLine frames) ys
short-all s frames xs ys [] e = absurd (cc)
short-all s frames xs ys (l ∷ ls) e =
    let opening : Card = settled l.rings (opening_table s.live) in
    short-lines s frames opening 0 xs ys ls (and_parts (fit_rings opening l.rings) (fit_entries s frames opening 0 xs ys ls) e).1

-- ## The entries of a group
-- short frames of bytes with rising numbers
record AreGood (n : ℕ) (ts : List Taken) : Type 0 where
  rise : RiseFrom n ts
  each : AllByRecursion IsFrame ts

rise-later : (n m : ℕ) (ts : List Taken) → n ≤ m → RiseFrom m ts → RiseFrom n ts
rise-later n m [] le p = tt
rise-later n m (t ∷ ts) le p = (omega (arith, le, p.0), p.1)

good-later : (n m : ℕ) (ts : List Taken) → n ≤ m → AreGood m ts → AreGood n ts
good-later n m ts le p = record { rise = rise-later n m ts le p.rise; each = p.each }

bytes-at : (frames : List (List ℕ)) (rec : ℕ) (bytes : List ℕ) → AllByRecursion AreBytes frames → slice_get frames rec ≡ Some bytes → AreBytes bytes
bytes-at [] zero bytes all e = absurd (cc)
bytes-at [] (suc rec) bytes all e = absurd (cc)
bytes-at (f ∷ frames) zero bytes all e = subst AreBytes (same_some f bytes e) all.0
bytes-at (f ∷ frames) (suc rec) bytes all e = bytes-at frames rec bytes all.1 e

-- what one entry gives the group
abbrev all_frames : List Given → List Taken
all_frames [] = []
all_frames (x ∷ xs) = frame_in x ++ all_frames xs

abbrev taken_by : List (List ℕ) → ℕ → ℕ → EntryLine → List Taken
taken_by frames g w l = all_frames (given_by frames g w l)

frames-dues : (core : Option ℕ) (s : Stage) (gs : List Given) → frames_due (map (due_of core s) gs) ≡ all_frames gs
frames-dues core s [] = refl
frames-dues core s (x ∷ xs) = ap (λ ts. frame_in x ++ ts) (frames-dues core s xs)

good-accepted : (frames : List (List ℕ)) (w rec : ℕ) (fate : Fate) (ts : List Taken) → AllByRecursion AreBytes frames → IsShortFate frames rec fate → AreGood (suc w) ts
    → AreGood w (all_frames (if_accepted fate (frame_given w (slice_get frames rec))) ++ ts)
good-accepted frames w rec (fates.RingFull n) ts bytes short p = good-later w (suc w) ts (omega arith) p
good-accepted frames w rec (fates.NoBuffer n) ts bytes short p = good-later w (suc w) ts (omega arith) p
good-accepted frames w rec (fates.TooLong n) ts bytes short p = good-later w (suc w) ts (omega arith) p
good-accepted frames w rec (fates.Buf b) ts bytes short p = by_record (slice_get frames rec) refl
  where
    by_record : (o : Option (List ℕ)) → slice_get frames rec ≡ o → AreGood w (all_frames (frame_given w o) ++ ts)
    by_record None e = good-later w (suc w) ts (omega arith) p
    by_record (Some frame) e =
        record { rise = (omega arith, p.rise); each = (record { size = short frame e; bytes = bytes-at frames rec frame bytes e }, p.each) }

good-entry : (frames : List (List ℕ)) (g w : ℕ) (l : EntryLine) (ts : List Taken) → AllByRecursion AreBytes frames → IsShortLine frames l → AreGood (suc w) ts → AreGood w (taken_by frames g w l ++ ts)
good-entry frames g w (lines.Frame rec at group ring fate) ts bytes short p = by_group (group.0 == g)
  where
    by_group : (b : Bool) → AreGood w (all_frames (if b then if_accepted fate (frame_given w (slice_get frames rec)) else []) ++ ts)
    by_group true = good-accepted frames w rec fate ts bytes short p
    by_group false = good-later w (suc w) ts (omega arith) p
good-entry frames g w (lines.Time t) ts bytes short p = good-later w (suc w) ts (omega arith) p
good-entry frames g w (lines.Tag h) ts bytes short p = good-later w (suc w) ts (omega arith) p
good-entry frames g w (lines.Move h c) ts bytes short p = good-later w (suc w) ts (omega arith) p
good-entry frames g w lines.Settle ts bytes short p = good-later w (suc w) ts (omega arith) p

good-dues : (frames : List (List ℕ)) (g opening : ℕ) (s : Stage) (w : ℕ) (ls : List EntryLine) → AllByRecursion AreBytes frames → AllByRecursion (IsShortLine frames) ls
    → AreGood w (frames_due (dues_from frames g opening s w ls))
unfolding dues_from
good-dues frames g opening s w [] bytes short = record { rise = tt; each = tt }
good-dues frames g opening s w (l ∷ ls) bytes short =
    let core : Option ℕ = stepper g opening s.last (map entry_of (l ∷ ls)) in
    let rest : List Due = dues_from frames g opening (stage_after g s l) (suc w) ls in
    subst (AreGood w) (sym (frames-append (map (due_of core s) (given_by frames g w l)) rest ∙ ap (λ ts. ts ++ frames_due rest) (frames-dues core s (given_by frames g w l))))
    (good-entry frames g w l (frames_due rest) bytes short.0 (good-dues frames g opening (stage_after g s l) (suc w) ls bytes short.1))

-- ## Reports
pub reports_are_sound : TakersAreSound → ReportsAreSound
reports_are_sound takers conf frames entries r cycles bytes card groups g lt =
    let s : Settings = settings_of conf in
    let ds : List Due = dues_of s frames r g in
    let good = good-dues frames g (opening_core conf.live g).0 first_stage 0 r.entries bytes (short-all s frames entries r.entries r.settles card.entries_are) in
    takers conf frames (asked_in (setting_of_play s frames) s g) (cycles g) (frames_due ds) (left_by s frames cycles g) refl
    (cut-accepted s.batch ds (cycles g) (groups.each g lt).cut) good.rise good.each
