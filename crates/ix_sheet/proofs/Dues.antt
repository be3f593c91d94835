-- What a group takes of the entries of a report: accepted frames of its flows, short and of bytes, with rising numbers.
use Rattle.std.proofs.Common.{◌≡◌, ℕ, zero, suc, ◌-◌, ◌≤◌, refl, sym, ap, ◌∙◌, subst, Bool, true, false, List, [], ◌∷◌, ◌++◌, length, map, arith, append_assoc}
use Rattle.std.specs.Prelude.{if◌then◌else◌, ◌==◌, ◌&&◌, nat_lt, slice_get, is_some, Option, Some, None}
use Rattle.std.proofs.lemmas.Bool.{and_parts, ltb-false}
use Rattle.std.specs.List.{AllByRecursion}
use Rattle.ix_base.specs.declared.id.BufId.{BufId}
use Rattle.ix_base.specs.declared.id.CoreId.{CoreId}
use Rattle.ix_base.specs.declared.id.GroupId.{GroupId}
use Rattle.ix_base.specs.declared.id.TheConstants.{BUFFER_BYTES}
use Rattle.ix_conf.specs.Settings.{Settings}
use Rattle.ix_groupdef.specs.declared.types.Taken.{Taken}
use Rattle.ix_groupdef.specs.Group.{Cycle, Frames, Time as TimeCycle}
use Rattle.ix_groupdef.specs.Places.{RiseFrom, accepted}
use Rattle.ix_groupdef.specs.Told.{IsFrame}
use Rattle.ix_groupdef.specs.Whole.{HasEntry}
use Rattle.ix_lines.specs.declared.types.EntryLine.{EntryLine}
use Rattle.ix_lines.specs.declared.types.EntryLine.TheVariants as lines
use Rattle.ix_lines.specs.declared.types.Fate.{Fate}
use Rattle.ix_lines.specs.declared.types.Fate.TheVariants as fates
use Rattle.ix_lines.specs.declared.types.SettleLine.{SettleLine}
use Rattle.ix_order.specs.Steppers.{stepper}
use Rattle.ix_playdef.specs.Clock.{clock_after}
use Rattle.ix_playdef.specs.Sound.{AreBytes}
use Rattle.ix_playdef.specs.declared.wire.Given.{Given}
use Rattle.ix_wire.specs.declared.entry.Entry.{Entry}
use Rattle.ix_wire.specs.declared.entry.Entry.TheVariants as wire
use Rattle.ix_steer.specs.Steering.{group_of_frame}
use Rattle.ix_fits.specs.Card.{Card, card_after, entry_of, fit_all, fit_entries, fit_rings, fits_bytes, fits_entry, fits_fate, fits_frame, fits_settle, fits_short, opening_table, settled, settles_after}
use Rattle.ix_fits.specs.Cutting.{Due, IsCutting, Stage, due_of, dues, dues_from, first_stage, frame_due, frame_given, frame_in, frames_due, given_by, if_accepted, stage_after}
use Rattle.ix_fits.specs.Journals.{buffer_in, is_frame_of}

frames-append : (xs ys : List Due) → frames_due (xs ++ ys) ≡ frames_due xs ++ frames_due ys
frames-append [] ys = refl
frames-append (x ∷ xs) ys = ap (λ ts. frame_in x.given ++ ts) (frames-append xs ys) ∙ sym (append_assoc (frame_in x.given) (frames_due xs) (frames_due ys))

-- ## The frames of a cutting
frames-cycle : (core : CoreId) (k n : ℕ) (ts : List Taken) → frames_due (map (frame_due core k n) ts) ≡ ts
frames-cycle core k n [] = refl
frames-cycle core k n (t ∷ ts) = ap (λ us. t ∷ us) (frames-cycle core k n ts)

pub cut-accepted : (batch : ℕ) (ds : List Due) (cs : List Cycle) → IsCutting batch ds cs → accepted cs ≡ frames_due ds
cut-accepted batch ds [] p = sym (ap frames_due p)
cut-accepted batch ds (Frames core ts ∷ cs) p =
    ap (λ us. ts ++ us) (cut-accepted batch p.0 cs p.2)
    ∙ sym (ap frames_due p.1.cut ∙ frames-append (map (frame_due core p.1.tenure p.1.settles) ts) p.0 ∙ ap (λ us. us ++ frames_due p.0) (frames-cycle core p.1.tenure p.1.settles ts))
cut-accepted batch ds (TimeCycle core w t ∷ cs) p = cut-accepted batch p.0 cs p.2 ∙ sym (ap frames_due p.1.cut)

-- ## Accepted frames are short
abbrev IsShortFate : List (List ℕ) → ℕ → Fate → Type 0
IsShortFate frames rec (fates.Buf b) = (bytes : List ℕ) → slice_get frames rec ≡ Some bytes → length bytes ≤ BUFFER_BYTES
IsShortFate frames rec _ = Unit {0}

abbrev IsShortLine : List (List ℕ) → EntryLine → Type 0
IsShortLine frames (lines.Frame rec at group ring fate) = IsShortFate frames rec fate
IsShortLine frames _ = Unit {0}

same_some : {A : Type 0} (a b : A) → (let o : Option A = Some a in o) ≡ Some b → a ≡ b
same_some a b e = cc

short-len : (buffers : ℕ) (c : Card) (ring len : ℕ) (b : BufId) → fits_fate buffers c ring len (fates.Buf b) ≡ true → len ≤ BUFFER_BYTES
short-len buffers c ring len b e = by_test (nat_lt BUFFER_BYTES len) refl e
  where
    by_test : (t : Bool) → nat_lt BUFFER_BYTES len ≡ t → (if t then false else fits_short buffers c ring (fates.Buf b)) ≡ true → len ≤ BUFFER_BYTES
    by_test true is f = absurd (cc)
    by_test false is f = ltb-false BUFFER_BYTES len is

short-bytes : (buffers : ℕ) (c : Card) (group ring : ℕ) (b : BufId) (o : Option (List ℕ)) (bytes : List ℕ) → fits_bytes buffers c group ring (fates.Buf b) o ≡ true → o ≡ Some bytes → length bytes ≤ BUFFER_BYTES
short-bytes buffers c group ring b None bytes e is = absurd (cc)
short-bytes buffers c group ring b (Some own) bytes e is =
    subst (λ (xs : List ℕ). length xs ≤ BUFFER_BYTES) (same_some own bytes is)
    (short-len buffers c ring (length own) b (and_parts (group == group_of_frame own && ring == (c.table group).core) (fits_fate buffers c ring (length own) (fates.Buf b)) e).1)

short-fate : (s : Settings) (frames : List (List ℕ)) (c : Card) (clock rec shown at group ring : ℕ) (fate : Fate) → fits_frame s frames c clock rec shown at group ring fate ≡ true → IsShortFate frames shown fate
short-fate s frames c clock rec shown at group ring (fates.Buf b) e =
    λ bytes found. short-bytes s.buffers c group ring b (slice_get frames shown) bytes (and_parts (shown == rec && at == clock) (fits_bytes s.buffers c group ring (fates.Buf b) (slice_get frames shown)) e).1 found
short-fate s frames c clock rec shown at group ring (fates.RingFull n) e = tt
short-fate s frames c clock rec shown at group ring (fates.NoBuffer n) e = tt
short-fate s frames c clock rec shown at group ring (fates.TooLong n) e = tt

short-entry : (s : Settings) (frames : List (List ℕ)) (c : Card) (clock : ℕ) (x : Entry) (y : EntryLine) → fits_entry s frames c clock x y ≡ true → IsShortLine frames y
short-entry s frames c clock (wire.Frame rec) (lines.Frame shown at group ring fate) e = short-fate s frames c clock rec shown at group.0 ring.0 fate e
short-entry s frames c clock x (lines.Time t) e = tt
short-entry s frames c clock x (lines.Tag g) e = tt
short-entry s frames c clock x (lines.Move g to) e = tt
short-entry s frames c clock x lines.Settle e = tt
short-entry s frames c clock (wire.Time t) (lines.Frame shown at group ring fate) e = absurd (cc)
short-entry s frames c clock (wire.Tag g) (lines.Frame shown at group ring fate) e = absurd (cc)
short-entry s frames c clock (wire.Move g to) (lines.Frame shown at group ring fate) e = absurd (cc)
short-entry s frames c clock wire.Settle (lines.Frame shown at group ring fate) e = absurd (cc)

short-lines : (s : Settings) (frames : List (List ℕ)) (c : Card) (clock : ℕ) (xs : List Entry) (ys : List EntryLine) (ls : List SettleLine) → fit_entries s frames c clock xs ys ls ≡ true → AllByRecursion (IsShortLine frames) ys
short-lines s frames c clock [] [] ls e = tt
short-lines s frames c clock [] (y ∷ ys) ls e = absurd (cc)
short-lines s frames c clock (x ∷ xs) [] ls e = tt
short-lines s frames c clock (x ∷ xs) (y ∷ ys) ls e =
    let here : Bool = fits_entry s frames c (clock_after clock x) x y in
    let settles : Bool = fits_settle c y ls in
    let rest : Bool = fit_entries s frames (card_after c y ls) (clock_after clock x) xs ys (settles_after y ls) in (
      short-entry s frames c (clock_after clock x) x y (and_parts here settles (and_parts (here && settles) rest e).0).0,
      short-lines s frames (card_after c y ls) (clock_after clock x) xs ys (settles_after y ls) (and_parts (here && settles) rest e).1,
    )

pub short-all : (s : Settings) (frames : List (List ℕ)) (xs : List Entry) (ys : List EntryLine) (ls : List SettleLine) → fit_all s frames xs ys ls ≡ true → AllByRecursion (IsShortLine frames) ys
short-all s frames xs ys [] e = absurd (cc)
short-all s frames xs ys (l ∷ ls) e =
    let opening : Card = settled l.rings (opening_table s.live) in
    short-lines s frames opening 0 xs ys ls (and_parts (fit_rings opening l.rings) (fit_entries s frames opening 0 xs ys ls) e).1

-- ## The entries of a group
same_some_bytes : (a b : List ℕ) → (let o : Option (List ℕ) = Some a in o) ≡ Some b → a ≡ b
same_some_bytes a b e = cc

bytes-at : (frames : List (List ℕ)) (rec : ℕ) (bytes : List ℕ) → AllByRecursion AreBytes frames → slice_get frames rec ≡ Some bytes → AreBytes bytes
bytes-at [] zero bytes all e = absurd (cc)
bytes-at [] (suc rec) bytes all e = absurd (cc)
bytes-at (f ∷ frames) zero bytes all e = subst AreBytes (same_some_bytes f bytes e) all.0
bytes-at (f ∷ frames) (suc rec) bytes all e = bytes-at frames rec bytes all.1 e

-- the entry with a number, where the first of these has the number w
abbrev pub entry_at : ℕ → List EntryLine → ℕ → Option EntryLine
entry_at w ls v = slice_get ls (v - w)

-- it is an accepted frame of the group
pub record IsAccepted (g w : ℕ) (ls : List EntryLine) (v : ℕ) : Type 0 where
  pub from : w ≤ v
  pub frame : is_frame_of g (entry_at w ls v) ≡ true
  pub buffer : is_some (buffer_in (entry_at w ls v)) ≡ true

abbrev AreAccepted : ℕ → ℕ → List EntryLine → List Taken → Type 0
AreAccepted g w ls ts = AllByRecursion (λ (t : Taken). IsAccepted g w ls t.w.0) ts

-- short frames of bytes with rising numbers, each an accepted one of the group
pub record AreGood (g w : ℕ) (ls : List EntryLine) (ts : List Taken) : Type 0 where
  pub rise : RiseFrom w ts
  pub each : AllByRecursion IsFrame ts
  pub accepted : AreAccepted g w ls ts

rise-later : (n m : ℕ) (ts : List Taken) → n ≤ m → RiseFrom m ts → RiseFrom n ts
rise-later n m [] le p = tt
rise-later n m (t ∷ ts) le p = (omega (arith, le, p.0), p.1)

-- one entry more in front
later-at : (w v : ℕ) (l : EntryLine) (ls : List EntryLine) → suc w ≤ v → entry_at w (l ∷ ls) v ≡ entry_at (suc w) ls v
later-at w v l ls le = ap (slice_get (l ∷ ls)) (let e : v - w ≡ suc (v - suc w) = omega (arith, le) in e)

accepted-later : (g w : ℕ) (l : EntryLine) (ls : List EntryLine) (ts : List Taken) → AreAccepted g (suc w) ls ts → AreAccepted g w (l ∷ ls) ts
accepted-later g w l ls [] p = tt
accepted-later g w l ls (t ∷ ts) p =
    let same : entry_at w (l ∷ ls) t.w.0 ≡ entry_at (suc w) ls t.w.0 = later-at w t.w.0 l ls p.0.from in (
      record {
        from = omega (arith, p.0.from);
        frame = subst (λ (o : Option EntryLine). is_frame_of g o ≡ true) (sym same) p.0.frame;
        buffer = subst (λ (o : Option EntryLine). is_some (buffer_in o) ≡ true) (sym same) p.0.buffer;
      },
      accepted-later g w l ls ts p.1,
    )

good-later : (g w : ℕ) (l : EntryLine) (ls : List EntryLine) (ts : List Taken) → AreGood g (suc w) ls ts → AreGood g w (l ∷ ls) ts
good-later g w l ls ts p = record { rise = rise-later w (suc w) ts (omega arith) p.rise; each = p.each; accepted = accepted-later g w l ls ts p.accepted }

-- what one entry gives the group
abbrev all_frames : List Given → List Taken
all_frames [] = []
all_frames (x ∷ xs) = frame_in x ++ all_frames xs

abbrev taken_by : List (List ℕ) → ℕ → ℕ → EntryLine → List Taken
taken_by frames g w l = all_frames (given_by frames g w l)

frames-dues : (core : Option ℕ) (s : Stage) (gs : List Given) → frames_due (map (due_of core s) gs) ≡ all_frames gs
frames-dues core s [] = refl
frames-dues core s (x ∷ xs) = ap (λ ts. frame_in x ++ ts) (frames-dues core s xs)

-- that entry itself
here-at : (w : ℕ) (l : EntryLine) (ls : List EntryLine) → entry_at w (l ∷ ls) w ≡ Some l
here-at w l ls = ap (slice_get (l ∷ ls)) (let e : w - w ≡ 0 = omega arith in e)

accepted-here : (g w : ℕ) (l : EntryLine) (ls : List EntryLine) → is_frame_of g (Some l) ≡ true → is_some (buffer_in (Some l)) ≡ true → IsAccepted g w (l ∷ ls) w
accepted-here g w l ls f b =
    record {
      from = omega arith;
      frame = subst (λ (o : Option EntryLine). is_frame_of g o ≡ true) (sym (here-at w l ls)) f;
      buffer = subst (λ (o : Option EntryLine). is_some (buffer_in o) ≡ true) (sym (here-at w l ls)) b;
    }

good-accepted : (frames : List (List ℕ)) (g w rec at : ℕ) (group : GroupId) (ring : CoreId) (fate : Fate) (ls : List EntryLine) (ts : List Taken) → (group.0 == g) ≡ true → AllByRecursion AreBytes frames
    → IsShortFate frames rec fate → AreGood g (suc w) ls ts
    → AreGood g w (lines.Frame rec at group ring fate ∷ ls) (all_frames (if_accepted fate (frame_given w (slice_get frames rec))) ++ ts)
good-accepted frames g w rec at group ring (fates.RingFull n) ls ts is bytes short p = good-later g w (lines.Frame rec at group ring (fates.RingFull n)) ls ts p
good-accepted frames g w rec at group ring (fates.NoBuffer n) ls ts is bytes short p = good-later g w (lines.Frame rec at group ring (fates.NoBuffer n)) ls ts p
good-accepted frames g w rec at group ring (fates.TooLong n) ls ts is bytes short p = good-later g w (lines.Frame rec at group ring (fates.TooLong n)) ls ts p
good-accepted frames g w rec at group ring (fates.Buf b) ls ts is bytes short p = by_record (slice_get frames rec) refl
  where
    l : EntryLine
    l = lines.Frame rec at group ring (fates.Buf b)

    later : AreGood g w (l ∷ ls) ts
    later = good-later g w l ls ts p

    by_record : (o : Option (List ℕ)) → slice_get frames rec ≡ o → AreGood g w (l ∷ ls) (all_frames (frame_given w o) ++ ts)
    by_record None e = later
    by_record (Some frame) e =
        record {
          rise = (omega arith, p.rise);
          each = (record { size = short frame e; bytes = bytes-at frames rec frame bytes e }, p.each);
          accepted = (accepted-here g w l ls is refl, later.accepted);
        }

good-entry : (frames : List (List ℕ)) (g w : ℕ) (l : EntryLine) (ls : List EntryLine) (ts : List Taken) → AllByRecursion AreBytes frames → IsShortLine frames l → AreGood g (suc w) ls ts
    → AreGood g w (l ∷ ls) (taken_by frames g w l ++ ts)
good-entry frames g w (lines.Frame rec at group ring fate) ls ts bytes short p = by_group (group.0 == g) refl
  where
    by_group : (b : Bool) → (group.0 == g) ≡ b → AreGood g w (lines.Frame rec at group ring fate ∷ ls) (all_frames (if b then if_accepted fate (frame_given w (slice_get frames rec)) else []) ++ ts)
    by_group true is = good-accepted frames g w rec at group ring fate ls ts is bytes short p
    by_group false is = good-later g w (lines.Frame rec at group ring fate) ls ts p
good-entry frames g w (lines.Time t) ls ts bytes short p = good-later g w (lines.Time t) ls ts p
good-entry frames g w (lines.Tag h) ls ts bytes short p = good-later g w (lines.Tag h) ls ts p
good-entry frames g w (lines.Move h c) ls ts bytes short p = good-later g w (lines.Move h c) ls ts p
good-entry frames g w lines.Settle ls ts bytes short p = good-later g w lines.Settle ls ts p

good-from : (frames : List (List ℕ)) (g opening : ℕ) (s : Stage) (w : ℕ) (ls : List EntryLine) → AllByRecursion AreBytes frames → AllByRecursion (IsShortLine frames) ls
    → AreGood g w ls (frames_due (dues_from frames g opening s w ls))
unfolding dues_from
good-from frames g opening s w [] bytes short = record { rise = tt; each = tt; accepted = tt }
good-from frames g opening s w (l ∷ ls) bytes short =
    let core : Option ℕ = stepper g opening s.last (map entry_of (l ∷ ls)) in
    let rest : List Due = dues_from frames g opening (stage_after g s l) (suc w) ls in
    subst (AreGood g w (l ∷ ls)) (sym (frames-append (map (due_of core s) (given_by frames g w l)) rest ∙ ap (λ ts. ts ++ frames_due rest) (frames-dues core s (given_by frames g w l))))
    (good-entry frames g w l ls (frames_due rest) bytes short.0 (good-from frames g opening (stage_after g s l) (suc w) ls bytes short.1))

pub good-dues : (s : Settings) (frames : List (List ℕ)) (xs : List Entry) (ys : List EntryLine) (ls : List SettleLine) (g opening : ℕ) → AllByRecursion AreBytes frames
    → fit_all s frames xs ys ls ≡ true → AreGood g 0 ys (frames_due (dues frames g opening ys))
good-dues s frames xs ys ls g opening bytes fit = good-from frames g opening first_stage 0 ys bytes (short-all s frames xs ys ls fit)

-- ## Each cycle of a cutting has an entry
pub cut-entered : (batch : ℕ) (ds : List Due) (cs : List Cycle) → IsCutting batch ds cs → AllByRecursion HasEntry cs
cut-entered batch ds [] p = tt
cut-entered batch ds (Frames core ts ∷ cs) p = (omega (arith, p.1.some), cut-entered batch p.0 cs p.2)
cut-entered batch ds (TimeCycle core w t ∷ cs) p = (tt, cut-entered batch p.0 cs p.2)
